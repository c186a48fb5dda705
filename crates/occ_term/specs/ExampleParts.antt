-- What the examples are made of: parts of terms by short names, and the runs that play them.
-- Manual: nothing; the programs are (own).
use Rattle.std.specs.Prelude.{ℤ, neg_ℤ, pos, ℕ, List, [], ◌∷◌, None}
use Rattle.occ_term.specs.declared.fault.Errors.TheVariants as on_fault
use Rattle.occ_term.specs.Terms.{Expression, Constant, place, no_subscripts, Target, IntoCounted, Place, Term, Terms, no_terms, then_term, Seq, Into, Add, Binary, Item, OfOne, Output, Conversion, then_subscript, Negate, Unary}
use Rattle.occ_term.specs.Values.{Store}
use Rattle.occ_term.specs.Storing.{Outcome, Gives, Faults}
use Rattle.occ_term.specs.Messages.{Message, Int, Byte}
use Rattle.occ_term.specs.System.{OfProcess, Screen, Communication, communication, System, start}
use Rattle.occ_term.specs.Runs.{Event, Run, Ending, EndsBy}

abbrev pub number : ℤ → Expression
number v = Constant v

abbrev pub minus : ℕ → ℤ
minus n = neg_ℤ (pos n)

abbrev pub zeros : Store
zeros = λ c. pos 0

abbrev pub cell_in : {X : Type 0} → ℕ → Outcome X → ℤ
cell_in c (Gives x s) = s c
cell_in c (Faults e s) = s c

abbrev pub count_and_two : List Target
count_and_two = IntoCounted 9 (place 9 0 [] no_subscripts) (place 9 1 (2 ∷ []) no_subscripts) ∷ []

abbrev pub single : ℕ → ℕ → Place
single line first = place line first [] no_subscripts

abbrev pub to_screen : ℕ → Message → Communication
to_screen n m = communication 1 (OfProcess n) Screen m

-- a run with these events and this ending
abbrev pub Plays : Term → List ℕ → List Event → Ending → Type 0
Plays t keyboard events ending = (a : System) × Run on_fault.Halt 1 (start t keyboard) events a × EndsBy on_fault.Halt a ending

abbrev pub all : List Term → Terms
all [] = no_terms
all (t ∷ ts) = then_term t (all ts)

abbrev pub in_order : List Term → Term
in_order ts = Seq (all ts)

abbrev pub into : (line cell : ℕ) → Target
into line cell = Into (single line cell)

abbrev pub plus : ℕ → Expression → Expression → Expression
plus line a b = Binary Add Int line a b

abbrev pub one_int : Expression → List Item
one_int e = OfOne Int e ∷ []

-- `screen ! e`
abbrev pub shows : ℕ → Expression → Term
shows line e = Output (single line 1) None (OfOne Byte e ∷ [])

-- `screen ! BYTE (e + 48)`
abbrev pub shows_digit : ℕ → Expression → Term
shows_digit line e = shows line (Conversion Byte line (plus line e (number (pos 48))))

-- the component with this constant subscript
abbrev pub component : (line first size : ℕ) → ℕ → Place
component line first size i = place line first (size ∷ []) (then_subscript (number (pos i)) no_subscripts)

abbrev pub least_int : Expression
least_int = number (neg_ℤ (pos 2147483648))

abbrev pub minus_one : ℕ → Expression
minus_one line = Unary Negate Int line (number (pos 1))
