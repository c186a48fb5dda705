-- What goes on: each part that is at no stop has a step, and a sequence does what its parts do.
-- Manual: nothing; this is (own).
use Rattle.std.specs.Prelude.{IsTrue, ◌||◌, List}
use Rattle.occ_term.specs.Steps.{Doing, status_of, is_running, is_looping, Context, Left, left, Step, Do}
use Rattle.occ_term.specs.Values.{Store}
use Rattle.occ_term.specs.Terms.{Term, Skip, Seq, Terms, then_term}
use Rattle.occ_term.specs.Turns.{Steps}

-- ---- each part that is at no stop, or at a loop's, has a step

abbrev pub IsGoing : Doing → Type 0
IsGoing d = IsTrue (is_running (status_of d) || is_looping (status_of d))

abbrev pub GoingHasStep : Type 0
GoingHasStep = (d : Doing) (k : List Context) (s : Store) → IsGoing d → (b : Left) × (s' : Store) × Step (left d k) s b s'

-- ---- a term goes to its end, whatever comes after it

abbrev pub Performs : Term → Store → Store → Type 0
Performs t s s' = (k : List Context) → Steps (left (Do t) k) s (left (Do Skip) k) s'

abbrev pub SequencePerforms : Type 0
SequencePerforms = (t : Term) (ts : Terms) (s s' s'' : Store) → Performs t s s' → Performs (Seq ts) s' s'' → Performs (Seq (then_term t ts)) s s''
