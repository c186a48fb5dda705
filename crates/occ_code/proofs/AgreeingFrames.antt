-- What is stored in a frame is stored in a store that agrees with it; and what code does for an evaluation that sets cells.
use Rattle.std.specs.Prelude.{nat_eq, nat_le, ◌||◌, if◌then◌else◌}
use Rattle.std.proofs.Common.{◌≡◌, ◌∙◌, ℕ, suc, ℤ, pos, ◌+◌, Bool, true, false, IsTrue, List, [], ◌∷◌, length, take, refl, ap, subst, sym, arith}
use Rattle.std.proofs.lemmas.Bool.Decides.{nat_tests}
use Rattle.occ_term.specs.declared.fault.Fault.{Fault}
use Rattle.occ_term.specs.declared.fault.FaultKind.TheVariants.{Range}
use Rattle.occ_term.specs.declared.message.Part.{Part}
use Rattle.occ_term.specs.Messages.{fault}
use Rattle.occ_term.specs.Values.{Store, store_with, Evaluated, Value, Fails, first_of, count_of}
use Rattle.occ_term.specs.Storing.{Outcome, Gives, Faults, then_in, in_store, Nothing, nothing, store_from, store_in, values_in, Spot, At, AtCounted, store_part, store_parts}
use Rattle.occ_term.specs.Frames.{Variables, value_at, is_held, at}
use Rattle.occ_machine.specs.SameStop.{Frames}
use Rattle.occ_machine.specs.Machine.{by_cell, Point, point, Walks, values_with, frame_with, frame_from, frame_in, Stored, Stays, Refused, and_stored, frame_part, frame_parts}
use Rattle.occ_machine.specs.declared.instr.Instr.{Instr}
use Rattle.occ_code.specs.Laws.{FaultsAt, Comes, comes, fails}
use Rattle.occ_code.proofs.Walks.{walks_on}
use Rattle.occ_code.proofs.RunningExpressions.{fault_on}

-- a frame of these cells, each with the store's value
pub record HoldsAs (cells : List ℕ) (f : Variables) (s : Store) : Type 0 where
  pub shape : Frames cells f
  pub same : (c : ℕ) → IsTrue (is_held cells c) → at f c ≡ s c

-- ---- one value

length-values_with : (xs : List ℕ) (vs : List ℤ) (c : ℕ) (v : ℤ) → length (values_with xs vs c v) ≡ length vs
length-values_with [] vs c v = refl
length-values_with (x ∷ xs) [] c v = refl
length-values_with (x ∷ xs) (w ∷ vs) c v = by_test (length-values_with xs vs c v) (nat_eq x c)
  where
    by_test : length (values_with xs vs c v) ≡ length vs → (b : Bool) → length (if b then v ∷ vs else w ∷ values_with xs vs c v) ≡ suc (length vs)
    by_test e true = refl
    by_test e false = ap suc e

chosen_cell : (x c c' : ℕ) (v w rest rest' : ℤ) (b : Bool) → nat_eq x c ≡ b → (nat_eq x c' ≡ false → rest' ≡ (if nat_eq c c' then v else rest))
    → (if b then (if nat_eq x c' then v else rest) else (if nat_eq x c' then w else rest')) ≡ (if nat_eq c c' then v else (if nat_eq x c' then w else rest))
chosen_cell x c c' v w rest rest' true e k =
    let same : x ≡ c = grind (arith, nat_tests) in
    subst (λ y. (if nat_eq x c' then v else rest) ≡ (if nat_eq y c' then v else (if nat_eq x c' then w else rest))) same (by_test (nat_eq x c'))
  where
    by_test : (t : Bool) → (if t then v else rest) ≡ (if t then v else (if t then w else rest))
    by_test true = refl
    by_test false = refl
chosen_cell x c c' v w rest rest' false e k = by_test (nat_eq x c') refl
  where
    by_test : (t : Bool) → nat_eq x c' ≡ t → (if t then w else rest') ≡ (if nat_eq c c' then v else (if t then w else rest))
    by_test true h = let other : nat_eq c c' ≡ false = grind (arith, nat_tests) in rw other refl
    by_test false h = k h

with_at : (xs : List ℕ) (vs : List ℤ) (c : ℕ) (v : ℤ) (c' : ℕ) → length vs ≡ length xs → IsTrue (is_held xs c') → value_at xs (values_with xs vs c v) c' ≡ (if nat_eq c c' then v else value_at xs vs c')
with_at [] vs c v c' l h = cc
with_at (x ∷ xs) [] c v c' l h = absurd (omega (arith, l))
with_at (x ∷ xs) (w ∷ vs) c v c' l h =
    outer (nat_eq x c) ∙ chosen_cell x c c' v w (value_at xs vs c') (value_at xs (values_with xs vs c v) c') (nat_eq x c) refl
    (λ other. with_at xs vs c v c' (omega (arith, l)) (subst (λ b. IsTrue (b || is_held xs c')) other h))
  where
    outer : (b : Bool) → value_at (x ∷ xs) (if b then v ∷ vs else w ∷ values_with xs vs c v) c' ≡ (if b then (if nat_eq x c' then v else value_at xs vs c') else (if nat_eq x c' then w else value_at xs (values_with xs vs c v) c'))
    outer true = refl
    outer false = refl

if_each : (b : Bool) (v x y : ℤ) → x ≡ y → (if b then v else x) ≡ (if b then v else y)
if_each true v x y e = refl
if_each false v x y e = e

module _ (cells : List ℕ) where
  pub one_held : (f : Variables) (s : Store) (c : ℕ) (v : ℤ) → HoldsAs cells f s → HoldsAs cells (frame_with f c v) (store_with s c v)
  one_held f s c v h =
      record {
        shape = record { cells_are = h.shape.cells_are; values_for_all = length-values_with f.cells f.values c v ∙ h.shape.values_for_all };
        same = λ c' m. with_at f.cells f.values c v c' (h.shape.values_for_all ∙ ap length (sym h.shape.cells_are)) (subst (λ xs. IsTrue (is_held xs c')) (sym h.shape.cells_are) m)
            ∙ if_each (nat_eq c c') v (at f c') (s c') (h.same c' m);
      }

  pub span_held : (vs : List ℤ) (first : ℕ) (f : Variables) (s : Store) → HoldsAs cells f s → HoldsAs cells (frame_from first vs f) (store_from first vs s)
  span_held [] first f s h = h
  span_held (v ∷ vs) first f s h = span_held vs (first + 1) (frame_with f first v) (store_with s first v) (one_held f s first v h)

  abbrev pub StoresAs : Stored → Outcome Nothing → Type 0
  StoresAs (Stays f) (Gives x s) = HoldsAs cells f s
  StoresAs (Stays f) (Faults e s) = ⊥
  StoresAs (Refused e f) (Gives x s) = ⊥
  StoresAs (Refused e f) (Faults e' s) = (e' ≡ e) × HoldsAs cells f s

  part_held : (x : Spot) (p : Part) (f : Variables) (s : Store) → HoldsAs cells f s → StoresAs (frame_part x p f) (store_part x p s)
  part_held (At at) p f s h = span_held (take (count_of at) (values_in p)) (first_of at) f s h
  part_held (AtCounted line count array) p f s h = by_test (nat_le (length (values_in p)) (count_of array))
    where
      vs : List ℤ
      vs = values_in p

      one : List ℤ
      one = take (count_of count) (pos (length vs) ∷ [])

      by_test : (b : Bool) → StoresAs (if b then Stays (frame_in array (values_in p) (frame_in count (pos (length (values_in p)) ∷ []) f)) else Refused (fault Range line) f) (if b then Gives nothing (store_in array (values_in p) (store_in count (pos (length (values_in p)) ∷ []) s)) else Faults (fault Range line) s)
      by_test true = span_held (take (count_of array) (values_in p)) (first_of array) _ _ (span_held (take (count_of count) (pos (length (values_in p)) ∷ [])) (first_of count) f s h)
      by_test false = (refl, h)

  and_held : (a : Stored) (o : Outcome Nothing) (g : Variables → Stored) (k : Nothing → Store → Outcome Nothing) → StoresAs a o → ((x : Nothing) (f : Variables) (s : Store) → HoldsAs cells f s → StoresAs (g f) (k x s)) → StoresAs (and_stored a g) (then_in o k)
  and_held (Stays f) (Gives x s) g k h m = m x f s h
  and_held (Stays f) (Faults e s) g k h m = absurd h
  and_held (Refused e f) (Gives x s) g k h m = absurd h
  and_held (Refused e f) (Faults e' s) g k h m = h

  pub parts_held : (xs : List Spot) (ps : List Part) (f : Variables) (s : Store) → HoldsAs cells f s → StoresAs (frame_parts xs ps f) (store_parts xs ps s)
  parts_held [] ps f s h = h
  parts_held (x ∷ xs) [] f s h = h
  parts_held (x ∷ xs) (p ∷ ps) f s h = and_held (frame_part x p f) (store_part x p s) (λ g. frame_parts xs ps g) (λ y s'. store_parts xs ps s') (part_held x p f s h) (λ y f' s' h'. parts_held xs ps f' s' h')

-- the counters stay
pub span_left : (vs : List ℤ) (first : ℕ) (f : Variables) → (frame_from first vs f).left ≡ f.left
span_left [] first f = refl
span_left (v ∷ vs) first f = span_left vs (first + 1) (frame_with f first v)

abbrev pub stored_frame : Stored → Variables
stored_frame (Stays f) = f
stored_frame (Refused e f) = f

part_left : (x : Spot) (p : Part) (f : Variables) → (stored_frame (frame_part x p f)).left ≡ f.left
part_left (At at) p f = span_left (take (count_of at) (values_in p)) (first_of at) f
part_left (AtCounted line count array) p f = by_test (nat_le (length (values_in p)) (count_of array))
  where
    by_test : (b : Bool) → (stored_frame (if b then Stays (frame_in array (values_in p) (frame_in count (pos (length (values_in p)) ∷ []) f)) else Refused (fault Range line) f)).left ≡ f.left
    by_test true = span_left (take (count_of array) (values_in p)) (first_of array) _ ∙ span_left (take (count_of count) (pos (length (values_in p)) ∷ [])) (first_of count) f
    by_test false = refl

and_left : (a : Stored) (g : Variables → Stored) (left : List ℕ) → (stored_frame a).left ≡ left → ((f : Variables) → (stored_frame (g f)).left ≡ f.left) → (stored_frame (and_stored a g)).left ≡ left
and_left (Stays f) g left e k = k f ∙ e
and_left (Refused x f) g left e k = e

pub parts_left : (xs : List Spot) (ps : List Part) (f : Variables) → (stored_frame (frame_parts xs ps f)).left ≡ f.left
parts_left [] ps f = refl
parts_left (x ∷ xs) [] f = refl
parts_left (x ∷ xs) (p ∷ ps) f = and_left (frame_part x p f) (λ g. frame_parts xs ps g) f.left (part_left x p f) (λ g. parts_left xs ps g)

-- ---- evaluations that set cells

abbrev pub frame_of : Point → Variables
frame_of (point pc st q sp f) = f

pub record GivesAs {X : Type 0} (cells : List ℕ) (o : Outcome X) (x : X) (g : Variables) : Type 0 where
  pub store : Store
  pub gives_it : o ≡ Gives x store
  pub holds : HoldsAs cells g store

pub record FaultsAs {X : Type 0} (cells : List ℕ) (o : Outcome X) (e : Fault) (g : Variables) : Type 0 where
  pub store : Store
  pub faults_by : o ≡ Faults e store
  pub holds : HoldsAs cells g store

-- From a point, instructions in a row do what the evaluation does in each store that agrees with the frame. Counters stay.
pub data Performs {X : Type 0} (code : List (Instr ℕ)) (cells : List ℕ) (f : Variables) (a : Point) (o : Store → Outcome X) (To : X → Point → Type 0) : Type 0 where
  performs : (x : X) (b : Point) → Walks by_cell code a b → To x b → (frame_of b).left ≡ f.left
      → ((s : Store) → HoldsAs cells f s → GivesAs cells (o s) x (frame_of b)) → Performs code cells f a o To
  refuses : (e : Fault) (g : Variables) → FaultsAt code a g e → g.left ≡ f.left
      → ((s : Store) → HoldsAs cells f s → FaultsAs cells (o s) e g) → Performs code cells f a o To

module _ (code : List (Instr ℕ)) (cells : List ℕ) where
  -- first some instructions alone
  pub performs_on : {X : Type 0} {f : Variables} {a b : Point} {o : Store → Outcome X} {To : X → Point → Type 0} → Walks by_cell code a b → Performs code cells f b o To → Performs code cells f a o To
  performs_on w (performs x c v t l h) = performs x c (walks_on w v) t l h
  performs_on w (refuses e g x l h) = refuses e g (fault_on code g w x) l h

  pub performs_then : {X Y : Type 0} {f : Variables} {a : Point} {o : Store → Outcome X} {Mid : X → Point → Type 0} {To : Y → Point → Type 0} (k : X → Store → Outcome Y)
      → Performs code cells f a o Mid → ((x : X) (b : Point) → Mid x b → Performs code cells (frame_of b) b (k x) To) → Performs code cells f a (λ s. then_in (o s) k) To
  performs_then {f = f} {a = a} {o = o} {To = To} k (performs x b w m l h) n = more (n x b m)
    where
      more : Performs code cells (frame_of b) b (k x) To → Performs code cells f a (λ s. then_in (o s) k) To
      more (performs y c v t l' h') =
          performs y c (walks_on w v) t (l' ∙ l)
          (λ s hs. let r = h s hs in let r' = h' r.store r.holds in record { store = r'.store; gives_it = ap (λ z. then_in z k) r.gives_it ∙ r'.gives_it; holds = r'.holds })
      more (refuses e g y l' h') =
          refuses e g (fault_on code g w y) (l' ∙ l)
          (λ s hs. let r = h s hs in let r' = h' r.store r.holds in record { store = r'.store; faults_by = ap (λ z. then_in z k) r.gives_it ∙ r'.faults_by; holds = r'.holds })
  performs_then k (refuses e g x l h) n =
      refuses e g x l (λ s hs. let r = h s hs in record { store = r.store; faults_by = ap (λ z. then_in z k) r.faults_by; holds = r.holds })

  -- an evaluation that sets nothing
  pub performs_by : {X Y : Type 0} {f : Variables} {a : Point} (v : Store → Evaluated X) (w : Evaluated X) (to : X → Point) {To : Y → Point → Type 0} (k : X → Store → Outcome Y)
      → Comes code f a w to → ((s : Store) → HoldsAs cells f s → v s ≡ w) → ((x : X) → w ≡ Value x → Performs code cells f (to x) (k x) To) → Performs code cells f a (λ s. then_in (in_store (v s) s) k) To
  performs_by {f = f} {a = a} v (Value x) to {To = To} k (comes w) h n = more (n x refl)
    where
      more : Performs code cells f (to x) (k x) To → Performs code cells f a (λ s. then_in (in_store (v s) s) k) To
      more (performs y c u t l h') =
          performs y c (walks_on w u) t l
          (λ s hs. let r' = h' s hs in record { store = r'.store; gives_it = ap (λ z. then_in (in_store z s) k) (h s hs) ∙ r'.gives_it; holds = r'.holds })
      more (refuses e g y l h') =
          refuses e g (fault_on code g w y) l
          (λ s hs. let r' = h' s hs in record { store = r'.store; faults_by = ap (λ z. then_in (in_store z s) k) (h s hs) ∙ r'.faults_by; holds = r'.holds })
  performs_by {f = f} v (Fails e) to k (fails x) h n =
      refuses e f x refl (λ s hs. record { store = s; faults_by = ap (λ z. then_in (in_store z s) k) (h s hs); holds = hs })
