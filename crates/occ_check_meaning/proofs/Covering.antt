-- The cells and channels that are given out have the types and protocols that are declared at the end.
use Rattle.std.proofs.Common.{◌≡◌, ◌≤◌, ◌<◌, ℕ, zero, suc, ◌+◌, List, [], ◌∷◌, ◌++◌, length, Bool, true, false, Option, Some, None, IsTrue, refl, ap, sym, subst, arith, length-append}
use Rattle.std.specs.Prelude.{map, slice_get, nat_le, nat_lt, pos, ℤ, ◌||◌, if◌then◌else◌}
use Rattle.std.proofs.lemmas.Bool.{leb-true, ltb-true}
use Rattle.occ_term.specs.declared.names.Cell.{Cell}
use Rattle.occ_term.specs.declared.names.Channel.{Channel}
use Rattle.occ_term.specs.declared.primitive.Primitive.{Primitive}
use Rattle.occ_term.specs.declared.protocol.Protocol.{Protocol}
use Rattle.occ_term.specs.Messages.{is_of, product}
use Rattle.occ_term.specs.Terms as T
use Rattle.occ_term.specs.Terms.{Constant, Component, Letter, Binary, Unary, And, Or, Conversion}
use Rattle.occ_term.specs.Values.{Evaluated, Value, Fails, span, value_of}
use Rattle.occ_term.specs.Uses.{numbers_in, is_constant, reads_of}
use Rattle.occ_term.specs.Typing.{CellsHave, HasType}
use Rattle.occ_term.specs.TermTyping.{Declared}
use Rattle.occ_term.proofs.TypedValues.{values_have_types}
use Rattle.occ_check_meaning.specs.Scope.{Name}
use Rattle.occ_check_meaning.specs.Numbers.{Numbers, cell, channel, component_names, more_cells, more_channels}
use Rattle.occ_check_meaning.specs.Constants.{constant, without_fault}
use Rattle.occ_check_meaning.specs.Growth.{Grown}
use Rattle.occ_check_meaning.proofs.Steps.{some_is}
use Rattle.occ_check_meaning.proofs.Counting.{kept, both_true}
use Rattle.occ_check_meaning.proofs.Growth.{names_length}

-- all cells and channels so far are among what is declared
pub record Covers (d : Declared) (n : Numbers) : Type 0 where
  pub cells : (c : ℕ) (x : Cell) → slice_get n.cells c ≡ Some x → d.types c ≡ Some x.primitive
  pub channels : (c : ℕ) (x : Channel) → slice_get n.channels c ≡ Some x → d.protocols c ≡ Some x.protocol

first_stays : {A : Type 0} (xs ys : List A) (c : ℕ) (x : A) → slice_get xs c ≡ Some x → slice_get (xs ++ ys) c ≡ Some x
first_stays [] ys c x e = absurd cc
first_stays (a ∷ xs) ys zero x e = e
first_stays (a ∷ xs) ys (suc c) x e = first_stays xs ys c x e

pub covers_before : (d : Declared) (n m : Numbers) → Grown n m → Covers d m → Covers d n
covers_before d n m g h = record {
  cells = λ c x e. h.cells c x (subst (λ xs. slice_get xs c ≡ Some x) (sym g.cells) (first_stays n.cells g.new_cells c x e));
  channels = λ c x e. h.channels c x (subst (λ xs. slice_get xs c ≡ Some x) (sym g.channels) (first_stays n.channels g.new_channels c x e));
}

-- all cells that are new since some numbers are among what is declared, and so are all channels
pub record CoversSince (d : Declared) (n m : Numbers) : Type 0 where
  pub cells : (c : ℕ) (x : Cell) → length n.cells ≤ c → slice_get m.cells c ≡ Some x → d.types c ≡ Some x.primitive
  pub channels : (c : ℕ) (x : Channel) → slice_get m.channels c ≡ Some x → d.protocols c ≡ Some x.protocol

pub since : (d : Declared) (n m : Numbers) → Covers d m → CoversSince d n m
since d n m h = record { cells = λ c x l e. h.cells c x e; channels = h.channels }

pub fewer_before : (n m : Numbers) → Grown n m → length n.cells ≤ length m.cells
fewer_before n m g =
    let e = ap length g.cells in
    let f = length-append n.cells g.new_cells in
    omega (arith, e, f)

pub since_before : (d : Declared) (n m l : Numbers) → Grown m l → CoversSince d n l → CoversSince d n m
since_before d n m l g h = record {
  cells = λ c x k e. h.cells c x k (subst (λ xs. slice_get xs c ≡ Some x) (sym g.cells) (first_stays m.cells g.new_cells c x e));
  channels = λ c x e. h.channels c x (subst (λ xs. slice_get xs c ≡ Some x) (sym g.channels) (first_stays m.channels g.new_channels c x e));
}

pub since_later : (d : Declared) (n m l : Numbers) → Grown n m → CoversSince d n l → CoversSince d m l
since_later d n m l g h = record { cells = λ c x k e. let f = fewer_before n m g in h.cells c x (omega (arith, k, f)) e; channels = h.channels }

-- ---- what is new

new_one : {A : Type 0} (f : Name → A) (xs : List A) (ys : List Name) (c : ℕ) → length xs ≤ c → c < length xs + length ys → (y : Name) × (slice_get (xs ++ map f ys) c ≡ Some (f y))
new_one f [] [] c h g = absurd (omega (arith, g))
new_one f [] (y ∷ ys) zero h g = (y, refl)
new_one f [] (y ∷ ys) (suc c) h g = new_one f [] ys c (omega arith) (omega (arith, g))
new_one f (x ∷ xs) ys zero h g = absurd (omega (arith, h))
new_one f (x ∷ xs) ys (suc c) h g = new_one f xs ys c (omega (arith, h)) (omega (arith, g))

pub in_span : (first count c : ℕ) → IsTrue (numbers_in (span first count) c) → (first ≤ c) × (c < first + count)
in_span first count c h =
    let b = both_true (nat_le first c) (nat_lt c (first + count)) h in
    (leb-true first c b.0, ltb-true c (first + count) b.1)

module _ (d : Declared) where
  pub new_cells_have : (type : Primitive) (x : Name) (sizes : List ℕ) (n m : Numbers) → more_cells type x sizes n ≡ Some m → CoversSince d n m → CellsHave d.types (span (length n.cells) (product sizes)) type
  new_cells_have type x sizes n m e h c i =
      let s = in_span (length n.cells) (product sizes) c i in
      let k = names_length x sizes in
      let p = s.0 in
      let q = s.1 in
      let a = new_one (cell type) n.cells (component_names x sizes) c p (omega (arith, q, k)) in
      h.cells c (cell type a.0) p (subst (λ (y : Numbers). slice_get y.cells c ≡ Some (cell type a.0)) (kept _ _ m e).1 a.1)

  pub new_channels_have : (p : Protocol) (x : Name) (sizes : List ℕ) (n m : Numbers) → more_channels p x sizes n ≡ Some m → CoversSince d n m
      → (c : ℕ) → IsTrue (numbers_in (span (length n.channels) (product sizes)) c) → d.protocols c ≡ Some p
  new_channels_have p x sizes n m e h c i =
      let s = in_span (length n.channels) (product sizes) c i in
      let k = names_length x sizes in
      let l = s.0 in
      let q = s.1 in
      let a = new_one (channel p) n.channels (component_names x sizes) c l (omega (arith, q, k)) in
      h.channels c (channel p a.0) (subst (λ (y : Numbers). slice_get y.channels c ≡ Some (channel p a.0)) (kept _ _ m e).1 a.1)

-- ---- constants

pub either_false : (a b : Bool) → (IsTrue a → ⊥) → (IsTrue b → ⊥) → IsTrue (a || b) → ⊥
either_false true b h g k = h refl
either_false false b h g k = g k

reads_nothing : (e : T.Expression) → IsTrue (is_constant e) → (c : ℕ) → IsTrue (reads_of e c) → ⊥
reads_nothing (Constant v) h c k = absurd cc
reads_nothing (T.Cell x) h c k = absurd cc
reads_nothing (Component p) h c k = absurd cc
reads_nothing (Letter line text e) h c k = absurd cc
reads_nothing (Binary op type line a b) h c k = let t = both_true (is_constant a) (is_constant b) h in either_false (reads_of a c) (reads_of b c) (reads_nothing a t.0 c) (reads_nothing b t.1 c) k
reads_nothing (Unary op type line a) h c k = reads_nothing a h c k
reads_nothing (And a b) h c k = let t = both_true (is_constant a) (is_constant b) h in either_false (reads_of a c) (reads_of b c) (reads_nothing a t.0 c) (reads_nothing b t.1 c) k
reads_nothing (Or a b) h c k = let t = both_true (is_constant a) (is_constant b) h in either_false (reads_of a c) (reads_of b c) (reads_nothing a t.0 c) (reads_nothing b t.1 c) k
reads_nothing (Conversion to line a) h c k = reads_nothing a h c k

value_is : (x : Evaluated ℤ) (v : ℤ) → without_fault x ≡ Some v → x ≡ Value v
value_is (Value w) v e = ap Value (some_is w v e)
value_is (Fails f) v e = absurd cc

pub constant_typed : (types : ℕ → Option Primitive) (e : T.Expression) (type : Primitive) (v : ℤ) → HasType types e type → constant e ≡ Some v → IsTrue (is_of type v)
constant_typed types e type v h g =
    let k = is_it (is_constant e) g in
    values_have_types types (λ cell. pos 0) e type v h (λ c r. absurd (reads_nothing e k.0 c r)) (value_is _ v k.1)
  where
    is_it : (b : Bool) → (if b then without_fault (value_of e (λ cell. pos 0)) else None) ≡ Some v → IsTrue b × (without_fault (value_of e (λ cell. pos 0)) ≡ Some v)
    is_it true q = (refl, q)
    is_it false q = absurd cc
