-- The cells of a part of an array lie within it.
use Rattle.std.proofs.Common.{◌≡◌, ◌∙◌, sym, ap, subst, refl, Bool, true, false, IsTrue, ◌&&◌, int_le, int_lt, rules, ℤ, pos, negsuc, ℕ, suc, ◌+◌, ◌*◌, ◌<◌, ◌≤◌, List, [], ◌∷◌, map, drop, get_or, length, arith}
use Rattle.std.proofs.Math.Nat.{mul-le-mul_right, suc-mul}
use Rattle.std.proofs.lemmas.Bool.Decides.{nat_tests}
use Rattle.std.proofs.lemmas.List.{drop_more, drop_all}
use Rattle.occ_term.specs.Messages.{FaultKind, Range, Fault, product}
use Rattle.occ_term.specs.Values.{Span, Store, Evaluated, Value, Fails, after, checked, subscript, value_of, offset_of, first_of}
use Rattle.occ_term.specs.Evaluation.{FewCells, Bounded, BoundedPlace, BoundedSubscripts, first_named, first_of_component}
use Rattle.occ_term.specs.Terms as T
use Rattle.occ_term.specs.View as View
use Rattle.occ_term.specs.View.{expression_of, place_of}
use Rattle.occ_term.specs.declared.expression.TermExpr.{TermExpr, the_lemmas}
use Rattle.occ_term.specs.declared.expression.Place.{Place}
use Rattle.occ_term.specs.UnfoldedProgram.{most_cells}

-- one more part fits
pub one_more : (size i p : ℕ) → i < size → i * p + p ≤ size * p
one_more size i p within = omega (arith, mul-le-mul_right {m = suc i} {n = size} p within, suc-mul i p)

module _ (first size i p : ℕ) (few : 0 < size * p → first + size * p ≤ most_cells) (within : i < size) where
  pub part_few : 0 < p → (first + i * p) + p ≤ most_cells
  part_few h = let m = one_more size i p within in omega (arith, few (omega (arith, m)))

-- ---- the code's way through the subscripts of a place

abbrev seen : List TermExpr → T.Subscripts
seen es = View.subscripts (map expression_of es)

abbrev first_from : T.Subscripts → ℕ → ℕ → List ℕ → Store → Evaluated ℕ
first_from subs line first sizes s = after (offset_of subs line first sizes s) (λ at. Value (first_of at))

pub place_seen : (p : Place) → place_of p ≡ T.place p.line p.first p.sizes (seen p.subscripts)
place_seen p = search (rules, the_lemmas)

-- the place of a part, and then that of what its subscripts name
module _ (r : ℕ → ℕ) (k : ℕ → Evaluated Span) where
  abbrev then_part : Evaluated ℕ → Evaluated ℕ
  then_part v = after (after v (λ i. k (r i))) (λ at. Value (first_of at))

  abbrev then_parts : Evaluated ℤ → (ℤ → Evaluated ℕ) → Evaluated ℕ
  then_parts v g = after (after v (λ x. after (g x) (λ i. k (r i)))) (λ at. Value (first_of at))

  part_fails : (f : Fault) (v : Evaluated ℕ) → Fails f ≡ after v (λ i. Value (r i)) → Fails f ≡ then_part v
  part_fails f (Value i) h = cc
  part_fails f (Fails e) h = cc

  parts_fail : (f : Fault) (v : Evaluated ℤ) (g : ℤ → Evaluated ℕ) → Fails f ≡ after v (λ x. after (g x) (λ i. Value (r i))) → Fails f ≡ then_parts v g
  parts_fail f (Value x) g h = part_fails f (g x) h
  parts_fail f (Fails e) g h = cc

  part_gives : (x : ℕ) (v : Evaluated ℕ) → Value x ≡ after v (λ i. Value (r i)) → (i : ℕ) × (v ≡ Value i) × (x ≡ r i) × (after (k x) (λ at. Value (first_of at)) ≡ then_part v)
  part_gives x (Value i) h = let e : x ≡ r i = cc in (i, refl, e, ap (λ y. after (k y) (λ at. Value (first_of at))) e)
  part_gives x (Fails e) h = cc

  parts_give : (x : ℕ) (v : Evaluated ℤ) (g : ℤ → Evaluated ℕ) → Value x ≡ after v (λ y. after (g y) (λ i. Value (r i))) → (y : ℤ) × (i : ℕ) × (g y ≡ Value i) × (x ≡ r i) × (after (k x) (λ at. Value (first_of at)) ≡ then_parts v g)
  parts_give x (Value y) g h = let (i, e, q, m) = part_gives x (g y) h in (y, i, e, q, m)
  parts_give x (Fails e) g h = cc

pub checked_gives : {X : Type 0} (test : Bool) (x y : X) (kind : FaultKind) (line : ℕ) → checked test x kind line ≡ Value y → IsTrue test × (x ≡ y)
checked_gives true x y kind line h = let e : x ≡ y = cc in (refl, e)
checked_gives false x y kind line h = cc

below_size : (n k : ℕ) → IsTrue (int_le (pos 0) (pos k) && int_lt (pos k) (pos n)) → k < n
below_size n k h = grind (arith, nat_tests)

pub within_size : (line n : ℕ) (v : ℤ) (i : ℕ) → subscript line n v ≡ Value i → i < n
within_size line n (pos k) i h =
    let (t, e) = checked_gives (int_le (pos 0) (pos k) && int_lt (pos k) (pos n)) k i Range line h in
    let b = below_size n k t in
    omega arith
within_size line n (negsuc k) i h = cc

-- what is left of it gives the place's first cell
pub record Walks (es : List TermExpr) (line first : ℕ) (sizes : List ℕ) (s : Store) (named : Evaluated ℕ) : Type 0 where
  pub rest : first_from (seen es) line first sizes s ≡ named
  pub bounded : BoundedSubscripts (seen es) s
  pub few : FewCells first sizes

pub begins : (p : Place) (s : Store) → BoundedPlace (place_of p) s → Walks p.subscripts p.line p.first p.sizes s (first_named (place_of p) s)
begins p s h =
    let h' : BoundedPlace (T.place p.line p.first p.sizes (seen p.subscripts)) s = subst (λ x. BoundedPlace x s) (place_seen p) h in
    record { rest = ap (λ x. first_named x s) (sym (place_seen p)); bounded = h'.1; few = h'.0 }

module _ (line first : ℕ) (s : Store) (named : Evaluated ℕ) where
  pub no_size : (e : TermExpr) (es : List TermExpr) → Walks (e ∷ es) line first [] s named → Value first ≡ named
  no_size e es w = w.rest

  pub walked : (sizes : List ℕ) → Walks [] line first sizes s named → Value first ≡ named
  walked sizes w = w.rest

  module _ (e : TermExpr) (es : List TermExpr) (n : ℕ) (ns : List ℕ) (w : Walks (e ∷ es) line first (n ∷ ns) s named) where
    pub fails : (f : Fault) → Fails f ≡ first_of_component line first n ns (expression_of e) s → Fails f ≡ named
    fails f h =
        parts_fail (λ i. first + i * product ns) (λ y. offset_of (seen es) line y ns s) f (value_of (expression_of e) s) (subscript line n) h ∙ w.rest

    pub walks_on : (x : ℕ) → Value x ≡ first_of_component line first n ns (expression_of e) s → Walks es line x ns s named
    walks_on x h =
        let (y, i, g, q, k) = parts_give (λ i. first + i * product ns) (λ y. offset_of (seen es) line y ns s) x (value_of (expression_of e) s) (subscript line n) h in
        record { rest = k ∙ w.rest; bounded = w.bounded.1; few = λ m. rw q (part_few first n i (product ns) w.few (within_size line n y i g) m) }

-- ---- the same at a place in the list

pub begins_at : (p : Place) (s : Store) (es : List TermExpr) (sizes : List ℕ) → es ≡ p.subscripts → sizes ≡ p.sizes → BoundedPlace (place_of p) s → Walks es p.line p.first sizes s (first_named (place_of p) s)
begins_at p s es sizes e f h =
    let w = begins p s h in
    rw (e, f) w

empty : (xs : List ℕ) → length xs ≡ 0 → xs ≡ []
empty [] h = refl
empty (x ∷ xs) h = absurd (omega arith)

module _ (es : List TermExpr) (i : ℕ) (e : TermExpr) (h : i < length es) (is : e ≡ get_or es i e) (line first : ℕ) (s : Store) (named : Evaluated ℕ) (sizes : List ℕ) (w : Walks (drop i es) line first sizes s named) where
  at_item : drop i es ≡ e ∷ drop (i + 1) es
  at_item = drop_more es i e h ∙ ap (λ x. x ∷ drop (i + 1) es) (sym is)

  here : Walks (e ∷ drop (i + 1) es) line first sizes s named
  here = rw at_item at w

  pub no_size_at : length sizes ≡ 0 → Value first ≡ named
  no_size_at z = no_size line first s named e (drop (i + 1) es) (rw (empty sizes z) at here)

  module _ (n : ℕ) (ns : List ℕ) (q : sizes ≡ n ∷ ns) where
    here_sizes : Walks (e ∷ drop (i + 1) es) line first (n ∷ ns) s named
    here_sizes = rw q at here

    pub part_bounded : Bounded (expression_of e) s
    part_bounded = here_sizes.bounded.0

    pub part_has_few : FewCells first (n ∷ ns)
    part_has_few = here_sizes.few

    pub fails_at : (f : Fault) → Fails f ≡ first_of_component line first n ns (expression_of e) s → Fails f ≡ named
    fails_at f k = fails line first s named e (drop (i + 1) es) n ns here_sizes f k

    pub walks_at : (x : ℕ) → Value x ≡ first_of_component line first n ns (expression_of e) s → Walks (drop (i + 1) es) line x ns s named
    walks_at x k = walks_on line first s named e (drop (i + 1) es) n ns here_sizes x k

pub walked_at : (es : List TermExpr) (i : ℕ) (line first : ℕ) (s : Store) (named : Evaluated ℕ) (sizes : List ℕ) → length es ≤ i → Walks (drop i es) line first sizes s named → Value first ≡ named
walked_at es i line first s named sizes h w = walked line first s named sizes (rw (drop_all i es h) at w)
