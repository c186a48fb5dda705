-- What a line, or what declarations enter, doesn't write: a cell that is given out before, and that no variable of the scope has.
use Rattle.std.proofs.Common.{◌≡◌, ◌≤◌, ◌<◌, ℕ, ◌+◌, ◌*◌, List, [], ◌∷◌, ◌++◌, length, Bool, true, false, IsTrue, Option, Some, None, refl, subst, ap, arith}
use Rattle.std.proofs.lemmas.Bool.{le-leb, lt-ltb, eqb-true}
use Rattle.std.specs.Prelude.{ℤ, nat_eq, ◌&&◌, map, ⊤, int_le, int_lt, pos, nat_abs, if◌then◌else◌}
use Rattle.occ_tree_grammar.specs.Expressions.Trees.{Expression, Expressions}
use Rattle.occ_tree_grammar.specs.Lines.Trees as L
use Rattle.occ_tree_grammar.specs.Lines.Trees.{Var, var, into, into_counted}
use Rattle.occ_tree_grammar.specs.Processes.Trees as P
use Rattle.occ_term.specs.declared.primitive.Primitive.{Primitive}
use Rattle.occ_term.specs.declared.primitive.Primitive.TheVariants.{Int}
use Rattle.occ_term.specs.declared.protocol.PartType.{PartType}
use Rattle.occ_term.specs.declared.protocol.PartType.TheVariants.{One as OneOf, Many as ManyOf, Counted as CountedOf}
use Rattle.occ_term.specs.Messages.{product, parts_after}
use Rattle.occ_term.specs.declared.fault.FaultKind.TheVariants.{Range}
use Rattle.occ_term.specs.Terms as T
use Rattle.occ_term.specs.Terms.{Term, Place, Array, Cells, Text, Item, OfOne, OfMany, Declaration, Clearing, Naming, Subscripts, no_subscripts, then_subscript, Target, Into, replicator}
use Rattle.occ_term.specs.Sizes.{no_size, size_of_declaration, size_of_replicator}
use Rattle.occ_term.specs.Values.{Span, span, Evaluated as Valued, Value, Fails, checked, value_of}
use Rattle.occ_term.specs.Uses.{numbers_in, named_by, part_named, on_index, constant_subscript, subscript_value, is_constant, uses_of, uses_of_target, uses_of_targets, uses_of_declaration, uses_of_replicator, cells_of_item}
use Rattle.occ_term.proofs.Bounds.{one_more, within_size}
use Rattle.occ_check_meaning.specs.Scope.{keep, each_of, once, Stretch, assignable, kept as unassignable, Carried, Known, a_value, a_string, some_cells, some_channels, a_protocol, Name, Names}
use Rattle.occ_check_meaning.specs.Numbers.{Numbers, more_cells, more_channels, room}
use Rattle.occ_check_meaning.specs.Constants.{constant}
use Rattle.occ_check_meaning.specs.Operators.{primitive_of}
use Rattle.occ_check_meaning.specs.Expressions.{Typed, single, whole, typed, typed_as, typed_subscripts, left_by, under, place_of}
use Rattle.occ_check_meaning.specs.Types.{sizes_of, carried_of, protocol_of}
use Rattle.occ_check_meaning.specs.Items.{as_variable, as_channels, variable_of, channel_of, sent, tag_in, Aim, aim, counted_aim, aim_of, target_of, targets_of, apart, stretches_of, stored, assigned_items, as_target}
use Rattle.occ_check_meaning.specs.Declarations.{Opened, variable_declared, channel_declared, each_declared, names_declared, local_of, value_named, array_named, named, has_type, of_value_type, value_declared, protocol_declared, Indexed, indexed}
use Rattle.occ_check_meaning.specs.Calls.{Wanted, wants_value, wants_variable, wants_channels, Evaluated, one_evaluated, all_evaluated, as_named, actual_list, actual_of, all_actuals, bound}
use Rattle.occ_check_meaning.specs.Actions as A
use Rattle.occ_check_meaning.specs.Actions.{assigned, Listed, plain_list, tagged_list, received}
use Rattle.occ_check_meaning.specs.Growth.{Grown}
use Rattle.occ_check_meaning.proofs.Steps.{bind_some, some_is}
use Rattle.occ_check_meaning.proofs.Counting.{kept}
use Rattle.occ_check_meaning.proofs.Scopes.{EachPair, each_joined}
use Rattle.occ_check_meaning.proofs.Growth.{growing}
use Rattle.occ_check_meaning.proofs.Covering.{fewer_before, in_span, either_false}
use Rattle.occ_check_meaning.proofs.Stepping.{variable_steps, channel_steps, one_steps, actual_steps}
use Rattle.occ_check_meaning.proofs.TypedExpressions.{and_true}
use Rattle.occ_check_meaning.proofs.TypedLines.{All, all_of}

abbrev pub Not : Bool → Type 0
Not b = IsTrue b → ⊥

pub is_false : (b : Bool) → Not b → b ≡ false
is_false true h = absurd (h refl)
is_false false h = refl

-- ---- constant subscripts name a part

span_within : (first n p i c : ℕ) → i < n → Not (numbers_in (span first (n * p)) c) → Not (numbers_in (span (first + i * p) p) c)
span_within first n p i c l h g =
    let s = in_span (first + i * p) p c g in
    let o = one_more n i p l in
    let a = s.0 in
    let b = s.1 in
    h (to_span first (n * p) c (omega (arith, a)) (omega (arith, b, o)))
  where
    to_span : (first count c : ℕ) → first ≤ c → c < first + count → IsTrue (numbers_in (span first count) c)
    to_span first count c l h = and_true _ _ (le-leb first c l) (lt-ltb c (first + count) h)

constant_within : (e : T.Expression) (n i : ℕ) → constant_subscript e n ≡ Some i → i < n
constant_within e n i h = found (is_constant e) h
  where
    tested : (v : ℤ) (b : Bool) → (int_le (pos 0) v && int_lt v (pos n)) ≡ b → (if b then Some (nat_abs v) else None) ≡ Some i → i < n
    tested v true t q = subst (λ k. k < n) (some_is (nat_abs v) i q) (within_size 0 n v (nat_abs v) (ap (λ b. checked b (nat_abs v) Range 0) t))
    tested v false t q = absurd cc

    valued : (x : Valued ℤ) → subscript_value 0 n x ≡ Some i → i < n
    valued (Value v) q = tested v (int_le (pos 0) v && int_lt v (pos n)) refl q
    valued (Fails f) q = absurd cc

    found : (b : Bool) → (if b then subscript_value 0 n (value_of e (λ c. pos 0)) else None) ≡ Some i → i < n
    found true q = valued (value_of e (λ c. pos 0)) q
    found false q = absurd cc

module _ (c : ℕ) where
  index_avoids : (o : Option ℕ) (part : ℕ → Span) (all : Span) → ((i : ℕ) → o ≡ Some i → Not (numbers_in (part i) c)) → Not (numbers_in all c) → Not (numbers_in (on_index o part all) c)
  index_avoids None part all h g = g
  index_avoids (Some i) part all h g = h i refl

  pub part_avoids : (subs : Subscripts) (first : ℕ) (sizes : List ℕ) (all : Span) → Not (numbers_in (span first (product sizes)) c) → Not (numbers_in all c) → Not (numbers_in (part_named subs first sizes all) c)
  part_avoids no_subscripts first sizes all h g = h
  part_avoids (then_subscript e es) first [] all h g = g
  part_avoids (then_subscript e es) first (n ∷ ns) all h g =
      index_avoids (constant_subscript e n) (λ i. part_named es (first + i * product ns) ns all) all
      (λ i q. part_avoids es (first + i * product ns) ns all (span_within first n (product ns) i c (constant_within e n i q) h) g) g

  -- ---- names and heads

  abbrev pub Avoids : Known → Type 0
  Avoids (some_cells assignable type r) = Not (numbers_in (span r.first (product r.sizes)) c)
  Avoids (some_cells unassignable type r) = ⊤
  Avoids (a_value type v) = ⊤
  Avoids (a_string bytes) = ⊤
  Avoids (some_channels p r) = ⊤
  Avoids (a_protocol p) = ⊤

  abbrev pub StretchAvoids : Stretch → Type 0
  StretchAvoids r = Not (numbers_in (span r.first (product r.sizes)) c)

  abbrev pub HeadAvoids : Declaration → Type 0
  HeadAvoids h = Not ((uses_of_declaration h).writes c)

  abbrev pub OpenedAvoids : Opened → Type 0
  OpenedAvoids o = EachPair Avoids o.names × All HeadAvoids o.heads

  pub later : (first count : ℕ) → c < first → Not (numbers_in (span first count) c)
  later first count l h = let s = in_span first count c h in let a = s.0 in absurd (omega (arith, a, l))

  all_joined : (hs gs : List Declaration) → All HeadAvoids hs → All HeadAvoids gs → All HeadAvoids (hs ++ gs)
  all_joined [] gs h g = g
  all_joined (x ∷ hs) gs h g = (h.0, all_joined hs gs h.1 g)

  still_later : (n m : Numbers) → c < length n.cells → Grown n m → c < length m.cells
  still_later n m l g = let f = fewer_before n m g in omega (arith, l, f)

  variable_avoids : (depth : ℕ) (type : Primitive) (sizes : List ℕ) (x : Name) (n : Numbers) (o : Opened) → c < length n.cells → variable_declared depth type sizes x n ≡ Some o → OpenedAvoids o
  variable_avoids depth type sizes x n o l e =
      let m = bind_some (more_cells type x sizes n) _ o e in
      let r = bind_some (room depth (size_of_declaration (Clearing (length n.cells) (product sizes))) m.0) _ o m.2 in
      subst OpenedAvoids (some_is _ o r.2) ((later (length n.cells) (product sizes) l, tt), (later (length n.cells) (product sizes) l, tt))

  channel_avoids : (p : Carried) (sizes : List ℕ) (x : Name) (n : Numbers) (o : Opened) → c < length n.cells → channel_declared p sizes x n ≡ Some o → OpenedAvoids o
  channel_avoids p sizes x n o l e =
      let m = bind_some (more_channels p.protocol x sizes n) _ o e in
      subst OpenedAvoids (some_is _ o m.2) ((tt, tt), tt)

  each_avoids : (f : Name → Numbers → Option Opened) → ((x : Name) (n : Numbers) (o : Opened) → f x n ≡ Some o → Grown n o.numbers)
      → ((x : Name) (n : Numbers) (o : Opened) → c < length n.cells → f x n ≡ Some o → OpenedAvoids o)
      → (xs : List Name) (n : Numbers) (o : Opened) → c < length n.cells → each_declared f xs n ≡ Some o → OpenedAvoids o
  unfolding each_declared
  each_avoids f s g [] n o l e = subst OpenedAvoids (some_is _ o e) (tt, tt)
  each_avoids f s g (x ∷ xs) n o l e =
      let a = bind_some (f x n) _ o e in
      let b = bind_some (each_declared f xs a.0.numbers) _ o a.2 in
      let h = g x n a.0 l a.1 in
      let k = each_avoids f s g xs a.0.numbers b.0 (still_later n a.0.numbers l (s x n a.0 a.1)) b.1 in
      subst OpenedAvoids (some_is _ o b.2) (each_joined Avoids a.0.names b.0.names h.0 k.0, all_joined a.0.heads b.0.heads h.1 k.1)

  pub names_avoid : (ns : Names) (line depth : ℕ) (es : Expressions) (sort : L.Sort) (xs : List Name) (n : Numbers) (o : Opened) → c < length n.cells → names_declared ns line depth es sort xs n ≡ Some o → OpenedAvoids o
  names_avoid ns line depth es (L.of_data type) xs n o l e =
      let z = bind_some (sizes_of ns line es) _ o e in
      let y = bind_some (once xs) _ o z.2 in
      each_avoids (variable_declared depth (primitive_of type) z.0) (variable_steps Grown growing depth (primitive_of type) z.0) (variable_avoids depth (primitive_of type) z.0) y.0 n o l y.2
  names_avoid ns line depth es (L.of_channel p) xs n o l e =
      let z = bind_some (sizes_of ns line es) _ o e in
      let k = bind_some (carried_of ns line p) _ o z.2 in
      let y = bind_some (once xs) _ o k.2 in
      each_avoids (channel_declared k.0 z.0) (channel_steps Grown growing k.0 z.0) (channel_avoids k.0 z.0) y.0 n o l y.2

  local_avoids : (x : Name) (depth : ℕ) (type : Primitive) (sizes : List ℕ) (value : Item) (n : Numbers) (o : Opened) → c < length n.cells → local_of x depth type sizes value n ≡ Some o → OpenedAvoids o
  local_avoids x depth type sizes value n o l e =
      let m = bind_some (more_cells type x sizes n) _ o e in
      let r = bind_some (room depth (size_of_declaration (Naming (length n.cells) value)) m.0) _ o m.2 in
      subst OpenedAvoids (some_is _ o r.2) ((tt, tt), (later (length n.cells) (cells_of_item value) l, tt))

  value_avoids : (x : Name) (depth : ℕ) (type : Primitive) (e : T.Expression) (v : Option ℤ) (n : Numbers) (o : Opened) → c < length n.cells → value_named x depth type e v n ≡ Some o → OpenedAvoids o
  value_avoids x depth type e (Some v) n o l g = subst OpenedAvoids (some_is _ o g) ((tt, tt), tt)
  value_avoids x depth type e None n o l g = local_avoids x depth type [] (OfOne type e) n o l g

  array_avoids : (x : Name) (depth : ℕ) (type : Primitive) (sizes : List ℕ) (a : Array) (n : Numbers) (o : Opened) → c < length n.cells → array_named x depth type sizes a n ≡ Some o → OpenedAvoids o
  array_avoids x depth type sizes (Text bytes) n o l g = subst OpenedAvoids (some_is _ o g) ((tt, tt), tt)
  array_avoids x depth type sizes (Cells p) n o l g = local_avoids x depth type sizes (OfMany type (Cells p)) n o l g

  named_avoids : (x : Name) (depth : ℕ) (t : Typed) (n : Numbers) (o : Opened) → c < length n.cells → named x depth t n ≡ Some o → OpenedAvoids o
  named_avoids x depth (single type e) n o l g = value_avoids x depth type e (constant e) n o l g
  named_avoids x depth (whole type sizes a) n o l g = array_avoids x depth type sizes a n o l g

  pub value_declared_avoids : (ns : Names) (line depth : ℕ) (type : Option L.ValueType) (x : Name) (a : Expression) (n : Numbers) (o : Opened) → c < length n.cells → value_declared ns line depth type x a n ≡ Some o → OpenedAvoids o
  value_declared_avoids ns line depth type x a n o l e =
      let v = bind_some (typed ns line a) _ o e in
      let w = bind_some (of_value_type ns line type v.0) _ o v.2 in
      named_avoids x depth w.0 n o l w.2

  pub protocol_avoids : (ns : Names) (p : P.Protocol) (n : Numbers) (o : Opened) → protocol_declared ns p n ≡ Some o → OpenedAvoids o
  protocol_avoids ns p n o e =
      let q = bind_some (protocol_of ns p) _ o e in
      subst OpenedAvoids (some_is _ o q.2) ((tt, tt), tt)

  one_avoids : (x : Name) (depth size : ℕ) (e : T.Expression) (v : Option ℤ) (n : Numbers) (a : Evaluated) → c < length n.cells → one_evaluated x depth size e v n ≡ Some a → All HeadAvoids a.heads
  one_avoids x depth size e (Some v) n a l g = subst (λ (y : Evaluated). All HeadAvoids y.heads) (kept _ _ a g).1 tt
  one_avoids x depth size e None n a l g =
      let m = bind_some (more_cells Int x [] n) _ a g in
      let r = bind_some (room depth (size_of_declaration (Naming (length n.cells) (OfOne Int e))) m.0) _ a m.2 in
      subst (λ (y : Evaluated). All HeadAvoids y.heads) (some_is _ a r.2) (later (length n.cells) 1 l, tt)

  evaluated_avoids : (x : Name) (depth : ℕ) (es : T.Subscripts) (sizes : List ℕ) (n : Numbers) (a : Evaluated) → c < length n.cells → all_evaluated x depth es sizes n ≡ Some a → All HeadAvoids a.heads
  unfolding all_evaluated
  evaluated_avoids x depth T.no_subscripts sizes n a l g = subst (λ (y : Evaluated). All HeadAvoids y.heads) (some_is _ a g) tt
  evaluated_avoids x depth (T.then_subscript e es) [] n a l g = absurd cc
  evaluated_avoids x depth (T.then_subscript e es) (size ∷ sizes) n a l g =
      let b = bind_some (one_evaluated x depth size e (constant e) n) _ a g in
      let k = bind_some (all_evaluated x depth es sizes b.0.numbers) _ a b.2 in
      subst (λ (y : Evaluated). All HeadAvoids y.heads) (some_is _ a k.2)
      (all_joined b.0.heads k.0.heads (one_avoids x depth size e (constant e) n b.0 l b.1)
      (evaluated_avoids x depth es sizes b.0.numbers k.0 (still_later n b.0.numbers l (one_steps Grown growing x depth size e (constant e) n b.0 b.1)) k.1))

  pub kept_index : (ns : Names) (line depth : ℕ) (r : L.Replicator) (n : Numbers) (i : Indexed) → c < length n.cells → indexed ns line depth r n ≡ Some i → EachPair Avoids i.names × Not ((uses_of_replicator i.replicator).writes c)
  kept_index ns line depth (L.each x base count) n i l e =
      let b = bind_some (typed_as ns line Int base) _ i e in
      let k = bind_some (typed_as ns line Int count) _ i b.2 in
      let m = bind_some (more_cells Int x [] n) _ i k.2 in
      let o = bind_some (room depth (size_of_replicator (replicator line (length n.cells) b.0 k.0) no_size) m.0) _ i m.2 in
      subst (λ (y : Indexed). EachPair Avoids y.names × Not ((uses_of_replicator y.replicator).writes c)) (some_is _ i o.2) ((tt, tt), not_equal (length n.cells) l)
    where
      not_equal : (k : ℕ) → c < k → Not (nat_eq k c)
      not_equal k l h = let e = eqb-true k c h in absurd (omega (arith, l, e))

  abbrev pub ListedAvoids : Listed → Type 0
  ListedAvoids (plain_list ts) = Not ((uses_of_targets ts).writes c)
  ListedAvoids (tagged_list k ts) = Not ((uses_of_targets ts).writes c)

  -- ---- under names that avoid it

  module _ (ns : Names) (h : (x : Name) (k : Known) → ns x ≡ Some k → Avoids k) (line : ℕ) where
    variable_stretch_avoids : (k : Known) (r : Primitive × Stretch) → Avoids k → as_variable k ≡ Some r → StretchAvoids r.1
    variable_stretch_avoids (some_cells assignable type q) r g e = subst (λ (y : Primitive × Stretch). StretchAvoids y.1) (some_is (type, q) r e) g
    variable_stretch_avoids (some_cells unassignable type q) r g e = absurd cc
    variable_stretch_avoids (a_value type v) r g e = absurd cc
    variable_stretch_avoids (a_string bytes) r g e = absurd cc
    variable_stretch_avoids (some_channels p q) r g e = absurd cc
    variable_stretch_avoids (a_protocol p) r g e = absurd cc

    variable_of_avoids : (v : Var) (r : Primitive × Stretch) → variable_of ns line v ≡ Some r → StretchAvoids r.1
    variable_of_avoids (var x es) r e =
        let k = bind_some (ns x) _ r e in
        let a = bind_some (as_variable k.0) _ r k.2 in
        let s = bind_some (typed_subscripts ns line es) _ r a.2 in
        let q = bind_some (under a.0.1 s.0) _ r s.2 in
        let f = bind_some (left_by s.0 a.0.1.left) _ q.0 q.1 in
        subst (λ (y : Primitive × Stretch). StretchAvoids y.1) (some_is (a.0.0, q.0) r q.2)
        (subst StretchAvoids (some_is _ q.0 f.2) (variable_stretch_avoids k.0 a.0 (h x k.0 k.1) a.1))

    written : (r : Stretch) → StretchAvoids r → Not ((uses_of_target (Into (place_of line r))).writes c)
    written r g = either_false (named_by (place_of line r) c) false (part_avoids r.subscripts r.first r.sizes (span r.first (product r.sizes)) g g) (λ k. absurd cc)

    abbrev AimAvoids : Aim → Type 0
    AimAvoids (aim t r) = StretchAvoids r
    AimAvoids (counted_aim p a) = StretchAvoids p.1 × StretchAvoids a.1

    aim_avoids : (t : L.Target) (a : Aim) → aim_of ns line t ≡ Some a → AimAvoids a
    aim_avoids (into v) a e =
        let r = bind_some (variable_of ns line v) _ a e in
        subst AimAvoids (some_is (aim r.0.0 r.0.1) a r.2) (variable_of_avoids v r.0 r.1)
    aim_avoids (into_counted v w) a e =
        let p = bind_some (variable_of ns line v) _ a e in
        let b = bind_some (variable_of ns line w) _ a p.2 in
        subst AimAvoids (some_is (counted_aim p.0 b.0) a b.2) (variable_of_avoids v p.0 p.1, variable_of_avoids w b.0 b.1)

    abbrev TargetAvoids : Target → Type 0
    TargetAvoids t = Not ((uses_of_target t).writes c)

    counted_target_avoids : (count type : Primitive) (p a : Primitive × Stretch) (left : List ℕ) (t : Target) → StretchAvoids p.1 → StretchAvoids a.1
        → target_of line (CountedOf count type) (counted_aim p (a.0, record a.1 { left = left })) ≡ Some t → TargetAvoids t
    counted_target_avoids count type p a [] t g k f = absurd cc
    counted_target_avoids count type p a (size ∷ m ∷ ms) t g k f = absurd cc
    counted_target_avoids count type p a (size ∷ []) t g k f =
        subst TargetAvoids (kept _ _ t f).1 (either_false ((uses_of_target (Into (place_of line p.1))).writes c) ((uses_of_target (Into (place_of line a.1))).writes c) (written p.1 g) (written a.1 k))

    target_avoids : (p : PartType) (a : Aim) (t : Target) → AimAvoids a → target_of line p a ≡ Some t → TargetAvoids t
    target_avoids (OneOf type) (aim s r) t g f = subst TargetAvoids (kept _ _ t f).1 (written r g)
    target_avoids (OneOf type) (counted_aim p a) t g f = absurd cc
    target_avoids (ManyOf ks type) (aim s r) t g f = subst TargetAvoids (kept _ _ t f).1 (written r g)
    target_avoids (ManyOf ks type) (counted_aim p a) t g f = absurd cc
    target_avoids (CountedOf count type) (aim s r) t g f = absurd cc
    target_avoids (CountedOf count type) (counted_aim p a) t g f = counted_target_avoids count type p a a.1.left t g.0 g.1 f

    targets_avoid : (ps : List PartType) (aims : List Aim) (ts : List Target) → All AimAvoids aims → targets_of line ps aims ≡ Some ts → Not ((uses_of_targets ts).writes c)
    unfolding targets_of
    targets_avoid [] [] ts g e = subst (λ y. Not ((uses_of_targets y).writes c)) (some_is [] ts e) (λ k. absurd cc)
    targets_avoid [] (a ∷ aims) ts g e = absurd cc
    targets_avoid (p ∷ ps) [] ts g e = absurd cc
    targets_avoid (p ∷ ps) (a ∷ aims) ts g e =
        let t = bind_some (target_of line p a) _ ts e in
        let r = bind_some (targets_of line ps aims) _ ts t.2 in
        subst (λ y. Not ((uses_of_targets y).writes c)) (some_is (t.0 ∷ r.0) ts r.2)
        (either_false ((uses_of_target t.0).writes c) ((uses_of_targets r.0).writes c) (target_avoids p a t.0 g.0 t.1) (targets_avoid ps aims r.0 g.1 r.1))

    pub stored_avoids : (parts : List PartType) (ts : List L.Target) (targets : List Target) → stored ns line parts ts ≡ Some targets → Not ((uses_of_targets targets).writes c)
    stored_avoids parts ts targets e =
        let a = bind_some (each_of (aim_of ns line) ts) _ targets e in
        let r = bind_some (apart (stretches_of a.0)) _ targets a.2 in
        targets_avoid parts a.0 targets (all_of AimAvoids (aim_of ns line) aim_avoids ts a.0 a.1) r.2

    pub received_avoids : (i : L.Input) (p : Place × Listed) → received ns line i ≡ Some p → ListedAvoids p.1
    received_avoids (L.items v t ts) p e =
        let k = bind_some (channel_of ns line v) _ p e in
        let a = bind_some (parts_after k.0.0 None) _ p k.2 in
        let s = bind_some (stored ns line a.0 (t ∷ ts)) _ p a.2 in
        subst (λ (y : Place × Listed). ListedAvoids y.1) (some_is (k.0.1, plain_list s.0) p s.2) (stored_avoids a.0 (t ∷ ts) s.0 s.1)
    received_avoids (L.tagged v x ts) p e =
        let k = bind_some (channel_of ns line v) _ p e in
        let n = bind_some (tag_in k.0.0 x) _ p k.2 in
        let a = bind_some (parts_after k.0.0 (Some n.0)) _ p n.2 in
        let s = bind_some (stored ns line a.0 ts) _ p a.2 in
        subst (λ (y : Place × Listed). ListedAvoids y.1) (some_is (k.0.1, tagged_list n.0 s.0) p s.2) (stored_avoids a.0 ts s.0 s.1)

    stretches_avoid : (rs : List (Primitive × Stretch)) → All (λ (r : Primitive × Stretch). StretchAvoids r.1) rs → Not ((uses_of_targets (map (as_target line) rs)).writes c)
    stretches_avoid [] g = λ k. absurd cc
    stretches_avoid (r ∷ rs) g = either_false ((uses_of_target (as_target line r)).writes c) ((uses_of_targets (map (as_target line) rs)).writes c) (written r.1 g.0) (stretches_avoid rs g.1)

    pub assigned_avoids : (vs : List Var) (es : List Expression) (t : Term) → assigned ns line vs es ≡ Some t → Not ((uses_of t).writes c)
    assigned_avoids vs es t e =
        let a = bind_some (each_of (typed ns line) es) _ t e in
        let b = bind_some (each_of (variable_of ns line) vs) _ t a.2 in
        let q = bind_some (apart (map (λ r. r.1) b.0)) _ t b.2 in
        let o = bind_some (assigned_items b.0 a.0) _ t q.2 in
        subst (λ y. Not ((uses_of y).writes c)) (some_is (T.Assign (map (as_target line) b.0) o.0) t o.2)
        (stretches_avoid b.0 (all_of (λ (r : Primitive × Stretch). StretchAvoids r.1) (variable_of ns line) variable_of_avoids vs b.0 b.1))

    pub output_avoids : (v : Var) (o : L.Out) (os : List L.Out) (t : Term) → A.output ns line v o os ≡ Some t → Not ((uses_of t).writes c)
    output_avoids v o os t e =
        let k = bind_some (channel_of ns line v) _ t e in
        let s = bind_some (sent ns line k.0.0 o os) _ t k.2 in
        subst (λ y. Not ((uses_of y).writes c)) (some_is (T.Output k.0.1 s.0.0 s.0.1) t s.2) (λ q. absurd cc)

    -- ---- actuals

    actual_avoids : (depth : ℕ) (x : Name) (w : Wanted) (e : Expression) (n : Numbers) (o : Opened) → c < length n.cells → actual_of ns line depth x w e n ≡ Some o → OpenedAvoids o
    actual_avoids depth x (wants_value sizes type) e n o l g =
        let v = bind_some (typed ns line e) _ o g in
        let w = bind_some (keep (has_type sizes type v.0) v.0) _ o v.2 in
        named_avoids x depth w.0 n o l w.2
    actual_avoids depth x (wants_variable sizes type) e n o l g =
        let v = bind_some (as_named e) _ o g in
        let k = bind_some (ns v.0.0) _ o v.2 in
        let r = bind_some (as_variable k.0) _ o k.2 in
        let t = bind_some (typed_subscripts ns line v.0.1) _ o r.2 in
        let a = bind_some (all_evaluated x depth t.0 r.0.1.left n) _ o t.2 in
        subst OpenedAvoids (kept _ _ o a.2).1 ((variable_stretch_avoids k.0 r.0 (h v.0.0 k.0 k.1) r.1, tt), evaluated_avoids x depth t.0 r.0.1.left n a.0 l a.1)
    actual_avoids depth x (wants_channels sizes p) e n o l g =
        let v = bind_some (as_named e) _ o g in
        let k = bind_some (ns v.0.0) _ o v.2 in
        let r = bind_some (as_channels k.0) _ o k.2 in
        let t = bind_some (typed_subscripts ns line v.0.1) _ o r.2 in
        let a = bind_some (all_evaluated x depth t.0 r.0.1.left n) _ o t.2 in
        subst OpenedAvoids (kept _ _ o a.2).1 ((tt, tt), evaluated_avoids x depth t.0 r.0.1.left n a.0 l a.1)

    actuals_avoid : (depth : ℕ) (ws : List (Name × Wanted)) (es : List Expression) (n : Numbers) (o : Opened) → c < length n.cells → all_actuals ns line depth ws es n ≡ Some o → OpenedAvoids o
    unfolding all_actuals
    actuals_avoid depth [] [] n o l e = subst OpenedAvoids (some_is _ o e) (tt, tt)
    actuals_avoid depth [] (a ∷ es) n o l e = absurd cc
    actuals_avoid depth (f ∷ fs) [] n o l e = absurd cc
    actuals_avoid depth (f ∷ fs) (x ∷ es) n o l e =
        let a = bind_some (actual_of ns line depth f.0 f.1 x n) _ o e in
        let b = bind_some (all_actuals ns line depth fs es a.0.numbers) _ o a.2 in
        let p = actual_avoids depth f.0 f.1 x n a.0 l a.1 in
        let q = actuals_avoid depth fs es a.0.numbers b.0 (still_later n a.0.numbers l (actual_steps Grown growing ns line depth f.0 f.1 x n a.0 a.1)) b.1 in
        subst OpenedAvoids (some_is _ o b.2) (each_joined Avoids a.0.names b.0.names p.0 q.0, all_joined a.0.heads b.0.heads p.1 q.1)

    pub bound_avoids : (depth : ℕ) (ws : List (Name × Wanted)) (es : L.Actuals) (n : Numbers) (o : Opened) → c < length n.cells → bound ns line depth ws es n ≡ Some o → OpenedAvoids o
    bound_avoids depth ws es n o l e =
        let b = bind_some (all_actuals ns line depth ws (actual_list es) n) _ o e in
        subst OpenedAvoids (kept _ _ o b.2).1 (actuals_avoid depth ws (actual_list es) n b.0 l b.1)
