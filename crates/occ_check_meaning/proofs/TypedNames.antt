-- What declarations, actuals and replicators put into a scope has what is declared, and so have the Clears and Locals before it.
use Rattle.std.proofs.Common.{◌≡◌, ◌≤◌, ℕ, ◌+◌, List, [], ◌∷◌, ◌++◌, length, Option, Some, None, refl, subst, ap, arith, length-append}
use Rattle.std.specs.Prelude.{ℤ, map, ⊤}
use Rattle.occ_tree_grammar.specs.Expressions.Trees.{Expression, Expressions}
use Rattle.occ_tree_grammar.specs.Lines.Trees as L
use Rattle.occ_tree_grammar.specs.Processes.Trees as P
use Rattle.occ_term.specs.declared.primitive.Primitive.{Primitive}
use Rattle.occ_term.specs.declared.primitive.Primitive.TheVariants.{Int}
use Rattle.occ_term.specs.Messages.{product, simple_part}
use Rattle.occ_term.specs.Terms as T
use Rattle.occ_term.specs.Terms.{Array, Cells, Text, Item, OfOne, OfMany, Declaration, Clearing, Naming, replicator}
use Rattle.occ_term.specs.Sizes.{Size, no_size, size_of_declaration, size_of_replicator}
use Rattle.occ_term.specs.Values.{span}
use Rattle.occ_term.specs.Typing.{CellsHave, SubscriptsLeave, ItemHas}
use Rattle.occ_term.specs.TermTyping.{Declared, DeclarationsHave, ReplicatorHas}
use Rattle.occ_check_meaning.specs.Scope.{keep, once, Stretch, assignable, kept as unassignable, Carried, Known, a_value, a_string, some_cells, some_channels, a_protocol, Name, Names}
use Rattle.occ_check_meaning.specs.Numbers.{Numbers, cell, component_names, more_cells, more_channels, room}
use Rattle.occ_check_meaning.specs.Constants.{constant}
use Rattle.occ_check_meaning.specs.Operators.{primitive_of}
use Rattle.occ_check_meaning.specs.Expressions.{Typed, single, whole, typed, typed_as, typed_subscripts}
use Rattle.occ_check_meaning.specs.Types.{sizes_of, carried_of, protocol_of, open_sizes_of}
use Rattle.occ_check_meaning.specs.Items.{as_variable, as_channels}
use Rattle.occ_check_meaning.specs.Declarations.{Opened, with_others, variable_declared, channel_declared, each_declared, names_declared, local_of, value_named, array_named, named, has_type, of_value_type, value_declared, protocol_declared, Indexed, indexed}
use Rattle.occ_check_meaning.specs.Calls.{Wanted, wants_value, wants_variable, wants_channels, Evaluated, one_evaluated, all_evaluated, as_named, actual_list, actual_of, all_actuals, bound}
use Rattle.occ_check_meaning.specs.Growth.{Grown}
use Rattle.occ_check_meaning.specs.Having.{KnownHas, NamesHave, TypedHas, SubscriptsHave}
use Rattle.occ_check_meaning.proofs.Steps.{bind_some, some_is}
use Rattle.occ_check_meaning.proofs.Counting.{kept}
use Rattle.occ_check_meaning.proofs.Scopes.{EachPair, each_joined, pairs_mapped}
use Rattle.occ_check_meaning.proofs.Growth.{cells_length, growing}
use Rattle.occ_check_meaning.proofs.Covering.{Covers, CoversSince, since, since_before, since_later, covers_before, fewer_before, new_cells_have, new_channels_have, constant_typed}
use Rattle.occ_check_meaning.proofs.Stepping.{each_steps, variable_steps, channel_steps, evaluated_steps, actual_steps, actuals_steps}
use Rattle.occ_check_meaning.proofs.TypedExpressions.{typed_has, subscripts_have, leaves_joined, in_one}
use Rattle.occ_check_meaning.proofs.TypedLines.{variable_stretch, channels_stretch, typed_as_has}

-- a variable's cells have numbers below this
abbrev pub LiesBelow : ℕ → Known → Type 0
LiesBelow b (some_cells assignable type r) = r.first + product r.sizes ≤ b
LiesBelow b (some_cells unassignable type r) = ⊤
LiesBelow b (a_value type v) = ⊤
LiesBelow b (a_string bytes) = ⊤
LiesBelow b (some_channels c r) = ⊤
LiesBelow b (a_protocol c) = ⊤

abbrev pub Fits : Declared → ℕ → Known → Type 0
Fits d b k = KnownHas d k × LiesBelow b k

below_later : (b c : ℕ) → b ≤ c → (k : Known) → LiesBelow b k → LiesBelow c k
below_later b c l (some_cells assignable type r) h = omega (arith, h, l)
below_later b c l (some_cells unassignable type r) h = tt
below_later b c l (a_value type v) h = tt
below_later b c l (a_string bytes) h = tt
below_later b c l (some_channels p r) h = tt
below_later b c l (a_protocol p) h = tt

pub fits_later : (d : Declared) (b c : ℕ) → b ≤ c → (k : Known) → Fits d b k → Fits d c k
fits_later d b c l k h = (h.0, below_later b c l k h.1)

-- names, and the Clears and Locals before them
abbrev pub OpenedHas : Declared → Opened → Type 0
OpenedHas d o = EachPair (Fits d (length o.numbers.cells)) o.names × DeclarationsHave d o.heads

module _ (d : Declared) where
  pub declarations_joined : (hs gs : List Declaration) → DeclarationsHave d hs → DeclarationsHave d gs → DeclarationsHave d (hs ++ gs)
  declarations_joined [] gs h g = g
  declarations_joined (x ∷ hs) gs h g = (h.0, declarations_joined hs gs h.1 g)

  both_have : (a b : Opened) → Grown a.numbers b.numbers → OpenedHas d a → OpenedHas d b → OpenedHas d (with_others a b)
  both_have a b g h k = (
    each_joined (Fits d (length b.numbers.cells)) a.names b.names
        (pairs_mapped (Fits d (length a.numbers.cells)) (Fits d (length b.numbers.cells)) (fits_later d (length a.numbers.cells) (length b.numbers.cells) (fewer_before a.numbers b.numbers g)) a.names h.0) k.0,
    declarations_joined a.heads b.heads h.1 k.1,
  )

  -- ---- new cells

  pub cells_then_room : (type : Primitive) (x : Name) (sizes : List ℕ) (depth : ℕ) (z : Size) (n m o : Numbers) → more_cells type x sizes n ≡ Some m → room depth z m ≡ Some o → CoversSince d n o
      → CellsHave d.types (span (length n.cells) (product sizes)) type × (length n.cells + product sizes ≤ length o.cells)
  cells_then_room type x sizes depth z n m o e g h =
      let r = growing.by_room depth z m o g in
      let f = fewer_before m o r in
      let a : length (n.cells ++ map (cell type) (component_names x sizes)) ≡ length m.cells = ap (λ (y : Numbers). length y.cells) (kept _ _ m e).1 in
      let b = length-append n.cells (map (cell type) (component_names x sizes)) in
      let k = cells_length type x sizes in
      (new_cells_have d type x sizes n m e (since_before d n m o r h), omega (arith, f, a, b, k))

  variable_opens : (depth : ℕ) (type : Primitive) (sizes : List ℕ) (x : Name) (n : Numbers) (o : Opened) → variable_declared depth type sizes x n ≡ Some o → CoversSince d n o.numbers → OpenedHas d o
  variable_opens depth type sizes x n o e =
      let m = bind_some (more_cells type x sizes n) _ o e in
      let r = bind_some (room depth (size_of_declaration (Clearing (length n.cells) (product sizes))) m.0) _ o m.2 in
      subst (λ (y : Opened). CoversSince d n y.numbers → OpenedHas d y) (some_is _ o r.2)
      (λ h. let c = cells_then_room type x sizes depth (size_of_declaration (Clearing (length n.cells) (product sizes))) n m.0 r.0 m.1 r.1 h in
      ((((c.0, refl), c.1), tt), ((type, c.0), tt)))

  channel_opens : (c : Carried) (sizes : List ℕ) (x : Name) (n : Numbers) (o : Opened) → channel_declared c sizes x n ≡ Some o → CoversSince d n o.numbers → OpenedHas d o
  channel_opens c sizes x n o e =
      let m = bind_some (more_channels c.protocol x sizes n) _ o e in
      subst (λ (y : Opened). CoversSince d n y.numbers → OpenedHas d y) (some_is _ o m.2)
      (λ h. ((((new_channels_have d c.protocol x sizes n m.0 m.1 h, refl), tt), tt), tt))

  each_opens : (f : Name → Numbers → Option Opened) → ((x : Name) (n : Numbers) (o : Opened) → f x n ≡ Some o → Grown n o.numbers)
      → ((x : Name) (n : Numbers) (o : Opened) → f x n ≡ Some o → CoversSince d n o.numbers → OpenedHas d o)
      → (xs : List Name) (n : Numbers) (o : Opened) → each_declared f xs n ≡ Some o → CoversSince d n o.numbers → OpenedHas d o
  unfolding each_declared
  each_opens f s g [] n o e = subst (λ (y : Opened). CoversSince d n y.numbers → OpenedHas d y) (some_is _ o e) (λ h. (tt, tt))
  each_opens f s g (x ∷ xs) n o e =
      let a = bind_some (f x n) _ o e in
      let b = bind_some (each_declared f xs a.0.numbers) _ o a.2 in
      subst (λ (y : Opened). CoversSince d n y.numbers → OpenedHas d y) (some_is _ o b.2)
      (λ h. let k = each_steps Grown growing f s xs a.0.numbers b.0 b.1 in
      both_have a.0 b.0 k (g x n a.0 a.1 (since_before d n a.0.numbers b.0.numbers k h)) (each_opens f s g xs a.0.numbers b.0 b.1 (since_later d n a.0.numbers b.0.numbers (s x n a.0 a.1) h)))

  pub names_open : (ns : Names) (line depth : ℕ) (es : Expressions) (sort : L.Sort) (xs : List Name) (n : Numbers) (o : Opened) → names_declared ns line depth es sort xs n ≡ Some o → CoversSince d n o.numbers → OpenedHas d o
  names_open ns line depth es (L.of_data type) xs n o e =
      let z = bind_some (sizes_of ns line es) _ o e in
      let y = bind_some (once xs) _ o z.2 in
      each_opens (variable_declared depth (primitive_of type) z.0) (variable_steps Grown growing depth (primitive_of type) z.0) (variable_opens depth (primitive_of type) z.0) y.0 n o y.2
  names_open ns line depth es (L.of_channel c) xs n o e =
      let z = bind_some (sizes_of ns line es) _ o e in
      let k = bind_some (carried_of ns line c) _ o z.2 in
      let y = bind_some (once xs) _ o k.2 in
      each_opens (channel_declared k.0 z.0) (channel_steps Grown growing k.0 z.0) (channel_opens k.0 z.0) y.0 n o y.2

  -- ---- named values

  local_opens : (x : Name) (depth : ℕ) (type : Primitive) (sizes : List ℕ) (value : Item) (n : Numbers) (o : Opened) → ItemHas d.types value (simple_part sizes type) → local_of x depth type sizes value n ≡ Some o → CoversSince d n o.numbers → OpenedHas d o
  local_opens x depth type sizes value n o i e =
      let m = bind_some (more_cells type x sizes n) _ o e in
      let r = bind_some (room depth (size_of_declaration (Naming (length n.cells) value)) m.0) _ o m.2 in
      subst (λ (y : Opened). CoversSince d n y.numbers → OpenedHas d y) (some_is _ o r.2)
      (λ h. let c = cells_then_room type x sizes depth (size_of_declaration (Naming (length n.cells) value)) n m.0 r.0 m.1 r.1 h in
      ((((c.0, refl), tt), tt), ((type, sizes, i, c.0), tt)))

  value_opens : (x : Name) (depth : ℕ) (type : Primitive) (e : T.Expression) (v : Option ℤ) (n : Numbers) (o : Opened) → constant e ≡ v → TypedHas d.types (single type e) → value_named x depth type e v n ≡ Some o → CoversSince d n o.numbers → OpenedHas d o
  value_opens x depth type e (Some v) n o k t g = subst (λ (y : Opened). CoversSince d n y.numbers → OpenedHas d y) (some_is _ o g) (λ h. (((constant_typed d.types e type v t k, tt), tt), tt))
  value_opens x depth type e None n o k t g = local_opens x depth type [] (OfOne type e) n o (refl, t) g

  array_opens : (x : Name) (depth : ℕ) (type : Primitive) (sizes : List ℕ) (a : Array) (n : Numbers) (o : Opened) → TypedHas d.types (whole type sizes a) → array_named x depth type sizes a n ≡ Some o → CoversSince d n o.numbers → OpenedHas d o
  array_opens x depth type [] a n o t g = absurd t
  array_opens x depth type (k ∷ ks) (Text bytes) n o t g = subst (λ (y : Opened). CoversSince d n y.numbers → OpenedHas d y) (some_is _ o g) (λ h. (((t.2, tt), tt), tt))
  array_opens x depth type (k ∷ ks) (Cells p) n o t g = local_opens x depth type (k ∷ ks) (OfMany type (Cells p)) n o (refl, t) g

  named_opens : (x : Name) (depth : ℕ) (t : Typed) (n : Numbers) (o : Opened) → TypedHas d.types t → named x depth t n ≡ Some o → CoversSince d n o.numbers → OpenedHas d o
  named_opens x depth (single type e) n o t g = value_opens x depth type e (constant e) n o refl t g
  named_opens x depth (whole type sizes a) n o t g = array_opens x depth type sizes a n o t g

  pub of_value_has : (ns : Names) (line : ℕ) (type : Option L.ValueType) (v w : Typed) → TypedHas d.types v → of_value_type ns line type v ≡ Some w → TypedHas d.types w
  of_value_has ns line None v w t e = subst (TypedHas d.types) (some_is v w e) t
  of_value_has ns line (Some (L.value_type sizes type)) v w t e =
      let k = bind_some (open_sizes_of ns line sizes) _ w e in
      subst (TypedHas d.types) (kept _ _ w k.2).1 t

  pub protocol_opens : (ns : Names) (p : P.Protocol) (n : Numbers) (o : Opened) → protocol_declared ns p n ≡ Some o → OpenedHas d o
  protocol_opens ns p n o e =
      let q = bind_some (protocol_of ns p) _ o e in
      subst (OpenedHas d) (some_is _ o q.2) (((tt, tt), tt), tt)

  -- ---- subscripts of actuals

  one_has : (x : Name) (depth size : ℕ) (sizes : List ℕ) (e : T.Expression) (v : Option ℤ) (n : Numbers) (a : Evaluated) → constant e ≡ v → TypedHas d.types (single Int e) → one_evaluated x depth size e v n ≡ Some a → Covers d a.numbers
      → SubscriptsLeave d.types a.subscripts (size ∷ sizes) sizes × DeclarationsHave d a.heads
  one_has x depth size sizes e (Some v) n a k t g = subst (λ (y : Evaluated). Covers d y.numbers → SubscriptsLeave d.types y.subscripts (size ∷ sizes) sizes × DeclarationsHave d y.heads) (kept _ _ a g).1 (λ h. ((constant_typed d.types e Int v t k, refl), tt))
  one_has x depth size sizes e None n a k t g =
      let m = bind_some (more_cells Int x [] n) _ a g in
      let r = bind_some (room depth (size_of_declaration (Naming (length n.cells) (OfOne Int e))) m.0) _ a m.2 in
      subst (λ (y : Evaluated). Covers d y.numbers → SubscriptsLeave d.types y.subscripts (size ∷ sizes) sizes × DeclarationsHave d y.heads) (some_is _ a r.2)
      (λ h. let c = cells_then_room Int x [] depth (size_of_declaration (Naming (length n.cells) (OfOne Int e))) n m.0 r.0 m.1 r.1 (since d n r.0 h) in
      ((c.0 (length n.cells) (in_one (length n.cells)), refl), ((Int, [], (refl, t), c.0), tt)))

  evaluated_has : (x : Name) (depth : ℕ) (es : T.Subscripts) (sizes : List ℕ) (n : Numbers) (a : Evaluated) → SubscriptsHave d.types es → all_evaluated x depth es sizes n ≡ Some a → Covers d a.numbers
      → SubscriptsLeave d.types a.subscripts sizes a.left × DeclarationsHave d a.heads
  unfolding all_evaluated
  evaluated_has x depth T.no_subscripts sizes n a s g = subst (λ (y : Evaluated). Covers d y.numbers → SubscriptsLeave d.types y.subscripts sizes y.left × DeclarationsHave d y.heads) (some_is _ a g) (λ h. (refl, tt))
  evaluated_has x depth (T.then_subscript e es) [] n a s g = absurd cc
  evaluated_has x depth (T.then_subscript e es) (size ∷ sizes) n a s g =
      let b = bind_some (one_evaluated x depth size e (constant e) n) _ a g in
      let c = bind_some (all_evaluated x depth es sizes b.0.numbers) _ a b.2 in
      subst (λ (y : Evaluated). Covers d y.numbers → SubscriptsLeave d.types y.subscripts (size ∷ sizes) y.left × DeclarationsHave d y.heads) (some_is _ a c.2)
      (λ h. let k = evaluated_steps Grown growing x depth es sizes b.0.numbers c.0 c.1 in
      let p = one_has x depth size sizes e (constant e) n b.0 refl s.0 b.1 (covers_before d b.0.numbers c.0.numbers k h) in
      let q = evaluated_has x depth es sizes b.0.numbers c.0 s.1 c.1 h in
      (leaves_joined d.types b.0.subscripts c.0.subscripts (size ∷ sizes) sizes c.0.left p.0 q.0, declarations_joined b.0.heads c.0.heads p.1 q.1))

  -- ---- under names that have what is declared, which lie below these numbers

  module _ (ns : Names) (n₀ : ℕ) (h : (x : Name) (k : Known) → ns x ≡ Some k → Fits d n₀ k) (line : ℕ) where
    have : NamesHave d ns
    have x k e = (h x k e).0

    pub value_declared_opens : (depth : ℕ) (type : Option L.ValueType) (x : Name) (a : Expression) (n : Numbers) (o : Opened) → value_declared ns line depth type x a n ≡ Some o → CoversSince d n o.numbers → OpenedHas d o
    value_declared_opens depth type x a n o e =
        let v = bind_some (typed ns line a) _ o e in
        let w = bind_some (of_value_type ns line type v.0) _ o v.2 in
        named_opens x depth w.0 n o (of_value_has ns line type v.0 w.0 (typed_has d ns have line a v.0 v.1) w.1) w.2

    variable_below : (k : Known) (r : Primitive × Stretch) → LiesBelow n₀ k → as_variable k ≡ Some r → r.1.first + product r.1.sizes ≤ n₀
    variable_below (some_cells assignable type q) r g e = subst (λ (y : Primitive × Stretch). y.1.first + product y.1.sizes ≤ n₀) (some_is (type, q) r e) g
    variable_below (some_cells unassignable type q) r g e = absurd cc
    variable_below (a_value type v) r g e = absurd cc
    variable_below (a_string bytes) r g e = absurd cc
    variable_below (some_channels c q) r g e = absurd cc
    variable_below (a_protocol c) r g e = absurd cc

    actual_opens : (depth : ℕ) (x : Name) (w : Wanted) (e : Expression) (n : Numbers) (o : Opened) → n₀ ≤ length n.cells → actual_of ns line depth x w e n ≡ Some o → Covers d o.numbers → OpenedHas d o
    actual_opens depth x (wants_value sizes type) e n o b g =
        let v = bind_some (typed ns line e) _ o g in
        let w = bind_some (keep (has_type sizes type v.0) v.0) _ o v.2 in
        λ c. named_opens x depth w.0 n o (subst (TypedHas d.types) (kept _ _ w.0 w.1).1 (typed_has d ns have line e v.0 v.1)) w.2 (since d n o.numbers c)
    actual_opens depth x (wants_variable sizes type) e n o b g =
        let v = bind_some (as_named e) _ o g in
        let k = bind_some (ns v.0.0) _ o v.2 in
        let r = bind_some (as_variable k.0) _ o k.2 in
        let t = bind_some (typed_subscripts ns line v.0.1) _ o r.2 in
        let a = bind_some (all_evaluated x depth t.0 r.0.1.left n) _ o t.2 in
        subst (λ (y : Opened). Covers d y.numbers → OpenedHas d y) (kept _ _ o a.2).1
        (λ c. let p = evaluated_has x depth t.0 r.0.1.left n a.0 (subscripts_have d ns have line v.0.1 t.0 t.1) a.1 c in
        let q = variable_stretch d ns have line k.0 r.0 (have v.0.0 k.0 k.1) r.1 in
        let l = variable_below k.0 r.0 (h v.0.0 k.0 k.1).1 r.1 in
        let f = fewer_before n a.0.numbers (evaluated_steps Grown growing x depth t.0 r.0.1.left n a.0 a.1) in
        ((((q.0, leaves_joined d.types r.0.1.subscripts a.0.subscripts r.0.1.sizes r.0.1.left a.0.left q.1 p.0), omega (arith, l, f, b)), tt), p.1))
    actual_opens depth x (wants_channels sizes c) e n o b g =
        let v = bind_some (as_named e) _ o g in
        let k = bind_some (ns v.0.0) _ o v.2 in
        let r = bind_some (as_channels k.0) _ o k.2 in
        let t = bind_some (typed_subscripts ns line v.0.1) _ o r.2 in
        let a = bind_some (all_evaluated x depth t.0 r.0.1.left n) _ o t.2 in
        subst (λ (y : Opened). Covers d y.numbers → OpenedHas d y) (kept _ _ o a.2).1
        (λ c. let p = evaluated_has x depth t.0 r.0.1.left n a.0 (subscripts_have d ns have line v.0.1 t.0 t.1) a.1 c in
        let q = channels_stretch d ns have line k.0 r.0 (have v.0.0 k.0 k.1) r.1 in
        ((((q.0, leaves_joined d.types r.0.1.subscripts a.0.subscripts r.0.1.sizes r.0.1.left a.0.left q.1 p.0), tt), tt), p.1))

    actuals_open : (depth : ℕ) (ws : List (Name × Wanted)) (es : List Expression) (n : Numbers) (o : Opened) → n₀ ≤ length n.cells → all_actuals ns line depth ws es n ≡ Some o → Covers d o.numbers → OpenedHas d o
    unfolding all_actuals
    actuals_open depth [] [] n o l e = subst (λ (y : Opened). Covers d y.numbers → OpenedHas d y) (some_is _ o e) (λ h. (tt, tt))
    actuals_open depth [] (a ∷ es) n o l e = absurd cc
    actuals_open depth (f ∷ fs) [] n o l e = absurd cc
    actuals_open depth (f ∷ fs) (x ∷ es) n o l e =
        let a = bind_some (actual_of ns line depth f.0 f.1 x n) _ o e in
        let b = bind_some (all_actuals ns line depth fs es a.0.numbers) _ o a.2 in
        subst (λ (y : Opened). Covers d y.numbers → OpenedHas d y) (some_is _ o b.2)
        (λ c. let k = actuals_steps Grown growing ns line depth fs es a.0.numbers b.0 b.1 in
        let q = fewer_before n a.0.numbers (actual_steps Grown growing ns line depth f.0 f.1 x n a.0 a.1) in
        both_have a.0 b.0 k (actual_opens depth f.0 f.1 x n a.0 l a.1 (covers_before d a.0.numbers b.0.numbers k c)) (actuals_open depth fs es a.0.numbers b.0 (omega (arith, l, q)) b.1 c))

    pub bound_opens : (depth : ℕ) (ws : List (Name × Wanted)) (es : L.Actuals) (n : Numbers) (o : Opened) → n₀ ≤ length n.cells → bound ns line depth ws es n ≡ Some o → Covers d o.numbers → OpenedHas d o
    bound_opens depth ws es n o l e =
        let b = bind_some (all_actuals ns line depth ws (actual_list es) n) _ o e in
        subst (λ (y : Opened). Covers d y.numbers → OpenedHas d y) (kept _ _ o b.2).1 (actuals_open depth ws (actual_list es) n b.0 l b.1)

    -- ---- replicators

    pub indexed_opens : (depth : ℕ) (r : L.Replicator) (n : Numbers) (i : Indexed) → indexed ns line depth r n ≡ Some i → CoversSince d n i.numbers
        → ReplicatorHas d i.replicator × EachPair (Fits d (length i.numbers.cells)) i.names
    indexed_opens depth (L.each x base count) n i e =
        let b = bind_some (typed_as ns line Int base) _ i e in
        let k = bind_some (typed_as ns line Int count) _ i b.2 in
        let m = bind_some (more_cells Int x [] n) _ i k.2 in
        let o = bind_some (room depth (size_of_replicator (replicator line (length n.cells) b.0 k.0) no_size) m.0) _ i m.2 in
        subst (λ (y : Indexed). CoversSince d n y.numbers → ReplicatorHas d y.replicator × EachPair (Fits d (length y.numbers.cells)) y.names) (some_is _ i o.2)
        (λ c. let s = cells_then_room Int x [] depth (size_of_replicator (replicator line (length n.cells) b.0 k.0) no_size) n m.0 o.0 m.1 o.1 c in
        ((s.0 (length n.cells) (in_one (length n.cells)), typed_as_has d ns have line Int base b.0 b.1, typed_as_has d ns have line Int count k.0 k.1), (((s.0, refl), tt), tt)))
