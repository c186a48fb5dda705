-- Declarations, actuals and replicators take the next cells, in order.
use Rattle.std.proofs.Common.{◌≡◌, ℕ, ◌+◌, List, [], ◌∷◌, ◌++◌, length, Option, Some, None, refl, sym, subst, ap, ◌∙◌, arith, length-append}
use Rattle.std.specs.Prelude.{ℤ, map}
use Rattle.occ_tree_grammar.specs.Expressions.Trees.{Expression, Expressions}
use Rattle.occ_tree_grammar.specs.Lines.Trees as L
use Rattle.occ_tree_grammar.specs.Processes.Trees as P
use Rattle.occ_term.specs.declared.primitive.Primitive.{Primitive}
use Rattle.occ_term.specs.declared.primitive.Primitive.TheVariants.{Int}
use Rattle.occ_term.specs.Messages.{product}
use Rattle.occ_term.specs.Terms as T
use Rattle.occ_term.specs.Terms.{Array, Cells, Text, place, Item, OfOne, OfMany, Declaration, Clearing, Naming, replicator, Subscripts, no_subscripts, then_subscript}
use Rattle.occ_term.specs.Sizes.{Size, no_size, size_of_declaration, size_of_replicator}
use Rattle.occ_term.specs.Values.{Span, span}
use Rattle.occ_term.specs.Uses.{components, cells_of_item}
use Rattle.occ_term.specs.Typing.{SubscriptsLeave}
use Rattle.occ_term.specs.TermTyping.{Declared}
use Rattle.occ_check_meaning.specs.Scope.{keep, once, Carried, Name, Names}
use Rattle.occ_check_meaning.specs.Numbers.{Numbers, cell, component_names, more_cells, more_channels, room}
use Rattle.occ_check_meaning.specs.Constants.{constant}
use Rattle.occ_check_meaning.specs.Operators.{primitive_of}
use Rattle.occ_check_meaning.specs.Expressions.{Typed, single, whole, typed, typed_as, typed_subscripts}
use Rattle.occ_check_meaning.specs.Types.{sizes_of, carried_of, protocol_of}
use Rattle.occ_check_meaning.specs.Items.{as_variable, as_channels}
use Rattle.occ_check_meaning.specs.Declarations.{Opened, variable_declared, channel_declared, each_declared, names_declared, local_of, value_named, array_named, named, has_type, of_value_type, value_declared, protocol_declared, Indexed, indexed}
use Rattle.occ_check_meaning.specs.Calls.{Wanted, wants_value, wants_variable, wants_channels, Evaluated, one_evaluated, all_evaluated, as_named, actual_list, actual_of, all_actuals, bound}
use Rattle.occ_check_meaning.specs.CellOrder.{cells_of, cells_of_all, index_cell, InOrder}
use Rattle.occ_check_meaning.specs.Having.{NamesHave, TypedHas}
use Rattle.occ_check_meaning.proofs.Steps.{bind_some, some_is}
use Rattle.occ_check_meaning.proofs.Counting.{kept}
use Rattle.occ_check_meaning.proofs.Growth.{cells_length}
use Rattle.occ_check_meaning.proofs.TypedExpressions.{typed_has}
use Rattle.occ_check_meaning.proofs.TypedNames.{of_value_has}

pub both_in_order : (rs bs : List Span) (n m l : ℕ) → InOrder n rs m → InOrder m bs l → InOrder n (rs ++ bs) l
both_in_order [] bs n m l h g = subst (λ k. InOrder k bs l) h g
both_in_order (span first count ∷ rs) bs n m l h g = (h.0, both_in_order rs bs (n + count) m l h.1 g)

pub heads_append : (hs gs : List Declaration) → cells_of_all (hs ++ gs) ≡ cells_of_all hs ++ cells_of_all gs
heads_append [] gs = refl
heads_append (h ∷ hs) gs = ap (λ xs. cells_of h ∷ xs) (heads_append hs gs)

pub heads_in_order : (hs gs : List Declaration) (n m l : ℕ) → InOrder n (cells_of_all hs) m → InOrder m (cells_of_all gs) l → InOrder n (cells_of_all (hs ++ gs)) l
heads_in_order hs gs n m l h g = subst (λ xs. InOrder n xs l) (sym (heads_append hs gs)) (both_in_order (cells_of_all hs) (cells_of_all gs) n m l h g)

abbrev pub Ordered : Numbers → List Declaration → Numbers → Type 0
Ordered n hs m = InOrder (length n.cells) (cells_of_all hs) (length m.cells)

exactly : (type : Primitive) (x : Name) (sizes : List ℕ) (depth : ℕ) (z : Size) (n m o : Numbers) → more_cells type x sizes n ≡ Some m → room depth z m ≡ Some o → length o.cells ≡ length n.cells + product sizes
exactly type x sizes depth z n m o e g =
    let r : length m.cells ≡ length o.cells = ap (λ (y : Numbers). length y.cells) (kept _ _ o g).1 in
    let a : length (n.cells ++ map (cell type) (component_names x sizes)) ≡ length m.cells = ap (λ (y : Numbers). length y.cells) (kept _ _ m e).1 in
    let b = length-append n.cells (map (cell type) (component_names x sizes)) in
    let k = cells_length type x sizes in
    omega (arith, r, a, b, k)

variable_ordered : (depth : ℕ) (type : Primitive) (sizes : List ℕ) (x : Name) (n : Numbers) (o : Opened) → variable_declared depth type sizes x n ≡ Some o → Ordered n o.heads o.numbers
variable_ordered depth type sizes x n o e =
    let m = bind_some (more_cells type x sizes n) _ o e in
    let r = bind_some (room depth (size_of_declaration (Clearing (length n.cells) (product sizes))) m.0) _ o m.2 in
    subst (λ (y : Opened). Ordered n y.heads y.numbers) (some_is _ o r.2) (refl, exactly type x sizes depth (size_of_declaration (Clearing (length n.cells) (product sizes))) n m.0 r.0 m.1 r.1)

channel_ordered : (c : Carried) (sizes : List ℕ) (x : Name) (n : Numbers) (o : Opened) → channel_declared c sizes x n ≡ Some o → Ordered n o.heads o.numbers
channel_ordered c sizes x n o e =
    let m = bind_some (more_channels c.protocol x sizes n) _ o e in
    subst (λ (y : Opened). Ordered n y.heads y.numbers) (some_is _ o m.2) (ap (λ (y : Numbers). length y.cells) (sym (kept _ _ m.0 m.1).1))

each_ordered : (f : Name → Numbers → Option Opened) → ((x : Name) (n : Numbers) (o : Opened) → f x n ≡ Some o → Ordered n o.heads o.numbers)
    → (xs : List Name) (n : Numbers) (o : Opened) → each_declared f xs n ≡ Some o → Ordered n o.heads o.numbers
unfolding each_declared
each_ordered f g [] n o e = subst (λ (y : Opened). Ordered n y.heads y.numbers) (some_is _ o e) refl
each_ordered f g (x ∷ xs) n o e =
    let a = bind_some (f x n) _ o e in
    let b = bind_some (each_declared f xs a.0.numbers) _ o a.2 in
    subst (λ (y : Opened). Ordered n y.heads y.numbers) (some_is _ o b.2)
    (heads_in_order a.0.heads b.0.heads (length n.cells) (length a.0.numbers.cells) (length b.0.numbers.cells) (g x n a.0 a.1) (each_ordered f g xs a.0.numbers b.0 b.1))

pub names_ordered : (ns : Names) (line depth : ℕ) (es : Expressions) (sort : L.Sort) (xs : List Name) (n : Numbers) (o : Opened) → names_declared ns line depth es sort xs n ≡ Some o → Ordered n o.heads o.numbers
names_ordered ns line depth es (L.of_data type) xs n o e =
    let z = bind_some (sizes_of ns line es) _ o e in
    let y = bind_some (once xs) _ o z.2 in
    each_ordered (variable_declared depth (primitive_of type) z.0) (variable_ordered depth (primitive_of type) z.0) y.0 n o y.2
names_ordered ns line depth es (L.of_channel c) xs n o e =
    let z = bind_some (sizes_of ns line es) _ o e in
    let k = bind_some (carried_of ns line c) _ o z.2 in
    let y = bind_some (once xs) _ o k.2 in
    each_ordered (channel_declared k.0 z.0) (channel_ordered k.0 z.0) y.0 n o y.2

-- a Local has as many cells as its value has components
local_ordered : (x : Name) (depth : ℕ) (type : Primitive) (sizes : List ℕ) (value : Item) (n : Numbers) (o : Opened) → cells_of_item value ≡ product sizes → local_of x depth type sizes value n ≡ Some o → Ordered n o.heads o.numbers
local_ordered x depth type sizes value n o i e =
    let m = bind_some (more_cells type x sizes n) _ o e in
    let r = bind_some (room depth (size_of_declaration (Naming (length n.cells) value)) m.0) _ o m.2 in
    subst (λ (y : Opened). Ordered n y.heads y.numbers) (some_is _ o r.2)
    (refl, exactly type x sizes depth (size_of_declaration (Naming (length n.cells) value)) n m.0 r.0 m.1 r.1 ∙ ap (λ k. length n.cells + k) (sym i))

components_left : (types : ℕ → Option Primitive) (es : Subscripts) (sizes left : List ℕ) → SubscriptsLeave types es sizes left → components es sizes ≡ product left
components_left types no_subscripts sizes left h = ap product h
components_left types (then_subscript e es) [] left h = absurd h
components_left types (then_subscript e es) (n ∷ ns) left h = components_left types es ns left h.1

module _ (d : Declared) where
  value_ordered : (x : Name) (depth : ℕ) (type : Primitive) (e : T.Expression) (v : Option ℤ) (n : Numbers) (o : Opened) → value_named x depth type e v n ≡ Some o → Ordered n o.heads o.numbers
  value_ordered x depth type e (Some v) n o g = subst (λ (y : Opened). Ordered n y.heads y.numbers) (some_is _ o g) refl
  value_ordered x depth type e None n o g = local_ordered x depth type [] (OfOne type e) n o refl g

  array_ordered : (x : Name) (depth : ℕ) (type : Primitive) (sizes : List ℕ) (a : Array) (n : Numbers) (o : Opened) → TypedHas d.types (whole type sizes a) → array_named x depth type sizes a n ≡ Some o → Ordered n o.heads o.numbers
  array_ordered x depth type [] a n o t g = absurd t
  array_ordered x depth type (k ∷ ks) (Text bytes) n o t g = subst (λ (y : Opened). Ordered n y.heads y.numbers) (some_is _ o g) refl
  array_ordered x depth type (k ∷ ks) (Cells (place line first sizes subs)) n o t g =
      local_ordered x depth type (k ∷ ks) (OfMany type (Cells (place line first sizes subs))) n o (components_left d.types subs sizes (k ∷ ks) t.1) g

  named_ordered : (x : Name) (depth : ℕ) (t : Typed) (n : Numbers) (o : Opened) → TypedHas d.types t → named x depth t n ≡ Some o → Ordered n o.heads o.numbers
  named_ordered x depth (single type e) n o t g = value_ordered x depth type e (constant e) n o g
  named_ordered x depth (whole type sizes a) n o t g = array_ordered x depth type sizes a n o t g

  pub protocol_ordered : (ns : Names) (p : P.Protocol) (n : Numbers) (o : Opened) → protocol_declared ns p n ≡ Some o → Ordered n o.heads o.numbers
  protocol_ordered ns p n o e =
      let q = bind_some (protocol_of ns p) _ o e in
      subst (λ (y : Opened). Ordered n y.heads y.numbers) (some_is _ o q.2) refl

  one_ordered : (x : Name) (depth size : ℕ) (e : T.Expression) (v : Option ℤ) (n : Numbers) (a : Evaluated) → one_evaluated x depth size e v n ≡ Some a → Ordered n a.heads a.numbers
  one_ordered x depth size e (Some v) n a g = subst (λ (y : Evaluated). Ordered n y.heads y.numbers) (kept _ _ a g).1 refl
  one_ordered x depth size e None n a g =
      let m = bind_some (more_cells Int x [] n) _ a g in
      let r = bind_some (room depth (size_of_declaration (Naming (length n.cells) (OfOne Int e))) m.0) _ a m.2 in
      subst (λ (y : Evaluated). Ordered n y.heads y.numbers) (some_is _ a r.2) (refl, exactly Int x [] depth (size_of_declaration (Naming (length n.cells) (OfOne Int e))) n m.0 r.0 m.1 r.1)

  evaluated_ordered : (x : Name) (depth : ℕ) (es : Subscripts) (sizes : List ℕ) (n : Numbers) (a : Evaluated) → all_evaluated x depth es sizes n ≡ Some a → Ordered n a.heads a.numbers
  unfolding all_evaluated
  evaluated_ordered x depth no_subscripts sizes n a g = subst (λ (y : Evaluated). Ordered n y.heads y.numbers) (some_is _ a g) refl
  evaluated_ordered x depth (then_subscript e es) [] n a g = absurd cc
  evaluated_ordered x depth (then_subscript e es) (size ∷ sizes) n a g =
      let b = bind_some (one_evaluated x depth size e (constant e) n) _ a g in
      let c = bind_some (all_evaluated x depth es sizes b.0.numbers) _ a b.2 in
      subst (λ (y : Evaluated). Ordered n y.heads y.numbers) (some_is _ a c.2)
      (heads_in_order b.0.heads c.0.heads (length n.cells) (length b.0.numbers.cells) (length c.0.numbers.cells) (one_ordered x depth size e (constant e) n b.0 b.1) (evaluated_ordered x depth es sizes b.0.numbers c.0 c.1))

  module _ (ns : Names) (h : NamesHave d ns) (line : ℕ) where
    pub value_declared_ordered : (depth : ℕ) (type : Option L.ValueType) (x : Name) (a : Expression) (n : Numbers) (o : Opened) → value_declared ns line depth type x a n ≡ Some o → Ordered n o.heads o.numbers
    value_declared_ordered depth type x a n o e =
        let v = bind_some (typed ns line a) _ o e in
        let w = bind_some (of_value_type ns line type v.0) _ o v.2 in
        named_ordered x depth w.0 n o (of_value_has d ns line type v.0 w.0 (typed_has d ns h line a v.0 v.1) w.1) w.2

    actual_ordered : (depth : ℕ) (x : Name) (w : Wanted) (e : Expression) (n : Numbers) (o : Opened) → actual_of ns line depth x w e n ≡ Some o → Ordered n o.heads o.numbers
    actual_ordered depth x (wants_value sizes type) e n o g =
        let v = bind_some (typed ns line e) _ o g in
        let w = bind_some (keep (has_type sizes type v.0) v.0) _ o v.2 in
        named_ordered x depth w.0 n o (subst (TypedHas d.types) (kept _ _ w.0 w.1).1 (typed_has d ns h line e v.0 v.1)) w.2
    actual_ordered depth x (wants_variable sizes type) e n o g =
        let v = bind_some (as_named e) _ o g in
        let k = bind_some (ns v.0.0) _ o v.2 in
        let r = bind_some (as_variable k.0) _ o k.2 in
        let t = bind_some (typed_subscripts ns line v.0.1) _ o r.2 in
        let a = bind_some (all_evaluated x depth t.0 r.0.1.left n) _ o t.2 in
        subst (λ (y : Opened). Ordered n y.heads y.numbers) (kept _ _ o a.2).1 (evaluated_ordered x depth t.0 r.0.1.left n a.0 a.1)
    actual_ordered depth x (wants_channels sizes c) e n o g =
        let v = bind_some (as_named e) _ o g in
        let k = bind_some (ns v.0.0) _ o v.2 in
        let r = bind_some (as_channels k.0) _ o k.2 in
        let t = bind_some (typed_subscripts ns line v.0.1) _ o r.2 in
        let a = bind_some (all_evaluated x depth t.0 r.0.1.left n) _ o t.2 in
        subst (λ (y : Opened). Ordered n y.heads y.numbers) (kept _ _ o a.2).1 (evaluated_ordered x depth t.0 r.0.1.left n a.0 a.1)

    actuals_ordered : (depth : ℕ) (ws : List (Name × Wanted)) (es : List Expression) (n : Numbers) (o : Opened) → all_actuals ns line depth ws es n ≡ Some o → Ordered n o.heads o.numbers
    unfolding all_actuals
    actuals_ordered depth [] [] n o e = subst (λ (y : Opened). Ordered n y.heads y.numbers) (some_is _ o e) refl
    actuals_ordered depth [] (a ∷ es) n o e = absurd cc
    actuals_ordered depth (f ∷ fs) [] n o e = absurd cc
    actuals_ordered depth (f ∷ fs) (x ∷ es) n o e =
        let a = bind_some (actual_of ns line depth f.0 f.1 x n) _ o e in
        let b = bind_some (all_actuals ns line depth fs es a.0.numbers) _ o a.2 in
        subst (λ (y : Opened). Ordered n y.heads y.numbers) (some_is _ o b.2)
        (heads_in_order a.0.heads b.0.heads (length n.cells) (length a.0.numbers.cells) (length b.0.numbers.cells) (actual_ordered depth f.0 f.1 x n a.0 a.1) (actuals_ordered depth fs es a.0.numbers b.0 b.1))

    pub bound_ordered : (depth : ℕ) (ws : List (Name × Wanted)) (es : L.Actuals) (n : Numbers) (o : Opened) → bound ns line depth ws es n ≡ Some o → Ordered n o.heads o.numbers
    bound_ordered depth ws es n o e =
        let b = bind_some (all_actuals ns line depth ws (actual_list es) n) _ o e in
        subst (λ (y : Opened). Ordered n y.heads y.numbers) (kept _ _ o b.2).1 (actuals_ordered depth ws (actual_list es) n b.0 b.1)

pub indexed_ordered : (ns : Names) (line depth : ℕ) (r : L.Replicator) (n : Numbers) (i : Indexed) → indexed ns line depth r n ≡ Some i → InOrder (length n.cells) (index_cell i.replicator ∷ []) (length i.numbers.cells)
indexed_ordered ns line depth (L.each x base count) n i e =
    let b = bind_some (typed_as ns line Int base) _ i e in
    let k = bind_some (typed_as ns line Int count) _ i b.2 in
    let m = bind_some (more_cells Int x [] n) _ i k.2 in
    let o = bind_some (room depth (size_of_replicator (replicator line (length n.cells) b.0 k.0) no_size) m.0) _ i m.2 in
    subst (λ (y : Indexed). InOrder (length n.cells) (index_cell y.replicator ∷ []) (length y.numbers.cells)) (some_is _ i o.2)
    (refl, exactly Int x [] depth (size_of_replicator (replicator line (length n.cells) b.0 k.0) no_size) n m.0 o.0 m.1 o.1)
