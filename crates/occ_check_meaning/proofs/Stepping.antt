-- What holds between the numbers before and after each small step holds of declarations, calls, and all of the tree.
use Rattle.std.proofs.Common.{◌≡◌, ℕ, List, [], ◌∷◌, Option, Some, None, subst}
use Rattle.std.specs.Prelude.{ℤ, length}
use Rattle.occ_tree_grammar.specs.Expressions.Trees.{Expression, Expressions}
use Rattle.occ_tree_grammar.specs.Lines.Trees as L
use Rattle.occ_tree_grammar.specs.Processes.Trees as P
use Rattle.occ_tree_grammar.specs.Processes.Trees.{Decls, Decl, Item}
use Rattle.occ_term.specs.declared.primitive.Primitive.{Primitive}
use Rattle.occ_term.specs.declared.primitive.Primitive.TheVariants.{Int}
use Rattle.occ_term.specs.declared.protocol.Protocol.{Protocol}
use Rattle.occ_term.specs.Messages.{product}
use Rattle.occ_term.specs.Terms as T
use Rattle.occ_term.specs.Terms.{Array, Cells, Text, Item as TermItem, OfOne, OfMany, Clearing, Naming, replicator, Declaration}
use Rattle.occ_term.specs.Sizes as Sizes
use Rattle.occ_term.specs.Sizes.{Size, no_size, size_of_declaration, size_of_replicator}
use Rattle.occ_check_meaning.specs.Scope.{keep, once, Name, Names, names_of, Carried}
use Rattle.occ_check_meaning.specs.Numbers.{Numbers, more_cells, more_channels, room}
use Rattle.occ_check_meaning.specs.Constants.{constant}
use Rattle.occ_check_meaning.specs.Expressions.{Typed, single, whole, typed, typed_as, typed_subscripts}
use Rattle.occ_check_meaning.specs.Types.{sizes_of, carried_of, protocol_of}
use Rattle.occ_check_meaning.specs.Declarations.{Opened, variable_declared, channel_declared, each_declared, names_declared, local_of, value_named, array_named, named, has_type, of_value_type, value_declared, protocol_declared, Indexed, indexed}
use Rattle.occ_check_meaning.specs.Calls.{Wanted, wants_value, wants_variable, wants_channels, Evaluated, one_evaluated, all_evaluated, as_named, actual_list, actual_of, all_actuals, bound}
use Rattle.occ_check_meaning.specs.Items.{as_variable, as_channels}
use Rattle.occ_check_meaning.specs.Operators.{primitive_of}
use Rattle.occ_check_meaning.specs.Performing.{Entered}
use Rattle.occ_check_meaning.specs.ProgramUnfolding.{DeclareItems, no_item, one_item}
use Rattle.occ_check_meaning.specs.Unfolding.{Procedure, Procedures, DeclaresItem, declares_value, declares_protocol, declares_procedure, Declares, declares_names, declares_item, DeclareAll, no_declaration, one_declaration}
use Rattle.occ_check_meaning.proofs.Steps.{bind_some, some_is}
use Rattle.occ_check_meaning.proofs.Counting.{kept}
use Rattle.occ_check_meaning.specs.Numbers.{more_protocols}
use Rattle.occ_check_meaning.specs.Actions.{opening}

-- a relation of numbers that the small steps have, and their chains
pub record Stepping (R : Numbers → Numbers → Type 0) : Type 0 where
  pub same : (n : Numbers) → R n n
  pub chained : (n m l : Numbers) → R n m → R m l → R n l
  pub by_cells : (type : Primitive) (x : Name) (sizes : List ℕ) (n m : Numbers) → more_cells type x sizes n ≡ Some m → R n m
  pub by_channels : (p : Protocol) (x : Name) (sizes : List ℕ) (n m : Numbers) → more_channels p x sizes n ≡ Some m → R n m
  pub by_protocols : (n : Numbers) → R n (more_protocols n)
  pub by_room : (depth : ℕ) (s : Size) (n m : Numbers) → room depth s n ≡ Some m → R n m

module _ (R : Numbers → Numbers → Type 0) (s : Stepping R) where
  Opens : Numbers → Opened → Type 0
  Opens n o = R n o.numbers

  cells_and_room : (type : Primitive) (x : Name) (sizes : List ℕ) (depth : ℕ) (z : Size) (n m o : Numbers) → more_cells type x sizes n ≡ Some m → room depth z m ≡ Some o → R n o
  cells_and_room type x sizes depth z n m o e g = s.chained n m o (s.by_cells type x sizes n m e) (s.by_room depth z m o g)

  pub local_steps : (x : Name) (depth : ℕ) (type : Primitive) (sizes : List ℕ) (value : TermItem) (n : Numbers) (o : Opened) → local_of x depth type sizes value n ≡ Some o → R n o.numbers
  local_steps x depth type sizes value n o e =
      let m = bind_some (more_cells type x sizes n) _ o e in
      let r = bind_some (room depth (size_of_declaration (Naming (length n.cells) value)) m.0) _ o m.2 in
      subst (λ (y : Opened). R n y.numbers) (some_is _ o r.2) (cells_and_room type x sizes depth (size_of_declaration (Naming (length n.cells) value)) n m.0 r.0 m.1 r.1)

  pub value_named_steps : (x : Name) (depth : ℕ) (type : Primitive) (e : T.Expression) (v : Option ℤ) (n : Numbers) (o : Opened) → value_named x depth type e v n ≡ Some o → R n o.numbers
  value_named_steps x depth type e (Some v) n o g = subst (λ (y : Opened). R n y.numbers) (some_is _ o g) (s.same n)
  value_named_steps x depth type e None n o g = local_steps x depth type [] (OfOne type e) n o g

  pub array_named_steps : (x : Name) (depth : ℕ) (type : Primitive) (sizes : List ℕ) (a : Array) (n : Numbers) (o : Opened) → array_named x depth type sizes a n ≡ Some o → R n o.numbers
  array_named_steps x depth type sizes (Text bytes) n o g = subst (λ (y : Opened). R n y.numbers) (some_is _ o g) (s.same n)
  array_named_steps x depth type sizes (Cells p) n o g = local_steps x depth type sizes (OfMany type (Cells p)) n o g

  pub named_steps : (x : Name) (depth : ℕ) (t : Typed) (n : Numbers) (o : Opened) → named x depth t n ≡ Some o → R n o.numbers
  named_steps x depth (single type e) n o g = value_named_steps x depth type e (constant e) n o g
  named_steps x depth (whole type sizes a) n o g = array_named_steps x depth type sizes a n o g

  pub each_steps : (f : Name → Numbers → Option Opened) → ((x : Name) (n : Numbers) (o : Opened) → f x n ≡ Some o → R n o.numbers)
      → (xs : List Name) (n : Numbers) (o : Opened) → each_declared f xs n ≡ Some o → R n o.numbers
  unfolding each_declared
  each_steps f h [] n o e = subst (λ (y : Opened). R n y.numbers) (some_is _ o e) (s.same n)
  each_steps f h (x ∷ xs) n o e =
      let a = bind_some (f x n) _ o e in
      let b = bind_some (each_declared f xs a.0.numbers) _ o a.2 in
      subst (λ (y : Opened). R n y.numbers) (some_is _ o b.2) (s.chained n a.0.numbers b.0.numbers (h x n a.0 a.1) (each_steps f h xs a.0.numbers b.0 b.1))

  pub variable_steps : (depth : ℕ) (type : Primitive) (sizes : List ℕ) (x : Name) (n : Numbers) (o : Opened) → variable_declared depth type sizes x n ≡ Some o → R n o.numbers
  variable_steps depth type sizes x n o e =
      let m = bind_some (more_cells type x sizes n) _ o e in
      let r = bind_some (room depth (size_of_declaration (Clearing (length n.cells) (product sizes))) m.0) _ o m.2 in
      subst (λ (y : Opened). R n y.numbers) (some_is _ o r.2) (cells_and_room type x sizes depth (size_of_declaration (Clearing (length n.cells) (product sizes))) n m.0 r.0 m.1 r.1)

  pub channel_steps : (c : Carried) (sizes : List ℕ) (x : Name) (n : Numbers) (o : Opened) → channel_declared c sizes x n ≡ Some o → R n o.numbers
  channel_steps c sizes x n o e =
      let m = bind_some (more_channels c.protocol x sizes n) _ o e in
      subst (λ (y : Opened). R n y.numbers) (some_is _ o m.2) (s.by_channels c.protocol x sizes n m.0 m.1)

  pub names_steps : (ns : Names) (line depth : ℕ) (es : Expressions) (sort : L.Sort) (xs : List Name) (n : Numbers) (o : Opened) → names_declared ns line depth es sort xs n ≡ Some o → R n o.numbers
  names_steps ns line depth es (L.of_data type) xs n o e =
      let z = bind_some (sizes_of ns line es) _ o e in
      let y = bind_some (once xs) _ o z.2 in
      each_steps (variable_declared depth (primitive_of type) z.0) (variable_steps depth (primitive_of type) z.0) y.0 n o y.2
  names_steps ns line depth es (L.of_channel c) xs n o e =
      let z = bind_some (sizes_of ns line es) _ o e in
      let d = bind_some (carried_of ns line c) _ o z.2 in
      let y = bind_some (once xs) _ o d.2 in
      each_steps (channel_declared d.0 z.0) (channel_steps d.0 z.0) y.0 n o y.2

  pub value_steps : (ns : Names) (line depth : ℕ) (type : Option L.ValueType) (x : Name) (a : Expression) (n : Numbers) (o : Opened) → value_declared ns line depth type x a n ≡ Some o → R n o.numbers
  value_steps ns line depth type x a n o e =
      let v = bind_some (typed ns line a) _ o e in
      let w = bind_some (of_value_type ns line type v.0) _ o v.2 in
      named_steps x depth w.0 n o w.2

  pub protocol_steps : (ns : Names) (p : P.Protocol) (n : Numbers) (o : Opened) → protocol_declared ns p n ≡ Some o → R n o.numbers
  protocol_steps ns p n o e =
      let q = bind_some (protocol_of ns p) _ o e in
      subst (λ (y : Opened). R n y.numbers) (some_is _ o q.2) (s.by_protocols n)

  pub one_steps : (x : Name) (depth size : ℕ) (e : T.Expression) (v : Option ℤ) (n : Numbers) (a : Evaluated) → one_evaluated x depth size e v n ≡ Some a → R n a.numbers
  one_steps x depth size e (Some v) n a g = subst (λ (y : Evaluated). R n y.numbers) (kept _ _ a g).1 (s.same n)
  one_steps x depth size e None n a g =
      let m = bind_some (more_cells Int x [] n) _ a g in
      let r = bind_some (room depth (size_of_declaration (Naming (length n.cells) (OfOne Int e))) m.0) _ a m.2 in
      subst (λ (y : Evaluated). R n y.numbers) (some_is _ a r.2) (cells_and_room Int x [] depth (size_of_declaration (Naming (length n.cells) (OfOne Int e))) n m.0 r.0 m.1 r.1)

  pub evaluated_steps : (x : Name) (depth : ℕ) (es : T.Subscripts) (sizes : List ℕ) (n : Numbers) (a : Evaluated) → all_evaluated x depth es sizes n ≡ Some a → R n a.numbers
  unfolding all_evaluated
  evaluated_steps x depth T.no_subscripts sizes n a g = subst (λ (y : Evaluated). R n y.numbers) (some_is _ a g) (s.same n)
  evaluated_steps x depth (T.then_subscript e es) [] n a g = absurd cc
  evaluated_steps x depth (T.then_subscript e es) (size ∷ sizes) n a g =
      let b = bind_some (one_evaluated x depth size e (constant e) n) _ a g in
      let c = bind_some (all_evaluated x depth es sizes b.0.numbers) _ a b.2 in
      subst (λ (y : Evaluated). R n y.numbers) (some_is _ a c.2)
      (s.chained n b.0.numbers c.0.numbers (one_steps x depth size e (constant e) n b.0 b.1) (evaluated_steps x depth es sizes b.0.numbers c.0 c.1))

  pub actual_steps : (ns : Names) (line depth : ℕ) (x : Name) (w : Wanted) (e : Expression) (n : Numbers) (o : Opened) → actual_of ns line depth x w e n ≡ Some o → R n o.numbers
  actual_steps ns line depth x (wants_value sizes type) e n o g =
      let v = bind_some (typed ns line e) _ o g in
      let w = bind_some (keep (has_type sizes type v.0) v.0) _ o v.2 in
      named_steps x depth w.0 n o w.2
  actual_steps ns line depth x (wants_variable sizes type) e n o g =
      let v = bind_some (as_named e) _ o g in
      let k = bind_some (ns v.0.0) _ o v.2 in
      let r = bind_some (as_variable k.0) _ o k.2 in
      let t = bind_some (typed_subscripts ns line v.0.1) _ o r.2 in
      let a = bind_some (all_evaluated x depth t.0 r.0.1.left n) _ o t.2 in
      subst (λ (y : Opened). R n y.numbers) (kept _ _ o a.2).1 (evaluated_steps x depth t.0 r.0.1.left n a.0 a.1)
  actual_steps ns line depth x (wants_channels sizes c) e n o g =
      let v = bind_some (as_named e) _ o g in
      let k = bind_some (ns v.0.0) _ o v.2 in
      let r = bind_some (as_channels k.0) _ o k.2 in
      let t = bind_some (typed_subscripts ns line v.0.1) _ o r.2 in
      let a = bind_some (all_evaluated x depth t.0 r.0.1.left n) _ o t.2 in
      subst (λ (y : Opened). R n y.numbers) (kept _ _ o a.2).1 (evaluated_steps x depth t.0 r.0.1.left n a.0 a.1)

  pub actuals_steps : (ns : Names) (line depth : ℕ) (ws : List (Name × Wanted)) (es : List Expression) (n : Numbers) (o : Opened) → all_actuals ns line depth ws es n ≡ Some o → R n o.numbers
  unfolding all_actuals
  actuals_steps ns line depth [] [] n o e = subst (λ (y : Opened). R n y.numbers) (some_is _ o e) (s.same n)
  actuals_steps ns line depth [] (a ∷ es) n o e = absurd cc
  actuals_steps ns line depth (f ∷ fs) [] n o e = absurd cc
  actuals_steps ns line depth (f ∷ fs) (x ∷ es) n o e =
      let a = bind_some (actual_of ns line depth f.0 f.1 x n) _ o e in
      let b = bind_some (all_actuals ns line depth fs es a.0.numbers) _ o a.2 in
      subst (λ (y : Opened). R n y.numbers) (some_is _ o b.2) (s.chained n a.0.numbers b.0.numbers (actual_steps ns line depth f.0 f.1 x n a.0 a.1) (actuals_steps ns line depth fs es a.0.numbers b.0 b.1))

  pub bound_steps : (ns : Names) (line depth : ℕ) (ws : List (Name × Wanted)) (es : L.Actuals) (n : Numbers) (o : Opened) → bound ns line depth ws es n ≡ Some o → R n o.numbers
  bound_steps ns line depth ws es n o e =
      let b = bind_some (all_actuals ns line depth ws (actual_list es) n) _ o e in
      subst (λ (y : Opened). R n y.numbers) (kept _ _ o b.2).1 (actuals_steps ns line depth ws (actual_list es) n b.0 b.1)

  pub indexed_steps : (ns : Names) (line depth : ℕ) (r : L.Replicator) (n : Numbers) (i : Indexed) → indexed ns line depth r n ≡ Some i → R n i.numbers
  indexed_steps ns line depth (L.each x base count) n i e =
      let b = bind_some (typed_as ns line Int base) _ i e in
      let k = bind_some (typed_as ns line Int count) _ i b.2 in
      let m = bind_some (more_cells Int x [] n) _ i k.2 in
      let o = bind_some (room depth (size_of_replicator (replicator line (length n.cells) b.0 k.0) no_size) m.0) _ i m.2 in
      subst (λ (y : Indexed). R n y.numbers) (some_is _ i o.2) (cells_and_room Int x [] depth (size_of_replicator (replicator line (length n.cells) b.0 k.0) no_size) n m.0 o.0 m.1 o.1)

  pub opening_steps : (hs : List Declaration) (depth : ℕ) (n : Numbers) (deep : ℕ) (m : Numbers) → opening hs depth n ≡ Some (deep, m) → R n m
  opening_steps [] depth n deep m e = subst (λ (y : ℕ × Numbers). R n y.1) (some_is _ (deep, m) e) (s.same n)
  opening_steps (h ∷ hs) depth n deep m e =
      let r = bind_some (room depth (Sizes.with_node no_size) n) _ (deep, m) e in
      subst (λ (y : ℕ × Numbers). R n y.1) (some_is _ (deep, m) r.2) (s.by_room depth (Sizes.with_node no_size) n r.0 r.1)

  pub item_steps : {sc : Procedures} {depth : ℕ} {n : Numbers} {i : Item} {d : Entered Procedure} → DeclaresItem sc depth n i d → R n d.numbers
  item_steps (declares_value {sc = sc} {depth = depth} {line = line} {n = n} {type = type} {x = x} {e = a} {o = o} e) = value_steps (names_of sc) line depth type x a n o e
  item_steps (declares_protocol {sc = sc} {n = n} {p = p} {o = o} e) = protocol_steps (names_of sc) p n o e
  item_steps (declares_procedure {n = n}) = s.same n

  pub one_declared_steps : {sc : Procedures} {depth : ℕ} {n : Numbers} {x : Decl} {d : Entered Procedure} → Declares sc depth n x d → R n d.numbers
  one_declared_steps (declares_names {sc = sc} {depth = depth} {line = line} {n = n} {es = es} {sort = sort} {x = x} {xs = xs} {o = o} e) = names_steps (names_of sc) line depth es sort (x ∷ xs) n o e
  one_declared_steps (declares_item i) = item_steps i

  pub declared_steps : {sc : Procedures} {depth : ℕ} {n : Numbers} {ds : Decls} {d : Entered Procedure} → DeclareAll sc depth n ds d → R n d.numbers
  declared_steps (no_declaration {n = n}) = s.same n
  declared_steps (one_declaration {n = n} {a = a} {b = b} x y) = s.chained n a.numbers b.numbers (one_declared_steps x) (declared_steps y)

  pub items_steps : {sc : Procedures} {depth : ℕ} {n : Numbers} {is : List Item} {d : Entered Procedure} → DeclareItems sc depth n is d → R n d.numbers
  items_steps (no_item {n = n}) = s.same n
  items_steps (one_item {n = n} {a = a} {b = b} x y) = s.chained n a.numbers b.numbers (item_steps x) (items_steps y)
