-- What holds of each ALT's arms as they unfold, where they are scoped and of their types, holds of each ALT of a whole term.
use Rattle.std.proofs.Common.{◌≡◌, ℕ, ◌+◌, List, [], ◌∷◌, length, Some, subst, arith}
use Rattle.std.specs.Prelude.{ℤ, map}
use Rattle.occ_tree_grammar.specs.Lines.Trees as L
use Rattle.occ_tree_grammar.specs.Lines.Heads.{ProcessHead, ArmHead, ChoiceHead}
use Rattle.occ_tree_grammar.specs.Processes.Trees.{process, choice, option, arm, variant, under, Node, Body, Nodes, Decls, Item}
use Rattle.occ_tree_grammar.specs.Expressions.Trees.{Expression}
use Rattle.occ_term.specs.declared.primitive.Primitive.{Primitive}
use Rattle.occ_term.specs.declared.protocol.Protocol.{Protocol}
use Rattle.occ_term.specs.Terms.{Term, Terms, Branches, Arms, no_arms, skip_arm, input_arm, declared_arms, each_arm, Choices, no_choices, or_choice, declared_choices, each_choice, Variants, no_variants, or_variant, Options, no_options, or_option, or_else, Declaration, Clearing, Naming, Place}
use Rattle.occ_term.specs.Sizes as Sizes
use Rattle.occ_term.specs.Sizes.{Size, no_size, size_of_expression, size_of_test, size_of_place, size_of_targets, size_of_constants}
use Rattle.occ_term.specs.TypedSteps.{IndicesHave}
use Rattle.occ_term.specs.TermTyping.{Declared}
use Rattle.occ_check_meaning.specs.Scope.{each_of, names_of, within, proc, Names}
use Rattle.occ_check_meaning.specs.Numbers.{Numbers, room}
use Rattle.occ_check_meaning.specs.Expressions.{typed}
use Rattle.occ_check_meaning.specs.Items.{channel_of}
use Rattle.occ_check_meaning.specs.Declarations.{index_of}
use Rattle.occ_check_meaning.specs.Actions.{headed, followed, as_term, Listed, plain_list, tagged_list, as_reception, size_of_list, arms_behind, choices_behind, arms_then, choices_then, variants_then, options_then, Chosen}
use Rattle.occ_check_meaning.specs.Growth.{Grown}
use Rattle.occ_check_meaning.specs.Performing.{Entered}
use Rattle.occ_check_meaning.specs.Unfolding.{Procedure, procedure, Procedures, DeclareAll, Unfolding, unfolds, Performs, skips, stops, assigns, inputs, outputs, calls, takes_variants, sequences, replicates_sequence, runs_beside, replicates_branch, alternates, replicates_alternation, conditions, replicates_conditional, selects, loops, InTurn, no_process, one_process, Beside, no_branch, one_branch, Copies, no_copy, one_copy, Arm, behind_arm, Guards, awaits, is_ready, awaits_variants, nests_arms, replicates_arm, EachArm, under_index, AllArms, no_arm, one_arm, Choice, behind_choice, Tests, tests, nests_choices, replicates_choice, EachChoice, under_choice_index, AllChoices, no_choice, one_choice, Variant, takes, AllVariants, no_variant, one_variant, OneOption, is_one_of, is_none_of, AllOptions, no_option, one_option}
use Rattle.occ_check_meaning.proofs.Steps.{bind_some, some_is}
use Rattle.occ_check_meaning.proofs.Scopes.{each_within, each_behind}
use Rattle.occ_check_meaning.proofs.Growth.{growing, processes_grown}
use Rattle.occ_check_meaning.proofs.Covering.{Covers, since, covers_before}
use Rattle.occ_check_meaning.proofs.Stepping.{bound_steps, indexed_steps, opening_steps, declared_steps}
use Rattle.occ_check_meaning.proofs.TreeSteps.{unfolding_steps, in_turn_steps, beside_steps, copies_steps, arm_steps, arms_steps, choice_steps, choices_steps, variant_steps, variants_steps, option_steps, options_steps}
use Rattle.occ_check_meaning.proofs.TypedNames.{Fits, bound_opens, indexed_opens}
use Rattle.occ_term.specs.Terms.{Place}
use Rattle.occ_check_meaning.specs.Actions.{as_input}
use Rattle.occ_check_meaning.specs.Items.{variable_of, sent, apart, assigned_items}
use Rattle.occ_check_meaning.specs.Actions as A
use Rattle.occ_check_meaning.specs.Actions.{assigned}
use Rattle.occ_check_meaning.proofs.Copies.{copies_typed, first_typed, next_typed}
use Rattle.occ_check_meaning.proofs.TypedTree.{named, have, later, all_have, within_index}
use Rattle.occ_term.specs.TermTyping.{ArmsHave}
use Rattle.occ_term.proofs.TakenArms.{same_again}
use Rattle.occ_check_meaning.specs.Numbers.{at_start}
use Rattle.occ_check_meaning.specs.Actions.{as_term}
use Rattle.occ_check_meaning.specs.Declarations.{Indexed, indexed}
use Rattle.occ_check_meaning.specs.Programs.{channels_from}
use Rattle.occ_check_meaning.specs.ProgramUnfolding.{DeclareItems, ProgramUnfolding, program}
use Rattle.occ_check_meaning.specs.Scoping.{EachAlt, EachAltOfTerms, EachAltOfBranches, EachAltOfArms, EachAltOfReception, EachAltOfVariants, EachAltOfChoices, EachAltOfOptions, IsScoped, SetsTheSameAgain}
use Rattle.occ_check_meaning.proofs.Stepping.{items_steps}
use Rattle.occ_check_meaning.proofs.TreeSteps.{each_arm_steps}
use Rattle.occ_check_meaning.proofs.TypedTree.{arms_have, each_arm_has}
use Rattle.occ_check_meaning.proofs.WellFormed.{few_names, channels_fit, items_have}
use Rattle.occ_check_meaning.proofs.OrderedProgram.{declared_by, covered}
use Rattle.occ_check_meaning.proofs.ScopedArms.{AllIn, arms_are_scoped, one_arm_is_scoped}

-- under whatever has the types and protocols so far, the scope has what it is to have
all_later : (sc : Procedures) (n m : Numbers) → Grown n m → AllIn sc n → AllIn sc m
all_later sc n m g h d c = later d sc n m g (h d (covers_before d n m g c))

all_roomy : (sc : Procedures) (depth : ℕ) (s : Size) (n m : Numbers) → room depth s n ≡ Some m → AllIn sc n → AllIn sc m
all_roomy sc depth s n m e h = all_later sc n m (growing.by_room depth s n m e) h

all_declared : {sc : Procedures} {depth : ℕ} {n : Numbers} {ds : Decls} {e : Entered Procedure} → DeclareAll sc depth n ds e → AllIn sc n → AllIn e.scope e.numbers
all_declared {n = n} {e = e} ds h d c = (all_have d ds (h d (covers_before d n e.numbers (declared_steps Grown growing ds) c)) c).0

all_indexed : (sc : Procedures) (line depth : ℕ) (r : L.Replicator) (n : Numbers) (i : Indexed) → indexed (names_of sc) line depth r n ≡ Some i → AllIn sc n → AllIn (within i.names sc) i.numbers
all_indexed sc line depth r n i x h d c =
    let g = indexed_steps Grown growing (names_of sc) line depth r n i x in
    let q = h d (covers_before d n i.numbers g c) in
    let k = indexed_opens d (names_of sc) (length n.cells) (named d sc n q) line depth r n i x (since d n i.numbers c) in
    within_index d sc n i q g k.1

-- ---- lists of parts

module _ (P : Arms → Type 0) where
  head_each : (h : Declaration) → EachAlt P (as_term h)
  head_each (Clearing first count) = tt
  head_each (Naming first value) = tt

  followed_each : (hs : List Declaration) (t : Term) → EachAlt P t → EachAltOfTerms P (followed hs t)
  followed_each [] t h = (h, tt)
  followed_each (x ∷ hs) t h = (head_each x, followed_each hs t h)

  pub headed_each : (hs : List Declaration) (t : Term) → EachAlt P t → EachAlt P (headed hs t)
  headed_each [] t h = h
  headed_each (x ∷ hs) t h = followed_each (x ∷ hs) t h

  arms_behind_each : (hs : List Declaration) (arms : Arms) → EachAltOfArms P arms → EachAltOfArms P (arms_behind hs arms)
  arms_behind_each [] arms h = h
  arms_behind_each (x ∷ hs) arms h = (arms_behind_each hs arms h, tt)

  choices_behind_each : (hs : List Declaration) (cs : Choices) → EachAltOfChoices P cs → EachAltOfChoices P (choices_behind hs cs)
  choices_behind_each [] cs h = h
  choices_behind_each (x ∷ hs) cs h = (choices_behind_each hs cs h, tt)

  arms_then_each : (a b : Arms) → EachAltOfArms P a → EachAltOfArms P b → EachAltOfArms P (arms_then a b)
  arms_then_each no_arms b h g = g
  arms_then_each (skip_arm e t arms) b h g = (h.0, arms_then_each arms b h.1 g)
  arms_then_each (input_arm e c list arms) b h g = (h.0, arms_then_each arms b h.1 g)
  arms_then_each (declared_arms x inner arms) b h g = (h.0, arms_then_each arms b h.1 g)
  arms_then_each (each_arm r inner arms) b h g = (h.0, arms_then_each arms b h.1 g)

  choices_then_each : (a b : Choices) → EachAltOfChoices P a → EachAltOfChoices P b → EachAltOfChoices P (choices_then a b)
  choices_then_each no_choices b h g = g
  choices_then_each (or_choice e t cs) b h g = (h.0, choices_then_each cs b h.1 g)
  choices_then_each (declared_choices x inner cs) b h g = (h.0, choices_then_each cs b h.1 g)
  choices_then_each (each_choice r inner cs) b h g = (h.0, choices_then_each cs b h.1 g)

  variants_then_each : (a b : Variants) → EachAltOfVariants P a → EachAltOfVariants P b → EachAltOfVariants P (variants_then a b)
  variants_then_each no_variants b h g = g
  variants_then_each (or_variant k ds ts t vs) b h g = (h.0, variants_then_each vs b h.1 g)

  options_then_each : (a b : Options) → EachAltOfOptions P a → EachAltOfOptions P b → EachAltOfOptions P (options_then a b)
  options_then_each no_options b h g = g
  options_then_each (or_option vs ds t os) b h g = (h.0, options_then_each os b h.1 g)
  options_then_each (or_else ds t os) b h g = (h.0, options_then_each os b h.1 g)

  input_each : (c : Place × Listed) → EachAlt P (as_input c)
  input_each (c, plain_list targets) = tt
  input_each (c, tagged_list k targets) = (tt, tt)

  reception_each : (list : Listed) (t : Term) → EachAlt P t → EachAltOfReception P (as_reception list t)
  reception_each (plain_list targets) t h = h
  reception_each (tagged_list k targets) t h = (h, tt)

  assigned_each : (ns : Names) (line : ℕ) (vs : List L.Var) (es : List Expression) (t : Term) → assigned ns line vs es ≡ Some t → EachAlt P t
  assigned_each ns line vs es t e =
      let a = bind_some (each_of (typed ns line) es) _ t e in
      let b = bind_some (each_of (variable_of ns line) vs) _ t a.2 in
      let c = bind_some (apart (map (λ r. r.1) b.0)) _ t b.2 in
      let d = bind_some (assigned_items b.0 a.0) _ t c.2 in
      subst (EachAlt P) (some_is _ t d.2) tt

  output_each : (ns : Names) (line : ℕ) (v : L.Var) (o : L.Out) (os : List L.Out) (t : Term) → A.output ns line v o os ≡ Some t → EachAlt P t
  output_each ns line v o os t e =
      let c = bind_some (channel_of ns line v) _ t e in
      let d = bind_some (sent ns line c.0.0 o os) _ t c.2 in
      subst (EachAlt P) (some_is _ t d.2) tt

-- ---- all of the tree

module _ (d : Declared) (P : Arms → Type 0) (f : (arms : Arms) → IsScoped arms → ArmsHave d arms → P arms) where
  mutual
    pub unfolding_each : {sc : Procedures} {depth : ℕ} {n m : Numbers} {p : Node process} {t : Term} → Unfolding sc depth n p t m → AllIn sc n → Covers d m → EachAlt P t
    unfolding_each (unfolds {depth = depth} {deep = deep} {n = n} {m = m} {d = e} {t = t} ds o p) h c =
        headed_each P e.heads t (performs_each p (all_later e.scope e.numbers m (opening_steps Grown growing e.heads depth e.numbers deep m o) (all_declared ds h)) c)

    performs_each : {sc : Procedures} {line depth : ℕ} {n m : Numbers} {h : ProcessHead} {b : Body (under process h)} {t : Term} → Performs sc line depth n h b t m → AllIn sc n → Covers d m → EachAlt P t
    performs_each (skips r) h c = tt
    performs_each (stops r) h c = tt
    performs_each (assigns {sc = sc} {line = line} {v = v} {vs = vs} {e = e} {es = es} {t = t} a r) h c = assigned_each P (names_of sc) line (v ∷ vs) (e ∷ es) t a
    performs_each (inputs {c = p} a r) h c = input_each P p
    performs_each (outputs {sc = sc} {line = line} {v = v} {o = o} {os = os} {t = t} a r) h c = output_each P (names_of sc) line v o os t a
    performs_each (calls {sc = sc} {outer = outer} {line = line} {depth = depth} {deep = deep} {declared = declared} {n = n} {m = m} {f = g} {es = es} {fs = fs} {body = body} {ws = ws} {b = b} {t = t} e w a o u) h c =
        headed_each P b.heads t
        (unfolding_each u (all_later (within b.names outer) b.numbers m (opening_steps Grown growing b.heads depth b.numbers deep m o)
        (λ k q. let s = bound_steps Grown growing (names_of sc) line (depth + 1) ws es n b a in
        let i = h k (covers_before k n b.numbers s q) in
        let y = bound_opens k (names_of sc) (length n.cells) (named k sc n i) line (depth + 1) ws es n b (omega arith) a q in
        each_within (Fits k (length b.numbers.cells)) b.names outer y.0 (later k outer n b.numbers s (each_behind (Fits k (length n.cells)) sc g (proc (procedure declared fs body)) outer i e)))) c)
    performs_each (takes_variants {sc = sc} {depth = depth} {n = n} {m = m} {c = x} e w r u) h c = variants_each u (all_roomy sc depth (Sizes.with_node (size_of_place x.1)) n m r h) c
    performs_each (sequences {sc = sc} {depth = depth} {n = n} {m = m} r u) h c = in_turn_each u (all_roomy sc depth (Sizes.with_node no_size) n m r h) c
    performs_each (replicates_sequence {sc = sc} {line = line} {depth = depth} {n = n} {m = m} {r = r} {i = i} o x u) h c =
        unfolding_each u (all_indexed sc line (depth + 1) r m i x (all_roomy sc depth (Sizes.with_node no_size) n m o h)) c
    performs_each (runs_beside {sc = sc} {depth = depth} {n = n} {m = m} r u) h c = beside_each u (all_roomy sc depth (Sizes.with_node no_size) n m r h) c
    performs_each (replicates_branch {sc = sc} {line = line} {depth = depth} {n = n} {m = m} {l = l} {r = r} {c = x} e o u) h c =
        let g = copies_steps Grown growing processes_grown u in
        let b = covers_before d n m (growing.by_room depth (Sizes.with_node no_size) n m o) (covers_before d m l g c) in
        copies_each u (copies_typed d (names_of sc) (have d sc n (h d b)) line r x e) (all_roomy sc depth (Sizes.with_node no_size) n m o h) c
    performs_each (alternates {sc = sc} {depth = depth} {n = n} {m = m} {l = l} {arms = arms} r u) h c =
        let q = all_roomy sc depth (Sizes.with_node no_size) n m r h in
        (f arms (arms_are_scoped d u q c) (arms_have d u (q d (covers_before d m l (arms_steps Grown growing processes_grown u) c)) c), arms_each u q c)
    performs_each (replicates_alternation {sc = sc} {depth = depth} {n = n} {m = m} {l = l} {arms = arms} r u) h c =
        let q = all_roomy sc depth (Sizes.with_node no_size) n m r h in
        (f arms (one_arm_is_scoped d u q c) (each_arm_has d u (q d (covers_before d m l (each_arm_steps Grown growing processes_grown u) c)) c), each_arm_each u q c)
    performs_each (conditions {sc = sc} {depth = depth} {n = n} {m = m} r u) h c = choices_each u (all_roomy sc depth (Sizes.with_node no_size) n m r h) c
    performs_each (replicates_conditional {sc = sc} {depth = depth} {n = n} {m = m} r u) h c = each_choice_each u (all_roomy sc depth (Sizes.with_node no_size) n m r h) c
    performs_each (selects {sc = sc} {depth = depth} {n = n} {m = m} {s = s} v r u) h c = options_each u (all_roomy sc depth (Sizes.with_node (size_of_expression s.1)) n m r h) c
    performs_each (loops {sc = sc} {depth = depth} {n = n} {m = m} {c = x} v r u) h c = unfolding_each u (all_roomy sc depth (Sizes.with_node (size_of_expression x)) n m r h) c

    in_turn_each : {sc : Procedures} {depth : ℕ} {n m : Numbers} {ps : Nodes process} {ts : Terms} → InTurn sc depth n ps ts m → AllIn sc n → Covers d m → EachAltOfTerms P ts
    in_turn_each no_process h c = tt
    in_turn_each (one_process {sc = sc} {n = n} {m = m} {l = l} u us) h c =
        (unfolding_each u h (covers_before d m l (in_turn_steps Grown growing processes_grown us) c), in_turn_each us (all_later sc n m (unfolding_steps Grown growing processes_grown u) h) c)

    beside_each : {sc : Procedures} {depth : ℕ} {n m : Numbers} {ps : Nodes process} {bs : Branches} → Beside sc depth n ps bs m → AllIn sc n → Covers d m → EachAltOfBranches P bs
    beside_each no_branch h c = tt
    beside_each (one_branch {sc = sc} {n = n} {o = o} {m = m} {l = l} e u us) h c =
        let q = all_later sc n o (processes_grown n o e) h in
        (unfolding_each u q (covers_before d m l (beside_steps Grown growing processes_grown us) c), beside_each us (all_later sc o m (unfolding_steps Grown growing processes_grown u) q) c)

    copies_each : {sc : Procedures} {depth count : ℕ} {r : L.Replicator} {p : Node process} {i : ℤ} {n m : Numbers} {bs : Branches} → Copies sc depth r p count i n bs m → IndicesHave i count → AllIn sc n → Covers d m → EachAltOfBranches P bs
    copies_each no_copy k h c = tt
    copies_each (one_copy {sc = sc} {k = count} {r = r} {i = i} {n = n} {o = o} {m = m} {l = l} e u us) k h c =
        let q = all_later sc n o (processes_grown n o e) h in (
          unfolding_each u (λ y x. each_within (Fits y (length o.cells)) (index_of r i) sc ((first_typed count i k, tt), tt) (q y x)) (covers_before d m l (copies_steps Grown growing processes_grown us) c),
          copies_each us (next_typed count i k) (all_later sc o m (unfolding_steps Grown growing processes_grown u) q) c,
        )

    arm_each : {sc : Procedures} {depth : ℕ} {n m : Numbers} {a : Node arm} {arms : Arms} → Arm sc depth n a arms m → AllIn sc n → Covers d m → EachAltOfArms P arms
    arm_each (behind_arm {d = e} {arms = arms} ds v u) h c = arms_behind_each P e.heads arms (guards_each u (all_declared ds h) c)

    guards_each : {sc : Procedures} {line depth : ℕ} {n m : Numbers} {h : ArmHead} {b : Body (under arm h)} {arms : Arms} → Guards sc line depth n h b arms m → AllIn sc n → Covers d m → EachAltOfArms P arms
    guards_each (awaits {sc = sc} {depth = depth} {n = n} {m = m} {e = e} {c = x} {t = t} a g r u) h c =
        (reception_each P x.1 t (unfolding_each u (all_roomy sc depth (Sizes.with_node (Sizes.together (size_of_test e) (Sizes.together (size_of_place x.0) (size_of_list x.1)))) n m r h) c), tt)
    guards_each (is_ready {sc = sc} {depth = depth} {n = n} {m = m} {e = e} a r u) h c = (unfolding_each u (all_roomy sc depth (Sizes.with_node (size_of_expression e)) n m r h) c, tt)
    guards_each (awaits_variants {sc = sc} {depth = depth} {n = n} {m = m} {e = e} {c = x} a g w r u) h c =
        (variants_each u (all_roomy sc depth (Sizes.with_node (Sizes.together (size_of_test e) (size_of_place x.1))) n m r h) c, tt)
    guards_each (nests_arms v u) h c = arms_each u h c
    guards_each (replicates_arm v u) h c = each_arm_each u h c

    each_arm_each : {sc : Procedures} {line depth : ℕ} {n m : Numbers} {r : L.Replicator} {a : Node arm} {arms : Arms} → EachArm sc line depth n r a arms m → AllIn sc n → Covers d m → EachAltOfArms P arms
    each_arm_each (under_index {sc = sc} {line = line} {depth = depth} {n = n} {r = r} {i = i} x u) h c = (arm_each u (all_indexed sc line depth r n i x h) c, tt)

    arms_each : {sc : Procedures} {depth : ℕ} {n m : Numbers} {xs : Nodes arm} {arms : Arms} → AllArms sc depth n xs arms m → AllIn sc n → Covers d m → EachAltOfArms P arms
    arms_each no_arm h c = tt
    arms_each (one_arm {sc = sc} {n = n} {m = m} {l = l} {arms = arms} {others = others} u us) h c =
        arms_then_each P arms others (arm_each u h (covers_before d m l (arms_steps Grown growing processes_grown us) c)) (arms_each us (all_later sc n m (arm_steps Grown growing processes_grown u) h) c)

    choice_each : {sc : Procedures} {depth : ℕ} {n m : Numbers} {x : Node choice} {choices : Choices} → Choice sc depth n x choices m → AllIn sc n → Covers d m → EachAltOfChoices P choices
    choice_each (behind_choice {d = e} {choices = choices} ds v u) h c = choices_behind_each P e.heads choices (tests_each u (all_declared ds h) c)

    tests_each : {sc : Procedures} {line depth : ℕ} {n m : Numbers} {h : ChoiceHead} {b : Body (under choice h)} {choices : Choices} → Tests sc line depth n h b choices m → AllIn sc n → Covers d m → EachAltOfChoices P choices
    tests_each (tests {sc = sc} {depth = depth} {n = n} {m = m} {e = e} a r u) h c = (unfolding_each u (all_roomy sc depth (Sizes.with_node (size_of_expression e)) n m r h) c, tt)
    tests_each (nests_choices v u) h c = choices_each u h c
    tests_each (replicates_choice v u) h c = each_choice_each u h c

    each_choice_each : {sc : Procedures} {line depth : ℕ} {n m : Numbers} {r : L.Replicator} {x : Node choice} {choices : Choices} → EachChoice sc line depth n r x choices m → AllIn sc n → Covers d m → EachAltOfChoices P choices
    each_choice_each (under_choice_index {sc = sc} {line = line} {depth = depth} {n = n} {r = r} {i = i} x u) h c = (choice_each u (all_indexed sc line depth r n i x h) c, tt)

    choices_each : {sc : Procedures} {depth : ℕ} {n m : Numbers} {xs : Nodes choice} {choices : Choices} → AllChoices sc depth n xs choices m → AllIn sc n → Covers d m → EachAltOfChoices P choices
    choices_each no_choice h c = tt
    choices_each (one_choice {sc = sc} {n = n} {m = m} {l = l} {choices = choices} {others = others} u us) h c =
        choices_then_each P choices others (choice_each u h (covers_before d m l (choices_steps Grown growing processes_grown us) c)) (choices_each us (all_later sc n m (choice_steps Grown growing processes_grown u) h) c)

    variant_each : {sc : Procedures} {depth k : ℕ} {n m : Numbers} {p : Protocol} {v : Node variant} {xs : Variants} → Variant sc depth n p k v xs m → AllIn sc n → Covers d m → EachAltOfVariants P xs
    variant_each (takes {sc = sc} {depth = depth} {n = n} {o = o} {m = m} {d = e} {targets = targets} r ds g x q u) h c =
        (unfolding_each u (all_roomy e.scope (depth + 1) (size_of_targets targets) e.numbers m q (all_declared ds (all_roomy sc depth (Sizes.with_node no_size) n o r h))) c, tt)

    variants_each : {sc : Procedures} {depth : ℕ} {n m : Numbers} {p : Protocol} {before : List ℕ} {vs : Nodes variant} {xs : Variants} → AllVariants sc depth n p before vs xs m → AllIn sc n → Covers d m → EachAltOfVariants P xs
    variants_each no_variant h c = tt
    variants_each (one_variant {sc = sc} {n = n} {m = m} {l = l} {xs = xs} {others = others} k u us) h c =
        variants_then_each P xs others (variant_each u h (covers_before d m l (variants_steps Grown growing processes_grown us) c)) (variants_each us (all_later sc n m (variant_steps Grown growing processes_grown u) h) c)

    option_each : {sc : Procedures} {depth : ℕ} {n m : Numbers} {type : Primitive} {before q : Chosen} {o : Node option} {options : Options} → OneOption sc depth n type before o options q m → AllIn sc n → Covers d m → EachAltOfOptions P options
    option_each (is_one_of {sc = sc} {depth = depth} {n = n} {o = o} {m = m} {d = e} {vs = vs} r ds g x q u) h c =
        (unfolding_each u (all_roomy e.scope (depth + 1) (size_of_constants vs) e.numbers m q (all_declared ds (all_roomy sc depth (Sizes.with_node no_size) n o r h))) c, tt)
    option_each (is_none_of {sc = sc} {depth = depth} {n = n} {o = o} r ds x u) h c = (unfolding_each u (all_declared ds (all_roomy sc depth (Sizes.with_node no_size) n o r h)) c, tt)

    options_each : {sc : Procedures} {depth : ℕ} {n m : Numbers} {type : Primitive} {before : Chosen} {os : Nodes option} {options : Options} → AllOptions sc depth n type before os options m → AllIn sc n → Covers d m → EachAltOfOptions P options
    options_each no_option h c = tt
    options_each (one_option {sc = sc} {n = n} {m = m} {l = l} {options = options} {others = others} u us) h c =
        options_then_each P options others (option_each u h (covers_before d m l (options_steps Grown growing processes_grown us) c)) (options_each us (all_later sc n m (option_steps Grown growing processes_grown u) h) c)

-- ---- a whole program

items_all : {sc : Procedures} {depth : ℕ} {n : Numbers} {is : List Item} {e : Entered Procedure} → DeclareItems sc depth n is e → AllIn sc n → AllIn e.scope e.numbers
items_all {n = n} {e = e} ds h d c = (items_have d ds (h d (covers_before d n e.numbers (items_steps Grown growing ds) c)) c).0

module _ (m : Numbers) (P : Arms → Type 0) (f : (arms : Arms) → IsScoped arms → ArmsHave (declared_by m) arms → P arms) where
  pub program_each : {is : List Item} {t : Term} → ProgramUnfolding is t m → EachAlt P t
  program_each (program {main = main} {xs = xs} {d = e} {deep = deep} {m = o} {t = t} a x ds q u) =
      let g = opening_steps Grown growing e.heads 0 e.numbers deep o q in
      let k = few_names main.formals xs x in
      headed_each P e.heads t
      (unfolding_each (declared_by m) P f u
      (λ y c. each_within (Fits y (length o.cells)) (channels_from 0 xs) e.scope
      (channels_fit y (length o.cells) (covers_before y at_start e.numbers (items_steps Grown growing ds) (covers_before y e.numbers o g c)) 0 xs (omega (arith, k)))
      (all_later e.scope e.numbers o g (items_all ds (λ z i. tt)) y c)) (covered m))

pub alternatives_are_scoped : {is : List Item} {t : Term} {m : Numbers} → ProgramUnfolding is t m → EachAlt IsScoped t
alternatives_are_scoped {m = m} u = program_each m IsScoped (λ arms s h. s) u

pub arms_set_the_same_again : {is : List Item} {t : Term} {m : Numbers} → ProgramUnfolding is t m → EachAlt SetsTheSameAgain t
arms_set_the_same_again {m = m} u = program_each m SetsTheSameAgain (λ arms x h s s' t es e p q. same_again (declared_by m) arms s s' t es e h x p q) u
