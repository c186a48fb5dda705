-- What a process unfolds to, under a scope that has what is declared at the end, is of its types.
use Rattle.std.proofs.Common.{◌≡◌, ◌<◌, ℕ, ◌+◌, List, [], ◌∷◌, length, IsTrue, Some, subst, arith}
use Rattle.std.specs.Prelude.{ℤ}
use Rattle.occ_tree_grammar.specs.Many.{◌>>=◌}
use Rattle.occ_tree_grammar.specs.Lines.Trees as L
use Rattle.occ_tree_grammar.specs.Lines.Heads.{ProcessHead, ArmHead, ChoiceHead}
use Rattle.occ_tree_grammar.specs.Processes.Trees.{process, choice, option, arm, variant, under, Node, Body, Nodes, Decls, Decl, Item}
use Rattle.occ_tree_grammar.specs.Expressions.Trees.{Expression}
use Rattle.occ_term.specs.declared.primitive.Primitive.{Primitive}
use Rattle.occ_term.specs.declared.primitive.Primitive.TheVariants.{Bool as Boolean, Int}
use Rattle.occ_term.specs.declared.protocol.Protocol.{Protocol}
use Rattle.occ_term.specs.declared.protocol.Protocol.TheVariants.{Simple, CountedArray, Sequential, Variant as WithTags}
use Rattle.occ_term.specs.Messages.{is_of, product, AllOf}
use Rattle.occ_term.specs.Terms as T
use Rattle.occ_term.specs.Terms.{Term, Terms, Branches, Arms, no_arms, skip_arm, input_arm, declared_arms, each_arm, Choices, no_choices, or_choice, declared_choices, each_choice, Variants, no_variants, or_variant, Options, no_options, or_option, or_else, Declaration, Clearing, Naming, replicator}
use Rattle.occ_term.specs.Sizes as Sizes
use Rattle.occ_term.specs.Sizes.{Size, no_size, size_of_expression, size_of_test, size_of_place, size_of_targets, size_of_constants, size_of_replicator}
use Rattle.occ_term.specs.Uses.{Uses, uses_of, uses_of_arms, uses_of_choices}
use Rattle.occ_term.specs.Typing.{is_number, HasType}
use Rattle.occ_term.specs.TypedSteps.{IndicesHave}
use Rattle.occ_term.specs.TermTyping.{HasTags, Declared, ChannelHas, DeclarationHas, DeclarationsHave, IsKept, ReceptionHas, TermHas, TermsHave, BranchesHave, ArmsHave, ChoicesHave, VariantsHave, OptionsHave}
use Rattle.occ_check_meaning.specs.Constants.{constant}
use Rattle.occ_check_meaning.specs.Scope.{names_of, within, proc, Names, Known, a_value, a_string, some_cells, some_channels, a_protocol, assignable, kept as unassignable}
use Rattle.occ_check_meaning.specs.Numbers.{Numbers, more_cells, room}
use Rattle.occ_check_meaning.specs.Expressions.{typed, typed_as, constant_as, as_single}
use Rattle.occ_check_meaning.specs.Declarations.{Indexed, indexed, index_of}
use Rattle.occ_check_meaning.specs.Actions.{headed, followed, as_term, Listed, plain_list, tagged_list, as_reception, size_of_list, arms_behind, choices_behind, arms_then, choices_then, variants_then, options_then, with_tags, selector, Chosen}
use Rattle.occ_check_meaning.specs.Growth.{Grown}
use Rattle.occ_check_meaning.specs.Having.{NamesHave}
use Rattle.occ_check_meaning.specs.Performing.{Entered}
use Rattle.occ_check_meaning.specs.Unfolding.{Procedure, procedure, Procedures, DeclaresItem, declares_value, declares_protocol, declares_procedure, Declares, declares_names, declares_item, DeclareAll, no_declaration, one_declaration, Unfolding, unfolds, Performs, skips, stops, assigns, inputs, outputs, calls, takes_variants, sequences, replicates_sequence, runs_beside, replicates_branch, alternates, replicates_alternation, conditions, replicates_conditional, selects, loops, InTurn, no_process, one_process, Beside, no_branch, one_branch, Copies, no_copy, one_copy, Arm, behind_arm, Guards, awaits, is_ready, awaits_variants, nests_arms, replicates_arm, EachArm, under_index, AllArms, no_arm, one_arm, Choice, behind_choice, Tests, tests, nests_choices, replicates_choice, EachChoice, under_choice_index, AllChoices, no_choice, one_choice, Variant, takes, AllVariants, no_variant, one_variant, OneOption, is_one_of, is_none_of, AllOptions, no_option, one_option}
use Rattle.occ_check_meaning.proofs.Tags.{tagged_by, tagged_with}
use Rattle.occ_check_meaning.proofs.Steps.{bind_some, some_is}
use Rattle.occ_check_meaning.proofs.Counting.{kept}
use Rattle.occ_check_meaning.proofs.Scopes.{EachKnown, EachPair, each_within, each_mapped, each_named, each_behind}
use Rattle.occ_check_meaning.proofs.Growth.{growing, processes_grown}
use Rattle.occ_check_meaning.proofs.Covering.{Covers, CoversSince, since, covers_before, fewer_before, in_span}
use Rattle.occ_check_meaning.proofs.Stepping.{bound_steps, indexed_steps, opening_steps, one_declared_steps, declared_steps}
use Rattle.occ_check_meaning.proofs.TreeSteps.{unfolding_steps, performs_steps, in_turn_steps, beside_steps, copies_steps, arm_steps, guards_steps, arms_steps, choice_steps, tests_steps, choices_steps, variant_steps, variants_steps, option_steps, options_steps}
use Rattle.occ_check_meaning.proofs.TypedExpressions.{single_has, typed_has}
use Rattle.occ_check_meaning.proofs.TypedLines.{All, all_of, channel_has, output_has, stored_has, ListedHas, received_has, input_has, assigned_has, test_has, typed_as_has}
use Rattle.occ_check_meaning.proofs.TypedNames.{Fits, fits_later, declarations_joined, names_open, protocol_opens, value_declared_opens, bound_opens, indexed_opens, cells_then_room}
use Rattle.occ_check_meaning.proofs.Writes.{Not, is_false, Avoids}
use Rattle.occ_check_meaning.proofs.WritesTree.{unfolding_avoids, arm_avoids, choice_avoids}
use Rattle.occ_check_meaning.proofs.Copies.{copies_typed, first_typed, next_typed}

module _ (d : Declared) where
  -- ---- heads before terms, arms and choices

  head_has : (h : Declaration) → DeclarationHas d h → TermHas d (as_term h)
  head_has (Clearing first count) g = g
  head_has (Naming first value) g = g

  followed_has : (hs : List Declaration) (t : Term) → DeclarationsHave d hs → TermHas d t → TermsHave d (followed hs t)
  followed_has [] t h g = (g, tt)
  followed_has (x ∷ hs) t h g = (head_has x h.0, followed_has hs t h.1 g)

  pub headed_has : (hs : List Declaration) (t : Term) → DeclarationsHave d hs → TermHas d t → TermHas d (headed hs t)
  headed_has [] t h g = g
  headed_has (x ∷ hs) t h g = followed_has (x ∷ hs) t h g

  arms_behind_have : (hs : List Declaration) (arms : Arms) → DeclarationsHave d hs → ArmsHave d arms → ArmsHave d (arms_behind hs arms)
  arms_behind_have [] arms h g = g
  arms_behind_have (x ∷ hs) arms h g = (h.0, arms_behind_have hs arms h.1 g, tt)

  choices_behind_have : (hs : List Declaration) (cs : Choices) → DeclarationsHave d hs → ChoicesHave d cs → ChoicesHave d (choices_behind hs cs)
  choices_behind_have [] cs h g = g
  choices_behind_have (x ∷ hs) cs h g = (h.0, choices_behind_have hs cs h.1 g, tt)

  arms_then_have : (a b : Arms) → ArmsHave d a → ArmsHave d b → ArmsHave d (arms_then a b)
  arms_then_have no_arms b h g = g
  arms_then_have (skip_arm e t arms) b h g = (h.0, h.1, arms_then_have arms b h.2 g)
  arms_then_have (input_arm e c list arms) b h g = (h.0, h.1, arms_then_have arms b h.2 g)
  arms_then_have (declared_arms x inner arms) b h g = (h.0, h.1, arms_then_have arms b h.2 g)
  arms_then_have (each_arm r inner arms) b h g = (h.0, h.1, h.2, arms_then_have arms b h.3 g)

  choices_then_have : (a b : Choices) → ChoicesHave d a → ChoicesHave d b → ChoicesHave d (choices_then a b)
  choices_then_have no_choices b h g = g
  choices_then_have (or_choice e t cs) b h g = (h.0, h.1, choices_then_have cs b h.2 g)
  choices_then_have (declared_choices x inner cs) b h g = (h.0, h.1, choices_then_have cs b h.2 g)
  choices_then_have (each_choice r inner cs) b h g = (h.0, h.1, h.2, choices_then_have cs b h.3 g)

  variants_then_have : (p : Protocol) (a b : Variants) → VariantsHave d p a → VariantsHave d p b → VariantsHave d p (variants_then a b)
  variants_then_have p no_variants b h g = g
  variants_then_have p (or_variant k ds ts t vs) b h g = (h.0, h.1, h.2, variants_then_have p vs b h.3 g)

  options_then_have : (type : Primitive) (a b : Options) → OptionsHave d type a → OptionsHave d type b → OptionsHave d type (options_then a b)
  options_then_have type no_options b h g = g
  options_then_have type (or_option vs ds t os) b h g = (h.0, h.1, h.2, options_then_have type os b h.3 g)
  options_then_have type (or_else ds t os) b h g = (h.0, h.1, options_then_have type os b h.2 g)

  -- ---- scopes

  -- all that names stand for has what is declared, and the variables among it are among these numbers' cells
  abbrev pub In : Procedures → Numbers → Type 0
  In sc n = EachKnown (Fits d (length n.cells)) sc

  pub named : (sc : Procedures) (n : Numbers) → In sc n → (x : List ℕ) (k : Known) → names_of sc x ≡ Some k → Fits d (length n.cells) k
  named sc n h x k e = each_named (Fits d (length n.cells)) sc x k h e

  pub have : (sc : Procedures) (n : Numbers) → In sc n → NamesHave d (names_of sc)
  have sc n h x k e = (named sc n h x k e).0

  pub later : (sc : Procedures) (n m : Numbers) → Grown n m → In sc n → In sc m
  later sc n m g h = each_mapped (Fits d (length n.cells)) (Fits d (length m.cells)) (fits_later d (length n.cells) (length m.cells) (fewer_before n m g)) sc h

  pub roomy : (sc : Procedures) (depth : ℕ) (s : Size) (n m : Numbers) → room depth s n ≡ Some m → In sc n → In sc m
  roomy sc depth s n m e h = later sc n m (growing.by_room depth s n m e) h

  pub item_has : {sc : Procedures} {depth : ℕ} {n : Numbers} {i : Item} {e : Entered Procedure} → DeclaresItem sc depth n i e → In sc n → Grown n e.numbers → CoversSince d n e.numbers → In e.scope e.numbers × DeclarationsHave d e.heads
  item_has (declares_value {sc = sc} {depth = depth} {line = line} {n = n} {type = type} {x = x} {e = a} {o = o} e) h g c =
      let k = value_declared_opens d (names_of sc) (length n.cells) (named sc n h) line depth type x a n o e c in
      (each_within (Fits d (length o.numbers.cells)) o.names sc k.0 (later sc n o.numbers g h), k.1)
  item_has (declares_protocol {sc = sc} {n = n} {p = p} {o = o} e) h g c =
      let k = protocol_opens d (names_of sc) p n o e in
      (each_within (Fits d (length o.numbers.cells)) o.names sc k.0 (later sc n o.numbers g h), k.1)
  item_has declares_procedure h g c = (h, tt)

  pub one_has : {sc : Procedures} {depth : ℕ} {n : Numbers} {x : Decl} {e : Entered Procedure} → Declares sc depth n x e → In sc n → Grown n e.numbers → CoversSince d n e.numbers → In e.scope e.numbers × DeclarationsHave d e.heads
  one_has (declares_names {sc = sc} {depth = depth} {line = line} {n = n} {es = es} {sort = sort} {x = x} {xs = xs} {o = o} e) h g c =
      let k = names_open d (names_of sc) line depth es sort (x ∷ xs) n o e c in
      (each_within (Fits d (length o.numbers.cells)) o.names sc k.0 (later sc n o.numbers g h), k.1)
  one_has (declares_item i) h g c = item_has i h g c

  pub all_have : {sc : Procedures} {depth : ℕ} {n : Numbers} {ds : Decls} {e : Entered Procedure} → DeclareAll sc depth n ds e → In sc n → Covers d e.numbers → In e.scope e.numbers × DeclarationsHave d e.heads
  all_have no_declaration h c = (h, tt)
  all_have (one_declaration {n = n} {a = a} {b = b} x y) h c =
      let k = one_has x h (one_declared_steps Grown growing x) (since d n a.numbers (covers_before d a.numbers b.numbers (declared_steps Grown growing y) c)) in
      let q = all_have y k.0 c in
      (q.0, declarations_joined d a.heads b.heads k.1 q.1)

  -- ---- lines

  tags_same : (p q : Protocol) → with_tags p ≡ Some q → p ≡ q
  tags_same (WithTags tags) q e = some_is (WithTags tags) q e
  tags_same (Simple sizes type) q e = absurd cc
  tags_same (CountedArray count type) q e = absurd cc
  tags_same (Sequential ps) q e = absurd cc

  selected : (ns : Names) (h : NamesHave d ns) (line : ℕ) (e : Expression) (s : Primitive × T.Expression) → selector ns line e ≡ Some s → IsTrue (is_number s.0) × HasType d.types s.1 s.0
  selected ns h line e s g =
      let x = bind_some (typed ns line e >>= as_single) _ s g in
      let t = bind_some (typed ns line e) _ x.0 x.1 in
      let k = kept _ _ s x.2 in
      subst (λ (y : Primitive × T.Expression). IsTrue (is_number y.0) × HasType d.types y.1 y.0) k.1 (k.0, single_has d.types t.0 x.0 (typed_has d ns h line e t.0 t.1) t.2)

  constant_has : (ns : Names) (h : NamesHave d ns) (line : ℕ) (type : Primitive) (e : Expression) (v : ℤ) → constant_as ns line type e ≡ Some v → IsTrue (is_of type v)
  constant_has ns h line type e v g =
      let w = bind_some (typed_as ns line type e >>= constant) _ v g in
      let k = kept _ _ v w.2 in
      subst (λ x. IsTrue (is_of type x)) k.1 k.0

  all_of_type : (type : Primitive) (vs : List ℤ) → All (λ v. IsTrue (is_of type v)) vs → AllOf type vs
  all_of_type type [] h = tt
  all_of_type type (v ∷ vs) h = (h.0, all_of_type type vs h.1)

  reception_has : (p : Protocol) (list : Listed) (t : Term) → ListedHas d p list → TermHas d t → ReceptionHas d p (as_reception list t)
  reception_has p (plain_list ts) t h g = (h, g)
  reception_has p (tagged_list k ts) t h g = (h, tt, g, tagged_by p k h.0 h.1)

  -- ---- an index is kept

  apart_from : (b : ℕ) (k : Known) → Fits d b k → Avoids b k
  apart_from b (some_cells assignable type r) h = λ m. let s = in_span r.first (product r.sizes) b m in let l = h.1 in let q = s.1 in absurd (omega (arith, l, q))
  apart_from b (some_cells unassignable type r) h = tt
  apart_from b (a_value type v) h = tt
  apart_from b (a_string bytes) h = tt
  apart_from b (some_channels p r) h = tt
  apart_from b (a_protocol p) h = tt

  -- the index is the first cell that is given out, and a name of it alone
  record IndexIsNew (n : Numbers) (i : Indexed) : Type 0 where
    kept_in : (u : Uses) → Not (u.writes (length n.cells)) → IsKept i.replicator u
    avoids : EachPair (Avoids (length n.cells)) i.names
    later_cells : length n.cells < length i.numbers.cells

  index_is_new : (ns : Names) (line depth : ℕ) (r : L.Replicator) (n : Numbers) (i : Indexed) → indexed ns line depth r n ≡ Some i → Covers d i.numbers → IndexIsNew n i
  index_is_new ns line depth (L.each x base count) n i e =
      let b = bind_some (typed_as ns line Int base) _ i e in
      let k = bind_some (typed_as ns line Int count) _ i b.2 in
      let m = bind_some (more_cells Int x [] n) _ i k.2 in
      let o = bind_some (room depth (size_of_replicator (replicator line (length n.cells) b.0 k.0) no_size) m.0) _ i m.2 in
      subst (λ (y : Indexed). Covers d y.numbers → IndexIsNew n y) (some_is _ i o.2)
      (λ c. let s = cells_then_room d Int x [] depth (size_of_replicator (replicator line (length n.cells) b.0 k.0) no_size) n m.0 o.0 m.1 o.1 (since d n o.0 c) in
      let l = s.1 in
      record { kept_in = λ u q. is_false (u.writes (length n.cells)) q; avoids = (tt, tt); later_cells = omega (arith, l) })

  index_avoids : (sc : Procedures) (n : Numbers) (i : Indexed) → In sc n → IndexIsNew n i → EachKnown (Avoids (length n.cells)) (within i.names sc)
  index_avoids sc n i h g = each_within (Avoids (length n.cells)) i.names sc g.avoids (each_mapped (Fits d (length n.cells)) (Avoids (length n.cells)) (apart_from (length n.cells)) sc h)

  pub within_index : (sc : Procedures) (n : Numbers) (i : Indexed) → In sc n → Grown n i.numbers → EachPair (Fits d (length i.numbers.cells)) i.names → In (within i.names sc) i.numbers
  within_index sc n i h g k = each_within (Fits d (length i.numbers.cells)) i.names sc k (later sc n i.numbers g h)

  -- ---- all of the tree

  mutual
    pub unfolding_has : {sc : Procedures} {depth : ℕ} {n m : Numbers} {p : Node process} {t : Term} → Unfolding sc depth n p t m → In sc n → Covers d m → TermHas d t
    unfolding_has (unfolds {depth = depth} {deep = deep} {n = n} {m = m} {l = l} {d = e} {t = t} ds o p) h c =
        let b = covers_before d m l (performs_steps Grown growing processes_grown p) c in
        let g = opening_steps Grown growing e.heads depth e.numbers deep m o in
        let k = all_have ds h (covers_before d e.numbers m g b) in
        headed_has e.heads t k.1 (performs_has p (later e.scope e.numbers m g k.0) c)

    performs_has : {sc : Procedures} {line depth : ℕ} {n m : Numbers} {h : ProcessHead} {b : Body (under process h)} {t : Term} → Performs sc line depth n h b t m → In sc n → Covers d m → TermHas d t
    performs_has (skips r) h c = tt
    performs_has (stops r) h c = tt
    performs_has (assigns {sc = sc} {line = line} {n = n} {v = v} {vs = vs} {e = e} {es = es} {t = t} a r) h c = assigned_has d (names_of sc) (have sc n h) line (v ∷ vs) (e ∷ es) t a
    performs_has (inputs {sc = sc} {line = line} {n = n} {i = i} {c = p} a r) h c = input_has d p (received_has d (names_of sc) (have sc n h) line i p a)
    performs_has (outputs {sc = sc} {line = line} {n = n} {v = v} {o = o} {os = os} {t = t} a r) h c = output_has d (names_of sc) (have sc n h) line v o os t a
    performs_has (calls {sc = sc} {outer = outer} {line = line} {depth = depth} {deep = deep} {declared = declared} {n = n} {m = m} {l = l} {f = f} {es = es} {fs = fs} {body = body} {ws = ws} {b = b} {t = t} e w a o u) h c =
        let q = covers_before d m l (unfolding_steps Grown growing processes_grown u) c in
        let g = opening_steps Grown growing b.heads depth b.numbers deep m o in
        let s = bound_steps Grown growing (names_of sc) line (depth + 1) ws es n b a in
        let k = bound_opens d (names_of sc) (length n.cells) (named sc n h) line (depth + 1) ws es n b (omega arith) a (covers_before d b.numbers m g q) in
        headed_has b.heads t k.1
        (unfolding_has u (later (within b.names outer) b.numbers m g
        (each_within (Fits d (length b.numbers.cells)) b.names outer k.0 (later outer n b.numbers s (each_behind (Fits d (length n.cells)) sc f (proc (procedure declared fs body)) outer h e)))) c)
    performs_has (takes_variants {sc = sc} {line = line} {depth = depth} {n = n} {m = m} {v = v} {c = x} {p = p} {xs = xs} e w r u) h c =
        (p, subst (λ y. ChannelHas d x.1 y) (tags_same x.0 p w) (channel_has d (names_of sc) (have sc n h) line v x e), variants_have u (tagged_with x.0 p w) (roomy sc depth (Sizes.with_node (size_of_place x.1)) n m r h) c)
    performs_has (sequences {sc = sc} {depth = depth} {n = n} {m = m} r u) h c = in_turn_have u (roomy sc depth (Sizes.with_node no_size) n m r h) c
    performs_has (replicates_sequence {sc = sc} {line = line} {depth = depth} {n = n} {m = m} {l = l} {r = r} {i = i} {t = t} o x u) h c =
        let q = roomy sc depth (Sizes.with_node no_size) n m o h in
        let b = covers_before d i.numbers l (unfolding_steps Grown growing processes_grown u) c in
        let k = indexed_opens d (names_of sc) (length m.cells) (named sc m q) line (depth + 1) r m i x (since d m i.numbers b) in
        let g = index_is_new (names_of sc) line (depth + 1) r m i x b in (
          k.0,
          g.kept_in (uses_of t) (unfolding_avoids (length m.cells) u (index_avoids sc m i q g) g.later_cells),
          unfolding_has u (within_index sc m i q (indexed_steps Grown growing (names_of sc) line (depth + 1) r m i x) k.1) c,
        )
    performs_has (runs_beside {sc = sc} {depth = depth} {n = n} {m = m} r u) h c = beside_have u (roomy sc depth (Sizes.with_node no_size) n m r h) c
    performs_has (replicates_branch {sc = sc} {line = line} {depth = depth} {n = n} {m = m} {r = r} {c = x} e o u) h c =
        copies_have u (copies_typed d (names_of sc) (have sc n h) line r x e) (roomy sc depth (Sizes.with_node no_size) n m o h) c
    performs_has (alternates {sc = sc} {depth = depth} {n = n} {m = m} r u) h c = arms_have u (roomy sc depth (Sizes.with_node no_size) n m r h) c
    performs_has (replicates_alternation {sc = sc} {depth = depth} {n = n} {m = m} r u) h c = each_arm_has u (roomy sc depth (Sizes.with_node no_size) n m r h) c
    performs_has (conditions {sc = sc} {depth = depth} {n = n} {m = m} r u) h c = choices_have u (roomy sc depth (Sizes.with_node no_size) n m r h) c
    performs_has (replicates_conditional {sc = sc} {depth = depth} {n = n} {m = m} r u) h c = each_choice_has u (roomy sc depth (Sizes.with_node no_size) n m r h) c
    performs_has (selects {sc = sc} {line = line} {depth = depth} {n = n} {m = m} {e = e} {s = s} v r u) h c =
        let k = selected (names_of sc) (have sc n h) line e s v in
        (s.0, k.0, k.1, options_have u (roomy sc depth (Sizes.with_node (size_of_expression s.1)) n m r h) c)
    performs_has (loops {sc = sc} {line = line} {depth = depth} {n = n} {m = m} {e = e} {c = x} v r u) h c =
        (typed_as_has d (names_of sc) (have sc n h) line Boolean e x v, unfolding_has u (roomy sc depth (Sizes.with_node (size_of_expression x)) n m r h) c)

    in_turn_have : {sc : Procedures} {depth : ℕ} {n m : Numbers} {ps : Nodes process} {ts : Terms} → InTurn sc depth n ps ts m → In sc n → Covers d m → TermsHave d ts
    in_turn_have no_process h c = tt
    in_turn_have (one_process {sc = sc} {n = n} {m = m} {l = l} u us) h c =
        (unfolding_has u h (covers_before d m l (in_turn_steps Grown growing processes_grown us) c), in_turn_have us (later sc n m (unfolding_steps Grown growing processes_grown u) h) c)

    beside_have : {sc : Procedures} {depth : ℕ} {n m : Numbers} {ps : Nodes process} {bs : Branches} → Beside sc depth n ps bs m → In sc n → Covers d m → BranchesHave d bs
    beside_have no_branch h c = tt
    beside_have (one_branch {sc = sc} {n = n} {o = o} {m = m} {l = l} e u us) h c =
        let q = later sc n o (processes_grown n o e) h in
        (unfolding_has u q (covers_before d m l (beside_steps Grown growing processes_grown us) c), beside_have us (later sc o m (unfolding_steps Grown growing processes_grown u) q) c)

    copies_have : {sc : Procedures} {depth count : ℕ} {r : L.Replicator} {p : Node process} {i : ℤ} {n m : Numbers} {bs : Branches} → Copies sc depth r p count i n bs m
        → IndicesHave i count → In sc n → Covers d m → BranchesHave d bs
    copies_have no_copy k h c = tt
    copies_have (one_copy {sc = sc} {k = count} {r = r} {i = i} {n = n} {o = o} {m = m} {l = l} e u us) k h c =
        let q = later sc n o (processes_grown n o e) h in (
          unfolding_has u (each_within (Fits d (length o.cells)) (index_of r i) sc ((first_typed count i k, tt), tt) q) (covers_before d m l (copies_steps Grown growing processes_grown us) c),
          copies_have us (next_typed count i k) (later sc o m (unfolding_steps Grown growing processes_grown u) q) c,
        )

    arm_has : {sc : Procedures} {depth : ℕ} {n m : Numbers} {a : Node arm} {arms : Arms} → Arm sc depth n a arms m → In sc n → Covers d m → ArmsHave d arms
    arm_has (behind_arm {n = n} {l = l} {d = e} {arms = arms} ds v u) h c =
        let k = all_have ds h (covers_before d e.numbers l (guards_steps Grown growing processes_grown u) c) in
        arms_behind_have e.heads arms k.1 (guards_have u k.0 c)

    guards_have : {sc : Procedures} {line depth : ℕ} {n m : Numbers} {h : ArmHead} {b : Body (under arm h)} {arms : Arms} → Guards sc line depth n h b arms m → In sc n → Covers d m → ArmsHave d arms
    guards_have (awaits {sc = sc} {line = line} {depth = depth} {n = n} {m = m} {test = test} {i = i} {e = e} {c = x} {t = t} a g r u) h c =
        let k = received_has d (names_of sc) (have sc n h) line i x g in (
          test_has d (names_of sc) (have sc n h) line test e a,
          (k.0, k.1, reception_has k.0 x.1 t k.2 (unfolding_has u (roomy sc depth (Sizes.with_node (Sizes.together (size_of_test e) (Sizes.together (size_of_place x.0) (size_of_list x.1)))) n m r h) c)),
          tt,
        )
    guards_have (is_ready {sc = sc} {line = line} {depth = depth} {n = n} {m = m} {test = test} {e = e} a r u) h c =
        (typed_as_has d (names_of sc) (have sc n h) line Boolean test e a, unfolding_has u (roomy sc depth (Sizes.with_node (size_of_expression e)) n m r h) c, tt)
    guards_have (awaits_variants {sc = sc} {line = line} {depth = depth} {n = n} {m = m} {test = test} {v = v} {e = e} {c = x} {p = p} a g w r u) h c = (
      test_has d (names_of sc) (have sc n h) line test e a,
      (
        p,
        subst (λ y. ChannelHas d x.1 y) (tags_same x.0 p w) (channel_has d (names_of sc) (have sc n h) line v x g),
        variants_have u (tagged_with x.0 p w) (roomy sc depth (Sizes.with_node (Sizes.together (size_of_test e) (size_of_place x.1))) n m r h) c,
      ),
      tt,
    )
    guards_have (nests_arms v u) h c = arms_have u h c
    guards_have (replicates_arm v u) h c = each_arm_has u h c

    pub each_arm_has : {sc : Procedures} {line depth : ℕ} {n m : Numbers} {r : L.Replicator} {a : Node arm} {arms : Arms} → EachArm sc line depth n r a arms m → In sc n → Covers d m → ArmsHave d arms
    each_arm_has (under_index {sc = sc} {line = line} {depth = depth} {n = n} {l = l} {r = r} {i = i} {arms = arms} x u) h c =
        let b = covers_before d i.numbers l (arm_steps Grown growing processes_grown u) c in
        let k = indexed_opens d (names_of sc) (length n.cells) (named sc n h) line depth r n i x (since d n i.numbers b) in
        let g = index_is_new (names_of sc) line depth r n i x b in (
          k.0,
          g.kept_in (uses_of_arms arms) (arm_avoids (length n.cells) u (index_avoids sc n i h g) g.later_cells),
          arm_has u (within_index sc n i h (indexed_steps Grown growing (names_of sc) line depth r n i x) k.1) c,
          tt,
        )

    pub arms_have : {sc : Procedures} {depth : ℕ} {n m : Numbers} {xs : Nodes arm} {arms : Arms} → AllArms sc depth n xs arms m → In sc n → Covers d m → ArmsHave d arms
    arms_have no_arm h c = tt
    arms_have (one_arm {sc = sc} {n = n} {m = m} {l = l} {arms = arms} {others = others} u us) h c =
        arms_then_have arms others (arm_has u h (covers_before d m l (arms_steps Grown growing processes_grown us) c)) (arms_have us (later sc n m (arm_steps Grown growing processes_grown u) h) c)

    choice_has : {sc : Procedures} {depth : ℕ} {n m : Numbers} {x : Node choice} {choices : Choices} → Choice sc depth n x choices m → In sc n → Covers d m → ChoicesHave d choices
    choice_has (behind_choice {n = n} {l = l} {d = e} {choices = choices} ds v u) h c =
        let k = all_have ds h (covers_before d e.numbers l (tests_steps Grown growing processes_grown u) c) in
        choices_behind_have e.heads choices k.1 (tests_have u k.0 c)

    tests_have : {sc : Procedures} {line depth : ℕ} {n m : Numbers} {h : ChoiceHead} {b : Body (under choice h)} {choices : Choices} → Tests sc line depth n h b choices m → In sc n → Covers d m → ChoicesHave d choices
    tests_have (tests {sc = sc} {line = line} {depth = depth} {n = n} {m = m} {test = test} {e = e} a r u) h c =
        (typed_as_has d (names_of sc) (have sc n h) line Boolean test e a, unfolding_has u (roomy sc depth (Sizes.with_node (size_of_expression e)) n m r h) c, tt)
    tests_have (nests_choices v u) h c = choices_have u h c
    tests_have (replicates_choice v u) h c = each_choice_has u h c

    each_choice_has : {sc : Procedures} {line depth : ℕ} {n m : Numbers} {r : L.Replicator} {x : Node choice} {choices : Choices} → EachChoice sc line depth n r x choices m → In sc n → Covers d m → ChoicesHave d choices
    each_choice_has (under_choice_index {sc = sc} {line = line} {depth = depth} {n = n} {l = l} {r = r} {i = i} {choices = choices} x u) h c =
        let b = covers_before d i.numbers l (choice_steps Grown growing processes_grown u) c in
        let k = indexed_opens d (names_of sc) (length n.cells) (named sc n h) line depth r n i x (since d n i.numbers b) in
        let g = index_is_new (names_of sc) line depth r n i x b in (
          k.0,
          g.kept_in (uses_of_choices choices) (choice_avoids (length n.cells) u (index_avoids sc n i h g) g.later_cells),
          choice_has u (within_index sc n i h (indexed_steps Grown growing (names_of sc) line depth r n i x) k.1) c,
          tt,
        )

    choices_have : {sc : Procedures} {depth : ℕ} {n m : Numbers} {xs : Nodes choice} {choices : Choices} → AllChoices sc depth n xs choices m → In sc n → Covers d m → ChoicesHave d choices
    choices_have no_choice h c = tt
    choices_have (one_choice {sc = sc} {n = n} {m = m} {l = l} {choices = choices} {others = others} u us) h c =
        choices_then_have choices others (choice_has u h (covers_before d m l (choices_steps Grown growing processes_grown us) c)) (choices_have us (later sc n m (choice_steps Grown growing processes_grown u) h) c)

    variant_has : {sc : Procedures} {depth k : ℕ} {n m : Numbers} {p : Protocol} {v : Node variant} {xs : Variants} → Variant sc depth n p k v xs m → In sc n → Covers d m → VariantsHave d p xs
    variant_has (takes {sc = sc} {depth = depth} {line = line} {n = n} {o = o} {m = m} {l = l} {ts = ts} {d = e} {parts = parts} {targets = targets} r ds g f q u) h c =
        let b = covers_before d m l (unfolding_steps Grown growing processes_grown u) c in
        let a = growing.by_room (depth + 1) (size_of_targets targets) e.numbers m q in
        let k = all_have ds (roomy sc depth (Sizes.with_node no_size) n o r h) (covers_before d e.numbers m a b) in
        ((parts, g, stored_has d (names_of e.scope) (have e.scope e.numbers k.0) line parts ts targets f), k.1, unfolding_has u (later e.scope e.numbers m a k.0) c, tagged_by _ _ parts g)

    variants_have : {sc : Procedures} {depth : ℕ} {n m : Numbers} {p : Protocol} {before : List ℕ} {vs : Nodes variant} {xs : Variants} → AllVariants sc depth n p before vs xs m → HasTags p → In sc n → Covers d m → VariantsHave d p xs
    variants_have no_variant tags h c = tags
    variants_have (one_variant {sc = sc} {n = n} {m = m} {l = l} {p = p} {xs = xs} {others = others} k u us) tags h c =
        variants_then_have p xs others (variant_has u h (covers_before d m l (variants_steps Grown growing processes_grown us) c)) (variants_have us tags (later sc n m (variant_steps Grown growing processes_grown u) h) c)

    option_has : {sc : Procedures} {depth : ℕ} {n m : Numbers} {type : Primitive} {before q : Chosen} {o : Node option} {options : Options} → OneOption sc depth n type before o options q m → In sc n → Covers d m → OptionsHave d type options
    option_has (is_one_of {sc = sc} {depth = depth} {line = line} {n = n} {o = o} {m = m} {l = l} {type = type} {e = x} {es = es} {d = e} {vs = vs} r ds g f q u) h c =
        let b = covers_before d m l (unfolding_steps Grown growing processes_grown u) c in
        let a = growing.by_room (depth + 1) (size_of_constants vs) e.numbers m q in
        let k = all_have ds (roomy sc depth (Sizes.with_node no_size) n o r h) (covers_before d e.numbers m a b) in (
          all_of_type type vs (all_of (λ v. IsTrue (is_of type v)) (constant_as (names_of e.scope) line type) (constant_has (names_of e.scope) (have e.scope e.numbers k.0) line type) (x ∷ es) vs g),
          k.1,
          unfolding_has u (later e.scope e.numbers m a k.0) c,
          tt,
        )
    option_has (is_none_of {sc = sc} {depth = depth} {n = n} {o = o} {l = l} {d = e} r ds f u) h c =
        let k = all_have ds (roomy sc depth (Sizes.with_node no_size) n o r h) (covers_before d e.numbers l (unfolding_steps Grown growing processes_grown u) c) in
        (k.1, unfolding_has u k.0 c, tt)

    options_have : {sc : Procedures} {depth : ℕ} {n m : Numbers} {type : Primitive} {before : Chosen} {os : Nodes option} {options : Options} → AllOptions sc depth n type before os options m → In sc n → Covers d m → OptionsHave d type options
    options_have no_option h c = tt
    options_have (one_option {sc = sc} {n = n} {m = m} {l = l} {type = type} {options = options} {others = others} u us) h c =
        options_then_have type options others (option_has u h (covers_before d m l (options_steps Grown growing processes_grown us) c)) (options_have us (later sc n m (option_steps Grown growing processes_grown u) h) c)
