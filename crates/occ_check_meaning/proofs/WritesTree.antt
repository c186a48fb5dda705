-- No process writes a cell that was given out before it, and that no variable of its scope has.
use Rattle.std.proofs.Common.{◌≡◌, ◌<◌, ℕ, ◌+◌, List, [], ◌∷◌, ◌++◌, length, Bool, true, false, Some, arith}
use Rattle.std.specs.Prelude.{ℤ, ◌||◌}
use Rattle.std.proofs.Common.{refl}
use Rattle.occ_tree_grammar.specs.Lines.Trees as L
use Rattle.occ_tree_grammar.specs.Lines.Heads.{ProcessHead, ArmHead, ChoiceHead}
use Rattle.occ_tree_grammar.specs.Processes.Trees.{process, choice, option, arm, variant, under, Node, Body, Nodes, Decls, Decl, Item}
use Rattle.occ_term.specs.declared.primitive.Primitive.{Primitive}
use Rattle.occ_term.specs.declared.protocol.Protocol.{Protocol}
use Rattle.occ_term.specs.Terms.{Term, Terms, Branches, Arms, no_arms, skip_arm, input_arm, declared_arms, each_arm, Choices, no_choices, or_choice, declared_choices, each_choice, Variants, no_variants, or_variant, Options, no_options, or_option, or_else, Declaration, Clearing, Naming, Place}
use Rattle.occ_term.specs.Sizes as Sizes
use Rattle.occ_term.specs.Sizes.{no_size, size_of_expression, size_of_test, size_of_place, size_of_targets, size_of_constants}
use Rattle.occ_term.specs.Uses.{uses_of, uses_of_terms, uses_of_branches, uses_of_arms, uses_of_reception, uses_of_variants, uses_of_choices, uses_of_options, uses_of_declaration, uses_of_declarations, uses_of_targets, uses_of_replicator}
use Rattle.occ_check_meaning.specs.Scope.{names_of, Known}
use Rattle.occ_check_meaning.specs.Numbers.{Numbers, room}
use Rattle.occ_check_meaning.specs.Declarations.{index_of}
use Rattle.occ_check_meaning.specs.Actions.{headed, followed, as_term, Listed, plain_list, tagged_list, as_reception, as_input, size_of_list, arms_behind, choices_behind, arms_then, choices_then, variants_then, options_then, Chosen}
use Rattle.occ_check_meaning.specs.Growth.{Grown}
use Rattle.occ_check_meaning.specs.Performing.{Entered}
use Rattle.occ_check_meaning.specs.Unfolding.{Procedure, procedure, Procedures, DeclaresItem, declares_value, declares_protocol, declares_procedure, Declares, declares_names, declares_item, DeclareAll, no_declaration, one_declaration, Unfolding, unfolds, Performs, skips, stops, assigns, inputs, outputs, calls, takes_variants, sequences, replicates_sequence, runs_beside, replicates_branch, alternates, replicates_alternation, conditions, replicates_conditional, selects, loops, InTurn, no_process, one_process, Beside, no_branch, one_branch, Copies, no_copy, one_copy, Arm, behind_arm, Guards, awaits, is_ready, awaits_variants, nests_arms, replicates_arm, EachArm, under_index, AllArms, no_arm, one_arm, Choice, behind_choice, Tests, tests, nests_choices, replicates_choice, EachChoice, under_choice_index, AllChoices, no_choice, one_choice, Variant, takes, AllVariants, no_variant, one_variant, OneOption, is_one_of, is_none_of, AllOptions, no_option, one_option}
use Rattle.occ_check_meaning.specs.Scope.{proc}
use Rattle.occ_check_meaning.proofs.Scopes.{EachKnown, each_within, each_named, each_behind}
use Rattle.occ_check_meaning.proofs.Growth.{growing, processes_grown}
use Rattle.occ_check_meaning.proofs.Covering.{fewer_before, either_false}
use Rattle.occ_check_meaning.proofs.Stepping.{bound_steps, indexed_steps, opening_steps, one_declared_steps, declared_steps}
use Rattle.occ_check_meaning.proofs.TreeSteps.{unfolding_steps, arm_steps, choice_steps, variant_steps, option_steps}
use Rattle.occ_check_meaning.proofs.TypedLines.{All}
use Rattle.occ_check_meaning.proofs.Writes.{Not, Avoids, HeadAvoids, ListedAvoids, names_avoid, value_declared_avoids, protocol_avoids, kept_index, stored_avoids, received_avoids, assigned_avoids, output_avoids, bound_avoids}

module _ (c : ℕ) where
  abbrev pub In : Procedures → Type 0
  In sc = EachKnown (Avoids c) sc

  named : (sc : Procedures) → In sc → (x : List ℕ) (k : Known) → names_of sc x ≡ Some k → Avoids c k
  named sc h x k e = each_named (Avoids c) sc x k h e

  either : (a b : Bool) → Not a → Not b → Not (a || b)
  either a b h g = either_false a b h g

  grown : (n m : Numbers) → Grown n m → c < length n.cells → c < length m.cells
  grown n m g l = let f = fewer_before n m g in omega (arith, l, f)

  roomy : (depth : ℕ) (s : Sizes.Size) (n m : Numbers) → room depth s n ≡ Some m → c < length n.cells → c < length m.cells
  roomy depth s n m e l = grown n m (growing.by_room depth s n m e) l

  joined : (hs gs : List Declaration) → All (HeadAvoids c) hs → All (HeadAvoids c) gs → All (HeadAvoids c) (hs ++ gs)
  joined [] gs h g = g
  joined (x ∷ hs) gs h g = (h.0, joined hs gs h.1 g)

  -- ---- declarations

  item_avoids : {sc : Procedures} {depth : ℕ} {n : Numbers} {i : Item} {d : Entered Procedure} → DeclaresItem sc depth n i d → In sc → c < length n.cells → In d.scope × All (HeadAvoids c) d.heads
  item_avoids (declares_value {sc = sc} {depth = depth} {line = line} {n = n} {type = type} {x = x} {e = a} {o = o} e) h l =
      let k = value_declared_avoids c (names_of sc) line depth type x a n o l e in (each_within (Avoids c) o.names sc k.0 h, k.1)
  item_avoids (declares_protocol {sc = sc} {n = n} {p = p} {o = o} e) h l =
      let k = protocol_avoids c (names_of sc) p n o e in (each_within (Avoids c) o.names sc k.0 h, k.1)
  item_avoids declares_procedure h l = (h, tt)

  one_avoids : {sc : Procedures} {depth : ℕ} {n : Numbers} {x : Decl} {d : Entered Procedure} → Declares sc depth n x d → In sc → c < length n.cells → In d.scope × All (HeadAvoids c) d.heads
  one_avoids (declares_names {sc = sc} {depth = depth} {line = line} {n = n} {es = es} {sort = sort} {x = x} {xs = xs} {o = o} e) h l =
      let k = names_avoid c (names_of sc) line depth es sort (x ∷ xs) n o l e in (each_within (Avoids c) o.names sc k.0 h, k.1)
  one_avoids (declares_item i) h l = item_avoids i h l

  all_avoid : {sc : Procedures} {depth : ℕ} {n : Numbers} {ds : Decls} {d : Entered Procedure} → DeclareAll sc depth n ds d → In sc → c < length n.cells → In d.scope × All (HeadAvoids c) d.heads
  all_avoid no_declaration h l = (h, tt)
  all_avoid (one_declaration {n = n} {a = a} {b = b} x y) h l =
      let k = one_avoids x h l in
      let q = all_avoid y k.0 (grown n a.numbers (one_declared_steps Grown growing x) l) in
      (q.0, joined a.heads b.heads k.1 q.1)

  -- ---- heads before terms, arms and choices

  head_not : (h : Declaration) → HeadAvoids c h → Not ((uses_of (as_term h)).writes c)
  head_not (Clearing first count) g = g
  head_not (Naming first value) g = g

  followed_not : (hs : List Declaration) (t : Term) → All (HeadAvoids c) hs → Not ((uses_of t).writes c) → Not ((uses_of_terms (followed hs t)).writes c)
  followed_not [] t h g = either ((uses_of t).writes c) false g (λ k. absurd cc)
  followed_not (x ∷ hs) t h g = either ((uses_of (as_term x)).writes c) ((uses_of_terms (followed hs t)).writes c) (head_not x h.0) (followed_not hs t h.1 g)

  headed_not : (hs : List Declaration) (t : Term) → All (HeadAvoids c) hs → Not ((uses_of t).writes c) → Not ((uses_of (headed hs t)).writes c)
  headed_not [] t h g = g
  headed_not (x ∷ hs) t h g = followed_not (x ∷ hs) t h g

  heads_not : (hs : List Declaration) → All (HeadAvoids c) hs → Not ((uses_of_declarations hs).writes c)
  heads_not [] h = λ k. absurd cc
  heads_not (x ∷ hs) h = either ((uses_of_declaration x).writes c) ((uses_of_declarations hs).writes c) h.0 (heads_not hs h.1)

  arms_behind_not : (hs : List Declaration) (arms : Arms) → All (HeadAvoids c) hs → Not ((uses_of_arms arms).writes c) → Not ((uses_of_arms (arms_behind hs arms)).writes c)
  arms_behind_not [] arms h g = g
  arms_behind_not (x ∷ hs) arms h g =
      either ((uses_of_declaration x).writes c) _ h.0 (either ((uses_of_arms (arms_behind hs arms)).writes c) false (arms_behind_not hs arms h.1 g) (λ k. absurd cc))

  choices_behind_not : (hs : List Declaration) (cs : Choices) → All (HeadAvoids c) hs → Not ((uses_of_choices cs).writes c) → Not ((uses_of_choices (choices_behind hs cs)).writes c)
  choices_behind_not [] cs h g = g
  choices_behind_not (x ∷ hs) cs h g =
      either ((uses_of_declaration x).writes c) _ h.0 (either ((uses_of_choices (choices_behind hs cs)).writes c) false (choices_behind_not hs cs h.1 g) (λ k. absurd cc))

  parted : (a b : Bool) → Not (a || b) → Not a × Not b
  parted true b h = absurd (h refl)
  parted false b h = ((λ k. absurd cc), h)

  arms_then_not : (a b : Arms) → Not ((uses_of_arms a).writes c) → Not ((uses_of_arms b).writes c) → Not ((uses_of_arms (arms_then a b)).writes c)
  arms_then_not no_arms b h g = g
  arms_then_not (skip_arm e t arms) b h g =
      let p = parted ((uses_of t).writes c) ((uses_of_arms arms).writes c) h in
      either ((uses_of t).writes c) ((uses_of_arms (arms_then arms b)).writes c) p.0 (arms_then_not arms b p.1 g)
  arms_then_not (input_arm e p list arms) b h g =
      let q = parted ((uses_of_reception list).writes c) ((uses_of_arms arms).writes c) h in
      either ((uses_of_reception list).writes c) ((uses_of_arms (arms_then arms b)).writes c) q.0 (arms_then_not arms b q.1 g)
  arms_then_not (declared_arms d inner arms) b h g =
      let p = parted ((uses_of_declaration d).writes c) _ h in
      let q = parted ((uses_of_arms inner).writes c) ((uses_of_arms arms).writes c) p.1 in
      either ((uses_of_declaration d).writes c) _ p.0 (either ((uses_of_arms inner).writes c) ((uses_of_arms (arms_then arms b)).writes c) q.0 (arms_then_not arms b q.1 g))
  arms_then_not (each_arm r inner arms) b h g =
      let p = parted ((uses_of_replicator r).writes c) _ h in
      let q = parted ((uses_of_arms inner).writes c) ((uses_of_arms arms).writes c) p.1 in
      either ((uses_of_replicator r).writes c) _ p.0 (either ((uses_of_arms inner).writes c) ((uses_of_arms (arms_then arms b)).writes c) q.0 (arms_then_not arms b q.1 g))

  choices_then_not : (a b : Choices) → Not ((uses_of_choices a).writes c) → Not ((uses_of_choices b).writes c) → Not ((uses_of_choices (choices_then a b)).writes c)
  choices_then_not no_choices b h g = g
  choices_then_not (or_choice e t cs) b h g =
      let p = parted ((uses_of t).writes c) ((uses_of_choices cs).writes c) h in
      either ((uses_of t).writes c) ((uses_of_choices (choices_then cs b)).writes c) p.0 (choices_then_not cs b p.1 g)
  choices_then_not (declared_choices d inner cs) b h g =
      let p = parted ((uses_of_declaration d).writes c) _ h in
      let q = parted ((uses_of_choices inner).writes c) ((uses_of_choices cs).writes c) p.1 in
      either ((uses_of_declaration d).writes c) _ p.0 (either ((uses_of_choices inner).writes c) ((uses_of_choices (choices_then cs b)).writes c) q.0 (choices_then_not cs b q.1 g))
  choices_then_not (each_choice r inner cs) b h g =
      let p = parted ((uses_of_replicator r).writes c) _ h in
      let q = parted ((uses_of_choices inner).writes c) ((uses_of_choices cs).writes c) p.1 in
      either ((uses_of_replicator r).writes c) _ p.0 (either ((uses_of_choices inner).writes c) ((uses_of_choices (choices_then cs b)).writes c) q.0 (choices_then_not cs b q.1 g))

  variants_then_not : (a b : Variants) → Not ((uses_of_variants a).writes c) → Not ((uses_of_variants b).writes c) → Not ((uses_of_variants (variants_then a b)).writes c)
  variants_then_not no_variants b h g = g
  variants_then_not (or_variant k ds ts t vs) b h g =
      let p = parted ((uses_of_declarations ds).writes c) _ h in
      let q = parted ((uses_of_targets ts).writes c) _ p.1 in
      let r = parted ((uses_of t).writes c) ((uses_of_variants vs).writes c) q.1 in
      either ((uses_of_declarations ds).writes c) _ p.0 (either ((uses_of_targets ts).writes c) _ q.0
      (either ((uses_of t).writes c) ((uses_of_variants (variants_then vs b)).writes c) r.0 (variants_then_not vs b r.1 g)))

  options_then_not : (a b : Options) → Not ((uses_of_options a).writes c) → Not ((uses_of_options b).writes c) → Not ((uses_of_options (options_then a b)).writes c)
  options_then_not no_options b h g = g
  options_then_not (or_option vs ds t os) b h g =
      let p = parted ((uses_of_declarations ds).writes c) _ h in
      let q = parted ((uses_of t).writes c) ((uses_of_options os).writes c) p.1 in
      either ((uses_of_declarations ds).writes c) _ p.0 (either ((uses_of t).writes c) ((uses_of_options (options_then os b)).writes c) q.0 (options_then_not os b q.1 g))
  options_then_not (or_else ds t os) b h g =
      let p = parted ((uses_of_declarations ds).writes c) _ h in
      let q = parted ((uses_of t).writes c) ((uses_of_options os).writes c) p.1 in
      either ((uses_of_declarations ds).writes c) _ p.0 (either ((uses_of t).writes c) ((uses_of_options (options_then os b)).writes c) q.0 (options_then_not os b q.1 g))

  input_not : (p : Place × Listed) → ListedAvoids c p.1 → Not ((uses_of (as_input p)).writes c)
  input_not (p, plain_list ts) g = g
  input_not (p, tagged_list k ts) g = either ((uses_of_targets ts).writes c) false g (λ q. absurd cc)

  reception_not : (list : Listed) (t : Term) → ListedAvoids c list → Not ((uses_of t).writes c) → Not ((uses_of_reception (as_reception list t)).writes c)
  reception_not (plain_list ts) t g k = either ((uses_of_targets ts).writes c) ((uses_of t).writes c) g k
  reception_not (tagged_list n ts) t g k = either ((uses_of_targets ts).writes c) _ g (either ((uses_of t).writes c) false k (λ q. absurd cc))

  -- with nothing behind it
  alone : (a : Bool) → Not a → Not (a || false)
  alone a h = either a false h (λ k. absurd cc)

  -- ---- all of the tree

  mutual
    pub unfolding_avoids : {sc : Procedures} {depth : ℕ} {n m : Numbers} {p : Node process} {t : Term} → Unfolding sc depth n p t m → In sc → c < length n.cells → Not ((uses_of t).writes c)
    unfolding_avoids (unfolds {depth = depth} {deep = deep} {n = n} {m = m} {d = d} {t = t} ds o p) h l =
        let k = all_avoid ds h l in
        headed_not d.heads t k.1 (performs_avoids p k.0 (grown d.numbers m (opening_steps Grown growing d.heads depth d.numbers deep m o) (grown n d.numbers (declared_steps Grown growing ds) l)))

    performs_avoids : {sc : Procedures} {line depth : ℕ} {n m : Numbers} {h : ProcessHead} {b : Body (under process h)} {t : Term} → Performs sc line depth n h b t m → In sc → c < length n.cells → Not ((uses_of t).writes c)
    performs_avoids (skips r) h l = λ k. absurd cc
    performs_avoids (stops r) h l = λ k. absurd cc
    performs_avoids (assigns {sc = sc} {line = line} {v = v} {vs = vs} {e = e} {es = es} {t = t} a r) h l = assigned_avoids c (names_of sc) (named sc h) line (v ∷ vs) (e ∷ es) t a
    performs_avoids (inputs {sc = sc} {line = line} {i = i} {c = p} a r) h l = input_not p (received_avoids c (names_of sc) (named sc h) line i p a)
    performs_avoids (outputs {sc = sc} {line = line} {v = v} {o = o} {os = os} {t = t} a r) h l = output_avoids c (names_of sc) (named sc h) line v o os t a
    performs_avoids (calls {sc = sc} {outer = outer} {line = line} {depth = depth} {deep = deep} {declared = declared} {n = n} {m = m} {f = f} {es = es} {fs = fs} {body = body} {ws = ws} {b = b} {t = t} e w a o u) h l =
        let k = bound_avoids c (names_of sc) (named sc h) line (depth + 1) ws es n b l a in
        headed_not b.heads t k.1
        (unfolding_avoids u (each_within (Avoids c) b.names outer k.0 (each_behind (Avoids c) sc f (proc (procedure declared fs body)) outer h e))
        (grown b.numbers m (opening_steps Grown growing b.heads depth b.numbers deep m o) (grown n b.numbers (bound_steps Grown growing (names_of sc) line (depth + 1) ws es n b a) l)))
    performs_avoids (takes_variants {depth = depth} {n = n} {m = m} {c = p} e w r u) h l = variants_avoid u h (roomy depth (Sizes.with_node (size_of_place p.1)) n m r l)
    performs_avoids (sequences {depth = depth} {n = n} {m = m} r u) h l = in_turn_avoids u h (roomy depth (Sizes.with_node no_size) n m r l)
    performs_avoids (replicates_sequence {sc = sc} {line = line} {depth = depth} {n = n} {m = m} {r = r} {i = i} {t = t} o x u) h l =
        let q = roomy depth (Sizes.with_node no_size) n m o l in
        let k = kept_index c (names_of sc) line (depth + 1) r m i q x in
        either ((uses_of_replicator i.replicator).writes c) ((uses_of t).writes c) k.1
        (unfolding_avoids u (each_within (Avoids c) i.names sc k.0 h) (grown m i.numbers (indexed_steps Grown growing (names_of sc) line (depth + 1) r m i x) q))
    performs_avoids (runs_beside {depth = depth} {n = n} {m = m} r u) h l = beside_avoids u h (roomy depth (Sizes.with_node no_size) n m r l)
    performs_avoids (replicates_branch {depth = depth} {n = n} {m = m} e r u) h l = copies_avoid u h (roomy depth (Sizes.with_node no_size) n m r l)
    performs_avoids (alternates {depth = depth} {n = n} {m = m} r u) h l = arms_avoid u h (roomy depth (Sizes.with_node no_size) n m r l)
    performs_avoids (replicates_alternation {depth = depth} {n = n} {m = m} r u) h l = each_arm_avoids u h (roomy depth (Sizes.with_node no_size) n m r l)
    performs_avoids (conditions {depth = depth} {n = n} {m = m} r u) h l = choices_avoid u h (roomy depth (Sizes.with_node no_size) n m r l)
    performs_avoids (replicates_conditional {depth = depth} {n = n} {m = m} r u) h l = each_choice_avoids u h (roomy depth (Sizes.with_node no_size) n m r l)
    performs_avoids (selects {depth = depth} {n = n} {m = m} {s = s} v r u) h l = options_avoid u h (roomy depth (Sizes.with_node (size_of_expression s.1)) n m r l)
    performs_avoids (loops {depth = depth} {n = n} {m = m} {c = e} v r u) h l = unfolding_avoids u h (roomy depth (Sizes.with_node (size_of_expression e)) n m r l)

    in_turn_avoids : {sc : Procedures} {depth : ℕ} {n m : Numbers} {ps : Nodes process} {ts : Terms} → InTurn sc depth n ps ts m → In sc → c < length n.cells → Not ((uses_of_terms ts).writes c)
    in_turn_avoids no_process h l = λ k. absurd cc
    in_turn_avoids (one_process {n = n} {m = m} {t = t} {ts = ts} u us) h l =
        either ((uses_of t).writes c) ((uses_of_terms ts).writes c) (unfolding_avoids u h l) (in_turn_avoids us h (grown n m (unfolding_steps Grown growing processes_grown u) l))

    beside_avoids : {sc : Procedures} {depth : ℕ} {n m : Numbers} {ps : Nodes process} {bs : Branches} → Beside sc depth n ps bs m → In sc → c < length n.cells → Not ((uses_of_branches bs).writes c)
    beside_avoids no_branch h l = λ k. absurd cc
    beside_avoids (one_branch {n = n} {o = o} {m = m} {t = t} {bs = bs} e u us) h l =
        let q = grown n o (processes_grown n o e) l in
        either ((uses_of t).writes c) ((uses_of_branches bs).writes c) (unfolding_avoids u h q) (beside_avoids us h (grown o m (unfolding_steps Grown growing processes_grown u) q))

    copies_avoid : {sc : Procedures} {depth count : ℕ} {r : L.Replicator} {p : Node process} {i : ℤ} {n m : Numbers} {bs : Branches} → Copies sc depth r p count i n bs m → In sc → c < length n.cells → Not ((uses_of_branches bs).writes c)
    copies_avoid no_copy h l = λ k. absurd cc
    copies_avoid (one_copy {sc = sc} {r = r} {i = i} {n = n} {o = o} {m = m} {t = t} {bs = bs} e u us) h l =
        let q = grown n o (processes_grown n o e) l in
        either ((uses_of t).writes c) ((uses_of_branches bs).writes c) (unfolding_avoids u (each_within (Avoids c) (index_of r i) sc (tt, tt) h) q) (copies_avoid us h (grown o m (unfolding_steps Grown growing processes_grown u) q))

    pub arm_avoids : {sc : Procedures} {depth : ℕ} {n m : Numbers} {a : Node arm} {arms : Arms} → Arm sc depth n a arms m → In sc → c < length n.cells → Not ((uses_of_arms arms).writes c)
    arm_avoids (behind_arm {n = n} {d = d} {arms = arms} ds v u) h l =
        let k = all_avoid ds h l in
        arms_behind_not d.heads arms k.1 (guards_avoid u k.0 (grown n d.numbers (declared_steps Grown growing ds) l))

    guards_avoid : {sc : Procedures} {line depth : ℕ} {n m : Numbers} {h : ArmHead} {b : Body (under arm h)} {arms : Arms} → Guards sc line depth n h b arms m → In sc → c < length n.cells → Not ((uses_of_arms arms).writes c)
    guards_avoid (awaits {sc = sc} {line = line} {depth = depth} {n = n} {m = m} {i = i} {e = e} {c = p} {t = t} x g r u) h l =
        alone ((uses_of_reception (as_reception p.1 t)).writes c) (reception_not p.1 t (received_avoids c (names_of sc) (named sc h) line i p g)
        (unfolding_avoids u h (roomy depth (Sizes.with_node (Sizes.together (size_of_test e) (Sizes.together (size_of_place p.0) (size_of_list p.1)))) n m r l)))
    guards_avoid (is_ready {depth = depth} {n = n} {m = m} {e = e} {t = t} x r u) h l =
        alone ((uses_of t).writes c) (unfolding_avoids u h (roomy depth (Sizes.with_node (size_of_expression e)) n m r l))
    guards_avoid (awaits_variants {depth = depth} {n = n} {m = m} {e = e} {c = p} {xs = xs} x g w r u) h l =
        alone ((uses_of_variants xs).writes c) (variants_avoid u h (roomy depth (Sizes.with_node (Sizes.together (size_of_test e) (size_of_place p.1))) n m r l))
    guards_avoid (nests_arms v u) h l = arms_avoid u h l
    guards_avoid (replicates_arm v u) h l = each_arm_avoids u h l

    each_arm_avoids : {sc : Procedures} {line depth : ℕ} {n m : Numbers} {r : L.Replicator} {a : Node arm} {arms : Arms} → EachArm sc line depth n r a arms m → In sc → c < length n.cells → Not ((uses_of_arms arms).writes c)
    each_arm_avoids (under_index {sc = sc} {line = line} {depth = depth} {n = n} {r = r} {i = i} {arms = arms} x u) h l =
        let k = kept_index c (names_of sc) line depth r n i l x in
        either ((uses_of_replicator i.replicator).writes c) _ k.1
        (alone ((uses_of_arms arms).writes c) (arm_avoids u (each_within (Avoids c) i.names sc k.0 h) (grown n i.numbers (indexed_steps Grown growing (names_of sc) line depth r n i x) l)))

    arms_avoid : {sc : Procedures} {depth : ℕ} {n m : Numbers} {xs : Nodes arm} {arms : Arms} → AllArms sc depth n xs arms m → In sc → c < length n.cells → Not ((uses_of_arms arms).writes c)
    arms_avoid no_arm h l = λ k. absurd cc
    arms_avoid (one_arm {n = n} {m = m} {arms = arms} {others = others} u us) h l =
        arms_then_not arms others (arm_avoids u h l) (arms_avoid us h (grown n m (arm_steps Grown growing processes_grown u) l))

    pub choice_avoids : {sc : Procedures} {depth : ℕ} {n m : Numbers} {x : Node choice} {choices : Choices} → Choice sc depth n x choices m → In sc → c < length n.cells → Not ((uses_of_choices choices).writes c)
    choice_avoids (behind_choice {n = n} {d = d} {choices = choices} ds v u) h l =
        let k = all_avoid ds h l in
        choices_behind_not d.heads choices k.1 (tests_avoid u k.0 (grown n d.numbers (declared_steps Grown growing ds) l))

    tests_avoid : {sc : Procedures} {line depth : ℕ} {n m : Numbers} {h : ChoiceHead} {b : Body (under choice h)} {choices : Choices} → Tests sc line depth n h b choices m → In sc → c < length n.cells → Not ((uses_of_choices choices).writes c)
    tests_avoid (tests {depth = depth} {n = n} {m = m} {e = e} {t = t} x r u) h l = alone ((uses_of t).writes c) (unfolding_avoids u h (roomy depth (Sizes.with_node (size_of_expression e)) n m r l))
    tests_avoid (nests_choices v u) h l = choices_avoid u h l
    tests_avoid (replicates_choice v u) h l = each_choice_avoids u h l

    each_choice_avoids : {sc : Procedures} {line depth : ℕ} {n m : Numbers} {r : L.Replicator} {x : Node choice} {choices : Choices} → EachChoice sc line depth n r x choices m → In sc → c < length n.cells → Not ((uses_of_choices choices).writes c)
    each_choice_avoids (under_choice_index {sc = sc} {line = line} {depth = depth} {n = n} {r = r} {i = i} {choices = choices} x u) h l =
        let k = kept_index c (names_of sc) line depth r n i l x in
        either ((uses_of_replicator i.replicator).writes c) _ k.1
        (alone ((uses_of_choices choices).writes c) (choice_avoids u (each_within (Avoids c) i.names sc k.0 h) (grown n i.numbers (indexed_steps Grown growing (names_of sc) line depth r n i x) l)))

    choices_avoid : {sc : Procedures} {depth : ℕ} {n m : Numbers} {xs : Nodes choice} {choices : Choices} → AllChoices sc depth n xs choices m → In sc → c < length n.cells → Not ((uses_of_choices choices).writes c)
    choices_avoid no_choice h l = λ k. absurd cc
    choices_avoid (one_choice {n = n} {m = m} {choices = choices} {others = others} u us) h l =
        choices_then_not choices others (choice_avoids u h l) (choices_avoid us h (grown n m (choice_steps Grown growing processes_grown u) l))

    variant_avoids : {sc : Procedures} {depth k : ℕ} {n m : Numbers} {p : Protocol} {v : Node variant} {xs : Variants} → Variant sc depth n p k v xs m → In sc → c < length n.cells → Not ((uses_of_variants xs).writes c)
    variant_avoids (takes {depth = depth} {line = line} {n = n} {o = o} {m = m} {ts = ts} {d = d} {parts = parts} {targets = targets} {t = t} r ds g e q u) h l =
        let b = roomy depth (Sizes.with_node no_size) n o r l in
        let k = all_avoid ds h b in
        let a = grown o d.numbers (declared_steps Grown growing ds) b in
        either ((uses_of_declarations d.heads).writes c) _ (heads_not d.heads k.1)
        (either ((uses_of_targets targets).writes c) _ (stored_avoids c (names_of d.scope) (named d.scope k.0) line parts ts targets e)
        (alone ((uses_of t).writes c) (unfolding_avoids u k.0 (roomy (depth + 1) (size_of_targets targets) d.numbers m q a))))

    variants_avoid : {sc : Procedures} {depth : ℕ} {n m : Numbers} {p : Protocol} {before : List ℕ} {vs : Nodes variant} {xs : Variants} → AllVariants sc depth n p before vs xs m → In sc → c < length n.cells → Not ((uses_of_variants xs).writes c)
    variants_avoid no_variant h l = λ k. absurd cc
    variants_avoid (one_variant {n = n} {m = m} {xs = xs} {others = others} k u us) h l =
        variants_then_not xs others (variant_avoids u h l) (variants_avoid us h (grown n m (variant_steps Grown growing processes_grown u) l))

    option_avoids : {sc : Procedures} {depth : ℕ} {n m : Numbers} {type : Primitive} {before q : Chosen} {o : Node option} {options : Options} → OneOption sc depth n type before o options q m → In sc → c < length n.cells → Not ((uses_of_options options).writes c)
    option_avoids (is_one_of {depth = depth} {n = n} {o = o} {m = m} {d = d} {vs = vs} {t = t} r ds e x q u) h l =
        let b = roomy depth (Sizes.with_node no_size) n o r l in
        let k = all_avoid ds h b in
        let a = grown o d.numbers (declared_steps Grown growing ds) b in
        either ((uses_of_declarations d.heads).writes c) _ (heads_not d.heads k.1) (alone ((uses_of t).writes c) (unfolding_avoids u k.0 (roomy (depth + 1) (size_of_constants vs) d.numbers m q a)))
    option_avoids (is_none_of {depth = depth} {n = n} {o = o} {d = d} {t = t} r ds x u) h l =
        let b = roomy depth (Sizes.with_node no_size) n o r l in
        let k = all_avoid ds h b in
        let a = grown o d.numbers (declared_steps Grown growing ds) b in
        either ((uses_of_declarations d.heads).writes c) _ (heads_not d.heads k.1) (alone ((uses_of t).writes c) (unfolding_avoids u k.0 a))

    options_avoid : {sc : Procedures} {depth : ℕ} {n m : Numbers} {type : Primitive} {before : Chosen} {os : Nodes option} {options : Options} → AllOptions sc depth n type before os options m → In sc → c < length n.cells → Not ((uses_of_options options).writes c)
    options_avoid no_option h l = λ k. absurd cc
    options_avoid (one_option {n = n} {m = m} {options = options} {others = others} u us) h l =
        options_then_not options others (option_avoids u h l) (options_avoid us h (grown n m (option_steps Grown growing processes_grown u) l))
