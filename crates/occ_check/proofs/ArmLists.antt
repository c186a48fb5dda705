-- The arms of an ALT, one after the other, and behind declarations.
use Rattle.std.proofs.Common.{◌≡◌, ◌∙◌, ◌+◌, ℕ, length, List, [], ◌∷◌, ◌++◌, Option, Some, None, refl, ap, sym, map}
use Rattle.std.proofs.lemmas.List.{map-append}
use Rattle.occ_tree_grammar.specs.Many.{◌>>=◌}
use Rattle.occ_term.specs.declared.expression.Declaration.{Declaration}
use Rattle.occ_tree_grammar.specs.Processes.Trees.{Node, arm, more_nodes, no_node, nodes, Decls}
use Rattle.occ_tree_grammar.specs.Processes.Views as trees
use Rattle.occ_tree_grammar.specs.declared.tree.process.Arm.{Arm}
use Rattle.occ_tree_grammar.specs.declared.tree.process.Arm.TheVariants as arms
use Rattle.occ_term.specs.Terms as T
use Rattle.occ_term.specs.Terms.{Arms, no_arms, skip_arm, input_arm, declared_arms, each_arm}
use Rattle.occ_term.specs.View.{Seen, arm_step, choice_step, reception_step, option_step, term_step, branch_step, variant_step, arm_of, arms_of, declaration_of, declarations_of}
use Rattle.occ_term.specs.declared.term.Arm.{Arm as TermArm}
use Rattle.occ_term.specs.declared.term.Arm.TheOpen.{Arm-F}
use Rattle.occ_term.specs.declared.term.Arm.TheFolds.{fold_out-Arm}
use Rattle.occ_check_meaning.specs.Actions.{Listed, arms_behind, arms_then, as_reception, depth_behind, received, size_of_list, test_of, with_tags}
use Rattle.occ_check_meaning.specs.Items.{channel_of}
use Rattle.occ_check_meaning.specs.Numbers.{Numbers, deeper, room}
use Rattle.occ_tree_grammar.specs.Expressions.Trees.{Expression}
use Rattle.occ_tree_grammar.specs.Lines.Heads.{on_input, on_skip}
use Rattle.occ_tree_grammar.specs.Lines.Trees as L
use Rattle.occ_term.specs.Sizes as Sizes
use Rattle.occ_term.specs.Sizes.{size_of_expression, size_of_test, size_of_place}
use Rattle.occ_term.specs.declared.primitive.Primitive.TheVariants.{Bool as Boolean}
use Rattle.occ_term.specs.declared.protocol.Protocol.{Protocol}
use Rattle.occ_check_meaning.specs.Expressions.{typed_as}
use Rattle.occ_check_meaning.specs.Performing as P
use Rattle.occ_check_meaning.specs.Performing.{Calling, Under, arms_under, entered, variants_arm}
use Rattle.occ_check.specs.Guards.{guarding, guarding_variants}
use Rattle.occ_check.specs.OneLine.{tested}
use Rattle.occ_check_meaning.specs.Recursion.{all_arms, all_declared, arm_unfolded}
use Rattle.occ_check_meaning.specs.Scope.{Scope, names_of}
use Rattle.occ_check.specs.Arms.{listening, declarations_of_arm, arm_size}
use Rattle.occ_check.specs.Opened.{put}
use Rattle.occ_check.specs.Weights.{decls_size, node_size}

-- ---- one arm

pub behind_arm : (c : Arm) (sc : Scope Calling) (depth : ℕ) (n : Numbers)
    → arm_unfolded (trees.arm_of c) sc depth n ≡ arms_under (all_declared (declarations_of_arm c)) (listening c) sc depth n
unfolding trees.arm_of arm_unfolded
behind_arm (arms.Guarded' shape ds line g n) sc depth m = refl
behind_arm (arms.OnVariant' shape ds line g s vs) sc depth m = refl
behind_arm (arms.InnerAlt' shape ds line pri s ms) sc depth m = refl
behind_arm (arms.InnerAltFor' shape ds line pri r p c) sc depth m = refl

pub within_arm : (c : Arm) → node_size (trees.arm_of c) ≡ (decls_size (declarations_of_arm c) + arm_size c) + 2
unfolding trees.arm_of node_size
within_arm (arms.Guarded' shape ds line g n) = refl
within_arm (arms.OnVariant' shape ds line g s vs) = refl
within_arm (arms.InnerAlt' shape ds line pri s ms) = refl
within_arm (arms.InnerAltFor' shape ds line pri r p c) = refl

-- ---- what an arm of the code puts before others

seen : (x : TermArm) → (y : Seen Arm-F) × (arm_of x ≡ arm_step y)
seen x = (
  _,
  fold_out-Arm (T.Arms → T.Arms) (T.Choices → T.Choices) T.Reception (T.Options → T.Options) T.Term (T.Branches → T.Branches) (T.Variants → T.Variants)
      arm_step choice_step reception_step option_step term_step branch_step variant_step x,
)

step_first : (y : Seen Arm-F) (a b : Arms) → arms_then (arm_step y a) b ≡ arm_step y (arms_then a b)
step_first (Arm-F.SkipArm e t) a b = refl
step_first (Arm-F.InputArm e c list) a b = refl
step_first (Arm-F.DeclaredArms d within) a b = refl
step_first (Arm-F.EachArm r within) a b = refl

one_first : (x : TermArm) (a b : Arms) → arms_then (arm_of x a) b ≡ arm_of x (arms_then a b)
one_first x a b = let s = seen x in ap (λ f. arms_then (f a) b) s.1 ∙ step_first s.0 a b ∙ ap (λ f. f (arms_then a b)) (sym s.1)

pub no_more_arms : (a : Arms) → arms_then a no_arms ≡ a
no_more_arms no_arms = refl
no_more_arms (skip_arm e t cs) = ap (skip_arm e t) (no_more_arms cs)
no_more_arms (input_arm e p list cs) = ap (input_arm e p list) (no_more_arms cs)
no_more_arms (declared_arms d within cs) = ap (declared_arms d within) (no_more_arms cs)
no_more_arms (each_arm r within cs) = ap (each_arm r within) (no_more_arms cs)

grouped : (a b c : Arms) → arms_then (arms_then a b) c ≡ arms_then a (arms_then b c)
grouped no_arms b c = refl
grouped (skip_arm e t cs) b c = ap (skip_arm e t) (grouped cs b c)
grouped (input_arm e p list cs) b c = ap (input_arm e p list) (grouped cs b c)
grouped (declared_arms d within cs) b c = ap (declared_arms d within) (grouped cs b c)
grouped (each_arm r within cs) b c = ap (each_arm r within) (grouped cs b c)

more_arms : (xs ys : List TermArm) → arms_of (xs ++ ys) ≡ arms_then (arms_of xs) (arms_of ys)
more_arms [] ys = refl
more_arms (x ∷ xs) ys = ap (arm_of x) (more_arms xs ys) ∙ sym (one_first x (arms_of xs) (arms_of ys))

-- ---- the list, part by part

abbrev pub arms_in : Scope Calling → ℕ → List Arm → Numbers → Option (Arms × Numbers)
arms_in sc depth xs n = all_arms (nodes (map trees.arm_of xs)) sc depth n

abbrev pub arm_in : Scope Calling → ℕ → Arm → Numbers → Option (Arms × Numbers)
arm_in sc depth x n = arm_unfolded (trees.arm_of x) sc depth n

abbrev pub put_arms : Arms → Arms × Numbers → Arms × Numbers
put_arms a r = (arms_then a r.0, r.1)

pub arms_step : (sc : Scope Calling) (depth : ℕ) (x : Arm) (xs : List Arm) (n : Numbers)
    → arms_in sc depth (x ∷ xs) n ≡ (arm_in sc depth x n >>= λ a. arms_in sc depth xs a.1 >>= λ r. Some (put_arms a.0 r))
unfolding all_arms
arms_step sc depth x xs n = refl

pub arms_none : (sc : Scope Calling) (depth : ℕ) (n : Numbers) → arms_in sc depth [] n ≡ Some (no_arms, n)
unfolding all_arms
arms_none sc depth n = refl

pub arms_grown : (made more all : List TermArm) (r : Arms × Numbers) → all ≡ made ++ more → put_arms (arms_of all) r ≡ put_arms (arms_of made) (put_arms (arms_of more) r)
arms_grown made more all r is = ap (λ c. (c, r.1)) (ap (λ xs. arms_then (arms_of xs) r.0) is ∙ ap (λ c. arms_then c r.0) (more_arms made more) ∙ grouped (arms_of made) (arms_of more) r.0)

-- ---- behind declarations, the last of which is put round the arms first

pub one_behind : (hs : List T.Declaration) (h : T.Declaration) (cs : Arms) → arms_behind (hs ++ h ∷ []) cs ≡ arms_behind hs (declared_arms h cs no_arms)
one_behind [] h cs = refl
one_behind (g ∷ hs) h cs = ap (λ c. declared_arms g c no_arms) (one_behind hs h cs)

-- ---- one arm, step by step

module _ (c : Arm) (sc : Scope Calling) (depth : ℕ) (n : Numbers) (ds : Decls) (is : ds ≡ declarations_of_arm c) where
  whole : arm_unfolded (trees.arm_of c) sc depth n ≡ arms_under (all_declared ds) (listening c) sc depth n
  whole = behind_arm c sc depth n ∙ ap (λ d. arms_under (all_declared d) (listening c) sc depth n) (sym is)

  pub arm_not_declared : all_declared ds sc depth n ≡ None → arm_unfolded (trees.arm_of c) sc depth n ≡ None
  arm_not_declared e = whole ∙ ap (λ r. r >>= λ d. deeper depth (length d.heads) >>= λ deep. listening c d.scope deep d.numbers >>= λ x. Some (arms_behind d.heads x.0, x.1)) e

  module _ (inside : Scope Calling) (heads : List T.Declaration) (m : Numbers) (done : all_declared ds sc depth n ≡ Some (entered inside heads m)) (levels : ℕ) (so_many : levels ≡ length heads) where
    behind_heads : arm_unfolded (trees.arm_of c) sc depth n ≡ (deeper depth levels >>= λ deep. listening c inside deep m >>= λ x. Some (arms_behind heads x.0, x.1))
    behind_heads =
        whole
        ∙ ap (λ r. r >>= λ d. deeper depth (length d.heads) >>= λ deep. listening c d.scope deep d.numbers >>= λ x. Some (arms_behind d.heads x.0, x.1)) done
        ∙ ap (λ k. deeper depth k >>= λ deep. listening c inside deep m >>= λ x. Some (arms_behind heads x.0, x.1)) (sym so_many)

    pub arm_too_deep : deeper depth levels ≡ None → arm_unfolded (trees.arm_of c) sc depth n ≡ None
    arm_too_deep e = behind_heads ∙ ap (λ r. r >>= λ deep. listening c inside deep m >>= λ x. Some (arms_behind heads x.0, x.1)) e

    module _ (deep : ℕ) (there : deeper depth levels ≡ Some deep) where
      pub arm_behind : arm_unfolded (trees.arm_of c) sc depth n ≡ put (arms_behind heads) (listening c inside deep m)
      arm_behind = behind_heads ∙ ap (λ r. r >>= λ deep. listening c inside deep m >>= λ x. Some (arms_behind heads x.0, x.1)) there

-- ---- an arm by its guard

module _ (line : ℕ) (test : Option Expression) (i : L.Input) (body : Under T.Term) (sc : Scope Calling) (depth : ℕ) (n : Numbers) where
  as_input_arm : Option T.Expression × (T.Place × Listed) → T.Term × Numbers → Option (Arms × Numbers)
  as_input_arm g x = Some (input_arm g.0 g.1.0 (as_reception g.1.1 x.0) no_arms, x.1)

  then_input : (Option T.Expression × (T.Place × Listed)) × Numbers → Option (Arms × Numbers)
  then_input a = body sc (depth_behind a.0.1.1 (depth + 1)) a.1 >>= as_input_arm a.0

  by_guard : P.arm_of line (on_input test i) body sc depth n ≡ (guarding (names_of sc) line depth test i n >>= then_input)
  unfolding then_input as_input_arm
  by_guard = by (test_of (names_of sc) line test)
    where
      then_by : (e : Option T.Expression) (c : T.Place × Listed) (r : Option Numbers)
          → (r >>= λ m. body sc (depth_behind c.1 (depth + 1)) m >>= λ x. Some (input_arm e c.0 (as_reception c.1 x.0) no_arms, x.1)) ≡ ((r >>= λ m. Some ((e, c), m)) >>= then_input)
      then_by e c None = refl
      then_by e c (Some m) = refl

      with_channel : (e : Option T.Expression) (o : Option (T.Place × Listed))
          → (o >>= λ c. room depth (Sizes.with_node (Sizes.together (size_of_test e) (Sizes.together (size_of_place c.0) (size_of_list c.1)))) n >>= λ m.
          body sc (depth_behind c.1 (depth + 1)) m >>= λ x. Some (input_arm e c.0 (as_reception c.1 x.0) no_arms, x.1))
          ≡ ((o >>= λ c. room depth (Sizes.with_node (Sizes.together (size_of_test e) (Sizes.together (size_of_place c.0) (size_of_list c.1)))) n >>= λ m. Some ((e, c), m)) >>= then_input)
      with_channel e None = refl
      with_channel e (Some c) = then_by e c (room depth (Sizes.with_node (Sizes.together (size_of_test e) (Sizes.together (size_of_place c.0) (size_of_list c.1)))) n)

      by : (o : Option (Option T.Expression))
          → (o >>= λ e. received (names_of sc) line i >>= λ c. room depth (Sizes.with_node (Sizes.together (size_of_test e) (Sizes.together (size_of_place c.0) (size_of_list c.1)))) n >>= λ m.
          body sc (depth_behind c.1 (depth + 1)) m >>= λ x. Some (input_arm e c.0 (as_reception c.1 x.0) no_arms, x.1))
          ≡ ((o >>= λ e. received (names_of sc) line i >>= λ c. room depth (Sizes.with_node (Sizes.together (size_of_test e) (Sizes.together (size_of_place c.0) (size_of_list c.1)))) n >>= λ m. Some ((e, c), m)) >>= then_input)
      by None = refl
      by (Some e) = with_channel e (received (names_of sc) line i)

  pub input_not_guarded : guarding (names_of sc) line depth test i n ≡ None → P.arm_of line (on_input test i) body sc depth n ≡ None
  input_not_guarded h = by_guard ∙ ap (λ o. o >>= then_input) h

  pub input_opens : (g : Option T.Expression × (T.Place × Listed)) (m : Numbers) → guarding (names_of sc) line depth test i n ≡ Some (g, m)
      → P.arm_of line (on_input test i) body sc depth n ≡ put (λ t. input_arm g.0 g.1.0 (as_reception g.1.1 t) no_arms) (body sc (depth_behind g.1.1 (depth + 1)) m)
  unfolding then_input as_input_arm
  input_opens g m h = by_guard ∙ ap (λ o. o >>= then_input) h

module _ (line : ℕ) (test : Option Expression) (v : L.Var) (variants : Protocol → Under T.Variants) (sc : Scope Calling) (depth : ℕ) (n : Numbers) where
  as_variants_arm : Option T.Expression × (Protocol × T.Place) → T.Variants × Numbers → Option (Arms × Numbers)
  as_variants_arm g x = Some (input_arm g.0 g.1.1 (T.Tagged x.0) no_arms, x.1)

  then_variants : (Option T.Expression × (Protocol × T.Place)) × Numbers → Option (Arms × Numbers)
  then_variants a = variants a.0.1.0 sc (depth + 1) a.1 >>= as_variants_arm a.0

  by_variants : variants_arm line test v variants sc depth n ≡ (guarding_variants (names_of sc) line depth test v n >>= then_variants)
  unfolding then_variants as_variants_arm
  by_variants = by (test_of (names_of sc) line test)
    where
      then_by : (e : Option T.Expression) (p : Protocol) (c : T.Place) (r : Option Numbers)
          → (r >>= λ m. variants p sc (depth + 1) m >>= λ x. Some (input_arm e c (T.Tagged x.0) no_arms, x.1)) ≡ ((r >>= λ m. Some ((e, (p, c)), m)) >>= then_variants)
      then_by e p c None = refl
      then_by e p c (Some m) = refl

      with_protocol : (e : Option T.Expression) (c : T.Place) (o : Option Protocol)
          → (o >>= λ p. room depth (Sizes.with_node (Sizes.together (size_of_test e) (size_of_place c))) n >>= λ m. variants p sc (depth + 1) m >>= λ x. Some (input_arm e c (T.Tagged x.0) no_arms, x.1))
          ≡ ((o >>= λ p. room depth (Sizes.with_node (Sizes.together (size_of_test e) (size_of_place c))) n >>= λ m. Some ((e, (p, c)), m)) >>= then_variants)
      with_protocol e c None = refl
      with_protocol e c (Some p) = then_by e p c (room depth (Sizes.with_node (Sizes.together (size_of_test e) (size_of_place c))) n)

      with_channel : (e : Option T.Expression) (o : Option (Protocol × T.Place))
          → (o >>= λ c. with_tags c.0 >>= λ p. room depth (Sizes.with_node (Sizes.together (size_of_test e) (size_of_place c.1))) n >>= λ m.
          variants p sc (depth + 1) m >>= λ x. Some (input_arm e c.1 (T.Tagged x.0) no_arms, x.1))
          ≡ ((o >>= λ c. with_tags c.0 >>= λ p. room depth (Sizes.with_node (Sizes.together (size_of_test e) (size_of_place c.1))) n >>= λ m. Some ((e, (p, c.1)), m)) >>= then_variants)
      with_channel e None = refl
      with_channel e (Some c) = with_protocol e c.1 (with_tags c.0)

      by : (o : Option (Option T.Expression))
          → (o >>= λ e. channel_of (names_of sc) line v >>= λ c. with_tags c.0 >>= λ p. room depth (Sizes.with_node (Sizes.together (size_of_test e) (size_of_place c.1))) n >>= λ m.
          variants p sc (depth + 1) m >>= λ x. Some (input_arm e c.1 (T.Tagged x.0) no_arms, x.1))
          ≡ ((o >>= λ e. channel_of (names_of sc) line v >>= λ c. with_tags c.0 >>= λ p. room depth (Sizes.with_node (Sizes.together (size_of_test e) (size_of_place c.1))) n >>= λ m. Some ((e, (p, c.1)), m)) >>= then_variants)
      by None = refl
      by (Some e) = with_channel e (channel_of (names_of sc) line v)

  pub variants_not_guarded : guarding_variants (names_of sc) line depth test v n ≡ None → variants_arm line test v variants sc depth n ≡ None
  variants_not_guarded h = by_variants ∙ ap (λ o. o >>= then_variants) h

  pub variants_open : (g : Option T.Expression × (Protocol × T.Place)) (m : Numbers) → guarding_variants (names_of sc) line depth test v n ≡ Some (g, m)
      → variants_arm line test v variants sc depth n ≡ put (λ vs. input_arm g.0 g.1.1 (T.Tagged vs) no_arms) (variants g.1.0 sc (depth + 1) m)
  unfolding then_variants as_variants_arm
  variants_open g m h = by_variants ∙ ap (λ o. o >>= then_variants) h

module _ (line : ℕ) (test : Expression) (body : Under T.Term) (sc : Scope Calling) (depth : ℕ) (n : Numbers) where
  as_skip_arm : T.Expression → T.Term × Numbers → Option (Arms × Numbers)
  as_skip_arm e x = Some (skip_arm e x.0 no_arms, x.1)

  then_skip : T.Expression × Numbers → Option (Arms × Numbers)
  then_skip a = body sc (depth + 1) a.1 >>= as_skip_arm a.0

  by_test : P.arm_of line (on_skip test) body sc depth n ≡ (tested (names_of sc) line depth test n >>= then_skip)
  unfolding then_skip as_skip_arm
  by_test = by (typed_as (names_of sc) line Boolean test)
    where
      then_by : (e : T.Expression) (r : Option Numbers) → (r >>= λ m. body sc (depth + 1) m >>= λ x. Some (skip_arm e x.0 no_arms, x.1)) ≡ ((r >>= λ m. Some (e, m)) >>= then_skip)
      then_by e None = refl
      then_by e (Some m) = refl

      by : (o : Option T.Expression) → (o >>= λ e. room depth (Sizes.with_node (size_of_expression e)) n >>= λ m. body sc (depth + 1) m >>= λ x. Some (skip_arm e x.0 no_arms, x.1))
          ≡ ((o >>= λ e. room depth (Sizes.with_node (size_of_expression e)) n >>= λ m. Some (e, m)) >>= then_skip)
      by None = refl
      by (Some e) = then_by e (room depth (Sizes.with_node (size_of_expression e)) n)

  pub skip_not_tested : tested (names_of sc) line depth test n ≡ None → P.arm_of line (on_skip test) body sc depth n ≡ None
  skip_not_tested none = by_test ∙ ap (λ o. o >>= then_skip) none

  pub skip_opens : (e : T.Expression) (m : Numbers) → tested (names_of sc) line depth test n ≡ Some (e, m) → P.arm_of line (on_skip test) body sc depth n ≡ put (λ t. skip_arm e t no_arms) (body sc (depth + 1) m)
  unfolding then_skip as_skip_arm
  skip_opens e m h = by_test ∙ ap (λ o. o >>= then_skip) h

-- ---- one arm as a list

abbrev nothing_more : Numbers → Option (Arms × Numbers)
nothing_more n = Some (no_arms, n)

pub single_arm : (c : Node arm) (sc : Scope Calling) (depth : ℕ) (n : Numbers) → all_arms (more_nodes c no_node) sc depth n ≡ arm_unfolded c sc depth n
unfolding all_arms
single_arm c sc depth n = by (arm_unfolded c sc depth n)
  where
    by : (o : Option (Arms × Numbers)) → (o >>= λ x. nothing_more x.1 >>= λ r. Some (arms_then x.0 r.0, r.1)) ≡ o
    by None = refl
    by (Some x) = ap (λ a. Some (a, x.1)) (no_more_arms x.0)

-- ---- in the code

pub outwards_step : (hs more : List Declaration) (h : Declaration) (cs one : List TermArm) → more ≡ hs ++ h ∷ [] → arms_of one ≡ declared_arms (declaration_of h) (arms_of cs) no_arms
    → arms_behind (declarations_of hs) (arms_of one) ≡ arms_behind (declarations_of more) (arms_of cs)
outwards_step hs more h cs one is made =
    ap (arms_behind (declarations_of hs)) made
    ∙ sym (ap (λ ds. arms_behind ds (arms_of cs)) (ap declarations_of is ∙ map-append declaration_of hs (h ∷ [])) ∙ one_behind (declarations_of hs) (declaration_of h) (arms_of cs))
