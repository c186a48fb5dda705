-- The choices of an IF, one after the other, and behind declarations.
use Rattle.std.proofs.Common.{◌≡◌, ◌∙◌, ◌+◌, ℕ, length, List, [], ◌∷◌, ◌++◌, Option, Some, None, refl, ap, sym, map}
use Rattle.std.proofs.lemmas.List.{map-append}
use Rattle.occ_tree_grammar.specs.Many.{◌>>=◌}
use Rattle.occ_term.specs.declared.expression.Declaration.{Declaration}
use Rattle.occ_tree_grammar.specs.Processes.Trees.{Node, choice, more_nodes, no_node, nodes, Decls}
use Rattle.occ_tree_grammar.specs.Processes.Views as trees
use Rattle.occ_tree_grammar.specs.declared.tree.process.Choice.{Choice}
use Rattle.occ_tree_grammar.specs.declared.tree.process.Choice.TheVariants as choices
use Rattle.occ_term.specs.Terms as T
use Rattle.occ_term.specs.Terms.{Choices, no_choices, or_choice, declared_choices, each_choice}
use Rattle.occ_term.specs.View.{Seen, arm_step, choice_step, reception_step, option_step, term_step, branch_step, variant_step, choice_of, choices_of, declaration_of, declarations_of}
use Rattle.occ_term.specs.declared.term.Choice.{Choice as TermChoice}
use Rattle.occ_term.specs.declared.term.Arm.TheOpen.{Choice-F}
use Rattle.occ_term.specs.declared.term.Arm.TheFolds.{fold_out-Choice}
use Rattle.occ_check_meaning.specs.Actions.{choices_behind, choices_then}
use Rattle.occ_check_meaning.specs.Numbers.{Numbers, deeper, room}
use Rattle.occ_tree_grammar.specs.Expressions.Trees.{Expression}
use Rattle.occ_term.specs.Sizes as Sizes
use Rattle.occ_term.specs.Sizes.{size_of_expression}
use Rattle.occ_term.specs.declared.primitive.Primitive.TheVariants.{Bool as Boolean}
use Rattle.occ_check_meaning.specs.Expressions.{typed_as}
use Rattle.occ_check_meaning.specs.Performing as P
use Rattle.occ_check_meaning.specs.Performing.{Calling, Under, choices_under, entered}
use Rattle.occ_check.specs.OneLine.{tested}
use Rattle.occ_check_meaning.specs.Recursion.{all_choices, all_declared, choice_unfolded}
use Rattle.occ_check_meaning.specs.Scope.{Scope, names_of}
use Rattle.occ_check.specs.Choices.{choosing, declarations_of_choice, choice_size}
use Rattle.occ_check.specs.Opened.{put}
use Rattle.occ_check.specs.Weights.{decls_size, node_size}

abbrev pairing : T.Expression → Numbers → Option (T.Expression × Numbers)
pairing test m = Some (test, m)

-- ---- one choice

pub behind_choice : (c : Choice) (sc : Scope Calling) (depth : ℕ) (n : Numbers)
    → choice_unfolded (trees.choice_of c) sc depth n ≡ choices_under (all_declared (declarations_of_choice c)) (choosing c) sc depth n
unfolding trees.choice_of choice_unfolded
behind_choice (choices.When' shape ds line e n) sc depth m = refl
behind_choice (choices.InnerIf' shape ds line s cs) sc depth m = refl
behind_choice (choices.InnerIfFor' shape ds line r p c) sc depth m = refl

pub within_choice : (c : Choice) → node_size (trees.choice_of c) ≡ (decls_size (declarations_of_choice c) + choice_size c) + 2
unfolding trees.choice_of node_size
within_choice (choices.When' shape ds line e n) = refl
within_choice (choices.InnerIf' shape ds line s cs) = refl
within_choice (choices.InnerIfFor' shape ds line r p c) = refl

-- ---- what a choice of the code puts before others

seen : (x : TermChoice) → (y : Seen Choice-F) × (choice_of x ≡ choice_step y)
seen x = (
  _,
  fold_out-Choice (T.Arms → T.Arms) (T.Choices → T.Choices) T.Reception (T.Options → T.Options) T.Term (T.Branches → T.Branches) (T.Variants → T.Variants)
      arm_step choice_step reception_step option_step term_step branch_step variant_step x,
)

step_first : (y : Seen Choice-F) (a b : Choices) → choices_then (choice_step y a) b ≡ choice_step y (choices_then a b)
step_first (Choice-F.When e t) a b = refl
step_first (Choice-F.DeclaredChoices d within) a b = refl
step_first (Choice-F.EachChoice r within) a b = refl

one_first : (x : TermChoice) (a b : Choices) → choices_then (choice_of x a) b ≡ choice_of x (choices_then a b)
one_first x a b = let s = seen x in ap (λ f. choices_then (f a) b) s.1 ∙ step_first s.0 a b ∙ ap (λ f. f (choices_then a b)) (sym s.1)

pub no_more_choices : (a : Choices) → choices_then a no_choices ≡ a
no_more_choices no_choices = refl
no_more_choices (or_choice e t cs) = ap (or_choice e t) (no_more_choices cs)
no_more_choices (declared_choices d within cs) = ap (declared_choices d within) (no_more_choices cs)
no_more_choices (each_choice r within cs) = ap (each_choice r within) (no_more_choices cs)

grouped : (a b c : Choices) → choices_then (choices_then a b) c ≡ choices_then a (choices_then b c)
grouped no_choices b c = refl
grouped (or_choice e t cs) b c = ap (or_choice e t) (grouped cs b c)
grouped (declared_choices d within cs) b c = ap (declared_choices d within) (grouped cs b c)
grouped (each_choice r within cs) b c = ap (each_choice r within) (grouped cs b c)

more_choices : (xs ys : List TermChoice) → choices_of (xs ++ ys) ≡ choices_then (choices_of xs) (choices_of ys)
more_choices [] ys = refl
more_choices (x ∷ xs) ys = ap (choice_of x) (more_choices xs ys) ∙ sym (one_first x (choices_of xs) (choices_of ys))

-- ---- the list, part by part

abbrev pub choices_in : Scope Calling → ℕ → List Choice → Numbers → Option (Choices × Numbers)
choices_in sc depth xs n = all_choices (nodes (map trees.choice_of xs)) sc depth n

abbrev pub choice_in : Scope Calling → ℕ → Choice → Numbers → Option (Choices × Numbers)
choice_in sc depth x n = choice_unfolded (trees.choice_of x) sc depth n

abbrev pub put_choices : Choices → Choices × Numbers → Choices × Numbers
put_choices a r = (choices_then a r.0, r.1)

pub choices_step : (sc : Scope Calling) (depth : ℕ) (x : Choice) (xs : List Choice) (n : Numbers)
    → choices_in sc depth (x ∷ xs) n ≡ (choice_in sc depth x n >>= λ a. choices_in sc depth xs a.1 >>= λ r. Some (put_choices a.0 r))
unfolding all_choices
choices_step sc depth x xs n = refl

pub choices_none : (sc : Scope Calling) (depth : ℕ) (n : Numbers) → choices_in sc depth [] n ≡ Some (no_choices, n)
unfolding all_choices
choices_none sc depth n = refl

pub choices_grown : (made more all : List TermChoice) (r : Choices × Numbers) → all ≡ made ++ more → put_choices (choices_of all) r ≡ put_choices (choices_of made) (put_choices (choices_of more) r)
choices_grown made more all r is = ap (λ c. (c, r.1)) (ap (λ xs. choices_then (choices_of xs) r.0) is ∙ ap (λ c. choices_then c r.0) (more_choices made more) ∙ grouped (choices_of made) (choices_of more) r.0)

-- ---- behind declarations, the last of which is put round the choices first

pub one_behind : (hs : List T.Declaration) (h : T.Declaration) (cs : Choices) → choices_behind (hs ++ h ∷ []) cs ≡ choices_behind hs (declared_choices h cs no_choices)
one_behind [] h cs = refl
one_behind (g ∷ hs) h cs = ap (λ c. declared_choices g c no_choices) (one_behind hs h cs)

-- ---- one choice, step by step

module _ (c : Choice) (sc : Scope Calling) (depth : ℕ) (n : Numbers) (ds : Decls) (is : ds ≡ declarations_of_choice c) where
  whole : choice_unfolded (trees.choice_of c) sc depth n ≡ choices_under (all_declared ds) (choosing c) sc depth n
  whole = behind_choice c sc depth n ∙ ap (λ d. choices_under (all_declared d) (choosing c) sc depth n) (sym is)

  pub choice_not_declared : all_declared ds sc depth n ≡ None → choice_unfolded (trees.choice_of c) sc depth n ≡ None
  choice_not_declared e = whole ∙ ap (λ r. r >>= λ d. deeper depth (length d.heads) >>= λ deep. choosing c d.scope deep d.numbers >>= λ x. Some (choices_behind d.heads x.0, x.1)) e

  module _ (inside : Scope Calling) (heads : List T.Declaration) (m : Numbers) (done : all_declared ds sc depth n ≡ Some (entered inside heads m)) (levels : ℕ) (so_many : levels ≡ length heads) where
    behind_heads : choice_unfolded (trees.choice_of c) sc depth n ≡ (deeper depth levels >>= λ deep. choosing c inside deep m >>= λ x. Some (choices_behind heads x.0, x.1))
    behind_heads =
        whole
        ∙ ap (λ r. r >>= λ d. deeper depth (length d.heads) >>= λ deep. choosing c d.scope deep d.numbers >>= λ x. Some (choices_behind d.heads x.0, x.1)) done
        ∙ ap (λ k. deeper depth k >>= λ deep. choosing c inside deep m >>= λ x. Some (choices_behind heads x.0, x.1)) (sym so_many)

    pub choice_too_deep : deeper depth levels ≡ None → choice_unfolded (trees.choice_of c) sc depth n ≡ None
    choice_too_deep e = behind_heads ∙ ap (λ r. r >>= λ deep. choosing c inside deep m >>= λ x. Some (choices_behind heads x.0, x.1)) e

    module _ (deep : ℕ) (there : deeper depth levels ≡ Some deep) where
      pub choice_behind : choice_unfolded (trees.choice_of c) sc depth n ≡ put (choices_behind heads) (choosing c inside deep m)
      choice_behind = behind_heads ∙ ap (λ r. r >>= λ deep. choosing c inside deep m >>= λ x. Some (choices_behind heads x.0, x.1)) there

module _ (line : ℕ) (e : Expression) (body : Under T.Term) (sc : Scope Calling) (depth : ℕ) (n : Numbers) where
  as_or_choice : T.Expression → T.Term × Numbers → Option (Choices × Numbers)
  as_or_choice test x = Some (or_choice test x.0 no_choices, x.1)

  then_body : T.Expression × Numbers → Option (Choices × Numbers)
  then_body a = body sc (depth + 1) a.1 >>= as_or_choice a.0

  by_test : P.choice_of line e body sc depth n ≡ (tested (names_of sc) line depth e n >>= then_body)
  unfolding then_body as_or_choice
  by_test = by (typed_as (names_of sc) line Boolean e)
    where
      then_by : (test : T.Expression) (r : Option Numbers) → (r >>= λ m. body sc (depth + 1) m >>= λ x. Some (or_choice test x.0 no_choices, x.1)) ≡ ((r >>= λ m. pairing test m) >>= then_body)
      then_by test None = refl
      then_by test (Some m) = refl

      by : (o : Option T.Expression) → (o >>= λ test. room depth (Sizes.with_node (size_of_expression test)) n >>= λ m. body sc (depth + 1) m >>= λ x. Some (or_choice test x.0 no_choices, x.1))
          ≡ ((o >>= λ test. room depth (Sizes.with_node (size_of_expression test)) n >>= λ m. pairing test m) >>= then_body)
      by None = refl
      by (Some test) = then_by test (room depth (Sizes.with_node (size_of_expression test)) n)

  pub when_not_tested : tested (names_of sc) line depth e n ≡ None → P.choice_of line e body sc depth n ≡ None
  when_not_tested none = by_test ∙ ap (λ o. o >>= then_body) none

  pub when_opens : (test : T.Expression) (m : Numbers) → tested (names_of sc) line depth e n ≡ Some (test, m) → P.choice_of line e body sc depth n ≡ put (λ t. or_choice test t no_choices) (body sc (depth + 1) m)
  unfolding then_body as_or_choice
  when_opens test m h = by_test ∙ ap (λ o. o >>= then_body) h

-- ---- one choice as a list

abbrev nothing_more : Numbers → Option (Choices × Numbers)
nothing_more n = Some (no_choices, n)

pub single_choice : (c : Node choice) (sc : Scope Calling) (depth : ℕ) (n : Numbers) → all_choices (more_nodes c no_node) sc depth n ≡ choice_unfolded c sc depth n
unfolding all_choices
single_choice c sc depth n = by (choice_unfolded c sc depth n)
  where
    by : (o : Option (Choices × Numbers)) → (o >>= λ x. nothing_more x.1 >>= λ r. Some (choices_then x.0 r.0, r.1)) ≡ o
    by None = refl
    by (Some x) = ap (λ a. Some (a, x.1)) (no_more_choices x.0)

-- ---- in the code

pub outwards_step : (hs more : List Declaration) (h : Declaration) (cs one : List TermChoice) → more ≡ hs ++ h ∷ [] → choices_of one ≡ declared_choices (declaration_of h) (choices_of cs) no_choices
    → choices_behind (declarations_of hs) (choices_of one) ≡ choices_behind (declarations_of more) (choices_of cs)
outwards_step hs more h cs one is made =
    ap (choices_behind (declarations_of hs)) made
    ∙ sym (ap (λ ds. choices_behind ds (choices_of cs)) (ap declarations_of is ∙ map-append declaration_of hs (h ∷ [])) ∙ one_behind (declarations_of hs) (declaration_of h) (choices_of cs))
