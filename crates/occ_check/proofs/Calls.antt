-- Formals and actuals, one after the other.
use Rattle.std.proofs.Common.{◌≡◌, ◌∙◌, sym, ap, refl, ℕ, suc, ◌+◌, ◌<◌, ◌≤◌, List, [], ◌∷◌, ◌++◌, map, length, drop, get_or, option_map, Option, Some, None, Bool, true, false, arith}
use Rattle.std.specs.Prelude.{MatchOption}
use Rattle.std.proofs.Math.Seq.{drop-cons}
use Rattle.std.proofs.Math.ListN.{drop_of_length-le}
use mathlib.Core.List.{append_assoc, append-nil, map-append}
use Rattle.occ_tree_grammar.specs.Many.{◌>>=◌}
use Rattle.occ_tree_grammar.specs.Expressions.Trees.{Expression}
use Rattle.occ_tree_grammar.specs.Expressions.Trees as trees
use Rattle.occ_tree_grammar.specs.Lines.Trees as L
use Rattle.occ_tree_grammar.specs.Lines.Views as lines
use Rattle.occ_tree_grammar.specs.declared.tree.expr.Expr.{Expr}
use Rattle.occ_tree_grammar.specs.declared.tree.line.Formal.{Formal}
use Rattle.occ_tree_grammar.specs.declared.tree.line.Spec.{Spec}
use Rattle.occ_check_meaning.specs.Scope.{Name, Names, are_once, keep, once}
use Rattle.occ_check_meaning.specs.Declarations as D
use Rattle.occ_check_meaning.specs.Declarations.{opened}
use Rattle.occ_check_meaning.specs.Calls as C
use Rattle.occ_check_meaning.specs.Calls.{other_formals, all_actuals, actual_of, wanted, spec_after}
use Rattle.occ_check_lines.specs.View.{Refuses, numbers_of}
use Rattle.occ_check_lines.specs.Declaration.{opened_of}
use Rattle.occ_check.specs.Call.{formal_of, formals_of, listed_formals, named_formal, wanted_of}
use Rattle.occ_check_lines.specs.declared.fault.CheckFault.{CheckFault}
use Rattle.occ_check_lines.specs.declared.numbers.Numbers.{Numbers}
use Rattle.occ_check_lines.specs.declared.declaration.Opened.{Opened}
use Rattle.occ_check.specs.declared.formals.WantedFormal.{WantedFormal}
use Rattle.occ_check_lines.proofs.Refusals.{refused_with}
use Rattle.occ_check_lines.proofs.Declarations.{after_these, joined, nothing_after, these_and_those}

abbrev pub Listed : Type 0
Listed = Option (List (Name × C.Wanted))

-- ---- formals

abbrev pub those_after : List (Name × C.Wanted) → Listed → Listed
those_after xs rest = rest >>= λ ys. Some (xs ++ ys)

abbrev pub after_one : Listed → Name × C.Wanted → Listed
after_one rest x = rest >>= λ ys. Some (x ∷ ys)

-- what stands listed, and what the formals from number i on want, is what all of them want
pub record Lists (ns : Names) (line : ℕ) (spec : Spec) (fs : List Formal) (i : ℕ) (all : List WantedFormal) (before : Spec) : Type 0 where
  pub is : those_after (formals_of all) (other_formals ns line (lines.spec_of before) (map lines.formal_of (drop i fs))) ≡ other_formals ns line (lines.spec_of spec) (map lines.formal_of fs)

one_formal : (x : Name) (given : Option C.Wanted) (rest : Listed) → (given >>= λ w. rest >>= λ ys. Some ((x, w) ∷ ys)) ≡ (named_formal x given >>= after_one rest)
one_formal x None rest = refl
one_formal x (Some w) rest = refl

formal_step : (ns : Names) (line : ℕ) (s : L.Spec) (fs : List Formal) (i : ℕ) (f : Formal) → i < length fs → f ≡ get_or fs i f
    → other_formals ns line s (map lines.formal_of (drop i fs))
    ≡ (named_formal f.name (wanted ns line (spec_after s (option_map lines.spec_of f.spec))) >>= after_one (other_formals ns line (spec_after s (option_map lines.spec_of f.spec)) (map lines.formal_of (drop (i + 1) fs))))
unfolding other_formals
formal_step ns line s fs i f h e =
    let next : i + 1 ≡ suc i = omega arith in
    rw (drop-cons fs i f h, sym e, next) (one_formal f.name _ _)

those_and_one : (xs : List (Name × C.Wanted)) (x : Name × C.Wanted) (rest : Listed) → those_after xs (after_one rest x) ≡ those_after (xs ++ x ∷ []) rest
those_and_one xs x None = refl
those_and_one xs x (Some ys) = ap Some (sym (append_assoc xs (x ∷ []) ys))

module _ (ns : Names) (line : ℕ) (spec : Spec) (fs : List Formal) (i : ℕ) (all : List WantedFormal) (before now : Spec) (f : Formal)
    (below : i < length fs) (at : f ≡ get_or fs i f) (lists : Lists ns line spec fs i all before)
    (own : lines.spec_of now ≡ spec_after (lines.spec_of before) (option_map lines.spec_of f.spec)) where
  formal_here : those_after (formals_of all) (named_formal f.name (wanted ns line (lines.spec_of now)) >>= after_one (other_formals ns line (lines.spec_of now) (map lines.formal_of (drop (i + 1) fs))))
      ≡ other_formals ns line (lines.spec_of spec) (map lines.formal_of fs)
  formal_here =
      ap (λ (s : L.Spec). those_after (formals_of all) (named_formal f.name (wanted ns line s) >>= after_one (other_formals ns line s (map lines.formal_of (drop (i + 1) fs))))) own
      ∙ ap (those_after (formals_of all)) (sym (formal_step ns line (lines.spec_of before) fs i f below at)) ∙ lists.is

  pub formal_stops : (fault : CheckFault) → Refuses fault (named_formal f.name (wanted ns line (lines.spec_of now)))
      → Refuses fault (other_formals ns line (lines.spec_of spec) (map lines.formal_of fs))
  formal_stops fault r =
      refused_with fault _ _
      (λ none. sym formal_here ∙ ap (λ (o : Option (Name × C.Wanted)). those_after (formals_of all) (o >>= after_one (other_formals ns line (lines.spec_of now) (map lines.formal_of (drop (i + 1) fs))))) none) r

  pub formal_next : (one : WantedFormal) (then_all : List WantedFormal) → named_formal f.name (wanted ns line (lines.spec_of now)) ≡ Some (formal_of one) → then_all ≡ all ++ one ∷ []
      → Lists ns line spec fs (i + 1) then_all now
  formal_next one then_all e more =
      let rest = other_formals ns line (lines.spec_of now) (map lines.formal_of (drop (i + 1) fs)) in
      record {
        is =
            ap (λ (xs : List WantedFormal). those_after (formals_of xs) rest) more
            ∙ ap (λ (xs : List (Name × C.Wanted)). those_after xs rest) (map-append formal_of all (one ∷ []))
            ∙ sym (those_and_one (formals_of all) (formal_of one) rest)
            ∙ ap (λ (o : Option (Name × C.Wanted)). those_after (formals_of all) (o >>= after_one rest)) (sym e) ∙ formal_here;
      }

pub formals_end : (ns : Names) (line : ℕ) (spec : Spec) (fs : List Formal) (i : ℕ) (all : List WantedFormal) (before : Spec) → length fs ≤ i → Lists ns line spec fs i all before
    → other_formals ns line (lines.spec_of spec) (map lines.formal_of fs) ≡ Some (formals_of all)
unfolding other_formals
formals_end ns line spec fs i all before h lists =
    sym lists.is ∙ ap (λ (xs : List Formal). those_after (formals_of all) (other_formals ns line (lines.spec_of before) (map lines.formal_of xs))) (drop_of_length-le fs h)
    ∙ ap Some (append-nil (formals_of all))

-- ---- actuals

-- what the formals so far stand for, and what those from number i on do under the actuals that are left, is what all of them do
pub record Binds (ns : Names) (line depth : ℕ) (fs : List WantedFormal) (es : List Expr) (i : ℕ) (before : Numbers) (now : Opened) (left : List Expr) (after : Numbers) : Type 0 where
  pub is : after_these (opened_of now after) (all_actuals ns line depth (formals_of (drop i fs)) (map trees.expression_of left) (numbers_of after))
      ≡ all_actuals ns line depth (formals_of fs) (map trees.expression_of es) (numbers_of before)

actual_step : (ns : Names) (line depth : ℕ) (fs : List WantedFormal) (i : ℕ) (f : WantedFormal) (e : Expr) (rest : List Expr) (n : _) → i < length fs → f ≡ get_or fs i f
    → all_actuals ns line depth (formals_of (drop i fs)) (map trees.expression_of (e ∷ rest)) n
    ≡ (actual_of ns line depth f.name (wanted_of f.wanted) (trees.expression_of e) n >>= λ a. after_these a (all_actuals ns line depth (formals_of (drop (i + 1) fs)) (map trees.expression_of rest) a.numbers))
unfolding all_actuals
actual_step ns line depth fs i f e rest n h at =
    let next : i + 1 ≡ suc i = omega arith in
    rw (drop-cons fs i f h, sym at, next) refl

module _ (ns : Names) (line depth : ℕ) (fs : List WantedFormal) (es : List Expr) (i : ℕ) (before : Numbers) (now : Opened) (left : List Expr) (after : Numbers) (f : WantedFormal) (e : Expr) (rest : List Expr)
    (below : i < length fs) (at : f ≡ get_or fs i f) (split : left ≡ e ∷ rest) (binds : Binds ns line depth fs es i before now left after) where
  actual_here : after_these (opened_of now after) (actual_of ns line depth f.name (wanted_of f.wanted) (trees.expression_of e) (numbers_of after)
      >>= λ a. after_these a (all_actuals ns line depth (formals_of (drop (i + 1) fs)) (map trees.expression_of rest) a.numbers))
      ≡ all_actuals ns line depth (formals_of fs) (map trees.expression_of es) (numbers_of before)
  actual_here =
      ap (after_these (opened_of now after)) (sym (actual_step ns line depth fs i f e rest (numbers_of after) below at))
      ∙ ap (λ (xs : List Expr). after_these (opened_of now after) (all_actuals ns line depth (formals_of (drop i fs)) (map trees.expression_of xs) (numbers_of after))) (sym split)
      ∙ binds.is

  pub actual_stops : (fault : CheckFault) → Refuses fault (actual_of ns line depth f.name (wanted_of f.wanted) (trees.expression_of e) (numbers_of after))
      → Refuses fault (all_actuals ns line depth (formals_of fs) (map trees.expression_of es) (numbers_of before))
  actual_stops fault r =
      refused_with fault _ _
      (λ none. sym actual_here
      ∙ ap (λ (o : Option D.Opened). after_these (opened_of now after) (o >>= λ a. after_these a (all_actuals ns line depth (formals_of (drop (i + 1) fs)) (map trees.expression_of rest) a.numbers))) none) r

  pub actual_next : (one then_now : Opened) (later : Numbers) → actual_of ns line depth f.name (wanted_of f.wanted) (trees.expression_of e) (numbers_of after) ≡ Some (opened_of one later)
      → then_now.names.items ≡ now.names.items ++ one.names.items → then_now.heads ≡ now.heads ++ one.heads
      → Binds ns line depth fs es (i + 1) before then_now rest later
  actual_next one then_now later d p q =
      let others = all_actuals ns line depth (formals_of (drop (i + 1) fs)) (map trees.expression_of rest) (numbers_of later) in
      record {
        is =
            ap (λ (a : D.Opened). after_these a others) (joined now one then_now after later p q)
            ∙ sym (these_and_those (opened_of now after) (opened_of one later) others)
            ∙ ap (λ (o : Option D.Opened). after_these (opened_of now after) (o >>= λ a. after_these a (all_actuals ns line depth (formals_of (drop (i + 1) fs)) (map trees.expression_of rest) a.numbers))) (sym d)
            ∙ actual_here;
      }

module _ (ns : Names) (line depth : ℕ) (fs : List WantedFormal) (es : List Expr) (i : ℕ) (before : Numbers) (now : Opened) (left : List Expr) (after : Numbers)
    (binds : Binds ns line depth fs es i before now left after) where
  -- there are fewer actuals than formals
  pub too_few : (f : WantedFormal) → i < length fs → left ≡ [] → all_actuals ns line depth (formals_of fs) (map trees.expression_of es) (numbers_of before) ≡ None
  unfolding all_actuals
  too_few f below none =
      sym binds.is ∙ ap (λ (xs : List Expr). after_these (opened_of now after) (all_actuals ns line depth (formals_of (drop i fs)) (map trees.expression_of xs) (numbers_of after))) none
      ∙ ap (λ (xs : List WantedFormal). after_these (opened_of now after) (all_actuals ns line depth (formals_of xs) [] (numbers_of after))) (drop-cons fs i f below)

  -- all formals stand for something
  done : length fs ≤ i → after_these (opened_of now after) (all_actuals ns line depth [] (map trees.expression_of left) (numbers_of after))
      ≡ all_actuals ns line depth (formals_of fs) (map trees.expression_of es) (numbers_of before)
  done past =
      ap (λ (xs : List WantedFormal). after_these (opened_of now after) (all_actuals ns line depth (formals_of xs) (map trees.expression_of left) (numbers_of after))) (sym (drop_of_length-le fs past)) ∙ binds.is

  -- there are more
  pub too_many : length fs ≤ i → 0 < length left → all_actuals ns line depth (formals_of fs) (map trees.expression_of es) (numbers_of before) ≡ None
  unfolding all_actuals
  too_many past more = sym (done past) ∙ by left more
    where
      by : (xs : List Expr) → 0 < length xs → after_these (opened_of now after) (all_actuals ns line depth [] (map trees.expression_of xs) (numbers_of after)) ≡ None
      by [] h = absurd (omega arith)
      by (e ∷ xs) h = refl

  pub as_many : length fs ≤ i → length left ≡ 0 → all_actuals ns line depth (formals_of fs) (map trees.expression_of es) (numbers_of before) ≡ Some (opened_of now after)
  unfolding all_actuals
  as_many past none = sym (done past) ∙ by left none ∙ nothing_after (opened_of now after)
    where
      by : (xs : List Expr) → length xs ≡ 0 → after_these (opened_of now after) (all_actuals ns line depth [] (map trees.expression_of xs) (numbers_of after)) ≡ after_these (opened_of now after) (Some (opened [] [] (numbers_of after)))
      by [] h = refl
      by (e ∷ xs) h = absurd (omega arith)

-- the first formal, and then the others
module _ (ns : Names) (line depth : ℕ) (fs : List WantedFormal) (f : WantedFormal) (rest : List WantedFormal) (e : Expr) (es : List Expr) (before : Numbers) (split : fs ≡ f ∷ rest) where
  first_of_them : all_actuals ns line depth (formals_of fs) (trees.expression_of e ∷ map trees.expression_of es) (numbers_of before)
      ≡ (actual_of ns line depth f.name (wanted_of f.wanted) (trees.expression_of e) (numbers_of before) >>= λ a. after_these a (all_actuals ns line depth (formals_of rest) (map trees.expression_of es) a.numbers))
  unfolding all_actuals
  first_of_them = ap (λ (xs : List WantedFormal). all_actuals ns line depth (formals_of xs) (trees.expression_of e ∷ map trees.expression_of es) (numbers_of before)) split

  pub first_stops : (fault : CheckFault) → Refuses fault (actual_of ns line depth f.name (wanted_of f.wanted) (trees.expression_of e) (numbers_of before))
      → Refuses fault (all_actuals ns line depth (formals_of fs) (trees.expression_of e ∷ map trees.expression_of es) (numbers_of before))
  first_stops fault r =
      refused_with fault _ _
      (λ none. first_of_them ∙ ap (λ (o : Option D.Opened). o >>= λ a. after_these a (all_actuals ns line depth (formals_of rest) (map trees.expression_of es) a.numbers)) none) r

  module _ (one : Opened) (between : Numbers) (first : actual_of ns line depth f.name (wanted_of f.wanted) (trees.expression_of e) (numbers_of before) ≡ Some (opened_of one between)) where
    then_others : all_actuals ns line depth (formals_of fs) (trees.expression_of e ∷ map trees.expression_of es) (numbers_of before)
        ≡ after_these (opened_of one between) (all_actuals ns line depth (formals_of rest) (map trees.expression_of es) (numbers_of between))
    then_others = first_of_them ∙ ap (λ (o : Option D.Opened). o >>= λ a. after_these a (all_actuals ns line depth (formals_of rest) (map trees.expression_of es) a.numbers)) first

    pub others_stop : (fault : CheckFault) → Refuses fault (all_actuals ns line depth (formals_of rest) (map trees.expression_of es) (numbers_of between))
        → Refuses fault (all_actuals ns line depth (formals_of fs) (trees.expression_of e ∷ map trees.expression_of es) (numbers_of before))
    others_stop fault r = refused_with fault _ _ (λ none. then_others ∙ ap (after_these (opened_of one between)) none) r

    pub all_given : (others whole : Opened) (after : Numbers) → all_actuals ns line depth (formals_of rest) (map trees.expression_of es) (numbers_of between) ≡ Some (opened_of others after)
        → whole.names.items ≡ one.names.items ++ others.names.items → whole.heads ≡ one.heads ++ others.heads
        → all_actuals ns line depth (formals_of fs) (trees.expression_of e ∷ map trees.expression_of es) (numbers_of before) ≡ Some (opened_of whole after)
    all_given others whole after r p q =
        then_others ∙ ap (after_these (opened_of one between)) r ∙ ap Some (sym (joined one others whole between after p q))

pub no_formal : (ns : Names) (line depth : ℕ) (fs : List WantedFormal) (e : Expression) (es : List Expression) (n : _) → fs ≡ [] → all_actuals ns line depth (formals_of fs) (e ∷ es) n ≡ None
unfolding all_actuals
no_formal ns line depth fs e es n none = ap (λ (xs : List WantedFormal). all_actuals ns line depth (formals_of xs) (e ∷ es) n) none

-- what a look at the first tells where there is none
pub no_first : {X P : Type 0} (Q : X → Type 0) (r : Option X) → MatchOption r P Q → ((x : X) → r ≡ Some x → ⊥) → P
no_first Q None h other = h
no_first Q (Some x) h other = absurd (other x refl)

pub nothing : {X : Type 0} (xs : List X) → length xs ≡ 0 → xs ≡ []
nothing [] e = refl
nothing (x ∷ xs) e = absurd (omega arith)

-- ---- formals, once each

once_each : List (Name × C.Wanted) → Listed
once_each all = keep (are_once (C.formal_names all)) all

regrouped : (x : Name) (a : Option C.Wanted) (b : Listed) → (a >>= λ w. b >>= λ os. once_each ((x, w) ∷ os)) ≡ (a >>= λ w. b >>= λ os. Some ((x, w) ∷ os)) >>= once_each
regrouped x None b = refl
regrouped x (Some w) None = refl
regrouped x (Some w) (Some os) = refl

formals_listed : (ns : Names) (line : ℕ) (s : L.Spec) (x : Name) (fs : List L.Formal) → C.formals_of ns line (L.formals s x fs) ≡ (listed_formals ns line s x fs >>= once_each)
unfolding once_each
formals_listed ns line s x fs = regrouped x (wanted ns line s) (other_formals ns line s fs)

pub list_stops : (ns : Names) (line : ℕ) (s : L.Spec) (x : Name) (fs : List L.Formal) (fault : CheckFault) → Refuses fault (listed_formals ns line s x fs)
    → Refuses fault (C.formals_of ns line (L.formals s x fs))
list_stops ns line s x fs fault r = refused_with fault _ _ (λ none. formals_listed ns line s x fs ∙ ap (λ (o : Listed). o >>= once_each) none) r

pub twice_stops : (ns : Names) (line : ℕ) (s : L.Spec) (x : Name) (fs : List L.Formal) (all : List (Name × C.Wanted)) (names : List Name) (fault : CheckFault)
    → listed_formals ns line s x fs ≡ Some all → names ≡ C.formal_names all → Refuses fault (once names) → Refuses fault (C.formals_of ns line (L.formals s x fs))
unfolding once_each
twice_stops ns line s x fs all names fault listed e r =
    refused_with fault _ _
    (λ none. formals_listed ns line s x fs ∙ ap (λ (o : Listed). o >>= once_each) listed ∙ by (are_once (C.formal_names all)) (ap once (sym e) ∙ none)) r
  where
    by : (b : Bool) → keep b (C.formal_names all) ≡ None → keep b all ≡ None
    by true h = absurd cc
    by false h = refl
