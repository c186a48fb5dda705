-- What is declared one after the other is what is declared together.
use Rattle.std.proofs.Common.{◌≡◌, ◌∙◌, sym, ap, refl, ℕ, suc, ◌+◌, ◌<◌, ◌≤◌, List, [], ◌++◌, length, drop, get_or, Option, Some, None, arith}
use Rattle.std.proofs.Math.Seq.{drop-cons}
use Rattle.std.proofs.Math.ListN.{drop_of_length-le}
use mathlib.Core.List.{append_assoc, append-nil, map-append}
use Rattle.occ_tree_grammar.specs.Many.{◌>>=◌}
use Rattle.occ_term.specs.View.{declaration_of, declarations_of}
use Rattle.occ_check_meaning.specs.Scope.{Name}
use Rattle.occ_check_meaning.specs.Numbers.{Numbers}
use Rattle.occ_check_meaning.specs.Declarations as D
use Rattle.occ_check_meaning.specs.Declarations.{opened, with_others, each_declared}
use Rattle.occ_check_lines.specs.View.{Refuses, numbers_of}
use Rattle.occ_check_lines.specs.Declaration.{opened_of, pair_of, pairs_of}
use Rattle.occ_check_lines.specs.declared.fault.CheckFault.{CheckFault}
use Rattle.occ_check_lines.proofs.Refusals.{refused_with}
use Rattle.occ_check_lines.specs.declared.numbers.Numbers.{Numbers as Given}
use Rattle.occ_check_lines.specs.declared.declaration.Opened.{Opened}

-- what follows, after these
abbrev pub after_these : D.Opened → Option D.Opened → Option D.Opened
after_these a rest = rest >>= λ b. Some (with_others a b)

-- what stands declared, and what the names from number i on declare, is what all of them declare
pub record Continues (declare : Name → Numbers → Option D.Opened) (names : List Name) (i : ℕ) (before : Given) (now : Opened) (after : Given) : Type 0 where
  pub is : after_these (opened_of now after) (each_declared declare (drop i names) (numbers_of after)) ≡ each_declared declare names (numbers_of before)

pub these_and_those : (a b : D.Opened) (rest : Option D.Opened) → after_these a (after_these b rest) ≡ after_these (with_others a b) rest
these_and_those a b None = refl
these_and_those a b (Some c) =
    λ i. Some (opened (sym (append_assoc a.names b.names c.names) i) (sym (append_assoc a.heads b.heads c.heads) i) c.numbers)

pub nothing_after : (a : D.Opened) → after_these a (Some (opened [] [] a.numbers)) ≡ Some a
nothing_after a = λ i. Some (opened (append-nil a.names i) (append-nil a.heads i) a.numbers)

step_of : (declare : Name → Numbers → Option D.Opened) (names : List Name) (i : ℕ) (x : Name) (n : Numbers) → i < length names → x ≡ get_or names i x
    → each_declared declare (drop i names) n ≡ (declare x n >>= λ a. after_these a (each_declared declare (drop (i + 1) names) a.numbers))
unfolding each_declared
step_of declare names i x n h e =
    let next : i + 1 ≡ suc i = omega arith in
    rw (drop-cons names i x h, sym e, next) refl

pub stops : {declare : Name → Numbers → Option D.Opened} {names : List Name} {i : ℕ} {before after : Given} {now : Opened} (fault : CheckFault) (x : Name)
    → i < length names → x ≡ get_or names i x → Continues declare names i before now after → Refuses fault (declare x (numbers_of after))
    → Refuses fault (each_declared declare names (numbers_of before))
stops {declare} {names} {i} {before} {after} {now} fault x h e c r =
    refused_with fault _ _
    (λ none. sym c.is ∙ ap (after_these (opened_of now after)) (step_of declare names i x (numbers_of after) h e
    ∙ ap (λ (o : Option D.Opened). o >>= λ a. after_these a (each_declared declare (drop (i + 1) names) a.numbers)) none)) r

pub joined : (now one then_now : Opened) (after later : Given) → then_now.names.items ≡ now.names.items ++ one.names.items → then_now.heads ≡ now.heads ++ one.heads
    → opened_of then_now later ≡ with_others (opened_of now after) (opened_of one later)
joined now one then_now after later f g =
    λ i. opened ((ap pairs_of f ∙ map-append pair_of now.names.items one.names.items) i) ((ap declarations_of g ∙ map-append declaration_of now.heads one.heads) i) (numbers_of later)

pub goes_on : {declare : Name → Numbers → Option D.Opened} {names : List Name} {i : ℕ} {before after later : Given} {now then_now : Opened} (x : Name) (one : Opened)
    → i < length names → x ≡ get_or names i x → Continues declare names i before now after → declare x (numbers_of after) ≡ Some (opened_of one later)
    → then_now.names.items ≡ now.names.items ++ one.names.items → then_now.heads ≡ now.heads ++ one.heads
    → Continues declare names (i + 1) before then_now later
goes_on {declare} {names} {i} {before} {after} {later} {now} {then_now} x one h e c d f g =
    let rest = each_declared declare (drop (i + 1) names) (numbers_of later) in
    let this : each_declared declare (drop i names) (numbers_of after) ≡ after_these (opened_of one later) rest =
    step_of declare names i x (numbers_of after) h e ∙ ap (λ (o : Option D.Opened). o >>= λ a. after_these a (each_declared declare (drop (i + 1) names) a.numbers)) d in
    record {
      is =
          ap (λ (a : D.Opened). after_these a rest) (joined now one then_now after later f g)
          ∙ sym (these_and_those (opened_of now after) (opened_of one later) rest) ∙ ap (after_these (opened_of now after)) (sym this) ∙ c.is;
    }

pub ends : {declare : Name → Numbers → Option D.Opened} {names : List Name} {i : ℕ} {before after : Given} {now : Opened} → length names ≤ i → Continues declare names i before now after
    → each_declared declare names (numbers_of before) ≡ Some (opened_of now after)
unfolding each_declared
ends {declare} {names} {i} {before} {after} {now} h c =
    sym c.is ∙ ap (λ (xs : List Name). after_these (opened_of now after) (each_declared declare xs (numbers_of after))) (drop_of_length-le names h)
    ∙ nothing_after (opened_of now after)
