use Rattle.std.proofs.Common.{◌≡◌, ◌∙◌, ◌∷◌, [], ap, sym, subst, drop, length}
use Rattle.occ_net_replay.specs.declared.choice.Choice.{Choice}
use Rattle.occ_choices.specs.Lines.{IsEnd, IsLine}
use Rattle.occ_choices.specs.Reading.{ends_line, leading}
use Rattle.occ_choices.proofs.Digits.{end_of, line_of, no_end_there, no_pick, no_rest, no_space, no_which, none_of, nothing}
use Rattle.occ_choices.proofs.read.choice_of.Goals as goal

pub returns-in_err-which-clause-none : goal.returns-in_err-which-clause-none
returns-in_err-which-clause-none c = none_of {P = (x : Choice) → IsLine c.args.line.now x → ⊥} _ (no_which c.args.line.now c.in_err-which.ensures.none)

pub returns-in_err-first-clause-none : goal.returns-in_err-first-clause-none
returns-in_err-first-clause-none c =
    let none : length c.in_ok-which.rest.now ≡ 0 = c.in_err-first.ensures.cases in
    none_of {P = (x : Choice) → IsLine c.args.line.now x → ⊥} _ (no_rest c.args.line.now (sym c.in_ok-which.ensures.rest ∙ nothing c.in_ok-which.rest.now none))

pub returns-then-first-ne32-clause-none : goal.returns-then-first-ne32-clause-none
returns-then-first-ne32-clause-none c =
    no_space c.args.line.now c.in_ok-first.first.now c.in_ok-first.rest.now (sym c.in_ok-which.ensures.rest ∙ c.in_ok-first.ensures.cases.0) c.if-first-ne32.true

pub returns-in_err-pick-clause-none : goal.returns-in_err-pick-clause-none
returns-in_err-pick-clause-none c =
    let space : drop (leading c.args.line.now) c.args.line.now ≡ 32 ∷ c.in_ok-first.rest.now = sym c.in_ok-which.ensures.rest ∙ c.in_ok-first.ensures.cases.0 ∙ ap (λ b. b ∷ c.in_ok-first.rest.now) c.if-first-ne32.false in
    none_of {P = (x : Choice) → IsLine c.args.line.now x → ⊥} _ (no_pick c.args.line.now c.in_ok-first.rest.now space c.in_err-pick.ensures.none)

pub returns-then-is_end-clause-some : goal.returns-then-is_end-clause-some
returns-then-is_end-clause-some c =
    let space : drop (leading c.args.line.now) c.args.line.now ≡ 32 ∷ c.in_ok-first.rest.now = sym c.in_ok-which.ensures.rest ∙ c.in_ok-first.ensures.cases.0 ∙ ap (λ b. b ∷ c.in_ok-first.rest.now) c.if-first-ne32.false in
    line_of c.args.line.now (record { which = c.in_ok-which.which; pick = c.in_ok-pick.pick }) (record {
      rest = c.in_ok-first.rest.now;
      first = c.in_ok-which.ensures.some;
      space = space;
      second = c.in_ok-pick.ensures.some;
      ends = subst IsEnd c.in_ok-pick.ensures.rest (end_of c.in_ok-pick.rest.now (sym c.is_end.ensures ∙ c.if-is_end.true));
    })

pub returns-else-is_end-clause-none : goal.returns-else-is_end-clause-none
returns-else-is_end-clause-none c =
    let space : drop (leading c.args.line.now) c.args.line.now ≡ 32 ∷ c.in_ok-first.rest.now = sym c.in_ok-which.ensures.rest ∙ c.in_ok-first.ensures.cases.0 ∙ ap (λ b. b ∷ c.in_ok-first.rest.now) c.if-first-ne32.false in
    no_end_there c.args.line.now c.in_ok-first.rest.now space (ap ends_line (sym c.in_ok-pick.ensures.rest) ∙ sym c.is_end.ensures ∙ c.if-is_end.false)
