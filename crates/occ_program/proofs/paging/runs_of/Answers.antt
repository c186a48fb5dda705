use Rattle.std.proofs.Common.{◌≡◌, ◌+◌, ◌∙◌, ◌++◌, [], ◌∷◌, List, add-one, ap, append-nil, append_assoc, arith, length, refl, rules, subst, suc, sym}
use Rattle.occ_exploring.specs.Texts.{answer_line}
use Rattle.occ_explaining.specs.Shown.{IsShownRun}
use Rattle.occ_explore.specs.declared.exploration.Answer.{Answer}
use Rattle.occ_shown.specs.declared.pages.RunTexts.{RunTexts}
use Rattle.occ_net_replay.specs.declared.choice.Choice.{Choice}
use Rattle.occ_program.specs.Coming.{options_in}
use Rattle.occ_program.specs.Pages.{AreRunsOf}
use Rattle.occ_program.proofs.ToldPages.{is_empty, none_left}
use Rattle.occ_program.proofs.paging.runs_of.Goals as goal

pub loop-first-preserved : goal.loop-first-preserved
loop-first-preserved c =
    let l = c.loop-first in
    let words = c.args.words.now in
    let inputs = c.args.inputs.now in
    let asked = c.args.asked in
    let more = c.args.more.now in
    let a = c.in-Some.first.now in
    let others = c.in-Some.others.now in
    let r = c.in_ok-run.run' in
    let split : l.rest.now ≡ a ∷ others = search rules in
    let size : length l.rest.now ≡ suc (length others) = ap length split in
    let counted = l.invariant.counted in
    let run = c.in_ok-run.ensures (options_in words) inputs.source.items c.requires.studied in
    let told : IsShownRun (options_in words) inputs.source.items inputs.keyboard.items (answer_line asked l.number a ++ more) a.choices.items r =
    rw (c.as_slice-keyboard.ensures.value, c.as_slice.ensures.value, c.in_ok-head.ensures, c.as_slice-choices.ensures.value) at run in
    record {
      counted = omega (arith, size, counted);
      so = λ rs h.
          let all : AreRunsOf words inputs asked more l.number (a ∷ others) (r ∷ rs) = (told, subst (λ n. AreRunsOf words inputs asked more n others rs) (add-one l.number) h) in
          let so = l.invariant.so (r ∷ rs) (subst (λ (xs : List Answer). AreRunsOf words inputs asked more l.number xs (r ∷ rs)) (sym split) all) in
          let joined : c.push.new.self.items ++ rs ≡ l.runs.items ++ (r ∷ rs) = ap (λ (xs : List RunTexts). xs ++ rs) c.in_ok-push.ensures.items ∙ append_assoc l.runs.items (r ∷ []) rs in
          subst (λ (xs : List RunTexts). AreRunsOf words inputs asked more 1 c.args.answers.now xs) (sym joined) so;
    }

pub returns : goal.returns
returns c =
    let l = c.loop-first in
    let words = c.args.words.now in
    let inputs = c.args.inputs.now in
    let asked = c.args.asked in
    let more = c.args.more.now in
    let none : l.rest.now ≡ [] = is_empty l.rest.now (none_left _ c.split_first.result c.split_first.ensures.cases c.in_default.not-Some) in
    let so = l.invariant.so [] (subst (λ (xs : List Answer). AreRunsOf words inputs asked more l.number xs []) (sym none) refl) in
    subst (λ (xs : List RunTexts). AreRunsOf words inputs asked more 1 c.args.answers.now xs) (append-nil l.runs.items) so
