use Rattle.occ_program.proofs.ToldPages.{answers_shown}
use Rattle.occ_program.proofs.paging.shown.Goals as goal

pub returns : goal.returns
returns c =
    answers_shown c.args.words.now c.args.inputs.now c.args.asked c.args.answers.now c.first_answers-first.result.now c.in_ok-more.more.items c.as_slice.result.now c.in_ok-studied.studied c.as_slice-source.result.now
    c.in_ok-runs.runs.items c.as_slice-2.result.now c.in_ok-text.text c.as_slice-source.ensures.value c.as_slice-2.ensures.value c.as_slice.ensures.value c.in_ok-more.ensures c.first_answers-first.ensures.first c.in_ok-studied.ensures c.in_ok-runs.ensures c.in_ok-text.ensures
