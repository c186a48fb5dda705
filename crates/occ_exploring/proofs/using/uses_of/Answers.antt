use Rattle.std.proofs.Common.{◌∙◌, ap}
use Rattle.std.proofs.lemmas.Result.{err_from_is_err_and}
use Rattle.occ_ends.specs.Ends.{all_using}
use Rattle.occ_term.specs.View.{term_of}
use Rattle.occ_exploring.specs.Using.{HasProgram}
use Rattle.occ_exploring.proofs.using.uses_of.Goals as goal

pub returns-clause-told : goal.returns-clause-told
returns-clause-told c =
    record {
      program = c.in_ok-unfolded.unfolded;
      unfolds = c.in_ok-unfolded.ensures.found;
      are = c.in_ok-uses.ensures ∙ ap (λ t. all_using (term_of t)) c.term.ensures;
    }

pub returns-in_err-uses-clause-refused : goal.returns-in_err-uses-clause-refused
returns-in_err-uses-clause-refused c =
    let h : HasProgram c.args.source.now = (c.in_ok-unfolded.unfolded, c.in_ok-unfolded.ensures.found) in
    let p = err_from_is_err_and c.from_residual-in_err-uses.result c.from_residual-in_err-uses.ensures.1 in
    rw (p.1, p.2) h
