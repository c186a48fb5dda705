use Rattle.std.proofs.Common.{refl, subst, sym}
use Rattle.occ_machine.specs.Compiled.{Program}
use Rattle.occ_play.specs.Playing.{IsTextsCode}
use Rattle.occ_play.proofs.Headline.{code_refuses, code_with}
use Rattle.occ_play.proofs.playing.code_of.Goals as goal

pub returns-in-Err-clause-refused : goal.returns-in-Err-clause-refused
returns-in-Err-clause-refused c = code_refuses c.args.options.now.quantum c.in_ok-checked.checked c.in-Err.fault c.in_ok-checked.ensures.found.0 c.in_ok-checked.ensures.found.1 c.in-Err.ensures.refused

pub returns-clause-code : goal.returns-clause-code
returns-clause-code c =
    let options = c.args.options.now in
    subst (λ (p : Program). IsTextsCode options c.args.source.now p) (sym c.with_errors.ensures)
    record {
      quantum = c.in-Ok.ensures.quantum;
      program = c.in_ok-checked.checked;
      unfolds = c.in_ok-checked.ensures.found.0;
      lawful = c.in_ok-checked.ensures.found.1;
      from = code_with c.in_ok-checked.checked options.quantum c.in-Ok.code options.errors c.in-Ok.ensures.compiled;
      errors = refl;
    }
