use Rattle.std.proofs.Common.{◌≡◌, ◌∙◌, ap, map, refl, subst}
use Rattle.occ_ends.specs.Ends.{all_using, noted_for}
use Rattle.occ_text.specs.Words.{logical_lines}
use Rattle.occ_report.specs.Places.{Fits}
use Rattle.occ_term.specs.UnfoldedProgram.{meaning}
use Rattle.occ_term.specs.View.{term_of}
use Rattle.occ_explaining.proofs.studied.study.Goals as goal

pub returns-clause-studied : goal.returns-clause-studied
returns-clause-studied c =
    record {
      unfolded = c.in_ok-unfolded.unfolded;
      known = record {
        code = c.in_ok-code.ensures.code;
        read = logical_lines c.in_ok-lines.lines.lines.items;
        reads = c.in_ok-lines.ensures.found;
        fits = subst (λ ls. Fits c.in_ok-code.code (logical_lines ls) c.in_ok-places.places) c.as_slice-read.ensures.value c.in_ok-places.ensures;
        unfolds = c.in_ok-unfolded.ensures.found;
      };
      uses = c.in_ok-uses.ensures ∙ ap (λ x. all_using (term_of x)) c.term.ensures;
      text = c.in_ok-source.ensures.items;
      unfolds = refl;
    }
