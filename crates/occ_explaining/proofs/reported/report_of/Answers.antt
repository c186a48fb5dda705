use Rattle.std.proofs.Common.{◌≡◌, ◌∙◌, ap, map, subst}
use Rattle.occ_ends.specs.Ends.{all_using, noted_for}
use Rattle.occ_report.specs.Reports.{IsReport}
use Rattle.occ_term.specs.UnfoldedProgram.{meaning}
use Rattle.occ_explaining.proofs.reported.report_of.Goals as goal

pub returns : goal.returns
returns c = λ options source h.
    let studied = c.args.studied.now in
    let t = meaning h.unfolded in
    let uses : map noted_for c.as_slice-uses.result.now ≡ all_using t = ap (map noted_for) c.as_slice-uses.ensures.value ∙ h.uses in
    record {
      program = studied.code;
      known = studied.places;
      unfolded = h.unfolded;
      are = h.known;
      report = subst (λ u. IsReport t studied.code c.args.keyboard.now c.args.choices.now studied.places source u.cells c.in_ok-bytes.bytes.items) h.unfolds
          (subst (λ s. IsReport t studied.code c.args.keyboard.now c.args.choices.now studied.places s studied.unfolded.cells c.in_ok-bytes.bytes.items) (c.as_slice-source.ensures.value ∙ h.text)
          (subst (λ l. IsReport t studied.code c.args.keyboard.now l studied.places c.as_slice-source.result.now studied.unfolded.cells c.in_ok-bytes.bytes.items) c.in_ok-plan.ensures (c.in_ok-bytes.ensures t uses)));
    }
