use Rattle.std.proofs.Common.{◌∙◌, length, refl, subst}
use Rattle.occ_chart.proofs.Drawing.{pictured}
use Rattle.occ_chart.specs.Places.{IsLayout}
use Rattle.occ_chart.proofs.charting.picture.Goals as goal

pub returns : goal.returns
returns c =
    let notes = c.args.notes.now in
    let l = c.in_ok-standing.standing in
    record {
      l = l;
      laid = subst (λ rs. IsLayout rs c.args.heads.now l) (c.as_slice.ensures.value ∙ c.in_ok-between.ensures) c.in_ok-standing.ensures.is;
      is =
          pictured l c.args.heads.now c.args.columns.now c.args.shown.now c.args.stubs.now notes.before.items c.as_slice-before.result.now notes.after.items notes.ending.items c.args.circle.now
          c.picture_letters-letters.result (length c.args.shown.now) c.in_ok-out.out.items _ c.picture_letters-letters.ensures.is c.as_slice-before.ensures.value refl c.in_ok-out.ensures c.in_ok-write_below.ensures;
    }
