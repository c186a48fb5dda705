use Rattle.std.proofs.Common.{◌∙◌}
use Rattle.occ_shown.proofs.Shielded.{begins_no_markup, joined}
use Rattle.occ_shown.proofs.pages.page.Goals as goal

pub returns : goal.returns
returns c = (
  joined _ _ _ _ _ _ _ _ _ c.in_ok-out.ensures.items c.as_bytes.ensures.value c.in_ok-extend_from_slice.ensures.items (c.as_slice.ensures.value ∙ c.in_ok-texts.ensures)
      c.in_ok-extend_from_slice-2.ensures.items c.as_bytes-2.ensures.value,
  begins_no_markup c.args.source.now c.args.names.now c.args.runs.now,
)
