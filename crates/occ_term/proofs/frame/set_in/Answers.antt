use Rattle.std.proofs.Common.{sym, ap, w64}
use Rattle.std.specs.Prelude.{slice_set}
use Rattle.std.proofs.lemmas.Int.{to_z-of_z}
use Rattle.occ_term.proofs.FrameWrites.{set_past}
use Rattle.occ_term.proofs.frame.set_in.Goals as goal

pub returns-then-place-values : goal.returns-then-place-values
returns-then-place-values c = ap (slice_set c.args.values.now c.args.place) (to_z-of_z w64 c.args.value c.ranges.value)

pub returns-else-place-values : goal.returns-else-place-values
returns-else-place-values c = sym (set_past c.args.values.now c.args.place c.args.value c.if-place-values.false)
