use Rattle.occ_play_inputs.proofs.Joining.{text_after}
use Rattle.occ_play_inputs.proofs.inputs.read_files.Goals as goal

pub loop-place-preserved : goal.loop-place-preserved
loop-place-preserved g c =
    let put = c.in_ok-read_next.ensures.joined in
    let source = c.read_next.new.source in
    record {
      few = c.in_ok-read_next.ensures.few;
      joined = text_after c.loop-place.place c.loop-place.source.bytes.items c.loop-place.source.ends.items source.bytes.items source.ends.items put.0
          c.loop-place.invariant.joined c.in_ok-read_next.ensures.noted put.1;
    }
