use Rattle.std.proofs.Common.{map}
use Rattle.occ_report.specs.Places.{place_of}
use Rattle.occ_report.proofs.Adding.{place_met, read_there}
use Rattle.occ_report.proofs.agreement.stops_in.Goals as goal

pub loop-place-preserved : goal.loop-place-preserved
loop-place-preserved c = record {
  stops = c.in_ok-add_stop.ensures.stops c.args.code.now (read_there c.args.code.now c.loop-place.place c.index-code-place.result c.loop-place-test.true c.index-code-place.is) c.loop-place.invariant.stops;
  places = place_met c.args.code.now c.loop-place.place c.index-code-place.result (map place_of c.loop-place.stops.items) (map place_of c.add_stop.new.stops.items) c.loop-place-test.true c.index-code-place.is c.loop-place.invariant.places (c.in_ok-add_stop.ensures.places c.if-not-branch.false);
}
