use Rattle.std.proofs.Common.{◌≤◌, ◌^◌, rules, subst, sym}
use Rattle.std.proofs.lemmas.List.Elements.{All-push}
use Rattle.occ_chart.specs.Places.{AreNear}
use Rattle.occ_chart.proofs.Placing.{next_near}
use Rattle.occ_chart.proofs.places.nearest_places.Goals as goal

pub loop-column-preserved : goal.loop-column-preserved
loop-column-preserved c = record {
  many = search rules;
  near =
      subst AreNear (sym c.in_ok-push.ensures.items) (All-push (λ n. n ≤ 2 ^ 46) c.loop-column.places.items c.nearest-place.result c.loop-column.invariant.near (search rules));
  stand =
      next_near c.args.close c.args.reaches.now c.args.heads.now c.loop-column.places.items c.as_slice.result.now c.push.new.self.items c.nearest-place.result c.loop-column.column c.loop-column.invariant.many c.as_slice.ensures.value
      c.nearest-place.ensures c.in_ok-push.ensures.items c.loop-column.invariant.stand;
}
