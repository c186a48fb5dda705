use Rattle.std.proofs.Common.{arith, sym, ◌∙◌, subst}
use Rattle.std.proofs.lemmas.List.{length-map}
use Rattle.occ_text.specs.Words.{logical_lines}
use Rattle.occ_report.specs.Located.{known}
use Rattle.occ_report.specs.Places.{Fits}
use Rattle.occ_report.proofs.Adding.{calls_added, name_added, one_more, process_added}
use Rattle.occ_report.proofs.placing.places_of.Goals as goal

pub loop-number-preserved : goal.loop-number-preserved
loop-number-preserved c = record {
  each = one_more c.loop-number.all.items c.push.new.self.items c.in_ok-found.found c.loop-number.number c.in_ok-push.ensures.items c.loop-number.invariant.each;
  names = name_added (logical_lines c.args.lines.now) c.loop-number.all.items c.push.new.self.items c.in_ok-found.found c.in_ok-push.ensures.items c.loop-number.invariant.names c.in_ok-found.ensures.name;
  stops = process_added c.args.code.now.bodies (logical_lines c.args.lines.now) c.loop-number.all.items c.push.new.self.items c.in_ok-found.found c.loop-number.number c.in_ok-push.ensures.items c.loop-number.invariant.each c.loop-number.invariant.stops c.in_ok-found.ensures.stops;
  calls = calls_added (logical_lines c.args.lines.now) c.loop-number.all.items c.push.new.self.items c.in_ok-found.found c.in_ok-push.ensures.items c.loop-number.invariant.calls c.in_ok-found.ensures.calls;
}

pub returns : goal.returns
returns c =
    subst (λ all. Fits c.args.code.now (logical_lines c.args.lines.now) all) (sym c.new.ensures)
    record {
      each = length-map c.loop-number.all.items known ∙ c.loop-number.invariant.each ∙ omega arith;
      names = c.loop-number.invariant.names;
      stops = c.loop-number.invariant.stops;
      calls = c.loop-number.invariant.calls;
    }
