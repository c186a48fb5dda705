use Rattle.occ_live.proofs.Shown.{if_ok_map, shown_now}
use Rattle.occ_net_tables.specs.Holding.{trace_in}
use Rattle.occ_live.proofs.living.show_at_times.Goals as goal

pub returns-then-kept-eq0-clause-shown : goal.returns-then-kept-eq0-clause-shown
returns-then-kept-eq0-clause-shown g c =
    if_ok_map _ _ c.show_all.result
    (λ x shows first h. shown_now g.W.Write.contents c.args.out.now c.show_all.new.out c.args.screen.now.mark c.show_all.new.screen.mark (trace_in c.args.tables.now) shows first h) c.show_all.ensures.shown
