use Rattle.std.proofs.Common.{◌∙◌, Global, Some, ap, subst, sym}
use Rattle.std.specs.Prelude.{IfSome}
use Rattle.occ_program.specs.Watched.{SeenByCrew, ToldByCrew}
use Rattle.occ_program.proofs.Watched.{seen_answer, seen_fault}
use Rattle.occ_program.proofs.watching.play_beside.Goals as goal
use Rattle.occ_program.proofs.watching.play_beside.Goals.{in-Some-Ok, in-Some-Err, in-None}

pub returns : goal.returns
returns g c =
    let x = c.args in
    elim c.match-played.branch [
      | in-Some-Ok w ↦
          subst (λ r. IfSome r (SeenByCrew {A = Global} x.workers x.options.now x.source.now x.keyboard.now x.limit x.trace)) (sym w.seen-is)
          (seen_answer x.workers x.options.now x.source.now x.keyboard.now x.limit x.trace w.in-Some-Ok.played w.in-Some-Ok.note w.last_lines.result
          (subst (λ r. IfSome r (ToldByCrew x.workers x.options.now x.source.now x.keyboard.now x.limit x.trace)) (w.in-Some-Ok.is ∙ ap Some w.in-Some-Ok.field-0-is) c.join-watcher.ensures.second) w.last_lines.ensures)
      | in-Some-Err w ↦
          subst (λ r. IfSome r (SeenByCrew {A = Global} x.workers x.options.now x.source.now x.keyboard.now x.limit x.trace)) (sym w.seen-is)
          (seen_fault x.workers x.options.now x.source.now x.keyboard.now x.limit x.trace Global w.in-Some-Err.fault
          (subst (λ r. IfSome r (ToldByCrew x.workers x.options.now x.source.now x.keyboard.now x.limit x.trace)) (w.in-Some-Err.is ∙ ap Some w.in-Some-Err.field-0-is) c.join-watcher.ensures.second))
      | in-None w ↦ subst (λ r. IfSome r (SeenByCrew {A = Global} x.workers x.options.now x.source.now x.keyboard.now x.limit x.trace)) (sym w.seen-is) tt
    ]
