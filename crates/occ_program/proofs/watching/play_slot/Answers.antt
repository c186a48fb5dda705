use Rattle.std.proofs.Common.{◌≡◌, [], ap, false, subst, sym}
use Rattle.std.specs.Prelude.{IfSome}
use Rattle.occ_board.specs.Traces.{held_by, publishing}
use Rattle.occ_program.proofs.Watched.{noted_answer, noted_fault}
use Rattle.occ_program.proofs.watching.play_slot.Goals as goal

pub returns-in-Ok : goal.returns-in-Ok
returns-in-Ok g c =
    let fresh = subst (λ s. IfSome s (λ p. p ≡ publishing [] [] false)) (sym c.in-Some.ensures.value) c.requires.fresh in
    noted_answer c.args.workers c.args.options.now c.args.source.now c.args.keyboard.now c.args.limit c.args.trace g.W.Write.contents c.args.out.now c.play_watched.new.out c.in-Ok.played _ c.in-Ok.publisher c.in-Ok.note (ap held_by fresh) c.in-Ok.ensures.played c.in-Ok.ensures.note

pub returns-in-Err : goal.returns-in-Err
returns-in-Err g c =
    noted_fault c.args.workers c.args.options.now c.args.source.now c.args.keyboard.now c.args.limit c.args.trace g.W.Write.contents c.args.out.now c.play_watched.new.out c.in-Err.fault c.in-Err.ensures.fault
