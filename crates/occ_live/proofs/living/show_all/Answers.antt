use Rattle.std.proofs.Common.{◌∙◌, sym}
use Rattle.occ_live.proofs.Standing.{screen_has_bytes, these_are_bytes}
use Rattle.occ_live.proofs.living.show_all.Goals as goal

pub show-requires-clause-screen : goal.show-requires-clause-screen
show-requires-clause-screen g c =
    let x = c.requires.stands in
    screen_has_bytes c.args.code.now c.args.keyboard.now c.args.kept.now x.net c.trace_so_far.result.now c.compiled.ensures (these_are_bytes c.args.keyboard.now (λ k. (c.type_inv.keyboard k).fits)) x.few x.replays
    (x.holds.trace ∙ sym c.trace_so_far.ensures)
