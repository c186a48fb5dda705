use Rattle.std.proofs.Common.{◌≤◌, ◌^◌, ◌+◌, ◌∙◌, sym, drop, arith}
use Rattle.occ_term.proofs.FrameWrites.{span_beyond}
use Rattle.occ_term.proofs.frame.set_each.Goals as goal

pub returns-then-i-first : goal.returns-then-i-first
returns-then-i-first c =
    let far : 2 ^ 64 ≤ c.args.first + c.loop-i.i = omega arith in
    sym (span_beyond c.args.cells.now c.loop-i.held (drop c.loop-i.i c.args.values.now) (c.args.first + c.loop-i.i) (2 ^ 64) c.words.ensures far) ∙ c.loop-i.invariant
