use Rattle.std.proofs.Common.{◌≡◌, ◌∙◌, ◌+◌, ◌-◌, ap, drop, length, pos, replicate, take, arith, length-drop, length-take}
use Rattle.std.proofs.lemmas.List.{length-replicate}
use borrow.Rule.Slice.PartMut.{put_mid}
use Rattle.occ_term.proofs.FrameWrites.{row_mid}
use Rattle.occ_term.proofs.frame.clear_row.Goals as goal

pub returns-then-place-count : goal.returns-then-place-count
returns-then-place-count c =
    let count = length-replicate c.args.count (pos 0) in
    let taken = length-take (c.args.place + c.args.count - c.args.place) (drop c.args.place c.args.held.now) in
    let dropped = length-drop c.args.place c.args.held.now in
    let part : length (take (c.args.place + c.args.count - c.args.place) (drop c.args.place c.args.held.now)) ≡ c.args.count = omega (arith, taken, dropped, c.if-place-count.true) in
    let long : c.args.place + c.args.count - c.args.place ≡ length (replicate c.args.count (pos 0)) = omega (arith, count) in
    ap (λ n. put_mid c.args.place n c.args.held.now c.fill.new.self) long
    ∙ ap (put_mid c.args.place (length (replicate c.args.count (pos 0))) c.args.held.now) (c.fill.ensures.after (λ y e. e) ∙ ap (λ n. replicate n (pos 0)) part)
    ∙ row_mid c.args.held.now (replicate c.args.count (pos 0)) c.args.place (omega (arith, count, c.if-place-count.true))
