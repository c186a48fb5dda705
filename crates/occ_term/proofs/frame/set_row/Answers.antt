use Rattle.std.proofs.Common.{◌≡◌, ◌∙◌, ◌+◌, ◌-◌, ap, length, arith}
use borrow.Rule.Slice.PartMut.{put_mid}
use Rattle.occ_term.proofs.FrameWrites.{row_mid}
use Rattle.occ_term.proofs.frame.set_row.Goals as goal

pub returns-then-place-values : goal.returns-then-place-values
returns-then-place-values c =
    let long : c.args.place + length c.args.values.now - c.args.place ≡ length c.args.values.now = omega arith in
    ap (λ n. put_mid c.args.place n c.args.held.now c.copy_from_slice.new.self) long
    ∙ ap (put_mid c.args.place (length c.args.values.now) c.args.held.now) c.copy_from_slice.ensures.after
    ∙ row_mid c.args.held.now c.args.values.now c.args.place c.if-place-values.true
