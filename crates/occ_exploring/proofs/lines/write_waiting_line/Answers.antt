use Rattle.std.proofs.Common.{◌≡◌, ◌++◌, arith, length, subst}
use Rattle.occ_exploring.specs.Texts.{waiting_head}
use Rattle.occ_exploring.proofs.Growth.{three_grown}
use Rattle.occ_exploring.proofs.lines.write_waiting_line.Goals as goal

pub returns : goal.returns
returns c =
    let o = c.args.out.now.items in
    let choices = c.args.waiting.now.choices in
    let many : c.len.result ≡ length choices.items = let is = c.len.ensures in let whole = choices.ok.0 in omega (arith, is, whole) in
    three_grown o _ _ _ _ _ _ (subst (λ ns. c.write_waiting_head.new.out.items ≡ o ++ waiting_head ns) c.as_slice.ensures.value c.in_ok-write_waiting_head.ensures) (rw many at c.in_ok-write_counted.ensures) c.in_ok-push.ensures.items
