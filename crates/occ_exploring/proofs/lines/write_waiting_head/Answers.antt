use Rattle.std.proofs.Common.{◌++◌, ◌∙◌, ap}
use Rattle.occ_exploring.proofs.Growth.{three_grown}
use Rattle.occ_exploring.proofs.lines.write_waiting_head.Goals as goal

pub returns : goal.returns
returns c =
    three_grown c.args.out.now.items _ _ _ _ _ _ c.in_ok-write_numbers.ensures (c.in_ok-extend_from_slice.ensures.items ∙ ap (λ t. c.write_numbers.new.out.items ++ t) c.waits_word.ensures) c.in_ok-extend_from_slice-2.ensures.items
