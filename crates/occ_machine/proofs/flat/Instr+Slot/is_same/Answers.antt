use Rattle.std.proofs.Common.{ap, sym, ◌≡◌, ◌∙◌}
use Rattle.occ_machine.specs.Flat.{lists_of, numbers_of}
use Rattle.occ_machine.proofs.SameInstr.{same_instr}
use Rattle.occ_machine.proofs.flat.Instr+Slot.is_same.Goals as goal

pub returns-then-are_same : goal.returns-then-are_same
returns-then-are_same c =
    let i = c.args.self.now in
    let j = c.args.other.now in
    let p : numbers_of i ≡ numbers_of j =
    sym c.numbers.ensures ∙ c.are_same.ensures.0 c.if-are_same.true ∙ c.numbers-2.ensures in
    (λ t. same_instr i j p (c.has_same_lists.ensures.0 t), λ e. c.has_same_lists.ensures.1 (ap lists_of e))
