use Rattle.std.proofs.Common.{◌≡◌, drop}
use Rattle.occ_term.specs.Selecting.{is_among}
use Rattle.occ_proc.proofs.choices.is_among.Given as goal

abbrev pub invariant-loop-constant : goal.invariant-loop-constant
invariant-loop-constant l = is_among l.value (drop l.constant-index l.constants) ≡ is_among l.value l.constants
