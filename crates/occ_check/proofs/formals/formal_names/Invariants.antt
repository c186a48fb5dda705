use Rattle.std.proofs.Common.{◌≡◌, ◌++◌, drop}
use Rattle.occ_check_meaning.specs.Calls.{formal_names}
use Rattle.occ_check.specs.Call.{formals_of}
use Rattle.occ_check.proofs.formals.formal_names.Given as goal

abbrev pub invariant-loop-formal : goal.invariant-loop-formal
invariant-loop-formal l = (l.names ++ formal_names (formals_of (drop l.formal-index l.formals))) ≡ formal_names (formals_of l.formals)
