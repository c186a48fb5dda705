use Rattle.std.proofs.Common.{◌≡◌, ◌++◌, drop}
use Rattle.occ_files.specs.Names.{printed_behind, printed_name}
use Rattle.occ_files.proofs.names.write_name.Given as goal

abbrev pub invariant-loop-i : goal.invariant-loop-i
invariant-loop-i l = l.out.items ++ printed_behind l.before (drop l.i l.name) ≡ l.fn.out.items ++ printed_name l.name
