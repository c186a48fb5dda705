use Rattle.std.proofs.Common.{◌≡◌, ◌++◌, drop}
use Rattle.occ_exploring.specs.Strings.{as_characters}
use Rattle.occ_exploring.proofs.strings.write_letters.Given as goal

abbrev pub invariant-loop-i : goal.invariant-loop-i
invariant-loop-i l = l.out.items ++ as_characters (drop l.i l.bytes) ≡ l.fn.out.items ++ as_characters l.bytes
