use Rattle.std.proofs.Common.{◌≡◌, drop}
use Rattle.std.specs.Prelude.{◌&&◌}
use Rattle.indexmap.specs.IndexMap.{keys}
use Rattle.occ_check_meaning.specs.Scope.{are_once}
use Rattle.occ_check_lines.specs.Declaration.{none_among}
use Rattle.occ_check_lines.proofs.declaration.once.Given as goal

abbrev pub invariant-loop-name : goal.invariant-loop-name
invariant-loop-name l =
    (none_among (keys l.seen) (drop l.name-index l.names) && are_once (drop l.name-index l.names)) ≡ are_once l.names
