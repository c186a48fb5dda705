use Rattle.std.proofs.Common.{◌≡◌, ◌++◌, length, map}
use Rattle.occ_shown.specs.Objects.{member_of, members_json}
use Rattle.occ_shown.proofs.object.write_members.Given as goal

abbrev pub invariant-loop-members : goal.invariant-loop-members
invariant-loop-members l = l.out.items ++ members_json (map member_of l.members) ≡ l.fn.out.items ++ members_json (map member_of l.initial.members)

abbrev pub decreases-loop-members : goal.decreases-loop-members
decreases-loop-members l = length l.members
