use Rattle.std.proofs.Common.{◌≡◌, length, map}
use Rattle.occ_explaining.specs.Objects.{refusal_name_in}
use Rattle.occ_explaining.proofs.objects.find.Given as goal

abbrev pub invariant-loop-rows : goal.invariant-loop-rows
invariant-loop-rows l = refusal_name_in (map (λ row. (row.0, row.1.now)) l.rows) l.number ≡ refusal_name_in (map (λ row. (row.0, row.1.now)) l.initial.rows) l.number

abbrev pub decreases-loop-rows : goal.decreases-loop-rows
decreases-loop-rows l = length l.rows
