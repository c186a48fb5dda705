use Rattle.std.proofs.Common.{◌≡◌, length, map}
use Rattle.occ_explain.specs.Causes.{text_in}
use Rattle.occ_explain.proofs.causes.find.Given as goal

abbrev pub invariant-loop-rows : goal.invariant-loop-rows
invariant-loop-rows l =
    text_in (map (λ row. (row.0, row.1.now)) l.rows) l.number l.otherwise
    ≡ text_in (map (λ row. (row.0, row.1.now)) l.initial.rows) l.number l.otherwise

abbrev pub decreases-loop-rows : goal.decreases-loop-rows
decreases-loop-rows l = length l.rows
