use Rattle.std.proofs.Common.{◌≡◌, length, map}
use Rattle.occ_text.specs.Reading.{find_key}
use Rattle.occ_text.proofs.keyword.find.Given as goal

abbrev pub invariant-loop-rows : goal.invariant-loop-rows
invariant-loop-rows l = find_key (map (λ r. (r.0.now, r.1)) l.rows) l.letters ≡ find_key (map (λ r. (r.0.now, r.1)) l.initial.rows) l.letters

abbrev pub decreases-loop-rows : goal.decreases-loop-rows
decreases-loop-rows l = length l.rows
