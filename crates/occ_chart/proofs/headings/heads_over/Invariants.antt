use Rattle.std.proofs.Common.{◌≡◌, ◌++◌, length, map}
use Rattle.occ_chart.specs.Heads.{heads_over}
use Rattle.occ_chart.proofs.headings.heads_over.Given as goal

abbrev pub invariant-loop-first : goal.invariant-loop-first
invariant-loop-first l = l.heads.items ++ heads_over (map (λ v. v.items) l.names) l.left_out l.stubs l.rest ≡ heads_over (map (λ v. v.items) l.names) l.left_out l.stubs l.fn.columns

abbrev pub decreases-loop-first : goal.decreases-loop-first
decreases-loop-first l = length l.rest
