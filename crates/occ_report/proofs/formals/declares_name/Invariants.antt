use Rattle.std.proofs.Common.{◌≡◌, length}
use Rattle.occ_text.specs.Words.{words}
use Rattle.occ_report.specs.Formals.{declares_name}
use Rattle.occ_report.proofs.formals.declares_name.Given as goal

abbrev pub invariant-loop-tokens : goal.invariant-loop-tokens
invariant-loop-tokens l = declares_name l.own (words l.tokens) ≡ declares_name l.own (words l.initial.tokens)

abbrev pub decreases-loop-tokens : goal.decreases-loop-tokens
decreases-loop-tokens l = length l.tokens
