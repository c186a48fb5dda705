use Rattle.std.proofs.Common.{◌≡◌, length}
use Rattle.std.specs.List.{list_any}
use Rattle.occ_text.specs.Words.{words}
use Rattle.occ_report.specs.Formals.{is_declaring}
use Rattle.occ_report.proofs.formals.has_declaring.Given as goal

abbrev pub invariant-loop-tokens : goal.invariant-loop-tokens
invariant-loop-tokens l = list_any is_declaring (words l.tokens) ≡ list_any is_declaring (words l.initial.tokens)

abbrev pub decreases-loop-tokens : goal.decreases-loop-tokens
decreases-loop-tokens l = length l.tokens
