use Rattle.std.proofs.Common.{◌-◌, ◌≤◌, length, ℕ}
use Rattle.occ_explain.proofs.Behind.{Stands}
use Rattle.occ_explain.proofs.place.place_in.Given as goal

abbrev pub invariant-loop-number : goal.invariant-loop-number
invariant-loop-number l = record {
  stands : Stands l.text l.rest l.shown l.number;
  at_most : (n : ℕ) → 1 ≤ n → l.line ≤ n → l.number ≤ n;
  short : length l.shown ≤ length l.text;
  left : length l.rest ≤ length l.text;
}

abbrev pub decreases-loop-number : goal.decreases-loop-number
decreases-loop-number l = l.line - l.number
