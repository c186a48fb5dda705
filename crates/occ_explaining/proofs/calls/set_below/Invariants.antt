use Rattle.std.proofs.Common.{◌≡◌, ◌<◌, ◌≤◌, ℕ}
use Rattle.occ_explaining.specs.Calls.{named, owner_in}
use Rattle.occ_explaining.proofs.calls.set_below.Given as goal

abbrev pub invariant-loop-deeper : goal.invariant-loop-deeper
invariant-loop-deeper l = record {
  above : (k : ℕ) → k ≤ l.level → owner_in l.owners k ≡ owner_in l.fn.owners k;
  below : (k : ℕ) → l.level < k → k < l.deeper → owner_in l.owners k ≡ named l.owner;
}
