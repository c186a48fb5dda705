use Rattle.std.proofs.Common.{◌≡◌, ◌≤◌, length, All, [], vec_capacity}
use Rattle.occ_board.specs.Editions.{blank}
use Rattle.occ_board.specs.Traces.{watching}
use Rattle.occ_board.proofs.publisher.seat.Given as goal

-- so many watchers have seats, and there is room for the others
abbrev pub invariant-loop : goal.invariant-loop
invariant-loop g l = (length l.seats.items ≡ l.counter) × (l.watchers ≤ vec_capacity l.seats) × All (λ w. w ≡ watching [] blank) l.seats.items
