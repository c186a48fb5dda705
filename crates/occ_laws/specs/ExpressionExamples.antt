-- Programs that show what expressions and assignments come to, with the runs that play them.
-- Manual: expressions; primitive processes. The numbers of processes, channels and cells: (own).
use Rattle.std.specs.Prelude.{[], ◌∷◌, List, None, Some, pos}
use Rattle.occ_term.specs.ExampleParts.{least_int, minus_one, in_order, into, one_int, shows_digit, Plays, number, shows, component}
use Rattle.occ_term.specs.Messages.{message}
use Rattle.occ_term.specs.Terms.{Cell, Binary, Term, Assign, Clear, And, OfOne, Component, Into}
use Rattle.occ_term.specs.System.{communication}
use Rattle.occ_term.specs.Runs.{Event, event}
use Rattle.occ_term.specs.declared.primitive.Primitive.TheVariants.{Int, Byte, Bool as Boolean}
use Rattle.occ_term.specs.declared.message.Part.TheVariants.{One}
use Rattle.occ_term.specs.declared.expression.Operator.TheVariants.{Remainder, Add}
use Rattle.occ_term.specs.declared.communication.End.TheVariants.{Process as OfProcess, Screen}
use Rattle.occ_term.specs.declared.ending.Ending.TheVariants.{Ended}

-- `(MOSTNEG INT) \\ (-1)` is 0.
abbrev pub remainder : Term
remainder = in_order (Clear 0 1 ∷ in_order (Assign (into 4 0 ∷ []) (one_int (Binary Remainder Int 4 least_int (minus_one 4))) ∷ shows_digit 5 (Cell 0) ∷ []) ∷ [])

abbrev pub remainder_events : List Event
remainder_events =
    event 0 (Some (communication 1 (OfProcess 0) Screen (message None (One Byte (pos 48) ∷ []))))
    ∷ event 0 None
    ∷ []

abbrev pub RemainderPlays : Type 0
RemainderPlays = Plays remainder [] remainder_events Ended

-- `'a' + 1(BYTE)` is `b`.
abbrev pub next_letter : Term
next_letter = shows 2 (Binary Add Byte 2 (number (pos 97)) (number (pos 1)))

abbrev pub next_letter_events : List Event
next_letter_events =
    event 0 (Some (communication 1 (OfProcess 0) Screen (message None (One Byte (pos 98) ∷ []))))
    ∷ event 0 None
    ∷ []

abbrev pub NextLetterPlays : Type 0
NextLetterPlays = Plays next_letter [] next_letter_events Ended

-- `a AND b AND c`, grouped to the left.
abbrev pub chain : Term
chain = in_order (Clear 0 1 ∷ Clear 1 1 ∷ Clear 2 1 ∷ Assign (into 3 0 ∷ []) (OfOne Boolean (And (And (Cell 0) (Cell 1)) (Cell 2)) ∷ []) ∷ [])

abbrev pub chain_events : List Event
chain_events =
    event 0 None
    ∷ []

abbrev pub ChainPlays : Type 0
ChainPlays = Plays chain [] chain_events Ended

-- Two components change places.
abbrev pub swap : Term
swap = in_order (
    Clear 0 2
    ∷ in_order (
    Assign (Into (component 7 0 2 0) ∷ []) (one_int (number (pos 5)))
    ∷ Assign (Into (component 8 0 2 1) ∷ []) (one_int (number (pos 6)))
    ∷ Assign (Into (component 2 0 2 0) ∷ Into (component 2 0 2 1) ∷ []) (OfOne Int (Component (component 2 0 2 1)) ∷ OfOne Int (Component (component 2 0 2 0)) ∷ [])
    ∷ shows_digit 10 (Component (component 10 0 2 0))
    ∷ [])
    ∷ [])

abbrev pub swap_events : List Event
swap_events =
    event 0 (Some (communication 1 (OfProcess 0) Screen (message None (One Byte (pos 54) ∷ []))))
    ∷ event 0 None
    ∷ []

abbrev pub SwapPlays : Type 0
SwapPlays = Plays swap [] swap_events Ended
