-- The turns of the simplest programs.
use Rattle.std.proofs.Common.{inl, refl, List, [], None, ◌∷◌, ◌≡◌, pos, subst}
use Rattle.occ_term.specs.declared.fault.Errors.TheVariants as on_fault
use Rattle.occ_term.specs.Steps.{ends, output, Context, Halted, Left, Step, left, faults, stop, drops, seq, seq_empty, Do, Offering, status, while, passes_again, body_ends, again, each, leaves}
use Rattle.occ_term.specs.Turns.{none, single_turn, stops, more, passes}
use Rattle.occ_term.specs.System.{change_here, meets, offer_ends, process_sends, screen_receives, system_turn, turn_here, alone as by_itself, change_below, no_processes, passes_skip, process, system, System, begun, fault_noted, turn_below, alone}
use Rattle.occ_term.specs.Runs.{goes, goes_on, meets_one, no_turn, own_step, private_step, by_end, StepOf, branch_step, meeting_step, skip_step, by_standing, MeetsAtMost, by_message, meets_none, meets_skip}
use Rattle.occ_laws.specs.TurnExamples.{LetterGoesOn, LetterEnds, StopStops, TwoLetters, EmptySequence, NoTurn, MeetsAtOnce, WritesA, LongTurns, ThreeTurns}
use Rattle.occ_term.specs.Values.{Store}
use Rattle.occ_term.specs.Messages.{message}
use Rattle.occ_laws.proofs.Meetings.{unmet}
use Rattle.occ_term.proofs.Going.{going}
use Rattle.occ_term.proofs.OneResult.{one_turn}
use Rattle.occ_term.specs.declared.primitive.Primitive.TheVariants.{Byte}
use Rattle.occ_term.specs.declared.message.Part.TheVariants.{One}
use Rattle.occ_term.specs.declared.message.Message.{Message}

pub letter_goes_on : LetterGoesOn
letter_goes_on = (
  _,
  goes (system_turn refl (turn_here by_itself (stops (single_turn none (output refl) refl) (inl refl))))
      (meets_one refl (inl refl) (meets (process_sends (change_here offer_ends)) (screen_receives refl)))
      no_turn,
  goes_on refl refl (private_step (own_step ends)),
  λ names. refl,
)

pub letter_ends : LetterEnds
letter_ends = (
  _,
  goes (system_turn refl (turn_here by_itself (stops (single_turn none (output refl) refl) (inl refl))))
      (meets_one refl (inl refl) (meets (process_sends (change_here offer_ends)) (screen_receives refl)))
      (goes (system_turn refl (turn_here by_itself (stops (single_turn none ends refl) (inl refl)))) (unmet refl)
      no_turn),
  by_end refl refl,
  λ names. refl,
)

-- what stands at STOP has no step of any kind
halted_stays : {k : List Context} {s s' : Store} {b : Left} → Step (left Halted k) s b s' → ⊥
halted_stays (faults f) = elim f [ ]

still : {s : Store} → StepOf (system [] (process 0 (left Halted []) no_processes) s []) → ⊥
still (private_step (own_step x)) = halted_stays x
still (private_step (branch_step x)) = elim x [ ]
still (meeting_step (meets (process_sends (change_here x)) y)) = elim x [ ]
still (meeting_step (meets (process_sends (change_below x)) y)) = elim x [ ]
still (skip_step (passes_skip (change_here x))) = elim x [ ]
still (skip_step (passes_skip (change_below x))) = elim x [ ]

pub stop_stops : StopStops
stop_stops = (
  _,
  goes (system_turn refl (turn_here by_itself (stops (single_turn none stop refl) (inl refl)))) (unmet refl) no_turn,
  by_standing refl refl still,
  λ names. refl,
)

pub two_letters : TwoLetters
two_letters = (
  _,
  goes (system_turn refl (turn_here by_itself (stops (single_turn (more seq refl none) (output refl) refl) (inl refl))))
      (meets_one refl (inl refl) (meets (process_sends (change_here offer_ends)) (screen_receives refl)))
      (goes (system_turn refl (turn_here by_itself (stops (single_turn (more drops refl (more seq refl none)) (output refl) refl) (inl refl))))
      (meets_one refl (inl refl) (meets (process_sends (change_here offer_ends)) (screen_receives refl)))
      (goes (system_turn refl (turn_here by_itself (stops (single_turn (more drops refl (more seq_empty refl none)) ends refl) (inl refl)))) (unmet refl)
      no_turn)),
  by_end refl refl,
  λ names. refl,
)

pub empty_sequence : EmptySequence
empty_sequence = (
  _,
  goes (system_turn refl (turn_here by_itself (stops (single_turn (more seq_empty refl none) ends refl) (inl refl)))) (unmet refl) no_turn,
  by_end refl refl,
  λ names. refl,
)

pub before_turns : NoTurn
before_turns t = (_, no_turn, goes_on refl refl (private_step (own_step (going (Do t) [] _ refl).2)), λ names. refl)

-- where the letter is offered, the screen takes it
passed_over : {m : Message} {s : Store} {d : System} → MeetsAtMost on_fault.Halt 0 (system [] (process 0 (left (Offering 1 m) []) no_processes) s []) None d → ⊥
passed_over (meets_none f) = f refl (by_message (inl refl) (meets (process_sends (change_here offer_ends)) (screen_receives refl)))
passed_over (meets_skip g (passes_skip (change_here x))) = elim x [ ]
passed_over (meets_skip g (passes_skip (change_below x))) = elim x [ ]

pub meets_at_once : MeetsAtOnce
meets_at_once b (goes {c = d} (system_turn h (turn_here {c = c} {s' = s'} by_itself t)) m r) =
    let offered : Left = left (Offering 1 (message None (One Byte (pos 65) ∷ []))) [] in
    let e : c ≡ offered = (one_turn _ _ _ _ _ _ _ t (stops (single_turn none (output refl) refl) (inl refl))).0 in
    passed_over (subst (λ l. MeetsAtMost on_fault.Halt 0 (system [] (process 0 l (begun (status l))) s' (fault_noted (status l))) None d) e m)
meets_at_once b (goes (system_turn h (turn_below x)) m r) = elim x [ ]

pub writes_a : WritesA
writes_a = (
  goes (system_turn refl (turn_here alone (stops (single_turn none (output refl) refl) (inl refl))))
      (meets_one refl (inl refl) (meets (process_sends (change_here offer_ends)) (screen_receives refl)))
      (goes (system_turn refl (turn_here alone (stops (single_turn none ends refl) (inl refl)))) (unmet refl) no_turn),
  by_end refl refl,
  λ names. refl,
)

pub long_turns : LongTurns
long_turns =
    goes (system_turn refl (turn_here alone
    (passes (single_turn (more while refl (more (passes_again refl) refl none)) body_ends refl) refl
    (passes (single_turn (more again refl (more (passes_again refl) refl none)) body_ends refl) refl
    (passes (single_turn (more again refl (more (passes_again refl) refl none)) body_ends refl) refl
    (stops (single_turn (more again refl (more (passes_again refl) refl none)) body_ends refl) (inl refl)))))))
    (unmet refl) no_turn

pub three_turns : ThreeTurns
three_turns = (
  _,
  goes (system_turn refl (turn_here alone (stops (single_turn (more (each refl) refl (more (passes_again refl) refl none)) body_ends refl) (inl refl)))) (unmet refl)
      (goes (system_turn refl (turn_here alone (stops (single_turn (more again refl (more (passes_again refl) refl none)) body_ends refl) (inl refl)))) (unmet refl)
      (goes (system_turn refl (turn_here alone (stops (single_turn (more again refl (more (leaves refl) refl none)) ends refl) (inl refl)))) (unmet refl)
      no_turn)),
  by_end refl refl,
)
