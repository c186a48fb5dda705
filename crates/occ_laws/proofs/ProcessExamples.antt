-- The runs of programs of one process.
use Rattle.std.proofs.Common.{List, [], refl, inl}
use Rattle.occ_term.specs.Values.{Store}
use Rattle.occ_term.specs.Steps.{Halted, Left, Step, Context, left, faults, if_step, stop, case, output, seq, drops, while, passes_again, body_ends, again, each, ends, assign, clear, seq_empty, leaves, alt}
use Rattle.occ_term.specs.System.{system, process, no_processes, change_here, process_sends, change_below, passes_skip, meets, alone, turn_here, system_turn, offer_ends, screen_receives}
use Rattle.occ_term.specs.Runs.{StepOf, private_step, meeting_step, skip_step, own_step, branch_step, no_turn, goes, by_standing, meets_one, goes_on, by_end}
use Rattle.occ_term.specs.Turns.{none, more, single_turn, stops}
use Rattle.occ_laws.specs.ProcessExamples.{NoChoicePlays, NoOptionPlays, LineThenStopPlays, ForEverPlays, NoTimePlays, OwnVariablePlays, ThirdChoicePlays, Halts}
use Rattle.occ_laws.proofs.Meetings.{unmet}

halted_is_still : {k : List Context} {s s' : Store} {b : Left} → Step (left Halted k) s b s' → ⊥
halted_is_still (faults f) = elim f [ ]

still : {s : Store} {k : List Context} → StepOf (system [] (process 0 (left Halted k) no_processes) s []) → ⊥
still (private_step (own_step st)) = halted_is_still st
still (private_step (branch_step x)) = elim x [ ]
still (meeting_step (meets (process_sends (change_here x)) y)) = elim x [ ]
still (meeting_step (meets (process_sends (change_below x)) y)) = elim x [ ]
still (skip_step (passes_skip (change_here x))) = elim x [ ]
still (skip_step (passes_skip (change_below x))) = elim x [ ]

pub no_choice_plays : NoChoicePlays
no_choice_plays = (
  _,
  (goes (system_turn refl (turn_here alone (stops (single_turn (more (if_step refl) refl none) stop refl) (inl refl)))) (unmet refl)
      no_turn),
  by_standing refl refl still,
)

pub no_option_plays : NoOptionPlays
no_option_plays = (
  _,
  (goes (system_turn refl (turn_here alone (stops (single_turn (more (case refl) refl none) stop refl) (inl refl)))) (unmet refl)
      no_turn),
  by_standing refl refl still,
)

pub line_then_stop_plays : LineThenStopPlays
line_then_stop_plays = (
  _,
  (goes (system_turn refl (turn_here alone (stops (single_turn (more seq refl none) (output refl) refl) (inl refl)))) (meets_one refl (inl refl) (meets (process_sends (change_here offer_ends)) (screen_receives refl)))
      (goes (system_turn refl (turn_here alone (stops (single_turn (more drops refl (more seq refl none)) stop refl) (inl refl)))) (unmet refl)
      no_turn)),
  by_standing refl refl still,
)

pub for_ever_plays : ForEverPlays
for_ever_plays = (
  _,
  (goes (system_turn refl (turn_here alone (stops (single_turn (more while refl (more (passes_again refl) refl none)) body_ends refl) (inl refl)))) (unmet refl)
      (goes (system_turn refl (turn_here alone (stops (single_turn (more again refl (more (passes_again refl) refl none)) body_ends refl) (inl refl)))) (unmet refl)
      (goes (system_turn refl (turn_here alone (stops (single_turn (more again refl (more (passes_again refl) refl none)) body_ends refl) (inl refl)))) (unmet refl)
      (goes (system_turn refl (turn_here alone (stops (single_turn (more again refl (more (passes_again refl) refl none)) body_ends refl) (inl refl)))) (unmet refl)
      (goes (system_turn refl (turn_here alone (stops (single_turn (more again refl (more (passes_again refl) refl none)) body_ends refl) (inl refl)))) (unmet refl)
      (goes (system_turn refl (turn_here alone (stops (single_turn (more again refl (more (passes_again refl) refl none)) body_ends refl) (inl refl)))) (unmet refl)
      (goes (system_turn refl (turn_here alone (stops (single_turn (more again refl (more (passes_again refl) refl none)) body_ends refl) (inl refl)))) (unmet refl)
      (goes (system_turn refl (turn_here alone (stops (single_turn (more again refl (more (passes_again refl) refl none)) body_ends refl) (inl refl)))) (unmet refl)
      (goes (system_turn refl (turn_here alone (stops (single_turn (more again refl (more (passes_again refl) refl none)) body_ends refl) (inl refl)))) (unmet refl)
      (goes (system_turn refl (turn_here alone (stops (single_turn (more again refl (more (passes_again refl) refl none)) body_ends refl) (inl refl)))) (unmet refl)
      no_turn)))))))))),
  goes_on refl refl (private_step (own_step again)),
)

pub no_time_plays : NoTimePlays
no_time_plays = (
  _,
  (goes (system_turn refl (turn_here alone (stops (single_turn (more seq refl (more (clear refl) refl (more drops refl (more seq refl (more seq refl (more (assign refl) refl (more drops refl (more seq refl (more (each refl) refl (more (leaves refl) refl (more drops refl (more seq_empty refl (more drops refl (more seq_empty refl none)))))))))))))) ends refl) (inl refl)))) (unmet refl)
      no_turn),
  by_end refl refl,
)

pub own_variable_plays : OwnVariablePlays
own_variable_plays = (
  _,
  (goes (system_turn refl (turn_here alone (stops (single_turn (more seq refl (more (clear refl) refl (more drops refl (more seq refl (more seq refl (more (assign refl) refl (more drops refl (more seq refl (more seq refl (more (clear refl) refl (more drops refl (more seq refl (more (assign refl) refl (more drops refl (more seq_empty refl (more drops refl (more seq refl none))))))))))))))))) (output refl) refl) (inl refl)))) (meets_one refl (inl refl) (meets (process_sends (change_here offer_ends)) (screen_receives refl)))
      (goes (system_turn refl (turn_here alone (stops (single_turn (more drops refl (more seq_empty refl (more drops refl (more seq_empty refl none)))) ends refl) (inl refl)))) (unmet refl)
      no_turn)),
  by_end refl refl,
)

pub third_choice_plays : ThirdChoicePlays
third_choice_plays = (
  _,
  (goes (system_turn refl (turn_here alone (stops (single_turn (more seq refl (more (clear refl) refl (more drops refl (more seq refl (more seq refl (more (assign refl) refl (more drops refl (more seq refl (more (if_step refl) refl none))))))))) (output refl) refl) (inl refl)))) (meets_one refl (inl refl) (meets (process_sends (change_here offer_ends)) (screen_receives refl)))
      (goes (system_turn refl (turn_here alone (stops (single_turn (more drops refl (more seq_empty refl (more drops refl (more seq_empty refl none)))) ends refl) (inl refl)))) (unmet refl)
      no_turn)),
  by_end refl refl,
)

pub halts : Halts
halts = (
  goes (system_turn refl (turn_here alone (stops (single_turn (more (alt refl) refl none) stop refl) (inl refl)))) (unmet refl) no_turn,
  by_standing refl refl still,
)
