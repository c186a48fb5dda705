-- The runs of programs of several processes, and of one with a keyboard.
use Rattle.std.proofs.Common.{refl, inl, List, [], ℕ, inr, pos, true, false}
use mathlib.Core.Bool.{true≢false}
use mathlib.Core.Path.{sym}
use Rattle.occ_term.specs.declared.fault.Errors.TheVariants as on_fault
use Rattle.occ_term.specs.Steps.{ends, assign, par, seq, clear, drops, seq_empty, Halted, Left, Step, Context, left, faults, Done, Forking, Awaiting, output, input, take_in, while, passes_again, leaves, body_ends, again, variant, stop, each, alt}
use Rattle.occ_term.specs.Turns.{none, more, single_turn, stops}
use Rattle.occ_term.specs.System.{alone, joined, turn_here, system_turn, turn_below, turn_first, turn_later, system, process, no_processes, and_process, change_here, process_sends, change_below, change_first, change_later, passes_skip, meets, offer_ends, screen_receives, process_receives, input_gets, keyboard_sends, arm_gets, SystemTurn, System}
use Rattle.occ_term.specs.Runs.{no_turn, goes, by_end, StepOf, private_step, meeting_step, skip_step, own_step, join_step, branch_step, first_can, later_can, meets_one, by_standing}
use Rattle.occ_laws.specs.NetworkExamples.{ReadersPlays, BothCountedPlays, PipelinePlays, MergePlays, TaggedPlays, CountedPlays, EchoPlays, RunsTo, ThreeRun, LaterOffer, one_ended, Joins}
use Rattle.occ_term.specs.Values.{Store}
use Rattle.occ_term.specs.Terms.{Branches, Reception}
use Rattle.occ_laws.proofs.Meetings.{unmet}

pub readers_plays : ReadersPlays
readers_plays = (
  _,
  (goes (system_turn refl (turn_here alone (stops (single_turn (more seq refl (more (clear refl) refl (more drops refl (more seq refl (more (clear refl) refl (more drops refl (more seq refl (more (clear refl) refl (more drops refl (more seq refl none)))))))))) par refl) (inl refl)))) (unmet refl)
      (goes (system_turn refl (turn_below (turn_first (turn_here alone (stops (single_turn (more (assign refl) refl none) ends refl) (inl refl)))))) (unmet refl)
      (goes (system_turn refl (turn_below (turn_later (turn_first (turn_here alone (stops (single_turn (more (assign refl) refl none) ends refl) (inl refl))))))) (unmet refl)
      (goes (system_turn refl (turn_here (joined (refl, (refl, tt))) (stops (single_turn (more drops refl (more seq_empty refl none)) ends refl) (inl refl)))) (unmet refl)
      no_turn)))),
  by_end refl refl,
)

pub both_counted_plays : BothCountedPlays
both_counted_plays = (
  _,
  (goes (system_turn refl (turn_here alone (stops (single_turn (more seq refl (more (clear refl) refl (more drops refl (more seq refl none)))) par refl) (inl refl)))) (unmet refl)
      (goes (system_turn refl (turn_below (turn_first (turn_here alone (stops (single_turn (more (assign refl) refl none) ends refl) (inl refl)))))) (unmet refl)
      (goes (system_turn refl (turn_below (turn_later (turn_first (turn_here alone (stops (single_turn (more (assign refl) refl none) ends refl) (inl refl))))))) (unmet refl)
      (goes (system_turn refl (turn_here (joined (refl, (refl, tt))) (stops (single_turn (more drops refl (more seq_empty refl none)) ends refl) (inl refl)))) (unmet refl)
      no_turn)))),
  by_end refl refl,
)

halted_is_still : {k : List Context} {s s' : Store} {b : Left} → Step (left Halted k) s b s' → ⊥
halted_is_still (faults f) = elim f [ ]

done_is_still : {k : List Context} {s s' : Store} {b : Left} → Step (left Done k) s b s' → ⊥
done_is_still (faults f) = elim f [ ]

tagged_still : {s : Store} {bs : Branches} {j k l : List Context} → StepOf (system [] (process 0 (left (Forking bs) j) (and_process (process 1 (left Done k) no_processes) (and_process (process 2 (left Halted l) no_processes) no_processes))) s []) → ⊥
tagged_still (private_step (join_step (h, (g, hs)))) = true≢false (sym g)
tagged_still (private_step (branch_step (first_can (own_step st)))) = done_is_still st
tagged_still (private_step (branch_step (first_can (branch_step x)))) = elim x [ ]
tagged_still (private_step (branch_step (later_can (first_can (own_step st))))) = halted_is_still st
tagged_still (private_step (branch_step (later_can (first_can (branch_step x))))) = elim x [ ]
tagged_still (private_step (branch_step (later_can (later_can x)))) = elim x [ ]
tagged_still (meeting_step (meets (process_sends (change_below (change_first (change_here x)))) y)) = elim x [ ]
tagged_still (meeting_step (meets (process_sends (change_below (change_first (change_below x)))) y)) = elim x [ ]
tagged_still (meeting_step (meets (process_sends (change_below (change_later (change_first (change_here x))))) y)) = elim x [ ]
tagged_still (meeting_step (meets (process_sends (change_below (change_later (change_first (change_below x))))) y)) = elim x [ ]
tagged_still (meeting_step (meets (process_sends (change_below (change_later (change_later x)))) y)) = elim x [ ]
tagged_still (skip_step (passes_skip (change_below (change_first (change_here x))))) = elim x [ ]
tagged_still (skip_step (passes_skip (change_below (change_first (change_below x))))) = elim x [ ]
tagged_still (skip_step (passes_skip (change_below (change_later (change_first (change_here x)))))) = elim x [ ]
tagged_still (skip_step (passes_skip (change_below (change_later (change_first (change_below x)))))) = elim x [ ]
tagged_still (skip_step (passes_skip (change_below (change_later (change_later x))))) = elim x [ ]

awaiting_is_still : {c : ℕ} {list : Reception} {k : List Context} {s s' : Store} {b : Left} → Step (left (Awaiting c list) k) s b s' → ⊥
awaiting_is_still (faults f) = elim f [ ]

echo_still : {s : Store} {c : ℕ} {list : Reception} {k : List Context} → StepOf (system [] (process 0 (left (Awaiting c list) k) no_processes) s []) → ⊥
echo_still (private_step (own_step st)) = awaiting_is_still st
echo_still (private_step (branch_step x)) = elim x [ ]
echo_still (meeting_step (meets (process_sends (change_here x)) y)) = elim x [ ]
echo_still (meeting_step (meets (process_sends (change_below x)) y)) = elim x [ ]
echo_still (skip_step (passes_skip (change_here x))) = elim x [ ]
echo_still (skip_step (passes_skip (change_below x))) = elim x [ ]

pub pipeline_plays : PipelinePlays
pipeline_plays = (
  _,
  (goes (system_turn refl (turn_here alone (stops (single_turn none par refl) (inl refl)))) (unmet refl)
      (goes (system_turn refl (turn_below (turn_first (turn_here alone (stops (single_turn none (output refl) refl) (inl refl)))))) (unmet refl)
      (goes (system_turn refl (turn_below (turn_later (turn_first (turn_here alone (stops (single_turn none par refl) (inl refl))))))) (unmet refl)
      (goes (system_turn refl (turn_below (turn_later (turn_first (turn_below (turn_first (turn_here alone (stops (single_turn (more seq refl (more (clear refl) refl (more drops refl (more seq refl (more seq refl none))))) (input refl) refl) (inl refl))))))))) (meets_one refl (inr refl) (meets (process_sends (change_below (change_first (change_here offer_ends)))) (process_receives (change_below (change_later (change_first (change_below (change_first (change_here input_gets)))))))))
      (goes (system_turn refl (turn_below (turn_first (turn_here alone (stops (single_turn none ends refl) (inl refl)))))) (unmet refl)
      (goes (system_turn refl (turn_below (turn_later (turn_first (turn_below (turn_first (turn_here alone (stops (single_turn (more (take_in refl) refl (more drops refl (more seq refl none))) (output refl) refl) (inl refl))))))))) (unmet refl)
      (goes (system_turn refl (turn_below (turn_later (turn_first (turn_below (turn_later (turn_first (turn_here alone (stops (single_turn (more seq refl (more (clear refl) refl (more drops refl (more seq refl (more seq refl none))))) (input refl) refl) (inl refl)))))))))) (meets_one refl (inr refl) (meets (process_sends (change_below (change_later (change_first (change_below (change_first (change_here offer_ends))))))) (process_receives (change_below (change_later (change_first (change_below (change_later (change_first (change_here input_gets))))))))))
      (goes (system_turn refl (turn_below (turn_later (turn_first (turn_below (turn_first (turn_here alone (stops (single_turn (more drops refl (more seq_empty refl (more drops refl (more seq_empty refl none)))) ends refl) (inl refl))))))))) (unmet refl)
      (goes (system_turn refl (turn_below (turn_later (turn_first (turn_below (turn_later (turn_first (turn_here alone (stops (single_turn (more (take_in refl) refl (more drops refl (more seq refl none))) (output refl) refl) (inl refl)))))))))) (unmet refl)
      (goes (system_turn refl (turn_below (turn_later (turn_first (turn_below (turn_later (turn_later (turn_first (turn_here alone (stops (single_turn (more seq refl (more (clear refl) refl (more drops refl (more seq refl (more seq refl none))))) (input refl) refl) (inl refl))))))))))) (meets_one refl (inr refl) (meets (process_sends (change_below (change_later (change_first (change_below (change_later (change_first (change_here offer_ends)))))))) (process_receives (change_below (change_later (change_first (change_below (change_later (change_later (change_first (change_here input_gets)))))))))))
      (goes (system_turn refl (turn_below (turn_later (turn_first (turn_below (turn_later (turn_first (turn_here alone (stops (single_turn (more drops refl (more seq_empty refl (more drops refl (more seq_empty refl none)))) ends refl) (inl refl)))))))))) (unmet refl)
      (goes (system_turn refl (turn_below (turn_later (turn_first (turn_below (turn_later (turn_later (turn_first (turn_here alone (stops (single_turn (more (take_in refl) refl (more drops refl (more seq refl none))) (output refl) refl) (inl refl))))))))))) (unmet refl)
      (goes (system_turn refl (turn_below (turn_later (turn_later (turn_first (turn_here alone (stops (single_turn (more seq refl (more (clear refl) refl (more drops refl (more seq refl (more seq refl none))))) (input refl) refl) (inl refl)))))))) (meets_one refl (inr refl) (meets (process_sends (change_below (change_later (change_first (change_below (change_later (change_later (change_first (change_here offer_ends))))))))) (process_receives (change_below (change_later (change_later (change_first (change_here input_gets))))))))
      (goes (system_turn refl (turn_below (turn_later (turn_first (turn_below (turn_later (turn_later (turn_first (turn_here alone (stops (single_turn (more drops refl (more seq_empty refl (more drops refl (more seq_empty refl none)))) ends refl) (inl refl))))))))))) (unmet refl)
      (goes (system_turn refl (turn_below (turn_later (turn_first (turn_here (joined (refl, (refl, (refl, tt)))) (stops (single_turn none ends refl) (inl refl))))))) (unmet refl)
      (goes (system_turn refl (turn_below (turn_later (turn_later (turn_first (turn_here alone (stops (single_turn (more (take_in refl) refl (more drops refl (more seq refl none))) (output refl) refl) (inl refl)))))))) (meets_one refl (inl refl) (meets (process_sends (change_below (change_later (change_later (change_first (change_here offer_ends)))))) (screen_receives refl)))
      (goes (system_turn refl (turn_below (turn_later (turn_later (turn_first (turn_here alone (stops (single_turn (more drops refl (more seq_empty refl (more drops refl (more seq_empty refl none)))) ends refl) (inl refl)))))))) (unmet refl)
      (goes (system_turn refl (turn_here (joined (refl, (refl, (refl, tt)))) (stops (single_turn none ends refl) (inl refl)))) (unmet refl)
      no_turn)))))))))))))))))),
  by_end refl refl,
)

pub merge_plays : MergePlays
merge_plays = (
  _,
  (goes (system_turn refl (turn_here alone (stops (single_turn (more seq refl (more (clear refl) refl (more drops refl (more seq refl (more (clear refl) refl (more drops refl (more seq refl (more seq refl (more (assign refl) refl (more drops refl (more seq refl (more while refl (more (passes_again refl) refl (more seq refl none)))))))))))))) par refl) (inl refl)))) (unmet refl)
      (goes (system_turn refl (turn_below (turn_first (turn_here alone (stops (single_turn (more (assign refl) refl none) ends refl) (inl refl)))))) (unmet refl)
      (goes (system_turn refl (turn_below (turn_later (turn_first (turn_here alone (stops (single_turn (more (assign refl) refl none) ends refl) (inl refl))))))) (unmet refl)
      (goes (system_turn refl (turn_here (joined (refl, (refl, tt))) (stops (single_turn (more drops refl (more seq refl (more (assign refl) refl (more drops refl (more seq_empty refl none))))) body_ends refl) (inl refl)))) (unmet refl)
      (goes (system_turn refl (turn_here alone (stops (single_turn (more again refl (more (passes_again refl) refl (more seq refl none))) par refl) (inl refl)))) (unmet refl)
      (goes (system_turn refl (turn_below (turn_first (turn_here alone (stops (single_turn (more (assign refl) refl none) ends refl) (inl refl)))))) (unmet refl)
      (goes (system_turn refl (turn_below (turn_later (turn_first (turn_here alone (stops (single_turn (more (assign refl) refl none) ends refl) (inl refl))))))) (unmet refl)
      (goes (system_turn refl (turn_here (joined (refl, (refl, tt))) (stops (single_turn (more drops refl (more seq refl (more (assign refl) refl (more drops refl (more seq_empty refl none))))) body_ends refl) (inl refl)))) (unmet refl)
      (goes (system_turn refl (turn_here alone (stops (single_turn (more again refl (more (leaves refl) refl (more drops refl (more seq refl none)))) (output refl) refl) (inl refl)))) (meets_one refl (inl refl) (meets (process_sends (change_here offer_ends)) (screen_receives refl)))
      (goes (system_turn refl (turn_here alone (stops (single_turn (more drops refl (more seq_empty refl (more drops refl (more seq_empty refl none)))) ends refl) (inl refl)))) (unmet refl)
      no_turn)))))))))),
  by_end refl refl,
)

pub tagged_plays : TaggedPlays
tagged_plays = (
  _,
  (goes (system_turn refl (turn_here alone (stops (single_turn none par refl) (inl refl)))) (unmet refl)
      (goes (system_turn refl (turn_below (turn_first (turn_here alone (stops (single_turn (more seq refl none) (output refl) refl) (inl refl)))))) (unmet refl)
      (goes (system_turn refl (turn_below (turn_later (turn_first (turn_here alone (stops (single_turn (more seq refl (more (clear refl) refl (more drops refl (more seq refl (more seq refl none))))) (variant refl) refl) (inl refl))))))) (meets_one refl (inr refl) (meets (process_sends (change_below (change_first (change_here offer_ends)))) (process_receives (change_below (change_later (change_first (change_here input_gets)))))))
      (goes (system_turn refl (turn_below (turn_first (turn_here alone (stops (single_turn (more drops refl (more seq refl none)) (output refl) refl) (inl refl)))))) (unmet refl)
      (goes (system_turn refl (turn_below (turn_later (turn_first (turn_here alone (stops (single_turn (more (take_in refl) refl (more drops refl (more seq refl none))) (output refl) refl) (inl refl))))))) (meets_one refl (inl refl) (meets (process_sends (change_below (change_later (change_first (change_here offer_ends))))) (screen_receives refl)))
      (goes (system_turn refl (turn_below (turn_later (turn_first (turn_here alone (stops (single_turn (more drops refl (more seq refl none)) (variant refl) refl) (inl refl))))))) (meets_one refl (inr refl) (meets (process_sends (change_below (change_first (change_here offer_ends)))) (process_receives (change_below (change_later (change_first (change_here input_gets)))))))
      (goes (system_turn refl (turn_below (turn_first (turn_here alone (stops (single_turn (more drops refl (more seq_empty refl none)) ends refl) (inl refl)))))) (unmet refl)
      (goes (system_turn refl (turn_below (turn_later (turn_first (turn_here alone (stops (single_turn (more (take_in refl) refl none) stop refl) (inl refl))))))) (unmet refl)
      no_turn)))))))),
  by_standing refl refl tagged_still,
)

pub counted_plays : CountedPlays
counted_plays = (
  _,
  (goes (system_turn refl (turn_here alone (stops (single_turn (more seq refl (more (clear refl) refl (more drops refl (more seq refl none)))) par refl) (inl refl)))) (unmet refl)
      (goes (system_turn refl (turn_below (turn_first (turn_here alone (stops (single_turn none (output refl) refl) (inl refl)))))) (unmet refl)
      (goes (system_turn refl (turn_below (turn_later (turn_first (turn_here alone (stops (single_turn (more seq refl (more (clear refl) refl (more drops refl (more seq refl (more (clear refl) refl (more drops refl (more seq refl (more seq refl (more (assign refl) refl (more drops refl (more seq refl none))))))))))) (input refl) refl) (inl refl))))))) (meets_one refl (inr refl) (meets (process_sends (change_below (change_first (change_here offer_ends)))) (process_receives (change_below (change_later (change_first (change_here input_gets)))))))
      (goes (system_turn refl (turn_below (turn_first (turn_here alone (stops (single_turn none ends refl) (inl refl)))))) (unmet refl)
      (goes (system_turn refl (turn_below (turn_later (turn_first (turn_here alone (stops (single_turn (more (take_in refl) refl (more drops refl (more seq refl none))) (output refl) refl) (inl refl))))))) (meets_one refl (inl refl) (meets (process_sends (change_below (change_later (change_first (change_here offer_ends))))) (screen_receives refl)))
      (goes (system_turn refl (turn_below (turn_later (turn_first (turn_here alone (stops (single_turn (more drops refl (more seq_empty refl (more drops refl (more seq_empty refl none)))) ends refl) (inl refl))))))) (unmet refl)
      (goes (system_turn refl (turn_here (joined (refl, (refl, tt))) (stops (single_turn (more drops refl (more seq_empty refl none)) ends refl) (inl refl)))) (unmet refl)
      no_turn))))))),
  by_end refl refl,
)

pub echo_plays : EchoPlays
echo_plays = (
  _,
  (goes (system_turn refl (turn_here alone (stops (single_turn (more (each refl) refl (more (passes_again refl) refl (more seq refl (more (clear refl) refl (more drops refl (more seq refl (more seq refl none))))))) (input refl) refl) (inl refl)))) (meets_one refl (inr refl) (meets (keyboard_sends refl refl) (process_receives (change_here input_gets))))
      (goes (system_turn refl (turn_here alone (stops (single_turn (more (take_in refl) refl (more drops refl (more seq refl none))) (output refl) refl) (inl refl)))) (meets_one refl (inl refl) (meets (process_sends (change_here offer_ends)) (screen_receives refl)))
      (goes (system_turn refl (turn_here alone (stops (single_turn (more drops refl (more seq_empty refl (more drops refl (more seq_empty refl none)))) body_ends refl) (inl refl)))) (unmet refl)
      (goes (system_turn refl (turn_here alone (stops (single_turn (more again refl (more (passes_again refl) refl (more seq refl (more (clear refl) refl (more drops refl (more seq refl (more seq refl none))))))) (input refl) refl) (inl refl)))) (meets_one refl (inr refl) (meets (keyboard_sends refl refl) (process_receives (change_here input_gets))))
      (goes (system_turn refl (turn_here alone (stops (single_turn (more (take_in refl) refl (more drops refl (more seq refl none))) (output refl) refl) (inl refl)))) (meets_one refl (inl refl) (meets (process_sends (change_here offer_ends)) (screen_receives refl)))
      (goes (system_turn refl (turn_here alone (stops (single_turn (more drops refl (more seq_empty refl (more drops refl (more seq_empty refl none)))) body_ends refl) (inl refl)))) (unmet refl)
      (goes (system_turn refl (turn_here alone (stops (single_turn (more again refl (more (passes_again refl) refl (more seq refl (more (clear refl) refl (more drops refl (more seq refl (more seq refl none))))))) (input refl) refl) (inl refl)))) (unmet refl)
      no_turn))))))),
  by_standing refl refl echo_still,
)

-- the fork, both offers, the choice, the end of the first output, the screen's letter, the end
pub with_priority : RunsTo true 1 3 (pos 1)
with_priority = (
  _,
  (goes (system_turn refl (turn_here alone (stops (single_turn none par refl) (inl refl)))) (unmet refl)
      (goes (system_turn refl (turn_below (turn_first (turn_here alone (stops (single_turn none (output refl) refl) (inl refl)))))) (unmet refl)
      (goes (system_turn refl (turn_below (turn_later (turn_first (turn_here alone (stops (single_turn none (output refl) refl) (inl refl))))))) (unmet refl)
      (goes (system_turn refl (turn_below (turn_later (turn_later (turn_first (turn_here alone (stops (single_turn (more seq refl (more (clear refl) refl (more drops refl (more seq refl (more seq refl none))))) (alt refl) refl) (inl refl)))))))) (meets_one refl (inr refl) (meets (process_sends (change_below (change_first (change_here offer_ends)))) (process_receives (change_below (change_later (change_later (change_first (change_here (arm_gets 1 refl)))))))))
      (goes (system_turn refl (turn_below (turn_first (turn_here alone (stops (single_turn none ends refl) (inl refl)))))) (unmet refl)
      (goes (system_turn refl (turn_below (turn_later (turn_later (turn_first (turn_here alone (stops (single_turn (more (take_in refl) refl (more drops refl (more seq refl none))) (output refl) refl) (inl refl)))))))) (meets_one refl (inl refl) (meets (process_sends (change_below (change_later (change_later (change_first (change_here offer_ends)))))) (screen_receives refl)))
      (goes (system_turn refl (turn_below (turn_later (turn_later (turn_first (turn_here alone (stops (single_turn (more drops refl (more seq_empty refl (more drops refl (more seq_empty refl none)))) ends refl) (inl refl)))))))) (unmet refl)
      no_turn))))))),
)

pub takes_first : RunsTo false 1 3 (pos 1)
takes_first = (
  _,
  (goes (system_turn refl (turn_here alone (stops (single_turn none par refl) (inl refl)))) (unmet refl)
      (goes (system_turn refl (turn_below (turn_first (turn_here alone (stops (single_turn none (output refl) refl) (inl refl)))))) (unmet refl)
      (goes (system_turn refl (turn_below (turn_later (turn_first (turn_here alone (stops (single_turn none (output refl) refl) (inl refl))))))) (unmet refl)
      (goes (system_turn refl (turn_below (turn_later (turn_later (turn_first (turn_here alone (stops (single_turn (more seq refl (more (clear refl) refl (more drops refl (more seq refl (more seq refl none))))) (alt refl) refl) (inl refl)))))))) (meets_one refl (inr refl) (meets (process_sends (change_below (change_first (change_here offer_ends)))) (process_receives (change_below (change_later (change_later (change_first (change_here (arm_gets 0 refl)))))))))
      (goes (system_turn refl (turn_below (turn_first (turn_here alone (stops (single_turn none ends refl) (inl refl)))))) (unmet refl)
      (goes (system_turn refl (turn_below (turn_later (turn_later (turn_first (turn_here alone (stops (single_turn (more (take_in refl) refl (more drops refl (more seq refl none))) (output refl) refl) (inl refl)))))))) (meets_one refl (inl refl) (meets (process_sends (change_below (change_later (change_later (change_first (change_here offer_ends)))))) (screen_receives refl)))
      (goes (system_turn refl (turn_below (turn_later (turn_later (turn_first (turn_here alone (stops (single_turn (more drops refl (more seq_empty refl (more drops refl (more seq_empty refl none)))) ends refl) (inl refl)))))))) (unmet refl)
      no_turn))))))),
)

pub takes_second : RunsTo false 2 4 (pos 2)
takes_second = (
  _,
  (goes (system_turn refl (turn_here alone (stops (single_turn none par refl) (inl refl)))) (unmet refl)
      (goes (system_turn refl (turn_below (turn_first (turn_here alone (stops (single_turn none (output refl) refl) (inl refl)))))) (unmet refl)
      (goes (system_turn refl (turn_below (turn_later (turn_first (turn_here alone (stops (single_turn none (output refl) refl) (inl refl))))))) (unmet refl)
      (goes (system_turn refl (turn_below (turn_later (turn_later (turn_first (turn_here alone (stops (single_turn (more seq refl (more (clear refl) refl (more drops refl (more seq refl (more seq refl none))))) (alt refl) refl) (inl refl)))))))) (meets_one refl (inr refl) (meets (process_sends (change_below (change_later (change_first (change_here offer_ends))))) (process_receives (change_below (change_later (change_later (change_first (change_here (arm_gets 1 refl)))))))))
      (goes (system_turn refl (turn_below (turn_later (turn_first (turn_here alone (stops (single_turn none ends refl) (inl refl))))))) (unmet refl)
      (goes (system_turn refl (turn_below (turn_later (turn_later (turn_first (turn_here alone (stops (single_turn (more (take_in refl) refl (more drops refl (more seq refl none))) (output refl) refl) (inl refl)))))))) (meets_one refl (inl refl) (meets (process_sends (change_below (change_later (change_later (change_first (change_here offer_ends)))))) (screen_receives refl)))
      (goes (system_turn refl (turn_below (turn_later (turn_later (turn_first (turn_here alone (stops (single_turn (more drops refl (more seq_empty refl (more drops refl (more seq_empty refl none)))) ends refl) (inl refl)))))))) (unmet refl)
      no_turn))))))),
)

pub three_run : ThreeRun
three_run = (with_priority, takes_first, takes_second)

pub later_offer : LaterOffer
later_offer = (
  _,
  goes (system_turn refl (turn_here alone (stops (single_turn none par refl) (inl refl)))) (unmet refl)
      (goes (system_turn refl (turn_below (turn_later (turn_later (turn_first (turn_here alone (stops (single_turn (more seq refl (more (clear refl) refl (more drops refl (more seq refl (more seq refl none))))) (alt refl) refl) (inl refl)))))))) (unmet refl)
      (goes (system_turn refl (turn_below (turn_later (turn_first (turn_here alone (stops (single_turn none (output refl) refl) (inl refl)))))))
      (meets_one refl (inl refl) (meets (process_sends (change_below (change_later (change_first (change_here offer_ends))))) (process_receives (change_below (change_later (change_later (change_first (change_here (arm_gets 1 refl)))))))))
      no_turn)),
)

no_join : (b : System) → SystemTurn on_fault.Halt 1 0 one_ended b → ⊥
no_join b (system_turn h (turn_here (joined (x, (y, z))) t)) = cc
no_join b (system_turn h (turn_below (turn_first (turn_below x)))) = elim x [ ]
no_join b (system_turn h (turn_below (turn_later (turn_first (turn_below x))))) = elim x [ ]
no_join b (system_turn h (turn_below (turn_later (turn_later x)))) = elim x [ ]

pub joins : Joins
joins = (
  goes (system_turn refl (turn_here alone (stops (single_turn none par refl) (inl refl)))) (unmet refl)
      (goes (system_turn refl (turn_below (turn_first (turn_here alone (stops (single_turn none ends refl) (inl refl)))))) (unmet refl)
      no_turn),
  no_join,
  (
    _,
    goes (system_turn refl (turn_below (turn_later (turn_first (turn_here alone (stops (single_turn none ends refl) (inl refl))))))) (unmet refl)
        (goes (system_turn refl (turn_here (joined (refl, (refl, tt))) (stops (single_turn none ends refl) (inl refl)))) (unmet refl)
        no_turn),
    by_end refl refl,
  ),
)
