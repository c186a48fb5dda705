-- The runs of programs that fault.
use Rattle.std.proofs.Common.{refl, inl, List, [], ℕ}
use mathlib.Core.Bool.{true≢false}
use mathlib.Core.Path.{sym}
use Rattle.occ_term.specs.declared.fault.Errors.TheVariants as on_fault
use Rattle.occ_term.specs.Steps.{faults, in_assign, seq, clear, drops, in_output, in_each, assign, par, Left, Step, Context, left, Faulted, Forking}
use Rattle.occ_term.specs.Turns.{none, more, single_turn, stops}
use Rattle.occ_term.specs.System.{alone, turn_here, system_turn, turn_below, turn_first, system, process, no_processes, and_process, change_here, process_sends, change_below, change_first, change_later, passes_skip, meets, turn_later, SystemTurn, System}
use Rattle.occ_term.specs.Runs.{no_turn, goes, by_fault, StepOf, private_step, meeting_step, skip_step, own_step, join_step, branch_step, first_can, later_can, by_standing, EndsBy}
use Rattle.occ_laws.specs.FaultExamples.{QuotientPlays, NoBytePlays, NegativeCountPlays, TooManyPlays, FaultingPlays, AddsPlays, Divides, both_divide, faulted, second_first, StopsBoth, after_divides, FaultHalts}
use Rattle.occ_term.specs.Values.{Store}
use Rattle.occ_laws.proofs.Meetings.{unmet}
use Rattle.occ_term.specs.declared.ending.Ending.TheVariants.{Fault as FaultEnds}
use Rattle.occ_term.specs.declared.fault.Fault.{Fault}

pub quotient_plays : QuotientPlays
quotient_plays = (
  _,
  (goes (system_turn refl (turn_here alone (stops (single_turn (more seq refl (more (clear refl) refl (more drops refl (more seq refl (more seq refl none))))) (faults (in_assign refl)) refl) (inl refl)))) (unmet refl)
      no_turn),
  by_fault refl refl,
)

pub no_byte_plays : NoBytePlays
no_byte_plays = (
  _,
  (goes (system_turn refl (turn_here alone (stops (single_turn none (faults (in_output refl)) refl) (inl refl)))) (unmet refl)
      no_turn),
  by_fault refl refl,
)

pub negative_count_plays : NegativeCountPlays
negative_count_plays = (
  _,
  (goes (system_turn refl (turn_here alone (stops (single_turn (more seq refl (more (clear refl) refl (more drops refl (more seq refl (more seq refl (more (assign refl) refl (more drops refl (more seq refl none)))))))) (faults (in_each refl)) refl) (inl refl)))) (unmet refl)
      no_turn),
  by_fault refl refl,
)

pub too_many_plays : TooManyPlays
too_many_plays = (
  _,
  (goes (system_turn refl (turn_here alone (stops (single_turn (more seq refl (more (clear refl) refl (more drops refl (more seq refl none)))) par refl) (inl refl)))) (unmet refl)
      (goes (system_turn refl (turn_below (turn_first (turn_here alone (stops (single_turn none (faults (in_output refl)) refl) (inl refl)))))) (unmet refl)
      no_turn)),
  by_fault refl refl,
)

pub faulting_plays : FaultingPlays
faulting_plays = (
  _,
  (goes (system_turn refl (turn_here alone (stops (single_turn (more seq refl (more (clear refl) refl (more drops refl (more seq refl none)))) par refl) (inl refl)))) (unmet refl)
      (goes (system_turn refl (turn_below (turn_first (turn_here alone (stops (single_turn none (faults (in_assign refl)) refl) (inl refl)))))) (unmet refl)
      no_turn)),
  by_fault refl refl,
)

pub adds_plays : AddsPlays
adds_plays = (
  _,
  (goes (system_turn refl (turn_here alone (stops (single_turn (more seq refl (more (clear refl) refl (more drops refl (more seq refl none)))) (faults (in_assign refl)) refl) (inl refl)))) (unmet refl)
      no_turn),
  by_fault refl refl,
)

pub divides : Divides
divides = (
  goes (system_turn refl (turn_here alone (stops (single_turn none (faults (in_assign refl)) refl) (inl refl)))) (unmet refl) no_turn,
  by_fault refl refl,
  goes (system_turn tt (turn_here alone (stops (single_turn none (faults (in_assign refl)) refl) (inl refl)))) (unmet refl) no_turn,
)

faulted_is_still : {e : Fault} {k : List Context} {s s' : Store} {b : Left} → Step (left (Faulted e) k) s b s' → ⊥
faulted_is_still (faults f) = elim f [ ]

both_still : {s : Store} → StepOf (system [] (process 0 (left (Forking both_divide) []) (and_process (faulted 1 4) (and_process (faulted 2 5) no_processes))) s second_first) → ⊥
both_still (private_step (join_step (h, hs))) = true≢false (sym h)
both_still (private_step (branch_step (first_can (own_step st)))) = faulted_is_still st
both_still (private_step (branch_step (first_can (branch_step x)))) = elim x [ ]
both_still (private_step (branch_step (later_can (first_can (own_step st))))) = faulted_is_still st
both_still (private_step (branch_step (later_can (first_can (branch_step x))))) = elim x [ ]
both_still (private_step (branch_step (later_can (later_can x)))) = elim x [ ]
both_still (meeting_step (meets (process_sends (change_below (change_first (change_here x)))) y)) = elim x [ ]
both_still (meeting_step (meets (process_sends (change_below (change_first (change_below x)))) y)) = elim x [ ]
both_still (meeting_step (meets (process_sends (change_below (change_later (change_first (change_here x))))) y)) = elim x [ ]
both_still (meeting_step (meets (process_sends (change_below (change_later (change_first (change_below x))))) y)) = elim x [ ]
both_still (meeting_step (meets (process_sends (change_below (change_later (change_later x)))) y)) = elim x [ ]
both_still (skip_step (passes_skip (change_below (change_first (change_here x))))) = elim x [ ]
both_still (skip_step (passes_skip (change_below (change_first (change_below x))))) = elim x [ ]
both_still (skip_step (passes_skip (change_below (change_later (change_first (change_here x)))))) = elim x [ ]
both_still (skip_step (passes_skip (change_below (change_later (change_first (change_below x)))))) = elim x [ ]
both_still (skip_step (passes_skip (change_below (change_later (change_later x))))) = elim x [ ]

pub stops_both : StopsBoth
stops_both = (
  goes (system_turn tt (turn_here alone (stops (single_turn none par refl) (inl refl)))) (unmet refl)
      (goes (system_turn tt (turn_below (turn_later (turn_first (turn_here alone (stops (single_turn none (faults (in_assign refl)) refl) (inl refl))))))) (unmet refl)
      (goes (system_turn tt (turn_below (turn_first (turn_here alone (stops (single_turn none (faults (in_assign refl)) refl) (inl refl)))))) (unmet refl)
      no_turn)),
  by_standing tt refl both_still,
)

none_after : (n : ℕ) (b : System) → SystemTurn on_fault.Halt 1 n after_divides b → ⊥
none_after n b (system_turn h t) = cc

no_fault_ending : (e : Fault) → EndsBy on_fault.Stop after_divides (FaultEnds e) → ⊥
no_fault_ending e (by_fault q r) = cc

pub fault_halts : FaultHalts
fault_halts = (none_after, no_fault_ending)
