-- The runs of programs that show what expressions and assignments come to.
use Rattle.std.proofs.Common.{refl, inl}
use Rattle.occ_term.specs.Steps.{output, ends, assign, seq, clear, drops, seq_empty}
use Rattle.occ_term.specs.Turns.{none, more, single_turn, stops}
use Rattle.occ_term.specs.System.{alone, turn_here, system_turn, change_here, offer_ends, process_sends, screen_receives, meets}
use Rattle.occ_term.specs.Runs.{no_turn, goes, meets_one, by_end}
use Rattle.occ_laws.specs.ExpressionExamples.{RemainderPlays, NextLetterPlays, ChainPlays, SwapPlays}
use Rattle.occ_laws.proofs.Meetings.{unmet}

pub remainder_plays : RemainderPlays
remainder_plays = (
  _,
  (goes (system_turn refl (turn_here alone (stops (single_turn (more seq refl (more (clear refl) refl (more drops refl (more seq refl (more seq refl (more (assign refl) refl (more drops refl (more seq refl none)))))))) (output refl) refl) (inl refl)))) (meets_one refl (inl refl) (meets (process_sends (change_here offer_ends)) (screen_receives refl)))
      (goes (system_turn refl (turn_here alone (stops (single_turn (more drops refl (more seq_empty refl (more drops refl (more seq_empty refl none)))) ends refl) (inl refl)))) (unmet refl)
      no_turn)),
  by_end refl refl,
)

pub next_letter_plays : NextLetterPlays
next_letter_plays = (
  _,
  (goes (system_turn refl (turn_here alone (stops (single_turn none (output refl) refl) (inl refl)))) (meets_one refl (inl refl) (meets (process_sends (change_here offer_ends)) (screen_receives refl)))
      (goes (system_turn refl (turn_here alone (stops (single_turn none ends refl) (inl refl)))) (unmet refl)
      no_turn)),
  by_end refl refl,
)

pub chain_plays : ChainPlays
chain_plays = (
  _,
  (goes (system_turn refl (turn_here alone (stops (single_turn (more seq refl (more (clear refl) refl (more drops refl (more seq refl (more (clear refl) refl (more drops refl (more seq refl (more (clear refl) refl (more drops refl (more seq refl (more (assign refl) refl (more drops refl (more seq_empty refl none))))))))))))) ends refl) (inl refl)))) (unmet refl)
      no_turn),
  by_end refl refl,
)

pub swap_plays : SwapPlays
swap_plays = (
  _,
  (goes (system_turn refl (turn_here alone (stops (single_turn (more seq refl (more (clear refl) refl (more drops refl (more seq refl (more seq refl (more (assign refl) refl (more drops refl (more seq refl (more (assign refl) refl (more drops refl (more seq refl (more (assign refl) refl (more drops refl (more seq refl none)))))))))))))) (output refl) refl) (inl refl)))) (meets_one refl (inl refl) (meets (process_sends (change_here offer_ends)) (screen_receives refl)))
      (goes (system_turn refl (turn_here alone (stops (single_turn (more drops refl (more seq_empty refl (more drops refl (more seq_empty refl none)))) ends refl) (inl refl)))) (unmet refl)
      no_turn)),
  by_end refl refl,
)
