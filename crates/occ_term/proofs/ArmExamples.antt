-- The turns of the worked ALT.
use Rattle.std.proofs.Common.{refl}
use Rattle.occ_term.specs.Steps.{alt, output, take_in}
use Rattle.occ_term.specs.Turns.{none, more, single_turn}
use Rattle.occ_term.specs.ArmExamples.{OpensAll, TakesFirst, TakesLast, TakesSecond}

pub opens_all : OpensAll
opens_all s = (_, single_turn none (alt refl) refl, refl, refl, refl)

pub takes_first : TakesFirst
takes_first s = (_, single_turn (more (take_in refl) refl none) (output refl) refl, refl, refl, refl, refl)

pub takes_second : TakesSecond
takes_second s = (_, single_turn (more (take_in refl) refl none) (output refl) refl, refl, refl, refl, refl)

pub takes_last : TakesLast
takes_last s = single_turn (more (take_in refl) refl none) (output refl) refl
