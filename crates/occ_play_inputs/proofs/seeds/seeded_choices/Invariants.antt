use Rattle.std.proofs.Common.{◌≡◌, ◌++◌, ◌-◌}
use Rattle.occ_play_inputs.specs.Seeds.{seeded}
use Rattle.occ_play_inputs.proofs.seeds.seeded_choices.Given as goal

abbrev pub invariant-loop : goal.invariant-loop
invariant-loop l = l.choices.items ++ seeded l.number (l.count - l.counter) ≡ seeded l.fn.seed l.count
