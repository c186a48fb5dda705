use Rattle.std.proofs.Common.{◌≡◌, ◌+◌, ◌≤◌}
use Rattle.std.specs.Prelude.{vec_capacity, vec_len}
use Rattle.occ_net.specs.Stretches.{choices_from}
use Rattle.occ_net.proofs.stretches.push_all.Given as goal

abbrev pub invariant-loop-more : goal.invariant-loop-more
invariant-loop-more l = record {
  choices : l.choices.items ≡ choices_from l.which l.pick l.initial.choices.items l.more;
  len : vec_len l.choices ≡ vec_len l.initial.choices + l.more;
  room : vec_len l.initial.choices + l.count ≤ vec_capacity l.choices;
}
