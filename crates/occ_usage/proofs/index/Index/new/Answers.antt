use Rattle.std.proofs.Common.{◌<◌, rules, ap, ◌∙◌}
use Rattle.std.proofs.lemmas.List.Sorted.{IsNonDecreasingBy-from_sort_by_key, All-permutation}
use Rattle.occ_usage.specs.declared.index.Span.{Span}
use Rattle.occ_usage.specs.Indexes.{furthest}
use Rattle.occ_usage.proofs.Reaches.{sound_index}
use Rattle.occ_usage.proofs.index.Index.new.Goals as goal

pub returns-clause-sound : goal.returns-clause-sound
returns-clause-sound c =
    record {
      rises = IsNonDecreasingBy-from_sort_by_key (λ (s : Span). s.first) _ c.sort_unstable_by_key.ensures.sorted (λ a r q k. search rules);
      filled = All-permutation (λ (s : Span). s.first < s.end) _ _ c.sort_unstable_by_key.ensures.permutation c.in_ok-spans.ensures.filled;
      ends = c.in_ok-ends.ensures ∙ ap (furthest 0) c.deref.ensures.value;
    }

pub returns-clause-numbers : goal.returns-clause-numbers
returns-clause-numbers c = sound_index _ _ c.args.kind c.args.uses.now c.sort_unstable_by_key.ensures.permutation c.in_ok-spans.ensures.numbers
