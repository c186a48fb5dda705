use Rattle.std.proofs.Common.{◌∙◌, sym, ap, map}
use Rattle.std.proofs.lemmas.List.Sorted.{IsPermutation-map}
use Rattle.occ_check_meaning.specs.Calls.{some_meet}
use Rattle.occ_check_lines.specs.Spans.{span_of}
use Rattle.occ_check_lines.proofs.Overlaps.{none_meet, some_meet-permuted, two_meet}
use Rattle.occ_check_lines.proofs.overlap.some_meet.Goals as goal

pub returns-then-stand_apart : goal.returns-then-stand_apart
returns-then-stand_apart c =
    let same = some_meet-permuted _ _ (IsPermutation-map span_of _ _ c.sort_unstable_by_key.ensures.permutation) in
    let seen = ap (λ xs. some_meet (map span_of xs)) c.deref.ensures.value in
    sym (same ∙ sym seen ∙ none_meet (map span_of c.deref.result.now) (sym c.stand_apart.ensures ∙ c.if-stand_apart.true))

pub returns-then-neighbours_meet : goal.returns-then-neighbours_meet
returns-then-neighbours_meet c =
    let same = some_meet-permuted _ _ (IsPermutation-map span_of _ _ c.sort_unstable_by_key.ensures.permutation) in
    let seen = ap (λ xs. some_meet (map span_of xs)) c.deref-2.ensures.value in
    sym (same ∙ sym seen ∙ two_meet (map span_of c.deref-2.result.now) (sym c.neighbours_meet.ensures ∙ c.if-neighbours_meet.true))

pub returns : goal.returns
returns c =
    let same = some_meet-permuted _ _ (IsPermutation-map span_of _ _ c.sort_unstable_by_key.ensures.permutation) in
    let seen = ap (λ xs. some_meet (map span_of xs)) c.deref-3.ensures.value in
    c.some_pair_meets.ensures ∙ seen ∙ sym same
