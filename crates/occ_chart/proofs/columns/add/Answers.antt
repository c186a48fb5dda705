use Rattle.std.proofs.Common.{◌∙◌, ap, sym}
use Rattle.occ_chart.specs.Columns.{place_for, is_column}
use Rattle.occ_chart.proofs.Ordering.{put_new_at, put_same_at}
use Rattle.occ_chart.proofs.columns.add.Goals as goal

pub returns-then-is_at : goal.returns-then-is_at
returns-then-is_at c =
    let place = c.place_for-place.ensures.place ∙ ap (place_for c.args.end) c.as_slice.ensures.value in
    let there = sym (ap (λ cs. is_column c.args.end cs c.place_for-place.result) c.as_slice-2.ensures.value) ∙ sym c.is_at.ensures ∙ c.if-is_at.true in
    put_same_at c.args.end c.args.columns.now.items c.place_for-place.result place there

pub returns : goal.returns
returns c =
    let place = c.place_for-place.ensures.place ∙ ap (place_for c.args.end) c.as_slice.ensures.value in
    let other = sym (ap (λ cs. is_column c.args.end cs c.place_for-place.result) c.as_slice-2.ensures.value) ∙ sym c.is_at.ensures ∙ c.if-is_at.false in
    c.in_ok-insert.ensures.items ∙ put_new_at c.args.end c.args.columns.now.items c.place_for-place.result place other
