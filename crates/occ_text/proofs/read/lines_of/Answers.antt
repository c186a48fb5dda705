use Rattle.std.proofs.Common.{◌≡◌, ◌+◌, suc, length, ap, None, Some, refl, sym, ◌∙◌, arith}
use Rattle.std.proofs.lemmas.Bool.{eqb-true}
use Rattle.std.specs.Prelude.{option_map}
use Rattle.std.specs.List.{enumerate_from}
use Rattle.std.specs.Str.Lines.{lines}
use Rattle.std.proofs.lemmas.List.{append-nil}
use Rattle.std.proofs.lemmas.Result.{err_from_is_err_and}
use Rattle.occ_text.specs.Words.{logical_line_of, logical_lines, words}
use Rattle.occ_text.specs.Lines.{indent}
use Rattle.occ_text.specs.Reading.{words_from, joined_with, logical_lines_from}
use Rattle.occ_text.proofs.LineSteps.{logical_lines_last, logical_lines_go_on, words_fail, join_fails}
use Rattle.occ_text.proofs.Steps.{fails_along}
use Rattle.occ_text.proofs.read.lines_of.Goals as goal

pub returns-in_err-tokens-clause-value : goal.returns-in_err-tokens-clause-value
returns-in_err-tokens-clause-value c =
    let p = err_from_is_err_and c.from_residual.result c.from_residual.ensures.1 in
    let total = logical_lines_from None (enumerate_from 1 (lines c.args.text.now)) in
    let line = c.first_line.result.0.now in
    rw (p.1, p.2) (fails_along c.in_err-tokens.field-0.0 (words_from 0 line) total
    (words_fail (logical_lines c.loop-rest.finished.items) (option_map logical_line_of c.loop-rest.pending) (c.loop-rest.number + 1) c.loop-rest.rest.now total c.loop-rest.invariant.so_far line c.first_line.result.1.now c.first_line.ensures.value) c.in_err-tokens.ensures.value)

pub returns-in_err-joined-clause-value : goal.returns-in_err-joined-clause-value
returns-in_err-joined-clause-value c =
    let p = err_from_is_err_and c.from_residual-in_err-joined.result c.from_residual-in_err-joined.ensures.1 in
    let total = logical_lines_from None (enumerate_from 1 (lines c.args.text.now)) in
    let line = c.first_line.result.0.now in
    let pending = option_map logical_line_of c.loop-rest.pending in
    let ws = words c.in_ok-tokens.tokens.items in
    rw (p.1, p.2) (fails_along c.in_err-joined.field-0.0 (joined_with pending (c.loop-rest.number + 1) (indent line) ws) total
    (join_fails (logical_lines c.loop-rest.finished.items) pending (c.loop-rest.number + 1) c.loop-rest.rest.now total c.loop-rest.invariant.so_far line c.first_line.result.1.now ws c.first_line.ensures.value c.in_ok-tokens.ensures.value)
    (rw c.run_len-indent.ensures.value at c.in_err-joined.ensures.value))

pub loop-rest-preserved : goal.loop-rest-preserved
loop-rest-preserved c =
    let total = logical_lines_from None (enumerate_from 1 (lines c.args.text.now)) in
    let line = c.first_line.result.0.now in
    let after = c.first_line.result.1.now in
    let pending = option_map logical_line_of c.loop-rest.pending in
    let ws = words c.in_ok-tokens.tokens.items in
    let next = option_map logical_line_of c.in_ok-joined.joined in
    let joined : joined_with pending (c.loop-rest.number + 1) (indent line) ws ≡ Some next = rw c.run_len-indent.ensures.value at c.in_ok-joined.ensures.value in
    let read = logical_lines_go_on (logical_lines c.loop-rest.finished.items) pending (c.loop-rest.number + 1) c.loop-rest.rest.now total c.loop-rest.invariant.so_far line after ws next c.first_line.ensures.value c.in_ok-tokens.ensures.value joined in
    let cut : length (lines c.loop-rest.rest.now) ≡ suc (length (lines after)) = ap length c.first_line.ensures.value in
    record { so_far = rw (c.in_ok-pending.ensures.finished, c.in_ok-pending.ensures.unfinished) read; small = omega (arith, c.loop-rest.invariant.small, c.first_line.ensures.shorter); counted = omega (arith, c.loop-rest.invariant.counted, cut); first = c.in_ok-pending.ensures.first (c.loop-rest.number + 1) c.in_ok-joined.ensures.first }

pub returns-in-None-clause-value : goal.returns-in-None-clause-value
returns-in-None-clause-value c =
    let total = logical_lines_from None (enumerate_from 1 (lines c.args.text.now)) in
    let last = logical_lines_last (logical_lines c.loop-rest.finished.items) (option_map logical_line_of c.loop-rest.pending) (c.loop-rest.number + 1) c.loop-rest.rest.now total c.loop-rest.invariant.so_far (eqb-true _ 0 (sym c.loop-rest-test.ensures)) in
    last ∙ rw (c.in-None.is, append-nil (logical_lines c.loop-rest.finished.items)) refl

pub returns-in-Some-clause-value : goal.returns-in-Some-clause-value
returns-in-Some-clause-value c =
    let total = logical_lines_from None (enumerate_from 1 (lines c.args.text.now)) in
    let last = logical_lines_last (logical_lines c.loop-rest.finished.items) (option_map logical_line_of c.loop-rest.pending) (c.loop-rest.number + 1) c.loop-rest.rest.now total c.loop-rest.invariant.so_far (eqb-true _ 0 (sym c.loop-rest-test.ensures)) in
    last ∙ rw c.in-Some.is refl
