use Rattle.std.proofs.Common.{◌≡◌, ◌∙◌, ap, arith, sym}
use Rattle.std.specs.Prelude.{◌&&◌}
use Rattle.occ_term.specs.Uses as uses
use Rattle.occ_check_lines.specs.Spans.{span_of}
use Rattle.occ_check_lines.specs.Clash.{shares}
use Rattle.occ_check_lines.proofs.NamedCells.{common}
use Rattle.occ_check_lines.proofs.naming.are_shared.Goals as goal

pub returns-then-is_in : goal.returns-then-is_in
returns-then-is_in c =
    let first = c.max-first.result in
    let all : (uses.numbers_in (span_of c.args.named) first && uses.numbers_in (span_of c.args.cells) first) ≡ shares (span_of c.args.named) (span_of c.args.cells) =
    common c.args.named.first c.args.named.count c.args.cells.first c.args.cells.count first (omega (arith, c.max-first.ensures)) (omega (arith, c.max-first.ensures)) (λ d over_f over_a. omega (arith, c.max-first.ensures, over_f, over_a)) in
    c.is_in-then-is_in.ensures ∙ sym (ap (λ b. b && uses.numbers_in (span_of c.args.cells) first) (sym c.is_in.ensures ∙ c.if-is_in.true)) ∙ all

pub returns-else-is_in : goal.returns-else-is_in
returns-else-is_in c =
    let first = c.max-first.result in
    let all : (uses.numbers_in (span_of c.args.named) first && uses.numbers_in (span_of c.args.cells) first) ≡ shares (span_of c.args.named) (span_of c.args.cells) =
    common c.args.named.first c.args.named.count c.args.cells.first c.args.cells.count first (omega (arith, c.max-first.ensures)) (omega (arith, c.max-first.ensures)) (λ d over_f over_a. omega (arith, c.max-first.ensures, over_f, over_a)) in
    c.if-is_in.false ∙ sym (ap (λ b. b && uses.numbers_in (span_of c.args.cells) first) (sym c.is_in.ensures ∙ c.if-is_in.false)) ∙ all
