use Rattle.std.proofs.Common.{◌≡◌, ◌∙◌, ◌<◌, ℕ, List, ap, arith, length, map, sym, subst}
use Rattle.occ_code.specs.Emitted.{counters_of, whole_code}
use Rattle.occ_code.specs.CodeOf.{IsBodyOf}
use Rattle.occ_machine.specs.Machine.{Body, placed}
use Rattle.occ_machine.specs.declared.instr.Instr.{Instr}
use Rattle.occ_code.proofs.Emitting.{length-emitted}
use Rattle.occ_code.proofs.FewCounters.{all_counted}
use Rattle.occ_term.specs.Uses.{Uses, uses_of}
use Rattle.occ_term.specs.View.{term_of}
use Rattle.occ_usage.specs.Noted.{uses_in}
use Rattle.occ_machine.specs.SameStop.{Lists, used_by}
use Rattle.occ_code.specs.Within.{AreWithin}
use Rattle.occ_code.proofs.UsedCells.{writes_within}
use Rattle.occ_code.proofs.processes.body_of.Goals as goal

pub returns : goal.returns
returns c = λ within.
    let same : uses_in c.in_ok-uses.uses ≡ uses_of (term_of c.args.term.now) = c.in_ok-uses.ensures in
    let used : AreWithin (used_by (uses_in c.in_ok-uses.uses)) = subst (λ u. AreWithin (used_by u)) (sym same) within in
    let written : AreWithin (uses_in c.in_ok-uses.uses).writes = writes_within (uses_in c.in_ok-uses.uses) used in
    let cells : Lists c.in_ok-cells.cells (used_by (uses_of (term_of c.args.term.now))) =
    subst (λ u. Lists c.in_ok-cells.cells (used_by u)) same
    (subst (λ us. AreWithin (used_by (uses_in us)) → Lists c.in_ok-cells.cells (used_by (uses_in us))) c.as_slice.ensures c.in_ok-cells.ensures.lists used) in
    let writes : Lists c.in_ok-writes.writes (uses_of (term_of c.args.term.now)).writes =
    subst (λ (u : Uses). Lists c.in_ok-writes.writes u.writes) same
    (subst (λ us. AreWithin (uses_in us).writes → Lists c.in_ok-writes.writes (uses_in us).writes) c.as_slice-2.ensures c.in_ok-writes.ensures.lists written) in
    let long : length (whole_code (term_of c.args.term.now)) < 18446744073709551616 = subst (λ (is : List (Instr ℕ)). length is < 18446744073709551616) c.in_ok-emitted.ensures (omega (arith, length-emitted c.in_ok-emitted.emitted.items, c.in_ok-emitted.emitted.ok)) in
    let loops : c.counters_in-loops.result ≡ counters_of (term_of c.args.term.now) = all_counted (term_of c.args.term.now) c.counters_in-loops.result c.counters_in-loops.ensures long in
    let code : c.in_ok-code.code.items ≡ map (placed c.in_ok-cells.cells) (whole_code (term_of c.args.term.now)) = c.in_ok-code.ensures ∙ ap (map (placed c.in_ok-cells.cells)) c.in_ok-emitted.ensures in
    let whole : List (Instr ℕ) → ℕ → Body = λ is n. record { code = is; cells = c.in_ok-cells.cells; writes = c.in_ok-writes.writes; loops = n; quantum = c.args.quantum } in
    subst (IsBodyOf (term_of c.args.term.now) c.args.quantum) (sym c.in_ok-body.ensures)
    record {
      is = ap (λ is. whole is c.counters_in-loops.result) code ∙ ap (whole (map (placed c.in_ok-cells.cells) (whole_code (term_of c.args.term.now)))) loops;
      cells = cells;
      writes = writes;
    }
