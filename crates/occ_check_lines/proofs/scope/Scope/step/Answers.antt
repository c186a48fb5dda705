use Rattle.std.proofs.Common.{Some, ap, sym, ◌∙◌, drop, reverse}
use Rattle.occ_check_meaning.specs.Unfolding.{found}
use Rattle.occ_check_lines.specs.View.{binding_of, scope_in, scope_of}
use Rattle.occ_check_lines.specs.declared.scope.Position.{Position}
use Rattle.occ_check_lines.proofs.Scopes.{bound_found, by_own}
use Rattle.occ_check_lines.proofs.scope.Scope.step.Goals as goal

pub returns-in-None-clause-found : goal.returns-in-None-clause-found
unfolding found
returns-in-None-clause-found c = ap (λ sc. found sc c.args.name.now) c.in-None.ensures.none

pub returns-in-Some-seen-clause-found : goal.returns-in-Some-seen-clause-found
returns-in-Some-seen-clause-found c =
    let older = c.in-Some.older.now in
    let block = c.in-Some.block.now in
    let at = c.args.self.at in
    let place : Position = record { blocks = at.blocks; seen = c.in-Some-seen.seen } in
    let here = by_own c.args.self.blocks.now older (drop at.blocks c.args.self.blocks.now) block at c.in-Some.ensures.own c.in-Some.ensures.number in
    let there = by_own c.args.self.blocks.now older (drop at.blocks c.args.self.blocks.now) block place c.in-Some.ensures.own c.in-Some.ensures.number in
    bound_found (reverse c.args.self.blocks.now) c.args.name.now (scope_of c.args.self) (binding_of c.in-Some-seen.binding.now) place c.found_there.result c.found_there.ensures.bound
    (ap (λ sc. found sc c.args.name.now) here ∙ c.in-Some-seen.ensures (scope_in (reverse older) block.outer) ∙ ap (λ sc. Some (binding_of c.in-Some-seen.binding.now, sc)) (sym there))

pub returns-in-None-seen-clause-found : goal.returns-in-None-seen-clause-found
returns-in-None-seen-clause-found c =
    let older = c.in-Some.older.now in
    let block = c.in-Some.block.now in
    let at = c.args.self.at in
    ap (λ sc. found sc c.args.name.now) (by_own c.args.self.blocks.now older (drop at.blocks c.args.self.blocks.now) block at c.in-Some.ensures.own c.in-Some.ensures.number)
    ∙ c.in-None-seen.ensures (scope_in (reverse older) block.outer)
