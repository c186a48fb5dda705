use Rattle.std.proofs.Common.{◌≡◌, ap, arith, drop, pos, ◌+◌}
use Rattle.std.proofs.lemmas.Grind.{common_steps}
use Rattle.std.proofs.lemmas.List.{drop_more}
use Rattle.occ_term.specs.Sizes.{together, no_size, with_node, size_of_constants}
use Rattle.occ_check_lines.proofs.measuring.count_constants.Goals as goal

pub returns-in_err-node : goal.returns-in_err-node
returns-in_err-node c =
    let cs = c.args.constants.now in
    let i = c.loop-constant._constant-index in
    let e : size_of_constants (drop i cs) ≡ together (with_node no_size) (size_of_constants (drop (i + 1) cs)) = ap size_of_constants (drop_more cs i (pos 0) c.loop-constant-test.true) in
    grind (arith, common_steps)

pub loop-constant-preserved : goal.loop-constant-preserved
loop-constant-preserved c =
    let cs = c.args.constants.now in
    let i = c.loop-constant._constant-index in
    let e : size_of_constants (drop i cs) ≡ together (with_node no_size) (size_of_constants (drop (i + 1) cs)) = ap size_of_constants (drop_more cs i (pos 0) c.loop-constant-test.true) in
    grind (arith, common_steps)
