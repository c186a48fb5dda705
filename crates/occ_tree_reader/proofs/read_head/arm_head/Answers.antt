use Rattle.std.proofs.Common.{◌≡◌, ◌+◌, false, arith}
use Rattle.std.proofs.lemmas.Grind.{common_steps}
use Rattle.occ_text.specs.Words.{words}
use Rattle.occ_tree_grammar.specs.Limits.{most_levels}
use Rattle.occ_tree_grammar.specs.Lines.HeadReading.{guard_at, arm_head_at}
use Rattle.occ_tree_reader.proofs.Arms.{is_keyed, guards}
use Rattle.occ_tree_reader.proofs.read_head.arm_head.Goals.{in_default-via-then-tokens-lt1, in_default-via-else-tokens-lt1+in-Key+in-After-1, in_default-via-else-tokens-lt1+in-Name-1}
use Rattle.occ_tree_reader.proofs.read_head.arm_head.Goals as goal

pub returns-in_default : goal.returns-in_default
unfolding arm_head_at
returns-in_default c =
    let same : arm_head_at (most_levels + 1) (words c.args.tokens.now) ≡ guard_at (most_levels + 1) (words c.args.tokens.now) =
    elim c.in_default.branch [
      | in_default-via-then-tokens-lt1 w ↦ grind (arith, common_steps)
      | in_default-via-else-tokens-lt1+in-Key+in-After-1 w ↦ grind (arith, common_steps)
      | in_default-via-else-tokens-lt1+in-Name-1 w ↦
          let not_keyed : is_keyed (words c.args.tokens.now) ≡ false = grind (arith, common_steps) in
          guards (most_levels + 1) (words c.args.tokens.now) not_keyed
    ] in
    rw same c.guard.ensures
