-- The blocks that are open, as they were and as they are.
-- Manual: nothing; this is (own).
use Rattle.std.specs.Prelude.{length, reverse, take, ℕ, ◌<◌, ◌≤◌, ◌≡◌}
use Rattle.occ_check_meaning.specs.Unfolding.{Procedures}
use Rattle.occ_check_lines.specs.View.{innermost, scope_in}
use Rattle.occ_check_lines.specs.declared.scope.Position.{Position}
use Rattle.occ_check.specs.declared.blocks.Blocks.{Blocks}

-- some block is open
abbrev pub HasBlock : Blocks → Type 0
HasBlock bs = 0 < length bs.blocks.items

-- all that was open is open still and as it was, whatever is open inside of it
abbrev pub Keeps : Blocks → Blocks → Type 0
Keeps old new = take (length old.blocks.items) new.blocks.items ≡ old.blocks.items

-- all outside of the last block is as it was
abbrev pub KeepsOuter : Blocks → Blocks → Type 0
KeepsOuter old new = (n : ℕ) → n < length old.blocks.items → take n new.blocks.items ≡ take n old.blocks.items

-- no fewer blocks are open
abbrev pub Deepens : Blocks → Blocks → Type 0
Deepens old new = length old.blocks.items ≤ length new.blocks.items

-- the same blocks are open, and all in them is as it was
abbrev pub Restores : Blocks → Blocks → Type 0
Restores old new = new.blocks.items ≡ old.blocks.items

-- what is in scope at a position
abbrev pub seen_at : Blocks → Position → Procedures
seen_at bs at = scope_in (reverse bs.blocks.items) at

-- all that is in scope at the end
abbrev pub seen_inside : Blocks → Procedures
seen_inside bs = innermost (reverse bs.blocks.items)
