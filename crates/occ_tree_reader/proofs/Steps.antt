-- One level of brackets, and one level of lines.
use Rattle.std.proofs.Common.{◌≡◌, ◌≢◌, ℕ, zero, suc, ◌+◌, ◌-◌, List, Option, None, refl, arith}
use Rattle.occ_text.specs.Words.{Word, LogicalLine}
use Rattle.occ_tree_grammar.specs.declared.fault.ParseFault.{ParseFault}
use Rattle.occ_tree_grammar.specs.declared.fault.ParseFault.TheVariants.{Memory, Unexpected, Level, Missing, TooDeep}
use Rattle.occ_tree_grammar.specs.Expressions.Reading.{Fails, expression_with, expression_at}
use Rattle.occ_tree_grammar.specs.Many.{◌>>=◌}
use Rattle.occ_tree_grammar.specs.Processes.Reading.{tag_with, tag_at, tags_with, tags_at}

pub no_level : (n : ℕ) (ws : List Word) → n ≡ 0 → expression_at n ws ≡ None
unfolding expression_at
no_level zero ws e = refl
no_level (suc n) ws e = absurd (omega arith)

pub next_level : (n : ℕ) (ws : List Word) → n ≢ 0 → expression_at n ws ≡ expression_with (expression_at (n - 1)) ws
unfolding expression_at
next_level zero ws ne = absurd (omega arith)
next_level (suc n) ws ne = let k : suc n - 1 ≡ n = omega arith in rw k refl

-- ---- one level of lines

pub no_tag : (b n level : ℕ) (lines : List LogicalLine) → n ≡ 0 → tag_at b n level lines ≡ None
unfolding tag_at
no_tag b zero level lines e = refl
no_tag b (suc n) level lines e = absurd (omega arith)

pub next_tag : (b n level : ℕ) (lines : List LogicalLine) → n ≢ 0 → tag_at b n level lines ≡ tag_with b level lines
unfolding tag_at
next_tag b zero level lines ne = absurd (omega arith)
next_tag b (suc n) level lines ne = refl

pub no_tags : (b n level l : ℕ) (v : List ℕ) (lines : List LogicalLine) → n ≡ 0 → tags_at b n level l v lines ≡ None
unfolding tags_at
no_tags b zero level l v lines e = refl
no_tags b (suc n) level l v lines e = absurd (omega arith)

pub next_tags : (b n level l : ℕ) (v : List ℕ) (lines : List LogicalLine) → n ≢ 0 → tags_at b n level l v lines ≡ tags_with b (n - 1) level l v lines
unfolding tags_at
next_tags b zero level l v lines ne = absurd (omega arith)
next_tags b (suc n) level l v lines ne = let k : suc n - 1 ≡ n = omega arith in rw k refl

-- every fault is one where there is nothing
pub fails_none : {Y : Type 0} (e : ParseFault) (read : Option Y) → read ≡ None → Fails e read
fails_none Memory read h = tt
fails_none (Unexpected line stop) read h = h
fails_none (Level line level) read h = h
fails_none (Missing line level) read h = h
fails_none (TooDeep line stop) read h = h

-- what stands a level deeper has the fault, and so has the whole
pub fails_below : (e : ParseFault) {A B C : Type 0} (r : Option A) (f : A → Option B) (g : B → Option C) → Fails e r → Fails e ((r >>= f) >>= g)
fails_below Memory r f g h = tt
fails_below (Unexpected line stop) r f g h = rw h refl
fails_below (Level line level) r f g h = rw h refl
fails_below (Missing line level) r f g h = rw h refl
fails_below (TooDeep line stop) r f g h = rw h refl
