-- The lines of arms that begin with no key.
use Rattle.std.proofs.Common.{◌≡◌, ℕ, List, [], ◌∷◌, Bool, true, false, refl, arith}
use Rattle.occ_text.specs.Words.{Word, key, name, lit, mark}
use Rattle.occ_tree_grammar.specs.Lines.HeadReading.{guard_at, arm_head_at}

-- whether a key stands at the front
abbrev pub is_keyed : List Word → Bool
is_keyed (key k ∷ ws) = true
is_keyed _ = false

pub guards : (b : ℕ) (ws : List Word) → is_keyed ws ≡ false → arm_head_at b ws ≡ guard_at b ws
unfolding arm_head_at
guards b [] e = refl
guards b (key k ∷ ws) e = absurd (grind (arith))
guards b (name v ∷ ws) e = refl
guards b (lit l ∷ ws) e = refl
guards b (mark s ∷ ws) e = refl
