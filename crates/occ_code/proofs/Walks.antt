-- Instructions at a place of the code, and walks along them.
use Rattle.std.proofs.Common.{◌≡◌, ℕ, ◌+◌, List, [], ◌∷◌, ◌++◌, length, refl, arith}
use Rattle.occ_machine.specs.Machine.{by_cell, Point, Walks, here, on}
use Rattle.occ_machine.specs.declared.instr.Instr.{Instr}
use Rattle.occ_code.specs.Laws.{StandsAt}

-- two pieces in a row
pub split : (code : List (Instr ℕ)) (pc pc' : ℕ) (a b : List (Instr ℕ)) → StandsAt code pc (a ++ b) pc' → (mid : ℕ) × StandsAt code pc a mid × StandsAt code mid b pc'
split code pc pc' [] b h = (pc, refl, h)
split code pc pc' (i ∷ a) b h = let r = split code (pc + 1) pc' a b h.1 in (r.0, (h.0, r.1), r.2)

pub place_after : (code : List (Instr ℕ)) (pc pc' : ℕ) (a : List (Instr ℕ)) → StandsAt code pc a pc' → pc + length a ≡ pc'
place_after code pc pc' [] h = omega (arith, h)
place_after code pc pc' (i ∷ a) h = let e = place_after code (pc + 1) pc' a h.1 in omega (arith, e)

pub walks_on : {code : List (Instr ℕ)} {a b c : Point} → Walks by_cell code a b → Walks by_cell code b c → Walks by_cell code a c
walks_on here w = w
walks_on (on e v) w = on e (walks_on v w)
