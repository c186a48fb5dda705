-- Who is deaf to the keyboard.
-- Manual: nothing; this is (own).
use Rattle.std.specs.Prelude.{Bool, None, Option, Some, [], false, nat_eq, true, ℕ, ◌∷◌}
use Rattle.occ_machine.specs.declared.task.Arm.{Arm}
use Rattle.occ_machine.specs.declared.task.Wait.{Wait}
use Rattle.occ_machine.specs.declared.task.Wait.TheVariants.{Ready, Awaits, Chooses, Halted}
use Rattle.occ_live_laws.specs.Live.{IsDeaf}

abbrev pub arm : ℕ → Option ℕ → Arm
arm place channel = record { number = place; chan = channel; indices = [] }

-- no offer stands, or one on 3
abbrev pub none : ℕ → Bool
none c = false

abbrev pub on_three : ℕ → Bool
on_three c = nat_eq c 3

-- from 3 and the keyboard; from the keyboard and 3; from the keyboard or on by SKIP
abbrev pub first_three : Bool → Wait
first_three pri = Chooses pri (arm 10 (Some 3) ∷ arm 20 (Some 0) ∷ [])

abbrev pub first_keyboard : Bool → Wait
first_keyboard pri = Chooses pri (arm 20 (Some 0) ∷ arm 10 (Some 3) ∷ [])

abbrev pub or_skip : Bool → Wait
or_skip pri = Chooses pri (arm 20 (Some 0) ∷ arm 30 None ∷ [])

-- with priority it is the arms before that of the keyboard that say whether a byte makes a difference; without, the pick too
abbrev pub DeafRows : Type 0
DeafRows =
    ((pick : ℕ) (offers : ℕ → Bool) → IsDeaf pick offers Ready)
    × ((pick : ℕ) (offers : ℕ → Bool) → IsDeaf pick offers Halted)
    × ((pick : ℕ) (offers : ℕ → Bool) → IsDeaf pick offers (Awaits 3))
    × ((pick : ℕ) → IsDeaf pick on_three (first_three true))
    × IsDeaf 0 on_three (first_three false)
    × IsDeaf 2 on_three (first_three false)
    × IsDeaf 1 on_three (first_keyboard false)

abbrev pub HearingRows : Type 0
HearingRows =
    ((pick : ℕ) (offers : ℕ → Bool) → IsDeaf pick offers (Awaits 0) → ⊥)
    × ((pick : ℕ) → IsDeaf pick none (first_three true) → ⊥)
    × ((pick : ℕ) → IsDeaf pick on_three (first_keyboard true) → ⊥)
    × ((pick : ℕ) → IsDeaf pick none (or_skip true) → ⊥)
    × (IsDeaf 0 none (or_skip false) → ⊥)
    × (IsDeaf 1 on_three (first_three false) → ⊥)
    × (IsDeaf 0 on_three (first_keyboard false) → ⊥)
