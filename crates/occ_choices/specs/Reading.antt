-- How the lines of a file of choices are read. No contract of a public call cites this.
-- Manual: nothing; the format is (own).
use Rattle.std.specs.Prelude.{Bool, IsTrue, List, None, Option, Some, [], false, if◌then◌else◌, length, nat_eq, nat_le, nat_lt, suc, true, ℕ, ⊤, ◌&&◌, ◌++◌, ◌+◌, ◌^◌, ◌∷◌, ◌≡◌}
use Rattle.std.specs.Str.Parse.{digits_value}
use Rattle.occ_net_replay.specs.declared.choice.Choice.{Choice}
use Rattle.occ_choices.specs.Lines.{AreLines, lines_of}

abbrev pub is_digit : ℕ → Bool
is_digit b = nat_le 48 b && nat_le b 57

abbrev pub AreDigits : List ℕ → Type 0
AreDigits [] = ⊤
AreDigits (d ∷ ds) = IsTrue (is_digit d) × AreDigits ds

-- how many digits stand first
abbrev pub leading : List ℕ → ℕ
leading [] = 0
leading (b ∷ bs) = if is_digit b then suc (leading bs) else 0

-- the number of some digits
abbrev pub spelled : List ℕ → Option ℕ
spelled ds = if nat_le 1 (length ds) && nat_le (length ds) 10 && nat_lt (digits_value 10 ds) (2 ^ 32) then Some (digits_value 10 ds) else None

-- a line may end so
abbrev pub ends_line : List ℕ → Bool
ends_line [] = true
ends_line (a ∷ []) = nat_eq a 10
ends_line (a ∷ b ∷ []) = nat_eq a 13 && nat_eq b 10
ends_line (a ∷ b ∷ c ∷ bs) = false

-- so many lines of a text were read, and this follows them
pub record ReadTo (text rest : List ℕ) (cs : List Choice) (number : ℕ) : Type 0 where
  pub lines : List (List ℕ)
  pub cut : lines_of text ≡ lines ++ lines_of rest
  pub read : AreLines lines cs
  pub counted : length lines ≡ number
