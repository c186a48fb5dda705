-- Inputs from the keyboard among noted uses.
use Rattle.std.proofs.Common.{◌≡◌, ◌∙◌, ◌<◌, ◌≤◌, ◌+◌, ◌∷◌, Bool, ℕ, List, ap, drop, drop_of_length-le, false, get_or, length, sym, true}
use Rattle.std.proofs.lemmas.List.{drop_more}
use Rattle.std.specs.Prelude.{◌||◌}
use Rattle.occ_usage.specs.Noted.{between, use_of, uses_in}
use Rattle.occ_usage.specs.declared.noted.Use.{Use}

-- whether one use is an input from channel 0, and whether one of these is
abbrev pub here : Use → Bool
here u = (use_of u.kind (between u.first u.end)).ins 0

abbrev pub among : List Use → Bool
among us = (uses_in us).ins 0

first : (us : List Use) (i : ℕ) (u : Use) → i < length us → u ≡ get_or us i u → among (drop i us) ≡ (here u || among (drop (i + 1) us))
first us i u within is = ap among (drop_more us i u within ∙ ap (λ v. v ∷ drop (i + 1) us) (sym is))

-- what is left behind a use that is none
pub not_here : (us : List Use) (i : ℕ) (u : Use) → i < length us → u ≡ get_or us i u → here u ≡ false → among us ≡ among (drop i us) → among us ≡ among (drop (i + 1) us)
not_here us i u within is none so = so ∙ (first us i u within is ∙ ap (λ b. b || among (drop (i + 1) us)) none)

pub is_here : (us : List Use) (i : ℕ) (u : Use) → i < length us → u ≡ get_or us i u → here u ≡ true → among us ≡ among (drop i us) → among us ≡ true
is_here us i u within is one so = so ∙ (first us i u within is ∙ ap (λ b. b || among (drop (i + 1) us)) one)

pub none_left : (us : List Use) (i : ℕ) → length us ≤ i → among us ≡ among (drop i us) → among us ≡ false
none_left us i end so = so ∙ ap among (drop_of_length-le us end)
