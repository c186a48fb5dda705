-- The last byte of a text.
use Rattle.std.proofs.Common.{◌≡◌, ◌∙◌, ◌++◌, ◌+◌, ◌-◌, ◌<◌, ◌∷◌, Bool, List, Some, [], ap, arith, false, get_or, length, nat_eq, refl, suc, sym, true, zero, ℕ}
use Rattle.std.proofs.lemmas.Option.{slice_get-get_or, slice_get_within}
use Rattle.std.specs.List.{slice_get}
use Rattle.std.specs.Prelude.{if◌then◌else◌, unwrap_or, ◌==◌}
use Rattle.occ_files.specs.Sources.{ended, has_end, line_feeds}

last_byte : (t : List ℕ) (k : ℕ) → suc k ≡ length t → nat_eq (get_or t k 0) 10 ≡ has_end t
last_byte [] k same = absurd (omega (arith, same))
last_byte (b ∷ []) zero same = refl
last_byte (b ∷ []) (suc k) same = absurd (omega (arith, same))
last_byte (b ∷ c ∷ t) zero same = absurd (omega (arith, same))
last_byte (b ∷ c ∷ t) (suc k) same = last_byte (c ∷ t) k (omega (arith, same))

-- a byte in the last place says whether the text's last line has its end
pub last_read : (t : List ℕ) (b : ℕ) → Some b ≡ slice_get t (length t - 1) → nat_eq b 10 ≡ has_end t
last_read t b is =
    let within : length t - 1 < length t = slice_get_within t (length t - 1) b (sym is) in
    ap (λ v. nat_eq v 10) (ap (λ o. unwrap_or o 0) (is ∙ slice_get-get_or t (length t - 1) 0 within)) ∙ last_byte t (length t - 1) (omega (arith, within))

-- one line feed more
by_first : (is : Bool) (m n : ℕ) → m + 1 ≡ n → (if is then suc m else m) + 1 ≡ (if is then suc n else n)
by_first true m n h = omega (arith, h)
by_first false m n h = h

one_more : (t : List ℕ) → line_feeds t + 1 ≡ line_feeds (t ++ 10 ∷ [])
one_more [] = refl
one_more (b ∷ t) = by_first (b == 10) (line_feeds t) (line_feeds (t ++ 10 ∷ [])) (one_more t)

pub last_ended : (t : List ℕ) → has_end t ≡ false → line_feeds t + 1 ≡ line_feeds (ended t)
last_ended t none = one_more t ∙ ap (λ is. line_feeds (if is then t else t ++ 10 ∷ [])) (sym none)
