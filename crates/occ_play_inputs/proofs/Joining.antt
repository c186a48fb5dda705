-- A source of a file more.
use Rattle.std.proofs.Common.{◌≡◌, ◌∙◌, ◌≤◌, sym, ap, refl, subst, ℕ, suc, zero, ◌+◌, List, [], ◌∷◌, ◌++◌, length, take, length-append, arith, Option, None, Some}
use Rattle.std.specs.Prelude.{IfSome}
use Rattle.occ_play_inputs.specs.Asked.{IsJoinFor, IsJoinOf}
use Rattle.occ_files.specs.Sources.{ended, ends_of, joined, line_feeds}
use Rattle.occ_files.proofs.Joins.{ends_snoc, joined_snoc}

-- the first
pub one_text : (bytes ends text : List ℕ) → bytes ≡ joined 1048577 [] (text ∷ []) → ends ≡ [] → IsJoinOf 1 bytes ends
one_text bytes ends text is none = record { texts = text ∷ []; each = refl; are = is; lines = none }

-- one more
text_more : (n : ℕ) (bytes ends more noted text : List ℕ) → IsJoinOf (suc n) bytes ends → noted ≡ ends ++ line_feeds (ended bytes) ∷ [] → more ≡ joined 1048577 bytes (text ∷ [])
    → IsJoinOf (suc (suc n)) more noted
text_more n bytes ends more noted text h note is = by h.texts h.each h.are h.lines
  where
    by : (texts : List (List ℕ)) → length texts ≡ suc n → bytes ≡ joined 1048577 [] texts → ends ≡ ends_of 1048577 [] texts → IsJoinOf (suc (suc n)) more noted
    by [] each are lines = absurd (omega (arith, each))
    by (s ∷ ts) each are lines = record {
      texts = (s ∷ ts) ++ text ∷ [];
      each = length-append (s ∷ ts) (text ∷ []) ∙ ap (λ m. m + 1) each ∙ omega arith;
      are = is ∙ ap (λ b. joined 1048577 b (text ∷ [])) are ∙ sym (joined_snoc 1048577 [] (s ∷ ts) text);
      lines = note ∙ ap (λ ls. ls ++ line_feeds (ended bytes) ∷ []) lines ∙ ap (λ b. ends_of 1048577 [] (s ∷ ts) ++ line_feeds (ended b) ∷ []) are ∙ sym (ends_snoc 1048577 [] s ts text);
    }

pub text_after : (n : ℕ) (bytes ends more noted text : List ℕ) → IsJoinOf (suc n) bytes ends → noted ≡ ends ++ line_feeds (ended bytes) ∷ [] → more ≡ joined 1048577 bytes (text ∷ [])
    → IsJoinOf (suc (n + 1)) more noted
text_after n bytes ends more noted text h note is = let one : suc n ≡ n + 1 = omega arith in subst (λ m. IsJoinOf (suc m) more noted) one (text_more n bytes ends more noted text h note is)

-- a text whose beginning alone was read puts the same behind the others, where that beginning is as long as all may be
take_again : (m k : ℕ) → m ≤ k → (xs : List ℕ) → take m (take k xs) ≡ take m xs
take_again zero k le xs = refl
take_again (suc m) zero le xs = absurd (omega (arith, le))
take_again (suc m) (suc k) le [] = refl
take_again (suc m) (suc k) le (x ∷ xs) = ap (λ l. x ∷ l) (take_again m k (omega (arith, le)) xs)

cut_behind : (m k : ℕ) → m ≤ k → (front xs : List ℕ) → take m (front ++ take k xs) ≡ take m (front ++ xs)
cut_behind m k le [] xs = take_again m k le xs
cut_behind zero k le (a ∷ front) xs = refl
cut_behind (suc m) k le (a ∷ front) xs = ap (λ l. a ∷ l) (cut_behind m k (omega (arith, le)) front xs)

few_taken : (n : ℕ) (xs : List ℕ) → length (take n xs) ≤ n
few_taken zero xs = omega arith
few_taken (suc n) [] = omega arith
few_taken (suc n) (x ∷ xs) = let h = few_taken n xs in omega (arith, h)

pub few_behind : (more before text : List ℕ) → more ≡ take 1048577 (ended before ++ text) → length more ≤ 1048577
few_behind more before text is = subst (λ l. length l ≤ 1048577) (sym is) (few_taken 1048577 (ended before ++ text))

pub whole_behind : (known : Option (List ℕ)) (more before text : List ℕ) → IfSome known (λ xs. text ≡ take 1048577 xs) → more ≡ take 1048577 (ended before ++ text)
    → IfSome known (λ xs. more ≡ joined 1048577 before (xs ∷ []))
whole_behind None more before text read is = tt
whole_behind (Some xs) more before text read is = is ∙ ap (λ t. take 1048577 (ended before ++ t)) read ∙ cut_behind 1048577 1048577 (omega arith) (ended before) xs

pub of_none : {Path : Type 0} (file : Option Path) (more : List Path) (bytes ends : List ℕ) → file ≡ None → IsJoinOf 1 bytes ends → IsJoinFor file more bytes ends
of_none None more bytes ends e h = h
of_none (Some path) more bytes ends e h = absurd cc
