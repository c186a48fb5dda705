-- The lines of a text, one after the other.
use Rattle.std.proofs.Common.{◌≡◌, ◌≤◌, ◌+◌, ◌-◌, ℕ, suc, List, ◌∷◌, length, refl, ap, sym, ◌∙◌, arith}
use Rattle.std.specs.Str.Lines.{lines}
use Rattle.occ_explain.specs.Places.{line_behind}

-- behind the first `number` lines of the text stand those of the rest
pub record Stands (text rest shown : List ℕ) (number : ℕ) : Type 0 where
  pub from_one : 1 ≤ number
  pub counted : number + length (lines rest) ≡ length (lines text)
  pub shown_is : shown ≡ line_behind (number - 1) (lines text)
  pub behind : (k : ℕ) → line_behind (number + k) (lines text) ≡ line_behind k (lines rest)

pub first_stands : (text line rest : List ℕ) → lines text ≡ line ∷ lines rest → Stands text rest line 1
first_stands text line rest cut = record {
  from_one = omega arith;
  counted = rw cut (omega arith);
  shown_is = rw cut refl;
  behind = λ k. rw (cut, one_and k) refl;
}
  where
    one_and : (k : ℕ) → 1 + k ≡ suc k
    one_and k = omega arith

pub next_stands : (text rest shown line after : List ℕ) (number : ℕ) → Stands text rest shown number → lines rest ≡ line ∷ lines after → Stands text after line (number + 1)
next_stands text rest shown line after number at cut = record {
  from_one = omega arith;
  counted = let e : length (lines rest) ≡ suc (length (lines after)) = ap length cut in omega (arith, at.counted);
  shown_is = sym shown_there;
  behind = λ k. further k;
}
  where
    same : number + 1 - 1 ≡ number + 0
    same = omega arith

    shown_there : line_behind (number + 1 - 1) (lines text) ≡ line
    shown_there = let e : line_behind (number + 0) (lines text) ≡ line_behind 0 (lines rest) = at.behind 0 in rw same (e ∙ rw cut refl)

    sum : (k : ℕ) → number + 1 + k ≡ number + suc k
    sum k = omega arith

    further : (k : ℕ) → line_behind (number + 1 + k) (lines text) ≡ line_behind k (lines after)
    further k = let e = at.behind (suc k) in rw (sum k) (e ∙ rw cut refl)
