-- In which PROC lines stand, from line to line.
use Rattle.std.proofs.Common.{◌≡◌, ◌∙◌, sym, ap, refl, ℕ, suc, ◌+◌, ◌<◌, ◌≤◌, List, ◌∷◌, ◌++◌, append_assoc, drop, length, Bool, true, false, Option, get_or, if◌then◌else◌, nat_lt, arith}
use Rattle.occ_text.specs.Reading.{or_else}
use Rattle.occ_text.specs.Words.{LogicalLine, Word, logical_line}
use Rattle.std.specs.Borrow.{Bor}
use Rattle.std.proofs.Math.Seq.{drop-cons}
use Rattle.occ_text.specs.declared.token.Line.{Line}
use Rattle.occ_explaining.specs.Calls.{Called, call_of, calls_in, calls_under, deepest, owner_in, owner_of, proc_begun, proc_called}

-- what holds when some lines are left
pub record GoneThrough (all left : List LogicalLine) (owners : List (Option (Bor Called))) (calls : List (Called × Called)) : Type 0 where
  pub above : List LogicalLine
  pub owns : (k : ℕ) → k < length owners → owner_in owners k ≡ owner_of above k
  pub found : calls ++ calls_under above left ≡ calls_in all
  pub fits : deepest left < length owners

-- a line more
pub gone_on : (all : List LogicalLine) (n l : ℕ) (ws : List Word) (left : List LogicalLine) (old new : List (Option (Bor Called))) (calls more : List (Called × Called)) (owner under : Option Called)
    → GoneThrough all (logical_line n l ws ∷ left) old calls
    → owner ≡ owner_in old l → under ≡ or_else (proc_begun ws) owner
    → length new ≡ length old → ((k : ℕ) → k ≤ l → owner_in new k ≡ owner_in old k) → ((k : ℕ) → l < k → k < length old → owner_in new k ≡ under)
    → more ≡ calls ++ call_of owner (proc_called ws)
    → GoneThrough all left new more
gone_on all n l ws left old new calls more owner under g is begun long higher deeper made = record {
  above = logical_line n l ws ∷ g.above;
  owns = λ k h. by k h (nat_lt l k) refl;
  found =
      ap (λ x. x ++ calls_under (logical_line n l ws ∷ g.above) left) (made ∙ ap (λ o. calls ++ call_of o (proc_called ws)) owned)
      ∙ append_assoc calls (call_of (owner_of g.above l) (proc_called ws)) (calls_under (logical_line n l ws ∷ g.above) left)
      ∙ g.found;
  fits = grind (arith, g.fits, long);
}
  where
    low : l < length old
    low = grind (arith, g.fits)

    owned : owner ≡ owner_of g.above l
    owned = is ∙ g.owns l low

    by : (k : ℕ) → k < length new → (b : Bool) → nat_lt l k ≡ b → owner_in new k ≡ (if b then or_else (proc_begun ws) (owner_of g.above l) else owner_of g.above k)
    by k h true e = deeper k (search (arith, e)) (omega (arith, h, long)) ∙ begun ∙ ap (or_else (proc_begun ws)) owned
    by k h false e = higher k (search (arith, e)) ∙ g.owns k (omega (arith, h, long))

-- the line in a place, and those behind it
pub cut_line : (xs : List Line) (i : ℕ) (x : Line) → i < length xs → x ≡ get_or xs i x → drop i xs ≡ x ∷ drop (i + 1) xs
cut_line xs i x h e =
    let next : i + 1 ≡ suc i = omega arith in
    drop-cons xs i x h ∙ ap (λ y. y ∷ drop (suc i) xs) (sym e) ∙ ap (λ n. x ∷ drop n xs) (sym next)
