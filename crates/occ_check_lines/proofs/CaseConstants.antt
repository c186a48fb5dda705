-- Constants of a CASE, from one to the next.
use Rattle.std.proofs.Common.{◌≡◌, ℕ, ℤ, suc, ◌+◌, ◌<◌, ◌≤◌, List, [], ◌∷◌, drop, get_or, length, true, false, Some, None, refl, sym, ap, ◌∙◌, arith}
use Rattle.std.specs.Prelude.{not, pos}
use Rattle.std.proofs.Math.Seq.{drop-cons}
use Rattle.std.proofs.lemmas.List.{drop_all}
use Rattle.occ_tree_grammar.specs.Many.{◌>>=◌}
use Rattle.occ_check_meaning.specs.Scope.{keep}
use Rattle.occ_check_meaning.specs.Actions.{Chosen, choosing, has_constant}
use Rattle.occ_check_lines.proofs.Refusals.{then_nothing}

one_first : (v : ℤ) (vs : List ℤ) (c : Chosen) → choosing (v ∷ vs) c ≡ (choosing (v ∷ []) c >>= choosing vs)
unfolding choosing
one_first v vs c = ap (λ r. r >>= choosing vs) (sym (then_nothing (keep (not (has_constant v c.constants)) (record c { constants = v ∷ c.constants }))))

-- one that stands there already, and one that doesn't
pub chosen_before : (v : ℤ) (c : Chosen) → has_constant v c.constants ≡ true → choosing (v ∷ []) c ≡ None
unfolding choosing
chosen_before v c h = ap (λ b. keep (not b) (record c { constants = v ∷ c.constants }) >>= choosing []) h

pub chosen_now : (v : ℤ) (c : Chosen) → has_constant v c.constants ≡ false → choosing (v ∷ []) c ≡ Some (record c { constants = v ∷ c.constants })
unfolding choosing
chosen_now v c h = ap (λ b. keep (not b) (record c { constants = v ∷ c.constants }) >>= choosing []) h

-- the constants from the i-th on leave what all leave
pub record Going (vs : List ℤ) (i : ℕ) (first now : Chosen) : Type 0 where
  pub is : choosing (drop i vs) now ≡ choosing vs first

pub going_first : (vs : List ℤ) (c : Chosen) → Going vs 0 c c
going_first [] c = record { is = refl }
going_first (v ∷ vs) c = record { is = refl }

module _ (vs : List ℤ) (i : ℕ) (first now : Chosen) (below : i < length vs) (going : Going vs i first now) where
  whole : (choosing (get_or vs i (pos 0) ∷ []) now >>= choosing (drop (i + 1) vs)) ≡ choosing vs first
  whole =
      let next : suc i ≡ i + 1 = omega arith in
      ap (λ k. choosing (get_or vs i (pos 0) ∷ []) now >>= choosing (drop k vs)) (sym next)
      ∙ sym (one_first (get_or vs i (pos 0)) (drop (suc i) vs) now)
      ∙ ap (λ xs. choosing xs now) (sym (drop-cons vs i (pos 0) below))
      ∙ going.is

  pub going_next : (after : Chosen) → choosing (get_or vs i (pos 0) ∷ []) now ≡ Some after → Going vs (i + 1) first after
  going_next after h = record { is = sym (ap (λ r. r >>= choosing (drop (i + 1) vs)) h) ∙ whole }

pub going_last : (vs : List ℤ) (i : ℕ) (first now : Chosen) → length vs ≤ i → Going vs i first now → choosing vs first ≡ Some now
unfolding choosing
going_last vs i first now past going = sym going.is ∙ ap (λ xs. choosing xs now) (drop_all i vs past)
