-- The number of a tag, from one tag to the next.
use Rattle.std.proofs.Common.{◌≡◌, ℕ, ◌+◌, ◌<◌, ◌≤◌, List, [], ◌∷◌, drop, get_or, length, true, false, cond, Some, None, refl, subst, sym, ap, ◌∙◌}
use Rattle.std.specs.Prelude.{bytes_eq}
use Rattle.std.proofs.lemmas.List.{drop_all}
use Rattle.occ_term.specs.declared.protocol.Tag.{Tag}
use Rattle.occ_check_meaning.specs.Items.{tag_number}
use Rattle.occ_check_lines.proofs.EachOf.{from_here}

pub record Numbered (tags : List Tag) (x : List ℕ) (i k : ℕ) : Type 0 where
  pub is : tag_number (drop i tags) x k ≡ tag_number tags x 0

pub numbered_first : (tags : List Tag) (x : List ℕ) → Numbered tags x 0 0
numbered_first [] x = record { is = refl }
numbered_first (t ∷ tags) x = record { is = refl }

module _ (tags : List Tag) (x : List ℕ) (i k : ℕ) (t : Tag) (below : i < length tags) (here : t ≡ get_or tags i t) (so_far : Numbered tags x i k) where
  first : cond (bytes_eq x t.name) (Some k) (tag_number (drop (i + 1) tags) x (k + 1)) ≡ tag_number tags x 0
  unfolding tag_number
  first = sym (ap (λ ts. tag_number ts x k) (from_here tags i t below here)) ∙ so_far.is

  pub numbered_next : (next : ℕ) → next ≡ k + 1 → bytes_eq x t.name ≡ false → Numbered tags x (i + 1) next
  numbered_next next more other = subst (λ m. Numbered tags x (i + 1) m) (sym more) (record { is = sym (ap (λ b. cond b (Some k) (tag_number (drop (i + 1) tags) x (k + 1))) other) ∙ first })

  pub numbered_here : bytes_eq x t.name ≡ true → tag_number tags x 0 ≡ Some k
  numbered_here same = sym first ∙ ap (λ b. cond b (Some k) (tag_number (drop (i + 1) tags) x (k + 1))) same

pub numbered_none : (tags : List Tag) (x : List ℕ) (i k : ℕ) → length tags ≤ i → Numbered tags x i k → tag_number tags x 0 ≡ None
unfolding tag_number
numbered_none tags x i k past so_far = sym so_far.is ∙ ap (λ ts. tag_number ts x k) (drop_all i tags past)
