-- Lists that are made part by part, each with what the one before it leaves.
use Rattle.std.proofs.Common.{◌≡◌, ◌<◌, ◌≤◌, ◌+◌, ◌∙◌, ℕ, List, [], ◌∷◌, ◌++◌, Option, Some, None, refl, ap, sym, drop, get_or, length}
use Rattle.std.proofs.lemmas.List.{drop_more}
use Rattle.std.proofs.Math.ListN.{drop_of_length-le}
use Rattle.occ_tree_grammar.specs.Many.{◌>>=◌}

-- what is made, before what the rest gives
abbrev pub before : {E R : Type 0} → (E → R → R) → List E → R → R
before put [] r = r
before put (e ∷ es) r = put e (before put es r)

pub one_more : {E R : Type 0} (put : E → R → R) (es : List E) (e : E) (r : R) → before put (es ++ e ∷ []) r ≡ before put es (put e r)
one_more put [] e r = refl
one_more put (f ∷ es) e r = ap (put f) (one_more put es e r)

module _ {X S E R : Type 0} (all : List X → S → Option R) (one : X → S → Option (E × S)) (put : E → R → R)
    (step : (x : X) (xs : List X) (s : S) → all (x ∷ xs) s ≡ (one x s >>= λ a. all xs a.1 >>= λ r. Some (put a.0 r))) where
  -- so much is made, and this is what the whole gives
  abbrev pub Listed : Option R → List X → ℕ → List E → S → Type 0
  Listed given xs i made s = given ≡ (all (drop i xs) s >>= λ r. Some (before put made r))

  mapped : (o : Option R) (made : List E) (e : E) → ((o >>= λ r. Some (put e r)) >>= λ r. Some (before put made r)) ≡ (o >>= λ r. Some (before put (made ++ e ∷ []) r))
  mapped (Some r) made e = ap (λ q. Some q) (sym (one_more put made e r))
  mapped None made e = refl

  whole : (o : Option R) → (o >>= λ r. Some r) ≡ o
  whole (Some r) = refl
  whole None = refl

  module _ (given : Option R) (xs : List X) (i : ℕ) (made : List E) (s : S) (listed : Listed given xs i made s) where
    module _ (x : X) (within : i < length xs) (is : x ≡ get_or xs i x) where
      stepped : given ≡ ((one x s >>= λ a. all (drop (i + 1) xs) a.1 >>= λ r. Some (put a.0 r)) >>= λ r. Some (before put made r))
      stepped =
          listed ∙ ap (λ (l : List X). all l s >>= λ r. Some (before put made r)) (drop_more xs i x within ∙ ap (λ (y : X). y ∷ drop (i + 1) xs) (sym is))
          ∙ ap (λ o. o >>= λ r. Some (before put made r)) (step x (drop (i + 1) xs) s)

      pub listed_refused : one x s ≡ None → given ≡ None
      listed_refused e = stepped ∙ ap (λ o. (o >>= λ a. all (drop (i + 1) xs) a.1 >>= λ r. Some (put a.0 r)) >>= λ r. Some (before put made r)) e

      pub listed_next : (e : E) (t : S) → one x s ≡ Some (e, t) → Listed given xs (i + 1) (made ++ e ∷ []) t
      listed_next e t h =
          stepped ∙ ap (λ o. (o >>= λ a. all (drop (i + 1) xs) a.1 >>= λ r. Some (put a.0 r)) >>= λ r. Some (before put made r)) h
          ∙ mapped (all (drop (i + 1) xs) t) made e

    pub listed_last : length xs ≤ i → (r : R) → all [] s ≡ Some r → given ≡ Some (before put made r)
    listed_last end r h = listed ∙ ap (λ (l : List X). all l s >>= λ r. Some (before put made r)) (drop_of_length-le xs end) ∙ ap (λ o. o >>= λ r. Some (before put made r)) h
