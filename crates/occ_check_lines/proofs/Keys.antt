-- Keys of a map to nothing: one more, and whether it is new.
use Rattle.std.proofs.Common.{◌≡◌, ◌∙◌, ap, refl, sym, List, [], ◌∷◌, ◌++◌, Bool, true, false, cond, if◌then◌else◌, Option, Some, is_some}
use Rattle.std.specs.Prelude.{not, ◌||◌}
use Rattle.std.specs.List.{list_any}
use Rattle.std.specs.Map.{keys_of, lookup}
use Rattle.indexmap.specs.IndexMap.{insert_entry}
use Rattle.occ_check_lines.specs.Listing.{with_one_more}

module _ {K V : Type 0} (eq : K → K → Bool) (k : K) (v : V) where
  found_or : (b : Bool) (x : V) (o : Option V) (a : Bool) → is_some o ≡ a → is_some (cond b (Some x) o) ≡ (b || a)
  found_or true x o a h = refl
  found_or false x o a h = h

  found_so : (es : List (K × V)) → is_some (lookup (eq k) es) ≡ list_any (eq k) (keys_of es)
  found_so [] = refl
  found_so (e ∷ es) = found_or (eq k e.0) e.1 (lookup (eq k) es) (list_any (eq k) (keys_of es)) (found_so es)

  twice_not : (b : Bool) → b ≡ not (not b)
  twice_not true = refl
  twice_not false = refl

  -- whether it was there says what stood at it before
  pub was_new : (es : List (K × V)) (before : Option V) (new : Bool) → is_some before ≡ not new → before ≡ lookup (eq k) es → new ≡ not (list_any (eq k) (keys_of es))
  was_new es before new told is = twice_not new ∙ ap not (sym told ∙ ap is_some is ∙ found_so es)

  keys_by : (b : Bool) (e : K × V) (es now : List (K × V)) → keys_of (if b then (e.0, v) ∷ es else e ∷ now) ≡ (if b then e.0 ∷ keys_of es else e.0 ∷ keys_of now)
  keys_by true e es now = refl
  keys_by false e es now = refl

  first_or : (b a : Bool) (x : K) (ks now : List K) → now ≡ (if a then ks else ks ++ k ∷ []) → (if b then x ∷ ks else x ∷ now) ≡ (if (b || a) then x ∷ ks else x ∷ (ks ++ k ∷ []))
  first_or true a x ks now h = refl
  first_or false true x ks now h = ap (λ l. x ∷ l) h
  first_or false false x ks now h = ap (λ l. x ∷ l) h

  pub one_more : (es : List (K × V)) → keys_of (insert_entry eq es k v) ≡ with_one_more eq (keys_of es) k
  one_more [] = refl
  one_more (e ∷ es) =
      keys_by (eq k e.0) e es (insert_entry eq es k v)
      ∙ first_or (eq k e.0) (list_any (eq k) (keys_of es)) e.0 (keys_of es) (keys_of (insert_entry eq es k v)) (one_more es)
