-- Names that are reached: one more, and none.
use Rattle.std.proofs.Common.{◌≡◌, ◌∙◌, ◌⊎◌, inl, inr, sym, ap, subst, refl, List, [], ◌∷◌, length, Bool, true, false, cond, Some, None, arith}
use Rattle.std.specs.Prelude.{bytes_eq}
use Rattle.std.specs.List.{list_any}
use Rattle.std.proofs.Math.Bool.{true≢false}
use Rattle.std.proofs.lemmas.Slice.Eq.{bytes_eq-Decides}
use Rattle.std.proofs.lemmas.List.Folds.{list_any_none}
use Rattle.occ_explaining.specs.Calls.{Called}
use Rattle.occ_explaining.specs.Reach.{among}
use Rattle.occ_explaining.specs.Passes.{AddsName, Begins}

none_any : {X : Type 0} (p : X → Bool) → list_any p [] ≡ false
none_any p = list_any_none p [] (λ k d h. absurd (omega arith))

pub name_added : (old new : List Called) (k name : Called) → k ≡ name → ((q : Called) → among new q ≡ cond (bytes_eq k q) true (among old q)) → AddsName old new name
name_added old new k name same is = subst (AddsName old new) same (
  is k ∙ ap (λ b. cond b true (among old k)) ((bytes_eq-Decides k k).1 refl),
  (λ f h. is f ∙ kept (bytes_eq k f) (among old f) h),
  (λ f h. by f (bytes_eq k f) refl (sym (is f) ∙ h)),
)
  where
    kept : (b c : Bool) → c ≡ true → cond b true c ≡ true
    kept true c h = refl
    kept false c h = h

    by : (f : Called) (b : Bool) → bytes_eq k f ≡ b → cond b true (among old f) ≡ true → (among old f ≡ true) ⊎ (f ≡ k)
    by f true e h = inr (sym ((bytes_eq-Decides k f).0 e))
    by f false e h = inl h

pub none_among : (names : List Called) → length names ≡ 0 → (f : Called) → among names f ≡ false
none_among [] e f = none_any (bytes_eq f)
none_among (k ∷ names) e f = absurd (omega arith)

-- no main process
pub begins_with_none : (names : List Called) → length names ≡ 0 → Begins None names
begins_with_none names e = record {
  has = λ f h. absurd (none_some h);
  only = λ set m f h. absurd (true≢false (sym h ∙ none_among names e f));
}
  where
    none_some : {f : Called} → None ≡ Some f → ⊥
    none_some h = cc

-- one
pub begins_with : (old new : List Called) (name : Called) → length old ≡ 0 → AddsName old new name → Begins (Some name) new
begins_with old new name e added = record {
  has = λ f h. subst (λ x. among new x ≡ true) (some_same h) added.0;
  only = λ set m f h. by set f (m name refl) (added.2 f h);
}
  where
    some_same : {f : Called} → Some name ≡ Some f → name ≡ f
    some_same h = cc

    by : (set : Called → Bool) (f : Called) → set name ≡ true → (among old f ≡ true) ⊎ (f ≡ name) → set f ≡ true
    by set f has (inl h) = absurd (true≢false (sym h ∙ none_among old e f))
    by set f has (inr h) = ap set h ∙ has
