-- A list of targets, each made beside its part, and then compared.
use Rattle.std.proofs.Common.{◌≡◌, ℕ, List, [], ◌∷◌, Bool, true, false, map, Option, Some, None, refl, sym, ap, ◌∙◌}
use Rattle.std.specs.Prelude.{not, ◌||◌}
use Rattle.occ_tree_grammar.specs.Many.{◌>>=◌}
use Rattle.occ_tree_grammar.specs.Lines.Trees as L
use Rattle.occ_term.specs.declared.primitive.Primitive.{Primitive}
use Rattle.occ_term.specs.declared.protocol.PartType.{PartType}
use Rattle.occ_term.specs.declared.protocol.PartType.TheVariants.{One as OneOf, Many as ManyOf, Counted as CountedOf}
use Rattle.occ_term.specs.Terms as T
use Rattle.occ_term.specs.Terms.{Subscripts}
use Rattle.occ_check_meaning.specs.Scope.{Names, Stretch, each_of, keep}
use Rattle.occ_check_meaning.specs.Expressions.{place_of}
use Rattle.occ_check_meaning.specs.Items.{Aim, aim, aim_of, apart, clash, clashes_with_one, counted_aim, stretches_of, some_clash, stored, target_of, targets_of}
use Rattle.occ_check_lines.specs.Action.{stored_one}
use Rattle.occ_check_lines.specs.Clash.{stretches_at}
use Rattle.occ_check_lines.specs.Zipped.{zipped}
use Rattle.occ_check_lines.specs.View.{Refuses}
use Rattle.occ_check_lines.specs.declared.fault.CheckFault.{CheckFault}
use Rattle.occ_check_lines.proofs.Refusals.{none_then, refused_with}
use Rattle.occ_check_meaning.proofs.Steps.{bind_some, some_is}

-- ---- the sizes that are left do not matter

unfoldable pub bare : Stretch → Stretch
bare r = record { first = r.first; sizes = r.sizes; subscripts = r.subscripts; left = [] }

with_one : (r : Stretch) (rs : List Stretch) → clashes_with_one (bare r) (map bare rs) ≡ clashes_with_one r rs
unfolding bare
with_one r [] = refl
with_one r (q ∷ rs) = ap (λ b. clash r q || b) (with_one r rs)

pub bare_clash : (rs : List Stretch) → some_clash (map bare rs) ≡ some_clash rs
bare_clash [] = refl
bare_clash (r ∷ rs) = ap (λ b. b || some_clash (map bare rs)) (with_one r rs) ∙ ap (λ b. clashes_with_one r rs || b) (bare_clash rs)

-- ---- a target is at its aim's place

kept_is : {A : Type 0} (test : Bool) (x y : A) → keep test x ≡ Some y → x ≡ y
kept_is true x y h = some_is x y h
kept_is false x y h = absurd cc

kept_none : {A B : Type 0} (test : Bool) (x : A) (g : A → B) → keep test x ≡ None → keep test (g x) ≡ None
kept_none true x g h = absurd cc
kept_none false x g h = refl

counted_at : (line : ℕ) (count type t u : Primitive) (c : Stretch) (first : ℕ) (sizes : List ℕ) (subs : Subscripts) (left : List ℕ) (target : T.Target)
    → target_of line (CountedOf count type) (counted_aim (t, c) (u, record { first = first; sizes = sizes; subscripts = subs; left = left })) ≡ Some target
    → T.IntoCounted line (place_of line c) (T.place line first sizes subs) ≡ target
counted_at line count type t u c first sizes subs [] target h = absurd cc
counted_at line count type t u c first sizes subs (n ∷ []) target h = kept_is _ _ _ h
counted_at line count type t u c first sizes subs (n ∷ m ∷ left) target h = absurd cc

-- the stretches of the targets are those of the aims
pub stretches_are : (line : ℕ) (p : PartType) (a : Aim) (t : T.Target) (aims : List Aim) (ts : List T.Target) → target_of line p a ≡ Some t → stretches_at ts ≡ map bare (stretches_of aims) → stretches_at (t ∷ ts) ≡ map bare (stretches_of (a ∷ aims))
unfolding bare
stretches_are line (OneOf type) (aim u r) t aims ts h g = sym (ap (λ x. stretches_at (x ∷ ts)) (kept_is _ _ t h)) ∙ ap (λ rs. bare r ∷ rs) g
stretches_are line (OneOf type) (counted_aim c a) t aims ts h g = absurd cc
stretches_are line (ManyOf ns type) (aim u r) t aims ts h g = sym (ap (λ x. stretches_at (x ∷ ts)) (kept_is _ _ t h)) ∙ ap (λ rs. bare r ∷ rs) g
stretches_are line (ManyOf ns type) (counted_aim c a) t aims ts h g = absurd cc
stretches_are line (CountedOf count type) (aim u r) t aims ts h g = absurd cc
stretches_are line (CountedOf count type) (counted_aim c a) t aims ts h g =
    sym (ap (λ x. stretches_at (x ∷ ts)) (counted_at line count type c.0 a.0 c.1 a.1.first a.1.sizes a.1.subscripts a.1.left t h)) ∙ ap (λ rs. bare c.1 ∷ bare a.1 ∷ rs) g

all_stretches : (line : ℕ) (ps : List PartType) (aims : List Aim) (ts : List T.Target) → targets_of line ps aims ≡ Some ts → stretches_at ts ≡ map bare (stretches_of aims)
unfolding targets_of
all_stretches line [] [] ts h = sym (ap stretches_at (some_is _ ts h))
all_stretches line [] (a ∷ aims) ts h = absurd cc
all_stretches line (p ∷ ps) [] ts h = absurd cc
all_stretches line (p ∷ ps) (a ∷ aims) ts h =
    let k = bind_some (target_of line p a) _ ts h in
    let q = bind_some (targets_of line ps aims) _ ts k.2 in
    sym (ap stretches_at (some_is _ ts q.2)) ∙ stretches_are line p a k.0 aims q.0 k.1 (all_stretches line ps aims q.0 q.1)

-- ---- each target beside its part

abbrev no_targets : Option (List T.Target)
no_targets = None

module _ (ns : Names) (line : ℕ) where
  beside : (ps : List PartType) (ts : List L.Target) (aims : List Aim) → each_of (aim_of ns line) ts ≡ Some aims → zipped (stored_one ns line) ps ts ≡ targets_of line ps aims
  unfolding zipped targets_of each_of
  beside [] [] aims h = ap (targets_of line []) (some_is [] aims h)
  beside (p ∷ ps) [] aims h = ap (targets_of line (p ∷ ps)) (some_is [] aims h)
  beside [] (t ∷ ts) aims h =
      let k = bind_some (aim_of ns line t) _ aims h in
      let q = bind_some (each_of (aim_of ns line) ts) _ aims k.2 in
      ap (targets_of line []) (some_is _ aims q.2)
  beside (p ∷ ps) (t ∷ ts) aims h =
      let k = bind_some (aim_of ns line t) _ aims h in
      let q = bind_some (each_of (aim_of ns line) ts) _ aims k.2 in
      ap (λ r. r >>= target_of line p >>= λ c. zipped (stored_one ns line) ps ts >>= λ cs. Some (c ∷ cs)) k.1
      ∙ ap (λ r. target_of line p k.0 >>= λ c. r >>= λ cs. Some (c ∷ cs)) (beside ps ts q.0 q.1)
      ∙ ap (targets_of line (p ∷ ps)) (some_is _ aims q.2)

  beside_none : (ps : List PartType) (ts : List L.Target) → each_of (aim_of ns line) ts ≡ None → zipped (stored_one ns line) ps ts ≡ None
  unfolding zipped each_of
  beside_none [] [] h = absurd cc
  beside_none (p ∷ ps) [] h = refl
  beside_none [] (t ∷ ts) h = refl
  beside_none (p ∷ ps) (t ∷ ts) h = by (aim_of ns line t) (λ g. beside_none ps ts g) h
    where
      none : (r : Option T.Target) → (r >>= λ c. no_targets >>= λ cs. Some (c ∷ cs)) ≡ no_targets
      none None = refl
      none (Some c) = refl

      rest : (o : Option (List Aim)) (a : Aim) → (o >>= λ bs. Some (a ∷ bs)) ≡ None → o ≡ None
      rest None a g = refl
      rest (Some x) a g = absurd cc

      by : (r : Option Aim) → (each_of (aim_of ns line) ts ≡ None → zipped (stored_one ns line) ps ts ≡ None) → (r >>= λ b. each_of (aim_of ns line) ts >>= λ bs. Some (b ∷ bs)) ≡ None → (r >>= target_of line p >>= λ c. zipped (stored_one ns line) ps ts >>= λ cs. Some (c ∷ cs)) ≡ None
      by None others g = refl
      by (Some a) others g = ap (λ z. target_of line p a >>= λ c. z >>= λ cs. Some (c ∷ cs)) (others (rest _ a g)) ∙ none (target_of line p a)

  pub stored_is : (ps : List PartType) (ts : List L.Target) → stored ns line ps ts ≡ (zipped (stored_one ns line) ps ts >>= λ made. apart (stretches_at made) >>= λ rs. Some made)
  stored_is ps ts = by (each_of (aim_of ns line) ts) refl
    where
      one : (aims : List Aim) (r : Option (List T.Target)) → targets_of line ps aims ≡ r → (apart (stretches_of aims) >>= λ rs. r) ≡ (r >>= λ made. apart (stretches_at made) >>= λ rs. Some made)
      one aims None h = none (not (some_clash (stretches_of aims)))
        where
          none : (b : Bool) → (keep b (stretches_of aims) >>= λ rs. no_targets) ≡ no_targets
          none true = refl
          none false = refl
      one aims (Some made) h =
          some (not (some_clash (stretches_of aims)))
          ∙ sym (ap (λ b. keep (not b) (stretches_at made) >>= λ rs. Some made) (ap some_clash (all_stretches line ps aims made h) ∙ bare_clash (stretches_of aims)))
        where
          some : (b : Bool) → (keep b (stretches_of aims) >>= λ rs. Some made) ≡ (keep b (stretches_at made) >>= λ rs. Some made)
          some true = refl
          some false = refl

      by : (o : Option (List Aim)) → each_of (aim_of ns line) ts ≡ o → stored ns line ps ts ≡ (zipped (stored_one ns line) ps ts >>= λ made. apart (stretches_at made) >>= λ rs. Some made)
      by None h =
          ap (λ o. o >>= λ aims. apart (stretches_of aims) >>= λ rs. targets_of line ps aims) h
          ∙ sym (ap (λ z. z >>= λ made. apart (stretches_at made) >>= λ rs. Some made) (beside_none ps ts h))
      by (Some aims) h =
          ap (λ o. o >>= λ aims. apart (stretches_of aims) >>= λ rs. targets_of line ps aims) h
          ∙ one aims (targets_of line ps aims) refl
          ∙ sym (ap (λ z. z >>= λ made. apart (stretches_at made) >>= λ rs. Some made) (beside ps ts aims h))

  module _ (ps : List PartType) (ts : List L.Target) where
    pub stored_nothing : (e : CheckFault) → Refuses e (zipped (stored_one ns line) ps ts) → Refuses e (stored ns line ps ts)
    stored_nothing e = refused_with e _ _ (λ h. stored_is ps ts ∙ none_then _ h)

    module _ (made : List T.Target) (h : zipped (stored_one ns line) ps ts ≡ Some made) where
      then_apart : stored ns line ps ts ≡ (apart (stretches_at made) >>= λ rs. Some made)
      then_apart = stored_is ps ts ∙ ap (λ z. z >>= λ made. apart (stretches_at made) >>= λ rs. Some made) h

      pub stored_gives : (stretches : List Stretch) → apart (stretches_at made) ≡ Some stretches → stored ns line ps ts ≡ Some made
      stored_gives stretches g = then_apart ∙ ap (λ z. z >>= λ rs. Some made) g

      pub stored_clashes : (e : CheckFault) → Refuses e (apart (stretches_at made)) → Refuses e (stored ns line ps ts)
      stored_clashes e = refused_with e _ _ (λ g. then_apart ∙ none_then _ g)
