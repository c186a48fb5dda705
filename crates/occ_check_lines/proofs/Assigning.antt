-- Assignments: sides made one by one, put together, and compared.
use Rattle.std.proofs.Common.{◌≡◌, ◌∙◌, sym, ap, refl, ℕ, List, [], ◌∷◌, map, Option, Some, None, Bool, true, false}
use Rattle.std.specs.Prelude.{not}
use Rattle.occ_tree_grammar.specs.Many.{◌>>=◌}
use Rattle.occ_tree_grammar.specs.Expressions.Trees.{Expression}
use Rattle.occ_tree_grammar.specs.Lines.Trees as L
use Rattle.occ_term.specs.declared.primitive.Primitive.{Primitive}
use Rattle.occ_term.specs.Terms as T
use Rattle.occ_check_meaning.specs.Actions.{assigned}
use Rattle.occ_check_meaning.specs.Expressions.{Typed, typed}
use Rattle.occ_check_meaning.specs.Items.{apart, as_target, assigned_item, assigned_items, some_clash, variable_of}
use Rattle.occ_check_meaning.specs.Scope.{Names, Stretch, each_of, keep}
use Rattle.occ_check_meaning.proofs.Steps.{bind_some, some_is}
use Rattle.occ_check_lines.specs.Action.{side_assigned}
use Rattle.occ_check_lines.specs.Clash.{stretches_at}
use Rattle.occ_check_lines.specs.Zipped.{zipped}
use Rattle.occ_check_lines.specs.View.{Refuses, variable_part}
use Rattle.occ_check_lines.specs.declared.fault.CheckFault.{CheckFault}
use Rattle.occ_check_lines.specs.declared.typed.Part.{Part}
use Rattle.occ_check_lines.proofs.Refusals.{none_then, refused_with}
use Rattle.occ_check_lines.proofs.Targets.{bare, bare_clash}

abbrev no_items : Option (List T.Item)
no_items = None

-- ---- the targets

targets_at : (line : ℕ) (stretches : List (Primitive × Stretch)) → stretches_at (map (as_target line) stretches) ≡ map bare (map (λ r. r.1) stretches)
unfolding bare
targets_at line [] = refl
targets_at line (r ∷ rs) = ap (λ xs. bare r.1 ∷ xs) (targets_at line rs)

same_clash : (line : ℕ) (stretches : List (Primitive × Stretch)) → some_clash (stretches_at (map (as_target line) stretches)) ≡ some_clash (map (λ r. r.1) stretches)
same_clash line stretches = ap some_clash (targets_at line stretches) ∙ bare_clash (map (λ r. r.1) stretches)

kept_none : {A B : Type 0} (test : Bool) (x : A) (y : B) → keep test x ≡ None → keep test y ≡ None
kept_none true x y h = absurd cc
kept_none false x y h = refl

kept_some : {A B : Type 0} (test : Bool) (x z : A) (y : B) → keep test x ≡ Some z → keep test y ≡ Some y
kept_some true x z y h = refl
kept_some false x z y h = absurd cc

module _ (ns : Names) (line : ℕ) where
  -- ---- both sides, one beside the other

  sides_are : (xs : List (Primitive × Part)) (es : List Expression) (values : List Typed) → each_of (typed ns line) es ≡ Some values
      → zipped (side_assigned ns line) xs es ≡ assigned_items (map variable_part xs) values
  unfolding zipped assigned_items each_of
  sides_are [] [] values h = ap (assigned_items []) (some_is [] values h)
  sides_are (x ∷ xs) [] values h = ap (assigned_items (map variable_part (x ∷ xs))) (some_is [] values h)
  sides_are [] (e ∷ es) values h =
      let k = bind_some (typed ns line e) _ values h in
      let q = bind_some (each_of (typed ns line) es) _ values k.2 in
      ap (assigned_items []) (some_is _ values q.2)
  sides_are (x ∷ xs) (e ∷ es) values h =
      let k = bind_some (typed ns line e) _ values h in
      let q = bind_some (each_of (typed ns line) es) _ values k.2 in
      ap (λ r. r >>= assigned_item (variable_part x) >>= λ c. zipped (side_assigned ns line) xs es >>= λ cs. Some (c ∷ cs)) k.1
      ∙ ap (λ r. assigned_item (variable_part x) k.0 >>= λ c. r >>= λ cs. Some (c ∷ cs)) (sides_are xs es q.0 q.1)
      ∙ ap (assigned_items (map variable_part (x ∷ xs))) (some_is _ values q.2)

  sides_none : (xs : List (Primitive × Part)) (es : List Expression) → each_of (typed ns line) es ≡ None → zipped (side_assigned ns line) xs es ≡ None
  unfolding zipped each_of
  sides_none [] [] h = absurd cc
  sides_none (x ∷ xs) [] h = absurd cc
  sides_none [] (e ∷ es) h = refl
  sides_none (x ∷ xs) (e ∷ es) h = by (typed ns line e) (λ g. sides_none xs es g) h
    where
      none : (r : Option T.Item) → (r >>= λ c. no_items >>= λ cs. Some (c ∷ cs)) ≡ no_items
      none None = refl
      none (Some c) = refl

      rest : (o : Option (List Typed)) (a : Typed) → (o >>= λ bs. Some (a ∷ bs)) ≡ None → o ≡ None
      rest None a g = refl
      rest (Some x) a g = absurd cc

      by : (r : Option Typed) → (each_of (typed ns line) es ≡ None → zipped (side_assigned ns line) xs es ≡ None) → (r >>= λ b. each_of (typed ns line) es >>= λ bs. Some (b ∷ bs)) ≡ None → (r >>= assigned_item (variable_part x) >>= λ c. zipped (side_assigned ns line) xs es >>= λ cs. Some (c ∷ cs)) ≡ None
      by None others g = refl
      by (Some a) others g = ap (λ z. assigned_item (variable_part x) a >>= λ c. z >>= λ cs. Some (c ∷ cs)) (others (rest _ a g)) ∙ none (assigned_item (variable_part x) a)

  -- ---- the whole

  module _ (vs : List L.Var) (es : List Expression) where
    behind_stretches : List Typed → List (Primitive × Stretch) → Option T.Term
    behind_stretches values stretches = do
      apart_stretches ← apart (map (λ r. r.1) stretches)
      items ← assigned_items stretches values
      Some (T.Assign (map (as_target line) stretches) items)

    pub no_variables : (e : CheckFault) → Refuses e (each_of (variable_of ns line) vs) → Refuses e (assigned ns line vs es)
    no_variables e = refused_with e _ _ (λ h. by h (each_of (typed ns line) es))
      where
        by : each_of (variable_of ns line) vs ≡ None → (o : Option (List Typed)) → (o >>= λ values. each_of (variable_of ns line) vs >>= λ stretches. apart (map (λ r. r.1) stretches) >>= λ apart_stretches. assigned_items stretches values >>= λ items. Some (T.Assign (map (as_target line) stretches) items)) ≡ None
        by h None = refl
        by h (Some values) = none_then _ h

    module _ (xs : List (Primitive × Part)) (left : each_of (variable_of ns line) vs ≡ Some (map variable_part xs)) where
      assigned_is : assigned ns line vs es ≡ (each_of (typed ns line) es >>= λ values. behind_stretches values (map variable_part xs))
      unfolding behind_stretches
      assigned_is = by (each_of (typed ns line) es)
        where
          by : (o : Option (List Typed)) → (o >>= λ values. each_of (variable_of ns line) vs >>= behind_stretches values) ≡ (o >>= λ values. behind_stretches values (map variable_part xs))
          by None = refl
          by (Some values) = ap (λ o. o >>= behind_stretches values) left

      pub no_sides : (e : CheckFault) → Refuses e (zipped (side_assigned ns line) xs es) → Refuses e (assigned ns line vs es)
      unfolding behind_stretches
      no_sides e = refused_with e _ _ (λ h. assigned_is ∙ by (each_of (typed ns line) es) refl h)
        where
          none : (o : Option (List Stretch)) → (o >>= λ apart_stretches. no_items >>= λ items. Some (T.Assign (map (as_target line) (map variable_part xs)) items)) ≡ None
          none None = refl
          none (Some rs) = refl

          by : (o : Option (List Typed)) → each_of (typed ns line) es ≡ o → zipped (side_assigned ns line) xs es ≡ None → (o >>= λ values. behind_stretches values (map variable_part xs)) ≡ None
          by None g h = refl
          by (Some values) g h =
              ap (λ o. apart (map (λ r. r.1) (map variable_part xs)) >>= λ apart_stretches. o >>= λ items. Some (T.Assign (map (as_target line) (map variable_part xs)) items)) (sym (sides_are xs es values g) ∙ h)
              ∙ none (apart (map (λ r. r.1) (map variable_part xs)))

      module _ (targets : List T.Target) (are : targets ≡ map (as_target line) (map variable_part xs)) where
        test : not (some_clash (stretches_at targets)) ≡ not (some_clash (map (λ r. r.1) (map variable_part xs)))
        test = ap not (ap (λ ts. some_clash (stretches_at ts)) are ∙ same_clash line (map variable_part xs))

        pub not_apart : (e : CheckFault) → Refuses e (apart (stretches_at targets)) → Refuses e (assigned ns line vs es)
        unfolding behind_stretches
        not_apart e = refused_with e _ _ (λ h. assigned_is ∙ by (kept_none _ (stretches_at targets) (map (λ r. r.1) (map variable_part xs)) (ap (λ b. keep b (stretches_at targets)) (sym test) ∙ h)) (each_of (typed ns line) es))
          where
            by : apart (map (λ r. r.1) (map variable_part xs)) ≡ None → (o : Option (List Typed)) → (o >>= λ values. behind_stretches values (map variable_part xs)) ≡ None
            by h None = refl
            by h (Some values) = none_then _ h

        pub all_assigned : (rs : List Stretch) → apart (stretches_at targets) ≡ Some rs → (items : List T.Item) → zipped (side_assigned ns line) xs es ≡ Some items
            → assigned ns line vs es ≡ Some (T.Assign targets items)
        unfolding behind_stretches
        all_assigned rs h items g =
            assigned_is ∙ by (kept_some _ (stretches_at targets) rs (map (λ r. r.1) (map variable_part xs)) (ap (λ b. keep b (stretches_at targets)) (sym test) ∙ h)) (each_of (typed ns line) es) refl
            ∙ ap (λ ts. Some (T.Assign ts items)) (sym are)
          where
            by : apart (map (λ r. r.1) (map variable_part xs)) ≡ Some (map (λ r. r.1) (map variable_part xs)) → (o : Option (List Typed)) → each_of (typed ns line) es ≡ o
                → (o >>= λ values. behind_stretches values (map variable_part xs)) ≡ Some (T.Assign (map (as_target line) (map variable_part xs)) items)
            by h None k = let none : zipped (side_assigned ns line) xs es ≡ None = sides_none xs es k in absurd cc
            by h (Some values) k =
                ap (λ o. o >>= λ apart_stretches. assigned_items (map variable_part xs) values >>= λ items. Some (T.Assign (map (as_target line) (map variable_part xs)) items)) h
                ∙ ap (λ o. o >>= λ items. Some (T.Assign (map (as_target line) (map variable_part xs)) items)) (sym (sides_are xs es values k) ∙ g)
