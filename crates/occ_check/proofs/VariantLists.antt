-- The variants of an input, one after the other, each with the numbers of the tags before it.
use Rattle.std.proofs.Common.{◌≡◌, ◌∙◌, ◌+◌, ℕ, List, [], ◌∷◌, ◌++◌, Option, Some, None, refl, ap, sym, subst, map}
use Rattle.occ_tree_grammar.specs.Many.{◌>>=◌}
use Rattle.occ_tree_grammar.specs.Lines.Trees as L
use Rattle.occ_tree_grammar.specs.Processes.Trees.{Decls, nodes}
use Rattle.occ_tree_grammar.specs.Processes.Views.{process_of}
use Rattle.occ_tree_grammar.specs.declared.tree.process.Process.{Process}
use Rattle.occ_tree_grammar.specs.declared.tree.process.Variant.TheVariants as variants
use Rattle.occ_check_meaning.specs.Performing as P
use Rattle.occ_check.specs.Variants.{body_of_variant, declarations_of_variant, line_of_variant, targets_of_variant}
use Rattle.occ_check.specs.Weights.{decls_size, node_size}
use Rattle.occ_tree_grammar.specs.Processes.Views as trees
use Rattle.occ_tree_grammar.specs.declared.tree.process.Variant.{Variant}
use Rattle.occ_term.specs.Terms as T
use Rattle.occ_term.specs.Terms.{Variants, no_variants, or_variant}
use Rattle.occ_term.specs.View.{Seen, arm_step, choice_step, reception_step, option_step, term_step, branch_step, variant_step, variant_of, variants_of}
use Rattle.occ_term.specs.declared.protocol.Protocol.{Protocol}
use Rattle.occ_term.specs.declared.term.Variant.{Variant as TermVariant}
use Rattle.occ_term.specs.declared.term.Arm.TheOpen.{Variant-F}
use Rattle.occ_term.specs.declared.term.Arm.TheFolds.{fold_out-Variant}
use Rattle.occ_check_meaning.specs.Actions.{new_tag, variants_then, variant_tag}
use Rattle.occ_check_meaning.specs.Numbers.{Numbers}
use Rattle.occ_check_meaning.specs.Performing.{Calling}
use Rattle.occ_check_meaning.specs.Recursion.{all_declared, all_variants, unfolded, variant_unfolded}
use Rattle.occ_check_meaning.specs.Scope.{Scope}
use Rattle.occ_check_lines.specs.View.{Refuses}
use Rattle.occ_check_lines.specs.Tags.{AreTagsOf, number_at}
use Rattle.occ_check_lines.specs.declared.tags.Tags.{Tags}
use Rattle.occ_check_lines.specs.declared.fault.CheckFault.{CheckFault}
use Rattle.occ_check_lines.proofs.Refusing.{then_refused}

-- ---- what a variant of the code puts before others

seen : (x : TermVariant) → (y : Seen Variant-F) × (variant_of x ≡ variant_step y)
seen x = (
  _,
  fold_out-Variant (T.Arms → T.Arms) (T.Choices → T.Choices) T.Reception (T.Options → T.Options) T.Term (T.Branches → T.Branches) (T.Variants → T.Variants)
      arm_step choice_step reception_step option_step term_step branch_step variant_step x,
)

one_first : (x : TermVariant) (a b : Variants) → variants_then (variant_of x a) b ≡ variant_of x (variants_then a b)
one_first x a b = let s = seen x in ap (λ f. variants_then (f a) b) s.1 ∙ ap (λ f. f (variants_then a b)) (sym s.1)

pub no_more_variants : (a : Variants) → variants_then a no_variants ≡ a
no_more_variants no_variants = refl
no_more_variants (or_variant k ds ts t vs) = ap (or_variant k ds ts t) (no_more_variants vs)

grouped : (a b c : Variants) → variants_then (variants_then a b) c ≡ variants_then a (variants_then b c)
grouped no_variants b c = refl
grouped (or_variant k ds ts t vs) b c = ap (or_variant k ds ts t) (grouped vs b c)

more_variants : (xs ys : List TermVariant) → variants_of (xs ++ ys) ≡ variants_then (variants_of xs) (variants_of ys)
more_variants [] ys = refl
more_variants (x ∷ xs) ys = ap (variant_of x) (more_variants xs ys) ∙ sym (one_first x (variants_of xs) (variants_of ys))

-- ---- the list, part by part

abbrev pub variants_in : Protocol → Scope Calling → ℕ → List Variant → List ℕ × Numbers → Option (Variants × Numbers)
variants_in p sc depth xs s = all_variants (nodes (map trees.variant_of xs)) p s.0 sc depth s.1

abbrev pub with_tag : ℕ → List ℕ → Variants × Numbers → Option (Variants × (List ℕ × Numbers))
with_tag k before v = Some (v.0, (k ∷ before, v.1))

abbrev pub variant_in : Protocol → Scope Calling → ℕ → Variant → List ℕ × Numbers → Option (Variants × (List ℕ × Numbers))
variant_in p sc depth x s = do
  k ← new_tag p (variant_tag (trees.variant_of x)) s.0
  v ← variant_unfolded (trees.variant_of x) p k sc depth s.1
  with_tag k s.0 v

abbrev pub put_variants : Variants → Variants × Numbers → Variants × Numbers
put_variants a r = (variants_then a r.0, r.1)

pub variants_step : (p : Protocol) (sc : Scope Calling) (depth : ℕ) (x : Variant) (xs : List Variant) (s : List ℕ × Numbers)
    → variants_in p sc depth (x ∷ xs) s ≡ (variant_in p sc depth x s >>= λ a. variants_in p sc depth xs a.1 >>= λ r. Some (put_variants a.0 r))
unfolding all_variants
variants_step p sc depth x xs s = by (new_tag p (variant_tag (trees.variant_of x)) s.0)
  where
    then_by : (k : ℕ) (o : Option (Variants × Numbers)) → (o >>= λ v. all_variants (nodes (map trees.variant_of xs)) p (k ∷ s.0) sc depth v.1 >>= λ r. Some (variants_then v.0 r.0, r.1))
        ≡ ((o >>= λ v. with_tag k s.0 v) >>= λ a. variants_in p sc depth xs a.1 >>= λ r. Some (put_variants a.0 r))
    then_by k None = refl
    then_by k (Some v) = refl

    by : (o : Option ℕ) → (o >>= λ k. variant_unfolded (trees.variant_of x) p k sc depth s.1 >>= λ v. all_variants (nodes (map trees.variant_of xs)) p (k ∷ s.0) sc depth v.1 >>= λ r. Some (variants_then v.0 r.0, r.1))
        ≡ ((o >>= λ k. variant_unfolded (trees.variant_of x) p k sc depth s.1 >>= λ v. with_tag k s.0 v) >>= λ a. variants_in p sc depth xs a.1 >>= λ r. Some (put_variants a.0 r))
    by None = refl
    by (Some k) = then_by k (variant_unfolded (trees.variant_of x) p k sc depth s.1)

pub variants_none : (p : Protocol) (sc : Scope Calling) (depth : ℕ) (s : List ℕ × Numbers) → variants_in p sc depth [] s ≡ Some (no_variants, s.1)
unfolding all_variants
variants_none p sc depth s = refl

pub variants_grown : (made : List TermVariant) (one : TermVariant) (all : List TermVariant) (r : Variants × Numbers) → all ≡ made ++ one ∷ [] → put_variants (variants_of all) r ≡ put_variants (variants_of made) (put_variants (variant_of one no_variants) r)
variants_grown made one all r is =
    ap (λ c. (c, r.1)) (ap (λ xs. variants_then (variants_of xs) r.0) is ∙ ap (λ c. variants_then c r.0) (more_variants made (one ∷ [])) ∙ grouped (variants_of made) (variant_of one no_variants) r.0)

module _ (p : Protocol) (sc : Scope Calling) (depth : ℕ) (x : Variant) (before : List ℕ) (n : Numbers) (name : List ℕ) (named : name ≡ variant_tag (trees.variant_of x)) where
  behind_tag : ℕ → Option (Variants × (List ℕ × Numbers))
  behind_tag k = variant_unfolded (trees.variant_of x) p k sc depth n >>= with_tag k before

  named_so : variant_in p sc depth x (before, n) ≡ (new_tag p name before >>= behind_tag)
  unfolding behind_tag
  named_so = ap (λ y. new_tag p y before >>= behind_tag) (sym named)

  pub no_tag : (e : CheckFault) → Refuses e (new_tag p name before) → Refuses e (variant_in p sc depth x (before, n))
  no_tag e r = subst (Refuses e) (sym named_so) (then_refused e (new_tag p name before) behind_tag r)

  module _ (k : ℕ) (tag : new_tag p name before ≡ Some k) where
    tagged_so : variant_in p sc depth x (before, n) ≡ behind_tag k
    tagged_so = named_so ∙ ap (λ o. o >>= behind_tag) tag

    pub variant_refused : (e : CheckFault) → Refuses e (variant_unfolded (trees.variant_of x) p k sc depth n) → Refuses e (variant_in p sc depth x (before, n))
    unfolding behind_tag
    variant_refused e r = subst (Refuses e) (sym tagged_so) (then_refused e (variant_unfolded (trees.variant_of x) p k sc depth n) (with_tag k before) r)

    pub variant_done : (v : Variants) (m : Numbers) (after : List ℕ) → after ≡ k ∷ before → variant_unfolded (trees.variant_of x) p k sc depth n ≡ Some (v, m) → variant_in p sc depth x (before, n) ≡ Some (v, (after, m))
    unfolding behind_tag
    variant_done v m after is e = tagged_so ∙ ap (λ o. o >>= with_tag k before) e ∙ ap (λ (l : List ℕ). Some (v, (l, m))) (sym is)

-- the names keep their numbers
pub tags_kept : (p : Protocol) (t u : Tags) → u.numbers ≡ t.numbers → AreTagsOf p t → AreTagsOf p u
tags_kept p t u same are x = ap (λ ns. number_at x ns.entries) same ∙ are x

-- ---- one variant, by its parts

whole_variant : (v : Variant) (pr : Protocol) (k : ℕ) (sc : Scope Calling) (depth : ℕ) (n : Numbers)
    → variant_unfolded (trees.variant_of v) pr k sc depth n
    ≡ P.variant_of (line_of_variant v) (targets_of_variant v) (all_declared (declarations_of_variant v)) (unfolded (process_of (body_of_variant v))) pr k sc depth n
unfolding trees.variant_of variant_unfolded
whole_variant (variants.Tagged' shape ds l x ts q) pr k sc depth n = refl

whole_size : (v : Variant) → node_size (trees.variant_of v) ≡ (decls_size (declarations_of_variant v) + (node_size (process_of (body_of_variant v)) + 1)) + 2
unfolding trees.variant_of node_size
whole_size (variants.Tagged' shape ds l x ts q) = refl

module _ (v : Variant) (ds : Decls) (line : ℕ) (ts : List L.Target) (p : Process) (is_ds : ds ≡ declarations_of_variant v) (is_line : line ≡ line_of_variant v) (is_ts : ts ≡ targets_of_variant v) (is_p : p ≡ body_of_variant v) where
  pub variant_form : (pr : Protocol) (k : ℕ) (sc : Scope Calling) (depth : ℕ) (n : Numbers)
      → variant_unfolded (trees.variant_of v) pr k sc depth n ≡ P.variant_of line ts (all_declared ds) (unfolded (process_of p)) pr k sc depth n
  variant_form pr k sc depth n = whole_variant v pr k sc depth n ∙ sym (λ i. P.variant_of (is_line i) (is_ts i) (all_declared (is_ds i)) (unfolded (process_of (is_p i))) pr k sc depth n)

  pub variant_size : node_size (trees.variant_of v) ≡ (decls_size ds + (node_size (process_of p) + 1)) + 2
  variant_size = whole_size v ∙ sym (λ i. (decls_size (is_ds i) + (node_size (process_of (is_p i)) + 1)) + 2)
