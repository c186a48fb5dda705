-- Processes that are listed one after another.
use Rattle.std.specs.Prelude.{reverse}
use Rattle.std.proofs.Common.{◌≡◌, ◌++◌, ◌+◌, ◌<◌, ◌∙◌, ◌∷◌, ◌≤◌, [], List, append-nil, append_assoc, ap, arith, drop, drop-cons, get_or, length, map, refl, subst, suc, sym, zero, ℕ}
use Rattle.std.proofs.lemmas.List.{map-append, reverse-append}
use Rattle.occ_term.specs.Processes.{Numbered}
use Rattle.occ_term.specs.Terms.{then_term}
use Rattle.occ_term.specs.View.{branch_of, branches_of, term_of, terms_of, variant_of, variants_of}
use Rattle.occ_term.specs.declared.term.Branch.{Branch}
use Rattle.occ_term.specs.declared.term.Term.{Term}
use Rattle.occ_term.specs.declared.term.Variant.{Variant}
use Rattle.occ_ends.specs.Ends.{ListsUses, noted_for, using}
use Rattle.occ_ends.specs.declared.uses.ProcessUses.{ProcessUses}

pub lists_none : (before : List ProcessUses) → ListsUses before [] before
lists_none before = record { more = []; added = sym (append-nil before); are = refl }

pub lists_as : {before after : List ProcessUses} {ps qs : List Numbered} → ListsUses before ps after → ps ≡ qs → ListsUses before qs after
lists_as {before} {after} h e = subst (λ l. ListsUses before l after) e h

-- those that come first were added last
pub lists_then : {before between after : List ProcessUses} {ps qs : List Numbered} → ListsUses before qs between → ListsUses between ps after → ListsUses before (ps ++ qs) after
lists_then {before} {between} {after} {ps} {qs} h k =
    let added : after ≡ before ++ (h.more ++ k.more) = k.added ∙ ap (λ l. l ++ k.more) h.added ∙ append_assoc before h.more k.more in
    let turned : reverse (h.more ++ k.more) ≡ reverse k.more ++ reverse h.more = reverse-append h.more k.more in
    let are : map noted_for (reverse (h.more ++ k.more)) ≡ map using (ps ++ qs) =
    ap (map noted_for) turned
    ∙ map-append noted_for (reverse k.more) (reverse h.more)
    ∙ ap (λ l. l ++ map noted_for (reverse h.more)) k.are
    ∙ ap (λ l. map using ps ++ l) h.are
    ∙ sym (map-append using ps qs) in
    record { more = h.more ++ k.more; added = added; are = are }

-- ---- what is left of a list from a place on

pub terms_next : (ts : List Term) (i k : ℕ) (t : Term) → k ≡ i + 1 → i < length ts → t ≡ get_or ts i t → terms_of (drop i ts) ≡ then_term (term_of t) (terms_of (drop k ts))
terms_next ts i k t e lt is =
    let next : suc i ≡ k = omega (arith, e) in
    ap terms_of (drop-cons ts i t lt) ∙ ap (λ y. then_term (term_of y) (terms_of (drop (suc i) ts))) (sym is) ∙ ap (λ n. then_term (term_of t) (terms_of (drop n ts))) next

pub branches_next : (bs : List Branch) (i k : ℕ) (b : Branch) → k ≡ i + 1 → i < length bs → b ≡ get_or bs i b → branches_of (drop i bs) ≡ branch_of b (branches_of (drop k bs))
branches_next bs i k b e lt is =
    let next : suc i ≡ k = omega (arith, e) in
    ap branches_of (drop-cons bs i b lt) ∙ ap (λ y. branch_of y (branches_of (drop (suc i) bs))) (sym is) ∙ ap (λ n. branch_of b (branches_of (drop n bs))) next

pub variants_next : (vs : List Variant) (i k : ℕ) (v : Variant) → k ≡ i + 1 → i < length vs → v ≡ get_or vs i v → variants_of (drop i vs) ≡ variant_of v (variants_of (drop k vs))
variants_next vs i k v e lt is =
    let next : suc i ≡ k = omega (arith, e) in
    ap variants_of (drop-cons vs i v lt) ∙ ap (λ y. variant_of y (variants_of (drop (suc i) vs))) (sym is) ∙ ap (λ n. variant_of v (variants_of (drop n vs))) next

pub noted_next : (ps : List ProcessUses) (i k : ℕ) (p : ProcessUses) → k ≡ i + 1 → i < length ps → p ≡ get_or ps i p → map noted_for (drop i ps) ≡ noted_for p ∷ map noted_for (drop k ps)
noted_next ps i k p e lt is =
    let next : suc i ≡ k = omega (arith, e) in
    ap (map noted_for) (drop-cons ps i p lt) ∙ ap (λ y. noted_for y ∷ map noted_for (drop (suc i) ps)) (sym is) ∙ ap (λ n. noted_for p ∷ map noted_for (drop n ps)) next

pub noted_past : (ps : List ProcessUses) (i : ℕ) → length ps ≤ i → map noted_for (drop i ps) ≡ []
noted_past [] i past = ap (map noted_for) (drop_none i)
  where
    drop_none : (i : ℕ) → drop {A = ProcessUses} i [] ≡ []
    drop_none zero = refl
    drop_none (suc i) = refl
noted_past (p ∷ ps) zero past = absurd (omega (arith, past))
noted_past (p ∷ ps) (suc i) past = noted_past ps i (omega (arith, past))
