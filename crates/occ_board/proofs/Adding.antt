-- The exchange that adds an edition keeps the rule.
use Rattle.std.proofs.Common.{◌≡◌, ℕ, ◌+◌, ◌<◌, ◌==◌, Bool, true, false, List, [], ◌∷◌, ◌++◌, length, refl, ap, sym, subst, arith, inl, length-append, None}
use Rattle.std.proofs.lemmas.List.{append-nil}
use Rattle.std.proofs.lemmas.Bool.Decides.{nat_tests}
use mathlib.Core.List.{IsPrefix}
use prog.Atomic.{either}
use Rattle.logbook.specs.Pages.{Cell, cell, keeps, no_nib, step, Moves, Goes}
use Rattle.occ_board.specs.declared.shown.Edition.{Edition}
use Rattle.occ_board.specs.Editions.{blank, Follows, IsLegal, newest}
use Rattle.occ_board.specs.Rules.{IsLogged, AddsEdition}
use Rattle.occ_board.proofs.Prefixes.{prefix_whole}
use Rattle.occ_board.proofs.Histories.{rises_join}

abbrev pub shown : List Edition → List Edition
shown log = []

abbrev pub moved : List Edition → List Edition → ℕ → Type 0
moved xs ys n = Unit {0}

pub adds_goes : (log v : List Edition) (e : Edition) (old : ℕ) → length v ≡ old → Follows (newest v) e → IsLegal log → IsPrefix v log
    → (b : Bool) → (length log == old) ≡ b
    → Goes IsLogged shown moved 0 (v, (no_nib, None)) (λ n. either (n == old) (old + 1) n) (AddsEdition (step 0 old (old + 1) e) (v, (no_nib, None))) ((length log, true) ∷ (0, true) ∷ []) log
adds_goes log v e old len may legal pre true is =
    let here : length log ≡ old = grind (arith, nat_tests) in
    let same : v ≡ log = prefix_whole v log pre (omega arith) in
    let next : Follows (newest log) e = subst (λ (l : List Edition). Follows (newest l) e) same may in
    let legal' : IsLegal (log ++ e ∷ []) = rises_join blank log (e ∷ []) legal (next, tt) in
    let n : either (length log == old) (old + 1) (length log) ≡ length (log ++ e ∷ []) = rw is (omega (arith, length-append log (e ∷ []))) in (
      keeps,
      e ∷ [],
      None,
      tt,
      record { words = ap (λ (k : ℕ). (k, true) ∷ (0, true) ∷ []) n; legal = legal' },
      inl (refl, refl),
      λ found. (ap (λ w. w ++ e ∷ []) (sym same), legal'),
    )
adds_goes log v e old len may legal pre false is =
    let all : log ++ [] ≡ log = append-nil log in
    let legal' : IsLegal (log ++ []) = subst IsLegal (sym all) legal in
    let n : either (length log == old) (old + 1) (length log) ≡ length (log ++ []) = rw is (ap length (sym all)) in (
      keeps,
      [],
      None,
      tt,
      record { words = ap (λ (k : ℕ). (k, true) ∷ (0, true) ∷ []) n; legal = legal' },
      inl (refl, refl),
      λ found. absurd (grind (arith, nat_tests)),
    )

-- whatever the history is, the exchange adds the edition to all that was seen, or finds another length
pub adds_moves : (v : List Edition) (e : Edition) (old : ℕ) → length v ≡ old → Follows (newest v) e
    → Moves IsLogged shown moved 0 (v, (no_nib, None)) (λ n. either (n == old) (old + 1) n) (AddsEdition (step 0 old (old + 1) e) (v, (no_nib, None)))
adds_moves v e old len may cs log kept pre away =
    let P : List Cell → Type 0 = λ c. (0 < length c) × ((cell c 0).1 ≡ true) × Goes IsLogged shown moved 0 (v, (no_nib, None)) (λ n. either (n == old) (old + 1) n) (AddsEdition (step 0 old (old + 1) e) (v, (no_nib, None))) c log in
    subst P (sym kept.words) (omega arith, refl, adds_goes log v e old len may kept.legal pre (length log == old) refl)
