-- The steps keep the rule.
use Rattle.std.proofs.Common.{◌≡◌, ◌≢◌, ℕ, List, [], ◌∷◌, ◌++◌, fold, set, refl, ap, sym, ◌∙◌, subst, ⊎_elim, append_assoc, Result, Ok, Err, MatchResult}
use Rattle.std.proofs.lemmas.List.{append-nil}
use mathlib.Core.List.{IsPrefix}
use mathlib.Core.Option.{some}
use lib.ListN.{get_elem?}
use Rattle.atomic_table.proofs.Lists.{at_set, at_snoc}
use Rattle.occ_term.specs.Runs.{Entry}
use Rattle.logbook.specs.Pages.{Book}
use Rattle.occ_board.specs.Editions.{Reached, reached, edition}
use Rattle.occ_board.specs.declared.trace.Change.{Change}
use Rattle.occ_board.specs.declared.trace.Change.TheVariants.{Show, Reach}
use Rattle.occ_board.specs.Rules.{KeepsViews, EntersView}
use Rattle.occ_board.specs.Traces.{applied_to, added, IsAhead}
use Rattle.occ_board.proofs.Prefixes.{prefix_self, prefix_trans, prefix_more}

-- a new watcher has seen nothing
pub admits : (b : Book) (may : List Entry → Type 0) (xs : List Entry) (f : Reached) (views : List (List Entry)) → KeepsViews b may xs f views → KeepsViews b may xs f (views ++ [] ∷ [])
admits b may xs f views k =
    (k.0, k.1, k.2, λ seat v at. ⊎_elim (k.3 seat v) (λ (new : [] ≡ v). subst (λ (l : List Entry). IsPrefix l xs) new (xs, refl)) (at_snoc views [] v seat at))

-- what is shown goes from xs to ys, which begins with xs, and one seat sees it
pub steps : (b : Book) (may : List Entry → Type 0) (seat : ℕ) (v xs ys : List Entry) (d f : Reached) → IsPrefix xs ys → f.book ≡ b → f.edition.entries ≡ ys → may ys
    → (views : List (List Entry)) → KeepsViews b may xs d views → get_elem? views seat ≡ some v
    → (w : List Entry) × KeepsViews b may ys f (set views seat w) × EntersView b may v xs ys f w
steps b may seat v xs ys d f up of is shows views k at = (
  ys,
  (
    of,
    is,
    shows,
    λ j u there. ⊎_elim (λ (t : (j ≡ seat) × (ys ≡ u)). subst (λ (l : List Entry). IsPrefix l ys) t.1 (prefix_self ys))
        (λ (t : (j ≢ seat) × (get_elem? views j ≡ some u)). prefix_trans u xs ys (k.3 j u t.1) up) (at_set views seat j ys u there),
  ),
  (k.3 seat v at, refl, of, is, shows),
)

pub added_append : (cs ds : List Change) → added (cs ++ ds) ≡ added cs ++ added ds
added_append [] ds = refl
added_append (Show s ∷ cs) ds = ap (λ l. s ∷ l) (added_append cs ds)
added_append (Reach f ∷ cs) ds = added_append cs ds

-- the changes add their entries, and the last one sets the edition
pub applies : (xs : List Entry) (d : Reached) (cs : List Change) (f : Reached) → fold applied_to (xs, d) (cs ++ Reach f ∷ []) ≡ (xs ++ added cs, f)
applies xs d [] f = ap (λ l. (l, f)) (sym (append-nil xs))
applies xs d (Show s ∷ cs) f = applies (xs ++ s ∷ []) d cs f ∙ ap (λ l. (l, f)) (append_assoc xs (s ∷ []) (added cs))
applies xs d (Reach c ∷ cs) f = applies xs c cs f

-- all that was pending is shown
pub ahead_shown : (b : Book) (ps pending : List Entry) (shown next : Reached) → shown ≡ next → next.book ≡ b → next.edition.entries ≡ ps → pending ≡ [] → IsAhead b ps pending shown next
ahead_shown b ps pending shown next is of entries none =
    (is ∙ (ap (λ (x : Book). reached x next.edition) of ∙ ap (λ (l : List Entry). reached b (edition l next.edition.last)) entries), of, subst (λ (l : List Entry). IsPrefix next.edition.entries (ps ++ l)) (sym none) (prefix_more next.edition.entries ps [] ([], append-nil next.edition.entries ∙ entries)))

-- nothing more is shown, and the history has all that is pending
pub ahead_kept : (b : Book) (ps pending : List Entry) (shown front next : Reached) → IsAhead b ps pending shown front → next ≡ reached b (edition (ps ++ pending) front.edition.last)
    → IsAhead b ps pending shown next
ahead_kept b ps pending shown front next ahead is =
    (ahead.0 ∙ ap (λ (r : Reached). reached b (edition ps r.edition.last)) (sym is), ap (λ (r : Reached). r.book) is, subst (λ (r : Reached). IsPrefix r.edition.entries (ps ++ pending)) (sym is) (prefix_self (ps ++ pending)))

-- more is pending
pub ahead_more : (b : Book) (ps pending more : List Entry) (shown front : Reached) → IsAhead b ps pending shown front → IsAhead b ps (pending ++ more) shown front
ahead_more b ps pending more shown front ahead =
    (ahead.0, ahead.1, subst (λ (l : List Entry). IsPrefix front.edition.entries l) (append_assoc ps pending more) (prefix_more front.edition.entries (ps ++ pending) more ahead.2))

pub at_err : {A E : Type 0} (r : Result A E) (e : E) (P Q : Type 0) → r ≡ Err e → MatchResult r (λ _. P) (λ _. Q) → Q
at_err (Ok x) e P Q is m = absurd (cc is)
at_err (Err x) e P Q is m = m
