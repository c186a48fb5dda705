-- Where columns stand.
use Rattle.std.proofs.Common.{◌≡◌, ◌∙◌, ◌∷◌, ◌+◌, ◌-◌, ◌++◌, ◌<◌, ◌≤◌, ◌⊎◌, inl, inr, [], Bool, List, ℕ, ap, arith, false, get_or, length, refl, subst, sym, true}
use Rattle.std.specs.Prelude.{if◌then◌else◌, max, nat_eq, nat_lt, slice_get, unwrap_or, ◌&&◌}
use Rattle.std.proofs.lemmas.Bool.{ltb-false, ltb-true}
use Rattle.std.proofs.lemmas.Option.{unwrap_or-slice_get}
use Rattle.std.proofs.Math.ListN.{get_or-append}
use Rattle.std.proofs.Math.Seq.{get_or-append_seam}
use Rattle.occ_chart.specs.declared.reaches.Reach.{Reach}
use Rattle.occ_chart.specs.Heads.{ColumnHead}
use Rattle.occ_chart.specs.Places.{apart_for, behind, behind_arrow, behind_arrows, feet_apart, foot_rows, head_rows, heads_apart, nearest, place_at}

greatest : (p v r : ℕ) → max (max p v) r ≡ max p (max v r)
greatest p v r = omega arith

-- a loop's step: the words of one more arrow
pub one_more : (places : List ℕ) (k p q w : ℕ) (s : Reach) (ss rest : List Reach) → rest ≡ s ∷ ss → q ≡ max p (behind_arrow places k s) → max p (behind_arrows places k rest) ≡ w
    → max q (behind_arrows places k ss) ≡ w
one_more places k p q w s ss rest split is h =
    ap (λ n. max n (behind_arrows places k ss)) is ∙ greatest p (behind_arrow places k s) (behind_arrows places k ss) ∙ sym (ap (λ l. max p (behind_arrows places k l)) split) ∙ h

-- ---- one more place behind the others leaves those before it where they are

place_kept : (places : List ℕ) (p k : ℕ) → k < length places → place_at (places ++ p ∷ []) k ≡ place_at places k
place_kept places p k within = unwrap_or-slice_get (places ++ p ∷ []) k 0 ∙ get_or-append places (p ∷ []) 0 k within ∙ sym (unwrap_or-slice_get places k 0)

place_added : (places : List ℕ) (p : ℕ) → place_at (places ++ p ∷ []) (length places) ≡ p
place_added places p = unwrap_or-slice_get (places ++ p ∷ []) (length places) 0 ∙ get_or-append_seam places p [] 0

behind_kept : (places : List ℕ) (p k back letters : ℕ) → 0 < back → k ≤ length places → behind (places ++ p ∷ []) k back letters ≡ behind places k back letters
behind_kept places p k back letters some within = by (nat_lt k back) refl
  where
    by : (b : Bool) → nat_lt k back ≡ b → (if b then 12 else place_at (places ++ p ∷ []) (k - back) + letters) ≡ (if b then 12 else place_at places (k - back) + letters)
    by true h = refl
    by false h = ap (λ n. n + letters) (place_kept places p (k - back) (let past = ltb-false k back h in omega (arith, some, within, past)))

arrow_kept : (places : List ℕ) (p k : ℕ) (s : Reach) → k ≤ length places → behind_arrow (places ++ p ∷ []) k s ≡ behind_arrow places k s
arrow_kept places p k s within = by (nat_eq s.right k) (nat_lt s.left k) refl
  where
    by : (a b : Bool) → nat_lt s.left k ≡ b
        → (if a && b then place_at (places ++ p ∷ []) s.left + apart_for s.letters else 0) ≡ (if a && b then place_at places s.left + apart_for s.letters else 0)
    by true true h = ap (λ n. n + apart_for s.letters) (place_kept places p s.left (let less = ltb-true s.left k h in omega (arith, within, less)))
    by true false h = refl
    by false b h = refl

arrows_kept : (places : List ℕ) (p k : ℕ) (ss : List Reach) → k ≤ length places → behind_arrows (places ++ p ∷ []) k ss ≡ behind_arrows places k ss
arrows_kept places p k [] within = refl
arrows_kept places p k (s ∷ ss) within =
    ap (λ n. max n (behind_arrows (places ++ p ∷ []) k ss)) (arrow_kept places p k s within) ∙ ap (λ n. max (behind_arrow places k s) n) (arrows_kept places p k ss within)

words_kept : (close : Bool) (places : List ℕ) (p k : ℕ) (ss : List Reach) → k ≤ length places
    → (if close then 0 else behind_arrows (places ++ p ∷ []) k ss) ≡ (if close then 0 else behind_arrows places k ss)
words_kept true places p k ss within = refl
words_kept false places p k ss within = arrows_kept places p k ss within

nearest_kept : (close : Bool) (ss : List Reach) (hs : List ColumnHead) (places : List ℕ) (p k : ℕ) → k ≤ length places → nearest close ss hs (places ++ p ∷ []) k ≡ nearest close ss hs places k
nearest_kept close ss hs places p k within =
    let one = behind_kept places p k 1 4 (omega arith) within in
    let over = behind_kept places p k (head_rows close) (heads_apart hs (k - head_rows close) k) (omega arith) within in
    let under = behind_kept places p k (foot_rows close) (feet_apart hs (k - foot_rows close) k) (omega arith) within in
    let words = words_kept close places p k ss within in
    let new : List ℕ = places ++ p ∷ [] in
    ap (λ n. max (max n (behind new k (head_rows close) (heads_apart hs (k - head_rows close) k))) (max (behind new k (foot_rows close) (feet_apart hs (k - foot_rows close) k)) (if close then 0 else behind_arrows new k ss))) one
    ∙ ap (λ n. max (max (behind places k 1 4) n) (max (behind new k (foot_rows close) (feet_apart hs (k - foot_rows close) k)) (if close then 0 else behind_arrows new k ss))) over
    ∙ ap (λ n. max (max (behind places k 1 4) (behind places k (head_rows close) (heads_apart hs (k - head_rows close) k))) (max n (if close then 0 else behind_arrows new k ss))) under
    ∙ ap (λ n. max (max (behind places k 1 4) (behind places k (head_rows close) (heads_apart hs (k - head_rows close) k))) (max (behind places k (foot_rows close) (feet_apart hs (k - foot_rows close) k)) n)) words

-- a loop's step: one more column has its place
pub next_near : (close : Bool) (ss : List Reach) (hs : List ColumnHead) (places given new : List ℕ) (p n : ℕ) → length places ≡ n → given ≡ places → p ≡ nearest close ss hs given n → new ≡ places ++ p ∷ []
    → ((k : ℕ) → k < n → place_at places k ≡ nearest close ss hs places k)
    → (k : ℕ) → k < n + 1 → place_at new k ≡ nearest close ss hs new k
next_near close ss hs places given new p n many same is put stand k within = subst (λ l. place_at l k ≡ nearest close ss hs l k) (sym put) (by (nat_lt k n) refl)
  where
    by : (b : Bool) → nat_lt k n ≡ b → place_at (places ++ p ∷ []) k ≡ nearest close ss hs (places ++ p ∷ []) k
    by true h =
        let less : k < n = ltb-true k n h in
        place_kept places p k (omega (arith, less, many)) ∙ stand k less ∙ sym (nearest_kept close ss hs places p k (omega (arith, less, many)))
    by false h =
        let past : n ≤ k = ltb-false k n h in
        let there : k ≡ length places = omega (arith, past, within, many) in
        let self : length places ≤ length places = omega arith in
        let last : place_at (places ++ p ∷ []) (length places) ≡ p = place_added places p in
        let own : p ≡ nearest close ss hs places (length places) = is ∙ ap (λ l. nearest close ss hs l n) same ∙ ap (nearest close ss hs places) (sym many) in
        ap (place_at (places ++ p ∷ [])) there ∙ last ∙ own ∙ sym (nearest_kept close ss hs places p (length places) self) ∙ ap (nearest close ss hs (places ++ p ∷ [])) (sym there)
