-- Each step keeps the rule of the tokens.
use Rattle.std.proofs.Common.{◌≡◌, ◌≢◌, ◌⊎◌, ◌∙◌, ℕ, zero, suc, List, [], ◌∷◌, ◌++◌, length, set, Option, Some, None, Bool, true, false, true≢false, inl, inr, refl, sym, ap, subst, ⊎_elim}
use Rattle.std.specs.Prelude.{if◌then◌else◌, nat_eq}
use Rattle.std.proofs.lemmas.Bool.{eqb-true}
use mathlib.Core.Option.{some, some-ne-none, some-injective}
use lib.ListN.{get_elem?}
use Rattle.crossbeam_utils.specs.Register.{Turns, Forks, Merges}
use Rattle.atomic_table.proofs.Lists.{at_set, at_snoc}
use Rattle.occ_machine.specs.declared.task.Task.{Task}
use Rattle.occ_run.specs.declared.tokens.Known.{Known}
use Rattle.occ_run.specs.Tokens.{Among, HaveTurnsApart, AreOthers, Checked, Fits, IsKeeper, KeptTokens, at_end, holder, keeper, left_out, nobody, shown_beside, teller, with_turn, without}

-- ---- lists of turns

pub among_other : (n : ℕ) (ts : List Task) (t : Task) → AreOthers n ts → Among t ts → t.number ≡ n → ⊥
among_other n [] t h a e = a
among_other n (x ∷ ts) t h (inl q) e = h.0 (ap (λ (z : Task). z.number) q ∙ e)
among_other n (x ∷ ts) t h (inr a) e = among_other n ts t h.1 a e

pub among_without : (n : ℕ) (ts : List Task) (t : Task) → Among t ts → (t.number ≡ n → ⊥) → Among t (without n ts)
among_without n [] t a h = a
among_without n (x ∷ ts) t a h = by (nat_eq x.number n) refl a (λ r. among_without n ts t r h)
  where
    by : (b : Bool) → nat_eq x.number n ≡ b → (x ≡ t) ⊎ Among t ts → (Among t ts → Among t (without n ts)) → Among t (if b then without n ts else x ∷ without n ts)
    by true e (inl q) g = absurd (h (ap (λ (z : Task). z.number) (sym q) ∙ eqb-true x.number n e))
    by true e (inr r) g = g r
    by false e (inl q) g = inl q
    by false e (inr r) g = inr (g r)

-- ---- one view changes

off : false ≡ true → ⊥
off e = true≢false (sym e)

none_has : (t : Task) → None ≡ Some t → ⊥
none_has t e = cc

here : (views : List Known) (by j : ℕ) (w u : Known) → get_elem? (set views by w) j ≡ some u → ((j ≡ by) × (w ≡ u)) ⊎ ((j ≢ by) × (get_elem? views j ≡ some u))
here views by j w u e = at_set views by j w u e

fits_set : (seat : ℕ) (out : List Task) (over : Bool) (views : List Known) (by : ℕ) (w : Known) → ((j : ℕ) (u : Known) → j ≢ by → get_elem? views j ≡ some u → Fits seat out over j u) → Fits seat out over by w
    → (j : ℕ) (u : Known) → get_elem? (set views by w) j ≡ some u → Fits seat out over j u
fits_set seat out over views by w others mine j u e = split (at_set views by j w u e)
  where
    split : ((j ≡ by) × (w ≡ u)) ⊎ ((j ≢ by) × (get_elem? views j ≡ some u)) → Fits seat out over j u
    split (inl q) = subst (λ z. Fits seat out over j z) q.1 (subst (λ i. Fits seat out over i w) (sym q.0) mine)
    split (inr q) = others j u q.0 q.1

-- a view that has no turn, or one that has none of another's
apart_set : (views : List Known) (by : ℕ) (w : Known) → HaveTurnsApart views → ((j : ℕ) (v : Known) (t u : Task) → j ≢ by → get_elem? views j ≡ some v → w.has ≡ Some t → v.has ≡ Some u → t.number ≡ u.number → ⊥) → HaveTurnsApart (set views by w)
apart_set views by w apart mine i j v u t s ei ej ht hs e = split (at_set views by i w v ei) (at_set views by j w u ej)
  where
    split : ((i ≡ by) × (w ≡ v)) ⊎ ((i ≢ by) × (get_elem? views i ≡ some v)) → ((j ≡ by) × (w ≡ u)) ⊎ ((j ≢ by) × (get_elem? views j ≡ some u)) → i ≡ j
    split (inl p) (inl q) = p.0 ∙ sym q.0
    split (inl p) (inr q) = absurd (mine j u t s q.0 q.1 (ap (λ (z : Known). z.has) p.1 ∙ ht) hs e)
    split (inr p) (inl q) = absurd (mine i v s t p.0 p.1 (ap (λ (z : Known). z.has) q.1 ∙ hs) ht (sym e))
    split (inr p) (inr q) = apart i j v u t s p.1 q.1 ht hs e

at_end_or : (l : List Known) (a b : Known) (j : ℕ) → get_elem? (l ++ a ∷ []) j ≡ some b → (get_elem? l j ≡ some b) ⊎ ((j ≡ length l) × (a ≡ b))
at_end_or [] a b zero e = inr (refl, some-injective a b e)
at_end_or [] a b (suc j) e = absurd (some-ne-none b (sym e))
at_end_or (x ∷ xs) a b zero e = inl e
at_end_or (x ∷ xs) a b (suc j) e = ⊎_elim (λ h. inl h) (λ h. inr (ap suc h.0, h.1)) (at_end_or xs a b j e)

-- a new view
apart_snoc : (views : List Known) (w : Known) → HaveTurnsApart views → ((j : ℕ) (v : Known) (t u : Task) → get_elem? views j ≡ some v → w.has ≡ Some t → v.has ≡ Some u → t.number ≡ u.number → ⊥) → HaveTurnsApart (views ++ w ∷ [])
apart_snoc views w apart mine i j v u t s ei ej ht hs e = split (at_end_or views w v i ei) (at_end_or views w u j ej)
  where
    split : (get_elem? views i ≡ some v) ⊎ ((i ≡ length views) × (w ≡ v)) → (get_elem? views j ≡ some u) ⊎ ((j ≡ length views) × (w ≡ u)) → i ≡ j
    split (inl p) (inl q) = apart i j v u t s p q ht hs e
    split (inl p) (inr q) = absurd (mine i v s t p (ap (λ (z : Known). z.has) q.1 ∙ hs) ht (sym e))
    split (inr p) (inl q) = absurd (mine j u t s q (ap (λ (z : Known). z.has) p.1 ∙ ht) hs e)
    split (inr p) (inr q) = p.0 ∙ sym q.0

keeps_is : (v : Known) → IsKeeper v → v.keeps ≡ true
keeps_is v k = ap (λ (z : Known). z.keeps) k

has_is : (v : Known) → IsKeeper v → v.has ≡ None
has_is v k = ap (λ (z : Known). z.has) k

-- only one keeps
module _ (seat : ℕ) (out : List Task) (over : Bool) (by : ℕ) (is : by ≡ seat) (j : ℕ) (u : Known) (away : j ≢ by) (f : Fits seat out over j u) where
  pub keeps_not : u.keeps ≡ true → ⊥
  keeps_not k = away ((f.keeps k).0 ∙ sym is)

-- ---- the beginning

pub begins : (words : List ℕ) → KeptTokens words (keeper [] false ∷ [])
begins words = record { seat = 0; out = []; over = false; each = one; apart = alone }
  where
    one : (by : ℕ) (v : Known) → get_elem? (keeper [] false ∷ []) by ≡ some v → Fits 0 [] false by v
    one zero v e = subst (λ z. Fits 0 [] false 0 z) (some-injective _ _ e) (record { keeps = λ _. (refl, refl, refl); has = λ t h. absurd (none_has t h); ended = λ h. h })
    one (suc by) v e = absurd (some-ne-none v (sym e))

    alone : HaveTurnsApart (keeper [] false ∷ [])
    alone zero zero v w t u a b h g e = refl
    alone zero (suc j) v w t u a b h g e = absurd (some-ne-none w (sym b))
    alone (suc i) j v w t u a b h g e = absurd (some-ne-none v (sym a))

-- ---- a turn goes out

pub goes_out : (by : ℕ) (v : Known) (t : Task) → IsKeeper v → AreOthers t.number v.out → Forks KeptTokens by v (with_turn t v) (holder t)
goes_out by v t k apart words views h at =
    record {
      seat = h.seat;
      out = t ∷ h.out;
      over = h.over;
      each = λ j u e. ⊎_elim (λ was. fits_set h.seat (t ∷ h.out) h.over views by w others own j u was) (λ (same : holder t ≡ u). subst (λ z. Fits h.seat (t ∷ h.out) h.over j z) same (new j)) (at_snoc (set views by w) (holder t) u j e);
      apart = apart_snoc (set views by w) (holder t) (apart_set views by w h.apart (λ j u a b away e p q r. none_has a (sym (has_is v k) ∙ p))) last;
    }
  where
    w : Known
    w = with_turn t v

    mine : Fits h.seat h.out h.over by v
    mine = h.each by v at

    known : (by ≡ h.seat) × (v.out ≡ h.out) × (v.over ≡ h.over)
    known = mine.keeps (keeps_is v k)

    others : (j : ℕ) (u : Known) → j ≢ by → get_elem? views j ≡ some u → Fits h.seat (t ∷ h.out) h.over j u
    others j u away e = let f = h.each j u e in record { keeps = λ q. absurd (keeps_not h.seat h.out h.over by known.0 j u away f q); has = λ x q. inr (f.has x q); ended = f.ended }

    own : Fits h.seat (t ∷ h.out) h.over by w
    own = record { keeps = λ _. (known.0, ap (λ ts. t ∷ ts) known.1, known.2); has = λ x q. absurd (none_has x (sym (has_is v k) ∙ q)); ended = mine.ended }

    new : (j : ℕ) → Fits h.seat (t ∷ h.out) h.over j (holder t)
    new j = record { keeps = λ q. absurd (off q); has = λ x q. inl cc; ended = λ q. absurd (off q) }

    last : (j : ℕ) (u : Known) (x y : Task) → get_elem? (set views by w) j ≡ some u → Some t ≡ Some x → u.has ≡ Some y → x.number ≡ y.number → ⊥
    last j u x y e p q r = split (at_set views by j w u e)
      where
        split : ((j ≡ by) × (w ≡ u)) ⊎ ((j ≢ by) × (get_elem? views j ≡ some u)) → ⊥
        split (inl z) = none_has y (sym (has_is v k) ∙ ap (λ (a : Known). a.has) z.1 ∙ q)
        split (inr z) =
            let same : t ≡ x = cc in
            among_other t.number v.out y apart (subst (λ ts. Among y ts) (sym known.1) ((h.each j u z.1).has y q)) (sym r ∙ ap (λ (a : Task). a.number) (sym same))

-- ---- the run is over

pub ends : (by : ℕ) (v : Known) → IsKeeper v → Forks KeptTokens by v (at_end v) teller
ends by v k words views h at =
    record {
      seat = h.seat;
      out = h.out;
      over = true;
      each = λ j u e. ⊎_elim (λ was. fits_set h.seat h.out true views by w others own j u was) (λ (same : teller ≡ u). subst (λ z. Fits h.seat h.out true j z) same (new j)) (at_snoc (set views by w) teller u j e);
      apart = apart_snoc (set views by w) teller (apart_set views by w h.apart (λ j u a b away e p q r. none_has a (sym (has_is v k) ∙ p))) (λ j u a b e p q r. none_has a p);
    }
  where
    w : Known
    w = at_end v

    mine : Fits h.seat h.out h.over by v
    mine = h.each by v at

    known : (by ≡ h.seat) × (v.out ≡ h.out) × (v.over ≡ h.over)
    known = mine.keeps (keeps_is v k)

    others : (j : ℕ) (u : Known) → j ≢ by → get_elem? views j ≡ some u → Fits h.seat h.out true j u
    others j u away e = let f = h.each j u e in record { keeps = λ q. absurd (keeps_not h.seat h.out h.over by known.0 j u away f q); has = f.has; ended = λ _. refl }

    own : Fits h.seat h.out true by w
    own = record { keeps = λ _. (known.0, known.1, refl); has = mine.has; ended = λ _. refl }

    new : (j : ℕ) → Fits h.seat h.out true j teller
    new j = record { keeps = λ q. absurd (off q); has = λ x q. absurd (none_has x q); ended = λ _. refl }

-- ---- a token comes back

pub returns : (by : ℕ) (v : Known) (other : ℕ) (w : Known) → IsKeeper v → Merges KeptTokens by v other w (shown_beside v w) nobody
returns by v other w k words views h at away there =
    record {
      seat = h.seat;
      out = h.out;
      over = h.over;
      each = fits_set h.seat h.out h.over (set views by s) other nobody (λ j u _ e. fits_set h.seat h.out h.over views by s (λ i y _ f. h.each i y f) own j u e) none;
      apart = alone;
    }
  where
    s : Known
    s = shown_beside v w

    mine : Fits h.seat h.out h.over by v
    mine = h.each by v at

    before : get_elem? views other ≡ some w
    before = ⊎_elim (λ (t : (other ≡ by) × (s ≡ w)). absurd (away t.0)) (λ (t : (other ≢ by) × (get_elem? views other ≡ some w)). t.1) (at_set views by other s w there)

    theirs : Fits h.seat h.out h.over other w
    theirs = h.each other w before

    own : Fits h.seat h.out h.over by s
    own = record { keeps = mine.keeps; has = theirs.has; ended = theirs.ended }

    none : Fits h.seat h.out h.over other nobody
    none = record { keeps = λ q. absurd (off q); has = λ x q. absurd (none_has x q); ended = λ q. absurd (off q) }

    -- after the change a view stands where it stood, or it is the keeper's, with the other's turn
    Was : ℕ → Known → Type 0
    Was i u = (i ≢ other) × (((i ≡ by) × (u.has ≡ w.has)) ⊎ (get_elem? views i ≡ some u))

    was : (i : ℕ) (u : Known) (t : Task) → get_elem? (set (set views by s) other nobody) i ≡ some u → u.has ≡ Some t → Was i u
    was i u t e q = split (at_set (set views by s) other i nobody u e)
      where
        inside : i ≢ other → ((i ≡ by) × (s ≡ u)) ⊎ ((i ≢ by) × (get_elem? views i ≡ some u)) → Was i u
        inside n (inl z) = (n, inl (z.0, ap (λ (a : Known). a.has) (sym z.1)))
        inside n (inr z) = (n, inr z.1)

        split : ((i ≡ other) × (nobody ≡ u)) ⊎ ((i ≢ other) × (get_elem? (set views by s) i ≡ some u)) → Was i u
        split (inl z) = absurd (none_has t (ap (λ (a : Known). a.has) z.1 ∙ q))
        split (inr z) = inside z.0 (at_set views by i s u z.1)

    alone : HaveTurnsApart (set (set views by s) other nobody)
    alone i j u y t x ei ej p q e = split (was i u t ei p) (was j y x ej q)
      where
        split : Was i u → Was j y → i ≡ j
        split (n, inl a) (m, inl b) = a.0 ∙ sym b.0
        split (n, inl a) (m, inr b) = absurd (m (sym (h.apart other j w y t x before b (sym a.1 ∙ p) q e)))
        split (n, inr a) (m, inl b) = absurd (n (h.apart i other u w t x a before p (sym b.1 ∙ q) e))
        split (n, inr a) (m, inr b) = h.apart i j u y t x a b p q e

-- ---- what it says is compared

pub checks : (by : ℕ) (v : Known) → v.keeps ≡ true → Turns KeptTokens by v (λ x. x) Checked
checks by v k words views h at =
    let mine : Fits h.seat h.out h.over by v = h.each by v at in
    let known : (by ≡ h.seat) × (v.out ≡ h.out) × (v.over ≡ h.over) = mine.keeps k in (
      keeper (left_out v.has v.out) v.over,
      record {
        seat = h.seat;
        out = left_out v.has h.out;
        over = h.over;
        each = fits_set h.seat (left_out v.has h.out) h.over views by (keeper (left_out v.has v.out) v.over)
            (λ j u away e. let f = h.each j u e in record { keeps = λ q. absurd (keeps_not h.seat h.out h.over by known.0 j u away f q); has = λ t q. left v.has refl j u t away e q (f.has t q); ended = f.ended })
            (record { keeps = λ _. (known.0, ap (left_out v.has) known.1, known.2); has = λ t q. absurd (none_has t q); ended = λ q. absurd (off q) });
        apart = apart_set views by (keeper (left_out v.has v.out) v.over) h.apart (λ j u a b away e p q r. none_has a p);
      },
      record { is = refl; had = λ t q. subst (λ ts. Among t ts) (sym known.1) (mine.has t q); saw = λ q. known.2 ∙ mine.ended q },
    )
  where
    left : (o : Option Task) → v.has ≡ o → (j : ℕ) (u : Known) (t : Task) → j ≢ by → get_elem? views j ≡ some u → u.has ≡ Some t → Among t h.out → Among t (left_out o h.out)
    left None is j u t away e q among = among
    left (Some s) is j u t away e q among = among_without s.number h.out t among (λ same. away (h.apart j by u v t s e at q is same))
