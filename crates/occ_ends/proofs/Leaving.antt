-- Which processes are left, whom others are not to release, and the greatest closed set.
use Rattle.std.proofs.Common.{◌≡◌, ◌∙◌, ◌⊎◌, inl, inr, refl, sym, ap, subst, Bool, true, false, IsTrue, IsFalse, ℕ, zero, suc, ◌+◌, ◌<◌, ◌≤◌, List, [], ◌∷◌, Option, Some, None, get_or, length, map, drop, arith}
use Rattle.std.proofs.lemmas.List.{length-map}
use Rattle.std.specs.Prelude.{nat_eq, not, replicate, slice_get, slice_set, ◌&&◌, ◌||◌}
use Rattle.std.specs.Option.{MatchOption}
use mathlib.Core.Bool.{true≢false}
use Rattle.occ_term.specs.Frames.{is_held}
use Rattle.occ_term.specs.Uses.{Numbers, Uses}
use Rattle.occ_machine.specs.declared.task.Arm.{Arm}
use Rattle.occ_machine.specs.declared.task.Task.{Task}
use Rattle.occ_machine.specs.declared.task.Wait.{Wait}
use Rattle.occ_machine.specs.declared.task.Wait.TheVariants.{Ready, Took, Offers, Awaits, Chooses, Joins, Halted, Done, Faulted}
use Rattle.occ_net_replay.specs.Replay.{HasTask, Tasks, is_done}
use Rattle.occ_net_replay.specs.Waiting.{and_channel, channels_of}
use Rattle.occ_net_replay.proofs.Tables.{or_else, or_first, or_second, set_other}
use Rattle.std.proofs.lemmas.Bool.{eq-eqb, eqb-true}
use Rattle.occ_explore_laws.proofs.Lists.{at_index, get_inside, one_some, same_or_other}
use Rattle.occ_ends.specs.declared.uses.ProcessUses.{ProcessUses}
use Rattle.occ_ends.specs.Ends.{Using, is_unended, noted_for, task_is}
use Rattle.occ_ends.specs.Endless.{flag, is_set}
use Rattle.occ_ends.specs.Kinds.{AreThose, is_at_channel, those}
use Rattle.occ_ends.specs.ForGood.{ClearsWithin, HasLeft, HasProcesses, IsClosedSet, IsLeftWithin, IsOutside, IsWithin, NoneWithin, OutWithAll, Set, StandsInSet, StaysInside, arm_used, arms_used, branch_left, is_left_by, some_left, task_is_left, used_outside, waits_at}
use Rattle.occ_ends.proofs.ClosedSets.{read_mapped}
use Rattle.occ_ends.proofs.LeftOnes.{held_those, tested, test_of, those_held, those_rise}
use Rattle.occ_ends.proofs.Listing.{noted_next, noted_past}
use Rattle.occ_ends.proofs.Marking.{lt_or_le}
use Rattle.occ_ends.proofs.Unmet.{listens_its, offers_its}

-- ---- small facts

of_both : (a b : Bool) → IsTrue (a && b) → IsTrue a × IsTrue b
of_both true b h = (refl, h)
of_both false b h = absurd (true≢false (sym h))

both : (a b : Bool) → IsTrue a → IsTrue b → IsTrue (a && b)
both true b h k = k
both false b h k = absurd (true≢false (sym h))

not_so : (b : Bool) → not b ≡ true → b ≡ false
not_so true h = absurd (true≢false (sym h))
not_so false h = refl

pub neither : (a b : Bool) → IsFalse (a || b) → IsFalse a × IsFalse b
neither true b h = absurd (true≢false h)
neither false b h = (refl, h)

neither_is : (a b : Bool) → IsFalse a → IsFalse b → (a || b) ≡ false
neither_is true b h k = absurd (true≢false h)
neither_is false b h k = k

pub none_left : {X P : Type 0} (Q : X → Type 0) (r : Option X) → MatchOption r P Q → ((x : X) → r ≡ Some x → ⊥) → P
none_left Q None h other = h
none_left Q (Some x) h other = absurd (other x refl)

pub is_empty : {X : Type 0} (xs : List X) → length xs ≡ 0 → xs ≡ []
is_empty [] e = refl
is_empty (x ∷ xs) e = absurd (omega arith)

pub left_next : (tasks : Tasks) (flags : List Bool) (n : ℕ) (rest others all : List ℕ) → rest ≡ n ∷ others → branch_left tasks flags n ≡ false
    → some_left tasks flags rest ≡ some_left tasks flags all → some_left tasks flags others ≡ some_left tasks flags all
left_next tasks flags n rest others all e here h = ap (λ b. b || some_left tasks flags others) (sym here) ∙ sym (ap (some_left tasks flags) e) ∙ h

pub left_none : (tasks : Tasks) (flags : List Bool) (rest all : List ℕ) → rest ≡ [] → some_left tasks flags rest ≡ some_left tasks flags all → false ≡ some_left tasks flags all
left_none tasks flags rest all e h = sym (ap (some_left tasks flags) e) ∙ h

pub left_here : (tasks : Tasks) (flags : List Bool) (n : ℕ) (rest others all : List ℕ) → rest ≡ n ∷ others → branch_left tasks flags n ≡ true
    → some_left tasks flags rest ≡ some_left tasks flags all → true ≡ some_left tasks flags all
left_here tasks flags n rest others all e here h = ap (λ b. b || some_left tasks flags others) (sym here) ∙ sym (ap (some_left tasks flags) e) ∙ h

-- ---- who is outside, and may use a channel

-- one of these processes that is not flagged, and has such a use
pub record UsesOutside (kind : Uses → Numbers) (us : List Using) (flags : List Bool) (c : ℕ) : Type 0 where
  pub process : Using
  pub place : ℕ
  pub there : slice_get us place ≡ Some process
  pub out : IsFalse (flag flags process.number)
  pub has : IsTrue (kind process.uses c)

module _ (kind : Uses → Numbers) (flags : List Bool) (c : ℕ) where
  used_is : (us : List Using) → IsTrue (used_outside kind us flags c) → UsesOutside kind us flags c
  used_is [] h = absurd (true≢false (sym h))
  used_is (x ∷ us) h = by (or_else (not (flag flags x.number) && kind x.uses c) (used_outside kind us flags c) h) (used_is us)
    where
      by : IsTrue (not (flag flags x.number) && kind x.uses c) ⊎ IsTrue (used_outside kind us flags c) → (IsTrue (used_outside kind us flags c) → UsesOutside kind us flags c) → UsesOutside kind (x ∷ us) flags c
      by (inl e) again = let q = of_both (not (flag flags x.number)) (kind x.uses c) e in record { process = x; place = 0; there = refl; out = not_so (flag flags x.number) q.0; has = q.1 }
      by (inr e) again = let y = again e in record { process = y.process; place = suc y.place; there = y.there; out = y.out; has = y.has }

  not_used : (us : List Using) → IsFalse (used_outside kind us flags c) → (k : ℕ) (x : Using) → slice_get us k ≡ Some x → IsFalse (flag flags x.number) → IsFalse (kind x.uses c)
  not_used [] h k x there out = absurd cc
  not_used (y ∷ us) h zero x there out = subst (λ z. IsFalse (kind z.uses c)) (one_some there) (by (flag flags y.number) refl (kind y.uses c) refl)
    where
      by : (a : Bool) → flag flags y.number ≡ a → (b : Bool) → kind y.uses c ≡ b → IsFalse (kind y.uses c)
      by a e false f = f
      by true e true f = absurd (true≢false (sym e ∙ (ap (λ z. flag flags z.number) (one_some there) ∙ out)))
      by false e true f = absurd (true≢false (sym (ap (λ a. (not a && kind y.uses c) || used_outside kind us flags c) e ∙ ap (λ b. b || used_outside kind us flags c) f) ∙ h))
  not_used (y ∷ us) h (suc k) x there out = not_used us (rest (not (flag flags y.number) && kind y.uses c) h) k x there out
    where
      rest : (a : Bool) → IsFalse (a || used_outside kind us flags c) → IsFalse (used_outside kind us flags c)
      rest true h = absurd (true≢false h)
      rest false h = h

  -- a loop's steps
  pub used_next : (ps : List ProcessUses) (i : ℕ) (p : ProcessUses) → i < length ps → p ≡ get_or ps i p → (not (flag flags p.number) && kind (noted_for p).uses c) ≡ false
      → used_outside kind (map noted_for ps) flags c ≡ used_outside kind (map noted_for (drop i ps)) flags c → used_outside kind (map noted_for ps) flags c ≡ used_outside kind (map noted_for (drop (i + 1) ps)) flags c
  used_next ps i p lt is none h =
      h ∙ ap (λ l. used_outside kind l flags c) (noted_next ps i (i + 1) p refl lt is) ∙ ap (λ b. b || used_outside kind (map noted_for (drop (i + 1) ps)) flags c) none

  pub used_here : (ps : List ProcessUses) (i : ℕ) (p : ProcessUses) → i < length ps → p ≡ get_or ps i p → (not (flag flags p.number) && kind (noted_for p).uses c) ≡ true
      → used_outside kind (map noted_for ps) flags c ≡ used_outside kind (map noted_for (drop i ps)) flags c → true ≡ used_outside kind (map noted_for ps) flags c
  used_here ps i p lt is some h =
      sym (h ∙ ap (λ l. used_outside kind l flags c) (noted_next ps i (i + 1) p refl lt is) ∙ ap (λ b. b || used_outside kind (map noted_for (drop (i + 1) ps)) flags c) some)

  pub used_none : (ps : List ProcessUses) (i : ℕ) → length ps ≤ i → used_outside kind (map noted_for ps) flags c ≡ used_outside kind (map noted_for (drop i ps)) flags c → false ≡ used_outside kind (map noted_for ps) flags c
  used_none ps i past h = sym (h ∙ ap (λ l. used_outside kind l flags c) (noted_past ps i past))

-- ---- loops

pub record AreWholeTo (flags : List Bool) (us : List Using) (i : ℕ) : Type 0 where
  pub whole : (k : ℕ) (x : Using) → k < i → slice_get us k ≡ Some x → OutWithAll flags x.number x.within

pub whole_first : (flags : List Bool) (us : List Using) → AreWholeTo flags us 0
whole_first flags us = record { whole = λ k x lt there. absurd (omega (arith, lt)) }

pub whole_next : (flags : List Bool) (ps : List ProcessUses) (i : ℕ) (p : ProcessUses) → i < length ps → p ≡ get_or ps i p → OutWithAll flags p.number p.within
    → AreWholeTo flags (map noted_for ps) i → AreWholeTo flags (map noted_for ps) (i + 1)
whole_next flags ps i p within is one before = record { whole = λ k x lt there. by k x there (lt_or_le k i) lt }
  where
    here : slice_get (map noted_for ps) i ≡ Some (noted_for p)
    here = read_mapped noted_for ps i p (at_index ps i p within is)

    by : (k : ℕ) (x : Using) → slice_get (map noted_for ps) k ≡ Some x → (k < i) ⊎ (i ≤ k) → k < i + 1 → OutWithAll flags x.number x.within
    by k x there (inl less) lt = before.whole k x less there
    by k x there (inr le) lt =
        let same : k ≡ i = omega (arith, lt, le) in
        let x_is : noted_for p ≡ x = one_some (sym here ∙ subst (λ z. slice_get (map noted_for ps) z ≡ Some x) same there) in
        subst (λ y. OutWithAll flags y.number y.within) x_is one

pub whole_all : (flags : List Bool) (ps : List ProcessUses) (i : ℕ) → length ps ≤ i → AreWholeTo flags (map noted_for ps) i → (x : Using) → IsOutside (map noted_for ps) (flag flags) x → NoneWithin flags x.number x.within
whole_all flags ps i past h x out =
    let inside = get_inside (map noted_for ps) out.place x out.there in
    h.whole out.place x (omega (arith, inside, past, length-map ps noted_for)) out.there out.out

-- ---- a closed set

module _ (us : List Using) (tasks : Tasks) (flags : List Bool) where
  -- of arms of whose channels none is used outside
  of_arms : (arms : List Arm) (c : ℕ) → IsFalse (arms_used us flags arms) → IsTrue (is_held (channels_of arms) c) → IsFalse (used_outside (λ u. u.outs) us flags c)
  of_arms [] c h q = absurd (true≢false (sym q))
  of_arms (a ∷ arms) c h q = let none = neither (arm_used us flags a.chan) (arms_used us flags arms) h in by a.chan none.0 q (of_arms arms c none.1)
    where
      by : (chan : Option ℕ) → IsFalse (arm_used us flags chan) → IsTrue (is_held (and_channel chan (channels_of arms)) c) → (IsTrue (is_held (channels_of arms) c) → IsFalse (used_outside (λ u. u.outs) us flags c)) → IsFalse (used_outside (λ u. u.outs) us flags c)
      by None h q later = later q
      by (Some k) h q later = elim (or_else (nat_eq k c) (is_held (channels_of arms) c) q) [ inl e ↦ subst (λ z. IsFalse (used_outside (λ u. u.outs) us flags z)) (eqb-true k c e) h | inr e ↦ later e ]

  has_left : (ns : List ℕ) → IsTrue (some_left tasks flags ns) → HasLeft tasks (flag flags) ns
  has_left [] h = absurd (true≢false (sym h))
  has_left (n ∷ ns) h = by (or_else (flag flags n && task_is is_unended (slice_get tasks n)) (some_left tasks flags ns) h) (has_left ns)
    where
      by : IsTrue (flag flags n && task_is is_unended (slice_get tasks n)) ⊎ IsTrue (some_left tasks flags ns) → (IsTrue (some_left tasks flags ns) → HasLeft tasks (flag flags) ns) → HasLeft tasks (flag flags) (n ∷ ns)
      by (inl e) again =
          let q = of_both (flag flags n) (task_is is_unended (slice_get tasks n)) e in
          let t = tested is_unended tasks n (slice_get tasks n) refl q.1 in
          record { number = n; task = t.task; held = or_first (nat_eq n n) (is_held ns n) (eq-eqb n n refl); inside = q.0; there = t.there; unended = not_so (is_done t.task.wait) t.is }
      by (inr e) again =
          let x = again e in
          record { number = x.number; task = x.task; held = or_second (nat_eq n x.number) (is_held ns x.number) x.held; inside = x.inside; there = x.there; unended = x.unended }

  unused : (kind : Uses → Numbers) (c : ℕ) → IsFalse (used_outside kind us flags c) → (x : Using) → IsOutside us (flag flags) x → IsFalse (kind x.uses c)
  unused kind c h x out = not_used kind flags c us h out.place x out.there out.out

  left_within : (w : Wait) → IsTrue (is_left_by tasks us flags w) → IsLeftWithin us tasks (flag flags) w
  left_within Ready h = absurd (true≢false (sym h))
  left_within (Took arm is m) h = absurd (true≢false (sym h))
  left_within (Offers k m) h =
      record {
        still = refl;
        unread = λ x c out e. unused (λ u. u.ins) c (subst (λ z. IsFalse (used_outside (λ u. u.ins) us flags z)) (eqb-true k c e) (not_so (used_outside (λ u. u.ins) us flags k) h)) x out;
        unwritten = λ x c out e. absurd (true≢false (sym e));
        unjoined = λ ns e. absurd cc;
      }
  left_within (Awaits k) h =
      record {
        still = refl;
        unread = λ x c out e. absurd (true≢false (sym e));
        unwritten = λ x c out e.
            elim (or_else (nat_eq k c) false e) [
              | inl q ↦ unused (λ u. u.outs) c (subst (λ z. IsFalse (used_outside (λ u. u.outs) us flags z)) (eqb-true k c q) (not_so (used_outside (λ u. u.outs) us flags k) h)) x out
              | inr q ↦ absurd (true≢false (sym q))
            ];
        unjoined = λ ns e. absurd cc;
      }
  left_within (Chooses pri arms) h =
      record {
        still = refl;
        unread = λ x c out e. absurd (true≢false (sym e));
        unwritten = λ x c out e. unused (λ u. u.outs) c (of_arms arms c (not_so (arms_used us flags arms) h) e) x out;
        unjoined = λ ns e. absurd cc;
      }
  left_within (Joins ms) h = record { still = refl; unread = λ x c out e. absurd (true≢false (sym e)); unwritten = λ x c out e. absurd (true≢false (sym e)); unjoined = λ ns e. subst (HasLeft tasks (flag flags)) (joined e) (has_left ms h) }
    where
      joined : {ks ls : List ℕ} → Joins ks ≡ Joins ls → ks ≡ ls
      joined e = cc
  left_within Halted h = record { still = refl; unread = λ x c out e. absurd (true≢false (sym e)); unwritten = λ x c out e. absurd (true≢false (sym e)); unjoined = λ ns e. absurd cc }
  left_within Done h = record { still = refl; unread = λ x c out e. absurd (true≢false (sym e)); unwritten = λ x c out e. absurd (true≢false (sym e)); unjoined = λ ns e. absurd cc }
  left_within (Faulted f) h = record { still = refl; unread = λ x c out e. absurd (true≢false (sym e)); unwritten = λ x c out e. absurd (true≢false (sym e)); unjoined = λ ns e. absurd cc }

  pub unset_past : (fs : List Bool) (n : ℕ) → length fs ≤ n → flag fs n ≡ false
  unset_past [] n h = refl
  unset_past (f ∷ fs) zero h = absurd (omega (arith, h))
  unset_past (f ∷ fs) (suc n) h = unset_past fs n (omega (arith, h))

  pub closed_by : (count : ℕ) → length flags ≤ count → ((n : ℕ) → n < count → IsTrue (flag flags n) → IsTrue (task_is_left tasks us flags (slice_get tasks n)))
      → ((x : Using) → IsOutside us (flag flags) x → NoneWithin flags x.number x.within) → IsClosedSet us tasks (flag flags)
  closed_by count many left whole =
      record {
        left = λ n t inside there. left_within t.wait (sym (ap (task_is_left tasks us flags) there) ∙ left n (below n inside (lt_or_le n count)) inside);
        whole = λ x n out lo hi. whole x out n lo hi;
      }
    where
      below : (n : ℕ) → IsTrue (flag flags n) → (n < count) ⊎ (count ≤ n) → n < count
      below n h (inl lt) = lt
      below n h (inr le) = absurd (true≢false (sym h ∙ unset_past flags n (omega (arith, many, le))))

-- ---- a closed set that is within the flagged ones

module _ (us : List Using) (tasks : Tasks) (flags : List Bool) (set : Set) (closed : IsClosedSet us tasks set) (within : IsWithin set (flag flags)) where
  -- who is not flagged is not of the set
  out_of : (n : ℕ) → IsFalse (flag flags n) → IsFalse (set n)
  out_of n h = by (set n) refl
    where
      by : (b : Bool) → set n ≡ b → IsFalse b
      by false e = refl
      by true e = absurd (true≢false (sym (within n e) ∙ h))

  outside : (kind : Uses → Numbers) (c : ℕ) (y : UsesOutside kind us flags c) → IsOutside us set y.process
  outside kind c y = record { place = y.place; there = y.there; out = out_of y.process.number y.out }

  none_used : (kind : Uses → Numbers) (c : ℕ) → ((x : Using) → IsOutside us set x → IsFalse (kind x.uses c)) → IsTrue (not (used_outside kind us flags c))
  none_used kind c h = by (used_outside kind us flags c) refl
    where
      by : (b : Bool) → used_outside kind us flags c ≡ b → IsTrue (not b)
      by false e = refl
      by true e = let y = used_is kind flags c us e in absurd (true≢false (sym y.has ∙ h y.process (outside kind c y)))

  no_arms : (arms : List Arm) → ((x : Using) (c : ℕ) → IsOutside us set x → IsTrue (is_held (channels_of arms) c) → IsFalse (x.uses.outs c)) → IsTrue (not (arms_used us flags arms))
  no_arms [] h = refl
  no_arms (a ∷ arms) h = ap not (neither_is (arm_used us flags a.chan) (arms_used us flags arms) (first a.chan h) (not_so (arms_used us flags arms) (no_arms arms (λ x c out q. h x c out (later a.chan c q)))))
    where
      later : (chan : Option ℕ) (c : ℕ) → IsTrue (is_held (channels_of arms) c) → IsTrue (is_held (and_channel chan (channels_of arms)) c)
      later None c q = q
      later (Some k) c q = or_second (nat_eq k c) (is_held (channels_of arms) c) q

      first : (chan : Option ℕ) → ((x : Using) (c : ℕ) → IsOutside us set x → IsTrue (is_held (and_channel chan (channels_of arms)) c) → IsFalse (x.uses.outs c)) → IsFalse (arm_used us flags chan)
      first None h = refl
      first (Some k) h = not_so (used_outside (λ u. u.outs) us flags k) (none_used (λ u. u.outs) k (λ x out. h x k out (or_first (nat_eq k k) (is_held (channels_of arms) k) (eq-eqb k k refl))))

  some_is_left : (ns : List ℕ) (n : ℕ) (t : Task) → IsTrue (is_held ns n) → IsTrue (flag flags n) → HasTask tasks n t → IsFalse (is_done t.wait) → IsTrue (some_left tasks flags ns)
  some_is_left [] n t held inside there unended = absurd (true≢false (sym held))
  some_is_left (m ∷ ns) n t held inside there unended =
      elim (or_else (nat_eq m n) (is_held ns n) held) [
        | inl e ↦ or_first (branch_left tasks flags m) (some_left tasks flags ns) (subst (λ k. IsTrue (branch_left tasks flags k)) (sym (eqb-true m n e)) (both (flag flags n) (task_is is_unended (slice_get tasks n)) inside (test_of is_unended tasks n t there (ap not unended))))
        | inr e ↦ or_second (branch_left tasks flags m) (some_left tasks flags ns) (some_is_left ns n t e inside there unended)
      ]

  left_by : (w : Wait) → IsLeftWithin us tasks set w → IsTrue (is_left_by tasks us flags w)
  left_by Ready y = absurd (true≢false y.still)
  left_by (Took arm is m) y = absurd (true≢false y.still)
  left_by (Offers k m) y = none_used (λ u. u.ins) k (λ x out. y.unread x k out (offers_its k m))
  left_by (Awaits k) y = none_used (λ u. u.outs) k (λ x out. y.unwritten x k out (listens_its k))
  left_by (Chooses pri arms) y = no_arms arms y.unwritten
  left_by (Joins ns) y = let x = y.unjoined ns refl in some_is_left ns x.number x.task x.held (within x.number x.inside) x.there x.unended
  left_by Halted y = refl
  left_by Done y = refl
  left_by (Faulted e) y = refl

  pub is_left_of : (n : ℕ) → IsTrue (set n) → IsTrue (task_is_left tasks us flags (slice_get tasks n))
  is_left_of n inside = by (slice_get tasks n) refl
    where
      by : (x : Option (Option Task)) → slice_get tasks n ≡ x → IsTrue (task_is_left tasks us flags x)
      by None e = refl
      by (Some None) e = refl
      by (Some (Some t)) e = left_by t.wait (closed.left n t inside e)

-- one that is not left is left out
pub stays_without : (us : List Using) (tasks : Tasks) (flags : List Bool) (n : ℕ) → task_is_left tasks us flags (slice_get tasks n) ≡ false → StaysInside us tasks flags (slice_set flags n false)
stays_without us tasks flags n out set closed within k h = by (same_or_other k n)
  where
    by : (k ≡ n) ⊎ (k ≡ n → ⊥) → IsTrue (flag (slice_set flags n false) k)
    by (inl e) = absurd (true≢false (sym (is_left_of us tasks flags set closed within n (subst (λ z. IsTrue (set z)) e h)) ∙ out))
    by (inr apart) = ap is_set (set_other flags n k false apart) ∙ within k h

-- those within one that is outside are left out
pub stays_beside : (us : List Using) (tasks : Tasks) (old new : List Bool) (p : ProcessUses) (place first last : ℕ) → slice_get us place ≡ Some (noted_for p) → flag old p.number ≡ false → first ≡ p.number + 1 → last ≤ p.number + 1 + p.within
    → ClearsWithin first last old new → StaysInside us tasks old new
stays_beside us tasks old new p place first last there out is few clears set closed within k h = by (lt_or_le k first) (lt_or_le k last)
  where
    by : (k < first) ⊎ (first ≤ k) → (k < last) ⊎ (last ≤ k) → IsTrue (flag new k)
    by (inl lt) other = clears k (inl lt) ∙ within k h
    by (inr le) (inr past) = clears k (inr past) ∙ within k h
    by (inr le) (inl near) =
        absurd (true≢false (sym h ∙ closed.whole (noted_for p) k (record { place = place; there = there; out = out_of us tasks old set closed within p.number out }) (omega (arith, is, le)) (omega (arith, near, few))))

pub one_cleared : (flags : List Bool) (place first last k : ℕ) → first ≤ place → place < last → (k < first) ⊎ (last ≤ k) → flag (slice_set flags place false) k ≡ flag flags k
one_cleared flags place first last k from to out = ap is_set (set_other flags place k false (by out))
  where
    by : (k < first) ⊎ (last ≤ k) → k ≡ place → ⊥
    by (inl lt) e = omega (arith, lt, e, from)
    by (inr le) e = omega (arith, le, e, to)

-- ---- the greatest one

pub all_set : (count n : ℕ) → n < count → IsTrue (flag (replicate count true) n)
all_set zero n lt = absurd (omega (arith, lt))
all_set (suc count) zero lt = refl
all_set (suc count) (suc n) lt = all_set count n (omega (arith, lt))

pub all_within : (us : List Using) (tasks : Tasks) (count : ℕ) (flags : List Bool) → flags ≡ replicate count true → length tasks ≡ count → (set : Set) → HasProcesses tasks set → IsClosedSet us tasks set → IsWithin set (flag flags)
all_within us tasks count flags e many set has closed n h = let lt = has n h in subst (λ l. IsTrue (flag l n)) (sym e) (all_set count n (omega (arith, lt, many)))

-- ---- those at channels

pub are_waiting : (tasks : Tasks) (flags : List Bool) (count : ℕ) (ns : List ℕ) → count ≡ length tasks → ns ≡ those (waits_at flags tasks) count → AreThose (StandsInSet (flag flags) tasks) ns
are_waiting tasks flags count ns all is =
    subst (AreThose (StandsInSet (flag flags) tasks)) (sym is)
    (record {
      each = λ n h.
          let y = of_both (flag flags n) (task_is is_at_channel (slice_get tasks n)) (those_held (waits_at flags tasks) count n h).1 in
          let x = tested is_at_channel tasks n (slice_get tasks n) refl y.1 in
          record { inside = y.0; task = x.task; there = x.there; at = x.is };
      all = λ n x.
          let inside = get_inside tasks n (Some x.task) x.there in
          held_those (waits_at flags tasks) count n (omega (arith, inside, all)) (both (flag flags n) (task_is is_at_channel (slice_get tasks n)) x.inside (test_of is_at_channel tasks n x.task x.there x.at));
      rising = those_rise (waits_at flags tasks) count;
    })
