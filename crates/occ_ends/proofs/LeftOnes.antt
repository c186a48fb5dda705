-- Who is left at a stop, and what kind of stop it is.
use Rattle.std.proofs.Common.{◌≡◌, ◌∙◌, ◌⊎◌, inl, inr, refl, sym, ap, subst, Bool, true, false, IsTrue, ℕ, zero, suc, ◌+◌, ◌<◌, ◌≤◌, List, [], ◌∷◌, ◌++◌, Option, Some, None, append-nil, append_assoc, get_or, length, arith}
use Rattle.std.specs.Prelude.{if◌then◌else◌, nat_eq, nat_lt, option_to_list, slice_get, ◌&&◌, ◌||◌, ◌%◌}
use Rattle.std.specs.List.{All}
use Rattle.std.specs.Option.{option_and_then}
use Rattle.std.proofs.lemmas.Nat.{mod_below}
use mathlib.Core.Bool.{true≢false}
use Rattle.occ_term.specs.Frames.{is_held}
use Rattle.occ_term.specs.Uses.{Numbers, Uses}
use Rattle.occ_machine.specs.Compiled.{Program}
use Rattle.occ_machine.specs.Machine.{Body}
use Rattle.occ_machine.specs.SameStop.{AreAbove, IsRising}
use Rattle.occ_machine.specs.declared.task.Arm.{Arm}
use Rattle.occ_machine.specs.declared.task.Task.{Task}
use Rattle.occ_machine.specs.declared.task.Wait.{Wait}
use Rattle.occ_machine.specs.declared.task.Wait.TheVariants.{Ready, Took, Offers, Awaits, Chooses, Joins, Halted, Done, Faulted}
use Rattle.occ_net_replay.specs.Replay.{HasTask, Tasks}
use Rattle.occ_net_replay.proofs.Tables.{or_else, or_first, or_second}
use Rattle.occ_net_tables.proofs.Keys.{first_held}
use Rattle.occ_explore_laws.proofs.Lists.{get_inside, get_some, get_there}
use Rattle.occ_ends.specs.declared.ends.Ends.{Ends}
use Rattle.occ_ends.specs.Ends.{AreDue, Circles, IsCircle, Using, arm_writer, arm_writers, end_noted, is_unended, last_with, of_declared, or_first as first_of, others_noted, others_of, reader_among, reader_due, stands_still, task_is, task_waits_for, unended_among, waits_on, writer_among, writer_due}
use Rattle.occ_ends.specs.Endless.{AreEndless, ComeAgain, flag}
use Rattle.occ_ends.specs.Kinds.{AreThose, HasCircle, IsHalted, IsKind, IsUnfinished, TellsCircle, halts_at, has_halted, is_at_channel, is_left_at, kind_by, others_among, those}
use Rattle.occ_ends.proofs.Rounds.{lt_or_le}

-- ---- members of a list

or_after : (a b c : Bool) → ((a || b) || c) ≡ (a || (b || c))
or_after true b c = refl
or_after false b c = refl

pub held_append : (xs ys : List ℕ) (c : ℕ) → is_held (xs ++ ys) c ≡ (is_held xs c || is_held ys c)
held_append [] ys c = refl
held_append (x ∷ xs) ys c = ap (λ b. nat_eq x c || b) (held_append xs ys c) ∙ sym (or_after (nat_eq x c) (is_held xs c) (is_held ys c))

above_push : (n : ℕ) (ns : List ℕ) (k : ℕ) → AreAbove n ns → n < k → ((m : ℕ) → IsTrue (is_held ns m) → m < k) → AreAbove n (ns ++ k ∷ [])
above_push n [] k a lt all = (lt, tt)
above_push n (x ∷ ns) k a lt all = (a.0, above_push x ns k a.1 (all x (first_held x ns)) (λ m h. all m (or_second (nat_eq x m) (is_held ns m) h)))

rising_push : (ns : List ℕ) (k : ℕ) → IsRising ns → ((m : ℕ) → IsTrue (is_held ns m) → m < k) → IsRising (ns ++ k ∷ [])
rising_push [] k r all = tt
rising_push (x ∷ ns) k r all = above_push x ns k r (all x (first_held x ns)) (λ m h. all m (or_second (nat_eq x m) (is_held ns m) h))

-- ---- those of which a test holds

only_one : (b : Bool) (n k : ℕ) → IsTrue (is_held (if b then n ∷ [] else []) k) → (n ≡ k) × IsTrue b
only_one true n k h = elim (or_else (nat_eq n k) false h) [ inl e ↦ (grind (arith, e), refl) | inr e ↦ absurd (true≢false (sym e)) ]
only_one false n k h = absurd (true≢false (sym h))

pub those_held : (test : ℕ → Bool) (count n : ℕ) → IsTrue (is_held (those test count) n) → (n < count) × IsTrue (test n)
those_held test zero n h = absurd (true≢false (sym h))
those_held test (suc count) n h =
    by (or_else (is_held (those test count) n) (is_held (if test count then count ∷ [] else []) n) (sym (held_append (those test count) (if test count then count ∷ [] else []) n) ∙ h)) (those_held test count n)
  where
    by : IsTrue (is_held (those test count) n) ⊎ IsTrue (is_held (if test count then count ∷ [] else []) n) → (IsTrue (is_held (those test count) n) → (n < count) × IsTrue (test n)) → (n < suc count) × IsTrue (test n)
    by (inl e) again = let x = again e in let lt = x.0 in (omega (arith, lt), x.1)
    by (inr e) again = let x = only_one (test count) count n e in let same = x.0 in (omega (arith, same), subst (λ k. IsTrue (test k)) same x.1)

pub held_those : (test : ℕ → Bool) (count n : ℕ) → n < count → IsTrue (test n) → IsTrue (is_held (those test count) n)
held_those test zero n lt h = absurd (omega (arith, lt))
held_those test (suc count) n lt h = held_append (those test count) (if test count then count ∷ [] else []) n ∙ by (lt_or_le n count) (λ less. held_those test count n less h)
  where
    by : (n < count) ⊎ (count ≤ n) → (n < count → IsTrue (is_held (those test count) n)) → IsTrue (is_held (those test count) n || is_held (if test count then count ∷ [] else []) n)
    by (inl less) again = or_first (is_held (those test count) n) (is_held (if test count then count ∷ [] else []) n) (again less)
    by (inr le) again =
        let same : n ≡ count = omega (arith, lt, le) in
        or_second (is_held (those test count) n) (is_held (if test count then count ∷ [] else []) n)
        (subst (λ k. IsTrue (is_held (if test k then k ∷ [] else []) n)) same (ap (λ b. is_held (if b then n ∷ [] else []) n) h ∙ first_held n []))

pub those_rise : (test : ℕ → Bool) (count : ℕ) → IsRising (those test count)
those_rise test zero = tt
those_rise test (suc count) = by (test count) (those_rise test count)
  where
    by : (b : Bool) → IsRising (those test count) → IsRising (those test count ++ (if b then count ∷ [] else []))
    by true before = rising_push (those test count) count before (λ m h. (those_held test count m h).0)
    by false before = subst IsRising (sym (append-nil (those test count))) before

-- a loop's step
pub those_more : (test : ℕ → Bool) (n : ℕ) (before after : List ℕ) → before ≡ those test n → after ≡ before ++ (if test n then n ∷ [] else []) → after ≡ those test (n + 1)
those_more test n before after e f = let next : suc n ≡ n + 1 = omega arith in f ∙ ap (λ l. l ++ (if test n then n ∷ [] else [])) e ∙ ap (those test) next

-- a loop's step: those that are not at their ends so far, and one process more
pub unended_step : (tasks : Tasks) (n : ℕ) (others before after all : List ℕ) → after ≡ before ++ (if task_is is_unended (slice_get tasks n) then n ∷ [] else [])
    → before ++ unended_among tasks (n ∷ others) ≡ all → after ++ unended_among tasks others ≡ all
unended_step tasks n others before after all e h =
    ap (λ l. l ++ unended_among tasks others) e ∙ append_assoc before (if task_is is_unended (slice_get tasks n) then n ∷ [] else []) (unended_among tasks others) ∙ h

-- ---- what a test says of a process

pub record Tested (test : Wait → Bool) (tasks : Tasks) (n : ℕ) : Type 0 where
  pub task : Task
  pub there : HasTask tasks n task
  pub is : IsTrue (test task.wait)

pub tested : (test : Wait → Bool) (tasks : Tasks) (n : ℕ) (x : Option (Option Task)) → slice_get tasks n ≡ x → IsTrue (task_is test x) → Tested test tasks n
tested test tasks n None e h = absurd (true≢false (sym h))
tested test tasks n (Some None) e h = absurd (true≢false (sym h))
tested test tasks n (Some (Some t)) e h = record { task = t; there = e; is = h }

pub test_of : (test : Wait → Bool) (tasks : Tasks) (n : ℕ) (t : Task) → HasTask tasks n t → IsTrue (test t.wait) → IsTrue (task_is test (slice_get tasks n))
test_of test tasks n t there h = ap (task_is test) there ∙ h

pub are_halted : (tasks : Tasks) (count : ℕ) (ns : List ℕ) → count ≡ length tasks → ns ≡ those (halts_at tasks) count → AreThose (IsHalted tasks) ns
are_halted tasks count ns all is =
    subst (AreThose (IsHalted tasks)) (sym is)
    (record {
      each = λ n h. let x = tested has_halted tasks n (slice_get tasks n) refl (those_held (halts_at tasks) count n h).1 in record { task = x.task; there = x.there; has = x.is };
      all = λ n x. let inside = get_inside tasks n (Some x.task) x.there in held_those (halts_at tasks) count n (omega (arith, inside, all)) (test_of has_halted tasks n x.task x.there x.has);
      rising = those_rise (halts_at tasks) count;
    })

unflagged : (b other : Bool) → IsTrue (if b then false else other) → (b ≡ false) × IsTrue other
unflagged true other h = absurd (true≢false (sym h))
unflagged false other h = (refl, h)

no_flag : (b other : Bool) → (IsTrue b → ⊥) → IsTrue other → IsTrue (if b then false else other)
no_flag true other none h = absurd (none refl)
no_flag false other none h = h

pub are_unfinished : (bodies : List Body) (tasks : Tasks) (flags : List Bool) (count : ℕ) (ns : List ℕ) → count ≡ length tasks → AreEndless bodies tasks flags → ns ≡ those (is_left_at flags tasks) count → AreThose (IsUnfinished bodies tasks) ns
are_unfinished bodies tasks flags count ns all endless is =
    subst (AreThose (IsUnfinished bodies tasks)) (sym is)
    (record {
      each = λ n h.
          let y = those_held (is_left_at flags tasks) count n h in
          let z = unflagged (flag flags n) (task_is is_at_channel (slice_get tasks n)) y.1 in
          let x = tested is_at_channel tasks n (slice_get tasks n) refl z.1 in
          let lt = y.0 in
          let inside : n < length flags = omega (arith, lt, all, endless.many) in
          record { task = x.task; there = x.there; at = x.is; to_end = λ e. true≢false (sym (endless.whole n inside e) ∙ z.0) };
      all = λ n x.
          let inside = get_inside tasks n (Some x.task) x.there in
          held_those (is_left_at flags tasks) count n (omega (arith, inside, all))
          (no_flag (flag flags n) (task_is is_at_channel (slice_get tasks n)) (λ f. x.to_end (endless.sound n f)) (test_of is_at_channel tasks n x.task x.there x.at));
      rising = those_rise (is_left_at flags tasks) count;
    })

-- ---- circles

module _ (r w s v : ℕ → Option ℕ) (reads : (c : ℕ) → r c ≡ s c) (writes : (c : ℕ) → w c ≡ v c) where
  same_writer : (x : Option ℕ) → option_and_then w x ≡ option_and_then v x
  same_writer None = refl
  same_writer (Some c) = writes c

  same_arms : (arms : List Arm) → arm_writers w arms ≡ arm_writers v arms
  same_arms [] = refl
  same_arms (a ∷ arms) = ap (λ x. option_to_list x ++ arm_writers w arms) (same_writer a.chan) ∙ ap (λ xs. option_to_list (arm_writer v a) ++ xs) (same_arms arms)

  same_waits : (tasks : Tasks) (still : Bool) (wait : Wait) → waits_on r w tasks still wait ≡ waits_on s v tasks still wait
  same_waits tasks still Ready = refl
  same_waits tasks still (Took arm is m) = refl
  same_waits tasks still (Offers c m) = ap option_to_list (reads c)
  same_waits tasks still (Awaits c) = ap option_to_list (writes c)
  same_waits tasks true (Chooses pri arms) = same_arms arms
  same_waits tasks false (Chooses pri arms) = refl
  same_waits tasks still (Joins ns) = refl
  same_waits tasks still Halted = refl
  same_waits tasks still Done = refl
  same_waits tasks still (Faulted e) = refl

  same_task : (tasks : Tasks) (still : Bool) (x : Option (Option Task)) → task_waits_for r w tasks still x ≡ task_waits_for s v tasks still x
  same_task tasks still None = refl
  same_task tasks still (Some None) = refl
  same_task tasks still (Some (Some t)) = same_waits tasks still t.wait

  pub same_others : (tasks : Tasks) (n : ℕ) → others_of r w tasks n ≡ others_of s v tasks n
  same_others tasks n = same_task tasks (stands_still tasks) (slice_get tasks n)

same_circles : (f g : ℕ → List ℕ) → ((n : ℕ) → f n ≡ g n) → (ns : List ℕ) → Circles f ns → Circles g ns
same_circles f g same ns c i m k there next = subst (λ l. IsTrue (is_held l k)) (same m) (c i m k there next)

same_circle : (f g : ℕ → List ℕ) → ((n : ℕ) → f n ≡ g n) → (below : ℕ) (ns : List ℕ) → IsCircle f below ns → IsCircle g below ns
same_circle f g same below ns c =
    record { waits = same_circles f g same ns c.waits; once = c.once; unless = λ e ms d all. c.unless e ms (same_circles g f (λ n. sym (same n)) ms d) all }

pub circle_left : (us : List Using) (p : Program) (tasks : Tasks) (again : ℕ → Bool) (below : ℕ) (ends : Ends) (ns : List ℕ) → ComeAgain p.bodies tasks again → AreDue us again tasks (length p.channels) ends → below ≡ length tasks
    → IsCircle (others_noted ends tasks) below ns → TellsCircle us p tasks ns
circle_left us p tasks again below ends ns come are all c =
    record {
      again = again;
      come = come;
      is =
          subst (λ b. IsCircle (others_among us (length p.channels) again tasks) b ns) all
          (same_circle (others_noted ends tasks) (others_among us (length p.channels) again tasks)
          (same_others (end_noted ends.readers.items) (end_noted ends.writers.items) (of_declared (length p.channels) (reader_due us again tasks)) (of_declared (length p.channels) (writer_due us again tasks)) are.readers are.writers tasks) below ns c);
    }

-- ---- who is at the ends, where these come again

module _ (f g : ℕ → Bool) (same : (n : ℕ) → f n ≡ g n) where
  same_last : (kind : Uses → Numbers) (c : ℕ) (ps : List Using) → last_with f kind c ps ≡ last_with g kind c ps
  same_last kind c [] = refl
  same_last kind c (x ∷ ps) =
      ap (λ l. first_of l (if f x.number && kind x.uses c then Some x.number else None)) (same_last kind c ps)
      ∙ ap (λ b. first_of (last_with g kind c ps) (if b && kind x.uses c then Some x.number else None)) (same x.number)

  pub same_declared : (channels : ℕ) (there : ℕ → Option ℕ) (kind : Uses → Numbers) (ps : List Using) (c : ℕ)
      → of_declared channels (λ k. first_of (there k) (last_with f kind k ps)) c ≡ of_declared channels (λ k. first_of (there k) (last_with g kind k ps)) c
  same_declared channels there kind ps c = ap (λ x. if nat_lt c channels then first_of (there c) x else None) (same_last kind c ps)

pub one_again : (bodies : List Body) (tasks : Tasks) (f g : ℕ → Bool) → ComeAgain bodies tasks f → ComeAgain bodies tasks g → (n : ℕ) → f n ≡ g n
one_again bodies tasks f g a b n = by (f n) (g n) (λ h. b.whole n (a.sound n h)) (λ h. a.whole n (b.sound n h))
  where
    by : (x y : Bool) → (IsTrue x → IsTrue y) → (IsTrue y → IsTrue x) → x ≡ y
    by true y to from = sym (to refl)
    by false true to from = from refl
    by false false to from = refl

-- ---- kinds

others_inside : (reader writer : ℕ → Option ℕ) (still : Bool) (tasks : Tasks) (n k : ℕ) (x : Option (Option Task)) → slice_get tasks n ≡ x → IsTrue (is_held (task_waits_for reader writer tasks still x) k) → n < length tasks
others_inside reader writer still tasks n k None e h = absurd (true≢false (sym h))
others_inside reader writer still tasks n k (Some x) e h = get_inside tasks n x e

module _ (us : List Using) (p : Program) (tasks : Tasks) where
  abbrev others : (ℕ → Bool) → ℕ → List ℕ
  others again = others_among us (length p.channels) again tasks

  moved : (f g : ℕ → Bool) → ComeAgain p.bodies tasks f → ComeAgain p.bodies tasks g → (n : ℕ) → others f n ≡ others g n
  moved f g a b n =
      let same = one_again p.bodies tasks f g a b in
      same_others (of_declared (length p.channels) (reader_due us f tasks)) (of_declared (length p.channels) (writer_due us f tasks)) (of_declared (length p.channels) (reader_due us g tasks)) (of_declared (length p.channels) (writer_due us g tasks))
      (same_declared f g same (length p.channels) (reader_among us tasks) (λ u. u.ins) us)
      (same_declared f g same (length p.channels) (writer_among us tasks) (λ u. u.outs) us) tasks n

  inside : (again : ℕ → Bool) (ring : List ℕ) → Circles (others again) ring → All (λ m. m < length tasks) ring
  inside again ring c i d lt =
      let some : 0 < length ring = omega (arith, lt) in
      let next = get_some ring ((i + 1) % length ring) (mod_below (i + 1) (length ring) some) in
      others_inside (of_declared (length p.channels) (reader_due us again tasks)) (of_declared (length p.channels) (writer_due us again tasks)) (stands_still tasks) tasks (get_or ring i d) next.0
      (slice_get tasks (get_or ring i d)) refl (c i (get_or ring i d) next.0 (get_there ring i d lt) next.1)

  pub no_circle : TellsCircle us p tasks [] → HasCircle us p tasks → ⊥
  no_circle c h =
      let waits : Circles (others c.again) h.ring = same_circles (others h.again) (others c.again) (moved h.again c.again h.come c.come) h.ring h.waits in
      let none = c.is.unless refl h.ring waits (inside c.again h.ring waits) in
      let some = h.some in
      let zero_is = ap length none in
      absurd (omega (arith, some, zero_is))

  pub some_circle : (n : ℕ) (ns : List ℕ) → TellsCircle us p tasks (n ∷ ns) → HasCircle us p tasks
  some_circle n ns c = record { again = c.again; come = c.come; ring = n ∷ ns; some = omega arith; waits = c.is.waits }

  pub none_of : {Says : ℕ → Type 0} → AreThose Says [] → (n : ℕ) × Says n → ⊥
  none_of those x = true≢false (sym (those.all x.0 x.1))

  pub kind_is : (circle halted unfinished : List ℕ) → TellsCircle us p tasks circle → AreThose (IsHalted tasks) halted → AreThose (IsUnfinished p.bodies tasks) unfinished → IsKind us p tasks (kind_by circle halted unfinished)
  kind_is (n ∷ ns) hs fs c h f = some_circle n ns c
  kind_is [] (n ∷ ns) fs c h f = (no_circle c, (n, h.each n (first_held n ns)))
  kind_is [] [] (n ∷ ns) c h f = (no_circle c, none_of h, (n, f.each n (first_held n ns)))
  kind_is [] [] [] c h f = (no_circle c, none_of h, none_of f)
