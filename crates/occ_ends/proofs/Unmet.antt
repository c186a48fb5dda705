-- A set of processes whom nobody outside comes to meet or to fork stays as it is.
use Rattle.std.proofs.Common.{◌≡◌, ◌∙◌, refl, sym, ap, subst, Bool, true, false, IsTrue, IsFalse, ℕ, ◌%◌, ◌⊎◌, inl, inr, List, [], ◌∷◌, Some, None, length, ◌<◌, ◌≤◌, ◌++◌, length-append, arith}
use Rattle.std.specs.Prelude.{slice_get, slice_set, ◌&&◌, ◌||◌, nat_eq}
use Rattle.std.specs.Option.{option_map_or}
use Rattle.std.proofs.lemmas.Bool.{eq-eqb, eqb-true}
use mathlib.Core.Bool.{true≢false}
use Rattle.occ_term.specs.declared.message.Message.{Message}
use Rattle.occ_term.specs.declared.communication.End.{End}
use Rattle.occ_term.specs.declared.communication.End.TheVariants.{Process as OfProcess}
use Rattle.occ_term.specs.Frames.{Variables, is_held}
use Rattle.occ_machine.specs.Compiled.{Program}
use Rattle.occ_machine.specs.Machine.{Body}
use Rattle.occ_machine.specs.SameStop.{joined_with}
use Rattle.occ_machine.specs.declared.task.Task.{Task}
use Rattle.occ_machine.specs.declared.task.Wait.{Wait}
use Rattle.occ_machine.specs.declared.task.Wait.TheVariants as W
use Rattle.occ_net_replay.specs.declared.choice.Choice.{Choice}
use Rattle.occ_net_replay.specs.Replay.{Net, Tasks, HasTask, OneTurn, may_go, ended, offers_on, took_turn, made_ready, has_taken, took_arm, with_branches, branch_task, merged, ready_from, AreDone, HandsOver, task_gives, keyboard_gives, Gets, task_gets, arm_gets, screen_gets, error_gets, joined, meets, skips, forks, joins, Settled, settles, stays as nothing_happens, ending_of}
use Rattle.occ_net_replay.specs.Waiting.{listens_on}
use Rattle.occ_net_replay.proofs.Arms.{chosen_listens}
use Rattle.occ_net_replay.proofs.Tables.{set_same, set_other, task_once, or_first, or_second, or_else, ready_at}
use Rattle.occ_ends.specs.ForGood.{HasLeft, KeepsTasks, LeadsLater, Set, WaitForGood, goes_on, stays}

-- ---- who cannot be released from outside

-- A turn of the process with that number ends at this, after so few further choices; until then the set is kept.
pub record ComesTo (p : Program) (most : ℕ) (a : Net) (set : Set) (n : ℕ) (w : Wait) : Type 0 where
  pub choices : List Choice
  pub choice : Choice
  pub net : Net
  pub next : Net
  pub few : length choices < most
  pub leads : LeadsLater p a choices net
  pub kept : KeepsTasks set a net
  pub going : ending_of p.errors net ≡ None
  pub turn : OneTurn p choice net next
  pub number : turn.number ≡ n
  pub ends : turn.after.wait ≡ w

-- the one offers on the channel, and the other listens on it
abbrev pub meet_on : Wait → Wait → ℕ → Bool
meet_on v w c = (offers_on v c && listens_on w c) || (listens_on v c && offers_on w c)

-- Who stands at this may not go on; as long as the set is kept, no turn of a process outside ends where the two could meet; and where
-- it waits for its branches, one of them is in the set and not at its end.
pub record IsLeftAt (p : Program) (most : ℕ) (net : Net) (set : Set) (w : Wait) : Type 0 where
  pub still : IsFalse (may_go w)
  pub unmet : (i : ℕ) (v : Wait) (c : ℕ) → IsFalse (set i) → ComesTo p most net set i v → IsFalse (meet_on w v c)
  pub unjoined : (ns : List ℕ) → w ≡ W.Joins ns → HasLeft net.tasks set ns

-- each of the set that has begun is left so, and no turn of a process outside forks one of the set
pub record IsUnmet (p : Program) (most : ℕ) (net : Net) (set : Set) : Type 0 where
  pub left : (n : ℕ) (t : Task) → IsTrue (set n) → HasTask net.tasks n t → IsLeftAt p most net set t.wait
  pub unforked : (i n : ℕ) (ns : List ℕ) → IsFalse (set i) → ComesTo p most net set i (W.Joins ns) → IsTrue (is_held ns n) → IsFalse (set n)

-- ---- small facts

pub in_or_out : (b : Bool) → IsTrue b ⊎ IsFalse b
in_or_out true = inl refl
in_or_out false = inr refl

both : (a b : Bool) → IsTrue a → IsTrue b → IsTrue (a && b)
both true b h k = k
both false b h k = absurd (true≢false (sym h))

pub offers_its : (c : ℕ) (v : Message) → IsTrue (offers_on (W.Offers c v) c)
offers_its c v = eq-eqb c c refl

pub listens_its : (c : ℕ) → IsTrue (listens_on (W.Awaits c) c)
listens_its c = or_first (nat_eq c c) false (eq-eqb c c refl)

-- who began as a branch of a fork was among those
branches_else : (bodies : List Body) (f : Variables) (ns : List ℕ) (ts : Tasks) (n : ℕ) → IsFalse (is_held ns n) → slice_get (with_branches bodies f ns ts) n ≡ slice_get ts n
branches_else bodies f [] ts n h = refl
branches_else bodies f (k ∷ ns) ts n h =
    branches_else bodies f ns (slice_set ts k (branch_task bodies f ts k)) n (later (nat_eq k n) (is_held ns n) h)
    ∙ set_other ts k n (branch_task bodies f ts k) (λ e. first (nat_eq k n) (is_held ns n) (eq-eqb k n (sym e)) h)
  where
    later : (a b : Bool) → IsFalse (a || b) → IsFalse b
    later true b h = absurd (true≢false h)
    later false b h = h

    first : (a b : Bool) → IsTrue a → IsFalse (a || b) → ⊥
    first true b h k = true≢false k
    first false b h k = true≢false (sym h)

-- each branch of those that are done
done_among : (ts : Tasks) (ns : List ℕ) (j : ℕ) → AreDone ts ns → IsTrue (is_held ns j) → IsTrue (option_map_or ended (slice_get ts j) false)
done_among ts [] j d h = absurd (true≢false (sym h))
done_among ts (k ∷ ns) j d h = by (or_else (nat_eq k j) (is_held ns j) h) (λ e. done_among ts ns j d.1 e)
  where
    by : IsTrue (nat_eq k j) ⊎ IsTrue (is_held ns j) → (IsTrue (is_held ns j) → IsTrue (option_map_or ended (slice_get ts j) false)) → IsTrue (option_map_or ended (slice_get ts j) false)
    by (inl e) later = subst (λ z. IsTrue (option_map_or ended (slice_get ts z) false)) (eqb-true k j e) d.0
    by (inr e) later = later e

-- ---- the two sides of a communication

record Gave (k : ℕ) (v : Message) (a e : Net) (i : ℕ) : Type 0 where
  pub task : Task
  pub there : HasTask a.tasks i task
  pub offers : task.wait ≡ W.Offers k v
  pub others : (j : ℕ) → (j ≡ i → ⊥) → slice_get e.tasks j ≡ slice_get a.tasks j

record Got (k : ℕ) (e : Net) (i : ℕ) : Type 0 where
  pub task : Task
  pub there : HasTask e.tasks i task
  pub listens : IsTrue (listens_on task.wait k)

one_end : {i j : ℕ} {y : End} → y ≡ OfProcess i → y ≡ OfProcess j → i ≡ j
one_end e f = cc

gave : {k : ℕ} {v : Message} {end : End} {a e : Net} → HandsOver k v end a e → (i : ℕ) → end ≡ OfProcess i → Gave k v a e i
gave {a = a} (task_gives {n = n} {t = t} h w) i q =
    let is : n ≡ i = cc in
    record { task = t; there = subst (λ z. HasTask a.tasks z t) is h; offers = w; others = λ j f. set_other a.tasks n j (Some (made_ready t)) (λ z. f (z ∙ is)) }
gave (keyboard_gives h w f) i q = absurd cc

got : {k : ℕ} {v : Message} {end : End} {e g : Net} {pick : ℕ} {ready : ℕ → Bool} → Gets pick ready k v end e g → (i : ℕ) → end ≡ OfProcess i → Got k e i
got {k = k} {e = e} (task_gets {n = n} {t = t} h w) i q =
    let is : n ≡ i = cc in
    record { task = t; there = subst (λ z. HasTask e.tasks z t) is h; listens = subst (λ z. IsTrue (listens_on z k)) (sym w) (listens_its k) }
got {k = k} {e = e} {pick = pick} {ready = ready} (arm_gets {n = n} {t = t} {pri = pri} {arms = arms} {a = arm} h w f y) i q =
    let is : n ≡ i = cc in
    record { task = t; there = subst (λ z. HasTask e.tasks z t) is h; listens = subst (λ z. IsTrue (listens_on z k)) (sym w) (chosen_listens pri pick ready arms arm k f y) }
got (screen_gets w) i q = absurd cc
got (error_gets w) i q = absurd cc

given : {k : ℕ} {v : Message} {end : End} {a e : Net} → HandsOver k v end a e → (n : ℕ) → ((i : ℕ) → end ≡ OfProcess i → n ≡ i → ⊥) → slice_get e.tasks n ≡ slice_get a.tasks n
given {a = a} (task_gives {n = i} {t = t} h w) n other = set_other a.tasks i n (Some (made_ready t)) (other i refl)
given (keyboard_gives h w f) n other = refl

taken : {k : ℕ} {v : Message} {end : End} {e g : Net} {pick : ℕ} {ready : ℕ → Bool} → Gets pick ready k v end e g → (n : ℕ) → ((i : ℕ) → end ≡ OfProcess i → n ≡ i → ⊥) → slice_get g.tasks n ≡ slice_get e.tasks n
taken {v = v} {e = e} (task_gets {n = i} {t = t} h w) n other = set_other e.tasks i n (Some (has_taken t v)) (other i refl)
taken {v = v} {e = e} (arm_gets {n = i} {t = t} {a = arm} h w f y) n other = set_other e.tasks i n (Some (took_arm t arm (Some v))) (other i refl)
taken (screen_gets w) n other = refl
taken (error_gets w) n other = refl

-- whose turn it is may go on
pub mover_may : (p : Program) (b d : Net) (c : Choice) (o : OneTurn p c b d) → IsTrue (may_go o.before.wait)
mover_may p b d c o =
    let r = ready_at 0 b.tasks (c.which % length (ready_from 0 b.tasks)) o.number o.selects in
    let e = r.is in
    let at : o.number ≡ r.place = omega (arith, e) in
    subst (λ t. IsTrue (may_go t.wait)) (task_once b.tasks o.number (subst (λ z. HasTask b.tasks z r.task) (sym at) r.there) o.has_task) r.may

-- ---- one turn more

module _ (p : Program) (most : ℕ) (from : Net) (set : Set) (closed : IsUnmet p most from set) where
  abbrev Same : Net → Type 0
  Same b = (n : ℕ) → IsTrue (set n) → slice_get b.tasks n ≡ slice_get from.tasks n

  module _ (b d : Net) (c : Choice) (same : Same b) (o : OneTurn p c b d) (come : ComesTo p most from set o.number o.after.wait) where
    abbrev m : ℕ
    m = o.number

    abbrev stop : Wait
    stop = o.after.wait

    abbrev x : Net
    x = took_turn b m o.after

    its_may : IsTrue (may_go o.before.wait)
    its_may = mover_may p b d c o

    left_in : (n : ℕ) (t : Task) → IsTrue (set n) → HasTask b.tasks n t → IsLeftAt p most from set t.wait
    left_in n t h e = closed.left n t h (sym (same n h) ∙ e)

    -- whose turn it is, is outside
    pub mover_out : IsFalse (set m)
    mover_out = by (in_or_out (set m))
      where
        by : IsTrue (set m) ⊎ IsFalse (set m) → IsFalse (set m)
        by (inl h) = absurd (true≢false (sym its_may ∙ (left_in m o.before h o.has_task).still))
        by (inr h) = h

    apart : (n k : ℕ) → IsTrue (set n) → IsFalse (set k) → n ≡ k → ⊥
    apart n k h out e = true≢false (sym h ∙ ap set e ∙ out)

    at_x : (n : ℕ) → IsTrue (set n) → slice_get x.tasks n ≡ slice_get b.tasks n
    at_x n h = set_other b.tasks m n (Some o.after) (apart n m h mover_out)

    mine : HasTask x.tasks m o.after
    mine = set_same b.tasks m (Some o.before) (Some o.after) o.has_task

    its : (t : Task) → HasTask x.tasks m t → t ≡ o.after
    its t h = task_once x.tasks m h mine

    left_at_x : (n : ℕ) (t : Task) → IsTrue (set n) → HasTask x.tasks n t → IsLeftAt p most from set t.wait
    left_at_x n t h e = left_in n t h (sym (at_x n h) ∙ e)

    -- nobody of the set meets it
    unmet : (n : ℕ) (t : Task) (k : ℕ) → IsTrue (set n) → HasTask x.tasks n t → IsTrue (meet_on t.wait stop k) → ⊥
    unmet n t k h e q = true≢false (sym q ∙ (left_at_x n t h e).unmet m stop k mover_out come)

    -- ---- a communication

    module _ {k : ℕ} {v : Message} {giver taker : End} {e g : Net} {pick : ℕ} {ready : ℕ → Bool} (hands : HandsOver k v giver x e) (gets : Gets pick ready k v taker e g)
        (part : (giver ≡ OfProcess m) ⊎ (taker ≡ OfProcess m)) where
      giver_out : (i : ℕ) → giver ≡ OfProcess i → IsFalse (set i)
      giver_out i q = by (in_or_out (set i)) part
        where
          by : IsTrue (set i) ⊎ IsFalse (set i) → (giver ≡ OfProcess m) ⊎ (taker ≡ OfProcess m) → IsFalse (set i)
          by (inr h) z = h
          by (inl h) (inl z) = absurd (apart i m h mover_out (one_end q z))
          by (inl h) (inr z) =
              let a = gave hands i q in
              let r = got gets m z in
              let w : r.task ≡ o.after = its r.task (sym (a.others m (λ f. apart i m h mover_out (sym f))) ∙ r.there) in
              absurd (unmet i a.task k h a.there
              (or_first (offers_on a.task.wait k && listens_on stop k) (listens_on a.task.wait k && offers_on stop k)
              (both (offers_on a.task.wait k) (listens_on stop k) (subst (λ y. IsTrue (offers_on y k)) (sym a.offers) (offers_its k v)) (subst (λ y. IsTrue (listens_on y.wait k)) w r.listens))))

      taker_out : (i : ℕ) → taker ≡ OfProcess i → IsFalse (set i)
      taker_out i q = by (in_or_out (set i)) part
        where
          by : IsTrue (set i) ⊎ IsFalse (set i) → (giver ≡ OfProcess m) ⊎ (taker ≡ OfProcess m) → IsFalse (set i)
          by (inr h) z = h
          by (inl h) (inr z) = absurd (apart i m h mover_out (one_end q z))
          by (inl h) (inl z) =
              let a = gave hands m z in
              let r = got gets i q in
              let w : a.task ≡ o.after = its a.task a.there in
              absurd (unmet i r.task k h (sym (a.others i (apart i m h mover_out)) ∙ r.there)
              (or_second (offers_on r.task.wait k && listens_on stop k) (listens_on r.task.wait k && offers_on stop k)
              (both (listens_on r.task.wait k) (offers_on stop k) r.listens (subst (λ y. IsTrue (offers_on y.wait k)) w (subst (λ y. IsTrue (offers_on y k)) (sym a.offers) (offers_its k v))))))

      pub met_still : (n : ℕ) → IsTrue (set n) → slice_get g.tasks n ≡ slice_get x.tasks n
      met_still n h = taken gets n (λ i q. apart n i h (taker_out i q)) ∙ given hands n (λ i q. apart n i h (giver_out i q))

    -- ---- a join

    joiner_out : (k : ℕ) (t : Task) (ns : List ℕ) → HasTask x.tasks k t → t.wait ≡ W.Joins ns → AreDone x.tasks ns → IsFalse (set k)
    joiner_out k t ns e w d = by (in_or_out (set k))
      where
        by : IsTrue (set k) ⊎ IsFalse (set k) → IsFalse (set k)
        by (inr h) = h
        by (inl h) =
            let y = (left_at_x k t h e).unjoined ns w in
            let there : HasTask x.tasks y.number y.task = at_x y.number y.inside ∙ same y.number y.inside ∙ y.there in
            absurd (true≢false (sym (subst (λ z. IsTrue (option_map_or ended z false)) there (done_among x.tasks ns y.number d y.held)) ∙ y.unended))

    -- ---- what happens at once

    still : {pick : ℕ} {e : Net} → Settled p.bodies m pick x e → (n : ℕ) → IsTrue (set n) → slice_get e.tasks n ≡ slice_get x.tasks n
    still (nothing_happens none) n h = refl
    still (settles (meets part (joined hands gets))) n h = met_still hands gets part n h
    still (settles (skips {t = t} {arm = arm} z w f y)) n h = set_other x.tasks m n (Some (took_arm t arm None)) (apart n m h mover_out)
    still (settles (forks {t = t} {ns = ns} z w)) n h = branches_else p.bodies t.frame ns x.tasks n (by (in_or_out (is_held ns n)))
      where
        waits : stop ≡ W.Joins ns
        waits = ap (λ y. y.wait) (sym (its t z)) ∙ w

        by : IsTrue (is_held ns n) ⊎ IsFalse (is_held ns n) → IsFalse (is_held ns n)
        by (inr q) = q
        by (inl q) = absurd (true≢false (sym h ∙ closed.unforked m n ns mover_out (subst (ComesTo p most from set m) waits come) q))
    still (settles (joins k {t = t} {ns = ns} z w among done)) n h =
        set_other x.tasks k n (Some (joined_with t (merged p.bodies x.tasks ns t.frame))) (apart n k h (joiner_out k t ns z w done))

    pub as_before : Same d
    as_before n h = still o.settles n h ∙ at_x n h ∙ same n h

-- ---- by whatever choices

comes : (p : Program) (most : ℕ) (from : Net) (set : Set) {cs : List Choice} {c : Choice} {b d : Net} → length cs < most → LeadsLater p from cs b → KeepsTasks set from b → ending_of p.errors b ≡ None → (o : OneTurn p c b d) → ComesTo p most from set o.number o.after.wait
comes p most from set {cs = cs} {c = c} {b = b} {d = d} few leads kept going o = record { choices = cs; choice = c; net = b; next = d; few = few; leads = leads; kept = kept; going = going; turn = o; number = refl; ends = refl }

one_fewer : (most : ℕ) (cs : List Choice) (c : Choice) → length (cs ++ c ∷ []) ≤ most → length cs < most
one_fewer most cs c h = omega (arith, h, length-append cs (c ∷ []))

stay : (p : Program) (most : ℕ) (from : Net) (set : Set) → IsUnmet p most from set → (cs : List Choice) (b : Net) → length cs ≤ most → LeadsLater p from cs b → KeepsTasks set from b
stay p most from set closed cs b few stays n h = refl
stay p most from set closed cs b few (goes_on {cs = ds} {c = c} {b = a} leads going o) n h =
    let less = one_fewer most ds c few in
    let kept = stay p most from set closed ds a (omega (arith, less)) leads in
    as_before p most from set closed a b c kept o (comes p most from set less leads kept going o) n h

pub unmet_sets_wait : (p : Program) (most : ℕ) (from : Net) (set : Set) → IsUnmet p most from set → WaitForGood p most from set
unmet_sets_wait p most from set closed =
    record {
      as_they_are = λ cs b few leads. stay p most from set closed cs b few leads;
      no_turn = λ cs c b d few leads going o.
          let kept = stay p most from set closed cs b (omega (arith, few)) leads in
          mover_out p most from set closed b d c kept o (comes p most from set few leads kept going o);
    }
