-- Each step under the lock keeps what lies there.
use Rattle.std.proofs.Common.{◌≡◌, ◌∙◌, refl, sym, ap, subst, Bool, true, false, IsTrue, ℕ, suc, zero, ◌<◌, ◌⊎◌, inl, inr, List, [], ◌∷◌, Option, Some, None, length, arith, length-append}
use Rattle.std.specs.Prelude.{IsSome, Result, Ok, Err, IfOk, IfErr, if◌then◌else◌, is_some, nat_eq, slice_get, slice_set, unwrap_or}
use Rattle.std.specs.Arc.{arc_value}
use Rattle.std.proofs.lemmas.Bool.{eq-eqb}
use Rattle.std.proofs.lemmas.Option.{slice_get_within}
use mathlib.Core.Bool.{true≢false}
use Rattle.occ_machine.specs.Compiled.{Program}
use Rattle.occ_machine.specs.declared.task.Task.{Task}
use Rattle.occ_machine.specs.Machine.{Body}
use Rattle.occ_term.specs.declared.ending.Ending.{Ending}
use Rattle.occ_net_replay.specs.Replay.{HasTask, Net, ending_of, may_go}
use Rattle.occ_net_replay.proofs.Tables.{same_or_not, set_other, set_same, task_once}
use Rattle.occ_net.specs.declared.leasing.Lease.{Lease}
use Rattle.occ_net.specs.Leases.{LeasesOne}
use Rattle.occ_net.specs.Networks.{IsNetwork, IsState, Past, first_in, fresh, is_out, leased_at, ready_in, with_out}
use Rattle.occ_proc.specs.Stretches.{InRow}
use Rattle.occ_net.specs.Stretches.{AreOwn, SettlesAll, in_after}
use Rattle.occ_net.proofs.Stretching.{choices_length}
use Rattle.occ_net.proofs.Leased.{leased_there, may_turn}
use Rattle.occ_run.specs.declared.progress.Progress.{Progress}
use Rattle.occ_run.specs.declared.progress.Stop.{Stop}
use Rattle.occ_run.specs.declared.progress.Stop.TheVariants as stop
use Rattle.occ_run.specs.declared.stretch.Stretch.{Stretch}
use Rattle.occ_run.specs.declared.tokens.Known.{Known}
use Rattle.occ_run.specs.Gathered.{IsOfRun}
use Rattle.occ_run.specs.Held.{IsConcluded, IsHeld, IsOut, IsStretchOf, IsTurnOf, IsTurnOut}
use Rattle.occ_run.specs.Steps.{Drops, IsOpen, IsOver, LeavesRun, Rests, Runs, StopsAt, TakesIn, TakesThem, first_stop}
use Rattle.occ_run.specs.Tokens.{Among, AreOthers, Checked, holder, keeper, opening, shown_beside, teller, without}
use Rattle.occ_run.proofs.Staying.{stays_ready}

-- ---- who is out

-- who was found to go out was in
was_in : (out : List Bool) (ready : List ℕ) (n : ℕ) → first_in out ready ≡ Some n → is_out out n ≡ false
was_in out [] n e = absurd cc
was_in out (x ∷ ready) n e = by (is_out out x) refl e (was_in out ready n)
  where
    by : (b : Bool) → is_out out x ≡ b → (if b then first_in out ready else Some x) ≡ Some n → (first_in out ready ≡ Some n → is_out out n ≡ false) → is_out out n ≡ false
    by true is q h = h q
    by false is q h = let same : x ≡ n = cc in ap (is_out out) (sym same) ∙ is

leased_was_in : (ending : Option Ending) (out : List Bool) (ready : List ℕ) (n : ℕ) → leased_at ending out ready ≡ Some n → is_out out n ≡ false
leased_was_in None out ready n e = was_in out ready n e
leased_was_in (Some x) out ready n e = absurd cc

marked_other : (out : List Bool) (n m : ℕ) (b : Bool) → (m ≡ n → ⊥) → is_out (slice_set out n b) m ≡ is_out out m
marked_other out n m b away = ap (λ o. unwrap_or o false) (set_other out n m b away)

marked_after : (out : List Bool) (n count m : ℕ) → (m ≡ n → ⊥) → is_out (in_after out n count) m ≡ is_out out m
marked_after out n zero m away = refl
marked_after out n (suc count) m away = marked_other out n m false away

got : {X : Type 0} (xs : List X) (n : ℕ) → n < length xs → (x : X) × (slice_get xs n ≡ Some x)
got [] n h = absurd (omega (arith, h))
got (x ∷ xs) zero h = (x, refl)
got (x ∷ xs) (suc n) h = got xs n (omega (arith, h))

marked_here : (out : List Bool) (n : ℕ) (b : Bool) → n < length out → is_out (slice_set out n b) n ≡ b
marked_here out n b h = let x = got out n h in ap (λ o. unwrap_or o false) (set_same out n x.0 b x.1)

-- ---- lists of turns

others_all : (n : ℕ) (ts : List Task) → ((t : Task) → Among t ts → t.number ≡ n → ⊥) → AreOthers n ts
others_all n [] h = tt
others_all n (t ∷ ts) h = (h t (inl refl), others_all n ts (λ u a. h u (inr a)))

in_without : (n : ℕ) (ts : List Task) (t : Task) → Among t (without n ts) → Among t ts × (t.number ≡ n → ⊥)
in_without n [] t a = absurd a
in_without n (x ∷ ts) t a = by (nat_eq x.number n) refl a (in_without n ts t)
  where
    by : (b : Bool) → nat_eq x.number n ≡ b → Among t (if b then without n ts else x ∷ without n ts) → (Among t (without n ts) → Among t ts × (t.number ≡ n → ⊥)) → Among t (x ∷ ts) × (t.number ≡ n → ⊥)
    by true e q h = let r = h q in (inr r.0, r.1)
    by false e (inl q) h = (inl q, λ same. true≢false (sym (eq-eqb x.number n (ap (λ (z : Task). z.number) q ∙ same)) ∙ e))
    by false e (inr q) h = let r = h q in (inr r.0, r.1)

-- ---- open and over

some_none : {X : Type 0} (o : Option X) → o ≡ None → IsSome o → ⊥
some_none o e h = true≢false (sym h ∙ ap is_some e)

open_not_over : (b : Progress) → IsNetwork b.network → IsOpen b → IsOver b → ⊥
open_not_over b k is (inl h) = some_none b.stop is.unrefused h
open_not_over b k is (inr (inl h)) = let below = is.below in omega (arith, h, below)
open_not_over b k is (inr (inr h)) = some_none _ (is.goes_on k.net k.state) (h k.net k.state)

over_same : (b d : Progress) → d.network ≡ b.network → d.limit ≡ b.limit → d.stop ≡ b.stop → IsOver b → IsOver d
over_same b d network limit stop (inl h) = inl (subst IsSome (sym stop) h)
over_same b d network limit stop (inr (inl h)) = let same = ap (λ (n : Past). length n.choices) network in inr (inl (omega (arith, h, limit, same)))
over_same b d network limit stop (inr (inr h)) = inr (inr (subst (λ (n : Past). (net : Net) → IsState n net → IsSome (ending_of n.program.errors net)) (sym network) h))

-- a process goes out or comes in
over_marked : (b d : Progress) (n : ℕ) (is : Bool) → d.network ≡ with_out b.network n is → d.limit ≡ b.limit → d.stop ≡ b.stop → IsOver b → IsOver d
over_marked b d n is network limit stop (inl h) = inl (subst IsSome (sym stop) h)
over_marked b d n is network limit stop (inr (inl h)) = let same = ap (λ (n : Past). length n.choices) network in inr (inl (omega (arith, h, limit, same)))
over_marked b d n is network limit stop (inr (inr h)) = inr (inr (subst (λ (n : Past). (net : Net) → IsState n net → IsSome (ending_of n.program.errors net)) (sym network) h))

stopped_over : (b : Progress) (s : Stop) → b.stop ≡ Some s → IsOver b
stopped_over b s e = inl (ap is_some e)

first_some : (o : Option Stop) (s : Stop) → IsSome (first_stop o s)
first_some None s = refl
first_some (Some x) s = refl

-- ---- turns that are out

out_more : (n : Past) (m : ℕ) (t : Task) → m < length n.out → IsOut n t → IsOut (with_out n m true) t
out_more n m t within h = record { marked = by (same_or_not t.number m); has = h.has; may = h.may }
  where
    by : (t.number ≡ m) ⊎ (t.number ≡ m → ⊥) → IsTrue (is_out (slice_set n.out m true) t.number)
    by (inl e) = ap (is_out (slice_set n.out m true)) e ∙ marked_here n.out m true within
    by (inr away) = marked_other n.out m t.number true away ∙ h.marked

out_fewer : (n : Past) (m : ℕ) (t : Task) → (t.number ≡ m → ⊥) → IsOut n t → IsOut (with_out n m false) t
out_fewer n m t away h = record { marked = marked_other n.out m t.number false away ∙ h.marked; has = h.has; may = h.may }

-- ---- the start

pub held_new : (p : Program) (keyboard : List ℕ) (limit : ℕ) (b : Progress) (v : Known) → b.network ≡ fresh p keyboard → b.limit ≡ limit → b.stop ≡ None → v ≡ opening → IsHeld p keyboard limit b v
held_new p keyboard limit b v network limit_is stop is =
    record {
      keeps = is ∙ ap (λ (w : Known). keeper w.out w.over) (sym is);
      of_run =
          record {
            program = ap (λ (n : Past). n.program) network;
            bytes = ap (λ (n : Past). n.keyboard) network;
            few = (let none = ap (λ (n : Past). length n.choices) network in omega (arith, none));
          };
      limit_is = limit_is;
      out = λ t a. absurd (subst (λ (w : Known). Among t w.out) is a);
      over = λ e. absurd (true≢false (sym e ∙ ap (λ (w : Known). w.over) is));
    }

module _ (p : Program) (keyboard : List ℕ) (limit : ℕ) (old new : Progress) (v : Known) (h : IsHeld p keyboard limit old v) where
  -- the network is as it was
  pub held_same : new.network ≡ old.network → new.limit ≡ old.limit → (IsOver old → IsOver new) → IsHeld p keyboard limit new v
  held_same network limit_is over =
      record {
        keeps = h.keeps;
        of_run = subst (λ (n : Past). IsOfRun p keyboard limit n) (sym network) h.of_run;
        limit_is = limit_is ∙ h.limit_is;
        out = λ t a. subst (λ (n : Past). IsOut n t) (sym network) (h.out t a);
        over = λ e. over (h.over e);
      }

  pub held_still : new.network ≡ old.network → new.limit ≡ old.limit → new.stop ≡ old.stop → IsHeld p keyboard limit new v
  held_still network limit_is stop = held_same network limit_is (over_same old new network limit_is stop)

  pub held_stopped : (s : Stop) → new.network ≡ old.network → new.limit ≡ old.limit → new.stop ≡ first_stop old.stop s → IsHeld p keyboard limit new v
  held_stopped s network limit_is stop = held_same network limit_is (λ _. inl (ap is_some stop ∙ first_some old.stop s))

  module _ (k : IsNetwork old.network) (limit_is : new.limit ≡ old.limit) where
    pub held_rests : Rests old new → IsHeld p keyboard limit new v
    held_rests r = held_still (r.leases k.net k.state).1 limit_is r.stop

    pub held_leaves : LeavesRun old new → IsHeld p keyboard limit new v
    held_leaves r = by r.why
      where
        by : (IsOver old × (new.stop ≡ old.stop)) ⊎ (IsOpen old × (new.stop ≡ Some stop.Memory)) → IsHeld p keyboard limit new v
        by (inl q) = held_still r.network limit_is q.1
        by (inr q) = held_same r.network limit_is (λ _. stopped_over new stop.Memory q.1)

    -- ---- a turn goes out

    module _ (l : Lease) (r : Runs old l new) where
      one : LeasesOne old.network k.net l new.network
      one = r.leases k.net k.state

      was : is_out old.network.out l.task.number ≡ false
      was = leased_was_in (ending_of old.network.program.errors k.net) old.network.out (ready_in k.net) l.task.number one.is

      pub out_apart : AreOthers l.task.number v.out
      out_apart = others_all l.task.number v.out (λ t a e. true≢false (sym (h.out t a).marked ∙ ap (is_out old.network.out) e ∙ was))

      within : l.task.number < length old.network.out
      within = let bodies = slice_get_within old.network.program.bodies l.task.number (arc_value l.body) one.own.body in let same = k.marked in omega (arith, bodies, same)

      may : IsTrue (may_go l.task.wait)
      may =
          let x = may_turn k.net l.task.number (leased_there (ending_of old.network.program.errors k.net) old.network.out (ready_in k.net) l.task.number one.is).place in
          subst (λ (t : Task). IsTrue (may_go t.wait)) (task_once k.net.tasks l.task.number x.there one.own.task) x.may

      went : IsOut (with_out old.network l.task.number true) l.task
      went = record { marked = marked_here old.network.out l.task.number true within; has = λ net state. (r.leases net state).own.task; may = may }

      pub out_held : IsHeld p keyboard limit new (keeper (l.task ∷ v.out) v.over)
      out_held =
          record {
            keeps = refl;
            of_run = subst (λ (n : Past). IsOfRun p keyboard limit n) (sym one.out) (record { program = h.of_run.program; bytes = h.of_run.bytes; few = h.of_run.few });
            limit_is = limit_is ∙ h.limit_is;
            out = λ t a. subst (λ (n : Past). IsOut n t) (sym one.out) (each t a);
            over = λ e. absurd (open_not_over old k r.going (h.over e));
          }
        where
          each : (t : Task) → Among t (l.task ∷ v.out) → IsOut (with_out old.network l.task.number true) t
          each t (inl e) = subst (IsOut (with_out old.network l.task.number true)) e went
          each t (inr a) = out_more old.network l.task.number t within (h.out t a)

      pub turn_out : IsTurnOut p l (holder l.task)
      turn_out = record { can = r.can; goes_on = r.goes_on; body = subst (λ (q : Program). slice_get q.bodies l.task.number ≡ Some (arc_value l.body)) h.of_run.program one.own.body; token = refl }

    -- ---- a turn comes back

    module _ (task : Task) (token : Known) (is : token ≡ holder task) (w : Known) (checked : Checked (shown_beside v token) [] [] w) where
      had : Among task v.out
      had = (subst (λ (x : Known). Checked (shown_beside v x) [] [] w) is checked).had task refl

      left : w ≡ keeper (without task.number v.out) v.over
      left = (subst (λ (x : Known). Checked (shown_beside v x) [] [] w) is checked).is

      -- what is left is held, where it is with the keeper's list
      with_left : IsHeld p keyboard limit new (keeper (without task.number v.out) v.over) → IsHeld p keyboard limit new w
      with_left x = subst (λ (y : Known). IsHeld p keyboard limit new y) (sym left) x

      -- the process is in again
      back : (number : ℕ) → number ≡ task.number → new.network ≡ with_out old.network number false → (IsOver old → IsOver new) → IsHeld p keyboard limit new w
      back number same network over =
          with_left
          record {
            keeps = refl;
            of_run = subst (λ (n : Past). IsOfRun p keyboard limit n) (sym network) (record { program = h.of_run.program; bytes = h.of_run.bytes; few = h.of_run.few });
            limit_is = limit_is ∙ h.limit_is;
            out = λ t a. let x = in_without task.number v.out t a in subst (λ (n : Past). IsOut n t) (sym network) (out_fewer old.network number t (λ e. x.1 (e ∙ same)) (h.out t x.0));
            over = λ e. over (h.over e);
          }

      pub held_refused : (number : ℕ) → number ≡ task.number → new.network ≡ with_out old.network number false → new.stop ≡ first_stop old.stop stop.Memory → IsHeld p keyboard limit new w
      held_refused number same network stopped = back number same network (λ _. inl (ap is_some stopped ∙ first_some old.stop stop.Memory))

      module _ (s : Stretch) (own : IsStretchOf p task s) where
        -- the turns are the network's own
        pub are_own : (net : Net) → IsState old.network net → AreOwn old.network net s.number s.count s.after
        are_own net state =
            record {
              some = own.some;
              body = own.body;
              before = task;
              has_body = subst (λ (q : Program). slice_get q.bodies s.number ≡ Some own.body) (sym h.of_run.program) (subst (λ i. slice_get p.bodies i ≡ Some own.body) (sym own.number) own.has_body);
              has_task = subst (λ i. HasTask net.tasks i task) (sym own.number) ((h.out task had).has net state);
              turns = own.turns;
            }

        takes_them : TakesThem old new s.number s.count → IsHeld p keyboard limit new w
        takes_them x =
            let st : SettlesAll old.network s.number s.count (length old.network.choices) new.network = x.settles in
            with_left
            record {
              keeps = refl;
              of_run =
                  record {
                    program = ap (λ (n : Past). n.program) st.is ∙ h.of_run.program;
                    bytes = ap (λ (n : Past). n.keyboard) st.is ∙ h.of_run.bytes;
                    few = (
                        let longer = ap (λ (n : Past). length n.choices) st.is in
                        let long = choices_length st.place (length old.network.choices) old.network.choices s.count in
                        let within = x.within in
                        let lim = h.limit_is in
                        omega (arith, longer, long, within, lim)
                        );
                  };
              limit_is = limit_is ∙ h.limit_is;
              out = λ t a. let y = in_without task.number v.out t a in each st t (h.out t y.0) (λ e. y.1 (e ∙ own.number));
              over = λ e. absurd (open_not_over old k x.going (h.over e));
            }
          where
            each : SettlesAll old.network s.number s.count (length old.network.choices) new.network → (t : Task) → IsOut old.network t → (t.number ≡ s.number → ⊥) → IsOut new.network t
            each st t o away =
                record {
                  marked = ap (λ (n : Past). is_out n.out t.number) st.is ∙ marked_after old.network.out s.number s.count t.number away ∙ o.marked;
                  has = stays_ready old.network new.network k s.number s.count (length old.network.choices) x.small st t o.has o.may away;
                  may = o.may;
                }

        drops : Drops old new s.number s.count → IsHeld p keyboard limit new w
        drops x = back s.number own.number x.released (over_marked old new s.number false x.released limit_is x.stop)

        stops_at : StopsAt old new s.number → IsHeld p keyboard limit new w
        stops_at x = back s.number own.number x.released (λ _. stopped_over new stop.Memory x.stop)

        pub held_in : TakesIn old new s.number s.count → IsHeld p keyboard limit new w
        held_in (inl x) = takes_them x
        held_in (inr (inl x)) = drops x
        held_in (inr (inr x)) = stops_at x

-- ---- turns that were taken, or refused

pub stretch_of : (p : Program) (task : Task) (body : Body) (done : Result Stretch ℕ) → slice_get p.bodies task.number ≡ Some body → IfOk done (λ s. s.number ≡ task.number) → IfOk done (λ s. 0 < s.count) → IfOk done (λ s. InRow body task s.count s.after) → IfOk done (IsStretchOf p task)
stretch_of p task body (Ok s) has number some turns = record { number = number; some = some; body = body; has_body = has; turns = turns }
stretch_of p task body (Err e) has number some turns = tt

module _ (p : Program) (keyboard : List ℕ) (limit : ℕ) (old : Progress) (v : Known) (h : IsHeld p keyboard limit old v) (k : IsNetwork old.network) (token : Known) (w : Known) (checked : Checked (shown_beside v token) [] [] w) where
  pub own_done : (done : Result Stretch ℕ) → IsTurnOf p done token → IfOk done (λ s. (net : Net) → IsState old.network net → AreOwn old.network net s.number s.count s.after)
  own_done (Ok s) t = are_own p keyboard limit old old v h k refl t.task token t.token w checked s t.ran
  own_done (Err e) t = tt

  pub held_done : (new : Progress) → new.limit ≡ old.limit → (done : Result Stretch ℕ) → IsTurnOf p done token → IfOk done (λ s. TakesIn old new s.number s.count)
      → IfErr done (λ number. (new.network ≡ with_out old.network number false) × (new.stop ≡ first_stop old.stop stop.Memory)) → IsHeld p keyboard limit new w
  held_done new limit_is (Ok s) t ran refused = held_in p keyboard limit old new v h k limit_is t.task token t.token w checked s t.ran ran
  held_done new limit_is (Err e) t ran refused = held_refused p keyboard limit old new v h k limit_is t.task token t.token w checked e t.refused refused.0 refused.1

-- ---- the end

pub held_ended : (p : Program) (keyboard : List ℕ) (limit : ℕ) (b : Progress) (v : Known) → IsHeld p keyboard limit b v → IsOver b → IsHeld p keyboard limit b (keeper v.out true)
held_ended p keyboard limit b v h over = record { keeps = refl; of_run = h.of_run; limit_is = h.limit_is; out = h.out; over = λ _. over }

pub concluded : (p : Program) (keyboard : List ℕ) (limit : ℕ) (b : Progress) (v token w : Known) → IsHeld p keyboard limit b v → token ≡ teller → Checked (shown_beside v token) [] [] w → IsConcluded p keyboard limit b
concluded p keyboard limit b v token w h is checked =
    record { of_run = h.of_run; limit_is = h.limit_is; over = h.over ((subst (λ (x : Known). Checked (shown_beside v x) [] [] w) is checked).saw refl) }
