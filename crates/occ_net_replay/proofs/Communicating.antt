-- A run by turns keeps up with a run by steps: one process arrives.
use Rattle.std.proofs.Common.{◌≡◌, ◌∙◌, refl, sym, ap, subst, Bool, false, IsTrue, IsFalse, ℕ, suc, ◌+◌, ◌<◌, ◌^◌, ◌⊎◌, inl, inr, List, [], ◌∷◌, ◌++◌, Option, Some, None, length, arith, append-nil, length-append}
use Rattle.std.specs.Prelude.{nat_eq}
use Rattle.std.proofs.lemmas.Bool.{eq-eqb}
use mathlib.Core.Bool.{true≢false}
use Rattle.occ_term.specs.declared.fault.Errors.{Errors}
use Rattle.occ_term.specs.declared.fault.Fault.{Fault}
use Rattle.occ_term.specs.declared.communication.Communication.{Communication}
use Rattle.occ_term.specs.declared.communication.End.TheVariants.{Process as OfProcess, Keyboard, Screen, Error}
use Rattle.occ_term.specs.declared.message.Message.{Message}
use Rattle.occ_term.specs.Processes.{Numbered}
use Rattle.occ_term.specs.Runs.{Event, event, Run, MeetsAtMost, meets_one, meets_skip}
use Rattle.occ_term.specs.Steps.{Left, Status, Runs, Loops, Offers, Awaits, Chooses, Forks, IsHalted, FailsBy, HasEnded, status}
use Rattle.occ_term.specs.System.{Process, Processes, no_processes, System, system, MayGo, fault_noted, alone, SystemTurn, system_turn, has_byte, offers_at, offers_in, offers, ChangeIn, GivesOn, offer_ends, GetsOn, input_gets, arm_gets, PassesBy, arm_skips, process_sends, keyboard_sends, process_receives, screen_receives, error_receives, communication, meets, PassesSkip, passes_skip}
use Rattle.occ_term.specs.TermTyping.{Declared}
use Rattle.occ_term.specs.Values.{Store}
use Rattle.occ_net_replay.specs.Moments.{At}
use Rattle.occ_net_replay.specs.Replay.{byte_message}
use Rattle.occ_net_replay.proofs.Ahead.{gives_comm, gets_comm, skips_comm}
use Rattle.occ_net_replay.proofs.Arriving.{comm_stops, from_calm, turn_of, gets_still, skips_still}
use Rattle.occ_net_replay.proofs.Holding.{put}
use Rattle.occ_net_replay.proofs.Lagging.{NotIn, Ahead, Pushed, pushed, Brought, brought}
use Rattle.occ_net_replay.proofs.Meeting.{offers_from}
use Rattle.occ_net_replay.proofs.Parts.{is_comm, Sets_none, change_moves, Move, no_kids, Facts, facts_after}
use Rattle.occ_net_replay.proofs.Putting.{turn_put, change_put}
use Rattle.occ_net_replay.proofs.Runs.{run_more, met_more, listed}
use Rattle.occ_net_replay.proofs.Simulating.{Lags, known, h, from_end, moved_there, idle_after}
use Rattle.occ_net_replay.proofs.Still.{ChangesAt, changes_at}
use Rattle.occ_net_replay.proofs.Tables.{or_else, or_first}
use Rattle.occ_net_replay.proofs.Trees.{OwnAfter, is_new, is_kid, is_old, own_after, at_now, put_again}

pub gets_no_offer : {standing : ℕ → Bool} {c : ℕ} {m : Message} {a b : Left} → GetsOn standing c m a b → (i : ℕ) → offers_at (status a) i ≡ false
gets_no_offer input_gets i = refl
gets_no_offer (arm_gets pick e) i = refl

skips_no_offer : {standing : ℕ → Bool} {a b : Left} → PassesBy standing a b → (i : ℕ) → offers_at (status a) i ≡ false
skips_no_offer (arm_skips pick e) i = refl

pub gives_calm : {c : ℕ} {m : Message} {a b : Left} → GivesOn c m a b → IsFalse (is_comm (status b))
gives_calm offer_ends = refl

pub gets_calm : {standing : ℕ → Bool} {c : ℕ} {m : Message} {a b : Left} → GetsOn standing c m a b → IsFalse (is_comm (status b))
gets_calm input_gets = refl
gets_calm (arm_gets pick e) = refl

skips_calm : {standing : ℕ → Bool} {a b : Left} → PassesBy standing a b → IsFalse (is_comm (status b))
skips_calm (arm_skips pick e) = refl

pub gives_at : (c : ℕ) (m : Message) (i j : Left) → GivesOn c m i j → IsTrue (is_comm (status i))
gives_at c m i j r = gives_comm r

pub gets_at : (standing : ℕ → Bool) (c : ℕ) (m : Message) (i j : Left) → GetsOn standing c m i j → IsTrue (is_comm (status i))
gets_at standing c m i j r = gets_comm r

skips_at : (standing : ℕ → Bool) (i j : Left) → PassesBy standing i j → IsTrue (is_comm (status i))
skips_at standing i j r = skips_comm r

comm_by : (st : Status) (c : ℕ) → IsTrue (offers_at st c) → IsTrue (is_comm st)
comm_by Runs c g = absurd (true≢false (sym g))
comm_by Loops c g = absurd (true≢false (sym g))
comm_by (Offers i m) c g = refl
comm_by (Awaits i) c g = absurd (true≢false (sym g))
comm_by (Chooses pri arms) c g = absurd (true≢false (sym g))
comm_by (Forks bs) c g = absurd (true≢false (sym g))
comm_by IsHalted c g = absurd (true≢false (sym g))
comm_by (FailsBy e) c g = absurd (true≢false (sym g))
comm_by HasEnded c g = absurd (true≢false (sym g))

pub offers_comm : (a : Left) (c : ℕ) → IsTrue (offers_at (status a) c) → IsTrue (is_comm (status a))
offers_comm a c g = comm_by (status a) c g

module _ (d : Declared) (procs : List Numbered) (errors : Errors) (q : ℕ) (a0 : System) (facts : (es : List Event) (kb : List ℕ) (p : Process) (s : Store) (noted : List Fault) → Run errors (suc q) a0 es (system kb p s noted) → length es < 2 ^ 63 → Facts d procs p s) {most : ℕ} {xs : List Communication} {a : System} (l : Lags d procs errors q a0 facts most xs a) (small : most < 2 ^ 63) (may : MayGo errors l.noted) where
  -- who stands at a communication is ahead
  pub at_stop : {R : Left → Left → Type 0} {n : ℕ} {next : Left} {tree' : Process} {now' : Store} → ((i j : Left) → R i j → IsTrue (is_comm (status i))) → Move (Sets_none d R) no_kids n next l.tree l.now tree' now' → Brought d procs (suc q) n l.ahead_by l.base l.store l.tree l.now ⊎ NotIn n l.ahead_by → Brought d procs (suc q) n l.ahead_by l.base l.store l.tree l.now
  at_stop comm g (inl b) = b
  at_stop {R = R} {n = n} comm g (inr k) =
      let y = pushed d procs (suc q) (change_moves d R) no_kids (known d procs errors q a0 facts l small) l.are_ahead g k in
      absurd (true≢false (sym (comm y.one.from _ y.one.by.0) ∙ from_calm y.one.goes (l.idle n y.one.own y.one.branches y.one.at)))

  module _ {R : Left → Left → Type 0} (comm : (i j : Left) → R i j → IsTrue (is_comm (status i))) {n : ℕ} {next : Left} {tree' : Process} {now' : Store} (g : Move (Sets_none d R) no_kids n next l.tree l.now tree' now') where
    abbrev pub b : Brought d procs (suc q) n l.ahead_by l.base l.store l.tree l.now
    b = at_stop comm g (brought d procs (suc q) n (known d procs errors q a0 facts l small) l.are_ahead l.distinct)

    abbrev pub z : Pushed d procs (suc q) (Sets_none d R) no_kids n next b.others b.between b.store tree' now'
    z = pushed d procs (suc q) (change_moves d R) no_kids (facts_after d procs (suc q) (known d procs errors q a0 facts l small) b.one) b.rest g b.none

    pub end_rel : R b.end next
    end_rel = subst (λ v. R v next) (from_end d procs errors q a0 facts l small b z.one) (h d procs errors q a0 facts l small b z.one).by.0

    end_comm : IsTrue (is_comm (status b.end))
    end_comm = comm b.end next end_rel

    abbrev pub arrived_at : Process
    arrived_at = put b.one.at b.end no_processes

    pub turns : SystemTurn errors (suc q) n (system l.keyboard l.base l.store l.noted) (system l.keyboard arrived_at b.store l.noted)
    turns =
        let stops = comm_stops (status b.end) end_comm in
        let turn = turn_of b.one.by.0 (from_calm b.one.goes (l.idle n b.one.own b.one.branches b.one.at)) end_comm in
        subst (λ v. SystemTurn errors (suc q) n (system l.keyboard l.base l.store l.noted) (system l.keyboard arrived_at b.store v)) (ap (λ f. l.noted ++ f) stops.3 ∙ append-nil l.noted)
        (subst (λ v. SystemTurn errors (suc q) n (system l.keyboard l.base l.store l.noted) (system l.keyboard (put b.one.at b.end v) b.store (l.noted ++ fault_noted (status b.end)))) stops.2 (system_turn may (turn_put b.one.at b.one.goes turn)))

    abbrev pub next_base : Process
    next_base = put b.one.at next no_processes

    pub changed : {S : Left → Left → Type 0} → S b.end next → ChangeIn S n arrived_at next_base
    changed {S = S} r = subst (ChangeIn S n arrived_at) (put_again b.one.at b.end next no_processes no_processes) (change_put S next (at_now b.one.at b.end no_processes) r)

    -- nobody else stands at one
    pub only_one : {i : ℕ} {own : Left} {ps : Processes} → At i own ps arrived_at → IsTrue (is_comm (status own)) → own ≡ b.end
    only_one {i = i} {own = own} y g = by (own_after b.end no_processes b.one.at y)
      where
        by : OwnAfter n i own b.end no_processes l.base → own ≡ b.end
        by (is_new e f) = f
        by (is_kid w) = elim w [ ]
        by (is_old {ps = ts} w) = absurd (true≢false (sym g ∙ l.idle i own ts w))

    fewer_stand : ((i : ℕ) → offers_at (status b.end) i ≡ false) → (kb : List ℕ) (noted : List Fault) (i : ℕ) → IsTrue (offers (system kb arrived_at b.store noted) i) → IsTrue (offers (system kb l.tree l.now noted) i)
    fewer_stand none kb noted i e = by (or_else (has_byte kb i) (offers_in arrived_at i) e)
      where
        by : IsTrue (has_byte kb i) ⊎ IsTrue (offers_in arrived_at i) → IsTrue (offers (system kb l.tree l.now noted) i)
        by (inl w) = or_first (has_byte kb i) (offers_in l.tree i) w
        by (inr w) = let o = offers_from arrived_at i w in absurd (true≢false (sym o.offers ∙ ap (λ v. offers_at (status v) i) (only_one o.at (offers_comm o.own i o.offers)) ∙ none i))

    -- one turn, and what is met
    pub taken : (met : Option Communication) (kb : List ℕ) → IsFalse (is_comm (status next)) → MeetsAtMost errors n (system l.keyboard arrived_at b.store l.noted) met (system kb next_base b.store l.noted) → Lags d procs errors q a0 facts (suc most) (xs ++ listed met) (system kb tree' now' l.noted)
    taken met kb calm m =
        let few = l.few in
        let many = b.many in
        let longer_by : length (l.events ++ event n met ∷ []) ≡ length l.events + 1 = length-append l.events (event n met ∷ []) in
        record {
          events = l.events ++ event n met ∷ [];
          ahead_by = b.others;
          keyboard = kb;
          base = next_base;
          store = b.store;
          noted = l.noted;
          tree = tree';
          now = now';
          run = run_more l.run turns m;
          are_ahead = subst (λ v. Ahead d procs (suc q) b.others v b.store tree' now') (moved_there d procs errors q a0 facts l small b z.one) (subst (λ v. Ahead d procs (suc q) b.others z.between v tree' now') (h d procs errors q a0 facts l small b z.one).by.1 z.rest);
          distinct = b.distinct;
          idle = idle_after l.idle next no_processes b.one.at calm (λ i o ts w. elim w [ ]);
          is = refl;
          said = met_more l.events n met ∙ ap (λ v. v ++ listed met) l.said;
          few = omega (arith, few, many, longer_by);
        }

  abbrev pub moved_by : {R : Left → Left → Type 0} {n : ℕ} {p p' : Process} {s : Store} → (y : ChangesAt R n p p') → Move (Sets_none d R) no_kids n y.next p s p' s
  moved_by y = record { own = y.own; branches = no_processes; at = y.at; from = y.own; goes = alone; by = (y.rel, refl); is = y.is }

  -- ---- SKIP, the screen, the error channel, the keyboard

  pub skips_up : (kb : List ℕ) → kb ≡ l.keyboard → {n : ℕ} {to : System} → PassesSkip n (system kb l.tree l.now l.noted) to → Lags d procs errors q a0 facts (suc most) (xs ++ []) to
  skips_up kb e {n = n} (passes_skip {p' = two} f) =
      let y = changes_at (subst (λ v. ChangeIn (PassesBy (offers (system v l.tree l.now l.noted))) n l.tree two) e f) in
      let g = moved_by y in
      let comm = skips_at (offers (system l.keyboard l.tree l.now l.noted)) in
      let rel = end_rel comm g in
      subst (λ v. Lags d procs errors q a0 facts (suc most) (xs ++ []) (system v two l.now l.noted)) (sym e)
      (taken comm g None l.keyboard (skips_calm y.rel)
      (meets_skip may (passes_skip (changed comm g (skips_still (offers (system l.keyboard l.tree l.now l.noted)) (offers (system l.keyboard (arrived_at comm g) (b comm g).store l.noted)) (fewer_stand comm g (skips_no_offer rel) l.keyboard l.noted) rel)))))

  pub shows_up : (c : ℕ) (m : Message) (n : ℕ) (two : Process) → ChangeIn (GivesOn c m) n l.tree two → c ≡ 1 → Lags d procs errors q a0 facts (suc most) (xs ++ communication c (OfProcess n) Screen m ∷ []) (system l.keyboard two l.now l.noted)
  shows_up c m n two f e =
      let y = changes_at f in
      let g = moved_by y in
      let comm = gives_at c m in
      taken comm g (Some (communication c (OfProcess n) Screen m)) l.keyboard (gives_calm y.rel) (meets_one may (inl refl) (meets (process_sends (changed comm g (end_rel comm g))) (screen_receives e)))

  pub errs_up : (c : ℕ) (m : Message) (n : ℕ) (two : Process) → ChangeIn (GivesOn c m) n l.tree two → c ≡ 2 → Lags d procs errors q a0 facts (suc most) (xs ++ communication c (OfProcess n) Error m ∷ []) (system l.keyboard two l.now l.noted)
  errs_up c m n two f e =
      let y = changes_at f in
      let g = moved_by y in
      let comm = gives_at c m in
      taken comm g (Some (communication c (OfProcess n) Error m)) l.keyboard (gives_calm y.rel) (meets_one may (inl refl) (meets (process_sends (changed comm g (end_rel comm g))) (error_receives e)))

  pub types_up : (c byte : ℕ) (rest : List ℕ) (m : Message) (n : ℕ) (two : Process) → (e : l.keyboard ≡ byte ∷ rest) → (o : c ≡ 0) → m ≡ byte_message byte → ChangeIn (GetsOn (offers (system (byte ∷ rest) l.tree l.now l.noted)) c m) n l.tree two → Lags d procs errors q a0 facts (suc most) (xs ++ communication c Keyboard (OfProcess n) m ∷ []) (system rest two l.now l.noted)
  types_up c byte rest m n two e o i f =
      let y = changes_at f in
      let g = moved_by y in
      let comm = gets_at (offers (system (byte ∷ rest) l.tree l.now l.noted)) c m in
      let rel = end_rel comm g in
      taken comm g (Some (communication c Keyboard (OfProcess n) m)) rest (gets_calm y.rel)
      (subst (λ v. MeetsAtMost errors n (system v (arrived_at comm g) (b comm g).store l.noted) (Some (communication c Keyboard (OfProcess n) m)) (system rest (next_base comm g) (b comm g).store l.noted)) (sym e)
      (meets_one may (inr refl) (meets (keyboard_sends o i) (process_receives (changed comm g
      (gets_still (offers (system (byte ∷ rest) l.tree l.now l.noted)) (offers (system (byte ∷ rest) (arrived_at comm g) (b comm g).store l.noted)) (fewer_stand comm g (gets_no_offer rel) (byte ∷ rest) l.noted) (or_first (nat_eq c 0) (offers_in (arrived_at comm g) c) (eq-eqb c 0 o)) rel))))))
