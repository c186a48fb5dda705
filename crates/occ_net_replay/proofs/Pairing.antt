-- A run by turns keeps up with a run by steps: two processes communicate.
use Rattle.std.proofs.Common.{◌≡◌, ◌∙◌, refl, sym, ap, subst, Bool, true, false, IsTrue, IsFalse, ℕ, suc, ◌+◌, ◌<◌, ◌^◌, ◌%◌, ◌⊎◌, inl, inr, List, [], ◌∷◌, ◌++◌, Some, None, length, arith, append-nil, length-append}
use Rattle.std.specs.Prelude.{nat_eq, ◌||◌, if◌then◌else◌}
use Rattle.std.proofs.lemmas.Bool.{eq-eqb, eqb-true}
use mathlib.Core.Bool.{true≢false}
use Rattle.occ_term.specs.declared.fault.Errors.{Errors}
use Rattle.occ_term.specs.declared.fault.Fault.{Fault}
use Rattle.occ_term.specs.declared.communication.Communication.{Communication}
use Rattle.occ_term.specs.declared.communication.End.TheVariants.{Process as OfProcess}
use Rattle.occ_term.specs.declared.message.Message.{Message}
use Rattle.occ_term.specs.Processes.{Numbered}
use Rattle.occ_term.specs.Runs.{Event, event, Run, communications, Meeting, by_message, by_skip, MeetsAtMost, meets_none, meets_one}
use Rattle.occ_term.specs.Selecting.{InputArm, waits_for, ready_among}
use Rattle.occ_term.specs.StepUses.{uses_of_left, uses_of_contexts, uses_of_all, uses_of_settings}
use Rattle.occ_term.specs.Steps.{Do, Offering, Left, left, status}
use Rattle.occ_term.specs.System.{GoesFrom, alone, joined, Process, Processes, no_processes, System, system, MayGo, fault_noted, SystemTurn, system_turn, has_byte, offers_at, offers_in, offers, ChangeIn, GivesOn, offer_ends, GetsOn, input_gets, arm_gets, PassesBy, process_sends, keyboard_sends, process_receives, screen_receives, error_receives, communication, Meets, meets, PassesSkip, passes_skip}
use Rattle.occ_term.specs.TermTyping.{Declared}
use Rattle.occ_term.specs.Terms.{Skip}
use Rattle.occ_term.specs.Uses.{uses_of, uses_of_reception}
use Rattle.occ_term.specs.Values.{Store}
use Rattle.occ_term.proofs.KeptStores.{no_part, whole_part}
use Rattle.occ_term.proofs.TypedValues.{or_left, or_right}
use Rattle.occ_net_replay.specs.Moments.{At}
use Rattle.occ_net_replay.proofs.Ahead.{Idle, gives_comm, gets_comm, skips_comm}
use Rattle.occ_net_replay.proofs.Arriving.{comm_stops, from_calm, turn_of, change_of, gets_still}
use Rattle.occ_net_replay.proofs.Communicating.{gives_at, gets_at, gives_calm, gets_calm, gets_no_offer, offers_comm, b, end_rel, only_one, moved_by}
use Rattle.occ_net_replay.proofs.Holding.{put}
use Rattle.occ_net_replay.proofs.Lagging.{NotIn, Ahead, Pushed, pushed, Brought, brought}
use Rattle.occ_net_replay.proofs.Meeting.{offers_from, at_offers, enabled_part, ready_is_one}
use Rattle.occ_net_replay.proofs.Parts.{is_comm, Sets_none, change_moves, Move, no_kids, Fit, Facts, Part, from_fit, part_kept, facts_after, facts_changed}
use Rattle.occ_net_replay.proofs.Putting.{turn_put}
use Rattle.occ_net_replay.proofs.Runs.{run_more, met_more, listed}
use Rattle.occ_net_replay.proofs.Sending.{part_left}
use Rattle.occ_net_replay.proofs.Simulating.{Lags, known}
use Rattle.occ_net_replay.proofs.Still.{ChangesAt, changes_at}
use Rattle.occ_net_replay.proofs.Tables.{or_else, or_first, or_second, same_or_not}
use Rattle.occ_net_replay.proofs.Trees.{OwnAfter, is_new, is_kid, is_old, own_after, at_now, both_back, inside_back, same_place}
use Rattle.occ_net_replay.proofs.Turning.{part_of_part}

pub gives_offers : {c : ℕ} {m : Message} {a b : Left} → GivesOn c m a b → (i : ℕ) → offers_at (status a) i ≡ nat_eq c i
gives_offers offer_ends i = refl

pub gives_not_gets : {standing : ℕ → Bool} {c i : ℕ} {m k : Message} {a b e : Left} → GivesOn c m a b → GetsOn standing i k a e → ⊥
gives_not_gets offer_ends g = elim g [ ]

gives_not_skips : {standing : ℕ → Bool} {c : ℕ} {m : Message} {a b e : Left} → GivesOn c m a b → PassesBy standing a e → ⊥
gives_not_skips offer_ends g = elim g [ ]

gets_ins : {standing : ℕ → Bool} {c : ℕ} {m : Message} {a b : Left} → GetsOn standing c m a b → IsTrue ((uses_of_left a).ins c)
gets_ins {c = c} (input_gets {k = k} {list = list}) =
    or_left (nat_eq c c || (uses_of_reception list).ins c) ((uses_of_contexts k).ins c) (or_left (nat_eq c c) ((uses_of_reception list).ins c) (eq-eqb c c refl))
gets_ins {standing = standing} {c = c} (arm_gets {k = k} {pri = pri} {arms = es} {again = again} {list = list} pick e) =
    let r = ready_is_one standing es (if pri then 0 else pick % length (ready_among waits_for standing es)) (InputArm again c list) e in
    let part = enabled_part es (InputArm again c list) r.place (uses_of_all es) r.is (whole_part (uses_of_all es)) in
    or_left ((uses_of_all es).ins c) ((uses_of_contexts k).ins c) (part.ins c (or_right ((uses_of_settings again).ins c) (nat_eq c c || (uses_of_reception list).ins c) (or_left (nat_eq c c) ((uses_of_reception list).ins c) (eq-eqb c c refl))))

gives_fit : (d : Declared) (procs : List Numbered) {n c : ℕ} {m : Message} {a b : Left} → GivesOn c m a b → Fit d procs n a → Fit d procs n b
gives_fit d procs {c = c} {m = m} (offer_ends {k = k}) h =
    record {
      term = h.term;
      entry = h.entry;
      typed = (tt, h.typed.1);
      uses = part_of_part (uses_of_left (left (Do Skip) k)) (uses_of_left (left (Offering c m) k)) (uses_of h.term) (part_left (Do Skip) (Offering c m) k (no_part (uses_of_left (left (Offering c m) k)))) h.uses;
      deaf = h.deaf;
    }

from_own : {own from : Left} {ps : Processes} → GoesFrom own ps from → IsTrue (is_comm (status from)) → from ≡ own
from_own alone h = refl
from_own (joined e) h = absurd (true≢false (sym h))

gives_same : {c i : ℕ} {m u : Message} {a b e : Left} → GivesOn c m a b → GivesOn i u a e → i ≡ c
gives_same offer_ends offer_ends = refl

-- where one process alone stands at a communication, an offer, and no screen reads it, nothing is met
module _ {c : ℕ} {m : Message} {end next : Left} (rel : GivesOn c m end next) (unread : (c ≡ 1 → ⊥) × (c ≡ 2 → ⊥)) {p : Process} (only_end : (i : ℕ) (own : Left) (ps : Processes) → At i own ps p → IsTrue (is_comm (status own)) → own ≡ end) where
  not_got : {standing : ℕ → Bool} {i n : ℕ} {u : Message} {p' : Process} → ChangeIn (GetsOn standing i u) n p p' → ⊥
  not_got {standing = standing} {i = i} {n = n} {u = u} f = let y = changes_at f in gives_not_gets rel (subst (λ v. GetsOn standing i u v y.next) (only_end n y.own no_processes y.at (gets_comm y.rel)) y.rel)

  not_skipped : {standing : ℕ → Bool} {n : ℕ} {p' : Process} → ChangeIn (PassesBy standing) n p p' → ⊥
  not_skipped {standing = standing} {n = n} f = let y = changes_at f in gives_not_skips rel (subst (λ v. PassesBy standing v y.next) (only_end n y.own no_processes y.at (skips_comm y.rel)) y.rel)

  not_passed : {standing : ℕ → Bool} {i j n k : ℕ} {u v : Message} {p' p'' : Process} → ChangeIn (GivesOn i u) k p p' → ChangeIn (GetsOn standing j v) n p' p'' → ⊥
  not_passed {standing = standing} {i = i} {j = j} {n = n} {k = k} {u = u} {v = v} {p' = p'} {p'' = p''} f g = by y.rel (own_after x.next no_processes x.at y.at)
    where
      x : ChangesAt (GivesOn i u) k p p'
      x = changes_at f

      y : ChangesAt (GetsOn standing j v) n (put x.at x.next no_processes) p''
      y = changes_at (subst (λ t. ChangeIn (GetsOn standing j v) n t p'') x.is g)

      by : {own to : Left} → GetsOn standing j v own to → OwnAfter k n own x.next no_processes p → ⊥
      by r (is_new o e) = true≢false (sym (gets_comm r) ∙ ap (λ t. is_comm (status t)) e ∙ gives_calm x.rel)
      by r (is_kid t) = elim t [ ]
      by {to = to} r (is_old {ps = ts} t) = gives_not_gets rel (subst (λ o. GetsOn standing j v o to) (only_end n _ ts t (gets_comm r)) r)

  its_channel : {i k : ℕ} {u : Message} {p' : Process} → ChangeIn (GivesOn i u) k p p' → i ≡ c
  its_channel {i = i} {k = k} {u = u} f = let x = changes_at f in gives_same rel (subst (λ v. GivesOn i u v x.next) (only_end k x.own no_processes x.at (gives_comm x.rel)) x.rel)

  not_met : {kb : List ℕ} {s : Store} {noted : List Fault} {x : Communication} {to : System} → Meets (system kb p s noted) x to → ⊥
  not_met (meets (process_sends f) (process_receives g)) = not_passed f g
  not_met (meets (process_sends f) (screen_receives g)) = unread.0 (sym (its_channel f) ∙ g)
  not_met (meets (process_sends f) (error_receives g)) = unread.1 (sym (its_channel f) ∙ g)
  not_met (meets (keyboard_sends o i) (process_receives g)) = not_got g
  not_met (meets (keyboard_sends o i) (screen_receives g)) = let r = sym o ∙ g in absurd cc
  not_met (meets (keyboard_sends o i) (error_receives g)) = let r = sym o ∙ g in absurd cc

  not_skips : {kb : List ℕ} {s : Store} {noted : List Fault} {n : ℕ} {to : System} → PassesSkip n (system kb p s noted) to → ⊥
  not_skips (passes_skip f) = not_skipped f

  not_meeting : {kb : List ℕ} {s : Store} {noted : List Fault} {n : ℕ} → Meeting n (system kb p s noted) → ⊥
  not_meeting (by_message part x) = not_met x
  not_meeting (by_skip x) = not_skips x

-- a process comes to a communication by a turn
pub arrives_by : (d : Declared) (procs : List Numbered) (errors : Errors) (q : ℕ) {n : ℕ} {end : Left} {p p1 : Process} {s s1 : Store} (kb : List ℕ) (noted : List Fault) → MayGo errors noted → (f : Part d procs (suc q) n end p s p1 s1) → IsFalse (is_comm (status f.own)) → IsTrue (is_comm (status end)) → SystemTurn errors (suc q) n (system kb p s noted) (system kb p1 s1 noted)
arrives_by d procs errors q {n = n} {end = end} {p = p} {s = s} {s1 = s1} kb noted may f calm h =
    let stops = comm_stops (status end) h in
    let turn = turn_of f.by.0 (from_calm f.goes calm) h in
    subst (λ v. SystemTurn errors (suc q) n (system kb p s noted) (system kb v s1 noted)) (sym f.is)
    (subst (λ v. SystemTurn errors (suc q) n (system kb p s noted) (system kb (put f.at end no_processes) s1 v)) (ap (λ v. noted ++ v) stops.3 ∙ append-nil noted)
    (subst (λ v. SystemTurn errors (suc q) n (system kb p s noted) (system kb (put f.at end v) s1 (noted ++ fault_noted (status end)))) stops.2 (system_turn may (turn_put f.at f.goes turn))))

module _ (d : Declared) (procs : List Numbered) (errors : Errors) (q : ℕ) (a0 : System) (facts : (es : List Event) (kb : List ℕ) (p : Process) (s : Store) (noted : List Fault) → Run errors (suc q) a0 es (system kb p s noted) → length es < 2 ^ 63 → Facts d procs p s) {most : ℕ} {xs : List Communication} {a : System} (l : Lags d procs errors q a0 facts most xs a) (small : most < 2 ^ 63) (may : MayGo errors l.noted) where
  abbrev stands : ℕ → Bool
  stands = offers (system l.keyboard l.tree l.now l.noted)

  module _ (c : ℕ) (m : Message) (z w : ℕ) (one two : Process) (f1 : ChangeIn (GivesOn c m) z l.tree one) (f2 : ChangeIn (GetsOn (offers (system l.keyboard l.tree l.now l.noted)) c m) w one two) where
    abbrev y1 : ChangesAt (GivesOn c m) z l.tree one
    y1 = changes_at f1

    abbrev y2 : ChangesAt (GetsOn stands c m) w one two
    y2 = changes_at f2

    abbrev g1 : Move (Sets_none d (GivesOn c m)) no_kids z y1.next l.tree l.now one l.now
    g1 = moved_by d procs errors q a0 facts l small may y1

    abbrev g2 : Move (Sets_none d (GetsOn stands c m)) no_kids w y2.next one l.now two l.now
    g2 = moved_by d procs errors q a0 facts l small may y2

    abbrev b1 : Brought d procs (suc q) z l.ahead_by l.base l.store l.tree l.now
    b1 = b d procs errors q a0 facts l small may (gives_at c m) g1

    rel1 : GivesOn c m b1.end y1.next
    rel1 = end_rel d procs errors q a0 facts l small may (gives_at c m) g1

    k1 : Facts d procs b1.between b1.store
    k1 = facts_after d procs (suc q) (known d procs errors q a0 facts l small) b1.one

    -- after z's turn nobody else stands at a communication
    one_stands : {i : ℕ} {own : Left} {ps : Processes} → At i own ps b1.between → IsTrue (is_comm (status own)) → own ≡ b1.end
    one_stands {i = i} {own = own} {ps = ps} y g = only_one d procs errors q a0 facts l small may (gives_at c m) g1 (subst (At i own ps) b1.one.is y) g

    abbrev p0 : Pushed d procs (suc q) (Sets_none d (GivesOn c m)) no_kids z y1.next b1.others b1.between b1.store one l.now
    p0 = pushed d procs (suc q) (change_moves d (GivesOn c m)) no_kids k1 b1.rest g1 b1.none

    -- w is ahead too
    never : NotIn w b1.others → ⊥
    never k = by (own_after y1.next no_processes p0.one.at (subst (At w y.one.own y.one.branches) p0.one.is y.one.at))
      where
        fit : Fit d procs z y1.next
        fit = gives_fit d procs p0.one.by.0 (from_fit d procs p0.one.goes (k1.fit z p0.one.own p0.one.branches p0.one.at))

        y : Pushed d procs (suc q) (Sets_none d (GetsOn stands c m)) no_kids w y2.next b1.others p0.between p0.store two l.now
        y = pushed d procs (suc q) (change_moves d (GetsOn stands c m)) no_kids (facts_changed d procs (suc q) k1 p0.one fit) p0.rest g2 k

        rel : GetsOn stands c m y.one.own y2.next
        rel = subst (λ v. GetsOn stands c m v y2.next) (from_own y.one.goes (gets_comm y.one.by.0)) y.one.by.0

        by : OwnAfter z w y.one.own y1.next no_processes b1.between → ⊥
        by (is_new i e) = true≢false (sym (gets_comm rel) ∙ ap (λ v. is_comm (status v)) e ∙ gives_calm y1.rel)
        by (is_kid v) = elim v [ ]
        by (is_old v) = gives_not_gets rel1 (subst (λ o. GetsOn stands c m o y2.next) (one_stands v (gets_comm rel)) rel)

    b2_of : Brought d procs (suc q) w b1.others b1.between b1.store l.tree l.now ⊎ NotIn w b1.others → Brought d procs (suc q) w b1.others b1.between b1.store l.tree l.now
    b2_of (inl x) = x
    b2_of (inr k) = absurd (never k)

    abbrev b2 : Brought d procs (suc q) w b1.others b1.between b1.store l.tree l.now
    b2 = b2_of (brought d procs (suc q) w k1 b1.rest b1.distinct)

    other : w ≡ z → ⊥
    other e = b2.was (subst (λ v. NotIn v b1.others) (sym e) b1.none)

    k2 : Facts d procs b2.between b2.store
    k2 = facts_after d procs (suc q) k1 b2.one

    abbrev p1 : Pushed d procs (suc q) (Sets_none d (GivesOn c m)) no_kids z y1.next b2.others b2.between b2.store one l.now
    p1 = pushed d procs (suc q) (change_moves d (GivesOn c m)) no_kids k2 b2.rest g1 (b2.fewer z b1.none)

    k3 : Facts d procs p1.between p1.store
    k3 = facts_changed d procs (suc q) k2 p1.one (gives_fit d procs p1.one.by.0 (from_fit d procs p1.one.goes (k2.fit z p1.one.own p1.one.branches p1.one.at)))

    abbrev p2 : Pushed d procs (suc q) (Sets_none d (GetsOn stands c m)) no_kids w y2.next b2.others p1.between p1.store two l.now
    p2 = pushed d procs (suc q) (change_moves d (GetsOn stands c m)) no_kids k3 p1.rest g2 b2.none

    own2 : GetsOn stands c m p2.one.own y2.next
    own2 = subst (λ v. GetsOn stands c m v y2.next) (from_own p2.one.goes (gets_comm p2.one.by.0)) p2.one.by.0

    -- w stood at the end of its turn
    end2 : p2.one.own ≡ b2.end
    end2 = by (own_after y1.next no_processes p1.one.at (subst (At w p2.one.own p2.one.branches) p1.one.is p2.one.at))
      where
        there : Facts d procs (put b2.one.at b2.end no_processes) b2.store
        there = subst (λ v. Facts d procs v b2.store) b2.one.is k2

        at_end : {ps : Processes} → At w p2.one.own ps (put b2.one.at b2.end no_processes) → p2.one.own ≡ b2.end
        at_end y = sym (same_place (at_now b2.one.at b2.end no_processes) y (there.beside_once w) (λ o rs u v. there.inside_once w o rs u v) (λ o rs u v. there.inside_once w o rs u v)).own_is

        by : OwnAfter z w p2.one.own y1.next no_processes b2.between → p2.one.own ≡ b2.end
        by (is_new i e) = absurd (other i)
        by (is_kid v) = elim v [ ]
        by (is_old {ps = ps} v) = at_end (subst (At w p2.one.own ps) b2.one.is v)

    rel2 : GetsOn stands c m b2.end y2.next
    rel2 = subst (λ v. GetsOn stands c m v y2.next) end2 own2

    -- w came by a turn, and did not stand at a communication before it
    came : IsFalse (is_comm (status b2.one.own))
    came = not_true (is_comm (status b2.one.own)) (λ g. by (own_after b1.end no_processes b1.one.at (subst (At w b2.one.own b2.one.branches) b1.one.is b2.one.at)) g)
      where
        not_true : (x : Bool) → (IsTrue x → ⊥) → x ≡ false
        not_true true f = absurd (f refl)
        not_true false f = refl

        by : OwnAfter z w b2.one.own b1.end no_processes l.base → IsTrue (is_comm (status b2.one.own)) → ⊥
        by (is_new i e) g = other i
        by (is_kid v) g = elim v [ ]
        by (is_old {ps = ps} v) g = true≢false (sym g ∙ l.idle w b2.one.own ps v)

    turn1 : SystemTurn errors (suc q) z (system l.keyboard l.base l.store l.noted) (system l.keyboard b1.between b1.store l.noted)
    turn1 = arrives_by d procs errors q l.keyboard l.noted may b1.one (l.idle z b1.one.own b1.one.branches b1.one.at) (gives_comm rel1)

    turn2 : SystemTurn errors (suc q) w (system l.keyboard b1.between b1.store l.noted) (system l.keyboard b2.between b2.store l.noted)
    turn2 = arrives_by d procs errors q l.keyboard l.noted may b2.one came (gets_comm rel2)

    -- no screen reads what is offered
    unread : (c ≡ 1 → ⊥) × (c ≡ 2 → ⊥)
    unread =
        let fit = from_fit d procs b2.one.goes (k1.fit w b2.one.own b2.one.branches b2.one.at) in
        let kept = part_kept d b2.one.by.0 fit.typed k1.typed_store in
        fit.deaf c (fit.uses.ins c (kept.uses.ins c (gets_ins rel2)))

    none_met : MeetsAtMost errors z (system l.keyboard b1.between b1.store l.noted) None (system l.keyboard b1.between b1.store l.noted)
    none_met = meets_none (λ g x. not_meeting rel1 unread (λ i own ps y h. one_stands y h) x)

    -- what stands then is z's offer and the keyboard's
    abbrev stands2 : ℕ → Bool
    stands2 = offers (system l.keyboard b2.between b2.store l.noted)

    given : ChangeIn (GivesOn c m) z b2.between p1.between
    given = change_of d (gives_at c m) p1.one

    offered2 : IsTrue (stands2 c)
    offered2 = let y = changes_at given in or_second (has_byte l.keyboard c) (offers_in b2.between c) (at_offers c y.at (gives_offers y.rel c ∙ eq-eqb c c refl))

    offered : IsTrue (stands c)
    offered = or_second (has_byte l.keyboard c) (offers_in l.tree c) (at_offers c y1.at (gives_offers y1.rel c ∙ eq-eqb c c refl))

    less : (i : ℕ) → IsTrue (stands2 i) → IsTrue (stands i)
    less i e = by (or_else (has_byte l.keyboard i) (offers_in b2.between i) e)
      where
        on : {n : ℕ} {own : Left} {ps : Processes} → IsTrue (offers_at (status own) i) → At n own ps b1.between → IsTrue (stands i)
        on {own = own} g y =
            let same : own ≡ b1.end = one_stands y (offers_comm own i g) in
            let chan : nat_eq c i ≡ true = sym (gives_offers rel1 i) ∙ sym (ap (λ v. offers_at (status v) i) same) ∙ g in
            subst (λ v. IsTrue (stands v)) (eqb-true c i chan) offered

        where_it : {n : ℕ} {own : Left} → IsTrue (offers_at (status own) i) → OwnAfter w n own b2.end no_processes b1.between → IsTrue (stands i)
        where_it g (is_new j f) = absurd (true≢false (sym g ∙ ap (λ v. offers_at (status v) i) f ∙ gets_no_offer rel2 i))
        where_it g (is_kid v) = elim v [ ]
        where_it g (is_old v) = on g v

        by : IsTrue (has_byte l.keyboard i) ⊎ IsTrue (offers_in b2.between i) → IsTrue (stands i)
        by (inl g) = or_first (has_byte l.keyboard i) (offers_in l.tree i) g
        by (inr g) = let o = offers_from b2.between i g in where_it o.offers (own_after b2.end no_processes b2.one.at (subst (At o.number o.own o.branches) b2.one.is o.at))

    got : ChangeIn (GetsOn stands2 c m) w p1.between p2.between
    got = change_of d (gets_at stands2 c m) (record { own = p2.one.own; branches = p2.one.branches; at = p2.one.at; from = p2.one.from; goes = p2.one.goes; by = (gets_still stands stands2 less offered2 p2.one.by.0, p2.one.by.1); is = p2.one.is })

    both_met : MeetsAtMost errors w (system l.keyboard b2.between b2.store l.noted) (Some (communication c (OfProcess z) (OfProcess w) m)) (system l.keyboard p2.between b2.store l.noted)
    both_met = meets_one may (inr refl) (meets (process_sends given) (process_receives got))

    -- nobody stands at a communication then
    idle2 : Idle p2.between
    idle2 i own ps y = by_w (same_or_not i w) (same_or_not i z)
      where
        is_w : i ≡ w → IsFalse (is_comm (status own))
        is_w e =
            let there : At w own ps (put p2.one.at y2.next no_processes) = subst (λ v. At v own ps (put p2.one.at y2.next no_processes)) e (subst (At i own ps) p2.one.is y) in
            let same = same_place (at_now p2.one.at y2.next no_processes) there (λ x. k3.beside_once w (both_back y2.next p2.one.at x.x x.y x.apart))
            (λ o rs u v. let t = inside_back y2.next p2.one.at u v.at in k3.inside_once w t.own t.branches t.at t.inside) (λ o rs u v. let t = inside_back y2.next p2.one.at u v.at in k3.inside_once w t.own t.branches t.at t.inside) in
            subst (λ v. IsFalse (is_comm (status v))) same.own_is (gets_calm y2.rel)

        is_z : {ts : Processes} → At i own ts p1.between → i ≡ z → IsFalse (is_comm (status own))
        is_z {ts = ts} v e =
            let k4 : Facts d procs (put p1.one.at y1.next no_processes) p1.store = subst (λ u. Facts d procs u p1.store) p1.one.is k3 in
            let there : At z own ts (put p1.one.at y1.next no_processes) = subst (λ u. At u own ts (put p1.one.at y1.next no_processes)) e (subst (At i own ts) p1.one.is v) in
            let same = same_place (at_now p1.one.at y1.next no_processes) there (k4.beside_once z) (λ o rs u x. k4.inside_once z o rs u x) (λ o rs u x. k4.inside_once z o rs u x) in
            subst (λ u. IsFalse (is_comm (status u))) same.own_is (gives_calm y1.rel)

        before1 : (i ≡ z → ⊥) → OwnAfter z i own b1.end no_processes l.base → IsFalse (is_comm (status own))
        before1 g (is_new e f) = absurd (g e)
        before1 g (is_kid v) = elim v [ ]
        before1 g (is_old {ps = ts} v) = l.idle i own ts v

        before2 : (i ≡ w → ⊥) → (i ≡ z → ⊥) → OwnAfter w i own b2.end no_processes b1.between → IsFalse (is_comm (status own))
        before2 f g (is_new e h) = absurd (f e)
        before2 f g (is_kid v) = elim v [ ]
        before2 f g (is_old {ps = ts} v) = before1 g (own_after b1.end no_processes b1.one.at (subst (At i own ts) b1.one.is v))

        before3 : (i ≡ w → ⊥) → (i ≡ z → ⊥) → OwnAfter z i own y1.next no_processes b2.between → IsFalse (is_comm (status own))
        before3 f g (is_new e h) = absurd (g e)
        before3 f g (is_kid v) = elim v [ ]
        before3 f g (is_old {ps = ts} v) = before2 f g (own_after b2.end no_processes b2.one.at (subst (At i own ts) b2.one.is v))

        by_z : (i ≡ w → ⊥) → (i ≡ z) ⊎ (i ≡ z → ⊥) → {ts : Processes} → At i own ts p1.between → IsFalse (is_comm (status own))
        by_z f (inl e) v = is_z v e
        by_z f (inr g) {ts = ts} v = before3 f g (own_after y1.next no_processes p1.one.at (subst (At i own ts) p1.one.is v))

        old : (i ≡ w → ⊥) → (i ≡ z) ⊎ (i ≡ z → ⊥) → OwnAfter w i own y2.next no_processes p1.between → IsFalse (is_comm (status own))
        old f g (is_new e h) = absurd (f e)
        old f g (is_kid v) = elim v [ ]
        old f g (is_old v) = by_z f g v

        by_w : (i ≡ w) ⊎ (i ≡ w → ⊥) → (i ≡ z) ⊎ (i ≡ z → ⊥) → IsFalse (is_comm (status own))
        by_w (inl e) g = is_w e
        by_w (inr f) g = old f g (own_after y2.next no_processes p2.one.at (subst (At i own ps) p2.one.is y))

    pub pairs_up : Lags d procs errors q a0 facts (suc most) (xs ++ communication c (OfProcess z) (OfProcess w) m ∷ []) (system l.keyboard two l.now l.noted)
    pairs_up =
        let met = Some (communication c (OfProcess z) (OfProcess w) m) in
        let few = l.few in
        let many1 = b1.many in
        let many2 = b2.many in
        let e1 = l.events ++ event z None ∷ [] in
        let longer1 : length (l.events ++ event z None ∷ []) ≡ length l.events + 1 = length-append l.events (event z None ∷ []) in
        let longer2 : length ((l.events ++ event z None ∷ []) ++ event w met ∷ []) ≡ length (l.events ++ event z None ∷ []) + 1 = length-append (l.events ++ event z None ∷ []) (event w met ∷ []) in
        let store_is : p2.store ≡ b2.store = p2.one.by.1 ∙ p1.one.by.1 in
        record {
          events = (l.events ++ event z None ∷ []) ++ event w met ∷ [];
          ahead_by = b2.others;
          keyboard = l.keyboard;
          base = p2.between;
          store = b2.store;
          noted = l.noted;
          tree = two;
          now = l.now;
          run = run_more (run_more l.run turn1 none_met) turn2 both_met;
          are_ahead = subst (λ v. Ahead d procs (suc q) b2.others p2.between v two l.now) store_is p2.rest;
          distinct = b2.distinct;
          idle = idle2;
          is = refl;
          said = met_more (l.events ++ event z None ∷ []) w met ∙ ap (λ v. v ++ listed met) (met_more l.events z None ∙ append-nil (communications l.events) ∙ l.said);
          few = omega (arith, few, many1, many2, longer1, longer2);
        }
