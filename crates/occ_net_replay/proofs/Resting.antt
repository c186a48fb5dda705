-- Where the run by steps stands still, those who are ahead stand at communications, and nothing is met by them.
use Rattle.std.proofs.Common.{◌≡◌, ◌∙◌, refl, sym, ap, subst, Bool, IsTrue, ℕ, ◌⊎◌, inl, inr, List, [], ◌∷◌, Some}
use Rattle.std.proofs.lemmas.Bool.{eq-eqb, eqb-true}
use mathlib.Core.Bool.{true≢false}
use Rattle.occ_term.specs.declared.fault.Fault.{Fault}
use Rattle.occ_term.specs.declared.communication.Communication.{Communication}
use Rattle.occ_term.specs.declared.message.Message.{Message}
use Rattle.occ_term.specs.Processes.{Numbered}
use Rattle.occ_term.specs.Runs.{Meeting, by_message, by_skip, StepOf, meeting_step, skip_step}
use Rattle.occ_term.specs.Selecting.{Enabled, SkipArm, InputArm, waits_for, is_ready_on, chosen}
use Rattle.occ_term.specs.Steps.{Doing, Do, Passing, Again, Offering, Awaiting, Choosing, Taking, MessageTaken, Forking, Halted, Faulted, Done, Context, Left, left, status, status_of}
use Rattle.occ_term.specs.System.{Process, Processes, no_processes, System, system, GoesFrom, alone, joined, has_byte, offers_at, offers_in, offers, ChangeIn, GivesOn, offer_ends, GetsOn, input_gets, arm_gets, PassesBy, arm_skips, process_sends, keyboard_sends, process_receives, screen_receives, error_receives, Meets, meets, PassesSkip, passes_skip}
use Rattle.occ_term.specs.TermTyping.{Declared}
use Rattle.occ_term.specs.Values.{Store}
use Rattle.occ_net_replay.specs.Moments.{At, here, below, Among, first, later, NoneReady}
use Rattle.occ_net_replay.specs.Replay.{byte_message}
use Rattle.occ_net_replay.proofs.Ahead.{gives_comm, gets_comm, skips_comm}
use Rattle.occ_net_replay.proofs.Communicating.{gives_calm}
use Rattle.occ_net_replay.proofs.Holding.{put, put_among}
use Rattle.occ_net_replay.proofs.Lagging.{NotIn, Ahead, level, ahead}
use Rattle.occ_net_replay.proofs.Meeting.{OffersIn, offers_from, at_offers}
use Rattle.occ_net_replay.proofs.Pairing.{gives_offers, gives_not_gets}
use Rattle.occ_net_replay.proofs.Parts.{is_comm, is_live, live_unended}
use Rattle.occ_net_replay.proofs.Putting.{InAmong, change_put, ended_inside}
use Rattle.occ_net_replay.proofs.Quiet.{byte_there}
use Rattle.occ_net_replay.proofs.Still.{ChangesAt, changes_at}
use Rattle.occ_net_replay.proofs.Tables.{same_or_not, or_else, or_first, or_second, Chosen, chosen_or_none, chosen_unready}
use Rattle.occ_net_replay.proofs.Trees.{Both, same_place, OwnAfter, is_new, is_kid, is_old, own_after}

none_in : {n : ℕ} {a : Left} {ps qs : Processes} → qs ≡ no_processes → Among n a ps qs → ⊥
none_in {n = n} {a = a} {ps = ps} e x = nobody (subst (Among n a ps) e x)
  where
    nobody : Among n a ps no_processes → ⊥
    nobody x = elim x [ ]

-- ---- who stands alone stays there while others move

mutual
  kept_at : {n m : ℕ} {own a : Left} {os : Processes} {q : Process} → (rest : Left) (z : At m own os q) (y : At n a no_processes q) → (n ≡ m → ⊥) → (Among n a no_processes os → ⊥) → At n a no_processes (put z rest no_processes)
  kept_at rest here here f g = absurd (f refl)
  kept_at rest here (below y) f g = absurd (g y)
  kept_at rest (below z) here f g = elim z [ ]
  kept_at rest (below z) (below y) f g = below (kept_among rest z y f g)

  kept_among : {n m : ℕ} {own a : Left} {os qs : Processes} → (rest : Left) (z : Among m own os qs) (y : Among n a no_processes qs) → (n ≡ m → ⊥) → (Among n a no_processes os → ⊥) → Among n a no_processes (put_among z rest no_processes)
  kept_among rest (first z) (first y) f g = first (kept_at rest z y f g)
  kept_among rest (first z) (later y) f g = later y
  kept_among rest (later z) (first y) f g = first y
  kept_among rest (later z) (later y) f g = later (kept_among rest z y f g)

not_within : {n : ℕ} {own from a : Left} {os : Processes} → GoesFrom own os from → IsTrue (is_live (status a)) → Among n a no_processes os → ⊥
not_within alone h y = elim y [ ]
not_within {a = a} (joined e) h y = true≢false (sym (ended_inside y e) ∙ live_unended (status a) h)

pub stays_there : {d : Declared} {procs : List Numbered} {q n : ℕ} {a : Left} {ns : List ℕ} {t t' : Process} {s s' : Store} → Ahead d procs q ns t s t' s' → At n a no_processes t → IsTrue (is_live (status a)) → NotIn n ns → At n a no_processes t'
stays_there level y h k = y
stays_there {n = n} {a = a} (ahead {rest = rest} f r) y h k = stays_there r (subst (At n a no_processes) (sym f.is) (kept_at rest f.at y k.0 (not_within f.goes h))) h k.1

-- ---- who stands at a communication has no branches

abbrev pub Alone : Process → Type 0
Alone p = (n : ℕ) (own : Left) (ps : Processes) → At n own ps p → IsTrue (is_comm (status own)) → ps ≡ no_processes

mutual
  alone_after : {n i : ℕ} {own a : Left} {os qs : Processes} {q : Process} → (rest : Left) (z : At n own os q) → Alone q → At i a qs (put z rest no_processes) → IsTrue (is_comm (status a)) → qs ≡ no_processes
  alone_after rest here h here g = refl
  alone_after rest here h (below y) g = elim y [ ]
  alone_after rest (below z) h here g = absurd (none_in (h _ _ _ here g) z)
  alone_after rest (below z) h (below y) g = alone_among rest z (λ n own ps v. h n own ps (below v)) y g

  alone_among : {n i : ℕ} {own a : Left} {os qs rs : Processes} → (rest : Left) (z : Among n own os rs) → ((n : ℕ) (own : Left) (ps : Processes) → Among n own ps rs → IsTrue (is_comm (status own)) → ps ≡ no_processes) → Among i a qs (put_among z rest no_processes) → IsTrue (is_comm (status a)) → qs ≡ no_processes
  alone_among rest (first z) h (first y) g = alone_after rest z (λ n own ps v. h n own ps (first v)) y g
  alone_among rest (first z) h (later y) g = h _ _ _ (later y) g
  alone_among rest (later z) h (first y) g = h _ _ _ (first y) g
  alone_among rest (later z) h (later y) g = alone_among rest z (λ n own ps v. h n own ps (later v)) y g

pub all_alone : {d : Declared} {procs : List Numbered} {q : ℕ} {ns : List ℕ} {t t' : Process} {s s' : Store} → Ahead d procs q ns t s t' s' → Alone t → Alone t'
all_alone level h = h
all_alone (ahead {rest = rest} f r) h = all_alone r (subst Alone (sym f.is) (λ n own ps y g. alone_after rest f.at h y g))

-- ---- what could be met before can be met now

record GivesSome (a : Left) (c : ℕ) : Type 0 where
  pub message : Message
  pub next : Left
  pub gives : GivesOn c message a next

gives_some : (x : Doing) (k : List Context) (c : ℕ) → IsTrue (offers_at (status_of x) c) → GivesSome (left x k) c
gives_some (Do t) k c g = absurd (true≢false (sym g))
gives_some (Passing l) k c g = absurd (true≢false (sym g))
gives_some (Again l) k c g = absurd (true≢false (sym g))
gives_some (Offering i m) k c g = subst (GivesSome (left (Offering i m) k)) (eqb-true i c g) (record { message = m; next = _; gives = offer_ends })
gives_some (Awaiting i list) k c g = absurd (true≢false (sym g))
gives_some (Choosing pri es) k c g = absurd (true≢false (sym g))
gives_some (Taking xs what) k c g = absurd (true≢false (sym g))
gives_some (Forking bs) k c g = absurd (true≢false (sym g))
gives_some Halted k c g = absurd (true≢false (sym g))
gives_some (Faulted e) k c g = absurd (true≢false (sym g))
gives_some Done k c g = absurd (true≢false (sym g))

gives_at_left : (a : Left) (c : ℕ) → IsTrue (offers_at (status a) c) → GivesSome a c
gives_at_left (left x k) c g = gives_some x k c g

module _ (kb : List ℕ) (tree : Process) (now : Store) (noted : List Fault) (lone : Alone tree) (beside_once : (n : ℕ) → Both n n tree → ⊥) (inside_once : (n : ℕ) (own : Left) (ps : Processes) → At n own ps tree → InAmong n ps → ⊥) where
  abbrev stands : ℕ → Bool
  stands = offers (system kb tree now noted)

  abbrev Moves : Type 0
  Moves = StepOf (system kb tree now noted)

  -- a process that can get what stands on a channel
  received : (c w : ℕ) (own : Left) → IsTrue (stands c) → At w own no_processes tree → ((m : Message) → (next : Left) × GetsOn (offers (system kb tree now noted)) c m own next) → Moves
  received c w own h y f = by (or_else (has_byte kb c) (offers_in tree c) h)
    where
      from : (o : OffersIn tree c) → GivesSome o.own c → (w ≡ o.number) ⊎ (w ≡ o.number → ⊥) → Moves
      from o g (inl e) =
          let there : At w o.own o.branches tree = subst (λ v. At v o.own o.branches tree) (sym e) o.at in
          let same = same_place y there (beside_once w) (λ b rs u v. inside_once w b rs u v) (λ b rs u v. inside_once w b rs u v) in
          let r = f g.message in
          absurd (gives_not_gets g.gives (subst (λ v. GetsOn (offers (system kb tree now noted)) c g.message v r.0) same.own_is r.1))
      from o g (inr e) =
          let at : At o.number o.own no_processes tree = subst (λ v. At o.number o.own v tree) (lone o.number o.own o.branches o.at (gives_comm g.gives)) o.at in
          let r = f g.message in
          let still = kept_at g.next at y e (λ v. elim v [ ]) in
          meeting_step (meets (process_sends (change_put (GivesOn c g.message) g.next at g.gives)) (process_receives (change_put (GetsOn (offers (system kb tree now noted)) c g.message) r.0 still r.1)))

      by : IsTrue (has_byte kb c) ⊎ IsTrue (offers_in tree c) → Moves
      by (inl g) =
          let (b, rest, e, o) = byte_there kb c g in
          let r = f (byte_message b) in
          subst (λ v. StepOf (system v tree now noted)) (sym e) (meeting_step (meets (keyboard_sends o refl) (process_receives (change_put (GetsOn (offers (system (b ∷ rest) tree now noted)) c (byte_message b)) r.0 y (subst (λ v. GetsOn (offers (system v tree now noted)) c (byte_message b) own r.0) e r.1)))))
      by (inr g) = let o = offers_from tree c g in from o (gives_at_left o.own c o.offers) (same_or_not w o.number)

  -- a process that chooses, and has an arm that is ready
  chooses_some : (w : ℕ) (pri : Bool) (es : List Enabled) (k : List Context) → At w (left (Choosing pri es) k) no_processes tree → (others : ℕ → Bool) (pick : ℕ) (e : Enabled) → chosen pri pick others es ≡ Some e → IsTrue (is_ready_on (offers (system kb tree now noted)) (waits_for e)) → Moves
  chooses_some w pri es k y others pick e q h = by (chosen_or_none waits_for (offers (system kb tree now noted)) pri pick es)
    where
      arm : (x : Enabled) → chosen pri pick (offers (system kb tree now noted)) es ≡ Some x → IsTrue (is_ready_on (offers (system kb tree now noted)) (waits_for x)) → Moves
      arm (SkipArm again body) i g = skip_step (passes_skip (change_put (PassesBy (offers (system kb tree now noted))) _ y (arm_skips pick i)))
      arm (InputArm again c list) i g = received c w (left (Choosing pri es) k) g y (λ m. (left (Taking again (MessageTaken list m)) k, arm_gets pick i))

      by : NoneReady waits_for (offers (system kb tree now noted)) es ⊎ Chosen waits_for (offers (system kb tree now noted)) pri pick es → Moves
      by (inl n) = absurd (true≢false (sym h ∙ chosen_unready waits_for others (offers (system kb tree now noted)) pri pick es e n q))
      by (inr x) = arm x.arm x.is x.ready

  gets_some : {others : ℕ → Bool} {c : ℕ} {m : Message} {own next : Left} → (w : ℕ) → GetsOn others c m own next → IsTrue (offers (system kb tree now noted) c) → At w own no_processes tree → Moves
  gets_some {c = c} w (input_gets {k = k} {list = list}) h y = received c w (left (Awaiting c list) k) h y (λ m. (left (Taking [] (MessageTaken list m)) k, input_gets))
  gets_some {others = others} w (arm_gets {k = k} {pri = pri} {arms = es} pick e) h y = chooses_some w pri es k y others pick _ e h

  module _ {p : Process} (there : (i : ℕ) (own : Left) (ps : Processes) → At i own ps p → IsTrue (is_comm (status own)) → At i own no_processes tree) where
    gave : {c n : ℕ} {m : Message} {p' : Process} → (x : ChangesAt (GivesOn c m) n p p') → At n x.own no_processes tree
    gave {n = n} x = there n x.own no_processes x.at (gives_comm x.rel)

    still_stands : {c n : ℕ} {m : Message} {p' : Process} → ChangeIn (GivesOn c m) n p p' → IsTrue (offers (system kb tree now noted) c)
    still_stands {c = c} f = let x = changes_at f in or_second (has_byte kb c) (offers_in tree c) (at_offers c (gave x) (gives_offers x.rel c ∙ eq-eqb c c refl))

    passed : {others : ℕ → Bool} {c n k : ℕ} {m : Message} {p' p'' : Process} → ChangeIn (GivesOn c m) k p p' → ChangeIn (GetsOn others c m) n p' p'' → Moves
    passed {others = others} {c = c} {n = n} {k = k} {m = m} {p' = p'} {p'' = p''} f g = by y.rel (own_after x.next no_processes x.at y.at)
      where
        x : ChangesAt (GivesOn c m) k p p'
        x = changes_at f

        y : ChangesAt (GetsOn others c m) n (put x.at x.next no_processes) p''
        y = changes_at (subst (λ t. ChangeIn (GetsOn others c m) n t p'') x.is g)

        by : {own to : Left} → GetsOn others c m own to → OwnAfter k n own x.next no_processes p → Moves
        by r (is_new o e) = absurd (true≢false (sym (gets_comm r) ∙ ap (λ t. is_comm (status t)) e ∙ gives_calm x.rel))
        by r (is_kid t) = elim t [ ]
        by {own = own} r (is_old {ps = ts} t) = gets_some n r (still_stands f) (there n own ts t (gets_comm r))

    meets_now : {s : Store} {k : List ℕ} → k ≡ kb → {x : Communication} {to : System} → Meets (system k p s noted) x to → Moves
    meets_now e (meets (process_sends f) (process_receives g)) = passed f g
    meets_now e (meets {c = c} {m = m} (process_sends f) (screen_receives g)) = let x = changes_at f in meeting_step (meets (process_sends (change_put (GivesOn c m) x.next (gave x) x.rel)) (screen_receives g))
    meets_now e (meets {c = c} {m = m} (process_sends f) (error_receives g)) = let x = changes_at f in meeting_step (meets (process_sends (change_put (GivesOn c m) x.next (gave x) x.rel)) (error_receives g))
    meets_now e (meets {c = c} (keyboard_sends {b = b} {kb = rest} o i) (process_receives {n = n} g)) =
        let y = changes_at g in
        gets_some n y.rel (or_first (has_byte kb c) (offers_in tree c) (subst (λ v. IsTrue (has_byte v c)) e (eq-eqb c 0 o))) (there n y.own no_processes y.at (gets_comm y.rel))
    meets_now e (meets (keyboard_sends o i) (screen_receives g)) = let r = sym o ∙ g in absurd cc
    meets_now e (meets (keyboard_sends o i) (error_receives g)) = let r = sym o ∙ g in absurd cc

    skips_now : {s : Store} {n : ℕ} {to : System} → PassesSkip n (system kb p s noted) to → Moves
    skips_now {n = n} (passes_skip f) = let y = changes_at f in by y.rel (there n y.own no_processes y.at (skips_comm y.rel))
      where
        by : {others : ℕ → Bool} {own next : Left} → PassesBy others own next → At n own no_processes tree → Moves
        by {others = others} (arm_skips {k = k} {pri = pri} {arms = es} pick e) y = chooses_some n pri es k y others pick _ e refl

    pub meeting_now : {s : Store} {n : ℕ} → Meeting n (system kb p s noted) → Moves
    meeting_now (by_message part m) = meets_now refl m
    meeting_now (by_skip m) = skips_now m
