-- Which arm a choice takes in a replay.
use Rattle.std.proofs.Common.{◌≡◌, ◌∙◌, refl, sym, ap, subst, Bool, true, false, IsTrue, ℕ, ◌%◌, ◌⊎◌, inl, inr, List, ◌∷◌, Option, Some, None, length, arith}
use Rattle.std.specs.Prelude.{slice_set, nat_eq}
use Rattle.std.proofs.lemmas.Bool.{eqb-true, eq-eqb}
use mathlib.Core.Bool.{true≢false}
use Rattle.occ_term.specs.declared.message.Message.{Message}
use Rattle.occ_term.specs.Selecting.{is_ready_on}
use Rattle.occ_term.specs.System.{has_byte}
use Rattle.occ_machine.specs.Machine.{Body}
use Rattle.occ_machine.specs.declared.task.Arm.{Arm}
use Rattle.occ_machine.specs.declared.task.Task.{Task}
use Rattle.occ_machine.specs.declared.task.Wait.TheVariants as W
use Rattle.occ_net_replay.specs.Choosing.{ChoicesTakeReadyArms, OffersReachChoices}
use Rattle.occ_net_replay.specs.Moments.{NoneReady}
use Rattle.occ_net_replay.specs.Replay.{Net, HasTask, Settled, settles, meets, skips, joined, task_gives, keyboard_gives, arm_gets, arm_chosen, made_ready, may_go, offers_among, offers_on, ready_from, standing, took_arm, took_turn}
use Rattle.occ_net_replay.specs.Waiting.{listens_on}
use Rattle.occ_net_replay.proofs.Alone.{replays_are_quiet}
use Rattle.occ_net_replay.proofs.Arms.{chosen_by_new, held_ready}
use Rattle.occ_net_replay.proofs.Quiet.{byte_there, offers_is}
use Rattle.occ_net_replay.proofs.Same.{turn_comes_to}
use Rattle.occ_net_replay.proofs.Tables.{Chosen, OffersOn, ready_at, chosen_or_none, chosen_ready, chosen_unready, offers_found, offers_there, or_else, or_first, or_second, set_back, set_other, set_same, task_once}

-- where a turn may come to, with this task of this process
pub record ComesTo (bodies : List Body) (n pick : ℕ) (a : Net) (i : ℕ) (t : Task) : Type 0 where
  pub net : Net
  pub settles : Settled bodies n pick a net
  pub there : HasTask net.tasks i t

module _ (bodies : List Body) (n pick : ℕ) (net : Net) (before after : Task) (has : HasTask net.tasks n before) where
  abbrev now : Net
  now = took_turn net n after

  mine : HasTask now.tasks n after
  mine = set_same net.tasks n (Some before) (Some after) has

  -- ---- the process comes to a choice

  module _ (pri : Bool) (arms : List Arm) (arm : Arm) (w : after.wait ≡ W.Chooses pri arms) (e : arm_chosen pri pick (standing now) arms ≡ Some arm) where
    by_byte : (c b : ℕ) (rest : List ℕ) → arm.chan ≡ Some c → net.keyboard ≡ b ∷ rest → c ≡ 0 → (m : Option Message) × ComesTo bodies n pick now n (took_arm after arm m)
    by_byte c b rest f q z = (_, record { net = _; settles = settles (meets (inr refl) (joined (keyboard_gives q z refl) (arm_gets mine w e f))); there = set_same now.tasks n (Some after) (Some (took_arm after arm (Some _))) mine })

    by_offer : (c : ℕ) → arm.chan ≡ Some c → OffersOn now.tasks c → (m : Option Message) × ComesTo bodies n pick now n (took_arm after arm m)
    by_offer c f o =
        let x = offers_is o.task.wait c o.offers in
        let apart : n ≡ o.number → ⊥ = (λ q. let same : after ≡ o.task = task_once now.tasks o.number (subst (λ z. HasTask now.tasks z after) q mine) o.there in let r = sym w ∙ ap (λ z. z.wait) same ∙ x.1 in cc) in
        let still = set_other now.tasks o.number n (Some (made_ready o.task)) apart ∙ mine in
        (_, record { net = _; settles = settles (meets (inr refl) (joined (task_gives o.there x.1) (arm_gets still w e f))); there = set_same (slice_set now.tasks o.number (Some (made_ready o.task))) n (Some after) (Some (took_arm after arm (Some x.0))) still })

    pub takes_arm : (m : Option Message) × ComesTo bodies n pick now n (took_arm after arm m)
    takes_arm = by arm.chan refl (chosen_ready (λ (x : Arm). x.chan) (standing now) pri pick arms arm e)
      where
        by : (x : Option ℕ) → arm.chan ≡ x → IsTrue (is_ready_on (standing now) x) → (m : Option Message) × ComesTo bodies n pick now n (took_arm after arm m)
        by None f r = (None, record { net = _; settles = settles (skips mine w e f); there = set_same now.tasks n (Some after) (Some (took_arm after arm None)) mine })
        by (Some c) f r = at (or_else (has_byte net.keyboard c) (offers_among now.tasks c) r)
          where
            at : IsTrue (has_byte net.keyboard c) ⊎ IsTrue (offers_among now.tasks c) → (m : Option Message) × ComesTo bodies n pick now n (took_arm after arm m)
            at (inl h) = let (b, rest, q, z) = byte_there net.keyboard c h in by_byte c b rest f q z
            at (inr h) = by_offer c f (offers_found now.tasks c h)

  -- ---- an offer comes to a process that chooses

  module _ (chan : ℕ) (m : Message) (w : after.wait ≡ W.Offers chan m) where
    -- an offer that did not stand before is that of the process
    new_offer : (d : ℕ) → standing net d ≡ false → standing now d ≡ nat_eq d chan
    new_offer d f = by (nat_eq d chan) refl (standing now d) refl
      where
        is_own : IsTrue (standing now d) → d ≡ chan
        is_own h = which (or_else (has_byte net.keyboard d) (offers_among now.tasks d) h)
          where
            which : IsTrue (has_byte net.keyboard d) ⊎ IsTrue (offers_among now.tasks d) → d ≡ chan
            which (inl x) = absurd (true≢false (sym (or_first (has_byte net.keyboard d) (offers_among net.tasks d) x) ∙ f))
            which (inr x) = at (set_back net.tasks n o.number has o.there)
              where
                o : OffersOn now.tasks d
                o = offers_found now.tasks d x

                at : ((o.number ≡ n) × (o.task ≡ after)) ⊎ ((o.number ≡ n → ⊥) × HasTask net.tasks o.number o.task) → d ≡ chan
                at (inl q) = let is = offers_is after.wait d (subst (λ z. IsTrue (offers_on z.wait d)) q.1 o.offers) in let r = sym is.1 ∙ w in cc
                at (inr q) = absurd (true≢false (sym (or_second (has_byte net.keyboard d) (offers_among net.tasks d) (offers_there net.tasks d o.number o.task q.1 o.offers)) ∙ f))

        by : (a : Bool) → nat_eq d chan ≡ a → (b : Bool) → standing now d ≡ b → standing now d ≡ nat_eq d chan
        by true q true r = r ∙ sym q
        by true q false r = absurd (true≢false (sym (or_second (has_byte net.keyboard d) (offers_among now.tasks d) (offers_there now.tasks d n after mine (ap (λ z. offers_on z d) w ∙ eq-eqb chan d (sym (eqb-true d chan q))))) ∙ r))
        by false q true r = absurd (true≢false (sym (eq-eqb d chan (is_own r)) ∙ q))
        by false q false r = r ∙ sym q

    module _ (i : ℕ) (t : Task) (pri : Bool) (arms : List Arm) (there : HasTask net.tasks i t) (waits : t.wait ≡ W.Chooses pri arms) (apart : i ≡ n → ⊥) (listens : IsTrue (listens_on (W.Chooses pri arms) chan)) (unready : NoneReady (λ a. a.chan) (standing net) arms) where
      pub record TakesBy : Type 0 where
        pub arm : Arm
        pub chosen : arm_chosen pri pick (λ d. nat_eq d chan) arms ≡ Some arm
        pub on : arm.chan ≡ Some chan

      taking : TakesBy
      taking = by (chosen_or_none (λ (a : Arm). a.chan) (λ d. nat_eq d chan) pri pick arms)
        where
          its : (a : Arm) (x : Option ℕ) → a.chan ≡ x → IsTrue (is_ready_on (λ d. nat_eq d chan) x) → is_ready_on (standing net) x ≡ false → arm_chosen pri pick (λ d. nat_eq d chan) arms ≡ Some a → TakesBy
          its a None e r f s = absurd (true≢false f)
          its a (Some d) e r f s = record { arm = a; chosen = s; on = e ∙ ap Some (eqb-true d chan r) }

          by : NoneReady (λ a. a.chan) (λ d. nat_eq d chan) arms ⊎ Chosen (λ (a : Arm). a.chan) (λ d. nat_eq d chan) pri pick arms → TakesBy
          by (inl x) = absurd (held_ready (λ d. nat_eq d chan) arms chan listens (eq-eqb chan chan refl) x)
          by (inr x) = its x.arm x.arm.chan refl x.ready (chosen_unready (λ (a : Arm). a.chan) (λ d. nat_eq d chan) (standing net) pri pick arms x.arm unready x.is) x.is

      pub takes_offer : (x : TakesBy) × ComesTo bodies n pick now i (took_arm t x.arm (Some m))
      takes_offer =
          let x = taking in
          let chosen : arm_chosen pri pick (standing now) arms ≡ Some x.arm = chosen_by_new (standing net) (standing now) (λ d. nat_eq d chan) new_offer pri pick arms unready ∙ x.chosen in
          let still : HasTask (slice_set now.tasks n (Some (made_ready after))) i t = set_other now.tasks n i (Some (made_ready after)) apart ∙ set_other net.tasks n i (Some after) apart ∙ there in
          (x, record { net = _; settles = settles (meets (inl refl) (joined (task_gives mine w) (arm_gets still waits chosen x.on))); there = set_same (slice_set now.tasks n (Some (made_ready after))) i (Some t) (Some (took_arm t x.arm (Some m))) still })

pub choices_take_ready_arms : ChoicesTakeReadyArms
choices_take_ready_arms u p quantum kb cs net c b o pri arms arm z w e =
    let x = takes_arm p.bodies o.number c.pick net o.before o.after o.has_task pri arms arm w e in
    let same = turn_comes_to u p quantum kb cs net z c o x.1.settles in
    (x.0, subst (λ y. HasTask y.tasks o.number (took_arm o.after arm x.0)) (sym same) x.1.there)

pub offers_reach_choices : OffersReachChoices
offers_reach_choices u p quantum kb cs net c b o chan m i t pri arms z w h e l =
    let quiet = replays_are_quiet u p quantum kb cs net z in
    let y = ready_at 0 net.tasks (c.which % length (ready_from 0 net.tasks)) o.number o.selects in
    let at : y.place ≡ o.number = (let q = y.is in omega (arith, q)) in
    let apart : i ≡ o.number → ⊥ = (λ q. let same : y.task ≡ t = task_once net.tasks i (subst (λ k. HasTask net.tasks k y.task) (at ∙ sym q) y.there) h in true≢false (sym y.may ∙ ap (λ k. may_go k.wait) same ∙ ap may_go e)) in
    let x = takes_offer p.bodies o.number c.pick net o.before o.after o.has_task chan m w i t pri arms h e apart (subst (λ y. IsTrue (listens_on y chan)) e l) (quiet.unready i t pri arms h e) in
    let same = turn_comes_to u p quantum kb cs net z c o x.1.settles in
    (x.0.arm, x.0.chosen, x.0.on, subst (λ y. HasTask y.tasks i (took_arm t x.0.arm (Some m))) (sym same) x.1.there)
