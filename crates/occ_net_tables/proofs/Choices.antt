-- A process that comes to a choice among alternatives.
use Rattle.std.proofs.Common.{◌≡◌, ◌∙◌, refl, sym, ap, subst, Bool, true, false, IsTrue, ℕ, ◌⊎◌, inl, inr, List, Option, Some, None, length}
use Rattle.std.specs.Prelude.{slice_set, ◌||◌}
use Rattle.std.proofs.lemmas.Bool.{eq-eqb}
use mathlib.Core.Bool.{true≢false}
use Rattle.occ_term.specs.declared.message.Message.{Message}
use Rattle.occ_term.specs.Selecting.{is_ready_on}
use Rattle.occ_term.specs.System.{has_byte}
use Rattle.occ_machine.specs.SameStop.{ready_with}
use Rattle.occ_machine.specs.Compiled.{Program}
use Rattle.occ_machine.specs.declared.task.Arm.{Arm}
use Rattle.occ_machine.specs.declared.task.Task.{Task}
use Rattle.occ_machine.specs.declared.task.Wait.TheVariants as W
use Rattle.occ_net_replay.specs.Replay.{Net, HasTask, arm_chosen, made_ready, may_go, offers_among, offers_on, settles, skips, standing, took_arm, with_task}
use Rattle.occ_net_replay.proofs.Quiet.{offers_is}
use Rattle.occ_net_replay.proofs.Tables.{OffersOn, chosen_ready, offers_found, offers_there, or_else, set_back, set_other}
use Rattle.occ_net_tables.specs.declared.tables.Tables.{Tables}
use Rattle.occ_net_tables.specs.Choosing.{TakesBy, by_choice, is_entry, is_same_number, keyboard_at, offered_by}
use Rattle.occ_net_tables.specs.Holding.{Sound, Sized}
use Rattle.occ_net_tables.specs.Settling.{Mid, SettlesTo, byte_on}
use Rattle.occ_net_tables.specs.Keys.{entry_in}
use Rattle.occ_net_tables.proofs.Arms.{byte_named, chosen_same}
use Rattle.occ_net_tables.proofs.Between.{bytes_same, as_took, giver_of, kept_quiet, no_entry, none_given, now, stays_as, there_old, waiting_net, waiting_old}
use Rattle.occ_net_tables.proofs.Meetings.{mine}
use Rattle.occ_net_tables.proofs.OneChange.{set_length, true_as}
use Rattle.occ_net_tables.proofs.Steps.{takes}

-- an arm that is taken has a byte of the keyboard, or an offer in the table
pub is_there : (kb : List ℕ) (used : ℕ) (table : List (Option ℕ)) (pri : Bool) (arms : List Arm) (pick c : ℕ) (a : Arm) → arm_chosen pri pick (offered_by (keyboard_at kb used) table) arms ≡ Some a → a.chan ≡ Some c → byte_on c kb used ≡ None → entry_in table c ≡ None → ⊥
is_there kb used table pri arms pick c a e f no_byte empty = by (or_else (is_same_number (keyboard_at kb used) c) (is_entry (entry_in table c)) on)
  where
    on : IsTrue (offered_by (keyboard_at kb used) table c)
    on = sym (ap (is_ready_on (offered_by (keyboard_at kb used) table)) f) ∙ chosen_ready (λ (x : Arm). x.chan) (offered_by (keyboard_at kb used) table) pri pick arms a e

    by : IsTrue (is_same_number (keyboard_at kb used) c) ⊎ IsTrue (is_entry (entry_in table c)) → ⊥
    by (inl h) = true≢false (sym h ∙ sym (byte_named kb used c) ∙ none_given c kb used no_byte)
    by (inr h) = true≢false (sym h ∙ ap is_entry empty)

module _ (p : Program) (kb : List ℕ) (old : Tables) (number place : ℕ) (after : Task) (net : Net) (mid : Mid p kb old number place after net) (pri : Bool) (arms : List Arm) (w : after.wait ≡ W.Chooses pri arms) where
  abbrev then_ : Net
  then_ = now p kb old number place after net mid

  abbrev pub tabled : ℕ → Bool
  tabled = offered_by (keyboard_at kb old.used) old.offering.items

  at_number : HasTask then_.tasks number after
  at_number = mine p.bodies 0 number net mid.before after mid.has_task

  -- the table says who offers
  offers_tabled : (c : ℕ) → offers_among then_.tasks c ≡ is_entry (entry_in old.offering.items c)
  offers_tabled c = by (entry_in old.offering.items c) refl
    where
      by : (x : Option ℕ) → entry_in old.offering.items c ≡ x → offers_among then_.tasks c ≡ is_entry x
      by (Some giver) e =
          let g = giver_of p kb old number place after net mid c giver e in
          let o = g.offering in
          let there : HasTask then_.tasks giver o.task = set_other net.tasks number giver (Some after) g.apart ∙ (waiting_old p kb old number place after net mid giver o.task o.there (ap may_go o.waits)).1 in
          offers_there then_.tasks c giver o.task there (ap (λ z. offers_on z c) o.waits ∙ eq-eqb c c refl)
      by None e = unless (offers_among then_.tasks c) (λ h. none (offers_found then_.tasks c h))
        where
          none : OffersOn then_.tasks c → ⊥
          none o = at (set_back net.tasks number o.number mid.has_task o.there)
            where
              is : (m : Message) × (o.task.wait ≡ W.Offers c m)
              is = offers_is o.task.wait c o.offers

              at : ((o.number ≡ number) × (o.task ≡ after)) ⊎ ((o.number ≡ number → ⊥) × HasTask net.tasks o.number o.task) → ⊥
              at (inl x) = let q = sym w ∙ ap (λ z. z.wait) (sym x.1) ∙ is.1 in cc
              at (inr x) = no_entry old.offering.items c o.number e (mid.sound.offers.whole c o.number o.task (waiting_net p kb old number place after net mid o.number o.task x.1 (ap may_go is.1)) o.offers)

          unless : (b : Bool) → (IsTrue b → ⊥) → b ≡ false
          unless true g = absurd (g refl)
          unless false g = refl

  pub stands_tabled : (c : ℕ) → standing then_ c ≡ tabled c
  stands_tabled c =
      ap (λ b. b || offers_among then_.tasks c) (ap (λ k. has_byte k c) mid.bytes ∙ byte_named kb old.used c)
      ∙ ap (λ b. is_same_number (keyboard_at kb old.used) c || b) (offers_tabled c)

  pub chosen_now : (pick : ℕ) → arm_chosen pri pick (standing then_) arms ≡ arm_chosen pri pick tabled arms
  chosen_now pick = chosen_same (standing then_) tabled stands_tabled pri pick arms

  pub takes_it : (pick c : ℕ) (a : Arm) → arm_chosen pri pick tabled arms ≡ Some a → a.chan ≡ Some c → TakesBy pick (standing then_) c after.wait a
  takes_it pick c a e f = subst (λ z. TakesBy pick (standing then_) c z a) (sym w) (by_choice (chosen_now pick ∙ e) f)

  -- ---- SKIP

  pub was_skipped : (new : Tables) (pick : ℕ) (a : Arm) → arm_chosen pri pick tabled arms ≡ Some a → a.chan ≡ None → new.tasks.items ≡ slice_set old.tasks.items number (Some (took_arm (made_ready after) a None)) → new.used ≡ old.used → new.trace ≡ old.trace → new.ready.items ≡ old.ready.items → new.offering.items ≡ old.offering.items → new.awaiting.items ≡ old.awaiting.items → new.parents.items ≡ old.parents.items → new.unfinished.items ≡ old.unfinished.items → new.fault ≡ old.fault → SettlesTo p kb pick number after net new
  was_skipped new pick a e f tasks used trace e1 e2 e3 e4 e5 e6 =
      let s = takes old.tasks.items old.ready.items old.offering.items old.awaiting.items old.parents.items old.unfinished.items old.fault mid.sound number (made_ready after) (there_old p kb old number place after net mid) refl a.number a.indices None in
      record {
        next = with_task then_ number (took_arm after a None);
        settles = settles (skips at_number w (chosen_now pick ∙ e) f);
        holds = record {
          tasks = as_took p kb old number place after net mid a None ∙ sym tasks;
          bytes = bytes_same p kb old number place after net mid new used;
          trace = mid.trace ∙ (sym trace);
          sound = kept_quiet p kb old number place after net mid new (W.Chooses pri arms) w refl (true_as tasks e1 e2 e3 e4 e5 e6 s);
          sized = record {
            tasks_are = ap length tasks ∙ set_length old.tasks.items number (Some (took_arm (made_ready after) a None)) ∙ mid.sized.tasks_are;
            offering_is = ap length e2 ∙ mid.sized.offering_is;
            awaiting_is = ap length e3 ∙ mid.sized.awaiting_is;
            parents_are = ap length e4 ∙ mid.sized.parents_are;
            unfinished_are = ap length e5 ∙ mid.sized.unfinished_are;
          };
        };
      }

  -- ---- no arm is ready

  pub choice_waits : (new : Tables) (pick : ℕ) → arm_chosen pri pick tabled arms ≡ None → new.tasks.items ≡ slice_set old.tasks.items number (Some (ready_with (made_ready after) (W.Chooses pri arms))) → new.used ≡ old.used → new.trace ≡ old.trace → Sound new net.noted → Sized p new → SettlesTo p kb pick number after net new
  choice_waits new pick none tasks used trace sound sized =
      stays_as p kb old number place after net mid new pick (W.Chooses pri arms) w
      (record {
        offers = λ d m e. let q = sym w ∙ e in absurd cc;
        awaits = λ d e. let q = sym w ∙ e in absurd cc;
        unforked = λ ns e. let q = sym w ∙ e in cc;
        unjoined = λ e. let q = sym w ∙ e in absurd cc;
        unchosen = λ b xs a e f. let q = sym w ∙ e in let same : pri ≡ b = cc in let list : arms ≡ xs = cc in
            let g : arm_chosen pri pick (standing then_) arms ≡ Some a = ap (λ z. arm_chosen z pick (standing then_) arms) same ∙ ap (λ z. arm_chosen b pick (standing then_) z) list ∙ f in
            let r : Some a ≡ None = sym g ∙ chosen_now pick ∙ none in cc;
      }) tasks used trace (kept_quiet p kb old number place after net mid new (W.Chooses pri arms) w refl sound) sized
