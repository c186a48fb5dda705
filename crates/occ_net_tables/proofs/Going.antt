-- Where a process offers or awaits a message after its turn, the run goes on as long as some process is ready.
use Rattle.std.proofs.Common.{◌≡◌, ◌∙◌, refl, sym, ap, Bool, false, ℕ, ◌<◌, List, [], ◌∷◌, ◌++◌, Option, Some, None, length, append-nil, arith}
use Rattle.occ_term.specs.declared.communication.Communication.{Communication}
use Rattle.occ_term.specs.declared.communication.End.{End}
use Rattle.occ_term.specs.declared.fault.Errors.{Errors}
use Rattle.occ_term.specs.declared.fault.Errors.TheVariants.{Halt, Stop}
use Rattle.occ_term.specs.declared.fault.Fault.{Fault}
use Rattle.occ_term.specs.declared.message.Message.{Message}
use Rattle.occ_machine.specs.Compiled.{Program}
use Rattle.occ_machine.specs.Machine.{Body}
use Rattle.occ_machine.specs.SameStop.{joined_with}
use Rattle.occ_machine.specs.declared.task.Task.{Task}
use Rattle.occ_machine.specs.declared.task.Wait.TheVariants as W
use Rattle.occ_net_replay.specs.Replay.{Gets, HandsOver, Happens, HasTask, Net, PassesOn, Settled, arm_gets, ending_by, error_gets, first_noted, forks, has_taken, is_done, joined, joins, keyboard_gives, made_ready, main_done, meets, merged, noted_at, ready_from, screen_gets, settles, skips, stays, task_gets, task_gives, took_arm, took_turn}
use Rattle.occ_net_replay.proofs.Tables.{set_same, task_once}
use Rattle.occ_net_tables.specs.declared.tables.Tables.{Tables}
use Rattle.occ_net_tables.specs.Endings.{GoesOn}
use Rattle.occ_net_tables.specs.Settling.{SettlesTo, Standing}
use Rattle.occ_net_tables.proofs.Turned.{is_open, main_goes}

-- the main process is not at its end, and the same faults were noted
record GoesAs (old new : Net) : Type 0 where
  pub main : main_done new.tasks ≡ false
  pub noted : new.noted ≡ old.noted

given_as : {c : ℕ} {m : Message} {x : End} {a b : Net} → HandsOver c m x a b → main_done a.tasks ≡ false → GoesAs a b
given_as (task_gives {n = i} {t = t} {net = a} h w) e = record { main = main_goes a.tasks i (made_ready t) e refl; noted = refl }
given_as (keyboard_gives q z r) e = record { main = e; noted = refl }

got_as : {pick c : ℕ} {offers : ℕ → Bool} {m : Message} {y : End} {a b : Net} → Gets pick offers c m y a b → main_done a.tasks ≡ false → GoesAs a b
got_as {m = m} (task_gets {n = i} {t = t} {net = a} h w) e = record { main = main_goes a.tasks i (has_taken t m) e refl; noted = refl }
got_as {m = m} (arm_gets {n = i} {t = t} {net = a} {a = arm} h w f q) e = record { main = main_goes a.tasks i (took_arm t arm (Some m)) e refl; noted = refl }
got_as (screen_gets q) e = record { main = e; noted = refl }
got_as (error_gets q) e = record { main = e; noted = refl }

passed_as : {pick : ℕ} {x : Communication} {a b : Net} → PassesOn pick a x b → main_done a.tasks ≡ false → GoesAs a b
passed_as (joined g r) e =
    let given = given_as g e in
    let got = got_as r given.main in
    record { main = got.main; noted = got.noted ∙ given.noted }

module _ (bodies : List Body) (n pick : ℕ) where
  -- what a process makes possible that doesn't fork
  happens_as : {a b : Net} → ((t : Task) (ns : List ℕ) → HasTask a.tasks n t → t.wait ≡ W.Joins ns → ⊥) → Happens bodies n pick a b → main_done a.tasks ≡ false → GoesAs a b
  happens_as unforked (meets part j) e = passed_as j e
  happens_as unforked (skips {t = t} {arm = arm} {a = a} h w f q) e = record { main = main_goes a.tasks n (took_arm t arm None) e refl; noted = refl }
  happens_as unforked (forks {t = t} {ns = ns} h w) e = absurd (unforked t ns h w)
  happens_as unforked (joins m {t = t} {ns = ns} {a = a} h w among done) e = record { main = main_goes a.tasks m (joined_with t (merged bodies a.tasks ns t.frame)) e refl; noted = refl }

  settled_as : {a b : Net} → ((t : Task) (ns : List ℕ) → HasTask a.tasks n t → t.wait ≡ W.Joins ns → ⊥) → Settled bodies n pick a b → main_done a.tasks ≡ false → GoesAs a b
  settled_as unforked (settles h) e = happens_as unforked h e
  settled_as unforked (stays h) e = record { main = e; noted = refl }

still_none : (errors : Errors) (f : Option Fault) (m : Bool) (r now : List ℕ) → ending_by errors f m r ≡ None → 0 < length now → ending_by errors f false now ≡ None
still_none Halt None m r [] e l = absurd (omega (arith, l))
still_none Halt None m r (k ∷ ks) e l = refl
still_none Halt (Some x) m r now e l = absurd cc
still_none Stop f m r [] e l = absurd (omega (arith, l))
still_none Stop f m r (k ∷ ks) e l = refl

-- behind a turn that notes no fault, ends no process and forks nothing
pub goes_where_some : (p : Program) (kb : List ℕ) (old : Tables) (s : Standing p kb old) (pick number : ℕ) (before after : Task) → HasTask s.net.tasks number before → is_done after.wait ≡ false → noted_at after.wait ≡ [] → ((ns : List ℕ) → after.wait ≡ W.Joins ns → ⊥) → (new : Tables) → SettlesTo p kb pick number after s.net new → 0 < length new.ready.items → GoesOn p new
goes_where_some p kb old s pick number before after there undone quiet unforked new x some = λ keyboard net h.
    let now : Net = took_turn s.net number after in
    let open_end = is_open p.errors (first_noted s.net.noted) (main_done s.net.tasks) (ready_from 0 s.net.tasks) s.open_end in
    let mine : HasTask now.tasks number after = set_same s.net.tasks number (Some before) (Some after) there in
    let kept = settled_as p.bodies number pick (λ t ns has w. unforked ns (ap (λ (z : Task). z.wait) (task_once now.tasks number mine has) ∙ w)) x.settles (main_goes s.net.tasks number after open_end.going undone) in
    let same : now.noted ≡ s.net.noted = ap (λ faults. s.net.noted ++ faults) quiet ∙ append-nil s.net.noted in
    let noted : first_noted net.noted ≡ first_noted s.net.noted = sym h.sound.fault_is ∙ x.holds.sound.fault_is ∙ ap first_noted (kept.noted ∙ same) in
    let main : main_done net.tasks ≡ false = ap main_done (h.tasks ∙ sym x.holds.tasks) ∙ kept.main in
    let ready : ready_from 0 net.tasks ≡ new.ready.items = ap (ready_from 0) h.tasks ∙ sym h.sound.ready_is in
    let long : 0 < length (ready_from 0 net.tasks) = (let l = ap length ready in omega (arith, l, some)) in
    ap (λ f. ending_by p.errors f (main_done net.tasks) (ready_from 0 net.tasks)) noted
    ∙ ap (λ m. ending_by p.errors (first_noted s.net.noted) m (ready_from 0 net.tasks)) main
    ∙ still_none p.errors (first_noted s.net.noted) (main_done s.net.tasks) (ready_from 0 s.net.tasks) (ready_from 0 net.tasks) s.open_end long
