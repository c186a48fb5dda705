-- A live run is a replay.
use Rattle.std.proofs.Common.{◌≡◌, ◌∙◌, refl, sym, ap, subst, Bool, true, IsTrue, ℕ, ◌+◌, List, [], ◌∷◌, ◌++◌, Some, length, take, length-append}
use Rattle.std.specs.Prelude.{slice_get}
use mathlib.Core.Bool.{true≢false}
use Rattle.occ_machine.specs.Compiled.{Program}
use Rattle.occ_machine.specs.Machine.{Body, Stopping}
use Rattle.occ_term.specs.UnfoldedProgram.{UnfoldedProgram}
use Rattle.occ_live_laws.specs.Live.{ReplaysWithin, StaysWithin, with_more}
use Rattle.occ_live_laws.proofs.Live.{more_bytes, within_replays}
use Rattle.occ_live_laws.proofs.Looking.{looks_matter}
use Rattle.occ_net_replay.specs.declared.choice.Choice.{Choice}
use Rattle.occ_net_replay.specs.Replay.{HasTask, Net, OneTurn, Replays, begins, goes_on}
use Rattle.occ_net_replay.specs.Waiting.{IsReplay}
use Rattle.occ_net_replay.proofs.OneStop.{stopping_once}
use Rattle.occ_net_replay.proofs.Tables.{task_once}
use Rattle.occ_net_tables.specs.Outcomes.{Begins}
use Rattle.occ_net_tables.proofs.Rerun.{begins_taken, taken_more}
use Rattle.occ_live.specs.Living.{IsDue, IsReplayed, LiveRun, LooksPast, gets_more, meets_end, starts, takes_turn}

-- one choice more is used
one_more_used : (list kept : List Choice) (choice : Choice) → kept ≡ take (length kept) list → slice_get list (length kept) ≡ Some choice → kept ++ choice ∷ [] ≡ take (length (kept ++ choice ∷ [])) list
one_more_used list kept choice used at =
    let grown : length (kept ++ choice ∷ []) ≡ length kept + 1 = length-append kept (choice ∷ []) in
    ap (λ (l : List Choice). l ++ choice ∷ []) used ∙ taken_more list (length kept) choice at ∙ ap (λ (k : ℕ). take k list) (sym grown)

module _ (p : Program) (list : List Choice) where
  pub live_used : (read : List ℕ) (is_open : Bool) (cs : List Choice) (net : Net) → LiveRun p list read is_open cs net → cs ≡ take (length cs) list
  live_used read is_open cs net starts = refl
  live_used read is_open cs net (gets_more {read = first} {net = a} r d more some) = live_used first true cs a r
  live_used read is_open cs net (meets_end r d) = live_used read true cs net r
  live_used read is_open cs net (takes_turn {cs = ds} {c = c} {a = a} r next e o s) = one_more_used list ds c (live_used read is_open ds a r) next

  pub live_begins : (read : List ℕ) (is_open : Bool) (cs : List Choice) (net : Net) → LiveRun p list read is_open cs net → Begins cs list
  live_begins read is_open cs net r = subst (λ l. Begins l list) (sym (live_used read is_open cs net r)) (begins_taken list (length cs))

  pub live_within : (read : List ℕ) (is_open : Bool) (cs : List Choice) (net : Net) → LiveRun p list read is_open cs net → IsTrue is_open → ReplaysWithin p read cs net
  live_within read is_open cs net starts t = ReplaysWithin.begins
  live_within read is_open cs net (gets_more {read = first} {net = a} r d more some) t = more_bytes p first more cs a (live_within first true cs a r refl)
  live_within read is_open cs net (meets_end r d) t = absurd (true≢false (sym t))
  live_within read is_open cs net (takes_turn {cs = ds} {a = a} r next e o s) t = ReplaysWithin.goes_on (live_within read is_open ds a r t) e o (s t)

  pub live_replays : (read : List ℕ) (is_open : Bool) (cs : List Choice) (net : Net) → LiveRun p list read is_open cs net → Replays p read cs net
  live_replays read is_open cs net starts = begins
  live_replays read is_open cs net (gets_more {read = first} {net = a} r d more some) = within_replays p (first ++ more) cs (with_more more a) (more_bytes p first more cs a (live_within first true cs a r refl))
  live_replays read is_open cs net (meets_end r d) = live_replays read true cs net r
  live_replays read is_open cs net (takes_turn {cs = ds} {a = a} r next e o s) = goes_on (live_replays read is_open ds a r) e o

  pub is_replayed : (read : List ℕ) (is_open : Bool) (cs : List Choice) (net : Net) → LiveRun p list read is_open cs net → IsReplayed p list read is_open cs net
  is_replayed read is_open cs net r = record { begins = live_begins read is_open cs net r; replays = live_replays read is_open cs net r; within = live_within read is_open cs net r }

-- ---- a read that is due

one_number : {x y : ℕ} → Some x ≡ Some y → x ≡ y
one_number e = cc

one_body : {x y : Body} → Some x ≡ Some y → x ≡ y
one_body e = cc

-- the turn is the one that was found to look past the bytes
module _ (p : Program) (c : Choice) (a b : Net) (l : LooksPast p c a) (o : OneTurn p c a b) where
  number : o.number ≡ l.number
  number = one_number (sym o.selects ∙ l.selects)

  before : o.before ≡ l.before
  before = task_once a.tasks l.number (subst (λ i. HasTask a.tasks i o.before) number o.has_task) l.has_task

  body : o.body ≡ l.body
  body = one_body (sym o.has_body ∙ ap (slice_get p.bodies) number ∙ l.has_body)

  after : o.after ≡ l.after
  after = stopping_once l.body l.before o.after l.after (subst (λ z. Stopping z l.before o.after) body (subst (λ z. Stopping o.body z o.after) before o.stops)) l.stops

  looks : StaysWithin c.pick a o.number o.after → ⊥
  looks s = l.past (subst (λ i. StaysWithin c.pick a i l.after) number (subst (λ t. StaysWithin c.pick a o.number t) after s))

pub due_reads_matter : (u : UnfoldedProgram) (p : Program) (quantum : ℕ) (list : List Choice) (read : List ℕ) (cs : List Choice) (a b other : Net) (byte : ℕ)
    → IsReplay u p quantum read cs a → (d : IsDue p list cs a) → OneTurn p d.choice a b → OneTurn p d.choice (with_more (byte ∷ []) a) other → other ≡ with_more (byte ∷ []) b → ⊥
due_reads_matter u p quantum list read cs a b other byte r d o more same = looks_matter u p quantum read cs d.choice a b other byte r o (looks p d.choice a b d.looks o) more same
