-- A set that is closed by what the processes use waits for good.
use Rattle.std.proofs.Common.{◌≡◌, ◌∙◌, refl, sym, ap, subst, Bool, true, false, IsTrue, IsFalse, ℕ, zero, suc, ◌+◌, ◌^◌, ◌<◌, ◌≤◌, ◌⊎◌, inl, inr, List, [], ◌∷◌, Some, map, ◌++◌, length, arith, append-nil, append_assoc, length-append}
use Rattle.std.specs.Prelude.{◌&&◌, slice_get}
use Rattle.std.proofs.lemmas.Bool.{eqb-true}
use mathlib.Core.Bool.{true≢false}
use Rattle.occ_term.specs.declared.message.Message.{Message}
use Rattle.occ_term.specs.Frames.{is_held}
use Rattle.occ_term.specs.Processes.{branches_in, numbered, processes_of}
use Rattle.occ_term.specs.StepUses.{uses_of_left}
use Rattle.occ_term.specs.Terms.{Term}
use Rattle.occ_term.specs.UnfoldedProgram.{UnfoldedProgram, meaning}
use Rattle.occ_term.specs.Uses.{uses_of}
use Rattle.occ_machine.specs.Compiled.{Program}
use Rattle.occ_machine.specs.declared.task.Task.{Task}
use Rattle.occ_machine.specs.declared.task.Wait.{Wait}
use Rattle.occ_machine.specs.declared.task.Wait.TheVariants as W
use Rattle.occ_net_replay.specs.declared.choice.Choice.{Choice}
use Rattle.occ_net_replay.specs.Replay.{Net, Replays, goes_on as replays_on, offers_on}
use Rattle.occ_net_replay.specs.Waiting.{IsReplay, IsTurn, listens_on}
use Rattle.occ_net_replay.proofs.Alone.{its_term, l, r, at_wait, output_on, listener, fork_within}
use Rattle.occ_net_replay.proofs.Law.{d, procs, keyboard_protocol, belongs, all_followed}
use Rattle.occ_net_replay.proofs.Tables.{or_else}
use Rattle.occ_explore_laws.proofs.Lists.{one_some}
use Rattle.occ_ends.specs.Ends.{all_using, using}
use Rattle.occ_ends.specs.ForGood.{ClosedSetsWaitForGood, IsClosedSet, IsLeftWithin, IsOutside, LeadsLater, Set, goes_on, stays}
use Rattle.occ_ends.proofs.Unmet.{ComesTo, IsLeftAt, IsUnmet, in_or_out, meet_on, mover_may, unmet_sets_wait}

-- ---- a replay and what follows it

pub leads_replay : (p : Program) (kb : List ℕ) (cs : List Choice) (a : Net) (ds : List Choice) (b : Net) → Replays p kb cs a → LeadsLater p a ds b → Replays p kb (cs ++ ds) b
leads_replay p kb cs a ds b from stays = subst (λ xs. Replays p kb xs a) (sym (append-nil cs)) from
leads_replay p kb cs a ds b from (goes_on {cs = es} {c = c} {b = x} leads going o) =
    subst (λ xs. Replays p kb xs b) (append_assoc cs es (c ∷ [])) (replays_on (leads_replay p kb cs a es x from leads) going o)

-- ---- what turns use

-- the process with that number, and what it does
abbrev pub IsProcess : UnfoldedProgram → ℕ → Term → Type 0
IsProcess u i v = slice_get (processes_of (meaning u)) i ≡ Some (numbered i v)

-- what a turn ends at is in the uses of its process, and whom it forks is within it
pub record Uses (u : UnfoldedProgram) (n : ℕ) (w : Wait) : Type 0 where
  pub term : Term
  pub is : IsProcess u n term
  pub outs : (c : ℕ) (v : Message) → w ≡ W.Offers c v → IsTrue ((uses_of term).outs c)
  pub ins : (c : ℕ) → IsTrue (listens_on w c) → IsTrue ((uses_of term).ins c)
  pub forks : (ns : List ℕ) (i : ℕ) → w ≡ W.Joins ns → IsTrue (is_held ns i) → (n + 1 ≤ i) × (i < n + 1 + length (branches_in term))

pub turns_use : (u : UnfoldedProgram) (p : Program) (quantum : ℕ) (kb : List ℕ) (cs : List Choice) (net : Net) → IsReplay u p quantum kb cs net → (n : ℕ) (after : Task) → IsTurn p net.tasks n after → Uses u n after.wait
turns_use u p quantum kb cs net z n after o =
    let x = all_followed u p quantum kb z.well_formed z.lawful z.compiled z.bytes cs net 1 z.few z.replays in
    let D = d u p quantum kb z.well_formed z.lawful z.compiled z.bytes in
    let P = procs u p quantum kb z.well_formed z.lawful z.compiled z.bytes in
    let K = keyboard_protocol u z.well_formed in
    let B = belongs u p quantum kb z.well_formed z.lawful z.compiled z.bytes in
    record {
      term = its_term D p P K quantum z.compiled.quanta B net x.now x.follows n after o;
      is = (l D p P K quantum z.compiled.quanta B net x.now x.follows n after o).mine.belongs.entry;
      outs = λ c v e.
          let y = at_wait D p P K quantum z.compiled.quanta B net x.now x.follows n after o (W.Offers c v) e in
          (r D p P K quantum z.compiled.quanta B net x.now x.follows n after o).uses.outs c (subst (λ k. IsTrue ((uses_of_left k).outs c)) (sym y.1) (output_on c v y.0));
      ins = λ c h. (r D p P K quantum z.compiled.quanta B net x.now x.follows n after o).uses.ins c (listener D p P K quantum z.compiled.quanta B net x.now x.follows n after o c after.wait refl h).ins;
      forks = λ ns i e h. fork_within D p P K quantum z.compiled.quanta B net x.now x.follows n after o ns e i h;
    }

-- ---- small facts

pub record Offering (w : Wait) (c : ℕ) : Type 0 where
  pub message : Message
  pub is : w ≡ W.Offers c message

pub offering : (w : Wait) (c : ℕ) → IsTrue (offers_on w c) → Offering w c
offering W.Ready c h = absurd (true≢false (sym h))
offering (W.Took arm is m) c h = absurd (true≢false (sym h))
offering (W.Offers k m) c h = record { message = m; is = ap (λ z. W.Offers z m) (eqb-true k c h) }
offering (W.Awaits k) c h = absurd (true≢false (sym h))
offering (W.Chooses pri arms) c h = absurd (true≢false (sym h))
offering (W.Joins ns) c h = absurd (true≢false (sym h))
offering W.Halted c h = absurd (true≢false (sym h))
offering W.Done c h = absurd (true≢false (sym h))
offering (W.Faulted e) c h = absurd (true≢false (sym h))

pub of_both : (a b : Bool) → IsTrue (a && b) → IsTrue a × IsTrue b
of_both true b h = (refl, h)
of_both false b h = absurd (true≢false (sym h))

-- ---- the law

pub read_mapped : {X Y : Type 0} (f : X → Y) (xs : List X) (i : ℕ) (x : X) → slice_get xs i ≡ Some x → slice_get (map f xs) i ≡ Some (f x)
read_mapped f [] i x h = absurd cc
read_mapped f (y ∷ xs) zero x h = ap (λ z. Some (f z)) (one_some h)
read_mapped f (y ∷ xs) (suc i) x h = read_mapped f xs i x h

module _ (u : UnfoldedProgram) (p : Program) (quantum : ℕ) (kb : List ℕ) (cs : List Choice) (net : Net) (most : ℕ) (set : Set)
    (z : IsReplay u p quantum kb cs net) (room : length cs + most < 2 ^ 64) (closed : IsClosedSet (all_using (meaning u)) net.tasks set) where
  use_of : (i : ℕ) (v : Wait) → ComesTo p most net set i v → Uses u i v
  use_of i v come =
      subst (λ k. Uses u k v) come.number (subst (Uses u come.turn.number) come.ends
      (turns_use u p quantum kb (cs ++ come.choices) come.net
      (record {
        well_formed = z.well_formed;
        lawful = z.lawful;
        compiled = z.compiled;
        bytes = z.bytes;
        few = let f = come.few in omega (arith, f, room, length-append cs come.choices);
        replays = leads_replay p kb cs net come.choices come.net z.replays come.leads;
      })
      come.turn.number come.turn.after
      (record { body = come.turn.body; before = come.turn.before; has_body = come.turn.has_body; has_task = come.turn.has_task; may = mover_may p come.net come.next come.choice come.turn; stops = come.turn.stops })))

  -- the process with that number is outside
  out_of : (i : ℕ) (v : Term) → IsFalse (set i) → IsProcess u i v → IsOutside (all_using (meaning u)) set (using (numbered i v))
  out_of i v out is = record { place = i; there = read_mapped using (processes_of (meaning u)) i (numbered i v) is; out = out }

  left_at : (w : Wait) → IsLeftWithin (all_using (meaning u)) net.tasks set w → IsLeftAt p most net set w
  left_at w y = record { still = y.still; unmet = λ i v c out come. apart i v c out (use_of i v come) (in_or_out (meet_on w v c)); unjoined = y.unjoined }
    where
      apart : (i : ℕ) (v : Wait) (c : ℕ) → IsFalse (set i) → Uses u i v → IsTrue (meet_on w v c) ⊎ IsFalse (meet_on w v c) → IsFalse (meet_on w v c)
      apart i v c out x (inr h) = h
      apart i v c out x (inl h) = absurd (by (or_else (offers_on w c && listens_on v c) (listens_on w c && offers_on v c) h))
        where
          by : IsTrue (offers_on w c && listens_on v c) ⊎ IsTrue (listens_on w c && offers_on v c) → ⊥
          by (inl e) = let q = of_both (offers_on w c) (listens_on v c) e in true≢false (sym (x.ins c q.1) ∙ y.unread (using (numbered i x.term)) c (out_of i x.term out x.is) q.0)
          by (inr e) =
              let q = of_both (listens_on w c) (offers_on v c) e in
              let g = offering v c q.1 in
              true≢false (sym (x.outs c g.message g.is) ∙ y.unwritten (using (numbered i x.term)) c (out_of i x.term out x.is) q.0)

  pub is_unmet : IsUnmet p most net set
  is_unmet =
      record {
        left = λ n t h e. left_at t.wait (closed.left n t h e);
        unforked = λ i n ns out come h.
            let x = use_of i (W.Joins ns) come in
            let b = x.forks ns n refl h in
            let lo = b.0 in
            closed.whole (using (numbered i x.term)) n (out_of i x.term out x.is) (omega (arith, lo)) b.1;
      }

pub closed_sets_wait_for_good : ClosedSetsWaitForGood
closed_sets_wait_for_good u p quantum kb cs net most set z room closed = unmet_sets_wait p most net set (is_unmet u p quantum kb cs net most set z room closed)
