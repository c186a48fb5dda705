-- Processes that wait for one another wait for good: by the usage rules nobody else comes to the other ends of their channels.
use Rattle.std.proofs.Common.{◌≡◌, ◌∙◌, refl, sym, ap, subst, IsTrue, IsFalse, ℕ, ◌+◌, ◌^◌, ◌<◌, ◌⊎◌, inl, inr, List, ◌++◌, length, arith, length-append}
use Rattle.std.specs.Prelude.{◌&&◌}
use mathlib.Core.Bool.{true≢false}
use Rattle.occ_term.specs.Frames.{is_held}
use Rattle.occ_term.specs.Terms.{Term}
use Rattle.occ_term.specs.UnfoldedProgram.{UnfoldedProgram, meaning}
use Rattle.occ_machine.specs.Compiled.{Program}
use Rattle.occ_machine.specs.declared.task.Wait.{Wait}
use Rattle.occ_machine.specs.declared.task.Wait.TheVariants as W
use Rattle.occ_net_replay.specs.declared.choice.Choice.{Choice}
use Rattle.occ_net_replay.specs.Replay.{Net, may_go, offers_on}
use Rattle.occ_net_replay.specs.Waiting.{IsReplay, IsTurn, listens_on}
use Rattle.occ_net_replay.proofs.Alone.{OtherEnds, others_use_other_ends, stands_at_channel, turns_fork_alone}
use Rattle.occ_net_replay.proofs.Tables.{or_else, task_once}
use Rattle.occ_ends.specs.ForGood.{CirclesWaitForGood, Set, WaitsWithin}
use Rattle.occ_ends.specs.Kinds.{is_at_channel}
use Rattle.occ_ends.proofs.ClosedSets.{IsProcess, leads_replay, of_both, offering}
use Rattle.occ_ends.proofs.Unmet.{ComesTo, IsLeftAt, IsUnmet, in_or_out, meet_on, mover_may, unmet_sets_wait}

at_one : (w : Wait) → IsTrue (is_at_channel w) → IsTrue (stands_at_channel w)
at_one W.Ready h = h
at_one (W.Took arm is x) h = h
at_one (W.Offers c x) h = h
at_one (W.Awaits c) h = h
at_one (W.Chooses pri arms) h = h
at_one (W.Joins ns) h = h
at_one W.Halted h = h
at_one W.Done h = h
at_one (W.Faulted e) h = h

still_at : (w : Wait) → IsTrue (is_at_channel w) → IsFalse (may_go w)
still_at W.Ready h = absurd (true≢false (sym h))
still_at (W.Took arm is x) h = absurd (true≢false (sym h))
still_at (W.Offers c x) h = refl
still_at (W.Awaits c) h = refl
still_at (W.Chooses pri arms) h = refl
still_at (W.Joins ns) h = refl
still_at W.Halted h = refl
still_at W.Done h = refl
still_at (W.Faulted e) h = refl

module _ (u : UnfoldedProgram) (p : Program) (quantum : ℕ) (kb : List ℕ) (cs : List Choice) (net : Net) (most : ℕ) (set : Set)
    (z : IsReplay u p quantum kb cs net) (room : length cs + most < 2 ^ 64) (within : (n : ℕ) → IsTrue (set n) → WaitsWithin (meaning u) net.tasks set n) where
  module _ (i : ℕ) (v : Wait) (come : ComesTo p most net set i v) where
    replay : IsReplay u p quantum kb (cs ++ come.choices) come.net
    replay =
        record {
          well_formed = z.well_formed;
          lawful = z.lawful;
          compiled = z.compiled;
          bytes = z.bytes;
          few = let f = come.few in omega (arith, f, room, length-append cs come.choices);
          replays = leads_replay p kb cs net come.choices come.net z.replays come.leads;
        }

    turn : IsTurn p come.net.tasks come.turn.number come.turn.after
    turn = record { body = come.turn.body; before = come.turn.before; has_body = come.turn.has_body; has_task = come.turn.has_task; may = mover_may p come.net come.next come.choice come.turn; stops = come.turn.stops }

    ends_apart : (k : ℕ) (term : Term) → IsTrue (set k) → IsProcess u k term → OtherEnds term v
    ends_apart k term inside is =
        let s = within k inside in
        subst (OtherEnds term) come.ends (others_use_other_ends u p quantum kb (cs ++ come.choices) come.net replay come.turn.number come.turn.after turn k s.task (come.kept k inside ∙ s.there) (at_one s.task.wait s.at) term is)

    unforked : (n : ℕ) (ns : List ℕ) → v ≡ W.Joins ns → IsTrue (is_held ns n) → IsTrue (set n) → ⊥
    unforked n ns e held inside =
        let s = within n inside in
        let done : s.task.wait ≡ W.Done = (turns_fork_alone u p quantum kb (cs ++ come.choices) come.net come.turn.number come.turn.after ns replay turn (come.ends ∙ e)).free n s.task held (come.kept n inside ∙ s.there) in
        true≢false (sym s.at ∙ ap is_at_channel done)

  left_at : (n : ℕ) (inside : IsTrue (set n)) → IsLeftAt p most net set (within n inside).task.wait
  left_at n inside =
      record {
        still = still_at w s.at;
        unmet = λ i v c out come. unmet i v c come (in_or_out (meet_on w v c));
        unjoined = λ ns e. absurd (true≢false (sym s.at ∙ ap is_at_channel e));
      }
    where
      s : WaitsWithin (meaning u) net.tasks set n
      s = within n inside

      w : Wait
      w = s.task.wait

      unmet : (i : ℕ) (v : Wait) (c : ℕ) → ComesTo p most net set i v → IsTrue (meet_on w v c) ⊎ IsFalse (meet_on w v c) → IsFalse (meet_on w v c)
      unmet i v c come (inr h) = h
      unmet i v c come (inl h) = absurd (by (or_else (offers_on w c && listens_on v c) (listens_on w c && offers_on v c) h))
        where
          by : IsTrue (offers_on w c && listens_on v c) ⊎ IsTrue (listens_on w c && offers_on v c) → ⊥
          by (inl e) =
              let q = of_both (offers_on w c) (listens_on v c) e in
              let x = s.read c q.0 in
              (ends_apart i v come x.number x.term x.inside x.there).ins c q.1 x.uses
          by (inr e) =
              let q = of_both (listens_on w c) (offers_on v c) e in
              let x = s.written c q.0 in
              let g = offering v c q.1 in
              (ends_apart i v come x.number x.term x.inside x.there).outs c g.message g.is x.uses

  unmet_within : IsUnmet p most net set
  unmet_within =
      record {
        left = λ n t h e. subst (λ k. IsLeftAt p most net set k.wait) (task_once net.tasks n (within n h).there e) (left_at n h);
        unforked = λ i n ns out come held. by i n ns come held (in_or_out (set n));
      }
    where
      by : (i n : ℕ) (ns : List ℕ) → ComesTo p most net set i (W.Joins ns) → IsTrue (is_held ns n) → IsTrue (set n) ⊎ IsFalse (set n) → IsFalse (set n)
      by i n ns come held (inl h) = absurd (unforked i (W.Joins ns) come n ns refl held h)
      by i n ns come held (inr h) = h

pub circles_wait_for_good : CirclesWaitForGood
circles_wait_for_good u p quantum kb cs net most set z room within = unmet_sets_wait p most net set (unmet_within u p quantum kb cs net most set z room within)
