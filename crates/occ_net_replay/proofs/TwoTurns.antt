-- The next turns of two processes end apart.
use Rattle.std.proofs.Common.{◌≡◌, ◌∙◌, refl, sym, ap, subst, IsTrue, ℕ, ◌+◌, ◌≤◌, ◌<◌, ◌⊎◌, inl, inr, List, [], Some, arith}
use Rattle.std.specs.Prelude.{All, slice_get, nat_eq}
use Rattle.std.proofs.lemmas.Bool.{eqb-true}
use Rattle.occ_term.specs.declared.message.Message.{Message}
use Rattle.occ_term.specs.declared.primitive.Primitive.TheVariants.{Byte}
use Rattle.occ_term.specs.declared.protocol.Protocol.TheVariants.{Simple}
use Rattle.occ_term.specs.Processes.{Numbered, numbered}
use Rattle.occ_term.specs.Frames.{is_held}
use Rattle.occ_term.specs.StepUses.{IsPartOf, uses_of_left}
use Rattle.occ_term.specs.System.{System}
use Rattle.occ_term.specs.TermTyping.{Declared}
use Rattle.occ_term.specs.Terms.{Term}
use Rattle.occ_term.specs.UnfoldedProgram.{meaning}
use Rattle.occ_term.specs.Uses.{Lawful, uses_of}
use Rattle.occ_machine.specs.Compiled.{Program}
use Rattle.occ_machine.specs.declared.task.Task.{Task}
use Rattle.occ_machine.specs.declared.task.Wait.TheVariants as W
use Rattle.occ_net_replay.specs.Moments.{is_read}
use Rattle.occ_net_replay.specs.Replay.{Net}
use Rattle.occ_net_replay.specs.Waiting.{IsTurn, MainTurnsAlone, OnOthers, TurnsAreApart, TurnsHearNoScreen, listens_on}
use Rattle.occ_net_replay.proofs.Alone.{fork_within, l, its_term, r, at_wait, output_on, listener, not_going}
use Rattle.occ_net_replay.proofs.Beside.{ChannelsApart, Related, are_one, is_inside, is_around, are_beside, related}
use Rattle.occ_net_replay.proofs.Holding.{Belongs, number_of, one_term}
use Rattle.occ_net_replay.proofs.Law.{d, procs, keyboard_protocol, belongs, all_followed}
use Rattle.occ_net_replay.proofs.Settling.{Follows}
use Rattle.occ_net_replay.proofs.Placed.{size}
use Rattle.occ_net_replay.proofs.Putting.{within}
use Rattle.occ_net_replay.proofs.States.{Live}
use Rattle.occ_net_replay.proofs.Tables.{or_else}

module _ (d : Declared) (p : Program) (procs : List Numbered) (protocol : d.protocols 0 ≡ Some (Simple [] Byte)) (quantum : ℕ) (same_quantum : All (λ b. b.quantum ≡ quantum) p.bodies) (belongs_at : (n : ℕ) (t : Term) → slice_get procs n ≡ Some (numbered n t) → Belongs d p procs n) (net : Net) (now : System) (f : Follows d p procs protocol quantum 1 net now)
    (n m : ℕ) (after other : Task) (o : IsTurn p net.tasks n after) (q : IsTurn p net.tasks m other) (differ : n ≡ m → ⊥) where
  abbrev one : Term
  one = its_term d p procs protocol quantum same_quantum belongs_at net now f n after o

  abbrev two : Term
  two = its_term d p procs protocol quantum same_quantum belongs_at net now f m other q

  abbrev x : Live d p procs 1 net.tasks f.proc f.store n o.before
  x = l d p procs protocol quantum same_quantum belongs_at net now f n after o

  abbrev y : Live d p procs 1 net.tasks f.proc f.store m q.before
  y = l d p procs protocol quantum same_quantum belongs_at net now f m other q

  -- neither is among the branches of the other one: those are done
  beside : ChannelsApart (uses_of one) (uses_of two) × ((n + 1 + size one ≤ m) ⊎ (m + 1 + size two ≤ n))
  beside = by (related d p procs 1 f.store net.tasks n m one two x.mine.belongs.entry y.mine.belongs.entry x.at y.at f.state.holds)
    where
      by : Related n one x.own x.branches m two y.own y.branches → ChannelsApart (uses_of one) (uses_of two) × ((n + 1 + size one ≤ m) ⊎ (m + 1 + size two ≤ n))
      by (are_one e) = absurd (differ e)
      by (is_inside a) =
          let done = (r d p procs protocol quantum same_quantum belongs_at net now f n after o).gone m (record { own = y.own; branches = y.branches; at = a }) q.before q.has_task in
          absurd (not_going d p procs protocol quantum same_quantum belongs_at net now f m other q W.Done done refl)
      by (is_around a) =
          let done = (r d p procs protocol quantum same_quantum belongs_at net now f m other q).gone n (record { own = x.own; branches = x.branches; at = a }) o.before o.has_task in
          absurd (not_going d p procs protocol quantum same_quantum belongs_at net now f n after o W.Done done refl)
      by (are_beside a side) = (a, side)

  abbrev both_apart : ChannelsApart (uses_of one) (uses_of two)
  both_apart = beside.0

  within_one : (ns : List ℕ) (i : ℕ) → after.wait ≡ W.Joins ns → IsTrue (is_held ns i) → (n + 1 ≤ i) × (i < n + 1 + size one)
  within_one ns i e h = fork_within d p procs protocol quantum same_quantum belongs_at net now f n after o ns e i h

  within_two : (ms : List ℕ) (i : ℕ) → other.wait ≡ W.Joins ms → IsTrue (is_held ms i) → (m + 1 ≤ i) × (i < m + 1 + size two)
  within_two ms i e h = fork_within d p procs protocol quantum same_quantum belongs_at net now f m other q ms e i h

  no_fork : (ns ms : List ℕ) (i : ℕ) → after.wait ≡ W.Joins ns → other.wait ≡ W.Joins ms → IsTrue (is_held ns i) → IsTrue (is_held ms i) → ⊥
  no_fork ns ms i e g h k = by beside.1
    where
      by : (n + 1 + size one ≤ m) ⊎ (m + 1 + size two ≤ n) → ⊥
      by (inl le) = let a = (within_one ns i e h).1 in let b = (within_two ms i g k).0 in omega (arith, le, a, b)
      by (inr le) = let a = (within_one ns i e h).0 in let b = (within_two ms i g k).1 in omega (arith, le, a, b)

  -- the main process has no other one beside it
  module _ (main : Term) (entry : slice_get procs 0 ≡ Some (numbered 0 main)) where
    pub not_main : n ≡ 0 → ⊥
    not_main e =
        let mine : Some (numbered 0 one) ≡ Some (numbered 0 main) = subst (λ k. Some (numbered k one) ≡ Some (numbered k main)) e (sym x.mine.belongs.entry ∙ subst (λ k. slice_get procs k ≡ Some (numbered k main)) (sym e) entry) in
        let same : one ≡ main = one_term mine in
        let sizes : size one ≡ size main = ap size same in
        let root = f.state.root in
        let inside = (within d p procs 1 f.store net.tasks y.at f.state.holds two main y.mine.belongs.entry (subst (λ z. slice_get procs z ≡ Some (numbered z main)) (sym root) entry)).below_end in
        by beside.1 sizes root inside
      where
        by : (n + 1 + size one ≤ m) ⊎ (m + 1 + size two ≤ n) → size one ≡ size main → number_of f.proc ≡ 0 → m + 1 + size two ≤ number_of f.proc + 1 + size main → ⊥
        by (inl le) sizes root inside = omega (arith, le, e, sizes, root, inside)
        by (inr le) sizes root inside = omega (arith, le, e)

  outs_of : (i : ℕ) (t : Task) (g : IsTurn p net.tasks i t) (c : ℕ) (v : Message) → t.wait ≡ W.Offers c v → IsTrue ((uses_of (its_term d p procs protocol quantum same_quantum belongs_at net now f i t g)).outs c)
  outs_of i t g c v e =
      let z = at_wait d p procs protocol quantum same_quantum belongs_at net now f i t g (W.Offers c v) e in
      (r d p procs protocol quantum same_quantum belongs_at net now f i t g).uses.outs c (subst (λ k. IsTrue ((uses_of_left k).outs c)) (sym z.1) (output_on c v z.0))

  ins_of : (i : ℕ) (t : Task) (g : IsTurn p net.tasks i t) (c : ℕ) → IsTrue (listens_on t.wait c) → IsTrue ((uses_of (its_term d p procs protocol quantum same_quantum belongs_at net now f i t g)).ins c)
  ins_of i t g c h = (r d p procs protocol quantum same_quantum belongs_at net now f i t g).uses.ins c (listener d p procs protocol quantum same_quantum belongs_at net now f i t g c t.wait refl h).ins

  pub on_others : OnOthers after.wait other.wait
  on_others =
      record {
        offers = λ c v k e g. both_apart.outs c (outs_of n after o c v e) (outs_of m other q c k g);
        listens = λ c e g. both_apart.ins c (ins_of n after o c e) (ins_of m other q c g);
        forks = λ ns ms i e g h k. no_fork ns ms i e g h k;
      }

-- ---- a turn that comes to an input

module _ (d : Declared) (p : Program) (procs : List Numbered) (protocol : d.protocols 0 ≡ Some (Simple [] Byte)) (quantum : ℕ) (same_quantum : All (λ b. b.quantum ≡ quantum) p.bodies) (belongs_at : (n : ℕ) (t : Term) → slice_get procs n ≡ Some (numbered n t) → Belongs d p procs n) (net : Net) (now : System) (f : Follows d p procs protocol quantum 1 net now)
    (n : ℕ) (after : Task) (o : IsTurn p net.tasks n after) (main : Term) (lawful : Lawful main) (entry : slice_get procs 0 ≡ Some (numbered 0 main)) where
  abbrev its : Term
  its = its_term d p procs protocol quantum same_quantum belongs_at net now f n after o

  abbrev live : Live d p procs 1 net.tasks f.proc f.store n o.before
  live = l d p procs protocol quantum same_quantum belongs_at net now f n after o

  part : IsPartOf (uses_of its) (uses_of main)
  part = (within d p procs 1 f.store net.tasks live.at f.state.holds its main live.mine.belongs.entry (subst (λ z. slice_get procs z ≡ Some (numbered z main)) (sym f.state.root) entry)).part

  used : (c : ℕ) → IsTrue (listens_on after.wait c) → IsTrue ((uses_of main).ins c)
  used c h = part.ins c ((r d p procs protocol quantum same_quantum belongs_at net now f n after o).uses.ins c (listener d p procs protocol quantum same_quantum belongs_at net now f n after o c after.wait refl h).ins)

  pub not_shown : (c : ℕ) → IsTrue (listens_on after.wait c) → IsTrue (is_read c) → ⊥
  not_shown c h read = by (or_else (nat_eq c 1) (nat_eq c 2) read)
    where
      by : IsTrue (nat_eq c 1) ⊎ IsTrue (nat_eq c 2) → ⊥
      by (inl e) = lawful.beside_screen.inputs 1 (subst (λ k. IsTrue ((uses_of main).ins k)) (eqb-true c 1 e) (used c h)) refl
      by (inr e) = lawful.beside_error.inputs 2 (subst (λ k. IsTrue ((uses_of main).ins k)) (eqb-true c 2 e) (used c h)) refl

pub turns_hear_no_screen : TurnsHearNoScreen
turns_hear_no_screen u p quantum kb cs net n after c z o h =
    let x = all_followed u p quantum kb z.well_formed z.lawful z.compiled z.bytes cs net 1 z.few z.replays in
    not_shown (d u p quantum kb z.well_formed z.lawful z.compiled z.bytes) p (procs u p quantum kb z.well_formed z.lawful z.compiled z.bytes) (keyboard_protocol u z.well_formed) quantum z.compiled.quanta
    (belongs u p quantum kb z.well_formed z.lawful z.compiled z.bytes) net x.now x.follows n after o (meaning u) z.lawful refl c h

pub turns_are_apart : TurnsAreApart
turns_are_apart u p quantum kb cs net n m after other z o q differ =
    let x = all_followed u p quantum kb z.well_formed z.lawful z.compiled z.bytes cs net 1 z.few z.replays in
    on_others (d u p quantum kb z.well_formed z.lawful z.compiled z.bytes) p (procs u p quantum kb z.well_formed z.lawful z.compiled z.bytes) (keyboard_protocol u z.well_formed) quantum z.compiled.quanta
    (belongs u p quantum kb z.well_formed z.lawful z.compiled z.bytes) net x.now x.follows n m after other o q differ

pub main_turns_alone : MainTurnsAlone
main_turns_alone u p quantum kb cs net m after other z o q differ =
    let x = all_followed u p quantum kb z.well_formed z.lawful z.compiled z.bytes cs net 1 z.few z.replays in
    not_main (d u p quantum kb z.well_formed z.lawful z.compiled z.bytes) p (procs u p quantum kb z.well_formed z.lawful z.compiled z.bytes) (keyboard_protocol u z.well_formed) quantum z.compiled.quanta
    (belongs u p quantum kb z.well_formed z.lawful z.compiled z.bytes) net x.now x.follows 0 m after other o q differ (meaning u) refl refl
