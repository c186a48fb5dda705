-- A turn that ends at an offer, at an input, at a choice or at a fork.
use Rattle.std.proofs.Common.{◌≡◌, ◌∙◌, refl, sym, ap, subst, Bool, true, false, IsTrue, ℕ, ℤ, zero, suc, ◌+◌, ◌<◌, ◌≤◌, ◌⊎◌, inl, inr, List, [], ◌∷◌, Option, Some, None, length, arith}
use Rattle.std.specs.Prelude.{All, slice_get, nat_eq, map}
use Rattle.std.proofs.lemmas.Bool.{eq-eqb, eqb-true}
use Rattle.std.proofs.lemmas.Option.{slice_get_within}
use mathlib.Core.Bool.{true≢false}
use Rattle.occ_term.specs.declared.message.Message.{Message}
use Rattle.occ_term.specs.declared.names.Channel.{Channel}
use Rattle.occ_term.specs.declared.primitive.Primitive.TheVariants.{Byte}
use Rattle.occ_term.specs.declared.protocol.Protocol.{Protocol}
use Rattle.occ_term.specs.declared.protocol.Protocol.TheVariants.{Simple}
use Rattle.occ_term.specs.Frames.{is_held}
use Rattle.occ_term.specs.Processes.{Numbered, numbered, processes_of}
use Rattle.occ_term.specs.Selecting.{Enabled, SkipArm, InputArm}
use Rattle.occ_term.specs.StepUses.{uses_of_left, uses_of_contexts, uses_of_all, uses_of_enabled, uses_of_settings}
use Rattle.occ_term.specs.Steps.{Offering, Awaiting, Choosing, Forking, Context, Left, left}
use Rattle.occ_term.specs.System.{Processes, no_processes, System}
use Rattle.occ_term.specs.TermTyping.{Declared}
use Rattle.occ_term.specs.Terms.{Term, Branches, no_branches, and_branch, Reception}
use Rattle.occ_term.specs.TypedSteps.{LeftHas, EnabledHave}
use Rattle.occ_term.specs.UnfoldedProgram.{UnfoldedProgram, meaning}
use Rattle.occ_term.specs.Uses.{uses_of, uses_of_reception}
use Rattle.occ_machine.specs.SameStop.{AreAbove, IsRising, SameArms, SameStop, numbers_of}
use Rattle.occ_machine.specs.Alike.{Alike}
use Rattle.occ_machine.specs.Compiled.{Program}
use Rattle.occ_machine.specs.Machine.{Body, Stopping}
use Rattle.occ_machine.specs.declared.task.Arm.{Arm}
use Rattle.occ_machine.specs.declared.task.Task.{Task}
use Rattle.occ_machine.specs.declared.task.Wait.{Wait}
use Rattle.occ_machine.specs.declared.task.Wait.TheVariants as W
use Rattle.occ_net_replay.specs.declared.choice.Choice.{Choice}
use Rattle.occ_net_replay.specs.Replay.{Net, HasTask, may_go}
use Rattle.occ_net_replay.specs.Waiting.{IsReplay, IsTurn, TurnsAreFew, OffersAlone, TurnsOfferAlone, and_channel, channels_of, listens_on, ListensAlone, TurnsListenAlone, TurnsNeverTake, ForksAlone, TurnsForkAlone}
use Rattle.occ_net_replay.specs.Moments.{Among, Quiet, below}
use Rattle.occ_net_replay.proofs.Beside.{ChannelsApart, Related, are_one, is_inside, is_around, are_beside, related}
use Rattle.occ_net_replay.proofs.Holding.{Belongs, Stands, Own, branches_placed, one_term}
use Rattle.occ_net_replay.proofs.Joining.{JoinsAs, joins_as}
use Rattle.occ_net_replay.proofs.Law.{d, procs, keyboard_protocol, belongs, all_followed}
use Rattle.occ_net_replay.proofs.Parents.{number_within, not_inside}
use Rattle.occ_net_replay.proofs.Placed.{size, BranchesPlaced, LeftPlaced}
use Rattle.occ_net_replay.proofs.Putting.{In, mine, within}
use Rattle.occ_net_replay.proofs.Settling.{Follows}
use Rattle.occ_net_replay.proofs.States.{gives_as, gets_as, chooses_as, Live, live_at}
use Rattle.occ_net_replay.proofs.Tables.{or_else, or_first, or_second, task_once}
use Rattle.occ_net_replay.proofs.TakingTurns.{Ran, ran}
use Rattle.occ_net_replay.proofs.Whole.{all_at}

-- ---- numbers of branches

above : (ps : List Numbered) (a lo hi : ℕ) (bs : Branches) → BranchesPlaced ps lo hi bs → a < lo → AreAbove a (numbers_of bs)
above ps a lo hi no_branches b h = tt
above ps a lo hi (and_branch n t bs) b h = let low = b.0 in (omega (arith, low, h), above ps n (n + 1 + size t) hi bs b.4 (omega arith))

rising : (ps : List Numbered) (lo hi : ℕ) (bs : Branches) → BranchesPlaced ps lo hi bs → IsRising (numbers_of bs)
rising ps lo hi no_branches b = tt
rising ps lo hi (and_branch n t bs) b = above ps n (n + 1 + size t) hi bs b.4 (omega arith)

record HasEntry (ps : List Numbered) (i : ℕ) : Type 0 where
  pub term : Term
  pub entry : slice_get ps i ≡ Some (numbered i term)

entry_of : (ps : List Numbered) (lo hi : ℕ) (bs : Branches) (i : ℕ) → BranchesPlaced ps lo hi bs → IsTrue (is_held (numbers_of bs) i) → HasEntry ps i
entry_of ps lo hi no_branches i b h = absurd (true≢false (sym h))
entry_of ps lo hi (and_branch n t bs) i b h = by (or_else (nat_eq n i) (is_held (numbers_of bs) i) h) (entry_of ps (n + 1 + size t) hi bs i b.4)
  where
    by : IsTrue (nat_eq n i) ⊎ IsTrue (is_held (numbers_of bs) i) → (IsTrue (is_held (numbers_of bs) i) → HasEntry ps i) → HasEntry ps i
    by (inl e) g = record { term = t; entry = subst (λ z. slice_get ps z ≡ Some (numbered z t)) (eqb-true n i e) b.1 }
    by (inr e) g = g e

-- ---- channels

pub output_on : (c : ℕ) (m : Message) (j : List Context) → IsTrue ((uses_of_left (left (Offering c m) j)).outs c)
output_on c m j = or_first (nat_eq c c) ((uses_of_contexts j).outs c) (eq-eqb c c refl)

input_on : (c : ℕ) (list : Reception) (j : List Context) → IsTrue ((uses_of_left (left (Awaiting c list) j)).ins c)
input_on c list j = or_first _ ((uses_of_contexts j).ins c) (or_first (nat_eq c c) ((uses_of_reception list).ins c) (eq-eqb c c refl))

-- an arm that inputs on the channel is an enabled one that does
record InputArmOn (d : Declared) (es : List Enabled) (c : ℕ) : Type 0 where
  pub on : IsTrue ((uses_of_all es).ins c)
  pub declared : EnabledHave d es → (x : Protocol) × (d.protocols c ≡ Some x)

arms_on : (d : Declared) (Go : Task → Left → Type 0) (t : Task) (j : List Context) (arms : List Arm) (es : List Enabled) (c : ℕ) → SameArms d Go t j arms es → IsTrue (is_held (channels_of arms) c) → InputArmOn d es c
arms_on d Go t j [] [] c h q = absurd (true≢false (sym q))
arms_on d Go t j [] (e ∷ es) c h q = absurd h
arms_on d Go t j (a ∷ arms) [] c h q = absurd h
arms_on d Go t j (a ∷ arms) (SkipArm again body ∷ es) c h q = later (arms_on d Go t j arms es c h.1 (skipped a.chan h.0.0 q))
  where
    skipped : (x : Option ℕ) → x ≡ None → IsTrue (is_held (and_channel x (channels_of arms)) c) → IsTrue (is_held (channels_of arms) c)
    skipped None e q = q
    skipped (Some k) e q = absurd cc

    later : InputArmOn d es c → InputArmOn d (SkipArm again body ∷ es) c
    later x = record { on = or_second ((uses_of_enabled (SkipArm again body)).ins c) ((uses_of_all es).ins c) x.on; declared = λ y. x.declared y.1 }
arms_on d Go t j (a ∷ arms) (InputArm again k list ∷ es) c h q = by (or_else (nat_eq k c) (is_held (channels_of arms) c) (subst (λ x. IsTrue (is_held (and_channel x (channels_of arms)) c)) h.0.0 q)) (arms_on d Go t j arms es c h.1)
  where
    by : IsTrue (nat_eq k c) ⊎ IsTrue (is_held (channels_of arms) c) → (IsTrue (is_held (channels_of arms) c) → InputArmOn d es c) → InputArmOn d (InputArm again k list ∷ es) c
    by (inl e) r = record { on = or_first ((uses_of_enabled (InputArm again k list)).ins c) ((uses_of_all es).ins c) (or_second ((uses_of_settings again).ins c) _ (or_first (nat_eq k c) ((uses_of_reception list).ins c) e)); declared = λ y. (y.0.1.0, ap d.protocols (sym (eqb-true k c e)) ∙ y.0.1.1) }
    by (inr e) r = let x = r e in record { on = or_second ((uses_of_enabled (InputArm again k list)).ins c) ((uses_of_all es).ins c) x.on; declared = λ y. x.declared y.1 }

one_channel : (c k : ℕ) → IsTrue (is_held (k ∷ []) c) → k ≡ c
one_channel c k h = by (or_else (nat_eq k c) false h)
  where
    by : IsTrue (nat_eq k c) ⊎ IsTrue false → k ≡ c
    by (inl e) = eqb-true k c e
    by (inr e) = absurd (true≢false (sym e))

declared_within : (cs : List Channel) (c : ℕ) (x : Protocol) → slice_get (map (λ y. y.protocol) cs) c ≡ Some x → c < length cs
declared_within [] c x e = absurd cc
declared_within (y ∷ cs) zero x e = omega arith
declared_within (y ∷ cs) (suc c) x e = let h = declared_within cs c x e in omega (arith, h)

none_among : {n : ℕ} {own : Left} {ps qs : Processes} → qs ≡ no_processes → Among n own ps qs → ⊥
none_among {n = n} {own = own} {ps = ps} e x = absurd_none (subst (Among n own ps) e x)
  where
    absurd_none : Among n own ps no_processes → ⊥
    absurd_none x = elim x [ ]

one_body : {a b : Body} → Some a ≡ Some b → a ≡ b
one_body e = cc

-- it offers a message, awaits one, or chooses
abbrev pub stands_at_channel : Wait → Bool
stands_at_channel W.Ready = false
stands_at_channel (W.Took arm is m) = false
stands_at_channel (W.Offers c m) = true
stands_at_channel (W.Awaits c) = true
stands_at_channel (W.Chooses pri arms) = true
stands_at_channel (W.Joins ns) = false
stands_at_channel W.Halted = false
stands_at_channel W.Done = false
stands_at_channel (W.Faulted e) = false

-- a stop that is no input from a channel from which the term inputs, and no output to one to which it outputs
pub record OtherEnds (v : Term) (w : Wait) : Type 0 where
  pub ins : (c : ℕ) → IsTrue (listens_on w c) → IsTrue ((uses_of v).ins c) → ⊥
  pub outs : (c : ℕ) (x : Message) → w ≡ W.Offers c x → IsTrue ((uses_of v).outs c) → ⊥

not_done : {w v : Wait} → w ≡ v → w ≡ W.Done → v ≡ W.Done
not_done e f = sym e ∙ f

module _ (d : Declared) (p : Program) (procs : List Numbered) (protocol : d.protocols 0 ≡ Some (Simple [] Byte)) (quantum : ℕ) (same_quantum : All (λ b. b.quantum ≡ quantum) p.bodies) (belongs_at : (n : ℕ) (t : Term) → slice_get procs n ≡ Some (numbered n t) → Belongs d p procs n) (net : Net) (now : System) (f : Follows d p procs protocol quantum 1 net now) (n : ℕ) (after : Task) (o : IsTurn p net.tasks n after) where
  pub not_going : (w : Wait) → o.before.wait ≡ w → may_go w ≡ false → ⊥
  not_going w e g = true≢false (sym o.may ∙ ap may_go e ∙ g)

  abbrev pub l : Live d p procs 1 net.tasks f.proc f.store n o.before
  l = live_at d p procs 1 net.tasks f.proc f.store n o.before f.state o.has_task (λ e. not_going W.Done e refl)

  abbrev pub m : Own d p procs 1 f.store net.tasks n l.own l.branches
  m = l.mine

  abbrev pub its_term : Term
  its_term = m.belongs.term

  pub r : Ran d p procs 0 quantum n net.tasks m.belongs.body m.belongs.term l.own l.branches f.store after
  r =
      ran d p procs 0 quantum n net.tasks f.proc f.store f.state l.own l.branches l.at m l.all o.before after l.same o.has_task o.may
      (all_at (λ b. b.quantum ≡ quantum) p.bodies n m.belongs.body same_quantum m.belongs.code)
      (subst (λ b. Stopping b o.before after) (one_body (sym o.has_body ∙ m.belongs.code)) o.stops)

  pub at_wait : (w : Wait) → after.wait ≡ w → SameStop d (Alike 0 d m.belongs.body) after r.rest w
  at_wait w e = subst (SameStop d (Alike 0 d m.belongs.body) after r.rest) e r.same

  -- a process that waits, without branches
  apart_from : (i : ℕ) (t : Task) (w : Wait) → HasTask net.tasks i t → t.wait ≡ w → may_go w ≡ false → (w ≡ W.Done → ⊥) → (x : Live d p procs 1 net.tasks f.proc f.store i t) → x.branches ≡ no_processes → ChannelsApart (uses_of its_term) (uses_of x.mine.belongs.term)
  apart_from i t w h e still undone x none =
      by (related d p procs 1 f.store net.tasks n i its_term x.mine.belongs.term m.belongs.entry x.mine.belongs.entry l.at x.at f.state.holds)
    where
      by : Related n its_term l.own l.branches i x.mine.belongs.term x.own x.branches → ChannelsApart (uses_of its_term) (uses_of x.mine.belongs.term)
      by (are_one q) = let same : o.before ≡ t = task_once net.tasks i (subst (λ z. HasTask net.tasks z o.before) q o.has_task) h in absurd (not_going w (ap (λ z. z.wait) same ∙ e) still)
      by (is_inside y) = absurd (undone (sym e ∙ r.gone i (record { own = x.own; branches = x.branches; at = y }) t h))
      by (is_around y) = absurd (none_among none y)
      by (are_beside a side) = a

  pub offers_alone : (c : ℕ) (v : Message) → after.wait ≡ W.Offers c v → (channels : ℕ) → ((x : Protocol) → d.protocols c ≡ Some x → c < channels) → channels ≡ length p.channels → OffersAlone p net.tasks c
  offers_alone c v e channels bound many =
      let x = at_wait (W.Offers c v) e in
      let typed : LeftHas d (left (Offering c v) x.0) = subst (LeftHas d) x.1 r.typed in
      record { declared = subst (λ z. c < z) many (bound typed.0.0 typed.0.1); alone = λ i t u h w. others x.0 x.1 i t u h w }
    where
      others : (j : List Context) → r.rest ≡ left (Offering c v) j → (i : ℕ) (t : Task) (u : Message) → HasTask net.tasks i t → t.wait ≡ W.Offers c u → ⊥
      others j q i t u h w =
          let y = live_at d p procs 1 net.tasks f.proc f.store i t f.state h (λ z. let k = sym w ∙ z in cc) in
          let g = gives_as d p procs 1 y.mine.belongs.body t y.own y.branches y.mine.but c u (subst (λ z. Stands d p procs 1 y.mine.belongs.body z y.own y.branches y.mine.but) y.same y.mine.stands) w in
          let a = apart_from i t (W.Offers c u) h w refl (λ z. cc) y g.none in
          a.outs c (r.uses.outs c (subst (λ z. IsTrue ((uses_of_left z).outs c)) (sym q) (output_on c v j)))
          (y.mine.uses.outs c (subst (λ z. IsTrue ((uses_of_left z).outs c)) (sym g.own_is) (output_on c u g.rest)))

  -- ---- an input, or a choice

  -- a task that listens on the channel is that of a process which inputs on it
  record Hearer (i c : ℕ) (t : Task) : Type 0 where
    pub live : Live d p procs 1 net.tasks f.proc f.store i t
    pub none : live.branches ≡ no_processes
    pub ins : IsTrue ((uses_of live.mine.belongs.term).ins c)
    pub still : may_go t.wait ≡ false
    pub undone : t.wait ≡ W.Done → ⊥

  hears : (i c : ℕ) (t : Task) → HasTask net.tasks i t → (w : Wait) → t.wait ≡ w → IsTrue (listens_on w c) → Hearer i c t
  hears i c t h W.Ready e q = absurd (true≢false (sym q))
  hears i c t h (W.Took arm is v) e q = absurd (true≢false (sym q))
  hears i c t h (W.Offers k v) e q = absurd (true≢false (sym q))
  hears i c t h (W.Awaits k) e q =
      let undone : t.wait ≡ W.Done → ⊥ = (λ z. let r : W.Awaits k ≡ W.Done = sym e ∙ z in cc) in
      let y = live_at d p procs 1 net.tasks f.proc f.store i t f.state h undone in
      let g = gets_as d p procs 1 y.mine.belongs.body t y.own y.branches y.mine.but k (subst (λ z. Stands d p procs 1 y.mine.belongs.body z y.own y.branches y.mine.but) y.same y.mine.stands) e in
      record { live = y; none = g.none; ins = y.mine.uses.ins c (subst (λ z. IsTrue ((uses_of_left z).ins c)) (sym g.own_is) (subst (λ z. IsTrue ((uses_of_left (left (Awaiting z g.list) g.rest)).ins c)) (sym (one_channel c k q)) (input_on c g.list g.rest))); still = ap may_go e; undone = undone }
  hears i c t h (W.Chooses pri arms) e q =
      let undone : t.wait ≡ W.Done → ⊥ = (λ z. let r : W.Chooses pri arms ≡ W.Done = sym e ∙ z in cc) in
      let y = live_at d p procs 1 net.tasks f.proc f.store i t f.state h undone in
      let g = chooses_as d p procs 1 y.mine.belongs.body t y.own y.branches y.mine.but pri arms (subst (λ z. Stands d p procs 1 y.mine.belongs.body z y.own y.branches y.mine.but) y.same y.mine.stands) e in
      let on = (arms_on d (Alike 1 d y.mine.belongs.body) t g.rest arms g.enabled c g.same q).on in
      record { live = y; none = g.none; ins = y.mine.uses.ins c (subst (λ z. IsTrue ((uses_of_left z).ins c)) (sym g.own_is) (or_first ((uses_of_all g.enabled).ins c) ((uses_of_contexts g.rest).ins c) on)); still = ap may_go e; undone = undone }
  hears i c t h (W.Joins ns) e q = absurd (true≢false (sym q))
  hears i c t h W.Halted e q = absurd (true≢false (sym q))
  hears i c t h W.Done e q = absurd (true≢false (sym q))
  hears i c t h (W.Faulted x) e q = absurd (true≢false (sym q))

  -- what is left after the turn inputs on the channel, which has a protocol
  pub record Listener (c : ℕ) : Type 0 where
    pub ins : IsTrue ((uses_of_left r.rest).ins c)
    pub of : Protocol
    pub has : d.protocols c ≡ Some of

  pub listener : (c : ℕ) (w : Wait) → after.wait ≡ w → IsTrue (listens_on w c) → Listener c
  listener c W.Ready e q = absurd (true≢false (sym q))
  listener c (W.Took arm is v) e q = absurd (true≢false (sym q))
  listener c (W.Offers k v) e q = absurd (true≢false (sym q))
  listener c (W.Awaits k) e q =
      let x = at_wait (W.Awaits k) e in
      let typed : LeftHas d (left (Awaiting k x.1) x.0) = subst (LeftHas d) x.2 r.typed in
      let one = one_channel c k q in
      record { ins = subst (λ z. IsTrue ((uses_of_left z).ins c)) (sym x.2) (subst (λ z. IsTrue ((uses_of_left (left (Awaiting z x.1) x.0)).ins c)) (sym one) (input_on c x.1 x.0)); of = typed.0.0; has = ap d.protocols (sym one) ∙ typed.0.1 }
  listener c (W.Chooses pri arms) e q =
      let x = at_wait (W.Chooses pri arms) e in
      let typed : LeftHas d (left (Choosing pri x.1) x.0) = subst (LeftHas d) x.2 r.typed in
      let y = arms_on d (Alike 0 d m.belongs.body) after x.0 arms x.1 c x.3 q in
      let declared = y.declared typed.0 in
      record { ins = subst (λ z. IsTrue ((uses_of_left z).ins c)) (sym x.2) (or_first ((uses_of_all x.1).ins c) ((uses_of_contexts x.0).ins c) y.on); of = declared.0; has = declared.1 }
  listener c (W.Joins ns) e q = absurd (true≢false (sym q))
  listener c W.Halted e q = absurd (true≢false (sym q))
  listener c W.Done e q = absurd (true≢false (sym q))
  listener c (W.Faulted x) e q = absurd (true≢false (sym q))

  pub listens_alone : (c : ℕ) → IsTrue (listens_on after.wait c) → (channels : ℕ) → ((x : Protocol) → d.protocols c ≡ Some x → c < channels) → channels ≡ length p.channels → ListensAlone p net.tasks c
  listens_alone c q channels bound many =
      let x = listener c after.wait refl q in
      record { declared = subst (λ z. c < z) many (bound x.of x.has); alone = λ i t h w. others x.ins i t h w }
    where
      others : IsTrue ((uses_of_left r.rest).ins c) → (i : ℕ) (t : Task) → HasTask net.tasks i t → IsTrue (listens_on t.wait c) → ⊥
      others ins i t h w =
          let y = hears i c t h t.wait refl w in
          let a = apart_from i t t.wait h refl y.still y.undone y.live y.none in
          a.ins c (r.uses.ins c ins) y.ins

  -- ---- a process that stands at a channel

  -- it waits, and has no branches now
  record StandsAt (i : ℕ) (t : Task) : Type 0 where
    live : Live d p procs 1 net.tasks f.proc f.store i t
    none : live.branches ≡ no_processes
    still : may_go t.wait ≡ false
    undone : t.wait ≡ W.Done → ⊥

  stands_at : (i : ℕ) (t : Task) → HasTask net.tasks i t → (w : Wait) → t.wait ≡ w → IsTrue (stands_at_channel w) → StandsAt i t
  stands_at i t h W.Ready e q = absurd (true≢false (sym q))
  stands_at i t h (W.Took arm is v) e q = absurd (true≢false (sym q))
  stands_at i t h (W.Offers k v) e q =
      let undone : t.wait ≡ W.Done → ⊥ = (λ z. let r : W.Offers k v ≡ W.Done = sym e ∙ z in cc) in
      let y = live_at d p procs 1 net.tasks f.proc f.store i t f.state h undone in
      let g = gives_as d p procs 1 y.mine.belongs.body t y.own y.branches y.mine.but k v (subst (λ z. Stands d p procs 1 y.mine.belongs.body z y.own y.branches y.mine.but) y.same y.mine.stands) e in
      record { live = y; none = g.none; still = ap may_go e; undone = undone }
  stands_at i t h (W.Awaits k) e q =
      let undone : t.wait ≡ W.Done → ⊥ = (λ z. let r : W.Awaits k ≡ W.Done = sym e ∙ z in cc) in
      let y = live_at d p procs 1 net.tasks f.proc f.store i t f.state h undone in
      let g = gets_as d p procs 1 y.mine.belongs.body t y.own y.branches y.mine.but k (subst (λ z. Stands d p procs 1 y.mine.belongs.body z y.own y.branches y.mine.but) y.same y.mine.stands) e in
      record { live = y; none = g.none; still = ap may_go e; undone = undone }
  stands_at i t h (W.Chooses pri arms) e q =
      let undone : t.wait ≡ W.Done → ⊥ = (λ z. let r : W.Chooses pri arms ≡ W.Done = sym e ∙ z in cc) in
      let y = live_at d p procs 1 net.tasks f.proc f.store i t f.state h undone in
      let g = chooses_as d p procs 1 y.mine.belongs.body t y.own y.branches y.mine.but pri arms (subst (λ z. Stands d p procs 1 y.mine.belongs.body z y.own y.branches y.mine.but) y.same y.mine.stands) e in
      record { live = y; none = g.none; still = ap may_go e; undone = undone }
  stands_at i t h (W.Joins ns) e q = absurd (true≢false (sym q))
  stands_at i t h W.Halted e q = absurd (true≢false (sym q))
  stands_at i t h W.Done e q = absurd (true≢false (sym q))
  stands_at i t h (W.Faulted x) e q = absurd (true≢false (sym q))

  -- the turn of another process ends at other ends than those that it uses
  pub other_ends : (i : ℕ) (t : Task) → HasTask net.tasks i t → IsTrue (stands_at_channel t.wait) → (v : Term) → slice_get procs i ≡ Some (numbered i v) → OtherEnds v after.wait
  other_ends i t h q v entry =
      let x = stands_at i t h t.wait refl q in
      let a = apart_from i t t.wait h refl x.still x.undone x.live x.none in
      let same : x.live.mine.belongs.term ≡ v = one_term (sym x.live.mine.belongs.entry ∙ entry) in
      record {
        ins = λ c g e. a.ins c (r.uses.ins c (listener c after.wait refl g).ins) (subst (λ z. IsTrue ((uses_of z).ins c)) (sym same) e);
        outs = λ c u g e.
            let z = at_wait (W.Offers c u) g in
            a.outs c (r.uses.outs c (subst (λ k. IsTrue ((uses_of_left k).outs c)) (sym z.1) (output_on c u z.0))) (subst (λ z. IsTrue ((uses_of z).outs c)) (sym same) e);
      }

  pub never_takes : (arm : ℕ) (is : List ℤ) (x : Option Message) → after.wait ≡ W.Took arm is x → ⊥
  never_takes arm is x e = at_wait (W.Took arm is x) e

  -- ---- a fork

  module _ (bs : Branches) (placed : BranchesPlaced procs (n + 1) (n + 1 + size its_term) bs) where
    its_branches : (i : ℕ) → IsTrue (is_held (numbers_of bs) i) → (n + 1 ≤ i) × (i < n + 1 + size its_term)
    its_branches i h = number_within d p procs 1 f.store net.tasks i bs (n + 1) (n + 1 + size its_term) placed h

    fork_free : (i : ℕ) (t : Task) → IsTrue (is_held (numbers_of bs) i) → HasTask net.tasks i t → t.wait ≡ W.Done
    fork_free i t held h = was (f.state.live i t h)
      where
        low : n + 1 ≤ i
        low = (its_branches i held).0

        top : i < n + 1 + size its_term
        top = (its_branches i held).1

        by : (x : In i f.proc) (u : Term) → slice_get procs i ≡ Some (numbered i u) → Related n its_term l.own l.branches i u x.own x.branches → t.wait ≡ W.Done
        by x u e (are_one q) = absurd (omega (arith, q, low))
        by x u e (is_inside y) = r.gone i (record { own = x.own; branches = x.branches; at = y }) t h
        by x u e (is_around y) = absurd (let w = (within d p procs 1 f.store net.tasks (below y) (mine d p procs 1 f.store net.tasks x.at f.state.holds) its_term u m.belongs.entry e).from in omega (arith, w, low))
        by x u e (are_beside a (inl q)) = absurd (omega (arith, q, top))
        by x u e (are_beside a (inr q)) = absurd (omega (arith, q, low))

        was : In i f.proc ⊎ (t.wait ≡ W.Done) → t.wait ≡ W.Done
        was (inl x) =
            let y = mine d p procs 1 f.store net.tasks x.at f.state.holds in
            by x y.0.belongs.term y.0.belongs.entry (related d p procs 1 f.store net.tasks n i its_term y.0.belongs.term m.belongs.entry y.0.belongs.entry l.at x.at f.state.holds)
        was (inr e) = e

    fork_alone : (i j : ℕ) (t : Task) (ms : List ℕ) → IsTrue (is_held (numbers_of bs) i) → HasTask net.tasks j t → t.wait ≡ W.Joins ms → IsTrue (is_held ms i) → ⊥
    fork_alone i j t ms held h w among = by (related d p procs 1 f.store net.tasks n j its_term x.mine.belongs.term m.belongs.entry x.mine.belongs.entry l.at x.at f.state.holds)
      where
        x : Live d p procs 1 net.tasks f.proc f.store j t
        x = live_at d p procs 1 net.tasks f.proc f.store j t f.state h (λ e. let q = sym w ∙ e in cc)

        a : JoinsAs d p procs 1 x.mine.belongs.body t x.own x.branches x.mine.but ms
        a = joins_as d p procs 1 x.mine.belongs.body t x.own x.branches x.mine.but ms (subst (λ u. Stands d p procs 1 x.mine.belongs.body u x.own x.branches x.mine.but) x.same x.mine.stands) w

        its_own : BranchesPlaced procs (j + 1) (j + 1 + size x.mine.belongs.term) a.branches
        its_own = branches_placed d p procs (j + 1) (j + 1 + size x.mine.belongs.term) a.own_is x.mine.placed

        there : IsTrue (is_held (numbers_of a.branches) i)
        there = ap (λ z. is_held z i) a.numbers ∙ among

        bounds : (j + 1 ≤ i) × (i < j + 1 + size x.mine.belongs.term)
        bounds = number_within d p procs 1 f.store net.tasks i a.branches (j + 1) (j + 1 + size x.mine.belongs.term) its_own there

        low : n + 1 ≤ i
        low = (its_branches i held).0

        top : i < n + 1 + size its_term
        top = (its_branches i held).1

        by : Related n its_term l.own l.branches j x.mine.belongs.term x.own x.branches → ⊥
        by (are_one q) = let same : o.before ≡ t = task_once net.tasks j (subst (λ z. HasTask net.tasks z o.before) q o.has_task) h in not_going (W.Joins ms) (ap (λ z. z.wait) same ∙ w) refl
        by (is_inside y) = let q = sym w ∙ r.gone j (record { own = x.own; branches = x.branches; at = y }) t h in cc
        by (is_around y) = not_inside d p procs 1 f.store net.tasks i n its_term a.branches (j + 1) (j + 1 + size x.mine.belongs.term) its_own a.same x.all there y m.belongs.entry low top
        by (are_beside c (inl q)) = let b = bounds.0 in omega (arith, q, b, top)
        by (are_beside c (inr q)) = let b = bounds.1 in omega (arith, q, b, low)

    forks : ForksAlone p net.tasks n (numbers_of bs)
    forks =
        record {
          rising = rising procs (n + 1) (n + 1 + size its_term) bs placed;
          behind = λ i h. let b = (its_branches i h).0 in omega (arith, b);
          have_bodies = λ i h. let e = entry_of procs (n + 1) (n + 1 + size its_term) bs i placed h in slice_get_within p.bodies i (belongs_at i e.term e.entry).body (belongs_at i e.term e.entry).code;
          free = fork_free;
          alone = fork_alone;
        }

  -- its branches are numbered within its term
  pub fork_within : (ns : List ℕ) → after.wait ≡ W.Joins ns → (i : ℕ) → IsTrue (is_held ns i) → (n + 1 ≤ i) × (i < n + 1 + size its_term)
  fork_within ns e i h =
      let x = at_wait (W.Joins ns) e in
      let placed : LeftPlaced procs (n + 1) (n + 1 + size its_term) (left (Forking x.1) x.0) = subst (LeftPlaced procs (n + 1) (n + 1 + size its_term)) x.2 r.placed in
      its_branches x.1 placed.0.0 i (subst (λ k. IsTrue (is_held k i)) (sym x.3) h)

  pub forks_alone : (ns : List ℕ) → after.wait ≡ W.Joins ns → ForksAlone p net.tasks n ns
  forks_alone ns e =
      let x = at_wait (W.Joins ns) e in
      let placed : LeftPlaced procs (n + 1) (n + 1 + size its_term) (left (Forking x.1) x.0) = subst (LeftPlaced procs (n + 1) (n + 1 + size its_term)) x.2 r.placed in
      subst (ForksAlone p net.tasks n) x.3 (forks x.1 placed.0.0)

-- ---- the laws

pub turns_are_few : TurnsAreFew
turns_are_few u p quantum kb cs net n t z h =
    let x = all_followed u p quantum kb z.well_formed z.lawful z.compiled z.bytes cs net 1 z.few z.replays in
    x.follows.state.small n t h

pub turns_offer_alone : TurnsOfferAlone
turns_offer_alone u p quantum kb cs net n after c m z o e =
    let x = all_followed u p quantum kb z.well_formed z.lawful z.compiled z.bytes cs net 1 z.few z.replays in
    offers_alone (d u p quantum kb z.well_formed z.lawful z.compiled z.bytes) p (procs u p quantum kb z.well_formed z.lawful z.compiled z.bytes) (keyboard_protocol u z.well_formed) quantum z.compiled.quanta
    (belongs u p quantum kb z.well_formed z.lawful z.compiled z.bytes) net x.now x.follows n after o c m e (length u.channels) (λ y q. declared_within u.channels c y q) (sym (ap (λ l. length l) z.compiled.channels))

pub turns_listen_alone : TurnsListenAlone
turns_listen_alone u p quantum kb cs net n after c z o e =
    let x = all_followed u p quantum kb z.well_formed z.lawful z.compiled z.bytes cs net 1 z.few z.replays in
    listens_alone (d u p quantum kb z.well_formed z.lawful z.compiled z.bytes) p (procs u p quantum kb z.well_formed z.lawful z.compiled z.bytes) (keyboard_protocol u z.well_formed) quantum z.compiled.quanta
    (belongs u p quantum kb z.well_formed z.lawful z.compiled z.bytes) net x.now x.follows n after o c e (length u.channels) (λ y q. declared_within u.channels c y q) (sym (ap (λ l. length l) z.compiled.channels))

pub turns_never_take : TurnsNeverTake
turns_never_take u p quantum kb cs net n after arm is m z o e =
    let x = all_followed u p quantum kb z.well_formed z.lawful z.compiled z.bytes cs net 1 z.few z.replays in
    never_takes (d u p quantum kb z.well_formed z.lawful z.compiled z.bytes) p (procs u p quantum kb z.well_formed z.lawful z.compiled z.bytes) (keyboard_protocol u z.well_formed) quantum z.compiled.quanta
    (belongs u p quantum kb z.well_formed z.lawful z.compiled z.bytes) net x.now x.follows n after o arm is m e

-- between two turns nothing can happen that needs none
pub replays_are_quiet : (u : UnfoldedProgram) (p : Program) (quantum : ℕ) (kb : List ℕ) (cs : List Choice) (net : Net) → IsReplay u p quantum kb cs net → Quiet net
replays_are_quiet u p quantum kb cs net z = (all_followed u p quantum kb z.well_formed z.lawful z.compiled z.bytes cs net 1 z.few z.replays).follows.quiet

pub turns_fork_alone : TurnsForkAlone
turns_fork_alone u p quantum kb cs net n after ns z o e =
    let x = all_followed u p quantum kb z.well_formed z.lawful z.compiled z.bytes cs net 1 z.few z.replays in
    forks_alone (d u p quantum kb z.well_formed z.lawful z.compiled z.bytes) p (procs u p quantum kb z.well_formed z.lawful z.compiled z.bytes) (keyboard_protocol u z.well_formed) quantum z.compiled.quanta
    (belongs u p quantum kb z.well_formed z.lawful z.compiled z.bytes) net x.now x.follows n after o ns e

-- where a process stands at a channel, the turns of others end at other ends than those that it uses
pub others_use_other_ends : (u : UnfoldedProgram) (p : Program) (quantum : ℕ) (kb : List ℕ) (cs : List Choice) (net : Net) → IsReplay u p quantum kb cs net → (n : ℕ) (after : Task) → IsTurn p net.tasks n after → (i : ℕ) (t : Task) → HasTask net.tasks i t → IsTrue (stands_at_channel t.wait) → (v : Term)
    → slice_get (processes_of (meaning u)) i ≡ Some (numbered i v) → OtherEnds v after.wait
others_use_other_ends u p quantum kb cs net z n after o i t h q v entry =
    let x = all_followed u p quantum kb z.well_formed z.lawful z.compiled z.bytes cs net 1 z.few z.replays in
    other_ends (d u p quantum kb z.well_formed z.lawful z.compiled z.bytes) p (procs u p quantum kb z.well_formed z.lawful z.compiled z.bytes) (keyboard_protocol u z.well_formed) quantum z.compiled.quanta
    (belongs u p quantum kb z.well_formed z.lawful z.compiled z.bytes) net x.now x.follows n after o i t h q v entry
