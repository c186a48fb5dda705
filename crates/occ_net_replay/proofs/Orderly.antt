-- Of the tasks of a lawful program one at most offers on a channel, one awaits a message on it, and one waits for a branch.
use Rattle.std.proofs.Common.{◌≡◌, ◌∙◌, refl, sym, ap, subst, Bool, IsTrue, ℕ, ◌+◌, ◌%◌, List, Some, length}
use Rattle.std.specs.Prelude.{slice_get, nat_eq, if◌then◌else◌}
use Rattle.std.proofs.lemmas.Bool.{eq-eqb}
use Rattle.occ_term.specs.declared.message.Message.{Message}
use Rattle.occ_term.specs.Frames.{is_held}
use Rattle.occ_term.specs.Processes.{Numbered, numbered}
use Rattle.occ_term.specs.Selecting.{Enabled, SkipArm, InputArm, waits_for, ready_among, chosen}
use Rattle.occ_term.specs.StepUses.{IsPartOf, uses_of_left, uses_of_contexts, uses_of_settings, uses_of_all}
use Rattle.occ_term.specs.Steps.{Context, Left}
use Rattle.occ_term.specs.System.{Process, Processes, no_processes}
use Rattle.occ_term.specs.TermTyping.{Declared}
use Rattle.occ_term.specs.Terms.{Term}
use Rattle.occ_term.specs.Uses.{Lawful, uses_of, uses_of_reception}
use Rattle.occ_term.specs.Values.{Store}
use Rattle.occ_term.proofs.KeptStores.{whole_part}
use Rattle.occ_machine.specs.SameStop.{SameArm}
use Rattle.occ_machine.specs.Alike.{Alike}
use Rattle.occ_machine.specs.Compiled.{Program}
use Rattle.occ_machine.specs.declared.task.Arm.{Arm}
use Rattle.occ_machine.specs.declared.task.Task.{Task}
use Rattle.occ_machine.specs.declared.task.Wait.{Wait}
use Rattle.occ_machine.specs.declared.task.Wait.TheVariants as W
use Rattle.occ_net_replay.specs.Replay.{Tasks, HasTask, arm_chosen}
use Rattle.occ_net_replay.specs.Moments.{At, Among}
use Rattle.occ_net_replay.proofs.Beside.{Related, are_one, is_inside, is_around, are_beside, related}
use Rattle.occ_net_replay.proofs.Holding.{Stands, branches_placed}
use Rattle.occ_net_replay.proofs.Joining.{joins_as}
use Rattle.occ_net_replay.proofs.Meeting.{chosen_both, enabled_part, ready_is_one}
use Rattle.occ_net_replay.proofs.Parents.{HasBranch, parent_once}
use Rattle.occ_net_replay.proofs.Placed.{size}
use Rattle.occ_net_replay.proofs.Putting.{within}
use Rattle.occ_net_replay.proofs.States.{State, Live, live_at, gives_as, gets_as, chooses_as}
use Rattle.occ_net_replay.proofs.Tables.{or_first, or_second}

-- takes a message on the channel, where one is offered
pub data Hears (pick : ℕ) (offers : ℕ → Bool) (c : ℕ) : Wait → Type 0 where
  by_input : Hears pick offers c (W.Awaits c)
  by_arm : {pri : Bool} {arms : List Arm} {a : Arm} → arm_chosen pri pick offers arms ≡ Some a → a.chan ≡ Some c → Hears pick offers c (W.Chooses pri arms)

pub record Speaks (tasks : Tasks) (c i : ℕ) : Type 0 where
  pub task : Task
  pub message : Message
  pub there : HasTask tasks i task
  pub says : task.wait ≡ W.Offers c message

pub record Listens (tasks : Tasks) (c i : ℕ) : Type 0 where
  pub task : Task
  pub pick : ℕ
  pub offers : ℕ → Bool
  pub there : HasTask tasks i task
  pub hears : Hears pick offers c task.wait

pub record WaitsFor (tasks : Tasks) (n i : ℕ) : Type 0 where
  pub task : Task
  pub branches : List ℕ
  pub there : HasTask tasks i task
  pub waits : task.wait ≡ W.Joins branches
  pub among : IsTrue (is_held branches n)

pub record Orderly (tasks : Tasks) : Type 0 where
  pub one_speaks : (c i j : ℕ) → Speaks tasks c i → Speaks tasks c j → i ≡ j
  pub one_listens : (c i j : ℕ) → Listens tasks c i → Listens tasks c j → i ≡ j
  pub no_keyboard : (i : ℕ) → Speaks tasks 0 i → ⊥
  pub no_screen : (i : ℕ) → Listens tasks 1 i → ⊥
  pub no_error : (i : ℕ) → Listens tasks 2 i → ⊥
  pub one_waits : (n i j : ℕ) → WaitsFor tasks n i → WaitsFor tasks n j → i ≡ j

module _ (d : Declared) (p : Program) (procs : List Numbered) (k : ℕ) (tasks : Tasks) (proc : Process) (s : Store) (st : State d p procs k tasks proc s) where
  -- a process without branches
  record Single (i : ℕ) : Type 0 where
    pub own : Left
    pub at : At i own no_processes proc
    pub term : Term
    pub entry : slice_get procs i ≡ Some (numbered i term)

  abbrev single : (i : ℕ) (t : Task) → (l : Live d p procs k tasks proc s i t) → l.branches ≡ no_processes → Single i
  single i t l none = record { own = l.own; at = subst (λ ps. At i l.own ps proc) none l.at; term = l.mine.belongs.term; entry = l.mine.belongs.entry }

  none_among : {i : ℕ} {own : Left} {ps : Processes} → Among i own ps no_processes → ⊥
  none_among x = elim x [ ]

  record Outputs (c i : ℕ) : Type 0 where
    pub process : Single i
    pub on : IsTrue ((uses_of process.term).outs c)

  record Inputs (c i : ℕ) : Type 0 where
    pub process : Single i
    pub on : IsTrue ((uses_of process.term).ins c)

  output_once : (c i j : ℕ) → Outputs c i → Outputs c j → i ≡ j
  output_once c i j a b = by (related d p procs k s tasks i j a.process.term b.process.term a.process.entry b.process.entry a.process.at b.process.at st.holds)
    where
      by : Related i a.process.term a.process.own no_processes j b.process.term b.process.own no_processes → i ≡ j
      by (are_one e) = e
      by (is_inside x) = absurd (none_among x)
      by (is_around x) = absurd (none_among x)
      by (are_beside x side) = absurd (x.outs c a.on b.on)

  input_once : (c i j : ℕ) → Inputs c i → Inputs c j → i ≡ j
  input_once c i j a b = by (related d p procs k s tasks i j a.process.term b.process.term a.process.entry b.process.entry a.process.at b.process.at st.holds)
    where
      by : Related i a.process.term a.process.own no_processes j b.process.term b.process.own no_processes → i ≡ j
      by (are_one e) = e
      by (is_inside x) = absurd (none_among x)
      by (is_around x) = absurd (none_among x)
      by (are_beside x side) = absurd (x.ins c a.on b.on)

  outputs : (c i : ℕ) → Speaks tasks c i → Outputs c i
  outputs c i x =
      let l = live_at d p procs k tasks proc s i x.task st x.there (λ e. let q = sym x.says ∙ e in cc) in
      let g = gives_as d p procs k l.mine.belongs.body x.task l.own l.branches l.mine.but c x.message (subst (λ t. Stands d p procs k l.mine.belongs.body t l.own l.branches l.mine.but) l.same l.mine.stands) x.says in
      record {
        process = single i x.task l g.none;
        on = l.mine.uses.outs c (subst (λ z. IsTrue ((uses_of_left z).outs c)) (sym g.own_is) (or_first (nat_eq c c) ((uses_of_contexts g.rest).outs c) (eq-eqb c c refl)));
      }

  inputs : (c i : ℕ) → Listens tasks c i → Inputs c i
  inputs c i x = by x.task.wait refl x.hears
    where
      by : (w : Wait) → x.task.wait ≡ w → Hears x.pick x.offers c w → Inputs c i
      by w e by_input =
          let l = live_at d p procs k tasks proc s i x.task st x.there (λ f. let q = sym e ∙ f in cc) in
          let g = gets_as d p procs k l.mine.belongs.body x.task l.own l.branches l.mine.but c (subst (λ t. Stands d p procs k l.mine.belongs.body t l.own l.branches l.mine.but) l.same l.mine.stands) e in
          record {
            process = single i x.task l g.none;
            on = l.mine.uses.ins c (subst (λ z. IsTrue ((uses_of_left z).ins c)) (sym g.own_is) (or_first _ ((uses_of_contexts g.rest).ins c) (or_first (nat_eq c c) ((uses_of_reception g.list).ins c) (eq-eqb c c refl))));
          }
      by w e (by_arm {pri = pri} {arms = arms} {a = a} q f) =
          let l = live_at d p procs k tasks proc s i x.task st x.there (λ z. let r = sym e ∙ z in cc) in
          let g = chooses_as d p procs k l.mine.belongs.body x.task l.own l.branches l.mine.but pri arms (subst (λ t. Stands d p procs k l.mine.belongs.body t l.own l.branches l.mine.but) l.same l.mine.stands) e in
          let b = chosen_both d (Alike k d l.mine.belongs.body) x.task g.rest x.offers pri x.pick arms g.enabled a g.same q in
          record {
            process = single i x.task l g.none;
            on = l.mine.uses.ins c (subst (λ z. IsTrue ((uses_of_left z).ins c)) (sym g.own_is) (or_first ((uses_of_all g.enabled).ins c) ((uses_of_contexts g.rest).ins c) (arm pri g.enabled (Alike k d l.mine.belongs.body) g.rest b.enabled b.is b.same)));
          }
        where
          arm : (pri : Bool) (es : List Enabled) (Go : Task → Left → Type 0) (j : List Context) (y : Enabled) → chosen pri x.pick x.offers es ≡ Some y → SameArm d Go x.task j a y → IsTrue ((uses_of_all es).ins c)
          arm pri es Go j (SkipArm xs body) z same = let r = sym f ∙ same.0 in absurd cc
          arm pri es Go j (InputArm xs chan list) z same =
              let there : chan ≡ c = (let r = sym same.0 ∙ f in cc) in
              let r = ready_is_one x.offers es (if pri then 0 else x.pick % length (ready_among waits_for x.offers es)) (InputArm xs chan list) z in
              let part = enabled_part es (InputArm xs chan list) r.place (uses_of_all es) r.is (whole_part (uses_of_all es)) in
              part.ins c (or_second ((uses_of_settings xs).ins c) _ (or_first (nat_eq chan c) ((uses_of_reception list).ins c) (eq-eqb chan c there)))

  waits_once : (n i j : ℕ) → WaitsFor tasks n i → WaitsFor tasks n j → i ≡ j
  waits_once n i j x y =
      let a = branch_of i x in
      let b = branch_of j y in
      parent_once d p procs k s tasks n i j a.0.at b.0.at st.holds a.1 b.1
    where
      branch_of : (i : ℕ) → (x : WaitsFor tasks n i) → (l : Live d p procs k tasks proc s i x.task) × HasBranch d p procs k s tasks n i l.branches
      branch_of i x =
          let l = live_at d p procs k tasks proc s i x.task st x.there (λ e. let r = sym x.waits ∙ e in cc) in
          let o = l.mine in
          let a = joins_as d p procs k o.belongs.body x.task l.own l.branches o.but x.branches (subst (λ u. Stands d p procs k o.belongs.body u l.own l.branches o.but) l.same o.stands) x.waits in
          (l, record { term = o.belongs.term; entry = o.belongs.entry; branches = a.branches; same = a.same; placed = branches_placed d p procs (i + 1) (i + 1 + size o.belongs.term) a.own_is o.placed; among = ap (λ z. is_held z n) a.numbers ∙ x.among })

  module _ (main : Term) (lawful : Lawful main) (entry : slice_get procs 0 ≡ Some (numbered 0 main)) where
    -- no process uses more than the main term
    part : (i : ℕ) → (x : Single i) → IsPartOf (uses_of x.term) (uses_of main)
    part i x = (within d p procs k s tasks x.at st.holds x.term main x.entry (subst (λ z. slice_get procs z ≡ Some (numbered z main)) (sym st.root) entry)).part

    pub orderly : Orderly tasks
    orderly =
        record {
          one_speaks = λ c i j x y. output_once c i j (outputs c i x) (outputs c j y);
          one_listens = λ c i j x y. input_once c i j (inputs c i x) (inputs c j y);
          no_keyboard = λ i x. let o = outputs 0 i x in lawful.beside_keyboard.outputs 0 ((part i o.process).outs 0 o.on) refl;
          no_screen = λ i x. let o = inputs 1 i x in lawful.beside_screen.inputs 1 ((part i o.process).ins 1 o.on) refl;
          no_error = λ i x. let o = inputs 2 i x in lawful.beside_error.inputs 2 ((part i o.process).ins 2 o.on) refl;
          one_waits = waits_once;
        }
