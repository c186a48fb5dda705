-- Beginnings of turns of several processes, in any order.
use Rattle.std.proofs.Common.{◌≡◌, ◌∙◌, refl, sym, ap, subst, Bool, true, false, IsTrue, IsFalse, ℕ, suc, ◌⊎◌, inl, inr, List, Some, ℤ}
use Rattle.std.specs.Prelude.{slice_get}
use Rattle.std.proofs.Math.Path.{fun_ext}
use mathlib.Core.Bool.{true≢false}
use Rattle.occ_term.proofs.StepReads.{steps_rest_on_reads}
use Rattle.occ_term.specs.Processes.{Numbered, numbered}
use Rattle.occ_term.specs.StepUses.{IsPartOf, ChangesOnly, uses_of_left, uses_of_contexts}
use Rattle.occ_term.specs.Steps.{Do, Forking, Left, left, Status, Runs, Loops, Offers, Awaits, Chooses, Forks, IsHalted, FailsBy, HasEnded, status, is_looping, is_ended, Step}
use Rattle.occ_term.specs.System.{Process, Processes, no_processes, GoesFrom, alone, joined}
use Rattle.occ_term.specs.TermTyping.{Declared}
use Rattle.occ_term.specs.Terms.{Term, Skip}
use Rattle.occ_term.specs.Turns.{Steps, none, more, SingleTurn, single_turn, Turn, stops, passes}
use Rattle.occ_term.specs.TypedSteps.{StoreHas, LeftHas}
use Rattle.occ_term.specs.Uses.{Uses, uses_of, uses_of_branches}
use Rattle.occ_term.specs.Values.{Store, AgreeOn}
use Rattle.occ_term.proofs.KeptStores.{right_part, both_parts, no_part, whole_part}
use Rattle.occ_term.proofs.TypedValues.{or_left, or_right}
use Rattle.occ_machine.specs.SameStop.{used_by}
use Rattle.occ_net_replay.specs.Moments.{At, Among}
use Rattle.occ_net_replay.proofs.Holding.{put}
use Rattle.occ_net_replay.proofs.Putting.{InAmong, ended_inside}
use Rattle.occ_net_replay.proofs.Trees.{Both, both_back, inside_back, own_back, Was, Across, across, CellsApart}
use Rattle.occ_net_replay.proofs.Turning.{part_of_part, Kept, step_kept, kept_again, steps_kept, single_kept, turn_kept}

abbrev pub is_comm : Status → Bool
is_comm Runs = false
is_comm Loops = false
is_comm (Offers c m) = true
is_comm (Awaits c) = true
is_comm (Chooses pri arms) = true
is_comm (Forks bs) = false
is_comm IsHalted = false
is_comm (FailsBy e) = false
is_comm HasEnded = false

-- at a step, at a loop's end, or at a communication
abbrev pub is_live : Status → Bool
is_live Runs = true
is_live Loops = true
is_live (Offers c m) = true
is_live (Awaits c) = true
is_live (Chooses pri arms) = true
is_live (Forks bs) = false
is_live IsHalted = false
is_live (FailsBy e) = false
is_live HasEnded = false

pub live_unended : (st : Status) → IsTrue (is_live st) → IsFalse (is_ended st)
live_unended Runs h = refl
live_unended Loops h = refl
live_unended (Offers c m) h = refl
live_unended (Awaits c) h = refl
live_unended (Chooses pri arms) h = refl
live_unended (Forks bs) h = refl
live_unended IsHalted h = refl
live_unended (FailsBy e) h = refl
live_unended HasEnded h = absurd (true≢false (sym h))

-- the beginning of a turn: some steps, or all of them up to a communication
pub data PartTurn : ℕ → Left → Store → Left → Store → Type 0 where
  within : {q : ℕ} {a b : Left} {s s' : Store} → Steps a s b s' → PartTurn (suc q) a s b s'
  to_stop : {q : ℕ} {a b c : Left} {s s' s'' : Store} → Steps a s b s' → Step b s' c s'' → IsTrue (is_comm (status c)) → PartTurn (suc q) a s c s''
  past : {q : ℕ} {a b c : Left} {s s' s'' : Store} → SingleTurn a s b s' → IsTrue (is_looping (status b)) → PartTurn q b s' c s'' → PartTurn (suc q) a s c s''

-- ---- the same in another store

pub record AlikeIn (R : Left → Store → Left → Store → Type 0) (a b : Left) (s s' t : Store) : Type 0 where
  pub store : Store
  pub goes : R a t b store
  pub same : (c : ℕ) → s c ≡ t c → s' c ≡ store c

still_same : {x y a b : ℤ} → (x ≡ y) ⊎ ((x ≡ a) × (y ≡ b)) → a ≡ b → x ≡ y
still_same (inl e) h = e
still_same (inr e) h = e.0 ∙ h ∙ sym e.1

module _ (d : Declared) where
  agree_on : {a b : Left} {s s' t t' : Store} → Kept d a b s s' → AgreeOn (uses_of_left a).reads s t → ((c : ℕ) → s c ≡ t c → s' c ≡ t' c) → AgreeOn (uses_of_left b).reads s' t'
  agree_on k h m c r = m c (h c (k.uses.reads c r))

  step_alike : {a b : Left} {s s' : Store} → Step a s b s' → LeftHas d a → (t : Store) → AgreeOn (uses_of_left a).reads s t → AlikeIn Step a b s s' t
  step_alike {a = a} {b = b} {s = s} {s' = s'} x h t m = let y = steps_rest_on_reads d a b s s' t h m x in record { store = y.store; goes = y.step; same = λ c. still_same (y.same c) }

  steps_alike : {a b : Left} {s s' : Store} → Steps a s b s' → LeftHas d a → StoreHas d s → (t : Store) → AgreeOn (uses_of_left a).reads s t → AlikeIn Steps a b s s' t
  steps_alike none h k t m = record { store = t; goes = none; same = λ c e. e }
  steps_alike (more x r xs) h k t m =
      let y = step_alike x h t m in
      let p = step_kept d x h k in
      let z = steps_alike xs p.typed p.typed_store y.store (agree_on p m y.same) in
      record { store = z.store; goes = more y.goes r z.goes; same = λ c e. z.same c (y.same c e) }

  single_alike : {a b : Left} {s s' : Store} → SingleTurn a s b s' → LeftHas d a → StoreHas d s → (t : Store) → AgreeOn (uses_of_left a).reads s t → AlikeIn SingleTurn a b s s' t
  single_alike (single_turn xs x g) h k t m =
      let y = steps_alike xs h k t m in
      let p = steps_kept d xs h k in
      let z = step_alike x p.typed y.store (agree_on p m y.same) in
      record { store = z.store; goes = single_turn y.goes z.goes g; same = λ c e. z.same c (y.same c e) }

  pub turn_alike : {q : ℕ} {a b : Left} {s s' : Store} → Turn q a s b s' → LeftHas d a → StoreHas d s → (t : Store) → AgreeOn (uses_of_left a).reads s t → AlikeIn (Turn q) a b s s' t
  turn_alike (stops x g) h k t m = let y = single_alike x h k t m in record { store = y.store; goes = stops y.goes g; same = y.same }
  turn_alike (passes x g r) h k t m =
      let y = single_alike x h k t m in
      let p = single_kept d x h k in
      let z = turn_alike r p.typed p.typed_store y.store (agree_on p m y.same) in
      record { store = z.store; goes = passes y.goes g z.goes; same = λ c e. z.same c (y.same c e) }

  pub part_kept : {q : ℕ} {a b : Left} {s s' : Store} → PartTurn q a s b s' → LeftHas d a → StoreHas d s → Kept d a b s s'
  part_kept (within xs) h k = steps_kept d xs h k
  part_kept (to_stop xs x g) h k = let y = steps_kept d xs h k in kept_again d y (step_kept d x y.typed y.typed_store)
  part_kept (past x g r) h k = let y = single_kept d x h k in kept_again d y (part_kept r y.typed y.typed_store)

  pub part_alike : {q : ℕ} {a b : Left} {s s' : Store} → PartTurn q a s b s' → LeftHas d a → StoreHas d s → (t : Store) → AgreeOn (uses_of_left a).reads s t → AlikeIn (PartTurn q) a b s s' t
  part_alike (within xs) h k t m = let y = steps_alike xs h k t m in record { store = y.store; goes = within y.goes; same = y.same }
  part_alike (to_stop xs x g) h k t m =
      let y = steps_alike xs h k t m in
      let p = steps_kept d xs h k in
      let z = step_alike x p.typed y.store (agree_on p m y.same) in
      record { store = z.store; goes = to_stop y.goes z.goes g; same = λ c e. z.same c (y.same c e) }
  part_alike (past x g r) h k t m =
      let y = single_alike x h k t m in
      let p = single_kept d x h k in
      let z = part_alike r p.typed p.typed_store y.store (agree_on p m y.same) in
      record { store = z.store; goes = past y.goes g z.goes; same = λ c e. z.same c (y.same c e) }

  -- ---- moves of one process

  -- what rests on its reads and changes only what it writes
  pub record IsMove (R : Left → Store → Left → Store → Type 0) : Type 0 where
    pub only : {a b : Left} {s s' : Store} → R a s b s' → LeftHas d a → StoreHas d s → ChangesOnly (uses_of_left a).writes s s'
    pub alike : {a b : Left} {s s' : Store} → R a s b s' → LeftHas d a → StoreHas d s → (t : Store) → AgreeOn (uses_of_left a).reads s t → AlikeIn R a b s s' t
    pub typed : {a b : Left} {s s' : Store} → R a s b s' → LeftHas d a → StoreHas d s → StoreHas d s'

  abbrev pub LivePart : ℕ → Left → Store → Left → Store → Type 0
  LivePart q a s b s' = PartTurn q a s b s' × IsTrue (is_live (status b))

  pub part_moves : (q : ℕ) → IsMove (LivePart q)
  part_moves q = record {
    only = λ x h k. (part_kept x.0 h k).only;
    alike = λ x h k t m. let y = part_alike x.0 h k t m in record { store = y.store; goes = (y.goes, x.1); same = y.same };
    typed = λ x h k. (part_kept x.0 h k).typed_store;
  }

  pub turn_moves : (q : ℕ) → IsMove (Turn q)
  turn_moves q = record { only = λ x h k. (turn_kept d x h k).only; alike = λ x h k t m. turn_alike x h k t m; typed = λ x h k. (turn_kept d x h k).typed_store }

  pub step_moves : IsMove Step
  step_moves = record { only = λ x h k. (step_kept d x h k).only; alike = λ x h k t m. step_alike x h t m; typed = λ x h k. (step_kept d x h k).typed_store }

  -- a change that sets nothing
  abbrev pub Sets_none : (Left → Left → Type 0) → Left → Store → Left → Store → Type 0
  Sets_none R a s b s' = R a b × (s' ≡ s)

  pub change_moves : (R : Left → Left → Type 0) → IsMove (Sets_none R)
  change_moves R = record { only = λ x h k c n. ap (λ z. z c) x.1; alike = λ x h k t m. record { store = t; goes = (x.0, refl); same = λ c e. ap (λ z. z c) x.1 ∙ e }; typed = λ x h k. subst (λ z. StoreHas d z) (sym x.1) k }

pub record Move (R : Left → Store → Left → Store → Type 0) (kids : Left → Processes) (n : ℕ) (rest : Left) (p : Process) (s : Store) (p' : Process) (s' : Store) : Type 0 where
  pub own : Left
  pub branches : Processes
  pub at : At n own branches p
  pub from : Left
  pub goes : GoesFrom own branches from
  pub by : R from s rest s'
  pub is : p' ≡ put at rest (kids rest)

abbrev pub no_kids : Left → Processes
no_kids l = no_processes

-- ---- what is known of the processes of a tree

module _ (d : Declared) (procs : List Numbered) where
  pub record Fit (n : ℕ) (own : Left) : Type 0 where
    pub term : Term
    pub entry : slice_get procs n ≡ Some (numbered n term)
    pub typed : LeftHas d own
    pub uses : IsPartOf (uses_of_left own) (uses_of term)
    pub deaf : (c : ℕ) → IsTrue ((uses_of term).ins c) → (c ≡ 1 → ⊥) × (c ≡ 2 → ⊥)

  pub record Facts (p : Process) (s : Store) : Type 0 where
    pub fit : (n : ℕ) (own : Left) (ps : Processes) → At n own ps p → Fit n own
    pub apart : (n m : ℕ) (t u : Term) → slice_get procs n ≡ Some (numbered n t) → slice_get procs m ≡ Some (numbered m u) → Both n m p → CellsApart (uses_of t) (uses_of u)
    pub typed_store : StoreHas d s
    pub beside_once : (n : ℕ) → Both n n p → ⊥
    pub inside_once : (n : ℕ) (own : Left) (ps : Processes) → At n own ps p → InAmong n ps → ⊥

  pub from_fit : {n : ℕ} {own from : Left} {ps : Processes} → GoesFrom own ps from → Fit n own → Fit n from
  from_fit alone h = h
  from_fit (joined {bs = bs} {k = k} e) h =
      let whole = uses_of_left (left (Forking bs) k) in
      record {
        term = h.term;
        entry = h.entry;
        typed = (tt, h.typed.1);
        uses = part_of_part (uses_of_left (left (Do Skip) k)) whole (uses_of h.term) (both_parts (uses_of Skip) (uses_of_contexts k) whole (no_part whole) (right_part (uses_of_branches bs) (uses_of_contexts k) whole (whole_part whole))) h.uses;
        deaf = h.deaf;
      }

  module _ (q : ℕ) where
    abbrev pub Part : ℕ → Left → Process → Store → Process → Store → Type 0
    Part n rest p s p' s' = Move (LivePart d q) no_kids n rest p s p' s'

    part_fit : {n : ℕ} {rest : Left} {p p' : Process} {s s' : Store} → Facts p s → (f : Part n rest p s p' s') → Kept d f.from rest s s'
    part_fit x f = part_kept d f.by.0 (from_fit f.goes (x.fit _ f.own f.branches f.at)).typed x.typed_store

    -- the same is known after a change of one process
    pub facts_put : {n : ℕ} {own : Left} {ps : Processes} {p : Process} {s : Store} → Facts p s → (y : At n own ps p) → (rest : Left) → Fit n rest → (s' : Store) → StoreHas d s' → Facts (put y rest no_processes) s'
    facts_put {n = n} {p = p} x y rest mine s' k =
        record {
          fit = λ i own ps w. by i own (own_back rest y w);
          apart = λ i j t u e g b. x.apart i j t u e g (both_back rest y b.x b.y b.apart);
          typed_store = k;
          beside_once = λ i b. x.beside_once i (both_back rest y b.x b.y b.apart);
          inside_once = λ i own ps v w. let z = inside_back rest y v w.at in x.inside_once i z.own z.branches z.at z.inside;
        }
      where
        by : (i : ℕ) (own : Left) → ((i ≡ n) × (own ≡ rest)) ⊎ Was i n own rest p → Fit i own
        by i own (inl e) = subst (λ z. Fit z own) (sym e.0) (subst (λ z. Fit n z) (sym e.1) mine)
        by i own (inr w) = x.fit i own w.branches w.at

    -- after the beginning of a turn
    pub facts_after : {n : ℕ} {rest : Left} {p p' : Process} {s s' : Store} → Facts p s → Part n rest p s p' s' → Facts p' s'
    facts_after {n = n} {rest = rest} {p = p} {s = s} {s' = s'} x f =
        let k : Kept d f.from rest s s' = part_fit x f in
        let mine : Fit n f.from = from_fit f.goes (x.fit n f.own f.branches f.at) in
        subst (λ z. Facts z s') (sym f.is) (facts_put x f.at rest (record { term = mine.term; entry = mine.entry; typed = k.typed; uses = part_of_part (uses_of_left rest) (uses_of_left f.from) (uses_of mine.term) k.uses mine.uses; deaf = mine.deaf }) s' k.typed_store)

    -- after a change that sets nothing
    pub facts_changed : {R : Left → Left → Type 0} {n : ℕ} {rest : Left} {p p' : Process} {s s' : Store} → Facts p s → (f : Move (Sets_none d R) no_kids n rest p s p' s') → Fit n rest → Facts p' s'
    facts_changed {s' = s'} x f h = subst (λ z. Facts z s') (sym f.is) (facts_put x f.at _ h s' (subst (StoreHas d) (sym f.by.1) x.typed_store))

    not_inside : {m : ℕ} {own from rest : Left} {ps : Processes} → GoesFrom own ps from → IsFalse (is_ended (status rest)) → Among m rest no_processes ps → ⊥
    not_inside alone g z = elim z [ ]
    not_inside (joined e) g z = true≢false (sym (ended_inside z e) ∙ g)

    -- ---- two moves in the other order

    pub record Swapped (R : Left → Store → Left → Store → Type 0) (kids : Left → Processes) (m n : ℕ) (left_by rest : Left) (p : Process) (s : Store) (p' : Process) (s' : Store) : Type 0 where
      pub between : Process
      pub store : Store
      pub one : Move R kids n rest p s between store
      pub two : Part m left_by between store p' s'

    module _ {R : Left → Store → Left → Store → Type 0} (moves : IsMove d R) (kids : Left → Processes) {m n : ℕ} {left_by rest : Left} {p p1 p2 : Process} {s s1 s2 : Store} (x : Facts p s) (f : Part m left_by p s p1 s1) (g : Move R kids n rest p1 s1 p2 s2) (other : n ≡ m → ⊥) where
      abbrev h : Move R kids n rest (put f.at left_by no_processes) s1 p2 s2
      h = subst (λ z. Move R kids n rest z s1 p2 s2) f.is g

      a : Across left_by f.at h.at
      a = across left_by f.at h.at other (not_inside h.goes (live_unended (status left_by) f.by.1))

      ff : Fit m f.from
      ff = from_fit f.goes (x.fit m f.own f.branches f.at)

      fx : Fit n h.from
      fx = from_fit h.goes (x.fit n h.own h.branches a.place)

      cells : CellsApart (uses_of ff.term) (uses_of fx.term)
      cells = x.apart m n ff.term fx.term ff.entry fx.entry (record { one = _; two = _; ones = _; twos = _; x = f.at; y = a.place; apart = a.apart })

      k : Kept d f.from left_by s s1
      k = part_fit x f

      reads_used : (u : Uses) (c : ℕ) → IsTrue (u.reads c) → IsTrue (used_by u c)
      reads_used u c r = or_left (u.reads c) (u.writes c) r

      writes_used : (u : Uses) (c : ℕ) → IsTrue (u.writes c) → IsTrue (used_by u c)
      writes_used u c r = or_right (u.reads c) (u.writes c) r

      ax : AlikeIn R h.from rest s1 s2 s
      ax = moves.alike h.by fx.typed k.typed_store s (λ c r. k.only c (λ w. cells.one c (ff.uses.writes c w) (reads_used (uses_of fx.term) c (fx.uses.reads c r))))

      only_x : ChangesOnly (uses_of_left h.from).writes s ax.store
      only_x = moves.only ax.goes fx.typed x.typed_store

      only_x1 : ChangesOnly (uses_of_left h.from).writes s1 s2
      only_x1 = moves.only h.by fx.typed k.typed_store

      af : AlikeIn (LivePart d q) f.from left_by s s1 ax.store
      af = (part_moves d q).alike f.by ff.typed x.typed_store ax.store (λ c r. sym (only_x c (λ w. cells.two c (fx.uses.writes c w) (reads_used (uses_of ff.term) c (ff.uses.reads c r)))))

      -- the store then is the same, cell by cell
      cell : (c : ℕ) → af.store c ≡ s2 c
      cell c = by ((uses_of fx.term).writes c) refl
        where
          by : (b : Bool) → (uses_of fx.term).writes c ≡ b → af.store c ≡ s2 c
          by true e =
              let out : IsTrue ((uses_of_left f.from).writes c) → ⊥ = (λ w. cells.two c e (writes_used (uses_of ff.term) c (ff.uses.writes c w))) in
              (part_moves d q).only af.goes ff.typed (moves.typed ax.goes fx.typed x.typed_store) c out ∙ sym (ax.same c (k.only c out))
          by false e =
              let out : IsTrue ((uses_of_left h.from).writes c) → ⊥ = (λ w. true≢false (sym (fx.uses.writes c w) ∙ e)) in
              sym (af.same c (sym (only_x c out))) ∙ sym (only_x1 c out)

      pub swapped : Swapped R kids m n left_by rest p s p2 s2
      swapped =
          let z = a.again rest (kids rest) in
          record {
            between = put a.place rest (kids rest);
            store = ax.store;
            one = record { own = h.own; branches = h.branches; at = a.place; from = h.from; goes = h.goes; by = ax.goes; is = refl };
            two = record { own = f.own; branches = f.branches; at = z.x; from = f.from; goes = f.goes; by = subst (λ w. LivePart d q f.from ax.store left_by w) (fun_ext cell) af.goes; is = h.is ∙ sym z.same };
          }
