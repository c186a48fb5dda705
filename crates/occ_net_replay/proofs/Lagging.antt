-- Several processes are ahead of a run by the beginnings of their turns.
use Rattle.std.proofs.Common.{◌≡◌, refl, sym, ap, subst, IsTrue, IsFalse, ℕ, zero, suc, ◌⊎◌, inl, inr, List, [], ◌∷◌, length}
use Rattle.std.specs.Bool.{⊤}
use mathlib.Core.Bool.{true≢false}
use Rattle.occ_term.specs.Processes.{Numbered}
use Rattle.occ_term.specs.Steps.{Left, Status, Runs, Loops, Offers, Awaits, Chooses, Forks, IsHalted, FailsBy, HasEnded, status, is_running, is_looping, Step, faults, Do, Passing, Again, Offering, Awaiting, Choosing, Taking, Forking, Halted, Faulted, Done, Context, left, Doing, status_of}
use Rattle.occ_term.specs.System.{Process, Processes}
use Rattle.occ_term.specs.TermTyping.{Declared}
use Rattle.occ_term.specs.Turns.{Steps, none, more, single_turn, Turn, stops, passes}
use Rattle.occ_term.specs.Values.{Store}
use Rattle.occ_net_replay.proofs.Parts.{is_comm, is_live, PartTurn, within, to_stop, past, IsMove, part_moves, Move, no_kids, Facts, Part, facts_after, swapped}
use Rattle.occ_net_replay.proofs.Tables.{same_or_not}

abbrev pub NotIn : ℕ → List ℕ → Type 0
NotIn n [] = ⊤
NotIn n (m ∷ ms) = (n ≡ m → ⊥) × NotIn n ms

abbrev pub Distinct : List ℕ → Type 0
Distinct [] = ⊤
Distinct (n ∷ ns) = NotIn n ns × Distinct ns

-- ---- one step more of the beginning of a turn

steps_on : {a b c : Left} {s s' s'' : Store} → Steps a s b s' → Step b s' c s'' → IsTrue (is_running (status c)) → Steps a s c s''
steps_on none x g = more x g none
steps_on (more y h xs) x g = more y h (steps_on xs x g)

stops_there : (x : Doing) {k : List Context} {b : Left} {s s' : Store} → Step (left x k) s b s' → IsTrue (is_comm (status_of x)) → ⊥
stops_there (Do t) y h = true≢false (sym h)
stops_there (Passing l) y h = true≢false (sym h)
stops_there (Again l) y h = true≢false (sym h)
stops_there (Offering c m) (faults z) h = elim z [ ]
stops_there (Awaiting c list) (faults z) h = elim z [ ]
stops_there (Choosing pri es) (faults z) h = elim z [ ]
stops_there (Taking xs what) y h = true≢false (sym h)
stops_there (Forking bs) y h = true≢false (sym h)
stops_there Halted y h = true≢false (sym h)
stops_there (Faulted e) y h = true≢false (sym h)
stops_there Done y h = true≢false (sym h)

pub no_step_at : (a : Left) {b : Left} {s s' : Store} → Step a s b s' → IsTrue (is_comm (status a)) → ⊥
no_step_at (left x k) y h = stops_there x y h

-- the turn is longer, or has come to its end, which is no communication
pub data Extended (q : ℕ) (a : Left) (s : Store) (c : Left) (s' : Store) : Type 0 where
  longer : PartTurn q a s c s' → IsTrue (is_live (status c)) → Extended q a s c s'
  whole : Turn q a s c s' → IsFalse (is_comm (status c)) → Extended q a s c s'

by_status : {q : ℕ} {a b c : Left} {s s' s'' : Store} → Steps a s b s' → Step b s' c s'' → (st : Status) → status c ≡ st → Extended (suc q) a s c s''
by_status xs x Runs e = longer (within (steps_on xs x (ap is_running e))) (ap is_live e)
by_status {q = zero} xs x Loops e = whole (stops (single_turn xs x (ap is_running e)) (inl refl)) (ap is_comm e)
by_status {q = suc q} xs x Loops e = longer (past (single_turn xs x (ap is_running e)) (ap is_looping e) (within none)) (ap is_live e)
by_status xs x (Offers c m) e = longer (to_stop xs x (ap is_comm e)) (ap is_live e)
by_status xs x (Awaits c) e = longer (to_stop xs x (ap is_comm e)) (ap is_live e)
by_status xs x (Chooses pri arms) e = longer (to_stop xs x (ap is_comm e)) (ap is_live e)
by_status xs x (Forks bs) e = whole (stops (single_turn xs x (ap is_running e)) (inr (ap is_looping e))) (ap is_comm e)
by_status xs x IsHalted e = whole (stops (single_turn xs x (ap is_running e)) (inr (ap is_looping e))) (ap is_comm e)
by_status xs x (FailsBy f) e = whole (stops (single_turn xs x (ap is_running e)) (inr (ap is_looping e))) (ap is_comm e)
by_status xs x HasEnded e = whole (stops (single_turn xs x (ap is_running e)) (inr (ap is_looping e))) (ap is_comm e)

pub extended : {q : ℕ} {a b c : Left} {s s' s'' : Store} → PartTurn q a s b s' → Step b s' c s'' → Extended q a s c s''
extended {c = c} (within xs) x = by_status xs x (status c) refl
extended {b = b} (to_stop xs y g) x = absurd (no_step_at b x g)
extended {q = suc q} {a = a} {c = c} {s = s} {s'' = s''} (past {b = b} {s' = m} y g r) x = by (extended r x)
  where
    by : Extended q b m c s'' → Extended (suc q) a s c s''
    by (longer z h) = longer (past y g z) h
    by (whole z h) = whole (passes y g z) h

module _ (d : Declared) (procs : List Numbered) (q : ℕ) where
  pub data Ahead : List ℕ → Process → Store → Process → Store → Type 0 where
    level : {p : Process} {s : Store} → Ahead [] p s p s
    ahead : {n : ℕ} {rest : Left} {ns : List ℕ} {p p1 p' : Process} {s s1 s' : Store} → Part d procs q n rest p s p1 s1 → Ahead ns p1 s1 p' s' → Ahead (n ∷ ns) p s p' s'

  pub record Pushed (R : Left → Store → Left → Store → Type 0) (kids : Left → Processes) (n : ℕ) (by : Left) (ns : List ℕ) (p : Process) (s : Store) (p' : Process) (s' : Store) : Type 0 where
    pub between : Process
    pub store : Store
    pub one : Move R kids n by p s between store
    pub rest : Ahead ns between store p' s'

  -- a move of a process that is not ahead may be made before what the others are ahead by
  pub pushed : {R : Left → Store → Left → Store → Type 0} → IsMove d R → (kids : Left → Processes) → {n : ℕ} {by : Left} {ns : List ℕ} {p p' p'' : Process} {s s' s'' : Store} → Facts d procs p s → Ahead ns p s p' s' → Move R kids n by p' s' p'' s'' → NotIn n ns → Pushed R kids n by ns p s p'' s''
  pushed moves kids x level g h = record { between = _; store = _; one = g; rest = level }
  pushed moves kids x (ahead f r) g h =
      let y = pushed moves kids (facts_after d procs q x f) r g h.1 in
      let z = swapped d procs q moves kids x f y.one h.0 in
      record { between = z.between; store = z.store; one = z.one; rest = ahead z.two y.rest }

  pub record Brought (n : ℕ) (ns : List ℕ) (p : Process) (s : Store) (p' : Process) (s' : Store) : Type 0 where
    pub others : List ℕ
    pub between : Process
    pub store : Store
    pub end : Left
    pub one : Part d procs q n end p s between store
    pub rest : Ahead others between store p' s'
    pub none : NotIn n others
    pub distinct : Distinct others
    pub fewer : (m : ℕ) → NotIn m ns → NotIn m others
    pub many : length ns ≡ suc (length others)
    pub was : NotIn n ns → ⊥

  -- what a process is ahead by may be taken first
  pub brought : (n : ℕ) {ns : List ℕ} {p p' : Process} {s s' : Store} → Facts d procs p s → Ahead ns p s p' s' → Distinct ns → Brought n ns p s p' s' ⊎ NotIn n ns
  brought n x level h = inr tt
  brought n {p = p} {p' = p'} {s = s} {s' = s'} x (ahead {n = m} {rest = by_now} {ns = ns} {p1 = p1} {s1 = s1} f r) h = by (same_or_not n m) (brought n (facts_after d procs q x f) r h.1)
    where
      apart : (n ≡ m → ⊥) → Brought n ns p1 s1 p' s' ⊎ NotIn n ns → Brought n (m ∷ ns) p s p' s' ⊎ NotIn n (m ∷ ns)
      apart u (inl b) =
          let z = swapped d procs q (part_moves d q) no_kids x f b.one u in
          inl (record {
            others = m ∷ b.others;
            between = z.between;
            store = z.store;
            end = b.end;
            one = z.one;
            rest = ahead z.two b.rest;
            none = (u, b.none);
            distinct = (b.fewer m h.0, b.distinct);
            fewer = λ i k. (k.0, b.fewer i k.1);
            many = ap suc b.many;
            was = λ k. b.was k.1;
          })
      apart u (inr k) = inr (u, k)

      by : (n ≡ m) ⊎ (n ≡ m → ⊥) → Brought n ns p1 s1 p' s' ⊎ NotIn n ns → Brought n (m ∷ ns) p s p' s' ⊎ NotIn n (m ∷ ns)
      by (inl e) w =
          inl (record {
            others = ns;
            between = p1;
            store = s1;
            end = by_now;
            one = subst (λ z. Part d procs q z by_now p s p1 s1) (sym e) f;
            rest = r;
            none = subst (λ z. NotIn z ns) (sym e) h.0;
            distinct = h.1;
            fewer = λ i k. k.1;
            many = refl;
            was = λ k. k.0 e;
          })
      by (inr u) w = apart u w
