-- A run that has ended has noted no fault: a process that faulted stands where it is, and each process above it stands at its fork.
use Rattle.std.proofs.Common.{◌≡◌, ◌∙◌, refl, sym, ap, Bool, IsTrue, ℕ, ◌⊎◌, inl, inr, List, [], ◌∷◌, ◌++◌}
use Rattle.std.specs.Bool.{⊤}
use mathlib.Core.Bool.{true≢false}
use Rattle.occ_term.specs.declared.fault.Errors.{Errors}
use Rattle.occ_term.specs.declared.fault.Fault.{Fault}
use Rattle.occ_term.specs.declared.message.Message.{Message}
use Rattle.occ_term.specs.declared.ending.Ending.{Ending}
use Rattle.occ_term.specs.declared.ending.Ending.TheVariants.{Ended}
use Rattle.occ_term.specs.Runs.{EndsBy, by_fault, by_end, by_standing, goes_on, Event, Run, no_turn, goes, MeetsAtMost, meets_none, meets_one, meets_skip, main_ended, still_by}
use Rattle.occ_term.specs.Steps.{Do, Passing, Again, Offering, Awaiting, Choosing, Taking, Forking, Halted, Faulted, Done, Context, Left, left, Status, status, is_ended, Step, faults}
use Rattle.occ_term.specs.declared.communication.Communication.{Communication}
use Rattle.occ_term.specs.declared.communication.End.{End}
use Rattle.occ_term.specs.System.{Process, process, Processes, no_processes, and_process, System, system, start, noted_in, branches_of, begun, fault_noted, AllEnded, alone, joined, TurnIn, turn_here, turn_below, TurnAmong, turn_first, turn_later, SystemTurn, system_turn, ChangeIn, change_here, change_below, ChangeAmong, change_first, change_later, Sends, process_sends, keyboard_sends, Receives, process_receives, screen_receives, error_receives, Meets, meets, PassesSkip, passes_skip}
use Rattle.occ_term.specs.Terms.{Term, Branches, no_branches, and_branch}
use Rattle.occ_term.specs.Turns.{none, more, SingleTurn, single_turn, Turn, stops, passes}
use Rattle.occ_term.specs.Values.{Store}
use Rattle.occ_net_replay.specs.Moments.{main_process}

-- ---- what every system of a run keeps

-- what has branches stands at a fork
abbrev ForksOver : Left → Processes → Type 0
ForksOver a no_processes = ⊤
ForksOver a (and_process q qs) = (bs : Branches) × (k : List Context) × (a ≡ left (Forking bs) k)

abbrev mutual
  AtForks : Process → Type 0
  AtForks (process n a ps) = ForksOver a ps × AllAtForks ps

  AllAtForks : Processes → Type 0
  AllAtForks no_processes = ⊤
  AllAtForks (and_process p ps) = AtForks p × AllAtForks ps

-- a process of the tree has faulted
mutual
  data Fails : Process → Type 0 where
    here : {n : ℕ} {e : Fault} {k : List Context} {ps : Processes} → Fails (process n (left (Faulted e) k) ps)
    below : {n : ℕ} {a : Left} {ps : Processes} → FailsAmong ps → Fails (process n a ps)

  data FailsAmong : Processes → Type 0 where
    first : {p : Process} {ps : Processes} → Fails p → FailsAmong (and_process p ps)
    later : {p : Process} {ps : Processes} → FailsAmong ps → FailsAmong (and_process p ps)

record Keeps (a : System) : Type 0 where
  pub forks : AtForks (main_process a)
  pub fails : (noted_in a ≡ []) ⊎ Fails (main_process a)

-- ---- turns

no_step : {e : Fault} {k : List Context} {s s' : Store} {b : Left} → Step (left (Faulted e) k) s b s' → ⊥
no_step (faults x) = elim x [ ]

no_single : {e : Fault} {k : List Context} {s s' : Store} {b : Left} → SingleTurn (left (Faulted e) k) s b s' → ⊥
no_single (single_turn none x n) = no_step x
no_single (single_turn (more x r y) z n) = no_step x

never_turns : {q : ℕ} {e : Fault} {k : List Context} {s s' : Store} {b : Left} → Turn q (left (Faulted e) k) s b s' → ⊥
never_turns (stops x y) = no_single x
never_turns (passes x y z) = no_single x

none_fails : (ps : Processes) → AllEnded ps → FailsAmong ps → ⊥
none_fails no_processes e f = elim f [ ]
none_fails (and_process (process n a no_processes) ps) e (first here) = true≢false (sym e.0)
none_fails (and_process (process n a no_processes) ps) e (first (below x)) = elim x [ ]
none_fails (and_process (process n a no_processes) ps) e (later x) = none_fails ps e.1 x
none_fails (and_process (process n a (and_process q qs)) ps) e f = absurd e

all_begin : (bs : Branches) → AllAtForks (branches_of bs)
all_begin no_branches = tt
all_begin (and_branch n t bs) = ((tt, tt), all_begin bs)

fork_over : (bs : Branches) (k : List Context) → ForksOver (left (Forking bs) k) (branches_of bs)
fork_over no_branches k = tt
fork_over (and_branch n t bs) k = (and_branch n t bs, k, refl)

begun_at : (n : ℕ) (c : Left) → AtForks (process n c (begun (status c)))
begun_at n (left (Do t) k) = (tt, tt)
begun_at n (left (Passing l) k) = (tt, tt)
begun_at n (left (Again l) k) = (tt, tt)
begun_at n (left (Offering c m) k) = (tt, tt)
begun_at n (left (Awaiting c list) k) = (tt, tt)
begun_at n (left (Choosing pri arms) k) = (tt, tt)
begun_at n (left (Taking xs what) k) = (tt, tt)
begun_at n (left (Forking bs) k) = (fork_over bs k, all_begin bs)
begun_at n (left Halted k) = (tt, tt)
begun_at n (left (Faulted e) k) = (tt, tt)
begun_at n (left Done k) = (tt, tt)

-- what a process notes, it has faulted by
new_here : (n : ℕ) (c : Left) (ps : Processes) → (fault_noted (status c) ≡ []) ⊎ Fails (process n c ps)
new_here n (left (Do t) k) ps = inl refl
new_here n (left (Passing l) k) ps = inl refl
new_here n (left (Again l) k) ps = inl refl
new_here n (left (Offering c m) k) ps = inl refl
new_here n (left (Awaiting c list) k) ps = inl refl
new_here n (left (Choosing pri arms) k) ps = inl refl
new_here n (left (Taking xs what) k) ps = inl refl
new_here n (left (Forking bs) k) ps = inl refl
new_here n (left Halted k) ps = inl refl
new_here n (left (Faulted e) k) ps = inr here
new_here n (left Done k) ps = inl refl

over_turn : {q n : ℕ} {ps ps' : Processes} {s s' : Store} {st : Status} (a : Left) → TurnAmong q n ps s ps' s' st → ForksOver a ps → ForksOver a ps'
over_turn a (turn_first x) h = h
over_turn a (turn_later x) h = h

mutual
  turn_forks : {q n : ℕ} {p p' : Process} {s s' : Store} {st : Status} → TurnIn q n p s p' s' st → AtForks p → AtForks p'
  turn_forks {n = n} (turn_here {c = c} g t) h = begun_at n c
  turn_forks (turn_below {a = a} x) h = (over_turn a x h.0, among_forks x h.1)

  among_forks : {q n : ℕ} {ps ps' : Processes} {s s' : Store} {st : Status} → TurnAmong q n ps s ps' s' st → AllAtForks ps → AllAtForks ps'
  among_forks (turn_first x) h = (turn_forks x h.0, h.1)
  among_forks (turn_later x) h = (h.0, among_forks x h.1)

mutual
  turn_fails : {q n : ℕ} {p p' : Process} {s s' : Store} {st : Status} → TurnIn q n p s p' s' st → Fails p → Fails p'
  turn_fails (turn_here alone t) here = absurd (never_turns t)
  turn_fails (turn_here alone t) (below x) = elim x [ ]
  turn_fails (turn_here (joined e) t) (below x) = absurd (none_fails _ e x)
  turn_fails (turn_below x) here = here
  turn_fails (turn_below x) (below y) = below (among_fails x y)

  among_fails : {q n : ℕ} {ps ps' : Processes} {s s' : Store} {st : Status} → TurnAmong q n ps s ps' s' st → FailsAmong ps → FailsAmong ps'
  among_fails (turn_first x) (first y) = first (turn_fails x y)
  among_fails (turn_first x) (later y) = later y
  among_fails (turn_later x) (first y) = first y
  among_fails (turn_later x) (later y) = later (among_fails x y)

or_in : {A P Q : Type 0} → (P → Q) → A ⊎ P → A ⊎ Q
or_in f (inl e) = inl e
or_in f (inr y) = inr (f y)

mutual
  new_in : {q n : ℕ} {p p' : Process} {s s' : Store} {st : Status} → TurnIn q n p s p' s' st → (fault_noted st ≡ []) ⊎ Fails p'
  new_in {n = n} (turn_here {c = c} g t) = new_here n c (begun (status c))
  new_in (turn_below x) = or_in below (new_among x)

  new_among : {q n : ℕ} {ps ps' : Processes} {s s' : Store} {st : Status} → TurnAmong q n ps s ps' s' st → (fault_noted st ≡ []) ⊎ FailsAmong ps'
  new_among (turn_first x) = or_in first (new_in x)
  new_among (turn_later x) = or_in later (new_among x)

keeps_turn : {errors : Errors} {q n : ℕ} {a b : System} → SystemTurn errors q n a b → Keeps a → Keeps b
keeps_turn (system_turn {p = p} {p' = p'} {noted = noted} {st = st} may t) h = record { forks = turn_forks t h.forks; fails = by h.fails (new_in t) }
  where
    by : (noted ≡ []) ⊎ Fails p → (fault_noted st ≡ []) ⊎ Fails p' → (noted ++ fault_noted st ≡ []) ⊎ Fails p'
    by (inr f) y = inr (turn_fails t f)
    by (inl e) (inl q) = inl (ap (λ l. l ++ fault_noted st) e ∙ q)
    by (inl e) (inr f) = inr f

-- ---- changes of one process

over_change : {R : Left → Left → Type 0} {n : ℕ} {ps ps' : Processes} (a : Left) → ChangeAmong R n ps ps' → ForksOver a ps → ForksOver a ps'
over_change a (change_first x) h = h
over_change a (change_later x) h = h

mutual
  change_forks : {R : Left → Left → Type 0} {n : ℕ} {p p' : Process} → ChangeIn R n p p' → AtForks p → AtForks p'
  change_forks (change_here r) h = (tt, tt)
  change_forks (change_below {a = a} x) h = (over_change a x h.0, changes_forks x h.1)

  changes_forks : {R : Left → Left → Type 0} {n : ℕ} {ps ps' : Processes} → ChangeAmong R n ps ps' → AllAtForks ps → AllAtForks ps'
  changes_forks (change_first x) h = (change_forks x h.0, h.1)
  changes_forks (change_later x) h = (h.0, changes_forks x h.1)

module _ {R : Left → Left → Type 0} (never : (e : Fault) (k : List Context) (b : Left) → R (left (Faulted e) k) b → ⊥) where
  mutual
    change_fails : {n : ℕ} {p p' : Process} → ChangeIn R n p p' → Fails p → Fails p'
    change_fails (change_here r) here = absurd (never _ _ _ r)
    change_fails (change_here r) (below x) = elim x [ ]
    change_fails (change_below x) here = here
    change_fails (change_below x) (below y) = below (changes_fail x y)

    changes_fail : {n : ℕ} {ps ps' : Processes} → ChangeAmong R n ps ps' → FailsAmong ps → FailsAmong ps'
    changes_fail (change_first x) (first y) = first (change_fails x y)
    changes_fail (change_first x) (later y) = later y
    changes_fail (change_later x) (first y) = first y
    changes_fail (change_later x) (later y) = later (changes_fail x y)

  keeps_change : {n : ℕ} {p p' : Process} {noted : List Fault} {kb kb' : List ℕ} {s : Store} → ChangeIn R n p p' → Keeps (system kb p s noted) → Keeps (system kb' p' s noted)
  keeps_change {p = p} {p' = p'} {noted = noted} x h = record { forks = change_forks x h.forks; fails = by h.fails }
    where
      by : (noted ≡ []) ⊎ Fails p → (noted ≡ []) ⊎ Fails p'
      by (inl e) = inl e
      by (inr f) = inr (change_fails x f)

keeps_sent : {c : ℕ} {m : Message} {x : End} {a b : System} → Sends c m x a b → Keeps a → Keeps b
keeps_sent (process_sends f) h = keeps_change (λ e k b r. elim r [ ]) f h
keeps_sent (keyboard_sends z q) h = record { forks = h.forks; fails = h.fails }

keeps_received : {o : ℕ → Bool} {c : ℕ} {m : Message} {x : End} {a b : System} → Receives o c m x a b → Keeps a → Keeps b
keeps_received (process_receives f) h = keeps_change (λ e k b r. elim r [ ]) f h
keeps_received (screen_receives q) h = h
keeps_received (error_receives q) h = h

keeps_met : {a b : System} {x : Communication} → Meets a x b → Keeps a → Keeps b
keeps_met (meets x y) h = keeps_received y (keeps_sent x h)

keeps_skip : {n : ℕ} {a b : System} → PassesSkip n a b → Keeps a → Keeps b
keeps_skip (passes_skip f) h = keeps_change (λ e k b r. elim r [ ]) f h

-- ---- runs

keeps_most : {errors : Errors} {n : ℕ} {a b : System} {x : _} → MeetsAtMost errors n a x b → Keeps a → Keeps b
keeps_most (meets_none g) h = h
keeps_most (meets_one may part x) h = keeps_met x h
keeps_most (meets_skip may x) h = keeps_skip x h

keeps_run : {errors : Errors} {q : ℕ} {a b : System} {es : List Event} → Run errors q a es b → Keeps a → Keeps b
keeps_run no_turn h = h
keeps_run (goes t m r) h = keeps_run r (keeps_most m (keeps_turn t h))

clean : (a : System) → Keeps a → IsTrue (main_ended a) → noted_in a ≡ []
clean (system kb (process n own ps) s noted) h e = by own ps h.forks.0 h.fails e
  where
    by : (own : Left) (ps : Processes) → ForksOver own ps → (noted ≡ []) ⊎ Fails (process n own ps) → IsTrue (is_ended (status own)) → noted ≡ []
    by own ps o (inl q) e = q
    by own ps o (inr here) e = absurd (true≢false (sym e))
    by own no_processes o (inr (below x)) e = elim x [ ]
    by own (and_process q qs) o (inr (below x)) e = absurd (true≢false (sym e ∙ ap (λ z. is_ended (status z)) o.2))

ended_by : {errors : Errors} (a : System) (x : Ending) → Keeps a → EndsBy errors a x → x ≡ Ended → noted_in a ≡ []
ended_by a x h (by_fault m n) e = absurd cc
ended_by a x h (by_end may m) e = clean a h m
ended_by a x h (by_standing may m still) e = by (noted_in a) e
  where
    by : (l : List Fault) → still_by l ≡ Ended → l ≡ []
    by [] q = refl
    by (f ∷ l) q = absurd cc
ended_by a x h (goes_on may m s) e = absurd cc

pub ended_clean : {errors : Errors} {q : ℕ} {t : Term} {kb : List ℕ} {es : List Event} {a : System} → Run errors q (start t kb) es a → EndsBy errors a Ended → noted_in a ≡ []
ended_clean {a = a} r x = ended_by a Ended (keeps_run r (record { forks = (tt, tt); fails = inl refl })) x refl
