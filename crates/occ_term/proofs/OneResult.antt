-- A step, a turn and an ending are one.
use Rattle.std.proofs.Common.{List, ℕ, Bool, [], ◌∷◌, refl, IsTrue, IsFalse, ◌≡◌, sym, subst, inl, inr, suc}
use Rattle.occ_term.specs.declared.fault.Errors.{Errors}
use Rattle.occ_term.specs.declared.fault.Errors.TheVariants as on_fault
use Rattle.occ_term.specs.Messages.{Fault}
use Rattle.occ_term.specs.Values.{Store}
use Rattle.occ_term.specs.Steps.{Left, Doing, Step, FaultsIn, in_assign, in_local, in_output, in_input, in_variant, in_alt, in_take, in_if, in_case, in_each, in_loop, status, is_running, is_looping, ends, stop, assign, clear, local, output, input, variant, alt, take_in, seq_empty, seq, drops, par_empty, par, if_step, case, while, each, passes_again, leaves, body_ends, again, faults}
use Rattle.occ_term.specs.Turns.{Steps, none, more, SingleTurn, single_turn, Turn, stops, passes}
use Rattle.occ_term.specs.OneResult.{OneStep, OneEnding, OneTurn}
use Rattle.occ_term.specs.System.{MayGo, System, noted_in}
use Rattle.occ_term.specs.Runs.{by_end, by_fault, by_standing, goes_on}

one_fault : {d : Doing} {s s' s'' : Store} {e e' : Fault} → FaultsIn d s e s' → FaultsIn d s e' s'' → (e ≡ e') × (s' ≡ s'')
one_fault (in_assign p) (in_assign q) = (cc, cc)
one_fault (in_local p) (in_local q) = (cc, cc)
one_fault (in_output p) (in_output q) = (cc, cc)
one_fault (in_input p) (in_input q) = (cc, cc)
one_fault (in_variant p) (in_variant q) = (cc, cc)
one_fault (in_alt p) (in_alt q) = (cc, cc)
one_fault (in_take p) (in_take q) = (cc, cc)
one_fault (in_if p) (in_if q) = (cc, cc)
one_fault (in_case p) (in_case q) = (cc, cc)
one_fault (in_each p) (in_each q) = (cc, cc)
one_fault (in_loop p) (in_loop q) = (cc, cc)

one : {a b c : Left} {s s' s'' : Store} → Step a s b s' → Step a s c s'' → (b ≡ c) × (s' ≡ s'')
one ends ends = (refl, refl)
one stop stop = (refl, refl)
one (assign p) (assign q) = (cc, cc)
one (clear p) (clear q) = (cc, cc)
one (local p) (local q) = (cc, cc)
one (output p) (output q) = (cc, cc)
one (input p) (input q) = (cc, cc)
one (variant p) (variant q) = (cc, cc)
one (alt p) (alt q) = (cc, cc)
one (take_in p) (take_in q) = (cc, cc)
one seq_empty seq_empty = (refl, refl)
one seq seq = (refl, refl)
one drops drops = (refl, refl)
one par_empty par_empty = (refl, refl)
one par par = (refl, refl)
one (if_step p) (if_step q) = (cc, cc)
one (case p) (case q) = (cc, cc)
one while while = (refl, refl)
one (each p) (each q) = (cc, cc)
one (passes_again p) (passes_again q) = (cc, cc)
one (leaves p) (leaves q) = (cc, cc)
one body_ends body_ends = (refl, refl)
one again again = (refl, refl)
one (faults p) (faults q) = let h = one_fault p q in (cc, h.1)
one (assign p) (faults (in_assign q)) = cc
one (faults (in_assign q)) (assign p) = cc
one (local p) (faults (in_local q)) = cc
one (faults (in_local q)) (local p) = cc
one (output p) (faults (in_output q)) = cc
one (faults (in_output q)) (output p) = cc
one (input p) (faults (in_input q)) = cc
one (faults (in_input q)) (input p) = cc
one (variant p) (faults (in_variant q)) = cc
one (faults (in_variant q)) (variant p) = cc
one (alt p) (faults (in_alt q)) = cc
one (faults (in_alt q)) (alt p) = cc
one (take_in p) (faults (in_take q)) = cc
one (faults (in_take q)) (take_in p) = cc
one (if_step p) (faults (in_if q)) = cc
one (faults (in_if q)) (if_step p) = cc
one (case p) (faults (in_case q)) = cc
one (faults (in_case q)) (case p) = cc
one (each p) (faults (in_each q)) = cc
one (faults (in_each q)) (each p) = cc
one (passes_again p) (faults (in_loop q)) = cc
one (faults (in_loop q)) (passes_again p) = cc
one (leaves p) (faults (in_loop q)) = cc
one (faults (in_loop q)) (leaves p) = cc
one (passes_again p) (leaves q) = cc
one (leaves p) (passes_again q) = cc
one ends (faults q) = elim q [ ]
one (faults q) ends = elim q [ ]
one stop (faults q) = elim q [ ]
one (faults q) stop = elim q [ ]
one (clear h) (faults q) = elim q [ ]
one (faults q) (clear h) = elim q [ ]
one seq_empty (faults q) = elim q [ ]
one (faults q) seq_empty = elim q [ ]
one seq (faults q) = elim q [ ]
one (faults q) seq = elim q [ ]
one drops (faults q) = elim q [ ]
one (faults q) drops = elim q [ ]
one par_empty (faults q) = elim q [ ]
one (faults q) par_empty = elim q [ ]
one par (faults q) = elim q [ ]
one (faults q) par = elim q [ ]
one while (faults q) = elim q [ ]
one (faults q) while = elim q [ ]
one body_ends (faults q) = elim q [ ]
one (faults q) body_ends = elim q [ ]
one again (faults q) = elim q [ ]
one (faults q) again = elim q [ ]

pub one_step : OneStep
one_step a b c s s' s'' x y = one x y

-- a noted fault that ends the run leaves no other ending
no_other : {errors : Errors} {e : Fault} {es : List Fault} (a : System) → errors ≡ on_fault.Halt → noted_in a ≡ e ∷ es → MayGo errors (noted_in a) → ⊥
no_other a h p g = let nothing_noted : noted_in a ≡ [] = subst (λ m. MayGo m (noted_in a)) h g in cc

pub one_ending : OneEnding
one_ending errors a x y (by_fault h p) (by_fault h' q) = cc
one_ending errors a x y (by_fault h p) (by_end g q) = absurd (no_other a h p g)
one_ending errors a x y (by_fault h p) (by_standing g q r) = absurd (no_other a h p g)
one_ending errors a x y (by_fault h p) (goes_on g q r) = absurd (no_other a h p g)
one_ending errors a x y (by_end g q) (by_fault h p) = absurd (no_other a h p g)
one_ending errors a x y (by_end g q) (by_end g' q') = refl
one_ending errors a x y (by_end g q) (by_standing g' q' r) = cc
one_ending errors a x y (by_end g q) (goes_on g' q' r) = cc
one_ending errors a x y (by_standing g q r) (by_fault h p) = absurd (no_other a h p g)
one_ending errors a x y (by_standing g q r) (by_end g' q') = cc
one_ending errors a x y (by_standing g q r) (by_standing g' q' r') = refl
one_ending errors a x y (by_standing g q r) (goes_on g' q' r') = absurd (r r')
one_ending errors a x y (goes_on g q r) (by_fault h p) = absurd (no_other a h p g)
one_ending errors a x y (goes_on g q r) (by_end g' q') = cc
one_ending errors a x y (goes_on g q r) (by_standing g' q' r') = absurd (r' r)
one_ending errors a x y (goes_on g q r) (goes_on g' q' r') = refl

no_zero : {q : ℕ} {a b : Left} {s s' : Store} → q ≡ 0 → Turn q a s b s' → ⊥
no_zero p (stops x g) = cc
no_zero p (passes x g r) = cc

-- what two halves of a proof say of one status
neither : {b : Bool} → IsTrue b → IsFalse b → ⊥
neither p q = cc

runs_not : {a b : Left} → a ≡ b → IsTrue (is_running (status a)) → IsFalse (is_running (status b)) → ⊥
runs_not p h g = neither (subst (λ x. IsTrue (is_running (status x))) p h) g

loops_not : {a b : Left} → a ≡ b → IsTrue (is_looping (status a)) → IsFalse (is_looping (status b)) → ⊥
loops_not p h g = neither (subst (λ x. IsTrue (is_looping (status x))) p h) g

-- steps to a stop, from one place
stop_is_one : {a b c b' c' : Left} {s s' s'' t' t'' : Store} → Steps a s b s' → Step b s' c s'' → IsFalse (is_running (status c)) → Steps a s b' t' → Step b' t' c' t'' → IsFalse (is_running (status c')) → (c ≡ c') × (s'' ≡ t'')
stop_is_one none x g none y h = one x y
stop_is_one none x g (more y r ys) z h = absurd (runs_not (sym (one x y).0) r g)
stop_is_one (more x r xs) z g none y h = absurd (runs_not (one x y).0 r h)
stop_is_one {b' = b'} {c' = c'} {t' = t'} {t'' = t''} (more {b = m} {s' = u} x r xs) z g (more {b = n} {s' = v} y q ys) w h =
    let same : (m ≡ n) × (u ≡ v) = one x y in
    let there : Steps m u b' t' = subst (λ l. Steps l u b' t') (sym same.0) (subst (λ l. Steps n l b' t') (sym same.1) ys) in
    stop_is_one xs z g there w h

single_is_one : {a b c : Left} {s s' s'' : Store} → SingleTurn a s b s' → SingleTurn a s c s'' → (b ≡ c) × (s' ≡ s'')
single_is_one (single_turn xs x g) (single_turn ys y h) = stop_is_one xs x g ys y h

turn_is_one : {q : ℕ} {a b c : Left} {s s' s'' : Store} → Turn q a s b s' → Turn q a s c s'' → (b ≡ c) × (s' ≡ s'')
turn_is_one (stops x g) (stops y h) = single_is_one x y
turn_is_one (stops x (inl g)) (passes y h r) = absurd (no_zero g r)
turn_is_one (stops x (inr g)) (passes y h r) = absurd (loops_not (sym (single_is_one x y).0) h g)
turn_is_one (passes y h r) (stops x (inl g)) = absurd (no_zero g r)
turn_is_one (passes y h r) (stops x (inr g)) = absurd (loops_not (single_is_one y x).0 h g)
turn_is_one {q = suc q} {c = c} {s'' = s''} (passes {b = m} {s' = u} x g r) (passes {b = n} {s' = v} y h w) =
    let same : (m ≡ n) × (u ≡ v) = single_is_one x y in
    let there : Turn q m u c s'' = subst (λ l. Turn q l u c s'') (sym same.0) (subst (λ l. Turn q n l c s'') (sym same.1) w) in
    turn_is_one r there

pub one_turn : OneTurn
one_turn q a b c s s' s'' x y = turn_is_one x y
