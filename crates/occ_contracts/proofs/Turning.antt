-- A turn leads to one task.
use Rattle.std.proofs.Common.{◌≡◌, ◌∙◌, sym, ap, subst, ℕ, zero, suc, Result, Ok, Err, IfOk, OnOk}
use Rattle.occ_machine.specs.Machine.{Body, Stopping}
use Rattle.occ_machine.specs.declared.task.Task.{Task}
use Rattle.occ_proc.specs.Stretches.{InRow}
use Rattle.occ_proc.specs.Turns.{Taken}
use Rattle.occ_net_replay.proofs.OneStop.{stopping_once}
use Rattle.occ_contracts.specs.Agreement.{BothGive}

abbrev taken : Body → Task → Task → Taken
taken body before after = record { body = body; before = before; after = after }

-- two turns of one body from one task
pub one_turn : (s t : Taken) → s.body ≡ t.body → s.before ≡ t.before → Stopping s.body s.before s.after → Stopping t.body t.before t.after → s ≡ t
one_turn s t body before x y =
    let here : Stopping s.body s.before t.after = subst (λ b. Stopping b s.before t.after) (sym body) (subst (λ a. Stopping t.body a t.after) (sym before) y) in
    let after : s.after ≡ t.after = stopping_once s.body s.before s.after t.after x here in
    ap (λ b. taken b s.before s.after) body ∙ ap (λ z. taken t.body z s.after) before ∙ ap (λ z. taken t.body t.before z) after

-- a turn in place from the task before it
pub comes_to : {E : Type 0} (s : Taken) (body : Body) (t x : Task) (r : Result (Unit {0}) E) → body ≡ s.body → t ≡ s.before → Stopping s.body s.before s.after → OnOk r (Stopping body t x) → OnOk r (x ≡ s.after)
comes_to s body t x (Ok _) own same h g = stopping_once s.body s.before x s.after (subst (λ z. Stopping s.body z x) same (subst (λ b. Stopping b t x) own g)) h
comes_to s body t x (Err _) own same h g = tt

pub one_place : {E F : Type 0} (body : Body) (a b x y : Task) (r : Result (Unit {0}) E) (q : Result (Unit {0}) F) → a ≡ b → OnOk r (Stopping body a x) → OnOk q (Stopping body b y) → BothGive (λ _ _. x ≡ y) r q
one_place body a b x y (Ok _) (Ok _) same h g = stopping_once body a x y h (subst (λ z. Stopping body z y) (sym same) g)
one_place body a b x y (Ok _) (Err _) same h g = tt
one_place body a b x y (Err _) (Ok _) same h g = tt
one_place body a b x y (Err _) (Err _) same h g = tt

-- the same where each turn hands over what the process stands at
pub one_end : {X E F : Type 0} (body : Body) (a b : Task) (end last : X → Task) (r : Result X E) (q : Result X F) → a ≡ b → IfOk r (λ x. Stopping body a (end x)) → IfOk q (λ x. Stopping body b (last x)) → BothGive (λ x y. end x ≡ last y) r q
one_end body a b end last (Ok x) (Ok y) same h g = stopping_once body a (end x) (last y) h (subst (λ z. Stopping body z (last y)) (sym same) g)
one_end body a b end last (Ok _) (Err _) same h g = tt
one_end body a b end last (Err _) (Ok _) same h g = tt
one_end body a b end last (Err _) (Err _) same h g = tt

-- as many turns in a row
row_once : (body : Body) (first x y : Task) (n : ℕ) → InRow body first n x → InRow body first n y → x ≡ y
row_once body first x y zero h g = sym h ∙ g
row_once body first x y (suc n) h g =
    let before = row_once body first h.before g.before n h.row g.row in
    stopping_once body h.before x y h.stops (subst (λ z. Stopping body z y) (sym before) g.stops)

pub one_row : {X E F : Type 0} (body : Body) (a b : Task) (end last : X → Task) (r : Result (ℕ × X) E) (q : Result (ℕ × X) F) → a ≡ b → IfOk r (λ x. InRow body a x.0 (end x.1)) → IfOk q (λ x. InRow body b x.0 (last x.1)) → BothGive (λ x y. x.0 ≡ y.0 → end x.1 ≡ last y.1) r q
one_row body a b end last (Ok x) (Ok y) same h g =
    λ count. row_once body a (end x.1) (last y.1) x.0 h (subst (λ z. InRow body z x.0 (last y.1)) (sym same) (subst (λ n. InRow body b n (last y.1)) (sym count) g))
one_row body a b end last (Ok _) (Err _) same h g = tt
one_row body a b end last (Err _) (Ok _) same h g = tt
one_row body a b end last (Err _) (Err _) same h g = tt
