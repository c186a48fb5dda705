-- Turns keep the declared types and keep to their use, and a body's turn is determined.
use Rattle.std.proofs.Common.{ℕ, refl, ◌∙◌}
use Rattle.occ_term.specs.Values.{Store}
use Rattle.occ_term.specs.Steps.{Left, Step}
use Rattle.occ_term.specs.StepUses.{IsPartOf, ChangesOnly, uses_of_left}
use Rattle.occ_term.specs.Uses.{Uses}
use Rattle.occ_term.specs.Turns.{Steps, none, more, SingleTurn, single_turn, Turn, stops, passes}
use Rattle.occ_term.specs.TermTyping.{Declared}
use Rattle.occ_term.specs.TypedSteps.{StoreHas, LeftHas}
use Rattle.occ_term.proofs.KeptSteps.{steps_keep_to_their_use}
use Rattle.occ_term.proofs.KeptStores.{whole_part}
use Rattle.occ_term.proofs.TypedSteps.{steps_keep_types}

pub part_of_part : (a b c : Uses) → IsPartOf a b → IsPartOf b c → IsPartOf a c
part_of_part a b c h k = record {
  reads = λ n m. k.reads n (h.reads n m);
  writes = λ n m. k.writes n (h.writes n m);
  ins = λ n m. k.ins n (h.ins n m);
  outs = λ n m. k.outs n (h.outs n m);
}

-- what a step or turn of typed things keeps
pub record Kept (d : Declared) (a b : Left) (s s' : Store) : Type 0 where
  pub typed : LeftHas d b
  pub typed_store : StoreHas d s'
  pub uses : IsPartOf (uses_of_left b) (uses_of_left a)
  pub only : ChangesOnly (uses_of_left a).writes s s'

module _ (d : Declared) where
  pub step_kept : {a b : Left} {s s' : Store} → Step a s b s' → LeftHas d a → StoreHas d s → Kept d a b s s'
  step_kept {a = a} {b = b} {s = s} {s' = s'} x h k =
      let y = steps_keep_types d a b s s' h k x in
      let z = steps_keep_to_their_use d a b s s' h x in
      record { typed = y.0; typed_store = y.1; uses = z.0; only = z.1 }

  pub kept_again : {a b c : Left} {s s' s'' : Store} → Kept d a b s s' → Kept d b c s' s'' → Kept d a c s s''
  kept_again {a = a} {b = b} {c = c} x y =
      record {
        typed = y.typed;
        typed_store = y.typed_store;
        uses = part_of_part (uses_of_left c) (uses_of_left b) (uses_of_left a) y.uses x.uses;
        only = λ n h. y.only n (λ m. h (x.uses.writes n m)) ∙ x.only n h;
      }

  pub steps_kept : {a b : Left} {s s' : Store} → Steps a s b s' → LeftHas d a → StoreHas d s → Kept d a b s s'
  steps_kept {a = a} none h k = record { typed = h; typed_store = k; uses = whole_part (uses_of_left a); only = λ n m. refl }
  steps_kept (more x r xs) h k = let y = step_kept x h k in kept_again y (steps_kept xs y.typed y.typed_store)

  pub single_kept : {a b : Left} {s s' : Store} → SingleTurn a s b s' → LeftHas d a → StoreHas d s → Kept d a b s s'
  single_kept (single_turn xs x r) h k = let y = steps_kept xs h k in kept_again y (step_kept x y.typed y.typed_store)

  pub turn_kept : {q : ℕ} {a b : Left} {s s' : Store} → Turn q a s b s' → LeftHas d a → StoreHas d s → Kept d a b s s'
  turn_kept (stops t r) h k = single_kept t h k
  turn_kept (passes t r rest) h k = let y = single_kept t h k in kept_again y (turn_kept rest y.typed y.typed_store)
