-- Why a run by 1 to 64 workers is refused.
use Rattle.std.proofs.Common.{◌≡◌, ℕ, ◌<◌, ◌≤◌, ◌⊎◌, inl, inr, ap, arith, refl, Result, Ok, Err, IfErr}
use Rattle.std.specs.Prelude.{◌≢◌, ◌↔◌, IsErrOf}
use Rattle.occ_run.specs.declared.fault.RunFault.{RunFault}
use Rattle.occ_run.specs.declared.fault.RunFault.TheVariants.{BadWorkers, Foreign, Memory, Spawn}

module _ (workers : ℕ) (some : 0 < workers) (few : workers ≤ 64) where
  not_bad : ((workers ≡ 0) ⊎ (64 < workers)) → ⊥
  not_bad (inl none) = absurd (omega (arith, some, none))
  not_bad (inr many) = absurd (omega (arith, few, many))

  pub not_their_number : {X : Type 0} (r : Result X RunFault) → IsErrOf r BadWorkers ↔ ((workers ≡ 0) ⊎ (64 < workers)) → IfErr r (λ e. e ≢ BadWorkers)
  not_their_number (Ok _) bad = tt
  not_their_number (Err e) bad = λ same. not_bad (bad.0 (ap Err same))

  pub thread_or_memory : {X : Type 0} (r : Result X RunFault) → IsErrOf r BadWorkers ↔ ((workers ≡ 0) ⊎ (64 < workers)) → IfErr r (λ e. e ≢ Foreign) → IfErr r (λ e. (e ≡ Spawn) ⊎ (e ≡ Memory))
  thread_or_memory (Ok _) bad own = tt
  thread_or_memory (Err BadWorkers) bad own = absurd (not_bad (bad.0 refl))
  thread_or_memory (Err Foreign) bad own = absurd (own refl)
  thread_or_memory (Err Spawn) bad own = inl refl
  thread_or_memory (Err Memory) bad own = inr refl
