-- A program has one code.
use Rattle.std.proofs.Common.{◌≡◌, ◌∙◌, refl, sym, ap, ℕ, ◌⊎◌, inl, inr, Result, Ok, Err, IfOk, IfErr}
use Rattle.occ_code.proofs.OneCode.{one_code}
use Rattle.occ_code.specs.CodeOf.{CodeRefuses, IsCodeOf, IsQuantum}
use Rattle.occ_code.specs.declared.compiling.CodeFault.{CodeFault}
use Rattle.occ_code.specs.declared.compiling.CodeFault.TheVariants.{TooLarge, BadQuantum, Memory}
use Rattle.occ_machine.specs.Compiled.{Program}
use Rattle.occ_term.specs.UnfoldedProgram.{UnfoldedProgram, meaning}
use Rattle.occ_term.specs.declared.fault.Errors.TheVariants.{Halt}
use Rattle.occ_contracts.specs.Agreement.{Agree}

too_much : (u : UnfoldedProgram) (quantum : ℕ) (e : CodeFault) → CodeRefuses e quantum u → IsQuantum quantum → (e ≡ Memory) ⊎ (e ≡ TooLarge)
too_much u quantum TooLarge h q = inr refl
too_much u quantum BadQuantum h q = absurd (h q)
too_much u quantum Memory h q = inl refl

-- where each is the code of one program, halts at a fault, and is refused so
module _ (u v : UnfoldedProgram) (same : v ≡ u) (quantum : ℕ) where
  pub agree_on_code : (r q : Result Program CodeFault)
      → IfOk r (λ c. IsCodeOf u quantum c) → IfOk r (λ c. c.errors ≡ Halt) → IfErr r (λ e. CodeRefuses e quantum u)
      → IfOk q (λ c. IsCodeOf v quantum c) → IfOk q (λ c. c.errors ≡ Halt) → IfErr q (λ e. CodeRefuses e quantum v) → IfOk q (λ _. IsQuantum quantum)
      → (IfOk r (λ _. IsQuantum quantum)) → Agree (λ c. c) (λ e. (e ≡ Memory) ⊎ (e ≡ TooLarge)) r q
  agree_on_code (Ok c) (Ok d) x a h y b g k l = one_code u v quantum c d (ap meaning (sym same)) (ap (λ (w : UnfoldedProgram). w.channels) (sym same)) (a ∙ sym b) x y
  agree_on_code (Ok c) (Err e) x a h y b g k l = too_much v quantum e g l
  agree_on_code (Err e) (Ok d) x a h y b g k l = too_much u quantum e h k
  agree_on_code (Err e) (Err f) x a h y b g k l = tt
