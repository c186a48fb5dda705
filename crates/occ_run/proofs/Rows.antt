-- One turn more in a row.
use Rattle.std.proofs.Common.{◌≡◌, ℕ, zero, suc, subst, sym}
use Rattle.occ_machine.specs.Machine.{Body, Stopping}
use Rattle.occ_machine.specs.declared.task.Task.{Task}
use Rattle.occ_machine.specs.declared.task.Wait.TheVariants.{Ready}
use Rattle.occ_proc.specs.Stretches.{InRow, MayFollow}

-- a task that is ready may go on
pub may_follow : (n : ℕ) (t : Task) → t.wait ≡ Ready → MayFollow n t
may_follow zero t e = tt
may_follow (suc n) t e = e

pub one_more : (body : Body) (first t u : Task) (n m : ℕ) → m ≡ suc n → InRow body first n t → MayFollow n t → Stopping body t u → InRow body first m u
one_more body first t u n m e row follows stops = subst (λ (k : ℕ). InRow body first k u) (sym e) (record { before = t; row = row; follows = follows; stops = stops })
