-- What constants are worth, and chains of AND and OR among them, whose operands are taken from the last to the first.
-- Manual: nothing; this is (own).
use Rattle.std.specs.Prelude.{Result, if◌then◌else◌, pos, ℤ}
use Rattle.occ_term.specs.Evaluation.{evaluated}
use Rattle.occ_term.specs.Values.{Evaluated, Value, Fails, holds, value_of}
use Rattle.occ_term.specs.View.{expression_of}
use Rattle.occ_term.specs.declared.expression.TermExpr.{TermExpr}
use Rattle.occ_term.specs.declared.fault.Fault.{Fault}

-- what an expression is worth that reads no cell
abbrev pub constant_value : TermExpr → Evaluated ℤ
constant_value e = value_of (expression_of e) (λ c. pos 0)

-- ---- private contracts alone cite these

-- the one where a value is TRUE, and the other where it is FALSE
abbrev pub chosen : Evaluated ℤ → Evaluated ℤ → Evaluated ℤ → Evaluated ℤ
chosen (Value v) on_true on_false = if holds v then on_true else on_false
chosen (Fails f) on_true on_false = Fails f

abbrev pub chosen_from : Evaluated ℤ → (on_true on_false : Result ℤ Fault) → Evaluated ℤ
chosen_from v on_true on_false = chosen v (evaluated on_true) (evaluated on_false)
