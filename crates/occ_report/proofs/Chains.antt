-- Calls, one within the other.
use Rattle.std.proofs.Common.{◌≡◌, ◌∙◌, ◌++◌, ◌∷◌, [], List, Some, ap, append_assoc, suc, sym, ℕ}
use Rattle.occ_report.specs.Calls.{call_at, outwards, with_call}
use Rattle.occ_report.specs.declared.calls.Call.{Call}

-- a loop's step: the calls so far, and one more
pub chain_step : (calls : List Call) (n left less : ℕ) (c : Call) (before after all : List ℕ) → left ≡ suc less → Some c ≡ call_at calls n
    → after ≡ before ++ n ∷ [] → before ++ outwards left calls n ≡ all → after ++ outwards less calls c.outer ≡ all
chain_step calls n left less c before after all fewer found made same =
    let rest = outwards less calls c.outer in
    ap (λ l. l ++ rest) made ∙ append_assoc before (n ∷ []) rest
    ∙ ap (λ o. before ++ with_call o (λ d. n ∷ outwards less calls d.outer)) found
    ∙ ap (λ k. before ++ outwards k calls n) (sym fewer) ∙ same
