use Rattle.std.proofs.Common.{◌≡◌, [], Result, Ok, Err, refl, lit≤}
use Rattle.std.specs.Prelude.{MatchResult}
use Rattle.occ_text.specs.Lines.{UnlessMemory, none}
use Rattle.occ_text.specs.Words.{logical_lines}
use Rattle.occ_text.specs.declared.fault.TextFault.{TextFault}
use Rattle.occ_text.specs.declared.fault.TextFault.TheVariants as faults
use Rattle.occ_text.specs.declared.token.Source.{Source}
use Rattle.occ_contracts.proofs.text.read_nothing.Goals as goal

gives : (r : Result Source TextFault) → UnlessMemory r (λ s. logical_lines s.lines.items ≡ []) → MatchResult r (λ s. logical_lines s.lines.items ≡ []) (λ e. e ≡ faults.Memory)
gives (Ok s) h = h
gives (Err faults.Memory) h = refl
gives (Err _) h = absurd h

pub returns : goal.returns
returns c = gives c.read_lines.result (c.read_lines.ensures.only [] (lit≤ tt, none))
