use Rattle.occ_text.specs.Words.{logical_lines}
use Rattle.occ_text.proofs.LineLaws.{found, only}
use Rattle.occ_text.proofs.read.read_lines.Goals as goal

pub returns-clause-found : goal.returns-clause-found
returns-clause-found c = found (λ s. logical_lines s.lines.items) c.source_of.result c.args.text.now c.source_of.ensures.value

pub returns-clause-only : goal.returns-clause-only
returns-clause-only c = only (λ s. logical_lines s.lines.items) c.source_of.result c.args.text.now c.source_of.ensures.value
