use Rattle.std.proofs.Common.{◌+◌, ◌∙◌, ap, sym}
use Rattle.occ_files.proofs.Ends.{last_ended}
use Rattle.occ_files.proofs.joining.last_line.Goals as goal

pub returns-else-has_end : goal.returns-else-has_end
returns-else-has_end c = ap (λ n. n + 1) c.line_feeds-count.ensures.value ∙ last_ended c.args.text.now (sym c.has_end.ensures ∙ c.if-has_end.false)
