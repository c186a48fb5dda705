use Rattle.occ_text.proofs.Feeds.{line_before_feed, line_without_feed}
use Rattle.occ_report.proofs.source_lines.first_line.Goals as goal

pub returns-in-Some-clause-value : goal.returns-in-Some-clause-value
returns-in-Some-clause-value c = line_before_feed c.args.text.now c.without_return.result.now c.in-Some.end c.in-Some.ensures c.without_return.ensures

pub returns-in-None-clause-value : goal.returns-in-None-clause-value
returns-in-None-clause-value c = line_without_feed c.args.text.now c.requires c.in-None.ensures
