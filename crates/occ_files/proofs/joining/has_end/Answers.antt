use Rattle.std.proofs.Common.{◌∙◌, ap, sym}
use Rattle.std.specs.Option.{option_copied}
use Rattle.occ_files.proofs.Ends.{last_read}
use Rattle.occ_files.proofs.joining.has_end.Goals as goal

pub returns-in-Some : goal.returns-in-Some
returns-in-Some c = last_read c.args.text.now c.in-Some.byte.now (sym (ap option_copied c.in-Some.is) ∙ c.last.ensures.value)
