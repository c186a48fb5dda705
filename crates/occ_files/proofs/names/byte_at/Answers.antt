use Rattle.std.proofs.Common.{ap, drop_of_length-le, sym}
use Rattle.std.proofs.lemmas.List.{drop_more}
use Rattle.occ_files.specs.Names.{first_byte}
use Rattle.occ_files.proofs.names.byte_at.Goals as goal

pub returns-then-place-name : goal.returns-then-place-name
returns-then-place-name c = sym (ap first_byte (drop_more c.args.name.now c.args.place 0 c.if-place-name.true))

pub returns-else-place-name : goal.returns-else-place-name
returns-else-place-name c = sym (ap first_byte (drop_of_length-le c.args.name.now c.if-place-name.false))
