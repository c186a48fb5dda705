use Rattle.std.proofs.Common.{refl}
use Rattle.occ_exploring.specs.Strings.{as_characters}
use Rattle.occ_exploring.proofs.Growth.{text_step}
use Rattle.occ_exploring.proofs.strings.write_letters.Goals as goal

pub loop-i-preserved : goal.loop-i-preserved
loop-i-preserved c = text_step as_characters c.args.bytes.now c.loop-i.i 0 _ c.loop-i-test.true refl _ c.loop-i.out.items _ c.loop-i.invariant c.in_ok-write_letter.ensures
