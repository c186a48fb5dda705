use Rattle.std.proofs.Common.{arith, ap, sym, ◌∙◌}
use Rattle.std.specs.Prelude.{bytes_eq}
use Rattle.occ_check_lines.proofs.Tagging.{numbered_first, numbered_next, numbered_here, numbered_none}
use Rattle.occ_check_lines.proofs.item.tag_number.Goals as goal

pub loop-tag-init : goal.loop-tag-init
loop-tag-init c = (numbered_first c.args.tags.now c.args.name.now, omega arith)

pub loop-tag-preserved : goal.loop-tag-preserved
loop-tag-preserved c = (
  numbered_next _ _ _ _ _ c.loop-tag-test.true c.tag-item.is c.loop-tag.invariant.0 _ (omega arith) (ap (bytes_eq c.args.name.now) (sym c.as_slice.ensures) ∙ sym c.eq.ensures ∙ c.if-eq.false),
  omega arith,
)

pub returns-then-eq : goal.returns-then-eq
returns-then-eq c = sym (numbered_here _ _ _ _ _ c.loop-tag-test.true c.tag-item.is c.loop-tag.invariant.0 (ap (bytes_eq c.args.name.now) (sym c.as_slice.ensures) ∙ sym c.eq.ensures ∙ c.if-eq.true))

pub returns : goal.returns
returns c = sym (numbered_none _ _ _ _ c.loop-tag-test.false c.loop-tag.invariant.0)
