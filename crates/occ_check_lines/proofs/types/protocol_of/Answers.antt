use Rattle.std.proofs.Common.{Some, ◌∙◌, ap, sym}
use Rattle.occ_check_lines.proofs.SizeLists.{sequential_is, sequential_none, tags_are, tags_none}
use Rattle.occ_check_lines.proofs.types.protocol_of.Goals as goal

pub returns-in_ok-new-in-Ok : goal.returns-in_ok-new-in-Ok
returns-in_ok-new-in-Ok c = sequential_is _ _ _ _ _ _ c.in-Parts.is c.deref.ensures _ (c.in-Ok.ensures ∙ ap Some (sym c.in_ok-new-in-Ok.ensures))

pub returns-in-Err : goal.returns-in-Err
returns-in-Err c = sequential_none _ _ _ _ _ _ c.in-Parts.is c.deref.ensures _ c.in-Err.ensures

pub returns-in_ok-new-in-Ok-each_tag : goal.returns-in_ok-new-in-Ok-each_tag
returns-in_ok-new-in-Ok-each_tag c = tags_are _ _ _ _ _ _ _ _ c.in-Tags.is c.as_slice-tags.ensures.value _ _ c.in_default.ensures (c.in-Ok-each_tag.ensures ∙ ap Some (sym c.in_ok-new-in-Ok-each_tag.ensures))

pub returns-in-Err-each_tag : goal.returns-in-Err-each_tag
returns-in-Err-each_tag c = tags_none _ _ _ _ _ _ _ _ c.in-Tags.is c.as_slice-tags.ensures.value _ _ c.in_default.ensures c.in-Err-each_tag.ensures
