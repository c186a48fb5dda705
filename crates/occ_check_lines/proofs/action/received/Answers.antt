use Rattle.occ_check_lines.proofs.Receiving.{listed_gives, listed_nothing, tagged_gives, tagged_nothing}
use Rattle.occ_check_lines.proofs.action.received.Goals as goal

pub returns-in-Ok : goal.returns-in-Ok
returns-in-Ok c =
    listed_gives _ _ _ _ _ _ _ _ c.in_ok-protocol-in-Items.ensures c.as_slice.ensures _ c.in-Items.is c.in_ok-parts-in-Items.ensures _ c.in-Ok.ensures

pub returns-in-Err : goal.returns-in-Err
returns-in-Err c = listed_nothing _ _ _ _ _ _ _ _ c.in_ok-protocol-in-Items.ensures c.as_slice.ensures _ c.in-Items.is c.in_ok-parts-in-Items.ensures _ c.in-Err.ensures

pub returns-in-Ok-stored : goal.returns-in-Ok-stored
returns-in-Ok-stored c =
    tagged_gives _ _ _ _ _ _ _ _ c.in_ok-protocol-in-Tagged.ensures c.as_slice-in-Tagged.ensures _ _ _ _ c.in-Tagged.is c.deref.ensures.value c.in_ok-tag-in-Tagged.ensures c.in_ok-parts-in-Tagged.ensures _ c.in-Ok-stored.ensures

pub returns-in-Err-stored : goal.returns-in-Err-stored
returns-in-Err-stored c =
    tagged_nothing _ _ _ _ _ _ _ _ c.in_ok-protocol-in-Tagged.ensures c.as_slice-in-Tagged.ensures _ _ _ _ c.in-Tagged.is c.deref.ensures.value c.in_ok-tag-in-Tagged.ensures c.in_ok-parts-in-Tagged.ensures _ c.in-Err-stored.ensures
