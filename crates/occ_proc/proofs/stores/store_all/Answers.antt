use Rattle.std.proofs.Common.{◌≡◌, ◌∙◌, sym, ap, [], drop}
use Rattle.std.specs.Prelude.{map}
use Rattle.std.proofs.lemmas.List.{drop_all}
use Rattle.occ_machine.specs.Machine.{frame_parts}
use Rattle.occ_proc.specs.Passing.{spot_of}
use Rattle.occ_proc.proofs.Messages.{none_stored}
use Rattle.occ_proc.proofs.stores.store_all.Goals as goal

pub returns-then-i-parts : goal.returns-then-i-parts
returns-then-i-parts c =
    let empty : drop c.loop-i.i c.args.parts.now ≡ [] = drop_all c.loop-i.i c.args.parts.now c.if-i-parts.true in
    sym (none_stored (map spot_of (drop c.loop-i.i c.args.spots.now)) c.loop-i.frame)
    ∙ ap (λ ps. frame_parts (map spot_of (drop c.loop-i.i c.args.spots.now)) ps c.loop-i.frame) (sym empty)
    ∙ c.loop-i.invariant
