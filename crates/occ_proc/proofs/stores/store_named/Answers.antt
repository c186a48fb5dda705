use Rattle.std.proofs.Common.{◌∙◌, ◌+◌, sym, ap}
use Rattle.occ_term.specs.Frames.{frame_from}
use Rattle.occ_term.specs.Storing.{values_in}
use Rattle.occ_machine.specs.Machine.{Moves, point}
use Rattle.occ_proc.proofs.Messages.{last_is, others_are}
use Rattle.occ_proc.proofs.stores.store_named.Goals as goal

pub returns : goal.returns
returns c = λ pc st sp.
    rw (c.in-Some.ensures, last_is, others_are)
    (ap (λ f. Moves (point (pc + 1) st c.pop.new.self sp f)) (sym (c.store_span.ensures ∙ ap (λ n. frame_from n (values_in c.in-Some.part) c.args.frame.now) c.from.ensures)))
