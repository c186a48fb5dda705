use Rattle.std.proofs.Common.{◌∙◌, subst}
use Rattle.std.specs.Io.KnownBytes.{Appends}
use Rattle.occ_files.proofs.PiecesWritten.{all_written, nothing_written, one_held, some_written, where_done}
use Rattle.occ_files.proofs.saving.write_whole.Goals as goal

pub loop-held-init : goal.loop-held-init
loop-held-init g c = record { can = c.requires; writing = nothing_written g.P.Pieces.is_left (g.W.Write.contents c.args.out.now) c.args.pieces.now c.new-held.result.items c.new-held.ensures.items }

pub loop-held-preserved : goal.loop-held-preserved
loop-held-preserved g c =
    let L = g.P.Pieces.is_left in
    let first = g.W.Write.contents c.args.out.now in
    let now = g.W.Write.contents c.loop-held.out in
    record {
      can = c.in_ok-write_next.ensures.can c.if-branch.true;
      writing =
          some_written L first now (g.W.Write.contents c.write_held.new.out) c.args.pieces.now c.write_next.new.self c.write_next.new.out.items c.write_held.new.held.items
          (one_held L first now c.args.pieces.now c.loop-held.pieces c.write_next.new.self c.loop-held.held.items c.write_next.new.out.items c.loop-held.invariant.writing (c.in_ok-write_next.ensures.more c.if-branch.true))
          c.in_ok-write_held.ensures;
    }

pub returns : goal.returns
returns g c =
    let L = g.P.Pieces.is_left in
    let same = c.in_ok-write_next.ensures.kept c.if-branch.false in
    where_done c.write_all.result
    (λ w.
    all_written L g.W.Write.contents c.args.out.now c.loop-held.out c.write_all.new.self c.args.pieces.now c.loop-held.pieces c.loop-held.held.items c.loop-held.invariant.writing
    (c.in_ok-write_next.ensures.end c.if-branch.false)
    (subst (Appends (g.W.Write.contents c.loop-held.out) (g.W.Write.contents c.write_all.new.self)) (c.as_slice.ensures.value ∙ same) w))
    c.write_all.ensures.bytes
