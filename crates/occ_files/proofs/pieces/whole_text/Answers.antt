use Rattle.std.proofs.Common.{◌++◌, subst, sym}
use Rattle.occ_files.proofs.PiecesWritten.{no_more, one_more}
use Rattle.occ_files.proofs.pieces.whole_text.Goals as goal

pub loop-text-init : goal.loop-text-init
loop-text-init g c = record { can = c.requires; so = λ rest h. subst (λ l. g.P.Pieces.is_left c.args.pieces.now (l ++ rest)) (sym c.new-text.ensures.items) h }

pub loop-text-preserved : goal.loop-text-preserved
loop-text-preserved g c =
    record {
      can = c.in_ok-write_next.ensures.can c.if-branch.true;
      so =
          one_more g.P.Pieces.is_left c.args.pieces.now c.loop-text.pieces c.write_next.new.self c.loop-text.text.items c.write_next.new.out.items c.loop-text.invariant.so
          (c.in_ok-write_next.ensures.more c.if-branch.true);
    }

pub returns : goal.returns
returns g c =
    subst (g.P.Pieces.is_left c.args.pieces.now) (sym (c.in_ok-write_next.ensures.kept c.if-branch.false))
    (no_more g.P.Pieces.is_left c.args.pieces.now c.loop-text.pieces c.loop-text.text.items c.loop-text.invariant.so (c.in_ok-write_next.ensures.end c.if-branch.false))
