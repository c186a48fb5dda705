use Rattle.std.proofs.Common.{◌∙◌, ◌+◌, ap, drop}
use Rattle.occ_net_tables.specs.Flat.{communications_in, lengths_behind, shapes_behind}
use Rattle.occ_net_tables.specs.Kept.{communications_from}
use Rattle.occ_net_tables.proofs.Passing.{passed_more}
use Rattle.occ_net_tables.proofs.pieces.Pieces.behind_several.Goals as goal

pub loop-passed-preserved : goal.loop-passed-preserved
loop-passed-preserved c = λ hs.
    let k = c.loop-passed._passed in
    let was = c.loop-passed.left in
    let is = c.behind-left.result in
    let e = c.behind-left.ensures in
    ap (λ l. communications_in (drop (k + 1) hs) l is.lengths.now is.words.now) e.shapes
    ∙ ap (λ l. communications_in (drop (k + 1) hs) (shapes_behind was.shapes.now) l is.words.now) e.lengths
    ∙ ap (λ l. communications_in (drop (k + 1) hs) (shapes_behind was.shapes.now) (lengths_behind was.shapes.now was.lengths.now) l) e.words
    ∙ passed_more hs k (communications_from hs c.args.self) was.shapes.now was.lengths.now was.words.now (c.loop-passed.invariant hs)
