use Rattle.std.proofs.Common.{◌≡◌, ◌∷◌, ◌++◌, [], map}
use Rattle.std.proofs.lemmas.List.{map_push}
use Rattle.std.proofs.lemmas.Result.{err_from_is_err_and}
use Rattle.occ_tree_grammar.specs.Processes.Views.{tag_of}
use Rattle.occ_tree_reader.proofs.ManyLoop.{goes_on, ends, is_full, is_last}
use Rattle.occ_tree_reader.proofs.processes.protocol.tag_list.Goals.{else-loop-test, then-loop-test+in_default}
use Rattle.occ_tree_reader.proofs.processes.protocol.tag_list.Goals as goal

pub returns-in_err-next : goal.returns-in_err-next
returns-in_err-next c =
    let p = err_from_is_err_and c.from_residual.result c.from_residual.ensures.1 in
    rw (p.1, p.2) (ends c.in_err-next.field-0.0 c.loop.invariant c.loop-test.true c.in-Some.ensures c.in_err-next.ensures)

pub loop-preserved : goal.loop-preserved
loop-preserved c =
    let e : map tag_of c.push.new.self.items ≡ map tag_of c.loop.all.items ++ tag_of c.in_ok-next.next ∷ [] = rw c.in_ok-push.ensures.items (map_push _ c.loop.all.items c.in_ok-next.next) in
    rw e (goes_on c.loop.invariant c.loop-test.true c.in-Some.ensures c.in_ok-next.ensures)

pub returns : goal.returns
returns c =
    elim c.loop-test.branch [
      | else-loop-test w ↦ is_full c.loop.invariant w.loop-test.false
      | then-loop-test+in_default w ↦ is_last c.loop.invariant w.loop-test.true w.in_default.ensures
    ]
