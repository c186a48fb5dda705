use Rattle.std.proofs.Common.{List, Result, Ok, Err, IfOk}
use Rattle.std.specs.Prelude.{MatchResult}
use mathlib.Core.List.{IsPrefix}
use Rattle.occ_board.specs.Traces.{SeesOn, Watching}
use Rattle.occ_board.proofs.Prefixes.{prefix_trans}
use Rattle.occ_term.specs.Runs.{Entry}
use Rattle.occ_contracts.proofs.board.told_and_look.Goals as goal

-- what the watcher knows of begins what it sees, and so does what begins that
seen_on : {X : Type 0} (list : List Entry) (told : Watching) (r : Result (Watching × X) Watching) (other : Watching → Type 0)
    → IsPrefix list told.known.entries → MatchResult r (λ z. SeesOn told z.0) other → IfOk r (λ z. IsPrefix list z.0.seen)
seen_on list told (Ok z) other begun h = prefix_trans list told.known.entries z.0.seen begun h.1
seen_on list told (Err e) other begun h = tt

pub returns : goal.returns
returns g c = seen_on c.args.note.now.entries c.told.result c.look.result (λ w. IsPrefix c.told.result.seen w.seen) c.told.ensures.known.1.0 c.look.ensures.seen
