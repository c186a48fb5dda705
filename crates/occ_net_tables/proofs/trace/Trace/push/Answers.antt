use Rattle.std.proofs.Common.{◌∙◌, ◌++◌, ◌∷◌, [], List, ap, subst}
use Rattle.occ_term.specs.declared.message.Part.{Part}
use Rattle.occ_net_tables.specs.Flat.{communication_head}
use Rattle.occ_net_tables.specs.Kept.{kept_in}
use Rattle.occ_net_tables.specs.TraceRoom.{Appends}
use Rattle.occ_term.specs.System.{communication}
use Rattle.occ_net_tables.proofs.ReadLists.{kept_here, kept_more, read_kept}
use Rattle.occ_net_tables.proofs.trace.Trace.push.Goals as goal

pub invariant_of-self-2 : goal.invariant_of-self-2
invariant_of-self-2 c =
    let xs = kept_in c.self.inside.lists in
    let x = communication c.args.chan c.args.sender c.args.receiver c.args.message.now in
    let put = subst (λ (ps : List Part). Appends c.self.inside.lists (communication_head x) ps c.push.new.self) c.as_slice.ensures c.in_ok-push.ensures.pushed in
    kept_here _ _ (kept_more xs x _ _ c.self.invariant put)

pub returns-clause-pushed : goal.returns-clause-pushed
returns-clause-pushed c =
    let xs = kept_in c.self.inside.lists in
    let x = communication c.args.chan c.args.sender c.args.receiver c.args.message.now in
    let put = subst (λ (ps : List Part). Appends c.self.inside.lists (communication_head x) ps c.push.new.self) c.as_slice.ensures c.in_ok-push.ensures.pushed in
    read_kept _ _ (kept_more xs x _ _ c.self.invariant put) ∙ ap (λ l. l ++ x ∷ []) c.self.view_is
