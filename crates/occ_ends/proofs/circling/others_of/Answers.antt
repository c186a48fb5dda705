use Rattle.std.proofs.Common.{◌≡◌, ◌∙◌, [], ◌∷◌, List, ap, arith, false, length, nat_eq, refl, suc, sym, ℕ}
use Rattle.std.proofs.lemmas.Bool.Decides.{nat_tests}
use Rattle.std.proofs.lemmas.Result.{IfOk-weaker}
use Rattle.occ_ends.specs.Ends.{end_noted, is_none_left, stands_still, task_waits_for, waits_noted}
use Rattle.occ_ends.proofs.circling.others_of.Goals as goal

none_is : (ns : List ℕ) → nat_eq (length ns) 0 ≡ is_none_left ns
none_is [] = refl
none_is (n ∷ ns) = let no : nat_eq (suc (length ns)) 0 ≡ false = grind (arith, nat_tests) in no

pub returns-in-Some : goal.returns-in-Some
returns-in-Some c =
    IfOk-weaker c.waits_for.result _ _
    (λ others h p keyboard net holds.
    let ends = c.args.ends.now in
    let still = c.is_empty-still.ensures ∙ ap (λ l. nat_eq (length l) 0) (c.ready.ensures p keyboard net holds) ∙ none_is _ in
    let there = c.in-Some.ensures.some p keyboard net holds in
    h p keyboard net holds
    ∙ ap (λ s. waits_noted ends net.tasks s c.in-Some.task.now.wait) still
    ∙ sym (ap (task_waits_for (end_noted ends.readers.items) (end_noted ends.writers.items) net.tasks (stands_still net.tasks)) there))
    c.waits_for.ensures
