use Rattle.std.proofs.Common.{◌≡◌, ◌∙◌, ap, false, reverse, rules, sym, true, w64, List, ℤ, Some}
use Rattle.std.specs.Prelude.{not}
use Rattle.indexmap.specs.IndexMap.{keys}
use Rattle.std.proofs.lemmas.Int.{to_z-of_z}
use Rattle.occ_check_meaning.specs.Actions.{has_constant}
use Rattle.occ_check_lines.specs.Action.{chosen_of}
use Rattle.occ_check_lines.proofs.Among.{constant_told, constants_more}
use Rattle.occ_check_lines.proofs.CaseConstants.{chosen_before, chosen_now}
use Rattle.occ_check_lines.proofs.Refusals.{refused}
use Rattle.occ_check_lines.proofs.action.choosing_one.Goals as goal

pub returns-then-not-added : goal.returns-then-not-added
returns-then-not-added c =
    let before = keys c.args.chosen.now.constants in
    let same = to_z-of_z w64 c.args.constant.now (search rules) in
    let there : has_constant c.args.constant.now (reverse before) ≡ true = constant_told c.args.constant.now _ before c.in_ok-added.added same c.in_ok-added.ensures.added ∙ ap not c.if-not-added.true in
    refused c.constant_twice.result _ (chosen_before c.args.constant.now (chosen_of c.args.chosen.now) there)

pub returns : goal.returns
returns c =
    let before = keys c.args.chosen.now.constants in
    let same = to_z-of_z w64 c.args.constant.now (search rules) in
    let lacks : has_constant c.args.constant.now (reverse before) ≡ false = constant_told c.args.constant.now _ before c.in_ok-added.added same c.in_ok-added.ensures.added ∙ ap not c.if-not-added.false in
    chosen_now c.args.constant.now (chosen_of c.args.chosen.now) lacks
    ∙ ap (λ (l : List ℤ). Some (record (chosen_of c.args.chosen.now) { constants = l })) (sym (constants_more c.args.constant.now _ before _ same lacks c.in_ok-added.ensures.keys))
