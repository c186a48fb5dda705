use Rattle.std.proofs.Common.{rules, ◌≡◌, subst, sym}
use Rattle.occ_term.specs.Sizes.{size_of}
use Rattle.occ_term.specs.View.{place_of, targets_of}
use Rattle.occ_check_meaning.specs.Actions.{as_input, tagged_list}
use Rattle.occ_check_meaning.specs.Numbers.{room}
use Rattle.occ_check_lines.specs.Action.{listed_of}
use Rattle.occ_check_lines.specs.View.{Counts, numbers_of}
use Rattle.occ_check.proofs.one_line.count_received.Goals as goal

pub returns-in-Tagged : goal.returns-in-Tagged
returns-in-Tagged c =
    let made : listed_of c.args.listed.now ≡ tagged_list c.in-Tagged.field-0 (targets_of c.as_slice-in-Tagged.result.now) = search rules in
    subst (λ l. Counts c.count_tagged_input.result c.count_tagged_input.new.numbers (room c.args.depth (size_of (as_input (place_of c.args.channel.now, l))) (numbers_of c.args.numbers.now))) (sym made)
    (c.count_tagged_input.ensures c.in-Tagged.field-0)
