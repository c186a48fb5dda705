use Rattle.std.proofs.Common.{◌∙◌, ap, sym}
use Rattle.std.specs.Prelude.{not}
use Rattle.indexmap.specs.IndexMap.{keys}
use Rattle.occ_check_lines.specs.Tags.{listed_in, number_at}
use Rattle.occ_check_lines.proofs.Among.{number_told}
use Rattle.occ_check_lines.proofs.TagLists.{listed_before, listed_now}
use Rattle.occ_check_lines.proofs.tags.Tags.next.Goals as goal

pub returns-then-added-clause-tag : goal.returns-then-added-clause-tag
returns-then-added-clause-tag c =
    let lacks = number_told c.in_ok-tag.tag (keys c.args.self.now.listed) c.in_ok-added.added c.in_ok-added.ensures.added ∙ ap not c.if-added.true in
    λ p are. listed_now p c.args.name.now (listed_in c.args.self.now) c.in-Some.number.now (number_at c.args.name.now c.args.self.now.numbers.entries)
    (sym c.in-Some.ensures.value) (are c.args.name.now) c.in_ok-tag.tag c.in_ok-tag.ensures lacks

pub returns-else-added-clause-tag : goal.returns-else-added-clause-tag
returns-else-added-clause-tag c =
    let has = number_told c.in_ok-tag.tag (keys c.args.self.now.listed) c.in_ok-added.added c.in_ok-added.ensures.added ∙ ap not c.if-added.false in
    λ p are. listed_before p c.args.name.now (listed_in c.args.self.now) c.in-Some.number.now (number_at c.args.name.now c.args.self.now.numbers.entries)
    (sym c.in-Some.ensures.value) (are c.args.name.now) c.in_ok-tag.tag c.in_ok-tag.ensures has
