use Rattle.std.proofs.Common.{rules}
use Rattle.occ_check.proofs.GivenSubscripts.{head_and_rest, joined_later, refused_later}
use Rattle.occ_check.proofs.given.+all_evaluated.Goals as goal

pub returns-in_err-then : goal.returns-in_err-then
returns-in_err-then t c =
    let split = head_and_rest c.args.under c.remove-e.result c.remove-e.new.self c.remove-e.ensures.item c.remove-e.ensures.rest in
    let r =
    refused_later c.args.name.now c.args.depth c.in-Some.size.now c.remove-e.result c.remove-e.new.self c.args.under c.in-Some.rest.now c.args.sizes.now c.args.numbers.now
    c.one_evaluated.new.numbers c.in_ok-first.first split c.in-Some.ensures.cases.0 c.in_ok-first.ensures c.in_err-then.field-0.0 c.in_err-then.ensures in
    search rules

pub returns : goal.returns
returns t c =
    let split = head_and_rest c.args.under c.remove-e.result c.remove-e.new.self c.remove-e.ensures.item c.remove-e.ensures.rest in
    joined_later c.args.name.now c.args.depth c.in-Some.size.now c.remove-e.result c.remove-e.new.self c.args.under c.in-Some.rest.now c.args.sizes.now c.args.numbers.now
    c.one_evaluated.new.numbers c.in_ok-first.first split c.in-Some.ensures.cases.0 c.in_ok-first.ensures c.in_ok-then.then c.in_ok-joined.field-0 c.all_evaluated.new.numbers c.in_ok-then.ensures
    c.in_ok-joined.ensures.subscripts c.in_ok-joined.ensures.left c.in_ok-joined.ensures.heads
