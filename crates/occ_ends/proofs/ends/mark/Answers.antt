use Rattle.std.proofs.Common.{◌≡◌, ◌≤◌, ◌<◌, ◌+◌, ◌∙◌, ap, arith, inl, length, refl, sym, true, Some}
use Rattle.std.specs.Prelude.{option_map, slice_get, slice_set}
use Rattle.occ_net_replay.proofs.Tables.{set_other, set_same}
use Rattle.occ_explore_laws.proofs.Lists.{at_index, set_many}
use Rattle.occ_ends.specs.Ends.{marked}
use Rattle.occ_ends.proofs.Marking.{mark_end, mark_step}
use Rattle.occ_ends.proofs.ends.mark.Goals as goal

pub loop-chan-preserved : goal.loop-chan-preserved
loop-chan-preserved c =
    let (from, near, last, marks) = c.loop-chan.invariant in
    let old = c.args.ends.now.items in
    let now = c.loop-chan.ends.items in
    let chan = c.loop-chan.chan in
    let before : chan < c.min-last.result = c.loop-chan-test.true in
    let inside : chan < length now = let many = marks.as_many in omega (arith, before, last, many) in
    let there : slice_get now chan ≡ Some c.index.result.now = at_index now chan c.index.result.now inside c.index.ensures in
    let at : slice_get (slice_set now chan c.first_of.result) chan ≡ option_map (marked true c.args.number) (slice_get now chan) =
    set_same now chan c.index.result.now c.first_of.result there ∙ ap Some c.first_of.ensures ∙ sym (ap (option_map (marked true c.args.number)) there) in
    let step = mark_step old now (slice_set now chan c.first_of.result) c.args.first chan (chan + 1) c.args.number marks from refl at (λ k other. set_other now chan k c.first_of.result other) (set_many now chan c.first_of.result) in
    (omega (arith, from), inl (omega (arith, before, last)), last, step)

pub returns : goal.returns
returns c =
    let (from, near, last, marks) = c.loop-chan.invariant in
    let after : c.min-last.result ≤ c.loop-chan.chan = c.loop-chan-test.false in
    mark_end c.args.ends.now.items c.loop-chan.ends.items c.args.first c.loop-chan.chan c.args.end c.args.number marks from near (omega (arith, after, last))
