use Rattle.std.proofs.Common.{◌≡◌, ◌∙◌, Bool, List, ap, length, map, min, subst, ℕ}
use Rattle.occ_choices.specs.Plans.{choices_of}
use Rattle.occ_ends.specs.Ends.{all_using, noted_for}
use Rattle.occ_net_replay.specs.Following.{AreBytes}
use Rattle.occ_net_replay.specs.declared.choice.Choice.{Choice}
use Rattle.occ_report.specs.Reports.{IsCircleOf}
use Rattle.occ_term.specs.UnfoldedProgram.{meaning}
use Rattle.occ_explaining.specs.ColumnNames.{column_names, left_out_of}
use Rattle.occ_explaining.specs.Explaining.{IsNamedChart}
use Rattle.occ_explaining.proofs.ChartsOfRuns.{are_bytes, run_chart}
use Rattle.occ_explaining.proofs.charted.chart_of.Goals as goal

pub returns : goal.returns
returns c = λ options source h.
    let studied = c.args.studied.now in
    let t = meaning h.unfolded in
    let keyboard = c.args.keyboard.now in
    let part = c.args.part in
    let only = c.args.only.now in
    let without = c.args.without.now in
    let list = choices_of c.in_ok-plan.plan in
    let bytes = c.in_ok-bytes.bytes.items in
    let names : List (List ℕ) = map (λ v. v.items) c.in_ok-names.names.items in
    let circle = c.in_ok-circle.circle.items in
    let keys : AreBytes keyboard = are_bytes keyboard (λ k. (c.type_inv.keyboard k).fits) in
    let uses : map noted_for c.as_slice-uses.result.now ≡ all_using t = ap (map noted_for) c.as_slice-uses.ensures.value ∙ h.uses in
    let are : names ≡ column_names studied.places (min (length studied.code.bodies) 4294967295) =
    c.in_ok-names.ensures ∙ ap (column_names studied.places) (c.min-count.ensures ∙ ap (λ n. min n 4294967295) c.len.ensures) in
    let left : c.as_slice-left.result.now ≡ left_out_of only without names =
    c.as_slice-left.ensures.value ∙ c.in_ok-chosen.ensures ∙ ap (λ vs. left_out_of only without (map (λ v. v.items) vs)) c.as_slice-heads.ensures.value in
    let drawn = c.in_ok-bytes.ensures in
    let chart = run_chart options source keyboard list (left_out_of only without names) part names circle bytes studied.code h.known.code keys (rw (left, c.as_slice-heads.ensures.value, c.as_slice-members.ensures.value) at drawn) in
    let named : IsNamedChart options source keyboard list part only without bytes = record {
      program = studied.code;
      known = studied.places;
      unfolded = h.unfolded;
      are = h.known;
      circle = circle;
      waits = c.in_ok-circle.ensures t uses;
      names = names;
      called = are;
      chart = chart;
    } in
    subst (λ (l : List Choice). IsNamedChart options source keyboard l part only without bytes) c.in_ok-plan.ensures named
