use Rattle.std.proofs.Common.{All, subst}
use Rattle.occ_play_inputs.specs.Paths.{IsUntyped, IsUnwritten}
use Rattle.occ_play_inputs.proofs.paths.paths_of.Goals as goal

pub invariant_of-result : goal.invariant_of-result
invariant_of-result c =
    let whole = c.as_slice-others.ensures.value in
    record {
      files_apart = c.are_apart.ensures c.if-not-are_apart.false;
      more_apart = subst (All (IsUnwritten c.get_str-record.result c.get_str-chart.result c.get_str-trace_to.result c.get_str-steps.result)) whole (c.are_unwritten.ensures c.if-not-are_unwritten.false);
      typed_unread = c.is_unread.ensures c.if-not-is_unread.false;
      typed_apart = c.has_own_file.ensures c.if-not-has_own_file.false;
      more_untyped = subst (All (IsUntyped c.get_str-typed.result)) whole (c.are_untyped.ensures c.if-not-are_untyped.false);
      page_apart = c.is_page_apart.ensures c.if-not-is_page_apart.false;
      more_unpaged = subst (All (IsUntyped c.get_str-page.result)) whole (c.are_untyped-else-not-is_page_apart.ensures c.if-not-are_untyped-2.false);
      graph_apart = c.is_graph_apart.ensures c.if-not-is_graph_apart.false;
      more_undrawn = subst (All (IsUntyped c.get_str-graph.result)) whole (c.are_undrawn.ensures c.if-not-are_undrawn.false);
    }
