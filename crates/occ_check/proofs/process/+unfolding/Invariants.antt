use Rattle.std.proofs.Common.{◌≡◌, ◌+◌, ◌*◌, ◌≤◌, ◌+ℤ◌, ◌≤ℤ◌, pos, [], length, map, take}
use Rattle.occ_tree_grammar.specs.Processes.Trees.{nodes}
use Rattle.occ_tree_grammar.specs.Processes.Views.{arm_of, choice_of, process_of, selection_of, variant_of}
use Rattle.occ_term.specs.View.{arms_of, choices_of, options_of, term_of, variants_of, branch_of}
use Rattle.occ_check_meaning.specs.Actions.{none_chosen}
use Rattle.occ_check_lines.specs.Action.{chosen_of}
use Rattle.occ_check_meaning.specs.Recursion.{unfolded}
use Rattle.occ_check.specs.Opened.{left_weight, copy_for}
use Rattle.occ_check.specs.Weights.{node_size, nodes_size}
use Rattle.occ_check.specs.Progress.{counted, meant_at, weight_at}
use Rattle.occ_check.proofs.PartByPart.{Listed}
use Rattle.occ_check.proofs.Gathering.{Gathered}
use Rattle.occ_check.proofs.ChoiceLists.{choices_in, put_choices}
use Rattle.occ_check.proofs.ArmLists.{arms_in, put_arms}
use Rattle.occ_check.proofs.OptionLists.{options_in, put_options}
use Rattle.occ_check_lines.specs.Tags.{AreTagsOf, listed_in}
use Rattle.occ_check.proofs.VariantLists.{put_variants, variants_in}
use Rattle.occ_check.proofs.Beside.{branches_in, branch_one, branch_step, put_branch}
use Rattle.occ_check.proofs.InTurn.{in_turn, in_turn_one, in_turn_step, put_term}
use Rattle.occ_tree_grammar.specs.Lines.Views.{replicator_of}
use Rattle.occ_check_meaning.specs.Performing.{copied}
use Rattle.occ_check.proofs.CopyLists.{Copied}
use Rattle.occ_check.proofs.process.+unfolding.Given as goal

abbrev pub decreases-process_unfolded : goal.decreases-process_unfolded
decreases-process_unfolded l = 4 * (node_size (process_of l.process.now) + weight_at l.unfolder.now l.here.at)

abbrev pub decreases-performed : goal.decreases-performed
decreases-performed l = 4 * left_weight l.unfolder.now l.opened + 2

abbrev pub decreases-in_turn : goal.decreases-in_turn
decreases-in_turn l = 4 * (nodes_size (nodes (map process_of l.processes.now)) + weight_at l.unfolder.now l.here.at) + 1

abbrev pub invariant-process_unfolded-calls : goal.invariant-process_unfolded-calls
invariant-process_unfolded-calls l =
    (unfolded (process_of l.process) (meant_at l.fn.unfolder l.fn.here.at) l.fn.here.depth (counted l.fn.unfolder) ≡ unfolded (process_of l.body) (meant_at l.unfolder l.place.at) l.place.depth (counted l.unfolder))
    × (take (length l.fn.unfolder.blocks.blocks.items) l.unfolder.blocks.blocks.items ≡ l.fn.unfolder.blocks.blocks.items)
    × (node_size (process_of l.body) + weight_at l.unfolder l.place.at ≤ node_size (process_of l.process) + weight_at l.fn.unfolder l.fn.here.at)
    × (l.place.depth ≤ 200)

abbrev pub decreases-process_unfolded-calls : goal.decreases-process_unfolded-calls
decreases-process_unfolded-calls l = node_size (process_of l.body) + weight_at l.unfolder l.place.at

abbrev pub invariant-in_turn-loop-process : goal.invariant-in_turn-loop-process
invariant-in_turn-loop-process l =
    Listed (in_turn (meant_at l.fn.unfolder l.here.at) l.here.depth) (in_turn_one (meant_at l.fn.unfolder l.here.at) l.here.depth) put_term (in_turn_step (meant_at l.fn.unfolder l.here.at) l.here.depth)
    (in_turn (meant_at l.fn.unfolder l.here.at) l.here.depth l.processes (counted l.fn.unfolder)) l.processes l.process-index (map term_of l.terms) (counted l.unfolder)
    × (l.unfolder.blocks.blocks.items ≡ l.fn.unfolder.blocks.blocks.items)

abbrev pub decreases-beside : goal.decreases-beside
decreases-beside l = 4 * (nodes_size (nodes (map process_of l.processes.now)) + weight_at l.unfolder.now l.here.at) + 1

abbrev pub invariant-beside-loop-process : goal.invariant-beside-loop-process
invariant-beside-loop-process l =
    Listed (branches_in (meant_at l.fn.unfolder l.here.at) l.here.depth) (branch_one (meant_at l.fn.unfolder l.here.at) l.here.depth) put_branch (branch_step (meant_at l.fn.unfolder l.here.at) l.here.depth)
    (branches_in (meant_at l.fn.unfolder l.here.at) l.here.depth l.processes (counted l.fn.unfolder)) l.processes l.process-index (map branch_of l.branches) (counted l.unfolder)
    × (l.unfolder.blocks.blocks.items ≡ l.fn.unfolder.blocks.blocks.items)

-- ---- the choices of an IF

abbrev pub decreases-choices_unfolded : goal.decreases-choices_unfolded
decreases-choices_unfolded l = 4 * (nodes_size (nodes (map choice_of l.list.now)) + weight_at l.unfolder.now l.here.at) + 1

abbrev pub invariant-choices_unfolded-loop-choice : goal.invariant-choices_unfolded-loop-choice
invariant-choices_unfolded-loop-choice l =
    Gathered (choices_in (meant_at l.fn.unfolder l.here.at) l.here.depth) put_choices (choices_in (meant_at l.fn.unfolder l.here.at) l.here.depth l.list (counted l.fn.unfolder)) l.list l.choice-index (choices_of l.choices) (counted l.unfolder)
    × (l.unfolder.blocks.blocks.items ≡ l.fn.unfolder.blocks.blocks.items)

-- ---- the options of a CASE

abbrev pub decreases-options_unfolded : goal.decreases-options_unfolded
decreases-options_unfolded l = 4 * (nodes_size (nodes (map selection_of l.selections.now)) + weight_at l.unfolder.now l.here.at) + 1

abbrev pub invariant-options_unfolded-loop-selection : goal.invariant-options_unfolded-loop-selection
invariant-options_unfolded-loop-selection l =
    Gathered (options_in l.primitive (meant_at l.fn.unfolder l.here.at) l.here.depth) put_options (options_in l.primitive (meant_at l.fn.unfolder l.here.at) l.here.depth l.selections (none_chosen, counted l.fn.unfolder))
    l.selections l.selection-index (options_of l.options) (chosen_of l.chosen, counted l.unfolder)
    × (l.unfolder.blocks.blocks.items ≡ l.fn.unfolder.blocks.blocks.items)

-- ---- inputs of variants

abbrev pub decreases-variants_unfolded : goal.decreases-variants_unfolded
decreases-variants_unfolded l = 4 * (nodes_size (nodes (map variant_of l.list.now)) + weight_at l.unfolder.now l.here.at) + 1

abbrev pub invariant-variants_unfolded-loop-variant : goal.invariant-variants_unfolded-loop-variant
invariant-variants_unfolded-loop-variant l =
    Gathered (variants_in l.protocol (meant_at l.fn.unfolder l.here.at) l.here.depth) put_variants (variants_in l.protocol (meant_at l.fn.unfolder l.here.at) l.here.depth l.list ([], counted l.fn.unfolder))
    l.list l.variant-index (variants_of l.variants) (listed_in l.tags, counted l.unfolder)
    × (l.unfolder.blocks.blocks.items ≡ l.fn.unfolder.blocks.blocks.items) × AreTagsOf l.protocol l.tags

-- ---- the copies of a replicated PAR

abbrev pub decreases-copies_unfolded : goal.decreases-copies_unfolded
decreases-copies_unfolded l = 4 * (node_size (process_of l.body.now) + weight_at l.unfolder.now l.here.at) + 1

abbrev pub invariant-copies_unfolded-copies : goal.invariant-copies_unfolded-copies
invariant-copies_unfolded-copies l =
    Copied (copy_for (replicator_of l.replicator) (process_of l.body) (meant_at l.fn.unfolder l.here.at) l.here.depth)
    (copied (copy_for (replicator_of l.replicator) (process_of l.body) (meant_at l.fn.unfolder l.here.at) l.here.depth) l.count l.first (counted l.fn.unfolder)) l.left l.value (map branch_of l.branches) (counted l.unfolder)
    × (l.unfolder.blocks.blocks.items ≡ l.fn.unfolder.blocks.blocks.items)
    × ((l.value +ℤ pos l.left) ≤ℤ pos 2147483648)

abbrev pub decreases-copies_unfolded-copies : goal.decreases-copies_unfolded-copies
decreases-copies_unfolded-copies l = l.left

-- ---- the arms of an ALT

abbrev pub decreases-arms_unfolded : goal.decreases-arms_unfolded
decreases-arms_unfolded l = 4 * (nodes_size (nodes (map arm_of l.list.now)) + weight_at l.unfolder.now l.here.at) + 1

abbrev pub invariant-arms_unfolded-loop-arm : goal.invariant-arms_unfolded-loop-arm
invariant-arms_unfolded-loop-arm l =
    Gathered (arms_in (meant_at l.fn.unfolder l.here.at) l.here.depth) put_arms (arms_in (meant_at l.fn.unfolder l.here.at) l.here.depth l.list (counted l.fn.unfolder)) l.list l.arm-index (arms_of l.arms) (counted l.unfolder)
    × (l.unfolder.blocks.blocks.items ≡ l.fn.unfolder.blocks.blocks.items)
