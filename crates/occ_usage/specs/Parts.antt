-- What parts of a term use, as the code has them, and that it has noted this.
-- Manual: the usage rules check list.
use Rattle.std.specs.Prelude.{List, OnOk, Option, Result, map}
use Rattle.occ_term.specs.declared.expression.Array.{Array}
use Rattle.occ_term.specs.declared.expression.Item.{Item}
use Rattle.occ_term.specs.declared.expression.Place.{Place}
use Rattle.occ_term.specs.declared.expression.Target.{Target}
use Rattle.occ_term.specs.declared.expression.TermExpr.{TermExpr}
use Rattle.occ_term.specs.Terms.{tested}
use Rattle.occ_term.specs.Uses.{Uses, with_use, reading, inputting, outputting, only, union, named_by, reads_of, reads_of_array, reads_in_place, reads_in_subscripts, reads_of_items, written_place, input_place, output_place, uses_of_targets}
use Rattle.occ_term.specs.View.{array_of, expression_of, items_of, place_of, subscripts, targets_of, test_of}
use Rattle.occ_usage.specs.declared.noted.Kind.{Kind}
use Rattle.occ_usage.specs.declared.noted.Noted.{Noted}
use Rattle.occ_usage.specs.Noted.{Adds, use_of}

-- behind the uses that were noted before, these are noted now, unless memory ran out
abbrev pub NotesUses : {X E : Type 0} → Result X E → (old new : Noted) → Uses → Type 0
NotesUses result old new more = OnOk result (Adds old.uses more new.uses)

-- what the place names is used so
abbrev pub place_named : Kind → Place → Uses
place_named kind p = use_of kind (named_by (place_of p))

-- and what its subscripts read
abbrev pub place_used : Kind → Place → Uses
place_used kind p = with_use (place_named kind p) (reading (reads_in_place (place_of p)))

abbrev pub written_to : Place → Uses
written_to p = written_place (place_of p)

abbrev pub input_from : Place → Uses
input_from channel = input_place (place_of channel)

abbrev pub output_to : Place → Uses
output_to channel = output_place (place_of channel)

abbrev pub targets_written : List Target → Uses
targets_written ts = uses_of_targets (targets_of ts)

abbrev pub items_read : List Item → Uses
items_read is = reading (reads_of_items (items_of is))

-- an arm without a Boolean reads nothing for it
abbrev pub test_read : Option TermExpr → Uses
test_read test = reading (reads_of (tested (test_of test)))

-- what reading a place's value reads: what it names, and what its subscripts read
abbrev pub value_read : Place → Uses
value_read p = reading (union (named_by (place_of p)) (reads_in_place (place_of p)))

abbrev pub subscripts_read : List TermExpr → Uses
subscripts_read es = reading (reads_in_subscripts (subscripts (map expression_of es)))

abbrev pub counted_read : TermExpr → Array → Uses
counted_read count array = reading (union (reads_of (expression_of count)) (reads_of_array (array_of array)))

-- what an assignment uses, and an input
abbrev pub assigned : List Item → List Target → Uses
assigned values targets = with_use (items_read values) (targets_written targets)

abbrev pub input_to : Place → List Target → Uses
input_to channel targets = with_use (input_from channel) (targets_written targets)

-- what stands beside the program uses: the keyboard outputs on channel 0, the screen inputs on 1, the error channel's sink on 2
abbrev pub used_beside : Uses
used_beside = with_use (outputting (only 0)) (with_use (inputting (only 1)) (inputting (only 2)))
