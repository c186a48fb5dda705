use Rattle.std.proofs.Common.{◌≡◌, ℕ, List, length}
use Rattle.occ_choices.specs.Plans.{choices_of}
use Rattle.occ_net_tables.specs.Rows.{kept_more}
use Rattle.occ_net_tables.proofs.running.keep_row.Given as goal

abbrev pub invariant-loop-more : goal.invariant-loop-more
invariant-loop-more l = (ready : List ℕ) → length ready ≡ 1 → l.kept.items ≡ kept_more l.keep ready (choices_of l.plan) (length l.initial.kept.items) l.initial.kept.items l._more
