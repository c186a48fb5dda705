-- What is read from a trace, and what is put into it.
-- Manual: nothing; this is (own).
use Rattle.std.specs.Prelude.{List, [], ℕ, ◌++◌, ◌∷◌, ◌≡◌}
use Rattle.occ_term.specs.System.{communication}
use Rattle.occ_term.specs.declared.message.Message.{Message}
use Rattle.occ_term.specs.declared.message.Part.{Part}
use Rattle.occ_term.specs.declared.message.Part.TheVariants as part
use Rattle.occ_term.specs.declared.communication.Communication.{Communication}
use Rattle.occ_term.specs.declared.communication.End.{End}
use Rattle.occ_net_tables.specs.declared.messages.PartView.{PartView}
use Rattle.occ_net_tables.specs.declared.messages.PartView.TheVariants.{One, Many, Counted}

-- it stands behind the others
abbrev pub Pushes : List Communication → ℕ → End → End → Message → List Communication → Type 0
Pushes old c x y m new = new ≡ old ++ communication c x y m ∷ []

-- the item of which this is a view
abbrev pub part_viewed : PartView → Part
part_viewed (One type v) = part.One type v
part_viewed (Many type vs) = part.Many type vs.now
part_viewed (Counted type vs) = part.Counted type vs.now
