-- What a look at a source finds, as it is told.
-- Manual: nothing; this is (own).
use Rattle.std.specs.Prelude.{Bool, List, None, Option, Some, [], false, true, ℕ, ◌≡◌, ◌⊎◌}
use Rattle.occ_explaining.specs.Explaining.{refusal_in}
use Rattle.occ_explaining.specs.Objects.{TellsObjectOf}
use Rattle.occ_explaining.specs.Unreached.{TellsUnreached}
use Rattle.occ_play.specs.declared.fault.PlayFault.{PlayFault}
use Rattle.occ_play_inputs.specs.declared.inputs.Joined.{Joined}
use Rattle.occ_play_inputs.specs.declared.words.Words.{Words}
use Rattle.occ_program.specs.Explained.{files_in}

-- the object of a refusal, and nothing for any other fault
abbrev pub TellsRefused : Words → Joined → PlayFault → List ℕ → Type 0
TellsRefused words source fault text =
    TellsObjectOf source.bytes.items (files_in words source.ends.items) (refusal_in fault) (Some text)
    ⊎ (TellsObjectOf source.bytes.items (files_in words source.ends.items) (refusal_in fault) None × (text ≡ []))

-- that, where objects are asked for
abbrev pub TellsRefusedIn : (json : Bool) → Words → Joined → PlayFault → List ℕ → Type 0
TellsRefusedIn true words source fault text = TellsRefused words source fault text
TellsRefusedIn false words source fault text = text ≡ []

-- of an accepted source the PROCs that no call reaches
abbrev pub TellsUnreachedIn : Words → Joined → List ℕ → Type 0
TellsUnreachedIn words source text = TellsUnreached source.bytes.items (files_in words source.ends.items) words.json text

abbrev pub TellsFound : Words → Joined → Option PlayFault → List ℕ → Type 0
TellsFound words source None text = TellsUnreachedIn words source text
TellsFound words source (Some fault) text = TellsRefusedIn words.json words source fault text
