-- Which choices the words of the command line ask for.
-- Manual: nothing; this is (own).
use Rattle.std.specs.Prelude.{Bool, List, [], None, Option, Some, false, length, suc, true, ℕ, ⊤, ◌++◌, ◌∷◌, ◌+◌, ◌<◌, ◌≡◌}
use Rattle.occ_choices.specs.Lines.{ChoiceLines}
use Rattle.occ_choices.specs.Plans.{choices_of}
use Rattle.occ_choices.specs.declared.plan.Plan.{Plan}
use Rattle.occ_choices.specs.declared.plan.Plan.TheVariants.{Turns}
use Rattle.occ_play_inputs.specs.declared.inputs.Inputs.{Inputs}
use Rattle.occ_play_inputs.specs.declared.inputs.Joined.{Joined}
use Rattle.occ_play_inputs.specs.declared.words.Words.{Words}
use Rattle.occ_play_inputs.specs.Seeds.{seeded}
use Rattle.occ_files.specs.Sources.{ended, ends_of, joined, line_feeds}

-- one of so many seeds, and as many choices of it as the limit has
pub record IsSeeded (limit seed tries : ℕ) (plan : Plan) : Type 0 where
  pub place : ℕ
  pub within : place < tries
  pub choices : choices_of plan ≡ seeded (seed + place) limit

-- those of the text of a file, those of a seed, or as many turns as the limit has
abbrev pub IsAsked : {Path : Type 0} → ℕ → Option Path → Option ℕ → ℕ → Plan → Type 0
IsAsked limit (Some path) seed tries plan = (text : List ℕ) × ChoiceLines text (choices_of plan)
IsAsked limit None (Some seed) tries plan = IsSeeded limit seed tries plan
IsAsked limit None None tries plan = plan ≡ Turns limit

abbrev pub IsAskedBy : Words → Plan → Type 0
IsAskedBy words plan = IsAsked words.limit words.choices words.seed words.tries plan

-- nothing is typed where no file is named, since standard input is the source then, nor where it is not wanted
abbrev pub IsTyped : {Path : Type 0} → Option Path → (wanted : Bool) → List ℕ → Type 0
IsTyped (Some path) true keyboard = ⊤
IsTyped (Some path) false keyboard = keyboard ≡ []
IsTyped None wanted keyboard = keyboard ≡ []

-- what is typed is all that a keyboard has where it is wanted, and else nothing
abbrev pub IsKeyboard : (wanted : Bool) → (keys typed : List ℕ) → Type 0
IsKeyboard true keys typed = typed ≡ keys
IsKeyboard false keys typed = typed ≡ []

-- ---- the source

-- The joined texts of so many files, one byte more of them at most than a source may have; and the last lines of all but the last file.
pub record IsJoinOf (count : ℕ) (bytes ends : List ℕ) : Type 0 where
  pub texts : List (List ℕ)
  pub each : length texts ≡ count
  pub are : bytes ≡ joined 1048577 [] texts
  pub lines : ends ≡ ends_of 1048577 [] texts

-- one file, or standard input, and so many further files
abbrev pub IsJoinFor : {Path : Type 0} → Option Path → List Path → (bytes ends : List ℕ) → Type 0
IsJoinFor None more bytes ends = IsJoinOf 1 bytes ends
IsJoinFor (Some path) more bytes ends = IsJoinOf (suc (length more)) bytes ends

abbrev pub IsJoin : ℕ → Joined → Type 0
IsJoin count source = IsJoinOf count source.bytes.items source.ends.items

abbrev pub IsSourceBy : Words → Joined → Type 0
IsSourceBy words source = IsJoinFor words.file words.more.items source.bytes.items source.ends.items

-- of what is played
abbrev pub IsSourceIn : Words → Inputs → Type 0
IsSourceIn words inputs = IsJoinFor words.file words.more.items inputs.source.items inputs.ends.items

-- where the text so far ends
abbrev pub NotesEnd : (old new : Joined) → Type 0
NotesEnd old new = new.ends.items ≡ old.ends.items ++ line_feeds (ended old.bytes.items) ∷ []

-- this text more
abbrev pub PutsBehind : (old new : Joined) → (text : List ℕ) → Type 0
PutsBehind old new text = new.bytes.items ≡ joined 1048577 old.bytes.items (text ∷ [])

-- one text more
abbrev pub PutsSome : (old new : Joined) → Type 0
PutsSome old new = (text : List ℕ) × PutsBehind old new text
