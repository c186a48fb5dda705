-- The PROCs that no call reaches, as they are told.
-- Manual: nothing; this is (own).
use Rattle.std.specs.Prelude.{Bool, List, [], codes, false, if◌then◌else◌, length, map, true, ℕ, ⊤, ◌==◌, ◌++◌, ◌+◌, ◌*◌, ◌∷◌, ◌≡◌}
use Rattle.std.specs.Fmt.{decimal}
use Rattle.occ_explaining.specs.Files.{SourceFiles, files_of, place_told}
use Rattle.occ_explaining.specs.declared.files.Files.{Files}
use Rattle.occ_files.specs.Names.{printed_name}
use Rattle.occ_shown.specs.Objects.{number, text, exactly, object_json}
use Rattle.occ_play.specs.Playing.{RefusesText}
use Rattle.occ_play.specs.declared.fault.PlayFault.{PlayFault}
use Rattle.occ_play.specs.declared.fault.PlayFault.TheVariants as play
use Rattle.occ_explaining.specs.Reach.{AreUnreached, FirstLine, unchecked_head}
use Rattle.occ_explaining.specs.declared.unchecked.Unchecked.{Unchecked}
use Rattle.occ_text.specs.Lines.{LinesOf}
use Rattle.occ_text.specs.Words.{LogicalLine}

-- a file, where there are several
abbrev pub file_told : SourceFiles → List ℕ → List ℕ
file_told files name = if length files.more == 0 then [] else printed_name name ++ codes ", "

-- in words
abbrev pub in_words : SourceFiles → FirstLine → List ℕ
in_words files h =
    codes "not checked: " ++ h.name ++ codes ", " ++ file_told files (place_told files h.line).0
    ++ (codes "line " ++ decimal (place_told files h.line).1 ++ codes ": no call reaches it\n")

-- as an object of JSON, whose place is the word PROC
abbrev pub as_object : SourceFiles → FirstLine → List ℕ
as_object files h = object_json (codes "unchecked") (
    (codes "file", exactly (place_told files h.line).0) ∷ (codes "line", number (place_told files h.line).1) ∷ (codes "column", number (2 * h.level + 1))
    ∷ (codes "end", number (2 * h.level + 1 + 4)) ∷ (codes "name", text h.name) ∷ (codes "text", text (codes "no call reaches it")) ∷ [])

abbrev pub told_line : SourceFiles → (json : Bool) → FirstLine → List ℕ
told_line files false h = in_words files h
told_line files true h = as_object files h

abbrev pub told_lines : SourceFiles → (json : Bool) → List FirstLine → List ℕ
told_lines files json [] = []
told_lines files json (h ∷ hs) = told_line files json h ++ told_lines files json hs

-- of the PROCs of a source that no call reaches from the last one
pub record TellsUnreached (source : List ℕ) (files : SourceFiles) (json : Bool) (told : List ℕ) : Type 0 where
  pub lines : List LogicalLine
  pub reads : LinesOf source lines
  pub heads : List FirstLine
  pub are : AreUnreached lines heads
  pub is : told ≡ told_lines files json heads

-- as the code has them
abbrev pub told_procs : Files → (json : Bool) → List Unchecked → List ℕ
told_procs files json procs = told_lines (files_of files) json (map unchecked_head procs)

-- the source has no logical lines, or memory was refused
abbrev pub RefusesToTell : (source : List ℕ) → PlayFault → Type 0
RefusesToTell source (play.Memory e) = ⊤
RefusesToTell source fault = RefusesText source fault
