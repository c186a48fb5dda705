-- The files that a source is made of, as they are told.
-- Manual: nothing; this is (own).
use Rattle.std.specs.Prelude.{List, [], codes, get_or, map, suc, zero, ℕ, ◌+◌, ◌++◌, ◌∷◌}
use Rattle.std.specs.Fmt.{decimal}
use Rattle.occ_explaining.specs.declared.files.Files.{Files}
use Rattle.occ_files.specs.Names.{printed_name}
use Rattle.occ_files.specs.Sources.{place_in_files}

-- the name of the first, those of the others, and where each but the last one ends
pub record SourceFiles : Type 0 where
  pub first : List ℕ
  pub more : List (List ℕ)
  pub ends : List ℕ

abbrev pub files_of : Files → SourceFiles
files_of f = record { first = f.first.now; more = map (λ m. m.now) f.more.now; ends = f.ends.now }

-- the name of a file by its number from 0
abbrev pub name_numbered : (first : List ℕ) → (more : List (List ℕ)) → ℕ → List ℕ
name_numbered first more zero = first
name_numbered first more (suc n) = get_or more n first

abbrev pub file_name : SourceFiles → ℕ → List ℕ
file_name f n = name_numbered f.first f.more n

-- the file in which a line of the source stands, and the line's number in it
abbrev pub place_told : SourceFiles → ℕ → List ℕ × ℕ
place_told f line = (file_name f (place_in_files 0 0 f.ends line).0, (place_in_files 0 0 f.ends line).1)

-- ---- where they begin

-- in which line of the source a file begins that has so many lines before it
abbrev pub beginning : (name : List ℕ) → (before : ℕ) → List ℕ
beginning name before = printed_name name ++ (codes " begins at line " ++ decimal (before + 1) ++ codes "\n")

-- the same of each of these files
abbrev pub beginnings_after : (names : List (List ℕ)) → (ends : List ℕ) → List ℕ
beginnings_after [] ends = []
beginnings_after (name ∷ names) [] = []
beginnings_after (name ∷ names) (end ∷ ends) = beginning name end ++ beginnings_after names ends

abbrev pub later_beginnings : SourceFiles → List ℕ
later_beginnings f = beginnings_after f.more f.ends

-- of all files, where there are several
abbrev pub beginnings_of : (first : List ℕ) → (more : List (List ℕ)) → (ends : List ℕ) → List ℕ
beginnings_of first [] ends = []
beginnings_of first (name ∷ names) ends = beginning first 0 ++ beginnings_after (name ∷ names) ends

abbrev pub beginnings : SourceFiles → List ℕ
beginnings f = beginnings_of f.first f.more f.ends
