-- The tags of the code, as the definitions have them.
-- Manual: nothing; this is (own).
use Rattle.std.specs.Prelude.{List, Option, [], ◌≡◌, ℕ, bytes_eq, reverse}
use Rattle.std.specs.Map.{lookup}
use Rattle.indexmap.specs.IndexMap.{keys}
use Rattle.occ_term.specs.declared.protocol.Protocol.{Protocol}
use Rattle.occ_term.specs.declared.protocol.Protocol.TheVariants.{Simple, CountedArray, Sequential, Variant}
use Rattle.occ_term.specs.declared.protocol.Tag.{Tag}
use Rattle.occ_check_meaning.specs.Actions.{new_tag}
use Rattle.occ_check_meaning.specs.Items.{tag_number}
use Rattle.occ_check_meaning.specs.Scope.{Name}
use Rattle.occ_check_lines.specs.declared.tags.Tags.{Tags}

abbrev pub tags_of : Protocol → List Tag
tags_of (Variant tags) = tags
tags_of (Simple sizes type) = []
tags_of (CountedArray count type) = []
tags_of (Sequential ps) = []

-- the number at a name
abbrev pub number_at : Name → List (Name × ℕ) → Option ℕ
number_at x es = lookup (bytes_eq x) es

-- each name has the number of the protocol's tag
abbrev pub AreTagsOf : Protocol → Tags → Type 0
AreTagsOf p t = (x : Name) → number_at x t.numbers.entries ≡ tag_number (tags_of p) x 0

-- the numbers that are listed, the last one first
abbrev pub listed_in : Tags → List ℕ
listed_in t = reverse (keys t.listed)

-- the number of a tag that is not listed before
abbrev pub next_tag : Protocol → Name → Tags → Option ℕ
next_tag p x t = new_tag p x (listed_in t)
