-- Where letters stand.
use Rattle.std.specs.Prelude.{ℕ, List, take, ◌≤◌, ⊤}
use Rattle.std.specs.Arc.{arc_value}
use Rattle.occ_held.specs.declared.letters.Bytes.{Bytes}
use Rattle.occ_held.specs.declared.letters.Bytes.TheVariants.{Few, More}

abbrev pub letters_in : Bytes → List ℕ
letters_in (Few bytes len) = take len bytes
letters_in (More bytes) = (arc_value bytes).items

-- no more than there is room for
abbrev pub AreIn : Bytes → Type 0
AreIn (Few bytes len) = len ≤ 15
AreIn (More bytes) = ⊤
