-- What a folder has after a file was written into it.
-- Manual: nothing; this is (own).
use Rattle.std.specs.Prelude.{List, None, Option, Some, [], take, ℕ, ◌++◌, ◌∷◌, ◌≡◌, ⊤}

-- the path of a file, and what was written into it
abbrev pub Written : Type 0
Written = List ℕ × List ℕ

-- where it is known what was written, nothing more was
abbrev pub LeavesNothing : Option (List Written) → Option (List Written) → Type 0
LeavesNothing None new = ⊤
LeavesNothing (Some files) None = ⊥
LeavesNothing (Some files) (Some more) = more ≡ files

-- these files were, in this order, and nothing else
abbrev pub LeavesAll : Option (List Written) → Option (List Written) → List Written → Type 0
LeavesAll None new added = ⊤
LeavesAll (Some files) None added = ⊥
LeavesAll (Some files) (Some more) added = more ≡ files ++ added

-- this one was
abbrev pub LeavesOne : Option (List Written) → Option (List Written) → (path text : List ℕ) → Type 0
LeavesOne old new path text = LeavesAll old new ((path, text) ∷ [])

-- one was, with such a text
pub record LeavesText (Is : List ℕ → Type 0) (old new : Option (List Written)) (path : List ℕ) : Type 0 where
  pub text : List ℕ
  pub is : Is text
  pub left : LeavesOne old new path text

-- ---- of a folder, and what is written into it

-- these files were
abbrev pub AddsFiles : {F : Type 0} → (F → Option (List Written)) → (old new : F) → List Written → Type 0
AddsFiles left old new files = LeavesAll (left old) (left new) files

-- some of these, from the first one on
abbrev pub AddsSome : {F : Type 0} → (F → Option (List Written)) → (old new : F) → List Written → Type 0
AddsSome left old new files = (n : ℕ) × AddsFiles left old new (take n files)
