-- Texts that come piece by piece.
-- Manual: nothing; this is (own).
use Rattle.std.specs.Prelude.{List, Option, ℕ, ◌++◌, ◌≡◌}
use Rattle.std.specs.Io.KnownBytes.{Appends}

-- A piece went behind these bytes. Behind it stands what is left now, and the two are what was left before.
pub record AddsNext {S : Type 0} (is_left : S → List ℕ → Type 0) (old new : S) (before after : List ℕ) : Type 0 where
  pub piece : List ℕ
  pub added : after ≡ before ++ piece
  pub so : (rest : List ℕ) → is_left new rest → is_left old (piece ++ rest)

-- there is such a text
abbrev pub IsSomeText : (List ℕ → Type 0) → Type 0
IsSomeText Is = (text : List ℕ) × Is text

-- what was left went behind the bytes that a writer has
pub record AppendsText {W S : Type 0} (contents : W → Option (List ℕ)) (is_left : S → List ℕ → Type 0) (old new : W) (pieces : S) : Type 0 where
  pub text : List ℕ
  pub is : is_left pieces text
  pub appended : Appends (contents old) (contents new) text

-- ---- in the middle of it; private contracts alone cite what follows

-- some of it is written, and these bytes are held
pub record IsWriting {S : Type 0} (is_left : S → List ℕ → Type 0) (first now : Option (List ℕ)) (old new : S) (held : List ℕ) : Type 0 where
  pub done : List ℕ
  pub written : Appends first now done
  pub so : (rest : List ℕ) → is_left new rest → is_left old ((done ++ held) ++ rest)

-- some of the bytes that are held are written, and the others are still held
pub record WritesSome (old new : Option (List ℕ)) (held left : List ℕ) : Type 0 where
  pub done : List ℕ
  pub written : Appends old new done
  pub is : held ≡ done ++ left
