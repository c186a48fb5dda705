-- Reading from the front of a list, and reading as many of one kind as there are.
-- Manual: nothing; this is (own).
use Rattle.std.specs.Prelude.{ℕ, zero, suc, List, [], ◌∷◌, length, Option, Some, None}

infixl 10 ◌>>=◌
abbrev pub ◌>>=◌ : {A B : Type 0} → Option A → (A → Option B) → Option B
(Some x) >>= f = f x
None >>= f = None

-- what stands at the front, and what comes after it; None where nothing of the kind stands there
abbrev pub Reader : Type 0 → Type 0 → Type 0
Reader W A = List W → Option (A × List W)

-- nothing may follow
abbrev pub ended : {A W : Type 0} → A → List W → Option A
ended a [] = Some a
ended a (w ∷ ws) = None

abbrev pub many_step : {W A : Type 0} → Reader W A → Reader W (List A) → Option (List W) → Reader W (List A)
many_step read others None ws = Some ([], ws)
many_step read others (Some after) ws = do
  a ← read after
  rest ← others a.1
  Some (a.0 ∷ rest.0, rest.1)

-- at most so many, each where next says that another one starts
unfoldable pub many : {W A : Type 0} → (List W → Option (List W)) → Reader W A → ℕ → Reader W (List A)
many next read zero ws = Some ([], ws)
many next read (suc n) ws = many_step read (many next read n) (next ws) ws

-- as many as there are
abbrev pub as_many : {W A : Type 0} → (List W → Option (List W)) → Reader W A → Reader W (List A)
as_many next read ws = many next read (length ws) ws
