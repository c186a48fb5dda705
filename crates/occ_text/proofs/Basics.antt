-- Steps of reading that were made, and what they took.
use Rattle.std.proofs.Common.{◌≡◌, ℕ, ◌-◌, Bool, true, false, cond, List, ◌∷◌, ◌++◌, length, drop, Option, Some, None, refl, arith, ◌⊎◌, inl, inr}
use Rattle.std.proofs.lemmas.List.{drop_at, length-append}
use Rattle.occ_text.specs.Reading.{◌>>=◌, guard}

-- the value of a step that was made
pub bind_some : {A B : Type 0} (r : Option A) (f : A → Option B) (y : B) → (r >>= f) ≡ Some y → (x : A) × (r ≡ Some x) × (f x ≡ Some y)
bind_some (Some x) f y e = (x, refl, e)
bind_some None f y e = absurd cc

abbrev some : {A : Type 0} → A → Option A
some x = Some x

pub some_is : {A : Type 0} (x y : A) → some x ≡ some y → x ≡ y
some_is x y e = cc

pub guard_some : {A : Type 0} (b : Bool) (x y : A) → guard b x ≡ Some y → (b ≡ true) × (x ≡ y)
guard_some true x y e = (refl, cc)
guard_some false x y e = absurd cc

-- which way a test went
pub chosen : {A : Type 0} (b : Bool) (x y z : A) → cond b x y ≡ z → ((b ≡ true) × (x ≡ z)) ⊎ ((b ≡ false) × (y ≡ z))
chosen true x y z e = inl (refl, e)
chosen false x y z e = inr (refl, e)

-- a front of one byte and more is taken from the bytes, and the rest follows
pub record Takes (bytes rest : List ℕ) : Type 0 where
  pub first : ℕ
  pub front : List ℕ
  pub whole : bytes ≡ first ∷ (front ++ rest)

pub tails : (a b : ℕ) (s t : List ℕ) → a ∷ s ≡ b ∷ t → s ≡ t
tails a b s t e = cc

-- so many bytes behind the first one the rest begins
pub drop_taken : (b : ℕ) (tail rest : List ℕ) → Takes (b ∷ tail) rest → drop (length tail - length rest) tail ≡ rest
drop_taken b tail rest t =
    let e : tail ≡ t.front ++ rest = tails b t.first tail (t.front ++ rest) t.whole in
    rw e (drop_at t.front rest _ (omega (arith, length-append t.front rest)))
