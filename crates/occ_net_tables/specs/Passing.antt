-- The next communication on a channel, where those before it are passed over.
-- Manual: nothing; this is (own).
use Rattle.std.specs.Prelude.{List, Some, [], drop, slice_get, take, ℕ, ⊤, ◌++◌, ◌∷◌, ◌≡◌, ◌≢◌}
use Rattle.occ_term.specs.declared.communication.Communication.{Communication}
use Rattle.occ_net_tables.specs.Kept.{communications_from}
use Rattle.occ_net_tables.specs.declared.pieces.Pieces.{Pieces}
use Rattle.occ_net_tables.specs.declared.shapes.Head.{Head}

-- none of them is on the channel
abbrev pub AreElsewhere : ℕ → List Communication → Type 0
AreElsewhere c [] = ⊤
AreElsewhere c (x ∷ xs) = (x.chan ≢ c) × AreElsewhere c xs

-- this is the first of them on the channel, and these stand behind it
pub record FindsNext (c : ℕ) (old : List Communication) (x : Communication) (new : List Communication) : Type 0 where
  pub passed : List Communication
  pub elsewhere : AreElsewhere c passed
  pub there : old ≡ passed ++ x ∷ new
  pub on : x.chan ≡ c

-- ---- private contracts alone cite what follows

-- none of them is of a communication on the channel
abbrev pub HeadsElsewhere : ℕ → List Head → Type 0
HeadsElsewhere c [] = ⊤
HeadsElsewhere c (h ∷ hs) = (h.chan ≢ c) × HeadsElsewhere c hs

-- the first that is of one stands at this place
pub record IsFirstOn (c : ℕ) (hs : List Head) (place : ℕ) : Type 0 where
  pub head : Head
  pub at : slice_get hs place ≡ Some head
  pub on : head.chan ≡ c
  pub elsewhere : HeadsElsewhere c (take place hs)

-- whatever the heads are, these are what stands from behind so many of their messages on
abbrev pub ArePassed : ℕ → (old new : Pieces) → Type 0
ArePassed count old new = (hs : List Head) → communications_from (drop count hs) new ≡ drop count (communications_from hs old)
