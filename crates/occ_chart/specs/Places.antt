-- Where the columns of a chart stand.
-- Manual: nothing; this is (own).
use Rattle.std.specs.Prelude.{All, Bool, List, [], false, if◌then◌else◌, length, max, min, nat_eq, nat_lt, slice_get, unwrap_or, ℕ, ◌%◌, ◌&&◌, ◌*◌, ◌+◌, ◌-◌, ◌/◌, ◌<◌, ◌∷◌, ◌≡◌, ◌≤◌, ◌^◌}
use Rattle.std.specs.Option.{option_map_or}
use Rattle.occ_term.specs.declared.communication.End.{End}
use Rattle.occ_term.specs.Runs.{Entry}
use Rattle.occ_chart.specs.declared.reaches.Reach.{Reach}
use Rattle.occ_chart.specs.Columns.{column_of}
use Rattle.occ_chart.specs.Heads.{ColumnHead}
use Rattle.occ_chart.specs.Labels.{numbered_words}

-- ---- places, in letters from the left

abbrev pub place_at : (places : List ℕ) → ℕ → ℕ
place_at places k = unwrap_or (slice_get places k) 0

abbrev pub last_place : (places : List ℕ) → ℕ
last_place places = place_at places (length places - 1)

-- in points: a letter has 7, and behind the last column there is room for 12
abbrev pub whole_width : (places : List ℕ) → ℕ
whole_width places = 7 * (last_place places + 12)

-- ---- Columns stand apart; or close, where they would take more than 2,000 points. Then heads stand in two rows by turns, words at the foot
-- in four, and words of arrows over the lines of other columns.

-- a number for close columns
abbrev pub if_close : Bool → ℕ → ℕ
if_close close n = if close then n else 0

abbrev pub head_rows : (close : Bool) → ℕ
head_rows close = if_close close 1 + 1

abbrev pub foot_rows : (close : Bool) → ℕ
foot_rows close = if_close close 3 + 1

-- ---- distances

-- how far apart the middles of two words in one row are, with a letter between them
abbrev pub spacing : (letters letters' : ℕ) → ℕ
spacing m n = (m + n + 3) / 2

-- the wider one of a head's two lines, of 24 letters at most, and for 5 at least
abbrev pub head_letters : ColumnHead → ℕ
head_letters h = min (max (max (length h.name) (length h.below)) 5) 24

abbrev pub foot_letters_of : ColumnHead → ℕ
foot_letters_of h = min h.foot 24

abbrev pub heads_apart : List ColumnHead → (j k : ℕ) → ℕ
heads_apart hs j k = spacing (option_map_or head_letters (slice_get hs j) 0) (option_map_or head_letters (slice_get hs k) 0)

abbrev pub feet_apart : List ColumnHead → (j k : ℕ) → ℕ
feet_apart hs j k = spacing (option_map_or foot_letters_of (slice_get hs j) 0) (option_map_or foot_letters_of (slice_get hs k) 0)

-- for 36 letters at most, and one on either side
abbrev pub apart_for : (letters : ℕ) → ℕ
apart_for letters = min letters 36 + 2

-- the columns of an arrow, from the left, and how many letters its words have
abbrev pub reach_of : List End → Entry → Reach
reach_of columns e = record {
  left = min (column_of e.sender columns) (column_of e.receiver columns);
  right = max (column_of e.sender columns) (column_of e.receiver columns);
  letters = length (numbered_words e);
}

abbrev pub reaches_of : List End → List Entry → List Reach
reaches_of columns [] = []
reaches_of columns (e ∷ es) = reach_of columns e ∷ reaches_of columns es

-- ---- how near a column may stand

-- so many letters behind the column that stands so many before it; 12 from the left where none does
abbrev pub behind : (places : List ℕ) → (k back letters : ℕ) → ℕ
behind places k back letters = if nat_lt k back then 12 else place_at places (k - back) + letters

-- as the words of an arrow let it that ends there on the right
abbrev pub behind_arrow : (places : List ℕ) → (k : ℕ) → Reach → ℕ
behind_arrow places k s = if nat_eq s.right k && nat_lt s.left k then place_at places s.left + apart_for s.letters else 0

abbrev pub behind_arrows : (places : List ℕ) → (k : ℕ) → List Reach → ℕ
behind_arrows places k [] = 0
behind_arrows places k (s ∷ ss) = max (behind_arrow places k s) (behind_arrows places k ss)

-- as its neighbour lets it, the heads and feet of its row, and the words of arrows
abbrev pub nearest : Bool → List Reach → List ColumnHead → (places : List ℕ) → (k : ℕ) → ℕ
nearest close ss hs places k =
    max (max (behind places k 1 4) (behind places k (head_rows close) (heads_apart hs (k - head_rows close) k)))
    (max (behind places k (foot_rows close) (feet_apart hs (k - foot_rows close) k)) (if close then 0 else behind_arrows places k ss))

-- each column stands as near as it may to those before it
pub record AreNearest (close : Bool) (ss : List Reach) (hs : List ColumnHead) (places : List ℕ) : Type 0 where
  pub many : length places ≡ length hs
  pub near : (k : ℕ) → k < length hs → place_at places k ≡ nearest close ss hs places k

-- whether columns stand close, and where each stands
pub record Layout : Type 0 where
  pub close : Bool
  pub places : List ℕ

abbrev pub layout : (close : Bool) → (places : List ℕ) → Layout
layout close places = record { close = close; places = places }

-- close where the columns would be wider than 2,000 points if they stood apart
pub record IsLayout (ss : List Reach) (hs : List ColumnHead) (l : Layout) : Type 0 where
  pub apart : List ℕ
  pub wide : AreNearest false ss hs apart
  pub is : l.close ≡ nat_lt 2000 (whole_width apart)
  pub near : AreNearest l.close ss hs l.places

-- in points
abbrev pub column : Layout → ℕ → ℕ
column l k = 7 * place_at l.places k

-- how far below the first row a head stands, and words at the foot
abbrev pub head_depth : Layout → (k : ℕ) → ℕ
head_depth l k = 30 * (k % head_rows l.close)

abbrev pub foot_depth : Layout → (k : ℕ) → ℕ
foot_depth l k = 14 * (k % foot_rows l.close)

-- halfway between two columns
abbrev pub halfway : Layout → (j k : ℕ) → ℕ
halfway l j k = 7 * (place_at l.places j + place_at l.places k) / 2

-- for how many letters an arrow has room, with a letter free on either side; words of 24 stand over any arrow between close columns
abbrev pub words_room : Layout → (j k : ℕ) → ℕ
words_room l j k =
    max (if_close l.close 24) (max (place_at l.places j) (place_at l.places k) - min (place_at l.places j) (place_at l.places k) - 2)

-- ---- what the code does; private contracts alone cite it

-- so that a picture's measures are numbers of 64 bits
abbrev pub AreNear : (places : List ℕ) → Type 0
AreNear places = All (λ k. k ≤ 2 ^ 46) places
