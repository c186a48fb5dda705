-- The shapes of a picture in SVG: words and lines.
-- Manual: nothing; this is (own).
use Rattle.std.specs.Prelude.{List, [], codes, if◌then◌else◌, length, nat_lt, take, ℕ, ◌++◌, ◌-◌, ◌∷◌}
use Rattle.std.specs.Fmt.{decimal}
use Rattle.occ_chart.specs.declared.xml.Style.{Style}
use Rattle.occ_chart.specs.declared.xml.Style.TheVariants.{Plain, Red, Note, RedNote}
use Rattle.occ_chart.specs.Xml.{Attribute, Element, attribute, element}

-- ---- words

abbrev pub style_attributes : Style → List Attribute
style_attributes Plain = []
style_attributes Red = attribute (codes "fill") (codes "red") ∷ []
style_attributes Note = attribute (codes "text-anchor") (codes "start") ∷ []
style_attributes RedNote = attribute (codes "text-anchor") (codes "start") ∷ attribute (codes "fill") (codes "red") ∷ []

abbrev pub text_at : Style → (x y : ℕ) → (title words : List ℕ) → Element
text_at style x y title words =
    element (codes "text") (attribute (codes "x") (decimal x) ∷ attribute (codes "y") (decimal y) ∷ style_attributes style) title words

-- so many letters, of which the last three are dots
abbrev pub cut : (room : ℕ) → (words : List ℕ) → List ℕ
cut room words = take (room - 3) words ++ codes "..."

-- words in so much room: where they are longer, they are cut, and whole in the title
abbrev pub label : Style → (x y room : ℕ) → (words : List ℕ) → Element
label style x y room words = if nat_lt room (length words) then text_at style x y words (cut room words) else text_at style x y [] words

-- ---- lines

abbrev pub path : (course colour : List ℕ) → Element
path course colour = element (codes "path") (attribute (codes "d") course ∷ attribute (codes "fill") (codes "none") ∷ attribute (codes "stroke") colour ∷ []) [] []

-- what lies under words
abbrev pub area : (course : List ℕ) → Element
area course = element (codes "path") (attribute (codes "d") course ∷ attribute (codes "fill") (codes "white") ∷ []) [] []

-- round a part of a row
unfoldable pub ground : (x y width : ℕ) → List ℕ
ground x y width = codes "M " ++ (decimal x ++ (codes " " ++ (decimal y ++ (codes " h " ++ (decimal width ++ (codes " v 14 h -" ++ (decimal width ++ codes " z")))))))

-- down a column, from under its head
unfoldable pub down : (x bottom : ℕ) → List ℕ
down x bottom = codes "M " ++ decimal x ++ codes " 38 V " ++ decimal bottom

-- the stub at the foot of a column, and a line down so far to the words below it
unfoldable pub stub : (x bottom depth : ℕ) → List ℕ
stub x bottom depth = codes "M " ++ (decimal x ++ (codes " " ++ (decimal bottom ++ (codes " v 14 m -7 0 h 14 m -7 0 v " ++ decimal depth))))

-- along a row, with a head where it ends
unfoldable pub rightward : (from to y : ℕ) → List ℕ
rightward from to y = codes "M " ++ (decimal from ++ (codes " " ++ (decimal y ++ (codes " H " ++ (decimal to ++ codes " l -8 -4 m 8 4 l -8 4")))))

unfoldable pub leftward : (from to y : ℕ) → List ℕ
leftward from to y = codes "M " ++ (decimal from ++ (codes " " ++ (decimal y ++ (codes " H " ++ (decimal to ++ codes " l 8 -4 m -8 4 l 8 4")))))

abbrev pub along : (from to y : ℕ) → List ℕ
along from to y = if nat_lt from to then rightward from to y else leftward from to y
