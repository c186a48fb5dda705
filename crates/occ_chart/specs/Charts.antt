-- The sequence chart of a run, in SVG: a column for each end that takes part, from top to bottom an arrow for each communication, and at
-- the foot what each process waits for.
-- Manual: nothing; this is (own).
use Rattle.std.specs.Prelude.{Bool, List, OnOk, Result, [], codes, drop, false, if◌then◌else◌, length, max, min, nat_eq, nat_lt, suc, take, true, zero, ℕ, ◌&&◌, ◌++◌, ◌+◌, ◌-◌, ◌*◌, ◌/◌, ◌∷◌, ◌≡◌, Vec}
use Rattle.std.specs.Fmt.{decimal}
use Rattle.occ_term.specs.declared.communication.End.{End}
use Rattle.occ_term.specs.declared.communication.End.TheVariants.{Process as OfProcess}
use Rattle.occ_term.specs.Runs.{Entry}
use Rattle.occ_term.specs.declared.ending.Ending.{Ending}
use Rattle.occ_term.specs.Endings.{ending_text}
use Rattle.occ_shown.specs.Answers.{AddsText, numbers_text, entries_in}
use Rattle.occ_chart.specs.declared.notes.Notes.{Notes}
use Rattle.occ_chart.specs.declared.part.Part.{Part}
use Rattle.occ_chart.specs.declared.part.Part.TheVariants.{First, Last}
use Rattle.occ_chart.specs.declared.xml.Style.{Style}
use Rattle.occ_chart.specs.declared.xml.Style.TheVariants.{Plain, Red, Note, RedNote}
use Rattle.occ_chart.specs.Columns.{AreColumns, Footing, column_of}
use Rattle.occ_chart.specs.Heads.{ColumnHead, heads_over}
use Rattle.occ_chart.specs.Labels.{numbered_words, texts_of}
use Rattle.occ_chart.specs.LeftOut.{seen_entries, seen_feet}
use Rattle.occ_chart.specs.Places.{IsLayout, Layout, column, foot_depth, halfway, head_depth, head_rows, if_close, last_place, reaches_of, words_room}
use Rattle.occ_chart.specs.Shapes.{along, area, down, ground, label, path, stub, text_at}
use Rattle.occ_chart.specs.Xml.{AddsElements, Element, attribute, attribute_text, elements_text}
use Rattle.occ_term.specs.declared.names.Channel.{Channel}
use Rattle.occ_term.specs.declared.communication.Communication.{Communication}

-- ---- which communications are drawn

-- so that no picture is 32,000 points high
abbrev pub most_arrows : ℕ
most_arrows = 990

abbrev pub asked : Part → ℕ
asked (First n) = n
asked (Last n) = n

-- how many are drawn of so many
abbrev pub drawn_of : Part → ℕ → ℕ
drawn_of part all = min (min (asked part) most_arrows) all

-- this number for the last ones, and for the first ones
abbrev pub if_last : Part → ℕ → ℕ
if_last (First n) k = 0
if_last (Last n) k = k

abbrev pub if_first : Part → ℕ → ℕ
if_first (First n) k = k
if_first (Last n) k = 0

-- how many stand before those, and behind them
abbrev pub before_of : Part → ℕ → ℕ
before_of part all = if_last part (all - drawn_of part all)

abbrev pub after_of : Part → ℕ → ℕ
after_of part all = if_first part (all - drawn_of part all)

abbrev pub shown_of : Part → List Entry → List Entry
shown_of part es = take (drawn_of part (length es)) (drop (before_of part (length es)) es)

-- fewer than were asked for, since the picture would be too high
abbrev pub is_cut : Part → ℕ → Bool
is_cut part all = nat_lt most_arrows (asked part) && nat_lt most_arrows all

-- ---- rows

-- a row for each communication, from the top, in points
abbrev pub row : ℕ → ℕ
row i = 30 * i + 80

-- the row of the next arrow, where so many rows are left before heads stand again; and how many are left behind it
abbrev pub row_behind : (close : Bool) → (left i : ℕ) → ℕ
row_behind close left i = if nat_eq left 0 then i + head_rows close else i

abbrev pub rows_left : (left : ℕ) → ℕ
rows_left left = if nat_eq left 0 then 29 else left - 1

-- the row behind so many communications
abbrev pub rows_of : (close : Bool) → (left i count : ℕ) → ℕ
rows_of close left i zero = i
rows_of close left i (suc n) = rows_of close (rows_left left) (row_behind close left i + 1) n

-- the row below all of them
abbrev pub row_below : (close : Bool) → (count : ℕ) → ℕ
row_below close count = row (rows_of close 30 (if_close close 1) count)

-- ---- its shapes

-- words in so much room round a place, on a ground of 7 points for each letter, over the lines that stand there
abbrev pub grounded : Style → (x y room : ℕ) → List ℕ → List Element
grounded style x y room words = area (ground (x - (7 * min room (length words) / 2)) (y - 11) (7 * min room (length words))) ∷ label style x y room words ∷ []

-- the name of the PROC that a process runs, where it has one
abbrev pub name_label : (x y : ℕ) → List ℕ → List Element
name_label x y [] = []
name_label x y (b ∷ bs) = grounded Plain x y 24 (b ∷ bs)

abbrev pub drawn_head : (x y : ℕ) → ColumnHead → List Element
drawn_head x y h = name_label x y h.name ++ grounded Plain x (y + 14) 24 h.below

-- the heads of the columns, from this height on
abbrev pub drawn_heads : Layout → (y k : ℕ) → List ColumnHead → List Element
drawn_heads l y k [] = []
drawn_heads l y k (h ∷ hs) = drawn_head (column l k) (y + head_depth l k) h ++ drawn_heads l y (k + 1) hs

abbrev pub lifelines : Layout → (bottom k : ℕ) → List End → List Element
lifelines l bottom k [] = []
lifelines l bottom k (x ∷ xs) = path (down (column l k) bottom) (codes "silver") ∷ lifelines l bottom (k + 1) xs

-- an arrow from the sender's column to the receiver's, under its number, the channel's name and the message
abbrev pub arrow_from : Layout → (j k i : ℕ) → Entry → List Element
arrow_from l j k i e =
    path (along (column l j) (column l k) (row i)) (codes "black") ∷ grounded Plain (halfway l j k) (30 * i + 74) (words_room l j k) (numbered_words e)

abbrev pub arrow : Layout → List End → ℕ → Entry → List Element
arrow l columns i e = arrow_from l (column_of e.sender columns) (column_of e.receiver columns) i e

-- the heads again, in rows of their own, where no row is left before them
abbrev pub break : List ColumnHead → Layout → (left i : ℕ) → List Element
break hs l left i = if nat_eq left 0 then drawn_heads l (30 * i + 70) 0 hs else []

-- each communication in a row of its own; heads stand again before one after so many others, and then after each 30
abbrev pub arrows : List ColumnHead → Layout → List End → (left i : ℕ) → List Entry → List Element
arrows hs l columns left i [] = []
arrows hs l columns left i (e ∷ es) =
    break hs l left i ++ (arrow l columns (row_behind l.close left i) e ++ arrows hs l columns (rows_left left) (row_behind l.close left i + 1) es)

-- a line down to who stands at the foot of its column, and below it why
abbrev pub stub_at : Layout → (bottom k : ℕ) → Element
stub_at l bottom k = path (stub (column l k) bottom (foot_depth l k)) (codes "red")

abbrev pub reason_at : Layout → (bottom k : ℕ) → List ℕ → List Element
reason_at l bottom k words = grounded Red (column l k) (bottom + foot_depth l k + 28) 24 words

abbrev pub drawn_stubs : Layout → List End → (bottom : ℕ) → List Footing → List Element
drawn_stubs l columns bottom [] = []
drawn_stubs l columns bottom (s ∷ ss) = stub_at l bottom (column_of (OfProcess s.process) columns) ∷ drawn_stubs l columns bottom ss

abbrev pub drawn_reasons : Layout → List End → (bottom : ℕ) → List Footing → List Element
drawn_reasons l columns bottom [] = []
drawn_reasons l columns bottom (s ∷ ss) = reason_at l bottom (column_of (OfProcess s.process) columns) s.words ++ drawn_reasons l columns bottom ss

-- the heads again, under a long chart
abbrev pub heads_again : List ColumnHead → Layout → (bottom count : ℕ) → List Element
heads_again hs l bottom count = if nat_lt 15 count then drawn_heads l (bottom + if_close l.close 42 + 46) 0 hs else []

-- ---- its notes

abbrev pub cut_words : Bool → List ℕ
cut_words false = []
cut_words true = codes "; a picture has 990 arrows at most"

-- how many communications came before those that are drawn, and how many after
abbrev pub before_words : (count : ℕ) → Bool → List ℕ
before_words count high = if nat_eq count 0 then [] else codes "and " ++ decimal count ++ codes " before" ++ cut_words high

abbrev pub after_words : (count : ℕ) → Bool → List ℕ
after_words count high = if nat_eq count 0 then [] else decimal count ++ codes " more" ++ cut_words high

-- how many are not drawn, since both ends are left out
abbrev pub among_words : ℕ → List ℕ
among_words count = if nat_eq count 0 then [] else codes "; among the others " ++ decimal count ++ codes " more"

abbrev pub ending_words : Ending → (among : ℕ) → List ℕ
ending_words ending among = ending_text ending ++ among_words among

-- from the left border on, where there are words
abbrev pub note : (y : ℕ) → List ℕ → List Element
note y [] = []
note y (b ∷ bs) = text_at Note 10 y [] (b ∷ bs) ∷ []

-- over the lines of the columns
abbrev pub note_before : (y : ℕ) → List ℕ → List Element
note_before y [] = []
note_before y (b ∷ bs) = area (ground 8 (y - 12) (7 * min 100 (length (b ∷ bs)))) ∷ text_at Note 10 y [] (b ∷ bs) ∷ []

abbrev pub circle_words : List ℕ → List ℕ
circle_words ns = codes "a circle waits:" ++ numbers_text ns

abbrev pub circle_label : (letters y : ℕ) → List ℕ → Element
circle_label letters y ns = label RedNote 10 y letters (circle_words ns)

-- processes that wait for one another in a circle, where such are given
abbrev pub note_circle : (letters y : ℕ) → List ℕ → List Element
note_circle letters y [] = []
note_circle letters y (n ∷ ns) = circle_label letters y (n ∷ ns) ∷ []

-- ---- the whole

-- how wide a picture is, in letters: behind the last column there is room for 12, and a note ends before the border
abbrev pub picture_letters : (places : List ℕ) → (before after ending : List ℕ) → ℕ
picture_letters places before after ending = max (last_place places + 12) (min 100 (max (max (length before) (length after)) (length ending)) + 3)

-- its corners, by which a browser scales it
unfoldable pub corners : (width height : ℕ) → List ℕ
corners width height = codes "0 0 " ++ (decimal width ++ (codes " " ++ decimal height))

-- a white ground; a letter of 11 points is less than 7 wide
unfoldable pub svg_opening : (width height : ℕ) → List ℕ
svg_opening width height =
    codes "<svg xmlns=\"http://www.w3.org/2000/svg\"" ++ attribute_text (attribute (codes "width") (decimal width)) ++ attribute_text (attribute (codes "height") (decimal height))
    ++ attribute_text (attribute (codes "viewBox") (corners width height))
    ++ codes " font-family=\"DejaVu Sans Mono, Consolas, Menlo, monospace\" font-size=\"11\" text-anchor=\"middle\">\n<rect width=\"100%\" height=\"100%\" fill=\"white\"></rect>\n"

-- over the foot; close columns need 30 points more for heads, there and at the foot, and 42 for words at the foot
abbrev pub above : Layout → List ColumnHead → List End → List Entry → (letters : ℕ) → (before : List ℕ) → List ℕ
above l hs columns es letters before =
    svg_opening (7 * letters) (row_below l.close (length es) + if_close l.close 72 + 132) ++ elements_text (lifelines l (row_below l.close (length es)) 0 columns)
    ++ elements_text (drawn_heads l 18 0 hs) ++ elements_text (note_before (if_close l.close 30 + 50) before)
    ++ elements_text (arrows hs l columns 30 (if_close l.close 1) es)

-- notes stand so far below the last row
abbrev pub notes_depth : Layout → (bottom : ℕ) → ℕ
notes_depth l bottom = bottom + if_close l.close 72 + 80

abbrev pub foot : Layout → List ColumnHead → List End → (bottom count : ℕ) → List Footing → (letters : ℕ) → (after ending circle : List ℕ) → List ℕ
foot l hs columns bottom count ss letters after ending circle =
    elements_text (drawn_stubs l columns bottom ss) ++ elements_text (drawn_reasons l columns bottom ss) ++ elements_text (heads_again hs l bottom count)
    ++ elements_text (note (notes_depth l bottom) ending) ++ elements_text (note (notes_depth l bottom + 18) after)
    ++ elements_text (note_circle letters (notes_depth l bottom + 36) circle) ++ codes "</svg>\n"

-- these communications, these feet and these notes, in columns that have these heads and places
abbrev pub picture : Layout → List ColumnHead → List End → List Entry → List Footing → (before after ending circle : List ℕ) → List ℕ
picture l hs columns es ss before after ending circle =
    above l hs columns es (picture_letters l.places before after ending) before
    ++ foot l hs columns (row_below l.close (length es)) (length es) ss (picture_letters l.places before after ending) after ending circle

-- how many are not drawn, since both ends are left out
abbrev pub among_others : List Bool → List Entry → ℕ
among_others left all = length all - length (seen_entries left all)

-- Of the communications of a run that are seen where these processes are left out, that part which is asked for, each of them once, in
-- order, with a column for each that sends or receives one of them or stands at the foot.
pub record IsChart (all : List Entry) (left : List Bool) (part : Part) (ending : Ending) (names : List (List ℕ)) (standing : List Footing) (circle bytes : List ℕ) : Type 0 where
  pub es : List Entry
  pub seen : es ≡ seen_entries left all
  pub ss : List Footing
  pub stand : ss ≡ seen_feet left standing
  pub columns : List End
  pub are : AreColumns (shown_of part es) ss columns
  pub l : Layout
  pub laid : IsLayout (reaches_of columns (shown_of part es)) (heads_over names left ss columns) l
  pub is :
      bytes
      ≡ picture l (heads_over names left ss columns) columns (shown_of part es) ss (before_words (before_of part (length es)) (is_cut part (length es)))
      (after_words (after_of part (length es)) (is_cut part (length es))) (ending_words ending (among_others left all)) circle

-- a chart of what code has
abbrev pub ChartOf : {A : Type 0} → List Channel → List Communication → List Bool → Part → Ending → List (Vec ℕ A) → List Footing → List ℕ → Vec ℕ A → Type 0
ChartOf cs trace left part ending names ss circle bytes = IsChart (entries_in cs trace) left part ending (texts_of names) ss circle bytes.items

-- ---- what the code does; private contracts alone cite it

-- the heads were put behind a text again in a row, where none is left before them
abbrev pub PutsBreak : {X E A : Type 0} → Result X E → Vec ℕ A → Vec ℕ A → List ColumnHead → Layout → (left i : ℕ) → Type 0
PutsBreak done old new hs l left i = OnOk done (AddsElements old new (break hs l left i))

-- the arrows were put behind a text
abbrev pub PutsArrows : {X E A : Type 0} → Result X E → Vec ℕ A → Vec ℕ A → List ColumnHead → Layout → List End → List Entry → Type 0
PutsArrows done old new hs l columns es = OnOk done (AddsElements old new (arrows hs l columns 30 (if_close l.close 1) es))

-- the foot was put behind a text
abbrev pub PutsFoot : {X E A : Type 0} → Result X E → Vec ℕ A → Vec ℕ A → Layout → List ColumnHead → List End → (count : ℕ) → List Footing → (letters : ℕ) → Notes → (circle : List ℕ) → Type 0
PutsFoot done old new l hs columns count ss letters notes circle =
    OnOk done (AddsText old new (foot l hs columns (row_below l.close count) count ss letters notes.after.items notes.ending.items circle))

abbrev pub letters_with : Layout → Notes → ℕ
letters_with l notes = picture_letters l.places notes.before.items notes.after.items notes.ending.items

-- a text is a picture with these notes
pub record IsPicture {A : Type 0} (hs : List ColumnHead) (columns : List End) (es : List Entry) (ss : List Footing) (notes : Notes) (circle : List ℕ) (bytes : Vec ℕ A) : Type 0 where
  pub l : Layout
  pub laid : IsLayout (reaches_of columns es) hs l
  pub is : bytes.items ≡ picture l hs columns es ss notes.before.items notes.after.items notes.ending.items circle
