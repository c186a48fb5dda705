-- Elements of XML that hold text alone, some of them behind a title, and how they are written.
-- Manual: nothing; this is (own).
use Rattle.std.specs.Prelude.{List, [], codes, if◌then◌else◌, nat_lt, ℕ, ◌&&◌, ◌++◌, ◌==◌, ◌∷◌, Vec, ◌≡◌}

-- what marks XML is written by its name, and what is no printed ASCII as a question mark
abbrev pub xml_byte : ℕ → List ℕ
xml_byte b =
    if b == 34 then codes "&quot;" else
    if b == 38 then codes "&amp;" else
    if b == 60 then codes "&lt;" else
    if b == 62 then codes "&gt;" else
    if nat_lt 31 b && nat_lt b 127 then b ∷ [] else 63 ∷ []

abbrev pub xml_text : List ℕ → List ℕ
xml_text [] = []
xml_text (b ∷ bs) = xml_byte b ++ xml_text bs

pub record Attribute : Type 0 where
  pub name : List ℕ
  pub value : List ℕ

-- a title is shown where one points at the element; empty for none
pub record Element : Type 0 where
  pub name : List ℕ
  pub attributes : List Attribute
  pub title : List ℕ
  pub inside : List ℕ

abbrev pub attribute : (name value : List ℕ) → Attribute
attribute n v = record { name = n; value = v }

abbrev pub element : List ℕ → List Attribute → (title inside : List ℕ) → Element
element n xs title text = record { name = n; attributes = xs; title = title; inside = text }

-- a space, the name, and the value between quotes
unfoldable pub attribute_text : Attribute → List ℕ
attribute_text a = 32 ∷ a.name ++ 61 ∷ 34 ∷ xml_text a.value ++ 34 ∷ []

abbrev pub attributes_text : List Attribute → List ℕ
attributes_text [] = []
attributes_text (a ∷ xs) = attribute_text a ++ attributes_text xs

abbrev pub title_text : List ℕ → List ℕ
title_text [] = []
title_text (b ∷ bs) = codes "<title>" ++ xml_text (b ∷ bs) ++ codes "</title>"

-- its opening tag, its title, its text, its closing tag, on a line
unfoldable pub element_text : Element → List ℕ
element_text e = 60 ∷ e.name ++ attributes_text e.attributes ++ 62 ∷ title_text e.title ++ xml_text e.inside ++ 60 ∷ 47 ∷ e.name ++ 62 ∷ 10 ∷ []

abbrev pub elements_text : List Element → List ℕ
elements_text [] = []
elements_text (e ∷ es) = element_text e ++ elements_text es

-- ---- behind the bytes that stood there

abbrev pub AddsElement : {A : Type 0} → (old new : Vec ℕ A) → Element → Type 0
AddsElement old new e = new.items ≡ old.items ++ element_text e

abbrev pub AddsElements : {A : Type 0} → (old new : Vec ℕ A) → List Element → Type 0
AddsElements old new es = new.items ≡ old.items ++ elements_text es

abbrev pub AddsAttribute : {A : Type 0} → (old new : Vec ℕ A) → (name value : List ℕ) → Type 0
AddsAttribute old new name value = new.items ≡ old.items ++ attribute_text (attribute name value)
