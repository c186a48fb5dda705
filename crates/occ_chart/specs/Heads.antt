-- What stands over the columns of a chart.
-- Manual: nothing; this is (own).
use Rattle.std.specs.Prelude.{Bool, List, [], codes, if◌then◌else◌, length, nat_eq, ℕ, ◌++◌, ◌∷◌, Vec}
use Rattle.std.specs.Fmt.{decimal}
use Rattle.occ_shown.specs.Answers.{end_text}
use Rattle.occ_term.specs.declared.communication.End.{End}
use Rattle.occ_term.specs.declared.communication.End.TheVariants.{Process as OfProcess}
use Rattle.occ_chart.specs.Columns.{Footing, is_end}
use Rattle.occ_chart.specs.Labels.{end_name, texts_of}
use Rattle.occ_chart.specs.LeftOut.{count_others, others}

-- how many letters the words have that stand at the foot of a column
abbrev pub foot_letters : List Footing → End → ℕ
foot_letters [] x = 0
foot_letters (s ∷ ss) x = if is_end x (OfProcess s.process) then length s.words else foot_letters ss x

abbrev pub others_words : ℕ → List ℕ
others_words n = decimal n ++ (if nat_eq n 1 then codes " other" else codes " others")

-- two lines over a column, and how many letters stand at its foot
pub record ColumnHead : Type 0 where
  pub name : List ℕ
  pub below : List ℕ
  pub foot : ℕ

abbrev pub head : (name below : List ℕ) → (foot : ℕ) → ColumnHead
head name below foot = record { name = name; below = below; foot = foot }

-- How many processes are left out; or the name of the PROC that a process runs, where it has one, and below it its number, or what else it
-- is.
abbrev pub head_over : List (List ℕ) → List Bool → List Footing → End → ColumnHead
head_over names left ss x =
    if is_end x others then head [] (others_words (count_others left)) (foot_letters ss x) else head (end_name names x) (end_text x) (foot_letters ss x)

abbrev pub heads_over : List (List ℕ) → List Bool → List Footing → List End → List ColumnHead
heads_over names left ss [] = []
heads_over names left ss (x ∷ xs) = head_over names left ss x ∷ heads_over names left ss xs

-- ---- what the code does; private contracts alone cite it

abbrev pub heads_in : {A : Type 0} → List (Vec ℕ A) → List Bool → List Footing → List End → List ColumnHead
heads_in names left ss xs = heads_over (texts_of names) left ss xs
