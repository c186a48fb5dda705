-- No byte of a shielded text begins markup.
use Rattle.std.specs.Prelude.{All, codes, if◌then◌else◌, nat_lt, ◌/◌, ◌%◌, ◌==◌, ◌||◌}
use Rattle.std.proofs.Common.{◌≡◌, ◌≢◌, ◌∙◌, ◌<◌, ℕ, ◌+◌, Bool, true, false, List, [], ◌∷◌, ◌++◌, ap, refl, arith}
use Rattle.std.proofs.lemmas.Bool.Decides.{nat_tests}
use Rattle.std.proofs.lemmas.List.Elements.{All-append, All-cons, All-nil}
use Rattle.occ_shown.specs.Objects.{hex_digit}
use Rattle.occ_shown.specs.Pages.{BeginsNoMarkup, run_data, runs_data, shielded, shielded_byte, shielded_text, page_data}
use Rattle.occ_shown.specs.declared.pages.RunTexts.{RunTexts}

abbrev AllOthers : List ℕ → Type 0
AllOthers bs = All (λ b. b ≢ 60) bs

more : (b : ℕ) (bs : List ℕ) → b ≢ 60 → AllOthers bs → AllOthers (b ∷ bs)
more b bs h k = All-cons (λ b. b ≢ 60) b bs h k

one : (b : ℕ) → b ≢ 60 → AllOthers (b ∷ [])
one b h = more b [] h (All-nil (λ b. b ≢ 60))

join : (bs cs : List ℕ) → AllOthers bs → AllOthers cs → AllOthers (bs ++ cs)
join bs cs h k = All-append (λ b. b ≢ 60) bs cs h k

digit : (n : ℕ) → hex_digit n ≢ 60
digit n = by (nat_lt n 10) refl
  where
    by : (a : Bool) → nat_lt n 10 ≡ a → (if a then 48 + n else 87 + n) ≢ 60
    by true e h = let few : n < 10 = grind (arith, nat_tests) in absurd (omega (arith, few, h))
    by false e h = absurd (omega (arith, h))

-- a backslash, `u00` and two digits
escape : (m n : ℕ) → AllOthers (codes "\\u00" ++ hex_digit m ∷ hex_digit n ∷ [])
escape m n =
    let last : AllOthers (hex_digit m ∷ hex_digit n ∷ []) = more (hex_digit m) (hex_digit n ∷ []) (digit m) (one (hex_digit n) (digit n)) in
    let zero : AllOthers (48 ∷ hex_digit m ∷ hex_digit n ∷ []) = more 48 (hex_digit m ∷ hex_digit n ∷ []) (λ h. absurd (omega (arith, h))) last in
    let zeros : AllOthers (48 ∷ 48 ∷ hex_digit m ∷ hex_digit n ∷ []) = more 48 (48 ∷ hex_digit m ∷ hex_digit n ∷ []) (λ h. absurd (omega (arith, h))) zero in
    let letter : AllOthers (117 ∷ 48 ∷ 48 ∷ hex_digit m ∷ hex_digit n ∷ []) = more 117 (48 ∷ 48 ∷ hex_digit m ∷ hex_digit n ∷ []) (λ h. absurd (omega (arith, h))) zeros in
    more 92 (117 ∷ 48 ∷ 48 ∷ hex_digit m ∷ hex_digit n ∷ []) (λ h. absurd (omega (arith, h))) letter

each : (b : ℕ) → AllOthers (shielded_byte b)
each b = by (b == 10) (nat_lt b 32) (b == 60) (b == 92) refl refl
  where
    by : (ends low marks slash : Bool) → (b == 10) ≡ ends → (b == 60) ≡ marks
        → AllOthers (if ends then b ∷ [] else if low || marks || slash then codes "\\u00" ++ hex_digit (b / 16) ∷ hex_digit (b % 16) ∷ [] else b ∷ [])
    by true low marks slash e k = one b (let ten : b ≡ 10 = grind (arith, nat_tests) in λ h. absurd (omega (arith, ten, h)))
    by false true marks slash e k = escape (b / 16) (b % 16)
    by false false true slash e k = escape (b / 16) (b % 16)
    by false false false true e k = escape (b / 16) (b % 16)
    by false false false false e k = one b (λ h. absurd (let same : (b == 60) ≡ true = grind (arith, nat_tests) in cc))

all : (bs : List ℕ) → AllOthers (shielded bs)
all [] = All-nil (λ b. b ≢ 60)
all (b ∷ bs) = join (shielded_byte b) (shielded bs) (each b) (all bs)

text : (bs : List ℕ) → AllOthers (shielded_text bs)
text bs = join (shielded bs) (12 ∷ []) (all bs) (one 12 (λ h. absurd (omega (arith, h))))

run : (r : RunTexts) → AllOthers (run_data r)
run r =
    let two = join (shielded_text r.head.items) (shielded_text r.trace.items) (text r.head.items) (text r.trace.items) in
    let three = join (shielded_text r.head.items ++ shielded_text r.trace.items) (shielded_text r.turns.items) two (text r.turns.items) in
    join (shielded_text r.head.items ++ shielded_text r.trace.items ++ shielded_text r.turns.items) (shielded_text r.report.items) three (text r.report.items)

runs : (rs : List RunTexts) → AllOthers (runs_data rs)
runs [] = All-nil (λ b. b ≢ 60)
runs (r ∷ rs) = join (run_data r) (runs_data rs) (run r) (runs rs)

-- of all texts of a page
pub begins_no_markup : (source names : List ℕ) (rs : List RunTexts) → BeginsNoMarkup (page_data source names rs)
begins_no_markup source names rs =
    join (shielded_text source ++ shielded_text names) (runs_data rs) (join (shielded_text source) (shielded_text names) (text source) (text names)) (runs rs)

-- three texts behind one another
pub joined : (h d f h' d' f' first second whole : List ℕ) → first ≡ h' → h' ≡ h → second ≡ first ++ d' → d' ≡ d → whole ≡ second ++ f' → f' ≡ f → whole ≡ h ++ d ++ f
joined h d f h' d' f' first second whole a b c e g k =
    g ∙ ap (λ l. second ++ l) k ∙ ap (λ l. l ++ f) (c ∙ ap (λ l. first ++ l) e ∙ ap (λ l. l ++ d) (a ∙ b))
