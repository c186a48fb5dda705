-- Files of choices, line by line.
use Rattle.std.specs.Prelude.{if◌then◌else◌, nat_eq, ⊤}
use Rattle.std.specs.Fmt.{decimal}
use Rattle.std.proofs.Common.{◌≡◌, ◌∙◌, ℕ, suc, ◌+◌, ◌-◌, ◌<◌, ◌^◌, Bool, true, false, List, [], ◌∷◌, ◌++◌, length, get_or, take, refl, ap, sym, subst, append_assoc, append-nil, length-append, arith}
use Rattle.std.proofs.lemmas.List.{take_more}
use Rattle.std.proofs.lemmas.Bool.Decides.{nat_tests}
use Rattle.std.proofs.lemmas.Fmt.{decimal_is_IsNumeral, length-decimal-le}
use Rattle.occ_net_replay.specs.declared.choice.Choice.{Choice}
use Rattle.occ_choices.specs.Lines.{before_all, lines_of, AreLines, ChoiceLines, IsLine, IsBad, line_feed, SpellsNumber, choice_line, choice_text, WrittenIsRead, OneReading}
use Rattle.occ_choices.specs.Reading.{AreDigits, ReadTo}
use Rattle.occ_choices.proofs.Digits.{are_digits, digit_least, one_choice}

pub starts : (text : List ℕ) → ReadTo text text [] 0
starts text = record { lines = []; cut = refl; read = tt; counted = refl }

pub read_whole : (text : List ℕ) (cs : List Choice) (n : ℕ) → ReadTo text [] cs n → ChoiceLines text cs
read_whole text cs n r = subst (λ ls. AreLines ls cs) (sym (r.cut ∙ append-nil r.lines)) r.read

as_many : (ls : List (List ℕ)) (cs : List Choice) → AreLines ls cs → length ls ≡ length cs
as_many [] [] h = refl
as_many [] (c ∷ cs) h = absurd h
as_many (l ∷ ls) [] h = absurd h
as_many (l ∷ ls) (c ∷ cs) h = ap suc (as_many ls cs h.1)

pub read_many : (text rest : List ℕ) (cs : List Choice) (n : ℕ) → ReadTo text rest cs n → length cs ≡ n
read_many text rest cs n r = sym (as_many r.lines cs r.read) ∙ r.counted

pushed : (ls : List (List ℕ)) (cs : List Choice) (line : List ℕ) (c : Choice) → AreLines ls cs → IsLine line c → AreLines (ls ++ line ∷ []) (cs ++ c ∷ [])
pushed [] [] line c h k = (k, tt)
pushed [] (x ∷ cs) line c h k = absurd h
pushed (l ∷ ls) [] line c h k = absurd h
pushed (l ∷ ls) (x ∷ cs) line c h k = (h.0, pushed ls cs line c h.1 k)

pub read_on : (text rest others line : List ℕ) (cs : List Choice) (c : Choice) (n : ℕ) → ReadTo text rest cs n → lines_of rest ≡ line ∷ lines_of others → IsLine line c → ReadTo text others (cs ++ c ∷ []) (n + 1)
read_on text rest others line cs c n r cut h =
    let more = length-append r.lines (line ∷ []) in
    record {
      lines = r.lines ++ line ∷ [];
      cut = r.cut ∙ ap (λ ls. r.lines ++ ls) cut ∙ sym (append_assoc r.lines (line ∷ []) (lines_of others));
      read = pushed r.lines cs line c r.read h;
      counted = omega (arith, more, r.counted);
    }

pub bad_there : (text rest others line : List ℕ) (cs : List Choice) (n : ℕ) → ReadTo text rest cs n → lines_of rest ≡ line ∷ lines_of others → ((c : Choice) → IsLine line c → ⊥) → IsBad text (n + 1)
bad_there text rest others line cs n r cut none =
    record {
      before = r.lines;
      line = line;
      behind = lines_of others;
      choices = cs;
      cut = r.cut ∙ ap (λ ls. r.lines ++ ls) cut;
      counted = omega (arith, r.counted);
      read = r.read;
      none = none;
    }

some_line : (text : List ℕ) → 0 < length text → 0 < length (lines_of text)
some_line [] h = absurd (omega (arith, h))
some_line (b ∷ bs) h = by (nat_eq b 10) (lines_of bs)
  where
    by : (t : Bool) (ls : List (List ℕ)) → 0 < length (if t then (b ∷ []) ∷ ls else before_all b ls)
    by true ls = omega arith
    by false [] = omega arith
    by false (l ∷ ls) = omega arith

pub too_many : (text rest : List ℕ) (cs : List Choice) (n : ℕ) → ReadTo text rest cs n → 0 < length rest → n < length (lines_of text)
too_many text rest cs n r h =
    let long = ap length r.cut ∙ length-append r.lines (lines_of rest) in
    let some = some_line rest h in
    omega (arith, long, some, r.counted)

-- ---- laws

lines_once : (ls : List (List ℕ)) (cs ds : List Choice) → AreLines ls cs → AreLines ls ds → cs ≡ ds
lines_once [] [] [] h k = refl
lines_once [] [] (d ∷ ds) h k = absurd k
lines_once [] (c ∷ cs) ds h k = absurd h
lines_once (l ∷ ls) [] ds h k = absurd h
lines_once (l ∷ ls) (c ∷ cs) [] h k = absurd k
lines_once (l ∷ ls) (c ∷ cs) (d ∷ ds) h k = ap (λ x. x ∷ cs) (one_choice l c d h.0 k.0) ∙ ap (λ xs. d ∷ xs) (lines_once ls cs ds h.1 k.1)

pub one_reading : OneReading
one_reading text cs ds h k = lines_once (lines_of text) cs ds h k

-- ---- what is written

-- no line feed
abbrev NoFeed : List ℕ → Type 0
NoFeed [] = ⊤
NoFeed (x ∷ xs) = (x ≡ 10 → ⊥) × NoFeed xs

line_cut : (xs ys : List ℕ) → NoFeed xs → lines_of (xs ++ 10 ∷ ys) ≡ (xs ++ 10 ∷ []) ∷ lines_of ys
line_cut [] ys h = refl
line_cut (x ∷ xs) ys h =
    let other : nat_eq x 10 ≡ false = (let n = h.0 in grind (arith, nat_tests)) in
    rw other (ap (before_all x) (line_cut xs ys h.1))

no_feeds : (xs ys : List ℕ) → NoFeed xs → NoFeed ys → NoFeed (xs ++ ys)
no_feeds [] ys h k = k
no_feeds (x ∷ xs) ys h k = (h.0, no_feeds xs ys h.1 k)

digits_feed : (ds : List ℕ) → AreDigits ds → NoFeed ds
digits_feed [] h = tt
digits_feed (d ∷ ds) h = (let least = digit_least d h.0 in λ e. omega (arith, least, e), digits_feed ds h.1)

spelled_out : (n : ℕ) → n < 2 ^ 32 → SpellsNumber (decimal n) n
spelled_out n h =
    let small : n < 2 ^ 64 = omega (arith, h) in
    let r = decimal_is_IsNumeral n small in
    record { numeral = r.0; short = length-decimal-le 10 n (omega arith) (omega (arith, h)) small; value = r.1; word = h }

line_written : (c : Choice) → c.which < 2 ^ 32 → c.pick < 2 ^ 32 → IsLine (choice_line c) c
line_written c h k = record { which = decimal c.which; pick = decimal c.pick; end = 10 ∷ []; is = refl; first = spelled_out c.which h; second = spelled_out c.pick k; ends = line_feed }

written_cut : (c : Choice) (rest : List ℕ) → c.which < 2 ^ 32 → c.pick < 2 ^ 32 → lines_of (choice_line c ++ rest) ≡ choice_line c ∷ lines_of rest
written_cut c rest h k =
    let w = spelled_out c.which h in
    let p = spelled_out c.pick k in
    let space : 32 ≡ 10 → ⊥ = λ e. omega (arith, e) in
    let none : NoFeed (decimal c.which ++ 32 ∷ decimal c.pick) = no_feeds (decimal c.which) (32 ∷ decimal c.pick) (digits_feed _ (are_digits _ w.numeral.1)) (space, digits_feed _ (are_digits _ p.numeral.1)) in
    let as_line : (decimal c.which ++ 32 ∷ decimal c.pick) ++ 10 ∷ [] ≡ choice_line c = append_assoc (decimal c.which) (32 ∷ decimal c.pick) (10 ∷ []) in
    ap lines_of (ap (λ l. l ++ rest) (sym as_line) ∙ append_assoc (decimal c.which ++ 32 ∷ decimal c.pick) (10 ∷ []) rest)
    ∙ line_cut (decimal c.which ++ 32 ∷ decimal c.pick) rest none ∙ ap (λ l. l ∷ lines_of rest) as_line

pub written_is_read : WrittenIsRead
written_is_read [] h = tt
written_is_read (c ∷ cs) h = subst (λ ls. AreLines ls (c ∷ cs)) (sym (written_cut c (choice_text cs) h.0 h.1)) (line_written c h.0 h.1, written_is_read cs h.2)

pub text_more : (cs : List Choice) (c : Choice) → choice_text (cs ++ c ∷ []) ≡ choice_text cs ++ choice_line c
text_more [] c = append-nil (choice_line c)
text_more (x ∷ cs) c = ap (λ t. choice_line x ++ t) (text_more cs c) ∙ sym (append_assoc (choice_line x) (choice_text cs) (choice_line c))

pub one_more : (cs : List Choice) (i : ℕ) (d : Choice) (text : List ℕ) → i < length cs → text ≡ choice_text (take i cs) → text ++ choice_line (get_or cs i d) ≡ choice_text (take (i + 1) cs)
one_more cs i d text h e = ap (λ t. t ++ choice_line (get_or cs i d)) e ∙ sym (text_more (take i cs) (get_or cs i d)) ∙ ap choice_text (sym (take_more cs i d h))
