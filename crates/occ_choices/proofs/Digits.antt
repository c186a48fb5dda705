-- Digits, the number that they stand for, and the lines of two numbers.
use Rattle.std.specs.Prelude.{IfNone, if◌then◌else◌, nat_eq, nat_le, nat_lt, ◌&&◌, ⊤}
use Rattle.std.proofs.Common.{◌≡◌, ◌∙◌, ℕ, zero, suc, ◌+◌, ◌*◌, ◌-◌, ◌<◌, ◌≤◌, ◌^◌, Bool, true, false, IsTrue, List, [], ◌∷◌, ◌++◌, length, get_or, take, drop, Option, Some, None, refl, ap, sym, subst, add-one, arith}
use Rattle.std.proofs.lemmas.Bool.Decides.{nat_tests}
use Rattle.std.proofs.lemmas.Str.{digit_value_digit}
use Rattle.std.proofs.lemmas.Str.Parse.{digit_from_value}
use Rattle.std.specs.Char.{digit_value}
use Rattle.std.specs.Str.Parse.{AllDigits, digits_value, digits_value_after}
use Rattle.occ_net_replay.specs.declared.choice.Choice.{Choice}
use Rattle.occ_choices.specs.Lines.{IsEnd, no_end, line_feed, return_and_line_feed, IsLine, SpellsNumber}
use Rattle.occ_choices.specs.Reading.{AreDigits, ends_line, is_digit, leading, spelled}

-- ---- one digit

pub digit_least : (d : ℕ) → IsTrue (is_digit d) → 48 ≤ d
digit_least d h = by (nat_le 48 d) refl h
  where
    by : (b : Bool) → nat_le 48 d ≡ b → IsTrue (b && nat_le d 57) → 48 ≤ d
    by true e k = grind (arith, nat_tests)
    by false e k = absurd cc

pub digit_most : (d : ℕ) → IsTrue (is_digit d) → d ≤ 57
digit_most d h = by (nat_le 48 d) (nat_le d 57) refl h
  where
    by : (a b : Bool) → nat_le d 57 ≡ b → IsTrue (a && b) → d ≤ 57
    by true true e k = grind (arith, nat_tests)
    by true false e k = absurd cc
    by false b e k = absurd cc

in_range : (d : ℕ) → 48 ≤ d → d ≤ 57 → IsTrue (is_digit d)
in_range d l m =
    let first : nat_le 48 d ≡ true = grind (arith, nat_tests) in
    let last : nat_le d 57 ≡ true = grind (arith, nat_tests) in
    rw (first, last) refl

pub worth : (d : ℕ) → IsTrue (is_digit d) → digit_value d + 48 ≡ d
worth d h = digit_value_digit d (digit_least d h, digit_most d h)

-- ---- some digits

pub digit_at : (xs : List ℕ) (i : ℕ) → AreDigits xs → i < length xs → IsTrue (is_digit (get_or xs i 0))
digit_at [] i h l = absurd (omega (arith, l))
digit_at (x ∷ xs) zero h l = h.0
digit_at (x ∷ xs) (suc i) h l = digit_at xs i h.1 (omega (arith, l))

rest_from : (xs : List ℕ) (i d : ℕ) → i < length xs → drop i xs ≡ get_or xs i d ∷ drop (suc i) xs
rest_from [] i d h = absurd (omega (arith, h))
rest_from (x ∷ xs) zero d h = refl
rest_from (x ∷ xs) (suc i) d h = rest_from xs i d (omega (arith, h))

pub value_on : (xs : List ℕ) (i n m v : ℕ) → AreDigits xs → i < length xs → m ≡ n * 10 + v → v + 48 ≡ get_or xs i 0
    → digits_value_after 10 n (drop i xs) ≡ digits_value_after 10 m (drop (i + 1) xs)
value_on xs i n m v h l e w =
    let d = worth (get_or xs i 0) (digit_at xs i h l) in
    let same : n * 10 + digit_value (get_or xs i 0) ≡ m = omega (arith, e, w, d) in
    ap (digits_value_after 10 n) (rest_from xs i 0 l)
    ∙ ap (λ k. digits_value_after 10 k (drop (suc i) xs)) same ∙ ap (λ k. digits_value_after 10 m (drop k xs)) (sym (add-one i))

pub value_grows : (n : ℕ) (ds : List ℕ) → n ≤ digits_value_after 10 n ds
value_grows n [] = omega arith
value_grows n (d ∷ ds) = let later = value_grows (n * 10 + digit_value d) ds in omega (arith, later)

all_digits : (ds : List ℕ) → AreDigits ds → AllDigits 10 ds
all_digits [] h = tt
all_digits (d ∷ ds) h =
    let w = worth d h.0 in
    let m = digit_most d h.0 in
    (omega (arith, w, m), all_digits ds h.1)

pub are_digits : (ds : List ℕ) → AllDigits 10 ds → AreDigits ds
are_digits [] h = tt
are_digits (d ∷ ds) h = let r = digit_from_value d h.0 in (in_range d r.0 r.1, are_digits ds h.1)

-- ---- digits that spell a number

both_true : (a b : Bool) → (a && b) ≡ true → (a ≡ true) × (b ≡ true)
both_true true b e = (refl, e)
both_true false b e = cc

pub spelled_as : (ds : List ℕ) (n : ℕ) → 1 ≤ length ds → length ds ≤ 10 → digits_value 10 ds ≡ n → n < 2 ^ 32 → spelled ds ≡ Some n
spelled_as ds n some few value word =
    let below : digits_value 10 ds < 2 ^ 32 = omega (arith, value, word) in
    let a : nat_le 1 (length ds) ≡ true = grind (arith, nat_tests) in
    let b : nat_le (length ds) 10 ≡ true = grind (arith, nat_tests) in
    let c : nat_lt (digits_value 10 ds) (2 ^ 32) ≡ true = grind (arith, nat_tests) in
    rw (a, b, c) (ap Some value)

pub spelled_large : (ds : List ℕ) → 2 ^ 32 ≤ digits_value 10 ds → spelled ds ≡ None
spelled_large ds large = let c : nat_lt (digits_value 10 ds) (2 ^ 32) ≡ false = grind (arith, nat_tests) in by (nat_le 1 (length ds)) (nat_le (length ds) 10) (nat_lt (digits_value 10 ds) (2 ^ 32)) c
  where
    by : (x y z : Bool) → z ≡ false → (if x && y && z then Some (digits_value 10 ds) else None) ≡ None
    by true true true e = cc
    by true true false e = refl
    by true false z e = refl
    by false y z e = refl

spells_from : (ds : List ℕ) (n : ℕ) → AreDigits ds → spelled ds ≡ Some n → SpellsNumber ds n
spells_from ds n h e = by (nat_le 1 (length ds)) (nat_le (length ds) 10) (nat_lt (digits_value 10 ds) (2 ^ 32)) refl refl refl e
  where
    by : (x y z : Bool) → nat_le 1 (length ds) ≡ x → nat_le (length ds) 10 ≡ y → nat_lt (digits_value 10 ds) (2 ^ 32) ≡ z → (if x && y && z then Some (digits_value 10 ds) else None) ≡ Some n → SpellsNumber ds n
    by true true true a b c q =
        let value : digits_value 10 ds ≡ n = cc in
        let some : 0 < length ds = grind (arith, nat_tests) in
        let few : length ds ≤ 10 = grind (arith, nat_tests) in
        let below : digits_value 10 ds < 2 ^ 32 = grind (arith, nat_tests) in
        record { numeral = (some, all_digits ds h); short = few; value = value; word = omega (arith, value, below) }
    by true true false a b c q = cc
    by true false z a b c q = cc
    by false y z a b c q = cc

spelled_from : (ds : List ℕ) (n : ℕ) → SpellsNumber ds n → spelled ds ≡ Some n
spelled_from ds n h = spelled_as ds n (omega (arith, h.numeral.0)) h.short h.value h.word

-- ---- the digits that stand first

pub digits_lead : (xs : List ℕ) → AreDigits (take (leading xs) xs)
digits_lead [] = tt
digits_lead (x ∷ xs) = by (is_digit x) refl (digits_lead xs)
  where
    by : (b : Bool) → is_digit x ≡ b → AreDigits (take (leading xs) xs) → AreDigits (take (if b then suc (leading xs) else 0) (x ∷ xs))
    by true e h = (e, h)
    by false e h = tt

leads : (ds rest : List ℕ) → AreDigits ds → leading rest ≡ 0 → leading (ds ++ rest) ≡ length ds
leads [] rest h e = e
leads (d ∷ ds) rest h e = rw h.0 (ap suc (leads ds rest h.1 e))

take_all : (xs ys : List ℕ) → take (length xs) (xs ++ ys) ≡ xs
take_all [] ys = refl
take_all (x ∷ xs) ys = ap (λ l. x ∷ l) (take_all xs ys)

drop_all : (xs ys : List ℕ) → drop (length xs) (xs ++ ys) ≡ ys
drop_all [] ys = refl
drop_all (x ∷ xs) ys = drop_all xs ys

both_parts : (n : ℕ) (xs : List ℕ) → take n xs ++ drop n xs ≡ xs
both_parts zero xs = refl
both_parts (suc n) [] = refl
both_parts (suc n) (x ∷ xs) = ap (λ l. x ∷ l) (both_parts n xs)

end_leads : (end : List ℕ) → IsEnd end → leading end ≡ 0
end_leads end no_end = refl
end_leads end line_feed = refl
end_leads end return_and_line_feed = refl

-- ---- ends

pub end_of : (t : List ℕ) → IsTrue (ends_line t) → IsEnd t
end_of [] h = no_end
end_of (a ∷ []) h = let same : a ≡ 10 = grind (arith, nat_tests) in subst (λ x. IsEnd (x ∷ [])) (sym same) line_feed
end_of (a ∷ b ∷ []) h =
    let each = both_true (nat_eq a 13) (nat_eq b 10) h in
    let e = each.0 in
    let f = each.1 in
    let first : a ≡ 13 = grind (arith, nat_tests) in
    let last : b ≡ 10 = grind (arith, nat_tests) in
    subst (λ x. IsEnd (x ∷ b ∷ [])) (sym first) (subst (λ x. IsEnd (13 ∷ x ∷ [])) (sym last) return_and_line_feed)
end_of (a ∷ b ∷ c ∷ t) h = absurd cc

pub ends_as : (t : List ℕ) → IsEnd t → ends_line t ≡ true
ends_as t no_end = refl
ends_as t line_feed = refl
ends_as t return_and_line_feed = refl

-- ---- lines

-- a line as it is read
pub record IsRead (line : List ℕ) (c : Choice) : Type 0 where
  pub rest : List ℕ
  pub first : spelled (take (leading line) line) ≡ Some c.which
  pub space : drop (leading line) line ≡ 32 ∷ rest
  pub second : spelled (take (leading rest) rest) ≡ Some c.pick
  pub ends : IsEnd (drop (leading rest) rest)

pub line_of : (line : List ℕ) (c : Choice) → IsRead line c → IsLine line c
line_of line c r =
    record {
      which = take (leading line) line;
      pick = take (leading r.rest) r.rest;
      end = drop (leading r.rest) r.rest;
      is = sym (both_parts (leading line) line) ∙ ap (λ l. take (leading line) line ++ l) r.space ∙ ap (λ l. take (leading line) line ++ 32 ∷ l) (sym (both_parts (leading r.rest) r.rest));
      first = spells_from _ c.which (digits_lead line) r.first;
      second = spells_from _ c.pick (digits_lead r.rest) r.second;
      ends = r.ends;
    }

pub read_of : (line : List ℕ) (c : Choice) → IsLine line c → IsRead line c
read_of line c h =
    let one : leading line ≡ length h.which = ap leading h.is ∙ leads h.which (32 ∷ (h.pick ++ h.end)) (are_digits h.which h.first.numeral.1) refl in
    let two : leading (h.pick ++ h.end) ≡ length h.pick = leads h.pick h.end (are_digits h.pick h.second.numeral.1) (end_leads h.end h.ends) in
    record {
      rest = h.pick ++ h.end;
      first = ap (λ n. spelled (take n line)) one ∙ ap (λ l. spelled (take (length h.which) l)) h.is ∙ ap spelled (take_all h.which _) ∙ spelled_from h.which c.which h.first;
      space = ap (λ n. drop n line) one ∙ ap (drop (length h.which)) h.is ∙ drop_all h.which _;
      second = ap (λ n. spelled (take n (h.pick ++ h.end))) two ∙ ap spelled (take_all h.pick h.end) ∙ spelled_from h.pick c.pick h.second;
      ends = subst IsEnd (sym (ap (λ n. drop n (h.pick ++ h.end)) two ∙ drop_all h.pick h.end)) h.ends;
    }

pub one_choice : (line : List ℕ) (c d : Choice) → IsLine line c → IsLine line d → c ≡ d
one_choice line c d h k =
    let x = read_of line c h in
    let y = read_of line d k in
    let which : c.which ≡ d.which = (let e = sym x.first ∙ y.first in cc) in
    let rests : x.rest ≡ y.rest = (let e = sym x.space ∙ y.space in cc) in
    let pick : c.pick ≡ d.pick = (let e = sym x.second ∙ ap (λ l. spelled (take (leading l) l)) rests ∙ y.second in cc) in
    ap (λ n. record c { which = n }) which ∙ ap (λ n. record d { pick = n }) pick

pub leading_short : (xs : List ℕ) → leading xs ≤ length xs
leading_short [] = omega arith
leading_short (x ∷ xs) = by (is_digit x) (leading_short xs)
  where
    by : (b : Bool) → leading xs ≤ length xs → (if b then suc (leading xs) else 0) ≤ length (x ∷ xs)
    by true h = omega (arith, h)
    by false h = omega arith

pub none_of : {X : Type 0} {P : Type 0} (o : Option X) → P → IfNone o P
none_of None p = p
none_of (Some x) p = tt

module _ (line : List ℕ) where
  abbrev NoLine : Type 0
  NoLine = (x : Choice) → IsLine line x → ⊥

  pub no_which : spelled (take (leading line) line) ≡ None → NoLine
  no_which e x h = let r = read_of line x h in let q = sym e ∙ r.first in cc

  pub no_rest : drop (leading line) line ≡ [] → NoLine
  no_rest e x h = let r = read_of line x h in let q = sym e ∙ r.space in cc

  pub no_space : (b : ℕ) (rest : List ℕ) → drop (leading line) line ≡ b ∷ rest → (b ≡ 32 → ⊥) → NoLine
  no_space b rest e n x h = let r = read_of line x h in n (let q = sym e ∙ r.space in cc)

  same_rest : (x : Choice) (rest : List ℕ) (r : IsRead line x) → drop (leading line) line ≡ 32 ∷ rest → r.rest ≡ rest
  same_rest x rest r e = let q = sym r.space ∙ e in cc

  pub no_pick : (rest : List ℕ) → drop (leading line) line ≡ 32 ∷ rest → spelled (take (leading rest) rest) ≡ None → NoLine
  no_pick rest e n x h =
      let r = read_of line x h in
      let q = sym n ∙ ap (λ l. spelled (take (leading l) l)) (sym (same_rest x rest r e)) ∙ r.second in
      cc

  pub no_end_there : (rest : List ℕ) → drop (leading line) line ≡ 32 ∷ rest → ends_line (drop (leading rest) rest) ≡ false → NoLine
  no_end_there rest e n x h =
      let r = read_of line x h in
      let q = sym n ∙ ap (λ l. ends_line (drop (leading l) l)) (sym (same_rest x rest r e)) ∙ ends_as _ r.ends in
      cc

pub nothing : (t : List ℕ) → length t ≡ 0 → t ≡ []
nothing [] h = refl
nothing (b ∷ t) h = absurd (omega (arith, h))
