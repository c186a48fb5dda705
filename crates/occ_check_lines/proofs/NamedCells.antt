-- What is read of so many cells, cell by cell and by spans.
use Rattle.std.proofs.Common.{◌≡◌, ◌∙◌, sym, ap, refl, ℕ, zero, suc, ◌+◌, ◌<◌, ◌≤◌, Bool, true, false, arith}
use Rattle.std.specs.Prelude.{nat_eq, nat_le, nat_lt, ◌&&◌, ◌||◌}
use Rattle.std.proofs.lemmas.Bool.Decides.{nat_tests}
use Rattle.occ_term.specs.Messages.{product}
use Rattle.occ_term.specs.Terms.{Expression, Constant, Cell, Component, Letter, Binary, Unary, And, Or, Conversion, Place, place, Subscripts, no_subscripts, then_subscript}
use Rattle.occ_term.specs.Uses.{Numbers, empty_set, named_by, numbers_in, part_named, reads_in_place, reads_in_subscripts, reads_of, union}
use Rattle.occ_term.specs.Values.{Span, span}
use Rattle.occ_check_meaning.specs.Items.{has_of, has_some}
use Rattle.occ_check_lines.specs.Clash.{reads_some, shares, some_in_place, some_in_subscripts}

-- ---- one of so many numbers

hits : (set : Numbers) (a n c : ℕ) → a ≤ c → c < a + n → set c ≡ true → has_some set a n ≡ true
hits set a zero c low high is = absurd (omega arith)
hits set a (suc n) c low high is = by (nat_eq a c) refl (λ later. hits set (a + 1) n c later (omega arith) is)
  where
    or_true : (b : Bool) → (b || true) ≡ true
    or_true true = refl
    or_true false = refl

    by : (b : Bool) → nat_eq a c ≡ b → (a + 1 ≤ c → has_some set (a + 1) n ≡ true) → has_some set a (suc n) ≡ true
    by true e rest = let same : a ≡ c = grind (arith, nat_tests, e) in ap (λ b. b || has_some set (a + 1) n) (ap set same ∙ is)
    by false e rest =
        let other : a + 1 ≤ c = grind (arith, nat_tests, e) in
        ap (λ b. set a || b) (rest other) ∙ or_true (set a)

misses : (set : Numbers) (a n : ℕ) → ((c : ℕ) → a ≤ c → c < a + n → set c ≡ false) → has_some set a n ≡ false
misses set a zero none = refl
misses set a (suc n) none =
    ap (λ b. b || has_some set (a + 1) n) (none a (omega arith) (omega arith))
    ∙ misses set (a + 1) n (λ c low high. none c (omega arith) (omega arith))

pub either_of : (a b c d : Bool) → ((a || b) || (c || d)) ≡ ((a || c) || (b || d))
either_of true b c d = refl
either_of false true true d = refl
either_of false true false d = refl
either_of false false c d = refl

has_either : (s t : Numbers) (a n : ℕ) → has_some (union s t) a n ≡ (has_some s a n || has_some t a n)
has_either s t a zero = refl
has_either s t a (suc n) = ap (λ b. (s a || t a) || b) (has_either s t (a + 1) n) ∙ either_of (s a) (t a) (has_some s (a + 1) n) (has_some t (a + 1) n)

has_none : (a n : ℕ) → has_some empty_set a n ≡ false
has_none a n = misses empty_set a n (λ c low high. refl)

-- ---- two spans

pub share_none : (f k a n : ℕ) → k ≡ 0 → shares (span f k) (span a n) ≡ false
share_none f k a n none = misses (numbers_in (span f k)) a n (λ c low high. grind (arith, nat_tests, none))

pub none_share : (f k a n : ℕ) → n ≡ 0 → shares (span f k) (span a n) ≡ false
none_share f k a n none = misses (numbers_in (span f k)) a n (λ c low high. absurd (omega (arith, none, low, high)))

-- spans with cells share one where each begins before the other ends
pub share_is : (f k a n : ℕ) → 0 < k → 0 < n → shares (span f k) (span a n) ≡ (nat_lt a (f + k) && nat_lt f (a + n))
share_is f k a n some others = by (nat_lt a (f + k) && nat_lt f (a + n)) refl
  where
    by : (b : Bool) → (nat_lt a (f + k) && nat_lt f (a + n)) ≡ b → has_some (numbers_in (span f k)) a n ≡ b
    by true e = at (nat_le f a) refl
      where
        at : (c : Bool) → nat_le f a ≡ c → has_some (numbers_in (span f k)) a n ≡ true
        at true g = hits (numbers_in (span f k)) a n a (omega arith) (omega (arith, others)) (grind (arith, nat_tests, e, g))
        at false g = hits (numbers_in (span f k)) a n f (grind (arith, nat_tests, g)) (grind (arith, nat_tests, e)) (grind (arith, nat_tests, some))
    by false e = misses (numbers_in (span f k)) a n (λ c low high. out c low high (nat_le f c && nat_lt c (f + k)) refl)
      where
        out : (c : ℕ) → a ≤ c → c < a + n → (b : Bool) → (nat_le f c && nat_lt c (f + k)) ≡ b → (nat_le f c && nat_lt c (f + k)) ≡ false
        out c low high false g = g
        out c low high true g = absurd (grind (arith, nat_tests, e, g, low, high))

pub common : (f k a n m : ℕ) → f ≤ m → a ≤ m → ((c : ℕ) → f ≤ c → a ≤ c → m ≤ c)
    → ((nat_le f m && nat_lt m (f + k)) && (nat_le a m && nat_lt m (a + n))) ≡ shares (span f k) (span a n)
common f k a n m over_f over_a least = by ((nat_le f m && nat_lt m (f + k)) && (nat_le a m && nat_lt m (a + n))) refl
  where
    by : (b : Bool) → ((nat_le f m && nat_lt m (f + k)) && (nat_le a m && nat_lt m (a + n))) ≡ b → b ≡ has_some (numbers_in (span f k)) a n
    by true e =
        let under_f : m < f + k = grind (arith, nat_tests, e) in
        let under_a : m < a + n = grind (arith, nat_tests, e) in
        let is : (nat_le f m && nat_lt m (f + k)) ≡ true = grind (arith, nat_tests) in
        sym (hits (numbers_in (span f k)) a n m over_a under_a is)
    by false e = sym (misses (numbers_in (span f k)) a n (λ c low high. out c low high (nat_le f c) refl))
      where
        out : (c : ℕ) → a ≤ c → c < a + n → (b : Bool) → nat_le f c ≡ b → (nat_le f c && nat_lt c (f + k)) ≡ false
        out c low high false g = ap (λ b. b && nat_lt c (f + k)) g
        out c low high true g =
            let above : f ≤ c = grind (arith, nat_tests, g) in
            let far : m ≤ c = least c above low in
            grind (arith, nat_tests, e, far, high, over_f, over_a)

-- ---- what is read

abbrev pub sharing : Span → Span → Bool
sharing v s = shares s v

alone : (c x : ℕ) → numbers_in (span c 1) x ≡ nat_eq c x
alone c x = by (nat_eq c x) refl
  where
    by : (b : Bool) → nat_eq c x ≡ b → (nat_le c x && nat_lt x (c + 1)) ≡ b
    by true e = grind (arith, nat_tests, e)
    by false e = grind (arith, nat_tests, e)

mutual
  reads_is : (e : Expression) (a n : ℕ) → reads_some (sharing (span a n)) e ≡ has_some (reads_of e) a n
  reads_is (Constant v) a n = sym (has_none a n)
  reads_is (Cell c) a n = λ i. has_some (λ x. alone c x i) a n
  reads_is (Component p) a n = in_place_is p a n
  reads_is (Letter line text e) a n = reads_is e a n
  reads_is (Binary op type line x y) a n = (λ i. reads_is x a n i || reads_is y a n i) ∙ sym (has_either (reads_of x) (reads_of y) a n)
  reads_is (Unary op type line x) a n = reads_is x a n
  reads_is (And x y) a n = (λ i. reads_is x a n i || reads_is y a n i) ∙ sym (has_either (reads_of x) (reads_of y) a n)
  reads_is (Or x y) a n = (λ i. reads_is x a n i || reads_is y a n i) ∙ sym (has_either (reads_of x) (reads_of y) a n)
  reads_is (Conversion to line x) a n = reads_is x a n

  in_place_is : (p : Place) (a n : ℕ) → some_in_place (sharing (span a n)) p ≡ has_some (union (named_by p) (reads_in_place p)) a n
  in_place_is (place line first sizes subs) a n =
      ap (λ b. shares (part_named subs first sizes (span first (product sizes))) (span a n) || b) (subscripts_is subs a n)
      ∙ sym (has_either (numbers_in (part_named subs first sizes (span first (product sizes)))) (reads_in_subscripts subs) a n)

  subscripts_is : (es : Subscripts) (a n : ℕ) → some_in_subscripts (sharing (span a n)) es ≡ has_some (reads_in_subscripts es) a n
  subscripts_is no_subscripts a n = sym (has_none a n)
  subscripts_is (then_subscript e es) a n = (λ i. reads_is e a n i || subscripts_is es a n i) ∙ sym (has_either (reads_of e) (reads_in_subscripts es) a n)

-- ---- a variable that a subscript names

pub named_is : (es : Subscripts) (v : Span) → some_in_subscripts (sharing v) es ≡ has_of (reads_in_subscripts es) v
named_is es (span first count) = subscripts_is es first count

-- ---- the operands of a chain, from the last to the first

pub read_by_right : (a b : Bool) → b ≡ true → (a || b) ≡ true
read_by_right true b is = refl
read_by_right false b is = is

pub read_by_left : (a b : Bool) → b ≡ false → (a || b) ≡ a
read_by_left true b is = refl
read_by_left false b is = is
