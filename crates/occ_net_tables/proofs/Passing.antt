-- What is passed over on the way to the next communication on a channel.
use Rattle.std.proofs.Common.{◌≡◌, ◌∙◌, ℕ, zero, suc, ◌+◌, ◌<◌, ℤ, List, [], ◌∷◌, ◌++◌, get_or, length, take, drop, refl, sym, ap, subst, arith}
use Rattle.std.specs.Prelude.{Some, slice_get}
use Rattle.occ_term.specs.declared.communication.Communication.{Communication}
use Rattle.occ_net_tables.specs.declared.shapes.Head.{Head}
use Rattle.occ_net_tables.specs.declared.shapes.Shape.{Shape}
use Rattle.occ_net_tables.specs.Flat.{communications_in, items_in, lengths_behind, made, shapes_behind, words_behind}
use Rattle.occ_net_tables.specs.Passing.{AreElsewhere, HeadsElsewhere, IsFirstOn, FindsNext}
use Rattle.occ_net_tables.proofs.ReadLists.{few_read}

pub elsewhere_read : (c : ℕ) (hs : List Head) (ss : List Shape) (ns : List ℕ) (ws : List ℤ) → HeadsElsewhere c hs → AreElsewhere c (communications_in hs ss ns ws)
elsewhere_read c [] ss ns ws none = tt
elsewhere_read c (h ∷ hs) ss ns ws none = (none.0, elsewhere_read c hs (shapes_behind ss) (lengths_behind ss ns) (words_behind ss ns ws) none.1)

-- one more is passed over
pub one_more_passed : (hs : List Head) (ss : List Shape) (ns : List ℕ) (ws : List ℤ) → communications_in (drop 1 hs) (shapes_behind ss) (lengths_behind ss ns) (words_behind ss ns ws) ≡ drop 1 (communications_in hs ss ns ws)
one_more_passed [] ss ns ws = refl
one_more_passed (h ∷ hs) ss ns ws = refl

pub drop_next : {A : Type 0} (k : ℕ) (xs : List A) → drop 1 (drop k xs) ≡ drop (suc k) xs
drop_next zero xs = refl
drop_next (suc k) [] = refl
drop_next (suc k) (x ∷ xs) = drop_next k xs

-- what stands behind one more
pub passed_more : (hs : List Head) (k : ℕ) (all : List Communication) (ss : List Shape) (ns : List ℕ) (ws : List ℤ) → communications_in (drop k hs) ss ns ws ≡ drop k all
    → communications_in (drop (k + 1) hs) (shapes_behind ss) (lengths_behind ss ns) (words_behind ss ns ws) ≡ drop (k + 1) all
passed_more hs k all ss ns ws e =
    let at : k + 1 ≡ suc k = omega arith in
    ap (λ (n : ℕ). communications_in (drop n hs) (shapes_behind ss) (lengths_behind ss ns) (words_behind ss ns ws)) at
    ∙ ap (λ l. communications_in l (shapes_behind ss) (lengths_behind ss ns) (words_behind ss ns ws)) (sym (drop_next k hs))
    ∙ one_more_passed (drop k hs) ss ns ws ∙ ap (drop 1) e ∙ drop_next k all ∙ ap (λ (n : ℕ). drop n all) (sym at)

-- one more that is elsewhere
elsewhere_next : (c : ℕ) (hs : List Head) (k : ℕ) (d : Head) → k < length hs → ((get_or hs k d).chan ≡ c → ⊥) → HeadsElsewhere c (take k hs) → HeadsElsewhere c (take (suc k) hs)
elsewhere_next c [] k d h off none = absurd (omega (arith, h))
elsewhere_next c (x ∷ xs) zero d h off none = (off, tt)
elsewhere_next c (x ∷ xs) (suc k) d h off none = (none.0, elsewhere_next c xs k d (omega (arith, h)) off none.1)

pub elsewhere_more : (c : ℕ) (hs : List Head) (k : ℕ) (d : Head) → k < length hs → ((get_or hs k d).chan ≡ c → ⊥) → HeadsElsewhere c (take k hs) → HeadsElsewhere c (take (k + 1) hs)
elsewhere_more c hs k d h off none =
    let at : suc k ≡ k + 1 = omega arith in
    subst (λ (n : ℕ). HeadsElsewhere c (take n hs)) at (elsewhere_next c hs k d h off none)

pub head_first : (hs : List Head) (k : ℕ) (h : Head) → slice_get hs k ≡ Some h → drop k hs ≡ h ∷ drop (suc k) hs
head_first [] k h at = absurd cc
head_first (x ∷ xs) zero h at = let same : x ≡ h = cc in ap (λ z. z ∷ xs) same
head_first (x ∷ xs) (suc k) h at = head_first xs k h at

take_drop : {A : Type 0} (k : ℕ) (xs : List A) → xs ≡ take k xs ++ drop k xs
take_drop zero xs = refl
take_drop (suc k) [] = refl
take_drop (suc k) (x ∷ xs) = ap (λ l. x ∷ l) (take_drop k xs)

-- The first that is on the channel stands behind those that are passed over. From its items on stand ss, ns and ws, and behind them what is left.
pub passes_to : (c : ℕ) (hs : List Head) (all old : List Communication) (k : ℕ) (first : IsFirstOn c hs k) (h : Head) (ss : List Shape) (ns : List ℕ) (ws : List ℤ) (heads : List Head) (shapes : List Shape) (lengths : List ℕ) (words : List ℤ)
    → h ≡ first.head → communications_in (drop k hs) ss ns ws ≡ drop k all → AreElsewhere c (take k all) → all ≡ old
    → heads ≡ drop (k + 1) hs → shapes ≡ shapes_behind ss → lengths ≡ lengths_behind ss ns → words ≡ words_behind ss ns ws
    → FindsNext c old (made h (items_in ss ns ws)) (communications_in heads shapes lengths words)
passes_to c hs all old k first h ss ns ws heads shapes lengths words same read none is e f g i =
    let at : k + 1 ≡ suc k = omega arith in
    let left : communications_in (drop (suc k) hs) (shapes_behind ss) (lengths_behind ss ns) (words_behind ss ns ws) ≡ communications_in heads shapes lengths words =
    ap (λ l. communications_in l (shapes_behind ss) (lengths_behind ss ns) (words_behind ss ns ws)) (ap (λ (n : ℕ). drop n hs) (sym at) ∙ sym e)
    ∙ ap (λ l. communications_in heads l (lengths_behind ss ns) (words_behind ss ns ws)) (sym f)
    ∙ ap (λ l. communications_in heads shapes l (words_behind ss ns ws)) (sym g)
    ∙ ap (communications_in heads shapes lengths) (sym i) in
    let from : drop k all ≡ made h (items_in ss ns ws) ∷ communications_in heads shapes lengths words =
    sym read ∙ ap (λ l. communications_in l ss ns ws) (head_first hs k h (first.at ∙ ap Some (sym same))) ∙ ap (λ l. made h (items_in ss ns ws) ∷ l) left in
    record {
      passed = take k all;
      elsewhere = none;
      there = sym is ∙ take_drop k all ∙ ap (λ l. take k all ++ l) from;
      on = ap (λ (z : Head). z.chan) same ∙ first.on;
    }

-- those that stand before it are elsewhere
pub passed_elsewhere : (c : ℕ) (hs : List Head) (k : ℕ) (ss : List Shape) (ns : List ℕ) (ws : List ℤ) → HeadsElsewhere c (take k hs) → AreElsewhere c (take k (communications_in hs ss ns ws))
passed_elsewhere c hs k ss ns ws none = subst (AreElsewhere c) (few_read k hs ss ns ws) (elsewhere_read c (take k hs) ss ns ws none)
