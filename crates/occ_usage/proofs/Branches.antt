-- Clashes of two sets of uses: with parts of either, and among branches one after another.
use Rattle.std.proofs.Common.{◌≡◌, ℕ, suc, ◌+◌, ◌<◌, ◌≤◌, List, [], ◌∷◌, ◌++◌, drop, get_or, length, map, Bool, true, false, refl, sym, ap, ◌∙◌, subst, inl, inr, arith}
use Rattle.std.specs.Prelude.{None, Option, Some, ◌&&◌, ◌||◌}
use Rattle.std.proofs.Math.Seq.{drop-cons}
use Rattle.std.proofs.lemmas.List.{drop_all}
use Rattle.std.proofs.lemmas.Bool.Decides.{nat_tests}
use Rattle.occ_term.specs.Uses.{Numbers, Uses, no_use, with_use}
use Rattle.occ_usage.specs.Clashes.{Clash}
use Rattle.occ_usage.specs.Noted.{Finds, IsOneOf, all_uses, between, breaking, clash_among, use_of, uses_in, with_one}
use Rattle.occ_usage.specs.Indexes.{IsOne, IsWithin, Tells}
use Rattle.occ_usage.specs.declared.noted.Found.{Found}
use Rattle.occ_usage.specs.declared.noted.Rule.{Rule}
use Rattle.occ_usage.specs.declared.noted.Rule.TheVariants.{Variables, Inputs, Outputs}
use Rattle.occ_usage.specs.declared.noted.Kind.TheVariants.{Read, Write, Input, Output}
use Rattle.occ_usage.specs.declared.noted.Use.{Use}
use Rattle.occ_usage.proofs.UseSets.{or_assoc}
use Rattle.occ_usage.proofs.Walks.{neither, or_left, or_right}

-- ---- a set of uses against two

shared_joined : (aw ar bw br cw cr : Bool) → (aw && ((br || cr) || (bw || cw)) || (bw || cw) && (ar || aw)) ≡ ((aw && (br || bw) || bw && (ar || aw)) || (aw && (cr || cw) || cw && (ar || aw)))
shared_joined true true true true true true = refl
shared_joined true true true true true false = refl
shared_joined true true true true false true = refl
shared_joined true true true true false false = refl
shared_joined true true true false true true = refl
shared_joined true true true false true false = refl
shared_joined true true true false false true = refl
shared_joined true true true false false false = refl
shared_joined true true false true true true = refl
shared_joined true true false true true false = refl
shared_joined true true false true false true = refl
shared_joined true true false true false false = refl
shared_joined true true false false true true = refl
shared_joined true true false false true false = refl
shared_joined true true false false false true = refl
shared_joined true true false false false false = refl
shared_joined true false true true true true = refl
shared_joined true false true true true false = refl
shared_joined true false true true false true = refl
shared_joined true false true true false false = refl
shared_joined true false true false true true = refl
shared_joined true false true false true false = refl
shared_joined true false true false false true = refl
shared_joined true false true false false false = refl
shared_joined true false false true true true = refl
shared_joined true false false true true false = refl
shared_joined true false false true false true = refl
shared_joined true false false true false false = refl
shared_joined true false false false true true = refl
shared_joined true false false false true false = refl
shared_joined true false false false false true = refl
shared_joined true false false false false false = refl
shared_joined false true true true true true = refl
shared_joined false true true true true false = refl
shared_joined false true true true false true = refl
shared_joined false true true true false false = refl
shared_joined false true true false true true = refl
shared_joined false true true false true false = refl
shared_joined false true true false false true = refl
shared_joined false true true false false false = refl
shared_joined false true false true true true = refl
shared_joined false true false true true false = refl
shared_joined false true false true false true = refl
shared_joined false true false true false false = refl
shared_joined false true false false true true = refl
shared_joined false true false false true false = refl
shared_joined false true false false false true = refl
shared_joined false true false false false false = refl
shared_joined false false true true true true = refl
shared_joined false false true true true false = refl
shared_joined false false true true false true = refl
shared_joined false false true true false false = refl
shared_joined false false true false true true = refl
shared_joined false false true false true false = refl
shared_joined false false true false false true = refl
shared_joined false false true false false false = refl
shared_joined false false false true true true = refl
shared_joined false false false true true false = refl
shared_joined false false false true false true = refl
shared_joined false false false true false false = refl
shared_joined false false false false true true = refl
shared_joined false false false false true false = refl
shared_joined false false false false false true = refl
shared_joined false false false false false false = refl

both_joined : (a b c : Bool) → (a && (b || c)) ≡ (a && b || a && c)
both_joined true true true = refl
both_joined true true false = refl
both_joined true false true = refl
both_joined true false false = refl
both_joined false true true = refl
both_joined false true false = refl
both_joined false false true = refl
both_joined false false false = refl

shared_swapped : (aw ar bw br : Bool) → (aw && (br || bw) || bw && (ar || aw)) ≡ (bw && (ar || aw) || aw && (br || bw))
shared_swapped true true true true = refl
shared_swapped true true true false = refl
shared_swapped true true false true = refl
shared_swapped true true false false = refl
shared_swapped true false true true = refl
shared_swapped true false true false = refl
shared_swapped true false false true = refl
shared_swapped true false false false = refl
shared_swapped false true true true = refl
shared_swapped false true true false = refl
shared_swapped false true false true = refl
shared_swapped false true false false = refl
shared_swapped false false true true = refl
shared_swapped false false true false = refl
shared_swapped false false false true = refl
shared_swapped false false false false = refl

both_swapped : (a b : Bool) → (a && b) ≡ (b && a)
both_swapped true true = refl
both_swapped true false = refl
both_swapped false true = refl
both_swapped false false = refl

and_none : (a : Bool) → (a && false) ≡ false
and_none true = refl
and_none false = refl

pub breaking_joined : (rule : Rule) (n : ℕ) (a b c : Uses) → breaking rule n a (with_use b c) ≡ (breaking rule n a b || breaking rule n a c)
breaking_joined Variables n a b c = shared_joined (a.writes n) (a.reads n) (b.writes n) (b.reads n) (c.writes n) (c.reads n)
breaking_joined Inputs n a b c = both_joined (a.ins n) (b.ins n) (c.ins n)
breaking_joined Outputs n a b c = both_joined (a.outs n) (b.outs n) (c.outs n)

pub breaking_swapped : (rule : Rule) (n : ℕ) (a b : Uses) → breaking rule n a b ≡ breaking rule n b a
breaking_swapped Variables n a b = shared_swapped (a.writes n) (a.reads n) (b.writes n) (b.reads n)
breaking_swapped Inputs n a b = both_swapped (a.ins n) (b.ins n)
breaking_swapped Outputs n a b = both_swapped (a.outs n) (b.outs n)

pub breaking_none : (rule : Rule) (n : ℕ) (a : Uses) → breaking rule n a no_use ≡ false
breaking_none Variables n a = neither (and_none (a.writes n)) refl
breaking_none Inputs n a = and_none (a.ins n)
breaking_none Outputs n a = and_none (a.outs n)

none_breaking : (rule : Rule) (n : ℕ) (a : Uses) → breaking rule n no_use a ≡ false
none_breaking rule n a = breaking_swapped rule n no_use a ∙ breaking_none rule n a

pub joined_breaking : (rule : Rule) (n : ℕ) (a b c : Uses) → breaking rule n (with_use a b) c ≡ (breaking rule n a c || breaking rule n b c)
joined_breaking rule n a b c =
    breaking_swapped rule n (with_use a b) c ∙ breaking_joined rule n c a b ∙ ap (λ x. x || breaking rule n c b) (breaking_swapped rule n c a)
    ∙ ap (λ x. breaking rule n a c || x) (breaking_swapped rule n c b)

-- ---- branches one after another

one_with_all : (rule : Rule) (n : ℕ) (a : Uses) (bs : List Uses) → with_one (breaking rule n) a bs ≡ breaking rule n a (all_uses bs)
one_with_all rule n a [] = sym (breaking_none rule n a)
one_with_all rule n a (b ∷ bs) = ap (λ x. breaking rule n a b || x) (one_with_all rule n a bs) ∙ sym (breaking_joined rule n a b (all_uses bs))

all-append : (ls bs : List Uses) (rule : Rule) (n : ℕ) (a : Uses) → breaking rule n a (all_uses (ls ++ bs)) ≡ (breaking rule n a (all_uses ls) || breaking rule n a (all_uses bs))
all-append [] bs rule n a = ap (λ x. x || breaking rule n a (all_uses bs)) (sym (breaking_none rule n a))
all-append (c ∷ cs) bs rule n a =
    breaking_joined rule n a c (all_uses (cs ++ bs)) ∙ ap (λ x. breaking rule n a c || x) (all-append cs bs rule n a)
    ∙ sym (or_assoc (breaking rule n a c) (breaking rule n a (all_uses cs)) (breaking rule n a (all_uses bs)))
    ∙ ap (λ x. x || breaking rule n a (all_uses bs)) (sym (breaking_joined rule n a c (all_uses cs)))

regroup : (w x a y b : Bool) → ((w || x) || (a || (y || b))) ≡ ((w || a) || ((x || y) || b))
regroup true true true true true = refl
regroup true true true true false = refl
regroup true true true false true = refl
regroup true true true false false = refl
regroup true true false true true = refl
regroup true true false true false = refl
regroup true true false false true = refl
regroup true true false false false = refl
regroup true false true true true = refl
regroup true false true true false = refl
regroup true false true false true = refl
regroup true false true false false = refl
regroup true false false true true = refl
regroup true false false true false = refl
regroup true false false false true = refl
regroup true false false false false = refl
regroup false true true true true = refl
regroup false true true true false = refl
regroup false true true false true = refl
regroup false true true false false = refl
regroup false true false true true = refl
regroup false true false true false = refl
regroup false true false false true = refl
regroup false true false false false = refl
regroup false false true true true = refl
regroup false false true true false = refl
regroup false false true false true = refl
regroup false false true false false = refl
regroup false false false true true = refl
regroup false false false true false = refl
regroup false false false false true = refl
regroup false false false false false = refl

pub among-append : (ls bs : List Uses) (rule : Rule) (n : ℕ) → clash_among (ls ++ bs) (breaking rule n)
    ≡ (clash_among ls (breaking rule n) || (breaking rule n (all_uses ls) (all_uses bs) || clash_among bs (breaking rule n)))
among-append [] bs rule n = ap (λ x. x || clash_among bs (breaking rule n)) (sym (none_breaking rule n (all_uses bs)))
among-append (a ∷ ls) bs rule n =
    ap (λ x. x || clash_among (ls ++ bs) (breaking rule n)) (one_with_all rule n a (ls ++ bs) ∙ all-append ls bs rule n a ∙ ap (λ x. x || breaking rule n a (all_uses bs)) (sym (one_with_all rule n a ls)))
    ∙ ap (λ x. (with_one (breaking rule n) a ls || breaking rule n a (all_uses bs)) || x) (among-append ls bs rule n)
    ∙ regroup (with_one (breaking rule n) a ls) (breaking rule n a (all_uses bs)) (clash_among ls (breaking rule n)) (breaking rule n (all_uses ls) (all_uses bs)) (clash_among bs (breaking rule n))
    ∙ ap (λ x. (with_one (breaking rule n) a ls || clash_among ls (breaking rule n)) || (x || clash_among bs (breaking rule n))) (sym (joined_breaking rule n a (all_uses ls) (all_uses bs)))

pub map-append : {X Y : Type 0} (f : X → Y) (ls bs : List X) → map f (ls ++ bs) ≡ map f ls ++ map f bs
map-append f [] bs = refl
map-append f (a ∷ ls) bs = ap (λ l. f a ∷ l) (map-append f ls bs)

-- ---- what is found

pub finds_nothing : (lists : List (List Use)) → length lists ≤ 1 → Finds None (clash_among (map uses_in lists))
finds_nothing [] h = record { none = λ e rule n. refl; some = λ f e. absurd cc }
finds_nothing (a ∷ []) h = record { none = λ e rule n. refl; some = λ f e. absurd cc }
finds_nothing (a ∷ b ∷ others) h = absurd (omega arith)

abbrev halves : List (List Use) → List (List Use) → Clash → Bool
halves ls bs clash = clash (all_uses (map uses_in ls)) (all_uses (map uses_in bs))

parts_among : (ls bs : List (List Use)) (rule : Rule) (n : ℕ) → clash_among (map uses_in (ls ++ bs)) (breaking rule n)
    ≡ (clash_among (map uses_in ls) (breaking rule n) || (halves ls bs (breaking rule n) || clash_among (map uses_in bs) (breaking rule n)))
parts_among ls bs rule n = ap (λ l. clash_among l (breaking rule n)) (map-append uses_in ls bs) ∙ among-append (map uses_in ls) (map uses_in bs) rule n

pub finds_left : (ls bs : List (List Use)) (f : Found) → Finds (Some f) (clash_among (map uses_in ls)) → Finds (Some f) (clash_among (map uses_in (ls ++ bs)))
finds_left ls bs f p =
    record {
      none = λ e. absurd cc;
      some = λ g e. parts_among ls bs g.rule g.number ∙ or_left (halves ls bs (breaking g.rule g.number) || clash_among (map uses_in bs) (breaking g.rule g.number)) (p.some g e);
    }

pub finds_right : (ls bs : List (List Use)) (before across after found : Option Found) → Finds before (clash_among (map uses_in ls)) → before ≡ None → Finds across (halves ls bs)
    → Finds after (clash_among (map uses_in bs)) → IsOneOf found across after → Finds found (clash_among (map uses_in (ls ++ bs)))
finds_right ls bs before across after found p nothing q r one =
    record {
      none = λ e rule n. parts_among ls bs rule n ∙ neither (p.none nothing rule n) (neither (q.none (one.none e).0 rule n) (r.none (one.none e).1 rule n));
      some = λ f e.
          parts_among ls bs f.rule f.number ∙ or_right (clash_among (map uses_in ls) (breaking f.rule f.number))
          (elim one.one [
            | inl h ↦ or_left (clash_among (map uses_in bs) (breaking f.rule f.number)) (q.some f (sym h ∙ e))
            | inr h ↦ or_right (halves ls bs (breaking f.rule f.number)) (r.some f (sym h ∙ e))
          ]);
    }

-- ---- a use against the uses before

-- what is found among the first uses of a list says the same of the whole list
pub record Scan (left : Uses) (right : List Use) (i : ℕ) : Type 0 where
  pub none : ((rule : Rule) (n : ℕ) → breaking rule n left (uses_in (drop i right)) ≡ false) → (rule : Rule) (n : ℕ) → breaking rule n left (uses_in right) ≡ false
  pub some : (rule : Rule) (n : ℕ) → breaking rule n left (uses_in (drop i right)) ≡ true → breaking rule n left (uses_in right) ≡ true

abbrev pub use_at : Use → Uses
use_at u = use_of u.kind (between u.first u.end)

scan_tail : (left : Uses) (right : List Use) (i : ℕ) (u : Use) → i < length right → u ≡ get_or right i u → (rule : Rule) (n : ℕ)
    → breaking rule n left (uses_in (drop i right)) ≡ (breaking rule n left (use_at u) || breaking rule n left (uses_in (drop (i + 1) right)))
scan_tail left right i u lt is rule n =
    let step : i + 1 ≡ suc i = omega arith in
    let tail : drop i right ≡ u ∷ drop (i + 1) right = drop-cons right i u lt ∙ ap (λ y. y ∷ drop (suc i) right) (sym is) ∙ ap (λ k. u ∷ drop k right) (sym step) in
    ap (λ us. breaking rule n left (uses_in us)) tail ∙ breaking_joined rule n left (use_at u) (uses_in (drop (i + 1) right))

pub scan_next : (left : Uses) (right : List Use) (i : ℕ) (u : Use) → i < length right → u ≡ get_or right i u → Scan left right i
    → ((rule : Rule) (n : ℕ) → breaking rule n left (use_at u) ≡ false) → Scan left right (i + 1)
scan_next left right i u lt is scan misses =
    record {
      none = λ h. scan.none (λ rule n. scan_tail left right i u lt is rule n ∙ neither (misses rule n) (h rule n));
      some = λ rule n h. scan.some rule n (scan_tail left right i u lt is rule n ∙ or_right (breaking rule n left (use_at u)) h);
    }

pub scan_found : (left : Uses) (right : List Use) (i : ℕ) (u : Use) (f : Found) → i < length right → u ≡ get_or right i u → Scan left right i
    → breaking f.rule f.number left (use_at u) ≡ true → Finds (Some f) (λ clash. clash left (uses_in right))
scan_found left right i u f lt is scan hits =
    record {
      none = λ e. absurd cc;
      some = λ g e. subst (λ h. breaking h.rule h.number left (uses_in right) ≡ true) (some_found e)
          (scan.some f.rule f.number (scan_tail left right i u lt is f.rule f.number ∙ or_left (breaking f.rule f.number left (uses_in (drop (i + 1) right))) hits));
    }
  where
    some_found : {a b : Found} → Some a ≡ Some b → a ≡ b
    some_found e = cc

pub scan_none : (left : Uses) (right : List Use) (i : ℕ) → length right ≤ i → Scan left right i → Finds None (λ clash. clash left (uses_in right))
scan_none left right i h scan =
    record {
      none = λ e. scan.none (λ rule n. ap (λ us. breaking rule n left (uses_in us)) (drop_all i right h) ∙ breaking_none rule n left);
      some = λ f e. absurd cc;
    }

-- ---- one use

in_between : (a b n : ℕ) → between a b n ≡ true → (a ≤ n) × (n < b)
in_between a b n h = (grind (arith, nat_tests), grind (arith, nat_tests))

is_between : (a b n : ℕ) → a ≤ n → n < b → between a b n ≡ true
is_between a b n h k = grind (arith, nat_tests)

not_both : (number : Option ℕ) (set : Numbers) (first end : ℕ) → IsWithin number set first end → number ≡ None → (n : ℕ) → (set n && between first end n) ≡ false
not_both number set first end within none n = by (between first end n) refl
  where
    by : (b : Bool) → between first end n ≡ b → (set n && b) ≡ false
    by true e = let there = in_between first end n e in ap (λ x. x && true) (within.none none n there.0 there.1)
    by false e = and_none (set n)

both : (number : Option ℕ) (set : Numbers) (first end n : ℕ) → IsWithin number set first end → number ≡ Some n → (set n ≡ true) × (between first end n ≡ true)
both number set first end n within some = let there = within.some n some in (there.2, is_between first end n there.0 there.1)

read_misses : (aw x y : Bool) → (aw && x) ≡ false → (aw && (x || false) || false && y) ≡ false
read_misses true true y e = e
read_misses true false y e = refl
read_misses false x y e = refl

read_hits : (aw x y : Bool) → aw ≡ true → x ≡ true → (aw && (x || false) || false && y) ≡ true
read_hits true true y e f = refl
read_hits true false y e f = absurd cc
read_hits false x y e f = absurd cc

write_misses : (aw ar x : Bool) → (aw && x) ≡ false → (ar && x) ≡ false → (aw && (false || x) || x && (ar || aw)) ≡ false
write_misses aw ar false e f = and_misses aw
  where
    and_misses : (a : Bool) → (a && false || false) ≡ false
    and_misses true = refl
    and_misses false = refl
write_misses true ar true e f = absurd cc
write_misses false true true e f = absurd cc
write_misses false false true e f = refl

write_hits : (aw ar x : Bool) → x ≡ true → (ar || aw) ≡ true → (aw && (false || x) || x && (ar || aw)) ≡ true
write_hits aw ar false e f = absurd cc
write_hits true ar true e f = refl
write_hits false true true e f = refl
write_hits false false true e f = absurd cc

same_rule : (left more : Uses) (rule : Rule) (f : Found) → f.rule ≡ rule → breaking rule f.number left more ≡ true → breaking f.rule f.number left more ≡ true
same_rule left more rule f e h = ap (λ r. breaking r f.number left more) (e) ∙ h

pub read_found : (left : Uses) (first end : ℕ) (number : Option ℕ) (found : Option Found) → IsWithin number left.writes first end → Tells found Variables number
    → Finds found (λ clash. clash left (use_of Read (between first end)))
read_found left first end number found within tells =
    record {
      none = λ e rule n. miss rule n (not_both number left.writes first end within (tells.none e) n);
      some = λ f e.
          let there = both number left.writes first end f.number within (tells.some f e).1 in
          same_rule left (use_of Read (between first end)) Variables f (tells.some f e).0 (read_hits (left.writes f.number) (between first end f.number) (left.reads f.number || left.writes f.number) there.0 there.1);
    }
  where
    miss : (rule : Rule) (n : ℕ) → (left.writes n && between first end n) ≡ false → breaking rule n left (use_of Read (between first end)) ≡ false
    miss Variables n h = read_misses (left.writes n) (between first end n) (left.reads n || left.writes n) h
    miss Inputs n h = and_none (left.ins n)
    miss Outputs n h = and_none (left.outs n)

pub write_found : (left : Uses) (first end : ℕ) (read written number : Option ℕ) (found : Option Found) → IsWithin read left.reads first end → IsWithin written left.writes first end
    → IsOne number read written → Tells found Variables number → Finds found (λ clash. clash left (use_of Write (between first end)))
write_found left first end read written number found reads writes one tells =
    record {
      none = λ e rule n.
          let neither_one = one.none (tells.none e) in
          miss rule n (not_both written left.writes first end writes neither_one.1 n) (not_both read left.reads first end reads neither_one.0 n);
      some = λ f e. same_rule left (use_of Write (between first end)) Variables f (tells.some f e).0 (hit f.number (tells.some f e).1);
    }
  where
    miss : (rule : Rule) (n : ℕ) → (left.writes n && between first end n) ≡ false → (left.reads n && between first end n) ≡ false
        → breaking rule n left (use_of Write (between first end)) ≡ false
    miss Variables n h k = write_misses (left.writes n) (left.reads n) (between first end n) h k
    miss Inputs n h k = and_none (left.ins n)
    miss Outputs n h k = and_none (left.outs n)

    hit : (n : ℕ) → number ≡ Some n → breaking Variables n left (use_of Write (between first end)) ≡ true
    hit n e = elim one.one [
      | inl h ↦
          let there = both read left.reads first end n reads (sym h ∙ e) in
          write_hits (left.writes n) (left.reads n) (between first end n) there.1 (or_left (left.writes n) there.0)
      | inr h ↦
          let there = both written left.writes first end n writes (sym h ∙ e) in
          write_hits (left.writes n) (left.reads n) (between first end n) there.1 (or_right (left.reads n) there.0)
    ]

both_hit : (a b : Bool) → a ≡ true → b ≡ true → (a && b) ≡ true
both_hit true b e f = f
both_hit false b e f = absurd cc

pub input_found : (left : Uses) (first end : ℕ) (number : Option ℕ) (found : Option Found) → IsWithin number left.ins first end → Tells found Inputs number
    → Finds found (λ clash. clash left (use_of Input (between first end)))
input_found left first end number found within tells =
    record {
      none = λ e rule n. miss rule n (not_both number left.ins first end within (tells.none e) n);
      some = λ f e.
          let there = both number left.ins first end f.number within (tells.some f e).1 in
          same_rule left (use_of Input (between first end)) Inputs f (tells.some f e).0 (both_hit (left.ins f.number) (between first end f.number) there.0 there.1);
    }
  where
    miss : (rule : Rule) (n : ℕ) → (left.ins n && between first end n) ≡ false → breaking rule n left (use_of Input (between first end)) ≡ false
    miss Variables n h = neither (and_none (left.writes n)) refl
    miss Inputs n h = h
    miss Outputs n h = and_none (left.outs n)

pub output_found : (left : Uses) (first end : ℕ) (number : Option ℕ) (found : Option Found) → IsWithin number left.outs first end → Tells found Outputs number
    → Finds found (λ clash. clash left (use_of Output (between first end)))
output_found left first end number found within tells =
    record {
      none = λ e rule n. miss rule n (not_both number left.outs first end within (tells.none e) n);
      some = λ f e.
          let there = both number left.outs first end f.number within (tells.some f e).1 in
          same_rule left (use_of Output (between first end)) Outputs f (tells.some f e).0 (both_hit (left.outs f.number) (between first end f.number) there.0 there.1);
    }
  where
    miss : (rule : Rule) (n : ℕ) → (left.outs n && between first end n) ≡ false → breaking rule n left (use_of Output (between first end)) ≡ false
    miss Variables n h = neither (and_none (left.writes n)) refl
    miss Inputs n h = and_none (left.ins n)
    miss Outputs n h = h
