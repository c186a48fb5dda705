-- Who is noted for channels.
use Rattle.std.proofs.Common.{Bool, List, Option, None, Some, [], ◌∷◌, ◌+◌, ◌<◌, ◌≡◌, ◌≤◌, ◌∙◌, ◌⊎◌, ap, arith, false, inl, inr, length, refl, subst, suc, sym, true, zero, ℕ}
use Rattle.std.specs.Prelude.{if◌then◌else◌, min, nat_lt, option_map, replicate, slice_get, ◌&&◌, ◌||◌}
use Rattle.std.proofs.lemmas.Bool.Decides.{nat_tests}
use Rattle.occ_explore_laws.proofs.Lists.{same_or_other}
use Rattle.occ_term.specs.Uses.{Numbers, Uses, empty_set}
use Rattle.occ_usage.specs.Noted.{between}
use Rattle.occ_net_tables.specs.Keys.{flat}
use Rattle.occ_ends.specs.Ends.{MarkedIn, MarkedLast, Marks, Using, first_with, last_with, marked, end_noted, or_first, of_declared}

pub lt_or_le : (n e : ℕ) → (n < e) ⊎ (e ≤ n)
lt_or_le zero zero = inr (omega arith)
lt_or_le zero (suc e) = inl (omega arith)
lt_or_le (suc n) zero = inr (omega arith)
lt_or_le (suc n) (suc e) = elim (lt_or_le n e) [ inl h ↦ inl (omega (arith, h)) | inr h ↦ inr (omega (arith, h)) ]

-- ---- one set after another

marked_then : (a b : Bool) (n : ℕ) (x : Option ℕ) → marked b n (marked a n x) ≡ marked (a || b) n x
marked_then true b n None = refl
marked_then false b n None = refl
marked_then true b n (Some m) = refl
marked_then false b n (Some m) = refl

both_marked : (a b : Bool) (n : ℕ) (x : Option (Option ℕ)) → option_map (marked b n) (option_map (marked a n) x) ≡ option_map (marked (a || b) n) x
both_marked a b n None = refl
both_marked a b n (Some x) = ap Some (marked_then a b n x)

unmarked : (n : ℕ) (x : Option (Option ℕ)) → x ≡ option_map (marked false n) x
unmarked n None = refl
unmarked n (Some None) = refl
unmarked n (Some (Some m)) = refl

pub marks_none : (ends : List (Option ℕ)) (n : ℕ) → Marks ends empty_set n ends
marks_none ends n = record { ends = λ c. unmarked n (slice_get ends c); as_many = refl }

-- ---- channels one after another

outside : {X : Type 0} (xs : List X) (c : ℕ) → length xs ≤ c → slice_get xs c ≡ None
outside [] c h = refl
outside (x ∷ xs) zero h = absurd (omega (arith, h))
outside (x ∷ xs) (suc c) h = outside xs c (omega (arith, h))

empty_between : (first c : ℕ) → between first first c ≡ false
empty_between first c = grind (arith, nat_tests)

last_between : (first chan next : ℕ) → first ≤ chan → next ≡ chan + 1 → between first next chan ≡ true
last_between first chan next h e = grind (arith, nat_tests)

more_between : (first chan next c : ℕ) → next ≡ chan + 1 → (c ≡ chan → ⊥) → between first next c ≡ between first chan c
more_between first chan next c e other = grind (arith, nat_tests)

all_between : (first chan end most c : ℕ) → first ≤ chan → (chan ≤ min end most) ⊎ (chan ≡ first) → min end most ≤ chan → c < most → between first chan c ≡ between first end c
all_between first chan end most c h (inl x) past near = grind (arith, nat_tests)
all_between first chan end most c h (inr x) past near = grind (arith, nat_tests)

pub mark_start : (ends : List (Option ℕ)) (first n : ℕ) → Marks ends (between first first) n ends
mark_start ends first n =
    record {
      ends = λ c. unmarked n (slice_get ends c) ∙ ap (λ b. option_map (marked b n) (slice_get ends c)) (sym (empty_between first c));
      as_many = refl;
    }

or_true : (a : Bool) → (a || true) ≡ true
or_true true = refl
or_true false = refl

module _ (old now new : List (Option ℕ)) (first chan next n : ℕ) (m : Marks old (between first chan) n now) (from : first ≤ chan) (is : next ≡ chan + 1)
    (at : slice_get new chan ≡ option_map (marked true n) (slice_get now chan)) (others : (c : ℕ) → (c ≡ chan → ⊥) → slice_get new c ≡ slice_get now c) (many : length new ≡ length now) where
  step_at : (c : ℕ) → (c ≡ chan) ⊎ (c ≡ chan → ⊥) → slice_get new c ≡ option_map (marked (between first next c) n) (slice_get old c)
  step_at c (inl e) =
      let here : slice_get new chan ≡ option_map (marked (between first next chan) n) (slice_get old chan) =
      at ∙ ap (option_map (marked true n)) (m.ends chan) ∙ both_marked (between first chan chan) true n (slice_get old chan)
      ∙ ap (λ b. option_map (marked b n) (slice_get old chan)) (or_true (between first chan chan) ∙ sym (last_between first chan next from is)) in
      subst (λ x. slice_get new x ≡ option_map (marked (between first next x) n) (slice_get old x)) (sym e) here
  step_at c (inr other) = others c other ∙ m.ends c ∙ ap (λ b. option_map (marked b n) (slice_get old c)) (sym (more_between first chan next c is other))

  pub mark_step : Marks old (between first next) n new
  mark_step = record { ends = λ c. step_at c (same_or_other c chan); as_many = many ∙ m.as_many }

module _ (old new : List (Option ℕ)) (first chan end n : ℕ) (m : Marks old (between first chan) n new) (from : first ≤ chan) (near : (chan ≤ min end (length old)) ⊎ (chan ≡ first)) (past : min end (length old) ≤ chan) where
  end_at : (c : ℕ) → (c < length old) ⊎ (length old ≤ c) → slice_get new c ≡ option_map (marked (between first end c) n) (slice_get old c)
  end_at c (inl inside) = m.ends c ∙ ap (λ b. option_map (marked b n) (slice_get old c)) (all_between first chan end (length old) c from near past inside)
  end_at c (inr beyond) =
      let none : slice_get old c ≡ None = outside old c beyond in
      m.ends c ∙ ap (option_map (marked (between first chan c) n)) none ∙ sym (ap (option_map (marked (between first end c) n)) none)

  pub mark_end : Marks old (between first end) n new
  mark_end = record { ends = λ c. end_at c (lt_or_le c (length old)); as_many = m.as_many }

-- ---- uses one after another

-- what is left to be marked makes the same of these as all of it made of those at the start
pub record Leaves (start : List (Option ℕ)) (all : Numbers) (n : ℕ) (now : List (Option ℕ)) (rest : Numbers) : Type 0 where
  pub ends : (c : ℕ) → option_map (marked (rest c) n) (slice_get now c) ≡ option_map (marked (all c) n) (slice_get start c)
  pub as_many : length now ≡ length start

pub leaves_all : (start : List (Option ℕ)) (all : Numbers) (n : ℕ) → Leaves start all n start all
leaves_all start all n = record { ends = λ c. refl; as_many = refl }

pub leaves_none : {start : List (Option ℕ)} {all : Numbers} {n : ℕ} {now : List (Option ℕ)} → Leaves start all n now empty_set → Marks start all n now
leaves_none {start} {all} {n} {now} h = record { ends = λ c. unmarked n (slice_get now c) ∙ h.ends c; as_many = h.as_many }

pub leaves_next : {start : List (Option ℕ)} {all : Numbers} {n : ℕ} {now new : List (Option ℕ)} {set rest : Numbers}
    → Leaves start all n now (λ c. set c || rest c) → Marks now set n new → Leaves start all n new rest
leaves_next {start} {all} {n} {now} {new} {set} {rest} h m =
    record {
      ends = λ c. ap (option_map (marked (rest c) n)) (m.ends c) ∙ both_marked (set c) (rest c) n (slice_get now c) ∙ h.ends c;
      as_many = m.as_many ∙ h.as_many;
    }

-- ---- processes one after another

pub record LeavesIn (stand : ℕ → Bool) (kind : Uses → Numbers) (all : List Using) (start now : List (Option ℕ)) (rest : List Using) : Type 0 where
  pub ends : (c : ℕ) → option_map (λ end. or_first end (first_with stand kind c rest)) (slice_get now c) ≡ option_map (λ end. or_first end (first_with stand kind c all)) (slice_get start c)
  pub as_many : length now ≡ length start

pub in_all : (stand : ℕ → Bool) (kind : Uses → Numbers) (all : List Using) (start : List (Option ℕ)) → LeavesIn stand kind all start start all
in_all stand kind all start = record { ends = λ c. refl; as_many = refl }

whole : (x : Option ℕ) → or_first x None ≡ x
whole None = refl
whole (Some n) = refl

wholes : (x : Option (Option ℕ)) → x ≡ option_map (λ end. or_first end None) x
wholes None = refl
wholes (Some x) = ap Some (sym (whole x))

pub in_none : {stand : ℕ → Bool} {kind : Uses → Numbers} {all : List Using} {start now : List (Option ℕ)} → LeavesIn stand kind all start now [] → MarkedIn stand kind all start now
in_none {stand} {kind} {all} {start} {now} h = record { ends = λ c. wholes (slice_get now c) ∙ h.ends c; as_many = h.as_many }

first_is : (here : Bool) (n : ℕ) (x y : Option ℕ) → or_first (marked here n x) y ≡ or_first x (if here then Some n else y)
first_is true n None y = refl
first_is false n None y = refl
first_is true n (Some m) y = refl
first_is false n (Some m) y = refl

firsts : (here : Bool) (n : ℕ) (y : Option ℕ) (x : Option (Option ℕ)) → option_map (λ end. or_first end y) (option_map (marked here n) x) ≡ option_map (λ end. or_first end (if here then Some n else y)) x
firsts here n y None = refl
firsts here n y (Some x) = ap Some (first_is here n x y)

module _ {stand : ℕ → Bool} {kind : Uses → Numbers} {all : List Using} {start now : List (Option ℕ)} {p : Using} {rest : List Using} (h : LeavesIn stand kind all start now (p ∷ rest)) where
  pub in_stands : {new : List (Option ℕ)} → stand p.number ≡ true → Marks now (kind p.uses) p.number new → LeavesIn stand kind all start new rest
  in_stands {new} stands m =
      record {
        ends = λ c.
            ap (option_map (λ end. or_first end (first_with stand kind c rest))) (m.ends c)
            ∙ firsts (kind p.uses c) p.number (first_with stand kind c rest) (slice_get now c)
            ∙ ap (λ b. option_map (λ end. or_first end (if b && kind p.uses c then Some p.number else first_with stand kind c rest)) (slice_get now c)) (sym stands)
            ∙ h.ends c;
        as_many = m.as_many ∙ h.as_many;
      }

  pub in_passes : stand p.number ≡ false → LeavesIn stand kind all start now rest
  in_passes passes =
      record {
        ends = λ c. ap (λ b. option_map (λ end. or_first end (if b && kind p.uses c then Some p.number else first_with stand kind c rest)) (slice_get now c)) (sym passes) ∙ h.ends c;
        as_many = h.as_many;
      }

-- ---- processes from the last one on

last_then : (b : Bool) (n : ℕ) (l : Option ℕ) (x : Option (Option ℕ)) → option_map (marked b n) (option_map (λ end. or_first end l) x) ≡ option_map (λ end. or_first end (or_first l (if b then Some n else None))) x
last_then b n l None = refl
last_then b n None (Some None) = refl
last_then b n (Some m) (Some None) = refl
last_then b n l (Some (Some k)) = refl

pub last_none : (set : ℕ → Bool) (kind : Uses → Numbers) (ends : List (Option ℕ)) (ps : List Using) → ps ≡ [] → MarkedLast set kind ps ends ends
last_none set kind ends ps e = subst (λ l. MarkedLast set kind l ends ends) (sym e) (record { ends = λ c. wholes (slice_get ends c); as_many = refl })

module _ {set : ℕ → Bool} {kind : Uses → Numbers} {p : Using} {ps all : List Using} {start now : List (Option ℕ)} (h : MarkedLast set kind ps start now) (is : all ≡ p ∷ ps) where
  pub last_marks : {new : List (Option ℕ)} → set p.number ≡ true → Marks now (kind p.uses) p.number new → MarkedLast set kind all start new
  last_marks {new} inside m =
      subst (λ l. MarkedLast set kind l start new) (sym is)
      (record {
        ends = λ c.
            m.ends c
            ∙ ap (option_map (marked (kind p.uses c) p.number)) (h.ends c)
            ∙ last_then (kind p.uses c) p.number (last_with set kind c ps) (slice_get start c)
            ∙ ap (λ b. option_map (λ end. or_first end (or_first (last_with set kind c ps) (if b && kind p.uses c then Some p.number else None))) (slice_get start c)) (sym inside);
        as_many = m.as_many ∙ h.as_many;
      })

  pub last_passes : set p.number ≡ false → MarkedLast set kind all start now
  last_passes outside =
      subst (λ l. MarkedLast set kind l start now) (sym is)
      (record {
        ends = λ c.
            h.ends c
            ∙ ap (λ l. option_map (λ end. or_first end l) (slice_get start c)) (sym (whole (last_with set kind c ps)))
            ∙ ap (λ b. option_map (λ end. or_first end (or_first (last_with set kind c ps) (if b && kind p.uses c then Some p.number else None))) (slice_get start c)) (sym outside);
        as_many = h.as_many;
      })

-- ---- the start, and the end

pub at_start : (channels c : ℕ) → c < channels → slice_get {X = Option ℕ} (replicate channels None) c ≡ Some None
at_start zero c h = absurd (omega (arith, h))
at_start (suc channels) zero h = refl
at_start (suc channels) (suc c) h = at_start channels c (omega (arith, h))

pub past_start : (channels c : ℕ) → channels ≤ c → slice_get {X = Option ℕ} (replicate channels None) c ≡ None
past_start zero c h = refl
past_start (suc channels) zero h = absurd (omega (arith, h))
past_start (suc channels) (suc c) h = past_start channels c (omega (arith, h))

started : (channels c : ℕ) (x : Option ℕ) → flat (option_map (λ end. or_first end x) (slice_get (replicate channels None) c)) ≡ (if nat_lt c channels then x else None)
started channels c x = by (lt_or_le c channels)
  where
    by : (c < channels) ⊎ (channels ≤ c) → flat (option_map (λ end. or_first end x) (slice_get (replicate channels None) c)) ≡ (if nat_lt c channels then x else None)
    by (inl h) =
        let test : nat_lt c channels ≡ true = grind (arith, nat_tests) in
        ap (λ e. flat (option_map (λ end. or_first end x) e)) (at_start channels c h) ∙ ap (λ b. if b then x else None) (sym test)
    by (inr h) =
        let test : nat_lt c channels ≡ false = grind (arith, nat_tests) in
        ap (λ e. flat (option_map (λ end. or_first end x) e)) (past_start channels c h) ∙ ap (λ b. if b then x else None) (sym test)

pub ends_are : {stand : ℕ → Bool} {kind : Uses → Numbers} {ps all : List Using} {start new : List (Option ℕ)} (channels : ℕ) → ps ≡ all → start ≡ replicate channels None
    → MarkedIn stand kind ps start new → (c : ℕ) → end_noted new c ≡ of_declared channels (λ k. first_with stand kind k all) c
ends_are {stand} {kind} {ps} {all} {start} {new} channels is begun m c =
    ap flat (m.ends c)
    ∙ ap (λ l. flat (option_map (λ end. or_first end (first_with stand kind c ps)) (slice_get l c))) begun
    ∙ started channels c (first_with stand kind c ps)
    ∙ ap (λ l. if nat_lt c channels then first_with stand kind c l else None) is

both_first : (a b : Option ℕ) (x : Option (Option ℕ)) → option_map (λ end. or_first end b) (option_map (λ end. or_first end a) x) ≡ option_map (λ end. or_first end (or_first a b)) x
both_first a b None = refl
both_first a b (Some None) = refl
both_first a b (Some (Some n)) = refl

pub due_are : {stand set : ℕ → Bool} {kind : Uses → Numbers} {ps : List Using} {start middle new : List (Option ℕ)} (channels : ℕ) → start ≡ replicate channels None
    → MarkedIn stand kind ps start middle → MarkedLast set kind ps middle new → (c : ℕ) → end_noted new c ≡ of_declared channels (λ k. or_first (first_with stand kind k ps) (last_with set kind k ps)) c
due_are {stand} {set} {kind} {ps} {start} {middle} {new} channels begun m l c =
    ap flat (l.ends c)
    ∙ ap (λ x. flat (option_map (λ end. or_first end (last_with set kind c ps)) x)) (m.ends c)
    ∙ ap flat (both_first (first_with stand kind c ps) (last_with set kind c ps) (slice_get start c))
    ∙ ap (λ x. flat (option_map (λ end. or_first end (or_first (first_with stand kind c ps) (last_with set kind c ps))) (slice_get x c))) begun
    ∙ started channels c (or_first (first_with stand kind c ps) (last_with set kind c ps))
