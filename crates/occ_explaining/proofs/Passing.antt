-- What a pass through calls keeps, from call to call.
use Rattle.std.proofs.Common.{◌≡◌, ◌∙◌, ◌⊎◌, inl, inr, sym, ap, subst, ℕ, zero, suc, ◌+◌, ◌-◌, ◌<◌, ◌≤◌, List, [], ◌∷◌, ◌++◌, length, length-append, drop, get_or, Bool, true, false, arith}
use Rattle.std.proofs.Math.Bool.{true≢false}
use Rattle.std.proofs.Math.Seq.{drop-cons}
use Rattle.occ_explaining.specs.Calls.{Called}
use Rattle.occ_explaining.specs.Reach.{among}
use Rattle.occ_explaining.specs.Passes.{AreClosed, AreWithin, IsPass}
use Rattle.occ_explaining.specs.declared.calls.Call.{Call}

-- a set with a PROC has what it calls
abbrev pub Keeps : (Called → Bool) → Call → Type 0
Keeps set c = set c.from.now ≡ true → set c.to.now ≡ true

pub closed_snoc : (set : Called → Bool) (cs : List Call) (c : Call) → AreClosed set cs → Keeps set c → AreClosed set (cs ++ c ∷ [])
closed_snoc set [] c all h = (h, tt)
closed_snoc set (d ∷ cs) c all h = (all.0, closed_snoc set cs c all.1 h)

pub closed_front : (set : Called → Bool) (cs : List Call) (c : Call) → AreClosed set (cs ++ c ∷ []) → AreClosed set cs
closed_front set [] c all = tt
closed_front set (d ∷ cs) c all = (all.0, closed_front set cs c all.1)

pub closed_last : (set : Called → Bool) (cs : List Call) (c : Call) → AreClosed set (cs ++ c ∷ []) → Keeps set c
closed_last set [] c all = all.0
closed_last set (d ∷ cs) c all = closed_last set cs c all.1

-- where a call stands among closed ones
pub closed_at : (set : Called → Bool) (cs : List Call) (n : ℕ) (c : Call) (left : List Call) → drop n cs ≡ c ∷ left → AreClosed set cs → Keeps set c
closed_at set cs n c left e all = (subst (AreClosed set) e (closed_drop set cs n all)).0
  where
    closed_drop : (set : Called → Bool) (cs : List Call) (n : ℕ) → AreClosed set cs → AreClosed set (drop n cs)
    closed_drop set cs zero all = all
    closed_drop set [] (suc n) all = tt
    closed_drop set (d ∷ cs) (suc n) all = closed_drop set cs n all.1

-- no call of these stands in one of the names
abbrev pub AreOutside : List Called → List Call → Type 0
AreOutside names [] = Unit {0}
AreOutside names (c ∷ cs) = (among names c.from.now ≡ false) × AreOutside names cs

outside_snoc : (names : List Called) (cs : List Call) (c : Call) → AreOutside names cs → among names c.from.now ≡ false → AreOutside names (cs ++ c ∷ [])
outside_snoc names [] c all h = (h, tt)
outside_snoc names (d ∷ cs) c all h = (all.0, outside_snoc names cs c all.1 h)

outside_closed : (names : List Called) (cs : List Call) → AreOutside names cs → AreClosed (among names) cs
outside_closed names [] all = tt
outside_closed names (c ∷ cs) all = (λ h. absurd (true≢false (sym h ∙ all.0)), outside_closed names cs all.1)

-- what holds when the calls from a place on have been gone through
pub record Passing (calls : List Call) (old new : List Called) (others : List Call) (at : ℕ) : Type 0 where
  pub within : at ≤ length calls
  pub grows : (f : Called) → among old f ≡ true → among new f ≡ true
  pub closes : (set : Called → Bool) → AreWithin new set → AreClosed set others → AreClosed set (drop at calls)
  pub least : (set : Called → Bool) → AreWithin old set → AreClosed set calls → AreWithin new set
  pub part : (set : Called → Bool) → AreClosed set calls → AreClosed set others
  pub few : at + length others ≤ length calls
  pub same : at + length others ≡ length calls → AreOutside new others

pub begun : (calls : List Call) (names : List Called) (n : ℕ) → n ≡ length calls → drop n calls ≡ [] → Passing calls names names [] n
begun calls names n e none = record {
  within = omega (arith, e);
  grows = λ f h. h;
  closes = λ set w h. subst (AreClosed set) (sym none) tt;
  least = λ set w h. w;
  part = λ set h. tt;
  few = grind (arith, e);
  same = λ h. tt;
}

-- a call that stands in a PROC that is reached
pub fired : (calls : List Call) (old new newer : List Called) (others : List Call) (at : ℕ) (c : Call)
    → drop at calls ≡ c ∷ drop (suc at) calls → among new c.from.now ≡ true
    → among newer c.to.now ≡ true → ((f : Called) → among new f ≡ true → among newer f ≡ true)
    → ((f : Called) → among newer f ≡ true → (among new f ≡ true) ⊎ (f ≡ c.to.now))
    → suc at ≤ length calls
    → Passing calls old new others (suc at) → Passing calls old newer others at
fired calls old new newer others at c e from to keeps only in_range p = record {
  within = omega (arith, in_range);
  grows = λ f h. keeps f (p.grows f h);
  closes = λ set w h. subst (AreClosed set) (sym e) ((λ x. w c.to.now to), p.closes set (λ f g. w f (keeps f g)) h);
  least = λ set w h f g. by set (closed_at set calls at c (drop (suc at) calls) e h (p.least set w h c.from.now from)) f (p.least set w h f) (only f g);
  part = p.part;
  few = omega (arith, p.few);
  same = λ h. absurd (omega (arith, h, p.few));
}
  where
    by : (set : Called → Bool) → set c.to.now ≡ true → (f : Called) → (among new f ≡ true → set f ≡ true) → (among new f ≡ true) ⊎ (f ≡ c.to.now) → set f ≡ true
    by set called f old (inl h) = old h
    by set called f old (inr h) = ap set h ∙ called

-- a call that stands in another one
pub kept : (calls : List Call) (old new : List Called) (others : List Call) (at : ℕ) (c : Call)
    → drop at calls ≡ c ∷ drop (suc at) calls → among new c.from.now ≡ false → suc at ≤ length calls
    → Passing calls old new others (suc at) → Passing calls old new (others ++ c ∷ []) at
kept calls old new others at c e from in_range p =
    let long : length (others ++ c ∷ []) ≡ length others + 1 = length-append others (c ∷ []) in
    record {
      within = omega (arith, in_range);
      grows = p.grows;
      closes = λ set w h. subst (AreClosed set) (sym e) (closed_last set others c h, p.closes set w (closed_front set others c h));
      least = p.least;
      part = λ set h. closed_snoc set others c (p.part set h) (closed_at set calls at c (drop (suc at) calls) e h);
      few = omega (arith, long, p.few);
      same = λ h. outside_snoc new others c (p.same (omega (arith, h, long))) from;
    }

pub passed : (calls : List Call) (old new : List Called) (others : List Call) → Passing calls old new others 0 → IsPass calls old new others
passed calls old new others p = record {
  grows = p.grows;
  closes = p.closes;
  least = p.least;
  part = p.part;
  few = omega (arith, p.few);
  same = λ h. outside_closed new others (p.same (omega (arith, h)));
}

-- the call in a place, and those behind it
pub cut_call : (cs : List Call) (i : ℕ) (c : Call) → i < length cs → c ≡ get_or cs i c → drop i cs ≡ c ∷ drop (suc i) cs
cut_call cs i c h e = drop-cons cs i c h ∙ ap (λ d. d ∷ drop (suc i) cs) (sym e)

-- the place behind
pub behind : {calls : List Call} {old new : List Called} {others : List Call} (at : ℕ) → 0 < at → Passing calls old new others at → Passing calls old new others (suc (at - 1))
behind {calls} {old} {new} {others} at h p = subst (Passing calls old new others) (omega (arith, h)) p

pub at_end : {calls : List Call} {old new : List Called} {others : List Call} (at : ℕ) → at ≤ 0 → Passing calls old new others at → Passing calls old new others 0
at_end {calls} {old} {new} {others} at h p = subst (Passing calls old new others) (omega (arith, h)) p
