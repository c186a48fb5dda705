-- Which processes come again to what their loops have.
use Rattle.std.proofs.Common.{◌≡◌, ◌∙◌, ◌⊎◌, ◌∷◌, ◌++◌, [], inl, inr, refl, sym, ap, subst, Bool, true, false, IsTrue, IsFalse, ℕ, ◌+◌, ◌<◌, ◌≤◌, List, Option, Some, None, length, arith}
use Rattle.std.specs.Prelude.{slice_get}
use mathlib.Core.Bool.{true≢false}
use Rattle.occ_machine.specs.Machine.{Body}
use Rattle.occ_net_replay.specs.Replay.{Tasks}
use Rattle.occ_explore_laws.proofs.Lists.{get_inside, push_cases, push_keeps, push_last}
use Rattle.occ_ends.specs.Endless.{AgainTo, ComeAgain, ComesAgain, flag, is_set}
use Rattle.occ_ends.proofs.Rounds.{lt_or_le}

set_is : (x : Option Bool) → IsTrue (is_set x) → x ≡ Some true
set_is None h = absurd (true≢false (sym h))
set_is (Some true) h = refl
set_is (Some false) h = absurd (true≢false (sym h))

pub none_yet : (bodies : List Body) (tasks : Tasks) (flags : List Bool) → flags ≡ [] → AgainTo bodies tasks 0 flags
none_yet bodies tasks flags e = subst (AgainTo bodies tasks 0) (sym e) (record { sound = λ n h. absurd (true≢false (sym h)); whole = λ n lt. absurd (omega (arith, lt)) })

module _ (bodies : List Body) (tasks : Tasks) (count : ℕ) (flags : List Bool) (b : Bool) (many : length flags ≡ count) (a : AgainTo bodies tasks count flags)
    (comes : IsTrue b → ComesAgain bodies tasks count) (never : IsFalse b → ComesAgain bodies tasks count → ⊥) where
  sound : (n : ℕ) → IsTrue (flag (flags ++ b ∷ []) n) → ComesAgain bodies tasks n
  sound n h = by (push_cases flags b true n (set_is (slice_get (flags ++ b ∷ []) n) h))
    where
      by : (slice_get flags n ≡ Some true) ⊎ ((n ≡ length flags) × (b ≡ true)) → ComesAgain bodies tasks n
      by (inl old) = a.sound n (ap is_set old)
      by (inr new) = subst (ComesAgain bodies tasks) (sym (new.0 ∙ many)) (comes new.1)

  last : (c : Bool) → b ≡ c → ComesAgain bodies tasks count → IsTrue (flag (flags ++ b ∷ []) count)
  last true is h = ap is_set (ap (slice_get (flags ++ b ∷ [])) (sym many) ∙ push_last flags b) ∙ is
  last false is h = absurd (never is h)

  whole : (n : ℕ) → n < count + 1 → ComesAgain bodies tasks n → IsTrue (flag (flags ++ b ∷ []) n)
  whole n lt h = by (lt_or_le n count)
    where
      by : (n < count) ⊎ (count ≤ n) → IsTrue (flag (flags ++ b ∷ []) n)
      by (inl less) = ap is_set (push_keeps flags b true n (set_is (slice_get flags n) (a.whole n less h)))
      by (inr le) =
          let same : n ≡ count = omega (arith, lt, le) in
          subst (λ k. IsTrue (flag (flags ++ b ∷ []) k)) (sym same) (last b refl (subst (ComesAgain bodies tasks) same h))

  pub one_more : AgainTo bodies tasks (count + 1) (flags ++ b ∷ [])
  one_more = record { sound = sound; whole = whole }

pub all_again : (bodies : List Body) (tasks : Tasks) (count : ℕ) (flags : List Bool) → length tasks ≤ count → AgainTo bodies tasks count flags → ComeAgain bodies tasks (flag flags)
all_again bodies tasks count flags all a =
    record {
      sound = a.sound;
      whole = λ n h. let inside = get_inside tasks n (Some h.task) h.there in a.whole n (omega (arith, inside, all)) h;
    }
