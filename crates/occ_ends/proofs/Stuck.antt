-- Who waits for good, and is not idle.
use Rattle.std.proofs.Common.{◌≡◌, ◌∙◌, ◌⊎◌, inl, inr, sym, subst, IsTrue, IsFalse, ℕ, List, [], ◌∷◌}
use Rattle.std.specs.Prelude.{nat_eq, ◌||◌}
use Rattle.std.proofs.lemmas.Bool.{eqb-true}
use mathlib.Core.Bool.{true≢false}
use Rattle.occ_term.specs.Frames.{is_held}
use Rattle.occ_machine.specs.Compiled.{Program}
use Rattle.occ_net_replay.specs.Replay.{Tasks}
use Rattle.occ_net_replay.proofs.Tables.{or_else, or_first, or_second}
use Rattle.occ_net_tables.proofs.Keys.{first_held, later_held}
use Rattle.occ_ends.specs.Ends.{Using}
use Rattle.occ_ends.specs.Kinds.{AreThose, HasCircle, IsHalted, IsRest, SomeHalted, TellsCircle}
use Rattle.occ_ends.specs.declared.kinds.Left.{Left}
use Rattle.occ_ends.specs.ForGood.{AreStuck, AreWaiting, IsAmiss, amiss_by, circling, halting, has_any, lacking, some_held}
use Rattle.occ_ends.proofs.Leaving.{neither}
use Rattle.occ_ends.proofs.LeftOnes.{no_circle, none_of, some_circle}

-- one number that both have
record IsShared (ns others : List ℕ) : Type 0 where
  number : ℕ
  first : IsTrue (is_held ns number)
  second : IsTrue (is_held others number)

shared : (ns others : List ℕ) → IsTrue (some_held ns others) → IsShared ns others
shared [] others h = absurd (true≢false (sym h))
shared (n ∷ ns) others h = by (or_else (is_held others n) (some_held ns others) h) (shared ns others)
  where
    by : IsTrue (is_held others n) ⊎ IsTrue (some_held ns others) → (IsTrue (some_held ns others) → IsShared ns others) → IsShared (n ∷ ns) others
    by (inl e) again = record { number = n; first = first_held n ns; second = e }
    by (inr e) again = let x = again e in record { number = x.number; first = later_held n x.number ns x.first; second = x.second }

sharing : (ns others : List ℕ) (k : ℕ) → IsTrue (is_held ns k) → IsTrue (is_held others k) → IsTrue (some_held ns others)
sharing [] others k h q = absurd (true≢false (sym h))
sharing (n ∷ ns) others k h q =
    elim (or_else (nat_eq n k) (is_held ns k) h) [
      | inl e ↦ or_first (is_held others n) (some_held ns others) (subst (λ z. IsTrue (is_held others z)) (sym (eqb-true n k e)) q)
      | inr e ↦ or_second (is_held others n) (some_held ns others) (sharing ns others k e q)
    ]

module _ (us : List Using) (p : Program) (tasks : Tasks) (waiting : List ℕ) where
  some_circles : (ring : List ℕ) → IsTrue (has_any ring) → TellsCircle us p tasks ring → HasCircle us p tasks
  some_circles [] h c = absurd (true≢false (sym h))
  some_circles (n ∷ ns) h c = some_circle us p tasks n ns c

  none_circles : (ring : List ℕ) → IsFalse (has_any ring) → TellsCircle us p tasks ring → HasCircle us p tasks → ⊥
  none_circles [] h c = no_circle us p tasks c
  none_circles (n ∷ ns) h c = absurd (true≢false h)

  some_halted : (ns : List ℕ) → IsTrue (has_any ns) → AreThose (IsHalted tasks) ns → SomeHalted tasks
  some_halted [] h a = absurd (true≢false (sym h))
  some_halted (n ∷ ns) h a = (n, a.each n (first_held n ns))

  none_halted : (ns : List ℕ) → IsFalse (has_any ns) → AreThose (IsHalted tasks) ns → SomeHalted tasks → ⊥
  none_halted [] h a = none_of us p tasks a
  none_halted (n ∷ ns) h a = absurd (true≢false h)

  pub is_amiss : (left : Left) → IsRest us p tasks left → IsTrue (amiss_by left waiting) → IsAmiss us p tasks waiting
  is_amiss left r h = by (or_else (has_any left.circle.items) (has_any left.halted.items || some_held waiting left.unfinished.items) h)
    where
      other : IsTrue (has_any left.halted.items) ⊎ IsTrue (some_held waiting left.unfinished.items) → IsAmiss us p tasks waiting
      other (inl e) = halting (some_halted left.halted.items e r.halted)
      other (inr e) = let x = shared waiting left.unfinished.items e in lacking x.number x.first (r.unfinished.each x.number x.second)

      by : IsTrue (has_any left.circle.items) ⊎ IsTrue (has_any left.halted.items || some_held waiting left.unfinished.items) → IsAmiss us p tasks waiting
      by (inl e) = circling (some_circles left.circle.items e r.circle)
      by (inr e) = other (or_else (has_any left.halted.items) (some_held waiting left.unfinished.items) e)

  pub not_amiss : (left : Left) → IsRest us p tasks left → IsFalse (amiss_by left waiting) → IsAmiss us p tasks waiting → ⊥
  not_amiss left r h a = by (neither (has_any left.circle.items) (has_any left.halted.items || some_held waiting left.unfinished.items) h) a
    where
      by : IsFalse (has_any left.circle.items) × IsFalse (has_any left.halted.items || some_held waiting left.unfinished.items) → IsAmiss us p tasks waiting → ⊥
      by q (circling c) = none_circles left.circle.items q.0 r.circle c
      by q (halting k) = none_halted left.halted.items (neither (has_any left.halted.items) (some_held waiting left.unfinished.items) q.1).0 r.halted k
      by q (lacking n held unfinished) =
          true≢false (sym (sharing waiting left.unfinished.items n held (r.unfinished.all n unfinished)) ∙ (neither (has_any left.halted.items) (some_held waiting left.unfinished.items) q.1).1)

  pub all_told : (ns : List ℕ) → AreWaiting us tasks waiting → ns ≡ waiting → IsAmiss us p tasks waiting ⊎ (ns ≡ []) → AreStuck us p tasks ns
  all_told ns w e (inl a) = record { all = waiting; waiting = w; told = inl (a, e); unless = λ _. e }
  all_told ns w e (inr none) = record { all = waiting; waiting = w; told = inr none; unless = λ _. e }

  pub none_told : (ns : List ℕ) → AreWaiting us tasks waiting → ns ≡ [] → (IsAmiss us p tasks waiting → ⊥) → AreStuck us p tasks ns
  none_told ns w e none = record { all = waiting; waiting = w; told = inr e; unless = λ a. absurd (none a) }
