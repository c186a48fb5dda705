-- The channels of arms, and the rule of ready arms where none was ready before.
use Rattle.std.proofs.Common.{◌≡◌, ◌∙◌, refl, sym, ap, Bool, true, false, IsTrue, ℕ, zero, suc, ◌%◌, ◌⊎◌, inl, inr, List, [], ◌∷◌, Option, Some, None, length}
use Rattle.std.specs.Prelude.{slice_get, if◌then◌else◌, nat_eq}
use Rattle.std.proofs.lemmas.Bool.{eqb-true, eq-eqb}
use mathlib.Core.Bool.{true≢false}
use Rattle.occ_term.specs.Frames.{is_held}
use Rattle.occ_term.specs.Selecting.{is_ready_on, ready_among}
use Rattle.occ_machine.specs.declared.task.Arm.{Arm}
use Rattle.occ_net_replay.specs.Moments.{NoneReady}
use Rattle.occ_net_replay.specs.Replay.{arm_chosen}
use Rattle.occ_net_replay.specs.Waiting.{and_channel, channels_of}
use Rattle.occ_net_replay.proofs.Tables.{or_else, or_first, or_second}

pub later_channel : (x : Option ℕ) (cs : List ℕ) (c : ℕ) → IsTrue (is_held cs c) → IsTrue (is_held (and_channel x cs) c)
later_channel None cs c h = h
later_channel (Some d) cs c h = or_second (nat_eq d c) (is_held cs c) h

first_channel : (x : Option ℕ) (cs : List ℕ) (c : ℕ) → x ≡ Some c → IsTrue (is_held (and_channel x cs) c)
first_channel None cs c e = absurd cc
first_channel (Some d) cs c e = let same : d ≡ c = cc in or_first (nat_eq d c) (is_held cs c) (eq-eqb d c same)

module _ (offers : ℕ → Bool) where
  abbrev ready : List Arm → List Arm
  ready arms = ready_among (λ a. a.chan) offers arms

  ready_listens : (arms : List Arm) (i : ℕ) (a : Arm) (c : ℕ) → slice_get (ready arms) i ≡ Some a → a.chan ≡ Some c → IsTrue (is_held (channels_of arms) c)
  ready_listens [] i a c e q = absurd cc
  ready_listens (x ∷ arms) i a c e q = by (is_ready_on offers x.chan) i e (λ j f. later_channel x.chan (channels_of arms) c (ready_listens arms j a c f q))
    where
      by : (b : Bool) (i : ℕ) → slice_get (if b then x ∷ ready arms else ready arms) i ≡ Some a → ((j : ℕ) → slice_get (ready arms) j ≡ Some a → IsTrue (is_held (channels_of (x ∷ arms)) c)) → IsTrue (is_held (channels_of (x ∷ arms)) c)
      by true zero e r = let same : x ≡ a = cc in first_channel x.chan (channels_of arms) c (ap (λ z. z.chan) same ∙ q)
      by true (suc i) e r = r i e
      by false i e r = r i e

-- the channel of the arm that is taken is one of the channels
pub chosen_listens : (pri : Bool) (pick : ℕ) (offers : ℕ → Bool) (arms : List Arm) (a : Arm) (c : ℕ) → arm_chosen pri pick offers arms ≡ Some a → a.chan ≡ Some c → IsTrue (is_held (channels_of arms) c)
chosen_listens pri pick offers arms a c e q = ready_listens offers arms _ a c e q

-- where no arm was ready, those are that are ready by what is new
ready_by_new : (old f g : ℕ → Bool) → ((c : ℕ) → old c ≡ false → f c ≡ g c) → (arms : List Arm) → NoneReady (λ a. a.chan) old arms → ready_among (λ (a : Arm). a.chan) f arms ≡ ready_among (λ (a : Arm). a.chan) g arms
ready_by_new old f g h [] n = refl
ready_by_new old f g h (a ∷ arms) n =
    ap (λ xs. if is_ready_on f a.chan then a ∷ xs else xs) (ready_by_new old f g h arms n.1)
    ∙ ap (λ b. if b then a ∷ ready_among (λ (x : Arm). x.chan) g arms else ready_among (λ (x : Arm). x.chan) g arms) (on a.chan n.0)
  where
    on : (x : Option ℕ) → is_ready_on old x ≡ false → is_ready_on f x ≡ is_ready_on g x
    on None e = absurd (true≢false e)
    on (Some c) e = h c e

pub chosen_by_new : (old f g : ℕ → Bool) → ((c : ℕ) → old c ≡ false → f c ≡ g c) → (pri : Bool) (pick : ℕ) (arms : List Arm) → NoneReady (λ a. a.chan) old arms → arm_chosen pri pick f arms ≡ arm_chosen pri pick g arms
chosen_by_new old f g h pri pick arms n = ap (λ xs. slice_get xs (if pri then 0 else pick % length xs)) (ready_by_new old f g h arms n)

-- an arm on the channel is ready where an offer stands there
pub held_ready : (offers : ℕ → Bool) (arms : List Arm) (c : ℕ) → IsTrue (is_held (channels_of arms) c) → IsTrue (offers c) → NoneReady (λ a. a.chan) offers arms → ⊥
held_ready offers [] c h o n = true≢false (sym h)
held_ready offers (a ∷ arms) c h o n = by a.chan h n.0 (λ q. held_ready offers arms c q o n.1)
  where
    by : (x : Option ℕ) → IsTrue (is_held (and_channel x (channels_of arms)) c) → is_ready_on offers x ≡ false → (IsTrue (is_held (channels_of arms) c) → ⊥) → ⊥
    by None h e r = r h
    by (Some d) h e r = at (or_else (nat_eq d c) (is_held (channels_of arms) c) h)
      where
        at : IsTrue (nat_eq d c) ⊎ IsTrue (is_held (channels_of arms) c) → ⊥
        at (inl q) = true≢false (sym (ap offers (eqb-true d c q) ∙ o) ∙ e)
        at (inr q) = r q
