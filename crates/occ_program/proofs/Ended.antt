-- Runs that end, seed by seed.
use Rattle.std.proofs.Common.{◌≡◌, ◌⊎◌, ◌+◌, ◌<◌, ◌≤◌, ℕ, List, Option, inl, inr, subst, arith}
use Rattle.std.specs.Prelude.{Err, Ok, OnOk, Result, false}
use Rattle.occ_net_replay.specs.declared.choice.Choice.{Choice}
use Rattle.occ_play.specs.declared.playing.Options.{Options}
use Rattle.occ_play.specs.declared.fault.PlayFault.{PlayFault}
use Rattle.occ_play.specs.declared.fault.PlayFault.TheVariants as play
use Rattle.occ_play.specs.Playing.{AfterFault, IsSomeAnswer, Refuses}
use Rattle.occ_play.specs.Status.{fault_status}
use Rattle.occ_shown.specs.declared.counted.Counted.{Counted}
use Rattle.occ_program.specs.Trying.{IsTriedSeed}

-- what is told with status 1 is no failed write
pub refused_by : {W : Type 0} (contents : W → Option (List ℕ)) (options : Options) (source keyboard : List ℕ) (list : List Choice) (old new : Counted W) (fault : PlayFault)
    → AfterFault contents (IsSomeAnswer options source keyboard list false) (Refuses options source) old new fault → fault_status fault ≡ 1 → Refuses options source fault
refused_by contents options source keyboard list old new (play.Write n) h e = absurd (omega (arith, e))
refused_by contents options source keyboard list old new (play.Text x) h e = h.0
refused_by contents options source keyboard list old new (play.Parse x) h e = h.0
refused_by contents options source keyboard list old new (play.Check x) h e = h.0
refused_by contents options source keyboard list old new (play.Usage x) h e = h.0
refused_by contents options source keyboard list old new (play.Code x) h e = h.0
refused_by contents options source keyboard list old new (play.Run x) h e = h.0
refused_by contents options source keyboard list old new (play.Memory x) h e = h.0

pub same_tried : {a b : Options} {s t k l : List ℕ} (limit first tries seed : ℕ) → a ≡ b → s ≡ t → k ≡ l → IsTriedSeed a s k limit first tries seed → IsTriedSeed b t l limit first tries seed
same_tried {a = a} {s = s} {t = t} {l = l} limit first tries seed o e f x =
    subst (λ q. IsTriedSeed q t l limit first tries seed) o (subst (λ w. IsTriedSeed a w l limit first tries seed) e (subst (λ w. IsTriedSeed a s w limit first tries seed) f x))

pub same_refused : {a b : Options} {s t : List ℕ} (fault : PlayFault) → a ≡ b → s ≡ t → Refuses a s fault → Refuses b t fault
same_refused {a = a} {t = t} fault o e x = subst (λ q. Refuses q t fault) o (subst (λ w. Refuses a w fault) e x)

pub on_ok : {X E P Q : Type 0} (r : Result X E) → (P → Q) → OnOk r P → OnOk r Q
on_ok (Ok x) f h = f h
on_ok (Err e) f h = tt

either : (m n : ℕ) → m ≤ n ⊎ n < m
either m n = grind arith

-- what holds below a number, and of it
pub one_more : {P : ℕ → Type 0} (n : ℕ) → ((k : ℕ) → k < n → P k) → P n → (k : ℕ) → k < n + 1 → P k
one_more {P = P} n h p k lt = by (either n k)
  where
    by : n ≤ k ⊎ k < n → P k
    by (inl ge) = let same : n ≡ k = omega arith in subst P same p
    by (inr less) = h k less
