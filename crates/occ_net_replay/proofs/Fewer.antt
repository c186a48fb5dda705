-- What is alike for more turns is alike for fewer.
use Rattle.std.proofs.Common.{◌≡◌, subst, ℕ, zero, suc, ◌+◌, List, [], ◌∷◌, arith}
use Rattle.occ_term.specs.TermTyping.{Declared}
use Rattle.occ_term.specs.Selecting.{Enabled, SkipArm, InputArm}
use Rattle.occ_term.specs.Steps.{Context, Left}
use Rattle.occ_machine.specs.SameStop.{SameArm, SameArms, SameStop}
use Rattle.occ_machine.specs.Machine.{Body}
use Rattle.occ_machine.specs.Alike.{Alike}
use Rattle.occ_machine.specs.declared.task.Arm.{Arm}
use Rattle.occ_machine.specs.declared.task.Task.{Task}
use Rattle.occ_machine.specs.declared.task.Wait.{Wait}
use Rattle.occ_machine.specs.declared.task.Wait.TheVariants as W

module _ (d : Declared) (Go Other : Task → Left → Type 0) (map_to : (t : Task) (r : Left) → Go t r → Other t r) where
  arm_map : (t : Task) (k : List Context) (a : Arm) (e : Enabled) → SameArm d Go t k a e → SameArm d Other t k a e
  arm_map t k a (SkipArm xs body) (c, i, g) = (c, i, map_to _ _ g)
  arm_map t k a (InputArm xs chan list) (c, i, g) = (c, i, λ m f. map_to _ _ (g m f))

  arms_map : (t : Task) (k : List Context) (arms : List Arm) (es : List Enabled) → SameArms d Go t k arms es → SameArms d Other t k arms es
  arms_map t k [] [] h = tt
  arms_map t k [] (e ∷ es) h = absurd h
  arms_map t k (a ∷ arms) [] h = absurd h
  arms_map t k (a ∷ arms) (e ∷ es) h = (arm_map t k a e h.0, arms_map t k arms es h.1)

  stop_map : (t : Task) (r : Left) (w : Wait) → SameStop d Go t r w → SameStop d Other t r w
  stop_map t r W.Ready (k, l, q, g) = (k, l, q, map_to _ _ g)
  stop_map t r (W.Took arm is m) h = absurd h
  stop_map t r (W.Offers c m) (k, q, g) = (k, q, map_to _ _ g)
  stop_map t r (W.Awaits c) (k, list, q, g) = (k, list, q, λ m f. map_to _ _ (g m f))
  stop_map t r (W.Chooses pri arms) (k, es, q, g) = (k, es, q, arms_map t k arms es g)
  stop_map t r (W.Joins ns) (k, bs, q, n, g) = (k, bs, q, n, λ f j. map_to _ _ (g f j))
  stop_map t r W.Halted h = h
  stop_map t r W.Done h = h
  stop_map t r (W.Faulted e) h = h

pub alike_less : (k : ℕ) (d : Declared) (body : Body) (t : Task) (r : Left) → Alike (suc k) d body t r → Alike k d body t r
alike_less zero d body t r h = tt
alike_less (suc k) d body t r h = λ s ag.
    let a = h s ag in
    record { after = a.after; rest = a.rest; store = a.store; stops = a.stops; turn = a.turn; agrees = a.agrees; same = stop_map d (Alike (suc k) d body) (Alike k d body) (alike_less k d body) a.after a.rest a.after.wait a.same }

pub alike_at_most : (i k : ℕ) (d : Declared) (body : Body) (t : Task) (r : Left) → Alike (i + k) d body t r → Alike k d body t r
alike_at_most zero k d body t r h = subst (λ n. Alike n d body t r) none h
  where
    none : 0 + k ≡ k
    none = omega arith
alike_at_most (suc i) k d body t r h = alike_at_most i k d body t r (alike_less (i + k) d body t r (subst (λ n. Alike n d body t r) one h))
  where
    one : suc i + k ≡ suc (i + k)
    one = omega arith

-- as many turns, or one less
pub data Fewer : ℕ → ℕ → Type 0 where
  as_many : {k : ℕ} → Fewer k k
  one_less : {k : ℕ} → Fewer (suc k) k

pub alike_fewer : {k l : ℕ} → Fewer k l → (d : Declared) (body : Body) (t : Task) (r : Left) → Alike k d body t r → Alike l d body t r
alike_fewer as_many d body t r h = h
alike_fewer (one_less {k = k}) d body t r h = alike_less k d body t r h

pub arms_fewer : {k l : ℕ} → Fewer k l → (d : Declared) (body : Body) (t : Task) (j : List Context) (arms : List Arm) (es : List Enabled) → SameArms d (Alike k d body) t j arms es → SameArms d (Alike l d body) t j arms es
arms_fewer {k = k} {l = l} f d body t j arms es h = arms_map d (Alike k d body) (Alike l d body) (λ u r. alike_fewer f d body u r) t j arms es h
