-- How the number of an arm leads from an ALT to what is done once the arm is taken, over what is set again.
use Rattle.std.specs.Prelude.{slice_get, ⊤}
use Rattle.std.proofs.Common.{arith, ◌≡◌, ℕ, suc, ◌+◌, ◌<◌, ◌≤◌, Bool, true, false, IsTrue, ◌&&◌, List, [], ◌∷◌, ◌++◌, None, Some, refl}
use Rattle.occ_term.specs.Selecting.{Setting, IndexTo, DeclaredAgain, Enabled, SkipArm, InputArm}
use Rattle.occ_machine.specs.declared.task.Arm.{Arm}
use Rattle.occ_machine.specs.SameStop.{indices_in}
use Rattle.occ_machine.specs.Machine.{is_number, is_numbered, are_numbered}
use Rattle.occ_machine.specs.declared.instr.Instr.{Instr}
use Rattle.occ_machine.specs.declared.instr.Instr.TheVariants.{PassArms, IfTaken, SetAgain}
use Rattle.std.proofs.lemmas.Bool.Decides.{nat_tests}
use Rattle.occ_code.specs.Expressions.{declaration_code}
use Rattle.occ_code.specs.Laws.{StandsAt}
use Rattle.occ_code.specs.Layout.{TermAt, ListAt}

pub both_true : (a b : Bool) → IsTrue a → IsTrue b → IsTrue (a && b)
both_true true b h k = k
both_true false b h k = cc

pub number_below : (n : ℕ) → n < 4294967296 → IsTrue (is_number n)
number_below n h = grind (arith, nat_tests)

module _ (code : List (Instr ℕ)) where
  -- the number after this one goes from one place to another by passing arms, or going in
  pub data Sorts (n : ℕ) : ℕ → ℕ → Type 0 where
    arrives : {a : ℕ} → Sorts n a a
    goes_past : {a b last skip : ℕ} → slice_get code a ≡ Some (PassArms last skip) → suc n ≤ last → Sorts n (a + 1 + skip) b → Sorts n a b
    goes_in : {a b last skip : ℕ} → slice_get code a ≡ Some (PassArms last skip) → last < suc n → Sorts n (a + 1) b → Sorts n a b

  -- with that number the settings are set again from one place to another
  abbrev pub SetsAgain : ℕ → ℕ → List Setting → ℕ → Type 0
  SetsAgain n a [] b = Sorts n a b
  SetsAgain n a (IndexTo c v ∷ again) b = (m : ℕ) × (skip : ℕ) × Sorts n a m × (slice_get code m ≡ Some (SetAgain c skip)) × SetsAgain n (m + 1 + skip) again b
  SetsAgain n a (DeclaredAgain x ∷ again) b = (m : ℕ) × (m' : ℕ) × Sorts n a m × StandsAt code m (declaration_code x) m' × SetsAgain n m' again b

  sorts_on : {n a b c : ℕ} → Sorts n a b → Sorts n b c → Sorts n a c
  sorts_on arrives y = y
  sorts_on (goes_past h l x) y = goes_past h l (sorts_on x y)
  sorts_on (goes_in h l x) y = goes_in h l (sorts_on x y)

  pub sets_on : (n a b c : ℕ) (again : List Setting) → SetsAgain n a again b → Sorts n b c → SetsAgain n a again c
  sets_on n a b c [] x y = sorts_on x y
  sets_on n a b c (IndexTo i v ∷ again) x y = (x.0, x.1, x.2, x.3, sets_on n (x.0 + 1 + x.1) b c again x.4 y)
  sets_on n a b c (DeclaredAgain e ∷ again) x y = (x.0, x.1, x.2, x.3, sets_on n x.1 b c again x.4 y)

  -- one setting more
  pub sets_index : (n a m skip c : ℕ) (v : _) (again : List Setting) → SetsAgain n a again m → slice_get code m ≡ Some (SetAgain c skip) → SetsAgain n a (again ++ IndexTo c v ∷ []) (m + 1 + skip)
  sets_index n a m skip c v [] x y = (m, skip, x, y, arrives)
  sets_index n a m skip c v (IndexTo i w ∷ again) x y = (x.0, x.1, x.2, x.3, sets_index n (x.0 + 1 + x.1) m skip c v again x.4 y)
  sets_index n a m skip c v (DeclaredAgain e ∷ again) x y = (x.0, x.1, x.2, x.3, sets_index n x.1 m skip c v again x.4 y)

  pub sets_declared : (n a m m' : ℕ) (e : _) (again : List Setting) → SetsAgain n a again m → StandsAt code m (declaration_code e) m' → SetsAgain n a (again ++ DeclaredAgain e ∷ []) m'
  sets_declared n a m m' e [] x y = (m, m', x, y, arrives)
  sets_declared n a m m' e (IndexTo i w ∷ again) x y = (x.0, x.1, x.2, x.3, sets_declared n (x.0 + 1 + x.1) m m' e again x.4 y)
  sets_declared n a m m' e (DeclaredAgain z ∷ again) x y = (x.0, x.1, x.2, x.3, sets_declared n x.1 m m' e again x.4 y)

  module _ (loops slot root : ℕ) where
    -- an open arm and what it is in the term: from the root on, its number leads to what is done once it is taken
    abbrev pub ArmLaid : Arm → Enabled → ℕ → Type 0
    ArmLaid a (SkipArm again t) mid =
        (n : ℕ) × (b : ℕ) × (skip : ℕ) × (a.number ≡ suc n) × (a.chan ≡ None) × (a.indices ≡ indices_in again) × SetsAgain n root again b
        × (slice_get code b ≡ Some (IfTaken skip)) × TermAt code loops slot (b + 1) t mid × IsTrue (is_numbered a)
    ArmLaid a (InputArm again c list) mid =
        (n : ℕ) × (b : ℕ) × (skip : ℕ) × (a.number ≡ suc n) × (a.chan ≡ Some c) × (a.indices ≡ indices_in again) × SetsAgain n root again b
        × (slice_get code b ≡ Some (IfTaken skip)) × ListAt code loops slot (b + 1) list mid × IsTrue (is_numbered a)

    abbrev pub ArmsLaid : List Arm → List Enabled → ℕ → Type 0
    ArmsLaid [] [] mid = ⊤
    ArmsLaid [] (e ∷ es) mid = ⊥
    ArmsLaid (a ∷ arms) [] mid = ⊥
    ArmsLaid (a ∷ arms) (e ∷ es) mid = ArmLaid a e mid × ArmsLaid arms es mid

    pub both_laid : (mid : ℕ) (xs ys : List Arm) (es es' : List Enabled) → ArmsLaid xs es mid → ArmsLaid ys es' mid → ArmsLaid (xs ++ ys) (es ++ es') mid
    both_laid mid [] ys [] es' h k = k
    both_laid mid [] ys (e ∷ es) es' h k = absurd h
    both_laid mid (x ∷ xs) ys [] es' h k = absurd h
    both_laid mid (x ∷ xs) ys (e ∷ es) es' h k = (h.0, both_laid mid xs ys es es' h.1 k)

    -- so all open arms have their numbers
    pub laid_numbered : (mid : ℕ) (arms : List Arm) (es : List Enabled) → ArmsLaid arms es mid → IsTrue (are_numbered arms)
    laid_numbered mid [] es h = refl
    laid_numbered mid (a ∷ arms) [] h = absurd h
    laid_numbered mid (a ∷ arms) (SkipArm again t ∷ es) h = both_true (is_numbered a) (are_numbered arms) h.0.9 (laid_numbered mid arms es h.1)
    laid_numbered mid (a ∷ arms) (InputArm again c list ∷ es) h = both_true (is_numbered a) (are_numbered arms) h.0.9 (laid_numbered mid arms es h.1)
