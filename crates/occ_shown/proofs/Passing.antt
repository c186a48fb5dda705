-- The bytes of a channel, from one communication on it to the next.
use Rattle.std.proofs.Common.{◌≡◌, ◌∙◌, ◌<◌, ℕ, List, [], ◌∷◌, ◌++◌, Bool, true, false, append_assoc, length, refl, sym, ap, subst, arith}
use Rattle.std.specs.Prelude.{if◌then◌else◌, nat_eq}
use Rattle.std.proofs.lemmas.Bool.{eq-eqb, eqb-true}
use Rattle.occ_term.specs.Runs.{bytes_in, bytes_of, messages_on}
use Rattle.occ_term.specs.declared.communication.Communication.{Communication as Made}
use Rattle.occ_net_tables.specs.Passing.{AreElsewhere, FindsNext}
use Rattle.occ_shown.specs.Answers.{AreByteMessages, IsByteMessage}

-- those that are elsewhere give none
messages_off : (c : ℕ) (xs : List Made) → AreElsewhere c xs → messages_on c xs ≡ []
messages_off c [] h = refl
messages_off c (x ∷ xs) h = by (messages_off c xs h.1) (nat_eq x.chan c) refl
  where
    by : messages_on c xs ≡ [] → (b : Bool) → nat_eq x.chan c ≡ b → (if b then x.message ∷ [] else []) ++ messages_on c xs ≡ []
    by others true e = absurd (h.0 (eqb-true x.chan c e))
    by others false e = others

messages_next : (c : ℕ) (passed : List Made) (x : Made) (new : List Made) → AreElsewhere c passed → x.chan ≡ c → messages_on c (passed ++ x ∷ new) ≡ x.message ∷ messages_on c new
messages_next c [] x new h on = ap (λ b. (if b then x.message ∷ [] else []) ++ messages_on c new) (eq-eqb x.chan c on)
messages_next c (y ∷ ys) x new h on = by (messages_next c ys x new h.1 on) (nat_eq y.chan c) refl
  where
    by : messages_on c (ys ++ x ∷ new) ≡ x.message ∷ messages_on c new → (b : Bool) → nat_eq y.chan c ≡ b → (if b then y.message ∷ [] else []) ++ messages_on c (ys ++ x ∷ new) ≡ x.message ∷ messages_on c new
    by others true e = absurd (h.0 (eqb-true y.chan c e))
    by others false e = others

bytes_behind : (c : ℕ) (passed rest : List Made) → AreByteMessages c (passed ++ rest) → AreByteMessages c rest
bytes_behind c [] rest h = h
bytes_behind c (y ∷ ys) rest h = bytes_behind c ys rest h.1

more_of : (passed : List Made) (x : Made) (new : List Made) → length new < length (passed ++ x ∷ new)
more_of [] x new = omega arith
more_of (y ∷ ys) x new = let h = more_of ys x new in omega (arith, h)

pub bytes_off : (c : ℕ) (xs : List Made) → AreElsewhere c xs → bytes_of (messages_on c xs) ≡ []
bytes_off c xs h = ap bytes_of (messages_off c xs h)

-- What stands at x is the first on the channel, and what stands in new is behind it.
module _ (c : ℕ) (old : List Made) (x : Made) (new : List Made) (p : FindsNext c old x new) where
  pub bytes_next : bytes_of (messages_on c old) ≡ bytes_in x.message.items ++ bytes_of (messages_on c new)
  bytes_next = ap (λ l. bytes_of (messages_on c l)) p.there ∙ ap bytes_of (messages_next c p.passed x new p.elsewhere p.on)

  pub message_there : AreByteMessages c old → IsByteMessage x.message
  message_there h = (bytes_behind c p.passed (x ∷ new) (subst (AreByteMessages c) p.there h)).0 p.on

  pub bytes_left : AreByteMessages c old → AreByteMessages c new
  bytes_left h = (bytes_behind c p.passed (x ∷ new) (subst (AreByteMessages c) p.there h)).1

  pub fewer_left : length new < length old
  fewer_left = let h = more_of p.passed x new in let e = ap length p.there in omega (arith, h, e)

  -- a byte more is written
  pub one_written : (out grown all : List ℕ) (byte : ℕ) → out ++ bytes_of (messages_on c old) ≡ all → grown ≡ out ++ byte ∷ [] → bytes_in x.message.items ≡ byte ∷ [] → grown ++ bytes_of (messages_on c new) ≡ all
  one_written out grown all byte h g b =
      ap (λ l. l ++ bytes_of (messages_on c new)) g ∙ append_assoc out (byte ∷ []) (bytes_of (messages_on c new))
      ∙ ap (λ l. out ++ (l ++ bytes_of (messages_on c new))) (sym b) ∙ ap (λ l. out ++ l) (sym bytes_next) ∙ h
