-- Runs, turn by turn, and messages that fit.
use Rattle.std.proofs.Common.{◌≡◌, ◌∙◌, refl, sym, ap, subst, Bool, true, false, ℕ, ◌<◌, List, [], ◌∷◌, ◌++◌, Option, Some, None, map, arith, append_assoc, append-nil}
use Rattle.std.specs.Prelude.{nat_eq, if◌then◌else◌, ◌&&◌, int_le, pos}
use Rattle.std.specs.Bool.{⊤}
use Rattle.std.proofs.lemmas.Bool.{eqb-true, le-leb}
use Rattle.occ_term.specs.declared.fault.Errors.{Errors}
use Rattle.occ_term.specs.Messages.{Fits}
use Rattle.occ_term.specs.declared.message.Message.{Message}
use Rattle.occ_term.specs.declared.primitive.Primitive.TheVariants.{Byte}
use Rattle.occ_term.specs.declared.protocol.Protocol.{Protocol}
use Rattle.occ_term.specs.declared.protocol.Protocol.TheVariants.{Simple}
use Rattle.occ_term.specs.declared.communication.Communication.{Communication}
use Rattle.occ_term.specs.declared.communication.End.{End}
use Rattle.occ_term.specs.System.{System, SystemTurn, communication}
use Rattle.occ_term.specs.Runs.{Event, event, Run, no_turn, goes, communications, sent_on, messages_on, MeetsAtMost}
use Rattle.occ_machine.specs.SameStop.{FitsProtocol}
use Rattle.occ_net_replay.specs.Following.{AllFit, process_in}
use Rattle.occ_net_replay.specs.Replay.{one_more, byte_message}

abbrev pub listed : Option Communication → List Communication
listed None = []
listed (Some x) = x ∷ []

pub run_more : {errors : Errors} {q n : ℕ} {a b c d : System} {es : List Event} {x : Option Communication} → Run errors q a es b → SystemTurn errors q n b c → MeetsAtMost errors n c x d → Run errors q a (es ++ event n x ∷ []) d
run_more no_turn t m = goes t m no_turn
run_more (goes u k r) t m = goes u k (run_more r t m)

pub run_join : {errors : Errors} {q : ℕ} {a b c : System} {es fs : List Event} → Run errors q a es b → Run errors q b fs c → Run errors q a (es ++ fs) c
run_join no_turn r = r
run_join (goes u k v) r = goes u k (run_join v r)

pub met_more : (es : List Event) (n : ℕ) (x : Option Communication) → communications (es ++ event n x ∷ []) ≡ communications es ++ listed x
met_more [] n None = refl
met_more [] n (Some x) = refl
met_more (event k None ∷ es) n x = met_more es n x
met_more (event k (Some y) ∷ es) n x = ap (λ l. y ∷ l) (met_more es n x)

pub turns_more : (es : List Event) (n : ℕ) (x : Option Communication) → map process_in (es ++ event n x ∷ []) ≡ map process_in es ++ n ∷ []
turns_more [] n x = refl
turns_more (event k y ∷ es) n x = ap (λ l. k ∷ l) (turns_more es n x)

pub on-append : (c : ℕ) (xs ys : List Communication) → messages_on c (xs ++ ys) ≡ messages_on c xs ++ messages_on c ys
on-append c [] ys = refl
on-append c (x ∷ xs) ys = ap (λ l. sent_on c x ++ l) (on-append c xs ys) ∙ sym (append_assoc (sent_on c x) (messages_on c xs) (messages_on c ys))

pub one_more_at : (lists : ℕ → List Message) (k : ℕ) (m : Message) (x y : End) (c : ℕ) → one_more lists k m c ≡ lists c ++ messages_on c (communication k x y m ∷ [])
one_more_at lists k m x y c = by (nat_eq k c)
  where
    by : (b : Bool) → (if b then lists c ++ m ∷ [] else lists c) ≡ lists c ++ ((if b then m ∷ [] else []) ++ [])
    by true = refl
    by false = sym (append-nil (lists c))

module _ (protocols : ℕ → Option Protocol) where
  abbrev pub FitsOn : Communication → Type 0
  FitsOn x = FitsProtocol (protocols x.chan) x.message

  abbrev pub FitAll : List Communication → Type 0
  FitAll [] = ⊤
  FitAll (x ∷ xs) = FitsOn x × FitAll xs

  pub fit_append : (xs ys : List Communication) → FitAll xs → FitAll ys → FitAll (xs ++ ys)
  fit_append [] ys h g = g
  fit_append (x ∷ xs) ys h g = (h.0, fit_append xs ys h.1 g)

  pub fit_on : (c : ℕ) (xs : List Communication) → FitAll xs → AllFit (protocols c) (messages_on c xs)
  fit_on c [] h = tt
  fit_on c (x ∷ xs) h = by (nat_eq x.chan c) refl (fit_on c xs h.1)
    where
      by : (b : Bool) → nat_eq x.chan c ≡ b → AllFit (protocols c) (messages_on c xs) → AllFit (protocols c) ((if b then x.message ∷ [] else []) ++ messages_on c xs)
      by true q r = (subst (λ i. FitsProtocol (protocols i) x.message) (eqb-true x.chan c q) h.0, r)
      by false q r = r

pub byte_fits : (b : ℕ) → b < 256 → Fits (Simple [] Byte) (byte_message b)
byte_fits b h = ((refl, both (int_le (pos 0) (pos b)) (int_le (pos b) (pos 255)) (le-leb 0 b (omega arith)) (le-leb b 255 (omega (arith, h)))), tt)
  where
    both : (x y : Bool) → x ≡ true → y ≡ true → (x && y) ≡ true
    both x y p q = cc
