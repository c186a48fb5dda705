-- The messages of the screen's and the error channel are of one byte.
use Rattle.std.proofs.Common.{◌≡◌, ◌∙◌, ℕ, ℤ, List, [], ◌∷◌, ◌++◌, Option, Some, None, Bool, true, false, IsTrue, map, refl, sym, ap, subst}
use Rattle.std.specs.Prelude.{if◌then◌else◌, nat_eq, slice_get}
use Rattle.std.proofs.lemmas.Bool.{eq-eqb}
use Rattle.occ_term.specs.declared.fault.Errors.{Errors}
use Rattle.occ_term.specs.Messages.{Fits, FitsAfter, is_of, message, parts_after}
use Rattle.occ_term.specs.declared.message.Message.{Message}
use Rattle.occ_term.specs.declared.message.Part.{Part}
use Rattle.occ_term.specs.declared.message.Part.TheVariants.{One, Many, Counted}
use Rattle.occ_term.specs.declared.primitive.Primitive.TheVariants.{Byte}
use Rattle.occ_term.specs.declared.protocol.Protocol.{Protocol}
use Rattle.occ_term.specs.declared.protocol.Protocol.TheVariants.{Simple}
use Rattle.occ_term.specs.Runs.{messages_on}
use Rattle.occ_term.specs.UnfoldedProgram.{UnfoldedProgram, IsWellFormed, declared}
use Rattle.occ_machine.specs.SameStop.{FitsProtocol}
use Rattle.occ_net_replay.specs.Following.{AllFit, Followed}
use Rattle.occ_net_replay.specs.Replay.{Net}
use Rattle.occ_term.specs.declared.communication.Communication.{Communication as Made}
use Rattle.occ_shown.specs.Answers.{AreByteMessages, IsByteMessage}

-- a message of the protocol of one byte
record IsOneByte (tag : Option ℕ) (items : List Part) : Type 0 where
  pub value : ℤ
  pub untagged : tag ≡ None
  pub one : items ≡ One Byte value ∷ []
  pub typed : IsTrue (is_of Byte value)

one_byte_of : (tag : Option ℕ) (items : List Part) → FitsAfter (parts_after (Simple [] Byte) tag) items → IsOneByte tag items
one_byte_of (Some t) ps h = absurd h
one_byte_of None [] h = absurd h
one_byte_of None (One type v ∷ p ∷ ps) h = absurd h.1
one_byte_of None (Many type vs ∷ ps) h = absurd h.0
one_byte_of None (Counted type vs ∷ ps) h = absurd h.0
one_byte_of None (One type v ∷ []) h = record { value = v; untagged = refl; one = ap (λ t. One t v ∷ []) h.0.0; typed = h.0.1 }

byte_message_of : (m : Message) → Fits (Simple [] Byte) m → IsByteMessage m
byte_message_of m h =
    let x = one_byte_of m.tag m.items h in
    record { value = x.value; is = ap (λ t. message t m.items) x.untagged ∙ ap (message None) x.one; typed = x.typed }

bytes_on : (protocols : ℕ → Option Protocol) (c : ℕ) → protocols c ≡ Some (Simple [] Byte) → (xs : List Made) → AllFit (protocols c) (messages_on c xs) → AreByteMessages c xs
bytes_on protocols c e [] h = tt
bytes_on protocols c e (x ∷ xs) h = by (λ f. bytes_on protocols c e xs f) (nat_eq x.chan c) refl h
  where
    by : (AllFit (protocols c) (messages_on c xs) → AreByteMessages c xs) → (b : Bool) → nat_eq x.chan c ≡ b → AllFit (protocols c) ((if b then x.message ∷ [] else []) ++ messages_on c xs) → AreByteMessages c (x ∷ xs)
    by others true q f = ((λ s. byte_message_of x.message (subst (λ o. FitsProtocol o x.message) e f.0)), others f.1)
    by others false q f = ((λ s. let r : true ≡ false = sym (eq-eqb x.chan c s) ∙ q in absurd cc), others f)

first_protocols : (u : UnfoldedProgram) → IsWellFormed u → ((declared u).protocols 1 ≡ Some (Simple [] Byte)) × ((declared u).protocols 2 ≡ Some (Simple [] Byte))
first_protocols u w = (ap (λ cs. slice_get (map (λ y. y.protocol) cs) 1) w.begins, ap (λ cs. slice_get (map (λ y. y.protocol) cs) 2) w.begins)

-- where a run follows a replay whose communications these are
pub outputs_are_bytes : (u : UnfoldedProgram) (quantum : ℕ) (keyboard : List ℕ) {errors : Errors} (net : Net) (xs : List Made) → IsWellFormed u → Followed u keyboard quantum errors net → net.trace ≡ xs → AreByteMessages 1 xs × AreByteMessages 2 xs
outputs_are_bytes u quantum keyboard net xs w f trace =
    let first = first_protocols u w in
    let fits : (c : ℕ) → AllFit ((declared u).protocols c) (messages_on c xs) = λ c. subst (λ ms. AllFit ((declared u).protocols c) (messages_on c ms)) trace (f.fits c) in
    (bytes_on (declared u).protocols 1 first.0 xs (fits 1), bytes_on (declared u).protocols 2 first.1 xs (fits 2))
