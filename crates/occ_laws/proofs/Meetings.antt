-- Whether a process can meet another at once, as a test. Where the test is false it meets nobody.
use Rattle.std.proofs.Common.{ℕ, zero, suc, Bool, true, false, List, [], ◌∷◌, Option, None, Some, IsTrue, IsFalse, ◌≡◌, refl, subst, inl, inr}
use Rattle.std.proofs.lemmas.Bool.{eq-eqb}
use Rattle.std.specs.Prelude.{nat_eq, slice_get, if◌then◌else◌, ◌&&◌, ◌||◌}
use Rattle.occ_term.specs.declared.fault.Errors.{Errors}
use Rattle.occ_term.specs.Selecting.{Enabled, SkipArm, InputArm, is_ready_on, ready_among, waits_for}
use Rattle.occ_term.specs.Steps.{Status, Runs, Loops, Offers, Awaits, Chooses, Forks, IsHalted, FailsBy, HasEnded, status}
use Rattle.occ_term.specs.System.{Process, process, Processes, no_processes, and_process, System, system, has_byte, ChangeIn, change_here, change_below, ChangeAmong, change_first, change_later, offers, offers_in, offers_among, GivesOn, offer_ends, GetsOn, input_gets, arm_gets, PassesBy, arm_skips, Sends, process_sends, keyboard_sends, Receives, process_receives, screen_receives, error_receives, Meets, meets, passes_skip}
use Rattle.occ_term.specs.Runs.{TakesPart, Meeting, by_message, by_skip, MeetsAtMost, meets_none}
use Rattle.occ_term.specs.declared.communication.End.TheVariants.{Process as OfProcess}
use Rattle.occ_term.specs.declared.message.Message.{Message}
use Rattle.occ_term.specs.declared.communication.End.{End}
use Rattle.occ_term.specs.declared.communication.Communication.{Communication}

-- ---- the test

abbrev any_of : {A : Type 0} → (A → Bool) → List A → Bool
any_of test [] = false
any_of test (a ∷ arms) = test a || any_of test arms

abbrev waits_on : ℕ → Enabled → Bool
waits_on c (SkipArm again body) = false
waits_on c (InputArm again d list) = nat_eq d c

-- on which channels an input or an ALT waits
abbrev awaits_at : Status → ℕ → Bool
awaits_at Runs c = false
awaits_at Loops c = false
awaits_at (Offers d m) c = false
awaits_at (Awaits d) c = nat_eq d c
awaits_at (Chooses pri arms) c = any_of (waits_on c) arms
awaits_at (Forks bs) c = false
awaits_at IsHalted c = false
awaits_at (FailsBy e) c = false
awaits_at HasEnded c = false

abbrev mutual
  awaits_in : Process → ℕ → Bool
  awaits_in (process n a ps) c = awaits_at (status a) c || awaits_among ps c

  awaits_among : Processes → ℕ → Bool
  awaits_among no_processes c = false
  awaits_among (and_process p ps) c = awaits_in p c || awaits_among ps c

-- the screen and the error sink always await
abbrev awaits : System → ℕ → Bool
awaits (system kb p s noted) c = nat_eq c 1 || nat_eq c 2 || awaits_in p c

-- what stands there has a partner, or a ready arm
abbrev partner_at : (ℕ → Bool) → (ℕ → Bool) → Status → Bool
partner_at offered awaited Runs = false
partner_at offered awaited Loops = false
partner_at offered awaited (Offers c m) = awaited c
partner_at offered awaited (Awaits c) = offered c
partner_at offered awaited (Chooses pri arms) = any_of (λ a. is_ready_on offered (waits_for a)) arms
partner_at offered awaited (Forks bs) = false
partner_at offered awaited IsHalted = false
partner_at offered awaited (FailsBy e) = false
partner_at offered awaited HasEnded = false

abbrev mutual
  partner_in : ℕ → (ℕ → Bool) → (ℕ → Bool) → Process → Bool
  partner_in n offered awaited (process m a ps) = (nat_eq m n && partner_at offered awaited (status a)) || partner_among n offered awaited ps

  partner_among : ℕ → (ℕ → Bool) → (ℕ → Bool) → Processes → Bool
  partner_among n offered awaited no_processes = false
  partner_among n offered awaited (and_process p ps) = partner_in n offered awaited p || partner_among n offered awaited ps

abbrev pub can_meet : ℕ → System → Bool
can_meet n (system kb p s noted) = partner_in n (offers (system kb p s noted)) (awaits (system kb p s noted)) p

-- ---- words on truth

on_left : (a b : Bool) → IsTrue a → IsTrue (a || b)
on_left true b h = refl
on_left false b h = cc

on_right : (a b : Bool) → IsTrue b → IsTrue (a || b)
on_right true b h = refl
on_right false b h = h

same : (n : ℕ) → IsTrue (nat_eq n n)
same n = eq-eqb n n refl

here : (n : ℕ) {b : Bool} → IsTrue b → IsTrue ((nat_eq n n && b) || false)
here n {b = b} h = on_left (nat_eq n n && b) false (both (nat_eq n n) (same n) h)
  where
    both : (a : Bool) → IsTrue a → IsTrue b → IsTrue (a && b)
    both true p q = q
    both false p q = cc

nothing_here : (b c : Bool) → IsTrue ((b && false) || false) → IsTrue c
nothing_here true c h = cc
nothing_here false c h = cc

more_right : (a b c : Bool) → (IsTrue b → IsTrue c) → IsTrue (a || b) → IsTrue (a || c)
more_right true b c f h = refl
more_right false b c f h = f h

more_left : (a b c : Bool) → (IsTrue a → IsTrue c) → IsTrue (a || b) → IsTrue (c || b)
more_left true b c f h = on_left c b (f refl)
more_left false b c f h = on_right c b h

-- ---- what the rule chooses is one of the arms, and ready

module _ {A : Type 0} (channel : A → Option ℕ) (standing : ℕ → Bool) (x : A) where
  one_by : (test : A → Bool) → IsTrue (test x) → (a : A) (arms : List A) → ((i : ℕ) → slice_get (ready_among channel standing arms) i ≡ Some x → IsTrue (any_of test arms)) → (b : Bool) (i : ℕ) → slice_get (if b then a ∷ ready_among channel standing arms else ready_among channel standing arms) i ≡ Some x → IsTrue (any_of test (a ∷ arms))
  one_by test h a arms f true zero q = let now : IsTrue (test a) = cc in on_left _ _ now
  one_by test h a arms f true (suc i) q = on_right (test a) _ (f i q)
  one_by test h a arms f false i q = on_right (test a) _ (f i q)

  one_of : (test : A → Bool) → IsTrue (test x) → (arms : List A) (i : ℕ) → slice_get (ready_among channel standing arms) i ≡ Some x → IsTrue (any_of test arms)
  one_of test h [] i q = cc
  one_of test h (a ∷ arms) i q = one_by test h a arms (one_of test h arms) (is_ready_on standing (channel a)) i q

  ready_by : (a : A) (arms : List A) → ((i : ℕ) → slice_get (ready_among channel standing arms) i ≡ Some x → IsTrue (is_ready_on standing (channel x))) → (b : Bool) → is_ready_on standing (channel a) ≡ b → (i : ℕ) → slice_get (if b then a ∷ ready_among channel standing arms else ready_among channel standing arms) i ≡ Some x → IsTrue (is_ready_on standing (channel x))
  ready_by a arms f true r zero q = cc
  ready_by a arms f true r (suc i) q = f i q
  ready_by a arms f false r i q = f i q

  is_ready : (arms : List A) (i : ℕ) → slice_get (ready_among channel standing arms) i ≡ Some x → IsTrue (is_ready_on standing (channel x))
  is_ready [] i q = cc
  is_ready (a ∷ arms) i q = ready_by a arms (is_ready arms) (is_ready_on standing (channel a)) refl i q

  ready_one : (arms : List A) (i : ℕ) → slice_get (ready_among channel standing arms) i ≡ Some x → IsTrue (any_of (λ a. is_ready_on standing (channel a)) arms)
  ready_one arms i q = one_of (λ a. is_ready_on standing (channel a)) (is_ready arms i q) arms i q

-- ---- changes

module _ (c : ℕ) (m : Message) where
  -- a sender offers
  mutual
    gives_offers : {n : ℕ} {p p' : Process} → ChangeIn (GivesOn c m) n p p' → IsTrue (offers_in p c)
    gives_offers (change_here offer_ends) = on_left _ false (same c)
    gives_offers (change_below x) = on_right _ _ (gives_offers_among x)

    gives_offers_among : {n : ℕ} {ps ps' : Processes} → ChangeAmong (GivesOn c m) n ps ps' → IsTrue (offers_among ps c)
    gives_offers_among (change_first x) = on_left _ _ (gives_offers x)
    gives_offers_among (change_later x) = on_right _ _ (gives_offers_among x)

  -- what is awaited afterwards is so before
  mutual
    gives_awaits : {n : ℕ} {p p' : Process} → ChangeIn (GivesOn c m) n p p' → (d : ℕ) → IsTrue (awaits_in p' d) → IsTrue (awaits_in p d)
    gives_awaits (change_here offer_ends) d h = h
    gives_awaits (change_below x) d h = more_right _ _ _ (gives_awaits_among x d) h

    gives_awaits_among : {n : ℕ} {ps ps' : Processes} → ChangeAmong (GivesOn c m) n ps ps' → (d : ℕ) → IsTrue (awaits_among ps' d) → IsTrue (awaits_among ps d)
    gives_awaits_among (change_first x) d h = more_left _ _ _ (gives_awaits x d) h
    gives_awaits_among (change_later x) d h = more_right _ _ _ (gives_awaits_among x d) h

  module _ (o w : ℕ → Bool) where
    mutual
      gives_partner : {n : ℕ} {p p' : Process} → ChangeIn (GivesOn c m) n p p' → IsTrue (w c) → IsTrue (partner_in n o w p)
      gives_partner {n = n} (change_here offer_ends) h = here n h
      gives_partner (change_below x) h = on_right _ _ (gives_partner_among x h)

      gives_partner_among : {n : ℕ} {ps ps' : Processes} → ChangeAmong (GivesOn c m) n ps ps' → IsTrue (w c) → IsTrue (partner_among n o w ps)
      gives_partner_among (change_first x) h = on_left _ _ (gives_partner x h)
      gives_partner_among (change_later x) h = on_right _ _ (gives_partner_among x h)

    -- a process that has a partner afterwards has one before
    mutual
      others_partner : {n : ℕ} {p p' : Process} → ChangeIn (GivesOn c m) n p p' → (k : ℕ) → IsTrue (partner_in k o w p') → IsTrue (partner_in k o w p)
      others_partner {n = n} (change_here offer_ends) k h = nothing_here (nat_eq n k) _ h
      others_partner (change_below x) k h = more_right _ _ _ (others_partner_among x k) h

      others_partner_among : {n : ℕ} {ps ps' : Processes} → ChangeAmong (GivesOn c m) n ps ps' → (k : ℕ) → IsTrue (partner_among k o w ps') → IsTrue (partner_among k o w ps)
      others_partner_among (change_first x) k h = more_left _ _ _ (others_partner x k) h
      others_partner_among (change_later x) k h = more_right _ _ _ (others_partner_among x k) h

    -- a receiver has a partner where an offer stands
    mutual
      gets_partner : {n : ℕ} {p p' : Process} → ChangeIn (GetsOn o c m) n p p' → IsTrue (o c) → IsTrue (partner_in n o w p)
      gets_partner {n = n} (change_here input_gets) h = here n h
      gets_partner {n = n} (change_here (arm_gets {arms = arms} pick q)) h = here n (ready_one waits_for o _ arms _ q)
      gets_partner (change_below x) h = on_right _ _ (gets_partner_among x h)

      gets_partner_among : {n : ℕ} {ps ps' : Processes} → ChangeAmong (GetsOn o c m) n ps ps' → IsTrue (o c) → IsTrue (partner_among n o w ps)
      gets_partner_among (change_first x) h = on_left _ _ (gets_partner x h)
      gets_partner_among (change_later x) h = on_right _ _ (gets_partner_among x h)

  -- a receiver awaits the channel
  module _ (standing : ℕ → Bool) where
    mutual
      gets_awaits : {n : ℕ} {p p' : Process} → ChangeIn (GetsOn standing c m) n p p' → IsTrue (awaits_in p c)
      gets_awaits (change_here input_gets) = on_left _ false (same c)
      gets_awaits (change_here (arm_gets {arms = arms} pick q)) = on_left _ false (one_of waits_for standing _ (waits_on c) (same c) arms _ q)
      gets_awaits (change_below x) = on_right _ _ (gets_awaits_among x)

      gets_awaits_among : {n : ℕ} {ps ps' : Processes} → ChangeAmong (GetsOn standing c m) n ps ps' → IsTrue (awaits_among ps c)
      gets_awaits_among (change_first x) = on_left _ _ (gets_awaits x)
      gets_awaits_among (change_later x) = on_right _ _ (gets_awaits_among x)

-- an ALT that chooses SKIP has a ready arm
module _ (o w : ℕ → Bool) where
  mutual
    skips_partner : {n : ℕ} {p p' : Process} → ChangeIn (PassesBy o) n p p' → IsTrue (partner_in n o w p)
    skips_partner {n = n} (change_here (arm_skips {arms = arms} pick q)) = here n (ready_one waits_for o _ arms _ q)
    skips_partner (change_below x) = on_right _ _ (skips_partner_among x)

    skips_partner_among : {n : ℕ} {ps ps' : Processes} → ChangeAmong (PassesBy o) n ps ps' → IsTrue (partner_among n o w ps)
    skips_partner_among (change_first x) = on_left _ _ (skips_partner x)
    skips_partner_among (change_later x) = on_right _ _ (skips_partner_among x)

-- ---- a meeting passes the test

sends_offers : {c : ℕ} {m : Message} {x : End} {a b : System} → Sends c m x a b → IsTrue (offers a c)
sends_offers {c = c} {m = m} (process_sends {kb = kb} x) = on_right (has_byte kb c) _ (gives_offers c m x)
sends_offers {c = c} (keyboard_sends {p = p} e f) = on_left (nat_eq c 0) (offers_in p c) (eq-eqb _ _ e)

receives_awaits : {standing : ℕ → Bool} {c : ℕ} {m : Message} {y : End} {b d : System} → Receives standing c m y b d → IsTrue (awaits b c)
receives_awaits {standing = standing} {c = c} {m = m} (process_receives x) = on_right (nat_eq c 1 || nat_eq c 2) _ (gets_awaits c m standing x)
receives_awaits {c = c} (screen_receives {a = system kb p s noted} q) = on_left (nat_eq c 1 || nat_eq c 2) _ (on_left _ _ (eq-eqb _ _ q))
receives_awaits {c = c} (error_receives {a = system kb p s noted} q) = on_left (nat_eq c 1 || nat_eq c 2) _ (on_right (nat_eq c 1) _ (eq-eqb _ _ q))

-- a sender's partner is awaited before it sends, too
awaited_before : {c : ℕ} {m : Message} {x : End} {a b : System} (d : ℕ) → Sends c m x a b → IsTrue (awaits b d) → IsTrue (awaits a d)
awaited_before {c = c} {m = m} d (process_sends x) h = more_right (nat_eq d 1 || nat_eq d 2) _ _ (gives_awaits c m x d) h
awaited_before d (keyboard_sends p q) h = h

ends_are : {n k : ℕ} → OfProcess n ≡ OfProcess k → n ≡ k
ends_are e = cc

sender_meets : {n c : ℕ} {m : Message} {x : End} {a b : System} → x ≡ OfProcess n → Sends c m x a b → IsTrue (awaits a c) → IsTrue (can_meet n a)
sender_meets {c = c} {m = m} e (process_sends {kb = kb} {p = p} {s = s} {noted = noted} x) h =
    subst (λ n. IsTrue (can_meet n (system kb p s noted))) (ends_are e) (gives_partner c m (offers (system kb p s noted)) (awaits (system kb p s noted)) x h)
sender_meets e (keyboard_sends p q) h = cc

receiver_meets : {n c : ℕ} {m : Message} {x y : End} {a b d : System} → y ≡ OfProcess n → Sends c m x a b → Receives (offers a) c m y b d → IsTrue (offers a c) → IsTrue (can_meet n a)
receiver_meets {c = c} {m = m} e (process_sends {kb = kb} {p = p} {s = s} {noted = noted} x) (process_receives {n = n} y) h =
    let o : ℕ → Bool = offers (system kb p s noted) in
    let w : ℕ → Bool = awaits (system kb p s noted) in
    subst (λ n. IsTrue (can_meet n (system kb p s noted))) (ends_are e) (others_partner c m o w x n (gets_partner c m o w y h))
receiver_meets {c = c} {m = m} e (keyboard_sends {b = b} {kb = kb} {p = p} {s = s} {noted = noted} f g) (process_receives y) h =
    let o : ℕ → Bool = offers (system (b ∷ kb) p s noted) in
    let w : ℕ → Bool = awaits (system (b ∷ kb) p s noted) in
    subst (λ n. IsTrue (can_meet n (system (b ∷ kb) p s noted))) (ends_are e) (gets_partner c m o w y h)
receiver_meets e x (screen_receives q) h = cc
receiver_meets e x (error_receives q) h = cc

message_passes : (n : ℕ) {a b : System} {x : Communication} → Meets a x b → TakesPart n x → IsTrue (can_meet n a)
message_passes n (meets x y) (inl e) = sender_meets e x (awaited_before _ x (receives_awaits y))
message_passes n (meets x y) (inr e) = receiver_meets e x y (sends_offers x)

pub passes_test : {n : ℕ} {a : System} → Meeting n a → IsTrue (can_meet n a)
passes_test (by_message h x) = message_passes _ x h
passes_test (by_skip (passes_skip {kb = kb} {p = p} {s = s} {noted = noted} x)) = skips_partner (offers (system kb p s noted)) (awaits (system kb p s noted)) x

-- nobody to meet
pub unmet : {errors : Errors} {n : ℕ} {a : System} → IsFalse (can_meet n a) → MeetsAtMost errors n a None a
unmet h = meets_none (λ g m. let yes = passes_test m in cc)
