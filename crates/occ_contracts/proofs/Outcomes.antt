-- A list of choices has one outcome.
use Rattle.std.proofs.Common.{◌≡◌, ◌∙◌, refl, sym, ap, subst, arith, ℕ, zero, suc, ◌+◌, ◌<◌, ◌≤◌, ◌^◌, List, [], ◌∷◌, ◌++◌, None, Result, Ok, Err, IfOk, IfErr, get_or, length, length-append}
use Rattle.occ_term.specs.Runs.{bytes_of, messages_on}
use Rattle.occ_machine.specs.Compiled.{Program, IsCompiled}
use Rattle.occ_choices.specs.Plans.{turns_from}
use Rattle.occ_net.proofs.States.{one_state}
use Rattle.occ_net.specs.Networks.{Past, fresh}
use Rattle.occ_net.specs.Outcomes.{IsOutcome}
use Rattle.occ_net.specs.declared.fault.NetFault.{NetFault}
use Rattle.occ_net.specs.declared.fault.NetFault.TheVariants.{Memory}
use Rattle.occ_net.specs.declared.outcome.Outcome.{Outcome}
use Rattle.occ_net_replay.proofs.Same.{Passed, passed}
use Rattle.occ_net_replay.specs.declared.choice.Choice.{Choice}
use Rattle.occ_net_replay.specs.Following.{AreBytes, or_limit}
use Rattle.occ_net_replay.specs.Replay.{Net, Replays, begins, goes_on, ending_of, ready_from}
use Rattle.occ_net_tables.specs.Outcomes.{Begins}
use Rattle.occ_net_tables.specs.Places.{Placed, none_placed, one_placed, placed_among}
use Rattle.occ_contracts.specs.Agreement.{Agree}
use Rattle.occ_contracts.specs.Networks.{told}

-- the bytes of a keyboard
pub are_bytes : (kb : List ℕ) → ((k : ℕ) → get_or kb k 0 < 256) → AreBytes kb
are_bytes [] h = tt
are_bytes (b ∷ bs) h = (h 0, are_bytes bs (λ k. h (suc k)))

pub turns_length : (k n : ℕ) → length (turns_from k n) ≡ n
turns_length k zero = refl
turns_length k (suc n) = ap suc (turns_length (k + 1) n)

-- ---- lists that begin one list

data Compared (xs ys : List Choice) : Type 0 where
  same : xs ≡ ys → Compared xs ys
  longer : (c : Choice) (rest : List Choice) → xs ≡ ys ++ c ∷ rest → Compared xs ys
  shorter : (c : Choice) (rest : List Choice) → ys ≡ xs ++ c ∷ rest → Compared xs ys

compared : (xs ys more others : List Choice) → xs ++ more ≡ ys ++ others → Compared xs ys
compared [] [] more others e = same refl
compared [] (y ∷ ys) more others e = shorter y ys refl
compared (x ∷ xs) [] more others e = longer x xs refl
compared (x ∷ xs) (y ∷ ys) more others e = by (compared xs ys more others rest)
  where
    first : x ≡ y
    first = cc

    rest : xs ++ more ≡ ys ++ others
    rest = cc

    by : Compared xs ys → Compared (x ∷ xs) (y ∷ ys)
    by (same q) = same (ap (λ z. z ∷ xs) first ∙ ap (λ l. y ∷ l) q)
    by (longer c l q) = longer c l (ap (λ z. z ∷ xs) first ∙ ap (λ l. y ∷ l) q)
    by (shorter c l q) = shorter c l (ap (λ z. z ∷ ys) (sym first) ∙ ap (λ l. x ∷ l) q)

begins_short : (front whole : List Choice) → Begins front whole → length front ≤ length whole
begins_short front whole h = let q : length whole ≡ length front + length h.rest = ap length h.is ∙ length-append front h.rest in omega (arith, q)

too_long : (xs ys whole : List Choice) (c : Choice) (rest : List Choice) → xs ≡ ys ++ c ∷ rest → Begins xs whole → ys ≡ whole → ⊥
too_long xs ys whole c rest e begun all =
    let more : length xs ≡ length ys + length (c ∷ rest) = ap length e ∙ length-append ys (c ∷ rest) in
    let within = begins_short xs whole begun in
    let same_length : length ys ≡ length whole = ap length all in
    absurd (omega (arith, more, within, same_length))

no_end : (xs : List Choice) (x : Choice) → [] ≡ xs ++ x ∷ [] → ⊥
no_end [] x e = cc
no_end (y ∷ xs) x e = cc

last_parts : (xs ys : List Choice) (x y : Choice) → xs ++ x ∷ [] ≡ ys ++ y ∷ [] → (xs ≡ ys) × (x ≡ y)
last_parts [] [] x y e = (refl, cc)
last_parts [] (z ∷ ys) x y e = absurd (no_end ys y (let q : [] ≡ ys ++ y ∷ [] = cc in q))
last_parts (z ∷ xs) [] x y e = absurd (no_end xs x (let q : [] ≡ xs ++ x ∷ [] = cc in q))
last_parts (z ∷ xs) (w ∷ ys) x y e =
    let first : z ≡ w = cc in
    let q = last_parts xs ys x y (let r : xs ++ x ∷ [] ≡ ys ++ y ∷ [] = cc in r) in
    (ap (λ v. v ∷ xs) first ∙ ap (λ l. w ∷ l) q.0, q.1)

-- ---- one replay, with one list of places

module _ (p : Program) (kb : List ℕ) (made : IsCompiled p) (bytes : AreBytes kb) where
  one_net : (cs : List Choice) (m n : Net) → length cs < 2 ^ 64 → Replays p kb cs m → Replays p kb cs n → m ≡ n
  one_net cs m n few r s = one_state (record (fresh p kb) { choices = cs }) made bytes few m n r s

  replayed : {cs ds : List Choice} {net : Net} → Placed p kb cs ds net → Replays p kb cs net
  replayed none_placed = begins
  replayed (one_placed h g o) = goes_on (replayed h) g o

  same_places : {xs ys ds es : List Choice} {a b : Net} → length xs < 2 ^ 64 → Placed p kb xs ds a → Placed p kb ys es b → xs ≡ ys → ds ≡ es
  same_places few none_placed none_placed e = refl
  same_places few none_placed (one_placed {cs = cs} {c = c} h g o) e = absurd (no_end cs c e)
  same_places few (one_placed {cs = cs} {c = c} h g o) none_placed e = absurd (no_end cs c (sym e))
  same_places few (one_placed {cs = xs} {ds = ds} {c = x} {a = a} h g o) (one_placed {cs = ys} {ds = es} {c = y} {a = b} k i q) e =
      let parts = last_parts xs ys x y e in
      let longer_by : length (xs ++ x ∷ []) ≡ length xs + length (x ∷ []) = length-append xs (x ∷ []) in
      let fewer : length xs < 2 ^ 64 = omega (arith, longer_by, few) in
      let net : a ≡ b = one_net xs a b fewer (replayed h) (subst (λ l. Replays p kb l b) (sym parts.0) (replayed k)) in
      ap (λ l. l ++ placed_among (ready_from 0 a.tasks) x ∷ []) (same_places fewer h k parts.0)
      ∙ ap (λ n. es ++ placed_among (ready_from 0 n.tasks) x ∷ []) net
      ∙ ap (λ c. es ++ placed_among (ready_from 0 b.tasks) c ∷ []) parts.1

  module _ (list : List Choice) (few : length list < 2 ^ 64) where
    used_few : (front : List Choice) → Begins front list → length front < 2 ^ 64
    used_few front h = let q = begins_short front list h in omega (arith, q, few)

    by_used : (a b : Outcome) → IsOutcome p kb list a → IsOutcome p kb list b → a.choices.items ≡ b.choices.items → told a ≡ told b
    by_used a b x y used =
        let short = used_few a.choices.items x.used in
        let net : x.net ≡ y.net = one_net a.choices.items x.net y.net short (replayed x.places) (subst (λ cs. Replays p kb cs y.net) (sym used) (replayed y.places)) in
        let placed : a.network.choices ≡ b.network.choices = same_places short x.places y.places used in
        let network : a.network ≡ b.network = x.network ∙ ap (λ cs. past_with cs) placed ∙ sym y.network in
        let ending = x.shows.ending ∙ ap (λ n. or_limit (ending_of a.network.program.errors n)) net ∙ ap (λ (m : Past). or_limit (ending_of m.program.errors y.net)) network ∙ sym y.shows.ending in
        let screen = x.shows.screen ∙ ap (λ (n : Net). bytes_of (messages_on 1 n.trace)) net ∙ sym y.shows.screen in
        let error = x.shows.error ∙ ap (λ (n : Net). bytes_of (messages_on 2 n.trace)) net ∙ sym y.shows.error in
        cc (ending, used, screen, error, network)
      where
        past_with : List Choice → Past
        past_with cs = record (fresh p kb) { choices = cs }

    used_all : (a b : Outcome) → IsOutcome p kb list a → IsOutcome p kb list b → (c : Choice) (rest : List Choice) → a.choices.items ≡ b.choices.items ++ c ∷ rest → b.choices.items ≡ list
    used_all a b x y c rest e =
        let there : Passed p kb b.choices.items = passed p kb a.choices.items b.choices.items c rest x.net (replayed x.places) e in
        let net : there.net ≡ y.net = one_net b.choices.items there.net y.net (used_few b.choices.items y.used) there.replays (replayed y.places) in
        y.whole (subst (λ n. ending_of p.errors n ≡ None) net there.going)

    pub one_outcome : (a b : Outcome) → IsOutcome p kb list a → IsOutcome p kb list b → told a ≡ told b
    one_outcome a b x y = by (compared a.choices.items b.choices.items x.used.rest y.used.rest (sym x.used.is ∙ y.used.is))
      where
        by : Compared a.choices.items b.choices.items → told a ≡ told b
        by (same q) = by_used a b x y q
        by (longer c rest q) = absurd (too_long a.choices.items b.choices.items list c rest q x.used (used_all a b x y c rest q))
        by (shorter c rest q) = absurd (too_long b.choices.items a.choices.items list c rest q y.used (used_all b a y x c rest q))

    pub agree_on_outcome : (r q : Result Outcome NetFault) → IfOk r (IsOutcome p kb list) → IfErr r (λ e. e ≡ Memory) → IfOk q (IsOutcome p kb list) → IfErr q (λ e. e ≡ Memory) → Agree told (λ e. e ≡ Memory) r q
    agree_on_outcome (Ok a) (Ok b) x u y v = one_outcome a b x y
    agree_on_outcome (Ok a) (Err f) x u y v = v
    agree_on_outcome (Err e) (Ok b) x u y v = u
    agree_on_outcome (Err e) (Err f) x u y v = tt

-- the same where the second is of another code and keyboard that are equal to these, and of a list that is equal
pub agree_as_planned : (p q : Program) (kb keys : List ℕ) (list others : List Choice) → IsCompiled p → AreBytes kb → length list < 2 ^ 64 → q ≡ p → keys ≡ kb → others ≡ list
    → (r s : Result Outcome NetFault) → IfOk r (IsOutcome p kb list) → IfErr r (λ e. e ≡ Memory) → IfOk s (IsOutcome q keys others) → IfErr s (λ e. e ≡ Memory) → Agree told (λ e. e ≡ Memory) r s
agree_as_planned p q kb keys list others made bytes few code keyboard plan r s x u y v =
    let of_list : IfOk s (IsOutcome q keys list) = subst (λ l. IfOk s (IsOutcome q keys l)) plan y in
    let of_keys : IfOk s (IsOutcome q kb list) = subst (λ k. IfOk s (IsOutcome q k list)) keyboard of_list in
    let of_code : IfOk s (IsOutcome p kb list) = subst (λ c. IfOk s (IsOutcome c kb list)) code of_keys in
    agree_on_outcome p kb made bytes list few r s x u of_code v
