-- What the screen has is a beginning of what it has later.
use Rattle.std.proofs.Common.{◌≡◌, ◌∙◌, refl, sym, ap, subst, Bool, ℕ, ◌⊎◌, inl, inr, List, [], ◌∷◌, ◌++◌, Some, None, append-nil}
use Rattle.std.proofs.lemmas.List.{append_assoc}
use Rattle.occ_term.specs.declared.communication.Communication.{Communication}
use Rattle.occ_term.specs.declared.communication.End.{End}
use Rattle.occ_term.specs.declared.ending.Ending.{Ending}
use Rattle.occ_term.specs.declared.message.Message.{Message}
use Rattle.occ_term.specs.Runs.{bytes_in, bytes_of, messages_on, sent_on}
use Rattle.occ_term.specs.System.{communication}
use Rattle.occ_term.specs.UnfoldedProgram.{UnfoldedProgram}
use Rattle.occ_machine.specs.Compiled.{Program}
use Rattle.occ_machine.specs.Machine.{Body}
use Rattle.occ_net_replay.specs.declared.choice.Choice.{Choice}
use Rattle.occ_net_replay.specs.Replay.{Net, HandsOver, task_gives, keyboard_gives, Gets, task_gets, arm_gets, screen_gets, error_gets, joined, Happens, meets, skips, forks, joins, Settled, settles, stays, Replays, begins, goes_on, ending_of}
use Rattle.occ_net_replay.proofs.Same.{one_replay, same_last}
use Rattle.occ_live_laws.specs.Live.{GoesOnTo, LiveReplay, screen_bytes, with_more}
use Rattle.occ_live_laws.proofs.Live.{live_replays, within_replays}

-- ---- bytes of more communications

pub said_more : (c : ℕ) (xs ys : List Communication) → messages_on c (xs ++ ys) ≡ messages_on c xs ++ messages_on c ys
said_more c [] ys = refl
said_more c (x ∷ xs) ys = ap (λ l. sent_on c x ++ l) (said_more c xs ys) ∙ sym (append_assoc (sent_on c x) (messages_on c xs) (messages_on c ys))

pub bytes_more : (xs ys : List Message) → bytes_of (xs ++ ys) ≡ bytes_of xs ++ bytes_of ys
bytes_more [] ys = refl
bytes_more (m ∷ xs) ys = ap (λ l. bytes_in m.items ++ l) (bytes_more xs ys) ∙ sym (append_assoc (bytes_in m.items) (bytes_of xs) (bytes_of ys))

-- ---- a turn puts communications behind those that there were

pub gives_trace : {c : ℕ} {m : Message} {x : End} {a b : Net} → HandsOver c m x a b → b.trace ≡ a.trace
gives_trace (task_gives h w) = refl
gives_trace (keyboard_gives e z r) = refl

gets_trace : {pick : ℕ} {f : ℕ → Bool} {c : ℕ} {m : Message} {x : End} {a b : Net} → Gets pick f c m x a b → b.trace ≡ a.trace
gets_trace (task_gets h w) = refl
gets_trace (arm_gets h w e f) = refl
gets_trace (screen_gets e) = refl
gets_trace (error_gets e) = refl

happens_says : {bodies : List Body} {n pick : ℕ} {a b : Net} → Happens bodies n pick a b → (said : List Communication) × (b.trace ≡ a.trace ++ said)
happens_says (meets part (joined {c = c} {m = m} {x = x} {y = y} g r)) = (communication c x y m ∷ [], ap (λ l. l ++ communication c x y m ∷ []) (gets_trace r ∙ gives_trace g))
happens_says {a = a} (skips h w e f) = ([], sym (append-nil a.trace))
happens_says {a = a} (forks h w) = ([], sym (append-nil a.trace))
happens_says {a = a} (joins m h w i d) = ([], sym (append-nil a.trace))

pub settled_says : {bodies : List Body} {n pick : ℕ} {a b : Net} → Settled bodies n pick a b → (said : List Communication) × (b.trace ≡ a.trace ++ said)
settled_says (settles h) = happens_says h
settled_says {a = a} (stays none) = ([], sym (append-nil a.trace))

-- ---- a replay had come to some network by the first of its choices

record Before (p : Program) (keyboard : List ℕ) (first since : List Choice) (last : Net) : Type 0 where
  net : Net
  replays : Replays p keyboard first net
  said : List Communication
  trace : last.trace ≡ net.trace ++ said
  went_on : ((since ≡ []) × (last ≡ net)) ⊎ (ending_of p.errors net ≡ None)

record Last (xs : List Choice) : Type 0 where
  before : List Choice
  last : Choice
  is : xs ≡ before ++ last ∷ []

last_of : (x : Choice) (xs : List Choice) → Last (x ∷ xs)
last_of x [] = record { before = []; last = x; is = refl }
last_of x (y ∷ xs) = let r = last_of y xs in record { before = x ∷ r.before; last = r.last; is = ap (λ l. x ∷ l) r.is }

nothing_before : (xs : List Choice) (y : Choice) (ys : List Choice) → [] ≡ xs ++ y ∷ ys → ⊥
nothing_before [] y ys e = absurd cc
nothing_before (x ∷ xs) y ys e = absurd cc

before : (p : Program) (keyboard : List ℕ) (all first since : List Choice) (last : Net) → Replays p keyboard all last → all ≡ first ++ since → Before p keyboard first since last
before p keyboard all first [] last r e =
    record { net = last; replays = subst (λ l. Replays p keyboard l last) (e ∙ append-nil first) r; said = []; trace = sym (append-nil last.trace); went_on = inl (refl, refl) }
before p keyboard all first (c ∷ since) last begins e = absurd (nothing_before first c since e)
before p keyboard all first (c ∷ since) last (goes_on {cs = ds} {c = d} {a = a} r none o) e =
    let z = last_of c since in
    let parts = same_last ds (first ++ z.before) d z.last (e ∙ ap (λ l. first ++ l) z.is ∙ sym (append_assoc first z.before (z.last ∷ []))) in
    let x = before p keyboard ds first z.before a r parts.0 in
    let s = settled_says o.settles in
    record {
      net = x.net;
      replays = x.replays;
      said = x.said ++ s.0;
      trace = s.1 ∙ ap (λ l. l ++ s.0) x.trace ∙ append_assoc x.net.trace x.said s.0;
      went_on = inr (went x.net x.went_on);
    }
  where
    went : {sofar : List Choice} (net : Net) → ((sofar ≡ []) × (a ≡ net)) ⊎ (ending_of p.errors net ≡ None) → ending_of p.errors net ≡ None
    went net (inl q) = subst (λ n. ending_of p.errors n ≡ None) q.1 none
    went net (inr q) = q

-- where a replay by the first choices came to, it was before
module _ (u : UnfoldedProgram) (p : Program) (quantum : ℕ) (keyboard : List ℕ) (first since : List Choice) (net last : Net) (r : Replays p keyboard first net) (g : GoesOnTo u p quantum keyboard first since last) where
  had : Before p keyboard first since last
  had = before p keyboard (first ++ since) first since last g.replays refl

  same : had.net ≡ net
  same = one_replay u p quantum keyboard first had.net net g.well_formed g.lawful g.compiled g.bytes g.few had.replays r

  pub shown_grows : (shown : List ℕ) × (screen_bytes last ≡ screen_bytes net ++ shown)
  shown_grows = (
    bytes_of (messages_on 1 had.said),
    ap (λ t. bytes_of (messages_on 1 t)) (had.trace ∙ ap (λ n. n.trace ++ had.said) same)
        ∙ ap bytes_of (said_more 1 net.trace had.said)
        ∙ bytes_more (messages_on 1 net.trace) (messages_on 1 had.said),
  )

  is_last : (e : Ending) → ending_of p.errors net ≡ Some e → (since ≡ []) × (last ≡ net)
  is_last e ended = by had.went_on
    where
      by : ((since ≡ []) × (last ≡ had.net)) ⊎ (ending_of p.errors had.net ≡ None) → (since ≡ []) × (last ≡ net)
      by (inl q) = (q.0, q.1 ∙ same)
      by (inr q) = let clash : Some e ≡ None = sym ended ∙ sym (ap (λ n. ending_of p.errors n) same) ∙ q in absurd cc

module _ (u : UnfoldedProgram) (p : Program) (quantum : ℕ) (read more : List ℕ) (first since : List Choice) (net last : Net) (live : LiveReplay p read first net) (g : GoesOnTo u p quantum (read ++ more) first since last) where
  replayed : Replays p (read ++ more) first (with_more more net)
  replayed = within_replays p (read ++ more) first (with_more more net) (live_replays p read more first net live)

  pub shown_stays : (shown : List ℕ) × (screen_bytes last ≡ screen_bytes net ++ shown)
  shown_stays = shown_grows u p quantum (read ++ more) first since (with_more more net) last replayed g

  pub ends_for_all : (e : Ending) → ending_of p.errors net ≡ Some e → (since ≡ []) × (last ≡ with_more more net)
  ends_for_all e ended = is_last u p quantum (read ++ more) first since (with_more more net) last replayed g e ended
