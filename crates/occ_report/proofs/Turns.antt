-- A run, turn by turn.
use Rattle.std.proofs.Common.{◌≡◌, ◌∙◌, ◌++◌, ◌+◌, ◌-◌, ◌%◌, ◌<◌, ◌≤◌, ◌^◌, ℕ, zero, suc, Bool, List, [], ◌∷◌, Option, None, Some, false, true, drop, length, refl, sym, ap, subst, arith, append_assoc, append-nil, length-append}
use Rattle.std.specs.Prelude.{slice_get}
use Rattle.std.specs.Option.{is_some}
use Rattle.std.proofs.lemmas.List.{length-drop}
use Rattle.std.proofs.lemmas.Nat.{mod_below}
use Rattle.occ_machine.specs.Compiled.{Program}
use Rattle.occ_net_replay.specs.declared.choice.Choice.{Choice}
use Rattle.occ_machine.specs.Machine.{Body, Stopping}
use Rattle.occ_machine.specs.declared.task.Task.{Task}
use Rattle.occ_term.specs.declared.communication.Communication.{Communication}
use Rattle.occ_term.specs.declared.communication.End.{End}
use Rattle.occ_net_tables.specs.TracePlaces.{Place, place_behind}
use Rattle.occ_term.specs.Runs.{Names, entries}
use Rattle.occ_term.specs.System.{communication}
use Rattle.occ_term.specs.declared.message.Message.{Message}
use Rattle.occ_net_replay.specs.Replay.{Gets, HandsOver, Happens, PassesOn, Net, OneTurn, Replays, Settled, arm_gets, begins, error_gets, forks, joined, joins, keyboard_gives, meets, screen_gets, settles, skips, stays, task_gets, task_gives, ending_of, first_net, goes_on, ready_from, selected_process}
use Rattle.occ_net_replay.proofs.OneStop.{stopping_once}
use Rattle.occ_net_replay.proofs.Tables.{task_once}
use Rattle.occ_net_tables.specs.Holding.{Holds}
use Rattle.occ_net_tables.specs.Settling.{Standing, TurnsTo}
use Rattle.occ_net_tables.specs.declared.tables.Tables.{Tables}
use Rattle.occ_report.specs.Places.{Known}
use Rattle.occ_shown.specs.Answers.{names_of}
use Rattle.occ_report.specs.Steps.{IsSteps, NextTurn, Stepped, Stepping, StepsTo, turn_head, news, none_stepped, one_stepped, step_text, turn_tail}

stepped_replays : (known : List Known) (p : Program) (kb : List ℕ) {cs : List Choice} {net : Net} {text : List ℕ} → Stepped known p kb cs net text → Replays p kb cs net
stepped_replays known p kb none_stepped = begins
stepped_replays known p kb (one_stepped h e turn) = goes_on (stepped_replays known p kb h) e turn

pub starts : (known : List Known) (p : Program) (kb : List ℕ) (list : List Choice) (n : Tables) (text : List ℕ) → ((k : List ℕ) → Holds p k n (first_net p k)) → text ≡ [] → Stepping known p kb 0 list list n text
starts known p kb list n text h none =
    record { given = []; count = refl; so_far = refl; net = first_net p kb; stepped = subst (λ t. Stepped known p kb [] (first_net p kb) t) (sym none) none_stepped; holds = h kb }

pub stands : (known : List Known) (p : Program) (kb : List ℕ) (turns : ℕ) (rest list : List Choice) (n : Tables) (text : List ℕ) → (h : Stepping known p kb turns rest list n text) → ending_of p.errors h.net ≡ None → 1 + turns < 2 ^ 64 → Standing p kb n
stands known p kb turns rest list n text h going few =
    record { choices = h.given; few = subst (λ k. 1 + k < 2 ^ 64) h.count few; net = h.net; replays = stepped_replays known p kb h.stepped; open_end = going; holds = h.holds }

-- one turn more
pub one_more : (known : List Known) (p : Program) (kb : List ℕ) (turns : ℕ) (rest others list : List Choice) (c : Choice) (old new : Tables) (text longer : List ℕ)
    → (h : Stepping known p kb turns rest list old text) → ending_of p.errors h.net ≡ None → rest ≡ c ∷ others
    → ((net : Net) → Holds p kb old net → StepsTo known p kb (turns + 1) c net text new longer) → Stepping known p kb (turns + 1) others list new longer
one_more known p kb turns rest others list c old new text longer h going first turn =
    let x = turn h.net h.holds in
    let number : turns + 1 ≡ length h.given + 1 = ap (λ k. k + 1) h.count in
    let line : text ++ step_text (names_of p.channels) known (length h.given + 1) h.net x.taken.number c.pick x.taken.after x.next ≡ longer =
    ap (λ k. text ++ step_text (names_of p.channels) known k h.net x.taken.number c.pick x.taken.after x.next) (sym number) ∙ sym x.is in
    record {
      given = h.given ++ c ∷ [];
      count = number ∙ sym (length-append h.given (c ∷ []));
      so_far = append_assoc h.given (c ∷ []) others ∙ ap (λ cs. h.given ++ cs) (sym first) ∙ h.so_far;
      net = x.next;
      stepped = subst (λ t. Stepped known p kb (h.given ++ c ∷ []) x.next t) line (one_stepped h.stepped going x.taken);
      holds = x.holds;
    }

-- ---- a turn adds to the communications

record Grows (a b : Net) : Type 0 where
  pub more : List Communication
  pub is : b.trace ≡ a.trace ++ more

gives_none : {c : ℕ} {m : Message} {x : End} {a b : Net} → HandsOver c m x a b → b.trace ≡ a.trace
gives_none (task_gives there waits) = refl
gives_none (keyboard_gives typed first is) = refl

gets_none : {pick : ℕ} {offers : ℕ → Bool} {c : ℕ} {m : Message} {x : End} {a b : Net} → Gets pick offers c m x a b → b.trace ≡ a.trace
gets_none (task_gets there waits) = refl
gets_none (arm_gets there waits chosen on) = refl
gets_none (screen_gets is) = refl
gets_none (error_gets is) = refl

joined_one : {pick : ℕ} {x : Communication} {a b : Net} → PassesOn pick a x b → b.trace ≡ a.trace ++ x ∷ []
joined_one (joined {c = c} {m = m} {x = x} {y = y} gives gets) = ap (λ (xs : List Communication). xs ++ communication c x y m ∷ []) (gets_none gets ∙ gives_none gives)

same_trace : (a b : Net) → b.trace ≡ a.trace → Grows a b
same_trace a b e = record { more = []; is = e ∙ sym (append-nil a.trace) }

happens_grows : {bodies : List Body} {n pick : ℕ} {a b : Net} → Happens bodies n pick a b → Grows a b
happens_grows (meets {x = x} takes j) = record { more = x ∷ []; is = joined_one j }
happens_grows (skips {a = a} there waits chosen none) = same_trace _ _ refl
happens_grows (forks {a = a} there waits) = same_trace _ _ refl
happens_grows (joins m {a = a} there waits held done) = same_trace _ _ refl

settled_grows : {bodies : List Body} {n pick : ℕ} {a b : Net} → Settled bodies n pick a b → Grows a b
settled_grows (settles h) = happens_grows h
settled_grows (stays {a = a} none) = same_trace a a refl

turn_grows : (p : Program) (c : Choice) (a b : Net) → OneTurn p c a b → Grows a b
turn_grows p c a b o = let h = settled_grows o.settles in record { more = h.more; is = h.is }

-- ---- and so the trace in code

-- what was there is the front of what is there
pub front_of : (old new : List Communication) (more : List Communication) → new ≡ old ++ more → new ≡ old ++ drop (length old) new
front_of [] new more e = refl
front_of (x ∷ xs) [] more e = cc
front_of (x ∷ xs) (y ∷ ys) more e =
    let heads = first_of e in
    ap (λ z. z ∷ ys) heads.0 ∙ ap (λ zs. x ∷ zs) (front_of xs ys more heads.1)
  where
    first_of : {a b : Communication} {cs ds : List Communication} → a ∷ cs ≡ b ∷ ds → (a ≡ b) × (cs ≡ ds)
    first_of q = (cc, cc)

-- what was copied behind the place where the trace stood is what the turn added
pub news_are : (p : Program) (c : Choice) (a b : Net) (old new fresh : List Communication) → OneTurn p c a b → a.trace ≡ old → b.trace ≡ new
    → (mark : Place) → mark ≡ place_behind old → ((before after : List Communication) → new ≡ before ++ after → mark ≡ place_behind before → fresh ≡ after) → fresh ≡ drop (length old) new
news_are p c a b old new fresh turn was now mark at copies =
    let grown = turn_grows p c a b turn in
    let front = front_of old new grown.more (sym now ∙ grown.is ∙ ap (λ xs. xs ++ grown.more) was) in
    copies old (drop (length old) new) front at

pub news_within : (old new fresh : List Communication) (made : ℕ) → fresh ≡ drop (length old) new → made ≡ length new → length fresh ≤ made
news_within old new fresh made is many =
    let size : length fresh ≡ length new - length old = ap length is ∙ length-drop (length old) new in
    omega (arith, size, many)

pub news_text : (names : Names) (p : Program) (c : Choice) (a b : Net) (old new fresh : List Communication) (made : ℕ) → OneTurn p c a b → a.trace ≡ old → b.trace ≡ new
    → fresh ≡ drop (length old) new → made ≡ length new → entries names (made - length fresh + 1) fresh ≡ news names a b
news_text names p c a b old new fresh made turn was now is many =
    let grown = turn_grows p c a b turn in
    let front = front_of old new grown.more (sym now ∙ grown.is ∙ ap (λ xs. xs ++ grown.more) was) in
    let whole : length new ≡ length old + length (drop (length old) new) = ap length front ∙ length-append old (drop (length old) new) in
    let size : length fresh ≡ length (drop (length old) new) = ap length is in
    let before : length a.trace ≡ length old = ap length was in
    let number : made - length fresh ≡ length a.trace = omega (arith, whole, size, before, many) in
    let after : fresh ≡ drop (length a.trace) b.trace =
    is ∙ ap (λ k. drop k new) (sym before) ∙ ap (drop (length a.trace)) (sym now) in
    ap (λ k. entries names (k + 1) fresh) number ∙ ap (entries names (length a.trace + 1)) after

pub three_more : (o a b c x y z : List ℕ) → x ≡ o ++ a → y ≡ x ++ b → z ≡ y ++ c → z ≡ o ++ ((a ++ b) ++ c)
three_more o a b c x y z e f g = g ∙ ap (λ l. l ++ c) (f ∙ ap (λ l. l ++ b) e ∙ append_assoc o a b) ∙ append_assoc o (a ++ b) c

-- where some are ready, one is selected
pub some_selected : (ready : List ℕ) (which : ℕ) → 0 < length ready → selected_process ready which ≡ None → ⊥
some_selected ready which some none = inside ready (which % length ready) (mod_below which (length ready) some) none
  where
    inside : (xs : List ℕ) (k : ℕ) → k < length xs → slice_get xs k ≡ None → ⊥
    inside [] k lt e = omega (arith, lt)
    inside (x ∷ xs) zero lt e = cc
    inside (x ∷ xs) (suc k) lt e = inside xs k (omega (arith, lt)) e

-- a turn by the same choice is by the same process, and leaves it with the same task
same_number : {a b : ℕ} {o : Option ℕ} → o ≡ Some a → o ≡ Some b → a ≡ b
same_number e f = one_of (sym e ∙ f)
  where
    one_of : {a b : ℕ} → ◌≡◌ {A = Option ℕ} (Some a) (Some b) → a ≡ b
    one_of q = cc

same_body : {a b : Body} {o : Option Body} → o ≡ Some a → o ≡ Some b → a ≡ b
same_body e f = one_of (sym e ∙ f)
  where
    one_of : {a b : Body} → ◌≡◌ {A = Option Body} (Some a) (Some b) → a ≡ b
    one_of q = cc

same_left : (p : Program) (c : Choice) (net next : Net) (number : ℕ) (after : Task) → (h : NextTurn p c.which net number after) → (turn : OneTurn p c net next) → number ≡ turn.number → after ≡ turn.after
same_left p c net next number after h turn same =
    let body : h.body ≡ turn.body = same_body (ap (slice_get p.bodies) (sym same) ∙ h.has_body) turn.has_body in
    let before : h.before ≡ turn.before = task_once net.tasks turn.number (subst (λ (k : ℕ). slice_get net.tasks k ≡ Some (Some h.before)) same h.has_task) turn.has_task in
    stopping_once turn.body turn.before after turn.after (subst (λ b. Stopping b turn.before after) body (subst (λ t. Stopping h.body t after) before h.stops)) turn.stops

-- what is written is the line of the turn
pub steps_to : (known : List Known) (p : Program) (kb : List ℕ) (turn : ℕ) (c : Choice) (net : Net) (old new : Tables) (taken : ℕ) (left : Task) (text middle longer : List ℕ)
    → Holds p kb old net → (x : TurnsTo p kb c net new) → NextTurn p c.which net taken left
    → middle ≡ text ++ turn_head turn (ready_from 0 net.tasks) taken c.pick
    → longer ≡ middle ++ turn_tail (names_of p.channels) known taken left (news (names_of p.channels) net x.next)
    → StepsTo known p kb turn c net text new longer
steps_to known p kb turn c net old new taken left text middle longer holds x next first second =
    let same : taken ≡ x.turn.number = same_number next.selects x.turn.selects in
    let after : left ≡ x.turn.after = same_left p c net x.next taken left next x.turn same in
    record {
      next = x.next;
      taken = x.turn;
      holds = x.holds;
      is =
          second ∙ ap (λ t. t ++ turn_tail (names_of p.channels) known taken left (news (names_of p.channels) net x.next)) first
          ∙ append_assoc text (turn_head turn (ready_from 0 net.tasks) taken c.pick) (turn_tail (names_of p.channels) known taken left (news (names_of p.channels) net x.next))
          ∙ ap (λ (k : ℕ). text ++ step_text (names_of p.channels) known turn net k c.pick left x.next) same
          ∙ ap (λ (t : Task). text ++ step_text (names_of p.channels) known turn net x.turn.number c.pick t x.next) after;
    }

-- the run has ended, or the choices are used up
pub ended : (known : List Known) (p : Program) (kb : List ℕ) (turns : ℕ) (rest list : List Choice) (n : Tables) (text : List ℕ) → (h : Stepping known p kb turns rest list n text) → (ending_of p.errors h.net ≡ None → rest ≡ []) → IsSteps known p kb list text
ended known p kb turns rest list n text h over =
    record {
      used = h.given;
      net = h.net;
      stepped = h.stepped;
      begins = record { rest = rest; is = sym h.so_far };
      whole = λ e. sym (append-nil h.given) ∙ ap (λ cs. h.given ++ cs) (sym (over e)) ∙ h.so_far;
    }

pub none_of : {A : Type 0} (o : Option A) → is_some o ≡ false → o ≡ None
none_of None e = refl
none_of (Some x) e = cc

pub none_left : {A : Type 0} (xs : List A) → length xs ≡ 0 → xs ≡ []
none_left [] e = refl
none_left (x ∷ xs) e = absurd (omega (arith, e))

-- ---- line by line

tail_of : {x y : ℕ} {xs ys : List ℕ} → x ∷ xs ≡ y ∷ ys → xs ≡ ys
tail_of q = cc

same_end : (out a b : List ℕ) → out ++ a ≡ out ++ b → a ≡ b
same_end [] a b e = e
same_end (x ∷ out) a b e = same_end out a b (tail_of e)

-- whatever stood before the line, it is the line of that turn
pub line_more : (known : List Known) (p : Program) (kb : List ℕ) (turns : ℕ) (rest others list : List Choice) (c : Choice) (old new : Tables) (text out grown piece : List ℕ)
    → (h : Stepping known p kb turns rest list old text) → ending_of p.errors h.net ≡ None → rest ≡ c ∷ others
    → ((net : Net) → Holds p kb old net → StepsTo known p kb (turns + 1) c net out new grown) → grown ≡ out ++ piece
    → Stepping known p kb (turns + 1) others list new (text ++ piece)
line_more known p kb turns rest others list c old new text out grown piece h going first turn is =
    one_more known p kb turns rest others list c old new text (text ++ piece) h going first
    (λ net holds.
    let x = turn net holds in
    record { next = x.next; taken = x.taken; holds = x.holds; is = ap (λ l. text ++ l) (same_end out piece (step_text (names_of p.channels) known (turns + 1) net x.taken.number c.pick x.taken.after x.next) (sym is ∙ x.is)) })

pub ended_here : (known : List Known) (p : Program) (kb : List ℕ) (turns : ℕ) (rest list : List Choice) (n : Tables) (text : List ℕ) → (h : Stepping known p kb turns rest list n text)
    → (ending_of p.errors h.net ≡ None → rest ≡ []) → IsSteps known p kb list (text ++ [])
ended_here known p kb turns rest list n text h over = subst (IsSteps known p kb list) (sym (append-nil text)) (ended known p kb turns rest list n text h over)

pub some_none : {A : Type 0} (o : Option A) → is_some o ≡ true → o ≡ None → ⊥
some_none None some none = cc
some_none (Some x) some none = cc
