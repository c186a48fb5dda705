-- What of the screen was written while the trace grows.
use Rattle.std.proofs.Common.{◌≡◌, ◌∙◌, sym, ap, subst, ℕ, List, [], ◌∷◌, ◌++◌, ◌<◌, ◌≤◌, Option, append-nil, arith}
use Rattle.std.proofs.lemmas.List.{append_assoc}
use Rattle.std.specs.Io.KnownBytes.{Appends}
use Rattle.std.specs.Prelude.{Err, IfErr, IfOk, Ok, Result}
use Rattle.occ_term.specs.declared.communication.Communication.{Communication}
use Rattle.occ_term.specs.Runs.{bytes_of, messages_on}
use Rattle.occ_live_laws.proofs.Shown.{bytes_more, said_more}
use Rattle.occ_net_tables.specs.TracePlaces.{Place, place_behind}
use Rattle.occ_shown.specs.Answers.{AreByteMessages, channel_bytes}
use Rattle.occ_shown.specs.Counting.{failures_of as writes_failed, writer_of}
use Rattle.occ_shown.specs.declared.counted.Counted.{Counted}
use Rattle.occ_shown.proofs.Growth.{Appends-join}
use Rattle.occ_files.specs.Reading.{failures_of}
use Rattle.occ_files.specs.declared.reader.CountedReader.{CountedReader}
use Rattle.occ_live.specs.declared.fault.LiveFault.{LiveFault}
use Rattle.occ_live.specs.declared.fault.LiveFault.TheVariants as fails
use Rattle.occ_live.specs.Living.{FailsBehind, HasShown, Shows, ShowsOn, ShowsPart, TellsFailed, TellsRead, TellsWrite}

pub bytes_behind : (c : ℕ) (xs ys : List Communication) → channel_bytes c (xs ++ ys) ≡ channel_bytes c xs ++ channel_bytes c ys
bytes_behind c xs ys = ap bytes_of (said_more c xs ys) ∙ bytes_more (messages_on c xs) (messages_on c ys)

pub last_bytes : (c : ℕ) (xs ys : List Communication) → AreByteMessages c (xs ++ ys) → AreByteMessages c ys
last_bytes c [] ys h = h
last_bytes c (x ∷ xs) ys h = last_bytes c xs ys h.1

module _ {W : Type 0} (contents : W → Option (List ℕ)) where
  -- all was shown
  pub shown_now : (old new : Counted W) (mark next : Place) (trace : List Communication) → Shows contents old mark trace new next → (first : Counted W) → HasShown contents first old mark trace → HasShown contents first new next trace
  shown_now old new mark next trace s first h =
      let x = s h.before h.behind h.are h.place in
      let all : channel_bytes 1 h.before ++ channel_bytes 1 h.behind ≡ channel_bytes 1 trace = sym (bytes_behind 1 h.before h.behind) ∙ ap (channel_bytes 1) (sym h.are) in
      record {
        before = trace;
        behind = [];
        are = sym (append-nil trace);
        place = x.1;
        written = subst (Appends (contents (writer_of first)) (contents (writer_of new))) all (Appends-join _ _ _ _ _ h.written x.0);
      }

  pub all_shown : (old new : Counted W) (mark next : Place) (trace : List Communication) → Shows contents old mark trace new next → (first : Counted W) → HasShown contents first old mark trace → Appends (contents (writer_of first)) (contents (writer_of new)) (channel_bytes 1 trace)
  all_shown old new mark next trace s first h =
      let x = s h.before h.behind h.are h.place in
      let all : channel_bytes 1 h.before ++ channel_bytes 1 h.behind ≡ channel_bytes 1 trace = sym (bytes_behind 1 h.before h.behind) ∙ ap (channel_bytes 1) (sym h.are) in
      subst (Appends (contents (writer_of first)) (contents (writer_of new))) all (Appends-join _ _ _ _ _ h.written x.0)

  -- the trace has more
  pub shown_longer : (first now : Counted W) (mark : Place) (trace more longer : List Communication) → longer ≡ trace ++ more → HasShown contents first now mark trace → HasShown contents first now mark longer
  shown_longer first now mark trace more longer e h =
      record {
        before = h.before;
        behind = h.behind ++ more;
        are = e ∙ ap (λ l. l ++ more) h.are ∙ append_assoc h.before h.behind more;
        place = h.place;
        written = h.written;
      }

  -- a beginning was written
  pub begun_at : (first now : Counted W) (mark : Place) (trace : List Communication) → HasShown contents first now mark trace → (shown : List ℕ) × (rest : List ℕ) × (channel_bytes 1 trace ≡ shown ++ rest) × Appends (contents (writer_of first)) (contents (writer_of now)) shown
  begun_at first now mark trace h = (channel_bytes 1 h.before, channel_bytes 1 h.behind, ap (channel_bytes 1) h.are ∙ bytes_behind 1 h.before h.behind, h.written)

  pub memory_behind : (now : Counted W) (mark : Place) (trace : List Communication) → FailsBehind contents now mark trace now fails.Memory
  memory_behind now mark trace = λ first h. begun_at first now mark trace h

  part_behind : (old new : Counted W) (mark : Place) (trace : List Communication) → ((before behind : List Communication) → trace ≡ before ++ behind → mark ≡ place_behind before → (shown : List ℕ) × (rest : List ℕ) × (channel_bytes 1 behind ≡ shown ++ rest) × Appends (contents (writer_of old)) (contents (writer_of new)) shown)
      → (first : Counted W) → HasShown contents first old mark trace → (shown : List ℕ) × (rest : List ℕ) × (channel_bytes 1 trace ≡ shown ++ rest) × Appends (contents (writer_of first)) (contents (writer_of new)) shown
  part_behind old new mark trace s first h =
      let x = s h.before h.behind h.are h.place in
      let front = channel_bytes 1 h.before in (
        front ++ x.0,
        x.1,
        ap (channel_bytes 1) h.are ∙ bytes_behind 1 h.before h.behind ∙ ap (λ l. front ++ l) x.2 ∙ sym (append_assoc front x.0 x.1),
        Appends-join _ _ _ _ _ h.written x.3,
      )

  pub part_fails : (old new : Counted W) (mark : Place) (trace : List Communication) (fault : LiveFault) → ShowsPart contents old mark trace new fault → FailsBehind contents old mark trace new fault
  part_fails old new mark trace (fails.Read reason) s = λ first h.
      let x = s h.before h.behind h.are h.place in
      let all : channel_bytes 1 h.before ++ channel_bytes 1 h.behind ≡ channel_bytes 1 trace = sym (bytes_behind 1 h.before h.behind) ∙ ap (channel_bytes 1) (sym h.are) in
      subst (Appends (contents (writer_of first)) (contents (writer_of new))) all (Appends-join _ _ _ _ _ h.written x)
  part_fails old new mark trace fails.Write s = λ first h. part_behind old new mark trace s first h
  part_fails old new mark trace fails.Memory s = λ first h. part_behind old new mark trace s first h

  -- a read failed where all was shown, or memory ran out there
  pub read_fails : (old new : Counted W) (mark next : Place) (trace : List Communication) (fault : LiveFault) → Shows contents old mark trace new next → FailsBehind contents old mark trace new fault
  read_fails old new mark next trace (fails.Read reason) s = λ first h. all_shown old new mark next trace s first h
  read_fails old new mark next trace fails.Write s = λ first h. (channel_bytes 1 trace, [], sym (append-nil (channel_bytes 1 trace)), all_shown old new mark next trace s first h)
  read_fails old new mark next trace fails.Memory s = λ first h. (channel_bytes 1 trace, [], sym (append-nil (channel_bytes 1 trace)), all_shown old new mark next trace s first h)

  -- memory ran out once more was shown
  pub memory_after : (old new : Counted W) (mark next : Place) (trace same : List Communication) → trace ≡ same → ShowsOn contents old mark trace new next trace → FailsBehind contents old mark same new fails.Memory
  memory_after old new mark next trace same e s = subst (λ t. FailsBehind contents old mark t new fails.Memory) e (λ first h. begun_at first new next trace (s first h))

-- ---- what a fault is told of

module _ {K W : Type 0} where
  pub read_told : (keys_old keys_new : CountedReader K) (old new : Counted W) (fault : LiveFault) → TellsRead keys_old keys_new fault → TellsFailed keys_old keys_new old new fault
  read_told keys_old keys_new old new (fails.Read reason) t = t
  read_told keys_old keys_new old new fails.Write t = absurd t
  read_told keys_old keys_new old new fails.Memory t = tt

  pub write_told : (keys_old keys_new : CountedReader K) (first old new : Counted W) (fault : LiveFault) → writes_failed old ≡ writes_failed first → TellsWrite old new fault → TellsFailed keys_old keys_new first new fault
  write_told keys_old keys_new first old new (fails.Read reason) e t = absurd t
  write_told keys_old keys_new first old new fails.Write e t = subst (λ n. n < writes_failed new) e t
  write_told keys_old keys_new first old new fails.Memory e t = tt

  pub told_on : (keys_first keys_old keys_new : CountedReader K) (first old new : Counted W) (fault : LiveFault) → failures_of keys_first ≤ failures_of keys_old → writes_failed old ≡ writes_failed first → TellsFailed keys_old keys_new old new fault → TellsFailed keys_first keys_new first new fault
  told_on keys_first keys_old keys_new first old new (fails.Read reason) g e t = let more = t.0 in (omega (arith, g, more), t.1)
  told_on keys_first keys_old keys_new first old new fails.Write g e t = subst (λ n. n < writes_failed new) e t
  told_on keys_first keys_old keys_new first old new fails.Memory g e t = tt

pub same_count : (n : ℕ) → n ≤ n
same_count n = omega (arith)

pub up_to : (m n k : ℕ) → m ≤ n → n ≤ k → m ≤ k
up_to m n k less more = omega (arith, less, more)

-- ---- what a result says of its value, or of its fault

pub if_ok_map : {X E : Type 0} (P Q : X → Type 0) (r : Result X E) → ((x : X) → P x → Q x) → IfOk r P → IfOk r Q
if_ok_map P Q (Ok x) f h = f x h
if_ok_map P Q (Err e) f h = tt

pub if_err_map : {X E : Type 0} (P Q : E → Type 0) (r : Result X E) → ((e : E) → P e → Q e) → IfErr r P → IfErr r Q
if_err_map P Q (Ok x) f h = tt
if_err_map P Q (Err e) f h = f e h

pub if_err_both : {X E : Type 0} (P Q R : E → Type 0) (r : Result X E) → ((e : E) → P e → Q e → R e) → IfErr r P → IfErr r Q → IfErr r R
if_err_both P Q R (Ok x) f h k = tt
if_err_both P Q R (Err e) f h k = f e h k
