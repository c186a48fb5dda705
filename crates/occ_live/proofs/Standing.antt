-- A live run goes on over the bytes that it has, and over more.
use Rattle.std.proofs.Common.{◌≡◌, ◌∙◌, refl, sym, ap, subst, Bool, true, false, IsFalse, IsTrue, ℕ, suc, ◌<◌, ◌^◌, List, [], ◌∷◌, ◌++◌, Some, None, Option, get_or, length, drop, arith, length-append}
use Rattle.std.specs.Io.KnownBytes.{Consumes}
use mathlib.Core.Bool.{true≢false}
use Rattle.occ_term.specs.declared.communication.Communication.{Communication}
use Rattle.occ_term.specs.declared.ending.Ending.{Ending}
use Rattle.occ_term.specs.declared.message.Part.{Part}
use Rattle.occ_machine.specs.Compiled.{IsCompiled, Program}
use Rattle.occ_machine.specs.SameStop.{ready_with}
use Rattle.occ_machine.specs.declared.task.Task.{Task}
use Rattle.occ_proc.specs.Turns.{standing_at}
use Rattle.std.specs.Prelude.{slice_get, ◌%◌}
use Rattle.occ_live_laws.specs.Live.{StaysWithin, with_more}
use Rattle.occ_live_laws.proofs.Live.{more_bytes, within_replays}
use Rattle.occ_live_laws.proofs.Shown.{settled_says}
use Rattle.occ_net_replay.specs.declared.choice.Choice.{Choice}
use Rattle.occ_net_replay.specs.Following.{AreBytes, or_limit}
use Rattle.occ_net_replay.specs.Replay.{Net, Replays, ending_of, first_net, ready_from, selected_process}
use Rattle.occ_net_replay.proofs.Law.{replays_are_runs}
use Rattle.occ_net_tables.specs.Halves.{LooksPastBytes, StaysWithinBytes, with_used}
use Rattle.occ_net_tables.specs.TracePlaces.{Place}
use Rattle.occ_net_tables.specs.Holding.{Holds, HoldsFirst, trace_in}
use Rattle.occ_net_tables.specs.Outcomes.{Begins}
use Rattle.occ_files.specs.Reading.{ReadsNext, reader_of}
use Rattle.occ_files.specs.declared.reader.CountedReader.{CountedReader}
use Rattle.occ_net_tables.specs.Rows.{HasTakenTurn, SettlesEnd}
use Rattle.occ_net_tables.specs.Settling.{Standing, TurnsTo}
use Rattle.occ_net_tables.specs.declared.tables.Tables.{Tables}
use Rattle.occ_net_tables.specs.declared.turning.Begun.{Begun}
use Rattle.occ_net_tables.proofs.Halves.{began_with, has_taken, has_turned, held_before, left_here, stays_as_turn, stays_where_some}
use Rattle.occ_shown.specs.Answers.{AreByteMessages, channel_bytes}
use Rattle.occ_shown.specs.Counting.{AppendsTo, writer_of}
use Rattle.occ_shown.specs.declared.counted.Counted.{Counted}
use Rattle.occ_shown.proofs.Growth.{Appends-join, Appends-none}
use Rattle.occ_shown.proofs.ByteMessages.{outputs_are_bytes}
use Rattle.occ_live.specs.declared.fault.LiveFault.{LiveFault}
use Rattle.occ_live.specs.declared.fault.LiveFault.TheVariants as fails
use Rattle.occ_live.specs.declared.living.Lived.{Lived}
use Rattle.occ_live.specs.Living.{EndedSo, FailsBehind, FailsLive, FailsWhereDue, HasBegun, HasCome, HasHeard, HasShown, IsDue, IsLive, IsMarked, LiveRun, MarksStart, StandsLive, TellsWrite, WroteSome, gets_more, meets_end, starts, takes_turn}
use Rattle.occ_live.proofs.Runs.{live_begins, live_replays, live_within}
use Rattle.occ_live.proofs.Shown.{bytes_behind}

-- ---- bytes behind those that were read

behind : (xs ys : List ℕ) → drop (length xs) (xs ++ ys) ≡ ys
behind [] ys = refl
behind (x ∷ xs) ys = behind xs ys

none_behind : (xs : List ℕ) → drop (length xs) xs ≡ []
none_behind [] = refl
none_behind (x ∷ xs) = none_behind xs

holds_more : (p : Program) (read more : List ℕ) (n : Tables) (net : Net) → Holds p read n net → net.keyboard ≡ [] → Holds p (read ++ more) (with_used n (length read)) (with_more more net)
holds_more p read more n net h none = record { tasks = h.tasks; bytes = ap (λ l. l ++ more) none ∙ sym (behind read more); trace = h.trace; sound = h.sound; sized = h.sized }

holds_all : (p : Program) (read : List ℕ) (n : Tables) (net : Net) → Holds p read n net → net.keyboard ≡ [] → Holds p read (with_used n (length read)) net
holds_all p read n net h none = record { tasks = h.tasks; bytes = none ∙ sym (none_behind read); trace = h.trace; sound = h.sound; sized = h.sized }

some_more : (read more : List ℕ) → length read < length (read ++ more) → 0 < length more
some_more read more less = omega (arith, less, length-append read more)

module _ (p : Program) (list : List Choice) (read : List ℕ) (is_open : Bool) (kept : List Choice) (choice : Choice) (begun : Begun) (items : List Part) (n : Tables) (x : HasBegun p list read is_open kept choice begun items n) where
  abbrev pub its : StandsLive p list read is_open kept x.old
  its = x.from.stands

  pub trace_is : its.net.trace ≡ trace_in n
  trace_is = its.holds.trace ∙ ap (λ z. trace_in z) (sym x.began.others)

  -- nothing was read, since the keyboard has no more, or the turn stays within
  pub heard_same : (IsTrue is_open → StaysWithinBytes read n begun choice.pick) → HasHeard p list read is_open kept choice begun items n
  heard_same stays = record { begun_so = x; stays = stays }

  module _ (still : IsTrue is_open) (asks : LooksPastBytes read n begun choice.pick) where
    abbrev stopped : Task
    stopped = ready_with x.began.left (standing_at begun.end items x.began.left.wait)

    past : StaysWithin choice.pick its.net begun.number stopped → ⊥
    past = asks p x.began.first x.began.left items its.net (held_before p read choice x.old begun items n x.began its.net its.holds) x.began.may (left_here p read choice x.old begun items n x.began)

    none_left : its.net.keyboard ≡ []
    none_left = by its.net.keyboard refl
      where
        by : (l : List ℕ) → its.net.keyboard ≡ l → its.net.keyboard ≡ []
        by [] e = e
        by (b ∷ bs) e = absurd (past (λ none. let never : b ∷ bs ≡ [] = sym e ∙ none in absurd cc))

    selects : selected_process (ready_from 0 its.net.tasks) choice.which ≡ Some begun.number
    selects =
        let ready : x.old.ready.items ≡ ready_from 0 its.net.tasks = its.holds.sound.ready_is ∙ ap (ready_from 0) (sym its.holds.tasks) in
        sym (ap (λ (l : List ℕ). slice_get l (choice.which % length l)) ready) ∙ ap (slice_get x.old.ready.items) (sym x.began.selects) ∙ x.began.turn.at

    due : IsDue p list kept its.net
    due = record {
      choice = choice;
      next = x.from.next;
      going = x.from.going;
      looks = record {
        number = begun.number;
        body = x.began.turn.body;
        before = x.began.turn.before;
        after = stopped;
        selects = selects;
        has_body = x.began.turn.has_body;
        has_task = ap (λ l. slice_get l begun.number) its.holds.tasks ∙ x.began.turn.there;
        stops = x.began.turn.stops;
        past = past;
      };
    }

    was_open : LiveRun p list read true kept its.net
    was_open = subst (λ o. LiveRun p list read o kept its.net) still its.run

    pub fails_due : (fault : LiveFault) → FailsWhereDue p list is_open kept its.net fault
    fails_due (fails.Read reason) = (still, due)
    fails_due fails.Write = tt
    fails_due fails.Memory = tt

    -- more was read
    heard_more : (longer more : List ℕ) → AreBytes longer → longer ≡ read ++ more → length read < length longer → HasHeard p list longer true kept choice begun items (with_used n (length read))
    heard_more longer more are e less =
        let some : 0 < length more = some_more read more (subst (λ (l : List ℕ). length read < length l) e less) in
        record {
          begun_so = record {
            old = with_used x.old (length read);
            from = record {
              stands = record {
                net = with_more more its.net;
                bytes = are;
                run = subst (λ l. LiveRun p list l true kept (with_more more its.net)) (sym e) (gets_more was_open due more some);
                holds = subst (λ l. Holds p l (with_used x.old (length read)) (with_more more its.net)) (sym e) (holds_more p read more x.old its.net its.holds none_left);
              };
              few = x.from.few;
              next = x.from.next;
              going = x.from.going;
            };
            began = began_with p read choice x.old begun items n x.began (length read);
          };
          stays = λ o. stays_where_some longer (with_used n (length read)) begun choice.pick less;
        }

    -- the keyboard was at its end
    heard_end : (longer : List ℕ) → longer ≡ read → HasHeard p list longer false kept choice begun items (with_used n (length read))
    heard_end longer e =
        subst (λ l. HasHeard p list l false kept choice begun items (with_used n (length read))) (sym e)
        (record {
          begun_so = record {
            old = with_used x.old (length read);
            from = record {
              stands = record { net = its.net; bytes = its.bytes; run = meets_end was_open due; holds = holds_all p read x.old its.net its.holds none_left };
              few = x.from.few;
              next = x.from.next;
              going = x.from.going;
            };
            began = began_with p read choice x.old begun items n x.began (length read);
          };
          stays = λ o. absurd (true≢false (sym o));
        })

    -- whatever the reader gave
    pub heard_by : (some : Bool) (longer : List ℕ) → AreBytes longer → (more : List ℕ) → longer ≡ read ++ more → (IsTrue some → length read < length longer) → (IsFalse some → longer ≡ read) → HasHeard p list longer some kept choice begun items (with_used n (length read))
    heard_by true longer are more e less same = heard_more longer more are e (less refl)
    heard_by false longer are more e less same = heard_end longer (same refl)

-- nobody reads to write
pub never_due : {W : Type 0} (old new : Counted W) (p : Program) (list : List Choice) (is_open : Bool) (used : List Choice) (net : Net) (fault : LiveFault) → TellsWrite old new fault → FailsWhereDue p list is_open used net fault
never_due old new p list is_open used net (fails.Read reason) t = absurd t
never_due old new p list is_open used net fails.Write t = tt
never_due old new p list is_open used net fails.Memory t = tt

-- ---- what the screen gets are bytes

pub these_are_bytes : (xs : List ℕ) → ((i : ℕ) → get_or xs i 0 < 256) → AreBytes xs
these_are_bytes [] h = tt
these_are_bytes (x ∷ xs) h = (h 0, these_are_bytes xs (λ i. h (suc i)))

pub are_bytes : (xs : List ℕ) → ((i d : ℕ) → i < length xs → get_or xs i d < 256) → AreBytes xs
are_bytes [] h = tt
are_bytes (x ∷ xs) h = (h 0 0 (omega arith), are_bytes xs (λ i d l. h (suc i) d (omega (arith, l))))

pub screen_has_bytes : (p : Program) (read : List ℕ) (kept : List Choice) (net : Net) (trace : List Communication) → IsCompiled p → AreBytes read → length kept < 2 ^ 64 → Replays p read kept net → net.trace ≡ trace → AreByteMessages 1 trace
screen_has_bytes p read kept net trace c bytes few r e =
    (outputs_are_bytes c.source c.quantum read net trace c.well_formed (replays_are_runs c.source p c.quantum read kept net c.well_formed c.lawful c.compiled bytes few r) e).0

-- ---- the end of a turn

module _ (p : Program) (list : List Choice) (read : List ℕ) (is_open : Bool) (kept : List Choice) (choice : Choice) (begun : Begun) (items : List Part) (n : Tables) (h : HasHeard p list read is_open kept choice begun items n) where
  abbrev x : HasBegun p list read is_open kept choice begun items n
  x = h.begun_so

  abbrev s : StandsLive p list read is_open kept x.old
  s = x.from.stands

  stood : Standing p read x.old
  stood = record { choices = kept; few = x.from.few; net = s.net; replays = live_replays p list read is_open kept s.net s.run; open_end = x.from.going; holds = s.holds }

  pub taken : HasTakenTurn p read n begun.place begun.number begun.end items
  taken = has_taken p read choice x.old begun items n x.began stood

  module _ (new : Tables) (settles : SettlesEnd p read begun.place begun.number begun.end items choice.pick n new) where
    turned : TurnsTo p read choice s.net new
    turned = has_turned p read choice x.old begun items n x.began stood new settles s.net s.holds

    pub stands_on : (after : List Choice) → after ≡ kept ++ choice ∷ [] → StandsLive p list read is_open after new
    stands_on after e =
        subst (λ cs. StandsLive p list read is_open cs new) (sym e)
        (record {
          net = turned.next;
          bytes = s.bytes;
          run = takes_turn s.run x.from.next x.from.going turned.turn (λ o. stays_as_turn p read choice x.old begun items n x.began s.net s.holds turned.next turned.turn (h.stays o));
          holds = turned.holds;
        })

    pub trace_on : (more : List Communication) × (trace_in new ≡ trace_in n ++ more)
    trace_on =
        let y = settled_says turned.turn.settles in
        (y.0, sym turned.holds.trace ∙ y.1 ∙ ap (λ l. l ++ y.0) (trace_is p list read is_open kept choice begun items n x))

-- ---- the run

nothing_read : (k : Option (List ℕ)) (bytes : List ℕ) → bytes ≡ [] → Consumes k k bytes
nothing_read None bytes e = tt
nothing_read (Some xs) bytes e = ap (λ (l : List ℕ). l ++ xs) (sym e)

pub read_nothing : {K : Type 0} (remaining : K → Option (List ℕ)) (keys : CountedReader K) (bytes : List ℕ) → bytes ≡ [] → ReadsNext remaining keys keys bytes
read_nothing remaining keys bytes e = nothing_read (remaining (reader_of keys)) bytes e

pub starts_live : (p : Program) (list : List Choice) (read : List ℕ) (n : Tables) → read ≡ [] → HoldsFirst p n → StandsLive p list read true [] n
starts_live p list read n e h = subst (λ l. StandsLive p list l true [] n) (sym e) (record { net = first_net p []; bytes = tt; run = starts; holds = h [] })

pub shows_nothing : {W : Type 0} (contents : W → Option (List ℕ)) (out : Counted W) (mark : Place) (trace : List Communication) → MarksStart mark → HasShown contents out out mark trace
shows_nothing contents out mark trace m = record { before = []; behind = trace; are = refl; place = m; written = Appends-none (contents (writer_of out)) }

pub is_marked : {W : Type 0} (contents : W → Option (List ℕ)) (first out : Counted W) (mark : Place) (trace : List Communication) → HasShown contents first out mark trace → IsMarked mark trace
is_marked contents first out mark trace h = record { before = h.before; behind = h.behind; are = h.are; place = h.place }

module _ (p : Program) (list : List Choice) (read : List ℕ) (is_open : Bool) (kept : List Choice) (n : Tables) (s : StandsLive p list read is_open kept n) where
  pub has_come : (bytes : List ℕ) (cs : List Choice) → bytes ≡ read → cs ≡ kept → length cs < 2 ^ 64 → HasCome p bytes cs n
  has_come bytes cs e f few =
      subst (λ l. HasCome p l cs n) (sym e)
      (record { net = s.net; few = few; replays = subst (λ l. Replays p read l s.net) (sym f) (live_replays p list read is_open kept s.net s.run); holds = s.holds })

  begins_list : Begins kept list
  begins_list = live_begins p list read is_open kept s.net s.run

  pub fails_live : {W : Type 0} (contents : W → Option (List ℕ)) (first out now : Counted W) (mark : Place) (fault : LiveFault) → TellsWrite out now fault → HasShown contents first out mark (trace_in n) → FailsBehind contents out mark (trace_in n) now fault → FailsLive contents p read list first now fault
  fails_live contents first out now mark fault told shown part =
      record {
        is_open = is_open;
        used = kept;
        net = s.net;
        run = s.run;
        due = never_due out now p list is_open kept s.net fault told;
        wrote = subst (λ t. WroteSome contents first now t fault) (sym s.holds.trace) (part first shown);
      }

  module _ {W : Type 0} (contents : W → Option (List ℕ)) (first out now : Counted W) (mark : Place) (ending : Ending) (lived : Lived) (x : EndedSo contents out mark (trace_in n) kept ending is_open now lived) where
    module _ (same : ending ≡ or_limit (ending_of p.errors s.net)) (whole : ending_of p.errors s.net ≡ None → kept ≡ list) where
      pub is_live : IsLive p read list lived
      is_live =
          record {
            bytes = s.bytes;
            is = record {
              net = s.net;
              replays = subst (λ cs. Replays p read cs s.net) (sym x.choices) (live_replays p list read is_open kept s.net s.run);
              trace = s.holds.trace ∙ sym x.trace_is;
              used = subst (λ cs. Begins cs list) (sym x.choices) begins_list;
              ending = x.ending_is ∙ same;
              whole = λ e. x.choices ∙ whole e;
            };
            run = subst (λ cs. LiveRun p list read lived.is_open cs s.net) (sym x.choices) (subst (λ o. LiveRun p list read o kept s.net) (sym x.open_is) s.run);
            for_more = λ o more.
                let still : IsTrue is_open = sym x.open_is ∙ o in
                let within = more_bytes p read more kept s.net (live_within p list read is_open kept s.net s.run still) in
                record {
                  net = with_more more s.net;
                  replays = subst (λ cs. Replays p (read ++ more) cs (with_more more s.net)) (sym x.choices) (within_replays p (read ++ more) kept (with_more more s.net) within);
                  trace = s.holds.trace ∙ sym x.trace_is;
                  used = subst (λ cs. Begins cs list) (sym x.choices) begins_list;
                  ending = x.ending_is ∙ same;
                  whole = λ e. x.choices ∙ whole e;
                };
          }

    pub all_written : HasShown contents first out mark (trace_in n) → AppendsTo contents first now (channel_bytes 1 lived.outcome.trace)
    all_written h =
        let all : channel_bytes 1 h.before ++ channel_bytes 1 h.behind ≡ channel_bytes 1 lived.outcome.trace = sym (bytes_behind 1 h.before h.behind) ∙ ap (channel_bytes 1) (sym h.are ∙ sym x.trace_is) in
        subst (AppendsTo contents first now) all (Appends-join _ _ _ _ _ h.written (x.shown h.before h.behind h.are h.place))
