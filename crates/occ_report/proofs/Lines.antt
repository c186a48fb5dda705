-- The lines of processes, one after the other.
use Rattle.std.proofs.Common.{◌≡◌, ◌∙◌, Bool, false, refl, nat_eq, ◌++◌, ◌∷◌, ◌+◌, ℕ, List, [], length, suc, ap, sym, subst, append_assoc, arith}
use Rattle.std.specs.Prelude.{codes, if◌then◌else◌, slice_get, min}
use Rattle.occ_machine.specs.Compiled.{Program}
use Rattle.occ_net_replay.specs.declared.choice.Choice.{Choice}
use Rattle.occ_net_replay.specs.Replay.{Net}
use Rattle.occ_net_replay.specs.Following.{or_limit}
use Rattle.occ_term.specs.declared.ending.Ending.TheVariants.{Limit}
use Rattle.occ_net_tables.specs.Holding.{HeldBy, Holds}
use Rattle.occ_net_tables.specs.Outcomes.{IsRan}
use Rattle.occ_net_tables.specs.declared.running.Keep.TheVariants.{Given}
use Rattle.occ_net_tables.specs.declared.running.Ran.{Ran}
use Rattle.occ_net_tables.proofs.Placing.{placed_replays}
use Rattle.occ_term.specs.declared.communication.Communication.{Communication}
use Rattle.occ_shown.specs.Answers.{names_of}
use Rattle.occ_term.specs.Runs.{Names}
use Rattle.occ_term.specs.Terms.{Term}
use Rattle.occ_ends.specs.declared.ends.Ends.{Ends}
use Rattle.occ_ends.specs.declared.kinds.Left.{Left}
use Rattle.occ_ends.specs.Ends.{AreEnds, Using, all_using}
use Rattle.occ_ends.specs.Endless.{HeldIn}
use Rattle.occ_ends.specs.ForGood.{AreWaiting}
use Rattle.occ_ends.specs.Kinds.{IsRest}
use Rattle.occ_net_replay.specs.Replay.{Tasks}
use Rattle.occ_report.specs.Places.{Known}
use Rattle.occ_machine.specs.Machine.{Body}
use Rattle.occ_term.specs.declared.names.Cell.{Cell}
use Rattle.occ_text.specs.Words.{LogicalLine}
use Rattle.occ_report.specs.Reports.{AreItsLines, ended_among, ended_line, for_good_text, those_line, IsCircleOf, IsReport, Noted, choosing_among, circle_text, kind_told, report_head, task_lines, task_line, told_of, task_chooses}

-- a loop's step: the lines so far, and that of one more process
pub lines_step : (names : Names) (readers writers : Noted) (source : List ℕ) (ls : List LogicalLine) (cells : List Cell) (bodies : List Body) (known : List Known) (tasks : Tasks) (n : ℕ) (start before after : List ℕ)
    → before ≡ start ++ task_lines names readers writers source ls cells bodies known tasks n → after ≡ before ++ task_line names readers writers source ls cells bodies known n (slice_get tasks n)
    → after ≡ start ++ task_lines names readers writers source ls cells bodies known tasks (n + 1)
lines_step names readers writers source ls cells bodies known tasks n start before after e f =
    let next : n + 1 ≡ suc n = omega arith in
    let more = task_line names readers writers source ls cells bodies known n (slice_get tasks n) in
    f ∙ ap (λ l. l ++ more) e
    ∙ append_assoc start (task_lines names readers writers source ls cells bodies known tasks n) more
    ∙ sym (ap (λ k. start ++ task_lines names readers writers source ls cells bodies known tasks k) next)

-- a loop's step: those that choose so far, and one more process
pub choosing_step : (tasks : Tasks) (n : ℕ) (others before after all : List ℕ) → after ≡ before ++ (if task_chooses (slice_get tasks n) then n ∷ [] else [])
    → before ++ choosing_among tasks (n ∷ others) ≡ all → after ++ choosing_among tasks others ≡ all
choosing_step tasks n others before after all e h =
    ap (λ l. l ++ choosing_among tasks others) e ∙ append_assoc before (if task_chooses (slice_get tasks n) then n ∷ [] else []) (choosing_among tasks others) ∙ h

-- some are told
pub told_for_good : (ns : List ℕ) (none : Bool) → none ≡ false → none ≡ nat_eq (length ns) 0
    → those_line (codes "for good:") ns (codes " waits, whatever choices follow\n") (codes " wait, whatever choices follow\n") ≡ for_good_text ns
told_for_good [] none e h = absurd cc
told_for_good (n ∷ ns) none e h = refl

-- what is written of the tables that a run leaves is its report
pub report_is : (us : List Using) (t : Term) (p : Program) (kb : List ℕ) (list : List Choice) (known : List Known) (source : List ℕ) (ls : List LogicalLine) (cells : List Cell) (r : Ran) (h : IsRan p kb list Given r)
    (trace : List Communication) (n : ℕ) → ((k : List ℕ) (net : Net) → Holds p k r.tables net → net.trace ≡ trace) → n ≡ length trace
    → (start first head bytes : List ℕ) (processes count : ℕ) (left : Left) (waiting : List ℕ) → start ≡ [] → first ≡ start ++ kind_told r.ending left waiting → head ≡ first ++ report_head n r.ending → count ≡ min processes 4294967295
    → us ≡ all_using t → (ends : Ends) → HeldBy r.tables (λ net. AreEnds us net.tasks (length p.channels) ends)
    → HeldIn p r.tables (λ net. IsRest us p net.tasks left)
    → (r.ending ≡ Limit → HeldIn p r.tables (λ net. AreWaiting us net.tasks waiting))
    → (middle : List ℕ) → ((q : Program) (k : List ℕ) (net : Net) → Holds q k r.tables net → middle ≡ head ++ task_lines (names_of p.channels) ends.readers.items ends.writers.items source ls cells p.bodies known net.tasks count)
    → (later : List ℕ) → HeldBy r.tables (λ net. later ≡ middle ++ ended_line (ended_among net.tasks count))
    → HeldBy r.tables (λ net. bytes ≡ later ++ circle_text net.tasks left.circle.items) → processes ≡ length p.bodies → AreItsLines source ls → IsReport t p kb list known source cells bytes
report_is us t p kb list known source ls cells r h trace n shows counted start first head bytes processes count left waiting none begun starts least is ends are is_left are_waiting middle lines later counts last all its =
    let kind : first ≡ kind_told r.ending left waiting = rw none at begun in
    let begins : head ≡ kind_told r.ending left waiting ++ report_head n r.ending = starts ∙ ap (λ l. l ++ report_head n r.ending) kind in
    let net = h.run.net in
    let many : length net.tasks ≡ length p.bodies = ap length h.run.holds.tasks ∙ h.run.holds.sized.tasks_are in
    let made : n ≡ length net.trace = counted ∙ sym (ap length (shows kb net h.run.holds)) in
    let told : count ≡ told_of net.tasks = least ∙ ap (λ m. min m 4294967295) (all ∙ sym many) in
    let text = task_lines (names_of p.channels) ends.readers.items ends.writers.items source ls cells p.bodies known net.tasks count in
    let whole : bytes ≡ kind_told r.ending left waiting ++ report_head n r.ending ++ text ++ ended_line (ended_among net.tasks count) ++ circle_text net.tasks left.circle.items =
    last p kb net h.run.holds
    ∙ ap (λ l. l ++ circle_text net.tasks left.circle.items)
    (counts p kb net h.run.holds ∙ ap (λ l. l ++ ended_line (ended_among net.tasks count)) (lines p kb net h.run.holds ∙ ap (λ l. l ++ text) begins)) in
    record {
      used = h.given;
      net = net;
      replays = placed_replays p kb h.run.placed;
      begins = h.used;
      whole = h.whole;
      ends = ends;
      are_ends = subst (λ l. AreEnds l net.tasks (length p.channels) ends) is (are p kb net h.run.holds);
      left = left;
      is_left = subst (λ l. IsRest l p net.tasks left) is (is_left kb net h.run.holds);
      waiting = waiting;
      are_waiting = λ none. subst (λ l. AreWaiting l net.tasks waiting) is (are_waiting (h.ending ∙ ap or_limit none) kb net h.run.holds);
      lines = ls;
      are_lines = its;
      is = rw (sym told, sym made, sym h.ending) whole;
    }

-- of the tables that a run leaves
pub circle_is : (us : List Using) (t : Term) (p : Program) (kb : List ℕ) (list : List Choice) (r : Ran) (h : IsRan p kb list Given r) (left : Left) → us ≡ all_using t
    → HeldIn p r.tables (λ net. IsRest us p net.tasks left) → IsCircleOf t p kb list left.circle.items
circle_is us t p kb list r h left is is_left =
    let net = h.run.net in
    record {
      used = h.given;
      net = net;
      replays = placed_replays p kb h.run.placed;
      begins = h.used;
      whole = h.whole;
      tells = (subst (λ l. IsRest l p net.tasks left) is (is_left kb net h.run.holds)).circle;
    }
