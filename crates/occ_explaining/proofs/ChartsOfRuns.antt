-- The chart of a replay is that of a run.
use Rattle.std.proofs.Common.{◌≡◌, ◌∙◌, ◌++◌, ◌+◌, ◌<◌, ◌^◌, Bool, ℕ, List, [], ◌∷◌, length, map, min, suc, ap, subst, sym, arith}
use Rattle.std.specs.Prelude.{get_or, slice_get}
use Rattle.occ_chart.specs.declared.part.Part.{Part}
use Rattle.occ_chart.specs.Charts.{IsChart}
use Rattle.occ_chart.specs.Columns.{Footing}
use Rattle.occ_explaining.specs.Charting.{IsReplayChart, IsRunChart, feet, feet_of, foot_in}
use Rattle.occ_machine.specs.Compiled.{Program}
use Rattle.occ_net_replay.specs.declared.choice.Choice.{Choice}
use Rattle.occ_net_replay.specs.Following.{AreBytes}
use Rattle.occ_net_replay.specs.Replay.{Net, Tasks}
use Rattle.occ_net_replay.proofs.Law.{replays_are_runs}
use Rattle.occ_net_tables.specs.Holding.{Holds}
use Rattle.occ_net_tables.specs.Outcomes.{IsRan}
use Rattle.occ_net_tables.specs.declared.running.Keep.TheVariants.{Given}
use Rattle.occ_net_tables.specs.declared.running.Ran.{Ran}
use Rattle.occ_net_tables.proofs.Placing.{placed_replays}
use Rattle.occ_term.specs.declared.communication.Communication.{Communication}
use Rattle.occ_play.specs.declared.playing.Options.{Options}
use Rattle.occ_play.specs.Playing.{IsTextsCode}
use Rattle.occ_shown.specs.Answers.{names_of}
use Rattle.occ_term.specs.Runs.{Names, entries}

-- the bytes of a keyboard
pub are_bytes : (kb : List ℕ) → ((k : ℕ) → get_or kb k 0 < 256) → AreBytes kb
are_bytes [] h = tt
are_bytes (b ∷ bs) h = (h 0, are_bytes bs (λ k. h (suc k)))

-- a loop's step: those so far, and one more process
pub feet_step : (names : Names) (tasks : Tasks) (n : ℕ) (before after : List Footing)
    → before ≡ feet_of names tasks n → after ≡ before ++ foot_in names n (slice_get tasks n) → after ≡ feet_of names tasks (n + 1)
feet_step names tasks n before after e f =
    let next : n + 1 ≡ suc n = omega arith in
    f ∙ ap (λ l. l ++ foot_in names n (slice_get tasks n)) e ∙ sym (ap (feet_of names tasks) next)

-- what is drawn of the tables that a run leaves is the chart of its replay
pub replay_chart : (p : Program) (kb : List ℕ) (list : List Choice) (left : List Bool) (part : Part) (names : List (List ℕ)) (circle : List ℕ) (r : Ran) (h : IsRan p kb list Given r) → length r.kept.items < 2 ^ 64
    → (trace : List Communication) → ((k : List ℕ) (net : Net) → Holds p k r.tables net → net.trace ≡ trace)
    → (ss : List Footing) (count processes : ℕ) → count ≡ min processes 4294967295 → processes ≡ length p.bodies
    → ((q : Program) (k : List ℕ) (net : Net) → Holds q k r.tables net → ss ≡ feet_of (names_of p.channels) net.tasks count)
    → (bytes : List ℕ) → IsChart (entries (names_of p.channels) 1 trace) left part r.ending names ss circle bytes
    → IsReplayChart p kb list left part names circle bytes
replay_chart p kb list left part names circle r h small trace shows ss count processes least all stand bytes drawn =
    let net = h.run.net in
    let many : length net.tasks ≡ length p.bodies = ap length h.run.holds.tasks ∙ h.run.holds.sized.tasks_are in
    let told : count ≡ min (length net.tasks) 4294967295 = least ∙ ap (λ m. min m 4294967295) (all ∙ sym many) in
    let same : trace ≡ net.trace = sym (shows kb net h.run.holds) in
    let who : ss ≡ feet (names_of p.channels) net.tasks = stand p kb net h.run.holds ∙ ap (feet_of (names_of p.channels) net.tasks) told in
    record {
      used = h.given;
      net = net;
      replays = placed_replays p kb h.run.placed;
      few = subst (λ (cs : List Choice). length cs < 2 ^ 64) h.run.kept_is small;
      begins = h.used;
      whole = h.whole;
      is = rw (sym same, sym h.ending, sym who) drawn;
    }

-- and of the run that goes with it
pub run_chart : (options : Options) (source keyboard : List ℕ) (list : List Choice) (left : List Bool) (part : Part) (names : List (List ℕ)) (circle bytes : List ℕ) (p : Program)
    → IsTextsCode options source p → AreBytes keyboard → IsReplayChart p keyboard list left part names circle bytes → IsRunChart options source keyboard list left part names circle bytes
run_chart options source keyboard list left part names circle bytes p text keys chart =
    let u = text.program in
    let run = replays_are_runs u p options.quantum keyboard chart.used chart.net text.unfolds.well_formed text.lawful text.from.does keys chart.few chart.replays in
    record {
      code = p;
      text = text;
      used = chart.used;
      net = chart.net;
      replays = chart.replays;
      begins = chart.begins;
      whole = chart.whole;
      run = run;
      is = rw (run.communicates, sym text.from.does.channels) chart.is;
    }
