-- What a network keeps, over a start, a turn and a refused growth.
use Rattle.std.proofs.Common.{◌≡◌, ◌∙◌, refl, sym, ap, subst, false, ℕ, suc, get_or, ◌+◌, ◌<◌, ◌^◌, List, [], ◌∷◌, ◌++◌, Some, None, length, arith, length-append, lit<}
use Rattle.std.specs.Prelude.{replicate, slice_get, slice_set}
use Rattle.std.proofs.Math.Nat.{mod-eq_of_lt}
use Rattle.std.proofs.lemmas.Option.{slice_get_within}
use Rattle.occ_machine.specs.Compiled.{Program, IsCompiled}
use Rattle.occ_machine.specs.Machine.{Body, Stopping}
use Rattle.occ_machine.specs.declared.task.Task.{Task}
use Rattle.occ_proc.specs.Turns.{Taken}
use Rattle.occ_net_replay.specs.declared.choice.Choice.{Choice}
use Rattle.occ_net_replay.specs.Following.{AreBytes}
use Rattle.occ_net_replay.specs.Replay.{HasTask, Net, ending_of, first_net, ready_from}
use Rattle.occ_net_replay.proofs.Same.{one_replay}
use Rattle.occ_net_tables.specs.declared.running.Keep.TheVariants.{Places}
use Rattle.occ_net_tables.specs.declared.tables.Tables.{Tables}
use Rattle.occ_net_tables.specs.Holding.{Holds}
use Rattle.occ_net_tables.specs.Places.{Placed, none_placed, one_placed, placed_among}
use Rattle.occ_net_tables.specs.Running.{HasRun}
use Rattle.occ_net_tables.specs.Settling.{IsTurnAt, Standing, TurnsTo}
use Rattle.occ_net_tables.proofs.OneChange.{set_length}
use Rattle.occ_net_tables.proofs.Placing.{places_placed, places_replay, placed_replays}
use Rattle.occ_net.specs.Networks.{Past, IsState, fresh}
use Rattle.occ_net.specs.Keeping.{KeepsReplay}
use Rattle.occ_net.specs.Settling.{IsOwn, CanSettle}

-- each byte of a keyboard is one
pub all_bytes : (kb : List ℕ) → ((i d : ℕ) → i < length kb → get_or kb i d < 256) → AreBytes kb
all_bytes [] h = tt
all_bytes (b ∷ bs) h = (h 0 0 (omega arith), all_bytes bs (λ i d l. h (suc i) d (omega (arith, l))))

-- two states of a network are one
pub one_state : (n : Past) → IsCompiled n.program → AreBytes n.keyboard → length n.choices < 2 ^ 64 → (a b : Net) → IsState n a → IsState n b → a ≡ b
one_state n c bytes few a b x y = one_replay c.source n.program c.quantum n.keyboard n.choices a b c.well_formed c.lawful c.compiled bytes few x y

-- tables that hold one state hold each
kept_by_one : (n : Past) (tables : Tables) (net : Net) → IsCompiled n.program → AreBytes n.keyboard → length n.choices < 2 ^ 64 → Placed n.program n.keyboard n.choices n.choices net → Holds n.program n.keyboard tables net → length n.out ≡ length n.program.bodies → KeepsReplay n tables
kept_by_one n tables net c bytes few places holds marked =
    record {
      net = net;
      places = places;
      holds = λ now s. subst (Holds n.program n.keyboard tables) (one_state n c bytes few net now (places_replay n.program n.keyboard places) s) holds;
      bytes = bytes;
      marked = marked;
    }

pub kept_fresh : (p : Program) (kb : List ℕ) (tables : Tables) → IsCompiled p → AreBytes kb → ((k : List ℕ) → Holds p k tables (first_net p k)) → length (replicate (length p.bodies) false) ≡ length p.bodies → KeepsReplay (fresh p kb) tables
kept_fresh p kb tables c bytes holds marked = kept_by_one (fresh p kb) tables (first_net p kb) c bytes (lit< tt) none_placed (holds kb) marked

-- ---- a turn

pub stands : (n : Past) (tables : Tables) (k : KeepsReplay n tables) → 1 + length n.choices < 2 ^ 64 → ending_of n.program.errors k.net ≡ None → Standing n.program n.keyboard tables
stands n tables k few going =
    let state = placed_replays n.program n.keyboard k.places in
    record { choices = n.choices; few = few; net = k.net; replays = state; open_end = going; holds = k.holds k.net state }

pub will_take : (n now : Past) (tables : Tables) (k : KeepsReplay n tables) → n ≡ now → (s : Taken) → ((net : Net) → IsState now net → CanSettle now net s) → CanSettle n k.net s
will_take n now tables k same s h =
    let state : IsState n k.net = placed_replays n.program n.keyboard k.places in
    subst (λ (m : Past). CanSettle m k.net s) (sym same) (h k.net (subst (λ (m : Past). IsState m k.net) same state))

-- the turn is one of the process at its place
pub turn_at : (n : Past) (net : Net) (s : Taken) (tables : Tables) → Holds n.program n.keyboard tables net → IsOwn n net s → (place : ℕ) (body : Body) (before after : Task)
    → slice_get (ready_from 0 net.tasks) place ≡ Some before.number → body ≡ s.body → before ≡ s.before → Stopping body before after → IsTurnAt n.program tables place before.number after
turn_at n net s tables h own place body before after at same_body same_before stops =
    record {
      body = body;
      before = before;
      at = ap (λ l. slice_get l place) (h.sound.ready_is ∙ ap (ready_from 0) (sym h.tasks)) ∙ at;
      has_body = ap (λ (t : Task). slice_get n.program.bodies t.number) same_before ∙ own.body ∙ ap (λ (b : Body). Some b) (sym same_body);
      there = ap (λ l. slice_get l before.number) (sym h.tasks) ∙ subst (λ (t : Task). HasTask net.tasks t.number t) (sym same_before) own.task;
      stops = stops;
    }

abbrev pub with_turn : Past → ℕ → ℕ → ℕ → Past
with_turn n place pick number = record n { choices = n.choices ++ record { which = place; pick = pick } ∷ []; out = slice_set n.out number false }

pub kept_turn : (n : Past) (old new : Tables) (k : KeepsReplay n old) → IsCompiled n.program → 1 + length n.choices < 2 ^ 64 → ending_of n.program.errors k.net ≡ None → (place pick number : ℕ) → slice_get (ready_from 0 k.net.tasks) place ≡ Some number
    → ((net : Net) (choice : Choice) → Holds n.program n.keyboard old net → place ≡ choice.which → pick ≡ choice.pick → TurnsTo n.program n.keyboard choice net new)
    → KeepsReplay (with_turn n place pick number) new
kept_turn n old new k compiled few going place pick number at turns =
    let choice : Choice = record { which = place; pick = pick } in
    let x = turns k.net choice (k.holds k.net (placed_replays n.program n.keyboard k.places)) refl refl in
    let own : placed_among (ready_from 0 k.net.tasks) choice ≡ choice = ap (λ (m : ℕ). record choice { which = m }) (mod-eq_of_lt (slice_get_within (ready_from 0 k.net.tasks) place number at)) in
    let fewer : length (n.choices ++ choice ∷ []) < 2 ^ 64 = omega (arith, few, length-append n.choices (choice ∷ [])) in
    kept_by_one (with_turn n place pick number) new x.next compiled k.bytes fewer
    (subst (λ (d : Choice). Placed n.program n.keyboard (n.choices ++ choice ∷ []) (n.choices ++ d ∷ []) x.next) own (one_placed k.places going x.turn)) x.holds (set_length n.out number false ∙ k.marked)

-- ---- a run

pub kept_run : (p : Program) (kb : List ℕ) (given kept : List Choice) (tables : Tables) → HasRun p kb Places given kept tables → IsCompiled p → AreBytes kb → length kept < 2 ^ 64 → length (replicate (length p.bodies) false) ≡ length p.bodies → KeepsReplay (record (fresh p kb) { choices = kept }) tables
kept_run p kb given kept tables h c bytes few marked =
    kept_by_one (record (fresh p kb) { choices = kept }) tables h.net c bytes few (subst (λ cs. Placed p kb cs cs h.net) (sym h.kept_is) (places_placed p kb h.placed)) h.holds marked
