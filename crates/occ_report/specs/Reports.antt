-- What is told of each process that is left.
-- Manual: nothing; this is (own).
use Rattle.std.specs.Prelude.{Bool, List, None, Option, Some, [], codes, false, if◌then◌else◌, length, min, slice_get, true, zero, suc, ℕ, ◌+◌, ◌++◌, ◌==◌, ◌≡◌, ◌∷◌, Vec, map, option_map}
use Rattle.std.specs.Fmt.{decimal}
use Rattle.occ_term.specs.Runs.{Names, tag_shown}
use Rattle.occ_term.specs.Terms.{Term}
use Rattle.occ_term.specs.declared.message.Message.{Message}
use Rattle.occ_machine.specs.declared.task.Arm.{Arm}
use Rattle.occ_machine.specs.declared.task.Task.{Task}
use Rattle.occ_machine.specs.declared.task.Wait.{Wait}
use Rattle.occ_machine.specs.declared.task.Wait.TheVariants.{Ready, Took, Offers, Awaits, Chooses, Joins, Halted, Done, Faulted}
use Rattle.occ_choices.specs.Plans.{choices_of}
use Rattle.occ_choices.specs.declared.plan.Plan.{Plan}
use Rattle.occ_machine.specs.Compiled.{Program}
use Rattle.occ_net_replay.specs.declared.choice.Choice.{Choice}
use Rattle.occ_term.specs.declared.ending.Ending.{Ending}
use Rattle.occ_term.specs.declared.ending.Ending.TheVariants as endings
use Rattle.occ_net_replay.specs.Following.{or_limit}
use Rattle.occ_term.specs.Endings.{ending_text}
use Rattle.occ_net_replay.specs.Replay.{Net, Replays, Tasks, ending_of, is_done}
use Rattle.occ_shown.specs.Answers.{AddsText, items_text, names_of}
use Rattle.occ_net_tables.specs.Outcomes.{Begins}
use Rattle.occ_ends.specs.declared.ends.Ends.{Ends}
use Rattle.occ_ends.specs.Ends.{AreEnds, all_using, noted_for}
use Rattle.occ_ends.specs.ForGood.{AreWaiting, AreWaitingIn}
use Rattle.occ_ends.specs.Kinds.{IsRest, TellsCircle, kind_of}
use Rattle.occ_ends.specs.declared.kinds.Kind.{Kind}
use Rattle.occ_ends.specs.declared.kinds.Kind.TheVariants as stops
use Rattle.occ_ends.specs.declared.kinds.Left.{Left}
use Rattle.occ_report.specs.declared.stop.Kind.{Kind as Place}
use Rattle.occ_report.specs.declared.stop.Kind.TheVariants as kinds
use Rattle.occ_report.specs.declared.stop.Stop.{Stop}
use Rattle.occ_report.specs.Calls.{calls_text}
use Rattle.occ_report.specs.Faults.{fault_told, read_text, variables_text}
use Rattle.occ_text.specs.Lines.{LinesOf}
use Rattle.occ_text.specs.Words.{LogicalLine, logical_lines}
use Rattle.occ_report.specs.Naming.{told_by}
use Rattle.occ_term.specs.Frames.{Variables}
use Rattle.occ_report.specs.Places.{Known, arm_opened, calls_of, name_of, stop_of, stops_of}
use Rattle.occ_report.specs.Written.{channel_told, written_at, written_in_arm}
use Rattle.occ_term.specs.UnfoldedProgram.{UnfoldedProgram}
use Rattle.occ_term.specs.declared.names.Cell.{Cell}
use Rattle.occ_machine.specs.Machine.{Body}
use Rattle.occ_term.specs.declared.names.Channel.{Channel}
use Rattle.occ_net_tables.specs.declared.tables.Tables.{Tables}
use Rattle.occ_net_tables.specs.Holding.{HeldBy}
use Rattle.occ_ends.specs.declared.uses.ProcessUses.{ProcessUses}
use Rattle.occ_report.specs.declared.standing.Ends.{Ends as Sides}
use Rattle.occ_report.specs.declared.standing.Spot.{Spot}
use Rattle.occ_report.specs.declared.naming.Naming.{Naming}
use Rattle.occ_report.specs.declared.process_lines.Told.{Told}

-- by channel: the process that may input from it, or that may output to it, of those that are left
abbrev pub Noted : Type 0
Noted = List (Option ℕ)

abbrev pub process_text : ℕ → List ℕ
process_text n = 112 ∷ decimal n

-- who reads a channel, or writes it, if anybody does; 0 is the keyboard, whose bytes are then used up
abbrev pub reader_text : Option (Option ℕ) → List ℕ
reader_text None = codes ", which nobody reads now"
reader_text (Some None) = codes ", which nobody reads now"
reader_text (Some (Some n)) = codes ", which " ++ process_text n ++ codes " reads"

abbrev pub writer_text : ℕ → Option (Option ℕ) → List ℕ
writer_text zero end = codes ", whose bytes are used up"
writer_text (suc c) None = codes ", which nobody writes now"
writer_text (suc c) (Some None) = codes ", which nobody writes now"
writer_text (suc c) (Some (Some n)) = codes ", which " ++ process_text n ++ codes " writes"

-- by the name that is written there
abbrev pub awaited_text : Names → Noted → (written : List ℕ) → ℕ → List ℕ
awaited_text names writers written c = codes "awaits " ++ channel_told names written c ++ writer_text c (slice_get writers c)

-- where the arm of this number of the ALT is opened that a process stands at, where that is known
abbrev pub arm_stop : List Stop → Option Stop → ℕ → Option Stop
arm_stop stops None n = None
arm_stop stops (Some alt) n = arm_opened stops alt n

-- an arm with SKIP has no channel
abbrev pub arm_channel_text : Names → (writers : Noted) → (written : List ℕ) → Option ℕ → List ℕ
arm_channel_text names writers written None = codes "; SKIP"
arm_channel_text names writers written (Some c) = codes "; " ++ awaited_text names writers written c

-- each arm by the name that its own line has
abbrev pub arms_text : Names → (writers : Noted) → (source : List ℕ) → List Stop → Option Stop → List Arm → List ℕ
arms_text names writers source stops stop [] = []
arms_text names writers source stops stop (a ∷ others) =
    arm_channel_text names writers (written_in_arm source (arm_stop stops stop a.number)) a.chan ++ arms_text names writers source stops stop others

abbrev pub branches_text : List ℕ → List ℕ
branches_text [] = []
branches_text (n ∷ ns) = 32 ∷ process_text n ++ branches_text ns

abbrev pub offer_text : Names → Noted → (written : List ℕ) → ℕ → Message → List ℕ
offer_text names readers written c m =
    codes "offers " ++ items_text (tag_shown names c m.tag) m.items ++ codes " on " ++ channel_told names written c ++ reader_text (slice_get readers c)

-- for what a process halted, by what stands in the source there
abbrev pub halting_text : Place → List ℕ
halting_text kinds.Stop = codes "halted by STOP"
halting_text kinds.If = codes "halted, since no condition of the IF is TRUE"
halting_text kinds.Case = codes "halted, since the CASE has no option for the value"
halting_text kinds.Variants = codes "halted, since no variant has the tag"
halting_text kinds.Alt = codes "halted, since every arm of the ALT is closed"
halting_text kinds.Output = codes "halted"
halting_text kinds.Input = codes "halted"
halting_text kinds.Arm = codes "halted"
halting_text kinds.Par = codes "halted"
halting_text kinds.Loop = codes "halted"

abbrev pub halted_text : Option Stop → List ℕ
halted_text None = codes "halted"
halted_text (Some s) = halting_text s.kind

-- what a process stands at, whose stops are these, and of whose stop this is known; at its end it is not left
abbrev pub standing_text : Names → (readers writers : Noted) → (source : List ℕ) → List Stop → Option Stop → Wait → Option (List ℕ)
standing_text names readers writers source stops stop Ready = Some (codes "can go on")
standing_text names readers writers source stops stop (Took arm indices m) = Some (codes "can go on")
standing_text names readers writers source stops stop (Offers c m) = Some (offer_text names readers (written_at source stop) c m)
standing_text names readers writers source stops stop (Awaits c) = Some (awaited_text names writers (written_at source stop) c)
standing_text names readers writers source stops stop (Chooses pri arms) = Some (codes "chooses" ++ arms_text names writers source stops stop arms)
standing_text names readers writers source stops stop (Joins ns) = Some (codes "waits for" ++ branches_text ns)
standing_text names readers writers source stops stop Halted = Some (halted_text stop)
standing_text names readers writers source stops stop Done = None
standing_text names readers writers source stops stop (Faulted e) = Some (ending_text (endings.Fault e))

-- the name of a PROC, where it is known
abbrev pub name_text : List ℕ → List ℕ
name_text [] = []
name_text (c ∷ cs) = 32 ∷ c ∷ cs

-- the line of a stop, where it is known
abbrev pub line_at_stop : Option Stop → Option ℕ
line_at_stop None = None
line_at_stop (Some s) = Some s.line

-- the line at which a process stands that waits so, where it is known
abbrev pub standing_line : Option Stop → Wait → Option ℕ
standing_line stop Ready = line_at_stop stop
standing_line stop (Took arm indices m) = line_at_stop stop
standing_line stop (Offers c m) = line_at_stop stop
standing_line stop (Awaits c) = line_at_stop stop
standing_line stop (Chooses pri arms) = line_at_stop stop
standing_line stop (Joins ns) = line_at_stop stop
standing_line stop Halted = line_at_stop stop
standing_line stop Done = line_at_stop stop
standing_line stop (Faulted e) = Some e.line

abbrev pub line_told : Option ℕ → List ℕ
line_told None = []
line_told (Some line) = codes ", line " ++ decimal line

abbrev pub on_line : ℕ → (name : List ℕ) → (line : Option ℕ) → Option (List ℕ) → List ℕ
on_line n name line None = []
on_line n name line (Some text) = codes "  " ++ process_text n ++ name_text name ++ line_told line ++ codes ": " ++ text ++ codes "\n"

-- what is told of a process, with its PROC and its line, as far as they are known
abbrev pub process_line : Names → (readers writers : Noted) → (source : List ℕ) → List Known → ℕ → Wait → Option Stop → List ℕ
process_line names readers writers source known n w stop = on_line n (name_of known n) (standing_line stop w) (standing_text names readers writers source (stops_of known n) stop w)

-- the calls within whose PROCs it stands, where they are known
abbrev pub calls_told : List Body → List Known → ℕ → Task → Option Stop → List ℕ
calls_told bodies known n t stop = calls_text (calls_of known n) bodies n stop t

abbrev pub lines_told_at : Names → (readers writers : Noted) → (source : List ℕ) → List LogicalLine → List Cell → List Body → List Known → ℕ → Task → Option Stop → List ℕ
lines_told_at names readers writers source lines cells bodies known n t stop =
    process_line names readers writers source known n t.wait stop ++ fault_told source lines (calls_of known n) cells bodies n t ++ calls_told bodies known n t stop

-- the line of a process, and those below it
abbrev pub lines_told : Names → (readers writers : Noted) → (source : List ℕ) → List LogicalLine → List Cell → List Body → List Known → ℕ → Task → List ℕ
lines_told names readers writers source lines cells bodies known n t = lines_told_at names readers writers source lines cells bodies known n t (stop_of known n t.wait t.pc)

abbrev pub task_line : Names → (readers writers : Noted) → (source : List ℕ) → List LogicalLine → List Cell → List Body → List Known → ℕ → Option (Option Task) → List ℕ
task_line names readers writers source lines cells bodies known n None = []
task_line names readers writers source lines cells bodies known n (Some None) = []
task_line names readers writers source lines cells bodies known n (Some (Some t)) = lines_told names readers writers source lines cells bodies known n t

-- the lines of the first so many processes
abbrev pub task_lines : Names → (readers writers : Noted) → (source : List ℕ) → List LogicalLine → List Cell → List Body → List Known → Tasks → ℕ → List ℕ
task_lines names readers writers source lines cells bodies known tasks zero = []
task_lines names readers writers source lines cells bodies known tasks (suc n) =
    task_lines names readers writers source lines cells bodies known tasks n ++ task_line names readers writers source lines cells bodies known n (slice_get tasks n)

-- how many of the first so many processes have ended
abbrev pub task_ended : Option (Option Task) → Bool
task_ended None = false
task_ended (Some None) = false
task_ended (Some (Some t)) = is_done t.wait

abbrev pub ended_among : Tasks → ℕ → ℕ
ended_among tasks zero = 0
ended_among tasks (suc n) = ended_among tasks n + (if task_ended (slice_get tasks n) then 1 else 0)

-- the line that counts them, where there are some
abbrev pub ended_line : ℕ → List ℕ
ended_line zero = []
ended_line (suc zero) = codes "  1 process has ended\n"
ended_line (suc (suc n)) = codes "  " ++ decimal (suc (suc n)) ++ codes " processes have ended\n"

-- how the report begins
unfoldable pub count_text : ℕ → List ℕ
count_text n = if n == 1 then codes "1 communication" else decimal n ++ codes " communications"

abbrev pub report_tail : Ending → List ℕ
report_tail endings.Ended = codes ":\n"
report_tail endings.Stopped = codes " no process can go on:\n"
report_tail (endings.StoppedBy e) = codes " no process can go on:\n"
report_tail (endings.Fault e) = codes ":\n"
report_tail endings.Limit = codes ":\n"

abbrev pub report_head : ℕ → Ending → List ℕ
report_head n e = codes "after " ++ count_text n ++ report_tail e

-- the first of two texts where there is one process, else the second
abbrev pub by_number : List ℕ → (one many : List ℕ) → List ℕ
by_number [] one many = many
by_number (n ∷ []) one many = one
by_number (n ∷ m ∷ ns) one many = many

abbrev pub those_line : (head : List ℕ) → List ℕ → (one many : List ℕ) → List ℕ
those_line head ns one many = head ++ branches_text ns ++ by_number ns one many

abbrev pub circling_line : List ℕ → List ℕ
circling_line ns = those_line (codes "circle:") ns (codes " waits for itself\n") (codes " wait for one another\n")

abbrev pub halted_line : List ℕ → List ℕ
halted_line ns = those_line (codes "halted:") ns (codes " was halted\n") (codes " were halted\n")

abbrev pub unfinished_line : List ℕ → List ℕ
unfinished_line ns = those_line (codes "unfinished:") ns (codes " was not at its end\n") (codes " were not at their ends\n")

-- what kind of stop it is, with the processes for which it is of that kind
abbrev pub line_of_kind : Kind → Left → List ℕ
line_of_kind stops.Circle left = circling_line left.circle.items
line_of_kind stops.Halted left = halted_line left.halted.items
line_of_kind stops.Unfinished left = unfinished_line left.unfinished.items
line_of_kind stops.Idle left = codes "idle: who waits at a channel is in an endless loop\n"

abbrev pub kind_line : Left → List ℕ
kind_line left = line_of_kind (kind_of left) left

-- processes that take no further turn where others may go on
abbrev pub for_good_text : List ℕ → List ℕ
for_good_text [] = []
for_good_text (n ∷ ns) = those_line (codes "for good:") (n ∷ ns) (codes " waits, whatever choices follow\n") (codes " wait, whatever choices follow\n")

-- of a stop its kind, and where the choices are used up those that wait for good
abbrev pub kind_told : Ending → Left → (waiting : List ℕ) → List ℕ
kind_told endings.Ended left waiting = []
kind_told endings.Stopped left waiting = kind_line left
kind_told (endings.StoppedBy e) left waiting = kind_line left
kind_told (endings.Fault e) left waiting = []
kind_told endings.Limit left waiting = for_good_text waiting

abbrev pub chooses : Wait → Bool
chooses Ready = false
chooses (Took arm indices m) = false
chooses (Offers c m) = false
chooses (Awaits c) = false
chooses (Chooses pri arms) = true
chooses (Joins ns) = false
chooses Halted = false
chooses Done = false
chooses (Faulted e) = false

abbrev pub task_chooses : Option (Option Task) → Bool
task_chooses None = false
task_chooses (Some None) = false
task_chooses (Some (Some t)) = chooses t.wait

-- those of these that choose
abbrev pub choosing_among : Tasks → List ℕ → List ℕ
choosing_among tasks [] = []
choosing_among tasks (n ∷ ns) = (if task_chooses (slice_get tasks n) then n ∷ [] else []) ++ choosing_among tasks ns

abbrev pub choosing_ones : List ℕ → List ℕ
choosing_ones [] = []
choosing_ones (n ∷ ns) = codes "," ++ branches_text (n ∷ ns) ++ by_number (n ∷ ns) (codes " by one of its arms") (codes " by one of their arms")

-- processes each of which waits for the next, and the last one for the first; some of them by one of several arms
abbrev pub ring_head : (choosing : List ℕ) → List ℕ
ring_head choosing = codes "  in a circle, each waits for the next" ++ choosing_ones choosing ++ codes ":"

abbrev pub ring_text : (choosing : List ℕ) → List ℕ → List ℕ
ring_text choosing [] = []
ring_text choosing (n ∷ ns) = ring_head choosing ++ branches_text (n ∷ ns) ++ codes "\n"

abbrev pub circle_text : Tasks → List ℕ → List ℕ
circle_text tasks ns = ring_text (choosing_among tasks ns) ns

-- the processes that are told of: all but for those whose number would be 2 to the 32 less 1, of which a program has none
abbrev pub told_of : Tasks → ℕ
told_of tasks = min (length tasks) 4294967295

-- of a state of a program's network, with who is at the ends of channels, the source, its logical lines and what is known of where its processes stand there,
-- and the program's cells and bodies
abbrev pub network_report : Names → (readers writers : Noted) → (source : List ℕ) → List LogicalLine → List Cell → List Body → List Known → Left → (waiting : List ℕ) → Net → Ending → List ℕ
network_report names readers writers source lines cells bodies known left waiting net e =
    kind_told e left waiting ++ report_head (length net.trace) e ++ task_lines names readers writers source lines cells bodies known net.tasks (told_of net.tasks) ++ ended_line (ended_among net.tasks (told_of net.tasks)) ++ circle_text net.tasks left.circle.items

-- the logical lines of a source, where it has any
abbrev pub AreItsLines : (source : List ℕ) → List LogicalLine → Type 0
AreItsLines source lines = (all : List LogicalLine) → LinesOf source all → lines ≡ all

-- The replay of the used choices, which are a beginning of the list, as a run of the list has it, and the report of its state: of what
-- kind a stop is, or, where the choices are used up, processes that take no turn whatever choices follow; each process that is left, who
-- is at the other ends of its channels by what the program's term uses, and where it stands in the source; of a fault, what was read; how
-- many have ended; and a circle of those that wait, where there is one.
pub record IsReport (t : Term) (p : Program) (keyboard : List ℕ) (list : List Choice) (known : List Known) (source : List ℕ) (cells : List Cell) (bytes : List ℕ) : Type 0 where
  pub used : List Choice
  pub net : Net
  pub replays : Replays p keyboard used net
  pub begins : Begins used list
  pub whole : ending_of p.errors net ≡ None → used ≡ list
  pub ends : Ends
  pub are_ends : AreEnds (all_using t) net.tasks (length p.channels) ends
  pub left : Left
  pub is_left : IsRest (all_using t) p net.tasks left
  pub waiting : List ℕ
  pub are_waiting : ending_of p.errors net ≡ None → AreWaiting (all_using t) net.tasks waiting
  pub lines : List LogicalLine
  pub are_lines : AreItsLines source lines
  pub is : bytes ≡ network_report (names_of p.channels) ends.readers.items ends.writers.items source lines cells p.bodies known left waiting net (or_limit (ending_of p.errors net))

-- Processes that wait in a circle in the state that the replay of the used choices comes to, where there are some.
pub record IsCircleOf (t : Term) (p : Program) (keyboard : List ℕ) (list : List Choice) (circle : List ℕ) : Type 0 where
  pub used : List Choice
  pub net : Net
  pub replays : Replays p keyboard used net
  pub begins : Begins used list
  pub whole : ending_of p.errors net ≡ None → used ≡ list
  pub tells : TellsCircle (all_using t) p net.tasks circle

-- ---- of what code has; private contracts alone cite these, but for the last two

abbrev pub reader_at : Noted → ℕ → List ℕ
reader_at readers c = reader_text (slice_get readers c)

abbrev pub writer_at : Noted → ℕ → List ℕ
writer_at writers c = writer_text c (slice_get writers c)

-- by the declared names
abbrev pub offer_told : List Channel → Noted → (written : List ℕ) → ℕ → Message → List ℕ
offer_told cs readers written c m = offer_text (names_of cs) readers written c m

abbrev pub awaited_told : List Channel → Noted → (written : List ℕ) → ℕ → List ℕ
awaited_told cs writers written c = awaited_text (names_of cs) writers written c

abbrev pub AddsArm : {A : Type 0} → List Channel → (writers : Noted) → Spot → Arm → (old new : Vec ℕ A) → Type 0
AddsArm cs writers spot a old new =
    AddsText old new (arm_channel_text (names_of cs) writers (written_in_arm spot.source.now (arm_stop spot.stops.now spot.stop a.number)) a.chan)

abbrev pub AddsArms : {A : Type 0} → List Channel → (writers : Noted) → Spot → List Arm → (old new : Vec ℕ A) → Type 0
AddsArms cs writers spot arms old new = AddsText old new (arms_text (names_of cs) writers spot.source.now spot.stops.now spot.stop arms)

abbrev pub AddsChoice : {A : Type 0} → List Channel → (writers : Noted) → Spot → List Arm → (old new : Vec ℕ A) → Type 0
AddsChoice cs writers spot arms old new =
    AddsText old new (codes "chooses" ++ arms_text (names_of cs) writers spot.source.now spot.stops.now spot.stop arms)

abbrev pub AddsOffer : {A : Type 0} → List Channel → Noted → (written : List ℕ) → ℕ → Message → (old new : Vec ℕ A) → Type 0
AddsOffer cs readers written c m old new = AddsText old new (offer_told cs readers written c m)

abbrev pub joining_text : List ℕ → List ℕ
joining_text ns = codes "waits for" ++ branches_text ns

-- by the declared names and by who is noted
abbrev pub standing_told : List Channel → Sides → Spot → Wait → Option (List ℕ)
standing_told cs ends spot w = standing_text (names_of cs) ends.readers.now ends.writers.now spot.source.now spot.stops.now spot.stop w

-- the line of a process, of the text that there is for it, and of what it stands at
abbrev pub AddsOnLine : {A B : Type 0} → ℕ → (name : List ℕ) → (line : Option ℕ) → Option (Vec ℕ A) → (old new : Vec ℕ B) → Type 0
AddsOnLine n name line text old new = AddsText old new (on_line n name line (option_map (λ v. v.items) text))

abbrev pub AddsLine : {A : Type 0} → List Channel → Sides → Told → ℕ → Wait → Option Stop → (old new : Vec ℕ A) → Type 0
AddsLine cs ends told n w stop old new =
    AddsText old new (process_line (names_of cs) ends.readers.now ends.writers.now told.source.now told.places.now n w stop)

abbrev pub AddsCalls : {A : Type 0} → Told → ℕ → Task → Option Stop → (old new : Vec ℕ A) → Type 0
AddsCalls told n t stop old new = AddsText old new (calls_told told.code.now.bodies told.places.now n t stop)

abbrev pub AddsLines : {A : Type 0} → List Channel → Sides → Told → ℕ → Task → (old new : Vec ℕ A) → Type 0
AddsLines cs ends told n t old new =
    AddsText old new (lines_told (names_of cs) ends.readers.now ends.writers.now told.source.now (logical_lines told.lines.now) told.unfolded.now.cells told.code.now.bodies told.places.now n t)

abbrev pub AddsFault : {A : Type 0} → Told → ℕ → Task → (old new : Vec ℕ A) → Type 0
AddsFault told n t old new = AddsText old new (fault_told told.source.now (logical_lines told.lines.now) (calls_of told.places.now n) told.unfolded.now.cells told.code.now.bodies n t)

abbrev pub AddsRead : {A : Type 0} → Told → ℕ → (line : ℕ) → Body → Task → (old new : Vec ℕ A) → Type 0
AddsRead told n line b t old new = AddsText old new (read_text (logical_lines told.lines.now) (calls_of told.places.now n) line b told.unfolded.now.cells t)

abbrev pub AddsCells : {A : Type 0} → Naming → (held : List ℕ) → Variables → (read components : List ℕ) → UnfoldedProgram → (old new : Vec ℕ A) → Type 0
AddsCells naming held f read components program old new = AddsText old new (variables_text (told_by naming) held f read components 0 program.cells)

-- of whatever network the tables hold, the lines of one process, and those of the first so many
abbrev pub AddsTaskLine : {A : Type 0} → List Channel → Sides → Told → Tables → ℕ → (old new : Vec ℕ A) → Type 0
AddsTaskLine cs ends told tables n old new =
    HeldBy tables (λ net. new.items ≡ old.items ++ task_line (names_of cs) ends.readers.now ends.writers.now told.source.now (logical_lines told.lines.now) told.unfolded.now.cells told.code.now.bodies told.places.now n (slice_get net.tasks n))

abbrev pub AddsTaskLines : {A : Type 0} → List Channel → Sides → Told → Tables → ℕ → (old new : Vec ℕ A) → Type 0
AddsTaskLines cs ends told tables n old new =
    HeldBy tables (λ net. new.items ≡ old.items ++ task_lines (names_of cs) ends.readers.now ends.writers.now told.source.now (logical_lines told.lines.now) told.unfolded.now.cells told.code.now.bodies told.places.now net.tasks n)

-- the count of the ended ones among the first so many, of whatever network the tables hold
abbrev pub AddsEnded : {A : Type 0} → Tables → ℕ → (old new : Vec ℕ A) → Type 0
AddsEnded tables count old new = HeldBy tables (λ net. AddsText old new (ended_line (ended_among net.tasks count)))

-- one more, where it chooses, of whatever network the tables hold
abbrev pub AddsChoosing : {A : Type 0} → Tables → ℕ → (old new : Vec ℕ A) → Type 0
AddsChoosing tables n old new = HeldBy tables (λ net. new.items ≡ old.items ++ (if task_chooses (slice_get net.tasks n) then n ∷ [] else []))

-- those of these that choose, of whatever network the tables hold
abbrev pub ListsChoosing : {A : Type 0} → Tables → List ℕ → Vec ℕ A → Type 0
ListsChoosing tables ns choosing = HeldBy tables (λ net. choosing.items ≡ choosing_among net.tasks ns)

-- the line of a circle, of whatever network the tables hold
abbrev pub AddsCircle : {A : Type 0} → Tables → (circle : List ℕ) → (old new : Vec ℕ A) → Type 0
AddsCircle tables circle old new = HeldBy tables (λ net. AddsText old new (circle_text net.tasks circle))

-- those that wait for good, where the choices are used up
abbrev pub WaitingAt : {A : Type 0} → Ending → List ProcessUses → Program → Tables → Vec ℕ A → Type 0
WaitingAt ending uses p tables waiting = ending ≡ endings.Limit → AreWaitingIn uses p tables waiting

-- by any term whose uses these are
abbrev pub IsReportBy : {A : Type 0} → List ProcessUses → Program → List ℕ → Plan → List Known → (source : List ℕ) → UnfoldedProgram → Vec ℕ A → Type 0
IsReportBy uses p keyboard plan known source unfolded bytes =
    (t : Term) → map noted_for uses ≡ all_using t → IsReport t p keyboard (choices_of plan) known source unfolded.cells bytes.items

abbrev pub IsCircleBy : {A : Type 0} → List ProcessUses → Program → List ℕ → Plan → Vec ℕ A → Type 0
IsCircleBy uses p keyboard plan circle =
    (t : Term) → map noted_for uses ≡ all_using t → IsCircleOf t p keyboard (choices_of plan) circle.items
