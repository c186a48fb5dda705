-- Laws of the code of processes, as it is emitted: with the numbers of cells.
-- Manual: nothing; this is (own).
use Rattle.std.specs.Prelude.{All, List, [], length, map, slice_get, ℕ, ℤ, ◌<◌, ◌+◌, ◌++◌, ◌∷◌, ◌≡◌, Some}
use Rattle.occ_term.specs.declared.fault.Fault.{Fault}
use Rattle.occ_term.specs.declared.message.Part.{Part}
use Rattle.occ_term.specs.Terms.{Expression, Item, Target}
use Rattle.occ_term.specs.Values.{Evaluated, Value, Fails, value_of, parts_of}
use Rattle.occ_term.specs.Storing.{Spot, spots_of}
use Rattle.occ_term.specs.Frames.{Variables, at}
use Rattle.occ_term.specs.Typing.{HasType}
use Rattle.occ_term.specs.TermTyping.{Declared, ItemsHave, TargetsHave}
use Rattle.occ_term.specs.declared.primitive.Primitive.{Primitive}
use Rattle.occ_term.specs.declared.protocol.PartType.{PartType}
use Rattle.occ_machine.specs.SameStop.{Frames}
use Rattle.occ_machine.specs.declared.task.Task.{Task}
use Rattle.occ_machine.specs.declared.task.Wait.TheVariants.{Faulted}
use Rattle.occ_machine.specs.Machine.{by_cell, by_place, NamesWithin, placed, StopsIn, Point, point, Stops, effect, Walks, counter_at, counters_with, kept_as, kept_value}
use Rattle.occ_machine.specs.declared.instr.Instr.{Instr}
use Rattle.occ_code.specs.Expressions.{expression_code, items_code, targets_code}
use Rattle.occ_code.specs.Within.{AreNumbered}

-- these instructions stand from the one place to the other
abbrev pub StandsAt : List (Instr ℕ) → ℕ → List (Instr ℕ) → ℕ → Type 0
StandsAt code pc [] pc' = pc ≡ pc'
StandsAt code pc (i ∷ is) pc' = (slice_get code pc ≡ Some i) × StandsAt code (pc + 1) is pc'

-- a stop by a fault
pub record FaultsAt (code : List (Instr ℕ)) (a : Point) (f : Variables) (e : Fault) : Type 0 where
  pub last : Point
  pub stands : ℕ
  pub walks : Walks by_cell code a last
  pub stops : effect by_cell code last ≡ Stops stands f (Faulted e)

-- from a point to what an evaluation gives, or to its fault, by instructions in a row
pub data Comes {X : Type 0} (code : List (Instr ℕ)) (f : Variables) (a : Point) : Evaluated X → (X → Point) → Type 0 where
  comes : {x : X} {to : X → Point} → Walks by_cell code a (to x) → Comes code f a (Value x) to
  fails : {e : Fault} {to : X → Point} → FaultsAt code a f e → Comes code f a (Fails e) to

-- the code of a typed expression brings its value to the top of the stack
abbrev pub ExpressionsRun : Type 0
ExpressionsRun =
    (code : List (Instr ℕ)) (f : Variables) (d : Declared) (e : Expression) (t : Primitive) (pc pc' : ℕ) (st : List ℤ) (q : List Part) (sp : List Spot)
    → AreNumbered d → HasType d.types e t → StandsAt code pc (expression_code e) pc'
    → Comes code f (point pc st q sp f) (value_of e (at f)) (λ v. point pc' (v ∷ st) q sp f)

-- the code of typed items puts their parts at the end of the queue
abbrev pub ItemsRun : Type 0
ItemsRun =
    (code : List (Instr ℕ)) (f : Variables) (d : Declared) (is : List Item) (types : List PartType) (pc pc' : ℕ) (st : List ℤ) (q : List Part) (sp : List Spot)
    → AreNumbered d → ItemsHave d is types → StandsAt code pc (items_code is) pc'
    → Comes code f (point pc st q sp f) (parts_of is (at f)) (λ ps. point pc' st (q ++ ps) sp f)

-- the code of typed targets puts their spots at the end of those that there are
abbrev pub TargetsRun : Type 0
TargetsRun =
    (code : List (Instr ℕ)) (f : Variables) (d : Declared) (ts : List Target) (types : List PartType) (pc pc' : ℕ) (st : List ℤ) (q : List Part) (sp : List Spot)
    → AreNumbered d → TargetsHave d ts types → StandsAt code pc (targets_code ts) pc'
    → Comes code f (point pc st q sp f) (spots_of ts (at f)) (λ xs. point pc' st q (sp ++ xs) f)

-- Code that names single cells by their places comes to the stops of a turn that it has with the numbers of cells, from each frame
-- of the cells and of the counters that it names.
abbrev pub PlacesDo : Type 0
PlacesDo =
    (cells : List ℕ) (loops : ℕ) (code : List (Instr ℕ)) (quantum : ℕ) (before after : Task)
    → All (NamesWithin cells loops) code → Frames cells before.frame → length before.frame.left ≡ loops
    → StopsIn by_cell code quantum before after → StopsIn by_place (map (placed cells) code) quantum before after

-- A counter that is set has its value; another one keeps its own.
abbrev pub CountersAreApart : Type 0
CountersAreApart =
    (ns : List ℕ) (slot m : ℕ)
    → (slot < length ns → counter_at (counters_with ns slot m) slot ≡ m)
    × ((other : ℕ) → (slot ≡ other → ⊥) → counter_at (counters_with ns slot m) other ≡ counter_at ns other)

-- An index's value comes back from its counter.
abbrev pub IndexesAreKept : Type 0
IndexesAreKept = (v : ℤ) → kept_value (kept_as v) ≡ v
