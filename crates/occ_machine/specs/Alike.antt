-- When a body of code does what a term does, for a number of turns.
-- Manual: nothing; this is (own).
use Rattle.std.specs.Prelude.{[], replicate, suc, zero, ℕ, ⊤, ◌+◌, ◌<◌, ◌^◌, ◌≡◌}
use Rattle.occ_term.specs.Terms.{Term}
use Rattle.occ_term.specs.Values.{Store}
use Rattle.occ_term.specs.Steps.{Do, Left, left}
use Rattle.occ_term.specs.Turns.{Turn}
use Rattle.occ_term.specs.Uses.{uses_of}
use Rattle.occ_term.specs.TermTyping.{Declared}
use Rattle.occ_machine.specs.SameStop.{Agrees, Frames, SameStop, Lists, used_by}
use Rattle.occ_machine.specs.declared.task.Task.{Task}
use Rattle.occ_machine.specs.declared.task.Wait.TheVariants.{Ready}
use Rattle.occ_machine.specs.Machine.{Body, Stopping}

-- the next turn of both, from a store that agrees with the frame
pub record SameTurn (d : Declared) (body : Body) (Go : Task → Left → Type 0) (before : Task) (r : Left) (s : Store) : Type 0 where
  pub after : Task
  pub rest : Left
  pub store : Store
  pub stops : Stopping body before after
  pub turn : Turn body.quantum r s rest store
  pub agrees : Agrees d body.cells after.frame store
  pub same : SameStop d Go after rest after.wait

-- for n turns
abbrev pub Alike : ℕ → Declared → Body → Task → Left → Type 0
Alike zero d body t r = ⊤
Alike (suc n) d body t r = (s : Store) → Agrees d body.cells t.frame s → SameTurn d body (Alike n d body) t r s

-- a process's first task: any frame of the body's cells, and no value left of a replicated SEQ
pub record IsFirst (body : Body) (t : Task) : Type 0 where
  pub pc : t.pc ≡ 0
  pub wait : t.wait ≡ Ready
  pub frame : Frames body.cells t.frame
  pub none_left : t.frame.left ≡ replicate body.loops 0

-- This code does what this term does: from any frame of typed values, and any count of turns.
pub record DoesAs (d : Declared) (body : Body) (t : Term) : Type 0 where
  pub cells : Lists body.cells (used_by (uses_of t))
  pub writes : Lists body.writes (uses_of t).writes
  pub alike : (n : ℕ) (first : Task) → first.turns + n < 2 ^ 64 → IsFirst body first → Alike n d body first (left (Do t) [])
