-- What is left of a process uses no more than its term did.
-- Manual: the usage rules check list.
use Rattle.std.specs.Prelude.{Bool, IsTrue, List, [], ℕ, ◌∷◌, ◌≡◌}
use Rattle.occ_term.specs.Values.{Store}
use Rattle.occ_term.specs.Uses.{Uses, no_use, with_use, reading, writing, inputting, outputting, only, reads_of, uses_of, uses_of_terms, uses_of_branches, uses_of_reception, uses_of_declaration}
use Rattle.occ_term.specs.Selecting.{Setting, IndexTo, DeclaredAgain, Enabled, SkipArm, InputArm}
use Rattle.occ_term.specs.Steps.{Loop, WhileLoop, EachLoop, Taken, SkipTaken, MessageTaken, Doing, Do, Passing, Again, Offering, Awaiting, Choosing, Taking, Forking, Halted, Faulted, Done, Context, Then, Within, Left, left, Step}
use Rattle.occ_term.specs.TermTyping.{Declared}
use Rattle.occ_term.specs.TypedSteps.{LeftHas}

abbrev pub uses_of_loop : Loop → Uses
uses_of_loop (WhileLoop test body) = with_use (reading (reads_of test)) (uses_of body)
uses_of_loop (EachLoop index next count body) = with_use (writing (only index)) (uses_of body)

abbrev pub uses_of_setting : Setting → Uses
uses_of_setting (IndexTo cell v) = writing (only cell)
uses_of_setting (DeclaredAgain x) = uses_of_declaration x

abbrev pub uses_of_settings : List Setting → Uses
uses_of_settings [] = no_use
uses_of_settings (x ∷ xs) = with_use (uses_of_setting x) (uses_of_settings xs)

abbrev pub uses_of_enabled : Enabled → Uses
uses_of_enabled (SkipArm again body) = with_use (uses_of_settings again) (uses_of body)
uses_of_enabled (InputArm again c list) = with_use (uses_of_settings again) (with_use (inputting (only c)) (uses_of_reception list))

abbrev pub uses_of_all : List Enabled → Uses
uses_of_all [] = no_use
uses_of_all (a ∷ arms) = with_use (uses_of_enabled a) (uses_of_all arms)

abbrev pub uses_of_taken : Taken → Uses
uses_of_taken (SkipTaken body) = uses_of body
uses_of_taken (MessageTaken list m) = uses_of_reception list

-- an offer is an output on its channel; a process that awaits a message inputs on its channel
abbrev pub uses_of_doing : Doing → Uses
uses_of_doing (Do t) = uses_of t
uses_of_doing (Passing l) = uses_of_loop l
uses_of_doing (Again l) = uses_of_loop l
uses_of_doing (Offering c m) = outputting (only c)
uses_of_doing (Awaiting c list) = with_use (inputting (only c)) (uses_of_reception list)
uses_of_doing (Choosing pri arms) = uses_of_all arms
uses_of_doing (Taking again what) = with_use (uses_of_settings again) (uses_of_taken what)
uses_of_doing (Forking bs) = uses_of_branches bs
uses_of_doing Halted = no_use
uses_of_doing (Faulted e) = no_use
uses_of_doing Done = no_use

abbrev pub uses_of_context : Context → Uses
uses_of_context (Then ts) = uses_of_terms ts
uses_of_context (Within l) = uses_of_loop l

abbrev pub uses_of_contexts : List Context → Uses
uses_of_contexts [] = no_use
uses_of_contexts (k ∷ ks) = with_use (uses_of_context k) (uses_of_contexts ks)

abbrev pub uses_of_left : Left → Uses
uses_of_left (left x ks) = with_use (uses_of_doing x) (uses_of_contexts ks)

-- no other cell and no other channel
pub record IsPartOf (a b : Uses) : Type 0 where
  pub reads : (c : ℕ) → IsTrue (a.reads c) → IsTrue (b.reads c)
  pub writes : (c : ℕ) → IsTrue (a.writes c) → IsTrue (b.writes c)
  pub ins : (c : ℕ) → IsTrue (a.ins c) → IsTrue (b.ins c)
  pub outs : (c : ℕ) → IsTrue (a.outs c) → IsTrue (b.outs c)

-- cells that are not of the set keep their values
abbrev pub ChangesOnly : (ℕ → Bool) → Store → Store → Type 0
ChangesOnly cells s s' = (c : ℕ) → (IsTrue (cells c) → ⊥) → s' c ≡ s c

-- a private step of what is typed changes only cells that it writes, and what is left then uses no more, so that it offers and
-- awaits only on its own channels
abbrev pub StepsKeepToTheirUse : Type 0
StepsKeepToTheirUse =
    (d : Declared) (l l' : Left) (s s' : Store) → LeftHas d l → Step l s l' s'
    → IsPartOf (uses_of_left l') (uses_of_left l) × ChangesOnly (uses_of_left l).writes s s'
