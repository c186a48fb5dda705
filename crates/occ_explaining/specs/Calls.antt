-- The calls of a source, by its logical lines.
-- Manual: procedures; scope.
use Rattle.std.specs.Prelude.{List, None, Option, Some, [], get_or, if◌then◌else◌, length, map, max, nat_lt, option_map, ℕ, ◌++◌, ◌<◌, ◌≤◌, ◌∷◌, ◌≡◌}
use Rattle.std.specs.Borrow.{Bor}
use Rattle.occ_text.specs.Reading.{or_else}
use Rattle.occ_text.specs.Words.{LogicalLine, Word, key, logical_line, mark, name}
use Rattle.occ_text.specs.declared.token.Key.TheVariants as words
use Rattle.occ_text.specs.declared.token.Sym.TheVariants as signs
use Rattle.occ_explaining.specs.declared.calls.Call.{Call}

abbrev pub Called : Type 0
Called = List ℕ

-- the PROC that a line of these words begins
abbrev pub proc_begun : List Word → Option Called
proc_begun (key words.Proc ∷ name f ∷ ws) = Some f
proc_begun ws = None

-- the PROC that a line of these words calls
abbrev pub proc_called : List Word → Option Called
proc_called (name f ∷ mark signs.OpenParen ∷ ws) = Some f
proc_called ws = None

-- The PROC in which a line of this level stands, by the lines above it, the nearest first: the nearest that begins one, of the lines
-- that it stands under.
abbrev pub owner_of : List LogicalLine → ℕ → Option Called
owner_of [] level = None
owner_of (logical_line n l ws ∷ above) level = if nat_lt l level then or_else (proc_begun ws) (owner_of above l) else owner_of above level

-- a PROC, and one that it calls
abbrev pub call_of : Option Called → Option Called → List (Called × Called)
call_of (Some from) (Some to) = (from, to) ∷ []
call_of from to = []

-- all calls in these lines, under those above them
abbrev pub calls_under : (above : List LogicalLine) → List LogicalLine → List (Called × Called)
calls_under above [] = []
calls_under above (logical_line n l ws ∷ ls) = call_of (owner_of above l) (proc_called ws) ++ calls_under (logical_line n l ws ∷ above) ls

abbrev pub calls_in : List LogicalLine → List (Called × Called)
calls_in lines = calls_under [] lines

-- ---- private contracts alone cite what follows

abbrev pub deepest : List LogicalLine → ℕ
deepest [] = 0
deepest (logical_line n l ws ∷ ls) = max l (deepest ls)

-- a name, as the code has it
abbrev pub named : Option (Bor Called) → Option Called
named known = option_map (λ f. f.now) known

abbrev pub owner_in : List (Option (Bor Called)) → ℕ → Option Called
owner_in owners level = named (get_or owners level None)

-- deeper lines alone stand in another PROC
abbrev pub SetsBelow : (level : ℕ) → (old new : List (Option (Bor Called))) → Option (Bor Called) → Type 0
SetsBelow level old new owner =
    ((k : ℕ) → k ≤ level → owner_in new k ≡ owner_in old k)
    × ((k : ℕ) → level < k → k < length old → owner_in new k ≡ named owner)

abbrev pub call_pair : Call → Called × Called
call_pair c = (c.from.now, c.to.now)

-- a call more, where a line has one and stands in a PROC
abbrev pub AddsCall : (old new : List Call) → (from to : Option (Bor Called)) → Type 0
AddsCall old new from to = map call_pair new ≡ map call_pair old ++ call_of (named from) (named to)
