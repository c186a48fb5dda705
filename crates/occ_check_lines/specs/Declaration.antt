-- What declarations and formals of the code leave, as the definitions have it.
-- Manual: nothing; this is (own).
use Rattle.std.specs.Prelude.{List, Option, Some, Result, Ok, Err, map, ◌∷◌, ◌≡◌, [], Bool, true, not, ◌&&◌, ℕ}
use Rattle.occ_term.specs.View.{declarations_of, expression_of, item_of, replicator_of}
use Rattle.occ_term.specs.declared.expression.Item.{Item}
use Rattle.occ_term.specs.declared.expression.TermExpr.{TermExpr}
use Rattle.occ_term.specs.declared.primitive.Primitive.{Primitive}
use Rattle.occ_check_meaning.specs.Constants.{constant}
use Rattle.occ_check_meaning.specs.Scope.{Name, Known, Pairs, is_among}
use Rattle.occ_check_meaning.specs.Declarations as D
use Rattle.occ_check_meaning.specs.Numbers as N
use Rattle.occ_check_lines.specs.View.{Refuses, carried_of, known_of, numbers_of}
use Rattle.occ_check_lines.specs.declared.fault.CheckFault.{CheckFault}
use Rattle.occ_check_lines.specs.declared.known.Carried.{Carried}
use Rattle.occ_check_lines.specs.declared.known.Known.{Known as KnownCode}
use Rattle.occ_check_lines.specs.declared.numbers.Numbers.{Numbers}
use Rattle.occ_check_lines.specs.declared.declaration.Named.{Named}
use Rattle.occ_check_lines.specs.declared.declaration.Opened.{Opened}
use Rattle.occ_check_lines.specs.declared.replicator.Indexed.{Indexed}

-- a name and what it stands for
abbrev pub pair_of : Named → Name × Known
pair_of x = (x.name, known_of x.known)

abbrev pub pairs_of : List Named → Pairs
pairs_of xs = map pair_of xs

-- one name alone is there
abbrev pub NamesOnly : Name → KnownCode → Opened → Type 0
NamesOnly x k o = pairs_of o.names.items ≡ (x, known_of k) ∷ []

abbrev pub opened_of : Opened → Numbers → D.Opened
opened_of x n = D.opened (pairs_of x.names.items) (declarations_of x.heads) (numbers_of n)

-- what names stand for and what is set for them is what the definition gives, and so are the numbers then
abbrev pub Opens : Result Opened CheckFault → Numbers → Option D.Opened → Type 0
Opens (Ok x) after given = given ≡ Some (opened_of x after)
Opens (Err e) after given = Refuses e given

-- .. from the numbers before
abbrev pub OpensFrom : Result Opened CheckFault → (old new : Numbers) → (N.Numbers → Option D.Opened) → Type 0
OpensFrom result old new part = Opens result new (part (numbers_of old))

-- ---- what single names and lists of them are declared as, of what the code read

abbrev pub variables_declared : (depth : ℕ) → Primitive → List ℕ → List Name → N.Numbers → Option D.Opened
variables_declared depth type sizes names = D.each_declared (D.variable_declared depth type sizes) names

abbrev pub one_channel_declared : Carried → List ℕ → Name → N.Numbers → Option D.Opened
one_channel_declared carried sizes x = D.channel_declared (carried_of carried) sizes x

abbrev pub channels_declared : Carried → List ℕ → List Name → N.Numbers → Option D.Opened
channels_declared carried sizes names = D.each_declared (D.channel_declared (carried_of carried) sizes) names

-- a single value that is named: a constant, or what a cell of its own keeps
abbrev pub single_named : Name → (depth : ℕ) → Primitive → TermExpr → N.Numbers → Option D.Opened
single_named x depth type e = D.value_named x depth type (expression_of e) (constant (expression_of e))

-- what cells of its own keep
abbrev pub kept_in_cells : Name → (depth : ℕ) → Primitive → List ℕ → Item → N.Numbers → Option D.Opened
kept_in_cells x depth type sizes value = D.local_of x depth type sizes (item_of value)

-- ---- replicators

abbrev pub indexed_of : Indexed → Numbers → D.Indexed
indexed_of x n = record { replicator = replicator_of x.replicator; names = pair_of x.name ∷ []; numbers = numbers_of n }

-- the same of a replicator and its index
abbrev pub Indexes : Result Indexed CheckFault → Numbers → Option D.Indexed → Type 0
Indexes (Ok x) after given = given ≡ Some (indexed_of x after)
Indexes (Err e) after given = Refuses e given

-- whether no name of the second list stands in the first
abbrev pub none_among : List Name → List Name → Bool
none_among seen [] = true
none_among seen (x ∷ xs) = not (is_among x seen) && none_among seen xs
