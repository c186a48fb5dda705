-- How variables are told by the names in a line.
-- Manual: nothing; this is (own).
use Rattle.std.specs.Prelude.{Bool, List, None, Option, Some, [], bytes_eq, codes, drop, false, if◌then◌else◌, length, min, nat_eq, not, option_map, take, true, ℕ, ◌&&◌, ◌++◌, ◌||◌, ◌∷◌}
use Rattle.std.specs.Borrow.{Bor}
use Rattle.std.specs.List.{list_any}
use Rattle.std.specs.Option.{option_map_or}
use Rattle.occ_text.specs.Words.{LogicalLine, Word, logical_lines, name}
use Rattle.occ_report.specs.Calls.{call_at, innermost_call, outwards}
use Rattle.occ_report.specs.Formals.{actual_at, is_unsure, line_words, stands_for}
use Rattle.occ_report.specs.declared.calls.Call.{Call}
use Rattle.occ_report.specs.declared.naming.Naming.{Naming}

-- ---- the names in a line that a variable may have there

-- how much of a name a front may be
abbrev pub front_end : (front own : List ℕ) → ℕ
front_end front own = min (length front) (length own)

abbrev pub behind_front : (front own : List ℕ) → List ℕ
behind_front front own = drop (front_end front own) own

abbrev pub begins_subscript : List ℕ → Bool
begins_subscript [] = true
begins_subscript (b ∷ bs) = nat_eq b 91

-- whether a text may stand for the variable of this name, or for an array of which it is a component
abbrev pub may_mean : (text own : List ℕ) → Bool
may_mean text own = bytes_eq (take (front_end text own) own) text && (is_unsure text || begins_subscript (behind_front text own))

abbrev pub names_it : (meaning : List ℕ → List ℕ) → (own : List ℕ) → Word → Bool
names_it meaning own (name x) = may_mean (meaning x) own
names_it meaning own w = false

abbrev pub name_of_word : Word → List ℕ
name_of_word (name x) = x
name_of_word w = []

-- whether each of these words that may name a variable is this name
abbrev pub all_same : (meaning : List ℕ → List ℕ) → (own x : List ℕ) → List Word → Bool
all_same meaning own x [] = true
all_same meaning own x (w ∷ ws) = (not (names_it meaning own w) || bytes_eq (name_of_word w) x) && all_same meaning own x ws

abbrev pub if_same : (meaning : List ℕ → List ℕ) → (own x : List ℕ) → List Word → Option (List ℕ)
if_same meaning own x ws = if all_same meaning own x ws then Some x else None

-- the one name among these words that may name a variable, if there is just one
abbrev pub only_name : (meaning : List ℕ → List ℕ) → (own : List ℕ) → List Word → Option (List ℕ)
only_name meaning own [] = None
only_name meaning own (w ∷ ws) = if names_it meaning own w then if_same meaning own (name_of_word w) ws else only_name meaning own ws

-- ---- how it is told

-- A variable by a name with this meaning: by the formal, with its own name behind it; by that alone, if the formal has the same one or it
-- isn't known for which component it stands.
abbrev pub told_as : (x meaning own : List ℕ) → List ℕ
told_as x meaning own = if bytes_eq x meaning || is_unsure meaning then own else x ++ behind_front meaning own ++ codes " (" ++ own ++ codes ")"

abbrev pub by_name : (meaning : List ℕ → List ℕ) → (own : List ℕ) → Option (List ℕ) → List ℕ
by_name meaning own None = own
by_name meaning own (Some x) = told_as x (meaning x) own

-- Whether a formal of this name stands for a component under a computed subscript. That is kept in a cell of the formal's name.
abbrev pub keeps_subscript : List LogicalLine → (own : List ℕ) → Option Call → Bool
keeps_subscript lines own None = false
keeps_subscript lines own (Some c) = option_map_or is_unsure (actual_at lines c own) false

abbrev pub one_keeps : List LogicalLine → List Call → (own : List ℕ) → (numbers : List ℕ) → Bool
one_keeps lines calls own numbers = list_any (λ n. keeps_subscript lines own (call_at calls n)) numbers

-- whether one does of these calls, or of those within whose PROCs they stand
abbrev pub may_be_kept : List LogicalLine → List Call → (own : List ℕ) → (ns : List ℕ) → Bool
may_be_kept lines calls own [] = false
may_be_kept lines calls own (n ∷ ns) = one_keeps lines calls own (outwards (length calls) calls n) || may_be_kept lines calls own ns

-- A variable by a line: by the one name there that may name it, and by its own name where there is none or more than one. What may be a kept
-- subscript is left out.
abbrev pub told_in : List LogicalLine → List Call → (holders numbers : List ℕ) → (line : ℕ) → (own : List ℕ) → List ℕ
told_in lines calls holders numbers line own =
    if may_be_kept lines calls own holders then []
    else by_name (λ x. stands_for lines calls numbers (line, x)) own (only_name (λ x. stands_for lines calls numbers (line, x)) own (line_words lines line))

-- the same where one of these calls may hold the line
abbrev pub told_within : List LogicalLine → List Call → (holders : List ℕ) → (line : ℕ) → (own : List ℕ) → List ℕ
told_within lines calls holders line own = told_in lines calls holders (outwards (length calls) calls (innermost_call calls holders)) line own

-- ---- of what code has; private contracts alone cite it

abbrev pub means : Naming → List ℕ → List ℕ
means naming x = stands_for (logical_lines naming.lines.now) naming.calls.now naming.numbers.now (naming.line, x)

abbrev pub told_by : Naming → List ℕ → List ℕ
told_by naming own = told_in (logical_lines naming.lines.now) naming.calls.now naming.holders.now naming.numbers.now naming.line own

abbrev pub lent : Option (Bor (List ℕ)) → Option (List ℕ)
lent found = option_map (λ x. x.now) found
