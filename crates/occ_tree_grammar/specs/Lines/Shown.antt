-- The written form of what stands in one line: one case for each alternative of the grammar.
-- Manual: the syntax summary; variables, channels and protocols; procedures.
use Rattle.std.specs.Prelude.{ℕ, List, [], ◌∷◌, ◌++◌, Option, Some, None}
use Rattle.occ_text.specs.declared.token.Key.TheVariants as k
use Rattle.occ_text.specs.declared.token.Sym.TheVariants as s
use Rattle.occ_text.specs.Words.{Word, key, name, mark}
use Rattle.occ_tree_grammar.specs.declared.lines.separator.Separator.{Separator}
use Rattle.occ_tree_grammar.specs.declared.lines.separator.Separator.TheVariants as separators
use Rattle.occ_tree_grammar.specs.Lists.{show_all}
use Rattle.occ_tree_grammar.specs.Expressions.Shown.{prim_word, show_expression, show_indices}
use Rattle.occ_tree_grammar.specs.Lines.Trees.{Var, var, Target, into, into_counted, Out, from, from_counted, Input, items, tagged, Received, in_line, by_variant, Replicator, each, Part, single, counted, Carried, carries, follows, Sort, of_data, of_channel, Size, open_size, given, ValueType, value_type, Spec, by_value, by_reference, by_channel, Formal, formal, Formals, no_formals, formals, Actuals, no_actuals, actuals}

abbrev pub separator_word : Separator → Word
separator_word separators.Comma = mark s.Comma
separator_word separators.Semicolon = mark s.Semicolon

-- further parts of a list, each with the separator before it
abbrev pub show_listed : {A : Type 0} → Separator → (A → List Word) → List A → List Word
show_listed by show = show_all (λ a. separator_word by ∷ show a)

abbrev pub show_name : List ℕ → List Word
show_name v = name v ∷ []

abbrev pub show_var : Var → List Word
show_var (var v es) = name v ∷ show_indices es

abbrev pub show_target : Target → List Word
show_target (into v) = show_var v
show_target (into_counted v w) = show_var v ++ mark s.DoubleColon ∷ show_var w

abbrev pub show_out : Out → List Word
show_out (from e) = show_expression e
show_out (from_counted e f) = show_expression e ++ mark s.DoubleColon ∷ show_expression f

abbrev pub show_input : Input → List Word
show_input (items v t ts) = show_var v ++ (mark s.Question ∷ show_target t ++ show_listed separators.Semicolon show_target ts)
show_input (tagged v t ts) = show_var v ++ (mark s.Question ∷ key k.Case ∷ name t ∷ show_listed separators.Semicolon show_target ts)

abbrev pub show_received : Received → List Word
show_received (in_line i) = show_input i
show_received (by_variant v) = show_var v ++ mark s.Question ∷ key k.Case ∷ []

abbrev pub show_replicator : Option Replicator → List Word
show_replicator None = []
show_replicator (Some (each v base count)) = name v ∷ mark s.Equal ∷ (show_expression base ++ key k.For ∷ show_expression count)

abbrev pub show_part : Part → List Word
show_part (single es p) = show_indices es ++ prim_word p ∷ []
show_part (counted p q) = prim_word p ∷ mark s.DoubleColon ∷ mark s.OpenBracket ∷ mark s.CloseBracket ∷ prim_word q ∷ []

abbrev pub show_carried : Carried → List Word
show_carried (carries p) = show_part p
show_carried (follows v) = name v ∷ []

abbrev pub show_sort : Sort → List Word
show_sort (of_data p) = prim_word p ∷ []
show_sort (of_channel c) = key k.Chan ∷ key k.Of ∷ show_carried c

abbrev pub show_size : Size → List Word
show_size open_size = mark s.OpenBracket ∷ mark s.CloseBracket ∷ []
show_size (given e) = mark s.OpenBracket ∷ (show_expression e ++ mark s.CloseBracket ∷ [])

abbrev pub show_value_type : ValueType → List Word
show_value_type (value_type ds p) = show_all show_size ds ++ prim_word p ∷ []

abbrev pub show_spec : Spec → List Word
show_spec (by_value t) = key k.Val ∷ show_value_type t
show_spec (by_reference t) = show_value_type t
show_spec (by_channel ds c) = show_all show_size ds ++ key k.Chan ∷ key k.Of ∷ show_carried c

abbrev pub show_formal : Formal → List Word
show_formal (formal None v) = name v ∷ []
show_formal (formal (Some t) v) = show_spec t ++ name v ∷ []

-- the formals and the bracket that closes
abbrev pub show_formals : Formals → List Word
show_formals no_formals = mark s.CloseParen ∷ []
show_formals (formals t v fs) = show_spec t ++ (name v ∷ show_listed separators.Comma show_formal fs ++ mark s.CloseParen ∷ [])

-- the actuals and the bracket that closes
abbrev pub show_actuals : Actuals → List Word
show_actuals no_actuals = mark s.CloseParen ∷ []
show_actuals (actuals e es) = show_expression e ++ (show_listed separators.Comma show_expression es ++ mark s.CloseParen ∷ [])
