-- Types with their sizes: of declarations, parts of messages, named values and formals; and protocols.
-- Manual: data types; channels and protocols. That a named protocol is only itself, and how large an array may be: (own).
use Rattle.std.specs.Prelude.{Bool, List, None, Option, Some, [], false, nat_eq, nat_le, true, ℕ, ◌&&◌, ◌*◌, ◌∷◌}
use Rattle.occ_tree_grammar.specs.Many.{◌>>=◌}
use Rattle.occ_tree_grammar.specs.Expressions.Trees.{Expressions, no_expression, more_expressions}
use Rattle.occ_tree_grammar.specs.Lines.Trees as L
use Rattle.occ_tree_grammar.specs.Processes.Trees as P
use Rattle.occ_term.specs.declared.primitive.Primitive.{Primitive}
use Rattle.occ_term.specs.declared.primitive.Primitive.TheVariants.{Int}
use Rattle.occ_term.specs.declared.protocol.PartType.{PartType}
use Rattle.occ_term.specs.declared.protocol.PartType.TheVariants.{Counted as CountedOf}
use Rattle.occ_term.specs.declared.protocol.Protocol.{Protocol}
use Rattle.occ_term.specs.declared.protocol.Protocol.TheVariants.{Simple, CountedArray, Sequential, Variant}
use Rattle.occ_term.specs.declared.protocol.Tag.{Tag}
use Rattle.occ_term.specs.Messages.{product, simple_part}
use Rattle.occ_term.specs.Typing.{is_number}
use Rattle.occ_term.specs.UnfoldedProgram.{most_cells}
use Rattle.occ_check_meaning.specs.Scope.{keep, each_of, Name, Names, once, Carried, Known, a_protocol}
use Rattle.occ_check_meaning.specs.Constants.{a_size}
use Rattle.occ_check_meaning.specs.Operators.{primitive_of}
use Rattle.occ_check_meaning.specs.Expressions.{constant_as}

-- ---- sizes

-- (refusal: too large) Two sizes or more that multiply to more than there may be cells. One alone may be any INT: what is declared
-- with it takes cells, and counts there.
abbrev pub not_too_large : List ℕ → Option (List ℕ)
not_too_large [] = Some []
not_too_large (n ∷ []) = Some (n ∷ [])
not_too_large (m ∷ n ∷ ns) = keep (nat_le (product (m ∷ n ∷ ns)) most_cells) (m ∷ n ∷ ns)

unfoldable pub each_size : Names → ℕ → Expressions → Option (List ℕ)
each_size ns line no_expression = Some []
each_size ns line (more_expressions e es) = do
  v ← constant_as ns line Int e
  n ← a_size v
  rest ← each_size ns line es
  Some (n ∷ rest)

-- the sizes of a declaration, or of a part of a message
abbrev pub sizes_of : Names → ℕ → Expressions → Option (List ℕ)
sizes_of ns line es = each_size ns line es >>= not_too_large

-- the sizes of a named value or a formal, each of which may be left open
abbrev pub Open : Type 0
Open = List (Option ℕ)

abbrev pub open_size : Names → ℕ → L.Size → Option (Option ℕ)
open_size ns line L.open_size = Some None
open_size ns line (L.given e) = do
  v ← constant_as ns line Int e
  n ← a_size v
  Some (Some n)

-- how many components, where all sizes are given
abbrev pub given_product : Open → Option ℕ
given_product [] = Some 1
given_product (None ∷ sizes) = None
given_product (Some n ∷ sizes) = given_product sizes >>= λ k. Some (n * k)

abbrev pub is_few : Option ℕ → Bool
is_few None = true
is_few (Some n) = nat_le n most_cells

-- (refusal: too large) as `not_too_large`, where all sizes are given
abbrev pub are_few : Open → Bool
are_few [] = true
are_few (s ∷ []) = true
are_few (s ∷ t ∷ sizes) = is_few (given_product (s ∷ t ∷ sizes))

abbrev pub open_sizes_of : Names → ℕ → List L.Size → Option Open
open_sizes_of ns line sizes = each_of (open_size ns line) sizes >>= λ open_sizes. keep (are_few open_sizes) open_sizes

-- an open size takes any
abbrev pub takes_size : Option ℕ → ℕ → Bool
takes_size None n = true
takes_size (Some m) n = nat_eq m n

abbrev pub takes_sizes : Open → List ℕ → Bool
takes_sizes [] [] = true
takes_sizes [] (n ∷ ns) = false
takes_sizes (m ∷ ms) [] = false
takes_sizes (m ∷ ms) (n ∷ ns) = takes_size m n && takes_sizes ms ns

abbrev pub are_same_sizes : List ℕ → List ℕ → Bool
are_same_sizes [] [] = true
are_same_sizes [] (n ∷ ns) = false
are_same_sizes (m ∷ ms) [] = false
are_same_sizes (m ∷ ms) (n ∷ ns) = nat_eq m n && are_same_sizes ms ns

-- ---- parts and protocols

-- (refusal: wrong type) a count is INT or BYTE
abbrev pub count_type : Primitive → Option Primitive
count_type type = keep (is_number type) type

abbrev pub part_of : Names → ℕ → L.Part → Option PartType
part_of ns line (L.single es type) = sizes_of ns line es >>= λ sizes. Some (simple_part sizes (primitive_of type))
part_of ns line (L.counted count type) = count_type (primitive_of count) >>= λ c. Some (CountedOf c (primitive_of type))

-- what a channel carries that has no protocol's name
abbrev pub plain_protocol : Names → ℕ → L.Part → Option Protocol
plain_protocol ns line (L.single es type) = sizes_of ns line es >>= λ sizes. Some (Simple sizes (primitive_of type))
plain_protocol ns line (L.counted count type) = count_type (primitive_of count) >>= λ c. Some (CountedArray c (primitive_of type))

-- (refusal: wrong kind) a protocol's name
abbrev pub as_protocol : Known → Option Carried
as_protocol (a_protocol c) = Some c
as_protocol k = None

abbrev pub unnamed : Protocol → Carried
unnamed p = record { declared = None; protocol = p }

abbrev pub named_protocol : ℕ → Protocol → Carried
named_protocol number p = record { declared = Some number; protocol = p }

abbrev pub carried_of : Names → ℕ → L.Carried → Option Carried
carried_of ns line (L.carries p) = plain_protocol ns line p >>= λ q. Some (unnamed q)
carried_of ns line (L.follows x) = ns x >>= as_protocol

abbrev pub tag_of : Names → P.Tag → Option Tag
tag_of ns (P.tag_line line x ps) = each_of (part_of ns line) ps >>= λ parts. Some (record { name = x; parts = parts })

abbrev pub tag_name : P.Tag → Name
tag_name (P.tag_line line x ps) = x

abbrev pub tag_names : List P.Tag → List Name
tag_names [] = []
tag_names (t ∷ ts) = tag_name t ∷ tag_names ts

-- each tag once
abbrev pub protocol_of : Names → P.Protocol → Option Protocol
protocol_of ns (P.of_parts line x p ps) = each_of (part_of ns line) (p ∷ ps) >>= λ parts. Some (Sequential parts)
protocol_of ns (P.of_tags line x case_line ts end_line) = do
  names ← once (tag_names ts)
  tags ← each_of (tag_of ns) ts
  Some (Variant tags)

abbrev pub protocol_name : P.Protocol → Name
protocol_name (P.of_parts line x p ps) = x
protocol_name (P.of_tags line x case_line ts end_line) = x
