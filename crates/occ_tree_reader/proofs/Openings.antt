-- What is left once first lines are read, and the whole.
use Rattle.std.proofs.Common.{◌≡◌, ℕ, ◌+◌, List, Option, Some, None, refl, subst}
use Rattle.occ_text.specs.Words.{Word, LogicalLine}
use Rattle.occ_tree_grammar.specs.Limits.{most_levels}
use Rattle.occ_tree_grammar.specs.declared.fault.ParseFault.{ParseFault}
use Rattle.occ_tree_grammar.specs.Many.{◌>>=◌, Reader, as_many}
use Rattle.occ_tree_grammar.specs.Expressions.Reading.{Fails}
use Rattle.occ_tree_grammar.specs.Lines.Heads.{DeclHead, names, value, parts, tags, procedure}
use Rattle.occ_tree_grammar.specs.Lines.HeadReading.{decl_head_at}
use Rattle.occ_tree_grammar.specs.Processes.Trees.{Kind, process, Protocol, Node, Decl, item, protocol_item}
use Rattle.occ_tree_grammar.specs.Processes.Reading.{at_level, line_at, tags_at, item_with, decl_with, finished}
use Rattle.occ_tree_reader.proofs.Steps.{fails_below}
use Rattle.occ_tree_reader.specs.declared.processes.opened.Around.{Around}
use Rattle.occ_tree_reader.specs.declared.processes.opened.Around.TheVariants as arounds
use Rattle.occ_tree_reader.specs.declared.processes.opened.Order.{Order}
use Rattle.occ_tree_reader.specs.declared.processes.opened.Order.TheVariants as orders
use Rattle.occ_tree_reader.specs.declared.processes.opened.OpenedDecl.{OpenedDecl}
use Rattle.occ_tree_reader.specs.Opened.{around_head, around, order_head, in_order, DeclLeft, whole, body_of, decl_left_of, left_behind, decl_left_at, procedure_with}
use Rattle.occ_tree_reader.proofs.Levels.{fails_then}

-- ---- processes

module _ (level : ℕ) (inner : (k : Kind) → Reader LogicalLine (Node k)) (ds : List Decl) (l : ℕ) (lines : List LogicalLine) where
  pub no_body : (e : ParseFault) (a : Around) → Fails e (inner process lines) → Fails e (finished process level inner ds l (around_head a) lines)
  no_body e (arounds.Seq r) h = fails_below e (inner process lines) _ _ h
  no_body e (arounds.Par r) h = fails_below e (inner process lines) _ _ h
  no_body e (arounds.While c) h = fails_below e (inner process lines) _ _ h

  pub body_is : (a : Around) (n : Node process) (rest : List LogicalLine) → inner process lines ≡ Some (n, rest) → finished process level inner ds l (around_head a) lines ≡ Some (around a ds l n, rest)
  body_is (arounds.Seq r) n rest h = rw h refl
  body_is (arounds.Par r) n rest h = rw h refl
  body_is (arounds.While c) n rest h = rw h refl

  pub no_processes : (e : ParseFault) (o : Order) → Fails e (as_many (at_level (level + 1)) (inner process) lines) → Fails e (finished process level inner ds l (order_head o) lines)
  no_processes e orders.Seq h = fails_below e (as_many (at_level (level + 1)) (inner process) lines) _ _ h
  no_processes e orders.Par h = fails_below e (as_many (at_level (level + 1)) (inner process) lines) _ _ h

  pub processes_are : (o : Order) (ns : List (Node process)) (rest : List LogicalLine) → as_many (at_level (level + 1)) (inner process) lines ≡ Some (ns, rest) → finished process level inner ds l (order_head o) lines ≡ Some (in_order o ds l ns, rest)
  processes_are orders.Seq ns rest h = rw h refl
  processes_are orders.Par ns rest h = rw h refl

-- ---- declarations

-- the whole of a declaration whose first lines are read
abbrev pub closed : ℕ → Reader LogicalLine (Node process) → DeclLeft → Reader LogicalLine Decl
closed level inner (whole d) lines = Some (d, lines)
closed level inner (body_of l v fs) lines = inner lines >>= λ m. procedure_with level l v fs m.0 m.1

-- the steps of reading a declaration
abbrev with_protocol : Protocol × List LogicalLine → Option (DeclLeft × List LogicalLine)
with_protocol p = Some (whole (item (protocol_item p.0)), p.1)

abbrev with_head : (ℕ × List Word) × List LogicalLine → DeclHead → Option ((ℕ × DeclHead) × List LogicalLine)
with_head l h = Some ((l.0.0, h), l.1)

abbrev behind_head : ℕ → ℕ → (ℕ × DeclHead) × List LogicalLine → Option (DeclLeft × List LogicalLine)
behind_head n level h = left_behind n level h.0.0 h.0.1 h.1

module _ (n level : ℕ) (inner : Reader LogicalLine (Node process)) where
  abbrev closing : DeclLeft × List LogicalLine → Option (Decl × List LogicalLine)
  closing d = closed level inner d.0 d.1

  closed_tags : (read : Option (Protocol × List LogicalLine)) → (read >>= λ p. Some (item (protocol_item p.0), p.1)) ≡ ((read >>= with_protocol) >>= closing)
  closed_tags None = refl
  closed_tags (Some p) = refl

  closed_item : (l : ℕ) (h : DeclHead) (lines : List LogicalLine) → item_with (most_levels + 1) n level inner l h lines ≡ (left_behind n level l h lines >>= closing)
  closed_item l (names es t v vs) lines = refl
  closed_item l (value t v e) lines = refl
  closed_item l (parts v p ps) lines = refl
  closed_item l (tags v) lines = closed_tags (tags_at (most_levels + 1) n level l v lines)
  closed_item l (procedure v fs) lines = refl

  closed_head : (l : (ℕ × List Word) × List LogicalLine) (read : Option DeclHead)
      → (read >>= λ h. item_with (most_levels + 1) n level inner l.0.0 h l.1) ≡ (((read >>= with_head l) >>= behind_head n level) >>= closing)
  closed_head l None = refl
  closed_head l (Some h) = closed_item l.0.0 h l.1

  closed_line : (read : Option ((ℕ × List Word) × List LogicalLine))
      → (read >>= λ l. decl_head_at (most_levels + 1) l.0.1 >>= λ h. item_with (most_levels + 1) n level inner l.0.0 h l.1) ≡ (((read >>= λ l. decl_head_at (most_levels + 1) l.0.1 >>= with_head l) >>= behind_head n level) >>= closing)
  closed_line None = refl
  closed_line (Some l) = closed_head l (decl_head_at (most_levels + 1) l.0.1)

  decl_step : (lines : List LogicalLine) → decl_with (most_levels + 1) n level inner lines ≡ (decl_left_at n level lines >>= closing)
  unfolding decl_with
  decl_step lines = closed_line (line_at level lines)

  pub no_declaration : (e : ParseFault) (lines : List LogicalLine) → Fails e (decl_left_at n level lines) → Fails e (decl_with (most_levels + 1) n level inner lines)
  no_declaration e lines h = rw (decl_step lines) (fails_then e (decl_left_at n level lines) _ h)

  -- o is how the code has what is left, and g is o as a case of a match knows it
  pub declaration_is : (lines : List LogicalLine) (o g : OpenedDecl) (rest : List LogicalLine) → decl_left_at n level lines ≡ Some (decl_left_of o, rest) → o ≡ g → decl_with (most_levels + 1) n level inner lines ≡ closed level inner (decl_left_of g) rest
  declaration_is lines o g rest read is =
      subst (λ (x : OpenedDecl). decl_with (most_levels + 1) n level inner lines ≡ closed level inner (decl_left_of x) rest) is (rw (decl_step lines, read) refl)
