-- One of a kind, read step by step.
use Rattle.std.proofs.Common.{◌≡◌, ◌≢◌, ℕ, zero, suc, ◌+◌, ◌-◌, List, Option, Some, None, refl, subst, arith}
use Rattle.occ_text.specs.Words.{Word, LogicalLine}
use Rattle.occ_tree_grammar.specs.Limits.{most_levels}
use Rattle.occ_tree_grammar.specs.declared.fault.ParseFault.{ParseFault}
use Rattle.occ_tree_grammar.specs.declared.fault.ParseFault.TheVariants.{Memory, Unexpected, Level, Missing, TooDeep}
use Rattle.occ_tree_grammar.specs.Many.{◌>>=◌, as_many}
use Rattle.occ_tree_grammar.specs.Expressions.Reading.{Fails}
use Rattle.occ_tree_grammar.specs.Processes.Trees.{Kind, process, Head, Decl, Node}
use Rattle.occ_tree_grammar.specs.Processes.Reading.{at_decl, line_at, head_at, decl_with, finished, node_with, node_at}
use Rattle.occ_tree_reader.specs.Heads.{line_with}
use Rattle.occ_tree_reader.specs.Opened.{begun}

-- what follows a reading that fails
pub fails_then : (e : ParseFault) {A B : Type 0} (r : Option A) (f : A → Option B) → Fails e r → Fails e (r >>= f)
fails_then Memory r f h = tt
fails_then (Unexpected line stop) r f h = rw h refl
fails_then (Level line level) r f h = rw h refl
fails_then (Missing line level) r f h = rw h refl
fails_then (TooDeep line stop) r f h = rw h refl

-- ---- the declarations before a node

pub none_begun : (n level : ℕ) (lines : List LogicalLine) → n ≡ 0 → begun n level lines ≡ None
none_begun zero level lines e = refl
none_begun (suc n) level lines e = absurd (omega arith)

pub begun_is : (n level : ℕ) (lines : List LogicalLine) → n ≢ 0 → begun n level lines ≡ as_many (at_decl level) (decl_with (most_levels + 1) (n - 1) level (node_at (most_levels + 1) (n - 1) (level + 1) process)) lines
begun_is zero level lines ne = absurd (omega arith)
begun_is (suc n) level lines ne = let e : suc n - 1 ≡ n = omega arith in rw e refl

-- ---- the line behind them

abbrev behind : (k : Kind) → ℕ → ℕ → List Decl → (ℕ × Head k) × List LogicalLine → Option (Node k × List LogicalLine)
behind k n level ds x = finished k level (node_at (most_levels + 1) n (level + 1)) ds x.0.0 x.0.1 x.1

regroup_head : (k : Kind) (n level : ℕ) (ds : List Decl) (l : (ℕ × List Word) × List LogicalLine) (read : Option (Head k))
    → (read >>= λ h. finished k level (node_at (most_levels + 1) n (level + 1)) ds l.0.0 h l.1) ≡ ((read >>= λ h. Some ((l.0.0, h), l.1)) >>= behind k n level ds)
regroup_head k n level ds l None = refl
regroup_head k n level ds l (Some h) = refl

regroup_line : (k : Kind) (n level : ℕ) (ds : List Decl) (read : Option ((ℕ × List Word) × List LogicalLine))
    → (read >>= λ l. head_at k (most_levels + 1) l.0.1 >>= λ h. finished k level (node_at (most_levels + 1) n (level + 1)) ds l.0.0 h l.1) ≡ ((read >>= λ l. head_at k (most_levels + 1) l.0.1 >>= λ h. Some ((l.0.0, h), l.1)) >>= behind k n level ds)
regroup_line k n level ds None = refl
regroup_line k n level ds (Some l) = regroup_head k n level ds l (head_at k (most_levels + 1) l.0.1)

regroup : (k : Kind) (n level : ℕ) (read : Option (List Decl × List LogicalLine))
    → (read >>= λ ds. line_at level ds.1 >>= λ l. head_at k (most_levels + 1) l.0.1 >>= λ h. finished k level (node_at (most_levels + 1) n (level + 1)) ds.0 l.0.0 h l.1) ≡ (read >>= λ ds. line_with k level ds.1 >>= behind k n level ds.0)
regroup k n level None = refl
regroup k n level (Some ds) = regroup_line k n level ds.0 (line_at level ds.1)

node_step : (k : Kind) (n level : ℕ) (lines : List LogicalLine) → node_at (most_levels + 1) n level k lines ≡ (begun n level lines >>= λ ds. line_with k level ds.1 >>= behind k (n - 1) level ds.0)
unfolding node_at node_with
node_step k zero level lines = refl
node_step k (suc n) level lines = let e : suc n - 1 ≡ n = omega arith in rw e (regroup k n level (begun (suc n) level lines))

pub no_declarations : (e : ParseFault) (k : Kind) (n level : ℕ) (lines : List LogicalLine) → Fails e (begun n level lines) → Fails e (node_at (most_levels + 1) n level k lines)
no_declarations e k n level lines h = rw (node_step k n level lines) (fails_then e (begun n level lines) _ h)

module _ (k : Kind) (n level : ℕ) (lines : List LogicalLine) (ds : List Decl) (rest : List LogicalLine) (read : begun n level lines ≡ Some (ds, rest)) where
  pub no_line : (e : ParseFault) → Fails e (line_with k level rest) → Fails e (node_at (most_levels + 1) n level k lines)
  no_line e h = rw (node_step k n level lines, read) (fails_then e (line_with k level rest) (behind k (n - 1) level ds) h)

  -- h is how the code has what the line says, and g is h as a case of a match knows it
  pub node_is : {H : Type 0} (head_of : H → Head k) (l : ℕ) (h g : H) (after : List LogicalLine) → line_with k level rest ≡ Some ((l, head_of h), after) → h ≡ g
      → node_at (most_levels + 1) n level k lines ≡ finished k level (node_at (most_levels + 1) (n - 1) (level + 1)) ds l (head_of g) after
  node_is {H} head_of l h g after line is =
      subst (λ (x : H). node_at (most_levels + 1) n level k lines ≡ finished k level (node_at (most_levels + 1) (n - 1) (level + 1)) ds l (head_of x) after) is (rw (node_step k n level lines, read, line) refl)
