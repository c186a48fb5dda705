-- The index of each copy of a replicated PAR is an INT.
use Rattle.std.proofs.Common.{◌≡◌, ℕ, suc, IsTrue, Some, subst, arith}
use Rattle.std.specs.Prelude.{ℤ, pos, negsuc, ◌+ℤ◌, ◌&&◌, int_le, nat_abs}
use Rattle.occ_tree_grammar.specs.Lines.Trees as L
use Rattle.occ_term.specs.declared.primitive.Primitive.TheVariants.{Int}
use Rattle.occ_term.specs.Messages.{is_of}
use Rattle.std.proofs.lemmas.Bool.Decides.{nat_tests}
use Rattle.std.proofs.lemmas.Int.{ints}
use Rattle.occ_term.specs.TypedSteps.{IndicesHave}
use Rattle.occ_term.specs.TermTyping.{Declared}
use Rattle.occ_check_meaning.specs.Scope.{Names}
use Rattle.occ_tree_grammar.specs.Many.{◌>>=◌}
use Rattle.occ_check_meaning.specs.Constants.{a_count, constant}
use Rattle.occ_check_meaning.specs.Expressions.{typed_as, constant_as}
use Rattle.occ_check_meaning.specs.Declarations.{copies_of}
use Rattle.occ_check_meaning.specs.Having.{NamesHave}
use Rattle.occ_check_meaning.proofs.Steps.{bind_some, some_is}
use Rattle.occ_check_meaning.proofs.Counting.{kept}

-- an index, and those of the copies after it, are INTs
pub first_typed : (k : ℕ) (i : ℤ) → IndicesHave i (suc k) → IsTrue (is_of Int i)
first_typed k i h = grind (arith, ints, nat_tests)

pub next_typed : (k : ℕ) (i : ℤ) → IndicesHave i (suc k) → IndicesHave (i +ℤ pos 1) k
next_typed k i h = grind (arith, ints, nat_tests)

counted_typed : (b n : ℤ) → IsTrue (int_le (pos 0) n && int_le (b +ℤ n) (pos 2147483648)) → IsTrue (is_of Int b) → IndicesHave b (nat_abs n)
counted_typed b (pos n) e h = grind (arith, ints, nat_tests)
counted_typed b (negsuc n) e h = cc

module _ (d : Declared) (ns : Names) (h : NamesHave d ns) (line : ℕ) where
  pub copies_typed : (r : L.Replicator) (c : ℤ × ℕ) → copies_of ns line r ≡ Some c → IndicesHave c.0 c.1
  copies_typed (L.each x base count) c e =
      let b = bind_some (constant_as ns line Int base) _ c e in
      let k = bind_some (constant_as ns line Int count) _ c b.2 in
      let n = bind_some (a_count b.0 k.0) _ c k.2 in
      let q = kept _ _ n.0 n.1 in
      let w = bind_some (typed_as ns line Int base >>= constant) _ b.0 b.1 in
      let t = kept _ _ b.0 w.2 in
      let i = subst (λ x. IsTrue (is_of Int x)) t.1 t.0 in
      subst (λ (y : ℤ × ℕ). IndicesHave y.0 y.1) (some_is (b.0, n.0) c n.2) (subst (λ m. IndicesHave b.0 m) q.1 (counted_typed b.0 k.0 q.0 i))
