-- The last index of the copies of a replicated PAR is an INT.
use Rattle.std.proofs.Common.{◌≡◌, ◌+ℤ◌, ◌≤ℤ◌, ℕ, ℤ, pos, negsuc, Option, Some, None, IsTrue, refl, subst, arith, true, false}
use Rattle.std.specs.Prelude.{Bool, if◌then◌else◌, int_le, nat_abs, ◌&&◌}
use Rattle.std.proofs.lemmas.Int.{ints}
use Rattle.occ_tree_grammar.specs.Many.{◌>>=◌}
use Rattle.occ_tree_grammar.specs.Lines.Trees as L
use Rattle.occ_term.specs.declared.primitive.Primitive.TheVariants.{Int}
use Rattle.occ_check_meaning.specs.Constants.{a_count}
use Rattle.occ_check_meaning.specs.Declarations.{copies_of}
use Rattle.occ_check_meaning.specs.Expressions.{constant_as}
use Rattle.occ_check_meaning.specs.Scope.{Names}

within_int : (b c : ℤ) → IsTrue (int_le (pos 0) c && int_le (b +ℤ c) (pos 2147483648)) → (b +ℤ pos (nat_abs c)) ≤ℤ pos 2147483648
within_int b (pos n) h = grind (arith, ints)
within_int b (negsuc n) h = grind (arith, ints)

counted_within : (b c : ℤ) (x : ℤ × ℕ) → (a_count b c >>= λ k. Some (b, k)) ≡ Some x → (x.0 +ℤ pos x.1) ≤ℤ pos 2147483648
counted_within b c x e = by (int_le (pos 0) c && int_le (b +ℤ c) (pos 2147483648)) refl e
  where
    by : (t : Bool) → (int_le (pos 0) c && int_le (b +ℤ c) (pos 2147483648)) ≡ t → ((if t then Some (nat_abs c) else None) >>= λ k. Some (b, k)) ≡ Some x → (x.0 +ℤ pos x.1) ≤ℤ pos 2147483648
    by true t e = let same : (b, nat_abs c) ≡ x = cc in subst (λ (y : ℤ × ℕ). (y.0 +ℤ pos y.1) ≤ℤ pos 2147483648) same (within_int b c t)
    by false t e = absurd cc

pub copies_within : (ns : Names) (line : ℕ) (r : L.Replicator) (x : ℤ × ℕ) → copies_of ns line r ≡ Some x → (x.0 +ℤ pos x.1) ≤ℤ pos 2147483648
copies_within ns line (L.each name base count) x e = by (constant_as ns line Int base) (constant_as ns line Int count) e
  where
    by : (b c : Option ℤ) → (b >>= λ b. c >>= λ c. a_count b c >>= λ k. Some (b, k)) ≡ Some x → (x.0 +ℤ pos x.1) ≤ℤ pos 2147483648
    by None c e = absurd cc
    by (Some b) None e = absurd cc
    by (Some b) (Some c) e = counted_within b c x e
