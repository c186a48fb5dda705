-- Cells and channels are only added, and never more than there may be.
use Rattle.std.proofs.Common.{◌≡◌, ◌≤◌, ℕ, zero, suc, ◌+◌, ◌*◌, List, [], ◌∷◌, ◌++◌, length, Some, IsTrue, refl, ap, sym, subst, ◌∙◌, arith, append_assoc, length-append}
use Rattle.std.specs.Prelude.{map, nat_le}
use Rattle.std.proofs.lemmas.Bool.{leb-true}
use Rattle.std.proofs.lemmas.List.{length-map}
use Rattle.occ_tree_grammar.specs.Processes.Trees.{process, Node, Item}
use Rattle.occ_term.specs.declared.primitive.Primitive.{Primitive}
use Rattle.occ_term.specs.declared.protocol.Protocol.{Protocol}
use Rattle.occ_term.specs.Messages.{product}
use Rattle.occ_term.specs.Terms.{Term}
use Rattle.occ_term.specs.UnfoldedProgram.{most_cells, most_channels}
use Rattle.occ_check_meaning.specs.Scope.{Name}
use Rattle.occ_check_meaning.specs.Numbers.{Numbers, at_start, cell, channel, from_number, component_names, more_cells, more_channels, more_processes}
use Rattle.occ_term.specs.Names.{component_name}
use Rattle.occ_check_meaning.specs.ProgramUnfolding.{ProgramUnfolding}
use Rattle.occ_check_meaning.specs.Growth.{IsWithinLimits, Grown}
use Rattle.occ_check_meaning.specs.Unfolding.{Procedures, Unfolding}
use Rattle.occ_check_meaning.proofs.Counting.{kept}
use Rattle.occ_check_meaning.proofs.Stepping.{Stepping}
use Rattle.occ_check_meaning.proofs.TreeSteps.{unfolding_steps, program_steps}

-- ---- as many names as components

none_times : (p : ℕ) → 0 ≡ 0 * p
none_times p = omega arith

one_more_times : (c p : ℕ) → p + c * p ≡ suc c * p
one_more_times c p = omega arith

from_number_length : (names : ℕ → List Name) (p : ℕ) → ((k : ℕ) → length (names k) ≡ p) → (count k : ℕ) → length (from_number names count k) ≡ count * p
unfolding from_number
from_number_length names p h zero k = none_times p
from_number_length names p h (suc count) k =
    length-append (names k) (from_number names count (k + 1)) ∙ ap (λ y. y + length (from_number names count (k + 1))) (h k) ∙ ap (λ y. p + y) (from_number_length names p h count (k + 1)) ∙ one_more_times count p

pub names_length : (x : Name) (sizes : List ℕ) → length (component_names x sizes) ≡ product sizes
unfolding component_names
names_length x [] = refl
names_length x (n ∷ ns) = from_number_length (λ k. component_names (component_name x k) ns) (product ns) (λ k. names_length (component_name x k) ns) n 0

pub cells_length : (type : Primitive) (x : Name) (sizes : List ℕ) → length (map (cell type) (component_names x sizes)) ≡ product sizes
cells_length type x sizes = length-map (component_names x sizes) (cell type) ∙ names_length x sizes

pub channels_length : (p : Protocol) (x : Name) (sizes : List ℕ) → length (map (channel p) (component_names x sizes)) ≡ product sizes
channels_length p x sizes = length-map (component_names x sizes) (channel p) ∙ names_length x sizes

-- ---- growth

fits : {A : Type 0} (most : ℕ) (xs ys : List A) (k : ℕ) → length ys ≡ k → IsTrue (nat_le (length xs + k) most) → length (xs ++ ys) ≤ most
fits most xs ys k e h = let p = leb-true (length xs + k) most h in let q = length-append xs ys in omega (arith, p, q, e)

with_nil : {A : Type 0} (xs : List A) → xs ≡ xs ++ []
with_nil [] = refl
with_nil (x ∷ xs) = ap (λ ys. x ∷ ys) (with_nil xs)

-- nothing is added
unchanged : (n m : Numbers) → m.cells ≡ n.cells → m.channels ≡ n.channels → Grown n m
unchanged n m e g = record {
  new_cells = [];
  new_channels = [];
  cells = e ∙ with_nil n.cells;
  channels = g ∙ with_nil n.channels;
  limits = λ h. record { cells = subst (λ xs. length xs ≤ most_cells) (sym e) h.cells; channels = subst (λ xs. length xs ≤ most_channels) (sym g) h.channels };
}

grown_twice : (n m l : Numbers) → Grown n m → Grown m l → Grown n l
grown_twice n m l h g = record {
  new_cells = h.new_cells ++ g.new_cells;
  new_channels = h.new_channels ++ g.new_channels;
  cells = g.cells ∙ ap (λ xs. xs ++ g.new_cells) h.cells ∙ append_assoc n.cells h.new_cells g.new_cells;
  channels = g.channels ∙ ap (λ xs. xs ++ g.new_channels) h.channels ∙ append_assoc n.channels h.new_channels g.new_channels;
  limits = λ k. g.limits (h.limits k);
}

pub cells_grown : (type : Primitive) (x : Name) (sizes : List ℕ) (n m : Numbers) → more_cells type x sizes n ≡ Some m → Grown n m
cells_grown type x sizes n m e =
    let k = kept _ _ m e in
    subst (λ y. Grown n y) k.1 (record {
      new_cells = map (cell type) (component_names x sizes);
      new_channels = [];
      cells = refl;
      channels = with_nil n.channels;
      limits = λ h. record { cells = fits _ n.cells _ (product sizes) (cells_length type x sizes) k.0; channels = h.channels };
    })

pub channels_grown : (p : Protocol) (x : Name) (sizes : List ℕ) (n m : Numbers) → more_channels p x sizes n ≡ Some m → Grown n m
channels_grown p x sizes n m e =
    let k = kept _ _ m e in
    subst (λ y. Grown n y) k.1 (record {
      new_cells = [];
      new_channels = map (channel p) (component_names x sizes);
      cells = with_nil n.cells;
      channels = refl;
      limits = λ h. record { cells = h.cells; channels = fits _ n.channels _ (product sizes) (channels_length p x sizes) k.0 };
    })

pub growing : Stepping Grown
growing = record {
  same = λ n. unchanged n n refl refl;
  chained = grown_twice;
  by_cells = cells_grown;
  by_channels = channels_grown;
  by_protocols = λ n. unchanged n _ refl refl;
  by_room = λ depth s n m e. unchanged n m (ap (λ (y : Numbers). y.cells) (sym (kept _ _ m e).1)) (ap (λ (y : Numbers). y.channels) (sym (kept _ _ m e).1));
}

pub processes_grown : (n m : Numbers) → more_processes n ≡ Some m → Grown n m
processes_grown n m e = unchanged n m (ap (λ (y : Numbers). y.cells) (sym (kept _ _ m e).1)) (ap (λ (y : Numbers). y.channels) (sym (kept _ _ m e).1))

pub unfolding_grown : {sc : Procedures} {depth : ℕ} {n m : Numbers} {p : Node process} {t : Term} → Unfolding sc depth n p t m → Grown n m
unfolding_grown u = unfolding_steps Grown growing processes_grown u

pub start_limits : IsWithinLimits at_start
start_limits = record { cells = leb-true 0 most_cells refl; channels = leb-true 3 4096 refl }

pub program_grown : {is : List Item} {t : Term} {m : Numbers} → ProgramUnfolding is t m → Grown at_start m
program_grown u = program_steps Grown growing processes_grown u
