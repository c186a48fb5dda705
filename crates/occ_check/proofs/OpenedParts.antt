-- What is opened: what is left of it, put into what stands round it, is what the whole gives.
use Rattle.std.specs.Prelude.{Result, Ok, Err, IfOk, OnOk, min}
use Rattle.std.proofs.Common.{◌≡◌, ◌∙◌, ◌+◌, ◌<◌, ◌≤◌, ℕ, List, length, Option, Some, None, refl, ap, sym, take, arith}
use Rattle.std.proofs.lemmas.List.{length-take, take-take}
use Rattle.occ_tree_grammar.specs.Lines.Trees as L
use Rattle.occ_tree_grammar.specs.Many.{◌>>=◌}
use Rattle.occ_tree_grammar.specs.Processes.Trees.{Kind, Node, more_nodes, no_node}
use Rattle.occ_term.specs.Terms as T
use Rattle.occ_check_meaning.specs.Declarations.{Indexed, indexed}
use Rattle.occ_check_meaning.specs.Numbers.{Numbers}
use Rattle.occ_check_meaning.specs.Performing.{Calling, Under}
use Rattle.occ_check_meaning.specs.Scope.{Scope, names_of, within}
use Rattle.occ_check_lines.specs.View.{Refuses}
use Rattle.occ_check_lines.specs.declared.fault.CheckFault.{CheckFault}
use Rattle.occ_check_lines.specs.declared.scope.Block.{Block}
use Rattle.occ_check_lines.proofs.Refusals.{refused_with}
use Rattle.occ_check.specs.Opened.{put}
use Rattle.occ_check.specs.Weights.{node_size, nodes_size}

pub put_put : {A B C : Type 0} (f : B → C) (g : A → B) (o : Option (A × Numbers)) → put f (put g o) ≡ put (λ x. f (g x)) o
put_put f g None = refl
put_put f g (Some x) = refl

-- what is put into equal things
pub put_same : {A B : Type 0} (f g : A → B) (o : Option (A × Numbers)) → ((x : A) → f x ≡ g x) → put f o ≡ put g o
put_same f g None same = refl
put_same f g (Some x) same = ap (λ y. Some (y, x.1)) (same x.0)

module _ {A B : Type 0} (f : A → B) (part : Option (A × Numbers)) (whole : Option (B × Numbers)) (opens : whole ≡ put f part) where
  pub put_refused : (e : CheckFault) → Refuses e part → Refuses e whole
  put_refused e = refused_with e part whole (λ none. opens ∙ ap (put f) none)

  pub put_done : (x : A) (n : Numbers) (y : B) → part ≡ Some (x, n) → y ≡ f x → whole ≡ Some (y, n)
  put_done x n y done is = opens ∙ ap (put f) done ∙ ap (λ z. Some (z, n)) (sym is)

-- what stands under a replicator
module _ {A B : Type 0} (u : Under A) (f : T.Replicator → A → B) (line : ℕ) (r : L.Replicator) (sc : Scope Calling) (depth : ℕ) (n : Numbers) (found : Indexed)
    (gives : indexed (names_of sc) line depth r n ≡ Some found) where
  pub each_part : (over : T.Replicator) (inside : Scope Calling) (m : Numbers) → found.replicator ≡ over → inside ≡ within found.names sc → found.numbers ≡ m
      → (indexed (names_of sc) line depth r n >>= λ i. u (within i.names sc) depth i.numbers >>= λ x. Some (f i.replicator x.0, x.1)) ≡ put (f over) (u inside depth m)
  each_part over inside m is_over is_inside is_m =
      ap (λ o. o >>= λ i. u (within i.names sc) depth i.numbers >>= λ x. Some (f i.replicator x.0, x.1)) gives
      ∙ ap (λ there. put (f found.replicator) (u there depth found.numbers)) (sym is_inside)
      ∙ ap (λ k. put (f found.replicator) (u inside depth k)) is_m
      ∙ ap (λ o. put (f o) (u inside depth m)) is_over

-- blocks that are closed again
pub blocks_kept : (before opened after closed : List Block) (base : ℕ) → base ≡ length before → take (length before) opened ≡ before → after ≡ opened → closed ≡ take base after → closed ≡ before
blocks_kept before opened after closed base is kept same cut =
    cut ∙ ap (take base) same ∙ ap (λ k. take k opened) is ∙ kept

-- blocks that are opened after others
pub kept_further : (before opened after : List Block) → take (length before) opened ≡ before → take (length opened) after ≡ opened → take (length before) after ≡ before
kept_further before opened after first then =
    let same : min (length before) (length opened) ≡ length before = sym (length-take (length before) opened) ∙ ap length first in
    let fewer : length before ≤ length opened = omega (arith, same) in
    sym (take-take (length before) (length opened) after fewer) ∙ ap (take (length before)) then ∙ first

pub kept_on : {X E : Type 0} (r : Result X E) (before opened after : List Block) → take (length before) opened ≡ before → OnOk r (take (length opened) after ≡ opened) → OnOk r (take (length before) after ≡ before)
kept_on (Ok x) before opened after first then = kept_further before opened after first then
kept_on (Err e) before opened after first then = tt

-- what is opened stays smaller
pub lighter_on : {X E : Type 0} (r : Result X E) (size : X → ℕ) (m n : ℕ) → m < n → IfOk r (λ x. size x ≤ m) → IfOk r (λ x. size x < n)
lighter_on (Ok x) size m n less le = omega (arith, less, le)
lighter_on (Err e) size m n less le = tt

-- one part as a list
pub single_size : {k : Kind} (c : Node k) → nodes_size (more_nodes c no_node) ≡ node_size c + 1
unfolding nodes_size
single_size c = omega arith
