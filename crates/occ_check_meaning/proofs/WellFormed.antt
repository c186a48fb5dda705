-- Whatever a program unfolds to is well-formed.
use Rattle.std.proofs.Common.{◌≡◌, ◌≤◌, ◌<◌, ℕ, zero, suc, ◌+◌, List, [], ◌∷◌, length, Some, refl, sym, subst, ap, ◌∙◌, arith}
use Rattle.std.specs.Prelude.{map, slice_get, nat_le}
use Rattle.std.proofs.lemmas.Bool.{leb-true}
use Rattle.occ_tree_grammar.specs.Lines.Trees as L
use Rattle.occ_tree_grammar.specs.Processes.Trees.{Item}
use Rattle.occ_term.specs.declared.primitive.Primitive.TheVariants.{Byte}
use Rattle.occ_term.specs.declared.protocol.Protocol.TheVariants.{Simple}
use Rattle.occ_term.specs.Terms.{Term}
use Rattle.occ_term.specs.TermTyping.{Declared, DeclarationsHave, TermHas}
use Rattle.occ_term.specs.UnfoldedProgram.{declared, IsWellFormed}
use Rattle.occ_term.specs.UnfoldedProgram as Unfolded
use Rattle.occ_check_meaning.specs.Scope.{Name}
use Rattle.occ_check_meaning.specs.Numbers.{Numbers, at_start}
use Rattle.occ_check_meaning.specs.Programs.{is_byte_channel, other_names, byte_channels, main_names, channels_from}
use Rattle.occ_check_meaning.specs.ProgramUnfolding.{DeclareItems, no_item, one_item, ProgramUnfolding, program, UnfoldsTo}
use Rattle.occ_check_meaning.specs.Growth.{Grown}
use Rattle.occ_check_meaning.specs.Performing.{Entered}
use Rattle.occ_check_meaning.specs.Unfolding.{Procedure, Procedures}
use Rattle.occ_check_meaning.proofs.Steps.{bind_some, some_is}
use Rattle.occ_check_meaning.proofs.Counting.{kept, both_true}
use Rattle.occ_check_meaning.proofs.Scopes.{EachPair, each_within}
use Rattle.occ_check_meaning.proofs.Growth.{growing, processes_grown, program_grown, start_limits}
use Rattle.occ_check_meaning.proofs.Covering.{Covers, since, covers_before, in_span}
use Rattle.occ_check_meaning.proofs.Stepping.{opening_steps, item_steps, items_steps}
use Rattle.occ_check_meaning.proofs.TreeSteps.{unfolding_steps}
use Rattle.occ_check_meaning.proofs.Numbering.{program_numbered}
use Rattle.occ_check_meaning.proofs.TypedNames.{Fits, declarations_joined}
use Rattle.occ_check_meaning.proofs.TypedTree.{In, item_has, later, headed_has, unfolding_has}

-- ---- the main process's channels

pub few_names : (fs : L.Formals) (xs : List Name) → main_names fs ≡ Some xs → length xs ≤ 3
few_names L.no_formals xs e = absurd cc
few_names (L.formals s x fs) xs e =
    let a = bind_some (byte_channels (L.formals s x fs)) _ xs e in
    let b = bind_some (other_names s fs) _ a.0 a.1 in
    let k = kept _ _ a.0 b.2 in
    let n = leb-true (length b.0) 2 (both_true (is_byte_channel s) (nat_le (length b.0) 2) k.0).1 in
    subst (λ (ys : List Name). length ys ≤ 3) (k.1 ∙ (kept _ _ xs a.2).1) (omega (arith, n))

module _ (d : Declared) where
  first_protocol : Covers d at_start → (k : ℕ) → k < 3 → d.protocols k ≡ Some (Simple [] Byte)
  first_protocol h zero l = h.channels 0 _ refl
  first_protocol h (suc zero) l = h.channels 1 _ refl
  first_protocol h (suc (suc zero)) l = h.channels 2 _ refl
  first_protocol h (suc (suc (suc k))) l = absurd (omega (arith, l))

  pub channels_fit : (b : ℕ) → Covers d at_start → (c : ℕ) (xs : List Name) → c + length xs ≤ 3 → EachPair (Fits d b) (channels_from c xs)
  channels_fit b h c [] l = tt
  channels_fit b h c (x ∷ xs) l =
      ((((λ k m. let s = in_span c 1 k m in let p = s.1 in first_protocol h k (omega (arith, l, p))), refl), tt), channels_fit b h (c + 1) xs (omega (arith, l)))

  -- ---- the items before it

  pub items_have : {sc : Procedures} {depth : ℕ} {n : Numbers} {is : List Item} {e : Entered Procedure} → DeclareItems sc depth n is e → In d sc n → Covers d e.numbers → In d e.scope e.numbers × DeclarationsHave d e.heads
  items_have no_item h c = (h, tt)
  items_have (one_item {n = n} {a = a} {b = b} x y) h c =
      let k = item_has d x h (item_steps Grown growing x) (since d n a.numbers (covers_before d a.numbers b.numbers (items_steps Grown growing y) c)) in
      let q = items_have y k.0 c in
      (q.0, declarations_joined d a.heads b.heads k.1 q.1)

  pub program_typed : {is : List Item} {t : Term} {m : Numbers} → ProgramUnfolding is t m → Covers d m → TermHas d t
  program_typed (program {main = main} {xs = xs} {d = e} {deep = deep} {m = m} {l = l} {t = t} a x ds o u) c =
      let b = covers_before d m l (unfolding_steps Grown growing processes_grown u) c in
      let g = opening_steps Grown growing e.heads 0 e.numbers deep m o in
      let s = covers_before d e.numbers m g b in
      let k = items_have ds tt s in
      let f = few_names main.formals xs x in
      let q = later d e.scope e.numbers m g k.0 in
      headed_has d e.heads t k.1
      (unfolding_has d u (each_within (Fits d (length m.cells)) (channels_from 0 xs) e.scope
      (channels_fit (length m.cells) (covers_before d at_start e.numbers (items_steps Grown growing ds) s) 0 xs (omega (arith, f))) q) c)

-- ---- well-formed

pub mapped_get : {A B : Type 0} (f : A → B) (xs : List A) (c : ℕ) (x : A) → slice_get xs c ≡ Some x → slice_get (map f xs) c ≡ Some (f x)
mapped_get f [] c x e = absurd cc
mapped_get f (y ∷ xs) zero x e = ap (λ z. Some (f z)) (some_is y x e)
mapped_get f (y ∷ xs) (suc c) x e = mapped_get f xs c x e

covers_all : (u : Unfolded.UnfoldedProgram) (m : Numbers) → m.cells ≡ u.cells → m.channels ≡ u.channels → Covers (declared u) m
covers_all u m e g = record {
  cells = λ c x q. mapped_get (λ y. y.primitive) u.cells c x (subst (λ xs. slice_get xs c ≡ Some x) e q);
  channels = λ c x q. mapped_get (λ y. y.protocol) u.channels c x (subst (λ xs. slice_get xs c ≡ Some x) g q);
}

pub well_formed : (items : List Item) (u : Unfolded.UnfoldedProgram) → UnfoldsTo items u → IsWellFormed u
well_formed items u (m, p, e, g) =
    let w = program_grown p in
    let l = w.limits start_limits in
    record {
      others = w.new_channels;
      begins = sym g ∙ w.channels;
      few_cells = subst (λ xs. length xs ≤ Unfolded.most_cells) e l.cells;
      few_channels = subst (λ xs. length xs ≤ Unfolded.most_channels) g l.channels;
      typed = program_typed (declared u) p (covers_all u m e g);
      numbers = program_numbered p;
    }
