-- The declarations and indices before an ALT's arms set nothing that is set round them, and read only that of the ALT's cells.
use Rattle.std.proofs.Common.{◌≡◌, ◌≤◌, ◌<◌, ℕ, zero, suc, ◌+◌, List, [], ◌∷◌, ◌++◌, length, Bool, true, false, None, Some, IsTrue, refl, sym, subst, arith}
use Rattle.std.proofs.lemmas.Bool.{eqb-true, eq-eqb}
use Rattle.std.specs.Prelude.{nat_eq, slice_get, ◌||◌, if◌then◌else◌}
use Rattle.occ_tree_grammar.specs.Lines.Trees as L
use Rattle.occ_tree_grammar.specs.Lines.Heads.{ArmHead}
use Rattle.occ_tree_grammar.specs.Processes.Trees.{arm, under, Node, Body, Nodes, Decls, Decl}
use Rattle.occ_term.specs.declared.names.Cell.{Cell}
use Rattle.occ_term.specs.Terms.{Arms, no_arms, skip_arm, input_arm, declared_arms, each_arm, Declaration, Clearing, Naming, Replicator, replicator}
use Rattle.occ_term.specs.Values.{Span, span}
use Rattle.occ_term.specs.Uses as Uses
use Rattle.occ_term.specs.Uses.{union, only, empty_set, uses_of_declaration}
use Rattle.occ_term.specs.Storing.{index_of}
use Rattle.occ_term.specs.TermTyping.{Declared}
use Rattle.occ_term.specs.TakenArms.{sets_of, Scoped}
use Rattle.occ_check_meaning.specs.Scope.{names_of, within}
use Rattle.occ_check_meaning.specs.Numbers.{Numbers}
use Rattle.occ_check_meaning.specs.Performing.{Entered}
use Rattle.occ_check_meaning.specs.Declarations.{Indexed, indexed}
use Rattle.occ_check_meaning.specs.Unfolding.{Procedure, Procedures, Declares, DeclareAll, no_declaration, one_declaration, Arm, behind_arm, Guards, awaits, is_ready, awaits_variants, nests_arms, replicates_arm, EachArm, under_index, AllArms, no_arm, one_arm}
use Rattle.occ_check_meaning.specs.Growth.{Grown}
use Rattle.occ_check_meaning.specs.CellOrder.{cells_of, index_cell, cells_in, cells_in_arms, cells_in_reception, InOrder}
use Rattle.occ_check_meaning.specs.Scoping.{IsScoped}
use Rattle.occ_check_meaning.proofs.Growth.{growing, processes_grown}
use Rattle.occ_check_meaning.proofs.Covering.{Covers, since, covers_before, fewer_before, in_span}
use Rattle.occ_check_meaning.proofs.Stepping.{indexed_steps, one_declared_steps, declared_steps}
use Rattle.occ_check_meaning.proofs.TreeSteps.{guards_steps, each_arm_steps, arm_steps, arms_steps}
use Rattle.occ_check_meaning.proofs.TypedLines.{All}
use Rattle.occ_check_meaning.proofs.TypedNames.{indexed_opens}
use Rattle.occ_check_meaning.proofs.TypedTree.{In, named, have, later, one_has, all_have, within_index}
use Rattle.occ_check_meaning.proofs.OrderedNames.{indexed_ordered}
use Rattle.occ_check_meaning.proofs.OrderedTree.{one_takes, arms_take, each_arm_takes}
use Rattle.occ_check_meaning.proofs.Writes.{Not}
use Rattle.occ_check_meaning.proofs.Reading.{hidden}
use Rattle.occ_check_meaning.proofs.Heads.{first_one, other_one, set_by, HeadsScoped, set_before, set_joined, scoped_joined, set_below, set_between, heads_scoped, behind_scoped, then_scoped, hidden_since, HeadUnread, heads_unread, at_once}

-- ---- an index

-- the first number is the index's, and the only new one
index_first : (r : Replicator) (n m : ℕ) → InOrder n (index_cell r ∷ []) m → (index_of r ≡ n) × (m ≡ n + 1)
index_first (replicator line index base count) n m h = (h.0, h.1)

-- ---- declarations

-- `all` are the ALT's cells, which have numbers from the first on; `round` are those that are set where this scope stands.
-- No name of the scope rests on any other cell from the first on.
module _ (d : Declared) (all : Uses.Numbers) (first : ℕ) (after : (c : ℕ) → IsTrue (all c) → first ≤ c) where
  pub record Round (round : Uses.Numbers) (sc : Procedures) (n : Numbers) : Type 0 where
    pub before : (c : ℕ) → IsTrue (round c) → c < length n.cells
    pub unseen : (c : ℕ) → first ≤ c → Not (round c) → In (hidden c d) sc n

  onward : (round : Uses.Numbers) (sc : Procedures) (n m : Numbers) → Grown n m → Round round sc n → Round round sc m
  onward round sc n m g x = record {
    before = λ c r. let l = x.before c r in let f = fewer_before n m g in omega (arith, l, f);
    unseen = λ c l q. later (hidden c d) sc n m g (x.unseen c l q);
  }

  one_round : {sc : Procedures} {depth : ℕ} {n : Numbers} {y : Decl} {e : Entered Procedure} (round : Uses.Numbers) → Declares sc depth n y e → In d sc n → Grown n e.numbers → Covers d e.numbers → Round round sc n
      → HeadsScoped all round e.heads × Round (set_by round e.heads) e.scope e.numbers
  one_round {sc = sc} {n = n} {e = e} round y h g c x =
      let t = one_takes d y h in (
        heads_scoped all e.heads round (length n.cells) (length e.numbers.cells) t x.before
            (read e.heads (at_once (λ k. (first ≤ k) × Not (round k)) e.heads (λ k q. heads_unread k d y (have (hidden k d) sc n (x.unseen k q.0 q.1))))),
        record {
          before = set_below e.heads round (length n.cells) (length e.numbers.cells) t x.before;
          unseen = λ k l q. (one_has (hidden k d) y (x.unseen k l (λ m. q (set_before e.heads round k m))) g
              (hidden_since k d n e.numbers (since d n e.numbers c) (λ a b. q (set_between e.heads round (length n.cells) (length e.numbers.cells) t k a b)))).0;
        },
      )
    where
      by_test : (b : Bool) → (Not b → ⊥) → IsTrue b
      by_test true f = refl
      by_test false f = absurd (f (λ m. not_it m))
        where
          not_it : IsTrue false → ⊥
          not_it m = absurd cc

      read : (hs : List Declaration) → All (λ h. (k : ℕ) → (first ≤ k) × Not (round k) → HeadUnread k h) hs → All (λ h. (k : ℕ) → IsTrue ((uses_of_declaration h).reads k) → IsTrue (all k) → IsTrue (round k)) hs
      read [] f = tt
      read (h ∷ hs) f = (λ k m a. by_test (round k) (λ q. f.0 k (after k a, q) m), read hs f.1)

  all_round : {sc : Procedures} {depth : ℕ} {n : Numbers} {ds : Decls} {e : Entered Procedure} (round : Uses.Numbers) → DeclareAll sc depth n ds e → In d sc n → Covers d e.numbers → Round round sc n
      → HeadsScoped all round e.heads × Round (set_by round e.heads) e.scope e.numbers
  all_round round no_declaration h c x = (tt, x)
  all_round round (one_declaration {n = n} {a = a} {b = b} u v) h c x =
      let q = covers_before d a.numbers b.numbers (declared_steps Grown growing v) c in
      let g = one_declared_steps Grown growing u in
      let k = one_has d u h g (since d n a.numbers q) in
      let o = one_round round u h g q x in
      let p = all_round (set_by round a.heads) v k.0 c o.1 in
      (scoped_joined all a.heads b.heads round o.0 p.0, subst (λ s. Round s b.scope b.numbers) (set_joined a.heads b.heads round) p.1)

  index_round : (sc : Procedures) (line depth : ℕ) (r : L.Replicator) (n : Numbers) (i : Indexed) (round : Uses.Numbers) → indexed (names_of sc) line depth r n ≡ Some i → Covers d i.numbers → Round round sc n
      → ((c : ℕ) → IsTrue (only (index_of i.replicator) c) → IsTrue (round c) → ⊥) × Round (union round (only (index_of i.replicator))) (within i.names sc) i.numbers
  index_round sc line depth r n i round e c x =
      let t = index_first i.replicator (length n.cells) (length i.numbers.cells) (indexed_ordered (names_of sc) line depth r n i e) in
      let g = indexed_steps Grown growing (names_of sc) line depth r n i e in (
        λ k m q. let l = x.before k q in let s = eqb-true (index_of i.replicator) k m in let a = t.0 in omega (arith, l, s, a),
        record {
          before = λ k m. below k t.0 t.1 (round k) (x.before k) m;
          unseen = λ k l q.
              let p = x.unseen k l (λ m. q (first_one (round k) (only (index_of i.replicator) k) m)) in
              let o = indexed_opens (hidden k d) (names_of sc) (length n.cells) (named (hidden k d) sc n p) line depth r n i e
              (hidden_since k d n i.numbers (since d n i.numbers c) (λ a b. q (other_one (round k) (only (index_of i.replicator) k) (same (index_of i.replicator) k (let y = t.0 in let z = t.1 in omega (arith, a, b, y, z)))))) in
              within_index (hidden k d) sc n i p g o.1;
        },
      )
    where
      same : (a b : ℕ) → a ≡ b → IsTrue (nat_eq a b)
      same a b e = eq-eqb a b e

      below : (k : ℕ) → index_of i.replicator ≡ length n.cells → length i.numbers.cells ≡ length n.cells + 1 → (b : Bool) → (IsTrue b → k < length n.cells) → IsTrue (b || only (index_of i.replicator) k) → k < length i.numbers.cells
      below k y z true f m = let l = f refl in omega (arith, l, z)
      below k y z false f m = let s = eqb-true (index_of i.replicator) k m in omega (arith, y, z, s)

  -- ---- the arms

  mutual
    arm_scoped : {sc : Procedures} {depth : ℕ} {n m : Numbers} {a : Node arm} {arms : Arms} (round : Uses.Numbers) → Arm sc depth n a arms m → In d sc n → Covers d m → Round round sc n → Scoped all round arms
    arm_scoped round (behind_arm {n = n} {l = l} {d = e} {arms = arms} ds v u) h c x =
        let s = covers_before d e.numbers l (guards_steps Grown growing processes_grown u) c in
        let k = all_have d ds h s in
        let o = all_round round ds h s x in
        behind_scoped all e.heads round arms o.0 (guards_scoped (set_by round e.heads) u k.0 c o.1)

    guards_scoped : {sc : Procedures} {line depth : ℕ} {n m : Numbers} {h : ArmHead} {b : Body (under arm h)} {arms : Arms} (round : Uses.Numbers) → Guards sc line depth n h b arms m → In d sc n → Covers d m → Round round sc n → Scoped all round arms
    guards_scoped round (awaits a g r u) h c x = tt
    guards_scoped round (is_ready a r u) h c x = tt
    guards_scoped round (awaits_variants a g w r u) h c x = tt
    guards_scoped round (nests_arms v u) h c x = arms_scoped round u h c x
    guards_scoped round (replicates_arm v u) h c x = each_arm_scoped round u h c x

    each_arm_scoped : {sc : Procedures} {line depth : ℕ} {n m : Numbers} {r : L.Replicator} {a : Node arm} {arms : Arms} (round : Uses.Numbers) → EachArm sc line depth n r a arms m → In d sc n → Covers d m → Round round sc n → Scoped all round arms
    each_arm_scoped round (under_index {sc = sc} {line = line} {depth = depth} {n = n} {l = l} {r = r} {i = i} {arms = arms} x u) h c q =
        let b = covers_before d i.numbers l (arm_steps Grown growing processes_grown u) c in
        let k = indexed_opens d (names_of sc) (length n.cells) (named d sc n h) line depth r n i x (since d n i.numbers b) in
        let o = index_round sc line depth r n i round x b q in
        (o.0, arm_scoped (union round (only (index_of i.replicator))) u (within_index d sc n i h (indexed_steps Grown growing (names_of sc) line depth r n i x) k.1) c o.1, tt)

    arms_scoped : {sc : Procedures} {depth : ℕ} {n m : Numbers} {xs : Nodes arm} {arms : Arms} (round : Uses.Numbers) → AllArms sc depth n xs arms m → In d sc n → Covers d m → Round round sc n → Scoped all round arms
    arms_scoped round no_arm h c x = tt
    arms_scoped round (one_arm {sc = sc} {n = n} {m = m} {l = l} {arms = arms} {others = others} u us) h c x =
        let g = arm_steps Grown growing processes_grown u in
        then_scoped all round arms others (arm_scoped round u h (covers_before d m l (arms_steps Grown growing processes_grown us) c) x) (arms_scoped round us (later d sc n m g h) c (onward round sc n m g x))

-- ---- the cells of all arms

FromOn : ℕ → Span → Type 0
FromOn n (span first count) = n ≤ first

all_from : (n k : ℕ) (xs : List Span) (m : ℕ) → k ≤ n → InOrder n xs m → All (FromOn k) xs
unfolding FromOn
all_from n k [] m l h = tt
all_from n k (span first count ∷ rest) m l h = let e = h.0 in (omega (arith, e, l), all_from (n + count) k rest m (omega (arith, l)) h.1)

parts : (k : ℕ) (xs ys : List Span) → All (FromOn k) (xs ++ ys) → All (FromOn k) xs × All (FromOn k) ys
parts k [] ys h = (tt, h)
parts k (x ∷ xs) ys h = let p = parts k xs ys h.1 in ((h.0, p.0), p.1)

either_from : (k c : ℕ) (a b : Bool) → (IsTrue a → k ≤ c) → (IsTrue b → k ≤ c) → IsTrue (a || b) → k ≤ c
either_from k c true b f g m = f refl
either_from k c false b f g m = g m

set_from : (k : ℕ) (x : Declaration) (c : ℕ) → FromOn k (cells_of x) → IsTrue ((uses_of_declaration x).writes c) → k ≤ c
unfolding FromOn
set_from k (Clearing first count) c h m = let s = in_span first count c m in let a = s.0 in omega (arith, h, a)
set_from k (Naming first value) c h m = let s = in_span first _ c m in let a = s.0 in omega (arith, h, a)

index_from : (k : ℕ) (r : Replicator) (c : ℕ) → FromOn k (index_cell r) → IsTrue (only (index_of r) c) → k ≤ c
unfolding FromOn
index_from k (replicator line index base count) c h m = let s = eqb-true index c m in omega (arith, h, s)

sets_from : (k : ℕ) (arms : Arms) → All (FromOn k) (cells_in_arms arms) → (c : ℕ) → IsTrue (sets_of arms c) → k ≤ c
sets_from k no_arms h c m = absurd cc
sets_from k (skip_arm e t arms) h c m = sets_from k arms (parts k (cells_in t) (cells_in_arms arms) h).1 c m
sets_from k (input_arm e ch list arms) h c m = sets_from k arms (parts k (cells_in_reception list) (cells_in_arms arms) h).1 c m
sets_from k (declared_arms x arms others) h c m =
    let p = parts k (cells_in_arms arms) (cells_in_arms others) h.1 in
    either_from k c ((uses_of_declaration x).writes c) (sets_of arms c || sets_of others c) (set_from k x c h.0) (either_from k c (sets_of arms c) (sets_of others c) (sets_from k arms p.0 c) (sets_from k others p.1 c)) m
sets_from k (each_arm r arms others) h c m =
    let p = parts k (cells_in_arms arms) (cells_in_arms others) h.1 in
    either_from k c (only (index_of r) c) (sets_of arms c || sets_of others c) (index_from k r c h.0) (either_from k c (sets_of arms c) (sets_of others c) (sets_from k arms p.0 c) (sets_from k others p.1 c)) m

-- under whatever has the types and protocols so far, the scope has what it is to have
abbrev pub AllIn : Procedures → Numbers → Type 0
AllIn sc n = (d : Declared) → Covers d n → In d sc n

-- before the ALT none of its cells is there
outermost : (d : Declared) (n m : Numbers) (sc : Procedures) (arms : Arms) (after : (c : ℕ) → IsTrue (sets_of arms c) → length n.cells ≤ c) → AllIn sc n → Grown n m → Covers d m → Round d (sets_of arms) (length n.cells) after empty_set sc n
outermost d n m sc arms after h g c = record {
  before = λ k m. absurd cc;
  unseen = λ k l q. h (hidden k d) (covers_hidden k l (covers_before d n m g c));
}
  where
    lies_in : {A : Type 0} (xs : List A) (k : ℕ) (x : A) → slice_get xs k ≡ Some x → k < length xs
    lies_in [] k x e = absurd cc
    lies_in (y ∷ xs) zero x e = omega arith
    lies_in (y ∷ xs) (suc k) x e = let l = lies_in xs k x e in omega (arith, l)

    covers_hidden : (k : ℕ) → length n.cells ≤ k → Covers d n → Covers (hidden k d) n
    covers_hidden k l h = record { cells = λ j x e. by_test j x e (nat_eq j k) refl; channels = h.channels }
      where
        by_test : (j : ℕ) (x : Cell) → slice_get n.cells j ≡ Some x → (b : Bool) → nat_eq j k ≡ b → (if nat_eq j k then None else d.types j) ≡ Some x.primitive
        by_test j x e true q = let w = lies_in n.cells j x e in let f = eqb-true j k q in absurd (omega (arith, w, f, l))
        by_test j x e false q = subst (λ b. (if b then None else d.types j) ≡ Some x.primitive) (sym q) (h.cells j x e)

module _ (d : Declared) where
  pub arms_are_scoped : {sc : Procedures} {depth : ℕ} {n m : Numbers} {xs : Nodes arm} {arms : Arms} → AllArms sc depth n xs arms m → AllIn sc n → Covers d m → IsScoped arms
  arms_are_scoped {sc = sc} {n = n} {m = m} {arms = arms} u h c =
      let g = arms_steps Grown growing processes_grown u in
      let i = h d (covers_before d n m g c) in
      let after : (k : ℕ) → IsTrue (sets_of arms k) → length n.cells ≤ k = sets_from (length n.cells) arms (all_from (length n.cells) (length n.cells) (cells_in_arms arms) (length m.cells) (omega arith) (arms_take d u i c)) in
      arms_scoped d (sets_of arms) (length n.cells) after empty_set u i c (outermost d n m sc arms after h g c)

  pub one_arm_is_scoped : {sc : Procedures} {line depth : ℕ} {n m : Numbers} {r : L.Replicator} {a : Node arm} {arms : Arms} → EachArm sc line depth n r a arms m → AllIn sc n → Covers d m → IsScoped arms
  one_arm_is_scoped {sc = sc} {n = n} {m = m} {arms = arms} u h c =
      let g = each_arm_steps Grown growing processes_grown u in
      let i = h d (covers_before d n m g c) in
      let after : (k : ℕ) → IsTrue (sets_of arms k) → length n.cells ≤ k = sets_from (length n.cells) arms (all_from (length n.cells) (length n.cells) (cells_in_arms arms) (length m.cells) (omega arith) (each_arm_takes d u i c)) in
      each_arm_scoped d (sets_of arms) (length n.cells) after empty_set u i c (outermost d n m sc arms after h g c)
