use Rattle.std.proofs.Common.{◌≡◌, ◌∙◌, ◌+◌, ◌<◌, ◌∷◌, ◌++◌, [], ℕ, List, refl, sym, ap, subst, length, drop, get_or, map, Some, drop-cons, add-one, arith}
use Rattle.std.specs.Option.{option_to_list}
use Rattle.std.specs.Vec.Iter.{into_iter_items, into_iter_len}
use Rattle.std.proofs.lemmas.List.{drop_all, length-map}
use Rattle.occ_term.specs.Frames.{Variables}
use Rattle.occ_net_replay.specs.Replay.{with_branches}
use Rattle.occ_net_tables.specs.Room.{first_frame}
use Rattle.occ_net_tables.specs.Settling.{BranchesMayBegin}
use Rattle.occ_net_tables.specs.Keys.{set_all}
use Rattle.occ_net_tables.proofs.Branches.{may_begin_first, may_begin_rest}
use Rattle.occ_net_tables.proofs.tables.Tables.begin_all.Goals as goal

dropped : (xs : List ℕ) (i : ℕ) → i < length xs → drop i xs ≡ get_or xs i 0 ∷ drop (i + 1) xs
dropped xs i h = rw (add-one, drop-cons xs i 0)

heads : {X : Type 0} (x y : X) (xs ys : List X) → x ∷ xs ≡ y ∷ ys → (x ≡ y) × (xs ≡ ys)
heads x y xs ys e = (cc, cc)

pub begin-requires-clause-may : goal.begin-requires-clause-may
begin-requires-clause-may c =
    let e = dropped c.args.branches.now c.loop-number.number-index c.loop-number-test.true in
    may_begin_first c.args.code.now c.loop-number.self (get_or c.args.branches.now c.loop-number.number-index 0) (drop (c.loop-number.number-index + 1) c.args.branches.now) (subst (BranchesMayBegin c.args.code.now c.loop-number.self) e c.loop-number.invariant.may_begin)

pub begin-requires-clause-room : goal.begin-requires-clause-room
begin-requires-clause-room c =
    let e = ap length (dropped c.args.branches.now c.loop-number.number-index c.loop-number-test.true) in
    omega (arith, e, c.loop-number.invariant.room)

pub loop-number-preserved : goal.loop-number-preserved
loop-number-preserved c =
    let e = dropped c.args.branches.now c.loop-number.number-index c.loop-number-test.true in
    let p = c.args.code.now in
    let n : ℕ = get_or c.args.branches.now c.loop-number.number-index 0 in
    let rest : List ℕ = drop (c.loop-number.number-index + 1) c.args.branches.now in
    let inv = c.loop-number.invariant in
    let own = c.requires.frames in
    let some = c.in-Some.is in
    let lefts = λ (f : Variables) (q : c.args.frames.items ≡ map (first_frame p.bodies f) c.args.branches.now). heads c.in-Some.frame (first_frame p.bodies f n) (into_iter_items c.next.new.self) (map (first_frame p.bodies f) rest)
    (sym (c.next.ensures.items ∙ ap (λ r. option_to_list r ++ into_iter_items c.next.new.self) some) ∙ inv.left f q ∙ ap (map (first_frame p.bodies f)) e) in
    let b = c.begin.ensures.began own.frame (lefts own.frame own.are).0 in
    record {
      may_begin = may_begin_rest p c.args.parent own.frame c.loop-number.self c.begin.new.self n rest (subst (BranchesMayBegin p c.loop-number.self) e inv.may_begin) b;
      room = omega (arith, ap length e, inv.room, c.begin.ensures.room.0, c.begin.ensures.room.1);
      many = omega (arith, ap length e, inv.many, ap (λ r. into_iter_len c.next.new.self + length (option_to_list r)) (sym some) ∙ c.next.ensures.len);
      left = λ f q. (lefts f q).1;
      tasks = λ f q. ap (with_branches p.bodies f rest) (c.begin.ensures.began f (lefts f q).0).tasks ∙ sym (ap (λ l. with_branches p.bodies f l c.loop-number.self.tasks.items) e) ∙ inv.tasks f q;
      parents = ap (set_all rest (Some c.args.parent)) b.parents ∙ sym (ap (λ l. set_all l (Some c.args.parent) c.loop-number.self.parents.items) e) ∙ inv.parents;
      offering = b.offering ∙ inv.offering;
      awaiting = b.awaiting ∙ inv.awaiting;
      unfinished = b.unfinished ∙ inv.unfinished;
      fault = b.fault ∙ inv.fault;
      used = b.used ∙ inv.used;
      trace = b.trace ∙ inv.trace;
    }

pub loop-number-init : goal.loop-number-init
loop-number-init c =
    let own = c.requires.frames in
    let items : c.args.frames.items ≡ map (first_frame c.args.code.now.bodies own.frame) c.args.branches.now = own.are in
    record {
      may_begin = c.requires.may;
      room = c.requires.room;
      many = omega (arith, c.into_iter-left.ensures.len, c.args.frames.ok.0, ap length items, length-map c.args.branches.now (first_frame c.args.code.now.bodies own.frame));
      left = λ f q. c.into_iter-left.ensures.rest ∙ q;
      tasks = λ f q. refl;
      parents = refl;
      offering = refl;
      awaiting = refl;
      unfinished = refl;
      fault = refl;
      used = refl;
      trace = refl;
    }

pub unreachable-requires : goal.unreachable-requires
unreachable-requires c =
    let e = ap length (dropped c.args.branches.now c.loop-number.number-index c.loop-number-test.true) in
    let many = c.loop-number.invariant.many in
    omega (arith, e, many, c.in_default.ensures.cases)

pub returns : goal.returns
returns c = λ f q.
    let inv = c.loop-number.invariant in
    let p = c.args.code.now in
    let none : drop c.loop-number.number-index c.args.branches.now ≡ [] = drop_all c.loop-number.number-index c.args.branches.now (omega (arith, c.loop-number-test.false)) in
    record {
      tasks = sym (ap (λ l. with_branches p.bodies f l c.loop-number.self.tasks.items) none) ∙ inv.tasks f q;
      ready_is = inv.may_begin.ready_is;
      parents = sym (ap (λ l. set_all l (Some c.args.parent) c.loop-number.self.parents.items) none) ∙ inv.parents;
      offering = inv.offering;
      awaiting = inv.awaiting;
      unfinished = inv.unfinished;
      fault = inv.fault;
      used = inv.used;
      trace = inv.trace;
    }
