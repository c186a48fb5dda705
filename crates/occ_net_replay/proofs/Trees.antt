-- Places in the tree of processes: beside each other, and after a change of one process.
use Rattle.std.proofs.Common.{◌≡◌, refl, sym, ap, subst, IsTrue, ℕ, ◌+◌, ◌≤◌, ◌⊎◌, inl, inr, List, Some, arith}
use Rattle.std.specs.Prelude.{slice_get}
use Rattle.std.specs.Bool.{⊤}
use Rattle.occ_term.specs.Processes.{Numbered, numbered}
use Rattle.occ_term.specs.StepUses.{IsPartOf}
use Rattle.occ_term.specs.Steps.{Left}
use Rattle.occ_term.specs.System.{Process, process, Processes, no_processes, and_process}
use Rattle.occ_term.specs.TermTyping.{Declared}
use Rattle.occ_term.specs.Terms.{Term, Branches, no_branches, and_branch}
use Rattle.occ_term.specs.Uses.{Uses, uses_of, uses_of_branches, ApartFromAll}
use Rattle.occ_term.specs.Values.{Store}
use Rattle.occ_machine.specs.SameStop.{used_by}
use Rattle.occ_machine.specs.Compiled.{Program}
use Rattle.occ_net_replay.specs.Replay.{Tasks}
use Rattle.occ_net_replay.specs.Moments.{At, here, below, Among, first, later}
use Rattle.occ_net_replay.proofs.Holding.{SameNumbers, put, put_among, Own, Holds, AllHold, Branched, alone_is, forked_is, branched, branches_placed, used_part}
use Rattle.occ_net_replay.proofs.Placed.{size, BranchesPlaced}
use Rattle.occ_net_replay.proofs.Putting.{In, InAmong, within, within_all, apart_used, apart_written}

-- neither is within the other
abbrev mutual
  pub Beside : {i j : ℕ} {a b : Left} {ps qs : Processes} {q : Process} → At i a ps q → At j b qs q → Type 0
  Beside here y = ⊥
  Beside (below x) here = ⊥
  Beside (below x) (below y) = BesideAmong x y

  pub BesideAmong : {i j : ℕ} {a b : Left} {ps qs rs : Processes} → Among i a ps rs → Among j b qs rs → Type 0
  BesideAmong (first x) (first y) = Beside x y
  BesideAmong (first x) (later y) = ⊤
  BesideAmong (later x) (first y) = ⊤
  BesideAmong (later x) (later y) = BesideAmong x y

in_below : {i m : ℕ} {a : Left} {rs : Processes} → InAmong i rs → In i (process m a rs)
in_below x = record { own = x.own; branches = x.branches; at = below x.at }

in_first : {i : ℕ} {q : Process} {rs : Processes} → In i q → InAmong i (and_process q rs)
in_first x = record { own = x.own; branches = x.branches; at = first x.at }

in_later : {i : ℕ} {q : Process} {rs : Processes} → InAmong i rs → InAmong i (and_process q rs)
in_later x = record { own = x.own; branches = x.branches; at = later x.at }

-- a process that is there after a change of one was there before
mutual
  pub back : {n i : ℕ} {own a : Left} {ps qs : Processes} {q : Process} → (rest : Left) → (z : At n own ps q) → At i a qs (put z rest no_processes) → In i q
  back rest here here = record { own = _; branches = _; at = here }
  back rest here (below y) = elim y [ ]
  back rest (below z) here = record { own = _; branches = _; at = here }
  back rest (below z) (below y) = in_below (back_among rest z y)

  back_among : {n i : ℕ} {own a : Left} {ps qs rs : Processes} → (rest : Left) → (z : Among n own ps rs) → Among i a qs (put_among z rest no_processes) → InAmong i rs
  back_among rest (first z) (first y) = in_first (back rest z y)
  back_among rest (first z) (later y) = record { own = _; branches = _; at = later y }
  back_among rest (later z) (first y) = record { own = _; branches = _; at = first y }
  back_among rest (later z) (later y) = in_later (back_among rest z y)

-- with what is left of it, but for the one that was changed
pub record Was (i n : ℕ) (a rest : Left) (q : Process) : Type 0 where
  pub branches : Processes
  pub at : At i a branches q

record WasAmong (i n : ℕ) (a rest : Left) (qs : Processes) : Type 0 where
  pub branches : Processes
  pub at : Among i a branches qs

was_below : {i n m : ℕ} {a rest b : Left} {qs : Processes} → ((i ≡ n) × (a ≡ rest)) ⊎ WasAmong i n a rest qs → ((i ≡ n) × (a ≡ rest)) ⊎ Was i n a rest (process m b qs)
was_below (inl e) = inl e
was_below (inr x) = inr (record { branches = x.branches; at = below x.at })

was_first : {i n : ℕ} {a rest : Left} {q : Process} {qs : Processes} → ((i ≡ n) × (a ≡ rest)) ⊎ Was i n a rest q → ((i ≡ n) × (a ≡ rest)) ⊎ WasAmong i n a rest (and_process q qs)
was_first (inl e) = inl e
was_first (inr x) = inr (record { branches = x.branches; at = first x.at })

was_later : {i n : ℕ} {a rest : Left} {q : Process} {qs : Processes} → ((i ≡ n) × (a ≡ rest)) ⊎ WasAmong i n a rest qs → ((i ≡ n) × (a ≡ rest)) ⊎ WasAmong i n a rest (and_process q qs)
was_later (inl e) = inl e
was_later (inr x) = inr (record { branches = x.branches; at = later x.at })

mutual
  pub own_back : {n i : ℕ} {own a : Left} {ps qs : Processes} {q : Process} → (rest : Left) → (z : At n own ps q) → At i a qs (put z rest no_processes) → ((i ≡ n) × (a ≡ rest)) ⊎ Was i n a rest q
  own_back rest here here = inl (refl, refl)
  own_back rest here (below y) = elim y [ ]
  own_back rest (below z) here = inr (record { branches = _; at = here })
  own_back rest (below z) (below y) = was_below (own_back_among rest z y)

  own_back_among : {n i : ℕ} {own a : Left} {ps qs rs : Processes} → (rest : Left) → (z : Among n own ps rs) → Among i a qs (put_among z rest no_processes) → ((i ≡ n) × (a ≡ rest)) ⊎ WasAmong i n a rest rs
  own_back_among rest (first z) (first y) = was_first (own_back rest z y)
  own_back_among rest (first z) (later y) = inr (record { branches = _; at = later y })
  own_back_among rest (later z) (first y) = inr (record { branches = _; at = first y })
  own_back_among rest (later z) (later y) = was_later (own_back_among rest z y)

pub record Both (i j : ℕ) (q : Process) : Type 0 where
  pub one : Left
  pub two : Left
  pub ones : Processes
  pub twos : Processes
  pub x : At i one ones q
  pub y : At j two twos q
  pub apart : Beside x y

record BothAmong (i j : ℕ) (rs : Processes) : Type 0 where
  pub one : Left
  pub two : Left
  pub ones : Processes
  pub twos : Processes
  pub x : Among i one ones rs
  pub y : Among j two twos rs
  pub apart : BesideAmong x y

both_below : {i j m : ℕ} {a : Left} {rs : Processes} → BothAmong i j rs → Both i j (process m a rs)
both_below r = record { one = r.one; two = r.two; ones = r.ones; twos = r.twos; x = below r.x; y = below r.y; apart = r.apart }

both_first : {i j : ℕ} {q : Process} {rs : Processes} → Both i j q → BothAmong i j (and_process q rs)
both_first r = record { one = r.one; two = r.two; ones = r.ones; twos = r.twos; x = first r.x; y = first r.y; apart = r.apart }

both_later : {i j : ℕ} {q : Process} {rs : Processes} → BothAmong i j rs → BothAmong i j (and_process q rs)
both_later r = record { one = r.one; two = r.two; ones = r.ones; twos = r.twos; x = later r.x; y = later r.y; apart = r.apart }

one_first : {i j : ℕ} {q : Process} {rs : Processes} → In i q → InAmong j rs → BothAmong i j (and_process q rs)
one_first a b = record { one = a.own; two = b.own; ones = a.branches; twos = b.branches; x = first a.at; y = later b.at; apart = tt }

one_later : {i j : ℕ} {q : Process} {rs : Processes} → InAmong i rs → In j q → BothAmong i j (and_process q rs)
one_later a b = record { one = a.own; two = b.own; ones = a.branches; twos = b.branches; x = later a.at; y = first b.at; apart = tt }

-- what is beside after a change of one process was beside before
mutual
  pub both_back : {n i j : ℕ} {own a b : Left} {os ps qs : Processes} {q : Process} → (rest : Left) → (z : At n own os q) → (x : At i a ps (put z rest no_processes)) → (y : At j b qs (put z rest no_processes)) → Beside x y → Both i j q
  both_back rest here here y h = absurd h
  both_back rest here (below x) y h = elim x [ ]
  both_back rest (below z) here y h = absurd h
  both_back rest (below z) (below x) here h = absurd h
  both_back rest (below z) (below x) (below y) h = both_below (both_back_among rest z x y h)

  both_back_among : {n i j : ℕ} {own a b : Left} {os ps qs rs : Processes} → (rest : Left) → (z : Among n own os rs) → (x : Among i a ps (put_among z rest no_processes)) → (y : Among j b qs (put_among z rest no_processes)) → BesideAmong x y → BothAmong i j rs
  both_back_among rest (first z) (first x) (first y) h = both_first (both_back rest z x y h)
  both_back_among rest (first z) (first x) (later y) h = one_first (back rest z x) (record { own = _; branches = _; at = y })
  both_back_among rest (first z) (later x) (first y) h = one_later (record { own = _; branches = _; at = x }) (back rest z y)
  both_back_among rest (first z) (later x) (later y) h = both_later (record { one = _; two = _; ones = _; twos = _; x = x; y = y; apart = h })
  both_back_among rest (later z) (first x) (first y) h = both_first (record { one = _; two = _; ones = _; twos = _; x = x; y = y; apart = h })
  both_back_among rest (later z) (first x) (later y) h = one_first (record { own = _; branches = _; at = x }) (back_among rest z y)
  both_back_among rest (later z) (later x) (first y) h = one_later (back_among rest z x) (record { own = _; branches = _; at = y })
  both_back_among rest (later z) (later x) (later y) h = both_later (both_back_among rest z x y h)

-- a process with one of its number inside it
pub record Around (n : ℕ) (q : Process) : Type 0 where
  pub own : Left
  pub branches : Processes
  pub at : At n own branches q
  pub inside : InAmong n branches

record AroundAmong (n : ℕ) (qs : Processes) : Type 0 where
  pub own : Left
  pub branches : Processes
  pub at : Among n own branches qs
  pub inside : InAmong n branches

around_below : {i m : ℕ} {a : Left} {rs : Processes} → AroundAmong i rs → Around i (process m a rs)
around_below r = record { own = r.own; branches = r.branches; at = below r.at; inside = r.inside }

around_first : {i : ℕ} {q : Process} {rs : Processes} → Around i q → AroundAmong i (and_process q rs)
around_first r = record { own = r.own; branches = r.branches; at = first r.at; inside = r.inside }

around_later : {i : ℕ} {q : Process} {rs : Processes} → AroundAmong i rs → AroundAmong i (and_process q rs)
around_later r = record { own = r.own; branches = r.branches; at = later r.at; inside = r.inside }

mutual
  pub inside_back : {n i : ℕ} {own a b : Left} {os ps qs : Processes} {q : Process} → (rest : Left) → (z : At n own os q) → At i a ps (put z rest no_processes) → Among i b qs ps → Around i q
  inside_back rest here here w = elim w [ ]
  inside_back rest here (below x) w = elim x [ ]
  inside_back rest (below z) here w = record { own = _; branches = _; at = here; inside = back_among rest z w }
  inside_back rest (below z) (below x) w = around_below (inside_back_among rest z x w)

  inside_back_among : {n i : ℕ} {own a b : Left} {os ps qs rs : Processes} → (rest : Left) → (z : Among n own os rs) → Among i a ps (put_among z rest no_processes) → Among i b qs ps → AroundAmong i rs
  inside_back_among rest (first z) (first x) w = around_first (inside_back rest z x w)
  inside_back_among rest (first z) (later x) w = record { own = _; branches = _; at = later x; inside = record { own = _; branches = _; at = w } }
  inside_back_among rest (later z) (first x) w = record { own = _; branches = _; at = first x; inside = record { own = _; branches = _; at = w } }
  inside_back_among rest (later z) (later x) w = around_later (inside_back_among rest z x w)

-- ---- one place for each number

pub record SamePlace {n m : ℕ} {own a : Left} {ps qs : Processes} {q : Process} (x : At n own ps q) (y : At m a qs q) : Type 0 where
  pub own_is : own ≡ a
  pub branches_are : ps ≡ qs
  pub puts : (new : Left) (kids : Processes) → put x new kids ≡ put y new kids

record SamePlaceAmong {n m : ℕ} {own a : Left} {ps qs rs : Processes} (x : Among n own ps rs) (y : Among m a qs rs) : Type 0 where
  pub own_is : own ≡ a
  pub branches_are : ps ≡ qs
  pub puts : (new : Left) (kids : Processes) → put_among x new kids ≡ put_among y new kids

mutual
  pub same_place : {n m : ℕ} {own a : Left} {ps qs : Processes} {q : Process} → (x : At n own ps q) (y : At m a qs q) → (Both n m q → ⊥) → ((b : Left) (rs : Processes) → At n b rs q → InAmong m rs → ⊥) → ((b : Left) (rs : Processes) → At m b rs q → InAmong n rs → ⊥) → SamePlace x y
  same_place here here f g h = record { own_is = refl; branches_are = refl; puts = λ new kids. refl }
  same_place here (below y) f g h = absurd (g _ _ here (record { own = _; branches = _; at = y }))
  same_place (below x) here f g h = absurd (h _ _ here (record { own = _; branches = _; at = x }))
  same_place (below {m = i} {a = b} x) (below y) f g h =
      let r = same_place_among x y (λ z. f (both_below z)) (λ c rs z w. g c rs (below z) w) (λ c rs z w. h c rs (below z) w) in
      record { own_is = r.own_is; branches_are = r.branches_are; puts = λ new kids. ap (process i b) (r.puts new kids) }

  same_place_among : {n m : ℕ} {own a : Left} {ps qs rs : Processes} → (x : Among n own ps rs) (y : Among m a qs rs) → (BothAmong n m rs → ⊥) → ((b : Left) (ts : Processes) → Among n b ts rs → InAmong m ts → ⊥) → ((b : Left) (ts : Processes) → Among m b ts rs → InAmong n ts → ⊥) → SamePlaceAmong x y
  same_place_among (first {qs = others} x) (first y) f g h =
      let r = same_place x y (λ z. f (both_first z)) (λ c rs z w. g c rs (first z) w) (λ c rs z w. h c rs (first z) w) in
      record { own_is = r.own_is; branches_are = r.branches_are; puts = λ new kids. ap (λ z. and_process z others) (r.puts new kids) }
  same_place_among (first x) (later y) f g h = absurd (f (one_first (record { own = _; branches = _; at = x }) (record { own = _; branches = _; at = y })))
  same_place_among (later x) (first y) f g h = absurd (f (one_later (record { own = _; branches = _; at = x }) (record { own = _; branches = _; at = y })))
  same_place_among (later {p = p} x) (later y) f g h =
      let r = same_place_among x y (λ z. f (both_later z)) (λ c rs z w. g c rs (later z) w) (λ c rs z w. h c rs (later z) w) in
      record { own_is = r.own_is; branches_are = r.branches_are; puts = λ new kids. ap (and_process p) (r.puts new kids) }

-- ---- what is left of a process after a change of one, with its new branches

pub data OwnAfter (n i : ℕ) (a new : Left) (kids : Processes) (q : Process) : Type 0 where
  is_new : i ≡ n → a ≡ new → OwnAfter n i a new kids q
  is_kid : {ps : Processes} → Among i a ps kids → OwnAfter n i a new kids q
  is_old : {ps : Processes} → At i a ps q → OwnAfter n i a new kids q

data OwnAmong (n i : ℕ) (a new : Left) (kids : Processes) (qs : Processes) : Type 0 where
  are_new : i ≡ n → a ≡ new → OwnAmong n i a new kids qs
  are_kid : {ps : Processes} → Among i a ps kids → OwnAmong n i a new kids qs
  are_old : {ps : Processes} → Among i a ps qs → OwnAmong n i a new kids qs

own_below : {n i m : ℕ} {a new b : Left} {kids qs : Processes} → OwnAmong n i a new kids qs → OwnAfter n i a new kids (process m b qs)
own_below (are_new g e) = is_new g e
own_below (are_kid x) = is_kid x
own_below (are_old x) = is_old (below x)

own_first : {n i : ℕ} {a new : Left} {kids qs : Processes} {q : Process} → OwnAfter n i a new kids q → OwnAmong n i a new kids (and_process q qs)
own_first (is_new g e) = are_new g e
own_first (is_kid x) = are_kid x
own_first (is_old x) = are_old (first x)

own_later : {n i : ℕ} {a new : Left} {kids qs : Processes} {q : Process} → OwnAmong n i a new kids qs → OwnAmong n i a new kids (and_process q qs)
own_later (are_new g e) = are_new g e
own_later (are_kid x) = are_kid x
own_later (are_old x) = are_old (later x)

mutual
  pub own_after : {n i : ℕ} {own a : Left} {ps qs : Processes} {q : Process} → (new : Left) (kids : Processes) (z : At n own ps q) → At i a qs (put z new kids) → OwnAfter n i a new kids q
  own_after new kids here here = is_new refl refl
  own_after new kids here (below y) = is_kid y
  own_after new kids (below z) here = is_old here
  own_after new kids (below z) (below y) = own_below (own_after_among new kids z y)

  own_after_among : {n i : ℕ} {own a : Left} {ps qs rs : Processes} → (new : Left) (kids : Processes) (z : Among n own ps rs) → Among i a qs (put_among z new kids) → OwnAmong n i a new kids rs
  own_after_among new kids (first z) (first y) = own_first (own_after new kids z y)
  own_after_among new kids (first z) (later y) = are_old (later y)
  own_after_among new kids (later z) (first y) = are_old (first y)
  own_after_among new kids (later z) (later y) = own_later (own_after_among new kids z y)

-- ---- two changes in the other order

abbrev mutual
  pub at_now : {n : ℕ} {own : Left} {ps : Processes} {q : Process} → (x : At n own ps q) (next : Left) (others : Processes) → At n next others (put x next others)
  at_now here next others = here
  at_now (below x) next others = below (among_now x next others)

  pub among_now : {n : ℕ} {own : Left} {ps qs : Processes} → (x : Among n own ps qs) (next : Left) (others : Processes) → Among n next others (put_among x next others)
  among_now (first x) next others = first (at_now x next others)
  among_now (later x) next others = later (among_now x next others)

mutual
  pub put_again : {n : ℕ} {own : Left} {ps : Processes} {q : Process} → (x : At n own ps q) (a b : Left) (ks ls : Processes) → put (at_now x a ks) b ls ≡ put x b ls
  put_again here a b ks ls = refl
  put_again (below {m = m} {a = c} x) a b ks ls = ap (process m c) (put_again_among x a b ks ls)

  put_again_among : {n : ℕ} {own : Left} {ps qs : Processes} → (x : Among n own ps qs) (a b : Left) (ks ls : Processes) → put_among (among_now x a ks) b ls ≡ put_among x b ls
  put_again_among (first {qs = others} x) a b ks ls = ap (λ z. and_process z others) (put_again x a b ks ls)
  put_again_among (later {p = p} x) a b ks ls = ap (and_process p) (put_again_among x a b ks ls)

pub record Again (m : ℕ) (own : Left) (ps : Processes) (rest : Left) (base goal : Process) : Type 0 where
  pub x : At m own ps base
  pub same : put x rest no_processes ≡ goal

record AgainAmong (m : ℕ) (own : Left) (ps : Processes) (rest : Left) (base goal : Processes) : Type 0 where
  pub x : Among m own ps base
  pub same : put_among x rest no_processes ≡ goal

-- the second place stands beside the first one before both changes, and the first one behind the second change
pub record Across {m n : ℕ} {own two : Left} {ps qs : Processes} {q : Process} (rest : Left) (x : At m own ps q) (y : At n two qs (put x rest no_processes)) : Type 0 where
  pub place : At n two qs q
  pub apart : Beside x place
  pub again : (new : Left) (kids : Processes) → Again m own ps rest (put place new kids) (put y new kids)

record AcrossAmong {m n : ℕ} {own two : Left} {ps qs rs : Processes} (rest : Left) (x : Among m own ps rs) (y : Among n two qs (put_among x rest no_processes)) : Type 0 where
  pub place : Among n two qs rs
  pub apart : BesideAmong x place
  pub again : (new : Left) (kids : Processes) → AgainAmong m own ps rest (put_among place new kids) (put_among y new kids)

mutual
  pub across : {m n : ℕ} {own two : Left} {ps qs : Processes} {q : Process} → (rest : Left) (x : At m own ps q) (y : At n two qs (put x rest no_processes)) → (n ≡ m → ⊥) → (Among m rest no_processes qs → ⊥) → Across rest x y
  across rest here here f g = absurd (f refl)
  across rest here (below y) f g = elim y [ ]
  across rest (below x) here f g = absurd (g (among_now x rest no_processes))
  across rest (below {m = i} {a = a} x) (below y) f g =
      let r = across_among rest x y f g in
      record { place = below r.place; apart = r.apart; again = λ new kids. let z = r.again new kids in record { x = below z.x; same = ap (process i a) z.same } }

  across_among : {m n : ℕ} {own two : Left} {ps qs rs : Processes} → (rest : Left) (x : Among m own ps rs) (y : Among n two qs (put_among x rest no_processes)) → (n ≡ m → ⊥) → (Among m rest no_processes qs → ⊥) → AcrossAmong rest x y
  across_among rest (first {qs = others} x) (first y) f g =
      let r = across rest x y f g in
      record { place = first r.place; apart = r.apart; again = λ new kids. let z = r.again new kids in record { x = first z.x; same = ap (λ w. and_process w others) z.same } }
  across_among rest (first x) (later y) f g = record { place = later y; apart = tt; again = λ new kids. record { x = first x; same = refl } }
  across_among rest (later x) (first y) f g = record { place = first y; apart = tt; again = λ new kids. record { x = later x; same = refl } }
  across_among rest (later {p = p} x) (later y) f g =
      let r = across_among rest x y f g in
      record { place = later r.place; apart = r.apart; again = λ new kids. let z = r.again new kids in record { x = later z.x; same = ap (and_process p) z.same } }

-- ---- what the usage rules keep apart

pub record CellsApart (a b : Uses) : Type 0 where
  pub one : (c : ℕ) → IsTrue (a.writes c) → IsTrue (used_by b c) → ⊥
  pub two : (c : ℕ) → IsTrue (b.writes c) → IsTrue (used_by a c) → ⊥

pub record Sided (n i : ℕ) (t u : Term) : Type 0 where
  pub cells : CellsApart (uses_of t) (uses_of u)
  pub order : (n + 1 + size t ≤ i) ⊎ (i + 1 + size u ≤ n)

module _ (d : Declared) (p : Program) (procs : List Numbered) (k : ℕ) (s : Store) (tasks : Tasks) where
  cells_apart : (v : Term) (bs : Branches) → ApartFromAll (uses_of v) bs → (a b : Term) → IsPartOf (uses_of a) (uses_of v) → IsPartOf (uses_of b) (uses_of_branches bs) → CellsApart (uses_of a) (uses_of b)
  cells_apart v bs h a b x y =
      record {
        one = λ c w u. apart_used (uses_of v) bs c h (x.writes c w) (used_part d p procs (uses_of b) (uses_of_branches bs) y c u);
        two = λ c w u. apart_written (uses_of v) bs c h (used_part d p procs (uses_of a) (uses_of v) x c u) (y.writes c w);
      }

  turned_round : (a b : Uses) → CellsApart a b → CellsApart b a
  turned_round a b h = record { one = h.two; two = h.one }

  first_and_later : (n i : ℕ) (t u : Term) {own other : Left} {ps qs : Processes} (entry : slice_get procs n ≡ Some (numbered n t)) (entry' : slice_get procs i ≡ Some (numbered i u)) (j c : ℕ) (v : Term) (a : Left) (rs xs : Processes) (bs : Branches) (hi : ℕ) → j ≡ c → slice_get procs c ≡ Some (numbered c v) → ApartFromAll (uses_of v) bs → BranchesPlaced procs (c + 1 + size v) hi bs → SameNumbers bs xs → Holds d p procs k s tasks (process j a rs) → AllHold d p procs k s tasks xs → At n own ps (process j a rs) → Among i other qs xs → Sided n i t u
  first_and_later n i t u entry entry' j c v a rs xs bs hi at e h b z holds all x y =
      let w = within d p procs k s tasks x holds t v entry (subst (λ g. slice_get procs g ≡ Some (numbered g v)) (sym at) e) in
      let l = within_all d p procs k s tasks y bs (c + 1 + size v) hi all z b u entry' in
      let top = w.below_end in
      let low = l.from in
      record { cells = cells_apart v bs h t u w.part l.part; order = inl (omega (arith, at, top, low)) }

  other_side : {n i : ℕ} {t u : Term} → Sided n i t u → Sided i n u t
  other_side {n = n} {i = i} {t = t} {u = u} x = record { cells = turned_round (uses_of t) (uses_of u) x.cells; order = by x.order }
    where
      by : (n + 1 + size t ≤ i) ⊎ (i + 1 + size u ≤ n) → (i + 1 + size u ≤ n) ⊎ (n + 1 + size t ≤ i)
      by (inl e) = inr e
      by (inr e) = inl e

  pub below_one : {n : ℕ} {own : Left} {ps : Processes} (X : Type 0) (m : ℕ) (a : Left) (xs : Processes) → Among n own ps xs → (o : Own d p procs k s tasks m a xs) → Branched d p procs a xs → ((bs : Branches) → SameNumbers bs xs → BranchesPlaced procs (m + 1) (m + 1 + size o.belongs.term) bs → X) → X
  below_one X m a xs x o alone_is g = elim x [ ]
  below_one X m a xs x o (forked_is {bs = bs} e z) g = g bs z (branches_placed d p procs (m + 1) (m + 1 + size o.belongs.term) e o.placed)

  mutual
    pub beside_apart : (n i : ℕ) (t u : Term) {own other : Left} {ps qs : Processes} {q : Process} → slice_get procs n ≡ Some (numbered n t) → slice_get procs i ≡ Some (numbered i u) → (x : At n own ps q) → (y : At i other qs q) → Beside x y → Holds d p procs k s tasks q → Sided n i t u
    beside_apart n i t u e f here y g h = absurd g
    beside_apart n i t u e f (below x) here g h = absurd g
    beside_apart n i t u e f (below {m = m} {a = a} {qs = xs} x) (below y) g h =
        below_one (Sided n i t u) m a xs x h.0 (branched d p procs h.0.stands) (λ bs z b. beside_among n i t u e f bs (m + 1) (m + 1 + size h.0.belongs.term) x y g b z h.1)

    beside_among : (n i : ℕ) (t u : Term) {own other : Left} {ps qs xs : Processes} → slice_get procs n ≡ Some (numbered n t) → slice_get procs i ≡ Some (numbered i u) → (bs : Branches) (lo hi : ℕ) → (x : Among n own ps xs) → (y : Among i other qs xs) → BesideAmong x y → BranchesPlaced procs lo hi bs → SameNumbers bs xs → AllHold d p procs k s tasks xs → Sided n i t u
    beside_among n i t u e f no_branches lo hi (first x) y g b z h = absurd z
    beside_among n i t u e f no_branches lo hi (later x) y g b z h = absurd z
    beside_among n i t u e f (and_branch c v bs) lo hi (first x) (first y) g b z h = beside_apart n i t u e f x y g h.0
    beside_among n i t u e f (and_branch c v bs) lo hi (first {p = process j a rs} {qs = xs} x) (later y) g b z h = first_and_later n i t u e f j c v a rs xs bs hi z.0 b.1 b.3 b.4 z.1 h.0 h.1 x y
    beside_among n i t u e f (and_branch c v bs) lo hi (later {p = process j a rs} {qs = xs} x) (first y) g b z h = other_side (first_and_later i n u t f e j c v a rs xs bs hi z.0 b.1 b.3 b.4 z.1 h.0 h.1 y x)
    beside_among n i t u e f (and_branch c v bs) lo hi (later {p = process j a rs} x) (later y) g b z h = beside_among n i t u e f bs (c + 1 + size v) hi x y g b.4 z.1 h.1
