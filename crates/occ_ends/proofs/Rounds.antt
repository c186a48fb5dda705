-- Circles in the graph of who waits for whom.
use Rattle.std.proofs.Common.{IsTrue, List, Some, [], ◌∷◌, ◌++◌, ◌+◌, ◌<◌, ◌≡◌, ◌≤◌, ◌∙◌, ◌⊎◌, ap, arith, false, inl, inr, length, map, refl, subst, suc, sym, true, zero, ℕ}
use Rattle.std.specs.Prelude.{All, if◌then◌else◌, nat_eq, nat_lt, slice_get, ◌%◌}
use Rattle.std.proofs.lemmas.Bool.Decides.{nat_tests}
use Rattle.std.proofs.lemmas.List.{length-append, length-map}
use Rattle.std.proofs.Math.Nat.{mod-eq_of_lt, mod_self}
use Rattle.std.proofs.lemmas.Nat.{mod_below}
use Rattle.occ_term.specs.Frames.{is_held}
use Rattle.std.proofs.lemmas.Bool.{eqb-true}
use Rattle.occ_net_replay.proofs.Tables.{or_else}
use Rattle.occ_net_tables.proofs.Keys.{first_held, later_held}
use Rattle.occ_explore_laws.specs.declared.graph.Edge.{Edge}
use Rattle.occ_explore_laws.specs.Walks.{Fan, HasWalk, IsEdge, IsGraph, IsLongest, IsRound, IsWalk, led_to}
use Rattle.occ_explore_laws.proofs.Lists.{get_inside, get_some, get_there, one_some, push_cases, push_keeps, push_last, same_or_other}
use Rattle.occ_ends.specs.Ends.{AreWaits, LeadWithin, Circles, IsCircle, IsFanOf, IsRing, IsRoot, edge_to, edges_to}

pub lt_or_le : (n e : ℕ) → (n < e) ⊎ (e ≤ n)
lt_or_le zero zero = inr (omega arith)
lt_or_le zero (suc e) = inl (omega arith)
lt_or_le (suc n) zero = inr (omega arith)
lt_or_le (suc n) (suc e) = elim (lt_or_le n e) [ inl h ↦ inl (omega (arith, h)) | inr h ↦ inr (omega (arith, h)) ]

plus_one : (k : ℕ) → k + 1 ≡ suc k
plus_one k = omega arith

-- ---- the edges of a node

-- an edge of a process that waits: who it is, and for whom
record Tells (others : ℕ → List ℕ) (below n : ℕ) (e : Edge) : Type 0 where
  other : ℕ
  who : e.choice.which ≡ n
  to : e.to ≡ suc other
  waits : IsTrue (is_held (others n) other)
  single : e.behind ≡ 0
  within : other < below

near_is : (m below : ℕ) → m < below → nat_lt m below ≡ true
near_is m below h = grind (arith, nat_tests)

far_is : (m below : ℕ) → below ≤ m → nat_lt m below ≡ false
far_is m below h = grind (arith, nat_tests)

tells_among : (others : ℕ → List ℕ) {below n : ℕ} (xs : List ℕ) → ((k : ℕ) → IsTrue (is_held xs k) → IsTrue (is_held (others n) k)) → (place : ℕ) (e : Edge) → slice_get (edges_to n xs below) place ≡ Some e → Tells others below n e
tells_among others [] held place e there = absurd cc
tells_among others {below} {n} (m ∷ ms) held place e there =
    by (lt_or_le m below) (λ place e there. tells_among others ms (λ k h. held k (later_held m k ms h)) place e there) place there
  where
    by : (m < below) ⊎ (below ≤ m) → ((place : ℕ) (e : Edge) → slice_get (edges_to n ms below) place ≡ Some e → Tells others below n e) → (place : ℕ) → slice_get (edges_to n (m ∷ ms) below) place ≡ Some e → Tells others below n e
    by (inl near) again place there = one place (subst (λ b. slice_get ((if b then edge_to n m ∷ [] else []) ++ edges_to n ms below) place ≡ Some e) (near_is m below near) there)
      where
        one : (place : ℕ) → slice_get (edge_to n m ∷ edges_to n ms below) place ≡ Some e → Tells others below n e
        one zero there =
            let same : edge_to n m ≡ e = one_some there in
            record { other = m; who = sym (ap (λ x. x.choice.which) same); to = sym (ap (λ x. x.to) same) ∙ plus_one m; waits = held m (first_held m ms); single = sym (ap (λ x. x.behind) same); within = near }
        one (suc place) there = again place e there
    by (inr far) again place there = again place e (subst (λ b. slice_get ((if b then edge_to n m ∷ [] else []) ++ edges_to n ms below) place ≡ Some e) (far_is m below far) there)

held_later : (x other : ℕ) (xs : List ℕ) → (x ≡ other → ⊥) → IsTrue (is_held (x ∷ xs) other) → IsTrue (is_held xs other)
held_later x other xs apart h = elim (or_else (nat_eq x other) (is_held xs other) h) [ inl e ↦ absurd (apart (eqb-true x other e)) | inr e ↦ e ]

-- such an edge is one of them
edge_among : (n below other : ℕ) (xs : List ℕ) → other < below → IsTrue (is_held xs other) → (place : ℕ) × (slice_get (edges_to n xs below) place ≡ Some (edge_to n other))
edge_among n below other [] near h = absurd cc
edge_among n below other (x ∷ xs) near h = by (same_or_other x other) (λ h. edge_among n below other xs near h)
  where
    by : (x ≡ other) ⊎ (x ≡ other → ⊥) → (IsTrue (is_held xs other) → (place : ℕ) × (slice_get (edges_to n xs below) place ≡ Some (edge_to n other)))
        → (place : ℕ) × (slice_get (edges_to n (x ∷ xs) below) place ≡ Some (edge_to n other))
    by (inl e) again =
        let test : nat_lt x below ≡ true = near_is x below (let lt = near in omega (arith, lt, e)) in
        (0, ap (λ b. slice_get ((if b then edge_to n x ∷ [] else []) ++ edges_to n xs below) 0) test ∙ ap (λ k. Some (edge_to n k)) e)
    by (inr apart) again = shift (again (held_later x other xs apart h)) (lt_or_le x below)
      where
        shift : (place : ℕ) × (slice_get (edges_to n xs below) place ≡ Some (edge_to n other)) → (x < below) ⊎ (below ≤ x) → (place : ℕ) × (slice_get (edges_to n (x ∷ xs) below) place ≡ Some (edge_to n other))
        shift y (inl lt) = (suc y.0, ap (λ b. slice_get ((if b then edge_to n x ∷ [] else []) ++ edges_to n xs below) (suc y.0)) (near_is x below lt) ∙ y.1)
        shift y (inr le) = (y.0, ap (λ b. slice_get ((if b then edge_to n x ∷ [] else []) ++ edges_to n xs below) y.0) (far_is x below le) ∙ y.1)

module _ {others : ℕ → List ℕ} {below : ℕ} {fans : List Fan} (w : AreWaits others below below fans) where
  -- a node of a process
  tells : (n : ℕ) (e : Edge) → IsEdge fans (suc n) e → Tells others below n e
  tells n e is =
      let inside : suc n < length fans = get_inside fans (suc n) is.fan is.there in
      let near : n < below = omega (arith, inside, w.many) in
      let f = w.each n near in
      let same : f.fan ≡ is.fan = one_some (sym f.there ∙ ap (slice_get fans) (plus_one n) ∙ is.there) in
      let there : slice_get (edges_to n (others n) below) is.place ≡ Some e = ap (λ l. slice_get l is.place) (sym f.is ∙ same) ∙ is.is in
      tells_among others (others n) (λ k h. h) is.place e there

  -- where a walk has come to that has begun
  end_some : (n : ℕ) (es : List Edge) → IsWalk fans (suc n) es → (x : ℕ) × (led_to (suc n) es ≡ suc x)
  end_some n [] walk = (n, refl)
  end_some n (e ∷ es) walk =
      let t = tells n e walk.0 in
      let rest = end_some t.other es (subst (λ k. IsWalk fans k es) t.to walk.1) in
      (rest.0, ap (λ k. led_to k es) t.to ∙ rest.1)

  root_to : (e : Edge) → IsEdge fans 0 e → (x : ℕ) × (e.to ≡ suc x)
  root_to e is =
      let same : w.root ≡ is.fan = one_some (sym w.first ∙ is.there) in
      let there : slice_get w.root is.place ≡ Some e = ap (λ x. slice_get x is.place) same ∙ is.is in
      let inside : is.place < length w.root = get_inside w.root is.place e there in
      let near : is.place < below = omega (arith, inside, w.is_root.many) in
      let found : edge_to is.place is.place ≡ e = one_some (sym (w.is_root.are is.place near) ∙ there) in
      (is.place, sym (ap (λ x. x.to) found) ∙ plus_one is.place)

  -- some edges from anywhere lead to a process
  leads : (k : ℕ) (e : Edge) (es : List Edge) → IsWalk fans k (e ∷ es) → (x : ℕ) × (led_to k (e ∷ es) ≡ suc x)
  leads zero e es walk =
      let first = root_to e walk.0 in
      let rest = end_some first.0 es (subst (λ k. IsWalk fans k es) first.1 walk.1) in
      (rest.0, ap (λ k. led_to k es) first.1 ∙ rest.1)
  leads (suc n) e es walk = end_some n (e ∷ es) walk

  -- ---- along a walk each process waits for the next

  abbrev whos : List Edge → List ℕ
  whos es = map (λ e. e.choice.which) es

  first_who : (a b : ℕ) (es : List Edge) → IsWalk fans (suc a) es → led_to (suc a) es ≡ suc b → slice_get (whos es ++ b ∷ []) 0 ≡ Some a
  first_who a b [] walk end = let same : a ≡ b = cc in ap Some (sym same)
  first_who a b (e ∷ es) walk end = ap Some (tells a e walk.0).who

  along : (a b : ℕ) (es : List Edge) → IsWalk fans (suc a) es → led_to (suc a) es ≡ suc b → (i m k : ℕ) → slice_get (whos es) i ≡ Some m → slice_get (whos es ++ b ∷ []) (suc i) ≡ Some k → IsTrue (is_held (others m) k)
  along a b [] walk end i m k there next = absurd cc
  along a b (e ∷ es) walk end zero m k there next =
      let t = tells a e walk.0 in
      let same : a ≡ m = sym t.who ∙ one_some there in
      let rest : IsWalk fans (suc t.other) es = subst (λ k. IsWalk fans k es) t.to walk.1 in
      let is : t.other ≡ k = one_some (sym (first_who t.other b es rest (ap (λ k. led_to k es) (sym t.to) ∙ end)) ∙ next) in
      subst (λ x. IsTrue (is_held (others x) k)) same (subst (λ x. IsTrue (is_held (others a) x)) is t.waits)
  along a b (e ∷ es) walk end (suc i) m k there next =
      let t = tells a e walk.0 in
      let rest : IsWalk fans (suc t.other) es = subst (λ k. IsWalk fans k es) t.to walk.1 in
      along t.other b es rest (ap (λ k. led_to k es) (sym t.to) ∙ end) i m k there next

  -- ---- a way round is a circle

  push_inside : (xs : List ℕ) (x i : ℕ) → i < length xs → slice_get (xs ++ x ∷ []) i ≡ slice_get xs i
  push_inside [] x i h = absurd (omega (arith, h))
  push_inside (y ∷ xs) x zero h = refl
  push_inside (y ∷ xs) x (suc i) h = push_inside xs x i (omega (arith, h))

  push_end : (xs : List ℕ) (x : ℕ) → slice_get (xs ++ x ∷ []) (length xs) ≡ Some x
  push_end [] x = refl
  push_end (y ∷ xs) x = push_end xs x

  turned : (ws : List ℕ) (a i : ℕ) → slice_get (ws ++ a ∷ []) 0 ≡ Some a → i < length ws → slice_get (ws ++ a ∷ []) (suc i) ≡ slice_get ws ((i + 1) % length ws)
  turned ws a i start inside = by (lt_or_le (suc i) (length ws))
    where
      plus : i + 1 ≡ suc i
      plus = omega arith

      by : (suc i < length ws) ⊎ (length ws ≤ suc i) → slice_get (ws ++ a ∷ []) (suc i) ≡ slice_get ws ((i + 1) % length ws)
      by (inl near) = push_inside ws a (suc i) near ∙ ap (slice_get ws) (sym (ap (λ k. k % length ws) plus ∙ mod-eq_of_lt near))
      by (inr past) =
          let is : suc i ≡ length ws = omega (arith, inside, past) in
          let zero_is : (i + 1) % length ws ≡ 0 = ap (λ k. k % length ws) (plus ∙ is) ∙ mod_self (length ws) in
          let some : 0 < length ws = omega (arith, inside) in
          ap (slice_get (ws ++ a ∷ [])) is ∙ push_end ws a ∙ sym (sym (push_inside ws a 0 some) ∙ start) ∙ ap (slice_get ws) (sym zero_is)

  circles_from : (a : ℕ) (es : List Edge) → IsWalk fans (suc a) es → led_to (suc a) es ≡ suc a → Circles others (whos es)
  circles_from a es walk back i m k there next =
      along a a es walk back i m k there (turned (whos es) a i (first_who a a es walk back) (get_inside (whos es) i m there) ∙ next)

  round_circles : (v : ℕ) (es : List Edge) → 0 < length es → IsWalk fans v es → led_to v es ≡ v → Circles others (whos es)
  round_circles v [] some walk back = absurd (omega (arith, some))
  round_circles v (e ∷ es) some walk back =
      let led = leads v e es walk in
      let is : v ≡ suc led.0 = sym back ∙ led.1 in
      circles_from led.0 (e ∷ es) (subst (λ k. IsWalk fans k (e ∷ es)) is walk) (subst (λ k. led_to k (e ∷ es) ≡ k) is back)

  pub found_circle : (way round : List Edge) → IsRound fans way round → Circles others (map (λ e. e.choice.which) round)
  found_circle way round r = round_circles (led_to 0 way) round r.some r.leaves r.returns

  -- ---- round a circle there are walks of any length

  all_at : (ms : List ℕ) (i m : ℕ) → All (λ x. x < below) ms → slice_get ms i ≡ Some m → m < below
  all_at ms i m h there =
      let inside : i < length ms = get_inside ms i m there in
      subst (λ k. k < below) (one_some (sym (get_there ms i m inside) ∙ there)) (h i m inside)

  waits_edge : (m other : ℕ) → m < below → other < below → IsTrue (is_held (others m) other) → IsEdge fans (suc m) (edge_to m other)
  waits_edge m other near within is =
      let f = w.each m near in
      let x = edge_among m below other (others m) within is in
      let plus : m + 1 ≡ suc m = omega arith in
      record { fan = f.fan; place = x.0; there = ap (slice_get fans) (sym plus) ∙ f.there; is = ap (λ l. slice_get l x.0) f.is ∙ x.1 }

  round_walk : (ms : List ℕ) → Circles others ms → All (λ x. x < below) ms → (many i m : ℕ) → slice_get ms i ≡ Some m → HasWalk fans (suc m) many
  round_walk ms c all zero i m there = record { edges = []; walk = tt; as_many = refl }
  round_walk ms c all (suc many) i m there =
      let inside : i < length ms = get_inside ms i m there in
      let some : 0 < length ms = omega (arith, inside) in
      let j = (i + 1) % length ms in
      let near : j < length ms = mod_below (i + 1) (length ms) some in
      let got = get_some ms j near in
      let is : IsTrue (is_held (others m) got.0) = c i m got.0 there got.1 in
      let rest = round_walk ms c all many j got.0 got.1 in
      let edge = waits_edge m got.0 (all_at ms i m all there) (all_at ms j got.0 all got.1) is in
      let to : suc got.0 ≡ got.0 + 1 = omega arith in
      record { edges = edge_to m got.0 ∷ rest.edges; walk = (edge, subst (λ k. IsWalk fans k rest.edges) to rest.walk); as_many = let h = rest.as_many in omega (arith, h) }

  pub no_circle : (many : ℕ) → IsLongest fans 0 many → (ms : List ℕ) → Circles others ms → All (λ x. x < below) ms → ms ≡ []
  no_circle many longest [] c all = refl
  no_circle many longest (m ∷ ms) c all =
      let rest = round_walk (m ∷ ms) c all many 0 m refl in
      let near : m < below = all_at (m ∷ ms) 0 m all refl in
      let first : IsEdge fans 0 (edge_to m m) = record { fan = w.root; place = m; there = w.first; is = w.is_root.are m near } in
      let to : suc m ≡ m + 1 = omega arith in
      let long = longest.within (edge_to m m ∷ rest.edges) (first, subst (λ k. IsWalk fans k rest.edges) to rest.walk) in
      absurd (omega (arith, long, rest.as_many))

-- ---- one more node

only_edge : (fan : Fan) (k : ℕ) (e : Edge) → IsEdge (fan ∷ []) k e → (k ≡ 0) × ((place : ℕ) × (slice_get fan place ≡ Some e))
only_edge fan zero e is = (refl, (is.place, ap (λ x. slice_get x is.place) (one_some is.there) ∙ is.is))
only_edge fan (suc k) e is = absurd (let h = is.there in cc)

module _ {below : ℕ} where
  root_within : (edges : List Edge) → IsRoot below edges → (place : ℕ) (e : Edge) → slice_get edges place ≡ Some e → (e.to ≤ below) × (e.behind ≡ 0)
  root_within edges r place e there =
      let inside : place < length edges = get_inside edges place e there in
      let near : place < below = omega (arith, inside, r.many) in
      let is : edge_to place place ≡ e = one_some (sym (r.are place near) ∙ there) in
      let to : place + 1 ≡ e.to = ap (λ x. x.to) is in
      (omega (arith, near, to), sym (ap (λ x. x.behind) is))

  fan_within : (n : ℕ) (xs : List ℕ) (place : ℕ) (e : Edge) → slice_get (edges_to n xs below) place ≡ Some e → (e.to ≤ below) × (e.behind ≡ 0)
  fan_within n xs place e there = let t = tells_among (λ k. xs) xs (λ k h. h) place e there in (omega (arith, t.to, t.within), t.single)

  pub first_within : (fan : Fan) → IsRoot below fan → LeadWithin below 0 (fan ∷ [])
  first_within fan r = record { many = refl; within = λ k e is. let o = only_edge fan k e is in root_within fan r o.1.0 e o.1.1 }

  pub next_within : (fans : List Fan) (fan : Fan) (count : ℕ) (x : List ℕ) → LeadWithin below count fans → fan ≡ edges_to count x below → LeadWithin below (count + 1) (fans ++ fan ∷ [])
  next_within fans fan count x h is =
      record {
        many = let l = length-append fans (fan ∷ []) in omega (arith, l, h.many);
        within = λ k e edge. by k e edge (push_cases fans fan edge.fan k edge.there);
      }
    where
      by : (k : ℕ) (e : Edge) (edge : IsEdge (fans ++ fan ∷ []) k e) → (slice_get fans k ≡ Some edge.fan) ⊎ ((k ≡ length fans) × (fan ≡ edge.fan)) → (e.to ≤ below) × (e.behind ≡ 0)
      by k e edge (inl old) = h.within k e (record { fan = edge.fan; place = edge.place; there = old; is = edge.is })
      by k e edge (inr new) = fan_within count x edge.place e (ap (λ l. slice_get l edge.place) (sym is ∙ new.1) ∙ edge.is)

  pub first_waits : (others : ℕ → List ℕ) (fan : Fan) → IsRoot below fan → AreWaits others below 0 (fan ∷ [])
  first_waits others fan r = record { many = refl; root = fan; first = refl; is_root = r; each = λ n h. absurd (omega (arith, h)) }

  pub next_waits : (others : ℕ → List ℕ) (fans : List Fan) (fan : Fan) (count : ℕ) → AreWaits others below count fans → fan ≡ edges_to count (others count) below → AreWaits others below (count + 1) (fans ++ fan ∷ [])
  next_waits others fans fan count w is =
      record {
        many = let l = length-append fans (fan ∷ []) in omega (arith, l, w.many);
        root = w.root;
        first = push_keeps fans fan w.root 0 w.first;
        is_root = w.is_root;
        each = λ n h. by n h (lt_or_le n count);
      }
    where
      by : (n : ℕ) → n < count + 1 → (n < count) ⊎ (count ≤ n) → IsFanOf others below n (fans ++ fan ∷ [])
      by n h (inl near) = let f = w.each n near in record { fan = f.fan; there = push_keeps fans fan f.fan (n + 1) f.there; is = f.is }
      by n h (inr past) =
          let same : n ≡ count = omega (arith, h, past) in
          let place : length fans ≡ n + 1 = omega (arith, w.many, same) in
          record { fan = fan; there = ap (slice_get (fans ++ fan ∷ [])) (sym place) ∙ push_last fans fan; is = is ∙ ap (λ k. edges_to k (others k) below) (sym same) }

  pub within_graph : (fans : List Fan) → below ≤ 4294967294 → LeadWithin below below fans → IsGraph fans
  within_graph fans h w =
      record {
        some = let m = w.many in omega (arith, m);
        few = let m = w.many in omega (arith, m, h);
        within = λ k e is. let l = (w.within k e is).0 in let m = w.many in omega (arith, l, m);
        short = λ k e is. let l = (w.within k e is).1 in omega (arith, l);
      }

-- ---- edges from node 0

pub root_next : (edges : List Edge) (count : ℕ) → IsRoot count edges → IsRoot (count + 1) (edges ++ edge_to count count ∷ [])
root_next edges count r =
    record {
      many = let l = length-append edges (edge_to count count ∷ []) in omega (arith, l, r.many);
      are = λ n h. by n h (lt_or_le n count);
    }
  where
    by : (n : ℕ) → n < count + 1 → (n < count) ⊎ (count ≤ n) → slice_get (edges ++ edge_to count count ∷ []) n ≡ Some (edge_to n n)
    by n h (inl near) = push_keeps edges (edge_to count count) (edge_to n n) n (r.are n near)
    by n h (inr past) =
        let same : n ≡ count = omega (arith, h, past) in
        let place : length edges ≡ n = omega (arith, r.many, same) in
        ap (slice_get (edges ++ edge_to count count ∷ [])) (sym place) ∙ push_last edges (edge_to count count) ∙ ap (λ k. Some (edge_to k k)) (sym same)

-- ---- what is told

module _ {others : ℕ → List ℕ} {below : ℕ} {fans : List Fan} (w : AreWaits others below below fans) where
  pub no_waits : (many : ℕ) → IsLongest fans 0 many → IsCircle others below []
  no_waits many longest = record { waits = λ i m k there next. absurd cc; once = λ i j m there again. absurd cc; unless = λ e ms circles all. no_circle w many longest ms circles all }

  pub some_circles : (way round : List Edge) → IsRound fans way round → (0 < length (map (λ e. e.choice.which) round)) × Circles others (map (λ e. e.choice.which) round)
  some_circles way round r =
      let many : length (map (λ e. e.choice.which) round) ≡ length round = length-map round (λ e. e.choice.which) in
      let some = r.some in
      (omega (arith, many, some), found_circle w way round r)

-- what is told of some in a ring
pub ring_is : (others : ℕ → List ℕ) (below : ℕ) (ns : List ℕ) → IsRing others ns → IsCircle others below ns
ring_is others below [] r = let some = r.some in absurd (omega (arith, some))
ring_is others below (n ∷ ns) r = record { waits = r.waits; once = r.once; unless = λ e ms circles all. absurd cc }
