-- The Clears and Locals of declarations, one after the other: what they set is new, and what they read is in scope.
use Rattle.std.proofs.Common.{◌≡◌, ◌≤◌, ◌<◌, ℕ, zero, suc, ◌+◌, List, [], ◌∷◌, ◌++◌, length, Bool, true, false, Option, Some, None, IsTrue, refl, sym, subst, arith}
use Rattle.std.proofs.lemmas.Bool.{le-leb, lt-ltb, ltb-true, ltb-false, eqb-true}
use Rattle.std.specs.Prelude.{ℤ, nat_eq, nat_lt, slice_get, ⊤, ◌||◌, if◌then◌else◌}
use Rattle.occ_tree_grammar.specs.Expressions.Trees.{Expressions}
use Rattle.occ_tree_grammar.specs.Lines.Trees as L
use Rattle.occ_tree_grammar.specs.Processes.Trees.{Decl, Item}
use Rattle.occ_term.specs.declared.names.Cell.{Cell}
use Rattle.occ_term.specs.declared.primitive.Primitive.{Primitive}
use Rattle.occ_term.specs.Messages.{product, simple_part}
use Rattle.occ_term.specs.Terms as T
use Rattle.occ_term.specs.Terms.{Array, Cells, Text, OfOne, OfMany, Declaration, Clearing, Naming, Arms, no_arms, skip_arm, input_arm, declared_arms, each_arm}
use Rattle.occ_term.specs.Sizes.{size_of_declaration}
use Rattle.occ_term.specs.Values.{Span, span}
use Rattle.occ_term.specs.Uses as Uses
use Rattle.occ_term.specs.Uses.{union, numbers_in, uses_of_declaration}
use Rattle.occ_term.specs.Typing.{ItemHas}
use Rattle.occ_term.specs.TermTyping.{Declared}
use Rattle.occ_term.specs.TakenArms.{Scoped}
use Rattle.occ_check_meaning.specs.Scope.{names_of, once, Carried, Name, Names}
use Rattle.occ_check_meaning.specs.Numbers.{Numbers, more_cells, more_channels, room}
use Rattle.occ_check_meaning.specs.Constants.{constant}
use Rattle.occ_check_meaning.specs.Operators.{primitive_of}
use Rattle.occ_check_meaning.specs.Expressions.{Typed, single, whole, typed}
use Rattle.occ_check_meaning.specs.Types.{sizes_of, carried_of, protocol_of}
use Rattle.occ_check_meaning.specs.Declarations.{Opened, variable_declared, channel_declared, each_declared, names_declared, local_of, value_named, array_named, named, of_value_type}
use Rattle.occ_check_meaning.specs.Actions.{arms_behind, arms_then}
use Rattle.occ_check_meaning.specs.Performing.{Entered}
use Rattle.occ_check_meaning.specs.Unfolding.{Procedure, Procedures, DeclaresItem, declares_value, declares_protocol, declares_procedure, Declares, declares_names, declares_item}
use Rattle.occ_check_meaning.specs.CellOrder.{cells_of, cells_of_all, InOrder}
use Rattle.occ_check_meaning.specs.Having.{NamesHave, TypedHas}
use Rattle.occ_check_meaning.proofs.Steps.{bind_some, some_is}
use Rattle.occ_check_meaning.proofs.Covering.{CoversSince, in_span}
use Rattle.occ_check_meaning.proofs.TypedExpressions.{typed_has, and_true}
use Rattle.occ_check_meaning.proofs.TypedLines.{All}
use Rattle.occ_check_meaning.proofs.TypedNames.{of_value_has}
use Rattle.occ_check_meaning.proofs.Writes.{Not}
use Rattle.occ_check_meaning.proofs.Reading.{hidden, nothing_there, item_unread}

-- ---- in order, so each is new

either : {A : Type 0} (a b : Bool) → (IsTrue a → A) → (IsTrue b → A) → IsTrue (a || b) → A
either true b h g m = h refl
either false b h g m = g m

pub first_one : (a b : Bool) → IsTrue a → IsTrue (a || b)
first_one true b m = refl
first_one false b m = absurd cc

pub other_one : (a b : Bool) → IsTrue b → IsTrue (a || b)
other_one true b m = refl
other_one false b m = m

-- the cells that are set after these declarations
abbrev pub set_by : Uses.Numbers → List Declaration → Uses.Numbers
set_by round [] = round
set_by round (h ∷ hs) = set_by (union round (uses_of_declaration h).writes) hs

-- each reads only what is set round it of all the cells, and sets nothing again
abbrev pub HeadsScoped : Uses.Numbers → Uses.Numbers → List Declaration → Type 0
HeadsScoped all round [] = ⊤
HeadsScoped all round (h ∷ hs) =
    ((c : ℕ) → IsTrue ((uses_of_declaration h).reads c) → IsTrue (all c) → IsTrue (round c))
    × ((c : ℕ) → IsTrue ((uses_of_declaration h).writes c) → IsTrue (round c) → ⊥)
    × HeadsScoped all (union round (uses_of_declaration h).writes) hs

pub set_before : (hs : List Declaration) (round : Uses.Numbers) (c : ℕ) → IsTrue (round c) → IsTrue (set_by round hs c)
set_before [] round c m = m
set_before (h ∷ hs) round c m = set_before hs (union round (uses_of_declaration h).writes) c (first_one (round c) ((uses_of_declaration h).writes c) m)

pub set_joined : (hs gs : List Declaration) (round : Uses.Numbers) → set_by (set_by round hs) gs ≡ set_by round (hs ++ gs)
set_joined [] gs round = refl
set_joined (h ∷ hs) gs round = set_joined hs gs (union round (uses_of_declaration h).writes)

pub scoped_joined : (all : Uses.Numbers) (hs gs : List Declaration) (round : Uses.Numbers) → HeadsScoped all round hs → HeadsScoped all (set_by round hs) gs → HeadsScoped all round (hs ++ gs)
scoped_joined all [] gs round h g = g
scoped_joined all (x ∷ hs) gs round h g = (h.0, h.1, scoped_joined all hs gs (union round (uses_of_declaration x).writes) h.2 g)

-- what a declaration sets lies in its span
written : (h : Declaration) (c : ℕ) → IsTrue ((uses_of_declaration h).writes c) → IsTrue (numbers_in (cells_of h) c)
written (Clearing first count) c m = m
written (Naming first value) c m = m

unwritten : (h : Declaration) (c : ℕ) → IsTrue (numbers_in (cells_of h) c) → IsTrue ((uses_of_declaration h).writes c)
unwritten (Clearing first count) c m = m
unwritten (Naming first value) c m = m

first_in : Span → ℕ
first_in (span first count) = first

-- one span more
next_span : (s : Span) (rest : List Span) (n m : ℕ) → InOrder n (s ∷ rest) m → (k : ℕ) × InOrder k rest m × ((c : ℕ) → IsTrue (numbers_in s c) → (n ≤ c) × (c < k)) × ((c : ℕ) → n ≤ c → c < k → IsTrue (numbers_in s c)) × (n ≤ k)
next_span (span first count) rest n m h = (
  n + count,
  h.1,
  λ c i. let s = in_span first count c i in let e = h.0 in let a = s.0 in let b = s.1 in (omega (arith, e, a), omega (arith, e, b)),
  λ c l g. let e = h.0 in and_true _ _ (le-leb first c (omega (arith, e, l))) (lt-ltb c (first + count) (omega (arith, e, g))),
  omega arith,
)

pub set_below : (hs : List Declaration) (round : Uses.Numbers) (n m : ℕ) → InOrder n (cells_of_all hs) m → ((c : ℕ) → IsTrue (round c) → c < n) → (c : ℕ) → IsTrue (set_by round hs c) → c < m
set_below [] round n m o b c k = let l = b c k in omega (arith, o, l)
set_below (h ∷ hs) round n m o b c k =
    let s = next_span (cells_of h) (cells_of_all hs) n m o in
    set_below hs (union round (uses_of_declaration h).writes) s.0 m s.1
    (λ j q. either (round j) ((uses_of_declaration h).writes j) (λ r. let l = b j r in let e = s.4 in omega (arith, l, e)) (λ w. (s.2 j (written h j w)).1) q) c k

below : (c k : ℕ) → nat_lt c k ≡ true → c < k
below c k e = ltb-true c k e

above : (c k : ℕ) → nat_lt c k ≡ false → k ≤ c
above c k e = ltb-false c k e

-- every number between is set
pub set_between : (hs : List Declaration) (round : Uses.Numbers) (n m : ℕ) → InOrder n (cells_of_all hs) m → (c : ℕ) → n ≤ c → c < m → IsTrue (set_by round hs c)
set_between [] round n m o c l g = absurd (omega (arith, o, l, g))
set_between (h ∷ hs) round n m o c l g =
    let s = next_span (cells_of h) (cells_of_all hs) n m o in
    by_test s.0 s.3 (λ a. set_between hs (union round (uses_of_declaration h).writes) s.0 m s.1 c a g) (nat_lt c s.0) refl
  where
    by_test : (k : ℕ) → ((c : ℕ) → n ≤ c → c < k → IsTrue (numbers_in (cells_of h) c)) → (k ≤ c → IsTrue (set_by (union round (uses_of_declaration h).writes) hs c)) → (b : Bool) → nat_lt c k ≡ b → IsTrue (set_by (union round (uses_of_declaration h).writes) hs c)
    by_test k f i true e = set_before hs (union round (uses_of_declaration h).writes) c (other_one (round c) ((uses_of_declaration h).writes c) (unwritten h c (f c l (below c k e))))
    by_test k f i false e = i (above c k e)

pub heads_scoped : (all : Uses.Numbers) (hs : List Declaration) (round : Uses.Numbers) (n m : ℕ) → InOrder n (cells_of_all hs) m → ((c : ℕ) → IsTrue (round c) → c < n)
    → All (λ h. (c : ℕ) → IsTrue ((uses_of_declaration h).reads c) → IsTrue (all c) → IsTrue (round c)) hs → HeadsScoped all round hs
heads_scoped all [] round n m o b r = tt
heads_scoped all (h ∷ hs) round n m o b r =
    let s = next_span (cells_of h) (cells_of_all hs) n m o in (
      r.0,
      λ c w q. let l = b c q in let g = (s.2 c (written h c w)).0 in omega (arith, l, g),
      heads_scoped all hs (union round (uses_of_declaration h).writes) s.0 m s.1
          (λ j q. either (round j) ((uses_of_declaration h).writes j) (λ x. let l = b j x in let e = s.4 in omega (arith, l, e)) (λ w. (s.2 j (written h j w)).1) q)
          (more hs r.1),
    )
  where
    more : (gs : List Declaration) → All (λ g. (c : ℕ) → IsTrue ((uses_of_declaration g).reads c) → IsTrue (all c) → IsTrue (round c)) gs
        → All (λ g. (c : ℕ) → IsTrue ((uses_of_declaration g).reads c) → IsTrue (all c) → IsTrue (round c || (uses_of_declaration h).writes c)) gs
    more [] x = tt
    more (g ∷ gs) x = (λ c p q. first_one (round c) ((uses_of_declaration h).writes c) (x.0 c p q), more gs x.1)

-- ---- arms behind them, and arms after others

pub behind_scoped : (all : Uses.Numbers) (hs : List Declaration) (round : Uses.Numbers) (arms : Arms) → HeadsScoped all round hs → Scoped all (set_by round hs) arms → Scoped all round (arms_behind hs arms)
behind_scoped all [] round arms h g = g
behind_scoped all (x ∷ hs) round arms h g = (h.0, h.1, behind_scoped all hs (union round (uses_of_declaration x).writes) arms h.2 g, tt)

pub then_scoped : (all round : Uses.Numbers) (a b : Arms) → Scoped all round a → Scoped all round b → Scoped all round (arms_then a b)
then_scoped all round no_arms b h g = g
then_scoped all round (skip_arm e t arms) b h g = then_scoped all round arms b h g
then_scoped all round (input_arm e c list arms) b h g = then_scoped all round arms b h g
then_scoped all round (declared_arms x inner arms) b h g = (h.0, h.1, h.2, then_scoped all round arms b h.3 g)
then_scoped all round (each_arm r inner arms) b h g = (h.0, h.1, then_scoped all round arms b h.2 g)

-- ---- what they read

-- all but one cell of what is declared since
pub hidden_since : (c : ℕ) (d : Declared) (n m : Numbers) → CoversSince d n m → (length n.cells ≤ c → c < length m.cells → ⊥) → CoversSince (hidden c d) n m
hidden_since c d n m h g = record { cells = λ k x l e. by_test k x l e (nat_eq k c) refl; channels = h.channels }
  where
    lies_in : {A : Type 0} (xs : List A) (k : ℕ) (x : A) → slice_get xs k ≡ Some x → k < length xs
    lies_in [] k x e = absurd cc
    lies_in (y ∷ xs) zero x e = omega arith
    lies_in (y ∷ xs) (suc k) x e = let l = lies_in xs k x e in omega (arith, l)

    by_test : (k : ℕ) (x : Cell) → length n.cells ≤ k → slice_get m.cells k ≡ Some x → (b : Bool) → nat_eq k c ≡ b → (if nat_eq k c then None else d.types k) ≡ Some x.primitive
    by_test k x l e true q = let w = lies_in m.cells k x e in let f = eqb-true k c q in absurd (g (omega (arith, l, f)) (omega (arith, w, f)))
    by_test k x l e false q = subst (λ b. (if b then None else d.types k) ≡ Some x.primitive) (sym q) (h.cells k x l e)

module _ (c : ℕ) where
  abbrev pub HeadUnread : Declaration → Type 0
  HeadUnread h = Not ((uses_of_declaration h).reads c)

  unread_joined : (hs gs : List Declaration) → All HeadUnread hs → All HeadUnread gs → All HeadUnread (hs ++ gs)
  unread_joined [] gs h g = g
  unread_joined (x ∷ hs) gs h g = (h.0, unread_joined hs gs h.1 g)

  abbrev AllUnread : Opened → Type 0
  AllUnread o = All HeadUnread o.heads

  variable_unread : (depth : ℕ) (type : Primitive) (sizes : List ℕ) (x : Name) (n : Numbers) (o : Opened) → variable_declared depth type sizes x n ≡ Some o → AllUnread o
  variable_unread depth type sizes x n o e =
      let m = bind_some (more_cells type x sizes n) _ o e in
      let r = bind_some (room depth (size_of_declaration (Clearing (length n.cells) (product sizes))) m.0) _ o m.2 in
      subst AllUnread (some_is _ o r.2) (λ q. absurd cc, tt)

  channel_unread : (p : Carried) (sizes : List ℕ) (x : Name) (n : Numbers) (o : Opened) → channel_declared p sizes x n ≡ Some o → AllUnread o
  channel_unread p sizes x n o e =
      let m = bind_some (more_channels p.protocol x sizes n) _ o e in
      subst AllUnread (some_is _ o m.2) tt

  each_unread : (f : Name → Numbers → Option Opened) → ((x : Name) (n : Numbers) (o : Opened) → f x n ≡ Some o → AllUnread o) → (xs : List Name) (n : Numbers) (o : Opened) → each_declared f xs n ≡ Some o → AllUnread o
  unfolding each_declared
  each_unread f g [] n o e = subst AllUnread (some_is _ o e) tt
  each_unread f g (x ∷ xs) n o e =
      let a = bind_some (f x n) _ o e in
      let b = bind_some (each_declared f xs a.0.numbers) _ o a.2 in
      subst AllUnread (some_is _ o b.2) (unread_joined a.0.heads b.0.heads (g x n a.0 a.1) (each_unread f g xs a.0.numbers b.0 b.1))

  names_unread : (ns : Names) (line depth : ℕ) (es : Expressions) (sort : L.Sort) (xs : List Name) (n : Numbers) (o : Opened) → names_declared ns line depth es sort xs n ≡ Some o → AllUnread o
  names_unread ns line depth es (L.of_data type) xs n o e =
      let z = bind_some (sizes_of ns line es) _ o e in
      let y = bind_some (once xs) _ o z.2 in
      each_unread (variable_declared depth (primitive_of type) z.0) (variable_unread depth (primitive_of type) z.0) y.0 n o y.2
  names_unread ns line depth es (L.of_channel p) xs n o e =
      let z = bind_some (sizes_of ns line es) _ o e in
      let k = bind_some (carried_of ns line p) _ o z.2 in
      let y = bind_some (once xs) _ o k.2 in
      each_unread (channel_declared k.0 z.0) (channel_unread k.0 z.0) y.0 n o y.2

  -- what stands under names that have types without that cell's reads it nowhere
  module _ (d : Declared) where
    local_unread : (x : Name) (depth : ℕ) (type : Primitive) (sizes : List ℕ) (value : T.Item) (n : Numbers) (o : Opened) → ItemHas (hidden c d).types value (simple_part sizes type) → local_of x depth type sizes value n ≡ Some o → AllUnread o
    local_unread x depth type sizes value n o i e =
        let m = bind_some (more_cells type x sizes n) _ o e in
        let r = bind_some (room depth (size_of_declaration (Naming (length n.cells) value)) m.0) _ o m.2 in
        subst AllUnread (some_is _ o r.2)
        (λ q. either (Uses.reads_of_item value c) false (λ y. item_unread (hidden c d).types c (nothing_there c d) value sizes type i y) (λ y. absurd (not_false y)) q, tt)
      where
        not_false : IsTrue false → ⊥
        not_false y = absurd cc

    value_unread : (x : Name) (depth : ℕ) (type : Primitive) (e : T.Expression) (v : Option ℤ) (n : Numbers) (o : Opened) → TypedHas (hidden c d).types (single type e) → value_named x depth type e v n ≡ Some o → AllUnread o
    value_unread x depth type e (Some v) n o t g = subst AllUnread (some_is _ o g) tt
    value_unread x depth type e None n o t g = local_unread x depth type [] (OfOne type e) n o (refl, t) g

    array_unread : (x : Name) (depth : ℕ) (type : Primitive) (sizes : List ℕ) (a : Array) (n : Numbers) (o : Opened) → TypedHas (hidden c d).types (whole type sizes a) → array_named x depth type sizes a n ≡ Some o → AllUnread o
    array_unread x depth type [] a n o t g = absurd t
    array_unread x depth type (k ∷ ks) (Text bytes) n o t g = subst AllUnread (some_is _ o g) tt
    array_unread x depth type (k ∷ ks) (Cells p) n o t g = local_unread x depth type (k ∷ ks) (OfMany type (Cells p)) n o (refl, t) g

    named_unread : (x : Name) (depth : ℕ) (t : Typed) (n : Numbers) (o : Opened) → TypedHas (hidden c d).types t → named x depth t n ≡ Some o → AllUnread o
    named_unread x depth (single type e) n o t g = value_unread x depth type e (constant e) n o t g
    named_unread x depth (whole type sizes a) n o t g = array_unread x depth type sizes a n o t g

    item_heads_unread : {sc : Procedures} {depth : ℕ} {n : Numbers} {i : Item} {e : Entered Procedure} → DeclaresItem sc depth n i e → NamesHave (hidden c d) (names_of sc) → All HeadUnread e.heads
    item_heads_unread (declares_value {sc = sc} {depth = depth} {line = line} {n = n} {type = type} {x = x} {e = a} {o = o} e) h =
        let v = bind_some (typed (names_of sc) line a) _ o e in
        let w = bind_some (of_value_type (names_of sc) line type v.0) _ o v.2 in
        named_unread x depth w.0 n o (of_value_has (hidden c d) (names_of sc) line type v.0 w.0 (typed_has (hidden c d) (names_of sc) h line a v.0 v.1) w.1) w.2
    item_heads_unread (declares_protocol {sc = sc} {n = n} {p = p} {o = o} e) h =
        let q = bind_some (protocol_of (names_of sc) p) _ o e in
        subst AllUnread (some_is _ o q.2) tt
    item_heads_unread declares_procedure h = tt

    pub heads_unread : {sc : Procedures} {depth : ℕ} {n : Numbers} {x : Decl} {e : Entered Procedure} → Declares sc depth n x e → NamesHave (hidden c d) (names_of sc) → All HeadUnread e.heads
    heads_unread (declares_names {sc = sc} {depth = depth} {line = line} {n = n} {es = es} {sort = sort} {x = x} {xs = xs} {o = o} e) h = names_unread (names_of sc) line depth es sort (x ∷ xs) n o e
    heads_unread (declares_item i) h = item_heads_unread i h

-- one cell after the other, or all at once
pub at_once : (Q : ℕ → Type 0) (hs : List Declaration) → ((c : ℕ) → Q c → All (HeadUnread c) hs) → All (λ h. (c : ℕ) → Q c → HeadUnread c h) hs
at_once Q [] f = tt
at_once Q (h ∷ hs) f = (λ c q. (f c q).0, at_once Q hs (λ c q. (f c q).1))
