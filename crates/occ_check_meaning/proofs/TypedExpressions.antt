-- Expressions under names that have what is declared have their types.
use Rattle.std.proofs.Common.{◌≡◌, ℕ, List, [], ◌∷◌, Bool, true, false, IsTrue, Option, Some, None, refl, sym, subst}
use Rattle.std.specs.Prelude.{ℤ, ◌&&◌, ◌+◌, map, nat_le, nat_lt, pos}
use Rattle.std.proofs.Common.{arith}
use Rattle.std.proofs.lemmas.Bool.{le-leb, lt-ltb}
use Rattle.occ_text.specs.Words.{number, byte, text}
use Rattle.occ_tree_grammar.specs.Many.{◌>>=◌}
use Rattle.occ_tree_grammar.specs.declared.tree.expr.Primitive.{Primitive as PrimitiveTree}
use Rattle.occ_tree_grammar.specs.declared.tree.expr.Monadic.TheVariants as m
use Rattle.occ_tree_grammar.specs.declared.tree.expr.Logic.{Logic}
use Rattle.occ_tree_grammar.specs.declared.tree.expr.Logic.TheVariants as l
use Rattle.occ_tree_grammar.specs.Expressions.Trees.{Expression, alone, two, one, convert, limit, chain, Operands, no_operand, more_operands, Operand, variable, literal, truth, parens, Expressions, no_expression, more_expressions}
use Rattle.occ_term.specs.declared.primitive.Primitive.{Primitive}
use Rattle.occ_term.specs.declared.primitive.Primitive.TheVariants.{Bool as Boolean, Byte, Int}
use Rattle.occ_term.specs.declared.expression.Operator.{Operator}
use Rattle.occ_term.specs.declared.expression.Operator.TheVariants.{Add, Subtract, Multiply, Divide, Remainder, Plus, Minus, Times, BitAnd, BitOr, BitXor, ShiftLeft, ShiftRight, After, Equal, Unequal, Less, Greater, AtMost, AtLeast}
use Rattle.occ_term.specs.declared.expression.Monadic.{Monadic}
use Rattle.occ_term.specs.declared.expression.Monadic.TheVariants.{Negate, BitNot, Not}
use Rattle.occ_term.specs.Messages.{is_of, product, AllOf}
use Rattle.occ_term.specs.Terms as T
use Rattle.occ_term.specs.Terms.{And, Or, Subscripts, no_subscripts, then_subscript}
use Rattle.occ_term.specs.Values.{span}
use Rattle.occ_term.specs.Uses.{numbers_in}
use Rattle.occ_term.specs.Typing.{is_number, is_arithmetic, is_shift, is_equality, is_order, Takes, takes_arithmetic, takes_shift, takes_after, takes_equality, takes_order, HasType, SubscriptsLeave}
use Rattle.occ_term.specs.TermTyping.{Declared}
use Rattle.occ_check_meaning.specs.Scope.{keep, Stretch, Known, a_value, a_string, some_cells, some_channels, a_protocol, Names}
use Rattle.occ_check_meaning.specs.Constants.{constant, is_within}
use Rattle.occ_check_meaning.specs.Operators.{primitive_of, is_same_type, operator_of, result_of}
use Rattle.occ_check_meaning.specs.Expressions.{Typed, single, whole, as_single, of_type, constant_of, are_bytes, string_of, whole_string, typed_literal, joined, left_by, under, read_one, read_stretch, read, two_typed, one_typed, logic_of, truth_of, limit_of, typed, typed_chain, typed_operand, typed_subscripts, size_of_operand}
use Rattle.occ_check_meaning.specs.Having.{StretchHas, KnownHas, NamesHave, TypedHas, SubscriptsHave}
use Rattle.occ_check_meaning.proofs.Steps.{bind_some, some_is}
use Rattle.occ_check_meaning.proofs.Counting.{kept, both_true}

pub same_type : (a b : Primitive) → IsTrue (is_same_type a b) → a ≡ b
same_type Boolean Boolean h = refl
same_type Boolean Byte h = absurd cc
same_type Boolean Int h = absurd cc
same_type Byte Boolean h = absurd cc
same_type Byte Byte h = refl
same_type Byte Int h = absurd cc
same_type Int Boolean h = absurd cc
same_type Int Byte h = absurd cc
same_type Int Int h = refl

-- ---- operators

arithmetic_takes : (op : Operator) (a b t : Primitive) → IsTrue (is_arithmetic op) → keep (is_number a && is_same_type a b) a ≡ Some t → Takes op a b t
arithmetic_takes op a b t h e =
    let k = kept _ _ t e in
    let g = both_true _ _ k.0 in
    subst (λ y. Takes op a y t) (same_type a b g.1) (subst (λ y. Takes op a a y) k.1 (takes_arithmetic h g.0))

shift_takes : (op : Operator) (a b t : Primitive) → IsTrue (is_shift op) → keep (is_number a && is_same_type b Int) a ≡ Some t → Takes op a b t
shift_takes op a b t h e =
    let k = kept _ _ t e in
    let g = both_true _ _ k.0 in
    subst (λ y. Takes op a y t) (sym (same_type b Int g.1)) (subst (λ y. Takes op a Int y) k.1 (takes_shift h g.0))

equality_takes : (op : Operator) (a b t : Primitive) → IsTrue (is_equality op) → keep (is_same_type a b) Boolean ≡ Some t → Takes op a b t
equality_takes op a b t h e =
    let k = kept _ _ t e in
    subst (λ y. Takes op a y t) (same_type a b k.0) (subst (λ y. Takes op a a y) k.1 (takes_equality h))

order_takes : (op : Operator) (a b t : Primitive) → IsTrue (is_order op) → keep (is_number a && is_same_type a b) Boolean ≡ Some t → Takes op a b t
order_takes op a b t h e =
    let k = kept _ _ t e in
    let g = both_true _ _ k.0 in
    subst (λ y. Takes op a y t) (same_type a b g.1) (subst (λ y. Takes op a a y) k.1 (takes_order h g.0))

after_takes : (a b t : Primitive) → keep (is_same_type a Int && is_same_type b Int) Boolean ≡ Some t → Takes After a b t
after_takes a b t e =
    let k = kept _ _ t e in
    let g = both_true _ _ k.0 in
    subst (λ y. Takes After y b t) (sym (same_type a Int g.0)) (subst (λ y. Takes After Int y t) (sym (same_type b Int g.1)) (subst (λ y. Takes After Int Int y) k.1 takes_after))

pub result_takes : (op : Operator) (a b t : Primitive) → result_of op a b ≡ Some t → Takes op a b t
result_takes Add a b t e = arithmetic_takes Add a b t refl e
result_takes Subtract a b t e = arithmetic_takes Subtract a b t refl e
result_takes Multiply a b t e = arithmetic_takes Multiply a b t refl e
result_takes Divide a b t e = arithmetic_takes Divide a b t refl e
result_takes Remainder a b t e = arithmetic_takes Remainder a b t refl e
result_takes Plus a b t e = arithmetic_takes Plus a b t refl e
result_takes Minus a b t e = arithmetic_takes Minus a b t refl e
result_takes Times a b t e = arithmetic_takes Times a b t refl e
result_takes BitAnd a b t e = arithmetic_takes BitAnd a b t refl e
result_takes BitOr a b t e = arithmetic_takes BitOr a b t refl e
result_takes BitXor a b t e = arithmetic_takes BitXor a b t refl e
result_takes ShiftLeft a b t e = shift_takes ShiftLeft a b t refl e
result_takes ShiftRight a b t e = shift_takes ShiftRight a b t refl e
result_takes After a b t e = after_takes a b t e
result_takes Equal a b t e = equality_takes Equal a b t refl e
result_takes Unequal a b t e = equality_takes Unequal a b t refl e
result_takes Less a b t e = order_takes Less a b t refl e
result_takes Greater a b t e = order_takes Greater a b t refl e
result_takes AtMost a b t e = order_takes AtMost a b t refl e
result_takes AtLeast a b t e = order_takes AtLeast a b t refl e

pub and_true : (a b : Bool) → IsTrue a → IsTrue b → IsTrue (a && b)
and_true true b h g = g
and_true false b h g = absurd cc

pub in_one : (f : ℕ) → IsTrue (nat_le f f && nat_lt f (f + 1))
in_one f = and_true _ _ (le-leb f f (omega arith)) (lt-ltb f (f + 1) (omega arith))

-- ---- subscripts and names

module _ (types : ℕ → Option Primitive) where
  pub leaves : (es : Subscripts) (sizes rest : List ℕ) → SubscriptsHave types es → left_by es sizes ≡ Some rest → SubscriptsLeave types es sizes rest
  leaves no_subscripts sizes rest h e = some_is sizes rest e
  leaves (then_subscript e es) [] rest h g = absurd cc
  leaves (then_subscript e es) (n ∷ ns) rest h g =
      let k = bind_some (keep (is_within (constant e) n) ns) _ rest g in
      let q = kept _ _ k.0 k.1 in
      (h.0, leaves es ns rest h.1 (subst (λ y. left_by es y ≡ Some rest) (sym q.1) k.2))

  pub leaves_joined : (ds es : Subscripts) (sizes left rest : List ℕ) → SubscriptsLeave types ds sizes left → SubscriptsLeave types es left rest → SubscriptsLeave types (joined ds es) sizes rest
  leaves_joined no_subscripts es sizes left rest h g = subst (λ y. SubscriptsLeave types es y rest) (sym h) g
  leaves_joined (then_subscript d ds) es [] left rest h g = absurd h
  leaves_joined (then_subscript d ds) es (n ∷ ns) left rest h g = (h.0, leaves_joined ds es ns left rest h.1 g)

  pub under_has : (type : Primitive) (r q : Stretch) (es : Subscripts) → StretchHas types type r → SubscriptsHave types es → under r es ≡ Some q → StretchHas types type q
  under_has type r q es h g e =
      let k = bind_some (left_by es r.left) _ q e in
      subst (StretchHas types type) (some_is _ q k.2) (h.0, leaves_joined r.subscripts es r.sizes r.left k.0 h.1 (leaves es r.left k.0 g k.1))

  read_one_has : (line : ℕ) (type : Primitive) (r : Stretch) (sizes : List ℕ) → r.sizes ≡ sizes → StretchHas types type r → r.left ≡ [] → HasType types (read_one line r sizes) type
  read_one_has line type r [] e h g = h.0 r.first (subst (λ y. IsTrue (numbers_in (span r.first (product y)) r.first)) (sym e) (in_one r.first))
  read_one_has line type r (n ∷ ns) e h g = (h.0, subst (λ y. SubscriptsLeave types r.subscripts r.sizes y) g h.1)

  read_stretch_has : (line : ℕ) (type : Primitive) (r : Stretch) (left : List ℕ) → r.left ≡ left → StretchHas types type r → TypedHas types (read_stretch line type r left)
  read_stretch_has line type r [] e h = read_one_has line type r r.sizes refl h e
  read_stretch_has line type r (n ∷ ns) e h = (h.0, subst (λ y. SubscriptsLeave types r.subscripts r.sizes y) e h.1)

  string_has : (bytes : List ℤ) → AllOf Byte bytes → TypedHas types (whole_string bytes)
  string_has bytes h = (refl, refl, h)

module _ (d : Declared) where
  pub read_has : (line : ℕ) (k : Known) (es : Subscripts) (t : Typed) → KnownHas d k → SubscriptsHave d.types es → read line k es ≡ Some t → TypedHas d.types t
  read_has line (a_value type v) no_subscripts t h g e = subst (TypedHas d.types) (some_is _ t e) h
  read_has line (a_value type v) (then_subscript a es) t h g e = absurd cc
  read_has line (a_string bytes) no_subscripts t h g e = subst (TypedHas d.types) (some_is _ t e) (string_has d.types bytes h)
  read_has line (a_string bytes) (then_subscript a no_subscripts) t h g e = subst (TypedHas d.types) (kept _ _ t e).1 (refl, h, g.0)
  read_has line (a_string bytes) (then_subscript a (then_subscript b es)) t h g e = absurd cc
  read_has line (some_cells access type r) es t h g e =
      let q = bind_some (under r es) _ t e in
      subst (TypedHas d.types) (some_is _ t q.2) (read_stretch_has d.types line type q.0 q.0.left refl (under_has d.types type r q.0 es h g q.1))
  read_has line (some_channels c r) es t h g e = absurd cc
  read_has line (a_protocol c) es t h g e = absurd cc

-- ---- literals

module _ (types : ℕ → Option Primitive) where
  pub constant_has : (type : Primitive) (v : ℤ) (t : Typed) → constant_of type v ≡ Some t → TypedHas types t
  constant_has type v t e = let k = kept _ _ t e in subst (TypedHas types) k.1 k.0

  all_bytes : (bs : List ℤ) → IsTrue (are_bytes bs) → AllOf Byte bs
  all_bytes [] h = tt
  all_bytes (b ∷ bs) h = let g = both_true (is_of Byte b) (are_bytes bs) h in (g.0, all_bytes bs g.1)

  literal_has : (v : _) (type : Option PrimitiveTree) (t : Typed) → typed_literal v type ≡ Some t → TypedHas types t
  literal_has (number v) None t e = constant_has Int v t e
  literal_has (number v) (Some type) t e = constant_has (primitive_of type) v t e
  literal_has (byte b) None t e = constant_has Byte (pos b) t e
  literal_has (byte b) (Some type) t e = constant_has (primitive_of type) (pos b) t e
  literal_has (text bytes) None t e =
      let b = bind_some (string_of (map pos bytes)) _ t e in
      let k = kept _ _ b.0 b.1 in
      subst (TypedHas types) (some_is _ t b.2) (string_has types b.0 (subst (AllOf Byte) k.1 (all_bytes (map pos bytes) (both_true _ _ k.0).0)))
  literal_has (text bytes) (Some type) t e = absurd cc

  -- ---- operators on typed operands

  pub single_has : (x : Typed) (a : Primitive × T.Expression) → TypedHas types x → as_single x ≡ Some a → HasType types a.1 a.0
  single_has (single type e) a h g = subst (λ (y : Primitive × T.Expression). HasType types y.1 y.0) (some_is _ a g) h
  single_has (whole type sizes b) a h g = absurd cc

  pub of_type_has : (type : Primitive) (x : Typed) (a : T.Expression) → TypedHas types x → of_type type x ≡ Some a → HasType types a type
  of_type_has type (single t e) a h g =
      let k = kept _ _ a g in
      subst (λ y. HasType types y type) k.1 (subst (λ y. HasType types e y) (same_type t type k.0) h)
  of_type_has type (whole t sizes b) a h g = absurd cc

  two_has : (line : ℕ) (op : Operator) (a b : Primitive × T.Expression) (t : Typed) → HasType types a.1 a.0 → HasType types b.1 b.0 → two_typed line op a b ≡ Some t → TypedHas types t
  two_has line op a b t h g e =
      let r = bind_some (result_of op a.0 b.0) _ t e in
      subst (TypedHas types) (some_is _ t r.2) (b.0, result_takes op a.0 b.0 r.0 r.1, h, g)

  one_has : (line : ℕ) (op : Monadic) (a : Primitive × T.Expression) (t : Typed) → HasType types a.1 a.0 → one_typed line op a ≡ Some t → TypedHas types t
  one_has line Negate a t h e = let k = kept _ _ t e in subst (TypedHas types) k.1 (refl, k.0, h)
  one_has line BitNot a t h e = let k = kept _ _ t e in subst (TypedHas types) k.1 (refl, k.0, h)
  one_has line Not a t h e =
      let k = kept _ _ t e in
      let g = same_type a.0 Boolean k.0 in
      subst (TypedHas types) k.1 (g, g, subst (λ y. HasType types a.1 y) g h)

  logic_has : (op : Logic) (a b : T.Expression) → HasType types a Boolean → HasType types b Boolean → HasType types (logic_of op a b) Boolean
  logic_has l.And a b h g = (refl, h, g)
  logic_has l.Or a b h g = (refl, h, g)

  truth_has : (b : Bool) → IsTrue (is_of Boolean (truth_of b))
  truth_has true = refl
  truth_has false = refl

  limit_has : (b : Bool) → IsTrue (is_of Int (limit_of b))
  limit_has true = refl
  limit_has false = refl

-- ---- expressions

module _ (d : Declared) (ns : Names) (h : NamesHave d ns) (line : ℕ) where
  value_has : (a : Operand) → ((t : Typed) → typed_operand ns line a ≡ Some t → TypedHas d.types t) → (x : Primitive × T.Expression) → (typed_operand ns line a >>= as_single) ≡ Some x → HasType d.types x.1 x.0
  value_has a g x e =
      let t = bind_some (typed_operand ns line a) _ x e in
      single_has d.types t.0 x (g t.0 t.1) t.2

  truth_value_has : (a : Operand) → ((t : Typed) → typed_operand ns line a ≡ Some t → TypedHas d.types t) → (x : T.Expression) → (typed_operand ns line a >>= of_type Boolean) ≡ Some x → HasType d.types x Boolean
  truth_value_has a g x e =
      let t = bind_some (typed_operand ns line a) _ x e in
      of_type_has d.types Boolean t.0 x (g t.0 t.1) t.2

  mutual
    unfolding typed typed_chain typed_operand typed_subscripts

    pub typed_has : (e : Expression) (t : Typed) → typed ns line e ≡ Some t → TypedHas d.types t
    typed_has (alone a) t e = operand_has a t e
    typed_has (two a op b) t e =
        let x = bind_some (typed_operand ns line a >>= as_single) _ t e in
        let y = bind_some (typed_operand ns line b >>= as_single) _ t x.2 in
        two_has d.types line (operator_of op) x.0 y.0 t (value_has a (operand_has a) x.0 x.1) (value_has b (operand_has b) y.0 y.1) y.2
    typed_has (one m.Negate a) t e = let x = bind_some (typed_operand ns line a >>= as_single) _ t e in one_has d.types line Negate x.0 t (value_has a (operand_has a) x.0 x.1) x.2
    typed_has (one m.Tilde a) t e = let x = bind_some (typed_operand ns line a >>= as_single) _ t e in one_has d.types line BitNot x.0 t (value_has a (operand_has a) x.0 x.1) x.2
    typed_has (one m.BitNot a) t e = let x = bind_some (typed_operand ns line a >>= as_single) _ t e in one_has d.types line BitNot x.0 t (value_has a (operand_has a) x.0 x.1) x.2
    typed_has (one m.Not a) t e = let x = bind_some (typed_operand ns line a >>= as_single) _ t e in one_has d.types line Not x.0 t (value_has a (operand_has a) x.0 x.1) x.2
    typed_has (one m.Size a) t e = let n = bind_some (size_of_operand ns line a) _ t e in constant_has d.types Int (pos n.0) t n.2
    typed_has (convert type a) t e =
        let x = bind_some (typed_operand ns line a >>= as_single) _ t e in
        subst (TypedHas d.types) (some_is _ t x.2) (refl, x.0.0, value_has a (operand_has a) x.0 x.1)
    typed_has (limit most) t e = subst (TypedHas d.types) (some_is _ t e) (limit_has d.types most)
    typed_has (chain op a b others) t e =
        let x = bind_some (typed_operand ns line a >>= of_type Boolean) _ t e in
        let y = bind_some (typed_operand ns line b >>= of_type Boolean) _ t x.2 in
        let z = bind_some (typed_chain ns line op (logic_of op x.0 y.0) others) _ t y.2 in
        subst (TypedHas d.types) (some_is _ t z.2)
        (chain_has op (logic_of op x.0 y.0) others z.0 (logic_has d.types op x.0 y.0 (truth_value_has a (operand_has a) x.0 x.1) (truth_value_has b (operand_has b) y.0 y.1)) z.1)

    chain_has : (op : Logic) (left : T.Expression) (others : Operands) (t : T.Expression) → HasType d.types left Boolean → typed_chain ns line op left others ≡ Some t → HasType d.types t Boolean
    chain_has op left no_operand t g e = subst (λ y. HasType d.types y Boolean) (some_is _ t e) g
    chain_has op left (more_operands a others) t g e =
        let x = bind_some (typed_operand ns line a >>= of_type Boolean) _ t e in
        chain_has op (logic_of op left x.0) others t (logic_has d.types op left x.0 g (truth_value_has a (operand_has a) x.0 x.1)) x.2

    operand_has : (a : Operand) (t : Typed) → typed_operand ns line a ≡ Some t → TypedHas d.types t
    operand_has (variable x es) t e =
        let k = bind_some (ns x) _ t e in
        let s = bind_some (typed_subscripts ns line es) _ t k.2 in
        read_has d line k.0 s.0 t (h x k.0 k.1) (subscripts_have es s.0 s.1) s.2
    operand_has (literal v type) t e = literal_has d.types v type t e
    operand_has (truth b) t e = subst (TypedHas d.types) (some_is _ t e) (truth_has d.types b)
    operand_has (parens a) t e = typed_has a t e

    pub subscripts_have : (es : Expressions) (s : Subscripts) → typed_subscripts ns line es ≡ Some s → SubscriptsHave d.types s
    subscripts_have no_expression s e = subst (SubscriptsHave d.types) (some_is _ s e) tt
    subscripts_have (more_expressions a es) s e =
        let x = bind_some (typed ns line a >>= of_type Int) _ s e in
        let y = bind_some (typed ns line a) _ x.0 x.1 in
        let z = bind_some (typed_subscripts ns line es) _ s x.2 in
        subst (SubscriptsHave d.types) (some_is _ s z.2) (of_type_has d.types Int y.0 x.0 (typed_has a y.0 y.1) y.2, subscripts_have es z.0 z.1)
