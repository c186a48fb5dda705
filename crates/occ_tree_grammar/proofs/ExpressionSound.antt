-- An expression that is read is shown so.
use Rattle.std.proofs.Common.{◌≡◌, ℕ, zero, suc, ◌<◌, ◌≤◌, max, List, [], ◌∷◌, ◌++◌, length, true, false, Option, Some, refl, sym, ap, subst, ◌∙◌, append_assoc, arith, zero-le}
use Rattle.occ_text.specs.declared.token.Key.TheVariants as k
use Rattle.occ_text.specs.declared.token.Sym.TheVariants as s
use Rattle.occ_text.specs.Words.{Word, key, name, lit, mark}
use Rattle.occ_tree_grammar.specs.declared.tree.expr.Primitive.{Primitive}
use Rattle.occ_tree_grammar.specs.declared.tree.expr.Logic.{Logic}
use Rattle.occ_tree_grammar.specs.declared.tree.expr.Logic.TheVariants as logics
use Rattle.occ_tree_grammar.specs.declared.expressions.start.Start.{Start}
use Rattle.occ_tree_grammar.specs.declared.expressions.start.Start.TheVariants as starts
use Rattle.occ_tree_grammar.specs.declared.expressions.start.Link.{Link}
use Rattle.occ_tree_grammar.specs.declared.expressions.start.Link.TheVariants as links
use Rattle.occ_tree_grammar.specs.Lists.{show_all, Each}
use Rattle.occ_tree_grammar.specs.Many.{many}
use Rattle.occ_tree_grammar.specs.Expressions.Trees.{Expression, Operand, operands, expressions}
use Rattle.occ_tree_grammar.specs.Expressions.Shown.{prim_word, dyadic_word, monadic_word, logic_word, limit_word, show_type, show_expression, show_operand, show_operands, show_indices, depth, depth_operand, depth_operands, depth_indices, dimensions, count_expressions, Narrow, NarrowOperand, NarrowOperands, NarrowExpressions}
use Rattle.occ_tree_grammar.specs.Expressions.Reading.{Read, after_open_bracket, after_close, after_close_bracket, after_int, prim_at, start_of, link_of, type_mark_at, index_with, indices_with, operand_with, after_logic, linked, after_operand, started, expression_with, expression_at}
use Rattle.occ_tree_grammar.proofs.Binds.{bind_some, some_is, after}
use Rattle.occ_tree_grammar.proofs.Manys.{many_sound}

-- ---- single words

pub open_bracket_is : (ws rest : List Word) → after_open_bracket ws ≡ Some rest → ws ≡ mark s.OpenBracket ∷ rest
open_bracket_is (mark s.OpenBracket ∷ ws) rest e = cc
open_bracket_is _ rest e = absurd cc

pub close_is : (ws rest : List Word) → after_close ws ≡ Some rest → ws ≡ mark s.CloseParen ∷ rest
close_is (mark s.CloseParen ∷ ws) rest e = cc
close_is _ rest e = absurd cc

close_bracket_is : (ws rest : List Word) → after_close_bracket ws ≡ Some rest → ws ≡ mark s.CloseBracket ∷ rest
close_bracket_is (mark s.CloseBracket ∷ ws) rest e = cc
close_bracket_is _ rest e = absurd cc

int_is : (ws rest : List Word) → after_int ws ≡ Some rest → ws ≡ key k.Int ∷ rest
int_is (key k.Int ∷ ws) rest e = cc
int_is _ rest e = absurd cc

pub prim_is : (ws : List Word) (x : Primitive × List Word) → prim_at ws ≡ Some x → ws ≡ prim_word x.0 ∷ x.1
prim_is (key k.Bool ∷ ws) x e = ap (λ (y : Primitive × List Word). prim_word y.0 ∷ y.1) (some_is _ x e)
prim_is (key k.Byte ∷ ws) x e = ap (λ (y : Primitive × List Word). prim_word y.0 ∷ y.1) (some_is _ x e)
prim_is (key k.Int ∷ ws) x e = ap (λ (y : Primitive × List Word). prim_word y.0 ∷ y.1) (some_is _ x e)
prim_is _ x e = absurd cc

logic_is : (l : Logic) (ws rest : List Word) → after_logic l ws ≡ Some rest → ws ≡ logic_word l ∷ rest
logic_is logics.And (key k.And ∷ ws) rest e = cc
logic_is logics.Or (key k.Or ∷ ws) rest e = cc
logic_is _ _ rest e = absurd cc

-- the word that a start or a link stands for
abbrev Starts : Word → Start → Type 0
Starts w (starts.Monadic m) = w ≡ monadic_word m
Starts w (starts.Convert p) = w ≡ prim_word p
Starts w starts.MostPos = w ≡ limit_word true
Starts w starts.MostNeg = w ≡ limit_word false
Starts w starts.Operand = Unit {0}

starts_so : (w : Word) → Starts w (start_of w)
starts_so (mark s.Minus) = refl
starts_so (mark s.Tilde) = refl
starts_so (key k.BitNot) = refl
starts_so (key k.Not) = refl
starts_so (key k.Size) = refl
starts_so (key k.Bool) = refl
starts_so (key k.Byte) = refl
starts_so (key k.Int) = refl
starts_so (key k.MostPos) = refl
starts_so (key k.MostNeg) = refl
starts_so _ = tt

abbrev Links : Word → Link → Type 0
Links w (links.Dyadic d) = w ≡ dyadic_word d
Links w (links.Logic l) = w ≡ logic_word l
Links w links.End = Unit {0}

links_so : (w : Word) → Links w (link_of w)
links_so (mark s.Plus) = refl
links_so (mark s.Minus) = refl
links_so (mark s.Times) = refl
links_so (mark s.Divide) = refl
links_so (mark s.Remainder) = refl
links_so (key k.Rem) = refl
links_so (key k.Plus) = refl
links_so (key k.Minus) = refl
links_so (key k.Times) = refl
links_so (mark s.BitAnd) = refl
links_so (key k.BitAnd) = refl
links_so (mark s.BitOr) = refl
links_so (key k.BitOr) = refl
links_so (mark s.BitXor) = refl
links_so (mark s.ShiftLeft) = refl
links_so (mark s.ShiftRight) = refl
links_so (key k.After) = refl
links_so (mark s.Equal) = refl
links_so (mark s.NotEqual) = refl
links_so (mark s.Less) = refl
links_so (mark s.Greater) = refl
links_so (mark s.LessEqual) = refl
links_so (mark s.GreaterEqual) = refl
links_so (key k.And) = refl
links_so (key k.Or) = refl
links_so _ = tt

-- ---- lists of operands and of expressions

pub operands_shown : (l : Logic) (all : List Operand) → show_operands l (operands all) ≡ show_all (λ a. logic_word l ∷ show_operand a) all
operands_shown l [] = refl
operands_shown l (a ∷ all) = ap (λ (t : List Word). logic_word l ∷ (show_operand a ++ t)) (operands_shown l all)

pub indices_shown : (all : List Expression) → show_indices (expressions all) ≡ show_all (λ e. mark s.OpenBracket ∷ (show_expression e ++ mark s.CloseBracket ∷ [])) all
indices_shown [] = refl
indices_shown (e ∷ all) = ap (λ (t : List Word). mark s.OpenBracket ∷ (show_expression e ++ mark s.CloseBracket ∷ t)) (indices_shown all) ∙ ap (λ (t : List Word). mark s.OpenBracket ∷ t) (sym (append_assoc (show_expression e) (mark s.CloseBracket ∷ []) (show_all (λ e. mark s.OpenBracket ∷ (show_expression e ++ mark s.CloseBracket ∷ [])) all)))

operands_fit : (n : ℕ) (all : List Operand) → Each (λ a. (depth_operand a ≤ n) × NarrowOperand a) all → (depth_operands (operands all) ≤ n) × NarrowOperands (operands all)
operands_fit n [] h = (zero-le, tt)
operands_fit n (a ∷ all) h = let q = operands_fit n all h.1 in (let here : depth_operand a ≤ n = h.0.0 in let more : depth_operands (operands all) ≤ n = q.0 in omega arith, (h.0.1, q.1))

indices_fit : (n : ℕ) (all : List Expression) → Each (λ e. (depth e < n) × Narrow e) all → (depth_indices (expressions all) ≤ n) × NarrowExpressions (expressions all)
indices_fit n [] h = (zero-le, tt)
indices_fit n (e ∷ all) h = let q = indices_fit n all h.1 in (let here : depth e < n = h.0.0 in let more : depth_indices (expressions all) ≤ n = q.0 in omega arith, (h.0.1, q.1))

counted : (all : List Expression) → count_expressions (expressions all) ≡ length all
counted [] = refl
counted (e ∷ all) = ap suc (counted all)

-- ---- expressions

-- the words are those of the expression, with at most n brackets open, and the rest
abbrev pub IsExpression : ℕ → List Word → Expression × List Word → Type 0
IsExpression n ws x = (ws ≡ show_expression x.0 ++ x.1) × (depth x.0 ≤ n) × Narrow x.0

abbrev pub IsOperand : ℕ → List Word → Operand × List Word → Type 0
IsOperand n ws x = (ws ≡ show_operand x.0 ++ x.1) × (depth_operand x.0 ≤ n) × NarrowOperand x.0

-- what is read inside of brackets has one bracket less
abbrev pub IsInner : ℕ → Read Expression → Type 0
IsInner n inner = (ws : List Word) (x : Expression × List Word) → inner ws ≡ Some x → (ws ≡ show_expression x.0 ++ x.1) × (depth x.0 < n) × Narrow x.0

in_brackets : (w : Word) (xs inside mid rest : List Word) → xs ≡ inside ++ mid → mid ≡ w ∷ rest → xs ≡ (inside ++ w ∷ []) ++ rest
in_brackets w xs inside mid rest p q = p ∙ ap (λ (t : List Word). inside ++ t) q ∙ sym (append_assoc inside (w ∷ []) rest)

type_sound : (ws : List Word) (x : Option Primitive × List Word) → type_mark_at ws ≡ Some x → ws ≡ show_type x.0 ++ x.1
type_sound (mark s.OpenParen ∷ ws) x e =
    let a = bind_some _ _ x e in
    let b = bind_some _ _ x a.2 in
    let whole : ws ≡ prim_word a.0.0 ∷ mark s.CloseParen ∷ b.0 = prim_is ws a.0 a.1 ∙ ap (λ (t : List Word). prim_word a.0.0 ∷ t) (close_is a.0.1 b.0 b.1) in
    subst (λ (y : Option Primitive × List Word). mark s.OpenParen ∷ ws ≡ show_type y.0 ++ y.1) (some_is _ x b.2) (ap (λ (t : List Word). mark s.OpenParen ∷ t) whole)
type_sound ws x e = subst (λ (y : Option Primitive × List Word). ws ≡ show_type y.0 ++ y.1) (some_is _ x e) refl

pub index_sound : (n : ℕ) (inner : Read Expression) → IsInner n inner → (ws rest : List Word) (x : Expression × List Word) → after_open_bracket ws ≡ Some rest → index_with inner rest ≡ Some x
    → (ws ≡ (mark s.OpenBracket ∷ (show_expression x.0 ++ mark s.CloseBracket ∷ [])) ++ x.1) × ((depth x.0 < n) × Narrow x.0)
index_sound n inner h ws rest x j e =
    let a = bind_some (inner rest) _ x e in
    let b = bind_some _ _ x a.2 in
    let p = h rest a.0 a.1 in
    let whole = open_bracket_is ws rest j ∙ ap (λ (t : List Word). mark s.OpenBracket ∷ t) (in_brackets (mark s.CloseBracket) rest (show_expression a.0.0) a.0.1 b.0 p.0 (close_bracket_is a.0.1 b.0 b.1)) in
    subst (λ (y : Expression × List Word). (ws ≡ (mark s.OpenBracket ∷ (show_expression y.0 ++ mark s.CloseBracket ∷ [])) ++ y.1) × ((depth y.0 < n) × Narrow y.0)) (some_is _ x b.2) (whole, (p.1, p.2))

indices_sound : (n : ℕ) (inner : Read Expression) → IsInner n inner → (ws : List Word) (x : List Expression × List Word) → indices_with inner ws ≡ Some x
    → (ws ≡ show_indices (expressions x.0) ++ x.1) × (depth_indices (expressions x.0) ≤ n) × NarrowExpressions (expressions x.0) × (count_expressions (expressions x.0) ≤ dimensions)
indices_sound n inner h ws x e =
    let p = many_sound Word Expression (λ e. mark s.OpenBracket ∷ (show_expression e ++ mark s.CloseBracket ∷ [])) (λ e. (depth e < n) × Narrow e) after_open_bracket (index_with inner) (index_sound n inner h) dimensions ws x e in
    let q = indices_fit n x.0 p.1 in
    (p.0 ∙ ap (λ (t : List Word). t ++ x.1) (sym (indices_shown x.0)), q.0, q.1, rw (counted x.0) p.2)

operand_sound : (n : ℕ) (inner : Read Expression) → IsInner n inner → (ws : List Word) (x : Operand × List Word) → operand_with inner ws ≡ Some x → IsOperand n ws x
unfolding operand_with
operand_sound n inner h (name v ∷ ws) x e =
    let a = bind_some (indices_with inner ws) _ x e in
    let p = indices_sound n inner h ws a.0 a.1 in
    subst (IsOperand n (name v ∷ ws)) (some_is _ x a.2) (ap (λ (t : List Word). name v ∷ t) p.0, p.1, (p.3, p.2))
operand_sound n inner h (lit l ∷ ws) x e =
    let a = bind_some (type_mark_at ws) _ x e in
    subst (IsOperand n (lit l ∷ ws)) (some_is _ x a.2) (ap (λ (t : List Word). lit l ∷ t) (type_sound ws a.0 a.1), zero-le, tt)
operand_sound n inner h (key k.True ∷ ws) x e = subst (IsOperand n (key k.True ∷ ws)) (some_is _ x e) (refl, zero-le, tt)
operand_sound n inner h (key k.False ∷ ws) x e = subst (IsOperand n (key k.False ∷ ws)) (some_is _ x e) (refl, zero-le, tt)
operand_sound n inner h (mark s.OpenParen ∷ ws) x e =
    let a = bind_some (inner ws) _ x e in
    let b = bind_some _ _ x a.2 in
    let p = h ws a.0 a.1 in
    let whole = in_brackets (mark s.CloseParen) ws (show_expression a.0.0) a.0.1 b.0 p.0 (close_is a.0.1 b.0 b.1) in
    subst (IsOperand n (mark s.OpenParen ∷ ws)) (some_is _ x b.2) (ap (λ (t : List Word). mark s.OpenParen ∷ t) whole, omega (arith, p.1), p.2)
operand_sound n inner h _ x e = absurd cc

joined_sound : (n : ℕ) (inner : Read Expression) (l : Logic) → IsInner n inner → (ws rest : List Word) (x : Operand × List Word) → after_logic l ws ≡ Some rest → operand_with inner rest ≡ Some x
    → (ws ≡ (logic_word l ∷ show_operand x.0) ++ x.1) × ((depth_operand x.0 ≤ n) × NarrowOperand x.0)
joined_sound n inner l h ws rest x j e =
    let p = operand_sound n inner h rest x e in
    (logic_is l ws rest j ∙ ap (λ (t : List Word). logic_word l ∷ t) p.0, (p.1, p.2))

operands_sound : (n : ℕ) (inner : Read Expression) (l : Logic) → IsInner n inner → (count : ℕ) (ws : List Word) (x : List Operand × List Word) → many (after_logic l) (operand_with inner) count ws ≡ Some x
    → (ws ≡ show_operands l (operands x.0) ++ x.1) × (depth_operands (operands x.0) ≤ n) × NarrowOperands (operands x.0)
operands_sound n inner l h count ws x e =
    let p = many_sound Word Operand (λ a. logic_word l ∷ show_operand a) (λ a. (depth_operand a ≤ n) × NarrowOperand a) (after_logic l) (operand_with inner) (joined_sound n inner l h) count ws x e in
    let q = operands_fit n x.0 p.1 in
    (p.0 ∙ ap (λ (t : List Word). t ++ x.1) (sym (operands_shown l x.0)), q.0, q.1)

-- what is known of an operand and of what follows it
abbrev IsLinked : ℕ → Operand → List Word → Expression × List Word → Type 0
IsLinked n a ws x = (show_operand a ++ ws ≡ show_expression x.0 ++ x.1) × (depth x.0 ≤ n) × Narrow x.0

linked_sound : (n : ℕ) (inner : Read Expression) → IsInner n inner → (a : Operand) → depth_operand a ≤ n → NarrowOperand a → (link : Link) (w : Word) (ws : List Word) (x : Expression × List Word) → Links w link → linked inner a link (w ∷ ws) ws ≡ Some x → IsLinked n a (w ∷ ws) x
linked_sound n inner h a d nar (links.Dyadic sign) w ws x is e =
    let b = bind_some (operand_with inner ws) _ x e in
    let p = operand_sound n inner h ws b.0 b.1 in
    let whole : w ∷ ws ≡ (dyadic_word sign ∷ show_operand b.0.0) ++ b.0.1 = ap (λ (v : Word). v ∷ ws) is ∙ ap (λ (t : List Word). dyadic_word sign ∷ t) p.0 in
    let deep : max (depth_operand a) (depth_operand b.0.0) ≤ n = omega (arith, p.1) in
    subst (IsLinked n a (w ∷ ws)) (some_is _ x b.2) (after _ (show_operand a) (w ∷ ws) _ b.0.1 refl whole, deep, (nar, p.2))
linked_sound n inner h a d nar (links.Logic l) w ws x is e =
    let b = bind_some (operand_with inner ws) _ x e in
    let c = bind_some (many (after_logic l) (operand_with inner) (length b.0.1) b.0.1) _ x b.2 in
    let p = operand_sound n inner h ws b.0 b.1 in
    let q = operands_sound n inner l h (length b.0.1) b.0.1 c.0 c.1 in
    let whole : w ∷ ws ≡ (logic_word l ∷ show_operand b.0.0 ++ show_operands l (operands c.0.0)) ++ c.0.1 = ap (λ (v : Word). v ∷ ws) is ∙ ap (λ (t : List Word). logic_word l ∷ t) (after ws (show_operand b.0.0) b.0.1 (show_operands l (operands c.0.0)) c.0.1 p.0 q.0) in
    let deep : max (depth_operand a) (max (depth_operand b.0.0) (depth_operands (operands c.0.0))) ≤ n = omega (arith, p.1, q.1) in
    subst (IsLinked n a (w ∷ ws)) (some_is _ x c.2) (after _ (show_operand a) (w ∷ ws) _ c.0.1 refl whole, deep, (nar, p.2, q.2))
linked_sound n inner h a d nar links.End w ws x is e = subst (IsLinked n a (w ∷ ws)) (some_is _ x e) (refl, d, nar)

after_operand_sound : (n : ℕ) (inner : Read Expression) → IsInner n inner → (a : Operand) → depth_operand a ≤ n → NarrowOperand a → (ws : List Word) (x : Expression × List Word) → after_operand inner a ws ≡ Some x → IsLinked n a ws x
after_operand_sound n inner h a d nar [] x e = subst (IsLinked n a []) (some_is _ x e) (refl, d, nar)
after_operand_sound n inner h a d nar (w ∷ ws) x e = linked_sound n inner h a d nar (link_of w) w ws x (links_so w) e

started_sound : (n : ℕ) (inner : Read Expression) → IsInner n inner → (start : Start) (w : Word) (ws : List Word) (x : Expression × List Word) → Starts w start → started inner start (w ∷ ws) ws ≡ Some x → IsExpression n (w ∷ ws) x
started_sound n inner h (starts.Monadic m) w ws x is e =
    let a = bind_some (operand_with inner ws) _ x e in
    let p = operand_sound n inner h ws a.0 a.1 in
    subst (IsExpression n (w ∷ ws)) (some_is _ x a.2) (ap (λ (v : Word). v ∷ ws) is ∙ ap (λ (t : List Word). monadic_word m ∷ t) p.0, p.1, p.2)
started_sound n inner h (starts.Convert t) w ws x is e =
    let a = bind_some (operand_with inner ws) _ x e in
    let p = operand_sound n inner h ws a.0 a.1 in
    subst (IsExpression n (w ∷ ws)) (some_is _ x a.2) (ap (λ (v : Word). v ∷ ws) is ∙ ap (λ (u : List Word). prim_word t ∷ u) p.0, p.1, p.2)
started_sound n inner h starts.MostPos w ws x is e =
    let a = bind_some (after_int ws) _ x e in
    subst (IsExpression n (w ∷ ws)) (some_is _ x a.2) (ap (λ (v : Word). v ∷ ws) is ∙ ap (λ (t : List Word). limit_word true ∷ t) (int_is ws a.0 a.1), zero-le, tt)
started_sound n inner h starts.MostNeg w ws x is e =
    let a = bind_some (after_int ws) _ x e in
    subst (IsExpression n (w ∷ ws)) (some_is _ x a.2) (ap (λ (v : Word). v ∷ ws) is ∙ ap (λ (t : List Word). limit_word false ∷ t) (int_is ws a.0 a.1), zero-le, tt)
started_sound n inner h starts.Operand w ws x is e =
    let a = bind_some (operand_with inner (w ∷ ws)) _ x e in
    let p = operand_sound n inner h (w ∷ ws) a.0 a.1 in
    let q = after_operand_sound n inner h a.0.0 p.1 p.2 a.0.1 x a.2 in
    (p.0 ∙ q.0, q.1, q.2)

expression_with_sound : (n : ℕ) (inner : Read Expression) → IsInner n inner → (ws : List Word) (x : Expression × List Word) → expression_with inner ws ≡ Some x → IsExpression n ws x
unfolding expression_with
expression_with_sound n inner h [] x e = absurd cc
expression_with_sound n inner h (w ∷ ws) x e = started_sound n inner h (start_of w) w ws x (starts_so w) e

-- What is read is shown so, with fewer than n brackets open.
pub expression_sound : (n : ℕ) (ws : List Word) (x : Expression × List Word) → expression_at n ws ≡ Some x → (ws ≡ show_expression x.0 ++ x.1) × (depth x.0 < n) × Narrow x.0
unfolding expression_at
expression_sound zero ws x e = absurd cc
expression_sound (suc n) ws x e = let p = expression_with_sound n (expression_at n) (expression_sound n) ws x e in (p.0, omega (arith, p.1), p.2)

-- Subscripts and sizes that are read are shown so.
pub sizes_sound : (n : ℕ) (ws : List Word) (x : List Expression × List Word) → indices_with (expression_at n) ws ≡ Some x
    → (ws ≡ show_indices (expressions x.0) ++ x.1) × (depth_indices (expressions x.0) ≤ n) × NarrowExpressions (expressions x.0) × (count_expressions (expressions x.0) ≤ dimensions)
sizes_sound n ws x e = indices_sound n (expression_at n) (expression_sound n) ws x e
