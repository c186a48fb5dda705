-- An expression's code brings its value to the top of the stack, or comes to its fault.
use Rattle.std.specs.Prelude.{slice_get, get_or, if◌then◌else◌, int_le, nat_eq, ◌||◌}
use Rattle.std.proofs.Common.{arith, mul-zero, ◌≡◌, ℕ, zero, suc, ℤ, pos, ◌+◌, ◌*◌, ◌<◌, ◌≤◌, Bool, true, false, IsTrue, List, [], ◌∷◌, ◌++◌, length, Option, Some, refl, sym, ap, ◌∙◌, subst}
use Rattle.std.proofs.lemmas.Bool.Decides.{nat_tests}
use Rattle.occ_term.specs.Messages.{product}
use Rattle.occ_term.specs.declared.message.Part.{Part}
use Rattle.occ_term.specs.declared.expression.Operator.{Operator}
use Rattle.occ_term.specs.Terms.{Expression, Constant, Cell, Component, Letter, Binary, Unary, And, Or, Conversion, Place, place, Subscripts, no_subscripts, then_subscript}
use Rattle.occ_term.specs.Values.{Evaluated, Value, Fails, after, holds, binary, unary, converted, subscript, Span, span, first_of, value_of, span_of, offset_of}
use Rattle.occ_term.specs.Storing.{Spot}
use Rattle.occ_term.specs.Frames.{Variables, at}
use Rattle.occ_machine.specs.Machine.{by_cell, Point, point, Moves, Stuck, is_number, is_component, act, going, going_if, Walks, here, on}
use Rattle.occ_machine.specs.declared.instr.Instr.{Instr}
use Rattle.occ_machine.specs.declared.instr.Instr.TheVariants.{AndThen, Load, Operate, OrElse}
use Rattle.occ_code.specs.OperandOrder.{both_operands, comes_second, commutes}
use Rattle.occ_code.specs.Expressions.{expression_code, place_code, subscripts_code}
use Rattle.occ_code.specs.Laws.{StandsAt, FaultsAt, Comes, comes, fails, ExpressionsRun}
use Rattle.occ_term.specs.declared.primitive.Primitive.{Primitive}
use Rattle.occ_term.specs.declared.primitive.Primitive.TheVariants.{Int}
use Rattle.occ_term.specs.declared.protocol.Protocol.{Protocol}
use Rattle.occ_term.specs.Uses.{numbers_in}
use Rattle.occ_term.specs.Typing.{HasType, PlaceHas, SubscriptsLeave}
use Rattle.occ_term.specs.TermTyping.{Declared, ChannelHas}
use Rattle.occ_term.proofs.Bounds.{one_more, within_size}
use Rattle.occ_term.proofs.TypedPlaces.{to_span}
use Rattle.occ_code.specs.Within.{AreNumbered}
use Rattle.occ_code.proofs.PassingArms.{both_true, number_below}
use Rattle.occ_code.proofs.ReadCells.{operand, or_right}
use Rattle.occ_code.proofs.Letters.{letter_loads}
use Rattle.occ_code.proofs.OperandOrder.{second_commutes, second_is_cell, swapped}
use Rattle.occ_code.proofs.Walks.{split, place_after, walks_on}

-- ---- components have numbers

below_number : (n : ℕ) → IsTrue (is_number n) → n < 4294967296
below_number n h = grind (arith, nat_tests)

not_negative : (n : ℕ) → IsTrue (int_le (pos 0) (pos n))
not_negative n = grind (arith, nat_tests)

some_of : (i p : ℕ) → 0 < i * p → 0 < p
some_of i zero h = absurd (omega (arith, h, mul-zero i))
some_of i (suc p) h = omega arith

-- an array that has components ends at such a number
abbrev pub Room : ℕ → List ℕ → Type 0
Room first sizes = 0 < product sizes → first + product sizes ≤ 4294967296

pub room_of : (first n : ℕ) → ((c : ℕ) → IsTrue (numbers_in (span first n) c) → IsTrue (is_number c)) → 0 < n → first + n ≤ 4294967296
room_of first zero k h = absurd (omega (arith, h))
room_of first (suc n) k h =
    let last = below_number (first + n) (k (first + n) (to_span first (suc n) (first + n) (omega arith) (omega arith))) in
    omega (arith, last)

-- so does each of its parts
part_room : (first n p i : ℕ) → i < n → (0 < n * p → first + n * p ≤ 4294967296) → 0 < p → (first + i * p) + p ≤ 4294967296
part_room first n p i within room h =
    let more = one_more n i p within in
    omega (arith, more, room (omega (arith, more, h)))

part_there : (first n p i : ℕ) → i < n → (0 < n * p → first + n * p ≤ 4294967296) → 0 < i * p → first + i * p < 4294967296
part_there first n p i within room h =
    let more = one_more n i p within in
    let some = some_of i p h in
    omega (arith, more, some, room (omega (arith, more, h)))

is_there : (first o : ℕ) → (0 < o → first + o < 4294967296) → is_component (pos first) o ≡ true
is_there first zero h = both_true (int_le (pos 0) (pos first)) true (not_negative first) refl
is_there first (suc o) h =
    both_true (int_le (pos 0) (pos first)) (nat_eq (suc o) 0 || is_number (first + suc o)) (not_negative first)
    (or_right (nat_eq (suc o) 0) (is_number (first + suc o)) (number_below (first + suc o) (h (omega arith))))

-- a place whose array ends at such a number, with typed subscripts
abbrev pub Fits : (ℕ → Option Primitive) → Place → List ℕ → Type 0
Fits types (place line first sizes subs) rest = Room first sizes × SubscriptsLeave types subs sizes rest

pub cells_fit : (types : ℕ → Option Primitive) → ((c : ℕ) (t : Primitive) → types c ≡ Some t → IsTrue (is_number c)) → (p : Place) (t : Primitive) (rest : List ℕ) → PlaceHas types p t rest → Fits types p rest
cells_fit types small (place line first sizes subs) t rest h = (room_of first (product sizes) (λ c m. small c t (h.0 c m)), h.1)

module _ (code : List (Instr ℕ)) (f : Variables) where
  pub fault_on : {a b : Point} {e : _} → Walks by_cell code a b → FaultsAt code b f e → FaultsAt code a f e
  fault_on w x = record { last = x.last; stands = x.stands; walks = walks_on w x.walks; stops = x.stops }

  pub comes_on : {X : Type 0} {a b : Point} {to : X → Point} (v : Evaluated X) → Walks by_cell code a b → Comes code f b v to → Comes code f a v to
  comes_on (Value x) w (comes c) = comes (walks_on w c)
  comes_on (Fails e) w (fails c) = fails (fault_on w c)

  pub comes_then : {X Y : Type 0} {a : Point} {mid : X → Point} {to : Y → Point} (v : Evaluated X) (g : X → Evaluated Y)
      → Comes code f a v mid → ((x : X) → v ≡ Value x → Comes code f (mid x) (g x) to) → Comes code f a (after v g) to
  comes_then (Value x) g (comes c) k = comes_on (g x) c (k x refl)
  comes_then (Fails e) g (fails c) k = fails c

  -- one instruction that goes on with what an evaluation gives
  pub comes_by : {X : Type 0} (pc : ℕ) (st : List ℤ) (q : List Part) (sp : List Spot) (i : Instr ℕ) (v : Evaluated X) (to : X → Point)
      → slice_get code pc ≡ Some i → act by_cell (Some i) pc st q sp f ≡ going pc f v to → Comes code f (point pc st q sp f) v to
  comes_by pc st q sp i (Value x) to h e = comes (on (ap (λ o. act by_cell o pc st q sp f) h ∙ e) here)
  comes_by pc st q sp i (Fails x) to h e =
      fails (record { last = point pc st q sp f; stands = pc; walks = here; stops = ap (λ o. act by_cell o pc st q sp f) h ∙ e })

  may_go : {X : Type 0} (pc : ℕ) (v : Evaluated X) (may : X → Bool) (to : X → Point) → ((x : X) → v ≡ Value x → may x ≡ true) → going_if pc f v may to ≡ going pc f v to
  may_go pc (Value x) may to k = ap (λ b. if b then Moves (to x) else Stuck) (k x refl)
  may_go pc (Fails e) may to k = refl

  pub steps_to : (pc : ℕ) (st : List ℤ) (q : List Part) (sp : List Spot) (i : Instr ℕ) (b : Point)
      → slice_get code pc ≡ Some i → act by_cell (Some i) pc st q sp f ≡ Moves b → Walks by_cell code (point pc st q sp f) b
  steps_to pc st q sp i b h e = on (ap (λ o. act by_cell o pc st q sp f) h ∙ e) here

  pub comes_at : {X : Type 0} (a : Point) (v : Evaluated X) (m n : ℕ) (to : ℕ → X → Point) → m ≡ n → Comes code f a v (to m) → Comes code f a v (to n)
  comes_at a v m n to e c = subst (λ x. Comes code f a v (to x)) e c

  module _ (q : List Part) (sp : List Spot) where
    abbrev pub on_top : List ℤ → ℕ → ℤ → Point
    on_top st pc v = point pc (v ∷ st) q sp f

    abbrev pub cell_on_top : List ℤ → ℕ → Span → Point
    cell_on_top st pc a = point pc (pos (first_of a) ∷ st) q sp f

    and_chosen : (st : List ℤ) (pc pc' : ℕ) (b : Expression) (x : ℤ) (skip : ℕ) (t : Bool) → holds x ≡ t → slice_get code pc ≡ Some (AndThen skip) → pc + 1 + skip ≡ pc'
        → Comes code f (point (pc + 1) st q sp f) (value_of b (at f)) (on_top st pc') → Comes code f (on_top st pc x) (if holds x then value_of b (at f) else Value (pos 0)) (on_top st pc')
    and_chosen st pc pc' b x skip true e h len c =
        let w : Walks by_cell code (on_top st pc x) (point (pc + 1) st q sp f) = steps_to pc (x ∷ st) q sp (AndThen skip) (point (pc + 1) st q sp f) h (rw e refl) in
        rw e (comes_on (value_of b (at f)) w c)
    and_chosen st pc pc' b x skip false e h len c =
        let w : Walks by_cell code (on_top st pc x) (on_top st (pc + 1 + skip) (pos 0)) = steps_to pc (x ∷ st) q sp (AndThen skip) (on_top st (pc + 1 + skip) (pos 0)) h (rw e refl) in
        rw e (comes (subst (λ n. Walks by_cell code (on_top st pc x) (on_top st n (pos 0))) len w))

    or_chosen : (st : List ℤ) (pc pc' : ℕ) (b : Expression) (x : ℤ) (skip : ℕ) (t : Bool) → holds x ≡ t → slice_get code pc ≡ Some (OrElse skip) → pc + 1 + skip ≡ pc'
        → Comes code f (point (pc + 1) st q sp f) (value_of b (at f)) (on_top st pc') → Comes code f (on_top st pc x) (if holds x then Value (pos 1) else value_of b (at f)) (on_top st pc')
    or_chosen st pc pc' b x skip true e h len c =
        let w : Walks by_cell code (on_top st pc x) (on_top st (pc + 1 + skip) (pos 1)) = steps_to pc (x ∷ st) q sp (OrElse skip) (on_top st (pc + 1 + skip) (pos 1)) h (rw e refl) in
        rw e (comes (subst (λ n. Walks by_cell code (on_top st pc x) (on_top st n (pos 1))) len w))
    or_chosen st pc pc' b x skip false e h len c =
        let w : Walks by_cell code (on_top st pc x) (point (pc + 1) st q sp f) = steps_to pc (x ∷ st) q sp (OrElse skip) (point (pc + 1) st q sp f) h (rw e refl) in
        rw e (comes_on (value_of b (at f)) w c)

    abbrev Runs : Expression → Type 0
    Runs e = (pc pc' : ℕ) (st : List ℤ) → StandsAt code pc (expression_code e) pc' → Comes code f (point pc st q sp f) (value_of e (at f)) (on_top st pc')

    cell_second : (op : Operator) (type : Primitive) (line c : ℕ) (b : Expression) (pc pc' : ℕ) (st : List ℤ) → commutes op ≡ true → Runs b
        → StandsAt code pc (expression_code b ++ (Load c ∷ Operate op type line ∷ [])) pc'
        → Comes code f (point pc st q sp f) (after (value_of b (at f)) (λ y. binary op type line (at f c) y)) (on_top st pc')
    cell_second op type line c b pc pc' st same runs h =
        let x = at f c in
        let (m, hb, l) = split code pc pc' (expression_code b) _ h in
        comes_then (value_of b (at f)) (λ y. binary op type line x y) (runs pc m st hb)
        (λ y e. comes_on (binary op type line x y) (steps_to m (y ∷ st) q sp _ (point (m + 1) (x ∷ y ∷ st) q sp f) l.0 refl)
        (comes_at (point (m + 1) (x ∷ y ∷ st) q sp f) (binary op type line x y) (m + 1 + 1) pc' (on_top st) l.1.1
        (comes_by (m + 1) (x ∷ y ∷ st) q sp _ (binary op type line x y) (on_top st (m + 1 + 1)) l.1.0 (ap (λ v. going (m + 1) f v (on_top st (m + 1 + 1))) (swapped op type line y x same)))))

    -- both operands, in either order, and the operator
    operands_run : (op : Operator) (type : Primitive) (line : ℕ) (a b : Expression) (pc pc' : ℕ) (st : List ℤ) (second : Bool) → comes_second op a b ≡ second → Runs a → Runs b
        → StandsAt code pc (both_operands second (expression_code a) (expression_code b) (Operate op type line ∷ [])) pc'
        → Comes code f (point pc st q sp f) (value_of (Binary op type line a b) (at f)) (on_top st pc')
    operands_run op type line a b pc pc' st false e runs runs' h =
        let (m, ha, hb) = split code pc pc' (expression_code a) _ h in
        let (n, hb', l) = split code m pc' (expression_code b) _ hb in
        comes_then (value_of a (at f)) (λ x. after (value_of b (at f)) (λ y. binary op type line x y)) (runs pc m st ha)
        (λ x e. comes_then (value_of b (at f)) (λ y. binary op type line x y) (runs' m n (x ∷ st) hb')
        (λ y e'. comes_at (point n (y ∷ x ∷ st) q sp f) (binary op type line x y) (n + 1) pc' (on_top st) l.1 (comes_by n (y ∷ x ∷ st) q sp _ (binary op type line x y) (on_top st (n + 1)) l.0 refl)))
    operands_run op type line a b pc pc' st true e runs runs' h =
        let (c, is) = second_is_cell op a b e in
        let h' : StandsAt code pc (expression_code b ++ (Load c ∷ Operate op type line ∷ [])) pc' = subst (λ i. StandsAt code pc (expression_code b ++ (expression_code i ++ Operate op type line ∷ [])) pc') is h in
        subst (λ i. Comes code f (point pc st q sp f) (value_of (Binary op type line i b) (at f)) (on_top st pc')) (sym is)
        (cell_second op type line c b pc pc' st (second_commutes op a b e) runs' h')

    -- over types of cells that have numbers
    module _ (types : ℕ → Option Primitive) (small : (c : ℕ) (t : Primitive) → types c ≡ Some t → IsTrue (is_number c)) where
      mutual
        pub expression_runs : (e : Expression) (t : Primitive) → HasType types e t → (pc pc' : ℕ) (st : List ℤ) → StandsAt code pc (expression_code e) pc' → Comes code f (point pc st q sp f) (value_of e (at f)) (on_top st pc')
        expression_runs (Constant v) t g pc pc' st h =
            comes (subst (λ n. Walks by_cell code (point pc st q sp f) (on_top st n v)) h.1 (steps_to pc st q sp _ (on_top st (pc + 1) v) h.0 refl))
        expression_runs (Cell c) t g pc pc' st h =
            comes (subst (λ n. Walks by_cell code (point pc st q sp f) (on_top st n (at f c))) h.1 (steps_to pc st q sp _ (on_top st (pc + 1) (at f c)) h.0 refl))
        expression_runs (Component p) t g pc pc' st h =
            let (m, a, l) = split code pc pc' (place_code p) _ h in
            comes_then (span_of p (at f)) (λ x. Value (at f (first_of x))) (place_runs p [] (cells_fit types small p t [] g) pc m st a)
            (λ x y. comes_at (cell_on_top st m x) (Value (at f (first_of x))) (m + 1) pc' (on_top st) l.1 (comes_by m (pos (first_of x) ∷ st) q sp _ (Value (at f (first_of x))) (on_top st (m + 1)) l.0 refl))
        expression_runs (Letter line text e) t g pc pc' st h =
            let (m, a, l) = split code pc pc' (expression_code e) _ h in
            comes_then (value_of e (at f)) (λ v. after (subscript line (length text) v) (λ i. Value (get_or text i (pos 0)))) (expression_runs e Int g.2 pc m st a)
            (λ v y. comes_then (subscript line (length text) v) (λ i. Value (get_or text i (pos 0)))
            (comes_by m (v ∷ st) q sp _ (subscript line (length text) v) (λ i. on_top st (m + 1) (get_or text i (pos 0))) l.0 (letter_loads line text m v st q sp f g.1))
            (λ i z. comes_at (on_top st (m + 1) (get_or text i (pos 0))) (Value (get_or text i (pos 0))) (m + 1) pc' (on_top st) l.1 (comes here)))
        expression_runs (Binary op type line a b) t g pc pc' st h =
            operands_run op type line a b pc pc' st (comes_second op a b) refl (λ from to st'. expression_runs a type g.2 from to st') (λ from to st'. expression_runs b g.0 g.3 from to st') h
        expression_runs (Unary op type line a) t g pc pc' st h =
            let u = operand types op type line a t g in
            let (m, ha, l) = split code pc pc' (expression_code a) _ h in
            comes_then (value_of a (at f)) (λ x. unary op type line x) (expression_runs a u.0 u.1 pc m st ha)
            (λ x e. comes_at (on_top st m x) (unary op type line x) (m + 1) pc' (on_top st) l.1 (comes_by m (x ∷ st) q sp _ (unary op type line x) (on_top st (m + 1)) l.0 refl))
        expression_runs (And a b) t g pc pc' st h =
            let (m, ha, l) = split code pc pc' (expression_code a) _ h in
            let len = place_after code (m + 1) pc' (expression_code b) l.1 in
            comes_then (value_of a (at f)) (λ x. if holds x then value_of b (at f) else Value (pos 0)) (expression_runs a _ g.1 pc m st ha)
            (λ x e. and_chosen st m pc' b x (length (expression_code b)) (holds x) refl l.0 len (expression_runs b _ g.2 (m + 1) pc' st l.1))
        expression_runs (Or a b) t g pc pc' st h =
            let (m, ha, l) = split code pc pc' (expression_code a) _ h in
            let len = place_after code (m + 1) pc' (expression_code b) l.1 in
            comes_then (value_of a (at f)) (λ x. if holds x then Value (pos 1) else value_of b (at f)) (expression_runs a _ g.1 pc m st ha)
            (λ x e. or_chosen st m pc' b x (length (expression_code b)) (holds x) refl l.0 len (expression_runs b _ g.2 (m + 1) pc' st l.1))
        expression_runs (Conversion to line a) t g pc pc' st h =
            let (m, ha, l) = split code pc pc' (expression_code a) _ h in
            comes_then (value_of a (at f)) (λ x. converted to line x) (expression_runs a g.1 g.2 pc m st ha)
            (λ x e. comes_at (on_top st m x) (converted to line x) (m + 1) pc' (on_top st) l.1 (comes_by m (x ∷ st) q sp _ (converted to line x) (on_top st (m + 1)) l.0 refl))

        pub place_runs : (p : Place) (rest : List ℕ) → Fits types p rest → (pc pc' : ℕ) (st : List ℤ) → StandsAt code pc (place_code p) pc' → Comes code f (point pc st q sp f) (span_of p (at f)) (cell_on_top st pc')
        place_runs (place line first sizes subs) rest g pc pc' st h =
            comes_on (offset_of subs line first sizes (at f)) (steps_to pc st q sp _ (on_top st (pc + 1) (pos first)) h.0 refl) (subscripts_run subs line first sizes rest g.1 g.0 (pc + 1) pc' st h.1)

        pub subscripts_run : (subs : Subscripts) (line first : ℕ) (sizes rest : List ℕ) → SubscriptsLeave types subs sizes rest → Room first sizes → (pc pc' : ℕ) (st : List ℤ) → StandsAt code pc (subscripts_code subs line sizes) pc'
            → Comes code f (on_top st pc (pos first)) (offset_of subs line first sizes (at f)) (cell_on_top st pc')
        subscripts_run no_subscripts line first sizes rest g room pc pc' st h = comes (subst (λ n. Walks by_cell code (on_top st pc (pos first)) (on_top st n (pos first))) h here)
        subscripts_run (then_subscript e es) line first [] rest g room pc pc' st h = absurd g
        subscripts_run (then_subscript e es) line first (n ∷ ns) rest g room pc pc' st h =
            let (m, a, l) = split code pc pc' (expression_code e) _ h in
            comes_then (value_of e (at f)) (λ v. after (subscript line n v) (λ i. offset_of es line (first + i * product ns) ns (at f))) (expression_runs e Int g.0 pc m (pos first ∷ st) a)
            (λ v y. comes_then (subscript line n v) (λ i. offset_of es line (first + i * product ns) ns (at f))
            (comes_by m (v ∷ pos first ∷ st) q sp _ (subscript line n v) (λ i. on_top st (m + 1) (pos (first + i * product ns))) l.0
            (may_go m (subscript line n v) (λ i. is_component (pos first) (i * product ns)) (λ i. on_top st (m + 1) (pos (first + i * product ns))) (λ i z. is_there first (i * product ns) (part_there first n (product ns) i (within_size line n v i z) room))))
            (λ i z. subscripts_run es line (first + i * product ns) ns rest g.1 (part_room first n (product ns) i (within_size line n v i z) room) (m + 1) pc' st l.1))

pub expressions_run : ExpressionsRun
expressions_run code f d e t pc pc' st q sp few typed h = expression_runs code f q sp d.types few.cells e t typed pc pc' st h

-- so does a channel's place
pub channel_fits : (d : Declared) → AreNumbered d → (c : Place) (p : Protocol) → ChannelHas d c p → Fits d.types c []
channel_fits d few (place line first sizes subs) p h = (room_of first (product sizes) (λ c m. few.channels c p (h.0 c m)), h.1)
