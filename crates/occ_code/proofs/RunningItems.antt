-- The code of items makes the parts of a message, and the code of targets their spots.
use Rattle.std.specs.Prelude.{⊤}
use Rattle.std.proofs.Common.{◌≡◌, ℕ, ℤ, pos, ◌+◌, ◌*◌, List, [], ◌∷◌, ◌++◌, refl, ap, ◌∙◌, subst, sym, append_assoc, append-nil}
use Rattle.occ_term.specs.Messages.{product}
use Rattle.occ_term.specs.declared.message.Part.{Part}
use Rattle.occ_term.specs.declared.message.Part.TheVariants.{One, Many}
use Rattle.occ_term.specs.Terms.{Place, place, Subscripts, no_subscripts, then_subscript, Cells, Text, Item, OfOne, OfMany, OfCounted, Target, Into, IntoCounted}
use Rattle.occ_term.specs.Values.{Store, Evaluated, Value, Fails, after, subscript, counted, Span, span, first_of, count_of, value_of, span_of, offset_of, values_from, array_of, part_of, parts_of}
use Rattle.occ_term.specs.Storing.{Spot, At, AtCounted, spot_of, spots_of}
use Rattle.occ_term.specs.Uses.{components}
use Rattle.occ_term.specs.Frames.{Variables, at}
use Rattle.occ_machine.specs.Machine.{by_cell, Point, point, Moves, Walks, going, here}
use Rattle.occ_machine.specs.declared.instr.Instr.{Instr}
use Rattle.occ_code.specs.Expressions.{expression_code, place_code, components_at, item_code, items_code, target_code, targets_code}
use Rattle.occ_code.specs.Laws.{StandsAt, Comes, comes, fails}
use Rattle.occ_code.proofs.Letters.{numbers_back}
use Rattle.occ_code.proofs.Walks.{split}
use Rattle.occ_term.specs.declared.protocol.PartType.{PartType}
use Rattle.occ_term.specs.declared.protocol.PartType.TheVariants.{One as OneOf, Many as ManyOf, Counted as CountedOf}
use Rattle.occ_term.specs.Typing.{ItemHas, TargetHas}
use Rattle.occ_term.specs.TermTyping.{Declared, ItemsHave, TargetsHave}
use Rattle.occ_code.specs.Within.{AreNumbered}
use Rattle.occ_code.proofs.RunningExpressions.{comes_on, comes_then, comes_by, comes_at, cells_fit, Fits, expression_runs, place_runs}

-- ---- how many cells a place names

abbrev Counts : ℕ → Evaluated Span → Type 0
Counts n (Value a) = count_of a ≡ n
Counts n (Fails e) = ⊤

counts_after : {X : Type 0} (n : ℕ) (v : Evaluated X) (g : X → Evaluated Span) → ((x : X) → Counts n (g x)) → Counts n (after v g)
counts_after n (Value x) g k = k x
counts_after n (Fails e) g k = tt

offset_counts : (subs : Subscripts) (line first : ℕ) (sizes : List ℕ) (s : Store) → Counts (components subs sizes) (offset_of subs line first sizes s)
offset_counts no_subscripts line first sizes s = refl
offset_counts (then_subscript e es) line first [] s = refl
offset_counts (then_subscript e es) line first (n ∷ ns) s =
    counts_after (components es ns) (value_of e s) (λ v. after (subscript line n v) (λ i. offset_of es line (first + i * product ns) ns s)) (λ v.
    counts_after (components es ns) (subscript line n v) (λ i. offset_of es line (first + i * product ns) ns s) (λ i. offset_counts es line (first + i * product ns) ns s))

place_counts : (p : Place) (s : Store) → Counts (components_at p) (span_of p s)
place_counts (place line first sizes subs) s = offset_counts subs line first sizes s

pub count_is : (p : Place) (s : Store) (a : Span) → span_of p s ≡ Value a → count_of a ≡ components_at p
count_is p s a e = subst (λ v. Counts (components_at p) v) e (place_counts p s)

module _ (code : List (Instr ℕ)) (f : Variables) where
  pub comes_twice : {X Y Z : Type 0} {a : Point} {mid : X → Point} {to : Z → Point} (v : Evaluated X) (g : X → Evaluated Y) (h : Y → Evaluated Z)
      → Comes code f a v mid → ((x : X) → v ≡ Value x → Comes code f (mid x) (after (g x) h) to) → Comes code f a (after (after v g) h) to
  comes_twice (Value x) g h (comes w) k = comes_on code f (after (g x) h) w (k x refl)
  comes_twice (Fails e) g h (fails w) k = fails w

  -- ---- items

  module _ (st : List ℤ) (sp : List Spot) (d : Declared) (few : AreNumbered d) where
    abbrev pub queued : List Part → ℕ → Part → Point
    queued q pc p = point pc st (q ++ p ∷ []) sp f

    cells_at : (type : _) (q : List Part) (pc : ℕ) (p : Place) (a : Span) → count_of a ≡ components_at p
        → Moves (point (pc + 1) st (q ++ Many type (values_from (first_of a) (components_at p) (at f)) ∷ []) sp f) ≡ Moves (queued q (pc + 1) (Many type (values_from (first_of a) (count_of a) (at f))))
    cells_at type q pc p a e = ap (λ n. Moves (queued q (pc + 1) (Many type (values_from (first_of a) n (at f))))) (sym e)

    pub item_runs : (i : Item) (t : PartType) → ItemHas d.types i t → (q : List Part) (pc pc' : ℕ) → StandsAt code pc (item_code i) pc' → Comes code f (point pc st q sp f) (part_of i (at f)) (queued q pc')
    item_runs (OfOne type e) (ManyOf sizes t) g q pc pc' h = absurd g
    item_runs (OfOne type e) (CountedOf n t) g q pc pc' h = absurd g
    item_runs (OfOne type e) (OneOf t) g q pc pc' h =
        let (m, a, l) = split code pc pc' (expression_code e) _ h in
        comes_then code f (value_of e (at f)) (λ v. Value (One type v)) (expression_runs code f q sp d.types few.cells e t g.1 pc m st a)
        (λ v y. comes_at code f _ (Value (One type v)) (m + 1) pc' (queued q) l.1 (comes_by code f m (v ∷ st) q sp _ (Value (One type v)) (queued q (m + 1)) l.0 refl))
    item_runs (OfMany type a) (OneOf t) g q pc pc' h = absurd g
    item_runs (OfMany type a) (CountedOf n t) g q pc pc' h = absurd g
    item_runs (OfMany type (Cells p)) (ManyOf sizes t) g q pc pc' h =
        let (m, c, l) = split code pc pc' (place_code p) _ h in
        comes_twice (span_of p (at f)) (λ a. Value (values_from (first_of a) (count_of a) (at f))) (λ vs. Value (Many type vs)) (place_runs code f q sp d.types few.cells p sizes (cells_fit d.types few.cells p t sizes g.1) pc m st c)
        (λ a y. let v = Many type (values_from (first_of a) (count_of a) (at f)) in
        comes_at code f _ (Value v) (m + 1) pc' (queued q) l.1 (comes_by code f m (pos (first_of a) ∷ st) q sp _ (Value v) (queued q (m + 1)) l.0 (cells_at type q m p a (count_is p (at f) a y))))
    item_runs (OfMany type (Text bytes)) (ManyOf sizes t) g q pc pc' h =
        comes_at code f _ (Value (Many type bytes)) (pc + 1) pc' (queued q) h.1 (comes_by code f pc st q sp _ (Value (Many type bytes)) (queued q (pc + 1)) h.0 (ap (λ vs. Moves (queued q (pc + 1) (Many type vs))) (numbers_back bytes g.1.2)))
    item_runs (OfCounted type line n a) (OneOf t) g q pc pc' h = absurd g
    item_runs (OfCounted type line n a) (ManyOf sizes t) g q pc pc' h = absurd g
    item_runs (OfCounted type line n (Cells p)) (CountedOf count t) g q pc pc' h =
        let (m, a, r) = split code pc pc' (expression_code n) _ h in
        let (m', c, l) = split code m pc' (place_code p) _ r in
        comes_then code f (value_of n (at f)) (λ v. after (array_of (Cells p) (at f)) (λ vs. counted type line v vs)) (expression_runs code f q sp d.types few.cells n count g.1 pc m st a)
        (λ v y. comes_twice (span_of p (at f)) (λ x. Value (values_from (first_of x) (count_of x) (at f))) (λ vs. counted type line v vs) (place_runs code f q sp d.types few.cells p (g.2.0 ∷ []) (cells_fit d.types few.cells p t (g.2.0 ∷ []) g.2.1) m m' (v ∷ st) c)
        (λ x z. let w = counted type line v (values_from (first_of x) (count_of x) (at f)) in
        comes_at code f _ w (m' + 1) pc' (queued q) l.1 (comes_by code f m' (pos (first_of x) ∷ v ∷ st) q sp _ w (queued q (m' + 1)) l.0
        (rw (count_is p (at f) x z) refl))))
    item_runs (OfCounted type line n (Text bytes)) (CountedOf count t) g q pc pc' h =
        let (m, a, l) = split code pc pc' (expression_code n) _ h in
        comes_then code f (value_of n (at f)) (λ v. counted type line v bytes) (expression_runs code f q sp d.types few.cells n count g.1 pc m st a)
        (λ v y. comes_at code f _ (counted type line v bytes) (m + 1) pc' (queued q) l.1 (comes_by code f m (v ∷ st) q sp _ (counted type line v bytes) (queued q (m + 1)) l.0 (ap (λ vs. going m f (counted type line v vs) (queued q (m + 1))) (numbers_back bytes g.2.1.2))))

    pub items_run : (is : List Item) (ts : List PartType) → ItemsHave d is ts → (q : List Part) (pc pc' : ℕ) → StandsAt code pc (items_code is) pc' → Comes code f (point pc st q sp f) (parts_of is (at f)) (λ ps. point pc' st (q ++ ps) sp f)
    items_run [] ts g q pc pc' h =
        comes (subst (λ n. Walks by_cell code (point pc st q sp f) (point n st (q ++ []) sp f)) h (subst (λ r. Walks by_cell code (point pc st q sp f) (point pc st r sp f)) (sym (append-nil q)) here))
    items_run (i ∷ is) [] g q pc pc' h = absurd g
    items_run (i ∷ is) (t ∷ ts) g q pc pc' h =
        let (m, a, l) = split code pc pc' (item_code i) _ h in
        comes_then code f (part_of i (at f)) (λ p. after (parts_of is (at f)) (λ ps. Value (p ∷ ps))) (item_runs i t g.0 q pc m a)
        (λ p y. comes_then code f (parts_of is (at f)) (λ ps. Value (p ∷ ps)) (items_run is ts g.1 (q ++ p ∷ []) m pc' l)
        (λ ps z. comes (subst (λ r. Walks by_cell code (point pc' st ((q ++ p ∷ []) ++ ps) sp f) (point pc' st r sp f)) (append_assoc q (p ∷ []) ps) here)))

  -- ---- targets

  module _ (st : List ℤ) (q : List Part) (d : Declared) (few : AreNumbered d) where
    abbrev pub spotted : List Spot → ℕ → Spot → Point
    spotted sp pc x = point pc st q (sp ++ x ∷ []) f

    same_span : (a : Span) (n : ℕ) → count_of a ≡ n → span (first_of a) n ≡ a
    same_span (span first count) n e = ap (span first) (sym e)

    into_runs : (p : Place) (rest : List ℕ) → Fits d.types p rest → (sp : List Spot) (pc pc' : ℕ) → StandsAt code pc (target_code (Into p)) pc' → Comes code f (point pc st q sp f) (spot_of (Into p) (at f)) (spotted sp pc')
    into_runs p rest g sp pc pc' h =
        let (m, c, l) = split code pc pc' (place_code p) _ h in
        comes_then code f (span_of p (at f)) (λ a. Value (At a)) (place_runs code f q sp d.types few.cells p rest g pc m st c)
        (λ a y. comes_at code f _ (Value (At a)) (m + 1) pc' (spotted sp) l.1 (comes_by code f m (pos (first_of a) ∷ st) q sp _ (Value (At a)) (spotted sp (m + 1)) l.0
        (ap (λ x. Moves (spotted sp (m + 1) (At x))) (same_span a (components_at p) (count_is p (at f) a y)))))

    pub target_runs : (t : Target) (type : PartType) → TargetHas d.types t type → (sp : List Spot) (pc pc' : ℕ) → StandsAt code pc (target_code t) pc' → Comes code f (point pc st q sp f) (spot_of t (at f)) (spotted sp pc')
    target_runs (Into p) (OneOf t) g sp pc pc' h = into_runs p [] (cells_fit d.types few.cells p t [] g) sp pc pc' h
    target_runs (Into p) (ManyOf sizes t) g sp pc pc' h = into_runs p sizes (cells_fit d.types few.cells p t sizes g) sp pc pc' h
    target_runs (Into p) (CountedOf count t) g sp pc pc' h = absurd g
    target_runs (IntoCounted line n a) (OneOf t) g sp pc pc' h = absurd g
    target_runs (IntoCounted line n a) (ManyOf sizes t) g sp pc pc' h = absurd g
    target_runs (IntoCounted line n a) (CountedOf count t) g sp pc pc' h =
        let (m, c, r) = split code pc pc' (place_code n) _ h in
        let (m', c', l) = split code m pc' (place_code a) _ r in
        comes_then code f (span_of n (at f)) (λ x. after (span_of a (at f)) (λ y. Value (AtCounted line x y))) (place_runs code f q sp d.types few.cells n [] (cells_fit d.types few.cells n count [] g.0) pc m st c)
        (λ x e. comes_then code f (span_of a (at f)) (λ y. Value (AtCounted line x y)) (place_runs code f q sp d.types few.cells a (g.1.0 ∷ []) (cells_fit d.types few.cells a t (g.1.0 ∷ []) g.1.1) m m' (pos (first_of x) ∷ st) c')
        (λ y e'. comes_at code f _ (Value (AtCounted line x y)) (m' + 1) pc' (spotted sp) l.1 (comes_by code f m' (pos (first_of y) ∷ pos (first_of x) ∷ st) q sp _ (Value (AtCounted line x y)) (spotted sp (m' + 1)) l.0
        (ap (λ z. Moves (spotted sp (m' + 1) (AtCounted line z (span (first_of y) (components_at a))))) (same_span x (components_at n) (count_is n (at f) x e))
        ∙ ap (λ z. Moves (spotted sp (m' + 1) (AtCounted line x z))) (same_span y (components_at a) (count_is a (at f) y e'))))))

    pub targets_run : (ts : List Target) (types : List PartType) → TargetsHave d ts types → (sp : List Spot) (pc pc' : ℕ) → StandsAt code pc (targets_code ts) pc' → Comes code f (point pc st q sp f) (spots_of ts (at f)) (λ xs. point pc' st q (sp ++ xs) f)
    targets_run [] types g sp pc pc' h =
        comes (subst (λ n. Walks by_cell code (point pc st q sp f) (point n st q (sp ++ []) f)) h (subst (λ r. Walks by_cell code (point pc st q sp f) (point pc st q r f)) (sym (append-nil sp)) here))
    targets_run (t ∷ ts) [] g sp pc pc' h = absurd g
    targets_run (t ∷ ts) (type ∷ types) g sp pc pc' h =
        let (m, a, l) = split code pc pc' (target_code t) _ h in
        comes_then code f (spot_of t (at f)) (λ x. after (spots_of ts (at f)) (λ xs. Value (x ∷ xs))) (target_runs t type g.0 sp pc m a)
        (λ x y. comes_then code f (spots_of ts (at f)) (λ xs. Value (x ∷ xs)) (targets_run ts types g.1 (sp ++ x ∷ []) m pc' l)
        (λ xs z. comes (subst (λ r. Walks by_cell code (point pc' st q ((sp ++ x ∷ []) ++ xs) f) (point pc' st q r f)) (append_assoc sp (x ∷ []) xs) here)))
