-- Assignments, inputs and outputs under names that have what is declared are of their types.
use Rattle.std.proofs.Common.{◌≡◌, ℕ, List, [], ◌∷◌, IsTrue, Option, Some, None, refl, sym, subst, ap}
use Rattle.std.specs.Prelude.{◌&&◌, nat_eq, map, ⊤}
use Rattle.std.proofs.lemmas.Bool.{eqb-true}
use Rattle.occ_tree_grammar.specs.Many.{◌>>=◌}
use Rattle.occ_tree_grammar.specs.Expressions.Trees.{Expression}
use Rattle.occ_tree_grammar.specs.Lines.Trees as L
use Rattle.occ_tree_grammar.specs.Lines.Trees.{Var, var, Out, from, from_counted, into, into_counted}
use Rattle.occ_term.specs.declared.primitive.Primitive.{Primitive}
use Rattle.occ_term.specs.declared.primitive.Primitive.TheVariants.{Bool as Boolean}
use Rattle.occ_term.specs.declared.protocol.PartType.{PartType}
use Rattle.occ_term.specs.declared.protocol.PartType.TheVariants.{One as OneOf, Many as ManyOf, Counted as CountedOf}
use Rattle.occ_term.specs.declared.protocol.Protocol.{Protocol}
use Rattle.occ_term.specs.declared.protocol.Protocol.TheVariants.{Simple, CountedArray, Sequential, Variant}
use Rattle.occ_term.specs.Messages.{product, parts_after, simple_part}
use Rattle.occ_term.specs.Terms as T
use Rattle.occ_term.specs.Terms.{Place, Item, OfOne, OfMany, Target, Term, Input, Output}
use Rattle.occ_term.specs.Values.{span}
use Rattle.occ_term.specs.Typing.{CellsHave, HasType, PlaceHas, SubscriptsLeave, ArrayHas, ItemHas, TargetHas}
use Rattle.occ_term.specs.TermTyping.{Declared, ChannelHas, ItemsHave, TargetsHave, value_parts, TermHas}
use Rattle.occ_check_meaning.specs.Scope.{each_of, Stretch, assignable, kept as kept_access, Carried, Known, a_value, a_string, some_cells, some_channels, a_protocol, Names}
use Rattle.occ_check_meaning.specs.Operators.{is_same_type}
use Rattle.occ_check_meaning.specs.Expressions.{Typed, single, whole, typed, typed_as, typed_subscripts, under, left_by, place_of}
use Rattle.occ_check_meaning.specs.Types.{are_same_sizes}
use Rattle.occ_check_meaning.specs.Items.{as_variable, as_channels, variable_of, as_one, channel_of, item_of, counted_item, sent_item, sent_items, as_name, tag_in, sent, Aim, aim, counted_aim, aim_of, target_of, targets_of, apart, stretches_of, stored, assigned_item, assigned_items, as_target}
use Rattle.occ_check_meaning.specs.Actions as A
use Rattle.occ_check_meaning.specs.Actions.{assigned, Listed, plain_list, tagged_list, received, as_input, test_of}
use Rattle.occ_check_meaning.specs.Having.{StretchHas, ChannelsHave, KnownHas, NamesHave, TypedHas, SubscriptsHave}
use Rattle.occ_check_meaning.proofs.Tags.{tagged_by}
use Rattle.occ_check_meaning.proofs.Steps.{bind_some, some_is}
use Rattle.occ_check_meaning.proofs.Counting.{kept, both_true}
use Rattle.occ_check_meaning.proofs.TypedExpressions.{same_type, leaves, leaves_joined, under_has, of_type_has, typed_has, subscripts_have}

pub same_sizes : (a b : List ℕ) → IsTrue (are_same_sizes a b) → a ≡ b
same_sizes [] [] h = refl
same_sizes [] (n ∷ ns) h = absurd cc
same_sizes (m ∷ ms) [] h = absurd cc
same_sizes (m ∷ ms) (n ∷ ns) h =
    let b = both_true (nat_eq m n) (are_same_sizes ms ns) h in
    let e = eqb-true m n b.0 in
    let f = same_sizes ms ns b.1 in
    subst (λ k. m ∷ ms ≡ k ∷ ns) e (ap (λ xs. m ∷ xs) f)

-- what an assignment's or an input's variable has
abbrev pub AimHas : Declared → Aim → Type 0
AimHas d (aim t r) = StretchHas d.types t r
AimHas d (counted_aim c a) = StretchHas d.types c.0 c.1 × StretchHas d.types a.0 a.1

abbrev pub All : {A : Type 0} → (A → Type 0) → List A → Type 0
All P [] = ⊤
All P (x ∷ xs) = P x × All P xs

pub all_of : {A B : Type 0} (P : B → Type 0) (f : A → Option B) → ((a : A) (b : B) → f a ≡ Some b → P b) → (xs : List A) (ys : List B) → each_of f xs ≡ Some ys → All P ys
unfolding each_of
all_of P f h [] ys e = subst (All P) (some_is [] ys e) tt
all_of P f h (x ∷ xs) ys e =
    let b = bind_some (f x) _ ys e in
    let c = bind_some (each_of f xs) _ ys b.2 in
    subst (All P) (some_is (b.0 ∷ c.0) ys c.2) (h x b.0 b.1, all_of P f h xs c.0 c.1)

-- what is input on a channel of this protocol
abbrev pub ListedHas : Declared → Protocol → Listed → Type 0
ListedHas d p (plain_list ts) = (parts : List PartType) × (parts_after p None ≡ Some parts) × TargetsHave d ts parts
ListedHas d p (tagged_list k ts) = (parts : List PartType) × (parts_after p (Some k) ≡ Some parts) × TargetsHave d ts parts

abbrev pub ReceivedHas : Declared → Place × Listed → Type 0
ReceivedHas d c = (p : Protocol) × ChannelHas d c.0 p × ListedHas d p c.1

module _ (d : Declared) (ns : Names) (h : NamesHave d ns) (line : ℕ) where
  -- ---- variables and channels

  variable_known : (k : Known) (r : Primitive × Stretch) → KnownHas d k → as_variable k ≡ Some r → StretchHas d.types r.0 r.1
  variable_known (some_cells assignable type q) r g e = subst (λ (y : Primitive × Stretch). StretchHas d.types y.0 y.1) (some_is (type, q) r e) g
  variable_known (some_cells kept_access type q) r g e = absurd cc
  variable_known (a_value type v) r g e = absurd cc
  variable_known (a_string bytes) r g e = absurd cc
  variable_known (some_channels c q) r g e = absurd cc
  variable_known (a_protocol c) r g e = absurd cc

  pub variable_stretch : (k : Known) (r : Primitive × Stretch) → KnownHas d k → as_variable k ≡ Some r → StretchHas d.types r.0 r.1
  variable_stretch k r g e = variable_known k r g e

  pub channels_stretch : (k : Known) (r : Carried × Stretch) → KnownHas d k → as_channels k ≡ Some r → ChannelsHave d r.0 r.1
  channels_stretch (some_channels c q) r g e = subst (λ (y : Carried × Stretch). ChannelsHave d y.0 y.1) (some_is (c, q) r e) g
  channels_stretch (some_cells access type q) r g e = absurd cc
  channels_stretch (a_value type v) r g e = absurd cc
  channels_stretch (a_string bytes) r g e = absurd cc
  channels_stretch (a_protocol c) r g e = absurd cc

  pub variable_has : (v : Var) (r : Primitive × Stretch) → variable_of ns line v ≡ Some r → StretchHas d.types r.0 r.1
  variable_has (var x es) r e =
      let k = bind_some (ns x) _ r e in
      let a = bind_some (as_variable k.0) _ r k.2 in
      let s = bind_some (typed_subscripts ns line es) _ r a.2 in
      let q = bind_some (under a.0.1 s.0) _ r s.2 in
      subst (λ (y : Primitive × Stretch). StretchHas d.types y.0 y.1) (some_is (a.0.0, q.0) r q.2)
      (under_has d.types a.0.0 a.0.1 q.0 s.0 (variable_known k.0 a.0 (h x k.0 k.1) a.1) (subscripts_have d ns h line es s.0 s.1) q.1)

  channels_under : (c : Carried) (r q : Stretch) (es : T.Subscripts) → ChannelsHave d c r → SubscriptsHave d.types es → under r es ≡ Some q → ChannelsHave d c q
  channels_under c r q es g i e =
      let k = bind_some (left_by es r.left) _ q e in
      subst (ChannelsHave d c) (some_is _ q k.2) (g.0, leaves_joined d.types r.subscripts es r.sizes r.left k.0 g.1 (leaves d.types es r.left k.0 i k.1))

  one_channel : (c : Carried) (q r : Stretch) (left : List ℕ) → q.left ≡ left → ChannelsHave d c q → as_one q left ≡ Some r → ChannelHas d (place_of line r) c.protocol
  one_channel c q r [] e g f = subst (λ y. ChannelHas d (place_of line y) c.protocol) (some_is q r f) (g.0, subst (λ y. SubscriptsLeave d.types q.subscripts q.sizes y) e g.1)
  one_channel c q r (n ∷ ls) e g f = absurd cc

  pub channel_has : (v : Var) (c : Protocol × Place) → channel_of ns line v ≡ Some c → ChannelHas d c.1 c.0
  channel_has (var x es) c e =
      let k = bind_some (ns x) _ c e in
      let a = bind_some (as_channels k.0) _ c k.2 in
      let s = bind_some (typed_subscripts ns line es) _ c a.2 in
      let q = bind_some (under a.0.1 s.0) _ c s.2 in
      let r = bind_some (as_one q.0 q.0.left) _ c q.2 in
      subst (λ (y : Protocol × Place). ChannelHas d y.1 y.0) (some_is (a.0.0.protocol, place_of line r.0) c r.2)
      (one_channel a.0.0 q.0 r.0 q.0.left refl (channels_under a.0.0 a.0.1 q.0 s.0 (channels_stretch k.0 a.0 (h x k.0 k.1) a.1) (subscripts_have d ns h line es s.0 s.1) q.1) r.1)

  -- ---- what is output

  item_has : (p : PartType) (x : Typed) (i : Item) → TypedHas d.types x → item_of p x ≡ Some i → ItemHas d.types i p
  item_has (OneOf type) (single t e) i g f =
      let k = kept _ _ i f in
      let s = same_type t type k.0 in
      subst (λ y. ItemHas d.types y (OneOf type)) k.1 (s, subst (λ y. HasType d.types e y) s g)
  item_has (OneOf type) (whole t sizes a) i g f = absurd cc
  item_has (ManyOf ks type) (single t e) i g f = absurd cc
  item_has (ManyOf ks type) (whole t [] a) i g f = absurd g
  item_has (ManyOf ks type) (whole t (n ∷ sizes) a) i g f =
      let k = kept _ _ i f in
      let b = both_true (is_same_type t type) (are_same_sizes (n ∷ sizes) ks) k.0 in
      let s = same_type t type b.0 in
      subst (λ y. ItemHas d.types y (ManyOf ks type)) k.1 (s, subst (λ y. ArrayHas d.types a y ks) s (subst (λ y. ArrayHas d.types a t y) (same_sizes (n ∷ sizes) ks b.1) g))
  item_has (CountedOf count type) x i g f = absurd cc

  counted_has : (p : PartType) (x y : Typed) (i : Item) → TypedHas d.types x → TypedHas d.types y → counted_item line p x y ≡ Some i → ItemHas d.types i p
  counted_has (CountedOf count type) (single c n) (whole t (size ∷ []) a) i g k f =
      let q = kept _ _ i f in
      let b = both_true (is_same_type c count) (is_same_type t type) q.0 in
      let s = same_type t type b.1 in
      subst (λ y. ItemHas d.types y (CountedOf count type)) q.1
      (s, subst (λ y. HasType d.types n y) (same_type c count b.0) g, (size, subst (λ y. ArrayHas d.types a y (size ∷ [])) s k))
  counted_has (CountedOf count type) (single c n) (whole t [] a) i g k f = absurd cc
  counted_has (CountedOf count type) (single c n) (whole t (size ∷ m ∷ ms) a) i g k f = absurd cc
  counted_has (CountedOf count type) (single c n) (single t a) i g k f = absurd cc
  counted_has (CountedOf count type) (whole c sizes n) y i g k f = absurd cc
  counted_has (OneOf type) x y i g k f = absurd cc
  counted_has (ManyOf ks type) x y i g k f = absurd cc

  sent_item_has : (p : PartType) (o : Out) (i : Item) → sent_item ns line p o ≡ Some i → ItemHas d.types i p
  sent_item_has p (from e) i f =
      let t = bind_some (typed ns line e) _ i f in
      item_has p t.0 i (typed_has d ns h line e t.0 t.1) t.2
  sent_item_has p (from_counted n e) i f =
      let x = bind_some (typed ns line n) _ i f in
      let y = bind_some (typed ns line e) _ i x.2 in
      counted_has p x.0 y.0 i (typed_has d ns h line n x.0 x.1) (typed_has d ns h line e y.0 y.1) y.2

  sent_items_have : (ps : List PartType) (os : List Out) (is : List Item) → sent_items ns line ps os ≡ Some is → ItemsHave d is ps
  unfolding sent_items
  sent_items_have [] [] is e = subst (λ y. ItemsHave d y []) (some_is [] is e) tt
  sent_items_have [] (o ∷ os) is e = absurd cc
  sent_items_have (p ∷ ps) [] is e = absurd cc
  sent_items_have (p ∷ ps) (o ∷ os) is e =
      let i = bind_some (sent_item ns line p o) _ is e in
      let r = bind_some (sent_items ns line ps os) _ is i.2 in
      subst (λ y. ItemsHave d y (p ∷ ps)) (some_is (i.0 ∷ r.0) is r.2) (sent_item_has p o i.0 i.1, sent_items_have ps os r.0 r.1)

  abbrev SentHas : Protocol → Option ℕ × List Item → Type 0
  SentHas p s = (parts : List PartType) × (parts_after p s.0 ≡ Some parts) × ItemsHave d s.1 parts

  plainly_sent : (p : Protocol) (o : Out) (os : List Out) (s : Option ℕ × List Item) → (parts_after p None >>= λ parts. sent_items ns line parts (o ∷ os) >>= λ is. Some (None, is)) ≡ Some s → SentHas p s
  plainly_sent p o os s e =
      let a = bind_some (parts_after p None) _ s e in
      let b = bind_some (sent_items ns line a.0 (o ∷ os)) _ s a.2 in
      subst (SentHas p) (some_is (None, b.0) s b.2) (a.0, a.1, sent_items_have a.0 (o ∷ os) b.0 b.1)

  sent_has : (p : Protocol) (o : Out) (os : List Out) (s : Option ℕ × List Item) → sent ns line p o os ≡ Some s → SentHas p s
  sent_has (Variant tags) o os s e =
      let x = bind_some (as_name o) _ s e in
      let k = bind_some (tag_in (Variant tags) x.0) _ s x.2 in
      let a = bind_some (parts_after (Variant tags) (Some k.0)) _ s k.2 in
      let b = bind_some (sent_items ns line a.0 os) _ s a.2 in
      subst (SentHas (Variant tags)) (some_is (Some k.0, b.0) s b.2) (a.0, a.1, sent_items_have a.0 os b.0 b.1)
  sent_has (Simple sizes type) o os s e = plainly_sent (Simple sizes type) o os s e
  sent_has (CountedArray count type) o os s e = plainly_sent (CountedArray count type) o os s e
  sent_has (Sequential ps) o os s e = plainly_sent (Sequential ps) o os s e

  pub output_has : (v : Var) (o : Out) (os : List Out) (t : Term) → A.output ns line v o os ≡ Some t → TermHas d t
  output_has v o os t e =
      let c = bind_some (channel_of ns line v) _ t e in
      let s = bind_some (sent ns line c.0.0 o os) _ t c.2 in
      let g = sent_has c.0.0 o os s.0 s.1 in
      subst (TermHas d) (some_is (Output c.0.1 s.0.0 s.0.1) t s.2) (c.0.0, g.0, channel_has v c.0 c.1, g.1, g.2)

  -- ---- where what is input is stored

  aim_has : (t : L.Target) (a : Aim) → aim_of ns line t ≡ Some a → AimHas d a
  aim_has (into v) a e =
      let r = bind_some (variable_of ns line v) _ a e in
      subst (AimHas d) (some_is (aim r.0.0 r.0.1) a r.2) (variable_has v r.0 r.1)
  aim_has (into_counted v w) a e =
      let c = bind_some (variable_of ns line v) _ a e in
      let b = bind_some (variable_of ns line w) _ a c.2 in
      subst (AimHas d) (some_is (counted_aim c.0 b.0) a b.2) (variable_has v c.0 c.1, variable_has w b.0 b.1)

  -- a stretch of this type and these sizes
  place_has : (t type : Primitive) (r : Stretch) (sizes : List ℕ) → StretchHas d.types t r → IsTrue (is_same_type t type) → r.left ≡ sizes → PlaceHas d.types (place_of line r) type sizes
  place_has t type r sizes g k l =
      (subst (λ y. CellsHave d.types (span r.first (product r.sizes)) y) (same_type t type k) g.0, subst (λ y. SubscriptsLeave d.types r.subscripts r.sizes y) l g.1)

  counted_target_has : (count type : Primitive) (c a : Primitive × Stretch) (left : List ℕ) (t : Target) → a.1.left ≡ left → StretchHas d.types c.0 c.1 → StretchHas d.types a.0 a.1
      → target_of line (CountedOf count type) (counted_aim c (a.0, record a.1 { left = left })) ≡ Some t → TargetHas d.types t (CountedOf count type)
  counted_target_has count type c a [] t l g k f = absurd cc
  counted_target_has count type c a (size ∷ m ∷ ms) t l g k f = absurd cc
  counted_target_has count type c a (size ∷ []) t l g k f =
      let q = kept _ _ t f in
      let b = both_true (is_same_type c.0 count && is_same_type a.0 type) (are_same_sizes c.1.left []) q.0 in
      let o = both_true (is_same_type c.0 count) (is_same_type a.0 type) b.0 in
      subst (λ y. TargetHas d.types y (CountedOf count type)) q.1
      (place_has c.0 count c.1 [] g o.0 (same_sizes c.1.left [] b.1), (size, place_has a.0 type a.1 (size ∷ []) k o.1 l))

  target_has : (p : PartType) (a : Aim) (t : Target) → AimHas d a → target_of line p a ≡ Some t → TargetHas d.types t p
  target_has (OneOf type) (aim s r) t g f =
      let q = kept _ _ t f in
      let b = both_true (is_same_type s type) (are_same_sizes r.left []) q.0 in
      subst (λ y. TargetHas d.types y (OneOf type)) q.1 (place_has s type r [] g b.0 (same_sizes r.left [] b.1))
  target_has (OneOf type) (counted_aim c a) t g f = absurd cc
  target_has (ManyOf ks type) (aim s r) t g f =
      let q = kept _ _ t f in
      let b = both_true (is_same_type s type) (are_same_sizes r.left ks) q.0 in
      subst (λ y. TargetHas d.types y (ManyOf ks type)) q.1 (place_has s type r ks g b.0 (same_sizes r.left ks b.1))
  target_has (ManyOf ks type) (counted_aim c a) t g f = absurd cc
  target_has (CountedOf count type) (aim s r) t g f = absurd cc
  target_has (CountedOf count type) (counted_aim c a) t g f = counted_target_has count type c a a.1.left t refl g.0 g.1 f

  targets_have : (ps : List PartType) (aims : List Aim) (ts : List Target) → All (AimHas d) aims → targets_of line ps aims ≡ Some ts → TargetsHave d ts ps
  unfolding targets_of
  targets_have [] [] ts g e = subst (λ y. TargetsHave d y []) (some_is [] ts e) tt
  targets_have [] (a ∷ aims) ts g e = absurd cc
  targets_have (p ∷ ps) [] ts g e = absurd cc
  targets_have (p ∷ ps) (a ∷ aims) ts g e =
      let t = bind_some (target_of line p a) _ ts e in
      let r = bind_some (targets_of line ps aims) _ ts t.2 in
      subst (λ y. TargetsHave d y (p ∷ ps)) (some_is (t.0 ∷ r.0) ts r.2) (target_has p a t.0 g.0 t.1, targets_have ps aims r.0 g.1 r.1)

  pub stored_has : (parts : List PartType) (ts : List L.Target) (targets : List Target) → stored ns line parts ts ≡ Some targets → TargetsHave d targets parts
  stored_has parts ts targets e =
      let a = bind_some (each_of (aim_of ns line) ts) _ targets e in
      let r = bind_some (apart (stretches_of a.0)) _ targets a.2 in
      targets_have parts a.0 targets (all_of (AimHas d) (aim_of ns line) aim_has ts a.0 a.1) r.2

  pub received_has : (i : L.Input) (c : Place × Listed) → received ns line i ≡ Some c → ReceivedHas d c
  received_has (L.items v t ts) c e =
      let k = bind_some (channel_of ns line v) _ c e in
      let a = bind_some (parts_after k.0.0 None) _ c k.2 in
      let s = bind_some (stored ns line a.0 (t ∷ ts)) _ c a.2 in
      subst (ReceivedHas d) (some_is (k.0.1, plain_list s.0) c s.2) (k.0.0, channel_has v k.0 k.1, (a.0, a.1, stored_has a.0 (t ∷ ts) s.0 s.1))
  received_has (L.tagged v x ts) c e =
      let k = bind_some (channel_of ns line v) _ c e in
      let n = bind_some (tag_in k.0.0 x) _ c k.2 in
      let a = bind_some (parts_after k.0.0 (Some n.0)) _ c n.2 in
      let s = bind_some (stored ns line a.0 ts) _ c a.2 in
      subst (ReceivedHas d) (some_is (k.0.1, tagged_list n.0 s.0) c s.2) (k.0.0, channel_has v k.0 k.1, (a.0, a.1, stored_has a.0 ts s.0 s.1))

  -- ---- assignments

  abbrev sorts : List (Primitive × Stretch) → List (Primitive × List ℕ)
  sorts [] = []
  sorts (r ∷ rs) = (r.0, r.1.left) ∷ sorts rs

  as_target_has : (r : Primitive × Stretch) (left : List ℕ) → r.1.left ≡ left → StretchHas d.types r.0 r.1 → TargetHas d.types (as_target line r) (simple_part left r.0)
  as_target_has r [] e g = (g.0, subst (λ y. SubscriptsLeave d.types r.1.subscripts r.1.sizes y) e g.1)
  as_target_has r (n ∷ ls) e g = (g.0, subst (λ y. SubscriptsLeave d.types r.1.subscripts r.1.sizes y) e g.1)

  as_targets_have : (rs : List (Primitive × Stretch)) → All (λ (r : Primitive × Stretch). StretchHas d.types r.0 r.1) rs → TargetsHave d (map (as_target line) rs) (value_parts (sorts rs))
  as_targets_have [] g = tt
  as_targets_have (r ∷ rs) g = (as_target_has r r.1.left refl g.0, as_targets_have rs g.1)

  assigned_item_has : (r : Primitive × Stretch) (x : Typed) (i : Item) → TypedHas d.types x → assigned_item r x ≡ Some i → ItemHas d.types i (simple_part r.1.left r.0)
  assigned_item_has r (single t e) i g f =
      let k = kept _ _ i f in
      let b = both_true (is_same_type t r.0) (are_same_sizes r.1.left []) k.0 in
      let s = same_type t r.0 b.0 in
      subst (λ y. ItemHas d.types y (simple_part r.1.left r.0)) k.1
      (subst (λ y. ItemHas d.types (OfOne t e) (simple_part y r.0)) (sym (same_sizes r.1.left [] b.1)) (s, subst (λ y. HasType d.types e y) s g))
  assigned_item_has r (whole t [] a) i g f = absurd g
  assigned_item_has r (whole t (n ∷ sizes) a) i g f =
      let k = kept _ _ i f in
      let b = both_true (is_same_type t r.0) (are_same_sizes r.1.left (n ∷ sizes)) k.0 in
      let s = same_type t r.0 b.0 in
      subst (λ y. ItemHas d.types y (simple_part r.1.left r.0)) k.1
      (subst (λ y. ItemHas d.types (OfMany t a) (simple_part y r.0)) (sym (same_sizes r.1.left (n ∷ sizes) b.1)) (s, subst (λ y. ArrayHas d.types a y (n ∷ sizes)) s g))

  assigned_items_have : (rs : List (Primitive × Stretch)) (xs : List Typed) (is : List Item) → All (TypedHas d.types) xs → assigned_items rs xs ≡ Some is → ItemsHave d is (value_parts (sorts rs))
  unfolding assigned_items
  assigned_items_have [] [] is g e = subst (λ y. ItemsHave d y []) (some_is [] is e) tt
  assigned_items_have [] (x ∷ xs) is g e = absurd cc
  assigned_items_have (r ∷ rs) [] is g e = absurd cc
  assigned_items_have (r ∷ rs) (x ∷ xs) is g e =
      let i = bind_some (assigned_item r x) _ is e in
      let o = bind_some (assigned_items rs xs) _ is i.2 in
      subst (λ y. ItemsHave d y (value_parts (sorts (r ∷ rs)))) (some_is (i.0 ∷ o.0) is o.2) (assigned_item_has r x i.0 g.0 i.1, assigned_items_have rs xs o.0 g.1 o.1)

  pub assigned_has : (vs : List Var) (es : List Expression) (t : Term) → assigned ns line vs es ≡ Some t → TermHas d t
  assigned_has vs es t e =
      let a = bind_some (each_of (typed ns line) es) _ t e in
      let b = bind_some (each_of (variable_of ns line) vs) _ t a.2 in
      let c = bind_some (apart (map (λ r. r.1) b.0)) _ t b.2 in
      let o = bind_some (assigned_items b.0 a.0) _ t c.2 in
      subst (TermHas d) (some_is (T.Assign (map (as_target line) b.0) o.0) t o.2) (
        sorts b.0,
        assigned_items_have b.0 a.0 o.0 (all_of (TypedHas d.types) (typed ns line) (typed_has d ns h line) es a.0 a.1) o.1,
        as_targets_have b.0 (all_of (λ (r : Primitive × Stretch). StretchHas d.types r.0 r.1) (variable_of ns line) variable_has vs b.0 b.1),
      )

  pub test_has : (test : Option Expression) (e : Option T.Expression) → test_of ns line test ≡ Some e → HasType d.types (T.tested e) Boolean
  test_has None e g = subst (λ y. HasType d.types (T.tested y) Boolean) (some_is _ e g) refl
  test_has (Some a) e g =
      let t = bind_some (typed_as ns line Boolean a) _ e g in
      subst (λ y. HasType d.types (T.tested y) Boolean) (some_is _ e t.2) (as_has Boolean a t.0 t.1)
    where
      as_has : (type : Primitive) (a : Expression) (e : T.Expression) → typed_as ns line type a ≡ Some e → HasType d.types e type
      as_has type a e g = let t = bind_some (typed ns line a) _ e g in of_type_has d.types type t.0 e (typed_has d ns h line a t.0 t.1) t.2

  pub typed_as_has : (type : Primitive) (a : Expression) (e : T.Expression) → typed_as ns line type a ≡ Some e → HasType d.types e type
  typed_as_has type a e g = let t = bind_some (typed ns line a) _ e g in of_type_has d.types type t.0 e (typed_has d ns h line a t.0 t.1) t.2

module _ (d : Declared) where
  pub input_has : (c : Place × Listed) → ReceivedHas d c → TermHas d (as_input c)
  input_has (c, plain_list ts) g = (g.0, g.2.0, g.1, g.2.1, g.2.2)
  input_has (c, tagged_list k ts) g = (g.0, g.1, (g.2, tt, tt, tagged_by g.0 k g.2.0 g.2.1))
