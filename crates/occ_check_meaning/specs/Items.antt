-- Channels, what is output on them, and where what is input is stored; assignments.
-- Manual: primitive processes; channels and protocols; variables and values. What stands twice in a list: (own).
use Rattle.std.specs.Prelude.{Bool, List, None, Option, Some, [], cond, false, nat_lt, not, suc, true, zero, ℕ, ℤ, ◌&&◌, ◌+◌, ◌||◌, ◌∷◌}
use Rattle.std.specs.Prelude.{bytes_eq}
use Rattle.occ_tree_grammar.specs.Many.{◌>>=◌}
use Rattle.occ_tree_grammar.specs.Expressions.Trees.{alone, variable, no_expression}
use Rattle.occ_tree_grammar.specs.Lines.Trees as L
use Rattle.occ_tree_grammar.specs.Lines.Trees.{Var, var, Out, from, from_counted, into, into_counted}
use Rattle.occ_term.specs.declared.primitive.Primitive.{Primitive}
use Rattle.occ_term.specs.declared.protocol.PartType.{PartType}
use Rattle.occ_term.specs.declared.protocol.PartType.TheVariants.{One as OneOf, Many as ManyOf, Counted as CountedOf}
use Rattle.occ_term.specs.declared.protocol.Protocol.{Protocol}
use Rattle.occ_term.specs.declared.protocol.Protocol.TheVariants.{Simple, CountedArray, Sequential, Variant}
use Rattle.occ_term.specs.declared.protocol.Tag.{Tag}
use Rattle.occ_term.specs.Messages.{product, parts_after}
use Rattle.occ_term.specs.Terms.{Place, Subscripts, no_subscripts, then_subscript, Item, OfOne, OfMany, OfCounted, Target, Into, IntoCounted}
use Rattle.occ_term.specs.Values.{Span, span}
use Rattle.occ_term.specs.Uses.{part_named, reads_in_subscripts, Numbers as Cells}
use Rattle.occ_check_meaning.specs.Scope.{keep, each_of, Stretch, assignable, kept, Carried, Known, a_value, a_string, some_cells, some_channels, a_protocol, Name, Names}
use Rattle.occ_check_meaning.specs.Constants.{constant}
use Rattle.occ_check_meaning.specs.Operators.{is_same_type}
use Rattle.occ_check_meaning.specs.Expressions.{Typed, single, whole, typed, typed_subscripts, under, place_of}
use Rattle.occ_check_meaning.specs.Types.{are_same_sizes}

-- ---- variables and channels

-- (refusal: wrong kind) a name that may be assigned to
abbrev pub as_variable : Known → Option (Primitive × Stretch)
as_variable (some_cells assignable type r) = Some (type, r)
as_variable (some_cells kept type r) = None
as_variable (a_value type v) = None
as_variable (a_string bytes) = None
as_variable (some_channels c r) = None
as_variable (a_protocol c) = None

-- (refusal: wrong kind) a channel's name
abbrev pub as_channels : Known → Option (Carried × Stretch)
as_channels (some_channels c r) = Some (c, r)
as_channels (some_cells access type r) = None
as_channels (a_value type v) = None
as_channels (a_string bytes) = None
as_channels (a_protocol c) = None

-- a variable, a component or an array, with its type
abbrev pub variable_of : Names → ℕ → Var → Option (Primitive × Stretch)
variable_of ns line (var x es) = do
  k ← ns x
  r ← as_variable k
  subs ← typed_subscripts ns line es
  q ← under r.1 subs
  Some (r.0, q)

-- (refusal: wrong type) a single one
abbrev pub as_one : Stretch → List ℕ → Option Stretch
as_one r [] = Some r
as_one r (n ∷ ns) = None

abbrev pub channel_of : Names → ℕ → Var → Option (Protocol × Place)
channel_of ns line (var x es) = do
  k ← ns x
  c ← as_channels k
  subs ← typed_subscripts ns line es
  q ← under c.1 subs
  r ← as_one q q.left
  Some (c.0.protocol, place_of line r)

-- ---- what is output

-- (refusal: protocol) a value or an array of the part's type
abbrev pub item_of : PartType → Typed → Option Item
item_of (OneOf type) (single t e) = keep (is_same_type t type) (OfOne t e)
item_of (OneOf type) (whole t sizes a) = None
item_of (ManyOf ns type) (single t e) = None
item_of (ManyOf ns type) (whole t sizes a) = keep (is_same_type t type && are_same_sizes sizes ns) (OfMany t a)
item_of (CountedOf count type) x = None

-- (refusal: protocol) a count and an array of one dimension
abbrev pub counted_item : ℕ → PartType → Typed → Typed → Option Item
counted_item line (CountedOf count type) (single c n) (whole t (size ∷ []) a) = keep (is_same_type c count && is_same_type t type) (OfCounted t line n a)
counted_item line p x y = None

abbrev pub sent_item : Names → ℕ → PartType → Out → Option Item
sent_item ns line p (from e) = typed ns line e >>= item_of p
sent_item ns line p (from_counted n e) = do
  x ← typed ns line n
  y ← typed ns line e
  counted_item line p x y

-- (refusal: protocol) as many items as parts
unfoldable pub sent_items : Names → ℕ → List PartType → List Out → Option (List Item)
sent_items ns line [] [] = Some []
sent_items ns line [] (o ∷ os) = None
sent_items ns line (p ∷ ps) [] = None
sent_items ns line (p ∷ ps) (o ∷ os) = do
  i ← sent_item ns line p o
  is ← sent_items ns line ps os
  Some (i ∷ is)

-- (refusal: tag) the number of a tag
unfoldable pub tag_number : List Tag → Name → ℕ → Option ℕ
tag_number [] x k = None
tag_number (t ∷ ts) x k = cond (bytes_eq x t.name) (Some k) (tag_number ts x (k + 1))

-- (refusals: protocol, where it has no tags; tag, also of one behind 2 to the 32 others)
abbrev pub tag_in : Protocol → Name → Option ℕ
tag_in (Variant tags) x = tag_number tags x 0 >>= λ k. keep (nat_lt k 4294967296) k
tag_in (Simple sizes type) x = None
tag_in (CountedArray count type) x = None
tag_in (Sequential ps) x = None

-- (refusal: protocol) on a channel of a protocol with tags the first item is a tag's name
abbrev pub as_name : Out → Option Name
as_name (from (alone (variable x no_expression))) = Some x
as_name o = None

abbrev pub sent : Names → ℕ → Protocol → Out → List Out → Option (Option ℕ × List Item)
sent ns line (Variant tags) o os = do
  x ← as_name o
  k ← tag_in (Variant tags) x
  parts ← parts_after (Variant tags) (Some k)
  is ← sent_items ns line parts os
  Some (Some k, is)
sent ns line p o os = do
  parts ← parts_after p None
  is ← sent_items ns line parts (o ∷ os)
  Some (None, is)

-- ---- where what is input is stored

-- a variable, or the two of `count::array`
pub data Aim : Type 0 where
  aim : Primitive → Stretch → Aim
  counted_aim : (count : Primitive × Stretch) → (array : Primitive × Stretch) → Aim

abbrev pub aim_of : Names → ℕ → L.Target → Option Aim
aim_of ns line (into v) = variable_of ns line v >>= λ r. Some (aim r.0 r.1)
aim_of ns line (into_counted v w) = do
  c ← variable_of ns line v
  a ← variable_of ns line w
  Some (counted_aim c a)

-- (refusal: protocol) a variable of the part's type
abbrev pub target_of : ℕ → PartType → Aim → Option Target
target_of line (OneOf type) (aim t r) = keep (is_same_type t type && are_same_sizes r.left []) (Into (place_of line r))
target_of line (OneOf type) (counted_aim c a) = None
target_of line (ManyOf ns type) (aim t r) = keep (is_same_type t type && are_same_sizes r.left ns) (Into (place_of line r))
target_of line (ManyOf ns type) (counted_aim c a) = None
target_of line (CountedOf count type) (aim t r) = None
target_of line (CountedOf count type) (counted_aim c a) = counted_target a.1.left
  where
    counted_target : List ℕ → Option Target
    counted_target (size ∷ []) = keep (is_same_type c.0 count && is_same_type a.0 type && are_same_sizes c.1.left []) (IntoCounted line (place_of line c.1) (place_of line a.1))
    counted_target sizes = None

-- (refusal: protocol) as many targets as parts
unfoldable pub targets_of : ℕ → List PartType → List Aim → Option (List Target)
targets_of line [] [] = Some []
targets_of line [] (a ∷ aims) = None
targets_of line (p ∷ ps) [] = None
targets_of line (p ∷ ps) (a ∷ aims) = do
  t ← target_of line p a
  ts ← targets_of line ps aims
  Some (t ∷ ts)

-- ---- what stands twice in a list of targets

-- the whole variable, and the part of it that constant subscripts name: all of it where one is not constant
abbrev pub variable_span : Stretch → Span
variable_span r = span r.first (product r.sizes)

abbrev pub part_span : Stretch → Span
part_span r = part_named r.subscripts r.first r.sizes (variable_span r)

abbrev pub have_common : Span → Span → Bool
have_common (span first count) (span other n) = nat_lt first (other + n) && nat_lt other (first + count)

abbrev pub has_value : Option ℤ → Bool
has_value None = false
has_value (Some v) = true

abbrev pub are_constant : Subscripts → Bool
are_constant no_subscripts = true
are_constant (then_subscript e es) = has_value (constant e) && are_constant es

-- whether a set has one of so many numbers from the first on
abbrev pub has_some : Cells → ℕ → ℕ → Bool
has_some set first zero = false
has_some set first (suc n) = set first || has_some set (first + 1) n

abbrev pub has_of : Cells → Span → Bool
has_of set (span first count) = has_some set first count

-- whether a subscript of the one names the other's variable
abbrev pub is_named_by : Stretch → Stretch → Bool
is_named_by r q = has_of (reads_in_subscripts q.subscripts) (variable_span r)

-- Two targets clash that share a component under constant subscripts, or one of which stands in a subscript of the other.
abbrev pub clash : Stretch → Stretch → Bool
clash r q = (are_constant r.subscripts && (are_constant q.subscripts && have_common (part_span r) (part_span q)))
    || (is_named_by r q || is_named_by q r)

abbrev pub clashes_with_one : Stretch → List Stretch → Bool
clashes_with_one r [] = false
clashes_with_one r (q ∷ qs) = clash r q || clashes_with_one r qs

abbrev pub some_clash : List Stretch → Bool
some_clash [] = false
some_clash (r ∷ rs) = clashes_with_one r rs || some_clash rs

-- (refusal: list target)
abbrev pub apart : List Stretch → Option (List Stretch)
apart rs = keep (not (some_clash rs)) rs

abbrev pub stretches_of : List Aim → List Stretch
stretches_of [] = []
stretches_of (aim t r ∷ aims) = r ∷ stretches_of aims
stretches_of (counted_aim c a ∷ aims) = c.1 ∷ a.1 ∷ stretches_of aims

-- the targets of one list
abbrev pub stored : Names → ℕ → List PartType → List L.Target → Option (List Target)
stored ns line parts ts = do
  aims ← each_of (aim_of ns line) ts
  rs ← apart (stretches_of aims)
  targets_of line parts aims

-- ---- assignments

-- (refusal: wrong type) both sides have one type
abbrev pub assigned_item : Primitive × Stretch → Typed → Option Item
assigned_item r (single t e) = keep (is_same_type t r.0 && are_same_sizes r.1.left []) (OfOne t e)
assigned_item r (whole t sizes a) = keep (is_same_type t r.0 && are_same_sizes r.1.left sizes) (OfMany t a)

-- (refusal: wrong type) as many sides as sides
unfoldable pub assigned_items : List (Primitive × Stretch) → List Typed → Option (List Item)
assigned_items [] [] = Some []
assigned_items [] (x ∷ xs) = None
assigned_items (r ∷ rs) [] = None
assigned_items (r ∷ rs) (x ∷ xs) = do
  i ← assigned_item r x
  is ← assigned_items rs xs
  Some (i ∷ is)

abbrev pub as_target : ℕ → Primitive × Stretch → Target
as_target line r = Into (place_of line r.1)
