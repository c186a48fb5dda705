-- Lists of sizes, and of tags.
use Rattle.std.specs.declared.boxed.Box.{Box}
use Rattle.std.proofs.Common.{◌≡◌, ℕ, ℤ, pos, negsuc, zero, suc, ◌+◌, ◌*◌, ◌<◌, ◌≤◌, min, List, [], ◌∷◌, drop, take, get_or, length, map, Option, Some, None, option_map, refl, subst, sym, ap, ◌∙◌, true, false, arith, Vec, Global}
use Rattle.std.specs.Prelude.{Bool, if◌then◌else◌, int_le, nat_abs, nat_le}
use Rattle.std.proofs.lemmas.Int.{ints}
use Rattle.std.proofs.lemmas.Bool.Decides.{nat_tests}
use Rattle.std.proofs.Math.Seq.{drop-cons}
use Rattle.std.proofs.lemmas.List.{drop_all}
use Rattle.occ_tree_grammar.specs.Many.{◌>>=◌}
use Rattle.occ_tree_grammar.specs.Expressions.Trees as trees
use Rattle.occ_tree_grammar.specs.Expressions.Trees.{Expression}
use Rattle.occ_tree_grammar.specs.Lines.Trees as L
use Rattle.occ_tree_grammar.specs.Processes.Views as processes
use Rattle.occ_tree_grammar.specs.Lines.Views as lines
use Rattle.occ_tree_grammar.specs.declared.tree.line.OneOrMore.{OneOrMore}
use Rattle.occ_tree_grammar.specs.declared.tree.line.Part.{Part as PartTree}
use Rattle.occ_tree_grammar.specs.declared.tree.process.Protocol.{Protocol as ProtocolTree}
use Rattle.occ_tree_grammar.specs.declared.tree.process.Protocol.TheVariants as protocolTrees
use Rattle.occ_tree_grammar.specs.declared.tree.process.Tag.{Tag as TagTree}
use Rattle.occ_term.specs.declared.protocol.PartType.{PartType}
use Rattle.occ_term.specs.declared.protocol.Protocol.TheVariants.{Sequential, Variant}
use Rattle.occ_term.specs.declared.protocol.Tag.{Tag}
use Rattle.occ_term.specs.declared.primitive.Primitive.TheVariants.{Int}
use Rattle.occ_term.proofs.Saturating.{saturates}
use Rattle.occ_term.specs.Messages.{product}
use Rattle.occ_term.specs.ArraySizes.{AreFew}
use Rattle.occ_check_meaning.specs.Scope.{Names, each_of, once}
use Rattle.occ_check_meaning.specs.Constants.{a_size}
use Rattle.occ_check_meaning.specs.Expressions.{constant_as}
use Rattle.occ_check_meaning.specs.Types.{Open, each_size, given_product, open_size, part_of, protocol_of, tag_names, tag_of}
use Rattle.occ_check_lines.specs.View.{Refuses}
use Rattle.occ_check_lines.specs.declared.fault.CheckFault.{CheckFault}
use Rattle.occ_check_lines.specs.Positive.{ArePositive}
use Rattle.occ_check_lines.proofs.Components.{one_more}
use Rattle.occ_check_lines.proofs.Refusals.{none_then, refused_with}
use Rattle.occ_term.specs.UnfoldedProgram.{most_cells}

-- ---- sizes that are given

pub one_size : Names → ℕ → Expression → Option ℕ
one_size ns line e = constant_as ns line Int e >>= a_size

pub sizes_each : (ns : Names) (line : ℕ) (es : List Expression) → each_size ns line (trees.expressions es) ≡ each_of (one_size ns line) es
unfolding each_size each_of one_size
sizes_each ns line [] = refl
sizes_each ns line (e ∷ es) =
    ap (λ s. constant_as ns line Int e >>= λ v. a_size v >>= λ n. s >>= λ rest. Some (n ∷ rest)) (sizes_each ns line es) ∙ by (constant_as ns line Int e)
  where
    by : (r : Option ℤ) → (r >>= λ v. a_size v >>= λ n. each_of (one_size ns line) es >>= λ rest. Some (n ∷ rest)) ≡ (r >>= a_size >>= λ n. each_of (one_size ns line) es >>= λ rest. Some (n ∷ rest))
    by None = refl
    by (Some v) = refl

given_is : (ns : Names) (line : ℕ) (e : Expression) → open_size ns line (L.given e) ≡ (one_size ns line e >>= λ n. Some (Some n))
unfolding one_size
given_is ns line e = by (constant_as ns line Int e)
  where
    by : (r : Option ℤ) → (r >>= λ v. a_size v >>= λ n. Some (Some n)) ≡ (r >>= a_size >>= λ n. Some (Some n))
    by None = refl
    by (Some v) = refl

pub given_one : (ns : Names) (line : ℕ) (e : Expression) (n : ℕ) → open_size ns line (L.given e) ≡ Some (Some n) → one_size ns line e ≡ Some n
given_one ns line e n h = by (one_size ns line e) (sym (given_is ns line e) ∙ h)
  where
    by : (r : Option ℕ) → (r >>= λ n. Some (Some n)) ≡ Some (Some n) → r ≡ Some n
    by None h = absurd cc
    by (Some m) h = cc

pub given_none : (ns : Names) (line : ℕ) (e : Expression) (f : CheckFault) → Refuses f (open_size ns line (L.given e)) → Refuses f (one_size ns line e)
given_none ns line e f = refused_with f _ _ (λ h. by (one_size ns line e) (sym (given_is ns line e) ∙ h))
  where
    by : (r : Option ℕ) → (r >>= λ n. Some (Some n)) ≡ None → r ≡ None
    by None h = refl
    by (Some m) h = absurd cc

-- ---- sizes are from 1 on

abs_positive : (v : ℤ) → int_le (pos 1) v ≡ true → 1 ≤ nat_abs v
abs_positive (pos n) h = grind (arith, ints)
abs_positive (negsuc n) h = grind (arith, ints)

size_positive : (v : ℤ) (n : ℕ) → a_size v ≡ Some n → 1 ≤ n
size_positive v n h = by (int_le (pos 1) v) refl h
  where
    by : (b : Bool) → int_le (pos 1) v ≡ b → (if b then Some (nat_abs v) else None) ≡ Some n → 1 ≤ n
    by true e h = let same : nat_abs v ≡ n = cc in subst (λ k. 1 ≤ k) same (abs_positive v e)
    by false e h = absurd cc

one_positive : (ns : Names) (line : ℕ) (e : Expression) (n : ℕ) → one_size ns line e ≡ Some n → 1 ≤ n
unfolding one_size
one_positive ns line e n h = by (constant_as ns line Int e) h
  where
    by : (r : Option ℤ) → (r >>= a_size) ≡ Some n → 1 ≤ n
    by None h = absurd cc
    by (Some v) h = size_positive v n h

each_positive : (ns : Names) (line : ℕ) (es : List Expression) (sizes : List ℕ) → each_of (one_size ns line) es ≡ Some sizes → ArePositive sizes
unfolding each_of
each_positive ns line [] sizes h = let same : [] ≡ sizes = cc in subst ArePositive same tt
each_positive ns line (e ∷ es) sizes h = by (one_size ns line e) refl (each_of (one_size ns line) es) (λ rest q. each_positive ns line es rest q) h
  where
    by : (r : Option ℕ) → one_size ns line e ≡ r → (s : Option (List ℕ)) → ((rest : List ℕ) → s ≡ Some rest → ArePositive rest) → (r >>= λ n. s >>= λ rest. Some (n ∷ rest)) ≡ Some sizes → ArePositive sizes
    by None p s q h = absurd cc
    by (Some n) p None q h = absurd cc
    by (Some n) p (Some rest) q h = let same : n ∷ rest ≡ sizes = cc in subst ArePositive same (one_positive ns line e n p, q rest refl)

pub sizes_positive : (ns : Names) (line : ℕ) (es : List Expression) (sizes : List ℕ) → each_size ns line (trees.expressions es) ≡ Some sizes → ArePositive sizes
sizes_positive ns line es sizes h = each_positive ns line es sizes (sym (sizes_each ns line es) ∙ h)

rest_below : (n k : ℕ) → 1 ≤ n → n * k < 4294967296 → k < 4294967296
rest_below n k some h = omega (arith, one_more n 0 k (omega arith))

pub positive_few : (ns : List ℕ) → ArePositive ns → product ns < 4294967296 → AreFew ns
positive_few [] some h = tt
positive_few (n ∷ ns) some h = (h, positive_few ns some.1 (rest_below n (product ns) some.0 h))

pub one_few : (ns : List ℕ) → length ns < 2 → get_or ns 0 0 < 4294967296 → AreFew ns
one_few [] h k = tt
one_few (n ∷ []) h k = (omega (arith, k), tt)
one_few (n ∷ m ∷ ns) h k = absurd (omega (arith, h))

pub many_few : (ns : List ℕ) (n : ℕ) → ArePositive ns → n ≡ min (product ns) 4294967295 → nat_le n most_cells ≡ true → AreFew ns
many_few ns n some e h = let small : n ≤ most_cells = grind (arith, nat_tests) in positive_few ns some (omega (arith, e, small))

-- ---- how many components there are, where all sizes are given

pub record Counted (sizes : Open) (i count : ℕ) : Type 0 where
  pub is : option_map (λ p. min (count * p) 4294967295) (given_product (drop i sizes)) ≡ option_map (λ p. min p 4294967295) (given_product sizes)
  pub small : count ≤ 4294967295

same_map : (f g : ℕ → ℕ) → ((p : ℕ) → f p ≡ g p) → (r : Option ℕ) → option_map f r ≡ option_map g r
same_map f g h None = refl
same_map f g h (Some p) = ap (λ x. Some x) (h p)

once_more : (p : ℕ) → min (1 * p) 4294967295 ≡ min p 4294967295
once_more p = omega arith

pub counted_first : (sizes : Open) → Counted sizes 0 1
counted_first [] = record { is = same_map _ _ once_more (given_product []); small = omega arith }
counted_first (s ∷ sizes) = record { is = same_map _ _ once_more (given_product (s ∷ sizes)); small = omega arith }

module _ (sizes : Open) (i count : ℕ) (below : i < length sizes) (counted : Counted sizes i count) where
  size_here : (s : Option ℕ) → get_or sizes i None ≡ s → drop i sizes ≡ s ∷ drop (i + 1) sizes
  size_here s here =
      let next : suc i ≡ i + 1 = omega arith in
      drop-cons sizes i None below ∙ ap (λ y. y ∷ drop (suc i) sizes) here ∙ ap (λ k. s ∷ drop k sizes) next

  pub counted_next : (n next : ℕ) → get_or sizes i None ≡ Some n → next ≡ min (count * n) 4294967295 → Counted sizes (i + 1) next
  counted_next n next here more = record { is = by (given_product (drop (i + 1) sizes)) ∙ sym left ∙ counted.is; small = omega arith }
    where
      left : option_map (λ p. min (count * p) 4294967295) (given_product (drop i sizes)) ≡ option_map (λ p. min (count * p) 4294967295) (given_product (drop (i + 1) sizes) >>= λ k. Some (n * k))
      left = ap (λ xs. option_map (λ p. min (count * p) 4294967295) (given_product xs)) (size_here (Some n) here)

      by : (r : Option ℕ) → option_map (λ p. min (next * p) 4294967295) r ≡ option_map (λ p. min (count * p) 4294967295) (r >>= λ k. Some (n * k))
      by None = refl
      by (Some k) = ap (λ x. Some x) (ap (λ x. min (x * k) 4294967295) more ∙ saturates count n k 4294967295)

  pub counted_open : get_or sizes i None ≡ None → None ≡ option_map (λ p. min p 4294967295) (given_product sizes)
  counted_open here = sym (ap (λ xs. option_map (λ p. min (count * p) 4294967295) (given_product xs)) (size_here None here)) ∙ counted.is

pub counted_last : (sizes : Open) (i count : ℕ) → length sizes ≤ i → Counted sizes i count → Some count ≡ option_map (λ p. min p 4294967295) (given_product sizes)
counted_last sizes i count past counted =
    let small = counted.small in
    let one : count ≡ min (count * 1) 4294967295 = omega arith in
    ap (λ n. Some n) one ∙ sym (ap (λ xs. option_map (λ p. min (count * p) 4294967295) (given_product xs)) (drop_all i sizes past)) ∙ counted.is

-- ---- protocols

module _ (ns : Names) (p : ProtocolTree) where
  module _ (line : ℕ) (name : List ℕ) (parts : Box (OneOrMore PartTree) Global) (all : OneOrMore PartTree) (is : p ≡ protocolTrees.Parts line name parts) (seen : all ≡ parts.value) where
    sequential : protocol_of ns (processes.protocol_of p) ≡ (each_of (part_of ns line) (lines.part_of all.first ∷ map lines.part_of all.others.items) >>= λ ts. Some (Sequential ts))
    sequential =
        ap (λ q. protocol_of ns (processes.protocol_of q)) is
        ∙ ap (λ (x : OneOrMore PartTree). each_of (part_of ns line) (lines.part_of x.first ∷ map lines.part_of x.others.items) >>= λ ts. Some (Sequential ts)) (sym seen)

    pub sequential_is : (ts : List PartType) → each_of (part_of ns line) (lines.part_of all.first ∷ map lines.part_of all.others.items) ≡ Some ts → protocol_of ns (processes.protocol_of p) ≡ Some (Sequential ts)
    sequential_is ts h = sequential ∙ ap (λ r. r >>= λ ts. Some (Sequential ts)) h

    pub sequential_none : (e : CheckFault) → Refuses e (each_of (part_of ns line) (lines.part_of all.first ∷ map lines.part_of all.others.items)) → Refuses e (protocol_of ns (processes.protocol_of p))
    sequential_none e = refused_with e _ _ (λ h. sequential ∙ none_then _ h)

  module _ (line : ℕ) (name : List ℕ) (case_line : ℕ) (tags : Vec TagTree Global) (end_line : ℕ) (all : List TagTree) (is : p ≡ protocolTrees.Tags line name case_line tags end_line) (seen : all ≡ tags.items) where
    tagged : protocol_of ns (processes.protocol_of p) ≡ (once (tag_names (map processes.tag_of all)) >>= λ names. each_of (tag_of ns) (map processes.tag_of all) >>= λ ts. Some (Variant ts))
    tagged =
        ap (λ q. protocol_of ns (processes.protocol_of q)) is
        ∙ ap (λ ts. once (tag_names (map processes.tag_of ts)) >>= λ names. each_of (tag_of ns) (map processes.tag_of ts) >>= λ ts. Some (Variant ts)) (sym seen)

    pub tags_twice : (e : CheckFault) → Refuses e (once (tag_names (map processes.tag_of all))) → Refuses e (protocol_of ns (processes.protocol_of p))
    tags_twice e = refused_with e _ _ (λ h. tagged ∙ none_then _ h)

    pub tags_are : (xs : List (List ℕ)) (ts : List Tag) → once (tag_names (map processes.tag_of all)) ≡ Some xs → each_of (tag_of ns) (map processes.tag_of all) ≡ Some ts → protocol_of ns (processes.protocol_of p) ≡ Some (Variant ts)
    tags_are xs ts h g = tagged ∙ ap (λ r. r >>= λ names. each_of (tag_of ns) (map processes.tag_of all) >>= λ ts. Some (Variant ts)) h ∙ ap (λ r. r >>= λ ts. Some (Variant ts)) g

    pub tags_none : (xs : List (List ℕ)) (e : CheckFault) → once (tag_names (map processes.tag_of all)) ≡ Some xs → Refuses e (each_of (tag_of ns) (map processes.tag_of all)) → Refuses e (protocol_of ns (processes.protocol_of p))
    tags_none xs e h = refused_with e _ _ (λ g. tagged ∙ ap (λ r. r >>= λ names. each_of (tag_of ns) (map processes.tag_of all) >>= λ ts. Some (Variant ts)) h ∙ none_then _ g)

-- ---- the names of tags

pub names_taken : (ts : List TagTree) (i : ℕ) → length ts ≤ i → map (λ t. t.name) (take i ts) ≡ tag_names (map processes.tag_of ts)
names_taken [] zero past = refl
names_taken [] (suc i) past = refl
names_taken (t ∷ ts) zero past = absurd (omega arith)
names_taken (t ∷ ts) (suc i) past = ap (λ xs. t.name ∷ xs) (names_taken ts i (omega arith))
