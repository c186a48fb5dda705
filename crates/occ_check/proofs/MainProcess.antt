-- The main process: the last PROC, and the names of its formals.
use Rattle.std.proofs.Common.{◌≡◌, ◌∙◌, sym, ap, refl, ℕ, suc, ◌+◌, ◌<◌, ◌≤◌, List, [], ◌∷◌, ◌++◌, map, length, drop, get_or, option_map, Option, Some, None, Bool, true, false, append_assoc, arith, Global}
use Rattle.std.specs.Prelude.{nat_le, ◌&&◌}
use Rattle.std.specs.declared.boxed.Box.{Box}
use Rattle.std.proofs.lemmas.List.{map-append}
use Rattle.std.proofs.Math.ListN.{drop_of_length-le}
use mathlib.Core.List.{append-nil}
use Rattle.occ_tree_grammar.specs.Many.{◌>>=◌}
use Rattle.occ_tree_grammar.specs.Lines.Trees as L
use Rattle.occ_tree_grammar.specs.Lines.Views as lines
use Rattle.occ_tree_grammar.specs.Processes.Trees.{Item, value_item, protocol_item, proc_item}
use Rattle.occ_tree_grammar.specs.Processes.Views.{item_of, process_of}
use Rattle.occ_tree_grammar.specs.declared.tree.expr.Expr.{Expr}
use Rattle.occ_tree_grammar.specs.declared.tree.line.Formals.{Formals}
use Rattle.occ_tree_grammar.specs.declared.tree.line.ValueType.{ValueType}
use Rattle.occ_tree_grammar.specs.declared.tree.process.Item.TheVariants as itemTrees
use Rattle.occ_tree_grammar.specs.declared.tree.process.Process.{Process}
use Rattle.occ_tree_grammar.specs.declared.tree.process.Protocol.{Protocol}
use Rattle.occ_tree_grammar.specs.declared.tree.line.Formal.{Formal}
use Rattle.occ_tree_grammar.specs.declared.tree.line.Spec.{Spec}
use Rattle.occ_tree_grammar.specs.declared.tree.process.Item.{Item as ItemTree}
use Rattle.occ_check_meaning.specs.Calls.{spec_after}
use Rattle.occ_check_meaning.specs.Programs.{Main, byte_channels, channels_from, is_byte_channel, last_or, main_of, other_names}
use Rattle.occ_check_meaning.specs.Scope.{Name, keep}
use Rattle.occ_check_meaning.proofs.Steps.{bind_some, some_is}
use Rattle.occ_check_lines.specs.Declaration.{pair_of, pairs_of}
use Rattle.occ_check.specs.Program.{byte_channel, main_at}
use Rattle.occ_check_lines.specs.declared.declaration.Named.{Named}
use Rattle.occ_check_lines.proofs.EachOf.{from_here}

-- ---- the last PROC

is_last : (is : List Item) (i : Item) (m : Main) → main_at is i ≡ Some m → main_of (is ++ i ∷ []) ≡ Some m
unfolding main_of
is_last is (value_item line type x e) m h = absurd cc
is_last is (protocol_item p) m h = absurd cc
is_last is (proc_item line f fs body end_line) m h = at_end is ∙ h
  where
    at_end : (is : List Item) → main_of (is ++ proc_item line f fs body end_line ∷ []) ≡ Some (record { before = is; formals = fs; body = body })
    at_end [] = refl
    at_end (j ∷ is) = ap (last_or j) (at_end is)

still : (is js : List Item) (i : Item) → main_at is i ≡ None → main_at js i ≡ None
still is js (value_item line type x e) h = refl
still is js (protocol_item p) h = refl
still is js (proc_item line f fs body end_line) h = absurd cc

not_last : (is : List Item) (i : Item) → main_at is i ≡ None → main_of (is ++ i ∷ []) ≡ main_of is
unfolding main_of
not_last [] (value_item line type x e) h = refl
not_last [] (protocol_item p) h = refl
not_last [] (proc_item line f fs body end_line) h = absurd cc
not_last (j ∷ is) i h = ap (last_or j) (not_last is i (still (j ∷ is) is i h))

-- ---- an item of the code

module _ (before : List Item) (i : ItemTree) where
  pub a_procedure : (line : ℕ) (name : List ℕ) (formals : Option (Box Formals Global)) (body : Process) (end_line : ℕ) → i ≡ itemTrees.Proc line name formals body end_line
      → Some (record { before = before; formals = lines.formals_of formals; body = process_of body }) ≡ main_at before (item_of i)
  unfolding item_of
  a_procedure line name formals body end_line is = sym (ap (λ j. main_at before (item_of j)) is)

  pub no_value : (line : ℕ) (type : Option ValueType) (name : List ℕ) (e : Box Expr Global) → i ≡ itemTrees.Value line type name e → None ≡ main_at before (item_of i)
  unfolding item_of
  no_value line type name e is = sym (ap (λ j. main_at before (item_of j)) is)

  pub no_protocol : (p : Protocol) → i ≡ itemTrees.Protocol p → None ≡ main_at before (item_of i)
  unfolding item_of
  no_protocol p is = sym (ap (λ j. main_at before (item_of j)) is)

pub no_main : {X : Type 0} (r : Option X) (f : X → Main) {here : Option Main} → option_map f r ≡ here → ((x : X) → r ≡ Some x → ⊥) → here ≡ None
no_main None f e other = sym e
no_main (Some x) f e other = absurd (other x refl)

module _ (items left before : List ItemTree) (item : ItemTree) (split : left ≡ before ++ item ∷ []) (same : main_of (map item_of left) ≡ main_of (map item_of items)) where
  parts : main_of (map item_of before ++ item_of item ∷ []) ≡ main_of (map item_of items)
  parts = sym (ap (λ (xs : List ItemTree). main_of (map item_of xs)) split ∙ ap main_of (map-append item_of before (item ∷ []))) ∙ same

  pub last_here : (m : Main) → main_at (map item_of before) (item_of item) ≡ Some m → main_of (map item_of items) ≡ Some m
  last_here m h = sym parts ∙ is_last (map item_of before) (item_of item) m h

  pub not_here : main_at (map item_of before) (item_of item) ≡ None → main_of (map item_of before) ≡ main_of (map item_of items)
  not_here h = sym (not_last (map item_of before) (item_of item) h) ∙ parts

pub nowhere : (items left : List ItemTree) → left ≡ [] → main_of (map item_of left) ≡ main_of (map item_of items) → main_of (map item_of items) ≡ None
unfolding main_of
nowhere items left none same = sym same ∙ ap (λ (xs : List ItemTree). main_of (map item_of xs)) none

-- ---- the formals

-- what is named so far, and what the formals from number i on name
abbrev pub named_after : List Name → Option (List Name) → Option (List Name)
named_after xs rest = rest >>= λ ys. Some (xs ++ ys)

pub record Names (first : Name) (spec : Spec) (fs : List Formal) (i : ℕ) (names : List Name) (before : Spec) : Type 0 where
  pub is : named_after names (other_names (lines.spec_of before) (map lines.formal_of (drop i fs))) ≡ named_after (first ∷ []) (other_names (lines.spec_of spec) (map lines.formal_of fs))

names_step : (s : L.Spec) (fs : List Formal) (i : ℕ) (f : Formal) → i < length fs → f ≡ get_or fs i f
    → other_names s (map lines.formal_of (drop i fs))
    ≡ (other_names (spec_after s (option_map lines.spec_of f.spec)) (map lines.formal_of (drop (i + 1) fs))
    >>= λ xs. keep (is_byte_channel (spec_after s (option_map lines.spec_of f.spec))) (f.name ∷ xs))
unfolding other_names
names_step s fs i f below at = ap (λ (gs : List Formal). other_names s (map lines.formal_of gs)) (from_here fs i f below at)

one_named : (names : List Name) (x : Name) (rest : Option (List Name)) → named_after names (rest >>= λ xs. keep true (x ∷ xs)) ≡ named_after (names ++ x ∷ []) rest
one_named names x None = refl
one_named names x (Some xs) = ap (λ ys. Some ys) (sym (append_assoc names (x ∷ []) xs))

none_named : (names : List Name) (x : Name) (rest : Option (List Name)) → named_after names (rest >>= λ xs. keep false (x ∷ xs)) ≡ None
none_named names x None = refl
none_named names x (Some xs) = refl

-- what is refused behind a name is refused
unnamed_first : (x : Name) (rest : Option (List Name)) → named_after (x ∷ []) rest ≡ None → rest ≡ None
unnamed_first x None h = refl
unnamed_first x (Some xs) h = absurd cc

module _ (first : Name) (spec : Spec) (fs : List Formal) where
  module _ (i : ℕ) (names : List Name) (before now : Spec) (f : Formal) (below : i < length fs) (at : f ≡ get_or fs i f)
      (so_far : Names first spec fs i names before) (own : lines.spec_of now ≡ spec_after (lines.spec_of before) (option_map lines.spec_of f.spec)) where
    here : (b : Bool) → b ≡ is_byte_channel (lines.spec_of now)
        → named_after names (other_names (lines.spec_of now) (map lines.formal_of (drop (i + 1) fs)) >>= λ xs. keep b (f.name ∷ xs))
        ≡ named_after (first ∷ []) (other_names (lines.spec_of spec) (map lines.formal_of fs))
    here b is =
        ap (λ c. named_after names (other_names (lines.spec_of now) (map lines.formal_of (drop (i + 1) fs)) >>= λ xs. keep c (f.name ∷ xs))) is
        ∙ ap (λ (s : L.Spec). named_after names (other_names s (map lines.formal_of (drop (i + 1) fs)) >>= λ xs. keep (is_byte_channel s) (f.name ∷ xs))) own
        ∙ ap (named_after names) (sym (names_step (lines.spec_of before) fs i f below at)) ∙ so_far.is

    pub names_next : true ≡ is_byte_channel (lines.spec_of now) → (more : List Name) → more ≡ names ++ f.name ∷ [] → Names first spec fs (i + 1) more now
    names_next is more grown =
        let rest = other_names (lines.spec_of now) (map lines.formal_of (drop (i + 1) fs)) in
        record { is = ap (λ xs. named_after xs rest) grown ∙ sym (one_named names f.name rest) ∙ here true is }

    pub names_refused : false ≡ is_byte_channel (lines.spec_of now) → byte_channels (L.formals (lines.spec_of spec) first (map lines.formal_of fs)) ≡ None
    names_refused is =
        ap (λ o. o >>= λ xs. keep (is_byte_channel (lines.spec_of spec) && nat_le (length xs) 2) (first ∷ xs))
        (unnamed_first first _ (sym (here false is) ∙ none_named names f.name (other_names (lines.spec_of now) (map lines.formal_of (drop (i + 1) fs)))))

  pub first_refused : false ≡ is_byte_channel (lines.spec_of spec) → byte_channels (L.formals (lines.spec_of spec) first (map lines.formal_of fs)) ≡ None
  first_refused is =
      sym (ap (λ b. other_names (lines.spec_of spec) (map lines.formal_of fs) >>= λ xs. keep (b && nat_le (length xs) 2) (first ∷ xs)) is)
      ∙ by (other_names (lines.spec_of spec) (map lines.formal_of fs))
    where
      by : (o : Option (List Name)) → (o >>= λ xs. keep (false && nat_le (length xs) 2) (first ∷ xs)) ≡ None
      by None = refl
      by (Some xs) = refl

-- as many names as formals
kept_length : (b : Bool) (x : Name) (xs ys : List Name) → keep b (x ∷ xs) ≡ Some ys → length ys ≡ suc (length xs)
kept_length true x xs ys h = sym (ap length (some_is _ ys h))
kept_length false x xs ys h = absurd cc

named_all : (s : L.Spec) (fs : List L.Formal) (xs : List Name) → other_names s fs ≡ Some xs → length xs ≡ length fs
unfolding other_names
named_all s [] xs h = sym (ap length (some_is _ xs h))
named_all s (L.formal t x ∷ fs) xs h =
    let k = bind_some (other_names (spec_after s t) fs) _ xs h in
    kept_length _ x k.0 xs k.2 ∙ ap suc (named_all (spec_after s t) fs k.0 k.1)

length_map : {A B : Type 0} (f : A → B) (xs : List A) → length (map f xs) ≡ length xs
length_map f [] = refl
length_map f (x ∷ xs) = ap suc (length_map f xs)

nat_le_true : (m n : ℕ) → m ≤ n → nat_le m n ≡ true
nat_le_true m n h = grind arith

nat_le_false : (m n : ℕ) → n < m → nat_le m n ≡ false
nat_le_false m n h = grind arith

module _ (first : Name) (spec : Spec) (fs : List Formal) where
  pub many_refused : 2 < length fs → byte_channels (L.formals (lines.spec_of spec) first (map lines.formal_of fs)) ≡ None
  many_refused many = by (other_names (lines.spec_of spec) (map lines.formal_of fs)) refl
    where
      none : (b : Bool) (xs : List Name) → (keep (b && false) xs) ≡ None
      none true xs = refl
      none false xs = refl

      by : (o : Option (List Name)) → other_names (lines.spec_of spec) (map lines.formal_of fs) ≡ o → (o >>= λ xs. keep (is_byte_channel (lines.spec_of spec) && nat_le (length xs) 2) (first ∷ xs)) ≡ None
      by None h = refl
      by (Some xs) h =
          let size : length xs ≡ length fs = named_all _ _ xs h ∙ length_map lines.formal_of fs in
          ap (λ b. keep (is_byte_channel (lines.spec_of spec) && b) (first ∷ xs)) (nat_le_false (length xs) 2 (omega (arith, size))) ∙ none _ (first ∷ xs)

  pub names_end : (i : ℕ) (names : List Name) (before : Spec) → length fs ≤ i → length fs ≤ 2 → true ≡ is_byte_channel (lines.spec_of spec) → Names first spec fs i names before
      → byte_channels (L.formals (lines.spec_of spec) first (map lines.formal_of fs)) ≡ Some names
  unfolding other_names
  names_end i names before past few byte so_far =
      by (other_names (lines.spec_of spec) (map lines.formal_of fs)) refl
      (ap (λ o. Some o) (sym (append-nil names)) ∙ ap (λ (gs : List Formal). named_after names (other_names (lines.spec_of before) (map lines.formal_of gs))) (sym (drop_of_length-le fs past)) ∙ so_far.is)
    where
      by : (o : Option (List Name)) → other_names (lines.spec_of spec) (map lines.formal_of fs) ≡ o → Some names ≡ named_after (first ∷ []) o
          → (o >>= λ xs. keep (is_byte_channel (lines.spec_of spec) && nat_le (length xs) 2) (first ∷ xs)) ≡ Some names
      by None h g = absurd cc
      by (Some xs) h g =
          let size : length xs ≡ length fs = named_all _ _ xs h ∙ length_map lines.formal_of fs in
          ap (λ b. keep (b && nat_le (length xs) 2) (first ∷ xs)) (sym byte) ∙ ap (λ b. keep b (first ∷ xs)) (nat_le_true (length xs) 2 (omega (arith, size))) ∙ sym g

-- ---- what they stand for

module _ (names : List Name) (i : ℕ) where
  pub channels_next : (x : Name) (all more : List Named) (one : Named) → i < length names → x ≡ get_or names i x → (pairs_of all ++ channels_from i (drop i names)) ≡ channels_from 0 names
      → more ≡ all ++ one ∷ [] → pair_of one ≡ (x, byte_channel i) → (pairs_of more ++ channels_from (i + 1) (drop (i + 1) names)) ≡ channels_from 0 names
  channels_next x all more one below at so_far grown is =
      ap (λ ps. ps ++ channels_from (i + 1) (drop (i + 1) names)) (ap pairs_of grown ∙ map-append pair_of all (one ∷ []) ∙ ap (λ p. pairs_of all ++ p ∷ []) is)
      ∙ append_assoc (pairs_of all) ((x, byte_channel i) ∷ []) (channels_from (i + 1) (drop (i + 1) names))
      ∙ sym (ap (λ xs. pairs_of all ++ channels_from i xs) (from_here names i x below at)) ∙ so_far

  pub channels_end : (all : List Named) → length names ≤ i → (pairs_of all ++ channels_from i (drop i names)) ≡ channels_from 0 names → pairs_of all ≡ channels_from 0 names
  channels_end all past so_far =
      sym (append-nil (pairs_of all)) ∙ sym (ap (λ xs. pairs_of all ++ channels_from i xs) (drop_of_length-le names past)) ∙ so_far
