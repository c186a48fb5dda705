-- Look-ups in blocks are look-ups in a list of pairs.
use Rattle.std.proofs.Common.{option_map, inl, inr, ◌≡◌, ◌<◌, ◌≤◌, ◌+◌, ℕ, zero, suc, List, [], ◌∷◌, ◌++◌, Bool, true, false, cond, if◌then◌else◌, nat_eq, bytes_eq, Option, Some, None, is_some, refl, ap, sym, subst, ◌∙◌, take, length, slice_get, get_or, arith, reverse}
use Rattle.std.specs.List.{IsDistinct, AllByRecursion}
use Rattle.std.proofs.lemmas.Map.Keys.{IsDistinct-head, IsDistinct-tail}
use Rattle.indexmap.specs.IndexMap.{insert_entry}
use Rattle.std.specs.Map.{keys_of, lookup}
use Rattle.std.specs.List.{position}
use Rattle.std.proofs.lemmas.List.Quantifiers.{position-Some}
use Rattle.std.proofs.lemmas.Slice.Eq.{bytes_eq-Decides}
use Rattle.std.proofs.lemmas.List.{take_all, reverse-append, append_assoc, length-append, length-reverse}
use Rattle.std.proofs.lemmas.Bool.{ne_eqb}
use Rattle.std.proofs.lemmas.Bool.Decides.{eqb_tells}
use Rattle.occ_tree_grammar.specs.Many.{◌>>=◌}
use Rattle.occ_check_meaning.specs.Scope.{Binding, Known, known, proc, find, as_known, names_of}
use Rattle.occ_check_meaning.specs.Unfolding.{Procedure, Procedures, found}
use Rattle.occ_check_lines.specs.declared.scope.Binding.{Binding as BindingCode}
use Rattle.occ_check_lines.specs.declared.scope.Block.{Block}
use Rattle.occ_check_lines.specs.declared.scope.Position.{Position}
use Rattle.occ_check_lines.specs.declared.scope.Binding.TheVariants as bindings
use Rattle.occ_check_lines.specs.declared.scope.Found.{Found}
use Rattle.occ_check_lines.specs.declared.scope.Found.TheVariants as founds
use Rattle.occ_check_lines.specs.View.{binding_of, innermost, pairs_before, scope_in, IsBound, IsFound, IsSeen, IsWithin, Lacks}

-- ---- one block

-- what is found behind names that don't have it
pub lacks : (x : List ℕ) (es : List (List ℕ × BindingCode)) (sc : Procedures) → Lacks x es → found (pairs_before es sc) x ≡ found sc x
unfolding found
lacks x [] sc h = refl
lacks x (e ∷ es) sc h = lacks x es ((e.0, binding_of e.1) ∷ sc) h.1 ∙ ap (λ b. cond b (Some (binding_of e.1, sc)) (found sc x)) h.0

pub fewer : (x : List ℕ) (es : List (List ℕ × BindingCode)) (n : ℕ) → Lacks x es → Lacks x (take n es)
fewer x es zero h = tt
fewer x [] (suc n) h = tt
fewer x (e ∷ es) (suc n) h = (h.0, fewer x es n h.1)

same_bytes : (x y : List ℕ) → bytes_eq x y ≡ true → x ≡ y
same_bytes x y h = (bytes_eq-Decides x y).0 h

-- where the name is the key of one entry, the entries after it don't have it
pub only_once : (x : List ℕ) (e : List ℕ × BindingCode) (es : List (List ℕ × BindingCode)) → bytes_eq x e.0 ≡ true
    → AllByRecursion (λ k. bytes_eq e.0 k ≡ false) (keys_of es) → Lacks x es
only_once x e [] same h = tt
only_once x e (f ∷ es) same h = (subst (λ y. bytes_eq y f.0 ≡ false) (sym (same_bytes x e.0 same)) h.0, only_once x e es same h.1)

abbrev pub has_key : List ℕ → List ℕ → Bool
has_key x = bytes_eq x

module _ (x : List ℕ) where
  pub absent : (es : List (List ℕ × BindingCode)) → lookup (has_key x) es ≡ None → Lacks x es
  absent [] h = tt
  absent (e ∷ es) h = by (bytes_eq x e.0) refl (absent es) h
    where
      by : (b : Bool) → bytes_eq x e.0 ≡ b → (lookup (has_key x) es ≡ None → Lacks x es) → cond b (Some e.1) (lookup (has_key x) es) ≡ None → Lacks x (e ∷ es)
      by true same rest h = absurd cc
      by false same rest h = (same, rest h)

  -- the i-th entry is the only one with the name
  abbrev pub IsOnlyAt : List (List ℕ × BindingCode) → ℕ → (List ℕ × BindingCode) → Type 0
  IsOnlyAt [] i e = ⊥
  IsOnlyAt (f ∷ es) zero e = (bytes_eq x f.0 ≡ true) × (f ≡ e) × Lacks x es
  IsOnlyAt (f ∷ es) (suc i) e = (bytes_eq x f.0 ≡ false) × IsOnlyAt es i e

  pub only_at : (es : List (List ℕ × BindingCode)) (i : ℕ) (e : List ℕ × BindingCode) (d : List ℕ) → IsDistinct bytes_eq (keys_of es)
      → ((k : ℕ) → k < i → has_key x (get_or (keys_of es) k d) ≡ false) → has_key x (get_or (keys_of es) i d) ≡ true → slice_get es i ≡ Some e → IsOnlyAt es i e
  only_at [] i e d distinct before at there = absurd cc
  only_at (f ∷ es) zero e d distinct before at there = (at, cc, only_once x f es at (IsDistinct-head bytes_eq f.0 (keys_of es) distinct))
  only_at (f ∷ es) (suc i) e d distinct before at there = (before 0 (omega arith), only_at es i e d (IsDistinct-tail bytes_eq f.0 (keys_of es) distinct) (λ k p. before (suc k) (omega (arith, p))) at there)

  -- what a look-up by index says
  pub looked_up : (es : List (List ℕ × BindingCode)) (i : ℕ) (e : List ℕ × BindingCode) → IsDistinct bytes_eq (keys_of es)
      → position (has_key x) (keys_of es) ≡ Some i → slice_get es i ≡ Some e → IsOnlyAt es i e
  looked_up es i e distinct at there =
      let h = position-Some (has_key x) (keys_of es) i e.0 at in only_at es i e e.0 distinct h.2 h.1 there

  -- it hides what stands before it
  pub seen : (es : List (List ℕ × BindingCode)) (i n : ℕ) (e : List ℕ × BindingCode) (sc : Procedures) → IsOnlyAt es i e → i < n
      → found (pairs_before (take n es) sc) x ≡ Some (binding_of e.1, pairs_before (take i es) sc)
  unfolding found
  seen [] i n e sc only below = absurd only
  seen (f ∷ es) i zero e sc only below = absurd (omega (arith, below))
  seen (f ∷ es) zero (suc n) e sc only below =
      lacks x (take n es) ((f.0, binding_of f.1) ∷ sc) (fewer x es n only.2)
      ∙ ap (λ b. cond b (Some (binding_of f.1, sc)) (found sc x)) only.0 ∙ ap (λ (g : List ℕ × BindingCode). Some (binding_of g.1, sc)) only.1
  seen (f ∷ es) (suc i) (suc n) e sc only below = seen es i n e ((f.0, binding_of f.1) ∷ sc) only.1 (omega (arith, below))

  -- and what stands before it doesn't have the name
  pub unseen : (es : List (List ℕ × BindingCode)) (i n : ℕ) (e : List ℕ × BindingCode) → IsOnlyAt es i e → n ≤ i → Lacks x (take n es)
  unseen [] i n e only below = absurd only
  unseen (f ∷ es) i zero e only below = tt
  unseen (f ∷ es) zero (suc n) e only below = absurd (omega (arith, below))
  unseen (f ∷ es) (suc i) (suc n) e only below = (only.0, unseen es i n e only.1 (omega (arith, below)))

-- ---- blocks

pub skipped : (newer older : List Block) (at : Position) → at.blocks ≤ length older → scope_in (newer ++ older) at ≡ scope_in older at
skipped [] older at below = refl
skipped (f ∷ newer) older at below =
    let n : length (newer ++ older) ≡ length newer + length older = length-append newer older in
    let e : nat_eq at.blocks (suc (length (newer ++ older))) ≡ false = ne_eqb at.blocks (suc (length (newer ++ older))) (λ h. omega (arith, h, n, below)) in
    ap (λ b. if b then pairs_before (take at.seen f.names.entries) (scope_in (newer ++ older) f.outer) else scope_in (newer ++ older) at) e ∙ skipped newer older at below

same_number : (n : ℕ) → nat_eq n n ≡ true
same_number n = elim (eqb_tells n n) [ inl h ↦ h.0 | inr h ↦ absurd (h.1 refl) ]

-- the last block that a position can see is its own
pub own_first : (older : List Block) (f : Block) (at : Position) → at.blocks ≡ suc (length older)
    → scope_in (f ∷ older) at ≡ pairs_before (take at.seen f.names.entries) (scope_in older f.outer)
own_first older f at number =
    let e : nat_eq at.blocks (suc (length older)) ≡ true = ap (λ n. nat_eq n (suc (length older))) number ∙ same_number (suc (length older)) in
    ap (λ b. if b then pairs_before (take at.seen f.names.entries) (scope_in older f.outer) else scope_in older at) e

reversed : (older newer : List Block) (f : Block) → reverse (older ++ f ∷ newer) ≡ reverse newer ++ f ∷ reverse older
reversed older newer f = reverse-append older (f ∷ newer) ∙ ap (λ l. l ++ reverse older) (reverse-append (f ∷ []) newer) ∙ append_assoc (reverse newer) (f ∷ []) (reverse older)

pub own : (older newer : List Block) (f : Block) (at : Position) → at.blocks ≡ length older + 1
    → scope_in (reverse (older ++ f ∷ newer)) at ≡ pairs_before (take at.seen f.names.entries) (scope_in (reverse older) f.outer)
own older newer f at number =
    let n : length (reverse older) ≡ length older = length-reverse older in
    ap (λ l. scope_in l at) (reversed older newer f) ∙ skipped (reverse newer) (f ∷ reverse older) at (omega (arith, n, number)) ∙ own_first (reverse older) f at (omega (arith, n, number))

-- blocks behind a position's own don't matter
pub earlier : (older newer : List Block) (at : Position) → at.blocks ≤ length older → scope_in (reverse (older ++ newer)) at ≡ scope_in (reverse older) at
earlier older newer at below =
    let n : length (reverse older) ≡ length older = length-reverse older in
    ap (λ l. scope_in l at) (reverse-append older newer) ∙ skipped (reverse newer) (reverse older) at (omega (arith, n, below))

-- a position of no block
pub beyond : (fs : List Block) (at : Position) → length fs < at.blocks → scope_in fs at ≡ []
beyond [] at far = refl
beyond (f ∷ older) at far =
    let e : nat_eq at.blocks (suc (length older)) ≡ false = ne_eqb at.blocks (suc (length older)) (λ h. omega (arith, h, far)) in
    ap (λ b. if b then pairs_before (take at.seen f.names.entries) (scope_in older f.outer) else scope_in older at) e ∙ beyond older at (omega (arith, far))

pub top : (fs : List Block) (at : Position) → at.blocks ≡ 0 → scope_in fs at ≡ []
top [] at none = refl
top (f ∷ older) at none =
    let e : nat_eq at.blocks (suc (length older)) ≡ false = ne_eqb at.blocks (suc (length older)) (λ h. omega (arith, h, none)) in
    ap (λ b. if b then pairs_before (take at.seen f.names.entries) (scope_in older f.outer) else scope_in older at) e ∙ top older at none

pub beyond_all : (fs : List Block) (at : Position) → length fs < at.blocks → scope_in (reverse fs) at ≡ []
beyond_all fs at far = beyond (reverse fs) at (omega (arith, far, length-reverse fs))

pub top_all : (fs : List Block) (at : Position) → at.blocks ≡ 0 → scope_in (reverse fs) at ≡ []
top_all fs at none = top (reverse fs) at none

-- ---- what a block tells of a name

none_is : {X : Type 0} (r : Option X) → false ≡ is_some r → r ≡ None
none_is None e = refl
none_is (Some x) e = absurd cc

module _ (x : List ℕ) (es : List (List ℕ × BindingCode)) (n : ℕ) where
  pub not_there : false ≡ is_some (lookup (has_key x) es) → IsSeen n es x None
  not_there e = λ sc. lacks x (take n es) sc (fewer x es n (absent x es (none_is (lookup (has_key x) es) e)))

  module _ (i : ℕ) (e : List ℕ × BindingCode) (distinct : IsDistinct bytes_eq (keys_of es))
      (at : Some i ≡ position (has_key x) (keys_of es)) (there : Some e ≡ slice_get es i) where
    pub not_yet : n ≤ i → (sc : Procedures) → found (pairs_before (take n es) sc) x ≡ found sc x
    not_yet below = λ sc. lacks x (take n es) sc (unseen x es i n e (looked_up x es i e distinct (sym at) (sym there)) below)

    pub is_there : i < n → (sc : Procedures) → found (pairs_before (take n es) sc) x ≡ Some (binding_of e.1, pairs_before (take i es) sc)
    is_there below = λ sc. seen x es i n e sc (looked_up x es i e distinct (sym at) (sym there)) below

-- ---- a name that is added

pub one_more : (es : List (List ℕ × BindingCode)) (e : List ℕ × BindingCode) (sc : Procedures) → pairs_before (es ++ e ∷ []) sc ≡ (e.0, binding_of e.1) ∷ pairs_before es sc
one_more [] e sc = refl
one_more (f ∷ es) e sc = one_more es e ((f.0, binding_of f.1) ∷ sc)

pub added : (es : List (List ℕ × BindingCode)) (k : List ℕ) (b : BindingCode) → Lacks k es → insert_entry bytes_eq es k b ≡ es ++ (k, b) ∷ []
added [] k b h = refl
added (f ∷ es) k b h = ap (λ t. if t then (f.0, b) ∷ es else f ∷ insert_entry bytes_eq es k b) h.0 ∙ ap (λ l. f ∷ l) (added es k b h.1)

-- ---- what the blocks tell

pub bound_found : (fs : List Block) (x : List ℕ) (sc : Procedures) (b : Binding Procedure) (at : Position) (f : Found) → IsBound b at f
    → found sc x ≡ Some (b, scope_in fs at) → IsFound fs (found sc x) (Some f)
bound_found fs x sc b at (founds.Known k) h e = (scope_in fs at, e ∙ ap (λ (z : Binding Procedure). Some (z, scope_in fs at)) h)
bound_found fs x sc b at (founds.Procedure p place) h e = e ∙ (λ i. Some (h.0 i, scope_in fs (sym h.1 i)))

-- the scope at a position, by its own block
pub by_own : (blocks older newer : List Block) (f : Block) (at : Position) → blocks ≡ older ++ f ∷ newer → at.blocks ≡ length older + 1
    → scope_in (reverse blocks) at ≡ pairs_before (take at.seen f.names.entries) (scope_in (reverse older) f.outer)
by_own blocks older newer f at parts number = ap (λ l. scope_in (reverse l) at) parts ∙ own older newer f at number

pub wider : (blocks older : List Block) (rest : List Block) (x : List ℕ) (sc : Procedures) (f : Found) → blocks ≡ older ++ rest → IsWithin (length older) f
    → IsFound (reverse older) (found sc x) (Some f) → IsFound (reverse blocks) (found sc x) (Some f)
wider blocks older rest x sc (founds.Known k) parts within h = h
wider blocks older rest x sc (founds.Procedure p at) parts within h =
    h ∙ ap (λ s. Some (binding_of (bindings.Procedure p), s)) (sym (ap (λ l. scope_in (reverse l) at) parts ∙ earlier older rest at within))

-- ---- what is found, without what stands behind it

pub found_is : (sc : Procedures) (x : List ℕ) → find sc x ≡ option_map (λ (d : Binding Procedure × Procedures). d.0) (found sc x)
unfolding find found
found_is [] x = refl
found_is (b ∷ sc) x = by (bytes_eq x b.0) (found_is sc x)
  where
    by : (t : Bool) → find sc x ≡ option_map (λ (d : Binding Procedure × Procedures). d.0) (found sc x)
        → cond t (Some b.1) (find sc x) ≡ option_map (λ (d : Binding Procedure × Procedures). d.0) (cond t (Some (b.1, sc)) (found sc x))
    by true h = refl
    by false h = h

pub known_found : (sc : Procedures) (x : List ℕ) (k : Known) (outer : Procedures) → found sc x ≡ Some (known k, outer) → names_of sc x ≡ Some k
known_found sc x k outer e = ap (λ r. r >>= as_known) (found_is sc x ∙ ap (option_map (λ (d : Binding Procedure × Procedures). d.0)) e)

pub no_known : (sc : Procedures) (x : List ℕ) (p : Procedure) (outer : Procedures) → found sc x ≡ Some (proc p, outer) → names_of sc x ≡ None
no_known sc x p outer e = ap (λ r. r >>= as_known) (found_is sc x ∙ ap (option_map (λ (d : Binding Procedure × Procedures). d.0)) e)

pub nothing_found : (sc : Procedures) (x : List ℕ) → found sc x ≡ None → names_of sc x ≡ None
nothing_found sc x e = ap (λ r. r >>= as_known) (found_is sc x ∙ ap (option_map (λ (d : Binding Procedure × Procedures). d.0)) e)

-- ---- the last block

pub innermost_last : (older : List Block) (f : Block) → innermost (reverse (older ++ f ∷ [])) ≡ pairs_before f.names.entries (scope_in (reverse older) f.outer)
innermost_last older f = ap innermost (reversed older [] f)

pub end_of_last : (older : List Block) (f : Block) (at : Position) → at.blocks ≡ length older + 1 → at.seen ≡ length f.names.entries
    → scope_in (reverse (older ++ f ∷ [])) at ≡ innermost (reverse (older ++ f ∷ []))
end_of_last older f at blocks all =
    own older [] f at blocks ∙ ap (λ es. pairs_before es (scope_in (reverse older) f.outer)) (ap (λ n. take n f.names.entries) all ∙ take_all (length f.names.entries) f.names.entries (omega arith)) ∙ sym (innermost_last older f)

-- a block with one name, behind the last one
pub declared_outside : (older : List Block) (f g : Block) (x : List ℕ) (b : BindingCode) → g.outer.blocks ≡ length older + 1 → g.outer.seen ≡ length f.names.entries
    → ((sc : Procedures) → pairs_before g.names.entries sc ≡ (x, binding_of b) ∷ sc)
    → innermost (reverse ((older ++ f ∷ []) ++ g ∷ [])) ≡ (x, binding_of b) ∷ innermost (reverse (older ++ f ∷ []))
declared_outside older f g x b blocks all one =
    innermost_last (older ++ f ∷ []) g ∙ one (scope_in (reverse (older ++ f ∷ [])) g.outer) ∙ ap (λ sc. (x, binding_of b) ∷ sc) (end_of_last older f g.outer blocks all)

-- one name more in the last one
pub declared_within : (older : List Block) (f g : Block) (x : List ℕ) (b : BindingCode) → g.outer ≡ f.outer
    → ((sc : Procedures) → pairs_before g.names.entries sc ≡ (x, binding_of b) ∷ pairs_before f.names.entries sc)
    → innermost (reverse (older ++ g ∷ [])) ≡ (x, binding_of b) ∷ innermost (reverse (older ++ f ∷ []))
declared_within older f g x b outer one =
    innermost_last older g ∙ one (scope_in (reverse older) g.outer) ∙ ap (λ at. (x, binding_of b) ∷ pairs_before f.names.entries (scope_in (reverse older) at)) outer
    ∙ ap (λ sc. (x, binding_of b) ∷ sc) (sym (innermost_last older f))
