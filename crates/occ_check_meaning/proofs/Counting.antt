-- The nodes that are counted are those of the term: steps and lists.
use Rattle.std.proofs.Common.{◌≡◌, ◌≤◌, ℕ, ◌+◌, List, [], ◌∷◌, ◌++◌, Bool, true, false, IsTrue, Some, refl, ap, sym, arith}
use Rattle.std.specs.Prelude.{◌&&◌, max}
use Rattle.std.proofs.lemmas.Bool.{leb-true}
use Rattle.occ_term.specs.declared.primitive.Primitive.{Primitive}
use Rattle.occ_term.specs.declared.protocol.Protocol.{Protocol}
use Rattle.occ_term.specs.Terms.{Declaration, Clearing, Naming, Term, Arms, no_arms, skip_arm, input_arm, declared_arms, each_arm, Choices, no_choices, or_choice, declared_choices, each_choice, Variants, no_variants, or_variant, Options, no_options, or_option, or_else}
use Rattle.occ_term.specs.Sizes.{Size, no_size, with_node, size_of, size_of_terms, size_of_declaration, size_of_declarations, size_of_arms, size_of_choices, size_of_variants, size_of_options}
use Rattle.occ_check_meaning.specs.Scope.{keep, Name}
use Rattle.occ_check_meaning.specs.Numbers.{Numbers, deeper, more_cells, more_channels, more_processes, room}
use Rattle.occ_check_meaning.specs.Actions.{headed, followed, as_term, opening, arms_behind, choices_behind, arms_then, choices_then, variants_then, options_then}
use Rattle.occ_check_meaning.specs.Counting.{Counted}
use Rattle.occ_check_meaning.proofs.Steps.{bind_some, some_is}

pub kept : {A : Type 0} (b : Bool) (x y : A) → keep b x ≡ Some y → IsTrue b × (x ≡ y)
kept true x y e = (refl, some_is x y e)
kept false x y e = absurd cc

pub both_true : (a b : Bool) → IsTrue (a && b) → IsTrue a × IsTrue b
both_true true b h = (refl, h)
both_true false b h = absurd cc

module _ (depth : ℕ) (s : Size) (n m : Numbers) where
  pub room_nodes : room depth s n ≡ Some m → m.nodes ≡ n.nodes + s.nodes
  room_nodes e = ap (λ (x : Numbers). x.nodes) (sym (kept _ _ m e).1)

  pub room_deep : room depth s n ≡ Some m → depth + s.depth ≤ 200
  room_deep e = leb-true (depth + s.depth) 200 (both_true _ _ (kept _ _ m e).0).0

pub cells_nodes : (type : Primitive) (x : Name) (sizes : List ℕ) (n m : Numbers) → more_cells type x sizes n ≡ Some m → m.nodes ≡ n.nodes
cells_nodes type x sizes n m e = ap (λ (y : Numbers). y.nodes) (sym (kept _ _ m e).1)

pub channels_nodes : (p : Protocol) (x : Name) (sizes : List ℕ) (n m : Numbers) → more_channels p x sizes n ≡ Some m → m.nodes ≡ n.nodes
channels_nodes p x sizes n m e = ap (λ (y : Numbers). y.nodes) (sym (kept _ _ m e).1)

pub processes_nodes : (n m : Numbers) → more_processes n ≡ Some m → m.nodes ≡ n.nodes
processes_nodes n m e = ap (λ (y : Numbers). y.nodes) (sym (kept _ _ m e).1)

-- ---- sizes together

module _ {depth : ℕ} {a b t : Size} {n m l : Numbers} where
  pub counted_both : Counted depth a n m → Counted depth b m l → t.nodes ≡ a.nodes + b.nodes → t.depth ≤ max a.depth b.depth → Counted depth t n l
  counted_both h g e f =
      let x = h.nodes in
      let y = g.nodes in
      let p = h.deep in
      let q = g.deep in
      record { nodes = omega (arith, x, y, e); deep = omega (arith, p, q, f) }

-- what stands deeper has no more room
pub counted_deeper : {depth deep : ℕ} {s : Size} {n m : Numbers} (levels : ℕ) → deeper depth levels ≡ Some deep → Counted deep s n m → Counted depth s n m
counted_deeper {depth} {deep} {s} {n} {m} levels e h =
    let d : depth + levels ≡ deep = (kept _ _ deep e).1 in
    let x = h.nodes in
    let p = h.deep in
    record { nodes = x; deep = omega (arith, d, p) }

-- nothing is counted
pub counted_none : {depth : ℕ} {n m : Numbers} → m.nodes ≡ n.nodes → Counted depth no_size n m
counted_none e = record { nodes = omega (arith, e); deep = omega arith }

-- a line of its own with its parts
pub counted_node : {depth : ℕ} {n m l : Numbers} (s a t : Size) → room depth (with_node s) n ≡ Some m → Counted (depth + 1) a m l
    → t.nodes ≡ (s.nodes + a.nodes) + 1 → t.depth ≤ max s.depth a.depth + 1 → Counted depth t n l
counted_node {depth} {n} {m} s a t e h g f =
    let x = room_nodes depth (with_node s) n m e in
    let y = room_deep depth (with_node s) n m e in
    let p = h.nodes in
    let q = h.deep in
    record { nodes = omega (arith, x, p, g); deep = omega (arith, y, q, f) }

pub counted_room : {depth : ℕ} {n m : Numbers} (s : Size) → room depth s n ≡ Some m → Counted depth s n m
counted_room {depth} {n} {m} s e =
    let x = room_nodes depth s n m e in
    let y = room_deep depth s n m e in
    record { nodes = omega (arith, x); deep = omega (arith, y) }

-- ---- lists of declarations

pub declarations_nodes : (hs ks : List Declaration) → (size_of_declarations (hs ++ ks)).nodes ≡ (size_of_declarations hs).nodes + (size_of_declarations ks).nodes
declarations_nodes [] ks = omega arith
declarations_nodes (h ∷ hs) ks = let e = declarations_nodes hs ks in omega (arith, e)

pub declarations_depth : (hs ks : List Declaration) → (size_of_declarations (hs ++ ks)).depth ≤ max (size_of_declarations hs).depth (size_of_declarations ks).depth
declarations_depth [] ks = omega arith
declarations_depth (h ∷ hs) ks = let e = declarations_depth hs ks in omega (arith, e)

as_term_size : (h : Declaration) → size_of (as_term h) ≡ size_of_declaration h
as_term_size (Clearing first count) = refl
as_term_size (Naming first value) = refl

followed_nodes : (hs : List Declaration) (t : Term) → (size_of_terms (followed hs t)).nodes ≡ (size_of_declarations hs).nodes + (size_of t).nodes
followed_nodes [] t = omega arith
followed_nodes (h ∷ hs) t =
    let e = followed_nodes hs t in
    let g : (size_of (as_term h)).nodes ≡ (size_of_declaration h).nodes = ap (λ (s : Size). s.nodes) (as_term_size h) in
    omega (arith, e, g)

followed_depth : (hs : List Declaration) (t : Term) → (size_of_terms (followed hs t)).depth ≤ max (size_of_declarations hs).depth (size_of t).depth
followed_depth [] t = omega arith
followed_depth (h ∷ hs) t =
    let e = followed_depth hs t in
    let g : (size_of (as_term h)).depth ≡ (size_of_declaration h).depth = ap (λ (s : Size). s.depth) (as_term_size h) in
    omega (arith, e, g)

-- a term behind its declarations
pub counted_headed : {depth deep : ℕ} {n m o l : Numbers} (hs : List Declaration) (t : Term) → opening hs depth m ≡ Some (deep, o)
    → Counted (depth + 1) (size_of_declarations hs) n m → Counted deep (size_of t) o l → Counted depth (size_of (headed hs t)) n l
counted_headed {depth} {deep} {n} {m} {o} {l} [] t e h g =
    let x = h.nodes in
    let d : depth ≡ deep = ap (λ (y : ℕ × Numbers). y.0) (some_is _ _ e) in
    let k : m.nodes ≡ o.nodes = ap (λ (y : ℕ × Numbers). y.1.nodes) (some_is _ _ e) in
    let p = g.nodes in
    let q = g.deep in
    record { nodes = omega (arith, x, k, p); deep = omega (arith, d, q) }
counted_headed {depth} {deep} {n} {m} {o} {l} (h ∷ hs) t e c g =
    let r = bind_some (room depth (with_node no_size) m) _ (deep, o) e in
    let d : depth + 1 ≡ deep = ap (λ (y : ℕ × Numbers). y.0) (some_is _ _ r.2) in
    let k : r.0.nodes ≡ o.nodes = ap (λ (y : ℕ × Numbers). y.1.nodes) (some_is _ _ r.2) in
    let x = room_nodes depth (with_node no_size) m r.0 r.1 in
    let y = room_deep depth (with_node no_size) m r.0 r.1 in
    let z = followed_nodes (h ∷ hs) t in
    let w = followed_depth (h ∷ hs) t in
    let p = c.nodes in
    let q = c.deep in
    let u = g.nodes in
    let v = g.deep in
    record { nodes = omega (arith, x, k, z, p, u); deep = omega (arith, y, d, w, q, v) }

-- ---- lists within lists

pub arms_behind_nodes : (hs : List Declaration) (arms : Arms) → (size_of_arms (arms_behind hs arms)).nodes ≡ (size_of_declarations hs).nodes + (size_of_arms arms).nodes
arms_behind_nodes [] arms = omega arith
arms_behind_nodes (h ∷ hs) arms = let e = arms_behind_nodes hs arms in omega (arith, e)

pub arms_behind_depth : (hs : List Declaration) (arms : Arms) → (size_of_arms (arms_behind hs arms)).depth ≤ max (size_of_declarations hs).depth (size_of_arms arms).depth
arms_behind_depth [] arms = omega arith
arms_behind_depth (h ∷ hs) arms = let e = arms_behind_depth hs arms in omega (arith, e)

pub choices_behind_nodes : (hs : List Declaration) (cs : Choices) → (size_of_choices (choices_behind hs cs)).nodes ≡ (size_of_declarations hs).nodes + (size_of_choices cs).nodes
choices_behind_nodes [] cs = omega arith
choices_behind_nodes (h ∷ hs) cs = let e = choices_behind_nodes hs cs in omega (arith, e)

pub choices_behind_depth : (hs : List Declaration) (cs : Choices) → (size_of_choices (choices_behind hs cs)).depth ≤ max (size_of_declarations hs).depth (size_of_choices cs).depth
choices_behind_depth [] cs = omega arith
choices_behind_depth (h ∷ hs) cs = let e = choices_behind_depth hs cs in omega (arith, e)

pub arms_then_nodes : (a b : Arms) → (size_of_arms (arms_then a b)).nodes ≡ (size_of_arms a).nodes + (size_of_arms b).nodes
arms_then_nodes no_arms b = omega arith
arms_then_nodes (skip_arm x t arms) b = let e = arms_then_nodes arms b in omega (arith, e)
arms_then_nodes (input_arm x c list arms) b = let e = arms_then_nodes arms b in omega (arith, e)
arms_then_nodes (declared_arms d within arms) b = let e = arms_then_nodes arms b in omega (arith, e)
arms_then_nodes (each_arm r within arms) b = let e = arms_then_nodes arms b in omega (arith, e)

pub arms_then_depth : (a b : Arms) → (size_of_arms (arms_then a b)).depth ≤ max (size_of_arms a).depth (size_of_arms b).depth
arms_then_depth no_arms b = omega arith
arms_then_depth (skip_arm x t arms) b = let e = arms_then_depth arms b in omega (arith, e)
arms_then_depth (input_arm x c list arms) b = let e = arms_then_depth arms b in omega (arith, e)
arms_then_depth (declared_arms d within arms) b = let e = arms_then_depth arms b in omega (arith, e)
arms_then_depth (each_arm r within arms) b = let e = arms_then_depth arms b in omega (arith, e)

pub choices_then_nodes : (a b : Choices) → (size_of_choices (choices_then a b)).nodes ≡ (size_of_choices a).nodes + (size_of_choices b).nodes
choices_then_nodes no_choices b = omega arith
choices_then_nodes (or_choice x t cs) b = let e = choices_then_nodes cs b in omega (arith, e)
choices_then_nodes (declared_choices d within cs) b = let e = choices_then_nodes cs b in omega (arith, e)
choices_then_nodes (each_choice r within cs) b = let e = choices_then_nodes cs b in omega (arith, e)

pub choices_then_depth : (a b : Choices) → (size_of_choices (choices_then a b)).depth ≤ max (size_of_choices a).depth (size_of_choices b).depth
choices_then_depth no_choices b = omega arith
choices_then_depth (or_choice x t cs) b = let e = choices_then_depth cs b in omega (arith, e)
choices_then_depth (declared_choices d within cs) b = let e = choices_then_depth cs b in omega (arith, e)
choices_then_depth (each_choice r within cs) b = let e = choices_then_depth cs b in omega (arith, e)

pub variants_then_nodes : (a b : Variants) → (size_of_variants (variants_then a b)).nodes ≡ (size_of_variants a).nodes + (size_of_variants b).nodes
variants_then_nodes no_variants b = omega arith
variants_then_nodes (or_variant k ds ts t vs) b = let e = variants_then_nodes vs b in omega (arith, e)

pub variants_then_depth : (a b : Variants) → (size_of_variants (variants_then a b)).depth ≤ max (size_of_variants a).depth (size_of_variants b).depth
variants_then_depth no_variants b = omega arith
variants_then_depth (or_variant k ds ts t vs) b = let e = variants_then_depth vs b in omega (arith, e)

pub options_then_nodes : (a b : Options) → (size_of_options (options_then a b)).nodes ≡ (size_of_options a).nodes + (size_of_options b).nodes
options_then_nodes no_options b = omega arith
options_then_nodes (or_option cs ds t os) b = let e = options_then_nodes os b in omega (arith, e)
options_then_nodes (or_else ds t os) b = let e = options_then_nodes os b in omega (arith, e)

pub options_then_depth : (a b : Options) → (size_of_options (options_then a b)).depth ≤ max (size_of_options a).depth (size_of_options b).depth
options_then_depth no_options b = omega arith
options_then_depth (or_option cs ds t os) b = let e = options_then_depth os b in omega (arith, e)
options_then_depth (or_else ds t os) b = let e = options_then_depth os b in omega (arith, e)
