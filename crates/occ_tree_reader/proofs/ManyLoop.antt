-- Reading as many as there are, as a loop does.
use Rattle.std.proofs.Common.{◌≡◌, ℕ, suc, ◌+◌, ◌-◌, ◌<◌, ◌≤◌, List, [], ◌∷◌, ◌++◌, Option, Some, None, refl, sym, ap, ◌∙◌, append_assoc, arith}
use Rattle.std.proofs.lemmas.List.{append-nil}
use Rattle.occ_tree_grammar.specs.declared.fault.ParseFault.{ParseFault}
use Rattle.occ_tree_grammar.specs.declared.fault.ParseFault.TheVariants.{Memory, Unexpected, Level, Missing, TooDeep}
use Rattle.occ_tree_grammar.specs.Many.{◌>>=◌, Reader, many}
use Rattle.occ_tree_grammar.specs.Expressions.Reading.{Fails}

-- what was read before, and what is still read
abbrev pub with_front : {W A : Type 0} → List A → Option (List A × List W) → Option (List A × List W)
with_front front read = read >>= λ x. Some (front ++ x.0, x.1)

-- the loop has made i turns of count, has read front, and stands at ws; total is what all turns read
pub record SoFar (W A : Type 0) (next : List W → Option (List W)) (read : Reader W A) (front : List A) (count i : ℕ) (ws : List W) (total : Option (List A × List W)) : Type 0 where
  pub holds : with_front front (many next read (count - i) ws) ≡ total

regroup : {W A : Type 0} (front : List A) (a : A) (read : Option (List A × List W)) → with_front front (read >>= λ rest. Some (a ∷ rest.0, rest.1)) ≡ with_front (front ++ a ∷ []) read
regroup {A = A} front a (Some x) = ap (λ (ts : List A). Some (ts, x.1)) (simp append_assoc)
regroup front a None = refl

nothing_before : {W A : Type 0} (read : Option (List A × List W)) → with_front [] read ≡ read
nothing_before (Some x) = refl
nothing_before None = refl

pub begins : (W A : Type 0) (next : List W → Option (List W)) (read : Reader W A) (count : ℕ) (ws : List W) → SoFar W A next read [] count 0 ws (many next read count ws)
begins W A next read count ws =
    let k : count - 0 ≡ count = omega arith in
    record { holds = rw k (nothing_before (many next read count ws)) }

pub goes_on : {W A : Type 0} {next : List W → Option (List W)} {read : Reader W A} {front : List A} {count i : ℕ} {ws : List W} {total : Option (List A × List W)} {after rest : List W} {a : A}
    → SoFar W A next read front count i ws total → i < count → Some after ≡ next ws → read after ≡ Some (a, rest) → SoFar W A next read (front ++ a ∷ []) count (i + 1) rest total
unfolding many
goes_on {W} {A} {next} {read} {front} {count} {i} {ws} {total} {after} {rest} {a} so_far lt joined h =
    let k : count - i ≡ suc (count - (i + 1)) = omega arith in
    let one : with_front front (many next read (count - i) ws) ≡ with_front (front ++ a ∷ []) (many next read (count - (i + 1)) rest) = rw (k, ← joined, h) (regroup front a (many next read (count - (i + 1)) rest)) in
    record { holds = sym one ∙ so_far.holds }

fails : {W A : Type 0} {next : List W → Option (List W)} {read : Reader W A} {front : List A} {count i : ℕ} {ws : List W} {total : Option (List A × List W)} {after : List W}
    → SoFar W A next read front count i ws total → i < count → Some after ≡ next ws → read after ≡ None → total ≡ None
unfolding many
fails {W} {A} {next} {read} {front} {count} {i} {ws} {total} {after} so_far lt joined h =
    let k : count - i ≡ suc (count - (i + 1)) = omega arith in
    let one : with_front front (many next read (count - i) ws) ≡ None = rw (k, ← joined, h) refl in
    sym so_far.holds ∙ one

pub ends : (e : ParseFault) {W A : Type 0} {next : List W → Option (List W)} {read : Reader W A} {front : List A} {count i : ℕ} {ws : List W} {total : Option (List A × List W)} {after : List W}
    → SoFar W A next read front count i ws total → i < count → Some after ≡ next ws → Fails e (read after) → Fails e total
ends Memory so_far lt joined h = tt
ends (Unexpected line stop) so_far lt joined h = fails so_far lt joined h
ends (Level line level) so_far lt joined h = fails so_far lt joined h
ends (Missing line level) so_far lt joined h = fails so_far lt joined h
ends (TooDeep line stop) so_far lt joined h = fails so_far lt joined h

pub is_full : {W A : Type 0} {next : List W → Option (List W)} {read : Reader W A} {front : List A} {count i : ℕ} {ws : List W} {total : Option (List A × List W)}
    → SoFar W A next read front count i ws total → count ≤ i → total ≡ Some (front, ws)
unfolding many
is_full {W} {A} {next} {read} {front} {count} {i} {ws} {total} so_far le =
    let k : count - i ≡ 0 = omega arith in
    let one : with_front front (many next read (count - i) ws) ≡ Some (front, ws) = rw k (ap (λ (ts : List A). Some (ts, ws)) (append-nil front)) in
    sym so_far.holds ∙ one

pub is_last : {W A : Type 0} {next : List W → Option (List W)} {read : Reader W A} {front : List A} {count i : ℕ} {ws : List W} {total : Option (List A × List W)}
    → SoFar W A next read front count i ws total → i < count → None ≡ next ws → total ≡ Some (front, ws)
unfolding many
is_last {W} {A} {next} {read} {front} {count} {i} {ws} {total} so_far lt joined =
    let k : count - i ≡ suc (count - (i + 1)) = omega arith in
    let one : with_front front (many next read (count - i) ws) ≡ Some (front, ws) = rw (k, ← joined) (ap (λ (ts : List A). Some (ts, ws)) (append-nil front)) in
    sym so_far.holds ∙ one
