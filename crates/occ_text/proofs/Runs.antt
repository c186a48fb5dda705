-- The longest run, by the relation and by the function.
use Rattle.std.proofs.Common.{◌≡◌, ℕ, suc, ◌+◌, Bool, true, false, cond, List, [], ◌∷◌, ◌++◌, length, take, drop, refl, ap, arith}
use Rattle.std.specs.List.{list_all, prefix_len, take_while}
use Rattle.std.proofs.lemmas.Bool.{and_parts}
use Rattle.std.proofs.lemmas.List.{take_at, drop_at}
use Rattle.occ_text.specs.Spelling.{begins, LongestRun}

run_step : (p : ℕ → Bool) (b : ℕ) (bytes : List ℕ) (t : Bool) → p b ≡ t → LongestRun p bytes (take (prefix_len p bytes) bytes) (drop (prefix_len p bytes) bytes)
    → LongestRun p (b ∷ bytes) (take (cond t (1 + prefix_len p bytes) 0) (b ∷ bytes)) (drop (cond t (1 + prefix_len p bytes) 0) (b ∷ bytes))
run_step p b bytes true h r =
    let e : 1 + prefix_len p bytes ≡ suc (prefix_len p bytes) = omega arith in
    rw e (record { whole = ap (λ (s : List ℕ). b ∷ s) r.whole; each = rw (h, r.each) refl; ended = r.ended })
run_step p b bytes false h r = record { whole = refl; each = refl; ended = h }

pub run_is_longest : (p : ℕ → Bool) (bytes : List ℕ) → LongestRun p bytes (take_while p bytes) (drop (prefix_len p bytes) bytes)
run_is_longest p [] = record { whole = refl; each = refl; ended = refl }
run_is_longest p (b ∷ bytes) = run_step p b bytes (p b) refl (run_is_longest p bytes)

prefix_len-append : (p : ℕ → Bool) (run rest : List ℕ) → list_all p run ≡ true → begins p rest ≡ false → prefix_len p (run ++ rest) ≡ length run
prefix_len-append p [] [] each ended = refl
prefix_len-append p [] (b ∷ rest) each ended = rw ended refl
prefix_len-append p (b ∷ run) rest each ended =
    let parts = and_parts (p b) (list_all p run) each in
    rw (parts.0, prefix_len-append p run rest parts.1 ended) (omega arith)

pub longest_is_run : (p : ℕ → Bool) (bytes run rest : List ℕ) → LongestRun p bytes run rest → (take_while p bytes ≡ run) × (drop (prefix_len p bytes) bytes ≡ rest)
longest_is_run p bytes run rest r =
    let n = prefix_len-append p run rest r.each r.ended in
    rw (r.whole, n) (take_at run rest (length run) refl, drop_at run rest (length run) refl)

-- what holds of the first byte of a run holds of the first byte of all
pub begins-append : (p : ℕ → Bool) (run rest : List ℕ) → begins p run ≡ true → begins p (run ++ rest) ≡ true
begins-append p [] rest h = absurd cc
begins-append p (b ∷ run) rest h = h
