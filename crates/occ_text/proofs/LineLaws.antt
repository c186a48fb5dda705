-- Logical lines, by the relation and by the function.
use Rattle.std.proofs.Common.{◌≡◌, ◌≤◌, ℕ, Bool, ◌*◌, ◌/◌, ◌%◌, true, false, cond, eqb, leb, List, [], ◌∷◌, ◌++◌, length, Option, Some, None, refl, sym, ap, subst, ◌∙◌, arith, inl, inr}
use Rattle.std.specs.Prelude.{Result, Ok, Err, IfOk}
use Rattle.std.specs.List.{enumerate_from}
use Rattle.std.specs.Str.Lines.{lines}
use Rattle.std.proofs.lemmas.Bool.{eqb-true, eq-eqb, leb-true, le-leb}
use Rattle.occ_text.specs.declared.fault.TextFault.{TextFault}
use Rattle.occ_text.specs.declared.fault.TextFault.TheVariants as faults
use Rattle.occ_text.specs.Words.{Word, LogicalLine, logical_line}
use Rattle.occ_text.specs.Lines.{Physical, Reads, goes_on, indent, Continues, complete, skipped, joined, Logical, none, dropped, begun, LinesOf, UnlessMemory}
use Rattle.occ_text.specs.Reading.{◌>>=◌, Gives, words_from, joined_with, finished, unfinished, logical_lines_from, lines_at}
use Rattle.occ_text.proofs.Basics.{bind_some, some_is, guard_some, chosen}
use Rattle.occ_text.proofs.WordLines.{words_sound, words_again}

-- ---- what is read

-- a line that is pending goes on
Waits : Option LogicalLine → Type 0
Waits None = Unit {0}
Waits (Some (logical_line n level ws)) = goes_on ws ≡ true

-- these are the logical lines of the lines, with the pending line before them
Stand : Option LogicalLine → List Physical → List LogicalLine → Type 0
Stand None lines logical_lines = Logical lines logical_lines
Stand (Some (logical_line n level ws)) lines logical_lines = (all : List Word) × (rest : List Physical) × (others : List LogicalLine) × (logical_lines ≡ logical_line n level all ∷ others) × Continues level ws lines all rest × Logical rest others

unfinished_waits : (next : Option LogicalLine) → Waits (unfinished next)
unfolding Waits
unfinished_waits None = tt
unfinished_waits (Some (logical_line n level ws)) = go (goes_on ws) refl
  where
    go : (t : Bool) → goes_on ws ≡ t → Waits (cond t (Some (logical_line n level ws)) None)
    go true h = h
    go false h = tt

settled : (next : Option LogicalLine) (lines : List Physical) (logical_lines : List LogicalLine) → Stand (unfinished next) lines logical_lines → Stand next lines (finished next ++ logical_lines)
unfolding Stand
settled None lines logical_lines s = s
settled (Some (logical_line n level ws)) lines logical_lines s = go (goes_on ws) refl s
  where
    go : (t : Bool) → goes_on ws ≡ t → Stand (cond t (Some (logical_line n level ws)) None) lines logical_lines → Stand (Some (logical_line n level ws)) lines (cond t [] (logical_line n level ws ∷ []) ++ logical_lines)
    go true h s = s
    go false h s = (ws, lines, logical_lines, refl, complete h, s)

half : (n : ℕ) → eqb (n % 2) 0 ≡ true → n ≡ 2 * (n / 2)
half n h = let e = eqb-true (n % 2) 0 h in omega (arith, e)

-- one more physical line before them
one_more : (pending : Option LogicalLine) (p : Physical) (lines : List Physical) (logical_lines : List LogicalLine) (ws : List Word) (next : Option LogicalLine) → Waits pending → Reads p.1 ws → joined_with pending p.0 (indent p.1) ws ≡ Some next → Stand next lines logical_lines → Stand pending (p ∷ lines) logical_lines
unfolding Stand Waits
one_more None p lines logical_lines [] next w r e s = dropped r (subst (λ (o : Option LogicalLine). Stand o lines logical_lines) (sym (some_is _ next e)) s)
one_more (Some (logical_line n level vs)) p lines logical_lines [] next w r e s =
    let t = subst (λ (o : Option LogicalLine). Stand o lines logical_lines) (sym (some_is _ next e)) s in
    (t.0, t.1, t.2, t.3, skipped w r t.4, t.5)
one_more None p lines logical_lines (v ∷ ws) next w r e s =
    let g = guard_some (eqb (indent p.1 % 2) 0) (Some (logical_line p.0 (indent p.1 / 2) (v ∷ ws))) next e in
    let t = subst (λ (o : Option LogicalLine). Stand o lines logical_lines) (sym g.1) s in
    subst (λ (rs : List LogicalLine). Logical (p ∷ lines) rs) (sym t.3) (begun r (half (indent p.1) g.0) t.4 t.5)
one_more (Some (logical_line n level vs)) p lines logical_lines (v ∷ ws) next w r e s =
    let g = guard_some (leb level (indent p.1 / 2)) (Some (logical_line n level (vs ++ v ∷ ws))) next e in
    let t = subst (λ (o : Option LogicalLine). Stand o lines logical_lines) (sym g.1) s in
    let deep = leb-true level (indent p.1 / 2) g.0 in
    (t.0, t.1, t.2, t.3, joined w r (omega (arith, deep)) t.4, t.5)

logical_lines_sound : (lines : List Physical) (pending : Option LogicalLine) (logical_lines : List LogicalLine) → Waits pending → logical_lines_from pending lines ≡ Some logical_lines → Stand pending lines logical_lines
unfolding logical_lines_from Stand
logical_lines_sound [] None logical_lines w e = subst (λ (rs : List LogicalLine). Logical [] rs) (some_is _ logical_lines e) none
logical_lines_sound [] (Some r) logical_lines w e = absurd cc
logical_lines_sound (p ∷ lines) pending logical_lines w e =
    let a = bind_some (words_from 0 p.1) _ logical_lines e in
    let b = bind_some (joined_with pending p.0 (indent p.1) a.0) _ logical_lines a.2 in
    let c = bind_some (logical_lines_from (unfinished b.0) lines) _ logical_lines b.2 in
    let others = logical_lines_sound lines (unfinished b.0) c.0 (unfinished_waits b.0) c.1 in
    one_more pending p lines logical_lines a.0 b.0 w (words_sound 0 p.1 a.0 a.1) b.1 (subst (λ (rs : List LogicalLine). Stand b.0 lines rs) (some_is _ logical_lines c.2) (settled b.0 lines c.0 others))

lines_sound : (text : List ℕ) (logical_lines : List LogicalLine) → lines_at text ≡ Some logical_lines → LinesOf text logical_lines
unfolding lines_at Waits Stand
lines_sound text logical_lines e =
    let g = chosen (leb (length text) 1048576) (logical_lines_from None (enumerate_from 1 (lines text))) None (Some logical_lines) e in
    elim g [
      | inl fits ↦ (leb-true _ _ fits.0, logical_lines_sound (enumerate_from 1 (lines text)) None logical_lines tt fits.1)
      | inr long ↦ absurd cc
    ]

-- ---- what stands is read

-- what follows where this line is pending, or finished
go_on : Option LogicalLine → List Physical → Option (List LogicalLine)
go_on next lines = logical_lines_from (unfinished next) lines >>= λ logical_lines. Some (finished next ++ logical_lines)

bind_same : (r : Option (List LogicalLine)) → (r >>= λ logical_lines. Some logical_lines) ≡ r
bind_same (Some logical_lines) = refl
bind_same None = refl

still : (n level : ℕ) (ws : List Word) (lines : List Physical) → goes_on ws ≡ true → go_on (Some (logical_line n level ws)) lines ≡ logical_lines_from (Some (logical_line n level ws)) lines
unfolding go_on
still n level ws lines h = rw h (bind_same (logical_lines_from (Some (logical_line n level ws)) lines))

pass : (pending : Option LogicalLine) (p : Physical) (lines : List Physical) → Reads p.1 [] → logical_lines_from pending (p ∷ lines) ≡ go_on pending lines
unfolding logical_lines_from go_on
pass pending p lines r = rw (words_again r) refl

even : (n level : ℕ) → n ≡ 2 * level → (eqb (n % 2) 0 ≡ true) × (n / 2 ≡ level)
even n level e = (eq-eqb (n % 2) 0 (omega arith), omega arith)

begin : (p : Physical) (lines : List Physical) (level : ℕ) (w : Word) (ws : List Word) → Reads p.1 (w ∷ ws) → indent p.1 ≡ 2 * level → logical_lines_from None (p ∷ lines) ≡ go_on (Some (logical_line p.0 level (w ∷ ws))) lines
unfolding logical_lines_from go_on
begin p lines level w ws r e = let h = even (indent p.1) level e in rw (words_again r, h.0, h.1) refl

join : (p : Physical) (lines : List Physical) (n level : ℕ) (vs : List Word) (w : Word) (ws : List Word) → Reads p.1 (w ∷ ws) → 2 * level ≤ indent p.1 → logical_lines_from (Some (logical_line n level vs)) (p ∷ lines) ≡ go_on (Some (logical_line n level (vs ++ w ∷ ws))) lines
unfolding logical_lines_from go_on
join p lines n level vs w ws r h =
    let deep : leb level (indent p.1 / 2) ≡ true = le-leb level (indent p.1 / 2) (omega arith) in
    rw (words_again r, deep) refl

complete_is : (n level : ℕ) (ws : List Word) (lines : List Physical) → goes_on ws ≡ false → go_on (Some (logical_line n level ws)) lines ≡ (logical_lines_from None lines >>= λ logical_lines. Some (logical_line n level ws ∷ logical_lines))
unfolding go_on
complete_is n level ws lines h = rw h refl

continues_again : {level : ℕ} {ws all : List Word} {lines rest : List Physical} (n : ℕ) → Continues level ws lines all rest → go_on (Some (logical_line n level ws)) lines ≡ (logical_lines_from None rest >>= λ logical_lines. Some (logical_line n level all ∷ logical_lines))
continues_again {level} n (complete {ws = ws} {rest = rest} h) = complete_is n level ws rest h
continues_again {level} n (skipped {n = m} {line = line} {ws = ws} {more = more} h r c) = still n level ws ((m, line) ∷ more) h ∙ pass (Some (logical_line n level ws)) (m, line) more r ∙ continues_again n c
continues_again {level} n (joined {n = m} {line = line} {w = w} {ws = ws} {vs = vs} {more = more} h r deep c) = still n level ws ((m, line) ∷ more) h ∙ join (m, line) more n level ws w vs r deep ∙ continues_again n c

nothing : logical_lines_from None [] ≡ Some []
unfolding logical_lines_from
nothing = refl

unfold_none : (lines : List Physical) → go_on None lines ≡ logical_lines_from None lines
unfolding go_on
unfold_none lines = bind_same (logical_lines_from None lines)

logical_again : {lines : List Physical} {logical_lines : List LogicalLine} → Logical lines logical_lines → logical_lines_from None lines ≡ Some logical_lines
logical_again none = nothing
logical_again (dropped {n = n} {line = line} {more = more} r l) = pass None (n, line) more r ∙ unfold_none more ∙ logical_again l
logical_again (begun {n = n} {level = level} {line = line} {w = w} {ws = ws} {all = all} {more = more} r e c l) =
    begin (n, line) more level w ws r e ∙ continues_again n c ∙ ap (λ (o : Option (List LogicalLine)). o >>= λ logical_lines. Some (logical_line n level all ∷ logical_lines)) (logical_again l)

lines_again : (text : List ℕ) (logical_lines : List LogicalLine) → LinesOf text logical_lines → lines_at text ≡ Some logical_lines
unfolding lines_at
lines_again text logical_lines l = rw (le-leb (length text) 1048576 l.0) (logical_again l.1)

-- ---- what is answered

module _ {X : Type 0} (view : X → List LogicalLine) (result : Result X TextFault) (text : List ℕ) (given : Gives view result (lines_at text)) where
  pub found : IfOk result (λ x. LinesOf text (view x))
  found = go result given
    where
      go : (r : Result X TextFault) → Gives view r (lines_at text) → IfOk r (λ x. LinesOf text (view x))
      go (Ok x) g = lines_sound text (view x) g
      go (Err e) g = tt

  pub only : (logical_lines : List LogicalLine) → LinesOf text logical_lines → UnlessMemory result (λ x. view x ≡ logical_lines)
  only logical_lines h = go result (subst (λ (o : Option (List LogicalLine)). Gives view result o) (lines_again text logical_lines h) given)
    where
      go : (r : Result X TextFault) → Gives view r (Some logical_lines) → UnlessMemory r (λ x. view x ≡ logical_lines)
      go (Ok x) g = sym (some_is logical_lines (view x) g)
      go (Err faults.Memory) g = tt
      go (Err _) g = absurd cc

pub one_reading : (text : List ℕ) (a b : List LogicalLine) → LinesOf text a → LinesOf text b → a ≡ b
one_reading text a b p q = some_is a b (sym (lines_again text a p) ∙ lines_again text b q)
