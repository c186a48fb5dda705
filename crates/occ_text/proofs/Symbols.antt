-- Symbols, by the relation and by the function.
use Rattle.std.proofs.Common.{◌≡◌, ◌≤◌, ℕ, ◌&&◌, eqb, cond, List, [], ◌∷◌, ◌++◌, length, Option, Some, None, refl, sym, ap, subst, ◌∙◌, arith, ◌⊎◌, inl, inr}
use Rattle.std.proofs.lemmas.Bool.{and_parts, eqb-true}
use Rattle.occ_text.specs.declared.token.Sym.{Sym}
use Rattle.occ_text.specs.declared.token.Sym.TheVariants as s
use Rattle.occ_text.specs.Words.{Word, mark}
use Rattle.occ_text.specs.Spelling.{marks, Spells, symbol}
use Rattle.occ_text.specs.Reading.{◌>>=◌, double_of, single_of, single_at, double_at, or_else, symbol_at}
use Rattle.occ_text.proofs.Basics.{bind_some, some_is, chosen, Takes}

-- a symbol has two bytes that make it, or one that does
shape : (m : Sym) → ((a b : ℕ) × (marks m ≡ a ∷ b ∷ []) × (double_of a b ≡ Some m)) ⊎ ((a : ℕ) × (marks m ≡ a ∷ []) × (single_of a ≡ Some m))
unfolding marks double_of single_of
shape s.Assign = inl (58, 61, refl, refl)
shape s.DoubleColon = inl (58, 58, refl, refl)
shape s.NotEqual = inl (60, 62, refl, refl)
shape s.LessEqual = inl (60, 61, refl, refl)
shape s.GreaterEqual = inl (62, 61, refl, refl)
shape s.ShiftLeft = inl (60, 60, refl, refl)
shape s.ShiftRight = inl (62, 62, refl, refl)
shape s.BitXor = inl (62, 60, refl, refl)
shape s.BitAnd = inl (47, 92, refl, refl)
shape s.BitOr = inl (92, 47, refl, refl)
shape s.Colon = inr (58, refl, refl)
shape s.Semicolon = inr (59, refl, refl)
shape s.Comma = inr (44, refl, refl)
shape s.OpenParen = inr (40, refl, refl)
shape s.CloseParen = inr (41, refl, refl)
shape s.OpenBracket = inr (91, refl, refl)
shape s.CloseBracket = inr (93, refl, refl)
shape s.Ampersand = inr (38, refl, refl)
shape s.Question = inr (63, refl, refl)
shape s.Exclamation = inr (33, refl, refl)
shape s.Equal = inr (61, refl, refl)
shape s.Less = inr (60, refl, refl)
shape s.Greater = inr (62, refl, refl)
shape s.Plus = inr (43, refl, refl)
shape s.Minus = inr (45, refl, refl)
shape s.Times = inr (42, refl, refl)
shape s.Divide = inr (47, refl, refl)
shape s.Remainder = inr (92, refl, refl)
shape s.Tilde = inr (126, refl, refl)

-- a row of a table of two bytes, or a later one
row2 : (x y a b : ℕ) (m n : Sym) (others : Option Sym) → marks m ≡ x ∷ y ∷ [] → cond (eqb a x && eqb b y) (Some m) others ≡ Some n → (others ≡ Some n → marks n ≡ a ∷ b ∷ []) → marks n ≡ a ∷ b ∷ []
row2 x y a b m n others h e later =
    elim (chosen (eqb a x && eqb b y) (Some m) others (Some n) e) [
      | inl same ↦
          let parts = and_parts (eqb a x) (eqb b y) same.0 in
          ap marks (sym (some_is m n same.1)) ∙ h ∙ rw (eqb-true a x parts.0, eqb-true b y parts.1) refl
      | inr other ↦ later other.1
    ]

double_sound : (a b : ℕ) (n : Sym) → double_of a b ≡ Some n → marks n ≡ a ∷ b ∷ []
unfolding double_of marks
double_sound a b n e =
    row2 58 61 a b s.Assign n _ refl e (λ e. row2 58 58 a b s.DoubleColon n _ refl e (λ e. row2 60 62 a b s.NotEqual n _ refl e (λ e. row2 60 61 a b s.LessEqual n _ refl e
    (λ e. row2 62 61 a b s.GreaterEqual n _ refl e (λ e. row2 60 60 a b s.ShiftLeft n _ refl e (λ e. row2 62 62 a b s.ShiftRight n _ refl e (λ e. row2 62 60 a b s.BitXor n _ refl e
    (λ e. row2 47 92 a b s.BitAnd n _ refl e (λ e. row2 92 47 a b s.BitOr n _ refl e (λ e. absurd cc))))))))))

row1 : (x a : ℕ) (m n : Sym) (others : Option Sym) → marks m ≡ x ∷ [] → cond (eqb a x) (Some m) others ≡ Some n → (others ≡ Some n → marks n ≡ a ∷ []) → marks n ≡ a ∷ []
row1 x a m n others h e later =
    elim (chosen (eqb a x) (Some m) others (Some n) e) [
      | inl same ↦ ap marks (sym (some_is m n same.1)) ∙ h ∙ rw (eqb-true a x same.0) refl
      | inr other ↦ later other.1
    ]

single_sound : (a : ℕ) (n : Sym) → single_of a ≡ Some n → marks n ≡ a ∷ []
unfolding single_of marks
single_sound a n e =
    row1 58 a s.Colon n _ refl e (λ e. row1 59 a s.Semicolon n _ refl e (λ e. row1 44 a s.Comma n _ refl e (λ e. row1 40 a s.OpenParen n _ refl e
    (λ e. row1 41 a s.CloseParen n _ refl e (λ e. row1 91 a s.OpenBracket n _ refl e (λ e. row1 93 a s.CloseBracket n _ refl e (λ e. row1 38 a s.Ampersand n _ refl e
    (λ e. row1 63 a s.Question n _ refl e (λ e. row1 33 a s.Exclamation n _ refl e (λ e. row1 61 a s.Equal n _ refl e (λ e. row1 60 a s.Less n _ refl e
    (λ e. row1 62 a s.Greater n _ refl e (λ e. row1 43 a s.Plus n _ refl e (λ e. row1 45 a s.Minus n _ refl e (λ e. row1 42 a s.Times n _ refl e
    (λ e. row1 47 a s.Divide n _ refl e (λ e. row1 92 a s.Remainder n _ refl e (λ e. row1 126 a s.Tilde n _ refl e (λ e. absurd cc)))))))))))))))))))

short : (n : Sym) → length (marks n) ≤ 2
short n =
    elim (shape n) [
      | inl two ↦ rw two.2 (omega arith)
      | inr one ↦ rw one.1 (omega arith)
    ]

-- where no symbol of two bytes stands, none is longer than one
single : (bytes : List ℕ) (n : Sym) (after : List ℕ) → double_at bytes ≡ None → bytes ≡ marks n ++ after → length (marks n) ≤ 1
single bytes n after none e =
    elim (shape n) [
      | inl two ↦
          let w : bytes ≡ two.0 ∷ two.1 ∷ after = rw two.2 at e in
          let found : double_at bytes ≡ Some (mark n, after) = rw (w, two.3) refl in
          absurd cc
      | inr one ↦ rw one.1 (omega arith)
    ]

double_at_sound : (bytes : List ℕ) (x : Word × List ℕ) → double_at bytes ≡ Some x → Spells bytes x.0 x.1
unfolding marks
double_at_sound (a ∷ b ∷ rest) x e =
    let m = bind_some (double_of a b) _ x e in
    let two = double_sound a b m.0 m.1 in
    subst (λ (y : Word × List ℕ). Spells (a ∷ b ∷ rest) y.0 y.1) (some_is _ x m.2) (symbol m.0 (rw two refl) (λ n after e. rw two (short n)))
double_at_sound _ x e = absurd cc

single_at_sound : (bytes : List ℕ) (x : Word × List ℕ) → double_at bytes ≡ None → single_at bytes ≡ Some x → Spells bytes x.0 x.1
single_at_sound [] x none e = absurd cc
single_at_sound (a ∷ rest) x none e =
    let m = bind_some (single_of a) _ x e in
    let one = single_sound a m.0 m.1 in
    subst (λ (y : Word × List ℕ). Spells (a ∷ rest) y.0 y.1) (some_is _ x m.2) (symbol m.0 (rw one refl) (λ n after e. rw one (single (a ∷ rest) n after none e)))

pub symbol_sound : (bytes : List ℕ) (x : Word × List ℕ) → symbol_at bytes ≡ Some x → Spells bytes x.0 x.1
unfolding symbol_at
symbol_sound bytes x e = go (double_at bytes) refl e
  where
    go : (d : Option (Word × List ℕ)) → double_at bytes ≡ d → or_else d (single_at bytes) ≡ Some x → Spells bytes x.0 x.1
    go (Some y) h e = double_at_sound bytes x (h ∙ e)
    go None h e = single_at_sound bytes x h e

-- no symbol of two bytes stands where one of one byte is the longest
none_longer : (bytes : List ℕ) (m : Sym) → ((n : Sym) (after : List ℕ) → bytes ≡ marks n ++ after → length (marks n) ≤ length (marks m)) → length (marks m) ≡ 1 → double_at bytes ≡ None
none_longer (a ∷ b ∷ rest) m longest one = go (double_of a b) refl
  where
    go : (d : Option Sym) → double_of a b ≡ d → ◌>>=◌ {B = Word × List ℕ} d (λ n. Some (mark n, rest)) ≡ None
    go (Some n) h =
        let two = double_sound a b n h in
        let w : a ∷ b ∷ rest ≡ marks n ++ rest = rw two refl in
        let long = longest n rest w in
        let len : length (marks n) ≡ 2 = rw two refl in
        absurd (omega arith)
    go None h = refl
none_longer _ m longest one = refl

pub symbol_again : (m : Sym) (bytes rest : List ℕ) → bytes ≡ marks m ++ rest → ((n : Sym) (after : List ℕ) → bytes ≡ marks n ++ after → length (marks n) ≤ length (marks m)) → symbol_at bytes ≡ Some (mark m, rest)
unfolding symbol_at
symbol_again m bytes rest e longest =
    elim (shape m) [
      | inl two ↦
          let w : bytes ≡ two.0 ∷ two.1 ∷ rest = rw two.2 at e in
          rw (w, two.3) refl
      | inr one ↦
          let w : bytes ≡ one.0 ∷ rest = rw one.1 at e in
          let len : length (marks m) ≡ 1 = rw one.1 refl in
          let none = none_longer bytes m longest len in
          let found : single_at bytes ≡ Some (mark m, rest) = rw (w, one.2) refl in
          rw (none, found) refl
    ]

pub symbol_takes : (m : Sym) (bytes rest : List ℕ) → bytes ≡ marks m ++ rest → Takes bytes rest
symbol_takes m bytes rest e =
    elim (shape m) [
      | inl two ↦ record { first = two.0; front = two.1 ∷ []; whole = rw two.2 at e }
      | inr one ↦ record { first = one.0; front = []; whole = rw one.1 at e }
    ]
