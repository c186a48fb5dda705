-- As many as there are: what is read is shown so, and what is shown is read again, for any kind.
use Rattle.std.proofs.Common.{◌≡◌, ℕ, zero, suc, ◌<◌, ◌≤◌, List, [], ◌∷◌, ◌++◌, length, Option, Some, None, refl, sym, ap, subst, ◌∙◌, append_assoc, length-append, arith, zero-le}
use Rattle.occ_tree_grammar.specs.Many.{Reader, many_step, many}
use Rattle.occ_tree_grammar.specs.Lists.{show_all, Each}
use Rattle.occ_tree_grammar.proofs.Binds.{bind_some, some_is}

module _ (W A : Type 0) (piece : A → List W) (fits : A → Type 0) (next : List W → Option (List W)) (read : Reader W A)
    (one : (ws after : List W) (x : A × List W) → next ws ≡ Some after → read after ≡ Some x → (ws ≡ piece x.0 ++ x.1) × fits x.0) where
  abbrev IsRead : ℕ → List W → List A × List W → Type 0
  IsRead n ws x = (ws ≡ show_all piece x.0 ++ x.1) × Each fits x.0 × (length x.0 ≤ n)

  step_sound : (n : ℕ) (o : Option (List W)) (ws : List W) (x : List A × List W) → next ws ≡ o → ((vs : List W) (y : List A × List W) → many next read n vs ≡ Some y → IsRead n vs y)
      → many_step read (many next read n) o ws ≡ Some x → IsRead (suc n) ws x
  step_sound n None ws x j others e = subst (IsRead (suc n) ws) (some_is ([], ws) x e) (refl, tt, zero-le)
  step_sound n (Some after) ws x j others e =
      let a = bind_some (read after) _ x e in
      let b = bind_some (many next read n a.0.1) _ x a.2 in
      let p = one ws after a.0 j a.1 in
      let q = others a.0.1 b.0 b.1 in
      let whole : ws ≡ (piece a.0.0 ++ show_all piece b.0.0) ++ b.0.1 = p.0 ∙ ap (λ (t : List W). piece a.0.0 ++ t) q.0 ∙ sym (append_assoc (piece a.0.0) (show_all piece b.0.0) b.0.1) in
      subst (IsRead (suc n) ws) (some_is (a.0.0 ∷ b.0.0, b.0.1) x b.2) (whole, (p.1, q.1), omega (arith, q.2))

  pub many_sound : (n : ℕ) (ws : List W) (x : List A × List W) → many next read n ws ≡ Some x → (ws ≡ show_all piece x.0 ++ x.1) × Each fits x.0 × (length x.0 ≤ n)
  unfolding many
  many_sound zero ws x e = subst (IsRead zero ws) (some_is ([], ws) x e) (refl, tt, zero-le)
  many_sound (suc n) ws x e = step_sound n (next ws) ws x refl (many_sound n) e

-- the part is read again before what may follow it
abbrev pub Again : (W A : Type 0) → (A → List W) → (List W → Type 0) → (List W → Option (List W)) → Reader W A → A → Type 0
Again W A piece Follows next read a = (ws : List W) → Follows ws → (after : List W) × (next (piece a ++ ws) ≡ Some after) × (read after ≡ Some (a, ws))

module _ (W A : Type 0) (piece : A → List W) (next : List W → Option (List W)) (read : Reader W A) (Follows Last : List W → Type 0)
    (begins : (a : A) (ws : List W) → Follows (piece a ++ ws))
    (last : (ws : List W) → Last ws → (next ws ≡ None) × Follows ws) where
  follows : (all : List A) (ws : List W) → Last ws → Follows (show_all piece all ++ ws)
  follows [] ws h = (last ws h).1
  follows (a ∷ all) ws h = rw (append_assoc (piece a) (show_all piece all) ws) (begins a (show_all piece all ++ ws))

  pub many_again : (all : List A) → Each (Again W A piece Follows next read) all → (n : ℕ) → length all ≤ n → (ws : List W) → Last ws → many next read n (show_all piece all ++ ws) ≡ Some (all, ws)
  unfolding many
  many_again [] each zero le ws h = refl
  many_again [] each (suc n) le ws h = rw ((last ws h).0) refl
  many_again (a ∷ all) each zero le ws h = absurd (omega arith)
  many_again (a ∷ all) each (suc n) le ws h =
      let g = each.0 (show_all piece all ++ ws) (follows all ws h) in
      rw (append_assoc (piece a) (show_all piece all) ws, g.1, g.2, many_again all each.1 n (omega arith) ws h) refl

-- each has a word or a line
pub all_long : (W A : Type 0) (piece : A → List W) → ((a : A) → 0 < length (piece a)) → (all : List A) (ws : List W) → length all ≤ length (show_all piece all ++ ws)
all_long W A piece long [] ws = zero-le
all_long W A piece long (a ∷ all) ws =
    let h = all_long W A piece long all ws in
    let g = long a in
    rw (append_assoc (piece a) (show_all piece all) ws, length-append (piece a) (show_all piece all ++ ws)) (omega (arith, h, g))

pub each_map : {A : Type 0} {P Q : A → Type 0} → ((a : A) → P a → Q a) → (all : List A) → Each P all → Each Q all
each_map f [] h = tt
each_map f (a ∷ all) h = (f a h.0, each_map f all h.1)
