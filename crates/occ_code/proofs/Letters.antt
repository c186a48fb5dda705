-- The letters of a text as numbers, and back.
use Rattle.std.specs.Prelude.{get_or, map, nat_abs}
use Rattle.std.proofs.Common.{◌≡◌, ◌∙◌, ◌+◌, ◌∷◌, ap, false, List, [], length, negsuc, pos, refl, Some, true, ℕ, ℤ}
use Rattle.std.proofs.lemmas.List.{length-map}
use Rattle.occ_term.specs.Messages.{AllOf}
use Rattle.occ_term.specs.Frames.{Variables}
use Rattle.occ_term.specs.Storing.{Spot}
use Rattle.occ_term.specs.Values.{subscript}
use Rattle.occ_term.specs.declared.message.Part.{Part}
use Rattle.occ_term.specs.declared.primitive.Primitive.TheVariants.{Byte}
use Rattle.occ_machine.specs.Machine.{by_cell, act, going, point}
use Rattle.occ_machine.specs.declared.instr.Instr.TheVariants.{LoadLetter}

pub letters_back : (text : List ℕ) → map nat_abs (map pos text) ≡ text
letters_back [] = refl
letters_back (n ∷ text) = ap (λ l. n ∷ l) (letters_back text)

pub numbers_back : (text : List ℤ) → AllOf Byte text → map pos (map nat_abs text) ≡ text
numbers_back [] h = refl
numbers_back (pos n ∷ text) h = ap (λ l. pos n ∷ l) (numbers_back text h.1)
numbers_back (negsuc n ∷ text) h = let no : false ≡ true = h.0 in cc

-- a letter is loaded as its number
pub letter_loads : (line : ℕ) (text : List ℤ) (pc : ℕ) (v : ℤ) (st : List ℤ) (q : List Part) (sp : List Spot) (f : Variables) → AllOf Byte text
    → act by_cell (Some (LoadLetter line (map nat_abs text))) pc (v ∷ st) q sp f ≡ going pc f (subscript line (length text) v) (λ i. point (pc + 1) (get_or text i (pos 0) ∷ st) q sp f)
letter_loads line text pc v st q sp f h =
    ap (λ n. going pc f (subscript line n v) (λ i. point (pc + 1) (get_or (map pos (map nat_abs text)) i (pos 0) ∷ st) q sp f)) (length-map text nat_abs)
    ∙ ap (λ l. going pc f (subscript line (length text) v) (λ i. point (pc + 1) (get_or l i (pos 0) ∷ st) q sp f)) (numbers_back text h)
