-- Answers of a search that are told one after the other.
use Rattle.std.proofs.Common.{◌≡◌, ◌∙◌, ◌<◌, ◌≤◌, ◌+◌, ◌++◌, ◌∷◌, ◌≢◌, ◌⊎◌, ℕ, List, [], add-one, ap, drop, drop_of_length-le, get_or, inl, inr, le_of_lt, length, subst, suc, sym, take}
use Rattle.std.proofs.lemmas.List.{drop_more, length-take-le}
use Rattle.std.specs.Prelude.{Err, IfOk, Ok, Result}
use Rattle.occ_explore.specs.declared.exploration.Answer.{Answer}
use Rattle.occ_term.specs.declared.ending.Ending.TheVariants.{Ended}
use Rattle.occ_play_inputs.specs.declared.inputs.Inputs.{Inputs}
use Rattle.occ_play_inputs.specs.declared.words.Words.{Words}
use Rattle.occ_program.specs.Explained.{EndsLike, IsReported, NoneEnds, SomeEnds, TellsAt, TellsFirst}

-- what is left of a list begins with the next item
item_first : (xs : List Answer) (i : ℕ) (x : Answer) → i < length xs → x ≡ get_or xs i x → drop i xs ≡ x ∷ drop (i + 1) xs
item_first xs i x within is = drop_more xs i x within ∙ ap (λ y. y ∷ drop (i + 1) xs) (sym is)

pub none_of_rest : (xs : List Answer) (i : ℕ) (x : Answer) (like : Answer) → i < length xs → x ≡ get_or xs i x → (EndsLike x like → ⊥)
    → NoneEnds (drop (i + 1) xs) like → NoneEnds (drop i xs) like
none_of_rest xs i x like within is differs h = subst (λ l. NoneEnds l like) (sym (item_first xs i x within is)) (differs, h)

pub some_of_rest : (xs : List Answer) (i : ℕ) (x : Answer) (like : Answer) → i < length xs → x ≡ get_or xs i x
    → SomeEnds (drop (i + 1) xs) like → SomeEnds (drop i xs) like
some_of_rest xs i x like within is h = subst (λ l. SomeEnds l like) (sym (item_first xs i x within is)) (inr h)

pub some_here : (xs : List Answer) (i : ℕ) (x : Answer) (like : Answer) → i < length xs → x ≡ get_or xs i x → EndsLike x like
    → SomeEnds (drop i xs) like
some_here xs i x like within is same = subst (λ l. SomeEnds l like) (sym (item_first xs i x within is)) (inl same)

pub none_left : (xs : List Answer) (i : ℕ) (like : Answer) → length xs ≤ i → NoneEnds (drop i xs) like
none_left xs i like end = subst (λ l. NoneEnds l like) (sym (drop_of_length-le xs end)) tt

-- one answer more is told
pub tells_more : (words : Words) (inputs : Inputs) (answers : List Answer) (place : ℕ) (above part text : List ℕ)
    → TellsFirst words inputs answers place above → TellsAt words inputs answers place part → text ≡ above ++ part
    → TellsFirst words inputs answers (place + 1) text
tells_more words inputs answers place above part text told one grown =
    subst (λ n. TellsFirst words inputs answers n text) (sym (add-one place)) (above, part, told, one, grown)

-- an answer with a new ending is told by its report
pub told_new : (words : Words) (inputs : Inputs) (answers : List Answer) (place : ℕ) (a : Answer) (text : List ℕ) → place < length answers → a ≡ get_or answers place a
    → (a.ending ≢ Ended) × NoneEnds (take place answers) a → IsReported words inputs (place + 1) a text → TellsAt words inputs answers place text
told_new words inputs answers place a text within is new report =
    let number : place + 1 ≡ suc (length (take place answers)) = add-one place ∙ ap suc (sym (length-take-le place answers (le_of_lt within))) in
    (a, within, is, inl (new.0, new.1, subst (λ n. IsReported words inputs n a text) number report))

-- and of any other nothing is told
pub told_old : (words : Words) (inputs : Inputs) (answers : List Answer) (place : ℕ) (a : Answer) (text : List ℕ) → place < length answers → a ≡ get_or answers place a
    → (a.ending ≡ Ended) ⊎ SomeEnds (take place answers) a → text ≡ [] → TellsAt words inputs answers place text
told_old words inputs answers place a text within is old none = (a, within, is, inr (old, none))

pub ok_map : {X E : Type 0} {P Q : X → Type 0} (r : Result X E) → ((x : X) → P x → Q x) → IfOk r P → IfOk r Q
ok_map (Ok x) f h = f x h
ok_map (Err e) f h = tt
