-- Files that are written one after the other.
use Rattle.std.proofs.Common.{◌≡◌, ◌∙◌, ◌++◌, ◌∷◌, ◌+◌, ◌<◌, ℕ, zero, suc, List, [], None, Option, Some, arith, ap, append_assoc, get_or, length, refl, subst, sym, take, ◌≤◌}
use Rattle.std.specs.Prelude.{Result, Ok, Err, OnErr, OnOk, ⊤}
use Rattle.std.specs.Borrow.{Bor}
use Rattle.occ_play_inputs.specs.declared.failure.Failure.{Failure}
use Rattle.std.proofs.lemmas.List.{append-nil}
use Rattle.occ_choices.specs.Lines.{choice_text}
use Rattle.occ_net_replay.specs.declared.choice.Choice.{Choice}
use Rattle.occ_explore.specs.declared.exploration.Answer.{Answer}
use Rattle.occ_files.specs.Leaving.{LeavesOne, LeavesAll, LeavesNothing, Written}
use Rattle.occ_explore.specs.declared.exploration.Waiting.{Waiting}
use Rattle.occ_program.specs.Pages.{AreRecorded, answer_files, answer_path, waiting_file, waiting_files}

pub untouched : (files : Option (List Written)) → LeavesNothing files files
untouched None = tt
untouched (Some files) = refl

-- nothing more is all that was there
pub none_more : (old new : Option (List Written)) → LeavesNothing old new → LeavesAll old new []
none_more None new kept = tt
none_more (Some files) None kept = absurd kept
none_more (Some files) (Some more) kept = kept ∙ sym (append-nil files)

-- some files, and then one more
pub one_more : (first old new : Option (List Written)) (before : List Written) (path text : List ℕ) → LeavesAll first old before → LeavesOne old new path text
    → LeavesAll first new (before ++ (path, text) ∷ [])
one_more None old new before path text h k = tt
one_more (Some files) None new before path text h k = absurd h
one_more (Some files) (Some more) None before path text h k = absurd k
one_more (Some files) (Some more) (Some last) before path text h k = k ∙ ap (λ l. l ++ (path, text) ∷ []) h ∙ append_assoc files before ((path, text) ∷ [])

-- and nothing more
pub no_more : (first old new : Option (List Written)) (before : List Written) → LeavesAll first old before → LeavesNothing old new → LeavesAll first new before
no_more None old new before h k = tt
no_more (Some files) None new before h k = absurd h
no_more (Some files) (Some more) None before h k = absurd k
no_more (Some files) (Some more) (Some last) before h k = k ∙ h

-- the next file of the list is that of the next answer
pub next_file : (stem : List ℕ) (k : ℕ) (answers : List Answer) (i : ℕ) (a : Answer) → i < length answers → a ≡ get_or answers i a
    → take i (answer_files stem k answers) ++ (answer_path stem (k + i), choice_text a.choices.items) ∷ [] ≡ take (suc i) (answer_files stem k answers)
next_file stem k [] i a within is = absurd (omega (arith, within))
next_file stem k (b ∷ answers) zero a within is =
    let here : k + 0 ≡ k = omega arith in
    ap (λ n. (answer_path stem n, choice_text a.choices.items) ∷ []) here ∙ ap (λ x. (answer_path stem k, choice_text x.choices.items) ∷ []) is
next_file stem k (b ∷ answers) (suc i) a within is =
    let there : k + suc i ≡ suc k + i = omega arith in
    ap (λ n. (answer_path stem k, choice_text b.choices.items) ∷ (take i (answer_files stem (suc k) answers) ++ (answer_path stem n, choice_text a.choices.items) ∷ [])) there
    ∙ ap (λ l. (answer_path stem k, choice_text b.choices.items) ∷ l) (next_file stem (suc k) answers i a (omega (arith, within)) is)

-- at the end of the answers these are all
pub all_files : (stem : List ℕ) (k : ℕ) (answers : List Answer) (i : ℕ) → length answers ≤ i → take i (answer_files stem k answers) ≡ answer_files stem k answers
all_files stem k [] i end = take_none i
  where
    no_files : List Written
    no_files = []

    take_none : (n : ℕ) → take n no_files ≡ no_files
    take_none zero = refl
    take_none (suc n) = refl
all_files stem k (b ∷ answers) zero end = absurd (omega (arith, end))
all_files stem k (b ∷ answers) (suc i) end = ap (λ l. (answer_path stem k, choice_text b.choices.items) ∷ l) (all_files stem (suc k) answers i (omega (arith, end)))

pub on_err : {X E P : Type 0} (r : Result X E) → P → OnErr r P
on_err (Ok x) p = tt
on_err (Err e) p = p

pub all_so_far : (first old new : Option (List Written)) (stem : List ℕ) (answers : List Answer) (i number : ℕ) (a : Answer) → i < length answers → a ≡ get_or answers i a → number ≡ 1 + i
    → LeavesAll first old (take i (answer_files stem 1 answers)) → LeavesOne old new (answer_path stem number) (choice_text a.choices.items)
    → LeavesAll first new (take (suc i) (answer_files stem 1 answers))
all_so_far first old new stem answers i number a within is same h one =
    subst (LeavesAll first new) (next_file stem 1 answers i a within is)
    (one_more first old new (take i (answer_files stem 1 answers)) (answer_path stem (1 + i)) (choice_text a.choices.items) h (subst (λ k. LeavesOne old new (answer_path stem k) (choice_text a.choices.items)) same one))

-- the first so many files, where the next one failed
pub first_files : (first old new : Option (List Written)) (stem : List ℕ) (answers : List Answer) (i number : ℕ) (a : Answer) → i < length answers → a ≡ get_or answers i a → number ≡ 1 + i
    → LeavesAll first old (take i (answer_files stem 1 answers)) → LeavesNothing old new
    → (n : ℕ) × LeavesAll first new (take n (answer_files stem 1 answers))
first_files first old new stem answers i number a within is same h none = (i, no_more first old new (take i (answer_files stem 1 answers)) h none)

-- the one file of the one answer
pub one_recorded : (path : Option (Bor (List ℕ))) (stem : Bor (List ℕ)) (a : Answer) (text : List Choice) (old new : Option (List Written)) (r : Result ⊤ Failure) → path ≡ Some stem → text ≡ a.choices.items
    → OnOk r (LeavesOne old new (answer_path stem.now 1) (choice_text text)) → OnErr r (LeavesNothing old new) → AreRecorded path (a ∷ []) old new r
one_recorded path stem a text old new r named same ok err = subst (λ p. AreRecorded p (a ∷ []) old new r) (sym named) (by r ok err)
  where
    said : LeavesOne old new (answer_path stem.now 1) (choice_text text) → LeavesOne old new (answer_path stem.now 1) (choice_text a.choices.items)
    said h = subst (λ t. LeavesOne old new (answer_path stem.now 1) (choice_text t)) same h

    by : (r : Result ⊤ Failure) → OnOk r (LeavesOne old new (answer_path stem.now 1) (choice_text text)) → OnErr r (LeavesNothing old new) → AreRecorded (Some stem) (a ∷ []) old new r
    by (Ok done) h g = said h
    by (Err f) h none = (0, none_more old new none)

-- of the first answers each
pub each_recorded : (path : Option (Bor (List ℕ))) (stem : Bor (List ℕ)) (answers firsts : List Answer) (old new : Option (List Written)) (r : Result ⊤ Failure) → path ≡ Some stem → firsts ≡ take 100 answers
    → OnOk r (LeavesAll old new (answer_files stem.now 1 firsts)) → OnErr r ((n : ℕ) × LeavesAll old new (take n (answer_files stem.now 1 firsts))) → AreRecorded path answers old new r
each_recorded path stem answers firsts old new r named same ok err = subst (λ p. AreRecorded p answers old new r) (sym named) (by r ok err)
  where
    by : (r : Result ⊤ Failure) → OnOk r (LeavesAll old new (answer_files stem.now 1 firsts)) → OnErr r ((n : ℕ) × LeavesAll old new (take n (answer_files stem.now 1 firsts))) → AreRecorded (Some stem) answers old new r
    by (Ok done) h g = subst (λ xs. LeavesAll old new (answer_files stem.now 1 xs)) same h
    by (Err f) h g = (g.0, subst (λ xs. LeavesAll old new (take g.0 (answer_files stem.now 1 xs))) same g.1)

-- ---- of those that wait for good

pub waiting_recorded : (stem : List ℕ) (waiting : Option Waiting) (w : Waiting) (text : List Choice) (old new : Option (List Written)) (r : Result ⊤ Failure) → waiting ≡ Some w → text ≡ w.choices.items
    → OnOk r (LeavesOne old new (answer_path stem 0) (choice_text text)) → OnErr r (LeavesNothing old new)
    → OnOk r (LeavesAll old new (waiting_file stem waiting)) × OnErr r ((n : ℕ) × LeavesAll old new (take n (waiting_file stem waiting)))
waiting_recorded stem waiting w text old new r is same ok err =
    subst (λ o. OnOk r (LeavesAll old new (waiting_file stem o)) × OnErr r ((n : ℕ) × LeavesAll old new (take n (waiting_file stem o)))) (sym is) (by r ok err)
  where
    said : LeavesOne old new (answer_path stem 0) (choice_text text) → LeavesOne old new (answer_path stem 0) (choice_text w.choices.items)
    said h = subst (λ t. LeavesOne old new (answer_path stem 0) (choice_text t)) same h

    by : (r : Result ⊤ Failure) → OnOk r (LeavesOne old new (answer_path stem 0) (choice_text text)) → OnErr r (LeavesNothing old new)
        → OnOk r (LeavesAll old new (waiting_file stem (Some w))) × OnErr r ((n : ℕ) × LeavesAll old new (take n (waiting_file stem (Some w))))
    by (Ok done) h g = (said h, tt)
    by (Err f) h none = (tt, (0, none_more old new none))

pub nobody_recorded : (stem : List ℕ) (waiting : Option Waiting) (files : Option (List Written)) → waiting ≡ None → LeavesAll files files (waiting_file stem waiting)
nobody_recorded stem waiting files is = subst (λ o. LeavesAll files files (waiting_file stem o)) (sym is) (none_more files files (untouched files))

pub none_recorded : (path : Option (Bor (List ℕ))) (waiting : Option Waiting) (files : Option (List Written)) → path ≡ None → LeavesAll files files (waiting_files path waiting)
none_recorded path waiting files is = subst (λ o. LeavesAll files files (waiting_files o waiting)) (sym is) (none_more files files (untouched files))

pub named_recorded : {X : Type 0} (Says : List Written → X → Type 0) (r : X) (path : Option (Bor (List ℕ))) (stem : Bor (List ℕ)) (waiting : Option Waiting) → path ≡ Some stem → Says (waiting_file stem.now waiting) r → Says (waiting_files path waiting) r
named_recorded Says r path stem waiting is h = subst (λ o. Says (waiting_files o waiting) r) (sym is) h
