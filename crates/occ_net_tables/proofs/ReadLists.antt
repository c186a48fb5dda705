-- What is read from the lists of some communications is these.
use Rattle.std.proofs.lemmas.List.{take_min}
use Rattle.std.proofs.Common.{◌≡◌, ◌∙◌, ◌≤◌, ◌+◌, ℕ, zero, suc, min, arith, ℤ, List, [], ◌∷◌, ◌++◌, length, map, take, drop, refl, sym, ap, subst, append_assoc, append-nil, Result, Ok, Err, OnOk}
use Rattle.occ_term.specs.declared.message.Part.{Part}
use Rattle.occ_term.specs.declared.message.Part.TheVariants.{One, Many, Counted}
use Rattle.occ_term.specs.declared.communication.Communication.{Communication}
use Rattle.occ_net_tables.specs.declared.lists.Lists.{Lists}
use Rattle.occ_net_tables.specs.declared.shapes.Head.{Head}
use Rattle.occ_net_tables.specs.declared.shapes.Shape.{Shape}
use Rattle.occ_net_tables.specs.Flat.{all_lengths, all_shapes, all_words, communications_in, communication_head, items_in, lengths_behind, lengths_in, made, shapes_behind, shapes_in, words_behind, words_in}
use Rattle.occ_net_tables.specs.Kept.{AreListsOf, kept_in}
use Rattle.occ_net_tables.specs.TraceRoom.{HoldSame, Appends}

take_front : (xs ys : List ℤ) → take (length xs) (xs ++ ys) ≡ xs
take_front [] ys = refl
take_front (x ∷ xs) ys = ap (λ l. x ∷ l) (take_front xs ys)

drop_front : (xs ys : List ℤ) → drop (length xs) (xs ++ ys) ≡ ys
drop_front [] ys = refl
drop_front (x ∷ xs) ys = drop_front xs ys

-- ---- one message, with more behind it

shapes_read : (ps : List Part) (ss : List Shape) → shapes_behind (all_shapes ps ++ ss) ≡ ss
shapes_read [] ss = refl
shapes_read (One t v ∷ ps) ss = shapes_read ps ss
shapes_read (Many t vs ∷ ps) ss = shapes_read ps ss
shapes_read (Counted t vs ∷ ps) ss = shapes_read ps ss

lengths_read : (ps : List Part) (ss : List Shape) (ns : List ℕ) → lengths_behind (all_shapes ps ++ ss) (all_lengths ps ++ ns) ≡ ns
lengths_read [] ss ns = refl
lengths_read (One t v ∷ ps) ss ns = lengths_read ps ss ns
lengths_read (Many t vs ∷ ps) ss ns = lengths_read ps ss ns
lengths_read (Counted t vs ∷ ps) ss ns = lengths_read ps ss ns

-- behind the first array
cut : (xs ys zs : List ℤ) → drop (length xs) ((xs ++ ys) ++ zs) ≡ ys ++ zs
cut xs ys zs = ap (drop (length xs)) (append_assoc xs ys zs) ∙ drop_front xs (ys ++ zs)

front : (xs ys zs : List ℤ) → take (length xs) ((xs ++ ys) ++ zs) ≡ xs
front xs ys zs = ap (take (length xs)) (append_assoc xs ys zs) ∙ take_front xs (ys ++ zs)

words_read : (ps : List Part) (ss : List Shape) (ns : List ℕ) (ws : List ℤ) → words_behind (all_shapes ps ++ ss) (all_lengths ps ++ ns) (all_words ps ++ ws) ≡ ws
words_read [] ss ns ws = refl
words_read (One t v ∷ ps) ss ns ws = words_read ps ss ns ws
words_read (Many t vs ∷ ps) ss ns ws = ap (words_behind (all_shapes ps ++ ss) (all_lengths ps ++ ns)) (cut vs (all_words ps) ws) ∙ words_read ps ss ns ws
words_read (Counted t vs ∷ ps) ss ns ws = ap (words_behind (all_shapes ps ++ ss) (all_lengths ps ++ ns)) (cut vs (all_words ps) ws) ∙ words_read ps ss ns ws

items_read : (ps : List Part) (ss : List Shape) (ns : List ℕ) (ws : List ℤ) → items_in (all_shapes ps ++ ss) (all_lengths ps ++ ns) (all_words ps ++ ws) ≡ ps
items_read [] ss ns ws = refl
items_read (One t v ∷ ps) ss ns ws = ap (λ l. One t v ∷ l) (items_read ps ss ns ws)
items_read (Many t vs ∷ ps) ss ns ws =
    ap (λ l. Many t l ∷ items_in (all_shapes ps ++ ss) (all_lengths ps ++ ns) (drop (length vs) ((vs ++ all_words ps) ++ ws))) (front vs (all_words ps) ws)
    ∙ ap (λ l. Many t vs ∷ l) (ap (items_in (all_shapes ps ++ ss) (all_lengths ps ++ ns)) (cut vs (all_words ps) ws) ∙ items_read ps ss ns ws)
items_read (Counted t vs ∷ ps) ss ns ws =
    ap (λ l. Counted t l ∷ items_in (all_shapes ps ++ ss) (all_lengths ps ++ ns) (drop (length vs) ((vs ++ all_words ps) ++ ws))) (front vs (all_words ps) ws)
    ∙ ap (λ l. Counted t vs ∷ l) (ap (items_in (all_shapes ps ++ ss) (all_lengths ps ++ ns)) (cut vs (all_words ps) ws) ∙ items_read ps ss ns ws)

-- ---- all communications

one_read : (h : Head) (hs : List Head) (ps : List Part) (ss : List Shape) (ns : List ℕ) (ws : List ℤ) → communications_in (h ∷ hs) (all_shapes ps ++ ss) (all_lengths ps ++ ns) (all_words ps ++ ws) ≡ made h ps ∷ communications_in hs ss ns ws
one_read h hs ps ss ns ws =
    rw (items_read ps ss ns ws, shapes_read ps ss, lengths_read ps ss ns, words_read ps ss ns ws)

all_read : (xs : List Communication) → communications_in (map communication_head xs) (shapes_in xs) (lengths_in xs) (words_in xs) ≡ xs
all_read [] = refl
all_read (x ∷ xs) =
    one_read (communication_head x) (map communication_head xs) x.message.items (shapes_in xs) (lengths_in xs) (words_in xs) ∙ ap (λ l. x ∷ l) (all_read xs)

pub read_kept : (xs : List Communication) (l : Lists) → AreListsOf xs l → kept_in l ≡ xs
read_kept xs l k =
    ap (λ hs. communications_in hs l.shapes.items l.lengths.items l.words.items) k.heads
    ∙ ap (λ ss. communications_in (map communication_head xs) ss l.lengths.items l.words.items) k.shapes
    ∙ ap (λ ns. communications_in (map communication_head xs) (shapes_in xs) ns l.words.items) k.lengths
    ∙ ap (communications_in (map communication_head xs) (shapes_in xs) (lengths_in xs)) k.words
    ∙ all_read xs

pub kept_here : (xs : List Communication) (l : Lists) → AreListsOf xs l → AreListsOf (kept_in l) l
kept_here xs l k = subst (λ ys. AreListsOf ys l) (sym (read_kept xs l k)) k

-- ---- more room, and one more communication

pub kept_as : (xs : List Communication) (old new : Lists) → AreListsOf xs old → HoldSame old new → AreListsOf xs new
kept_as xs old new k s = record { heads = s.heads ∙ k.heads; shapes = s.shapes ∙ k.shapes; lengths = s.lengths ∙ k.lengths; words = s.words ∙ k.words }

heads_more : (xs : List Communication) (x : Communication) → map communication_head xs ++ communication_head x ∷ [] ≡ map communication_head (xs ++ x ∷ [])
heads_more [] x = refl
heads_more (y ∷ ys) x = ap (λ l. communication_head y ∷ l) (heads_more ys x)

shapes_more : (xs : List Communication) (x : Communication) → shapes_in xs ++ all_shapes x.message.items ≡ shapes_in (xs ++ x ∷ [])
shapes_more [] x = sym (append-nil (all_shapes x.message.items))
shapes_more (y ∷ ys) x = append_assoc (all_shapes y.message.items) (shapes_in ys) (all_shapes x.message.items) ∙ ap (λ l. all_shapes y.message.items ++ l) (shapes_more ys x)

lengths_more : (xs : List Communication) (x : Communication) → lengths_in xs ++ all_lengths x.message.items ≡ lengths_in (xs ++ x ∷ [])
lengths_more [] x = sym (append-nil (all_lengths x.message.items))
lengths_more (y ∷ ys) x = append_assoc (all_lengths y.message.items) (lengths_in ys) (all_lengths x.message.items) ∙ ap (λ l. all_lengths y.message.items ++ l) (lengths_more ys x)

words_more : (xs : List Communication) (x : Communication) → words_in xs ++ all_words x.message.items ≡ words_in (xs ++ x ∷ [])
words_more [] x = sym (append-nil (all_words x.message.items))
words_more (y ∷ ys) x = append_assoc (all_words y.message.items) (words_in ys) (all_words x.message.items) ∙ ap (λ l. all_words y.message.items ++ l) (words_more ys x)

pub kept_more : (xs : List Communication) (x : Communication) (old new : Lists) → AreListsOf xs old → Appends old (communication_head x) x.message.items new → AreListsOf (xs ++ x ∷ []) new
kept_more xs x old new k p =
    record {
      heads = p.heads ∙ ap (λ l. l ++ communication_head x ∷ []) k.heads ∙ heads_more xs x;
      shapes = p.shapes ∙ ap (λ l. l ++ all_shapes x.message.items) k.shapes ∙ shapes_more xs x;
      lengths = p.lengths ∙ ap (λ l. l ++ all_lengths x.message.items) k.lengths ∙ lengths_more xs x;
      words = p.words ∙ ap (λ l. l ++ all_words x.message.items) k.words ∙ words_more xs x;
    }

-- ---- those behind the first ones

drop_behind : {A : Type 0} (xs ys : List A) → drop (length xs) (xs ++ ys) ≡ ys
drop_behind [] ys = refl
drop_behind (x ∷ xs) ys = drop_behind xs ys

pub heads_count : (xs : List Communication) → length (map communication_head xs) ≡ length xs
heads_count [] = refl
heads_count (x ∷ xs) = ap (λ n. suc n) (heads_count xs)

heads_join : (xs ys : List Communication) → map communication_head (xs ++ ys) ≡ map communication_head xs ++ map communication_head ys
heads_join [] ys = refl
heads_join (x ∷ xs) ys = ap (λ l. communication_head x ∷ l) (heads_join xs ys)

shapes_join : (xs ys : List Communication) → shapes_in (xs ++ ys) ≡ shapes_in xs ++ shapes_in ys
shapes_join [] ys = refl
shapes_join (x ∷ xs) ys = ap (λ l. all_shapes x.message.items ++ l) (shapes_join xs ys) ∙ sym (append_assoc (all_shapes x.message.items) (shapes_in xs) (shapes_in ys))

lengths_join : (xs ys : List Communication) → lengths_in (xs ++ ys) ≡ lengths_in xs ++ lengths_in ys
lengths_join [] ys = refl
lengths_join (x ∷ xs) ys = ap (λ l. all_lengths x.message.items ++ l) (lengths_join xs ys) ∙ sym (append_assoc (all_lengths x.message.items) (lengths_in xs) (lengths_in ys))

words_join : (xs ys : List Communication) → words_in (xs ++ ys) ≡ words_in xs ++ words_in ys
words_join [] ys = refl
words_join (x ∷ xs) ys = ap (λ l. all_words x.message.items ++ l) (words_join xs ys) ∙ sym (append_assoc (all_words x.message.items) (words_in xs) (words_in ys))

pub behind_read : (l : Lists) (xs before after : List Communication) → AreListsOf xs l → xs ≡ before ++ after
    → communications_in (drop (length before) l.heads.items) (drop (length (shapes_in before)) l.shapes.items) (drop (length (lengths_in before)) l.lengths.items) (drop (length (words_in before)) l.words.items) ≡ after
behind_read l xs before after k is =
    let heads : drop (length before) l.heads.items ≡ map communication_head after =
    ap (drop (length before)) (k.heads ∙ ap (map communication_head) is ∙ heads_join before after)
    ∙ ap (λ n. drop n (map communication_head before ++ map communication_head after)) (sym (heads_count before))
    ∙ drop_behind (map communication_head before) (map communication_head after) in
    let shapes : drop (length (shapes_in before)) l.shapes.items ≡ shapes_in after =
    ap (drop (length (shapes_in before))) (k.shapes ∙ ap shapes_in is ∙ shapes_join before after) ∙ drop_behind (shapes_in before) (shapes_in after) in
    let lengths : drop (length (lengths_in before)) l.lengths.items ≡ lengths_in after =
    ap (drop (length (lengths_in before))) (k.lengths ∙ ap lengths_in is ∙ lengths_join before after) ∙ drop_behind (lengths_in before) (lengths_in after) in
    let words : drop (length (words_in before)) l.words.items ≡ words_in after =
    ap (drop (length (words_in before))) (k.words ∙ ap words_in is ∙ words_join before after) ∙ drop_behind (words_in before) (words_in after) in
    rw (heads, shapes, lengths, words) (all_read after)

pub on_ok : {A E : Type 0} {P Q : Type 0} (r : Result A E) → OnOk r P → (P → Q) → OnOk r Q
on_ok (Ok x) h f = f h
on_ok (Err e) h f = h

-- ---- the first ones

pub few_read : (k : ℕ) (hs : List Head) (ss : List Shape) (ns : List ℕ) (ws : List ℤ) → communications_in (take k hs) ss ns ws ≡ take k (communications_in hs ss ns ws)
few_read zero hs ss ns ws = refl
few_read (suc k) [] ss ns ws = refl
few_read (suc k) (h ∷ hs) ss ns ws = ap (λ l. made h (items_in ss ns ws) ∷ l) (few_read k hs (shapes_behind ss) (lengths_behind ss ns) (words_behind ss ns ws))

pub first_read : (n k : ℕ) (hs : List Head) (ss : List Shape) (ns : List ℕ) (ws : List ℤ) → k ≡ min n (length hs) → communications_in (take k hs) ss ns ws ≡ take n (communications_in hs ss ns ws)
first_read n k hs ss ns ws e = ap (λ l. communications_in l ss ns ws) (ap (λ m. take m hs) e ∙ take_min n hs) ∙ few_read n hs ss ns ws

-- ---- how much room is needed

pub shapes_count : (ps : List Part) → length (all_shapes ps) ≡ length ps + 1
shapes_count [] = refl
shapes_count (p ∷ ps) = omega (arith, shapes_count ps)

pub lengths_count : (ps : List Part) → length (all_lengths ps) ≤ length ps
lengths_count [] = omega arith
lengths_count (One t v ∷ ps) = omega (arith, lengths_count ps)
lengths_count (Many t vs ∷ ps) = omega (arith, lengths_count ps)
lengths_count (Counted t vs ∷ ps) = omega (arith, lengths_count ps)

pub count_read : (hs : List Head) (ss : List Shape) (ns : List ℕ) (ws : List ℤ) → length (communications_in hs ss ns ws) ≡ length hs
count_read [] ss ns ws = refl
count_read (h ∷ hs) ss ns ws = ap (λ n. suc n) (count_read hs (shapes_behind ss) (lengths_behind ss ns) (words_behind ss ns ws))
