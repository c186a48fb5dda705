-- Which communications are drawn, and the parts of a chart.
use Rattle.std.proofs.Common.{◌≡◌, ◌∙◌, ◌≤◌, ◌<◌, ◌*◌, true, false, ◌+◌, ◌-◌, ◌++◌, Bool, ℕ, zero, suc, List, [], ◌∷◌, drop, length, take, refl, sym, ap, subst, append_assoc, arith}
use Rattle.std.specs.Prelude.{nat_eq, if◌then◌else◌}
use Rattle.occ_term.specs.Runs.{Entry, Names, entries, entry_of}
use Rattle.occ_term.specs.declared.communication.Communication.{Communication}
use Rattle.occ_term.specs.declared.communication.End.{End}
use Rattle.occ_term.specs.declared.ending.Ending.{Ending}
use Rattle.occ_chart.specs.declared.part.Part.{Part}
use Rattle.occ_chart.specs.Charts.{IsChart, above, after_of, after_words, before_of, before_words, drawn_of, ending_words, foot, if_last, is_cut, picture_letters, picture, row_below, shown_of, arrow, arrows, break, rows_left, row_behind, rows_of}
use Rattle.occ_chart.specs.Columns.{AreColumns, Footing}
use Rattle.occ_chart.specs.Heads.{ColumnHead, heads_over}
use Rattle.occ_chart.specs.Places.{IsLayout, Layout, head_rows, if_close, reaches_of}
use Rattle.occ_chart.specs.LeftOut.{count_seen, is_between_others, seen_entries, seen_entry, seen_feet}
use Rattle.occ_chart.specs.Xml.{Element, element_text, elements_text}

pub entries_length : (names : Names) (n : ℕ) (xs : List Communication) → length (entries names n xs) ≡ length xs
entries_length names n [] = refl
entries_length names n (x ∷ xs) = ap (λ k. suc k) (entries_length names (n + 1) xs)

-- the code counts what is seen
pub count_is : (left : List Bool) (names : Names) (n : ℕ) (xs : List Communication) → count_seen left xs ≡ length (seen_entries left (entries names n xs))
count_is left names n [] = refl
count_is left names n (x ∷ xs) = by (is_between_others left x) (count_is left names (n + 1) xs)
  where
    by : (b : Bool) → count_seen left xs ≡ length (seen_entries left (entries names (n + 1) xs))
        → (if b then count_seen left xs else count_seen left xs + 1)
        ≡ length (if b then seen_entries left (entries names (n + 1) xs) else seen_entry left (entry_of names n x) ∷ seen_entries left (entries names (n + 1) xs))
    by true h = h
    by false h = let one : count_seen left xs + 1 ≡ suc (count_seen left xs) = omega arith in one ∙ ap (λ k. suc k) h

-- a loop's step: one more of those that are seen is listed
pub list_next : (left : List Bool) (names : Names) (i wanted before : ℕ) (list new : List Entry) (x : Communication) (iter xs : List Communication) (e : Entry) (w : List Entry)
    → iter ≡ x ∷ xs → is_between_others left x ≡ false → 0 < wanted → before ≡ 0 → e ≡ seen_entry left (entry_of names i x) → new ≡ list ++ e ∷ []
    → list ++ take wanted (drop before (seen_entries left (entries names i iter))) ≡ w
    → new ++ take (wanted - 1) (drop before (seen_entries left (entries names (i + 1) xs))) ≡ w
list_next left names i zero before list new x iter xs e w split plain some none is put h = absurd (omega (arith, some))
list_next left names i (suc k) before list new x iter xs e w split plain some none is put h =
    let rest : List Entry = seen_entries left (entries names (i + 1) xs) in
    let first : seen_entries left (entries names i iter) ≡ seen_entry left (entry_of names i x) ∷ rest =
    ap (λ ys. seen_entries left (entries names i ys)) split ∙ ap (λ b. if b then rest else seen_entry left (entry_of names i x) ∷ rest) plain in
    let less : suc k - 1 ≡ k = omega arith in
    ap (λ n. new ++ take n (drop before rest)) less
    ∙ ap (λ m. new ++ take k (drop m rest)) none
    ∙ ap (λ l. l ++ take k rest) put
    ∙ append_assoc list (e ∷ []) (take k rest)
    ∙ ap (λ y. list ++ y ∷ take k rest) is
    ∙ sym (ap (λ ys. list ++ take (suc k) ys) first)
    ∙ sym (ap (λ m. list ++ take (suc k) (drop m (seen_entries left (entries names i iter)))) none)
    ∙ h

four_more : (o a b c d x y z w : List ℕ) → x ≡ o ++ a → y ≡ x ++ b → z ≡ y ++ c → w ≡ z ++ d → w ≡ o ++ (((a ++ b) ++ c) ++ d)
four_more o a b c d x y z w e f g h =
    h ∙ ap (λ l. l ++ d) (g ∙ ap (λ l. l ++ c) (f ∙ ap (λ l. l ++ b) e ∙ append_assoc o a b) ∙ append_assoc o (a ++ b) c)
    ∙ append_assoc o ((a ++ b) ++ c) d

pub five_more : (o a b c d e x y z v w : List ℕ) → x ≡ o ++ a → y ≡ x ++ b → z ≡ y ++ c → v ≡ z ++ d → w ≡ v ++ e → w ≡ o ++ ((((a ++ b) ++ c) ++ d) ++ e)
five_more o a b c d e x y z v w f g h i j = j ∙ ap (λ l. l ++ e) (four_more o a b c d x y z v f g h i) ∙ append_assoc o (((a ++ b) ++ c) ++ d) e

-- the parts of the code are known by what they are
pub pictured : (l : Layout) (hs : List ColumnHead) (columns : List End) (es : List Entry) (ss : List Footing) (before before' after ending circle : List ℕ) (letters count : ℕ) (top bytes : List ℕ)
    → letters ≡ picture_letters l.places before after ending → before' ≡ before → count ≡ length es
    → top ≡ above l hs columns es letters before' → bytes ≡ top ++ foot l hs columns (row_below l.close count) count ss letters after ending circle
    → bytes ≡ picture l hs columns es ss before after ending circle
pictured l hs columns es ss before before' after ending circle letters count top bytes wide same many first second =
    second
    ∙ ap (λ t. t ++ foot l hs columns (row_below l.close count) count ss letters after ending circle) (first ∙ ap (above l hs columns es letters) same)
    ∙ ap (λ k. above l hs columns es letters before ++ foot l hs columns (row_below l.close k) k ss letters after ending circle) many
    ∙ ap (λ n. above l hs columns es n before ++ foot l hs columns (row_below l.close (length es)) (length es) ss n after ending circle) wide

pub charted : (all : List Entry) (left : List Bool) (part : Part) (ending : Ending) (names : List (List ℕ)) (standing ss ss' : List Footing) (circle : List ℕ) (shown shown' : List Entry) (columns columns' : List End) (hs hs' : List ColumnHead) (count drawn skipped among : ℕ) (before after noted bytes : List ℕ) (l : Layout)
    → count ≡ length (seen_entries left all) → drawn ≡ drawn_of part count → skipped ≡ if_last part (count - drawn)
    → shown ≡ take drawn (drop skipped (seen_entries left all)) → shown' ≡ shown → ss ≡ seen_feet left standing → ss' ≡ ss
    → AreColumns shown' ss' columns → columns' ≡ columns → hs ≡ heads_over names left ss' columns' → hs' ≡ hs → among ≡ length all - count
    → before ≡ before_words (before_of part count) (is_cut part count) → after ≡ after_words (after_of part count) (is_cut part count) → noted ≡ ending_words ending among
    → IsLayout (reaches_of columns' shown') hs' l → bytes ≡ picture l hs' columns' shown' ss' before after noted circle
    → IsChart all left part ending names standing circle bytes
charted all left part ending names standing ss ss' circle shown shown' columns columns' hs hs' count drawn skipped among before after noted bytes l counted many behind list own feet same are there over heads rest one two three laid whole =
    let es : List Entry = seen_entries left all in
    let over' : List ColumnHead = heads_over names left ss' columns' in
    let here : shown' ≡ shown_of part es =
    own ∙ list
    ∙ ap (λ k. take k (drop skipped es)) many
    ∙ ap (λ k. take (drawn_of part count) (drop k es)) (behind ∙ ap (λ d. if_last part (count - d)) many)
    ∙ ap (λ n. take (drawn_of part n) (drop (before_of part n) es)) counted in
    record {
      es = es;
      seen = refl;
      ss = ss';
      stand = same ∙ feet;
      columns = columns';
      are = subst (λ xs. AreColumns xs ss' columns') here (subst (λ cs. AreColumns shown' ss' cs) (sym there) are);
      l = l;
      laid = subst (λ h. IsLayout (reaches_of columns' (shown_of part es)) h l) (heads ∙ over) (subst (λ xs. IsLayout (reaches_of columns' xs) hs' l) here laid);
      is =
          whole
          ∙ ap (λ h. picture l h columns' shown' ss' before after noted circle) (heads ∙ over)
          ∙ ap (λ xs. picture l over' columns' xs ss' before after noted circle) here
          ∙ ap (λ b. picture l over' columns' (shown_of part es) ss' b after noted circle) (one ∙ ap (λ n. before_words (before_of part n) (is_cut part n)) counted)
          ∙ ap (λ a. picture l over' columns' (shown_of part es) ss' (before_words (before_of part (length es)) (is_cut part (length es))) a noted circle)
          (two ∙ ap (λ n. after_words (after_of part n) (is_cut part n)) counted)
          ∙ ap
          (λ e.
          picture l over' columns' (shown_of part es) ss' (before_words (before_of part (length es)) (is_cut part (length es)))
          (after_words (after_of part (length es)) (is_cut part (length es))) e circle)
          (three ∙ ap (ending_words ending) (rest ∙ ap (λ k. length all - k) counted));
    }

-- ---- texts of shapes behind one another

elements_append : (xs ys : List Element) → elements_text (xs ++ ys) ≡ elements_text xs ++ elements_text ys
elements_append [] ys = refl
elements_append (x ∷ xs) ys = ap (λ t. element_text x ++ t) (elements_append xs ys) ∙ sym (append_assoc (element_text x) (elements_text xs) (elements_text ys))

-- two that are put behind a text one after the other are put behind it
pub both_put : (o p q : List ℕ) (xs ys : List Element) → p ≡ o ++ elements_text xs → q ≡ p ++ elements_text ys → q ≡ o ++ elements_text (xs ++ ys)
both_put o p q xs ys e f = f ∙ ap (λ t. t ++ elements_text ys) e ∙ append_assoc o (elements_text xs) (elements_text ys) ∙ ap (λ t. o ++ t) (sym (elements_append xs ys))

-- a loop's step: what is put now, and what is left
pub put_next : (o p w : List ℕ) (xs ys : List Element) → p ≡ o ++ elements_text xs → o ++ elements_text (xs ++ ys) ≡ w → p ++ elements_text ys ≡ w
put_next o p w xs ys e f = ap (λ t. t ++ elements_text ys) e ∙ append_assoc o (elements_text xs) (elements_text ys) ∙ ap (λ t. o ++ t) (sym (elements_append xs ys)) ∙ f

pub arrows_next : (o p q w : List ℕ) (hs : List ColumnHead) (l : Layout) (columns : List End) (left i : ℕ) (e : Entry) (es : List Entry)
    → p ≡ o ++ elements_text (break hs l left i) → q ≡ p ++ elements_text (arrow l columns (row_behind l.close left i) e)
    → o ++ elements_text (arrows hs l columns left i (e ∷ es)) ≡ w
    → q ++ elements_text (arrows hs l columns (rows_left left) (row_behind l.close left i + 1) es) ≡ w
arrows_next o p q w hs l columns left i e es a b c =
    let rest = arrow l columns (row_behind l.close left i) e ++ arrows hs l columns (rows_left left) (row_behind l.close left i + 1) es in
    put_next p q w (arrow l columns (row_behind l.close left i) e) (arrows hs l columns (rows_left left) (row_behind l.close left i + 1) es) b (put_next o p w (break hs l left i) rest a c)

-- the same, where the list, the row and how many rows are left are known by what they are
pub arrows_step : (o p q w : List ℕ) (hs : List ColumnHead) (l : Layout) (columns : List End) (left i row more : ℕ) (e : Entry) (es rest : List Entry)
    → rest ≡ e ∷ es → row ≡ row_behind l.close left i → more ≡ rows_left left
    → p ≡ o ++ elements_text (break hs l left i) → q ≡ p ++ elements_text (arrow l columns row e)
    → o ++ elements_text (arrows hs l columns left i rest) ≡ w
    → q ++ elements_text (arrows hs l columns more (row + 1) es) ≡ w
arrows_step o p q w hs l columns left i row more e es rest split here behind a b c =
    subst (λ n. q ++ elements_text (arrows hs l columns n (row + 1) es) ≡ w) (sym behind)
    (subst (λ r. q ++ elements_text (arrows hs l columns (rows_left left) (r + 1) es) ≡ w) (sym here)
    (arrows_next o p q w hs l columns left i e es a (subst (λ r. q ≡ p ++ elements_text (arrow l columns r e)) here b)
    (subst (λ xs. o ++ elements_text (arrows hs l columns left i xs) ≡ w) split c)))

-- ---- rows are few

if_close_most : (close : Bool) (n : ℕ) → if_close close n ≤ n
if_close_most true n = omega arith
if_close_most false n = omega arith

pub row_most : (close : Bool) (left i : ℕ) → row_behind close left i ≤ i + 2
row_most close left i = by (nat_eq left 0)
  where
    by : (b : Bool) → (if b then i + head_rows close else i) ≤ i + 2
    by true = let few = if_close_most close 1 in omega (arith, few)
    by false = omega arith

pub row_near : (close : Bool) (left i row : ℕ) (e : Entry) (es rest : List Entry) → rest ≡ e ∷ es → row ≡ row_behind close left i → i + 3 * length rest ≤ 3000 → row + 1 + 3 * length es ≤ 3000
row_near close left i row e es rest split here near =
    let size : length rest ≡ suc (length es) = ap length split in
    let most = row_most close left i in
    omega (arith, size, most, here, near)

pub rows_step : (close : Bool) (left i count k : ℕ) → k < count → rows_of close left i (count - k) ≡ rows_of close (rows_left left) (row_behind close left i + 1) (count - (k + 1))
rows_step close left i count k within = let one : count - k ≡ suc (count - (k + 1)) = omega (arith, within) in ap (rows_of close left i) one
