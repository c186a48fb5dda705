-- Tags by their names, and those that are listed.
use Rattle.std.proofs.Common.{◌≡◌, ◌∙◌, sym, ap, refl, arith, ℕ, suc, ◌+◌, ◌<◌, List, [], ◌∷◌, drop, get_or, length, Bool, true, false, cond, Option, Some, None, if◌then◌else◌}
use Rattle.std.specs.Prelude.{bytes_eq, nat_lt, not}
use Rattle.std.proofs.Math.Seq.{drop-cons}
use Rattle.std.proofs.lemmas.List.{drop_all}
use Rattle.std.proofs.lemmas.Slice.Eq.{bytes_eq-Decides}
use Rattle.indexmap.specs.IndexMap.{insert_entry}
use Rattle.occ_tree_grammar.specs.Many.{◌>>=◌}
use Rattle.occ_term.specs.declared.protocol.Protocol.{Protocol}
use Rattle.occ_term.specs.declared.protocol.Protocol.TheVariants.{Simple, CountedArray, Sequential, Variant}
use Rattle.occ_term.specs.declared.protocol.Tag.{Tag}
use Rattle.occ_check_meaning.specs.Actions.{has_number, new_tag}
use Rattle.occ_check_meaning.specs.Items.{tag_in, tag_number}
use Rattle.occ_check_meaning.specs.Scope.{Name, keep}
use Rattle.occ_check_lines.specs.Tags.{number_at, tags_of}

-- ---- a name more

same_bytes : (x y : Name) → bytes_eq x y ≡ true → x ≡ y
same_bytes x y h = (bytes_eq-Decides x y).0 h

itself : (x : Name) → bytes_eq x x ≡ true
itself x = (bytes_eq-Decides x x).1 refl

put_in : (x : Name) (es : List (Name × ℕ)) (k : Name) (n : ℕ)
    → number_at x (insert_entry bytes_eq es k n) ≡ cond (bytes_eq x k) (Some n) (number_at x es)
put_in x [] k n = refl
put_in x (e ∷ es) k n = by (bytes_eq k e.0) refl (put_in x es k n)
  where
    again : (b : Bool) (o : Option ℕ) → cond b (Some n) o ≡ cond b (Some n) (cond b (Some e.1) o)
    again true o = refl
    again false o = refl

    apart : (b c : Bool) (o : Option ℕ) → bytes_eq x e.0 ≡ b → bytes_eq x k ≡ c → bytes_eq k e.0 ≡ false → cond b (Some e.1) (cond c (Some n) o) ≡ cond c (Some n) (cond b (Some e.1) o)
    apart false c o is at other = refl
    apart true false o is at other = refl
    apart true true o is at other =
        let one : bytes_eq e.0 e.0 ≡ false = ap (λ y. bytes_eq y e.0) (sym (same_bytes x e.0 is) ∙ same_bytes x k at) ∙ other in
        absurd (differ (sym (itself e.0) ∙ one))
      where
        differ : true ≡ false → ⊥
        differ h = cc

    by : (b : Bool) → bytes_eq k e.0 ≡ b → number_at x (insert_entry bytes_eq es k n) ≡ cond (bytes_eq x k) (Some n) (number_at x es)
        → number_at x (if b then (e.0, n) ∷ es else e ∷ insert_entry bytes_eq es k n) ≡ cond (bytes_eq x k) (Some n) (number_at x (e ∷ es))
    by true same rest =
        again (bytes_eq x e.0) (number_at x es)
        ∙ ap (λ y. cond (bytes_eq x y) (Some n) (number_at x (e ∷ es))) (sym (same_bytes k e.0 same))
    by false other rest =
        ap (λ o. cond (bytes_eq x e.0) (Some e.1) o) rest
        ∙ apart (bytes_eq x e.0) (bytes_eq x k) (number_at x es) refl refl other

-- no tags, and the tags from the last one on
pub none_behind : (tags : List Tag) (es : List (Name × ℕ)) → es ≡ [] → (x : Name) → number_at x es ≡ tag_number (drop (length tags) tags) x (length tags)
unfolding tag_number
none_behind tags es none x = ap (number_at x) none ∙ sym (ap (λ ts. tag_number ts x (length tags)) (drop_all (length tags) tags (omega arith)))

pub one_before : (tags : List Tag) (i : ℕ) (d : Tag) (es now : List (Name × ℕ)) (k : Name) → i < length tags → k ≡ (get_or tags i d).name
    → now ≡ insert_entry bytes_eq es k i → ((x : Name) → number_at x es ≡ tag_number (drop (i + 1) tags) x (i + 1))
    → (x : Name) → number_at x now ≡ tag_number (drop i tags) x i
unfolding tag_number
one_before tags i d es now k below name is later x =
    let next : suc i ≡ i + 1 = omega arith in
    ap (number_at x) is ∙ put_in x es k i
    ∙ (λ j. cond (bytes_eq x (name j)) (Some i) (later x j))
    ∙ ap (λ m. tag_number (get_or tags i d ∷ drop m tags) x i) (sym next)
    ∙ ap (λ ts. tag_number ts x i) (sym (drop-cons tags i d below))

-- ---- the number of a tag that was not listed before

numbered : (p : Protocol) (x : Name) → tag_in p x ≡ (tag_number (tags_of p) x 0 >>= λ k. keep (nat_lt k 4294967296) k)
unfolding tag_number
numbered (Variant tags) x = refl
numbered (Simple sizes type) x = refl
numbered (CountedArray count type) x = refl
numbered (Sequential ps) x = refl

module _ (p : Protocol) (x : Name) (before : List ℕ) where
  found : (o : Option ℕ) → o ≡ tag_number (tags_of p) x 0 → new_tag p x before ≡ ((o >>= λ k. keep (nat_lt k 4294967296) k) >>= λ k. keep (not (has_number k before)) k)
  found o is = ap (λ t. t >>= λ k. keep (not (has_number k before)) k) (numbered p x ∙ ap (λ q. q >>= λ k. keep (nat_lt k 4294967296) k) (sym is))

  module _ (n : ℕ) (o : Option ℕ) (some : o ≡ Some n) (is : o ≡ tag_number (tags_of p) x 0) where
    named_so : new_tag p x before ≡ (keep (nat_lt n 4294967296) n >>= λ k. keep (not (has_number k before)) k)
    named_so = found o is ∙ ap (λ q. (q >>= λ k. keep (nat_lt k 4294967296) k) >>= λ k. keep (not (has_number k before)) k) some

    pub not_small : keep (nat_lt n 4294967296) n ≡ None → new_tag p x before ≡ None
    not_small none = named_so ∙ ap (λ q. q >>= λ k. keep (not (has_number k before)) k) none

    module _ (k : ℕ) (word : keep (nat_lt n 4294967296) n ≡ Some k) where
      pub listed_before : has_number k before ≡ true → new_tag p x before ≡ None
      listed_before has = named_so ∙ ap (λ q. q >>= λ k. keep (not (has_number k before)) k) word ∙ ap (λ b. keep (not b) k) has

      pub listed_now : has_number k before ≡ false → new_tag p x before ≡ Some k
      listed_now lacks = named_so ∙ ap (λ q. q >>= λ k. keep (not (has_number k before)) k) word ∙ ap (λ b. keep (not b) k) lacks
