-- Pieces of a text, one behind the other.
use Rattle.std.proofs.Common.{◌≡◌, ◌∙◌, ℕ, List, [], ◌++◌, Option, ap, append_assoc, append-nil, subst, sym}
use Rattle.std.specs.Io.KnownBytes.{Appends}
use Rattle.std.proofs.KnownBytes.{Appends-nil, Appends-trans}
use Rattle.std.specs.Prelude.{Err, None, Ok, OnOk, Result}
use Rattle.occ_files.specs.Leaving.{LeavesText}
use Rattle.occ_files.specs.Pieces.{AddsNext, AppendsText, IsSomeText, IsWriting, WritesSome}

-- what is done, what is held, one piece more and the rest
four : (done held piece rest : List ℕ) → (done ++ held) ++ (piece ++ rest) ≡ (done ++ (held ++ piece)) ++ rest
four done held piece rest = sym (append_assoc (done ++ held) piece rest) ∙ ap (λ l. l ++ rest) (append_assoc done held piece)

module _ {S : Type 0} (is_left : S → List ℕ → Type 0) where
  pub nothing_written : (bytes : Option (List ℕ)) (s : S) (held : List ℕ) → held ≡ [] → IsWriting is_left bytes bytes s s held
  nothing_written bytes s held none =
      record { done = []; written = Appends-nil bytes; so = λ rest h. subst (λ l. is_left s (l ++ rest)) (sym none) h }

  pub one_held : (first now : Option (List ℕ)) (old middle new : S) (held more : List ℕ)
      → IsWriting is_left first now old middle held → AddsNext is_left middle new held more → IsWriting is_left first now old new more
  one_held first now old middle new held more h p =
      record {
        done = h.done;
        written = h.written;
        so = λ rest k.
            subst (λ l. is_left old ((h.done ++ l) ++ rest)) (sym p.added)
            (subst (is_left old) (four h.done held p.piece rest) (h.so (p.piece ++ rest) (p.so rest k)));
      }

  pub some_written : (first now next : Option (List ℕ)) (old new : S) (held left : List ℕ)
      → IsWriting is_left first now old new held → WritesSome now next held left → IsWriting is_left first next old new left
  some_written first now next old new held left h w =
      record {
        done = h.done ++ w.done;
        written = Appends-trans first now next h.done w.done h.written w.written;
        so = λ rest k.
            subst (λ l. is_left old (l ++ rest)) (ap (λ l. h.done ++ l) w.is ∙ sym (append_assoc h.done w.done left)) (h.so rest k);
      }

  pub all_written : {W : Type 0} (contents : W → Option (List ℕ)) (first now next : W) (old new : S) (held : List ℕ)
      → IsWriting is_left (contents first) (contents now) old new held → is_left new [] → Appends (contents now) (contents next) held → AppendsText contents is_left first next old
  all_written contents first now next old new held h end w =
      record {
        text = h.done ++ held;
        is = subst (is_left old) (append-nil (h.done ++ held)) (h.so [] end);
        appended = Appends-trans (contents first) (contents now) (contents next) h.done held h.written w;
      }

  -- ---- of a text that is held as a whole

  pub one_more : (old middle new : S) (before after : List ℕ) → ((rest : List ℕ) → is_left middle rest → is_left old (before ++ rest))
      → AddsNext is_left middle new before after → (rest : List ℕ) → is_left new rest → is_left old (after ++ rest)
  one_more old middle new before after h p rest k =
      subst (λ l. is_left old (l ++ rest)) (sym p.added)
      (subst (is_left old) (sym (append_assoc before p.piece rest)) (h (p.piece ++ rest) (p.so rest k)))

  pub no_more : (old new : S) (text : List ℕ) → ((rest : List ℕ) → is_left new rest → is_left old (text ++ rest)) → is_left new [] → is_left old text
  no_more old new text h end = subst (is_left old) (append-nil text) (h [] end)

pub where_done : {X E P Q : Type 0} (r : Result X E) → (P → Q) → OnOk r P → OnOk r Q
where_done (Ok x) so h = so h
where_done (Err e) so h = tt

-- where nobody can tell what was written, that there is a text is all
pub on_disk : {X E : Type 0} (r : Result X E) (Is : List ℕ → Type 0) (path : List ℕ) → OnOk r (IsSomeText Is) → OnOk r (LeavesText Is None None path)
on_disk (Ok x) Is path h = record { text = h.0; is = h.1; left = tt }
on_disk (Err e) Is path h = tt
