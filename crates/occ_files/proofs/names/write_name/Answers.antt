use Rattle.std.proofs.Common.{◌≡◌, ◌∙◌, ◌<◌, ◌+◌, ◌++◌, ℕ, List, ap, append_assoc, drop, get_or, length, sym}
use Rattle.std.proofs.lemmas.List.{drop_more}
use Rattle.occ_files.specs.Names.{byte_text, first_byte, printed_behind}
use Rattle.occ_files.proofs.names.write_name.Goals as goal

-- one byte more is written, and what is left stands behind it
next_byte : (xs : List ℕ) (i before : ℕ) → i < length xs → (whole done after : List ℕ) → done ++ printed_behind before (drop i xs) ≡ whole
    → after ≡ done ++ byte_text before (get_or xs i 0) (first_byte (drop (i + 1) xs)) → after ++ printed_behind (get_or xs i 0) (drop (i + 1) xs) ≡ whole
next_byte xs i before within whole done after told grown =
    let b = get_or xs i 0 in
    let rest = drop (i + 1) xs in
    ap (λ l. l ++ printed_behind b rest) grown
    ∙ append_assoc done (byte_text before b (first_byte rest)) (printed_behind b rest)
    ∙ ap (λ l. done ++ l) (sym (ap (printed_behind before) (drop_more xs i 0 within)))
    ∙ told

pub loop-i-preserved : goal.loop-i-preserved
loop-i-preserved c =
    next_byte c.args.name.now c.loop-i.i c.loop-i.before c.loop-i-test.true _ c.loop-i.out.items _ c.loop-i.invariant (c.in_ok-write_byte.ensures ∙ ap (λ a. c.loop-i.out.items ++ byte_text c.loop-i.before (get_or c.args.name.now c.loop-i.i 0) a) c.byte_at.ensures)
