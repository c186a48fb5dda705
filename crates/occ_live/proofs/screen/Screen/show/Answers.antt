use Rattle.std.proofs.Common.{◌≡◌, ◌∙◌, sym, ap, subst, ℕ, List, ◌++◌, take, drop}
use Rattle.std.proofs.lemmas.List.{take-append-drop}
use Rattle.occ_shown.specs.Answers.{AreByteMessages, channel_bytes}
use Rattle.occ_live.proofs.Shown.{last_bytes}
use Rattle.occ_live.proofs.screen.Screen.show.Goals as goal

pub write_bytes-requires : goal.write_bytes-requires
write_bytes-requires g c =
    let m = c.requires.marked in
    let news : c.copy_behind.new.news ≡ m.behind = c.in_ok-copy_behind.ensures m.before m.behind m.are m.place in
    subst (AreByteMessages 1) (sym (c.entries.ensures ∙ news)) (last_bytes 1 m.before m.behind (subst (AreByteMessages 1) m.are c.requires.screen))

pub returns-in-Err-clause-part : goal.returns-in-Err-clause-part
returns-in-Err-clause-part g c = λ before behind are place.
    let news : c.copy_behind.new.news ≡ behind = c.in_ok-copy_behind.ensures before behind are place in
    let text : c.as_slice.result.now ≡ channel_bytes 1 behind =
    c.as_slice.ensures.value ∙ c.in_ok-write_bytes.ensures ∙ ap (λ (l : List ℕ). l ++ channel_bytes 1 c.entries.result) c.clear.ensures.items ∙ ap (channel_bytes 1) (c.entries.ensures ∙ news) in
    let n = c.in-Err._written in
    let s = c.as_slice.result.now in
    (take n s, drop n s, sym text ∙ sym (take-append-drop n s), c.in-Err.ensures.beginning)
