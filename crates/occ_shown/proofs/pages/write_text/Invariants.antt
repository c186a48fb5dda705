use Rattle.std.proofs.Common.{◌≡◌, ◌++◌, take}
use Rattle.occ_shown.specs.Pages.{shielded}
use Rattle.occ_shown.proofs.pages.write_text.Given as goal

abbrev pub invariant-loop-i : goal.invariant-loop-i
invariant-loop-i l = l.out.items ≡ l.fn.out.items ++ shielded (take l.i l.text)
