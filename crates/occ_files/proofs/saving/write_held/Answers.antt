use Rattle.std.proofs.Common.{◌∙◌, ◌++◌, [], ap, append-nil, refl, subst, sym}
use Rattle.std.specs.Io.KnownBytes.{Appends}
use Rattle.std.proofs.KnownBytes.{Appends-nil}
use Rattle.occ_files.proofs.saving.write_held.Goals as goal

pub returns-then-len-lt-HELD : goal.returns-then-len-lt-HELD
returns-then-len-lt-HELD g c = record { done = []; written = Appends-nil _; is = refl }

pub returns : goal.returns
returns g c =
    let held = c.args.held.now.items in
    record {
      done = held;
      written = subst (Appends (g.W.Write.contents c.args.out.now) (g.W.Write.contents c.write_all.new.self)) c.as_slice.ensures.value c.in_ok-write_all.ensures.bytes;
      is = sym (append-nil held) ∙ ap (λ l. held ++ l) (sym c.clear.ensures.items);
    }
