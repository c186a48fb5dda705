use Rattle.std.proofs.Common.{◌∙◌, ap, min}
use Rattle.occ_explaining.specs.Shown.{name_lines}
use Rattle.occ_explaining.proofs.paged.names_of.Goals as goal

pub returns : goal.returns
returns c = λ options source h.
    let studied = c.args.studied.now in
    record {
      program = studied.code;
      known = studied.places;
      unfolded = h.unfolded;
      are = h.known;
      is = c.in_ok-bytes.ensures ∙ ap (name_lines studied.places) (c.min-count.ensures ∙ ap (λ n. min n 4294967295) c.len.ensures);
    }
