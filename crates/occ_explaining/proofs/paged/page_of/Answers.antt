use Rattle.occ_explaining.proofs.paged.page_of.Goals as goal

pub returns : goal.returns
returns c = λ options h.
    let is = c.in_ok-bytes.ensures.0 in
    record {
      names = c.in_ok-names.names.items;
      named = c.in_ok-names.ensures options c.args.source.now h;
      is = rw c.as_slice.ensures.value at is;
    }
