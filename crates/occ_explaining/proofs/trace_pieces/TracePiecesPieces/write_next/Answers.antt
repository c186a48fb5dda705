use Rattle.std.proofs.Common.{◌≡◌, ◌+◌, ◌∷◌, [], rules}
use Rattle.occ_explaining.specs.Traced.{form_end, form_line}
use Rattle.occ_shown.specs.Answers.{entry_at}
use Rattle.occ_explaining.proofs.Traces.{end_left, line_left}
use Rattle.occ_explaining.proofs.trace_pieces.TracePiecesPieces.write_next.Goals as goal

pub returns-in_ok-write_one-in-Some-clause-more : goal.returns-in_ok-write_one-in-Some-clause-more
returns-in_ok-write_one-in-Some-clause-more c = λ _.
    let s = c.args.self.now in
    let there : s.entries ≡ c.in-Some.communication ∷ c.next.new.self = search rules in
    record {
      piece = form_line s.form (entry_at s.channels.now (s.number + 1) c.in-Some.communication);
      added = c.in_ok-write_one-in-Some.ensures;
      so = λ rest is. line_left s.form s.channels.now s.number s.ended s.entries c.in-Some.communication c.next.new.self s.ending rest c.if-self.false there is;
    }

pub returns-in_ok-write_end-in-None-clause-more : goal.returns-in_ok-write_end-in-None-clause-more
returns-in_ok-write_end-in-None-clause-more c = λ _.
    let s = c.args.self.now in
    let none : s.entries ≡ [] = search rules in
    record {
      piece = form_end s.form s.ending;
      added = c.in_ok-write_end-in-None.ensures;
      so = λ rest is. end_left s.form s.channels.now (s.number + 1) s.ended s.entries s.ending rest c.if-self.false none is;
    }
