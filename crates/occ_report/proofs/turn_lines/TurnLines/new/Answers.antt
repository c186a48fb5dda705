use Rattle.std.proofs.Common.{[], ◌<◌, ◌^◌, arith, length, refl, rules}
use Rattle.occ_report.proofs.Turns.{starts}
use Rattle.occ_report.proofs.turn_lines.TurnLines.new.Goals as goal

pub returns : goal.returns
returns c =
    let first = starts c.args.places.now c.args.code.now c.args.keyboard.now c.args.choices.now c.in_ok-tables.tables [] c.in_ok-tables.ensures refl in
    let small : length c.args.choices.now < 2 ^ 64 = search rules in
    record {
      can = record { list = c.args.choices.now; text = []; taken = first; few = omega (arith, small) };
      all = λ text h. h c.args.choices.now [] first;
    }
