use Rattle.std.proofs.Common.{arith, length, ◌≤◌}
use Rattle.std.proofs.lemmas.List.{length-take-le}
use Rattle.occ_exploring.proofs.strings.write_string.Goals as goal

pub slice_bounds-write_quoted-end : goal.slice_bounds-write_quoted-end
slice_bounds-write_quoted-end c =
    let within : 60 ≤ length c.args.bytes.now = omega (arith, c.if-bytes-gt-MOST_LETTERS.true) in
    omega (arith, within, length-take-le 60 c.args.bytes.now within)
