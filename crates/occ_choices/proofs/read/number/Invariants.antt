use Rattle.std.proofs.Common.{◌≡◌, ◌<◌, ◌^◌, drop}
use Rattle.std.specs.Str.Parse.{digits_value, digits_value_after}
use Rattle.occ_choices.proofs.read.number.Given as goal

abbrev pub invariant-loop-digit : goal.invariant-loop-digit
invariant-loop-digit l = record {
  value : digits_value 10 l.digits ≡ digits_value_after 10 l.number (drop l.digit-index l.digits);
  small : l.number < 2 ^ 32;
}
