-- Who is deaf to the keyboard, computed.
use Rattle.std.proofs.Common.{refl}
use mathlib.Core.Bool.{true≢false}
use Rattle.occ_live_laws.specs.Examples.{DeafRows, HearingRows}

pub deaf_rows : DeafRows
deaf_rows = (λ pick offers. tt, λ pick offers. tt, λ pick offers. refl, λ pick. refl, refl, refl, refl)

pub hearing_rows : HearingRows
hearing_rows = (λ pick offers e. true≢false e, λ pick e. absurd cc, λ pick e. absurd cc, λ pick e. absurd cc, λ e. absurd cc, λ e. absurd cc, λ e. absurd cc)
