use Rattle.std.proofs.Common.{◌≡◌, ◌∙◌, map, subst, sym}
use Rattle.std.specs.Prelude.{Bool, IfOk}
use Rattle.occ_check_lines.specs.Spans.{span_of}
use Rattle.occ_check_lines.specs.Clash.{stretches_of}
use Rattle.occ_check_lines.proofs.Clashes.{by_names, by_parts}
use Rattle.occ_check_lines.proofs.clash.some_places_clash.Goals as goal

pub returns-then-some_meet : goal.returns-then-some_meet
returns-then-some_meet c = by_parts (stretches_of c.args.places.now) (map span_of c.in_ok-parts.parts.items) c.in_ok-parts.ensures (sym c.some_meet.ensures ∙ c.if-some_meet.true)

pub returns : goal.returns
returns c =
    subst (λ (b : Bool). IfOk c.some_names_another.result (λ clash. clash ≡ b))
    (by_names (stretches_of c.args.places.now) (map span_of c.in_ok-parts.parts.items) c.in_ok-parts.ensures (sym c.some_meet.ensures ∙ c.if-some_meet.false)) c.some_names_another.ensures
