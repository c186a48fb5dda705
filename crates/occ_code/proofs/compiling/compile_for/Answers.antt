use Rattle.std.proofs.Common.{◌<◌, map, ap, subst, sym, arith, ◌∙◌}
use Rattle.std.specs.Arc.{arc_value}
use Rattle.occ_term.specs.Processes.{processes_of}
use Rattle.occ_term.specs.declared.fault.Errors.TheVariants.{Halt}
use Rattle.occ_term.specs.UnfoldedProgram.{IsWellFormed, meaning}
use Rattle.occ_term.specs.View.{term_of}
use Rattle.occ_code.specs.CodeOf.{AreBodiesOf, IsCodeOf, IsRefused}
use Rattle.occ_code.specs.Within.{AllWithin}
use Rattle.occ_code.proofs.CompilingTerms.{all_within, compiled_as, refused_as}
use Rattle.occ_code.proofs.compiling.compile_for.Goals as goal

pub new-requires : goal.new-requires
new-requires c =
    let well = subst (λ u. IsWellFormed u) c.unfolded-unfolded.ensures c.well_formed-2.ensures in
    let same = c.term.ensures ∙ ap (λ u. u.term) c.unfolded-unfolded.ensures in
    let some : 0 < c.args.quantum = omega (arith, c.if-quantum-eq0.false) in
    let are : AreBodiesOf (processes_of (meaning c.args.checked.now)) c.args.quantum (map arc_value c.in-Ok.bodies.items) =
    subst (λ t. AllWithin (processes_of (term_of t)) → AreBodiesOf (processes_of (term_of t)) c.args.quantum (map arc_value c.in-Ok.bodies.items)) same c.in-Ok.ensures.bodies (all_within c.args.checked.now well) in
    record {
      source = c.args.checked.now;
      well_formed = well;
      lawful = c.lawful.ensures;
      quantum = c.args.quantum;
      compiled = compiled_as c.args.checked.now c.args.quantum (map arc_value c.in-Ok.bodies.items) c.in_ok-channels.channels.items Halt well
          (some, c.if-quantum-gt-MOST_QUANTUM.false) are c.in-Ok.ensures.small
          (c.in_ok-channels.ensures ∙ c.channels.ensures ∙ ap (λ u. u.channels) c.unfolded-unfolded.ensures);
    }

pub returns-clause-compiled : goal.returns-clause-compiled
returns-clause-compiled c =
    let well = subst (λ u. IsWellFormed u) c.unfolded-unfolded.ensures c.well_formed-2.ensures in
    let same = c.term.ensures ∙ ap (λ u. u.term) c.unfolded-unfolded.ensures in
    let some : 0 < c.args.quantum = omega (arith, c.if-quantum-eq0.false) in
    let are : AreBodiesOf (processes_of (meaning c.args.checked.now)) c.args.quantum (map arc_value c.in-Ok.bodies.items) =
    subst (λ t. AllWithin (processes_of (term_of t)) → AreBodiesOf (processes_of (term_of t)) c.args.quantum (map arc_value c.in-Ok.bodies.items)) same c.in-Ok.ensures.bodies (all_within c.args.checked.now well) in
    let does = compiled_as c.args.checked.now c.args.quantum (map arc_value c.in-Ok.bodies.items) c.in_ok-channels.channels.items Halt well
    (some, c.if-quantum-gt-MOST_QUANTUM.false) are c.in-Ok.ensures.small
    (c.in_ok-channels.ensures ∙ c.channels.ensures ∙ ap (λ u. u.channels) c.unfolded-unfolded.ensures) in
    subst (λ p. IsCodeOf c.args.checked.now c.args.quantum p) (sym c.new.ensures) (record { does = does; emitted = are })

pub returns-in-Err-clause-refused : goal.returns-in-Err-clause-refused
returns-in-Err-clause-refused c =
    let same = ap term_of (c.term.ensures ∙ ap (λ u. u.term) c.unfolded-unfolded.ensures) in
    let all = all_within c.args.checked.now (subst (λ u. IsWellFormed u) c.unfolded-unfolded.ensures c.well_formed-2.ensures) in
    let some : 0 < c.args.quantum = omega (arith, c.if-quantum-eq0.false) in
    refused_as c.args.checked.now c.args.quantum c.in-Err.fault (some, c.if-quantum-gt-MOST_QUANTUM.false) (subst (λ t. AllWithin (processes_of t) → IsRefused c.in-Err.fault t) same c.in-Err.ensures.refused all)
