use Rattle.std.specs.Prelude.{reverse}
use Rattle.std.proofs.Common.{◌≡◌, ◌∙◌, [], map, ap, subst, sym}
use Rattle.std.specs.Arc.{arc_value}
use Rattle.occ_term.specs.Processes.{processes_of}
use Rattle.occ_term.specs.View.{term_of}
use Rattle.occ_code.specs.CodeOf.{AddsBodies, AreBodiesOf}
use Rattle.occ_code.proofs.CompilingTerms.{added_bodies, adds_then, map-reverse}
use Rattle.occ_code.proofs.processes.bodies_of.Goals as goal

pub returns : goal.returns
returns c = λ within.
    let none : map arc_value c.new-bodies.result.items ≡ [] = ap (map arc_value) c.new-bodies.ensures.items in
    let all : AddsBodies c.args.quantum [] (processes_of (term_of c.args.term.now)) (map arc_value c.add_body.new.bodies.items) =
    subst (λ l. AddsBodies c.args.quantum l (processes_of (term_of c.args.term.now)) (map arc_value c.add_body.new.bodies.items)) none (adds_then c.in_ok-add_branches.ensures (c.in_ok-add_body.ensures 0)) in
    let turned : reverse (map arc_value c.add_body.new.bodies.items) ≡ map arc_value c.reverse.new.self.items = sym (ap (map arc_value) c.reverse.ensures.items ∙ map-reverse arc_value c.add_body.new.bodies.items) in
    subst (λ l. AreBodiesOf (processes_of (term_of c.args.term.now)) c.args.quantum l) turned (added_bodies all within)
