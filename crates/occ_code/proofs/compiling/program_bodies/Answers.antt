use Rattle.std.proofs.Common.{◌∙◌, map, ap}
use Rattle.std.specs.Prelude.{min}
use Rattle.std.specs.Arc.{arc_value}
use Rattle.occ_term.specs.View.{term_of}
use Rattle.occ_machine.specs.Compiled.{instructions_in}
use Rattle.occ_code.proofs.CompilingTerms.{past_limit, too_many, within_limit}
use Rattle.occ_code.proofs.compiling.program_bodies.Goals as goal

pub returns-then-instructions_in-gt-MOST_INSTRUCTIONS-clause-refused : goal.returns-then-instructions_in-gt-MOST_INSTRUCTIONS-clause-refused
returns-then-instructions_in-gt-MOST_INSTRUCTIONS-clause-refused c = λ within.
    let counted = c.instructions_in.ensures ∙ ap (λ l. min (instructions_in (map arc_value l)) 18446744073709551615) c.deref.ensures.value in
    too_many (term_of c.args.term.now) c.args.quantum (map arc_value c.in_ok-bodies.bodies.items) (c.in_ok-bodies.ensures within) (past_limit _ _ counted c.if-instructions_in-gt-MOST_INSTRUCTIONS.true)

pub returns-clause-small : goal.returns-clause-small
returns-clause-small c =
    let counted = c.instructions_in.ensures ∙ ap (λ l. min (instructions_in (map arc_value l)) 18446744073709551615) c.deref.ensures.value in
    within_limit _ _ counted c.if-instructions_in-gt-MOST_INSTRUCTIONS.false
