use Rattle.occ_check_meaning.proofs.Numbering.{unfolding_numbered, program_numbered}
use Rattle.occ_check_meaning.proofs.well_formed.processes_in_order.Goals as goal

pub returns : goal.returns
returns c = record { part = λ sc depth n m p t u. unfolding_numbered u; whole = λ items t m u. program_numbered u }
