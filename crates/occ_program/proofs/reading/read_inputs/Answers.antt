use Rattle.occ_program.proofs.Terminals.{typed_or}
use Rattle.occ_program.proofs.Told.{ok_map}
use Rattle.occ_program.proofs.reading.read_inputs.Goals as goal

pub returns-clause-typed : goal.returns-clause-typed
returns-clause-typed g c = ok_map c.read_beside.result (λ inputs. λ h. typed_or c.args.words.now.file c.is_wanted-wanted.result inputs.keyboard.items h) c.read_beside.ensures.typed
