use Rattle.std.proofs.Common.{◌≡◌, List, Option, Some, ℕ, subst}
use Rattle.std.specs.Prelude.{Err, IfOk, Ok, Result}
use Rattle.occ_explore.specs.declared.exploration.Answer.{Answer}
use Rattle.occ_explore.specs.declared.exploration.Asked.{Asked}
use Rattle.occ_play_inputs.specs.declared.failure.Failure.{Failure}
use Rattle.occ_play_inputs.specs.declared.words.Words.{Words}
use Rattle.occ_exploring.specs.Alone.{only_status}
use Rattle.occ_program.specs.Coming.{IsSearchStatus, OnlyTo, by_one_run, by_refusal}
use Rattle.occ_program.proofs.exploring.explore_inputs.Goals as goal

-- the status of the one answer that was found
only_came : (words : Words) (asked : Asked) (source keyboard : List ℕ) (found : Option Answer) (a : Answer) (told : Result ℕ Failure)
    → OnlyTo words source keyboard (Ok found) → found ≡ Some a → IfOk told (λ s. s ≡ only_status a) → IfOk told (IsSearchStatus words asked)
only_came words asked source keyboard found a (Ok s) only is status = by_one_run source keyboard a (subst (λ o. OnlyTo words source keyboard (Ok o)) is only) status
only_came words asked source keyboard found a (Err f) only is status = tt

pub returns-in-Ok-Some-clause-came : goal.returns-in-Ok-Some-clause-came
returns-in-Ok-Some-clause-came g c =
    only_came c.args.words.now c.args.asked c.args.inputs.now.source.items c.args.inputs.now.keyboard.items c.in-Ok-Some.field-0 c.in-Ok-Some.answer c.only_told.result
    c.in-Ok-Some.ensures c.in-Ok-Some.field-0-is c.only_told.ensures

pub returns-in-Err-clause-came : goal.returns-in-Err-clause-came
returns-in-Err-clause-came g c = by_refusal c.args.inputs.now.source.items c.in-Err.fault c.in-Err.ensures c.refused.ensures
