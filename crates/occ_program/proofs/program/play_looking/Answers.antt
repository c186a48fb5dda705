use Rattle.std.proofs.Common.{◌≡◌, Bool, Global, List, Result, Ok, Err, subst, ℕ}
use Rattle.occ_play.specs.declared.fault.PlayFault.{PlayFault}
use Rattle.occ_play.specs.declared.playing.Options.{Options}
use Rattle.occ_play.specs.declared.playing.Played.{Played}
use Rattle.occ_program.specs.Watched.{CameByCrew, SeenByCrew}
use Rattle.occ_program.proofs.Watched.{came_answer, came_fault}
use Rattle.occ_program.proofs.program.play_looking.Goals as goal

-- of the words' options and of the inputs' bytes
of_words : (workers : ℕ) (p q : Options) (source texts keyboard keys : List ℕ) (limit : ℕ) (trace : Bool) (r : Result Played PlayFault) → p ≡ q → source ≡ texts → keyboard ≡ keys
    → CameByCrew workers p source keyboard limit trace r → CameByCrew workers q texts keys limit trace r
of_words workers p q source texts keyboard keys limit trace r options same typed came =
    subst (λ o. CameByCrew workers o texts keys limit trace r) options (subst (λ k. CameByCrew workers p texts k limit trace r) typed (subst (λ s. CameByCrew workers p s keyboard limit trace r) same came))

pub returns-in-Ok : goal.returns-in-Ok
returns-in-Ok g c =
    let w = c.args.words.now in
    let seen = subst (λ r. SeenByCrew {A = Global} c.args.workers c.options_of.result c.as_slice.result.now c.as_slice-2.result.now w.limit w.trace r) c.in-Ok.is c.in_ok-seen.ensures in
    of_words c.args.workers _ _ _ _ _ _ w.limit w.trace (Ok c.in-Ok.played) c.options_of.ensures c.as_slice.ensures.value c.as_slice-2.ensures.value
    (came_answer c.args.workers c.options_of.result c.as_slice.result.now c.as_slice-2.result.now w.limit w.trace c.in-Ok.played c.in-Ok.lines seen)

pub returns-in-Err : goal.returns-in-Err
returns-in-Err g c =
    let w = c.args.words.now in
    let seen = subst (λ r. SeenByCrew {A = Global} c.args.workers c.options_of.result c.as_slice.result.now c.as_slice-2.result.now w.limit w.trace r) c.in-Err.is c.in_ok-seen.ensures in
    of_words c.args.workers _ _ _ _ _ _ w.limit w.trace (Err c.in-Err.fault) c.options_of.ensures c.as_slice.ensures.value c.as_slice-2.ensures.value
    (came_fault c.args.workers c.options_of.result c.as_slice.result.now c.as_slice-2.result.now w.limit w.trace Global c.in-Err.fault seen)
