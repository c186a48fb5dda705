-- Files that are told of a run.
use Rattle.std.proofs.Common.{◌≡◌, List, subst, sym, ℕ}
use Rattle.std.specs.Borrow.{Bor}
use Rattle.std.specs.Prelude.{Err, None, Ok, OnErr, OnOk, Option, Result, Some, ⊤}
use Rattle.occ_explaining.specs.Studied.{AreStepsBy, IsStudied, IsTraceBy}
use Rattle.occ_explaining.specs.declared.studied.Studied.{Studied}
use Rattle.occ_explaining.specs.declared.tracing.Form.{Form}
use Rattle.occ_files.specs.Leaving.{LeavesNothing, LeavesOne, LeavesText, Written}
use Rattle.occ_net_replay.specs.declared.choice.Choice.{Choice}
use Rattle.occ_play_inputs.specs.declared.failure.Failure.{Failure}
use Rattle.occ_play_inputs.specs.declared.inputs.Inputs.{Inputs}
use Rattle.occ_play_inputs.specs.declared.words.Words.{Words}
use Rattle.occ_play.specs.declared.playing.Played.{Played}
use Rattle.occ_program.specs.Coming.{options_in}
use Rattle.occ_program.specs.Pages.{IsToldAt, StepsRun, TracesRun, form_in}
use Rattle.occ_program.proofs.Recorded.{untouched}

module _ {F : Type 0} (left : F → Option (List Written)) where
  -- a text that was written at the path that is named
  pub text_told : (Is Tells : List ℕ → Type 0) (old new : F) (named : Option (Bor (List ℕ))) (path : Bor (List ℕ)) → named ≡ Some path → ((text : List ℕ) → Is text → Tells text)
      → LeavesText Is (left old) (left new) path.now → IsToldAt left old new Tells named (Ok tt)
  text_told Is Tells old new named path is so h =
      subst (λ o. IsToldAt left old new Tells o (Ok tt)) (sym is) (record { text = h.text; is = so h.text h.is; left = h.left })

  -- one that is known
  pub known_told : (Is : List ℕ → Type 0) (old new : F) (named : Option (Bor (List ℕ))) (path : Bor (List ℕ)) (text held : List ℕ) (r : Result ⊤ Failure) → named ≡ Some path → Is text → held ≡ text
      → OnOk r (LeavesOne (left old) (left new) path.now held) → OnErr r (LeavesNothing (left old) (left new)) → IsToldAt left old new Is named r
  known_told Is old new named path text held r is told same ok err = subst (λ o. IsToldAt left old new Is o r) (sym is) (by r ok err)
    where
      by : (r : Result ⊤ Failure) → OnOk r (LeavesOne (left old) (left new) path.now held) → OnErr r (LeavesNothing (left old) (left new)) → IsToldAt left old new Is (Some path) r
      by (Ok done) h g = record { text = text; is = told; left = subst (LeavesOne (left old) (left new) path.now) same h }
      by (Err f) h g = g

  pub none_told : (Is : List ℕ → Type 0) (old : F) (named : Option (Bor (List ℕ))) → named ≡ None → IsToldAt left old old Is named (Ok tt)
  none_told Is old named is = subst (λ o. IsToldAt left old old Is o (Ok tt)) (sym is) (untouched (left old))

-- ---- by what is known of the source

pub trace_of_run : (words : Words) (inputs : Inputs) (played : Played) (s : Studied) (keyboard : List ℕ) (list : List Choice) (form : Form) (text : List ℕ) → keyboard ≡ inputs.keyboard.items → list ≡ played.choices.items → form ≡ form_in words.json
    → IsStudied (options_in words) inputs.source.items s → IsTraceBy s keyboard list form text → TracesRun words inputs played text
trace_of_run words inputs played s keyboard list form text a b d h f =
    let is = f (options_in words) inputs.source.items h in
    rw (a, b, d) at is

pub turns_of_run : (words : Words) (inputs : Inputs) (played : Played) (s : Studied) (keyboard : List ℕ) (list : List Choice) (text : List ℕ) → keyboard ≡ inputs.keyboard.items → list ≡ played.choices.items
    → IsStudied (options_in words) inputs.source.items s → AreStepsBy s keyboard list text → StepsRun words inputs played text
turns_of_run words inputs played s keyboard list text a b h f =
    let are = f (options_in words) inputs.source.items h in
    rw (a, b) at are
