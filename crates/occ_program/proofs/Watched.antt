-- What playing a source came to, from the clauses of a play.
use Rattle.std.proofs.Common.{◌≡◌, ◌∙◌, ◌++◌, ℕ, List, [], Bool, true, refl, ap, subst}
use Rattle.std.specs.Prelude.{Result, Ok, Err, IfOk, IfErr, IfSome, Option, None, Vec}
use Rattle.occ_board.specs.declared.shown.Edition.{Edition}
use Rattle.occ_board.specs.Editions.{edition}
use Rattle.occ_board.specs.Traces.{Publishing}
use Rattle.occ_shown.specs.Answers.{names_of, trace_text}
use Rattle.occ_term.specs.Runs.{Entry, shown}
use Rattle.occ_shown.specs.declared.counted.Counted.{Counted}
use Rattle.occ_play.specs.declared.playing.Played.{Played}
use Rattle.occ_play.specs.declared.playing.Options.{Options}
use Rattle.occ_play.specs.declared.fault.PlayFault.{PlayFault}
use Rattle.occ_play.specs.declared.fault.PlayFault.TheVariants as play
use Rattle.occ_play.specs.Playing.{AfterFault, Wrote}
use Rattle.occ_play.specs.Watching.{IsWatched}
use Rattle.occ_play.specs.Working.{FailsBy, IsAnswerWithin, IsSomeAnswerWithin, IsSomeCrewsAnswer}
use Rattle.occ_program.specs.Watched.{CameByCrew, CameTo, ToldByCrew, SeenByCrew}

came_from_fault : {W : Type 0} (contents : W → Option (List ℕ)) (Answers : Played → List ℕ → Type 0) (Refusal : PlayFault → Type 0) (old new : Counted W) (f : PlayFault)
    → AfterFault contents (λ bytes. (played : Played) × Answers played bytes) Refusal old new f → CameTo Answers Refusal (Err f)
came_from_fault contents Answers Refusal old new (play.Text f) h = h.0
came_from_fault contents Answers Refusal old new (play.Parse f) h = h.0
came_from_fault contents Answers Refusal old new (play.Check f) h = h.0
came_from_fault contents Answers Refusal old new (play.Usage f) h = h.0
came_from_fault contents Answers Refusal old new (play.Code f) h = h.0
came_from_fault contents Answers Refusal old new (play.Write written) h = (h.1.0, h.1.1)
came_from_fault contents Answers Refusal old new (play.Run f) h = h.0
came_from_fault contents Answers Refusal old new (play.Memory e) h = h.0

pub came_to : {W : Type 0} (contents : W → Option (List ℕ)) (Answers : Played → List ℕ → Type 0) (Refusal : PlayFault → Type 0) (old new : Counted W) (r : Result Played PlayFault)
    → IfOk r (λ played. Wrote contents (Answers played) old new)
    → IfErr r (AfterFault contents (λ bytes. (played : Played) × Answers played bytes) Refusal old new)
    → CameTo Answers Refusal r
came_to contents Answers Refusal old new (Ok played) h g = (h.0, h.1)
came_to contents Answers Refusal old new (Err f) h g = came_from_fault contents Answers Refusal old new f g

-- a write that failed was one of an answer, whoever took the turns
pub without_crew : {W : Type 0} (contents : W → Option (List ℕ)) (workers : ℕ) (options : Options) (source keyboard : List ℕ) (limit : ℕ) (trace : Bool) (Refusal : PlayFault → Type 0) (old new : Counted W) (r : Result Played PlayFault)
    → IfErr r (AfterFault contents (IsSomeCrewsAnswer workers options source keyboard limit trace) Refusal old new)
    → IfErr r (AfterFault contents (IsSomeAnswerWithin options source keyboard limit trace) Refusal old new)
without_crew contents workers options source keyboard limit trace Refusal old new (Ok played) h = tt
without_crew contents workers options source keyboard limit trace Refusal old new (Err (play.Text f)) h = h
without_crew contents workers options source keyboard limit trace Refusal old new (Err (play.Parse f)) h = h
without_crew contents workers options source keyboard limit trace Refusal old new (Err (play.Check f)) h = h
without_crew contents workers options source keyboard limit trace Refusal old new (Err (play.Usage f)) h = h
without_crew contents workers options source keyboard limit trace Refusal old new (Err (play.Code f)) h = h
without_crew contents workers options source keyboard limit trace Refusal old new (Err (play.Write written)) h = (h.0, (h.1.0, h.1.1.1, h.1.2, h.1.3))
without_crew contents workers options source keyboard limit trace Refusal old new (Err (play.Run f)) h = h
without_crew contents workers options source keyboard limit trace Refusal old new (Err (play.Memory e)) h = h

-- ---- what comes beside an answer

-- all communications of the run that shows an answer
abbrev trace_of : {options : Options} {source keyboard : List ℕ} {limit : ℕ} {trace : Bool} {played : Played} {bytes : List ℕ} → IsAnswerWithin options source keyboard limit trace played bytes → List Entry
trace_of a = (shown (names_of a.answer.of_text.program.channels) a.answer.run.follows.events).trace

module _ (workers : ℕ) (options : Options) (source keyboard : List ℕ) (limit : ℕ) (trace : Bool) where
  pub noted_answer : {W : Type 0} (contents : W → Option (List ℕ)) (old new : Counted W) (played : Played) (held : List Entry) (board : Publishing) (note : Edition)
      → held ≡ [] → Wrote contents (IsWatched options source keyboard limit trace held board played) old new → note ≡ edition board.published true
      → ToldByCrew workers options source keyboard limit trace (Ok (played, note))
  noted_answer contents old new played held board note none w is =
      let shows = w.1 in
      (w.0, (shows.answer, is ∙ (ap (λ (b : Publishing). edition b.published true) shows.published ∙ ap (λ (l : List Entry). edition (l ++ trace_of shows.answer) true) none)))

  pub noted_fault : {W : Type 0} (contents : W → Option (List ℕ)) (old new : Counted W) (f : PlayFault) → FailsBy contents workers options source keyboard limit trace old new f → ToldByCrew workers options source keyboard limit trace (Err f)
  noted_fault contents old new (play.Text f) h = h.0
  noted_fault contents old new (play.Parse f) h = h.0
  noted_fault contents old new (play.Check f) h = h.0
  noted_fault contents old new (play.Usage f) h = h.0
  noted_fault contents old new (play.Code f) h = h.0
  noted_fault contents old new (play.Write written) h =
      let within = h.1.1.1 in
      (h.1.0, ((within.0, edition (trace_of within.1) true), (within.1, refl)))
  noted_fault contents old new (play.Run f) h = h.0
  noted_fault contents old new (play.Memory e) h = h.0

  -- lines of what the note is of
  pub seen_answer : {A : Type 0} (played : Played) (note : Edition) (lines : Option (Vec ℕ A)) → ToldByCrew workers options source keyboard limit trace (Ok (played, note)) → IfSome lines (λ l. l.items ≡ trace_text note.entries)
      → SeenByCrew workers options source keyboard limit trace (Ok (played, lines))
  seen_answer played note lines h told = (h.0, (h.1.0, subst (λ (e : Edition). IfSome lines (λ l. l.items ≡ trace_text e.entries)) h.1.1 told))

  pub seen_fault : (A : Type 0) (f : PlayFault) → ToldByCrew workers options source keyboard limit trace (Err f) → SeenByCrew {A = A} workers options source keyboard limit trace (Err f)
  seen_fault A (play.Text f) h = h
  seen_fault A (play.Parse f) h = h
  seen_fault A (play.Check f) h = h
  seen_fault A (play.Usage f) h = h
  seen_fault A (play.Code f) h = h
  seen_fault A (play.Write written) h = (h.0, ((h.1.0.0, None), (h.1.1.0, tt)))
  seen_fault A (play.Run f) h = h
  seen_fault A (play.Memory e) h = h

  -- without the lines
  pub came_answer : {A : Type 0} (played : Played) (lines : Option (Vec ℕ A)) → SeenByCrew workers options source keyboard limit trace (Ok (played, lines)) → CameByCrew workers options source keyboard limit trace (Ok played)
  came_answer played lines h = (h.0, h.1.0)

  pub came_fault : (A : Type 0) (f : PlayFault) → SeenByCrew {A = A} workers options source keyboard limit trace (Err f) → CameByCrew workers options source keyboard limit trace (Err f)
  came_fault A (play.Text f) h = h
  came_fault A (play.Parse f) h = h
  came_fault A (play.Check f) h = h
  came_fault A (play.Usage f) h = h
  came_fault A (play.Code f) h = h
  came_fault A (play.Write written) h = (h.0, (h.1.0.0, h.1.1.0))
  came_fault A (play.Run f) h = h
  came_fault A (play.Memory e) h = h
