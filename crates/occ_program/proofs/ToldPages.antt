-- What is told of runs by what is known of their source.
use Rattle.std.proofs.Common.{◌≡◌, ◌∙◌, List, [], ◌∷◌, arith, length, refl, subst, sym, take, ℕ}
use Rattle.std.specs.Prelude.{MatchOption, None, Option, Some, Vec}
use Rattle.std.specs.Borrow.{Bor}
use Rattle.occ_chart.specs.declared.part.Part.{Part}
use Rattle.occ_explaining.specs.Explaining.{IsNamedChart}
use Rattle.occ_explaining.specs.Studied.{ChartsBy, IsStudied, PagesBy}
use Rattle.occ_explaining.specs.Shown.{PageOf}
use Rattle.occ_explaining.specs.declared.studied.Studied.{Studied}
use Rattle.occ_explore.specs.declared.exploration.Answer.{Answer}
use Rattle.occ_explore.specs.declared.exploration.Asked.{Asked}
use Rattle.occ_shown.specs.declared.pages.RunTexts.{RunTexts}
use Rattle.occ_net_replay.specs.declared.choice.Choice.{Choice}
use Rattle.occ_play.specs.declared.playing.Options.{Options}
use Rattle.occ_play_inputs.specs.declared.inputs.Inputs.{Inputs}
use Rattle.occ_play_inputs.specs.declared.words.Words.{Words}
use Rattle.occ_program.specs.Coming.{options_in}
use Rattle.occ_program.specs.Pages.{AreRunsOf, ShowsAnswers, ShowsBy, ShowsRun, more_text}

-- the chart of one run, where its parts are known by what they are
pub charts_of : {A : Type 0} (s : Studied) (o : Options) (source keyboard keyboard' : List ℕ) (list list' : List Choice) (part : Part) (only without : List (Bor (List ℕ))) (text : Vec ℕ A)
    → keyboard' ≡ keyboard → list' ≡ list → IsStudied o source s → ChartsBy s keyboard' list' part only without text → IsNamedChart o source keyboard list part only without text.items
charts_of s o source keyboard keyboard' list list' part only without text a b h f =
    subst (λ (l : List Choice). IsNamedChart o source keyboard l part only without text.items) b
    (subst (λ k. IsNamedChart o source k list' part only without text.items) a (f o source h))

-- the page of one run, where its parts are known by what they are
pub shows_of : {A : Type 0} (s : Studied) (o : Options) (source source' keyboard keyboard' : List ℕ) (list list' : List Choice) (text : Vec ℕ A)
    → source' ≡ source → keyboard' ≡ keyboard → list' ≡ list → IsStudied o source s → ShowsBy s source' keyboard' list' text → ShowsRun o source keyboard list text.items
shows_of s o source source' keyboard keyboard' list list' text a b d h f =
    subst (λ (l : List Choice). ShowsRun o source keyboard l text.items) d
    (subst (λ k. ShowsRun o source k list' text.items) b
    (subst (λ x. ShowsRun o x keyboard' list' text.items) a (f o (subst (λ x. IsStudied o x s) (sym a) h))))

-- the page of the answers of a search
pub answers_shown : {A : Type 0} (words : Words) (inputs : Inputs) (asked : Asked) (answers first : List Answer) (more more' : List ℕ) (s : Studied) (source : List ℕ) (rs rs' : List RunTexts) (text : Vec ℕ A)
    → source ≡ inputs.source.items → rs' ≡ rs → more' ≡ more → more ≡ more_text answers → first ≡ take 100 answers
    → IsStudied (options_in words) inputs.source.items s → AreRunsOf words inputs asked more' 1 first rs → PagesBy s source rs' text
    → ShowsAnswers words inputs asked answers text.items
answers_shown words inputs asked answers first more more' s source rs rs' text a b d e g h are f = (
  rs,
  subst (λ (l : List Answer). AreRunsOf words inputs asked (more_text answers) 1 l rs) g (subst (λ m. AreRunsOf words inputs asked m 1 first rs) (d ∙ e) are),
  subst (λ (l : List RunTexts). PageOf (options_in words) inputs.source.items l text.items) b
      (subst (λ x. PageOf (options_in words) x rs' text.items) a (f (options_in words) (subst (λ x. IsStudied (options_in words) x s) (sym a) h))),
)

-- a loop over the items of a list ends where none is left
pub none_left : {X P : Type 0} (Q : X → Type 0) (r : Option X) → MatchOption r P Q → ((x : X) → r ≡ Some x → ⊥) → P
none_left Q None h other = h
none_left Q (Some x) h other = absurd (other x refl)

pub is_empty : {X : Type 0} (xs : List X) → length xs ≡ 0 → xs ≡ []
is_empty [] e = refl
is_empty (x ∷ xs) e = absurd (omega arith)
