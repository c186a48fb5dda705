-- What is written of a graph.
use Rattle.std.proofs.Common.{List, ap, subst, ℕ, ◌∙◌, ◌≡◌}
use Rattle.std.specs.Prelude.{Vec}
use Rattle.occ_term.specs.declared.names.Channel.{Channel}
use Rattle.occ_machine.specs.Compiled.{Program}
use Rattle.occ_explore.specs.declared.exploration.Graph.{Graph}
use Rattle.occ_explore.specs.declared.exploration.GraphForm.{GraphForm}
use Rattle.occ_exploring.specs.GraphTexts.{graph_text}
use Rattle.occ_play.specs.Playing.{IsTextsCode}
use Rattle.occ_play.specs.declared.playing.Options.{Options}
use Rattle.occ_play_inputs.specs.GraphNames.{named_form}
use Rattle.occ_play_inputs.specs.declared.inputs.Inputs.{Inputs}
use Rattle.occ_play_inputs.specs.declared.words.Words.{Words}
use Rattle.occ_program.specs.Coming.{options_in}
use Rattle.occ_program.specs.Pages.{IsGraphText}

pub graph_written : (words : Words) (inputs : Inputs) (path : List ℕ) (states : ℕ) (g : Graph) (p : Program) (options : Options) (source : List ℕ) (form : GraphForm) (channels : List Channel) (text : List ℕ)
    → options ≡ options_in words → source ≡ inputs.source.items → IsTextsCode options source p → form ≡ named_form path → channels ≡ p.channels → text ≡ graph_text form channels states g
    → IsGraphText words inputs path states g text
graph_written words inputs path states g p options source form channels text same from code named of_code is =
    record {
      code = p;
      is = subst (λ o. IsTextsCode o inputs.source.items p) same (subst (λ s. IsTextsCode options s p) from code);
      written = is ∙ ap (λ f. graph_text f channels states g) named ∙ ap (λ cs. graph_text (named_form path) cs states g) of_code;
    }
