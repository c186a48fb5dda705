-- Inputs, from the channel, its parts and the targets.
use Rattle.std.proofs.Common.{◌≡◌, ℕ, List, ◌∷◌, map, Some, None, sym, ap, ◌∙◌, Vec, Global}
use Rattle.occ_tree_grammar.specs.Many.{◌>>=◌}
use Rattle.occ_tree_grammar.specs.Lines.Views as lines
use Rattle.occ_tree_grammar.specs.declared.tree.line.Input.{Input as InputTree}
use Rattle.occ_tree_grammar.specs.declared.tree.line.Input.TheVariants as inputs
use Rattle.occ_tree_grammar.specs.declared.tree.line.OneOrMore.{OneOrMore}
use Rattle.occ_tree_grammar.specs.declared.tree.line.Target.{Target as TargetTree}
use Rattle.occ_tree_grammar.specs.declared.tree.line.Var.{Var as VarTree}
use Rattle.occ_term.specs.declared.protocol.PartType.{PartType}
use Rattle.occ_term.specs.declared.protocol.Protocol.{Protocol}
use Rattle.occ_term.specs.Messages.{parts_after}
use Rattle.occ_term.specs.Terms.{Place, Target}
use Rattle.occ_check_meaning.specs.Scope.{Names}
use Rattle.occ_check_meaning.specs.Items.{channel_of, stored, tag_in}
use Rattle.occ_check_meaning.specs.Actions.{plain_list, received, tagged_list}
use Rattle.occ_check_lines.specs.View.{Refuses}
use Rattle.occ_check_lines.specs.declared.fault.CheckFault.{CheckFault}
use Rattle.occ_check_lines.proofs.Refusals.{none_then, refused_with}

module _ (ns : Names) (line : ℕ) (input : InputTree) (v : VarTree) (p : Protocol) (at : Place) (parts ps : List PartType) (channel : channel_of ns line (lines.var_of v) ≡ Some (p, at)) (same : ps ≡ parts) where
  module _ (ts : OneOrMore TargetTree) (is : input ≡ inputs.Items v ts) (after : parts_after p None ≡ Some parts) where
    listed : received ns line (lines.input_of input) ≡ (stored ns line ps (lines.target_of ts.first ∷ map lines.target_of ts.others.items) >>= λ targets. Some (at, plain_list targets))
    listed =
        ap (λ i. received ns line (lines.input_of i)) is
        ∙ ap (λ r. r >>= λ c. parts_after c.0 None >>= λ parts. stored ns line parts (lines.target_of ts.first ∷ map lines.target_of ts.others.items) >>= λ targets. Some (c.1, plain_list targets)) channel
        ∙ ap (λ r. r >>= λ parts. stored ns line parts (lines.target_of ts.first ∷ map lines.target_of ts.others.items) >>= λ targets. Some (at, plain_list targets)) after
        ∙ ap (λ qs. stored ns line qs (lines.target_of ts.first ∷ map lines.target_of ts.others.items) >>= λ targets. Some (at, plain_list targets)) (sym same)

    pub listed_gives : (targets : List Target) → stored ns line ps (lines.target_of ts.first ∷ map lines.target_of ts.others.items) ≡ Some targets → received ns line (lines.input_of input) ≡ Some (at, plain_list targets)
    listed_gives targets h = listed ∙ ap (λ r. r >>= λ targets. Some (at, plain_list targets)) h

    pub listed_nothing : (e : CheckFault) → Refuses e (stored ns line ps (lines.target_of ts.first ∷ map lines.target_of ts.others.items)) → Refuses e (received ns line (lines.input_of input))
    listed_nothing e = refused_with e _ _ (λ h. listed ∙ none_then _ h)

  module _ (name : List ℕ) (ts : Vec TargetTree Global) (k : ℕ) (ys : List TargetTree) (is : input ≡ inputs.Tagged v name ts) (seen : ys ≡ ts.items) (tag : tag_in p name ≡ Some k) (after : parts_after p (Some k) ≡ Some parts) where
    tagged : received ns line (lines.input_of input) ≡ (stored ns line ps (map lines.target_of ys) >>= λ targets. Some (at, tagged_list k targets))
    tagged =
        ap (λ i. received ns line (lines.input_of i)) is
        ∙ ap (λ r. r >>= λ c. tag_in c.0 name >>= λ k. parts_after c.0 (Some k) >>= λ parts. stored ns line parts (map lines.target_of ts.items) >>= λ targets. Some (c.1, tagged_list k targets)) channel
        ∙ ap (λ r. r >>= λ k. parts_after p (Some k) >>= λ parts. stored ns line parts (map lines.target_of ts.items) >>= λ targets. Some (at, tagged_list k targets)) tag
        ∙ ap (λ r. r >>= λ parts. stored ns line parts (map lines.target_of ts.items) >>= λ targets. Some (at, tagged_list k targets)) after
        ∙ ap (λ qs. stored ns line qs (map lines.target_of ts.items) >>= λ targets. Some (at, tagged_list k targets)) (sym same)
        ∙ ap (λ zs. stored ns line ps (map lines.target_of zs) >>= λ targets. Some (at, tagged_list k targets)) (sym seen)

    pub tagged_gives : (targets : List Target) → stored ns line ps (map lines.target_of ys) ≡ Some targets → received ns line (lines.input_of input) ≡ Some (at, tagged_list k targets)
    tagged_gives targets h = tagged ∙ ap (λ r. r >>= λ targets. Some (at, tagged_list k targets)) h

    pub tagged_nothing : (e : CheckFault) → Refuses e (stored ns line ps (map lines.target_of ys)) → Refuses e (received ns line (lines.input_of input))
    tagged_nothing e = refused_with e _ _ (λ h. tagged ∙ none_then _ h)
