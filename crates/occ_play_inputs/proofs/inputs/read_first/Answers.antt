use Rattle.std.proofs.Common.{◌∙◌, ◌∷◌, [], List, ap, ℕ}
use Rattle.occ_play_inputs.proofs.Joining.{one_text}
use Rattle.occ_files.specs.Sources.{joined}
use Rattle.occ_play_inputs.proofs.inputs.read_first.Goals as goal

pub returns-clause-joined : goal.returns-clause-joined
returns-clause-joined g c =
    let put = c.in_ok-read_behind.ensures.joined in
    let source = c.read_behind.new.source in
    one_text source.bytes.items source.ends.items put.0
    (put.1 ∙ ap (λ (b : List ℕ). joined 1048577 b (put.0 ∷ [])) c.empty_source-source.ensures.bytes)
    (ap (λ v. v.items) c.in_ok-read_behind.ensures.ends ∙ c.empty_source-source.ensures.ends)
