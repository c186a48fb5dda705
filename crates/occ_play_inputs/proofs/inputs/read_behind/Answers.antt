use Rattle.std.proofs.Common.{◌∙◌, ◌++◌, List, ap, take, ℕ}
use Rattle.occ_play_inputs.proofs.Joining.{few_behind, whole_behind}
use Rattle.occ_files.specs.Sources.{ended}
use Rattle.occ_play_inputs.proofs.inputs.read_behind.Goals as goal

pub returns-clause-few : goal.returns-clause-few
returns-clause-few g c = few_behind c.add_text.new.joined.items c.args.source.now.bytes.items c.as_slice.result.now c.in_ok-add_text.ensures

pub returns-clause-text : goal.returns-clause-text
returns-clause-text g c =
    whole_behind (g.S.Read.remaining c.args.file) c.add_text.new.joined.items c.args.source.now.bytes.items c.in_ok-text.text.items c.in_ok-text.ensures.bytes
    (c.in_ok-add_text.ensures ∙ ap (λ (t : List ℕ). take 1048577 (ended c.args.source.now.bytes.items ++ t)) c.as_slice.ensures.value)
