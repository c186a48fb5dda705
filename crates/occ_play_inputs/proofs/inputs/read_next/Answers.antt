use Rattle.std.proofs.Common.{◌≡◌, ◌∷◌, [], Global, List, OnOk, Vec, subst, ℕ}
use Rattle.occ_files.specs.Sources.{joined}
use Rattle.occ_play_inputs.proofs.inputs.read_next.Goals as goal

pub returns-clause-joined : goal.returns-clause-joined
returns-clause-joined g c =
    let new = c.read_behind.new.source in
    subst (λ (v : Vec ℕ Global). OnOk c.read_behind.result ((text : List ℕ) × (new.bytes.items ≡ joined 1048577 v.items (text ∷ [])))) c.note_end.ensures.bytes c.read_behind.ensures.joined
