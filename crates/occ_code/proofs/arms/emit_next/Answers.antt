use Rattle.std.proofs.Common.{◌≡◌, ◌+◌, [], ◌∷◌, length, ap, refl}
use Rattle.occ_machine.specs.declared.instr.Instr.TheVariants.{NextChoice, BackToChoice}
use Rattle.occ_code.proofs.Emitting.{emits_then, emits_as}
use Rattle.occ_code.proofs.EmittingTerms.{set_back, back_is}
use Rattle.occ_code.proofs.arms.emit_next.Goals as goal

pub returns : goal.returns
returns c = λ before body long behind_it.
    let count : c.since-back.result ≡ length body + 1 = back_is body c.args.place long behind_it c.since-back.result c.since-back.ensures in
    let loop_ = set_back body c.args.place long behind_it BackToChoice c.since-back.result _ c.since-back.ensures refl c.put_at.ensures in
    emits_then (emits_then loop_ (emits_as c.in_ok-put.ensures (ap (λ n. NextChoice c.args.over.now.index n ∷ []) count))) c.in_ok-emit_counting.ensures
