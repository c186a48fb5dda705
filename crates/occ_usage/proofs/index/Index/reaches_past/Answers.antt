use Rattle.std.proofs.Common.{◌≡◌, suc, ◌-◌, ◌<◌, get_or, length, nat_lt, ap, ◌∙◌, arith}
use Rattle.occ_usage.specs.Indexes.{furthest, reaches}
use Rattle.occ_usage.proofs.Reaches.{length-furthest, reaches_at}
use Rattle.occ_usage.proofs.UseSets.{item_at}
use Rattle.occ_usage.proofs.index.Index.reaches_past.Goals as goal

pub index-requires : goal.index-requires
index-requires c = omega (arith, ap length c.requires.sound.ends, length-furthest 0 c.args.self.now.spans.items)

pub returns : goal.returns
returns c =
    let spans = c.args.self.now.spans.items in
    let n = c.args.number in
    let last = c.args.begun - 1 in
    let below : last < length spans = omega arith in
    let inside : last < length (furthest 0 spans) = omega (arith, length-furthest 0 spans) in
    let next : suc last ≡ c.args.begun = omega arith in
    ap (λ x. nat_lt n x) c.index.ensures ∙ ap (λ es. nat_lt n (get_or es last c.index.result.now)) c.requires.sound.ends
    ∙ ap (λ x. nat_lt n x) (item_at (furthest 0 spans) last c.index.result.now 0 inside) ∙ reaches_at spans last n below ∙ ap (λ k. reaches spans k n) next
