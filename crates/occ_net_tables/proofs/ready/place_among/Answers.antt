use Rattle.std.proofs.Common.{◌∙◌, ◌%◌, ℕ, sym, ap}
use Rattle.std.proofs.Math.Nat.{mod-eq_of_lt, mod-one}
use Rattle.occ_net_tables.proofs.ready.place_among.Goals as goal

pub returns-then-which-count : goal.returns-then-which-count
returns-then-which-count c = sym (mod-eq_of_lt c.if-which-count.true)

pub returns-in-1 : goal.returns-in-1
returns-in-1 c = sym (ap (λ (k : ℕ). c.args.which % k) c.in-1.is ∙ mod-one c.args.which)
