-- Processes that stand at nothing that takes a block of memory.
use Rattle.std.proofs.Common.{◌≡◌, ℕ, Some, ap}
use Rattle.occ_machine.specs.declared.task.Wait.{Wait}
use Rattle.occ_machine.specs.declared.task.Wait.TheVariants as W
use Rattle.occ_net_tables.specs.Light.{IsLight, awaited_by}

pub awaits_it : (w : Wait) (c : ℕ) → Some c ≡ awaited_by w → w ≡ W.Awaits c
awaits_it W.Ready c e = absurd cc
awaits_it (W.Took arm indices m) c e = absurd cc
awaits_it (W.Offers d m) c e = absurd cc
awaits_it (W.Awaits d) c e = let same : d ≡ c = cc in ap W.Awaits same
awaits_it (W.Chooses pri arms) c e = absurd cc
awaits_it (W.Joins ns) c e = absurd cc
awaits_it W.Halted c e = absurd cc
awaits_it W.Done c e = absurd cc
awaits_it (W.Faulted x) c e = absurd cc

pub awaits_lightly : (w : Wait) (c : ℕ) → Some c ≡ awaited_by w → IsLight w
awaits_lightly W.Ready c e = tt
awaits_lightly (W.Took arm indices m) c e = absurd cc
awaits_lightly (W.Offers d m) c e = absurd cc
awaits_lightly (W.Awaits d) c e = tt
awaits_lightly (W.Chooses pri arms) c e = absurd cc
awaits_lightly (W.Joins ns) c e = absurd cc
awaits_lightly W.Halted c e = absurd cc
awaits_lightly W.Done c e = absurd cc
awaits_lightly (W.Faulted x) c e = absurd cc
