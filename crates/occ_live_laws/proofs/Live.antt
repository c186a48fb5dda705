-- Replays within the bytes, and replays that get bytes while they go on.
use Rattle.std.proofs.Common.{◌≡◌, refl, sym, subst, ℕ, List, [], ◌∷◌, ◌++◌, append-nil, append_assoc}
use Rattle.occ_machine.specs.Compiled.{Program}
use Rattle.occ_net_replay.specs.declared.choice.Choice.{Choice}
use Rattle.occ_net_replay.specs.Replay.{Net, Replays}
use Rattle.occ_net_replay.specs.Replay as R
use Rattle.occ_live_laws.specs.Live.{LiveReplay, NobodyHears, ReplaysWithin, begins, goes_on, reads, starts, turns, with_more}
use Rattle.occ_live_laws.proofs.Hearing.{first_hears}
use Rattle.occ_live_laws.proofs.More.{turn_hears, turn_more}

pub within_replays : (p : Program) (keyboard : List ℕ) (cs : List Choice) (net : Net) → ReplaysWithin p keyboard cs net → Replays p keyboard cs net
within_replays p keyboard cs net begins = R.begins
within_replays p keyboard cs net (goes_on {cs = ds} {a = a} r e o s) = R.goes_on (within_replays p keyboard ds a r) e o

pub nobody_waits : (p : Program) (keyboard : List ℕ) (cs : List Choice) (net : Net) → ReplaysWithin p keyboard cs net → NobodyHears net
nobody_waits p keyboard cs net begins = first_hears p.bodies
nobody_waits p keyboard cs net (goes_on {cs = ds} {c = c} {a = a} {b = b} r e o s) = turn_hears p c a b [] (nobody_waits p keyboard ds a r) o s

no_bytes : (xs ys : List ℕ) → xs ++ ys ≡ [] → xs ≡ []
no_bytes [] ys e = refl
no_bytes (x ∷ xs) ys e = absurd cc

pub more_bytes : (p : Program) (keyboard more : List ℕ) (cs : List Choice) (net : Net) → ReplaysWithin p keyboard cs net → ReplaysWithin p (keyboard ++ more) cs (with_more more net)
more_bytes p keyboard more cs net begins = begins
more_bytes p keyboard more cs net (goes_on {cs = ds} {c = c} {a = a} {b = b} r e o s) =
    goes_on (more_bytes p keyboard more ds a r) e (turn_more p c a b more (nobody_waits p keyboard ds a r) o s) (λ k. s (no_bytes a.keyboard more k))

pub live_replays : (p : Program) (read more : List ℕ) (cs : List Choice) (net : Net) → LiveReplay p read cs net → ReplaysWithin p (read ++ more) cs (with_more more net)
live_replays p read more cs net starts = begins
live_replays p read more cs net (reads {read = first} {net = a} r next) =
    let whole = live_replays p first (next ++ more) cs a r in
    subst (λ l. ReplaysWithin p l cs (with_more more (with_more next a))) (sym (append_assoc first next more))
    (subst (λ l. ReplaysWithin p (first ++ (next ++ more)) cs (record a { keyboard = l })) (sym (append_assoc a.keyboard next more)) whole)
live_replays p read more cs net (turns {cs = ds} {c = c} {a = a} {b = b} r e o s) =
    goes_on (live_replays p read more ds a r) e (turn_more p c a b more (nobody_waits p (read ++ []) ds (with_more [] a) (live_replays p read [] ds a r)) o s) (λ k. s (no_bytes a.keyboard more k))

pub live_at_end : (p : Program) (read : List ℕ) (cs : List Choice) (net : Net) → LiveReplay p read cs net → Replays p read cs net
live_at_end p read cs net r =
    let whole = within_replays p (read ++ []) cs (with_more [] net) (live_replays p read [] cs net r) in
    subst (λ l. Replays p l cs net) (append-nil read) (subst (λ l. Replays p (read ++ []) cs (record net { keyboard = l })) (append-nil net.keyboard) whole)
