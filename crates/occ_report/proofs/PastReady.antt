-- Choices that count past the processes that are ready.
use Rattle.std.proofs.Common.{◌≡◌, ◌∙◌, ◌++◌, ◌+◌, ◌<◌, ◌≤◌, ◌^◌, ℕ, List, [], ◌∷◌, None, length, refl, sym, ap, subst, append_assoc, append-nil, length-append}
use Rattle.occ_machine.specs.Compiled.{Program}
use Rattle.occ_net_replay.specs.declared.choice.Choice.{Choice}
use Rattle.occ_net_replay.specs.Replay.{Net, Replays, begins, ending_of, first_net, goes_on, ready_from}
use Rattle.occ_net_tables.specs.Holding.{Holds}
use Rattle.occ_net_tables.specs.Settling.{Standing, TurnsTo}
use Rattle.occ_net_tables.specs.declared.tables.Tables.{Tables}
use Rattle.occ_report.specs.Past.{AllNameReady, IsPastAt, NamesReady, NamingSoFar, none_named, one_named}

named_replays : (p : Program) (kb : List ℕ) {cs : List Choice} {net : Net} → NamesReady p kb cs net → Replays p kb cs net
named_replays p kb none_named = begins
named_replays p kb (one_named h e few turn) = goes_on (named_replays p kb h) e turn

pub names_first : (p : Program) (kb : List ℕ) (list : List Choice) (n : Tables) → ((k : List ℕ) → Holds p k n (first_net p k)) → NamingSoFar p kb 0 list list n
names_first p kb list n h = record { given = []; count = refl; so_far = refl; net = first_net p kb; named = none_named; holds = h kb }

pub names_stand : (p : Program) (kb : List ℕ) (turns : ℕ) (rest list : List Choice) (n : Tables) → (h : NamingSoFar p kb turns rest list n) → ending_of p.errors h.net ≡ None → 1 + turns < 2 ^ 64 → Standing p kb n
names_stand p kb turns rest list n h going few =
    record { choices = h.given; few = subst (λ k. 1 + k < 2 ^ 64) h.count few; net = h.net; replays = named_replays p kb h.named; open_end = going; holds = h.holds }

-- one turn more
pub names_more : (p : Program) (kb : List ℕ) (turns : ℕ) (rest others list : List Choice) (c : Choice) (old new : Tables) (ready : List ℕ)
    → (h : NamingSoFar p kb turns rest list old) → ending_of p.errors h.net ≡ None → rest ≡ c ∷ others → ready ≡ ready_from 0 h.net.tasks → c.which < length ready
    → ((net : Net) → Holds p kb old net → TurnsTo p kb c net new) → NamingSoFar p kb (turns + 1) others list new
names_more p kb turns rest others list c old new ready h going first are few turn =
    let x = turn h.net h.holds in
    record {
      given = h.given ++ c ∷ [];
      count = ap (λ k. k + 1) h.count ∙ sym (length-append h.given (c ∷ []));
      so_far = append_assoc h.given (c ∷ []) others ∙ ap (λ cs. h.given ++ cs) (sym first) ∙ h.so_far;
      net = x.next;
      named = one_named h.named going (subst (λ (ns : List ℕ). c.which < length ns) are few) x.turn;
      holds = x.holds;
    }

-- the choice of the next turn is past
pub past_now : (p : Program) (kb : List ℕ) (turns : ℕ) (rest others list : List Choice) (c : Choice) (n : Tables) (ready : List ℕ)
    → (h : NamingSoFar p kb turns rest list n) → ending_of p.errors h.net ≡ None → rest ≡ c ∷ others → ready ≡ ready_from 0 h.net.tasks → length ready ≤ c.which
    → IsPastAt p kb list (turns + 1)
past_now p kb turns rest others list c n ready h going first are past =
    record {
      before = h.given;
      choice = c;
      others = others;
      is = ap (λ cs. h.given ++ cs) (sym first) ∙ h.so_far;
      at = ap (λ k. k + 1) h.count;
      net = h.net;
      named = h.named;
      going = going;
      past = subst (λ (ns : List ℕ). length ns ≤ c.which) are past;
    }

-- the run has ended, or the choices are used up
pub all_named : (p : Program) (kb : List ℕ) (turns : ℕ) (rest list : List Choice) (n : Tables) → (h : NamingSoFar p kb turns rest list n) → (ending_of p.errors h.net ≡ None → rest ≡ []) → AllNameReady p kb list
all_named p kb turns rest list n h over =
    record {
      used = h.given;
      net = h.net;
      named = h.named;
      begins = record { rest = rest; is = sym h.so_far };
      whole = λ e. sym (append-nil h.given) ∙ ap (λ cs. h.given ++ cs) (sym (over e)) ∙ h.so_far;
    }
