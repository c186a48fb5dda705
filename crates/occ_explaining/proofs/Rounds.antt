-- Passes one after the other.
use Rattle.std.proofs.Common.{◌≡◌, List, Option, Bool, length, map}
use Rattle.occ_explaining.specs.Calls.{Called, call_pair}
use Rattle.occ_explaining.specs.Reach.{HasMain, IsReach, among}
use Rattle.occ_explaining.specs.Passes.{AreClosed, AreWithin, Begins, IsPass}
use Rattle.occ_explaining.specs.declared.calls.Call.{Call}

-- what holds between two passes
pub record Round (main : Option Called) (all : List Call) (names : List Called) (left : List Call) : Type 0 where
  pub begins : HasMain main (among names)
  pub closes : (set : Called → Bool) → AreWithin names set → AreClosed set left → AreClosed set all
  pub least : (set : Called → Bool) → HasMain main set → AreClosed set all → AreWithin names set
  pub part : (set : Called → Bool) → AreClosed set all → AreClosed set left

pub first_round : (main : Option Called) (all : List Call) (names : List Called) → Begins main names → Round main all names all
first_round main all names b = record {
  begins = b.has;
  closes = λ set w h. h;
  least = λ set m h. b.only set m;
  part = λ set h. h;
}

pub next_round : (main : Option Called) (all : List Call) (old new : List Called) (left others : List Call) → Round main all old left → IsPass left old new others → Round main all new others
next_round main all old new left others r p = record {
  begins = λ f h. p.grows f (r.begins f h);
  closes = λ set w h. r.closes set (λ f g. w f (p.grows f g)) (p.closes set w h);
  least = λ set m h. p.least set (r.least set m h) (r.part set h);
  part = λ set h. p.part set (r.part set h);
}

pub last_round : (main : Option Called) (all : List Call) (old new : List Called) (left others : List Call) → Round main all old left → IsPass left old new others → length others ≡ length left
    → IsReach main (map call_pair all) (among new)
last_round main all old new left others r p e =
    let next = next_round main all old new left others r p in
    record {
      begins = next.begins;
      closed = next.closes (among new) (λ f h. h) (p.same e);
      least = λ other m h f g. next.least other m h f g;
    }
