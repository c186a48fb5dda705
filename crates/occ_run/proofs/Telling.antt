-- What the publisher has published, from one take to the next.
use Rattle.std.specs.Prelude.{Result, Ok, Err, IfOk, true}
use Rattle.occ_board.specs.declared.shown.Edition.{Edition}
use Rattle.std.proofs.Common.{◌≡◌, ◌∙◌, refl, sym, ap, subst, Bool, false, ℕ, ◌+◌, ◌<◌, ◌^◌, List, [], ◌∷◌, ◌++◌, length, arith, append_assoc, length-append}
use Rattle.std.proofs.lemmas.List.{append-nil}
use mathlib.Core.List.{IsPrefix}
use Rattle.logbook.specs.Pages.{Book}
use Rattle.occ_term.specs.Runs.{Entry, entries}
use Rattle.occ_term.specs.declared.communication.Communication.{Communication}
use Rattle.occ_machine.specs.Compiled.{Program}
use Rattle.occ_board.specs.Editions.{Extends, Reached, blank, reached}
use Rattle.occ_board.specs.Traces.{Publishing, all_published, held_by, publishing}
use Rattle.occ_board.proofs.Prefixes.{prefix_self, prefix_trans}
use Rattle.occ_net.specs.Networks.{IsNetwork, IsState, Past}
use Rattle.occ_net_replay.specs.Replay.{Net, Replays, begins, first_net}
use Rattle.occ_net_tables.specs.TracePlaces.{Place, StandBehind, place_behind}
use Rattle.occ_shown.specs.Answers.{entries_in, names_of}
use Rattle.occ_run.specs.Gathered.{IsOfRun}
use Rattle.occ_run.specs.Telling.{IsBehind, IsNext, IsTake, IsTraceOf, MayTell, and_news, taken}
use Rattle.occ_run.proofs.Growing.{entries_append, entries_back}

-- The publisher has published what was held and the trace of a replay, of which it has the edition, the mark and the length.
pub record HasTold (book : Book) (p : Program) (keyboard : List ℕ) (limit : ℕ) (held : List Entry) (front : Reached) (mark : Place) (number : ℕ) (b : Publishing) : Type 0 where
  pub all : List Communication
  pub of_run : IsTraceOf p keyboard limit all
  pub told : front ≡ taken book p all
  pub small : length all < 2 ^ 63
  pub mark_is : mark ≡ place_behind all
  pub counted : number ≡ length all
  pub published : b ≡ publishing (held ++ entries_in p.channels all) [] false

-- before the first turn nothing is completed
pub none_completed : (p : Program) (keyboard : List ℕ) (limit : ℕ) → IsTraceOf p keyboard limit []
none_completed p keyboard limit = record { choices = []; net = first_net p keyboard; replays = begins; few = omega arith; is = refl }

-- so what was held may be shown
pub may_hold : (may : List Entry → Type 0) (p : Program) (keyboard : List ℕ) (limit : ℕ) (held : List Entry) → MayTell may p keyboard limit held → may held
may_hold may p keyboard limit held m = subst may (append-nil held) (m [] (none_completed p keyboard limit))

published_is : (b : Publishing) (published pending : List Entry) (closed : Bool) → b.published ≡ published → b.pending ≡ pending → b.closed ≡ closed → b ≡ publishing published pending closed
published_is b published pending closed x y z = ap (λ (l : List Entry). publishing l b.pending b.closed) x ∙ (ap (λ (l : List Entry). publishing published l b.closed) y ∙ ap (λ (c : Bool). publishing published pending c) z)

pub told_first : (book : Book) (p : Program) (keyboard : List ℕ) (limit : ℕ) (held : List Entry) (front : Reached) (mark : Place) (number : ℕ) (b : Publishing) → front ≡ reached book blank → mark ≡ place_behind [] → number ≡ 0 → b.published ≡ held → b.pending ≡ [] → b.closed ≡ false
    → HasTold book p keyboard limit held front mark number b
told_first book p keyboard limit held front mark number b at first zero published pending closed =
    record {
      all = [];
      of_run = none_completed p keyboard limit;
      told = at;
      small = omega arith;
      mark_is = first;
      counted = zero;
      published = published_is b (held ++ []) [] false (published ∙ sym (append-nil held)) pending closed;
    }

module _ (book : Book) (p : Program) (keyboard : List ℕ) (limit : ℕ) (held : List Entry) (front next : Reached) (mark after : Place) (number : ℕ) (news : List Communication) (b : Publishing)
    (h : HasTold book p keyboard limit held front mark number b) (t : IsTake p keyboard limit front mark next after news) where
  grown : IsPrefix h.all t.all
  grown = entries_back (names_of p.channels) 1 h.all t.all (subst (λ (r : Reached). IsPrefix r.edition.entries (entries_in p.channels t.all)) h.told t.more)

  all_is : h.all ++ news ≡ t.all
  all_is = ap (λ l. h.all ++ l) (t.behind h.all grown.0 (sym grown.1) h.mark_is) ∙ grown.1

  longer : number + length news ≡ length t.all
  longer = let n = h.counted in let m = length-append h.all news in let l = ap length all_is in omega (arith, n, m, l)

  pub few : number + length news < 2 ^ 63
  few = let l = longer in let s = t.small in omega (arith, l, s)

  module _ (c : Publishing) (pending : c ≡ and_news b p.channels number news) where
    behind_all : c ≡ publishing (held ++ entries_in p.channels h.all) (entries (names_of p.channels) (1 + length h.all) news) false
    behind_all =
        pending
        ∙ (ap (λ (x : Publishing). and_news x p.channels number news) h.published
        ∙ ap (λ (n : ℕ). publishing (held ++ entries_in p.channels h.all) (entries (names_of p.channels) n news) false) (let n = h.counted in omega (arith, n)))

    pub holds : held_by c ≡ held ++ entries_in p.channels t.all
    holds =
        ap held_by behind_all
        ∙ (append_assoc held (entries_in p.channels h.all) (entries (names_of p.channels) (1 + length h.all) news)
        ∙ ap (λ l. held ++ l) (sym (entries_append (names_of p.channels) 1 h.all news) ∙ ap (entries_in p.channels) all_is))

    pub may_show : (may : List Entry → Type 0) → MayTell may p keyboard limit held → may (held_by c)
    may_show may m = subst may (sym holds) (m t.all t.of_run)

    pub told_next : (d : Publishing) (n : ℕ) → d ≡ all_published c false → n ≡ number + length news → HasTold book p keyboard limit held next after n d
    told_next d n e counted =
        record {
          all = t.all;
          of_run = t.of_run;
          told = t.told ∙ ap (λ (r : Reached). taken r.book p t.all) h.told;
          small = t.small;
          mark_is = t.mark;
          counted = counted ∙ longer;
          published = e ∙ ap (λ (l : List Entry). publishing l [] false) holds;
        }

pub begins_held : (book : Book) (p : Program) (keyboard : List ℕ) (limit : ℕ) (held : List Entry) (front : Reached) (mark : Place) (number : ℕ) (b : Publishing) → HasTold book p keyboard limit held front mark number b → IsPrefix held b.published
begins_held book p keyboard limit held front mark number b h = (entries_in p.channels h.all, sym (ap (λ (x : Publishing). x.published) h.published))

pub held_begins : {E : Type 0} (r : Result Edition E) (held published : List Entry) → IsPrefix held published → IfOk r (λ n. IsPrefix published n.entries × (n.last ≡ true)) → IfOk r (λ n. IsPrefix held n.entries × (n.last ≡ true))
held_begins (Ok n) held published p e = (prefix_trans held published n.entries p e.0, e.1)
held_begins (Err x) held published p e = tt

-- ---- a take under the lock

module _ (book : Book) (p : Program) (keyboard : List ℕ) (limit : ℕ) (n : Past) (head : Book) (told : Reached) (h : IsBehind book p n head told) (k : IsNetwork n) (trace : List Communication) (traced : (net : Net) → IsState n net → net.trace ≡ trace) where
  pub is_next : IsNext p head told trace
  is_next = (h.history ∙ sym h.of_it, h.going, subst (λ (l : List Communication). IsPrefix told.edition.entries (entries_in p.channels l)) (traced k.net k.state) (h.begins k.net k.state))

  -- what is taken is the trace of a replay
  of_replay : IsOfRun p keyboard limit n → IsTraceOf p keyboard limit trace
  of_replay r =
      record {
        choices = n.choices;
        net = k.net;
        replays = subst (λ (q : Program). Replays q keyboard n.choices k.net) r.program (subst (λ (b : List ℕ). Replays n.program b n.choices k.net) r.bytes k.state);
        few = r.few;
        is = traced k.net k.state;
      }

  pub takes : (mine next : Reached) (before after : Place) (news : List Communication) → IsOfRun p keyboard limit n → mine.book ≡ book → Extends mine.edition told.edition → next ≡ taken told.book p trace → length trace < 2 ^ 63 → StandBehind trace before news → after ≡ place_behind trace
      → IsTake p keyboard limit mine before next after news
  takes mine next before after news r of_it more is small behind mark =
      record {
        all = trace;
        of_run = of_replay r;
        told = is ∙ ap (λ (b : Book). taken b p trace) (h.of_it ∙ sym of_it);
        more = prefix_trans mine.edition.entries told.edition.entries (entries_in p.channels trace) more.0 is_next.2;
        small = small;
        behind = behind;
        mark = mark;
      }

  pub behind_taken : (next : Reached) → next ≡ taken told.book p trace → IsBehind book p n head next
  behind_taken next is =
      record {
        history = h.history;
        of_it = ap (λ (r : Reached). r.book) is ∙ h.of_it;
        going = ap (λ (r : Reached). r.edition.last) is;
        begins = λ net state. subst (λ (l : List Communication). IsPrefix next.edition.entries (entries_in p.channels l)) (sym (traced net state))
            (subst (λ (r : Reached). IsPrefix r.edition.entries (entries_in p.channels trace)) (sym is) (prefix_self (entries_in p.channels trace)));
      }
