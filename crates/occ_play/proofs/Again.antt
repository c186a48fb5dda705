-- A run that is played again has the same answer.
use Rattle.std.proofs.Common.{◌≡◌, ◌∙◌, ◌<◌, ◌≤◌, ◌^◌, ◌+◌, ℕ, Bool, List, [], ◌∷◌, ◌++◌, Option, Some, refl, sym, ap, subst, length, arith, length-append, append-nil}
use Rattle.occ_text.proofs.LineLaws.{one_reading}
use Rattle.occ_tree_grammar.specs.Processes.Trees.{Item}
use Rattle.occ_tree_grammar.proofs.Whole.{one_tree}
use Rattle.occ_term.specs.Runs.{shown, shown_by}
use Rattle.occ_term.specs.Terms.{Term}
use Rattle.occ_term.specs.UnfoldedProgram.{UnfoldedProgram, meaning}
use Rattle.occ_term.specs.declared.names.Channel.{Channel}
use Rattle.occ_check_meaning.specs.Numbers.{Numbers}
use Rattle.occ_check_meaning.specs.ProgramUnfolding.{UnfoldsTo}
use Rattle.occ_check_meaning.proofs.Complete.{program_complete}
use Rattle.occ_code.proofs.OneCode.{one_code}
use Rattle.occ_net_replay.specs.declared.choice.Choice.{Choice}
use Rattle.occ_net_replay.specs.Following.{AreBytes, or_limit}
use Rattle.occ_net_replay.specs.Replay.{Net, Replays, ending_of}
use Rattle.occ_net_replay.proofs.Same.{Passed, one_replay, passed}
use Rattle.occ_play.specs.declared.playing.Options.{Options}
use Rattle.occ_play.specs.declared.playing.Played.{Played}
use Rattle.occ_play.specs.Again.{IsSameAnswer, PlayedAgain, PlayedAlone}
use Rattle.occ_shown.specs.Answers.{answer_text, names_of}
use Rattle.occ_net_tables.specs.Outcomes.{Begins}
use Rattle.occ_play.specs.Playing.{IsAnswer, Unfolds}

-- ---- a text has one program at most

pub record MeansSame (u v : UnfoldedProgram) : Type 0 where
  pub term : meaning u ≡ meaning v
  pub channels : u.channels ≡ v.channels

both_parts : {t s : Term} {n m : Numbers} → ◌≡◌ {A = Option (Term × Numbers)} (Some (t, n)) (Some (s, m)) → (t ≡ s) × (n ≡ m)
both_parts {t = t} {s = s} {n = n} {m = m} e = let q : ◌≡◌ {A = Term × Numbers} (t, n) (s, m) = cc in (ap (λ z. z.0) q, ap (λ z. z.1) q)

one_unfolding : (items : List Item) (u v : UnfoldedProgram) → UnfoldsTo items u → UnfoldsTo items v → MeansSame u v
one_unfolding items u v x y =
    let both = both_parts (sym (program_complete x.1) ∙ program_complete y.1) in
    record { term = both.0; channels = sym x.3 ∙ ap (λ n. n.channels) both.1 ∙ y.3 }

pub one_meaning : (source : List ℕ) (u v : UnfoldedProgram) → Unfolds source u → Unfolds source v → MeansSame u v
one_meaning source u v x y =
    let lines : x.lines ≡ y.lines = one_reading source x.lines y.lines x.read y.read in
    let items : x.items ≡ y.items = one_tree x.items y.items x.parsed.bounded y.parsed.bounded (x.parsed.shown ∙ lines ∙ sym y.parsed.shown) in
    one_unfolding y.items u v (subst (λ l. UnfoldsTo l u) items x.unfolds) y.unfolds

-- ---- one list of used choices, one answer

module _ (options : Options) (source keyboard : List ℕ) (trace : Bool) (bytes_are : AreBytes keyboard) where
  module _ (list others : List Choice) (a b : Played) (bytes text : List ℕ) (x : IsAnswer options source keyboard list trace a bytes) (y : IsAnswer options source keyboard others trace b text) where
    same_program : MeansSame x.of_text.program y.of_text.program
    same_program = one_meaning source x.of_text.program y.of_text.program x.of_text.unfolds y.of_text.unfolds

    same_code : x.code ≡ y.code
    same_code = one_code x.of_text.program y.of_text.program options.quantum x.code y.code same_program.term same_program.channels (x.of_text.errors ∙ sym y.of_text.errors) x.of_text.from y.of_text.from

    one_net : (cs : List Choice) (m n : Net) → length cs < 2 ^ 64 → Replays x.code keyboard cs m → Replays y.code keyboard cs n → m ≡ n
    one_net cs m n small r s =
        one_replay x.of_text.program x.code options.quantum keyboard cs m n x.of_text.unfolds.well_formed x.of_text.lawful x.of_text.from.does bytes_are small r (subst (λ p. Replays p keyboard cs n) (sym same_code) s)

    pub by_used : length a.choices.items < 2 ^ 64 → a.choices.items ≡ b.choices.items → IsSameAnswer a b bytes text
    by_used small used =
        let net : x.net ≡ y.net = one_net a.choices.items x.net y.net small x.replays (subst (λ cs. Replays y.code keyboard cs y.net) (sym used) y.replays) in
        let ending : a.ending ≡ b.ending = x.ending ∙ ap (λ n. or_limit (ending_of x.code.errors n)) net ∙ ap (λ p. or_limit (ending_of p.errors y.net)) same_code ∙ sym y.ending in
        let trace_is = x.run.follows.communicates ∙ ap (λ n. n.trace) net ∙ sym y.run.follows.communicates in
        record {
          ending = ending;
          choices = used;
          bytes =
              x.shows ∙ ap (λ (cs : List Channel). answer_text (shown (names_of cs) x.run.follows.events) a.ending trace) same_program.channels
              ∙ ap (λ ms. answer_text (shown_by (names_of y.of_text.program.channels) ms) a.ending trace) trace_is
              ∙ ap (λ e. answer_text (shown (names_of y.of_text.program.channels) y.run.follows.events) e trace) ending ∙ sym y.shows;
        }

    -- where the one used more choices than the other, the other had no more
    pub used_all : (c : Choice) (rest : List Choice) → length a.choices.items < 2 ^ 64 → a.choices.items ≡ b.choices.items ++ c ∷ rest → b.choices.items ≡ others
    used_all c rest small e =
        let there : Passed x.code keyboard b.choices.items = passed x.code keyboard a.choices.items b.choices.items c rest x.net x.replays e in
        let fewer : length b.choices.items < 2 ^ 64 = (let q : length a.choices.items ≡ length b.choices.items + length (c ∷ rest) = ap length e ∙ length-append b.choices.items (c ∷ rest) in omega (arith, q, small)) in
        let net : there.net ≡ y.net = one_net b.choices.items there.net y.net fewer there.replays y.replays in
        y.used.whole (y.ending ∙ ap or_limit (ap (ending_of y.code.errors) (sym net) ∙ ap (λ p. ending_of p.errors there.net) (sym same_code) ∙ there.going))

-- ---- beginnings of one list

pub data Compared (xs ys : List Choice) : Type 0 where
  same : xs ≡ ys → Compared xs ys
  longer : (c : Choice) (rest : List Choice) → xs ≡ ys ++ c ∷ rest → Compared xs ys
  shorter : (c : Choice) (rest : List Choice) → ys ≡ xs ++ c ∷ rest → Compared xs ys

compared : (xs ys more others : List Choice) → xs ++ more ≡ ys ++ others → Compared xs ys
compared [] [] more others e = same refl
compared [] (y ∷ ys) more others e = shorter y ys refl
compared (x ∷ xs) [] more others e = longer x xs refl
compared (x ∷ xs) (y ∷ ys) more others e = by (compared xs ys more others rest)
  where
    first : x ≡ y
    first = cc

    rest : xs ++ more ≡ ys ++ others
    rest = cc

    by : Compared xs ys → Compared (x ∷ xs) (y ∷ ys)
    by (same q) = same (ap (λ z. z ∷ xs) first ∙ ap (λ l. y ∷ l) q)
    by (longer c l q) = longer c l (ap (λ z. z ∷ xs) first ∙ ap (λ l. y ∷ l) q)
    by (shorter c l q) = shorter c l (ap (λ z. z ∷ ys) (sym first) ∙ ap (λ l. x ∷ l) q)

begins_short : (front whole : List Choice) → Begins front whole → length front ≤ length whole
begins_short front whole h = let q : length whole ≡ length front + length h.rest = ap length h.is ∙ length-append front h.rest in omega (arith, q)

longer_by : (xs ys : List Choice) (c : Choice) (rest : List Choice) → xs ≡ ys ++ c ∷ rest → length ys < length xs
longer_by xs ys c rest e = let q : length xs ≡ length ys + length (c ∷ rest) = ap length e ∙ length-append ys (c ∷ rest) in omega (arith, q)

too_long : (xs ys whole : List Choice) (c : Choice) (rest : List Choice) → xs ≡ ys ++ c ∷ rest → Begins xs whole → ys ≡ whole → ⊥
too_long xs ys whole c rest e begun all =
    let more = longer_by xs ys c rest e in
    let within = begins_short xs whole begun in
    let same_length : length ys ≡ length whole = ap length all in
    absurd (omega (arith, more, within, same_length))

-- ---- played again

pub played_again : PlayedAgain
played_again options source keyboard list trace a b bytes text keys small x = (by_list, by_own)
  where
    few : (front : List Choice) → Begins front list → length front < 2 ^ 64
    few front h = let q = begins_short front list h in omega (arith, q, small)

    by_list : IsAnswer options source keyboard list trace b text → IsSameAnswer a b bytes text
    by_list y = by (compared a.choices.items b.choices.items x.used.begins.rest y.used.begins.rest (sym x.used.begins.is ∙ y.used.begins.is))
      where
        by : Compared a.choices.items b.choices.items → IsSameAnswer a b bytes text
        by (same q) = by_used options source keyboard trace keys list list a b bytes text x y (few _ x.used.begins) q
        by (longer c rest q) = absurd (too_long a.choices.items b.choices.items list c rest q x.used.begins (used_all options source keyboard trace keys list list a b bytes text x y c rest (few _ x.used.begins) q))
        by (shorter c rest q) = absurd (too_long b.choices.items a.choices.items list c rest q y.used.begins (used_all options source keyboard trace keys list list b a text bytes y x c rest (few _ y.used.begins) q))

    by_own : IsAnswer options source keyboard a.choices.items trace b text → IsSameAnswer a b bytes text
    by_own y = by y.used.begins.rest y.used.begins.is
      where
        by : (more : List Choice) → a.choices.items ≡ b.choices.items ++ more → IsSameAnswer a b bytes text
        by [] q = by_used options source keyboard trace keys list a.choices.items a b bytes text x y (few _ x.used.begins) (q ∙ append-nil b.choices.items)
        by (c ∷ rest) q = absurd (too_long a.choices.items b.choices.items a.choices.items c rest q (record { rest = []; is = sym (append-nil a.choices.items) }) (used_all options source keyboard trace keys list a.choices.items a b bytes text x y c rest (few _ x.used.begins) q))

pub played_alone : PlayedAlone
played_alone options source keyboard limit trace a b bytes text keys small x y =
    let few : length a.choices.items < 2 ^ 64 = omega (arith, x.few, small) in
    (played_again options source keyboard a.choices.items trace a b bytes text keys few x.answer).0 y
