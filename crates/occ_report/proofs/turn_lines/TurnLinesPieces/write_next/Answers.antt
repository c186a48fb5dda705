use Rattle.std.proofs.Common.{◌∙◌, ◌++◌, ◌+◌, List, ℕ, ap, append_assoc, arith, length, subst, sym}
use Rattle.occ_net_replay.specs.Replay.{Net, ending_of}
use Rattle.occ_net_tables.specs.Holding.{Holds}
use Rattle.occ_report.specs.Steps.{IsSteps, step_text}
use Rattle.occ_shown.specs.Answers.{names_of}
use Rattle.occ_report.proofs.Turns.{ended_here, line_more, none_left, none_of, some_none, stands}
use Rattle.occ_report.proofs.turn_lines.TurnLinesPieces.write_next.Goals as goal

pub returns-then-is_some-clause-end : goal.returns-then-is_some-clause-end
returns-then-is_some-clause-end c = λ _ list text t.
    let s = c.args.self.now in
    ended_here s.places.now s.code.now s.keyboard.now s.turns s.rest.now list s.tables text t
    (λ none.
    absurd (some_none c.ending.result (sym c.is_some.ensures ∙ c.if-is_some.true)
    (c.ending.ensures s.code.now s.keyboard.now t.net t.holds ∙ ap (λ e. ending_of e t.net) c.errors.ensures ∙ none)))

pub returns-in_default-clause-end : goal.returns-in_default-clause-end
returns-in_default-clause-end c = λ _ list text t.
    let s = c.args.self.now in
    ended_here s.places.now s.code.now s.keyboard.now s.turns s.rest.now list s.tables text t (λ e. none_left s.rest.now c.in_default.ensures.cases)

pub step-requires : goal.step-requires
step-requires c =
    let s = c.args.self.now in
    let h = c.requires.taken in
    let few = c.requires.few in
    let going = ap (λ e. ending_of e h.net) (sym c.errors.ensures) ∙ sym (c.ending.ensures s.code.now s.keyboard.now h.net h.holds) ∙ none_of c.ending.result (sym c.is_some.ensures ∙ c.if-is_some.false) in
    stands s.places.now s.code.now s.keyboard.now s.turns s.rest.now c.requires.list s.tables c.requires.text h going (omega (arith, few, ap length c.in-Some.ensures.cases.0))

pub returns : goal.returns
returns c =
    let s = c.args.self.now in
    let p = s.code.now in
    let keys = s.keyboard.now in
    let known = s.places.now in
    let one = c.in-Some.choice.now in
    let others = c.in-Some.others.now in
    let first = c.in-Some.ensures.cases.0 in
    let few = c.requires.few in
    let new = c.step.new.tables in
    let longer = c.step.new.out.items in
    let h = c.requires.taken in
    let x = c.in_ok-step.ensures h.net h.holds in
    let piece : List ℕ = step_text (names_of p.channels) known (s.turns + 1) h.net x.taken.number one.pick x.taken.after x.next in
    let going = λ (net : Net) (holds : Holds p keys s.tables net).
    ap (λ e. ending_of e net) (sym c.errors.ensures) ∙ sym (c.ending.ensures p keys net holds) ∙ none_of c.ending.result (sym c.is_some.ensures ∙ c.if-is_some.false) in
    record {
      more = λ _. record {
        piece = piece;
        added = x.is;
        so = λ rest k list text t.
            subst (IsSteps known p keys list) (append_assoc text piece rest)
            (k list (text ++ piece) (line_more known p keys s.turns s.rest.now others list one s.tables new text c.args.out.now.items longer piece t (going t.net t.holds) first c.in_ok-step.ensures x.is));
      };
      can = λ _. record {
        list = c.requires.list;
        text = c.requires.text ++ piece;
        taken = line_more known p keys s.turns s.rest.now others c.requires.list one s.tables new c.requires.text c.args.out.now.items longer piece h (going h.net h.holds) first c.in_ok-step.ensures x.is;
        few = omega (arith, few, ap length first);
      };
      fewer = λ _. omega (arith, ap length first);
      end = λ e. cc;
      kept = λ e. cc;
    }
