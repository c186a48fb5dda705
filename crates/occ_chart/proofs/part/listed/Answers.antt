use Rattle.std.proofs.Common.{◌≡◌, ◌∙◌, ◌<◌, ◌+◌, ◌∷◌, length, suc, false, ap, sym, arith, rules}
use Rattle.occ_chart.specs.LeftOut.{is_between_others, seen_entry}
use Rattle.occ_chart.proofs.Drawing.{list_next}
use Rattle.occ_shown.specs.Answers.{names_of}
use Rattle.occ_chart.proofs.part.listed.Goals as goal

pub loop-communication-preserved-then-wanted-gt0 : goal.loop-communication-preserved-then-wanted-gt0
loop-communication-preserved-then-wanted-gt0 c =
    let l = c.loop-communication in
    let left = c.args.left_out.now in
    let split : l.communication-iterator ≡ c.in-Some.communication ∷ c.next.new.self = search rules in
    let size : length l.communication-iterator ≡ suc (length c.next.new.self) = ap length split in
    let plain : is_between_others left c.in-Some.communication ≡ false = sym c.is_between_others.ensures ∙ c.if-is_between_others.false in
    let some : 0 < l.wanted = omega (arith, c.if-wanted-gt0.true) in
    let none : l.before ≡ 0 = omega (arith, c.if-before-gt0.false) in
    record {
      counted = omega (arith, size, l.invariant.counted);
      few = search rules;
      listed =
          list_next left (names_of c.args.channels.now) (l.number + 1) l.wanted l.before l.list.items c.push.new.self.items c.in-Some.communication l.communication-iterator c.next.new.self c.in_ok-seen.field-0 _ split plain some none
          (c.in_ok-seen.ensures ∙ ap (seen_entry left) c.in_ok-shown.ensures) c.in_ok-push.ensures.items l.invariant.listed;
    }
