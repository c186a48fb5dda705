use Rattle.std.proofs.Common.{◌∙◌, ◌++◌, ap, append-nil, subst, sym}
use Rattle.occ_term.specs.declared.message.Message.{Message}
use Rattle.occ_term.specs.Runs.{bytes_in}
use Rattle.occ_shown.specs.Answers.{IsByteMessage}
use Rattle.occ_shown.proofs.Passing.{bytes_left, bytes_off, message_there, one_written}
use Rattle.occ_shown.proofs.showing.write_bytes.Goals as goal

pub byte_of-requires : goal.byte_of-requires
byte_of-requires c =
    subst IsByteMessage (sym c.message.ensures)
    (message_there c.args.chan c.loop-communication.entries c.in-Some.communication c.next_on.new.self c.in-Some.ensures.some c.loop-communication.invariant.bytes)

pub loop-communication-preserved : goal.loop-communication-preserved
loop-communication-preserved c =
    let old = c.loop-communication.entries in
    let x = c.in-Some.communication in
    let new = c.next_on.new.self in
    let next = c.in-Some.ensures.some in
    let h = c.loop-communication.invariant in
    record {
      written = one_written c.args.chan old x new next c.loop-communication.out.items c.push.new.self.items _ c.byte_of.result h.written c.in_ok-push.ensures.items (ap (λ (m : Message). bytes_in m.items) (sym c.message.ensures) ∙ c.byte_of.ensures);
      bytes = bytes_left c.args.chan old x new next h.bytes;
    }

pub returns : goal.returns
returns c =
    let out = c.loop-communication.out.items in
    sym (append-nil out) ∙ ap (λ l. out ++ l) (sym (bytes_off c.args.chan c.loop-communication.entries c.in_default.ensures.none)) ∙ c.loop-communication.invariant.written
