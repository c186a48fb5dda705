use Rattle.std.proofs.Common.{◌≡◌, ◌∷◌, ◌++◌, [], sym}
use Rattle.std.proofs.lemmas.List.{map_push}
use Rattle.std.proofs.lemmas.Result.{err_from_is_err_and}
use Rattle.occ_text.specs.Words.{word, words}
use Rattle.occ_text.specs.Reading.{word_at, words_from}
use Rattle.occ_text.proofs.Steps.{fails_along, word_is_less, words_end, words_space, words_comment, words_go_on, words_fail}
use Rattle.occ_text.proofs.words.words_of.Goals.{in_default, in-len1-up+else-first-eq32+then-is_comment}
use Rattle.occ_text.proofs.words.words_of.Goals as goal

pub loop-rest-preserved-then-first-eq32 : goal.loop-rest-preserved-then-first-eq32
loop-rest-preserved-then-first-eq32 c = words_space (words c.loop-rest.tokens.items) c.loop-rest.rest.now (words_from 0 c.args.bytes.now) c.loop-rest.invariant c.in-len1-up.len_at_least c.if-first-eq32.true

pub returns-in_err-token-clause-value : goal.returns-in_err-token-clause-value
returns-in_err-token-clause-value c =
    let p = err_from_is_err_and c.from_residual.result c.from_residual.ensures.1 in
    rw (p.1, p.2) (fails_along c.in_err-token.field-0.0 (word_at c.loop-rest.rest.now) (words_from 0 c.args.bytes.now)
    (words_fail (words c.loop-rest.tokens.items) c.loop-rest.rest.now (words_from 0 c.args.bytes.now) c.loop-rest.invariant c.in-len1-up.len_at_least c.if-first-eq32.false (sym c.if-is_comment.ensures)) c.in_err-token.ensures.value)

pub loop-rest-smaller : goal.loop-rest-smaller
loop-rest-smaller c = word_is_less c.loop-rest.rest.now (word c.in_ok-token.token) c.in_ok-token.after.now c.in_ok-token.ensures.value

pub loop-rest-preserved : goal.loop-rest-preserved
loop-rest-preserved c =
    let e : words c.push.new.self.items ≡ words c.loop-rest.tokens.items ++ word c.in_ok-token.token ∷ [] = rw c.in_ok-push.ensures.items (map_push word c.loop-rest.tokens.items c.in_ok-token.token) in
    rw e (words_go_on (words c.loop-rest.tokens.items) c.loop-rest.rest.now (words_from 0 c.args.bytes.now) c.loop-rest.invariant (word c.in_ok-token.token) c.in_ok-token.after.now (sym c.if-is_comment.ensures) c.in_ok-token.ensures.value)

pub returns-clause-value : goal.returns-clause-value
returns-clause-value c =
    elim c.if-rest-lt1.branch [
      | in_default w ↦ words_end (words c.loop-rest.tokens.items) c.loop-rest.rest.now (words_from 0 c.args.bytes.now) c.loop-rest.invariant w.in_default.len_below
      | in-len1-up+else-first-eq32+then-is_comment w ↦ words_comment (words c.loop-rest.tokens.items) c.loop-rest.rest.now (words_from 0 c.args.bytes.now) c.loop-rest.invariant w.if-first-eq32.false (sym w.if-is_comment.ensures)
    ]
