use Rattle.std.proofs.Common.{◌≡◌, length}
use Rattle.occ_text.specs.Words.{words}
use Rattle.occ_text.specs.Reading.{words_from}
use Rattle.occ_text.proofs.Steps.{after_words}
use Rattle.occ_text.proofs.words.words_of.Given as goal

abbrev pub invariant-loop-rest : goal.invariant-loop-rest
invariant-loop-rest l = after_words (words l.tokens.items) (words_from 0 l.rest) ≡ words_from 0 l.bytes

abbrev pub decreases-loop-rest : goal.decreases-loop-rest
decreases-loop-rest l = length l.rest
