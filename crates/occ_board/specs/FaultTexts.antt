-- The lines that say why there is no board, or nothing was published.
-- Manual: nothing; this is (own).
use Rattle.std.specs.Prelude.{List, ℕ, codes}
use Rattle.occ_board.specs.declared.publisher.BoardFault.{BoardFault}
use Rattle.occ_board.specs.declared.publisher.BoardFault.TheVariants.{BadWatchers, Refused}

abbrev pub fault_text : BoardFault → List ℕ
fault_text BadWatchers = codes "refused 82 BadWatchers"
fault_text Refused = codes "refused 87 Refused"
