-- The numbers that the words of the command line give.
-- Manual: nothing; the words are (own).
use Rattle.std.specs.Prelude.{Option, unwrap_or, ℕ, ◌≡◌, ◌≤◌}
use Rattle.occ_play_inputs.specs.declared.numbers.Given.{Given}
use Rattle.occ_play_inputs.specs.declared.words.Numbers.{Numbers}

-- each is the one that is given, and where none is given its default
pub record AreNumbers (given : Given) (numbers : Numbers) : Type 0 where
  pub limit : numbers.limit ≡ unwrap_or given.limit 1000000
  pub quantum : numbers.quantum ≡ unwrap_or given.quantum 1
  pub workers : numbers.workers ≡ given.workers
  pub states : numbers.states ≡ unwrap_or given.states 1000000
  pub memory : numbers.memory ≡ unwrap_or given.memory 1024
  pub seed : numbers.seed ≡ given.seed
  pub tries : numbers.tries ≡ unwrap_or given.tries 1
  pub arrows : numbers.arrows ≡ unwrap_or given.arrows 200

-- one of them, within its range
pub record IsNumber (given : Option ℕ) (default least most number : ℕ) : Type 0 where
  pub is : number ≡ unwrap_or given default
  pub low : least ≤ number
  pub high : number ≤ most
