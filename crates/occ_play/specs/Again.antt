-- A run that is played again by the same choices, or by those that it used, has the same answer.
-- Manual: nothing; this is (own).
use Rattle.std.specs.Prelude.{Bool, List, length, ℕ, ◌<◌, ◌^◌, ◌≡◌}
use Rattle.occ_net_replay.specs.declared.choice.Choice.{Choice}
use Rattle.occ_net_replay.specs.Following.{AreBytes}
use Rattle.occ_play.specs.declared.playing.Options.{Options}
use Rattle.occ_play.specs.declared.playing.Played.{Played}
use Rattle.occ_play.specs.Playing.{IsAnswer}
use Rattle.occ_play.specs.Working.{IsAnswerWithin}

-- one ending, one list of used choices, one text
pub record IsSameAnswer (a b : Played) (text other : List ℕ) : Type 0 where
  pub ending : a.ending ≡ b.ending
  pub choices : a.choices.items ≡ b.choices.items
  pub bytes : text ≡ other

-- Two answers of one source, keyboard, word for the trace and options are the same where both are by one list of choices, and where
-- the one is by the choices that the other used.
abbrev pub PlayedAgain : Type 0
PlayedAgain =
    (options : Options) (source keyboard : List ℕ) (list : List Choice) (trace : Bool) (a b : Played) (bytes others : List ℕ)
    → AreBytes keyboard → length list < 2 ^ 64
    → IsAnswer options source keyboard list trace a bytes
    → (IsAnswer options source keyboard list trace b others → IsSameAnswer a b bytes others)
    × (IsAnswer options source keyboard a.choices.items trace b others → IsSameAnswer a b bytes others)

-- What workers played and what one thread plays by the choices that they used is the same.
abbrev pub PlayedAlone : Type 0
PlayedAlone =
    (options : Options) (source keyboard : List ℕ) (limit : ℕ) (trace : Bool) (a b : Played) (bytes others : List ℕ)
    → AreBytes keyboard → limit < 2 ^ 64
    → IsAnswerWithin options source keyboard limit trace a bytes
    → IsAnswer options source keyboard a.choices.items trace b others
    → IsSameAnswer a b bytes others
