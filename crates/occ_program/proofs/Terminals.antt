-- Keyboards that are left unread.
use Rattle.std.proofs.Common.{◌≡◌, Bool, List, None, Option, Some, subst, true, ℕ}
use Rattle.occ_explaining.specs.Typing.{NeedsNoKeyboard}
use Rattle.occ_play.specs.declared.playing.Options.{Options}
use Rattle.occ_play_inputs.specs.Asked.{IsTyped}

-- of the words' options
pub unneeded : (options other : Options) (source : List ℕ) → options ≡ other → NeedsNoKeyboard options source → NeedsNoKeyboard other source
unneeded options other source same h = subst (λ o. NeedsNoKeyboard o source) same h

-- nothing is typed where no file is named, whether or not the keyboard is wanted
pub typed_or : {Path : Type 0} (file : Option Path) (wanted : Bool) (keyboard : List ℕ) → IsTyped file wanted keyboard → IsTyped file true keyboard
typed_or None wanted keyboard h = h
typed_or (Some path) wanted keyboard h = tt
