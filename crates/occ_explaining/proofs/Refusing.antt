-- What refuses a text refuses it for turns of any options, and has no lines of it told.
use Rattle.std.proofs.Common.{List, ℕ}
use Rattle.occ_play.specs.Playing.{Refuses, RefusesText}
use Rattle.occ_play.specs.declared.fault.PlayFault.{PlayFault}
use Rattle.occ_play.specs.declared.fault.PlayFault.TheVariants as play
use Rattle.occ_play.specs.declared.playing.Options.{Options}
use Rattle.occ_explaining.specs.Unreached.{RefusesToTell}

pub refuses_text : (options : Options) (source : List ℕ) (fault : PlayFault) → RefusesText source fault → Refuses options source fault
refuses_text options source (play.Text fault) h = h
refuses_text options source (play.Parse fault) h = h
refuses_text options source (play.Check fault) h = h
refuses_text options source (play.Usage fault) h = h
refuses_text options source (play.Code fault) h = absurd h
refuses_text options source (play.Write written) h = h
refuses_text options source (play.Run fault) h = h
refuses_text options source (play.Memory e) h = absurd h

pub refuses_lines : (source : List ℕ) (fault : PlayFault) → RefusesText source fault → RefusesToTell source fault
refuses_lines source (play.Text fault) h = h
refuses_lines source (play.Parse fault) h = h
refuses_lines source (play.Check fault) h = h
refuses_lines source (play.Usage fault) h = h
refuses_lines source (play.Code fault) h = h
refuses_lines source (play.Write written) h = h
refuses_lines source (play.Run fault) h = h
refuses_lines source (play.Memory e) h = absurd h
