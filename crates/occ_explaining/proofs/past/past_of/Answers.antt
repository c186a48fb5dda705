use Rattle.occ_explaining.proofs.past.past_of.Goals as goal

pub returns : goal.returns
returns c = λ options source h. record { program = c.args.studied.now.code; code = h.known.code; past = c.in_ok-turn.ensures }
