use Rattle.occ_ends.proofs.endless.comes_again.Goals as goal

pub returns-in_default-clause-no : goal.returns-in_default-clause-no
returns-in_default-clause-no c = λ isnt keyboard net h x. c.in_default.ensures.none c.args.code.now keyboard net x.task h x.there
