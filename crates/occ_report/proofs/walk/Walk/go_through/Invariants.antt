use Rattle.occ_report.proofs.walk.Walk.go_through.Given as goal

abbrev pub decreases-parts : goal.decreases-parts
decreases-parts l = l.parts
