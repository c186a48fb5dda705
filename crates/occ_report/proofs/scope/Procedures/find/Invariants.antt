use Rattle.occ_report.proofs.scope.Procedures.find.Given as goal

abbrev pub decreases-outwards : goal.decreases-outwards
decreases-outwards l = l.steps
