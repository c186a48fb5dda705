use Rattle.occ_report.proofs.calls.Calls.begin.Given as goal

abbrev pub decreases-outwards : goal.decreases-outwards
decreases-outwards l = l.at
