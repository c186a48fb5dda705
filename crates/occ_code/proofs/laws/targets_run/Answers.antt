use Rattle.occ_code.proofs.RunningItems as items
use Rattle.occ_code.proofs.laws.targets_run.Goals as goal

pub returns : goal.returns
returns c = λ code f d xs types pc pc' st q sp few typed h. items.targets_run code f st q d few xs types typed sp pc pc' h
