use Rattle.occ_code.proofs.RunningItems as items
use Rattle.occ_code.proofs.laws.items_run.Goals as goal

pub returns : goal.returns
returns c = λ code f d xs types pc pc' st q sp few typed h. items.items_run code f st sp d few xs types typed q pc pc' h
