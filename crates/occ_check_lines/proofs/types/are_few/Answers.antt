use Rattle.occ_check_lines.proofs.SizeLists.{many_few, one_few}
use Rattle.occ_check_lines.proofs.types.are_few.Goals as goal

pub returns-in-len1-clause-few : goal.returns-in-len1-clause-few
returns-in-len1-clause-few c = λ h. one_few c.args.sizes.now c.in-len1.len_below (c.type_inv.sizes 0).fits

pub returns-in-len2-up-clause-few : goal.returns-in-len2-up-clause-few
returns-in-len2-up-clause-few c = λ h. many_few c.args.sizes.now c.components.result c.requires c.components.ensures h
