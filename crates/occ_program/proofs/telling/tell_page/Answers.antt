use Rattle.occ_program.specs.Coming.{options_in}
use Rattle.occ_program.specs.Pages.{PagesRun}
use Rattle.occ_program.proofs.ToldFiles.{known_told, none_told}
use Rattle.occ_program.proofs.ToldPages.{shows_of}
use Rattle.occ_program.proofs.telling.tell_page.Goals as goal

pub returns-in_ok-text-in-Some-clause-left : goal.returns-in_ok-text-in-Some-clause-left
returns-in_ok-text-in-Some-clause-left g c =
    let words = c.args.words.now in
    let inputs = c.args.inputs.now in
    let played = c.args.played.now in
    let told =
    shows_of c.args.studied.now (options_in words) inputs.source.items c.as_slice-source.result.now inputs.keyboard.items c.as_slice-keyboard.result.now played.choices.items c.as_slice-choices.result.now c.in_ok-text-in-Some.text
    c.as_slice-source.ensures.value c.as_slice-keyboard.ensures.value c.as_slice-choices.ensures.value c.requires c.in_ok-text-in-Some.ensures in
    known_told g.F.Folder.left (PagesRun words inputs played) c.args.folder.now c.write_text.new.folder words.page c.in-Some.path c.in_ok-text-in-Some.text.items c.as_slice.result.now c.write_text.result c.in-Some.is told c.as_slice.ensures.value
    c.write_text.ensures.left c.write_text.ensures.kept

pub returns-in-None-clause-left : goal.returns-in-None-clause-left
returns-in-None-clause-left g c = none_told g.F.Folder.left (PagesRun c.args.words.now c.args.inputs.now c.args.played.now) c.args.folder.now c.args.words.now.page c.in-None.is
