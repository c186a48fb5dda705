use Rattle.std.proofs.Common.{◌≡◌, ◌∙◌, [], ◌∷◌, ◌++◌, sym, ap}
use Rattle.logbook.specs.Pages.{Book}
use Rattle.occ_board.specs.declared.shown.Edition.{Edition}
use Rattle.occ_board.specs.Editions.{blank, Follows, newest, reached}
use Rattle.occ_board.proofs.Histories.{newest_append}
use Rattle.occ_board.proofs.Adding.{adds_moves}
use Rattle.occ_board.proofs.front.Front.add.Goals as goal

pub compare_exchange-found-requires : goal.compare_exchange-found-requires
compare_exchange-found-requires g c =
    let h = c.head.invariant in
    let mine = c.self.inside.seen in
    let ask = g.M.Plain.ask c.args.about.now in
    let offer = c.plain-offer.ensures in
    let pen = c.no_pen-pen.ensures in
    let seen = c.again-seen.ensures in
    let book : c.again-seen.result.book ≡ c.head.inside.word.book = ap (λ s. s.book) seen ∙ (ap (λ r. r.book) c.self.view_is ∙ (sym c.requires.head ∙ sym c.head.view_is)) in
    let may : Follows (newest mine.log) ask = rw (ap (λ r. r.edition) c.self.view_is) c.requires.next.0 in (
      ap (λ w. w.tracked) h,
      book,
      pen.0 ∙ book,
      offer.0,
      rw (ap (λ w. w.key) h, pen.1, offer.1, offer.3, c.requires.next.1, ap (λ s. s.log) seen) (adds_moves mine.log ask c.self.inside.editions (sym c.self.invariant.0) may),
    )

pub returns : goal.returns
returns g c =
    let mine = c.self.inside.seen.log in
    let ask = g.M.Plain.ask c.args.about.now in
    let grew = (c.compare_exchange-found.ensures.7 c.if-found-editions.false).0 in
    let log : c.compare_exchange-found.new.seen.log ≡ mine ++ ask ∷ [] = grew ∙ (ap (λ s. s.log ++ c.plain-offer.result.ask ∷ []) c.again-seen.ensures ∙ ap (λ a. mine ++ a ∷ []) c.plain-offer.ensures.1) in
    let edition : newest c.compare_exchange-found.new.seen.log ≡ ask = ap newest log ∙ newest_append blank mine (ask ∷ []) in
    let book : c.compare_exchange-found.new.seen.book ≡ c.args.self.now.book = c.compare_exchange-found.ensures.0 ∙ (ap (λ s. s.book) c.again-seen.ensures ∙ ap (λ r. r.book) c.self.view_is) in
    ap (λ (b : Book). reached b (newest c.compare_exchange-found.new.seen.log)) book ∙ ap (λ (e : Edition). reached c.args.self.now.book e) edition
