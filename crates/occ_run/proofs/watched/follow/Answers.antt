use Rattle.std.proofs.Common.{◌≡◌, ◌∙◌, refl, sym, ap, subst, List}
use mathlib.Core.List.{IsPrefix}
use Rattle.occ_term.specs.declared.names.Channel.{Channel}
use Rattle.occ_board.specs.Traces.{Publishing}
use Rattle.occ_net_tables.specs.TracePlaces.{place_behind}
use Rattle.occ_run.specs.Telling.{and_news}
use Rattle.occ_run.proofs.Telling.{begins_held, few, held_begins, may_show, told_first, told_next}
use Rattle.occ_run.proofs.watched.follow.Goals as goal

pub loop-init : goal.loop-init
loop-init g c = told_first _ _ _ _ _ _ _ _ _ c.requires.first (c.mark-mark.ensures ∙ ap place_behind c.new.ensures) refl refl c.requires.going.0 c.requires.going.1

pub append_news-requires-clause-few : goal.append_news-requires-clause-few
append_news-requires-clause-few g c = few _ _ _ _ _ _ _ _ _ _ _ _ c.loop.invariant c.in_ok-next.ensures

pub close-requires-clause-may : goal.close-requires-clause-may
close-requires-clause-may g c =
    let pending = subst (λ (cs : List Channel). c.append_news.new.publisher ≡ and_news c.loop.publisher cs c.loop.number c.take_news.new.news) c.requires.channels c.in_ok-number.ensures.pending in
    may_show _ _ _ _ _ _ _ _ _ _ _ _ c.loop.invariant c.in_ok-next.ensures _ pending g.J.Naming.may c.requires.may

pub publish-requires-clause-may : goal.publish-requires-clause-may
publish-requires-clause-may g c =
    let pending = subst (λ (cs : List Channel). c.append_news.new.publisher ≡ and_news c.loop.publisher cs c.loop.number c.take_news.new.news) c.requires.channels c.in_ok-number.ensures.pending in
    may_show _ _ _ _ _ _ _ _ _ _ _ _ c.loop.invariant c.in_ok-next.ensures _ pending g.J.Naming.may c.requires.may

pub returns-then-over : goal.returns-then-over
returns-then-over g c =
    held_begins _ c.args.publisher.now.published _ (subst (λ (x : Publishing). IsPrefix c.args.publisher.now.published x.published) (sym c.in_ok-number.ensures.pending) (begins_held _ _ _ _ _ _ _ _ _ c.loop.invariant)) c.close.ensures

pub loop-preserved : goal.loop-preserved
loop-preserved g c =
    let pending = subst (λ (cs : List Channel). c.append_news.new.publisher ≡ and_news c.loop.publisher cs c.loop.number c.take_news.new.news) c.requires.channels c.in_ok-number.ensures.pending in
    told_next _ _ _ _ _ _ _ _ _ _ _ _ c.loop.invariant c.in_ok-next.ensures _ pending _ _ c.in_ok-publish.ensures c.in_ok-number.ensures.number
