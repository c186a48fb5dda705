use Rattle.std.proofs.Common.{◌≡◌, ◌∙◌, ◌∷◌, ◌+◌, ◌≤◌, [], ap, sym, refl, take, drop, length, arith}
use Rattle.std.proofs.lemmas.List.{drop_all, take_all}
use Rattle.occ_choices.specs.Lines.{lines_of}
use Rattle.occ_choices.proofs.Cutting.{glued, goes_on, is_cut, glued_last}
use Rattle.occ_choices.proofs.read.first_line.Goals as goal

pub loop-i-init : goal.loop-i-init
loop-i-init c = refl

pub returns-then-text-i-eq10 : goal.returns-then-text-i-eq10
returns-then-text-i-eq10 c =
    is_cut c.args.text.now c.loop-i.i 0 c.loop-i-test.true c.loop-i.invariant c.if-text-i-eq10.true
    ∙ ap (λ l. l ∷ lines_of (drop (c.loop-i.i + 1) c.args.text.now)) (sym c.split_at.ensures.front) ∙ ap (λ l. c.split_at.result.0.now ∷ lines_of l) (sym c.split_at.ensures.back)

pub loop-i-preserved : goal.loop-i-preserved
loop-i-preserved c = goes_on c.args.text.now c.loop-i.i 0 c.loop-i-test.true c.loop-i.invariant c.if-text-i-eq10.false

pub returns : goal.returns
returns c =
    let past : length c.args.text.now ≤ c.loop-i.i = c.loop-i-test.false in
    let front : take c.loop-i.i c.args.text.now ≡ c.args.text.now = take_all c.loop-i.i c.args.text.now past in
    let back : drop c.loop-i.i c.args.text.now ≡ [] = drop_all c.loop-i.i c.args.text.now past in
    let whole : c.split_at-2.result.0.now ≡ c.args.text.now = c.split_at-2.ensures.front ∙ take_all (length c.args.text.now) c.args.text.now (omega arith) in
    let none : c.split_at-2.result.1.now ≡ [] = c.split_at-2.ensures.back ∙ drop_all (length c.args.text.now) c.args.text.now (omega arith) in
    c.loop-i.invariant ∙ ap (λ l. glued l (lines_of (drop c.loop-i.i c.args.text.now))) front ∙ ap (λ l. glued c.args.text.now (lines_of l)) back
    ∙ glued_last c.args.text.now c.requires ∙ ap (λ l. l ∷ []) (sym whole) ∙ ap (λ l. c.split_at-2.result.0.now ∷ lines_of l) (sym none)
