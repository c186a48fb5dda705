use Rattle.std.proofs.Common.{rules, ◌≡◌, ◌∙◌, ◌∷◌, ◌++◌, [], false, true, reverse, sym}
use Rattle.occ_term.specs.Terms as T
use Rattle.occ_term.specs.View.{term_of, terms_of}
use Rattle.occ_term.specs.declared.term.Term as code
use Rattle.occ_term.specs.declared.term.Term.{the_lemmas}
use Rattle.occ_check.proofs.Heading.{heads_first, heads_next, heads_last}
use Rattle.occ_check.proofs.entering.headed.Goals as goal

pub backwards-init : goal.backwards-init
backwards-init c =
    let one : c.push.new.self.items ≡ c.args.term ∷ [] = search rules in
    heads_first c.args.heads c.args.term c.push.new.self.items one

pub backwards-preserved : goal.backwards-preserved
backwards-preserved c =
    let added : c.push-in-Some.new.self.items ≡ c.backwards.parts.items ++ c.set.result ∷ [] = search rules in
    heads_next c.args.heads (term_of c.args.term) c.backwards.before c.pop.new.self c.backwards.parts.items c.push-in-Some.new.self.items c.in-Some.head c.set.result c.backwards.invariant
    c.in-Some.ensures added c.set.ensures

pub returns-clause-term : goal.returns-clause-term
returns-clause-term c =
    let made : term_of (code.Seq c.from_vec.result) ≡ T.Seq (terms_of c.from_vec.result) = search (rules, the_lemmas) in
    let none : c.backwards.before ≡ [] = search rules in
    let whole : c.from_vec.result ≡ reverse c.backwards.parts.items = search rules in
    made
    ∙ sym (heads_last c.args.heads (term_of c.args.term) c.backwards.before c.backwards.parts.items c.from_vec.result c.backwards.invariant none whole
    (λ e. let both : false ≡ true = sym c.if-is_empty.false ∙ c.is_empty.ensures.1 e in cc))
