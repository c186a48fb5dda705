-- A SEQ that is made from its last part to its first.
use Rattle.std.proofs.Common.{◌≡◌, ◌∙◌, List, [], ◌∷◌, ◌++◌, ap, refl, sym, reverse}
use Rattle.std.proofs.lemmas.List.{map-append, reverse-append}
use Rattle.occ_term.specs.Terms as T
use Rattle.occ_term.specs.Terms.{Terms, no_terms, then_term}
use Rattle.occ_term.specs.View.{declaration_of, declarations_of, term_of, terms_of}
use Rattle.occ_term.specs.declared.expression.Declaration.{Declaration}
use Rattle.occ_term.specs.declared.term.Term.{Term}
use Rattle.occ_check_meaning.specs.Actions.{as_term, followed, headed}

-- declarations before other terms
abbrev pub before : List T.Declaration → Terms → Terms
before [] ts = ts
before (h ∷ hs) ts = then_term (as_term h) (before hs ts)

before_one : (hs : List T.Declaration) (t : T.Term) → followed hs t ≡ before hs (then_term t no_terms)
before_one [] t = refl
before_one (h ∷ hs) t = ap (then_term (as_term h)) (before_one hs t)

last_first : (hs : List T.Declaration) (h : T.Declaration) (ts : Terms) → before (hs ++ h ∷ []) ts ≡ before hs (then_term (as_term h) ts)
last_first [] h ts = refl
last_first (g ∷ hs) h ts = ap (then_term (as_term g)) (last_first hs h ts)

-- what is left stands before the parts that are made, the last of which is the first
pub record Heads (heads : List Declaration) (t : T.Term) (left : List Declaration) (parts : List Term) : Type 0 where
  pub is : followed (declarations_of heads) t ≡ before (declarations_of left) (terms_of (reverse parts))

pub heads_first : (heads : List Declaration) (t : Term) (parts : List Term) → parts ≡ t ∷ [] → Heads heads (term_of t) heads parts
heads_first heads t parts e =
    record { is = before_one (declarations_of heads) (term_of t) ∙ ap (λ (ps : List Term). before (declarations_of heads) (terms_of (reverse ps))) (sym e) }

pub heads_next : (heads : List Declaration) (t : T.Term) (left rest : List Declaration) (parts more : List Term) (h : Declaration) (set : Term)
    → Heads heads t left parts → left ≡ rest ++ h ∷ [] → more ≡ parts ++ set ∷ [] → term_of set ≡ as_term (declaration_of h) → Heads heads t rest more
heads_next heads t left rest parts more h set made last added is =
    record {
      is =
          made.is ∙ ap (λ (hs : List T.Declaration). before hs (terms_of (reverse parts))) (ap declarations_of last ∙ map-append declaration_of rest (h ∷ []))
          ∙ last_first (declarations_of rest) (declaration_of h) (terms_of (reverse parts))
          ∙ ap (λ (s : T.Term). before (declarations_of rest) (then_term s (terms_of (reverse parts)))) (sym is)
          ∙ ap (λ (ps : List Term). before (declarations_of rest) (terms_of ps)) (sym (reverse-append parts (set ∷ [])) ∙ ap reverse (sym added));
    }

pub heads_last : (heads : List Declaration) (t : T.Term) (left : List Declaration) (parts whole : List Term) → Heads heads t left parts → left ≡ [] → whole ≡ reverse parts
    → (heads ≡ [] → ⊥) → headed (declarations_of heads) t ≡ T.Seq (terms_of whole)
heads_last [] t left parts whole made none all some = absurd (some refl)
heads_last (h ∷ hs) t left parts whole made none all some =
    ap T.Seq (made.is ∙ ap (λ (ds : List Declaration). before (declarations_of ds) (terms_of (reverse parts))) none ∙ ap terms_of (sym all))
