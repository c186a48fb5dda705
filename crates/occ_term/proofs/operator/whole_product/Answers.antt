use Rattle.std.proofs.Common.{◌≡◌, ◌∙◌, ap, sym, true, ◌*ℤ◌, w64, to_z, of_z, FitsSigned}
use Rattle.std.proofs.lemmas.Int.{to_z-of_z}
use Rattle.occ_term.specs.Messages.{is_of}
use Rattle.occ_term.specs.declared.primitive.Primitive.TheVariants.{Int}
use Rattle.occ_term.proofs.Products.{int_small, product_fits}
use Rattle.occ_term.proofs.operator.whole_product.Goals as goal

pub returns-then-is_of-2 : goal.returns-then-is_of-2
returns-then-is_of-2 c =
    let left : to_z w64 (of_z w64 c.args.a) ≡ c.args.a = to_z-of_z w64 c.args.a c.ranges.a in
    let right : to_z w64 (of_z w64 c.args.b) ≡ c.args.b = to_z-of_z w64 c.args.b c.ranges.b in
    let both : to_z w64 (of_z w64 c.args.a) *ℤ to_z w64 (of_z w64 c.args.b) ≡ c.args.a *ℤ c.args.b = ap (λ x. x *ℤ to_z w64 (of_z w64 c.args.b)) left ∙ ap (λ y. c.args.a *ℤ y) right in
    let of_left : is_of Int c.args.a ≡ true = ap (is_of Int) (sym left) ∙ sym c.is_of.ensures ∙ c.if-is_of.true in
    let of_right : is_of Int c.args.b ≡ true = ap (is_of Int) (sym right) ∙ sym c.is_of-then-is_of.ensures ∙ c.if-is_of-2.true in
    let fits : FitsSigned w64 (c.args.a *ℤ c.args.b) = product_fits c.args.a c.args.b (int_small c.args.a of_left) (int_small c.args.b of_right) in
    (fits, ap (λ x. to_z w64 (of_z w64 x)) both ∙ to_z-of_z w64 (c.args.a *ℤ c.args.b) fits)
