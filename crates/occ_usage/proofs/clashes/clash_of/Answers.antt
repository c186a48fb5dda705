use Rattle.std.proofs.Common.{subst, sym}
use Rattle.occ_usage.specs.Noted.{Finds, use_of, between}
use Rattle.occ_usage.specs.Indexes.{indexed}
use Rattle.occ_usage.specs.Clashes.{Clash}
use Rattle.occ_usage.specs.declared.noted.Kind.{Kind}
use Rattle.occ_usage.proofs.Branches.{input_found, output_found, read_found, write_found}
use Rattle.occ_usage.proofs.clashes.clash_of.Goals as goal

pub returns-in-Read : goal.returns-in-Read
returns-in-Read c =
    subst (λ (k : Kind). Finds c.found_at.result (λ (clash : Clash). clash (indexed c.args.all.now) (use_of k (between c.args.one.first c.args.one.end)))) (sym c.in-Read.is)
    (read_found (indexed c.args.all.now) c.args.one.first c.args.one.end _ _ c.first_within-number.ensures c.found_at.ensures)

pub returns-in-Input : goal.returns-in-Input
returns-in-Input c =
    subst (λ (k : Kind). Finds c.found_at-in-Input.result (λ (clash : Clash). clash (indexed c.args.all.now) (use_of k (between c.args.one.first c.args.one.end)))) (sym c.in-Input.is)
    (input_found (indexed c.args.all.now) c.args.one.first c.args.one.end _ _ c.first_within-number-in-Input.ensures c.found_at-in-Input.ensures)

pub returns-in-Output : goal.returns-in-Output
returns-in-Output c =
    subst (λ (k : Kind). Finds c.found_at-in-Output.result (λ (clash : Clash). clash (indexed c.args.all.now) (use_of k (between c.args.one.first c.args.one.end)))) (sym c.in-Output.is)
    (output_found (indexed c.args.all.now) c.args.one.first c.args.one.end _ _ c.first_within-number-in-Output.ensures c.found_at-in-Output.ensures)

pub returns-in-Write : goal.returns-in-Write
returns-in-Write c =
    subst (λ (k : Kind). Finds c.found_at-in-Write.result (λ (clash : Clash). clash (indexed c.args.all.now) (use_of k (between c.args.one.first c.args.one.end)))) (sym c.in-Write.is)
    (write_found (indexed c.args.all.now) c.args.one.first c.args.one.end _ _ _ _ c.first_within-read.ensures c.first_within-written.ensures c.lesser.ensures c.found_at-in-Write.ensures)
