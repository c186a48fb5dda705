use Rattle.std.proofs.Common.{◌≡◌, ◌-◌, ◌<◌, ◌≤◌, ◌^◌, length}
use Rattle.occ_choices.specs.Plans.{choices_of}
use Rattle.occ_files.specs.Reading.{ReadsNext, breaks_of}
use Rattle.occ_files.specs.Reading.{failures_of as reads_failed}
use Rattle.occ_live.specs.Living.{EndsRightly, HasShown, StandsLive}
use Rattle.occ_net_tables.specs.Holding.{trace_in}
use Rattle.occ_shown.specs.Counting.{failures_of}
use Rattle.occ_live.proofs.living.run_live.Given as goal

abbrev pub invariant-loop-ending : goal.invariant-loop-ending
invariant-loop-ending g l = record {
  stands : StandsLive l.code (choices_of l.plan) l.bytes.items l.is_open l.kept.items l.tables;
  shown : HasShown g.W.Write.contents l.fn.out l.out l.screen.mark (trace_in l.tables);
  read : ReadsNext g.K.Read.remaining l.fn.keys l.keys l.bytes.items;
  end : EndsRightly g.K.Read.remaining l.keys l.is_open;
  unbroken : breaks_of l.keys ≡ breaks_of l.fn.keys;
  failed : failures_of l.out ≡ failures_of l.fn.out;
  grown : reads_failed l.fn.keys ≤ reads_failed l.keys;
  room : reads_failed l.keys < 2 ^ 64 - 1;
}

abbrev pub decreases-loop-ending : goal.decreases-loop-ending
decreases-loop-ending g l = length (choices_of l.plan) - length l.kept.items
