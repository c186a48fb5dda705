use Rattle.occ_explaining.proofs.paged.run_texts.Goals as goal

pub returns : goal.returns
returns c = λ options source h. record {
  told = c.in_ok-head.ensures.items;
  traced = c.in_ok-trace.ensures options source h;
  stepped = c.in_ok-turns.ensures options source h;
  reported = c.in_ok-report.ensures options source h;
}
