use Rattle.gate_command.proofs.serving.run_recorded.Goals as goal

pub returns-clause-ran : goal.returns-clause-ran
returns-clause-ran g c = record {
  how = c.serve_lawfully-served.result.0;
  count = c.serve_lawfully-served.result.1;
  status = c.status_of.ensures;
  counted = record {
    limit = c.serve_lawfully-served.ensures.limit;
    all = c.serve_lawfully-served.ensures.all;
    count = c.serve_lawfully-served.ensures.count;
    accept = c.serve_lawfully-served.ensures.accept;
    report = c.serve_lawfully-served.ensures.report;
    capture = c.serve_lawfully-served.ensures.capture;
  };
  served = c.serve_lawfully-served.ensures.served;
}
