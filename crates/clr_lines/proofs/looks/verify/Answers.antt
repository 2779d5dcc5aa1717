-- What a runtime shows is lawful, so there is no fault.
use Rattle.clr_lines.proofs.LookLines.{clean_follows}
use Rattle.clr_lines.proofs.looks.verify.Goals as goal

pub verifyheap_at_once-requires : goal.verifyheap_at_once-requires
verifyheap_at_once-requires c = record {
  holes =
      (c.clean_states_are_lawful.ensures c.state_of-state.result c.args.runtime.now.machine
      c.state_of-state.ensures.heap c.state_of-state.ensures.clean c.state_of-state.ensures.steps).0;
}

pub returns-clause-follows : goal.returns-clause-follows
returns-clause-follows c = clean_follows c.args.runtime.now.machine
