use Rattle.ks_law_exactly_once.proofs.Replays.{is_run, tells_stores, tells_pasts, tells_all, tells_lists, tells_late, settled_is_empty}
use Rattle.ks_law_exactly_once.proofs.Counts.{is_short}
use Rattle.ks_law_topology.specs.Work.{setup_of}
use Rattle.ks_law_topology.proofs.Networks.{works_are_networks}
use Rattle.ks_law_topology.proofs.journals_are_runs.Goals as goal

pub returns : goal.returns
returns c = record {
  run = λ rules p journal h. is_run (setup_of rules p) journal (works_are_networks rules p) h;
  stores = λ rules p journal h. tells_stores (setup_of rules p) journal (works_are_networks rules p) h;
  pasts = λ rules p journal h. tells_pasts (setup_of rules p) journal (works_are_networks rules p) h;
  all = λ rules p journal h. tells_all (setup_of rules p) journal (works_are_networks rules p) h;
  lists = λ rules p journal h. tells_lists (setup_of rules p) journal (works_are_networks rules p) h;
  late = λ rules p journal h. tells_late (setup_of rules p) journal (works_are_networks rules p) h;
  settled = λ rules p journal h. settled_is_empty (setup_of rules p) journal (works_are_networks rules p) h;
  short = λ rules p journal h. is_short (setup_of rules p) journal (works_are_networks rules p) h;
}
