use Rattle.std.proofs.Common.{◌∙◌}
use Rattle.ks_topo.specs.Topologies.{draft_of}
use Rattle.ks_run_audit.proofs.Windows.{windows_are}
use Rattle.ks_run_audit.proofs.output.is_windowed.Goals as goal

pub returns : goal.returns
returns c =
    c.is_counting.ensures
    ∙ windows_are (draft_of c.args.topology.now) c.nodes.result.now c.args.name.now (record { places = c.nodes.ensures.places; drafts = c.nodes.ensures.drafts; well_formed = c.nodes.ensures.well_formed }) c.requires
