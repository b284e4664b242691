use Rattle.ks_law_topology.proofs.Rows.{project_fits, joined_fits, field_key_fits, stream_fits, apply_fits}
use Rattle.ks_law_topology.proofs.made_values_fit.Goals as goal

pub returns : goal.returns
returns c = record { projections = project_fits; joins = joined_fits; keys = field_key_fits; items = stream_fits; deltas = apply_fits }
