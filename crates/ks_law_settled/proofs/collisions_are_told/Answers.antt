use Rattle.ks_law_settled.proofs.Collisions.{none_in_run, none_found, found_collides}
use Rattle.ks_law_settled.proofs.collisions_are_told.Goals as goal

pub returns : goal.returns
returns c rules d records journal ended = record {
  none = none_found rules d records journal ended;
  none_in_run = λ e. none_in_run rules d records journal ended (none_found rules d records journal ended e);
  found = found_collides rules d records journal ended;
}
