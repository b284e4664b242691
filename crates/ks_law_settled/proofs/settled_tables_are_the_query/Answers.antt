use Rattle.ks_law_settled.proofs.Tables.{tables_same, plain_same}
use Rattle.ks_law_settled.proofs.Collisions.{none_in_run, none_found}
use Rattle.ks_law_settled.proofs.settled_tables_are_the_query.Goals as goal

pub returns-clause-tables : goal.returns-clause-tables
returns-clause-tables c rules d records journal ended none late = tables_same rules d records journal ended (none_in_run rules d records journal ended (none_found rules d records journal ended none)) late

pub returns-clause-others : goal.returns-clause-others
returns-clause-others c rules d records journal ended none = plain_same rules d records journal ended (none_in_run rules d records journal ended (none_found rules d records journal ended none))
