use Rattle.ks_law_settled.proofs.Tables.{counts_at_most, total_lack, in_time_none}
use Rattle.ks_law_settled.proofs.windows_lack_the_late.Goals as goal

pub returns-clause-counts : goal.returns-clause-counts
returns-clause-counts c rules d records journal ended = record { at_most = counts_at_most rules d records journal ended; total = total_lack rules d records journal ended }

pub returns-clause-in_time : goal.returns-clause-in_time
returns-clause-in_time c rules d records journal ended grace = in_time_none rules d records journal ended grace
