use Rattle.std.proofs.Common.{◌≡◌, subst}
use Rattle.ks_audit.proofs.Going.{entry_found, no_entry}
use Rattle.ks_audit.proofs.audit.find_entry.Goals as goal

pub returns-in-Ok-clause-some : goal.returns-in-Ok-clause-some
returns-in-Ok-clause-some c = entry_found c.in-Ok.found c.args.text.now c.in-Ok.ensures.fits c.in-Ok.ensures.found

pub returns-in-Ok-clause-none : goal.returns-in-Ok-clause-none
returns-in-Ok-clause-none c = no_entry c.read_line.result c.in-Ok.found c.args.text.now c.in-Ok.is c.read_line.ensures.only
