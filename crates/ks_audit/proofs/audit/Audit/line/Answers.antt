use Rattle.std.proofs.Common.{◌≡◌}
use Rattle.ks_audit.proofs.Beginning.{taken_line}
use Rattle.ks_audit.proofs.audit.Audit.line.Goals as goal

pub returns-in-Ok-clause-taken : goal.returns-in-Ok-clause-taken
returns-in-Ok-clause-taken g c = taken_line g.H.Hash128.hash_of c.args.self.now c.play_line.new.played c.args.text.now c.in_default.is (c.requires.kept c.in_default.is) c.in-Ok.ensures.plays
