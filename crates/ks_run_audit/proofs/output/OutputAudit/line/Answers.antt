use Rattle.std.proofs.Common.{sym}
use Rattle.ks_run_audit.proofs.Outputs.{taken_by, refused_by}
use Rattle.ks_run_audit.proofs.output.OutputAudit.line.Goals as goal

pub take_settled-requires-clause-empty : goal.take_settled-requires-clause-empty
take_settled-requires-clause-empty g c = c.requires.sound.none (rw c.in-Settled.is at c.requires.sound.stage).0

pub returns-in-Settled-clause-taken : goal.returns-in-Settled-clause-taken
returns-in-Settled-clause-taken g c =
    taken_by g.H.Hash128.hash_of c.args.line.now c.args.self.now c.take_settled.new.self c.take_settled.result c.or_unlike.result c.requires.sound (rw c.in-Settled.is at c.requires.sound.stage).1 c.or_unlike.ensures.taken c.take_settled.ensures.yes

pub returns-in-Settled-clause-refused : goal.returns-in-Settled-clause-refused
returns-in-Settled-clause-refused g c =
    refused_by g.H.Hash128.hash_of c.args.line.now c.args.self.now c.take_settled.new.self c.take_settled.result c.or_unlike.result c.or_unlike.ensures.unlike c.take_settled.ensures.no

pub returns-in_ok-take_head-in-Head-clause-taken : goal.returns-in_ok-take_head-in-Head-clause-taken
returns-in_ok-take_head-in-Head-clause-taken g c =
    taken_by g.H.Hash128.hash_of c.args.line.now c.args.self.now c.take_head.new.self c.in_ok-take_head-in-Head.field-0 c.or_unlike-in-Head.result c.requires.sound (rw c.in-Head.is at c.requires.sound.stage).1 c.or_unlike-in-Head.ensures.taken c.in_ok-take_head-in-Head.ensures.yes

pub returns-in_ok-take_head-in-Head-clause-refused : goal.returns-in_ok-take_head-in-Head-clause-refused
returns-in_ok-take_head-in-Head-clause-refused g c =
    refused_by g.H.Hash128.hash_of c.args.line.now c.args.self.now c.take_head.new.self c.in_ok-take_head-in-Head.field-0 c.or_unlike-in-Head.result c.or_unlike-in-Head.ensures.unlike c.in_ok-take_head-in-Head.ensures.no

pub returns-in_ok-take_row-in-Row-clause-taken : goal.returns-in_ok-take_row-in-Row-clause-taken
returns-in_ok-take_row-in-Row-clause-taken g c =
    taken_by g.H.Hash128.hash_of c.args.line.now c.args.self.now c.take_row.new.self c.in_ok-take_row-in-Row.field-0 c.or_unlike-in-Row.result c.requires.sound (rw c.in-Row.is at c.requires.sound.stage).3 c.or_unlike-in-Row.ensures.taken c.in_ok-take_row-in-Row.ensures.yes

pub returns-in_ok-take_row-in-Row-clause-refused : goal.returns-in_ok-take_row-in-Row-clause-refused
returns-in_ok-take_row-in-Row-clause-refused g c =
    refused_by g.H.Hash128.hash_of c.args.line.now c.args.self.now c.take_row.new.self c.in_ok-take_row-in-Row.field-0 c.or_unlike-in-Row.result c.or_unlike-in-Row.ensures.unlike c.in_ok-take_row-in-Row.ensures.no
