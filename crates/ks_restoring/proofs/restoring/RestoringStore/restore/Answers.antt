use Rattle.std.proofs.Common.{arith}
use Rattle.ks_restoring.proofs.Latest.{waits_more, bounded_more}
use Rattle.ks_restoring.proofs.restoring.RestoringStore.restore.Goals as goal

pub invariant_of-self-2 : goal.invariant_of-self-2
invariant_of-self-2 c =
    bounded_more c.self.inside.table.store c.self.inside.records.items c.wait_behind.new.records.items c.args.recs.items c.self.inside.most c.in_ok-most.most c.self.invariant c.in_ok-wait_behind.ensures.ok
    (omega (arith, c.in_ok-most.ensures, c.len.ensures, c.args.recs.ok))

pub returns-clause-ok : goal.returns-clause-ok
returns-clause-ok c = waits_more c.self.inside.table.store c.args.self.now c.self.inside.records.items c.wait_behind.new.records.items c.args.recs.items c.self.view_is c.in_ok-wait_behind.ensures.ok
