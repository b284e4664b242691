use Rattle.std.proofs.Common.{refl, sym, ◌∙◌, arith}
use Rattle.ks_iq.proofs.OwnReplicas.{next_placed, here_placed, none_placed}
use Rattle.ks_iq.proofs.reader.place_of.Goals as goal

pub loop-i-init : goal.loop-i-init
loop-i-init c = omega arith

pub loop-i-preserved : goal.loop-i-preserved
loop-i-preserved c = next_placed c.args.task c.args.replicas.now c.loop-i.i c.index-replicas-i.result c.id.result c.loop-i-test.true c.index-replicas-i.is c.id.ensures (sym c.is.ensures ∙ c.if-is.false) c.loop-i.invariant

pub returns-then-is : goal.returns-then-is
returns-then-is c = here_placed c.args.task c.args.replicas.now c.loop-i.i c.index-replicas-i.result c.id.result c.loop-i-test.true c.index-replicas-i.is c.id.ensures (sym c.is.ensures ∙ c.if-is.true) c.loop-i.invariant

pub returns : goal.returns
returns c = none_placed c.args.task c.args.replicas.now c.loop-i.i _ c.loop-i-test.false refl c.loop-i.invariant
