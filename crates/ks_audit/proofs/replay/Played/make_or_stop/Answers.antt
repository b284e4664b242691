use Rattle.std.proofs.Common.{◌≡◌, Bool, subst}
use Rattle.ks_audit.specs.Entries.{MakesEntry}
use Rattle.ks_audit.proofs.replay.Played.make_or_stop.Goals as goal

pub returns-then-branch-clause-made : goal.returns-then-branch-clause-made
returns-then-branch-clause-made g c = λ d rules ready.
    subst (λ (b : Bool). MakesEntry g.W.Work.plan g.W.Work.good rules d b c.args.self.now c.make.new.self c.args.entry.now) c.if-branch.true (c.in_ok-make.ensures d rules ready)

pub returns-else-branch-clause-stop : goal.returns-else-branch-clause-stop
returns-else-branch-clause-stop g c = λ d rules ready. (c.in_ok-make.ensures d rules ready).no c.if-branch.false
