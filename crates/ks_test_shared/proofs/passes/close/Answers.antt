use Rattle.std.proofs.Common.{sym, subst}
use Rattle.ks_growing.specs.Passes.{Each, IsPass}
use Rattle.ks_test_shared.proofs.Staying.{all_passes}
use Rattle.ks_test_shared.proofs.passes.close.Goals as goal

pub close-cluster-requires-clause-passes : goal.close-cluster-requires-clause-passes
close-cluster-requires-clause-passes g c =
    let locked = c.args.locked in
    subst (Each (IsPass locked.shared.growing.id)) (sym c.in-Ok.ensures.items) (all_passes _ _ _ _ c.requires.first c.requires.second c.requires.third)
