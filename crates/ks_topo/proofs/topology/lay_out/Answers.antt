use Rattle.ks_topo.proofs.Shaping.{kept_is}
use Rattle.ks_topo.proofs.topology.lay_out.Goals as goal

pub invariant_of-result : goal.invariant_of-result
invariant_of-result c =
    let n = c.in_ok-nodes.ensures in
    let x = c.in-Ok.ensures in
    record {
      built = kept_is c.args.shape.now c.args.draft c.in_ok-nodes.nodes.items c.into_vec.result.items c.deref.result.now c.in-Ok.shown.infos.items c.in-Ok.shown.all.items c.in-Ok.shown.tasks.items
          c.in-Ok.shown.inputs.items c.in-Ok.shown.changelogs.items c.in-Ok.shown.drained.items
          c.requires.shape c.requires.fine c.into_vec.ensures c.deref.ensures.value x.all x.infos x.tasks x.inputs x.changelogs x.drained n.places n.views;
    }
