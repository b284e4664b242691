use Rattle.ks_group.proofs.RowPlaces.{places-with}
use Rattle.ks_group.proofs.committed.Offsets.commit.Goals as goal

pub invariant_of-self : goal.invariant_of-self
invariant_of-self c = places-with c.self.inside.places.items c.args.pending.now c.self.inside.rows.items c.commit_rows.new.rows.items c.commit_rows.ensures c.self.invariant
