use Rattle.std.proofs.Common.{◌≡◌, Option, subst, IfOk}
use Rattle.std.specs.Prelude.{option_map}
use Rattle.ks_cluster.specs.View.{state_of}
use Rattle.ks_law_settled.specs.Collision.{OffsetPair}
use Rattle.ks_settle_report.specs.Hashed.{row_hash, kind_as, pair_of}
use Rattle.ks_settle_report.proofs.Found.{all_parts}
use Rattle.ks_settle_report.proofs.collisions.first_in_parts.Goals as goal

pub returns : goal.returns
returns g c =
    let e = all_parts (row_hash g.H.Hash128.hash_of) (kind_as c.args.shown) (state_of g.W.Work.plan c.args.cluster.now) c.args.topic c.args.parts in
    subst (λ (x : Option OffsetPair). IfOk c.first_from.result (λ o. option_map pair_of o ≡ x)) e c.first_from.ensures
