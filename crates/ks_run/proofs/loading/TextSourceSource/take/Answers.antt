use Rattle.std.proofs.Common.{arith, ◌<◌, length, refl, sym}
use Rattle.ks_edge.proofs.Pieces.{gave, ended}
use Rattle.ks_run.proofs.loading.TextSourceSource.take.Goals as goal

pub returns-clause-bytes : goal.returns-clause-bytes
returns-clause-bytes c =
    let front = c.copy_front-count.ensures in (
      gave _ _ _ _ _ _ _ _ _ c.as_slice.ensures refl front.count front.copied (sym c.self.view_is),
      λ z room.
          let some : 0 < length c.args.buf.now = omega arith in
          ended _ _ _ _ _ _ c.as_slice.ensures refl front.count some z,
    )
