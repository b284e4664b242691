use Rattle.std.proofs.Common.{arith, ◌<◌, length, refl, ap, subst, sym}
use Rattle.ks_edge.proofs.Pieces.{gave, ended, some_size}
use Rattle.ks_edge.proofs.memory.MemSourceSource.take.Goals as goal

pub returns-clause-bytes : goal.returns-clause-bytes
returns-clause-bytes c =
    let front = c.copy_front-count.ensures in (
      gave _ _ _ _ _ _ _ _ _ c.deref-3.ensures.value refl front.count front.copied (ap (λ s. s.left) (sym c.self.view_is)),
      λ z room.
          let some : 0 < length c.args.buf.now = omega arith in
          ended _ _ _ _ _ _ c.deref-3.ensures.value refl front.count (subst (λ n. 0 < n) (sym c.piece_size-size.ensures) (some_size _ _ some)) z,
    )
