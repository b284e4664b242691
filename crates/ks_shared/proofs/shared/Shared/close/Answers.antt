use Rattle.std.proofs.Common.{sym, subst}
use Rattle.std.specs.Prelude.{◌≡◌, Some}
use mathlib.Core.List.{IsPrefix}
use Rattle.ks_growing.specs.Passes.{seen_of, frame_of as pass_frame}
use Rattle.ks_shared.specs.Calls.{frame_of}
use Rattle.ks_shared.proofs.shared.Shared.close.Goals as goal

pub returns-clause-frames : goal.returns-clause-frames
returns-clause-frames g c = λ k x at. subst (λ v. pass_frame x ≡ Some (frame_of v)) (sym c.cluster_in.ensures) (c.close.ensures.frames k x at)

pub returns-clause-seen : goal.returns-clause-seen
returns-clause-seen g c = λ k x at. subst (λ v. IsPrefix (seen_of x) v.journal) (sym c.cluster_in.ensures) (c.close.ensures.seen k x at)
