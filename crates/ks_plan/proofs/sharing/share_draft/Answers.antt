use Rattle.ks_plan.proofs.Crossing.{draft_sync}
use Rattle.ks_plan.proofs.sharing.share_draft.Goals as goal

pub returns : goal.returns
returns c = draft_sync
