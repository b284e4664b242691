use Rattle.ks_history.specs.Faithful.{waiting_at, markers_of}
use Rattle.ks_law_exactly_once.proofs.Slots.{readable_is}
use Rattle.ks_law_exactly_once.proofs.laws.readable_is_decided.Goals as goal

pub returns : goal.returns
returns c = λ s p. readable_is (waiting_at (markers_of s) p) (s.partition p)
