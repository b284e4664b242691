use Rattle.std.proofs.Common.{◌≡◌, length}
use Rattle.ks_store.specs.Hashing.{after_write}
use Rattle.ks_store.proofs.hashing.KeyHasherHasher.write.Given as goal

abbrev pub invariant-loop-word : goal.invariant-loop-word
invariant-loop-word l = after_write l.state l.rest ≡ after_write l.initial.state l.bytes

abbrev pub decreases-loop-word : goal.decreases-loop-word
decreases-loop-word l = length l.rest
