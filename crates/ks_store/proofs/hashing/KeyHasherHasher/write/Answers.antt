use Rattle.std.proofs.Common.{ℕ, ap}
use Rattle.ks_store.specs.declared.hashing.KeyHasher.{KeyHasher}
use Rattle.ks_store.proofs.Mixing.{word_before, tail_written}
use Rattle.ks_store.proofs.hashing.KeyHasherHasher.write.Goals as goal

pub loop-word-preserved : goal.loop-word-preserved
loop-word-preserved c =
    word_before c.loop-word.state _ _ _ c.loop-word.rest.now _ _ c.in-Some.ensures.cases.0 c.in-Some.ensures.cases.1 c.in-Some.ensures.cases.2 c.from_le_bytes.ensures c.mix-state.ensures c.loop-word.invariant

pub returns : goal.returns
returns c =
    let f : ℕ → KeyHasher = λ s. record { state = s } in
    ap f (tail_written c.loop-word.state _ _ c.loop-word.rest.now c.in_default.ensures.cases c.mix_tail-self.ensures c.loop-word.invariant)
