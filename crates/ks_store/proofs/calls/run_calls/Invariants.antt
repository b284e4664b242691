use Rattle.std.proofs.Common.{◌≡◌, take}
use Rattle.ks_store.specs.Calls.{replies_to, after_calls}
use Rattle.ks_store.proofs.calls.run_calls.Given as goal

-- the first calls are made and answered
abbrev pub invariant-loop-call : goal.invariant-loop-call
invariant-loop-call g l =
    (g.S.KvStore.contents l.store ≡ after_calls (g.S.KvStore.contents l.fn.store) (take l.call-index l.calls))
    × (l.replies.items ≡ replies_to (g.S.KvStore.contents l.fn.store) (take l.call-index l.calls))
