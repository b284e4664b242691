use Rattle.std.proofs.Common.{◌≡◌, ◌∙◌, ap, subst}
use Rattle.std.specs.Prelude.{slice_index_or, remove}
use Rattle.ks_growing.specs.Passes.{IsFresh}
use Rattle.ks_shared.specs.Calls.{frame_of}
use Rattle.ks_test_shared.proofs.Staying.{fresh_is_ours, three}
use Rattle.ks_test_shared.proofs.passes.new_locked.Goals as goal

pub returns-clause-first : goal.returns-clause-first
returns-clause-first g c =
    let cluster = c.in-Ok.cluster in
    let lock = c.lock-shared.result.0.growing.id in
    fresh_is_ours lock cluster c.in-Ok.ensures.ours _ _
    (three (IsFresh lock cluster.journal (frame_of cluster)) c.lock-shared.result.1.items c.remove-first.result c.remove-second.result c.remove-third.result c.lock-shared.ensures.count c.lock-shared.ensures.fresh c.remove-first.ensures.value
    (subst (λ l. c.remove-second.result ≡ slice_index_or l 0 c.remove-second.result) c.remove-first.ensures.items c.remove-second.ensures.value)
    (subst (λ l. c.remove-third.result ≡ slice_index_or l 0 c.remove-third.result) (c.remove-second.ensures.items ∙ ap (λ l. remove l 0) c.remove-first.ensures.items) c.remove-third.ensures.value)).0

pub returns-clause-second : goal.returns-clause-second
returns-clause-second g c =
    let cluster = c.in-Ok.cluster in
    let lock = c.lock-shared.result.0.growing.id in
    fresh_is_ours lock cluster c.in-Ok.ensures.ours _ _
    (three (IsFresh lock cluster.journal (frame_of cluster)) c.lock-shared.result.1.items c.remove-first.result c.remove-second.result c.remove-third.result c.lock-shared.ensures.count c.lock-shared.ensures.fresh c.remove-first.ensures.value
    (subst (λ l. c.remove-second.result ≡ slice_index_or l 0 c.remove-second.result) c.remove-first.ensures.items c.remove-second.ensures.value)
    (subst (λ l. c.remove-third.result ≡ slice_index_or l 0 c.remove-third.result) (c.remove-second.ensures.items ∙ ap (λ l. remove l 0) c.remove-first.ensures.items) c.remove-third.ensures.value)).1

pub returns-clause-third : goal.returns-clause-third
returns-clause-third g c =
    let cluster = c.in-Ok.cluster in
    let lock = c.lock-shared.result.0.growing.id in
    fresh_is_ours lock cluster c.in-Ok.ensures.ours _ _
    (three (IsFresh lock cluster.journal (frame_of cluster)) c.lock-shared.result.1.items c.remove-first.result c.remove-second.result c.remove-third.result c.lock-shared.ensures.count c.lock-shared.ensures.fresh c.remove-first.ensures.value
    (subst (λ l. c.remove-second.result ≡ slice_index_or l 0 c.remove-second.result) c.remove-first.ensures.items c.remove-second.ensures.value)
    (subst (λ l. c.remove-third.result ≡ slice_index_or l 0 c.remove-third.result) (c.remove-second.ensures.items ∙ ap (λ l. remove l 0) c.remove-first.ensures.items) c.remove-third.ensures.value)).2
