use Rattle.std.proofs.Common.{ap, ap₂, sym, ◌∙◌, [], ◌∷◌, List, ℕ}
use Rattle.std.proofs.lemmas.List.{map-append}
use Rattle.ks_store.specs.Pairs.{pairs_of}
use Rattle.ks_cache.specs.Lists.{Pairs, overlaid, under}
use Rattle.ks_cache.proofs.Entries.{Entry, pair_of}
use Rattle.ks_cache.proofs.Overlaid.{overlaid_twice}
use Rattle.ks_cache.proofs.Prefixes.{under_both}
use Rattle.ks_cache.proofs.overlay.lay_cached.Goals as goal

pub loop-key-preserved : goal.loop-key-preserved
loop-key-preserved c =
    let left = c.next_back.new.self in
    let front = c.args.front.now in
    let e : Entry = (c.in-Some.key.now, c.in-Some.value.now) in
    ap (overlaid (under front (pairs_of left))) (c.in_ok-lay_under.ensures ∙ ap₂ (λ (k v : List ℕ). overlaid (under front ((k, v) ∷ [])) c.loop-key.store) c.as_slice.ensures.value c.as_slice-in-Some.ensures.value)
    ∙ (sym (overlaid_twice (under front (pairs_of left)) (under front (pair_of e ∷ [])) c.loop-key.store)
    ∙ (ap (λ (l : Pairs). overlaid l c.loop-key.store) (sym (under_both front (pairs_of left) (pair_of e ∷ [])))
    ∙ (ap (λ (l : Pairs). overlaid (under front l) c.loop-key.store) (sym (ap pairs_of c.in-Some.ensures.steps ∙ map-append pair_of left (e ∷ [])))
    ∙ c.loop-key.invariant)))
