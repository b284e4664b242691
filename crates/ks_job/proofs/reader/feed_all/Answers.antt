use Rattle.std.proofs.Common.{◌≡◌, ℕ, ◌-◌, ◌≤◌, List, [], ◌∷◌, ◌++◌, length, take, drop, get_or, refl, arith, sym, ◌∙◌}
use Rattle.std.specs.Prelude.{Option, Some, None}
use Rattle.std.specs.List.{flat_map}
use Rattle.std.proofs.lemmas.List.{take_rest}
use Rattle.ks_job.specs.declared.judge.JobItem.{JobItem}
use Rattle.ks_job.specs.Items.{item_views}
use Rattle.ks_job.specs.Reader.{Reader}
use Rattle.ks_job.specs.Phases.{Fed}
use Rattle.ks_job.proofs.Cuts.{after_both}
use Rattle.ks_job.proofs.reader.feed_all.Invariants.{SameEnd}
use Rattle.ks_job.proofs.reader.feed_all.Goals as goal

fed_on : (old now next : Option Reader) (old_items items next_items : List JobItem) (all piece more : List ℕ) → SameEnd old now old_items items all (piece ++ more) → Fed now next items next_items piece → SameEnd old next old_items next_items all more
fed_on None now next oi i n all piece more h k = tt
fed_on (Some r) None next oi i n all piece more h k = absurd h
fed_on (Some r) (Some s) None oi i n all piece more h k = absurd k
fed_on (Some r) (Some s) (Some t) oi i n all piece more h k = rw k (sym (after_both (record { reader = s; items = item_views i }) piece more) ∙ h)

first_piece : {A : Type 0} (f : A → List ℕ) (rest : List A) (first : A) → 1 ≤ length rest → first ≡ get_or rest 0 first → flat_map f rest ≡ f first ++ flat_map f (take (length rest - 1) (drop 1 rest))
first_piece f [] first p e = absurd (omega arith)
first_piece f (x ∷ xs) first p e = rw (take_rest, e) refl

pub loop-rest-preserved : goal.loop-rest-preserved
loop-rest-preserved c =
    let e = first_piece (λ v. v.items) c.loop-rest.rest.now c.first-item.result c.in-len1-up.len_at_least c.first-item.is in
    fed_on _ _ _ _ _ _ _ _ _ (rw e at c.loop-rest.invariant) (rw c.deref.ensures.value at c.in_ok-feed.ensures.fed)
