-- The passes that workers give back are those that they had.
use Rattle.std.proofs.Common.{◌≡◌, ℕ, zero, suc, ◌+◌, ◌<◌, false, Bool, List, [], ◌∷◌, ◌++◌, take, drop, filter, map, length, append-nil, length-append, refl, sym, ap, ap₂, subst, ◌∙◌, arith}
use Rattle.std.specs.Prelude.{Option, Some, slice_get, slice_index_or, option_map}
use Rattle.std.proofs.lemmas.Option.{slice_get-map}
use Rattle.std.proofs.lemmas.List.{take_all, drop_all, map-append}
use mathlib.Core.Option.{some, some-injective, some-ne-none}
use lib.ListN.{get_elem?}
use Rattle.atomic_table.specs.Seated.{TableId}
use Rattle.ks_history.specs.declared.journal.Entry.{Entry}
use Rattle.ks_growing.specs.Passes.{PassView, IsPass, Each}
use Rattle.ks_shared.specs.declared.state.Frame.{Frame}
use Rattle.ks_shared.specs.Calls.{frame_of}
use Rattle.ks_shared.specs.Reserved.{is_callers}
use Rattle.ks_cluster.specs.View.{ClusterView}
use Rattle.ks_job_source.specs.declared.rest.JobEnd.{JobEnd}
use Rattle.ks_run_feed.specs.declared.feeding.JobFeed.{JobFeed}
use Rattle.ks_plan.specs.Drafts.{DraftView}
use Rattle.ks_plan.specs.Plan.{plan_of}
use Rattle.ks_run_feed.specs.Feeding.{HasFed}
use Rattle.ks_run_feed.proofs.Produced.{same_produces, same_drains, filled}
use Rattle.ks_run_feed.specs.declared.feeding.JobInput.{JobInput}
use Rattle.ks_run_feed.specs.Placing.{placed_all}
use Rattle.ks_law_settled.specs.Jobs.{produces}
use Rattle.ks_job.specs.Items.{item_views}
use Rattle.ks_job_source.specs.Opening.{EndsFrom}
use Rattle.ks_run_workers.specs.Asked.{option_list}
use Rattle.ks_run_workers.specs.Members.{pass_key, HaveKeys, ArePasses}
use Rattle.ks_run_workers.specs.Ready.{HasClosed, HasWorked}

same_list : {B : Type 0} (xs ys : List B) → ((i : ℕ) → slice_get xs i ≡ slice_get ys i) → xs ≡ ys
same_list [] [] h = refl
same_list [] (y ∷ ys) h = absurd (cc (h 0))
same_list (x ∷ xs) [] h = absurd (cc (h 0))
same_list (x ∷ xs) (y ∷ ys) h =
    let head : Some x ≡ Some y = h 0 in
    let first : x ≡ y = cc in
    let rest : xs ≡ ys = same_list xs ys (λ i. h (suc i)) in
    λ i. first i ∷ rest i

pub same_keys : {A B : Type 0} (f : A → B) (xs ys : List A) → ((i : ℕ) → option_map f (slice_get xs i) ≡ option_map f (slice_get ys i)) → map f xs ≡ map f ys
same_keys f xs ys h = same_list (map f xs) (map f ys) (λ i. slice_get-map f xs i ∙ h i ∙ sym (slice_get-map f ys i))

pub map_twice : {A B C : Type 0} (f : A → B) (g : B → C) (xs : List A) → map g (map f xs) ≡ map (λ x. g (f x)) xs
map_twice f g [] = refl
map_twice f g (x ∷ xs) = ap (λ l. g (f x) ∷ l) (map_twice f g xs)

each_key : {A B : Type 0} (f : A → B) (P : ℕ → B → Type 0) (qs ps : List A) → map f qs ≡ map f ps → ((k : ℕ) (p : A) → get_elem? ps k ≡ some p → P k (f p)) → (k : ℕ) (p : A) → get_elem? qs k ≡ some p → P k (f p)
each_key f P [] ps e h k p g = absurd (some-ne-none p (sym g))
each_key f P (q ∷ qs) [] e h k p g = absurd cc
each_key f P (q ∷ qs) (x ∷ ps) e h zero p g =
    let first : f q ≡ f x = cc in
    subst (P 0) (sym first ∙ ap f (some-injective q p g)) (h 0 x refl)
each_key f P (q ∷ qs) (x ∷ ps) e h (suc k) p g =
    let rest : map f qs ≡ map f ps = cc in
    each_key f (λ n. P (suc n)) qs ps rest (λ n y m. h (suc n) y m) k p g

abbrev IsKey : TableId → ℕ → TableId × Bool × ℕ → Type 0
IsKey lock k key = (key.0 ≡ lock) × (key.1 ≡ false) × (key.2 ≡ k + 1)

module _ {W : Type 0} (lock : TableId) where
  pub still_passes : (qs ps : List (PassView Entry (Frame W))) → map pass_key qs ≡ map pass_key ps → ArePasses lock ps → ArePasses lock qs
  still_passes qs ps e h k p g = each_key pass_key (IsKey lock) qs ps e (λ n x m. h n x m) k p g

  pub all_passes : (first : PassView Entry (Frame W)) (ps : List (PassView Entry (Frame W))) → IsPass lock 0 first → ArePasses lock ps → Each (IsPass lock) (first ∷ ps)
  all_passes first ps one more zero p g = subst (IsPass lock 0) (some-injective first p g) one
  all_passes first ps one more (suc k) p g = let is : IsPass lock (k + 1) p = more k p g in (is.0, is.1, is.2 ∙ omega arith)

pub keys_length : {A B : Type 0} (f : A → B) (xs ys : List A) → map f xs ≡ map f ys → length xs ≡ length ys
keys_length f [] [] e = refl
keys_length f [] (y ∷ ys) e = absurd cc
keys_length f (x ∷ xs) [] e = absurd cc
keys_length f (x ∷ xs) (y ∷ ys) e = let rest : map f xs ≡ map f ys = cc in ap (λ n. suc n) (keys_length f xs ys rest)

map_long : {A B : Type 0} (f : A → B) (xs : List A) → length (map f xs) ≡ length xs
map_long f [] = refl
map_long f (x ∷ xs) = ap (λ n. suc n) (map_long f xs)

-- what a vector is after its slice was changed
written_back : {A : Type 0} (len : ℕ) (new items : List A) → length new ≡ length items → len ≡ length items → take len (new ++ drop (length new) items) ≡ new
written_back len new items long is =
    ap (λ l. take len (new ++ l)) (drop_all (length new) items (omega (arith, long)))
    ∙ ap (take len) (append-nil new)
    ∙ take_all len new (omega (arith, long, is))

-- what is told of a vector's slice before and after a change that kept its keys is told of the vector
pub slice_back : {A E F : Type 0} (P : List A → List A → Type 0) (pass : A → PassView E F) (items old new : List A) (len : ℕ) → old ≡ items → len ≡ length items → HaveKeys pass old new → P old new → P items (take len (new ++ drop (length new) items))
slice_back P pass items old new len at_first sized keys told =
    let long : length new ≡ length items = keys_length (λ w. pass_key (pass w)) new old keys ∙ ap length at_first in
    subst (P items) (sym (written_back len new items long sized)) (subst (λ l. P l new) at_first told)

-- all passes of a lock
pub closing : {W : Type 0} (lock : TableId) (count : ℕ) (first : PassView Entry (Frame W)) (rest all : List (PassView Entry (Frame W))) →
    all ≡ first ∷ rest → IsPass lock 0 first → ArePasses lock rest → length rest + 1 ≡ count → (length all ≡ count) × (0 < length all) × Each (IsPass lock) all
closing {W = W} lock count first rest all is one more counted =
    subst (λ (l : List (PassView Entry (Frame W))). (length l ≡ count) × (0 < length l) × Each (IsPass lock) l) (sym is)
    (omega (arith, counted), omega arith, all_passes lock first rest one more)

-- how many there are with the last
pub with_last_long : {A B C : Type 0} (f : A → B) (members : List A) (last : Option C) (given : Option B) (count : ℕ) → length (option_list given) ≡ length (option_list last) → length members + length (option_list last) + 1 ≡ count →
    length (map f members ++ option_list given) + 1 ≡ count
with_last_long f members last given count same counted =
    ap (λ n. n + 1) (length-append (map f members) (option_list given) ∙ ap₂ (λ a b. a + b) (map_long f members) same) ∙ counted

-- the passes of the workers and of who asks, after they ran
pub passes_after : {A W : Type 0} (lock : TableId) (pass : A → PassView Entry (Frame W)) (items new : List A) (last then : List (PassView Entry (Frame W))) → HaveKeys pass items new → map pass_key then ≡ map pass_key last →
    ArePasses lock (map pass items ++ last) → ArePasses lock (map pass new ++ then)
passes_after lock pass items new last then keys same more =
    still_passes lock (map pass new ++ then) (map pass items ++ last)
    (map-append pass_key (map pass new) then ∙ (ap₂ (λ a b. a ++ b) (map_twice pass pass_key new ∙ keys ∙ sym (map_twice pass pass_key items)) same ∙ sym (map-append pass_key (map pass items) last))) more

pub members_after : {A W : Type 0} (pass : A → PassView Entry (Frame W)) (items new : List A) (more count : ℕ) → HaveKeys pass items new → length items + more + 1 ≡ count → length new + more + 1 ≡ count
members_after pass items new more count keys counted = ap (λ n. n + more + 1) (keys_length (λ w. pass_key (pass w)) new items keys) ∙ counted

-- what the closed cluster has, by what its first pass has seen
pub closed : {W : Type 0} (d : DraftView) (first new : ClusterView W) (old fed : JobFeed W) (left now : Option (List ℕ)) (e : JobEnd) → HasFed d old fed left now e → frame_of new ≡ frame_of first →
    filter is_callers new.journal ≡ filter is_callers fed.pass.seen → HasClosed d first new old left now e
closed d first new old fed left now e h frame same = record {
  items = h.items;
  frame = frame;
  produced = same_produces new.journal fed.pass.seen same ∙ h.produced.produced;
  undrained = same_drains new.journal fed.pass.seen same ∙ h.produced.undrained;
  ends = h.ends;
}

-- the same, of a cluster that was new
pub worked : {W : Type 0} (d : DraftView) (old first new : ClusterView W) (intake : JobInput) (feeder : JobFeed W) (left now : Option (List ℕ)) (e : JobEnd) → old.journal ≡ [] → first ≡ old → feeder.pass.seen ≡ old.journal →
    feeder.records.items ≡ intake.records.items → feeder.rest.standing ≡ intake.rest.standing → HasClosed d first new feeder left now e → HasWorked d old new intake left now e
worked d old first new intake feeder left now e empty is seen records standing h = record {
  items = h.items;
  filled = filled old first new feeder.pass.seen (placed_all (plan_of d) (item_views intake.records.items ++ h.items)) empty is seen h.frame
      (h.produced ∙ ap (λ is. produces feeder.pass.seen ++ placed_all (plan_of d) (item_views is ++ h.items)) records) h.undrained;
  ends = subst (λ s. EndsFrom s left now e h.items) standing h.ends;
}

pub first_is : {A : Type 0} (all rest : List A) (first : A) → all ≡ first ∷ rest → get_elem? all 0 ≡ some first
first_is all rest first is = ap (λ l. get_elem? l 0) is

-- what is the same at each place of two lists is the same at each index
pub same_at : {A K : Type 0} (f : A → K) (xs ys : List A) → length ys ≡ length xs → ((k : ℕ) (x : A) → k < length xs → f (slice_index_or ys k x) ≡ f (slice_index_or xs k x)) → (i : ℕ) →
    option_map f (slice_get ys i) ≡ option_map f (slice_get xs i)
same_at f [] [] long same i = refl
same_at f [] (y ∷ ys) long same i = absurd (omega (arith, long))
same_at f (x ∷ xs) [] long same i = absurd (omega (arith, long))
same_at f (x ∷ xs) (y ∷ ys) long same zero = ap Some (same 0 x (omega arith))
same_at f (x ∷ xs) (y ∷ ys) long same (suc i) = same_at f xs ys (omega (arith, long)) (λ k z lt. same (suc k) z (omega (arith, lt))) i
