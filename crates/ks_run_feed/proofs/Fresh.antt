-- The first pass of a new lock, and the passes with which it is closed.
use Rattle.std.proofs.Common.{◌≡◌, ℕ, zero, suc, ◌<◌, ◌≤◌, List, [], ◌∷◌, length, refl, sym, ap, subst, ◌∙◌, arith}
use Rattle.std.specs.List.{remove}
use mathlib.Core.Option.{some, some-injective, some-ne-none}
use lib.ListN.{get_elem?, get_or}
use Rattle.atomic_table.specs.Seated.{TableId}
use Rattle.ks_history.specs.declared.journal.Entry.{Entry}
use Rattle.ks_history.specs.Machine.{TaskPlan}
use Rattle.ks_cluster.specs.View.{ClusterView, setup_of}
use Rattle.ks_growing.specs.Passes.{PassView, IsPass, IsFresh, Each}
use Rattle.ks_job.specs.Items.{ItemView, item_views}
use Rattle.ks_job_source.specs.Opening.{StandsPast}
use Rattle.ks_law_inputs.specs.Records.{AreRecords}
use Rattle.ks_shared.specs.declared.state.Frame.{Frame}
use Rattle.ks_shared.specs.Calls.{frame_of, setup_in}
use Rattle.ks_run_feed.specs.declared.feeding.JobFeed.{JobFeed}
use Rattle.ks_plan.specs.Drafts.{DraftView}
use Rattle.ks_plan.specs.Plan.{Plan, plan_of}
use Rattle.ks_topo.specs.Places.{HasPlaces}
use Rattle.ks_run_feed.specs.Placing.{counts_in}
use Rattle.ks_run_feed.specs.Feeding.{MayFeed}

pub split_off : {A : Type 0} (items rest : List A) (first : A) → first ≡ get_or items 0 first → rest ≡ remove items 0 → 0 < length items → items ≡ first ∷ rest
split_off [] rest first e f l = absurd (omega arith)
split_off (x ∷ xs) rest first e f l = let head : first ≡ x = e in let tail : rest ≡ xs = f in λ i. sym head i ∷ sym tail i

pub first_fresh : {E F : Type 0} (lock : TableId) (seen : List E) (frame : F) (all rest : List (PassView E F)) (first : PassView E F) → all ≡ first ∷ rest → Each (IsFresh lock seen frame) all → IsFresh lock seen frame 0 first
first_fresh lock seen frame all rest first is h = h 0 first (ap (λ l. get_elem? l 0) is)

module _ {W : Type 0} (plan : W → TaskPlan) (lock : TableId) (c : ClusterView W) (k : ℕ) (pass : PassView Entry (Frame W)) (fresh : IsFresh lock c.journal (frame_of c) k pass) where
  pub fresh_pass : IsPass lock k pass
  fresh_pass = subst (IsPass lock k) (sym fresh) (refl, refl, refl)

  pub fresh_seen : pass.seen ≡ c.journal
  fresh_seen = ap (λ (p : PassView Entry (Frame W)). p.seen) fresh

  pub fresh_setup : setup_in plan pass.frame ≡ setup_of plan c
  fresh_setup = ap (λ (p : PassView Entry (Frame W)). setup_in plan p.frame) fresh

  pub fresh_counts : (counts : List ℕ) → counts ≡ c.counts → counts ≡ (setup_in plan pass.frame).counts
  fresh_counts counts is = is ∙ sym (ap (λ s. s.counts) fresh_setup)

  pub fresh_places : (p : Plan) → ((topic : ℕ) → topic < (plan c.work).sources → HasPlaces p topic) → (topic : ℕ) → topic < (setup_in plan pass.frame).plan.sources → HasPlaces p topic
  fresh_places p h topic l = h topic (subst (λ s. topic < s.plan.sources) fresh_setup l)

  pub fresh_records : (is : List ItemView) → AreRecords (plan c.work).sources is → AreRecords (setup_in plan pass.frame).plan.sources is
  fresh_records is h = subst (λ s. AreRecords s.plan.sources is) (sym fresh_setup) h

-- a feeder with the first pass of a new lock
pub fresh_feeder : {W : Type 0} (plan : W → TaskPlan) (lock : TableId) (d : DraftView) (c : ClusterView W) (f : JobFeed W) → IsFresh lock c.journal (frame_of c) 0 f.pass → counts_in (plan_of d) ≡ c.counts →
    ((topic : ℕ) → topic < (plan c.work).sources → HasPlaces (plan_of d) topic) → AreRecords (plan c.work).sources (item_views f.records.items) →
    StandsPast (plan c.work).sources f.rest.taken f.rest.standing → 1 ≤ length f.rest.buf.items → MayFeed plan lock d f
fresh_feeder plan lock d c f fresh counts places records past room = record {
  pass = fresh_pass plan lock c 0 f.pass fresh;
  counts = fresh_counts plan lock c 0 f.pass fresh (counts_in (plan_of d)) counts;
  places = fresh_places plan lock c 0 f.pass fresh (plan_of d) places;
  records = fresh_records plan lock c 0 f.pass fresh (item_views f.records.items) records;
  past = subst (λ s. StandsPast s.plan.sources f.rest.taken f.rest.standing) (sym (fresh_setup plan lock c 0 f.pass fresh)) past;
  room = room;
}

-- a lock with one pass
module _ {E F : Type 0} (lock : TableId) where
  only : (pass : PassView E F) → IsPass lock 0 pass → Each (IsPass lock) (pass ∷ [])
  only pass h zero p g = subst (IsPass lock 0) (some-injective pass p g) h
  only pass h (suc k) p g = absurd (some-ne-none p (sym g))

  pub only_pass : (all : List (PassView E F)) (pass : PassView E F) → all ≡ pass ∷ [] → IsPass lock 0 pass → Each (IsPass lock) all
  only_pass all pass is h = subst (Each (IsPass lock)) (sym is) (only pass h)

pub first_is : {A : Type 0} (all rest : List A) (first : A) → all ≡ first ∷ rest → get_elem? all 0 ≡ some first
first_is all rest first is = ap (λ l. get_elem? l 0) is
