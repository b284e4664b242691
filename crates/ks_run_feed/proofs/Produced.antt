-- Records that are produced one after another through the first pass, among entries of others.
use Rattle.std.proofs.Common.{◌≡◌, ℕ, ◌==◌, Bool, true, false, cond, List, [], ◌∷◌, ◌++◌, filter, refl, sym, ap, subst, ◌∙◌, append_assoc, append-nil, Result, Ok, Err, OnErr}
use Rattle.std.proofs.lemmas.List.Elements.{filter-append}
use Rattle.std.proofs.lemmas.Bool.{true≢false}
use Rattle.ks_record.specs.Records.{Record as Rec}
use Rattle.ks_record.specs.declared.record.PartId.{PartId}
use Rattle.ks_record.specs.declared.record.TaskId.{TaskId}
use Rattle.ks_history.specs.declared.journal.Request.{Request}
use Rattle.ks_history.specs.declared.journal.Request.TheVariants.{Produce, Init, Add, Append, SendOffsets, Decide, MarkNext, Join, Expire, Hold, Probe, Assign, Park, Unpark}
use Rattle.ks_history.specs.declared.journal.Reply.{Reply}
use Rattle.ks_history.specs.declared.journal.Entry.{Entry}
use Rattle.ks_history.specs.Machine.{TaskPlan}
use Rattle.ks_cluster.specs.View.{ClusterView, AddsEntry, state_of}
use Rattle.atomic_table.specs.Seated.{TableId}
use Rattle.ks_growing.specs.Passes.{PassView, IsPass}
use Rattle.ks_shared.specs.declared.state.Frame.{Frame}
use Rattle.ks_shared.specs.Calls.{frame_of, Called}
use Rattle.ks_shared.specs.Reserved.{asks_as_caller, is_callers}
use Rattle.ks_job.specs.declared.judge.JobItem.{JobItem}
use Rattle.ks_job.specs.declared.judge.JobItem.TheVariants.{Input}
use Rattle.ks_job.specs.Items.{ItemView, RecordTo, item_views}
use Rattle.ks_law_inputs.specs.Records.{AreRecords}
use Rattle.ks_law_settled.specs.Jobs.{produces_by, produces}
use Rattle.ks_plan.specs.Plan.{Plan}
use Rattle.ks_run_feed.specs.Placing.{placed, placed_all}
use Rattle.ks_run_feed.specs.Producing.{asks_to_drain, begins_drain, HasProduced, HasProducedFront, IsFilled}

-- ---- what a journal has produced, and whether it has begun a drain, is read off the caller's entries
from_callers : (request : Request) (reply : Reply) (rest : List Entry) → produces rest ≡ produces (filter is_callers rest) →
    produces_by request (produces rest) ≡ produces (filter is_callers (record { request = request; reply = reply } ∷ rest))
from_callers (Produce p rec) reply rest e = ap (λ l. (p, rec) ∷ l) e
from_callers (Init w) reply rest e = by (w == 16)
  where
    by : (b : Bool) → produces rest ≡ produces (cond b (record { request = Init w; reply = reply } ∷ filter is_callers rest) (filter is_callers rest))
    by true = e
    by false = e
from_callers (Add w epoch p) reply rest e = e
from_callers (Append w epoch number t p recs) reply rest e = e
from_callers (SendOffsets w epoch g t offsets order late) reply rest e = e
from_callers (Decide w epoch commit) reply rest e = e
from_callers (MarkNext w) reply rest e = e
from_callers (Join w) reply rest e = by (w == 16)
  where
    by : (b : Bool) → produces rest ≡ produces (cond b (record { request = Join w; reply = reply } ∷ filter is_callers rest) (filter is_callers rest))
    by true = e
    by false = e
from_callers (Expire w) reply rest e = e
from_callers (Hold w held) reply rest e = e
from_callers (Probe w g) reply rest e = e
from_callers (Assign w g a) reply rest e = e
from_callers (Park instance t) reply rest e = e
from_callers (Unpark instance t) reply rest e = e

produces_callers : (journal : List Entry) → produces journal ≡ produces (filter is_callers journal)
produces_callers [] = refl
produces_callers (entry ∷ entries) = from_callers entry.request entry.reply entries (produces_callers entries)

pub same_produces : (xs ys : List Entry) → filter is_callers xs ≡ filter is_callers ys → produces xs ≡ produces ys
same_produces xs ys e = produces_callers xs ∙ ap produces e ∙ sym (produces_callers ys)

produces_no_more : (journal others : List Entry) → filter is_callers others ≡ [] → produces (journal ++ others) ≡ produces journal
produces_no_more journal others none =
    same_produces (journal ++ others) journal (filter-append is_callers journal others ∙ ap (λ l. filter is_callers journal ++ l) none ∙ append-nil (filter is_callers journal))

-- an entry that begins a drain is the caller's
drains_by : (request : Request) → asks_to_drain request ≡ true → asks_as_caller request ≡ true
drains_by (Produce p rec) e = refl
drains_by (Init w) e = e
drains_by (Add w epoch p) e = e
drains_by (Append w epoch number t p recs) e = e
drains_by (SendOffsets w epoch g t offsets order late) e = e
drains_by (Decide w epoch commit) e = e
drains_by (MarkNext w) e = e
drains_by (Join w) e = e
drains_by (Expire w) e = e
drains_by (Hold w held) e = e
drains_by (Probe w g) e = e
drains_by (Assign w g a) e = e
drains_by (Park instance t) e = e
drains_by (Unpark instance t) e = e

drains_at : (b c : Bool) (entry : Entry) (xs ys : List Entry) → begins_drain entry ≡ b → (b ≡ true → c ≡ true) → filter begins_drain xs ≡ filter begins_drain ys →
    filter begins_drain (entry ∷ xs) ≡ filter begins_drain (cond c (entry ∷ ys) ys)
drains_at b true entry xs ys is h e = ap (λ l. cond (begins_drain entry) (entry ∷ l) l) e
drains_at true false entry xs ys is h e = absurd (true≢false (sym (h refl)))
drains_at false false entry xs ys is h e = ap (λ t. cond t (entry ∷ filter begins_drain xs) (filter begins_drain xs)) is ∙ e

drains_callers : (journal : List Entry) → filter begins_drain journal ≡ filter begins_drain (filter is_callers journal)
drains_callers [] = refl
drains_callers (entry ∷ entries) =
    drains_at (begins_drain entry) (is_callers entry) entry entries (filter is_callers entries) refl (drains_by entry.request) (drains_callers entries)

pub same_drains : (xs ys : List Entry) → filter is_callers xs ≡ filter is_callers ys → filter begins_drain xs ≡ filter begins_drain ys
same_drains xs ys e = drains_callers xs ∙ ap (filter begins_drain) e ∙ sym (drains_callers ys)

drains_no_more : (journal others : List Entry) → filter is_callers others ≡ [] → filter begins_drain (journal ++ others) ≡ filter begins_drain journal
drains_no_more journal others none =
    same_drains (journal ++ others) journal (filter-append is_callers journal others ∙ ap (λ l. filter is_callers journal ++ l) none ∙ append-nil (filter is_callers journal))

by_append : (request : Request) (xs ys : List (PartId × Rec)) → produces_by request (xs ++ ys) ≡ produces_by request xs ++ ys
by_append (Produce p rec) xs ys = refl
by_append (Init w) xs ys = refl
by_append (Add w e p) xs ys = refl
by_append (Append w e number t p recs) xs ys = refl
by_append (SendOffsets w e g t offsets order late) xs ys = refl
by_append (Decide w e commit) xs ys = refl
by_append (MarkNext w) xs ys = refl
by_append (Join w) xs ys = refl
by_append (Expire w) xs ys = refl
by_append (Hold w held) xs ys = refl
by_append (Probe w g) xs ys = refl
by_append (Assign w g a) xs ys = refl
by_append (Park instance t) xs ys = refl
by_append (Unpark instance t) xs ys = refl

produces_onto : (journal : List Entry) (p : PartId) (rec : Rec) (reply : Reply) → produces (journal ++ record { request = Produce p rec; reply = reply } ∷ []) ≡ produces journal ++ (p, rec) ∷ []
produces_onto [] p rec reply = refl
produces_onto (entry ∷ entries) p rec reply = ap (produces_by entry.request) (produces_onto entries p rec reply) ∙ by_append entry.request (produces entries) ((p, rec) ∷ [])

pub on_any : {A E X : Type 0} (r : Result A E) → X → OnErr r X
on_any (Ok a) x = tt
on_any (Err e) x = x

pub more_records : (topics topic : ℕ) (rec : Rec) (item : JobItem) (rest more : List JobItem) → rest ≡ item ∷ more → item ≡ Input topic rec → AreRecords topics (item_views rest) → AreRecords topics (item_views more)
more_records topics topic rec item rest more split is records =
    let here : AreRecords topics (item_views (Input topic rec ∷ more)) = subst (λ (l : List JobItem). AreRecords topics (item_views l)) (split ∙ ap (λ i. i ∷ more) is) records in
    here.1

-- ---- one call of `produce` through the first pass
module _ {W : Type 0} where
  still : (old new : PassView Entry (Frame W)) (seen : List Entry) (made : ℕ) → new ≡ record old { seen = seen; made = made } → new ≡ record old { seen = new.seen; made = new.made }
  still old new seen made e = subst (λ (p : PassView Entry (Frame W)). p ≡ record old { seen = p.seen; made = p.made }) (sym e) refl

  module _ (plan : W → TaskPlan) (old new : PassView Entry (Frame W)) (p : PartId) (rec : Rec) (first : old.number ≡ 0) where
    module _ {Does : ClusterView W → ClusterView W → Type 0} (c : Called plan old new Does) where
      seen_is : new.seen ≡ c.after.journal
      seen_is = ap (λ (k : PassView Entry (Frame W)). k.seen) c.same

      before_is : produces c.before.journal ≡ produces old.seen
      before_is = ap produces c.came ∙ produces_no_more old.seen c.others (c.quiet first)

      drains_before : filter begins_drain c.before.journal ≡ filter begins_drain old.seen
      drains_before = ap (filter begins_drain) c.came ∙ drains_no_more old.seen c.others (c.quiet first)

      pub added : (reply : Reply) → AddsEntry plan c.before c.after (Produce p rec) reply → HasProduced old new ((p, rec) ∷ [])
      added reply a = record {
        same = still old new _ _ c.same;
        produced = ap produces (seen_is ∙ ap (λ (k : ClusterView W). k.journal) a.journal) ∙ produces_onto c.before.journal p rec reply ∙ ap (λ l. l ++ (p, rec) ∷ []) before_is;
        undrained = ap (filter begins_drain) (seen_is ∙ ap (λ (k : ClusterView W). k.journal) a.journal)
            ∙ (filter-append begins_drain c.before.journal (record { request = Produce p rec; reply = reply } ∷ []) ∙ (append-nil (filter begins_drain c.before.journal) ∙ drains_before));
      }

      pub unchanged : c.after ≡ c.before → HasProduced old new []
      unchanged same = record {
        same = still old new _ _ c.same;
        produced = ap produces (seen_is ∙ ap (λ (k : ClusterView W). k.journal) same) ∙ before_is ∙ sym (append-nil (produces old.seen));
        undrained = ap (filter begins_drain) (seen_is ∙ ap (λ (k : ClusterView W). k.journal) same) ∙ drains_before;
      }

  -- ---- one after another
  pub nothing_produced : (p : PassView Entry (Frame W)) → HasProduced p p []
  nothing_produced p = record { same = refl; produced = sym (append-nil (produces p.seen)); undrained = refl }

  pub produced_on : (a b c : PassView Entry (Frame W)) (xs ys : List (PartId × Rec)) → HasProduced a b xs → HasProduced b c ys → HasProduced a c (xs ++ ys)
  produced_on a b c xs ys h k = record {
    same = k.same ∙ ap (λ (p : PassView Entry (Frame W)). record p { seen = c.seen; made = c.made }) h.same;
    produced = k.produced ∙ (ap (λ l. l ++ ys) h.produced ∙ append_assoc (produces a.seen) xs ys);
    undrained = k.undrained ∙ h.undrained;
  }

  -- some records, and then those of the items that are left, are those of all items
  pub record IsProducing (plan : Plan) (start now : PassView Entry (Frame W)) (rest all : List ItemView) : Type 0 where
    pub done : List (PartId × Rec)
    pub so_far : HasProduced start now done
    pub split : done ++ placed_all plan rest ≡ placed_all plan all

  pub producing_starts : (plan : Plan) (p : PassView Entry (Frame W)) (all : List ItemView) → IsProducing plan p p all all
  producing_starts plan p all = record { done = []; so_far = nothing_produced p; split = refl }

  pub producing_goes : (plan : Plan) (start old new : PassView Entry (Frame W)) (topic : ℕ) (rec : Rec) (rest all : List ItemView) → IsProducing plan start old (RecordTo topic rec ∷ rest) all →
      HasProduced old new (placed plan topic rec ∷ []) → IsProducing plan start new rest all
  producing_goes plan start old new topic rec rest all h p = record {
    done = h.done ++ placed plan topic rec ∷ [];
    so_far = produced_on start old new h.done (placed plan topic rec ∷ []) h.so_far p;
    split = append_assoc h.done (placed plan topic rec ∷ []) (placed_all plan rest) ∙ h.split;
  }

  pub next_produced : (plan : Plan) (start old new : PassView Entry (Frame W)) (topic : ℕ) (rec : Rec) (item : JobItem) (rest more all : List JobItem) → rest ≡ item ∷ more → item ≡ Input topic rec →
      IsProducing plan start old (item_views rest) (item_views all) → HasProduced old new (placed plan topic rec ∷ []) → IsProducing plan start new (item_views more) (item_views all)
  next_produced plan start old new topic rec item rest more all split is h p =
      producing_goes plan start old new topic rec (item_views more) (item_views all) (subst (λ (l : List JobItem). IsProducing plan start old (item_views l) (item_views all)) (split ∙ ap (λ i. i ∷ more) is) h) p

  pub producing_ends : (plan : Plan) (start now : PassView Entry (Frame W)) (all : List ItemView) → IsProducing plan start now [] all → HasProduced start now (placed_all plan all)
  producing_ends plan start now all h = subst (HasProduced start now) (sym (append-nil h.done) ∙ h.split) h.so_far

  -- where no more are produced, a front of them was
  pub front_so_far : (plan : Plan) (start now new : PassView Entry (Frame W)) (rest all : List ItemView) → IsProducing plan start now rest all → HasProduced now new [] → HasProducedFront start new (placed_all plan all)
  front_so_far plan start now new rest all h none = record {
    front = h.done;
    rest = placed_all plan rest;
    is = sym h.split;
    produced = subst (HasProduced start new) (append-nil h.done) (produced_on start now new h.done [] h.so_far none);
  }

  -- where the pass was the first one of a lock, it is so still
  pub still_first : (lock : TableId) (old new : PassView Entry (Frame W)) (records : List (PartId × Rec)) → HasProduced old new records → IsPass lock 0 old → IsPass lock 0 new
  still_first lock old new records h k = subst (IsPass lock 0) (sym h.same) k

  -- ---- the closed cluster
  pub filled : (old first new : ClusterView W) (seen : List Entry) (records : List (PartId × Rec)) → old.journal ≡ [] → first ≡ old → seen ≡ old.journal →
      frame_of new ≡ frame_of first → produces new.journal ≡ produces seen ++ records → filter begins_drain new.journal ≡ filter begins_drain seen → IsFilled old new records
  filled old first new seen records empty is seen_is frame produced undrained = record {
    frame = frame ∙ ap frame_of is;
    produced = produced ∙ ap (λ l. produces l ++ records) (seen_is ∙ empty);
    undrained = undrained ∙ ap (filter begins_drain) (seen_is ∙ empty);
  }

  -- nothing is parked in a new cluster
  pub none_parked : (plan : W → TaskPlan) (c : ClusterView W) → c.journal ≡ [] → (i : ℕ) (t : TaskId) → (state_of plan c).parked i t ≡ false
  none_parked plan c e i t = subst (λ l. (state_of plan (record c { journal = l })).parked i t ≡ false) (sym e) refl
