-- A feed along the pieces of its job.
use Rattle.std.proofs.Common.{◌≡◌, ℕ, ◌<◌, ◌≤◌, List, [], ◌∷◌, ◌++◌, length, refl, sym, ap, subst, ◌∙◌, append-nil}
use Rattle.std.specs.Prelude.{Option, Some, None}
use Rattle.std.specs.Io.KnownBytes.{Keeps as StayKnown}
use Rattle.atomic_table.specs.Seated.{TableId}
use Rattle.ks_record.specs.Records.{Record as Rec}
use Rattle.ks_record.specs.declared.record.PartId.{PartId}
use Rattle.ks_plan.specs.Drafts.{DraftView}
use Rattle.ks_plan.specs.Plan.{Plan, plan_of}
use Rattle.ks_history.specs.declared.journal.Entry.{Entry}
use Rattle.ks_history.specs.Machine.{TaskPlan}
use Rattle.ks_growing.specs.Passes.{PassView}
use Rattle.ks_shared.specs.declared.state.Frame.{Frame}
use Rattle.ks_shared.specs.Calls.{setup_in}
use Rattle.ks_job.specs.declared.judge.JobItem.{JobItem}
use Rattle.ks_job.specs.Items.{ItemView, TopologyAt, RecordTo, item_views}
use Rattle.ks_job.specs.Reader.{Reader}
use Rattle.ks_law_inputs.specs.Records.{AreRecords}
use Rattle.ks_job_source.specs.declared.rest.Standing.{Standing}
use Rattle.ks_job_source.specs.declared.rest.Standing.TheVariants.{Reading, Whole, Stopped, Lost}
use Rattle.ks_job_source.specs.declared.rest.JobEnd.{JobEnd}
use Rattle.ks_job_source.specs.declared.rest.JobEnd.TheVariants as end
use Rattle.ks_job_source.specs.Steps.{GoesFurther, GoesPast}
use Rattle.ks_job_source.specs.Opening.{GoesOn, EndsFrom, StandsPast, IsReading, end_at}
use Rattle.ks_job_source.proofs.Opened.{starts_on, lost_no_more, some_left}
use Rattle.ks_run_feed.specs.declared.feeding.JobFeed.{JobFeed}
use Rattle.ks_run_feed.specs.Placing.{placed, placed_all}
use Rattle.ks_run_feed.specs.Producing.{HasProduced}
use Rattle.ks_run_feed.specs.Feeding.{MayFeed, FaultsBy, HasFed}
use Rattle.ks_run_feed.proofs.Produced.{nothing_produced, produced_on, still_first}

-- ---- records of two lists, one after the other
pub placed_both : (p : Plan) (xs ys : List ItemView) → placed_all p (xs ++ ys) ≡ placed_all p xs ++ placed_all p ys
placed_both p [] ys = refl
placed_both p (TopologyAt line d ∷ xs) ys = placed_both p xs ys
placed_both p (RecordTo topic rec ∷ xs) ys = ap (λ l. placed p topic rec ∷ l) (placed_both p xs ys)

-- ---- since a reader stood somewhere
abbrev pub GoesFrom : Standing → Option (List ℕ) → Option (List ℕ) → Standing → List ItemView → Type 0
GoesFrom (Reading None) old now standing items = ⊥
GoesFrom (Reading (Some r)) old now standing items = GoesOn r old now standing items
GoesFrom Whole old now standing items = ⊥
GoesFrom (Stopped stop) old now standing items = ⊥
GoesFrom Lost old now standing items = ⊥

pub goes_from_here : (topics count : ℕ) (standing : Standing) (left : Option (List ℕ)) → IsReading standing → StandsPast topics count standing → GoesFrom standing left left standing []
goes_from_here topics count (Reading None) left h past = past
goes_from_here topics count (Reading (Some r)) left h past = starts_on topics count r left past
goes_from_here topics count Whole left h past = h
goes_from_here topics count (Stopped stop) left h past = h
goes_from_here topics count Lost left h past = h

pub goes_further : (start old_standing new_standing : Standing) (left old new : Option (List ℕ)) (items more : List ItemView) →
    ((from : Reader) (first : Option (List ℕ)) (is : List ItemView) → GoesOn from first old old_standing is → GoesOn from first new new_standing (is ++ more)) →
    GoesFrom start left old old_standing items → GoesFrom start left new new_standing (items ++ more)
goes_further (Reading None) old_standing new_standing left old new items more step h = h
goes_further (Reading (Some r)) old_standing new_standing left old new items more step h = step r left items h
goes_further Whole old_standing new_standing left old new items more step h = h
goes_further (Stopped stop) old_standing new_standing left old new items more step h = h
goes_further Lost old_standing new_standing left old new items more step h = h

-- reading goes on where it has not ended
still_reading : (r : Reader) (left now : Option (List ℕ)) (standing : Standing) (items : List ItemView) → GoesOn r left now standing items → end_at standing ≡ None → IsReading standing
still_reading r left now (Reading s) items h e = tt
still_reading r left now Whole items h e = absurd (cc)
still_reading r left now (Stopped stop) items h e = absurd (cc)
still_reading r left now Lost items h e = h

pub reading_on : (start : Standing) (left now : Option (List ℕ)) (standing : Standing) (items : List ItemView) → GoesFrom start left now standing items → end_at standing ≡ None → IsReading standing
reading_on (Reading None) left now standing items h e = absurd h
reading_on (Reading (Some r)) left now standing items h e = still_reading r left now standing items h e
reading_on Whole left now standing items h e = absurd h
reading_on (Stopped stop) left now standing items h e = absurd h
reading_on Lost left now standing items h e = absurd h

-- where it has not ended before it is read on
pub reads_on : (topics count : ℕ) (standing : Standing) → StandsPast topics count standing → end_at standing ≡ None → IsReading standing
reads_on topics count (Reading r) past e = tt
reads_on topics count Whole past e = absurd (cc)
reads_on topics count (Stopped stop) past e = absurd (cc)
reads_on topics count Lost past e = absurd past

-- how it ended
ended_so : (r : Reader) (left now : Option (List ℕ)) (standing : Standing) (items : List ItemView) (e : JobEnd) → GoesOn r left now standing items → end_at standing ≡ Some e → EndsFrom (Reading (Some r)) left now e items
ended_so r left now (Reading s) items e h is = absurd (cc)
ended_so r left now Whole items e h is = let same : end.Whole ≡ e = cc in subst (λ x. EndsFrom (Reading (Some r)) left now x items) same h
ended_so r left now (Stopped stop) items e h is = let same : end.Stopped stop ≡ e = cc in subst (λ x. EndsFrom (Reading (Some r)) left now x items) same h
ended_so r left now Lost items e h is = absurd h

pub ended_from : (start : Standing) (left now : Option (List ℕ)) (standing : Standing) (items : List ItemView) (e : JobEnd) → GoesFrom start left now standing items → end_at standing ≡ Some e → EndsFrom start left now e items
ended_from (Reading None) left now standing items e h is = absurd h
ended_from (Reading (Some r)) left now standing items e h is = ended_so r left now standing items e h is
ended_from Whole left now standing items e h is = absurd h
ended_from (Stopped stop) left now standing items e h is = absurd h
ended_from Lost left now standing items e h is = absurd h

-- the source failed
failed_so : (r : Reader) (left now new : Option (List ℕ)) (standing : Standing) (items : List ItemView) → IsReading standing → StayKnown now new → GoesOn r left now standing items → EndsFrom (Reading (Some r)) left new end.Failed items
failed_so r left now new (Reading None) items h k g = absurd g
failed_so r left now new (Reading (Some s)) items h k g = (s, lost_no_more r s left now new items k g)
failed_so r left now new Whole items h k g = absurd h
failed_so r left now new (Stopped stop) items h k g = absurd h
failed_so r left now new Lost items h k g = absurd h

pub failed_from : (start : Standing) (left now new : Option (List ℕ)) (standing : Standing) (items : List ItemView) → IsReading standing → StayKnown now new → GoesFrom start left now standing items → EndsFrom start left new end.Failed items
failed_from (Reading None) left now new standing items h k g = absurd g
failed_from (Reading (Some r)) left now new standing items h k g = failed_so r left now new standing items h k g
failed_from Whole left now new standing items h k g = absurd g
failed_from (Stopped stop) left now new standing items h k g = absurd g
failed_from Lost left now new standing items h k g = absurd g

-- it had ended before
pub ended_before : (standing : Standing) (left : Option (List ℕ)) (e : JobEnd) → end_at standing ≡ Some e → EndsFrom standing left left e []
ended_before (Reading r) left e is = absurd (cc)
ended_before Whole left e is = let same : end.Whole ≡ e = cc in subst (λ x. EndsFrom Whole left left x []) same (refl, refl)
ended_before (Stopped stop) left e is = let same : end.Stopped stop ≡ e = cc in subst (λ x. EndsFrom (Stopped stop) left left x []) same (refl, refl)
ended_before Lost left e is = absurd (cc)

pub no_fault : (standing : Standing) (before : ℕ) (e : JobEnd) → end_at standing ≡ Some e → FaultsBy e before before
no_fault (Reading r) before e is = absurd (cc)
no_fault Whole before e is = let same : end.Whole ≡ e = cc in subst (λ x. FaultsBy x before before) same refl
no_fault (Stopped stop) before e is = let same : end.Stopped stop ≡ e = cc in subst (λ x. FaultsBy x before before) same refl
no_fault Lost before e is = absurd (cc)

pub kept_faults : (standing : Standing) (before now : ℕ) (e : JobEnd) → end_at standing ≡ Some e → now ≡ before → FaultsBy e before now
kept_faults standing before now e is same = subst (λ n. FaultsBy e before n) (sym same) (no_fault standing before e is)

-- ---- the loop
module _ {W : Type 0} (plan : W → TaskPlan) (lock : TableId) (d : DraftView) where
  pub record IsFeeding (start now : JobFeed W) (left_old left_now : Option (List ℕ)) (faults_old faults_now : ℕ) : Type 0 where
    pub may : MayFeed plan lock d now
    pub reading : IsReading now.rest.standing
    pub none : now.records.items ≡ []
    pub items : List ItemView
    pub produced : HasProduced start.pass now.pass (placed_all (plan_of d) items)
    pub goes : GoesFrom start.rest.standing left_old left_now now.rest.standing items
    pub kept : faults_now ≡ faults_old

  pub feeding_starts : (f : JobFeed W) (left : Option (List ℕ)) (faults : ℕ) → MayFeed plan lock d f → IsReading f.rest.standing → f.records.items ≡ [] → IsFeeding f f left left faults faults
  feeding_starts f left faults may reading none = record {
    may = may;
    reading = reading;
    none = none;
    items = [];
    produced = nothing_produced f.pass;
    goes = goes_from_here _ f.rest.taken f.rest.standing left reading may.past;
    kept = refl;
  }

  -- the pass has produced more, and knows the same setup
  same_setup : (old new : PassView Entry (Frame W)) (records : List (PartId × Rec)) → HasProduced old new records → setup_in plan new.frame ≡ setup_in plan old.frame
  same_setup old new records h = ap (λ (p : PassView Entry (Frame W)). setup_in plan p.frame) h.same

  pub may_still : (old new : JobFeed W) (records : List (PartId × Rec)) → MayFeed plan lock d old → HasProduced old.pass new.pass records → new.records.items ≡ [] →
      StandsPast (setup_in plan old.pass.frame).plan.sources new.rest.taken new.rest.standing → 1 ≤ length new.rest.buf.items → MayFeed plan lock d new
  may_still old new records h k none past room =
      let same = same_setup old.pass new.pass records k in
      record {
        pass = still_first lock old.pass new.pass records k h.pass;
        counts = h.counts ∙ sym (ap (λ s. s.counts) same);
        places = λ topic l. h.places topic (subst (λ s. topic < s.plan.sources) same l);
        records = subst (λ l. AreRecords (setup_in plan new.pass.frame).plan.sources (item_views l)) (sym none) tt;
        past = subst (λ s. StandsPast s.plan.sources new.rest.taken new.rest.standing) (sym same) past;
        room = room;
      }

  produced_more : (start old new : JobFeed W) (items more : List ItemView) → HasProduced start.pass old.pass (placed_all (plan_of d) items) →
      HasProduced old.pass new.pass (placed_all (plan_of d) more) → HasProduced start.pass new.pass (placed_all (plan_of d) (items ++ more))
  produced_more start old new items more a b =
      subst (HasProduced start.pass new.pass) (sym (placed_both (plan_of d) items more))
      (produced_on start.pass old.pass new.pass (placed_all (plan_of d) items) (placed_all (plan_of d) more) a b)

  pub fed_more : (start old new : JobFeed W) (left old_left new_left : Option (List ℕ)) (faults old_faults new_faults : ℕ) (more : List ItemView) → IsFeeding start old left old_left faults old_faults →
      HasProduced old.pass new.pass (placed_all (plan_of d) more) → new.records.items ≡ [] →
      ((from : Reader) (first : Option (List ℕ)) (is : List ItemView) → GoesOn from first old_left old.rest.standing is → GoesOn from first new_left new.rest.standing (is ++ more)) →
      StandsPast (setup_in plan old.pass.frame).plan.sources new.rest.taken new.rest.standing → 1 ≤ length new.rest.buf.items → new_faults ≡ old_faults → end_at new.rest.standing ≡ None →
      IsFeeding start new left new_left faults new_faults
  fed_more start old new left old_left new_left faults old_faults new_faults more h k none step past room kept e =
      let goes = goes_further start.rest.standing old.rest.standing new.rest.standing left old_left new_left h.items more step h.goes in
      record {
        may = may_still old new (placed_all (plan_of d) more) h.may k none past room;
        reading = reading_on start.rest.standing left new_left new.rest.standing (h.items ++ more) goes e;
        none = none;
        items = h.items ++ more;
        produced = produced_more start old new h.items more h.produced k;
        goes = goes;
        kept = kept ∙ h.kept;
      }

  -- one turn
  pub turn_records : (start old : JobFeed W) (left now : Option (List ℕ)) (faults new_faults : ℕ) (standing : Standing) (count : ℕ) (items : List ItemView) → IsFeeding start old left now faults new_faults →
      GoesPast old.rest.standing standing old.rest.taken count items → AreRecords (setup_in plan old.pass.frame).plan.sources items
  turn_records start old left now faults new_faults standing count items h past = (past (setup_in plan old.pass.frame).plan.sources h.may.past).records

  pub turn_ends : (start old new : JobFeed W) (left old_left new_left : Option (List ℕ)) (faults old_faults : ℕ) (more : List ItemView) (standing : Standing) (e : JobEnd) → IsFeeding start old left old_left faults old_faults →
      HasProduced old.pass new.pass (placed_all (plan_of d) more) → GoesFurther old_left new_left old.rest.standing standing more → end_at standing ≡ Some e → start.records.items ≡ [] →
      HasFed d start new left new_left e
  turn_ends start old new left old_left new_left faults old_faults more standing e h k step is none = record {
    items = h.items ++ more;
    produced = subst (λ l. HasProduced start.pass new.pass (placed_all (plan_of d) (item_views l ++ (h.items ++ more)))) (sym none) (produced_more start old new h.items more h.produced k);
    ends = ended_from start.rest.standing left new_left standing (h.items ++ more) e (goes_further start.rest.standing old.rest.standing standing left old_left new_left h.items more step h.goes) is;
  }

  pub turn_fails : (start old : JobFeed W) (new : JobFeed W) (left old_left new_left : Option (List ℕ)) (faults old_faults : ℕ) → IsFeeding start old left old_left faults old_faults → new.pass ≡ old.pass → StayKnown old_left new_left → start.records.items ≡ [] →
      HasFed d start new left new_left end.Failed
  turn_fails start old new left old_left new_left faults old_faults h same known none = record {
    items = h.items;
    produced = subst (λ l. HasProduced start.pass new.pass (placed_all (plan_of d) (item_views l ++ h.items))) (sym none) (subst (λ p. HasProduced start.pass p (placed_all (plan_of d) h.items)) (sym same) h.produced);
    ends = failed_from start.rest.standing left old_left new_left old.rest.standing h.items h.reading known h.goes;
  }

  pub some_left_to_read : (f : JobFeed W) → IsReading f.rest.standing → MayFeed plan lock d f → f.rest.taken < 67174401
  some_left_to_read f reading may = left_at (setup_in plan f.pass.frame).plan.sources f.rest.taken f.rest.standing reading may.past
    where
      left_at : (topics count : ℕ) (standing : Standing) → IsReading standing → StandsPast topics count standing → count < 67174401
      left_at topics count (Reading None) i p = absurd p
      left_at topics count (Reading (Some r)) i p = some_left topics count r p
      left_at topics count Whole i p = absurd i
      left_at topics count (Stopped stop) i p = absurd i
      left_at topics count Lost i p = absurd i

-- ---- the records that came with the topology, and then the others
-- what was handed on is what the feeder had
pub first_fed : {W : Type 0} (d : DraftView) (old : JobFeed W) (new : PassView Entry (Frame W)) (items : List JobItem) → items ≡ old.records.items →
    HasProduced old.pass new (placed_all (plan_of d) (item_views items)) → HasProduced old.pass new (placed_all (plan_of d) (item_views old.records.items))
first_fed d old new items all h = subst (λ is. HasProduced old.pass new (placed_all (plan_of d) (item_views is))) all h

pub fed_both : {W : Type 0} (d : DraftView) (old mid new : JobFeed W) (left now : Option (List ℕ)) (e : JobEnd) → HasProduced old.pass mid.pass (placed_all (plan_of d) (item_views old.records.items)) →
    mid.records.items ≡ [] → mid.rest.standing ≡ old.rest.standing → HasFed d mid new left now e → HasFed d old new left now e
fed_both d old mid new left now e h none standing k = record {
  items = k.items;
  produced = subst (HasProduced old.pass new.pass) (sym (placed_both (plan_of d) (item_views old.records.items) k.items))
      (produced_on old.pass mid.pass new.pass (placed_all (plan_of d) (item_views old.records.items)) (placed_all (plan_of d) k.items) h
      (subst (λ l. HasProduced mid.pass new.pass (placed_all (plan_of d) (item_views l ++ k.items))) none k.produced));
  ends = subst (λ s. EndsFrom s left now e k.items) standing k.ends;
}

pub fed_before : {W : Type 0} (d : DraftView) (old new : JobFeed W) (left : Option (List ℕ)) (e : JobEnd) → HasProduced old.pass new.pass (placed_all (plan_of d) (item_views old.records.items)) →
    end_at old.rest.standing ≡ Some e → HasFed d old new left left e
fed_before d old new left e h is = record {
  items = [];
  produced = subst (λ l. HasProduced old.pass new.pass (placed_all (plan_of d) l)) (sym (append-nil (item_views old.records.items))) h;
  ends = ended_before old.rest.standing left e is;
}
