-- The journal of a run, by what the run answers.
use Rattle.std.proofs.Common.{◌≡◌, ◌⊎◌, inl, inr, ℕ, Bool, true, false, List, [], ◌∷◌, ◌++◌, refl, sym, ap, subst, ◌∙◌, append-nil}
use Rattle.std.specs.Prelude.{Option, Some, None, IfSome, Err, option_and_then}
use Rattle.std.proofs.lemmas.List.{map-append}
use Rattle.std.specs.List.{All}
use Rattle.std.proofs.lemmas.List.Elements.{All-head, All-tail}
use Rattle.std.specs.Io.KnownBytes.{IsAtEnd}
use Rattle.ks_edge.specs.Causes.{Rose}
use Rattle.ks_plan.specs.Drafts.{DraftView}
use Rattle.ks_plan.specs.Plan.{plan_of}
use Rattle.ks_plan.specs.Faults.{fault_of}
use Rattle.ks_query.specs.Streams.{Input}
use Rattle.ks_query.specs.Grace.{IsWithinGrace}
use Rattle.ks_def_tasks.specs.Messages.{Rules}
use Rattle.ks_assign.specs.declared.clients.Placing.{Placing}
use Rattle.ks_cluster.specs.Placed.{PlacementTest, ArePlaced}
use Rattle.ks_history.specs.State.{State, Setup}
use Rattle.ks_history.specs.declared.journal.Entry.{Entry}
use Rattle.ks_history.specs.History.{IsHistory}
use Rattle.ks_job.specs.Items.{ItemView, TopologyAt, RecordTo}
use Rattle.ks_job.specs.Reader.{Reader, whole}
use Rattle.ks_law_inputs.specs.Records.{input_of, records_of}
use Rattle.ks_law_settled.specs.Settled.{end_of}
use Rattle.ks_iq.specs.declared.ask.Ask.{Ask}
use Rattle.ks_iq.specs.declared.answer.Answer.{Answer}
use Rattle.ks_iq.specs.declared.fault.IqFault.{IqFault}
use Rattle.ks_iq.specs.Asks.{ask_fault}
use Rattle.ks_iq.specs.Reads.{IsRead}
use Rattle.ks_run_ask.specs.Answered.{AreAnswerLines}
use Rattle.ks_run_ask.specs.Texts.{bad_ask_text}
use Rattle.ks_run_verdict.specs.Told.{Wanted, refusal_of, wanted_in, asked_in, IsText, TellsLate, TellsCollision}
use Rattle.ks_run_verdict.specs.Told.Wanted.{nothing, lines, answers}
use Rattle.ks_run_verdict.specs.Journals.{draft_in, placed_records, SettlesBytes, HasJournal, TookFront, IsUndrained, IsEmptyIf, IsInTime, IsGoodAsk, IsRefusing, IsWithoutCollision}
use Rattle.ks_job_source.specs.declared.stop.JobStop.{JobStop}
use Rattle.ks_job_source.specs.Stops.{stop_of}
use Rattle.ks_job_source.specs.Texts.{bad_job_text}
use Rattle.ks_job_source.specs.Reading.{Read}
use Rattle.ks_job_source.specs.Opening.{HoldsJob, HoldsFront, EndsFrom, EndsJob, OpensAt}
use Rattle.ks_job_source.specs.declared.rest.Standing.{Standing}
use Rattle.ks_job_source.specs.declared.rest.Standing.TheVariants as standings
use Rattle.ks_job_source.specs.declared.rest.JobEnd.{JobEnd}
use Rattle.ks_job_source.specs.declared.rest.JobEnd.TheVariants.{Whole, Stopped, Failed}
use Rattle.ks_job_source.proofs.Opened.{opened_and_read, front_of_whole}
use Rattle.ks_run_feed.specs.Feeding.{FaultsBy}
use Rattle.ks_run_output.specs.Texts.{read_fault_text}
use Rattle.ks_run.specs.Settling.{SettlesJob, KeepsJob, TellsWhole, TellsEnd, RunsJob}
use Rattle.ks_run_verdict.specs.Answers.{IsRefused, IsBadAsk, IsJudged}
use Rattle.ks_run_verdict.proofs.Told.{Tells, tells}

abbrev some_draft : Option DraftView → DraftView
some_draft None = record { app = []; topics = []; nodes = []; print = [] }
some_draft (Some d) = d

is_some_draft : (o : Option DraftView) → IfSome o (λ d. d ≡ some_draft o)
is_some_draft None = tt
is_some_draft (Some d) = refl

empty_history : (setup : Setup) → IsHistory setup []
empty_history setup = record { legal = tt; faithful = tt }

abbrev bytes_of : Option (List ℕ) → List ℕ
bytes_of None = []
bytes_of (Some bytes) = bytes

are_known : (left : Option (List ℕ)) → IfSome left (λ b. b ≡ bytes_of left)
are_known None = tt
are_known (Some bytes) = refl

none_placed : (test : PlacementTest) (setup : Setup) → ArePlaced test setup []
none_placed test setup [] w g a rest e = absurd (cc)
none_placed test setup (x ∷ front) w g a rest e = absurd (cc)

nothing_kept : (rules : Rules) (placing : Placing) (left : Option (List ℕ)) → HasJournal rules placing left []
nothing_kept rules placing left =
    let items = (whole (bytes_of left)).items in
    let d = some_draft (draft_in items) in
    record {
      bytes = bytes_of left;
      known = are_known left;
      draft = d;
      topology = is_some_draft (draft_in items);
      records = records_of items;
      inputs = refl;
      history = empty_history _;
      placed = none_placed _ _;
      front = (placed_records rules d (records_of items), refl);
      unopened = λ none. refl;
    }

pub no_journal : (rules : Rules) (placing : Placing) (left : Option (List ℕ)) (journal : List Entry) → journal ≡ [] → HasJournal rules placing left journal
no_journal rules placing left journal e = subst (HasJournal rules placing left) (sym e) (nothing_kept rules placing left)

pub none_drained : (journal : List Entry) → journal ≡ [] → IsUndrained journal
none_drained journal e = rw e refl

pub none_is : {A : Type 0} {x : A} → None ≡ Some x → ⊥
none_is e = cc

not_some : {A : Type 0} {o : Option A} {x : A} → o ≡ None → o ≡ Some x → ⊥
not_some e f = absurd (cc)

is_topology : (o : Option DraftView) (d : DraftView) → o ≡ Some d → IfSome o (λ e. e ≡ d)
is_topology o d h = rw h refl

pub bad_job_read : (left : Option (List ℕ)) (stop : JobStop) (text : List ℕ) → Read left (Err stop) → text ≡ bad_job_text stop → IsRefused left text
bad_job_read left stop text h e = record { bytes = h.bytes; known = h.known; bad = (stop, h.ends, e) }

-- ---- the journal of a job's run
-- records of two lists, one after the other
inputs_both : (is js : List ItemView) → records_of (is ++ js) ≡ records_of is ++ records_of js
inputs_both [] js = refl
inputs_both (TopologyAt line d ∷ is) js = inputs_both is js
inputs_both (RecordTo t r ∷ is) js = ap (λ l. input_of t r ∷ l) (inputs_both is js)

placed_both : (rules : Rules) (d : DraftView) (is js : List ItemView) → placed_records rules d (records_of (is ++ js)) ≡ placed_records rules d (records_of is) ++ placed_records rules d (records_of js)
placed_both rules d is js = ap (placed_records rules d) (inputs_both is js) ∙ map-append _ (records_of is) (records_of js)

-- some bytes have these records, and maybe more
kept_of : (rules : Rules) (placing : Placing) (left : Option (List ℕ)) (bytes : List ℕ) (line : ℕ) (d : DraftView) (is more : List ItemView) (journal : List Entry) → fault_of d ≡ None → IfSome left (λ b. b ≡ bytes) →
    (whole bytes).items ≡ (TopologyAt line d ∷ is) ++ more → KeepsJob rules placing d (records_of is) journal → HasJournal rules placing left journal
kept_of rules placing left bytes line d is more journal fine known items h = record {
  bytes = bytes;
  known = known;
  draft = d;
  topology = is_topology (draft_in (whole bytes).items) d (ap draft_in items);
  records = records_of (is ++ more);
  inputs = sym (ap records_of items);
  history = h.history;
  placed = h.placed;
  front = (placed_records rules d (records_of more), placed_both rules d is more ∙ ap (λ l. l ++ placed_records rules d (records_of more)) (sym h.produced));
  unopened = λ none. absurd (none d (ap draft_in items) fine);
}

-- a job that was read whole ends as one
ends_whole : (mid new : Option (List ℕ)) (end : JobEnd) (items : List ItemView) → EndsFrom standings.Whole mid new end items → end ≡ Whole
ends_whole mid new Whole items h = refl
ends_whole mid new (Stopped stop) items h = absurd h
ends_whole mid new Failed items h = absurd h

-- ---- what is judged
module _ (rules : Rules) (placing : Placing) (wanted : Wanted) (ahead : Bool) (old new : Option (List ℕ)) (before now : ℕ) where
  pub judged_bad_job : (text : List ℕ) (status : ℕ) (journal : List Entry) → status ≡ 2 → now ≡ before → IsRefused old text → IsUndrained journal → IsEmptyIf ahead journal → HasJournal rules placing old journal →
      IsJudged rules placing wanted ahead old new before now status text journal
  judged_bad_job text status journal is k h j empty kept = subst (λ s. IsJudged rules placing wanted ahead old new before now s text journal) (sym is) (record {
    read_fault = λ e. absurd (cc);
    bad_job = λ e. (k, h, j, empty);
    settled = λ e. absurd (cc);
    late = λ e. absurd (cc);
    collision = λ e. absurd (cc);
    bad_ask = λ e. absurd (cc);
    kept = kept;
    only = inr (inl refl);
  })

  pub judged_read_fault : (text : List ℕ) (status : ℕ) (journal : List Entry) → status ≡ 6 → Rose before now → TookFront old new journal → text ≡ read_fault_text → IsUndrained journal → IsEmptyIf ahead journal → HasJournal rules placing old journal →
      IsJudged rules placing wanted ahead old new before now status text journal
  judged_read_fault text status journal is k h t j empty kept = subst (λ s. IsJudged rules placing wanted ahead old new before now s text journal) (sym is) (record {
    read_fault = λ e. (k, h, t, j, empty);
    bad_job = λ e. absurd (cc);
    settled = λ e. absurd (cc);
    late = λ e. absurd (cc);
    collision = λ e. absurd (cc);
    bad_ask = λ e. absurd (cc);
    kept = kept;
    only = inr (inr (inr (inr (inl refl))));
  })

  judged_told : (d : DraftView) (records : List Input) (status : ℕ) (text : List ℕ) (journal : List Entry) → now ≡ before → IsAtEnd new → HasJournal rules placing old journal →
      SettlesBytes rules placing old d records journal → Tells rules wanted d records status text journal → IsJudged rules placing wanted ahead old new before now status text journal
  judged_told d records status text journal k z kept h (inl t) = subst (λ s. IsJudged rules placing wanted ahead old new before now s text journal) (sym t.0) (record {
    read_fault = λ e. absurd (cc);
    bad_job = λ e. absurd (cc);
    settled = λ e. (k, z, record { draft = d; records = records; settles = h; query = t.1 });
    late = λ e. absurd (cc);
    collision = λ e. absurd (cc);
    bad_ask = λ e. absurd (cc);
    kept = kept;
    only = inl refl;
  })
  judged_told d records status text journal k z kept h (inr (inl t)) = subst (λ s. IsJudged rules placing wanted ahead old new before now s text journal) (sym t.0) (record {
    read_fault = λ e. absurd (cc);
    bad_job = λ e. absurd (cc);
    settled = λ e. absurd (cc);
    late = λ e. (k, z, record { draft = d; records = records; settles = h; late = t.1 });
    collision = λ e. absurd (cc);
    bad_ask = λ e. absurd (cc);
    kept = kept;
    only = inr (inr (inl refl));
  })
  judged_told d records status text journal k z kept h (inr (inr t)) = subst (λ s. IsJudged rules placing wanted ahead old new before now s text journal) (sym t.0) (record {
    read_fault = λ e. absurd (cc);
    bad_job = λ e. absurd (cc);
    settled = λ e. absurd (cc);
    late = λ e. absurd (cc);
    collision = λ e. (k, z, record { draft = d; records = records; settles = h; collision = t.1 });
    bad_ask = λ e. absurd (cc);
    kept = kept;
    only = inr (inr (inr (inl refl)));
  })

  -- a job that was read to its end, and what its run answers
  judged_whole : (d : DraftView) (is : List ItemView) (status : ℕ) (text : List ℕ) (journal : List Entry) → refusal_of d wanted ≡ None → fault_of d ≡ None → now ≡ before → IsAtEnd new → HoldsJob old None d is → KeepsJob rules placing d (records_of is) journal →
      SettlesJob rules wanted d (records_of is) status text journal → IsJudged rules placing wanted ahead old new before now status text journal
  judged_whole d is status text journal good fine k z h kept a =
      judged_told d (records_of is) status text journal k z
      (kept_of rules placing old h.bytes h.line d is [] journal fine h.known (h.items_are ∙ sym (append-nil (TopologyAt h.line d ∷ is))) kept)
      (record {
        bytes = h.bytes;
        known = h.known;
        unstopped = h.stops;
        topology = ap draft_in h.items_are;
        inputs = sym (ap records_of h.items_are);
        kept = a.kept;
        placed = kept.placed;
      })
      (tells rules wanted d (records_of is) status text journal good a.kept a.status_is a.told)

  -- the question, where the topology has something against it
  refused_by : (d : DraftView) (fault : IqFault) (o : Option Ask) → option_and_then (ask_fault d) o ≡ Some fault → (ask : Ask) × (o ≡ Some ask) × (ask_fault d ask ≡ Some fault)
  refused_by d fault None e = absurd (none_is e)
  refused_by d fault (Some ask) e = (ask, refl, e)

  judged_bad_ask : (fault : IqFault) (d : DraftView) (is : List ItemView) (status : ℕ) (text : List ℕ) (journal : List Entry) → fault_of d ≡ None → now ≡ before → IsAtEnd new → HoldsJob old None d is → KeepsJob rules placing d (records_of is) journal →
      refusal_of d wanted ≡ Some fault → (status ≡ 9) × (text ≡ bad_ask_text fault) × IsUndrained journal → IsJudged rules placing wanted ahead old new before now status text journal
  judged_bad_ask fault d is status text journal fine k z h kept refused t =
      let asked = refused_by d fault (asked_in wanted) refused in
      subst (λ s. IsJudged rules placing wanted ahead old new before now s text journal) (sym t.0) (record {
        read_fault = λ e. absurd (cc);
        bad_job = λ e. absurd (cc);
        settled = λ e. absurd (cc);
        late = λ e. absurd (cc);
        collision = λ e. absurd (cc);
        bad_ask = λ e. (
          k,
          z,
          record { bytes = h.bytes; known = h.known; unstopped = h.stops; draft = d; topology = ap draft_in h.items_are; ask = asked.0; asked = asked.1; fault = fault; bad = asked.2; printed = t.1 },
          t.2,
        );
        kept = kept_of rules placing old h.bytes h.line d is [] journal fine h.known (h.items_are ∙ sym (append-nil (TopologyAt h.line d ∷ is))) kept;
        only = inr (inr (inr (inr (inr refl))));
      })

  -- a job that was read to its end, by what the topology has against the question
  judged_read : (refusal : Option IqFault) (d : DraftView) (is : List ItemView) (status : ℕ) (text : List ℕ) (journal : List Entry) → refusal_of d wanted ≡ refusal → fault_of d ≡ None → now ≡ before → IsAtEnd new → HoldsJob old None d is →
      KeepsJob rules placing d (records_of is) journal → TellsWhole refusal rules wanted d (records_of is) status text journal → IsJudged rules placing wanted ahead old new before now status text journal
  judged_read None d is status text journal refused fine k z h kept t = judged_whole d is status text journal refused fine k z h kept t
  judged_read (Some fault) d is status text journal refused fine k z h kept t = judged_bad_ask fault d is status text journal fine k z h kept refused t

  -- one that was read to a fault
  judged_stopped : (stop : JobStop) (d : DraftView) (is : List ItemView) (status : ℕ) (text : List ℕ) (journal : List Entry) → fault_of d ≡ None → IsEmptyIf ahead journal → now ≡ before → HoldsJob old (Some stop) d is → KeepsJob rules placing d (records_of is) journal →
      (status ≡ 2) × (text ≡ bad_job_text stop) × IsUndrained journal → IsJudged rules placing wanted ahead old new before now status text journal
  judged_stopped stop d is status text journal fine empty k h kept t =
      judged_bad_job text status journal t.0 k (record { bytes = h.bytes; known = h.known; bad = (stop, h.stops, t.1) }) t.2 empty
      (kept_of rules placing old h.bytes h.line d is [] journal fine h.known (h.items_are ∙ sym (append-nil (TopologyAt h.line d ∷ is))) kept)

  -- one of which the source failed
  judged_failed : (r : Reader) (d : DraftView) (is : List ItemView) (status : ℕ) (text : List ℕ) (journal : List Entry) → fault_of d ≡ None → IsEmptyIf ahead journal → Rose before now → HoldsFront old new r d is → KeepsJob rules placing d (records_of is) journal →
      (status ≡ 6) × (text ≡ read_fault_text) × IsUndrained journal → IsJudged rules placing wanted ahead old new before now status text journal
  judged_failed r d is status text journal fine empty k h kept t =
      let front = front_of_whole old new r d is h in
      judged_read_fault text status journal t.0 k (record { front = record { taken = h.taken; lost = h.lost; unstopped = h.unstopped }; unopened = λ none. absurd (not_some none (ap (λ m. draft_in m.items) h.stands)) }) t.1 t.2 empty
      (kept_of rules placing old front.bytes h.line d is front.more journal fine front.known front.items_are kept)

  judged_end : (end : JobEnd) (d : DraftView) (is : List ItemView) (status : ℕ) (text : List ℕ) (journal : List Entry) → fault_of d ≡ None → (ahead ≡ true → end ≡ Whole) → EndsJob old new end d is → FaultsBy end before now →
      KeepsJob rules placing d (records_of is) journal → TellsEnd end rules wanted d (records_of is) status text journal → IsJudged rules placing wanted ahead old new before now status text journal
  judged_end Whole d is status text journal fine empty h k kept t = judged_read (refusal_of d wanted) d is status text journal refl fine k h.1 h.0 kept t
  judged_end (Stopped stop) d is status text journal fine empty h k kept t = judged_stopped stop d is status text journal fine (λ w. absurd (cc (empty w))) k h kept t
  judged_end Failed d is status text journal fine empty h k kept t = judged_failed h.0 d is status text journal fine (λ w. absurd (cc (empty w))) k h.1 kept t

  -- the source failed or didn't, before a job was opened and since
  pub judged_run : (mid : Option (List ℕ)) (opened : ℕ) (d : DraftView) (records : List ItemView) (standing : Standing) (status : ℕ) (text : List ℕ) (journal : List Entry) → fault_of d ≡ None → (ahead ≡ true → standing ≡ standings.Whole) → opened ≡ before →
      OpensAt old mid d records standing → RunsJob rules placing wanted d records standing mid new opened now status text journal → IsJudged rules placing wanted ahead old new before now status text journal
  judged_run mid opened d records standing status text journal fine stood same h r =
      judged_end r.end d (records ++ r.items) status text journal fine
      (λ e. ends_whole mid new r.end r.items (subst (λ s. EndsFrom s mid new r.end r.items) (stood e) r.reads)) (opened_and_read old mid new d records r.items standing r.end h r.reads)
      (subst (λ n. FaultsBy r.end n now) same r.faults) r.kept r.told

-- ---- jobs that are always answered by their query
of_known : {A : Type 0} {x y : A} → Some x ≡ Some y → x ≡ y
of_known e = cc

known_is : (left : Option (List ℕ)) (bytes known : List ℕ) → left ≡ Some bytes → IfSome left (λ b. b ≡ known) → known ≡ bytes
known_is None bytes known e k = absurd (cc)
known_is (Some b) bytes known e k = sym k ∙ of_known e

module _ (rules : Rules) (wanted : Wanted) (left : Option (List ℕ)) (valid : IsInTime left) where
  none_refused : (text : List ℕ) → IsRefused left text → ⊥
  none_refused text h = not_some (subst (λ b. stop_of (whole b) ≡ None) (sym (known_is left valid.bytes h.bytes valid.known h.known)) valid.unstopped) h.bad.1

  none_unasked : (text : List ℕ) → IfSome (asked_in wanted) (IsGoodAsk left) → IsBadAsk wanted left text → ⊥
  none_unasked text good h =
      let good_ask : IsGoodAsk left h.ask = subst (λ o. IfSome o (IsGoodAsk left)) h.asked good in
      not_some (good_ask valid.bytes valid.known h.draft (subst (λ b. draft_in (whole b).items ≡ Some h.draft) (known_is left valid.bytes h.bytes valid.known h.known) h.topology)) h.bad

  module _ (placing : Placing) (d : DraftView) (records : List Input) (journal : List Entry) (h : SettlesBytes rules placing left d records journal) where
    same : h.bytes ≡ valid.bytes
    same = known_is left valid.bytes h.bytes valid.known h.known

    topology : draft_in (whole valid.bytes).items ≡ Some d
    topology = subst (λ b. draft_in (whole b).items ≡ Some d) same h.topology

    none_late : (text : List ℕ) → TellsLate rules wanted d records text journal → ⊥
    none_late text t = t.over (subst (IsWithinGrace (plan_of d)) (sym (h.inputs ∙ ap (λ b. records_of (whole b).items) same)) (valid.in_time d topology))

    none_collide : IsWithoutCollision rules left journal → (text : List ℕ) → TellsCollision rules wanted d text journal → ⊥
    none_collide alone text t = not_some (alone valid.bytes valid.known d topology) t.first

-- a device's count of faults did not rise, all that else could have been answered
pub judged_query : (rules : Rules) (placing : Placing) (wanted : Wanted) (ahead : Bool) (old new : Option (List ℕ)) (before now status : ℕ) (text : List ℕ) (journal : List Entry) → IsInTime old → IfSome (asked_in wanted) (IsGoodAsk old) →
    IsWithoutCollision rules old journal → (Rose before now → ⊥) → IsJudged rules placing wanted ahead old new before now status text journal → status ≡ 0
judged_query rules placing wanted ahead old new before now status text journal valid good alone calm h = by h.only
  where
    by : (status ≡ 0) ⊎ (status ≡ 2) ⊎ (status ≡ 3) ⊎ (status ≡ 5) ⊎ (status ≡ 6) ⊎ (status ≡ 9) → status ≡ 0
    by (inl e) = e
    by (inr (inl e)) = absurd (none_refused rules wanted old valid text (h.bad_job e).1)
    by (inr (inr (inl e))) = let k = (h.late e).2 in absurd (none_late rules wanted old valid placing k.draft k.records journal k.settles text k.late)
    by (inr (inr (inr (inl e)))) = let k = (h.collision e).2 in absurd (none_collide rules wanted old valid placing k.draft k.records journal k.settles alone text k.collision)
    by (inr (inr (inr (inr (inl e))))) = absurd (calm (h.read_fault e).0)
    by (inr (inr (inr (inr (inr e))))) = absurd (none_unasked rules wanted old valid text good (h.bad_ask e).2)

-- ---- a question that a valid job has no answer to
last_read : (d : DraftView) (s : State) (ask : Ask) (first : List Answer) (last : Answer) → All (IsRead d s ask) (first ++ last ∷ []) → IsRead d s ask last
last_read d s ask [] last h = All-head (IsRead d s ask) last [] h
last_read d s ask (x ∷ xs) last h = last_read d s ask xs last (All-tail (IsRead d s ask) x (xs ++ last ∷ []) h)

-- what was answered to can be asked
answered_so : (rules : Rules) (wanted : Wanted) (d : DraftView) (journal : List Entry) (front text : List ℕ) (ask : Ask) → asked_in wanted ≡ Some ask → IsText rules d wanted journal front text → ask_fault d ask ≡ None
answered_so rules nothing d journal front text ask e t = absurd (none_is e)
answered_so rules lines d journal front text ask e t = absurd (none_is e)
answered_so rules (answers a) d journal front text ask e t =
    let same : a ≡ ask = of_known e in
    let told : AreAnswerLines rules d a journal t.tail = t.is_tail in
    subst (λ (q : Ask). ask_fault d q ≡ None) same (last_read d (end_of rules d journal) a told.first told.last told.reads.reads).fine

module _ (rules : Rules) (wanted : Wanted) (left : Option (List ℕ)) (ask : Ask) (asks : asked_in wanted ≡ Some ask) (bad : IsRefusing left ask) where
  not_refused : (text : List ℕ) → IsRefused left text → ⊥
  not_refused text h = not_some (subst (λ b. stop_of (whole b) ≡ None) (sym (known_is left bad.bytes h.bytes bad.known h.known)) bad.unstopped) h.bad.1

  module _ (placing : Placing) (d : DraftView) (records : List Input) (journal : List Entry) (h : SettlesBytes rules placing left d records journal) where
    its_draft : draft_in (whole bad.bytes).items ≡ Some d
    its_draft = subst (λ b. draft_in (whole b).items ≡ Some d) (known_is left bad.bytes h.bytes bad.known h.known) h.topology

    is_bad : ask_fault d ask ≡ Some bad.fault
    is_bad = let same : Some bad.draft ≡ Some d = sym bad.topology ∙ its_draft in subst (λ o. IfSome o (λ e. ask_fault e ask ≡ Some bad.fault)) same bad.bad

    not_asked : refusal_of d wanted ≡ None → ⊥
    not_asked e = not_some e (ap (option_and_then (ask_fault d)) asks ∙ is_bad)

    not_told : (front text : List ℕ) → IsText rules d wanted journal front text → ⊥
    not_told front text t = not_some (answered_so rules wanted d journal front text ask asks t) is_bad

pub judged_unanswered : (rules : Rules) (placing : Placing) (wanted : Wanted) (ahead : Bool) (old new : Option (List ℕ)) (before now status : ℕ) (text : List ℕ) (journal : List Entry) (ask : Ask) → asked_in wanted ≡ Some ask → IsRefusing old ask →
    (Rose before now → ⊥) → IsJudged rules placing wanted ahead old new before now status text journal → status ≡ 9
judged_unanswered rules placing wanted ahead old new before now status text journal ask asks bad calm h = by h.only
  where
    by : (status ≡ 0) ⊎ (status ≡ 2) ⊎ (status ≡ 3) ⊎ (status ≡ 5) ⊎ (status ≡ 6) ⊎ (status ≡ 9) → status ≡ 9
    by (inl e) = let k = (h.settled e).2 in absurd (not_told rules wanted old ask asks bad placing k.draft k.records journal k.settles _ text k.query.printed)
    by (inr (inl e)) = absurd (not_refused rules wanted old ask asks bad text (h.bad_job e).1)
    by (inr (inr (inl e))) = let k = (h.late e).2 in absurd (not_told rules wanted old ask asks bad placing k.draft k.records journal k.settles _ text k.late.printed)
    by (inr (inr (inr (inl e)))) = let k = (h.collision e).2 in absurd (not_asked rules wanted old ask asks bad placing k.draft k.records journal k.settles k.collision.good_ask)
    by (inr (inr (inr (inr (inl e))))) = absurd (calm (h.read_fault e).0)
    by (inr (inr (inr (inr (inr e))))) = e

-- the question that is wanted is that of the crew
pub asks_for : (shown : Bool) (question : Option Ask) → asked_in (wanted_in shown question) ≡ question
asks_for true None = refl
asks_for false None = refl
asks_for shown (Some ask) = refl
