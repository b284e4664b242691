-- What a commit leaves of the worker's tasks, and of what its producer remembers.
use Rattle.std.proofs.Common.{◌≡◌, ◌≢◌, ◌⊎◌, inl, inr, ℕ, ◌+◌, ◌≤◌, ◌||◌, Bool, true, false, cond, List, [], ◌∷◌, ◌++◌, length, Option, Some, None, refl, sym, ap, subst, ◌∙◌, arith, append_assoc}
use Rattle.std.proofs.lemmas.Bool.{true≢false, or_left, or_right}
use Rattle.ks_record.specs.Records.{Record as Rec}
use Rattle.ks_record.specs.declared.record.PartId.{PartId}
use Rattle.ks_record.specs.declared.record.TaskId.{TaskId}
use Rattle.ks_record.specs.declared.assignment.Refused.{Refused}
use Rattle.ks_record.specs.declared.assignment.Refused.TheVariants.{Fenced as FencedBy}
use Rattle.ks_record.specs.Parts.{same_task}
use Rattle.ks_history.specs.declared.journal.Entry.{Entry}
use Rattle.ks_history.specs.Machine.{TaskPlan, part_of, has_topic}
use Rattle.ks_history.specs.State.{State, Setup, has_task, offset_in, are_once}
use Rattle.ks_history.specs.Follows.{TaskView}
use Rattle.ks_history.specs.History.{at, IsHistory}
use Rattle.ks_history.specs.Touched.{touched}
use Rattle.ks_history.proofs.Names.{same_task-is, same_task-refl}
use Rattle.ks_law_restore.specs.Views.{WorkView, IsFrozen, committed_view, recs_at}
use Rattle.ks_law_sharing.specs.Tasks.{HasSeen}
use Rattle.ks_law_sharing.proofs.Touching.{seen_stays, touched_grows}
use Rattle.ks_law_commit.specs.Held.{IsHeld}
use Rattle.ks_law_commit.proofs.Held.{held_stays}
use Rattle.ks_law_commit.specs.Building.{Contents, no_contents}
use Rattle.ks_law_commit.specs.Committing.{Holds, AreOpenEnds, commit_entry, open_end}
use Rattle.ks_law_commit.specs.Sending.{IsSending}
use Rattle.ks_law_commit.specs.Holding.{IsOnItsWay, abort_entry}
use Rattle.ks_law_commit.specs.Producers.{IsRemembered, AreCounts, refused_entry}
use Rattle.ks_law_commit.proofs.Keeping.{seen_at_last, way_is_sending, way_keeps_held, commit_holds, commit_keeps_others, abort_keeps}
use Rattle.ks_law_commit.proofs.Numbering.{remembered_stays, decision_is_remembered, refusal_is_remembered}
use Rattle.ks_commit.specs.Alone.{number_in}
use Rattle.ks_commit.specs.Committed.{tasks_in, AreApart}
use Rattle.ks_worker_client.specs.declared.member.Member.{Member}
use Rattle.ks_worker_client.specs.Members.{IsProducer}
use Rattle.ks_growing.specs.Passes.{PassView}
use Rattle.ks_shared.specs.declared.state.Frame.{Frame}
use Rattle.ks_shared.specs.declared.barred.Barred.{Barred}
use Rattle.ks_shared.specs.Calls.{setup_in}
use Rattle.ks_worker_commit.specs.declared.outcome.Outcome.TheVariants.{Aborted}
use Rattle.ks_worker_commit.specs.Outcomes.{Requests}
use Rattle.ks_worker_commit.specs.Outputs.{parts_in, put_all, add_all, contents_of}
use Rattle.ks_worker_commit.specs.Underway.{Memory, end_in, end_of_records, HasEnds, IsUnderway, IsHalted, HasAborted, HasNotAborted}
use Rattle.ks_worker_commit.specs.Ends.{CameToDecision, IsRefusedAbort, refused_outcome}
use Rattle.ks_worker_commit.specs.Leaves.{IsOneOf, ends_for, TellTheSame, RestsAreHeld, WorkedAreHeld, KnowsProducer}
use Rattle.ks_worker_commit.proofs.Owned.{owned}
use Rattle.ks_worker_commit.proofs.Filling.{IsFirst, send_pending, put_pending}
use Rattle.ks_worker_commit.proofs.Deciding.{holds_first, added_none}

-- ---- works
has_one : (f : WorkView) (fs : List WorkView) → IsOneOf f fs → has_task f.task (tasks_in fs) ≡ true
has_one f [] h = absurd h
has_one f (g ∷ gs) (inl same) = or_left (same_task f.task g.task) (has_task f.task (tasks_in gs)) (ap (λ (x : WorkView). same_task f.task x.task) (sym same) ∙ same_task-refl f.task)
has_one f (g ∷ gs) (inr h) = or_right (same_task f.task g.task) (has_task f.task (tasks_in gs)) (has_one f gs h)

-- each is its task's first
first_is : (f : WorkView) (fs : List WorkView) → AreApart fs → IsOneOf f fs → IsFirst f.task fs f
first_is f [] apart h = absurd h
first_is f (g ∷ gs) apart (inl same) = subst (λ b. cond b (f ≡ g) (IsFirst f.task gs f)) (sym (ap (λ (x : WorkView). same_task f.task x.task) (sym same) ∙ same_task-refl f.task)) same
first_is f (g ∷ gs) apart (inr h) = by (has_task g.task (tasks_in gs)) (same_task f.task g.task) refl refl apart (λ k. first_is f gs k h)
  where
    by : (a b : Bool) → has_task g.task (tasks_in gs) ≡ a → same_task f.task g.task ≡ b → cond a false (are_once (tasks_in gs)) ≡ true → (AreApart gs → IsFirst f.task gs f) → cond b (f ≡ g) (IsFirst f.task gs f)
    by true b has is k on = absurd (true≢false (sym k))
    by false true has is k on = absurd (true≢false (sym (has_one f gs h) ∙ ap (λ t. has_task t (tasks_in gs)) (same_task-is f.task g.task is) ∙ has))
    by false false has is k on = on k

none_pending : (fs : List WorkView) (t : TaskId) → has_task t (tasks_in fs) ≡ false → (contents_of fs).pending t ≡ None
none_pending fs t h = send_pending fs (put_all (parts_in [] fs) fs (add_all (parts_in [] fs) no_contents)) t h ∙ put_pending (parts_in [] fs) fs (add_all (parts_in [] fs) no_contents) t ∙ added_none (parts_in [] fs) no_contents t refl

-- ---- ends
open_ends : (setup : Setup) (s : State) (w e : ℕ) (c : Contents) (ends : List (TaskId × PartId × ℕ)) (f : WorkView) (own : List (ℕ × ℕ)) → HasEnds s w e c ends → Holds c f → TellTheSame setup f.task own (ends_for f.task ends) → AreOpenEnds setup s w e f own
open_ends setup s w e c ends f own has holds are = record { named = named; others = others }
  where
    same : (topic old : ℕ) → has_topic topic (setup.plan.changelogs f.task.sub) ≡ true → offset_in old topic own ≡ end_of_records (recs_at (part_of topic f.task) f.outputs) old (open_end s w e f.task (part_of topic f.task))
    same topic old log = are topic old log ∙ owned f.task ends topic old ∙ has f.task (part_of topic f.task) old ∙ ap (λ l. end_of_records l old (open_end s w e f.task (part_of topic f.task))) (holds.records (part_of topic f.task))

    some_end : (l : List Rec) (old end : ℕ) → l ≢ [] → end_of_records l old end ≡ end
    some_end [] old end some = absurd (some refl)
    some_end (r ∷ rs) old end some = refl

    named : (topic old : ℕ) → has_topic topic (setup.plan.changelogs f.task.sub) ≡ true → recs_at (part_of topic f.task) f.outputs ≢ [] → offset_in old topic own ≡ open_end s w e f.task (part_of topic f.task)
    named topic old log some = same topic old log ∙ some_end (recs_at (part_of topic f.task) f.outputs) old (open_end s w e f.task (part_of topic f.task)) some

    others : (topic old : ℕ) → has_topic topic (setup.plan.changelogs f.task.sub) ≡ true → recs_at (part_of topic f.task) f.outputs ≡ [] → offset_in old topic own ≡ old
    others topic old log none = same topic old log ∙ ap (λ l. end_of_records l old (open_end s w e f.task (part_of topic f.task))) none

-- ---- a commit that was on its way
module _ {W : Type 0} (plan : W → TaskPlan) (from mid : PassView Entry (Frame W)) (m : Member) (first : ℕ) (mem : Memory) (fs : List WorkView) (c : Contents)
    (u : IsUnderway plan from mid m.number m.epoch m.generation first mem fs c) where
  abbrev here : Setup
  here = setup_in plan from.frame

  way : IsOnItsWay here from.seen u.requests.more m.number m.epoch m.generation (length u.requests.own) first mem.last c
  way = record {
    seen = subst (λ l. HasSeen here l m.number m.generation mem.last) u.requests.seen u.seen;
    back = λ h. u.back (ap (touched m.number) u.requests.seen ∙ h);
    sending = u.sending;
  }

  counts : AreCounts here mid.seen m.number m.epoch mem.last (λ q. number_in q mem.numbers)
  counts place = u.numbered (u.back place)

  -- whatever came then
  after : (others : List Entry) → mid.seen ++ others ≡ from.seen ++ (u.requests.more ++ others)
  after others = ap (λ l. l ++ others) u.requests.seen ∙ append_assoc from.seen u.requests.more others

  -- nothing more was sent, or it was refused
  pub way_holds : (now : List Entry) (others : List Entry) → now ≡ mid.seen ++ others → IsHistory here now → (v : TaskView) → IsHeld here from.seen m.number m.generation first v → IsHeld here now m.number m.generation mem.last v
  way_holds now others is history v held =
      let there : now ≡ from.seen ++ (u.requests.more ++ others) = is ∙ after others in
      subst (λ l. IsHeld here l m.number m.generation mem.last v) (sym there)
      (way_keeps_held here from.seen u.requests.more others m.number m.epoch m.generation (length u.requests.own) first mem.last c v u.worker.network (subst (IsHistory here) there history) u.worker.seen way held)

  way_seen : (others : List Entry) → HasSeen here (mid.seen ++ others) m.number m.generation mem.last
  way_seen others = seen_stays here mid.seen others m.number m.generation mem.last u.seen

-- ---- remembered
remembers : (setup : Setup) (journal : List Entry) (m : Member) (mem : Memory) → HasSeen setup journal m.number m.generation mem.last → IsRemembered setup journal m.number m.epoch mem.last (λ q. number_in q mem.numbers) → KnowsProducer setup journal m mem.last mem.numbers
remembers setup journal m mem seen r = (seen, record { past = r.past; idle = r.idle; numbered = r.numbered })

pub remembers_later : (setup : Setup) (journal more now : List Entry) (m : Member) (mem : Memory) → now ≡ journal ++ more → IsHistory setup now → KnowsProducer setup journal m mem.last mem.numbers → KnowsProducer setup now m mem.last mem.numbers
remembers_later setup journal more now m mem is history r =
    subst (λ l. KnowsProducer setup l m mem.last mem.numbers) (sym is)
    (remembers setup (journal ++ more) m mem (seen_stays setup journal more m.number m.generation mem.last r.0)
    (remembered_stays setup journal more m.number m.epoch mem.last (λ q. number_in q mem.numbers) (subst (IsHistory setup) is history) r.0.place
    (record { past = r.1.past; idle = r.1.idle; numbered = r.1.numbered })))

-- ---- it was decided
module _ {W : Type 0} (plan : W → TaskPlan) (old now : PassView Entry (Frame W)) (m : Member) (last : ℕ) (next : Memory) (fs : List WorkView)
    (d : CameToDecision plan old now m.number m.epoch m.generation last next fs (contents_of fs)) where
  abbrev base : Setup
  base = setup_in plan old.frame

  abbrev u_more : List Entry
  u_more = d.decided.under.requests.more

  abbrev others : List Entry
  others = d.decided.others

  abbrev entry : Entry
  entry = commit_entry m.number m.epoch

  now_is : now.seen ≡ old.seen ++ (u_more ++ others ++ entry ∷ [])
  now_is = d.decided.requests.seen ∙ ap (λ l. old.seen ++ l) d.decided.is

  history_is : IsHistory base (old.seen ++ (u_more ++ others ++ entry ∷ []))
  history_is = subst (IsHistory base) now_is d.decided.history

  sending : IsSending base old.seen u_more m.number m.epoch (length d.decided.under.requests.own) last d.mem.last (contents_of fs)
  sending = d.decided.under.sending d.mine

  place_is : touched m.number (old.seen ++ (u_more ++ others ++ entry ∷ [])) ≡ next.last
  place_is = ap (touched m.number) (sym now_is) ∙ sym d.decided.last

  decided_work : AreApart fs → (v : TaskView) (f : WorkView) (own : List (ℕ × ℕ)) → IsHeld base old.seen m.number m.generation last v → IsOneOf f fs → IsFrozen base.plan v f → TellTheSame base v.task own (ends_for v.task next.ends) →
      IsHeld base now.seen m.number m.generation next.last (committed_view v own)
  decided_work apart v f own held one frozen are =
      let holds : Holds (contents_of fs) f = holds_first fs apart f.task f (first_is f fs apart one) refl in
      let same_task_is : f.task ≡ v.task = frozen.task in
      let ends : TellTheSame base f.task own (ends_for f.task d.mem.ends) = subst (λ t. TellTheSame base t own (ends_for t d.mem.ends)) (sym same_task_is) (subst (λ l. TellTheSame base v.task own (ends_for v.task l)) d.decided.ends are) in
      let at_ends : AreOpenEnds base (at base (old.seen ++ u_more)) m.number m.epoch f own =
      open_ends base (at base (old.seen ++ u_more)) m.number m.epoch (contents_of fs) d.mem.ends f own (subst (λ l. HasEnds (at base l) m.number m.epoch (contents_of fs) d.mem.ends) d.decided.under.requests.seen (d.decided.under.ended d.mine)) holds ends in
      subst (λ l. IsHeld base l m.number m.generation next.last (committed_view v own)) (sym now_is)
      (subst (λ n. IsHeld base (old.seen ++ (u_more ++ others ++ entry ∷ [])) m.number m.generation n (committed_view v own)) place_is
      (commit_holds base old.seen u_more others m.number m.epoch m.generation (length d.decided.under.requests.own) last d.mem.last (contents_of fs) v f own d.decided.under.worker.network history_is d.decided.under.worker.seen
      (d.decided.under.worker.idle d.mine) sending (ap (λ l. (at base l).generation) (sym d.decided.under.requests.seen) ∙ d.generation) d.decided.place held frozen holds at_ends))

  decided_rest : (v : TaskView) → IsHeld base old.seen m.number m.generation last v → has_task v.task (tasks_in fs) ≡ false → IsHeld base now.seen m.number m.generation next.last v
  decided_rest v held none =
      subst (λ l. IsHeld base l m.number m.generation next.last v) (sym now_is)
      (subst (λ n. IsHeld base (old.seen ++ (u_more ++ others ++ entry ∷ [])) m.number m.generation n v) place_is
      (commit_keeps_others base old.seen u_more others m.number m.epoch m.generation (length d.decided.under.requests.own) last d.mem.last (contents_of fs) v d.decided.under.worker.network history_is d.decided.under.worker.seen
      (d.decided.under.worker.idle d.mine) sending d.decided.place (none_pending fs v.task none) held))

  decided_seen : HasSeen base now.seen m.number m.generation next.last
  decided_seen =
      subst (λ l. HasSeen base l m.number m.generation next.last) (sym now_is)
      (subst (λ n. HasSeen base (old.seen ++ (u_more ++ others ++ entry ∷ [])) m.number m.generation n) place_is
      (seen_at_last base old.seen (u_more ++ others ++ entry ∷ []) m.number m.generation last d.decided.under.worker.seen))

  decided_remembers : KnowsProducer base now.seen m next.last next.numbers
  decided_remembers =
      let there : now.seen ≡ d.mid.seen ++ (others ++ entry ∷ []) =
      now_is ∙ ap (λ l. old.seen ++ l) (append_assoc u_more others (entry ∷ [])) ∙ sym (append_assoc old.seen u_more (others ++ entry ∷ [])) ∙ ap (λ l. l ++ (others ++ entry ∷ [])) (sym d.decided.under.requests.seen) in
      let was : touched m.number (d.mid.seen ++ others) ≡ d.mem.last = ap (touched m.number) (after plan old d.mid m last d.mem fs (contents_of fs) d.decided.under others) ∙ d.decided.place in
      let r = decision_is_remembered base d.mid.seen others m.number m.epoch d.mem.last true (λ q. number_in q d.mem.numbers) (subst (IsHistory base) there d.decided.history) d.decided.under.seen.place was
      (counts plan old d.mid m last d.mem fs (contents_of fs) d.decided.under) in
      remembers base now.seen m next decided_seen
      (subst (λ l. IsRemembered base now.seen m.number m.epoch next.last (λ q. number_in q l)) (sym d.decided.numbers)
      (subst (λ n. IsRemembered base now.seen m.number m.epoch n (λ q. number_in q d.mem.numbers)) (sym d.decided.last)
      (subst (λ l. IsRemembered base l m.number m.epoch (touched m.number l) (λ q. number_in q d.mem.numbers)) (sym there) r)))

  -- and then more came
  module _ (new : PassView Entry (Frame W)) (more : List Entry) (is : new.seen ≡ now.seen ++ more) (history : IsHistory base new.seen) where
    still : (v : TaskView) → IsHeld base now.seen m.number m.generation next.last v → IsHeld base new.seen m.number m.generation next.last v
    still v held = subst (λ l. IsHeld base l m.number m.generation next.last v) (sym is)
        (held_stays base now.seen more m.number m.generation next.last v d.decided.under.worker.network (subst (IsHistory base) is history) decided_seen held)

    pub committed_works : AreApart fs → WorkedAreHeld base old.seen new.seen m last next.last fs next.ends
    committed_works apart v f own one frozen same held = still (committed_view v own) (decided_work apart v f own held one frozen same)

    pub committed_rests : RestsAreHeld base old.seen new.seen m last next.last fs
    committed_rests v none held = still v (decided_rest v held none)

    pub committed_remembers : KnowsProducer base new.seen m next.last next.numbers
    committed_remembers = remembers_later base now.seen more new.seen m next is history decided_remembers

-- ---- it was aborted
module _ {W : Type 0} (plan : W → TaskPlan) (old mid new : PassView Entry (Frame W)) (m : Member) (last : ℕ) (mem next : Memory) (b : Barred) (h : IsHalted plan old mid m.number m.epoch m.generation last mem b)
    (history : IsHistory (setup_in plan old.frame) new.seen) where
  abbrev setup : Setup
  setup = setup_in plan old.frame

  -- behind the moment up to which it was under way
  behind : (own : List Entry) → new.seen ≡ mid.seen ++ own → new.seen ≡ h.mid.seen ++ (h.others ++ own)
  behind own is = is ∙ ap (λ l. l ++ own) h.seen ∙ append_assoc h.mid.seen h.others own

  module _ (a : HasAborted plan mid new m.number m.epoch mem next) where
    abbrev aborted : Entry
    aborted = abort_entry m.number m.epoch

    abbrev between : List Entry
    between = h.others ++ a.others

    since : new.seen ≡ h.mid.seen ++ (between ++ aborted ∷ [])
    since = behind (a.others ++ aborted ∷ []) a.seen ∙ ap (λ l. h.mid.seen ++ l) (sym (append_assoc h.others a.others (aborted ∷ [])))

    whole : new.seen ≡ old.seen ++ (h.under.requests.more ++ between ++ aborted ∷ [])
    whole = since ∙ after plan old h.mid m last mem h.fs h.contents h.under (between ++ aborted ∷ []) ∙ ap (λ l. old.seen ++ l) (sym (append_assoc h.under.requests.more between (aborted ∷ [])))

    place_mid : touched m.number (h.mid.seen ++ between) ≡ mem.last
    place_mid = ap (touched m.number) (sym (append_assoc h.mid.seen h.others a.others) ∙ ap (λ l. l ++ a.others) (sym h.seen)) ∙ a.place

    place_old : touched m.number (old.seen ++ (h.under.requests.more ++ between)) ≡ mem.last
    place_old = ap (touched m.number) (sym (after plan old h.mid m last mem h.fs h.contents h.under between)) ∙ place_mid

    pub aborted_tasks : (v : TaskView) → IsHeld setup old.seen m.number m.generation last v → IsHeld setup new.seen m.number m.generation next.last v
    aborted_tasks v held =
        subst (λ n. IsHeld setup new.seen m.number m.generation n v) (sym a.last)
        (subst (λ l. IsHeld setup l m.number m.generation (touched m.number l) v) (sym whole)
        (abort_keeps setup old.seen h.under.requests.more between m.number m.epoch m.generation (length h.under.requests.own) last mem.last h.contents v h.under.worker.network (subst (IsHistory setup) whole history) h.under.worker.seen
        (way_is_sending setup old.seen h.under.requests.more between m.number m.epoch m.generation (length h.under.requests.own) last mem.last h.contents place_old (way plan old h.mid m last mem h.fs h.contents h.under))
        place_old held))

    pub aborted_remembers : KnowsProducer setup new.seen m next.last next.numbers
    aborted_remembers =
        let r = decision_is_remembered setup h.mid.seen between m.number m.epoch mem.last false (λ q. number_in q mem.numbers) (subst (IsHistory setup) since history) h.under.seen.place place_mid
        (counts plan old h.mid m last mem h.fs h.contents h.under) in
        let seen : HasSeen setup new.seen m.number m.generation next.last =
        subst (λ n. HasSeen setup new.seen m.number m.generation n) (sym a.last)
        (subst (λ l. HasSeen setup l m.number m.generation (touched m.number l)) (sym since) (seen_at_last setup h.mid.seen (between ++ aborted ∷ []) m.number m.generation mem.last h.under.seen)) in
        remembers setup new.seen m next seen
        (subst (λ l. IsRemembered setup new.seen m.number m.epoch next.last (λ q. number_in q l)) (sym a.numbers)
        (subst (λ n. IsRemembered setup new.seen m.number m.epoch n (λ q. number_in q mem.numbers)) (sym a.last)
        (subst (λ l. IsRemembered setup l m.number m.epoch (touched m.number l) (λ q. number_in q mem.numbers)) (sym since) r)))

  module _ (a : IsRefusedAbort plan mid new m.number m.epoch mem next) where
    abbrev turned : Entry
    turned = refused_entry m.number m.epoch false a.refused

    abbrev among : List Entry
    among = h.others ++ a.so.others

    never_fenced : (r : Refused) → refused_outcome r ≡ Aborted → (epoch : ℕ) → r ≢ FencedBy epoch
    never_fenced r why epoch = λ is. by (ap refused_outcome (sym is) ∙ why)
      where
        by : refused_outcome (FencedBy epoch) ≡ Aborted → ⊥
        by e = absurd cc

    since_refused : new.seen ≡ h.mid.seen ++ (among ++ turned ∷ [])
    since_refused = behind (a.so.others ++ turned ∷ []) a.so.seen ∙ ap (λ l. h.mid.seen ++ l) (sym (append_assoc h.others a.so.others (turned ∷ [])))

    pub refused_tasks : (v : TaskView) → IsHeld setup old.seen m.number m.generation last v → IsHeld setup new.seen m.number m.generation next.last v
    refused_tasks v held =
        subst (λ (k : Memory). IsHeld setup new.seen m.number m.generation k.last v) (sym a.so.same)
        (way_holds plan old h.mid m last mem h.fs h.contents h.under new.seen (among ++ turned ∷ []) since_refused history v held)

    pub refused_remembers : KnowsProducer setup new.seen m next.last next.numbers
    refused_remembers =
        let r = refusal_is_remembered setup h.mid.seen among m.number m.epoch mem.last false a.refused (λ q. number_in q mem.numbers) (subst (IsHistory setup) since_refused history) h.under.seen.place (never_fenced a.refused a.why)
        (counts plan old h.mid m last mem h.fs h.contents h.under) in
        let seen : HasSeen setup new.seen m.number m.generation mem.last =
        subst (λ l. HasSeen setup l m.number m.generation mem.last) (sym since_refused) (way_seen plan old h.mid m last mem h.fs h.contents h.under (among ++ turned ∷ [])) in
        subst (λ (k : Memory). KnowsProducer setup new.seen m k.last k.numbers) (sym a.so.same)
        (remembers setup new.seen m mem seen (subst (λ l. IsRemembered setup l m.number m.epoch mem.last (λ q. number_in q mem.numbers)) (sym since_refused) r))
