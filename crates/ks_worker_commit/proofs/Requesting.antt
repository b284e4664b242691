-- What a call through the lock is to a commit that is under way.
use Rattle.std.proofs.Common.{◌≡◌, ◌≢◌, ◌⊎◌, inl, inr, ℕ, suc, ◌+◌, ◌-◌, ◌≤◌, ◌&&◌, ◌||◌, Bool, true, false, not, cond, List, [], ◌∷◌, ◌++◌, length, length-append, Option, Some, None, Result, Ok, Err, refl, sym, ap, ap₂, subst, ◌∙◌, arith, append_assoc, append-nil}
use Rattle.std.proofs.lemmas.Bool.{true≢false}
use Rattle.ks_record.specs.declared.record.TaskId.{TaskId}
use Rattle.ks_record.specs.Parts.{same_task}
use Rattle.ks_record.specs.declared.assignment.Refused.{Refused}
use Rattle.ks_history.specs.declared.journal.Entry.{Entry}
use Rattle.ks_history.specs.declared.journal.Request.{Request}
use Rattle.ks_history.specs.declared.journal.Reply.{Reply}
use Rattle.ks_history.specs.declared.journal.Reply.TheVariants.{Done, Number, Truth, Mark as Marked, Refused as Refuse}
use Rattle.ks_history.specs.Partition.{count_sent}
use Rattle.ks_history.specs.Machine.{TaskPlan}
use Rattle.ks_history.specs.State.{State, Setup, start, has_task}
use Rattle.ks_history.specs.Step.{refusal, effect, state_by, reply_by, reply_to}
use Rattle.ks_history.specs.Follows.{TaskView}
use Rattle.ks_history.specs.History.{at, IsHistory}
use Rattle.ks_history.specs.Touched.{is_of, is_refused, touches, touched, untouched}
use Rattle.ks_history.proofs.Names.{same_task-is}
use Rattle.ks_history.proofs.Histories.{state_after-append, history_front}
use Rattle.ks_law_restore.specs.Views.{WorkView}
use Rattle.ks_law_sharing.specs.Refusals.{IsFencing, IsMarkersWaiting}
use Rattle.ks_law_sharing.specs.Tasks.{IsAssigned, IsActive, HasSeen}
use Rattle.ks_law_sharing.proofs.Touching.{touched_grows, seen_stays}
use Rattle.ks_law_sharing.proofs.Leaving.{count_stays}
use Rattle.ks_law_sharing.proofs.Rising.{journal_rises}
use Rattle.ks_law_sharing.proofs.Assigned.{active_stays}
use Rattle.ks_law_commit.specs.Building.{Contents, adds_to}
use Rattle.ks_law_commit.specs.Accounts.{is_of_commit, accepted_of}
use Rattle.ks_law_commit.specs.Advancing.{added_by}
use Rattle.ks_law_commit.specs.Cases.{carries, IsTurnedDown}
use Rattle.ks_law_commit.proofs.Counted.{accepted-append}
use Rattle.ks_law_commit.specs.Sending.{IsSending, IsPrepared}
use Rattle.ks_law_commit.proofs.Stages.{quiet_is, sending_keeps_active, sending_gains, sending_touched, sending_refused}
use Rattle.ks_commit.specs.Alone.{IsNumbered}
use Rattle.ks_commit.specs.Committed.{tasks_in}
use Rattle.ks_cluster.specs.View.{ClusterView, setup_of, state_of}
use Rattle.ks_growing.specs.Passes.{PassView}
use Rattle.ks_shared.specs.declared.state.Frame.{Frame}
use Rattle.ks_shared.specs.declared.barred.Barred.{Barred}
use Rattle.ks_shared.specs.declared.barred.Barred.TheVariants.{Refused as Refusal, Touched}
use Rattle.ks_shared.specs.Calls.{setup_in, Called}
use Rattle.ks_worker_commit.specs.declared.halt.Halt.{Halt}
use Rattle.ks_worker_commit.specs.declared.halt.Halt.TheVariants.{Barred as IsBarred}
use Rattle.ks_shared.specs.Own.{IsAccepted, IsRefused, IsTouched, IsOwn}
use Rattle.ks_worker_client.specs.declared.halt.Halt.{Halt as TurnHalt}
use Rattle.ks_worker_client.specs.declared.halt.Halt.TheVariants.{OutOfMemory as NoMemory, Cut as CutOff}
use Rattle.ks_worker_client.specs.Turns.{GateCounts, counts_after}
use Rattle.ks_worker_client.specs.Calls.{Answered}
use Rattle.ks_worker_commit.specs.Outcomes.{IsAmong, are_of_commit, is_commit, holds_commit, is_fence, fences, holds_fence, Requests, UndecidedRequests, halted, written, with_cuts, cuts_in}
use Rattle.ks_worker_commit.proofs.Ended.{ends_stay, gained_epoch}
use Rattle.ks_worker_commit.specs.Underway.{Memory, HasEnds, AreActiveWorks, IsUnderway, IsHalted, Puts, Halts, Carries}

-- ---- own entries among others
pub among_all : (xs : List Entry) → IsAmong xs xs
among_all [] = refl
among_all (x ∷ xs) = inr (xs, refl, among_all xs)

pub among_behind : (others own : List Entry) → IsAmong own (others ++ own)
among_behind [] own = among_all own
among_behind (x ∷ xs) own = inl (among_behind xs own)

pub among_both : (xs ms ys bs : List Entry) → IsAmong xs ms → IsAmong ys bs → IsAmong (xs ++ ys) (ms ++ bs)
among_both xs [] ys bs h g = subst (λ l. IsAmong (l ++ ys) bs) (sym h) g
among_both xs (m ∷ ms) ys bs (inl h) g = inl (among_both xs ms ys bs h g)
among_both xs (m ∷ ms) ys bs (inr h) g = inr (h.0 ++ ys, ap (λ l. l ++ ys) h.1, among_both h.0 ms ys bs h.2 g)

pub of_commit_both : (w : ℕ) (xs ys : List Entry) → are_of_commit w xs ≡ true → are_of_commit w ys ≡ true → are_of_commit w (xs ++ ys) ≡ true
of_commit_both w [] ys h g = g
of_commit_both w (x ∷ xs) ys h g = by (is_of_commit w x.request) h (λ k. of_commit_both w xs ys k g)
  where
    by : (b : Bool) → b && are_of_commit w xs ≡ true → (are_of_commit w xs ≡ true → are_of_commit w (xs ++ ys) ≡ true) → b && are_of_commit w (xs ++ ys) ≡ true
    by true k on = on k
    by false k on = absurd (true≢false (sym k))

pub undecided_both : (xs ys : List Entry) → holds_commit xs ≡ false → holds_commit ys ≡ false → holds_commit (xs ++ ys) ≡ false
undecided_both [] ys h g = g
undecided_both (x ∷ xs) ys h g = by (not (is_refused x.reply) && is_commit x.request) h (λ k. undecided_both xs ys k g)
  where
    by : (b : Bool) → b || holds_commit xs ≡ false → (holds_commit xs ≡ false → holds_commit (xs ++ ys) ≡ false) → b || holds_commit (xs ++ ys) ≡ false
    by true k on = absurd (true≢false k)
    by false k on = on k

pub fence_both : (xs ys : List Entry) → holds_fence xs ≡ false → holds_fence (xs ++ ys) ≡ holds_fence ys
fence_both [] ys h = refl
fence_both (x ∷ xs) ys h = by (fences x.reply) h (λ k. fence_both xs ys k)
  where
    by : (b : Bool) → b || holds_fence xs ≡ false → (holds_fence xs ≡ false → holds_fence (xs ++ ys) ≡ holds_fence ys) → b || holds_fence (xs ++ ys) ≡ holds_fence ys
    by true k on = absurd (true≢false k)
    by false k on = on k

pub fence_first : (xs ys : List Entry) → holds_fence ys ≡ false → holds_fence (xs ++ ys) ≡ holds_fence xs
fence_first [] ys h = h
fence_first (x ∷ xs) ys h = ap (λ b. fences x.reply || b) (fence_first xs ys h)

pub or_none : (b : Bool) → b || false ≡ b
or_none true = refl
or_none false = refl

unfenced_one : (request : Request) (reply : Reply) → is_refused reply ≡ false → holds_fence (record { request = request; reply = reply } ∷ []) ≡ false
unfenced_one request Done h = refl
unfenced_one request (Number n) h = refl
unfenced_one request (Truth b) h = refl
unfenced_one request (Marked m) h = refl
unfenced_one request (Refuse refused) h = absurd (true≢false h)

-- at most all of them are accepted
pub accepted_most : (w : ℕ) (xs : List Entry) → accepted_of w xs ≤ length xs
accepted_most w [] = omega arith
accepted_most w (x ∷ xs) = by (touches w x) (accepted_most w xs)
  where
    by : (b : Bool) → accepted_of w xs ≤ length xs → cond b (suc (accepted_of w xs)) (accepted_of w xs) ≤ length (x ∷ xs)
    by true h = omega (arith, h)
    by false h = omega (arith, h)

-- a refused one isn't
refused_none : (w : ℕ) (request : Request) (refused : Refused) → accepted_of w (record { request = request; reply = Refuse refused } ∷ []) ≡ 0
refused_none w request refused = by (is_of w request) 0
  where
    by : (b : Bool) (n : ℕ) → cond (b && false) (suc n) n ≡ n
    by true n = refl
    by false n = refl

accepted_before : (w : ℕ) (own ys : List Entry) → accepted_of w ys ≡ 0 → accepted_of w (own ++ ys) ≤ length own
accepted_before w own ys none = omega (arith, accepted-append w own ys, none, accepted_most w own)

pub undecided_one : (entry : Entry) → is_commit entry.request ≡ false → holds_commit (entry ∷ []) ≡ false
undecided_one entry is = ap (λ b. (not (is_refused entry.reply) && b) || false) is ∙ by (not (is_refused entry.reply))
  where
    by : (b : Bool) → (b && false) || false ≡ false
    by true = refl
    by false = refl

module _ {W : Type 0} (plan : W → TaskPlan) where
  pub made_none : (p : PassView Entry (Frame W)) → p.made ≡ p.made + 0
  made_none p = omega arith

  abbrev pub requests_none : (p : PassView Entry (Frame W)) (w : ℕ) → Requests plan p p w
  requests_none p w = record {
    more = [];
    own = [];
    seen = sym (append-nil p.seen);
    same = λ i. record p { made = made_none p i };
    among = refl;
    of_commit = refl;
    history = λ h. h;
  }

  pub made_both : (a : PassView Entry (Frame W)) (xs ys : List Entry) → (a.made + length xs) + length ys ≡ a.made + length (xs ++ ys)
  made_both a xs ys = omega (arith, length-append xs ys)

  abbrev pub requests_both : (a b c : PassView Entry (Frame W)) (w : ℕ) → Requests plan a b w → Requests plan b c w → Requests plan a c w
  requests_both a b c w f g = record {
    more = f.more ++ g.more;
    own = f.own ++ g.own;
    seen = g.seen ∙ ap (λ l. l ++ g.more) f.seen ∙ append_assoc a.seen f.more g.more;
    same = g.same ∙ ap (λ (k : PassView Entry (Frame W)). record k { seen = c.seen; made = k.made + length g.own }) f.same
        ∙ (λ i. record a { seen = c.seen; made = made_both a f.own g.own i });
    among = among_both f.own f.more g.own g.more f.among g.among;
    of_commit = of_commit_both w f.own g.own f.of_commit g.of_commit;
    history = λ h. subst (λ (o : Option (Frame W)). IsHistory (setup_in plan o) c.seen) (ap (λ (k : PassView Entry (Frame W)). k.frame) f.same)
        (g.history (subst (λ (o : Option (Frame W)). IsHistory (setup_in plan o) b.seen) (sym (ap (λ (k : PassView Entry (Frame W)). k.frame) f.same)) (f.history h)));
  }

  pub undecided_none : (p : PassView Entry (Frame W)) (w : ℕ) → UndecidedRequests plan p p w false
  undecided_none p w = record { requests = requests_none p w; undecided = refl; fence = refl }

  pub undecided_then : {fenced : Bool} (a b c : PassView Entry (Frame W)) (w : ℕ) → UndecidedRequests plan a b w false → UndecidedRequests plan b c w fenced → UndecidedRequests plan a c w fenced
  undecided_then a b c w f g = record {
    requests = requests_both a b c w f.requests g.requests;
    undecided = undecided_both f.requests.own g.requests.own f.undecided g.undecided;
    fence = fence_both f.requests.own g.requests.own f.fence ∙ g.fence;
  }

  module _ (old new : PassView Entry (Frame W)) (Does : ClusterView W → ClusterView W → Type 0) (c : Called plan old new Does) where
    pub setup_is : setup_of plan c.before ≡ setup_in plan old.frame
    setup_is = sym (ap (setup_in plan) c.frame)

    pub after_setup : setup_of plan c.after ≡ setup_in plan old.frame
    after_setup = ap (setup_of plan) c.grew.is ∙ setup_is

    pub seen_after : new.seen ≡ c.after.journal
    seen_after = ap (λ (k : PassView Entry (Frame W)). k.seen) c.same

    pub history_after : IsHistory (setup_in plan old.frame) new.seen
    history_after = subst (IsHistory (setup_in plan old.frame)) (sym seen_after) (subst (λ (s : Setup). IsHistory s c.after.journal) after_setup c.history)

    pub frame_after : new.frame ≡ old.frame
    frame_after = ap (λ (k : PassView Entry (Frame W)). k.frame) c.same

    pub made_by : (own : List Entry) → c.after.journal ≡ c.before.journal ++ own → old.made + (length c.after.journal - length c.before.journal) ≡ old.made + length own
    made_by own is = omega (arith, ap length is, length-append c.before.journal own)

    abbrev pub requests_by : (w : ℕ) (own : List Entry) → c.after.journal ≡ c.before.journal ++ own → are_of_commit w own ≡ true → Requests plan old new w
    requests_by w own is kinds = record {
      more = c.others ++ own;
      own = own;
      seen = seen_after ∙ is ∙ ap (λ l. l ++ own) c.came ∙ append_assoc old.seen c.others own;
      same = c.same ∙ (λ i. record old { seen = sym seen_after i; made = made_by own is i });
      among = among_behind c.others own;
      of_commit = kinds;
      history = λ h. history_after;
    }

-- ---- the works
pub active_in : (setup : Setup) (journal : List Entry) (w g last : ℕ) (t : TaskId) (fs : List WorkView) → has_task t (tasks_in fs) ≡ true → AreActiveWorks setup journal w g last fs
    → (v : TaskView) × (v.task ≡ t) × IsActive setup journal w g last v
active_in setup journal w g last t [] has works = absurd (true≢false (sym has))
active_in setup journal w g last t (f ∷ fs) has works = by (same_task t f.task) refl has (λ h. active_in setup journal w g last t fs h works.1)
  where
    by : (b : Bool) → same_task t f.task ≡ b → b || has_task t (tasks_in fs) ≡ true → (has_task t (tasks_in fs) ≡ true → (v : TaskView) × (v.task ≡ t) × IsActive setup journal w g last v) → (v : TaskView) × (v.task ≡ t) × IsActive setup journal w g last v
    by true is h on = (works.0.view, sym works.0.frozen.task ∙ sym (same_task-is t f.task is), works.0.active)
    by false is h on = on h

-- ---- a request of a commit that is under way
module _ {W : Type 0} (plan : W → TaskPlan) (from old new : PassView Entry (Frame W)) (w e g first : ℕ) (mem : Memory) (fs : List WorkView) (contents : Contents)
    (u : IsUnderway plan from old w e g first mem fs contents) (Does : ClusterView W → ClusterView W → Type 0) (c : Called plan old new Does) where
  abbrev pub setup : Setup
  setup = setup_in plan from.frame

  -- what stands behind the commit's beginning at this call
  abbrev pub reached : List Entry
  reached = from.seen ++ (u.requests.more ++ c.others)

  pub frame_is : old.frame ≡ from.frame
  frame_is = ap (λ (k : PassView Entry (Frame W)). k.frame) u.requests.same

  pub before_is : c.before.journal ≡ reached
  before_is = c.came ∙ ap (λ l. l ++ c.others) u.requests.seen ∙ append_assoc from.seen u.requests.more c.others

  pub before_setup : setup_of plan c.before ≡ setup
  before_setup = setup_is plan old new Does c ∙ ap (setup_in plan) frame_is

  pub state_is : state_of plan c.before ≡ at setup reached
  state_is = ap (λ (s : Setup). at s c.before.journal) before_setup ∙ ap (at setup) before_is

  pub history_now : IsHistory setup new.seen
  history_now = subst (λ (o : Option (Frame W)). IsHistory (setup_in plan o) new.seen) frame_is (history_after plan old new Does c)

  pub seen_is : (own : List Entry) → c.after.journal ≡ c.before.journal ++ own → new.seen ≡ from.seen ++ (u.requests.more ++ c.others ++ own)
  seen_is own is = seen_after plan old new Does c ∙ is ∙ ap (λ l. l ++ own) before_is ∙ append_assoc from.seen (u.requests.more ++ c.others) own

  pub reached_history : IsHistory setup reached
  reached_history =
      let own = c.grew.own in
      let is : c.after.journal ≡ c.before.journal ++ own = ap (λ (k : ClusterView W). k.journal) c.grew.is in
      history_front setup reached new.seen (own, seen_is own is ∙ sym (append_assoc from.seen (u.requests.more ++ c.others) own)) history_now

  -- where the number is still the worker's at this call, it was so when the commit began
  pub was_mine : touched w c.before.journal ≡ mem.last → touched w from.seen ≡ first
  was_mine was =
      let there : touched w (old.seen ++ c.others) ≡ mem.last = ap (touched w) (sym c.came) ∙ was in
      u.back (omega (arith, u.seen.place, touched_grows w old.seen c.others, there))

  pub reached_apart : IsHistory setup ((from.seen ++ u.requests.more) ++ c.others)
  reached_apart = subst (IsHistory setup) (sym (append_assoc from.seen u.requests.more c.others)) reached_history

  -- the numbers are those of the log at this call
  pub numbered_reached : touched w from.seen ≡ first → touched w reached ≡ mem.last → IsNumbered (at setup reached) w e mem.numbers
  numbered_reached mine place q =
      let quiet : untouched w c.others ≡ true = quiet_is setup from.seen u.requests.more c.others w e (length u.requests.own) first mem.last contents (u.sending mine) place in
      u.numbered mine q
      ∙ ap (λ l. count_sent w e ((at setup l).partition q)) u.requests.seen
      ∙ sym (count_stays setup (from.seen ++ u.requests.more) c.others w e q reached_apart quiet)
      ∙ ap (λ l. count_sent w e ((at setup l).partition q)) (append_assoc from.seen u.requests.more c.others)

  -- a task whose work is committed is the worker's at this call, while the generation stands
  pub assigned_reached : (t : TaskId) → has_task t (tasks_in fs) ≡ true → touched w from.seen ≡ first → touched w reached ≡ mem.last → (at setup reached).generation ≡ g → IsAssigned (at setup reached) w g t
  assigned_reached t has mine place same =
      let v = active_in setup from.seen w g first t fs has u.worker.works in
      let front : IsHistory setup (from.seen ++ u.requests.more) = history_front setup (from.seen ++ u.requests.more) ((from.seen ++ u.requests.more) ++ c.others) (c.others, refl) reached_apart in
      let now : IsActive setup (from.seen ++ u.requests.more) w g mem.last v.0 =
      sending_keeps_active setup from.seen u.requests.more w e g (length u.requests.own) first mem.last contents v.0 u.worker.network front u.worker.seen (u.sending mine) v.2 in
      let later : IsActive setup ((from.seen ++ u.requests.more) ++ c.others) w g mem.last v.0 =
      active_stays setup (from.seen ++ u.requests.more) c.others w g mem.last v.0 u.worker.network reached_apart (subst (λ l. HasSeen setup l w g mem.last) u.requests.seen u.seen) now in
      let there : IsActive setup reached w g mem.last v.0 = subst (λ l. IsActive setup l w g mem.last v.0) (append_assoc from.seen u.requests.more c.others) later in
      subst (IsAssigned (at setup reached) w g) v.1 (there.assigned same place)

  abbrev pub requests_now : (own : List Entry) → c.after.journal ≡ c.before.journal ++ own → are_of_commit w own ≡ true → Requests plan from new w
  requests_now own is kinds = requests_both plan from old new w u.requests (requests_by plan old new Does c w own is kinds)

  -- somebody else uses the number up to a later moment
  pub used_now : (own : List Entry) (is : c.after.journal ≡ c.before.journal ++ own) (more : List Entry) → accepted_of w own ≡ 0 → touched w from.seen ≡ first → touched w (new.seen ++ more) ≢ mem.last →
      suc (accepted_of w (u.requests.own ++ own)) ≤ accepted_of w ((u.requests.more ++ (c.others ++ own)) ++ more)
  used_now own is more none mine other =
      let behind : (u.requests.more ++ (c.others ++ own)) ++ more ≡ u.requests.more ++ ((c.others ++ own) ++ more) = append_assoc u.requests.more (c.others ++ own) more in
      let there : new.seen ++ more ≡ from.seen ++ (u.requests.more ++ ((c.others ++ own) ++ more)) =
      ap (λ l. l ++ more) (seen_is own is) ∙ append_assoc from.seen (u.requests.more ++ c.others ++ own) more ∙ ap (λ l. from.seen ++ (l ++ more)) (append_assoc u.requests.more c.others own) ∙ ap (λ l. from.seen ++ l) behind in
      let counted : suc (length u.requests.own) ≤ accepted_of w (u.requests.more ++ ((c.others ++ own) ++ more)) =
      sending_touched setup from.seen u.requests.more ((c.others ++ own) ++ more) w e (length u.requests.own) first mem.last contents (u.sending mine) (λ same. other (ap (touched w) there ∙ same)) in
      omega (arith, counted, accepted_before w u.requests.own own none, ap (accepted_of w) behind)

  pub more_now : (own : List Entry) → u.requests.more ++ (c.others ++ own) ≡ u.requests.more ++ c.others ++ own
  more_now own = sym (append_assoc u.requests.more c.others own)

pub one_of_commit : (w : ℕ) (entry : Entry) → is_of_commit w entry.request ≡ true → are_of_commit w (entry ∷ []) ≡ true
one_of_commit w entry h = ap (λ b. b && true) h

-- not refused
pub is_accepted : (s : State) (request : Request) (reply : Reply) (r : Option Refused) → reply ≡ reply_by s request r → is_refused reply ≡ false → r ≡ None
is_accepted s request reply None is h = refl
is_accepted s request reply (Some refused) is h = absurd (true≢false (sym (ap is_refused is) ∙ h))

was_refused : (s : State) (request : Request) (refused : Refused) (r : Option Refused) → Refuse refused ≡ reply_by s request r → is_refused (reply_by s request None) ≡ false → r ≡ Some refused
was_refused s request refused None is h = absurd (true≢false (ap is_refused is ∙ h))
was_refused s request refused (Some other) is h = same refused other is
  where
    same : (a b : Refused) → Refuse a ≡ Refuse b → Some b ≡ Some a
    same a b e = cc

-- it is done
module _ {W : Type 0} (plan : W → TaskPlan) (from old new : PassView Entry (Frame W)) (w e g first : ℕ) (mem next : Memory) (fs : List WorkView) (contents : Contents)
    (u : IsUnderway plan from old w e g first mem fs contents) (request : Request) (reply : Reply)
    (c : Called plan old new (λ before after. IsAccepted plan before after w mem.last next.last request reply))
    (adds : adds_to w request ≡ true) (kind : is_of_commit w request ≡ true) (open_still : is_commit request ≡ false) (carried : carries w e g request ≡ true) (own : is_of w request ≡ true) (plain : is_refused reply ≡ false) where
  abbrev entry : Entry
  entry = record { request = request; reply = reply }

  abbrev Done_so : ClusterView W → ClusterView W → Type 0
  Done_so before after = IsAccepted plan before after w mem.last next.last request reply

  abbrev reach : List Entry
  reach = reached plan from old new w e g first mem fs contents u Done_so c

  abbrev here : Setup
  here = setup_in plan from.frame

  journal_is : c.after.journal ≡ c.before.journal ++ entry ∷ []
  journal_is = ap (λ (k : ClusterView W). k.journal) c.does.adds.journal

  abbrev all : Requests plan from new w
  all = requests_now plan from old new w e g first mem fs contents u Done_so c (entry ∷ []) journal_is (one_of_commit w entry kind)

  taken : touches w entry ≡ true
  taken = ap₂ (λ a b. a && not b) own plain

  reach_place : touched w reach ≡ mem.last
  reach_place = ap (touched w) (sym (before_is plan from old new w e g first mem fs contents u Done_so c)) ∙ c.does.was

  free : refusal here (at here reach) request ≡ None
  free = subst (λ (s : Setup). refusal s (at s reach) request ≡ None) (before_setup plan from old new w e g first mem fs contents u Done_so c)
      (subst (λ l. refusal (setup_of plan c.before) (at (setup_of plan c.before) l) request ≡ None) (before_is plan from old new w e g first mem fs contents u Done_so c)
      (is_accepted (state_of plan c.before) request reply (refusal (setup_of plan c.before) (state_of plan c.before) request) c.does.adds.step plain))

  now_is : new.seen ≡ from.seen ++ (u.requests.more ++ c.others ++ entry ∷ [])
  now_is = seen_is plan from old new w e g first mem fs contents u Done_so c (entry ∷ []) journal_is

  behind_is : new.seen ≡ reach ++ entry ∷ []
  behind_is = now_is ∙ sym (append_assoc from.seen (u.requests.more ++ c.others) (entry ∷ []))

  next_is : touched w new.seen ≡ next.last
  next_is = ap (touched w) (seen_after plan old new Done_so c) ∙ sym c.does.is

  -- the state behind it
  there : at here new.seen ≡ effect (at here reach) request
  there = ap (at here) behind_is ∙ state_after-append here start reach (entry ∷ []) ∙ ap (state_by (at here reach) request) free

  sending_now : touched w from.seen ≡ first → IsSending here from.seen all.more w e (length all.own) first next.last (added_by request contents)
  sending_now mine =
      let k = sending_gains here from.seen u.requests.more c.others entry w e g (length u.requests.own) first mem.last contents u.worker.network
      (subst (IsHistory here) now_is (history_now plan from old new w e g first mem fs contents u Done_so c)) (u.worker.idle mine) adds carried taken reach_place (u.sending mine) in
      subst (λ l. IsSending here from.seen l w e (length all.own) first next.last (added_by request contents)) (sym (more_now plan from old new w e g first mem fs contents u Done_so c (entry ∷ [])))
      (subst (λ n. IsSending here from.seen (u.requests.more ++ c.others ++ entry ∷ []) w e n first next.last (added_by request contents)) (omega (arith, length-append u.requests.own (entry ∷ [])))
      (subst (λ n. IsSending here from.seen (u.requests.more ++ c.others ++ entry ∷ []) w e (length u.requests.own + 1) first n (added_by request contents)) (ap (touched w) (sym now_is) ∙ next_is) k))

  -- what it answers there
  answered : reply ≡ reply_by (at here reach) request None
  answered = subst (λ (s : Setup). reply ≡ reply_to s (at s reach) request) (before_setup plan from old new w e g first mem fs contents u Done_so c)
      (subst (λ l. reply ≡ reply_to (setup_of plan c.before) (at (setup_of plan c.before) l) request) (before_is plan from old new w e g first mem fs contents u Done_so c) c.does.adds.step)
      ∙ ap (reply_by (at here reach) request) free

  abbrev pub Numbers_so : Type 0
  Numbers_so = (s : State) → IsNumbered s w e mem.numbers → IsNumbered (effect s request) w e next.numbers

  abbrev pub Ends_so : Type 0
  Ends_so = (s : State) → reply ≡ reply_by s request None → HasEnds s w e contents mem.ends → HasEnds (effect s request) w e (added_by request contents) next.ends

  ended_now : Ends_so → touched w from.seen ≡ first → HasEnds (at here new.seen) w e (added_by request contents) next.ends
  ended_now counts mine =
      let low : e ≤ ((at here from.seen).producer w).epoch = u.worker.past in
      let rises : ((at here from.seen).producer w).epoch ≤ ((at here reach).producer w).epoch = (journal_rises here from.seen (u.requests.more ++ c.others)).epochs w in
      let gained : IsSending here from.seen (u.requests.more ++ c.others ++ entry ∷ []) w e (suc (length u.requests.own)) first next.last (added_by request contents) =
      subst (λ n. IsSending here from.seen (u.requests.more ++ c.others ++ entry ∷ []) w e n first next.last (added_by request contents)) (omega (arith, length-append u.requests.own (entry ∷ [])))
      (subst (λ l. IsSending here from.seen l w e (length all.own) first next.last (added_by request contents)) (more_now plan from old new w e g first mem fs contents u Done_so c (entry ∷ [])) (sending_now mine)) in
      let epoch : ((at here reach).producer w).epoch ≡ e =
      gained_epoch here from.seen u.requests.more c.others w e (length u.requests.own) first mem.last contents mem.ends entry (length u.requests.own) next.last (added_by request contents) u.worker.network
      (subst (IsHistory here) now_is (history_now plan from old new w e g first mem fs contents u Done_so c)) gained (omega (arith, low, rises)) in
      let before : HasEnds (at here reach) w e contents mem.ends =
      ends_stay here from.seen u.requests.more c.others w e (length u.requests.own) first mem.last contents mem.ends u.worker.network (reached_history plan from old new w e g first mem fs contents u Done_so c)
      reach_place epoch (u.sending mine) (subst (λ l. HasEnds (at here l) w e contents mem.ends) u.requests.seen (u.ended mine)) in
      subst (λ (s : State). HasEnds s w e (added_by request contents) next.ends) (sym there) (counts (at here reach) answered before)

  numbered_now : Numbers_so → touched w from.seen ≡ first → IsNumbered (at here new.seen) w e next.numbers
  numbered_now counts mine =
      let before : IsNumbered (at here reach) w e mem.numbers = numbered_reached plan from old new w e g first mem fs contents u Done_so c mine reach_place in
      subst (λ (s : State). IsNumbered s w e next.numbers) (sym there) (counts (at here reach) before)

  pub request_done : Numbers_so → Ends_so → IsUnderway plan from new w e g first next fs (added_by request contents)
  request_done counts ends = record {
    worker = u.worker;
    requests = all;
    undecided = undecided_both u.requests.own (entry ∷ []) u.undecided (undecided_one entry open_still);
    unfenced = fence_both u.requests.own (entry ∷ []) u.unfenced ∙ unfenced_one request reply plain;
    history = history_now plan from old new w e g first mem fs contents u Done_so c;
    seen = record {
      generation = subst (λ l. g ≤ (at here l).generation) (sym all.seen) (seen_stays here from.seen all.more w g first u.worker.seen).generation;
      place = omega (arith, next_is);
    };
    back = λ h. was_mine plan from old new w e g first mem fs contents u Done_so c c.does.was;
    sending = sending_now;
    numbered = numbered_now counts;
    ended = ended_now ends;
  }

-- the producer remembers the same
under_same : {W : Type 0} (plan : W → TaskPlan) (from now : PassView Entry (Frame W)) (w e g first : ℕ) (mem next : Memory) (fs : List WorkView) (contents : Contents) → IsUnderway plan from now w e g first mem fs contents →
    next.last ≡ mem.last → next.numbers ≡ mem.numbers → next.ends ≡ mem.ends → IsUnderway plan from now w e g first next fs contents
under_same plan from now w e g first mem next fs contents u last numbers ends =
    subst (λ (m : Memory). IsUnderway plan from now w e g first m fs contents) (λ i. record { last = sym last i; numbers = sym numbers i; ends = sym ends i }) u

-- the cluster refuses it
module _ {W : Type 0} (plan : W → TaskPlan) (from old new : PassView Entry (Frame W)) (w e g first : ℕ) (mem next : Memory) (fs : List WorkView) (contents : Contents)
    (u : IsUnderway plan from old w e g first mem fs contents) (request : Request) (r : Refused)
    (c : Called plan old new (λ before after. IsRefused plan before after w mem.last next.last request r))
    (kind : is_of_commit w request ≡ true) (carried : carries w e g request ≡ true) (answers : (s : State) → is_refused (reply_by s request None) ≡ false) (numbers : next.numbers ≡ mem.numbers) (ends : next.ends ≡ mem.ends) where
  abbrev refused_entry : Entry
  refused_entry = record { request = request; reply = Refuse r }

  abbrev Refused_so : ClusterView W → ClusterView W → Type 0
  Refused_so before after = IsRefused plan before after w mem.last next.last request r

  abbrev refused_reach : List Entry
  refused_reach = reached plan from old new w e g first mem fs contents u Refused_so c

  abbrev refused_here : Setup
  refused_here = setup_in plan from.frame

  refused_journal : c.after.journal ≡ c.before.journal ++ refused_entry ∷ []
  refused_journal = ap (λ (k : ClusterView W). k.journal) c.does.adds.journal

  abbrev refused_all : Requests plan from new w
  refused_all = requests_now plan from old new w e g first mem fs contents u Refused_so c (refused_entry ∷ []) refused_journal (one_of_commit w refused_entry kind)

  refused_place : touched w refused_reach ≡ mem.last
  refused_place = ap (touched w) (sym (before_is plan from old new w e g first mem fs contents u Refused_so c)) ∙ c.does.was

  refused_why : refusal refused_here (at refused_here refused_reach) request ≡ Some r
  refused_why = subst (λ (s : Setup). refusal s (at s refused_reach) request ≡ Some r) (before_setup plan from old new w e g first mem fs contents u Refused_so c)
      (subst (λ l. refusal (setup_of plan c.before) (at (setup_of plan c.before) l) request ≡ Some r) (before_is plan from old new w e g first mem fs contents u Refused_so c)
      (was_refused (state_of plan c.before) request r (refusal (setup_of plan c.before) (state_of plan c.before) request) c.does.adds.step (answers (state_of plan c.before))))

  turned_down : (Why : Refused → Type 0) → Why r → IsTurnedDown refused_all.more w e g Why
  turned_down Why why = record {
    before = u.requests.more ++ c.others;
    request = request;
    refused = r;
    rest = [];
    is = more_now plan from old new w e g first mem fs contents u Refused_so c (refused_entry ∷ []);
    carried = carried;
    why = why;
  }

  pub request_refused : (touched w from.seen ≡ first → touched w refused_reach ≡ mem.last → IsPrepared (at refused_here refused_reach) contents request) → IsHalted plan from new w e g first next (Refusal r)
  request_refused ready = record {
    requests = refused_all;
    undecided = undecided_both u.requests.own (refused_entry ∷ []) u.undecided refl;
    fence = fence_both u.requests.own (refused_entry ∷ []) u.unfenced ∙ or_none (is_fence r);
    used = λ more mine other. used_now plan from old new w e g first mem fs contents u Refused_so c (refused_entry ∷ []) refused_journal more (refused_none w request r) mine (λ same. other (same ∙ sym c.does.same));
    why = λ mine. by (sending_refused refused_here from.seen u.requests.more c.others request r w e g (length u.requests.own) first mem.last contents u.worker.network
        (reached_history plan from old new w e g first mem fs contents u Refused_so c) (u.worker.idle mine) u.worker.past carried refused_place (ready mine refused_place) refused_why (u.sending mine));
    mid = old;
    fs = fs;
    contents = contents;
    under = under_same plan from old w e g first mem next fs contents u c.does.same numbers ends;
    others = c.others ++ refused_entry ∷ [];
    seen = (requests_by plan old new Refused_so c w (refused_entry ∷ []) refused_journal (one_of_commit w refused_entry kind)).seen;
    history = history_now plan from old new w e g first mem fs contents u Refused_so c;
  }
    where
      by : IsFencing r ⊎ (IsMarkersWaiting r × ((at refused_here from.seen).producer w).waiting ≢ []) →
          (IsFencing r × IsTurnedDown refused_all.more w e g IsFencing) ⊎ (IsMarkersWaiting r × IsTurnedDown refused_all.more w e g IsMarkersWaiting × ((at refused_here from.seen).producer w).waiting ≢ [])
      by (inl f) = inl (f, turned_down IsFencing f)
      by (inr m) = inr (m.0, turned_down IsMarkersWaiting m.0, m.1)

-- somebody else used the number
module _ {W : Type 0} (plan : W → TaskPlan) (from old new : PassView Entry (Frame W)) (w e g first : ℕ) (mem next : Memory) (place : ℕ) (fs : List WorkView) (contents : Contents)
    (u : IsUnderway plan from old w e g first mem fs contents)
    (c : Called plan old new (λ before after. IsTouched before after w mem.last next.last place)) (numbers : next.numbers ≡ mem.numbers) (ends : next.ends ≡ mem.ends) where
  abbrev Touched_so : ClusterView W → ClusterView W → Type 0
  Touched_so before after = IsTouched before after w mem.last next.last place

  same_journal : c.after.journal ≡ c.before.journal ++ []
  same_journal = ap (λ (k : ClusterView W). k.journal) c.does.same ∙ sym (append-nil c.before.journal)

  pub request_touched : IsHalted plan from new w e g first next (Touched place)
  request_touched = record {
    requests = requests_now plan from old new w e g first mem fs contents u Touched_so c [] same_journal refl;
    undecided = undecided_both u.requests.own [] u.undecided refl;
    fence = fence_both u.requests.own [] u.unfenced;
    used = λ more mine other. used_now plan from old new w e g first mem fs contents u Touched_so c [] same_journal more refl mine (λ same. other (same ∙ sym c.does.last_is));
    why = λ mine.
        let there = before_is plan from old new w e g first mem fs contents u Touched_so c in
        let counted = sending_touched (setup_in plan from.frame) from.seen u.requests.more c.others w e (length u.requests.own) first mem.last contents (u.sending mine)
        (λ same. c.does.other (c.does.at_is ∙ ap (touched w) there ∙ same)) in
        subst (λ l. suc (length (u.requests.own ++ [])) ≤ accepted_of w (u.requests.more ++ l)) (sym (append-nil c.others))
        (subst (λ l. suc (length l) ≤ accepted_of w (u.requests.more ++ c.others)) (sym (append-nil u.requests.own)) counted);
    mid = old;
    fs = fs;
    contents = contents;
    under = under_same plan from old w e g first mem next fs contents u c.does.last_is numbers ends;
    others = c.others ++ [];
    seen = (requests_by plan old new Touched_so c w [] same_journal refl).seen;
    history = history_now plan from old new w e g first mem fs contents u Touched_so c;
  }

-- ---- a request, whatever is answered
-- what the worker's own request came to
abbrev pub Asked : {W A : Type 0} → (W → TaskPlan) → PassView Entry (Frame W) → PassView Entry (Frame W) → ℕ → ℕ → ℕ → Request → (A → Reply) → Result (Result A Barred) TurnHalt → Type 0
Asked plan old new w last next request reply r = Answered plan old new (λ x before after. IsOwn plan before after w last next request reply x) r

module _ {W : Type 0} (plan : W → TaskPlan) (old new : PassView Entry (Frame W)) (w : ℕ) where
  -- a request that added nothing
  pub requests_nothing : Called plan old new (λ b a. a ≡ b) → Requests plan old new w
  requests_nothing k = requests_by plan old new _ k w [] (ap (λ (x : ClusterView W). x.journal) k.does ∙ sym (append-nil k.before.journal)) refl

  -- one that wasn't made
  pub requests_cut : new ≡ old → Requests plan old new w
  requests_cut same = subst (λ (k : PassView Entry (Frame W)). Requests plan old k w) (sym same) (requests_none plan old w)

  pub undecided_nothing : Called plan old new (λ b a. a ≡ b) → UndecidedRequests plan old new w false
  undecided_nothing k = record { requests = requests_by plan old new _ k w [] (ap (λ (x : ClusterView W). x.journal) k.does ∙ sym (append-nil k.before.journal)) refl; undecided = refl; fence = refl }

  pub undecided_cut : new ≡ old → UndecidedRequests plan old new w false
  undecided_cut same = subst (λ (k : PassView Entry (Frame W)). UndecidedRequests plan old k w false) (sym same) (undecided_none plan old w)

module _ {W A : Type 0} (plan : W → TaskPlan) (old new : PassView Entry (Frame W)) (w e g : ℕ) (mem next : Memory) (Ready : List WorkView → Contents → Type 0) (request : Request) (reply : A → Reply)
    (adds : adds_to w request ≡ true) (kind : is_of_commit w request ≡ true) (open_still : is_commit request ≡ false) (carried : carries w e g request ≡ true) (own : is_of w request ≡ true) (plain : (a : A) → is_refused (reply a) ≡ false)
    (answers : (s : State) → is_refused (reply_by s request None) ≡ false) where
  -- what it makes of what the producer remembers
  pub record Counts (a : A) : Type 0 where
    pub numbers : (s : State) → IsNumbered s w e mem.numbers → IsNumbered (effect s request) w e next.numbers
    pub ends : (s : State) (c : Contents) → reply a ≡ reply_by s request None → HasEnds s w e c mem.ends → HasEnds (effect s request) w e (added_by request c) next.ends

  -- what the request needs, at a call that is refused
  abbrev pub Prepared : Type 0
  Prepared = (from : PassView Entry (Frame W)) (first : ℕ) (fs : List WorkView) (c : Contents) (refused : Refused) → Ready fs c → (u : IsUnderway plan from old w e g first mem fs c) →
      (k : Called plan old new (λ b x. IsRefused plan b x w mem.last next.last request refused)) → touched w from.seen ≡ first →
      touched w (reached plan from old new w e g first mem fs c u (λ b x. IsRefused plan b x w mem.last next.last request refused) k) ≡ mem.last →
      IsPrepared (at (setup_in plan from.frame) (reached plan from old new w e g first mem fs c u (λ b x. IsRefused plan b x w mem.last next.last request refused) k)) c request

  is_done : (a : A) → Counts a → Called plan old new (λ b x. IsAccepted plan b x w mem.last next.last request (reply a)) → Puts plan old new w e g mem next (added_by request)
  is_done a counts k from first fs c u = request_done plan from old new w e g first mem next fs c u request (reply a) k adds kind open_still carried own (plain a) counts.numbers (λ s. counts.ends s c)

  -- what the producer remembers but for the place stays, where it isn't done
  abbrev pub Same : Type 0
  Same = (next.numbers ≡ mem.numbers) × (next.ends ≡ mem.ends)

  is_refused_so : (refused : Refused) → Same → Prepared → Called plan old new (λ b x. IsRefused plan b x w mem.last next.last request refused) → Halts plan old new w e g mem next Ready (Refusal refused)
  is_refused_so refused same ready k from first fs c is u =
      request_refused plan from old new w e g first mem next fs c u request refused k kind carried answers same.0 same.1 (λ mine place. ready from first fs c refused is u k mine place)

  is_touched_so : (place : ℕ) → Same → Called plan old new (λ b x. IsTouched b x w mem.last next.last place) → Halts plan old new w e g mem next Ready (Touched place)
  is_touched_so place same k from first fs c is u = request_touched plan from old new w e g first mem next place fs c u k same.0 same.1

  pub carries_request : (r : Result (Result A Barred) TurnHalt) → ((a : A) → halted r ≡ Ok a → Counts a) → ((b : Barred) → halted r ≡ Err (IsBarred b) → Same) → Prepared → Asked plan old new w mem.last next.last request reply r → Carries plan old new w e g mem next Ready (added_by request) (halted r)
  carries_request (Ok (Ok a)) counts same ready k = is_done a (counts a refl) k
  carries_request (Ok (Err (Refusal refused))) counts same ready k = is_refused_so refused (same (Refusal refused) refl) ready k
  carries_request (Ok (Err (Touched place))) counts same ready k = is_touched_so place (same (Touched place) refl) k
  carries_request (Err NoMemory) counts same ready k = tt
  carries_request (Err CutOff) counts same ready k = tt

  pub requests_request : (r : Result (Result A Barred) TurnHalt) → Asked plan old new w mem.last next.last request reply r → Requests plan old new w
  requests_request (Ok (Ok a)) k =
      requests_by plan old new _ k w (record { request = request; reply = reply a } ∷ []) (ap (λ (x : ClusterView W). x.journal) k.does.adds.journal) (one_of_commit w (record { request = request; reply = reply a }) kind)
  requests_request (Ok (Err (Refusal refused))) k =
      requests_by plan old new _ k w (record { request = request; reply = Refuse refused } ∷ [])
      (ap (λ (x : ClusterView W). x.journal) k.does.adds.journal) (one_of_commit w (record { request = request; reply = Refuse refused }) kind)
  requests_request (Ok (Err (Touched place))) k =
      requests_by plan old new _ k w [] (ap (λ (x : ClusterView W). x.journal) k.does.same ∙ sym (append-nil k.before.journal)) refl
  requests_request (Err NoMemory) k = requests_nothing plan old new w k
  requests_request (Err CutOff) k = requests_cut plan old new w k

-- ---- the gate
-- a request that is cut off counts one cut
pub cuts_as : {A : Type 0} (first now : GateCounts) (r : Result (Result A Barred) TurnHalt) (x : Result A Halt) → x ≡ halted r → now ≡ counts_after first r → now ≡ with_cuts first (cuts_in x)
cuts_as {A} first now r x is e = e ∙ by r ∙ ap (λ y. with_cuts first (cuts_in y)) (sym is)
  where
    by : (r : Result (Result A Barred) TurnHalt) → counts_after first r ≡ with_cuts first (cuts_in (halted r))
    by (Ok (Ok a)) = refl
    by (Ok (Err b)) = refl
    by (Err NoMemory) = refl
    by (Err CutOff) = refl

-- the same, where the answer is known
pub cuts_known : {A : Type 0} (first now : GateCounts) (r : Result (Result A Barred) TurnHalt) (x y : Result A Halt) → x ≡ halted r → now ≡ counts_after first r → x ≡ y → now ≡ with_cuts first (cuts_in y)
cuts_known first now r x y is e known = subst (λ z. now ≡ with_cuts first (cuts_in z)) known (cuts_as first now r x is e)

pub marker_cuts : {A : Type 0} (first now : GateCounts) (r : Result (Option A) TurnHalt) (x : Result Bool Halt) → x ≡ written r → now ≡ counts_after first r → now ≡ with_cuts first (cuts_in x)
marker_cuts {A} first now r x is e = e ∙ by r ∙ ap (λ y. with_cuts first (cuts_in y)) (sym is)
  where
    by : (r : Result (Option A) TurnHalt) → counts_after first r ≡ with_cuts first (cuts_in (written r))
    by (Ok None) = refl
    by (Ok (Some a)) = refl
    by (Err NoMemory) = refl
    by (Err CutOff) = refl
