-- A transaction from a commit's beginning, request by request and between entries of others.
use Rattle.std.proofs.Common.{◌≡◌, ◌≢◌, ◌⊎◌, inl, inr, ℕ, ◌+◌, ◌≤◌, ◌&&◌, Bool, true, false, not, List, [], ◌∷◌, ◌++◌, length, cond, Option, Some, None, refl, sym, ap, subst, ◌∙◌, arith, append_assoc}
use Rattle.std.specs.Prelude.{◌==◌}
use Rattle.std.proofs.lemmas.Bool.{eqb-true, true≢false}
use Rattle.ks_record.specs.declared.record.TaskId.{TaskId}
use Rattle.ks_record.specs.Records.{Record as Rec}
use Rattle.ks_record.specs.declared.record.PartId.{PartId}
use Rattle.ks_record.specs.declared.assignment.Refused.{Refused}
use Rattle.ks_record.specs.declared.assignment.Refused.TheVariants.{Fenced, MarkersWaiting}
use Rattle.ks_record.specs.declared.assignment.Marker.{Marker}
use Rattle.ks_history.specs.declared.journal.Entry.{Entry}
use Rattle.ks_history.specs.declared.journal.Request.{Request}
use Rattle.ks_history.specs.declared.journal.Request.TheVariants.{Produce, Init, Add, Append, SendOffsets, Decide, MarkNext, Join, Expire, Hold, Probe, Assign, Park, Unpark}
use Rattle.ks_history.specs.declared.transaction.Pending.{Pending}
use Rattle.ks_history.specs.declared.transaction.Producer.{Producer}
use Rattle.ks_history.specs.declared.transaction.Transaction.{Transaction}
use Rattle.ks_history.specs.Partition.{count_sent}
use Rattle.ks_history.specs.Machine.{IsNetwork}
use Rattle.ks_history.specs.State.{State, Setup, start, pending_of, has_part}
use Rattle.ks_history.specs.Step.{refusal, reply_by, fenced, markers_waiting, without_part, out_of_sequence, none_undecided, old_generation, not_assigned, unstable_beside, or_else, tx_of, pending_at}
use Rattle.ks_history.specs.History.{at, IsHistory, IsStep, CommitsFaithfully}
use Rattle.ks_history.specs.Touched.{is_of, is_refused, touches, touched, untouched}
use Rattle.ks_history.proofs.Histories.{history_front}
use Rattle.ks_history.proofs.Touching.{untouched_stays}
use Rattle.ks_law_exactly_once.proofs.Refusals.{both_none, not_fenced, some_undecided, with_part}
use Rattle.ks_law_restore.specs.Commits.{NoCommit}
use Rattle.ks_law_restore.proofs.Lasting.{Each-back}
use Rattle.ks_law_sharing.specs.Tasks.{IsAssigned, IsActive, HasSeen}
use Rattle.ks_law_sharing.specs.Refusals.{IsFencing, IsMarkersWaiting, IsWaiting}
use Rattle.ks_law_sharing.proofs.Rising.{journal_rises}
use Rattle.ks_law_sharing.proofs.Touching.{same_touched, seen_stays}
use Rattle.ks_law_sharing.proofs.Leaving.{idle_stays}
use Rattle.ks_law_sharing.proofs.Assigned.{active_stays}
use Rattle.ks_law_sharing.proofs.Refusing.{add_refused, append_refused, offsets_refused, decide_refused, markers_waited_before}
use Rattle.ks_law_commit.specs.Building.{Contents, no_contents, IsBuilding, adds_to}
use Rattle.ks_law_commit.specs.Committing.{HoldsWork}
use Rattle.ks_law_commit.specs.Accounts.{IsAccount}
use Rattle.ks_law_commit.specs.Advancing.{added_by, Advances}
use Rattle.ks_law_commit.proofs.Built.{building_begins}
use Rattle.ks_law_commit.proofs.Faith.{building_faithful}
use Rattle.ks_law_commit.proofs.Counted.{account_begins, account_stays, account_ends}
use Rattle.ks_law_commit.proofs.Carried.{others_advance, request_advances, both_advance}
use Rattle.ks_law_commit.specs.Cases.{carries}
use Rattle.ks_law_commit.specs.Sending.{HasSentNothing, HasBegun, IsSending, IsPrepared, SendingBegins, SendingGains, SendingTouched, SendingRefused, SendingKeepsActive, SendingIsFaithful, SendingCommits}

pub sending_begins : SendingBegins
sending_begins setup journal w e first was = record { was = was; stage = inl (record { quiet = refl; none = refl; same = refl; contents = refl }) }

-- ---- what both stages tell
module _ (setup : Setup) (journal more : List Entry) (w e made first last : ℕ) (c : Contents) where
  begun_journal : (b : HasBegun setup journal more w e made first last c) → (journal ++ b.others) ++ b.rest ≡ journal ++ more
  begun_journal b = append_assoc journal b.others b.rest ∙ ap (λ l. journal ++ l) (sym b.is)

  pub place_is : IsSending setup journal more w e made first last c → touched w (journal ++ more) ≡ last
  place_is k = by k.stage
    where
      by : HasSentNothing more w made first last c ⊎ HasBegun setup journal more w e made first last c → touched w (journal ++ more) ≡ last
      by (inl n) = untouched_stays w journal more n.quiet ∙ k.was ∙ sym n.same
      by (inr b) = ap (touched w) (sym (begun_journal b)) ∙ b.advances.place

  pub account_is : IsSending setup journal more w e made first last c → IsAccount w journal more made last
  account_is k = by k.stage
    where
      by : HasSentNothing more w made first last c ⊎ HasBegun setup journal more w e made first last c → IsAccount w journal more made last
      by (inl n) = subst (λ m. IsAccount w journal more m last) (sym n.none) (subst (λ m. IsAccount w journal more 0 m) (sym n.same) (account_stays w first 0 journal [] more (account_begins w first journal k.was)))
      by (inr b) =
          let base : IsAccount w journal b.others 0 first = account_stays w first 0 journal [] b.others (account_begins w first journal k.was) in
          subst (λ l. IsAccount w journal l made last) (sym b.is)
          (subst (λ m. IsAccount w journal (b.others ++ b.rest) m last) (omega arith) (b.advances.account journal b.others 0 refl base))

  pub building_is : IsNetwork setup.plan → IsHistory setup (journal ++ more) → (b : HasBegun setup journal more w e made first last c) → IsBuilding (at setup (journal ++ b.others)) (at setup (journal ++ more)) w e c
  building_is net history b =
      let front : IsHistory setup (journal ++ b.others) = history_front setup (journal ++ b.others) (journal ++ more) (b.rest, sym (begun_journal b)) history in
      let built : IsBuilding (at setup (journal ++ b.others)) (at setup ((journal ++ b.others) ++ b.rest)) w e (b.puts no_contents) =
      b.advances.building (at setup (journal ++ b.others)) no_contents (building_begins setup (journal ++ b.others) w e net front b.undecided b.waiting b.epoch) in
      subst (λ (k : Contents). IsBuilding (at setup (journal ++ b.others)) (at setup (journal ++ more)) w e k) (sym b.contents)
      (subst (λ (l : List Entry). IsBuilding (at setup (journal ++ b.others)) (at setup l) w e (b.puts no_contents)) (begun_journal b) built)

-- ---- entries of others
module _ (setup : Setup) (journal more others : List Entry) (w e made first last : ℕ) (c : Contents) where
  here : (journal ++ more) ++ others ≡ journal ++ (more ++ others)
  here = append_assoc journal more others

  pub quiet_is : IsSending setup journal more w e made first last c → touched w (journal ++ (more ++ others)) ≡ last → untouched w others ≡ true
  quiet_is k is = same_touched w (journal ++ more) others (ap (touched w) here ∙ is ∙ sym (place_is setup journal more w e made first last c k))

  untouched_both : (xs ys : List Entry) → untouched w xs ≡ true → untouched w ys ≡ true → untouched w (xs ++ ys) ≡ true
  untouched_both xs ys h g = same_touched w [] (xs ++ ys) (untouched_stays w xs ys g ∙ untouched_stays w [] xs h)

  pub others_come : IsNetwork setup.plan → IsHistory setup (journal ++ (more ++ others)) → touched w (journal ++ (more ++ others)) ≡ last →
      ((at setup (journal ++ (more ++ others))).producer w).epoch ≡ e → IsSending setup journal more w e made first last c → IsSending setup journal (more ++ others) w e made first last c
  others_come net history is epoch k = record { was = k.was; stage = by k.stage }
    where
      quiet : untouched w others ≡ true
      quiet = quiet_is k is

      by : HasSentNothing more w made first last c ⊎ HasBegun setup journal more w e made first last c → HasSentNothing (more ++ others) w made first last c ⊎ HasBegun setup journal (more ++ others) w e made first last c
      by (inl n) = inl (record { quiet = untouched_both more others n.quiet quiet; none = n.none; same = n.same; contents = n.contents })
      by (inr b) =
          let there : (journal ++ b.others) ++ b.rest ≡ journal ++ more = begun_journal setup journal more w e made first last c b in
          let whole : ((journal ++ b.others) ++ b.rest) ++ others ≡ journal ++ (more ++ others) = ap (λ l. l ++ others) there ∙ here in
          let one : Advances setup ((journal ++ b.others) ++ b.rest) others w e 0 last last (λ x. x) =
          others_advance setup ((journal ++ b.others) ++ b.rest) others w e last net (subst (IsHistory setup) (sym whole) history) quiet b.advances.place
          (subst (λ (l : List Entry). ((at setup l).producer w).epoch ≡ e) (sym whole) epoch) in
          inr (record {
            others = b.others;
            rest = b.rest ++ others;
            is = ap (λ l. l ++ others) b.is ∙ append_assoc b.others b.rest others;
            quiet = b.quiet;
            undecided = b.undecided;
            waiting = b.waiting;
            epoch = b.epoch;
            puts = b.puts;
            advances = subst (λ m. Advances setup (journal ++ b.others) (b.rest ++ others) w e m first last b.puts) (omega arith)
                (both_advance setup (journal ++ b.others) b.rest others w e made 0 first last last b.puts (λ x. x) b.advances one);
            contents = b.contents;
          })

-- ---- requests
accepted : (setup : Setup) (s : State) (w : ℕ) (entry : Entry) → IsStep setup s entry → touches w entry ≡ true → refusal setup s entry.request ≡ None
accepted setup s w entry step h = by (refusal setup s entry.request) refl
  where
    never : (b : Bool) → b && false ≡ true → ⊥
    never true e = true≢false (sym e)
    never false e = true≢false (sym e)

    by : (r : Option Refused) → refusal setup s entry.request ≡ r → refusal setup s entry.request ≡ None
    by None is = is
    by (Some refused) is = absurd (never (is_of w entry.request) (ap (λ reply. is_of w entry.request && not (is_refused reply)) (sym (step.reply ∙ ap (reply_by s entry.request) is)) ∙ h))

both_true : (a b : Bool) → a && b ≡ true → (a ≡ true) × (b ≡ true)
both_true true b h = (refl, h)
both_true false b h = absurd (true≢false (sym h))

-- the worker and the epoch that a request carries
same_worker : (w e g : ℕ) (request : Request) → carries w e g request ≡ true → (s : State) (setup : Setup) → refusal setup s request ≡ None → (s.producer w).epoch ≡ e
same_worker w e g (Add v d p) is s setup free = carried v (both_true (v == w) (d == e) is) (both_none (fenced (s.producer v) d) (markers_waiting (s.producer v)) free).0
  where
    carried : (v : ℕ) → ((v == w) ≡ true) × ((d == e) ≡ true) → fenced (s.producer v) d ≡ None → (s.producer w).epoch ≡ e
    carried v h f = ap (λ k. (s.producer k).epoch) (sym (eqb-true v w h.0)) ∙ sym (not_fenced (s.producer v) d f) ∙ eqb-true d e h.1
same_worker w e g (Append v d number t p rs) is s setup free =
    carried v (both_true (v == w) (d == e) is) (both_none (fenced (s.producer v) d) (or_else (without_part (s.producer v) p) (out_of_sequence (s.partition p) v d number)) free).0
  where
    carried : (v : ℕ) → ((v == w) ≡ true) × ((d == e) ≡ true) → fenced (s.producer v) d ≡ None → (s.producer w).epoch ≡ e
    carried v h f = ap (λ k. (s.producer k).epoch) (sym (eqb-true v w h.0)) ∙ sym (not_fenced (s.producer v) d f) ∙ eqb-true d e h.1
same_worker w e g (SendOffsets v d h t offsets order late) is s setup free =
    carried v (both_true (v == w) ((d == e) && (h == g)) is)
    (both_none (fenced (s.producer v) d) (or_else (old_generation s h) (or_else (not_assigned s v t) (or_else (markers_waiting (s.producer v)) (unstable_beside s v t)))) free).0
  where
    carried : (v : ℕ) → ((v == w) ≡ true) × (((d == e) && (h == g)) ≡ true) → fenced (s.producer v) d ≡ None → (s.producer w).epoch ≡ e
    carried v k f = ap (λ k. (s.producer k).epoch) (sym (eqb-true v w k.0)) ∙ sym (not_fenced (s.producer v) d f) ∙ eqb-true d e (both_true (d == e) (h == g) k.1).0
same_worker w e g (Decide v d commit) is s setup free = carried v (both_true (v == w) (d == e) is) (both_none (fenced (s.producer v) d) (none_undecided (s.producer v)) free).0
  where
    carried : (v : ℕ) → ((v == w) ≡ true) × ((d == e) ≡ true) → fenced (s.producer v) d ≡ None → (s.producer w).epoch ≡ e
    carried v h f = ap (λ k. (s.producer k).epoch) (sym (eqb-true v w h.0)) ∙ sym (not_fenced (s.producer v) d f) ∙ eqb-true d e h.1
same_worker w e g (Produce p rec) is s setup free = absurd (true≢false (sym is))
same_worker w e g (Init v) is s setup free = absurd (true≢false (sym is))
same_worker w e g (MarkNext v) is s setup free = absurd (true≢false (sym is))
same_worker w e g (Join v) is s setup free = absurd (true≢false (sym is))
same_worker w e g (Expire v) is s setup free = absurd (true≢false (sym is))
same_worker w e g (Hold v held) is s setup free = absurd (true≢false (sym is))
same_worker w e g (Probe v h) is s setup free = absurd (true≢false (sym is))
same_worker w e g (Assign v h a) is s setup free = absurd (true≢false (sym is))
same_worker w e g (Park instance t) is s setup free = absurd (true≢false (sym is))
same_worker w e g (Unpark instance t) is s setup free = absurd (true≢false (sym is))

-- where nothing is undecided and markers aren't the cause of a refusal, none waits
none_wait : (p : Producer) → p.undecided ≡ None → markers_waiting p ≡ None → p.waiting ≡ []
none_wait p is free = by p.undecided p.waiting is free
  where
    by : (u : Option Transaction) (ms : List Marker) → u ≡ None
        → (elim u as (λ _. Option Refused) [ Some tx ↦ None | None ↦ elim ms as (λ _. Option Refused) [ [] ↦ None | m ∷ rest ↦ Some (MarkersWaiting (length (m ∷ rest))) ] ]) ≡ None → ms ≡ []
    by None [] h g = refl
    by None (m ∷ rest) h g = absurd cc
    by (Some tx) ms h g = absurd cc

undecided_none : (p : Producer) (tx : Transaction) → p.undecided ≡ None → p.undecided ≡ Some tx → ⊥
undecided_none p tx h g = cc

-- a first accepted request finds no marker waiting
first_waits : (w : ℕ) (request : Request) (s : State) (setup : Setup) → adds_to w request ≡ true → (s.producer w).undecided ≡ None → refusal setup s request ≡ None → (s.producer w).waiting ≡ []
first_waits w (Add v e p) s setup is none free =
    let same : v ≡ w = eqb-true v w is in
    let waits : markers_waiting (s.producer v) ≡ None = (both_none (fenced (s.producer v) e) (markers_waiting (s.producer v)) free).1 in
    none_wait (s.producer w) none (subst (λ k. markers_waiting (s.producer k) ≡ None) same waits)
first_waits w (SendOffsets v e g t offsets order late) s setup is none free =
    let same : v ≡ w = eqb-true v w is in
    let one = (both_none (fenced (s.producer v) e) (or_else (old_generation s g) (or_else (not_assigned s v t) (or_else (markers_waiting (s.producer v)) (unstable_beside s v t)))) free).1 in
    let two = (both_none (old_generation s g) (or_else (not_assigned s v t) (or_else (markers_waiting (s.producer v)) (unstable_beside s v t))) one).1 in
    let three = (both_none (not_assigned s v t) (or_else (markers_waiting (s.producer v)) (unstable_beside s v t)) two).1 in
    let waits : markers_waiting (s.producer v) ≡ None = (both_none (markers_waiting (s.producer v)) (unstable_beside s v t) three).0 in
    none_wait (s.producer w) none (subst (λ k. markers_waiting (s.producer k) ≡ None) same waits)
first_waits w (Append v e number t p rs) s setup is none free =
    let same : v ≡ w = eqb-true v w is in
    let rest = (both_none (fenced (s.producer v) e) (or_else (without_part (s.producer v) p) (out_of_sequence (s.partition p) v e number)) free).1 in
    let there = with_part (s.producer v) p (both_none (without_part (s.producer v) p) (out_of_sequence (s.partition p) v e number) rest).0 in
    absurd (undecided_none (s.producer w) there.0 none (subst (λ k. (s.producer k).undecided ≡ Some there.0) same there.1))
first_waits w (Produce p rec) s setup is none free = absurd (true≢false (sym is))
first_waits w (Init v) s setup is none free = absurd (true≢false (sym is))
first_waits w (Decide v e commit) s setup is none free = absurd (true≢false (sym is))
first_waits w (MarkNext v) s setup is none free = absurd (true≢false (sym is))
first_waits w (Join v) s setup is none free = absurd (true≢false (sym is))
first_waits w (Expire v) s setup is none free = absurd (true≢false (sym is))
first_waits w (Hold v held) s setup is none free = absurd (true≢false (sym is))
first_waits w (Probe v h) s setup is none free = absurd (true≢false (sym is))
first_waits w (Assign v h a) s setup is none free = absurd (true≢false (sym is))
first_waits w (Park instance t) s setup is none free = absurd (true≢false (sym is))
first_waits w (Unpark instance t) s setup is none free = absurd (true≢false (sym is))

-- ---- an accepted request
one_more : (setup : Setup) (journal more : List Entry) (entry : Entry) (w e made first last : ℕ) (c : Contents) →
    IsNetwork setup.plan → IsHistory setup ((journal ++ more) ++ entry ∷ []) → ((at setup journal).producer w).undecided ≡ None → adds_to w entry.request ≡ true →
    touches w entry ≡ true → refusal setup (at setup (journal ++ more)) entry.request ≡ None → ((at setup (journal ++ more)).producer w).epoch ≡ e → IsSending setup journal more w e made first last c →
    IsSending setup journal (more ++ entry ∷ []) w e (made + 1) first (touched w ((journal ++ more) ++ entry ∷ [])) (added_by entry.request c)
one_more setup journal more entry w e made first last c net history none adds taken free epoch k = record { was = k.was; stage = inr (by k.stage) }
  where
    by : HasSentNothing more w made first last c ⊎ HasBegun setup journal more w e made first last c
        → HasBegun setup journal (more ++ entry ∷ []) w e (made + 1) first (touched w ((journal ++ more) ++ entry ∷ [])) (added_by entry.request c)
    by (inl n) =
        let mid : IsHistory setup (journal ++ more) = history_front setup (journal ++ more) ((journal ++ more) ++ entry ∷ []) (entry ∷ [], refl) history in
        let idle : ((at setup (journal ++ more)).producer w).undecided ≡ None = idle_stays setup journal more w mid n.quiet none in
        record {
          others = more;
          rest = entry ∷ [];
          is = refl;
          quiet = n.quiet;
          undecided = idle;
          waiting = first_waits w entry.request (at setup (journal ++ more)) setup adds idle free;
          epoch = epoch;
          puts = added_by entry.request;
          advances = subst (λ m. Advances setup (journal ++ more) (entry ∷ []) w e m first (touched w ((journal ++ more) ++ entry ∷ [])) (added_by entry.request)) (omega (arith, n.none))
              (request_advances setup (journal ++ more) entry w e first net history adds taken (untouched_stays w journal more n.quiet ∙ k.was));
          contents = ap (added_by entry.request) n.contents;
        }
    by (inr b) =
        let there : (journal ++ b.others) ++ b.rest ≡ journal ++ more = begun_journal setup journal more w e made first last c b in
        let next : ℕ = touched w ((journal ++ more) ++ entry ∷ []) in
        let one : Advances setup ((journal ++ b.others) ++ b.rest) (entry ∷ []) w e 1 last next (added_by entry.request) =
        subst (λ l. Advances setup l (entry ∷ []) w e 1 last next (added_by entry.request)) (sym there)
        (request_advances setup (journal ++ more) entry w e last net history adds taken (place_is setup journal more w e made first last c k)) in
        record {
          others = b.others;
          rest = b.rest ++ entry ∷ [];
          is = ap (λ l. l ++ entry ∷ []) b.is ∙ append_assoc b.others b.rest (entry ∷ []);
          quiet = b.quiet;
          undecided = b.undecided;
          waiting = b.waiting;
          epoch = b.epoch;
          puts = λ x. added_by entry.request (b.puts x);
          advances = both_advance setup (journal ++ b.others) b.rest (entry ∷ []) w e made 1 first last next b.puts (added_by entry.request) b.advances one;
          contents = ap (added_by entry.request) b.contents;
        }

pub sending_gains : SendingGains
sending_gains setup journal more others entry w e g made first last c net history none adds carried taken is k =
    let mid : List Entry = more ++ others in
    let whole : (journal ++ mid) ++ entry ∷ [] ≡ journal ++ (mid ++ entry ∷ []) = append_assoc journal mid (entry ∷ []) in
    let there : IsHistory setup ((journal ++ mid) ++ entry ∷ []) = subst (IsHistory setup) (sym whole) history in
    let front : IsHistory setup (journal ++ mid) = history_front setup (journal ++ mid) ((journal ++ mid) ++ entry ∷ []) (entry ∷ [], refl) there in
    let step : IsStep setup (at setup (journal ++ mid)) entry = (Each-back IsStep setup start (journal ++ mid) (entry ∷ []) there.legal).0 in
    let free : refusal setup (at setup (journal ++ mid)) entry.request ≡ None = accepted setup (at setup (journal ++ mid)) w entry step taken in
    let epoch : ((at setup (journal ++ mid)).producer w).epoch ≡ e = same_worker w e g entry.request carried (at setup (journal ++ mid)) setup free in
    subst (λ n. IsSending setup journal (mid ++ entry ∷ []) w e (made + 1) first n (added_by entry.request c)) (ap (touched w) whole)
    (one_more setup journal mid entry w e made first last c net there none adds taken free epoch
    (others_come setup journal more others w e made first last c net front is epoch k))

-- ---- a request that isn't done
pub sending_touched : SendingTouched
sending_touched setup journal more others w e made first last c k other =
    account_ends w last made journal (more ++ others) (account_stays w last made journal more others (account_is setup journal more w e made first last c k)) other

-- ---- active tasks
pub sending_keeps_active : SendingKeepsActive
sending_keeps_active setup journal more w e g made first last c v net history seen k active = by k.stage
  where
    by : HasSentNothing more w made first last c ⊎ HasBegun setup journal more w e made first last c → IsActive setup (journal ++ more) w g last v
    by (inl n) = subst (λ m. IsActive setup (journal ++ more) w g m v) (sym n.same) (active_stays setup journal more w g first v net history seen active)
    by (inr b) =
        let there : (journal ++ b.others) ++ b.rest ≡ journal ++ more = begun_journal setup journal more w e made first last c b in
        let front : IsHistory setup (journal ++ b.others) = history_front setup (journal ++ b.others) (journal ++ more) (b.rest, sym there) history in
        let then_seen : HasSeen setup (journal ++ b.others) w g first = seen_stays setup journal b.others w g first seen in
        let then_active : IsActive setup (journal ++ b.others) w g first v = active_stays setup journal b.others w g first v net front seen active in
        subst (λ l. IsActive setup l w g last v) there (b.advances.active g v then_seen then_active)

-- ---- a refused request
some_same : (x y : Refused) → Some x ≡ Some y → x ≡ y
some_same x y e = cc

fence_or : (p : Producer) (e : ℕ) (more : Option Refused) (r : Refused) → or_else (fenced p e) more ≡ Some r → IsFencing r ⊎ (p.epoch ≡ e)
fence_or p e more r is = by (e == p.epoch) refl is
  where
    by : (b : Bool) → (e == p.epoch) ≡ b → or_else (cond b None (Some (Fenced p.epoch))) more ≡ Some r → IsFencing r ⊎ (p.epoch ≡ e)
    by true h g = inr (sym (eqb-true e p.epoch h))
    by false h g = inl (subst IsFencing (some_same (Fenced p.epoch) r g) tt)

no_pending : (p : Producer) (t : TaskId) (x : Pending) → pending_of t (pending_at p) ≡ Some x → p.undecided ≢ None
no_pending p t x is none = by p.undecided none is
  where
    by : (u : Option Transaction) → u ≡ None → pending_of t (elim u as (λ _. List Pending) [ None ↦ [] | Some tx ↦ tx.pending ]) ≡ Some x → ⊥
    by None h g = absurd cc
    by (Some tx) h g = absurd cc

module _ (setup : Setup) (journal more others : List Entry) (w e made first last : ℕ) (c : Contents) (r : Refused) (net : IsNetwork setup.plan) (history : IsHistory setup (journal ++ (more ++ others)))
    (none : ((at setup journal).producer w).undecided ≡ None) (past : e ≤ ((at setup journal).producer w).epoch) (is : touched w (journal ++ (more ++ others)) ≡ last)
    (k : IsSending setup journal more w e made first last c) where
  abbrev s : State
  s = at setup (journal ++ (more ++ others))

  abbrev Answer : Type 0
  Answer = IsFencing r ⊎ (IsMarkersWaiting r × ((at setup journal).producer w).waiting ≢ [])

  -- the stage at the refusal, in the worker's epoch
  now : (s.producer w).epoch ≡ e → IsSending setup journal (more ++ others) w e made first last c
  now epoch = others_come setup journal more others w e made first last c net history is epoch k

  waited : IsWaiting s w e r → Answer
  waited h = by (now h.epoch).stage
    where
      by : HasSentNothing (more ++ others) w made first last c ⊎ HasBegun setup journal (more ++ others) w e made first last c → Answer
      by (inl n) = inr (h.why, markers_waited_before setup journal (more ++ others) w e r history n.quiet past h)
      by (inr b) = absurd (h.waits (building_is setup journal (more ++ others) w e made first last c net history b).waiting)

  fenced_or_waited : IsFencing r ⊎ IsWaiting s w e r → Answer
  fenced_or_waited (inl f) = inl f
  fenced_or_waited (inr h) = waited h

  has_the_part : (p : PartId) → c.parts p ≡ true → (s.producer w).epoch ≡ e → has_part p (tx_of (s.producer w)).parts ≡ true
  has_the_part p has epoch = by (now epoch).stage
    where
      by : HasSentNothing (more ++ others) w made first last c ⊎ HasBegun setup journal (more ++ others) w e made first last c → has_part p (tx_of (s.producer w)).parts ≡ true
      by (inl n) = absurd (true≢false (sym has ∙ ap (λ (x : Contents). x.parts p) n.contents))
      by (inr b) = (building_is setup journal (more ++ others) w e made first last c net history b).parts p ∙ has

  is_undecided : (t : TaskId) (p : Pending) → c.pending t ≡ Some p → (s.producer w).epoch ≡ e → (s.producer w).undecided ≢ None
  is_undecided t p has epoch = by (now epoch).stage
    where
      nothing : c ≡ no_contents → ⊥
      nothing same = let there : Some p ≡ None = sym has ∙ ap (λ (x : Contents). x.pending t) same in absurd cc

      by : HasSentNothing (more ++ others) w made first last c ⊎ HasBegun setup journal (more ++ others) w e made first last c → (s.producer w).undecided ≢ None
      by (inl n) = absurd (nothing n.contents)
      by (inr b) = no_pending (s.producer w) t p ((building_is setup journal (more ++ others) w e made first last c net history b).pending t ∙ has)

  appended : (number : ℕ) (t : TaskId) (p : PartId) (rs : List Rec) → c.parts p ≡ true → number ≡ count_sent w e (s.partition p) → refusal setup s (Append w e number t p rs) ≡ Some r → Answer
  appended number t p rs has same refused = by (fence_or (s.producer w) e _ r refused)
    where
      by : IsFencing r ⊎ ((s.producer w).epoch ≡ e) → Answer
      by (inl f) = inl f
      by (inr epoch) = inl (append_refused setup s w e number t p rs r refused (has_the_part p has epoch) same)

  decided : (commit : Bool) (t : TaskId) (p : Pending) → c.pending t ≡ Some p → refusal setup s (Decide w e commit) ≡ Some r → Answer
  decided commit t p has refused = by (fence_or (s.producer w) e _ r refused)
    where
      by : IsFencing r ⊎ ((s.producer w).epoch ≡ e) → Answer
      by (inl f) = inl f
      by (inr epoch) = inl (decide_refused setup s w e commit r refused (is_undecided t p has epoch))

  refused_request : (g : ℕ) (request : Request) → carries w e g request ≡ true → IsPrepared s c request → refusal setup s request ≡ Some r → Answer
  refused_request g (Add v d p) carried ready refused =
      let h = both_true (v == w) (d == e) carried in
      fenced_or_waited (add_refused setup s w e p r (subst (λ v. refusal setup s (Add v e p) ≡ Some r) (eqb-true v w h.0) (subst (λ d. refusal setup s (Add v d p) ≡ Some r) (eqb-true d e h.1) refused)))
  refused_request g (Append v d number t p rs) carried ready refused =
      let h = both_true (v == w) (d == e) carried in
      appended number t p rs ready.0
      (subst (λ v. number ≡ count_sent v e (s.partition p)) (eqb-true v w h.0) (subst (λ d. number ≡ count_sent v d (s.partition p)) (eqb-true d e h.1) ready.1))
      (subst (λ v. refusal setup s (Append v e number t p rs) ≡ Some r) (eqb-true v w h.0) (subst (λ d. refusal setup s (Append v d number t p rs) ≡ Some r) (eqb-true d e h.1) refused))
  refused_request g (SendOffsets v d n t offsets order late) carried ready refused =
      let h = both_true (v == w) ((d == e) && (n == g)) carried in
      let d_is : d ≡ e = eqb-true d e (both_true (d == e) (n == g) h.1).0 in
      fenced_or_waited (offsets_refused setup s w e n t offsets order late r
      (subst (λ v. refusal setup s (SendOffsets v e n t offsets order late) ≡ Some r) (eqb-true v w h.0) (subst (λ d. refusal setup s (SendOffsets v d n t offsets order late) ≡ Some r) d_is refused))
      (λ same. subst (λ v. IsAssigned s v n t) (eqb-true v w h.0) (ready same)))
  refused_request g (Decide v d commit) carried ready refused =
      let h = both_true (v == w) (d == e) carried in
      decided commit ready.0 ready.1 ready.2
      (subst (λ v. refusal setup s (Decide v e commit) ≡ Some r) (eqb-true v w h.0) (subst (λ d. refusal setup s (Decide v d commit) ≡ Some r) (eqb-true d e h.1) refused))
  refused_request g (Produce p rec) carried ready refused = absurd ready
  refused_request g (Init v) carried ready refused = absurd ready
  refused_request g (MarkNext v) carried ready refused = absurd ready
  refused_request g (Join v) carried ready refused = absurd ready
  refused_request g (Expire v) carried ready refused = absurd ready
  refused_request g (Hold v held) carried ready refused = absurd ready
  refused_request g (Probe v h) carried ready refused = absurd ready
  refused_request g (Assign v h a) carried ready refused = absurd ready
  refused_request g (Park instance t) carried ready refused = absurd ready
  refused_request g (Unpark instance t) carried ready refused = absurd ready

pub sending_refused : SendingRefused
sending_refused setup journal more others request r w e g made first last c net history none past carried is ready refused k =
    refused_request setup journal more others w e made first last c r net history none past is k g request carried ready refused

-- ---- the decision
pub sending_is_faithful : SendingIsFaithful
sending_is_faithful setup journal more w e g made first last c net history seen none k holds active same = by k.stage
  where
    by : HasSentNothing more w made first last c ⊎ HasBegun setup journal more w e made first last c → CommitsFaithfully setup (at setup (journal ++ more)) (Decide w e true)
    by (inl n) = λ free tx some. absurd (undecided_none ((at setup (journal ++ more)).producer w) tx (idle_stays setup journal more w history n.quiet none) some)
    by (inr b) =
        let there : (journal ++ b.others) ++ b.rest ≡ journal ++ more = begun_journal setup journal more w e made first last c b in
        let whole : IsHistory setup ((journal ++ b.others) ++ b.rest) = subst (IsHistory setup) (sym there) history in
        let front : IsHistory setup (journal ++ b.others) = history_front setup (journal ++ b.others) ((journal ++ b.others) ++ b.rest) (b.rest, refl) whole in
        let last_generation : (at setup ((journal ++ b.others) ++ b.rest)).generation ≡ g = ap (λ (l : List Entry). (at setup l).generation) there ∙ same in
        let first_generation : (at setup (journal ++ b.others)).generation ≡ g =
        omega (arith, seen.generation, last_generation, (journal_rises setup journal b.others).generation, (journal_rises setup (journal ++ b.others) b.rest).generation) in
        let place : touched w (journal ++ b.others) ≡ first = untouched_stays w journal b.others b.quiet ∙ k.was in
        let kept : (t : TaskId) (p : Pending) → c.pending t ≡ Some p → NoCommit setup (at setup (journal ++ b.others)) b.rest t = λ t p is.
        let v = active t p is in
        let there_active : IsActive setup (journal ++ b.others) w g first v.0 = active_stays setup journal b.others w g first v.0 net front seen v.2 in
        let mine : IsAssigned (at setup (journal ++ b.others)) w g t = subst (IsAssigned (at setup (journal ++ b.others)) w g) v.1 (there_active.assigned first_generation place) in
        (b.advances.assigned g t mine last_generation).1 in
        subst (λ (l : List Entry). CommitsFaithfully setup (at setup l) (Decide w e true)) there
        (building_faithful setup (journal ++ b.others) b.rest w e c net whole
        (subst (λ (l : List Entry). IsBuilding (at setup (journal ++ b.others)) (at setup l) w e c) (sym there) (building_is setup journal more w e made first last c net history b))
        (subst (λ (l : List Entry). HoldsWork setup (at setup l) c) (sym there) holds) kept)

pub sending_commits : SendingCommits
sending_commits setup journal more others w e made first last c t net history none is free k =
    by (others_come setup journal more others w e made first last c net history is epoch k).stage
  where
    s : State
    s = at setup (journal ++ (more ++ others))

    epoch : (s.producer w).epoch ≡ e
    epoch = sym (not_fenced (s.producer w) e (both_none (fenced (s.producer w) e) (none_undecided (s.producer w)) free).0)

    by : HasSentNothing (more ++ others) w made first last c ⊎ HasBegun setup journal (more ++ others) w e made first last c → pending_of t (pending_at (s.producer w)) ≡ c.pending t
    by (inl n) =
        let tx = some_undecided (s.producer w) e free in
        absurd (undecided_none (s.producer w) tx.0 (idle_stays setup journal (more ++ others) w history n.quiet none) tx.1)
    by (inr b) = (building_is setup journal (more ++ others) w e made first last c net history b).pending t
