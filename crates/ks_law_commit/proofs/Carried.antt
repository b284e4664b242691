-- A worker's requests and the entries of others, stretch by stretch.
use Rattle.std.proofs.Common.{◌≡◌, ℕ, ◌+◌, ◌&&◌, Bool, true, false, not, List, [], ◌∷◌, ◌++◌, Option, Some, None, refl, sym, ap, subst, ◌∙◌, arith, append_assoc}
use Rattle.std.proofs.lemmas.Bool.{eqb-true, true≢false}
use Rattle.ks_record.specs.declared.record.TaskId.{TaskId}
use Rattle.ks_record.specs.declared.assignment.Refused.{Refused}
use Rattle.ks_history.specs.declared.journal.Entry.{Entry}
use Rattle.ks_history.specs.declared.journal.Request.{Request}
use Rattle.ks_history.specs.declared.journal.Request.TheVariants.{Produce, Init, Add, Append, SendOffsets, Decide, MarkNext, Join, Expire, Hold, Probe, Assign, Park, Unpark}
use Rattle.ks_history.specs.State.{State, Setup, start}
use Rattle.ks_history.specs.Step.{refusal, effect, state_by, reply_by, fenced, without_part, out_of_sequence, or_else}
use Rattle.ks_history.specs.History.{state_after, at, IsStep}
use Rattle.ks_history.specs.Touched.{is_of, is_refused, touches, touched}
use Rattle.ks_history.proofs.Histories.{state_after-append}
use Rattle.ks_history.proofs.Touching.{untouched_stays}
use Rattle.ks_law_exactly_once.proofs.Refusals.{both_none, not_fenced}
use Rattle.ks_law_restore.specs.Commits.{commits_for, NoCommit}
use Rattle.ks_law_restore.proofs.Lasting.{Each-back}
use Rattle.ks_law_sharing.specs.Tasks.{IsAssigned, IsActive, HasSeen}
use Rattle.ks_law_sharing.proofs.Rising.{journal_rises}
use Rattle.ks_law_sharing.proofs.Touching.{seen_stays}
use Rattle.ks_law_sharing.proofs.Assigned.{assigned_stays, active_stays}
use Rattle.ks_law_sharing.proofs.Restoring.{commits-append}
use Rattle.ks_law_commit.specs.Building.{Contents, IsBuilding, adds_to}
use Rattle.ks_law_commit.specs.Accounts.{is_of_commit, IsAccount}
use Rattle.ks_law_commit.specs.Advancing.{added_by, OthersAdvance, RequestAdvances, BothAdvance}
use Rattle.ks_law_commit.proofs.Built.{building_stays, add_builds, append_builds, offsets_build}
use Rattle.ks_law_commit.proofs.Undecided.{active_builds, assigned_builds}
use Rattle.ks_law_commit.proofs.Counted.{account_stays, account_gains}

-- ---- others
pub others_advance : OthersAdvance
others_advance setup journal more w e last net history quiet was epoch = record {
  place = untouched_stays w journal more quiet ∙ was;
  seen = λ g h. seen_stays setup journal more w g last h;
  building = λ first c built. building_stays setup first journal more w e c history quiet epoch built;
  active = λ g v h is. active_stays setup journal more w g last v net history h is;
  assigned = λ g t is same. assigned_stays setup journal more w g t history quiet is same;
  account = λ base front n is a. subst (λ k. IsAccount w base (front ++ more) k last) (omega arith) (account_stays w last n base front more a);
}

-- ---- an accepted request
accepted : (setup : Setup) (s : State) (w : ℕ) (entry : Entry) → IsStep setup s entry → touches w entry ≡ true → refusal setup s entry.request ≡ None
accepted setup s w entry step h = by (refusal setup s entry.request) refl
  where
    never : (b : Bool) → b && false ≡ true → ⊥
    never true e = true≢false (sym e)
    never false e = true≢false (sym e)

    by : (r : Option Refused) → refusal setup s entry.request ≡ r → refusal setup s entry.request ≡ None
    by None is = is
    by (Some refused) is = absurd (never (is_of w entry.request) (ap (λ reply. is_of w entry.request && not (is_refused reply)) (sym (step.reply ∙ ap (reply_by s entry.request) is)) ∙ h))

-- such a request is one of a commit
of_commit : (w : ℕ) (request : Request) → adds_to w request ≡ true → is_of_commit w request ≡ true
of_commit w (Add v e p) is = is
of_commit w (Append v e number t p rs) is = is
of_commit w (SendOffsets v e g t offsets order late) is = is
of_commit w (Produce p rec) is = absurd (true≢false (sym is))
of_commit w (Init v) is = absurd (true≢false (sym is))
of_commit w (Decide v e commit) is = absurd (true≢false (sym is))
of_commit w (MarkNext v) is = absurd (true≢false (sym is))
of_commit w (Join v) is = absurd (true≢false (sym is))
of_commit w (Expire v) is = absurd (true≢false (sym is))
of_commit w (Hold v held) is = absurd (true≢false (sym is))
of_commit w (Probe v g) is = absurd (true≢false (sym is))
of_commit w (Assign v g a) is = absurd (true≢false (sym is))
of_commit w (Park instance t) is = absurd (true≢false (sym is))
of_commit w (Unpark instance t) is = absurd (true≢false (sym is))

builds : (setup : Setup) (first s : State) (w e : ℕ) (request : Request) (c : Contents) → adds_to w request ≡ true → refusal setup s request ≡ None → IsBuilding first s w e c → IsBuilding first (effect s request) w e (added_by request c)
builds setup first s w e (Add v d p) c is free built = subst (λ k. IsBuilding first (effect s (Add k d p)) w e (added_by (Add k d p) c)) (sym (eqb-true v w is)) (add_builds first s w e p c built)
builds setup first s w e (Append v d number t p rs) c is free built =
    let same : v ≡ w = eqb-true v w is in
    let epoch : d ≡ (s.producer v).epoch = not_fenced (s.producer v) d (both_none (fenced (s.producer v) d) (or_else (without_part (s.producer v) p) (out_of_sequence (s.partition p) v d number)) free).0 in
    let here : d ≡ e = epoch ∙ ap (λ k. (s.producer k).epoch) same ∙ built.epoch in
    subst (λ k. IsBuilding first (effect s (Append k d number t p rs)) w e (added_by (Append k d number t p rs) c)) (sym same)
    (subst (λ d. IsBuilding first (effect s (Append w d number t p rs)) w e (added_by (Append w d number t p rs) c)) (sym here) (append_builds first s w e number t p rs c built))
builds setup first s w e (SendOffsets v d g t offsets order late) c is free built =
    subst (λ k. IsBuilding first (effect s (SendOffsets k d g t offsets order late)) w e (added_by (SendOffsets k d g t offsets order late) c)) (sym (eqb-true v w is)) (offsets_build first s w e g t offsets order late c built)
builds setup first s w e (Produce p rec) c is free built = absurd (true≢false (sym is))
builds setup first s w e (Init v) c is free built = absurd (true≢false (sym is))
builds setup first s w e (Decide v d commit) c is free built = absurd (true≢false (sym is))
builds setup first s w e (MarkNext v) c is free built = absurd (true≢false (sym is))
builds setup first s w e (Join v) c is free built = absurd (true≢false (sym is))
builds setup first s w e (Expire v) c is free built = absurd (true≢false (sym is))
builds setup first s w e (Hold v held) c is free built = absurd (true≢false (sym is))
builds setup first s w e (Probe v g) c is free built = absurd (true≢false (sym is))
builds setup first s w e (Assign v g a) c is free built = absurd (true≢false (sym is))
builds setup first s w e (Park instance t) c is free built = absurd (true≢false (sym is))
builds setup first s w e (Unpark instance t) c is free built = absurd (true≢false (sym is))

pub request_advances : RequestAdvances
request_advances setup journal entry w e last net history adds taken was =
    let s : State = at setup journal in
    let step : IsStep setup s entry = (Each-back IsStep setup start journal (entry ∷ []) history.legal).0 in
    let free : refusal setup s entry.request ≡ None = accepted setup s w entry step taken in
    let there : at setup (journal ++ entry ∷ []) ≡ effect s entry.request = state_after-append setup start journal (entry ∷ []) ∙ ap (state_by s entry.request) free in
    record {
      place = refl;
      seen = λ g h. record { generation = (seen_stays setup journal (entry ∷ []) w g last h).generation; place = omega arith };
      building = λ first c built. subst (λ (k : State). IsBuilding first k w e (added_by entry.request c)) (sym there) (builds setup first s w e entry.request c adds free built);
      active = λ g v h is. (active_builds setup journal entry w g last v net history adds was is).0;
      assigned = λ g t is same. assigned_builds setup journal entry w g t adds is;
      account = λ base front n is a.
          let whole : base ++ (front ++ entry ∷ []) ≡ journal ++ entry ∷ [] = sym (append_assoc base front (entry ∷ [])) ∙ ap (λ l. l ++ entry ∷ []) (sym is) in
          subst (λ l. IsAccount w base (front ++ entry ∷ []) (n + 1) (touched w l)) whole (account_gains w last n base front entry (of_commit w entry.request adds) taken a);
    }

-- ---- one stretch behind another
pub both_advance : BothAdvance
both_advance setup journal more others w e m n first mid last puts then_puts a b =
    let assoc : (journal ++ more) ++ others ≡ journal ++ (more ++ others) = append_assoc journal more others in
    record {
      place = ap (touched w) (sym assoc) ∙ b.place;
      seen = λ g h. subst (λ (l : List Entry). HasSeen setup l w g last) assoc (b.seen g (a.seen g h));
      building = λ from c built. subst (λ (l : List Entry). IsBuilding from (at setup l) w e (then_puts (puts c))) assoc (b.building from (puts c) (a.building from c built));
      active = λ g v h is. subst (λ (l : List Entry). IsActive setup l w g last v) assoc (b.active g v (a.seen g h) (a.active g v h is));
      assigned = λ g t is same. assigned g t is (ap (λ (l : List Entry). (at setup l).generation) assoc ∙ same);
      account = λ base front k is acc.
          let two = b.account base (front ++ more) (k + m) (ap (λ l. l ++ more) is ∙ append_assoc base front more) (a.account base front k is acc) in
          subst (λ l. IsAccount w base l (k + (m + n)) last) (append_assoc front more others) (subst (λ i. IsAccount w base ((front ++ more) ++ others) i last) (omega arith) two);
    }
  where
    assigned : (g : ℕ) (t : TaskId) → IsAssigned (at setup journal) w g t → (at setup ((journal ++ more) ++ others)).generation ≡ g
        → IsAssigned (at setup (journal ++ (more ++ others))) w g t × NoCommit setup (at setup journal) (more ++ others) t
    assigned g t is same =
        let middle : (at setup (journal ++ more)).generation ≡ g = omega (arith, is.generation, same, (journal_rises setup journal more).generation, (journal_rises setup (journal ++ more) others).generation) in
        let one = a.assigned g t is middle in
        let two = b.assigned g t one.0 same in (
          subst (λ (l : List Entry). IsAssigned (at setup l) w g t) (append_assoc journal more others) two.0,
          commits-append setup (at setup journal) more others t
              ∙ ap (λ l. l ++ commits_for setup (state_after setup (at setup journal) more) others t) one.1
              ∙ ap (λ (k : State). commits_for setup k others t) (sym (state_after-append setup start journal more)) ∙ two.1,
        )
