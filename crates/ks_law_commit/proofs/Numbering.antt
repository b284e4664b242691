-- What a worker remembers of its producer, from one commit to the next.
use Rattle.std.proofs.Common.{◌≡◌, ◌≢◌, ℕ, ◌+◌, ◌≤◌, Bool, true, false, cond, List, [], ◌∷◌, ◌++◌, Option, Some, None, refl, sym, ap, subst, ◌∙◌, arith, append_assoc}
use Rattle.std.specs.Prelude.{◌==◌}
use Rattle.std.proofs.lemmas.Bool.{eq-eqb, eqb-true}
use Rattle.ks_record.specs.declared.record.PartId.{PartId}
use Rattle.ks_record.specs.declared.assignment.Refused.{Refused}
use Rattle.ks_record.specs.declared.assignment.Refused.TheVariants.{Fenced, NoTransaction, AlreadyDecided}
use Rattle.ks_history.specs.declared.journal.Entry.{Entry}
use Rattle.ks_history.specs.declared.journal.Request.TheVariants.{Init, Decide}
use Rattle.ks_history.specs.declared.journal.Reply.TheVariants.{Number, Refused as Refuse}
use Rattle.ks_history.specs.declared.transaction.Producer.{Producer}
use Rattle.ks_history.specs.declared.transaction.Transaction.{Transaction}
use Rattle.ks_history.specs.Partition.{count_sent}
use Rattle.ks_history.specs.State.{State, Setup, start}
use Rattle.ks_history.specs.Step.{refusal, reply_by, state_by, effect, or_else, fenced, none_undecided, closed, renewed}
use Rattle.ks_history.specs.History.{at, IsHistory}
use Rattle.ks_history.specs.Touched.{touched, untouched}
use Rattle.ks_history.proofs.Histories.{state_after-append, history_front}
use Rattle.ks_law_exactly_once.proofs.Refusals.{closed_undecided}
use Rattle.ks_law_sharing.proofs.Rising.{epoch_rises, closed_epoch}
use Rattle.ks_law_sharing.proofs.Touching.{touched_grows, same_touched}
use Rattle.ks_law_sharing.proofs.Leaving.{count_stays, idle_stays}
use Rattle.ks_law_commit.specs.Producers.{IsRemembered, init_entry, decided_entry, refused_entry, NothingIsRemembered, RememberedStays, CountsStay, InitIsRemembered, DecisionIsRemembered, RefusalIsRemembered}
use Rattle.ks_law_commit.proofs.Keeping.{last_step, free_decision, epoch_of}

-- ---- whatever is written
pub nothing_is_remembered : NothingIsRemembered
nothing_is_remembered setup journal w history = record {
  past = omega arith;
  idle = λ none. idle_stays setup [] journal w history (same_touched w [] journal none) refl;
  numbered = λ none q. sym (count_stays setup [] journal w 0 q history (same_touched w [] journal none));
}

-- the place stands, so it stood, and nobody used the number between
module _ (w last : ℕ) (journal more : List Entry) (past : last ≤ touched w journal) (still : touched w (journal ++ more) ≡ last) where
  stood : touched w journal ≡ last
  stood = omega (arith, past, still, touched_grows w journal more)

  quiet : untouched w more ≡ true
  quiet = same_touched w journal more (still ∙ sym stood)

pub counts_stay : CountsStay
counts_stay setup journal more w e last counts history past numbered still q =
    numbered (stood w last journal more past still) q ∙ sym (count_stays setup journal more w e q history (quiet w last journal more past still))

pub remembered_stays : RememberedStays
remembered_stays setup journal more w e last counts history past is = record {
  past = omega (arith, is.past, epoch_rises setup journal more w);
  idle = λ still. idle_stays setup journal more w history (quiet w last journal more past still) (is.idle (stood w last journal more past still));
  numbered = counts_stay setup journal more w e last counts history past is.numbered;
}

-- ---- an entry of the worker's own
own_producer : (s : State) (w : ℕ) (p : Producer) → cond (w == w) p (s.producer w) ≡ p
own_producer s w p = ap (λ b. cond b p (s.producer w)) (eq-eqb w w refl)

same_number : (m n : ℕ) → Number m ≡ Number n → m ≡ n
same_number m n is = cc

pub init_is_remembered : InitIsRemembered
init_is_remembered setup journal w e history none =
    let s : State = at setup journal in
    let epoch : e ≡ (s.producer w).epoch + 1 = same_number e ((s.producer w).epoch + 1) (last_step setup journal (init_entry w e) history).reply in
    let there : at setup (journal ++ init_entry w e ∷ []) ≡ effect s (Init w) = state_after-append setup start journal (init_entry w e ∷ []) in
    let now : (at setup (journal ++ init_entry w e ∷ [])).producer w ≡ renewed (s.producer w) = ap (λ (n : State). n.producer w) there ∙ own_producer s w (renewed (s.producer w)) in
    record {
      past = omega (arith, epoch, ap (λ (p : Producer). p.epoch) now);
      idle = λ still. ap (λ (p : Producer). p.undecided) now ∙ closed_undecided (s.producer w) false;
      numbered = λ still q. sym (ap (λ (n : State). count_sent w e (n.partition q)) there ∙ ap (λ k. count_sent w k (s.partition q)) epoch ∙ none q);
    }

decided : (setup : Setup) (journal : List Entry) (w e : ℕ) (commit : Bool) (counts : PartId → ℕ) → IsHistory setup (journal ++ decided_entry w e commit ∷ []) →
    ((q : PartId) → counts q ≡ count_sent w e ((at setup journal).partition q)) →
    IsRemembered setup (journal ++ decided_entry w e commit ∷ []) w e (touched w (journal ++ decided_entry w e commit ∷ [])) counts
decided setup journal w e commit counts history numbered =
    let s : State = at setup journal in
    let free : refusal setup s (Decide w e commit) ≡ None = free_decision setup journal w e commit history in
    let there : at setup (journal ++ decided_entry w e commit ∷ []) ≡ effect s (Decide w e commit) =
    state_after-append setup start journal (decided_entry w e commit ∷ []) ∙ ap (state_by s (Decide w e commit)) free in
    let now : (at setup (journal ++ decided_entry w e commit ∷ [])).producer w ≡ closed (s.producer w) commit = ap (λ (n : State). n.producer w) there ∙ own_producer s w (closed (s.producer w) commit) in
    record {
      past = omega (arith, epoch_of setup s w e commit free, ap (λ (p : Producer). p.epoch) now, closed_epoch (s.producer w) commit);
      idle = λ still. ap (λ (p : Producer). p.undecided) now ∙ closed_undecided (s.producer w) commit;
      numbered = λ still q. numbered q ∙ sym (ap (λ (n : State). count_sent w e (n.partition q)) there);
    }

pub decision_is_remembered : DecisionIsRemembered
decision_is_remembered setup journal others w e last commit counts history past is numbered =
    let now_is : (journal ++ others) ++ decided_entry w e commit ∷ [] ≡ journal ++ (others ++ decided_entry w e commit ∷ []) = append_assoc journal others (decided_entry w e commit ∷ []) in
    let whole : IsHistory setup ((journal ++ others) ++ decided_entry w e commit ∷ []) = subst (IsHistory setup) (sym now_is) history in
    let early : IsHistory setup (journal ++ others) = history_front setup (journal ++ others) ((journal ++ others) ++ decided_entry w e commit ∷ []) (decided_entry w e commit ∷ [], refl) whole in
    subst (λ (l : List Entry). IsRemembered setup l w e (touched w l) counts) now_is
    (decided setup (journal ++ others) w e commit counts whole (counts_stay setup journal others w e last counts early past numbered is))

-- ---- a refusal
refused_by : (s : State) (w e : ℕ) (commit : Bool) (r : Refused) (o : Option Refused) → Refuse r ≡ reply_by s (Decide w e commit) o → o ≡ Some r
refused_by s w e commit r None is = absurd cc
refused_by s w e commit r (Some x) is = cc

some_same : (x y : Refused) → Some x ≡ Some y → x ≡ y
some_same x y e = cc

-- a decision that isn't fenced is refused since nothing is undecided
was_idle : (p : Producer) (e : ℕ) (r : Refused) → or_else (fenced p e) (none_undecided p) ≡ Some r → ((epoch : ℕ) → r ≢ Fenced epoch) → (p.undecided ≡ None) × (e ≡ p.epoch)
was_idle p e r is other = by (e == p.epoch) refl is
  where
    idle : (u : Option Transaction) → (elim u as (λ _. Option Refused) [ Some tx ↦ None | None ↦ elim p.last as (λ _. Option Refused) [ None ↦ Some NoTransaction | Some commit ↦ Some (AlreadyDecided commit) ] ]) ≡ Some r → u ≡ None
    idle None h = refl
    idle (Some tx) h = absurd cc

    by : (b : Bool) → (e == p.epoch) ≡ b → or_else (cond b None (Some (Fenced p.epoch))) (none_undecided p) ≡ Some r → (p.undecided ≡ None) × (e ≡ p.epoch)
    by true h g = (idle p.undecided g, eqb-true e p.epoch h)
    by false h g = absurd (other p.epoch (sym (some_same (Fenced p.epoch) r g)))

pub refusal_is_remembered : RefusalIsRemembered
refusal_is_remembered setup journal others w e last commit r counts history past other numbered =
    let entry : Entry = refused_entry w e commit r in
    let now_is : (journal ++ others) ++ entry ∷ [] ≡ journal ++ (others ++ entry ∷ []) = append_assoc journal others (entry ∷ []) in
    let whole : IsHistory setup ((journal ++ others) ++ entry ∷ []) = subst (IsHistory setup) (sym now_is) history in
    let s : State = at setup (journal ++ others) in
    let turned : refusal setup s (Decide w e commit) ≡ Some r = refused_by s w e commit r (refusal setup s (Decide w e commit)) (last_step setup (journal ++ others) entry whole).reply in
    let idle = was_idle (s.producer w) e r turned other in
    let there : at setup ((journal ++ others) ++ entry ∷ []) ≡ s = state_after-append setup start (journal ++ others) (entry ∷ []) ∙ ap (state_by s (Decide w e commit)) turned in
    let now : at setup (journal ++ (others ++ entry ∷ [])) ≡ s = ap (at setup) (sym now_is) ∙ there in
    record {
      past = omega (arith, idle.1, ap (λ (n : State). (n.producer w).epoch) now);
      idle = λ still. ap (λ (n : State). (n.producer w).undecided) now ∙ idle.0;
      numbered = counts_stay setup journal (others ++ entry ∷ []) w e last counts history past numbered;
    }
