-- What no request but a commit changes.
use Rattle.std.proofs.Common.{◌≡◌, ◌≢◌, ℕ, ◌≤◌, ◌<◌, Bool, true, false, cond, ◌&&◌, ◌⊎◌, inl, inr, List, [], ◌∷◌, ◌++◌, length, Option, Some, None, refl, sym, ap, ap₂, subst, ◌∙◌, arith, append-nil, ⊎_elim}
use Rattle.std.specs.Prelude.{◌==◌}
use Rattle.std.proofs.lemmas.Bool.{and_from, eqb-true, eq-eqb, true≢false, or_cases, or_left, or_right, ne_eqb}
use Rattle.ks_record.specs.Records.{Record as Rec}
use Rattle.ks_record.specs.declared.record.PartId.{PartId}
use Rattle.ks_record.specs.declared.record.TaskId.{TaskId}
use Rattle.ks_record.specs.declared.assignment.Marker.{Marker}
use Rattle.ks_record.specs.declared.assignment.Refused.{Refused}
use Rattle.ks_record.specs.declared.assignment.Refused.TheVariants.{MarkersWaiting}
use Rattle.ks_def_runs.specs.Bytes.{empty_store}
use Rattle.ks_record.specs.Parts.{same_part, same_task, part_lt}
use Rattle.ks_history.specs.declared.partition.Slot.{Slot}
use Rattle.ks_history.specs.declared.partition.Slot.TheVariants.{Plain, Mark}
use Rattle.ks_history.specs.declared.transaction.Pending.{Pending}
use Rattle.ks_history.specs.declared.transaction.Transaction.{Transaction}
use Rattle.ks_history.specs.declared.transaction.Producer.{Producer}
use Rattle.ks_def_runs.specs.Run.{RunState, fed, of_input, same_sender}
use Rattle.ks_history.specs.Faithful.{decided, marker_among, waiting_at, markers_of}
use Rattle.ks_history.specs.Machine.{Stores, network, reader_of, part_of, latest, has_topic, IsNetwork}
use Rattle.ks_history.specs.Partition.{Logged, stable, recs, by_sender, past_from, is_commit, decision, next_mark, decided_from}
use Rattle.ks_history.specs.State.{State, Setup, start, with_number, grown, insert_part, has_part, has_task}
use Rattle.ks_history.specs.Step.{markers_for, pending_at, tx_of, no_tx, markers_waiting}
use Rattle.ks_history.proofs.Histories.{stable-le}
use Rattle.ks_history.proofs.Names.{same_part-is}
use Rattle.ks_law_exactly_once.proofs.Commits.{marker_among-markers_for}
use Rattle.ks_law_exactly_once.proofs.Slots.{decided-append, decided-same, stable-append, Open-map, Open-append, past_from-append, by_sender-append, recs-append, past_all}
use Rattle.ks_law_exactly_once.proofs.Sound.{Open, Shows, IsOfTx, Owned, Distinct, Sound}

-- a state in which as much is decided and committed as before
pub record Quiet (s new : State) : Type 0 where
  pub decided_same : (q : PartId) → decided new q ≡ decided s q
  pub committed_same : (t : TaskId) (topic : ℕ) → new.committed t topic ≡ s.committed t topic
  pub late_same : new.late ≡ s.late
  pub stable_grows : (q : PartId) → stable (s.partition q) ≤ stable (new.partition q)
  pub markers : (w : ℕ) (tx : Transaction) → (new.producer w).undecided ≡ Some tx → (new.producer w).waiting ≡ []
  pub owned : (q : PartId) → Open (Owned new.producer q) (new.partition q)
  pub distinct : (w : ℕ) → Distinct (pending_at (new.producer w))

pub quiet_shows : (setup : Setup) (s new : State) (st : RunState TaskId PartId Stores Rec) → Quiet s new → Shows setup s st → Shows setup new st
quiet_shows setup s new st quiet shows = record {
  lists = λ r q. shows.lists r q ∙ ap₂ (λ c (d : List Logged). recs (by_sender r (past_from c d))) (sym (quiet.committed_same (reader_of setup.plan q) q.topic)) (sym (quiet.decided_same q));
  stores = λ t. shows.stores t ∙ sym (λ i topic. cond (has_topic topic (setup.plan.changelogs t.sub)) (latest (recs (quiet.decided_same (part_of topic t) i))) empty_store);
  late = quiet.late_same ∙ shows.late;
  given = λ r q. shows.given r q ∙ ap (λ (d : List Logged). recs (by_sender r d)) (sym (quiet.decided_same q));
}

pub quiet_sound : (setup : Setup) (s new : State) → Quiet s new → Sound setup s → Sound setup new
quiet_sound setup s new quiet sound = record {
  markers = quiet.markers;
  owned = quiet.owned;
  committed = λ t topic. omega (arith, quiet.committed_same t topic, sound.committed t topic, quiet.stable_grows (part_of topic t));
  distinct = quiet.distinct;
  alone = λ t topic r h ne. ap (by_sender r) (quiet.decided_same (part_of topic t)) ∙ sound.alone t topic r h ne;
}

-- ---- one producer in place of another
pub at_number : {A : Type 0} (g : Producer → A) (f : ℕ → Producer) (w : ℕ) (p : Producer) → g p ≡ g (f w) → (v : ℕ) → g (with_number f w p v) ≡ g (f v)
at_number g f w p e v = by (v == w) refl
  where
    by : (b : Bool) → (v == w) ≡ b → g (cond b p (f v)) ≡ g (f v)
    by true is = e ∙ ap (λ k. g (f k)) (sym (eqb-true v w is))
    by false is = refl

pub each_number : (P : ℕ → Producer → Type 0) (f : ℕ → Producer) (w : ℕ) (p : Producer) → P w p → ((v : ℕ) → P v (f v)) → (v : ℕ) → P v (with_number f w p v)
each_number P f w p here there v = by (v == w) refl
  where
    by : (b : Bool) → (v == w) ≡ b → P v (cond b p (f v))
    by true is = subst (λ k. P k p) (sym (eqb-true v w is)) here
    by false is = there v

-- what a producer that takes the place of another must keep
pub record Goes (old new : Producer) : Type 0 where
  pub commits : (q : PartId) (d : ℕ) → is_commit (marker_among q d new.waiting) ≡ is_commit (marker_among q d old.waiting)
  pub markers : (tx : Transaction) → new.undecided ≡ Some tx → new.waiting ≡ []
  pub owned : (q : PartId) (d : ℕ) (t : TaskId) → ((marker_among q d old.waiting ≢ None) ⊎ IsOfTx old q d t) → ((marker_among q d new.waiting ≢ None) ⊎ IsOfTx new q d t)
  pub distinct : Distinct (pending_at new)

pub owned_by : (f : ℕ → Producer) (w : ℕ) (p : Producer) → Goes (f w) p → (q : PartId) (v d : ℕ) (t : TaskId) → Owned f q v d t → Owned (with_number f w p) q v d t
owned_by f w p goes q v d t = each_number (λ k (x : Producer). ((marker_among q d (f k).waiting ≢ None) ⊎ IsOfTx (f k) q d t) → ((marker_among q d x.waiting ≢ None) ⊎ IsOfTx x q d t)) f w p (goes.owned q d t) (λ k h. h) v

pub producer_quiet : (setup : Setup) (s : State) (w : ℕ) (p : Producer) → Sound setup s → Goes (s.producer w) p → Quiet s (record s { producer = with_number s.producer w p })
producer_quiet setup s w p sound goes = record {
  decided_same = λ q. decided-same (waiting_at (markers_of (record s { producer = with_number s.producer w p })) q) (waiting_at (markers_of s) q)
      (λ v d. at_number (λ (x : Producer). is_commit (marker_among q d x.waiting)) s.producer w p (goes.commits q d) v) 0 (s.partition q);
  committed_same = λ t topic. refl;
  late_same = refl;
  stable_grows = λ q. omega arith;
  markers = λ v tx. each_number (λ k (x : Producer). x.undecided ≡ Some tx → x.waiting ≡ []) s.producer w p (goes.markers tx) (λ k h. sound.markers k tx h) v;
  owned = λ q. Open-map (Owned s.producer q) (Owned (with_number s.producer w p) q) (s.partition q) (owned_by s.producer w p goes q) (sound.owned q);
  distinct = each_number (λ k (x : Producer). Distinct (pending_at x)) s.producer w p goes.distinct sound.distinct;
}

-- ---- an abort
marker_among-append : (q : PartId) (d : ℕ) (xs ys : List Marker) → marker_among q d (xs ++ ys) ≡ decision (marker_among q d xs) (marker_among q d ys)
marker_among-append q d [] ys = refl
marker_among-append q d (m ∷ ms) ys = by (same_part q m.part && (d == m.epoch)) (marker_among-append q d ms ys)
  where
    by : (b : Bool) → marker_among q d (ms ++ ys) ≡ decision (marker_among q d ms) (marker_among q d ys) → cond b (Some m.commit) (marker_among q d (ms ++ ys)) ≡ decision (cond b (Some m.commit) (marker_among q d ms)) (marker_among q d ys)
    by true e = refl
    by false e = e

abort_adds : (a : Option Bool) (b : Bool) → is_commit (decision a (cond b (Some false) None)) ≡ is_commit a
abort_adds None true = refl
abort_adds None false = refl
abort_adds (Some c) b = refl

still_some : (a b : Option Bool) → a ≢ None → decision a b ≢ None
still_some None b ne = absurd (ne refl)
still_some (Some c) b ne = λ e. absurd cc

then_some : (a : Option Bool) (b : Bool) → decision a (Some b) ≢ None
then_some None b = λ e. absurd cc
then_some (Some c) b = λ e. absurd cc

abbrev pub aborted_waiting : Producer → Option Transaction → List Marker
aborted_waiting p None = p.waiting
aborted_waiting p (Some tx) = p.waiting ++ markers_for p.epoch false tx.parts

pub abort_goes : (p new : Producer) (u : Option Transaction) → p.undecided ≡ u → new.undecided ≡ None → new.waiting ≡ aborted_waiting p u → Goes p new
abort_goes p new None is none waiting = record {
  commits = λ q d. ap (λ l. is_commit (marker_among q d l)) waiting;
  markers = λ tx h. absurd cc;
  owned = λ q d t own. ⊎_elim (λ (ne : marker_among q d p.waiting ≢ None). inl (subst (λ l. marker_among q d l ≢ None) (sym waiting) ne)) (λ (o : IsOfTx p q d t). let h : p.undecided ≡ Some o.tx = o.undecided in absurd cc) own;
  distinct = subst Distinct (sym (ap (λ (u : Option Transaction). elim u as (λ _. List Pending) [ None ↦ [] | Some tx ↦ tx.pending ]) none)) tt;
}
abort_goes p new (Some tx) is none waiting = record {
  commits = λ q d. ap (λ l. is_commit (marker_among q d l)) waiting ∙ ap is_commit (marker_among-append q d p.waiting _ ∙ ap (decision (marker_among q d p.waiting)) (marker_among-markers_for q d p.epoch false tx.parts)) ∙ abort_adds (marker_among q d p.waiting) _;
  markers = λ tx h. absurd cc;
  owned = λ q d t own. inl (subst (λ l. marker_among q d l ≢ None) (sym waiting) (subst (λ o. o ≢ None) (sym (marker_among-append q d p.waiting (markers_for p.epoch false tx.parts)))
      (⊎_elim
      (λ (ne : marker_among q d p.waiting ≢ None). still_some (marker_among q d p.waiting) _ ne)
      (λ (o : IsOfTx p q d t).
      let same : o.tx ≡ tx = same_tx o.tx o.undecided in
      let there : has_part q tx.parts ≡ true = ap (λ (t : Transaction). has_part q t.parts) (sym same) ∙ o.part in
      let some : marker_among q d (markers_for p.epoch false tx.parts) ≡ Some false =
      marker_among-markers_for q d p.epoch false tx.parts ∙ ap (λ b. cond b (Some false) None) (and_from (has_part q tx.parts) (d == p.epoch) there (eq-eqb d p.epoch o.epoch)) in
      subst (λ x. decision (marker_among q d p.waiting) x ≢ None) (sym some) (then_some (marker_among q d p.waiting) false))
      own)));
  distinct = subst Distinct (sym (ap (λ (u : Option Transaction). elim u as (λ _. List Pending) [ None ↦ [] | Some tx ↦ tx.pending ]) none)) tt;
}
  where
    same_tx : (other : Transaction) → p.undecided ≡ Some other → other ≡ tx
    same_tx other h = cc

-- ---- a transaction that grows
pub has_part-insert : (q p : PartId) (parts : List PartId) → has_part q parts ≡ true → has_part q (insert_part p parts) ≡ true
has_part-insert q p [] h = absurd (true≢false (sym h))
has_part-insert q p (r ∷ rs) h = by (same_part p r) (part_lt p r) (λ g. has_part-insert q p rs g)
  where
    by : (a b : Bool) → (has_part q rs ≡ true → has_part q (insert_part p rs) ≡ true) →
        has_part q (cond a (r ∷ rs) (cond b (p ∷ r ∷ rs) (r ∷ insert_part p rs))) ≡ true
    by true b f = h
    by false true f = or_right (same_part q p) _ h
    by false false f = ⊎_elim (λ l. or_left (same_part q r) _ l) (λ g. or_right (same_part q r) _ (f g)) (or_cases (same_part q r) (has_part q rs) h)

pub tx_pending : (p : Producer) → pending_at p ≡ (tx_of p).pending
tx_pending p = by p.undecided
  where
    by : (u : Option Transaction) → (elim u as (λ _. List Pending) [ None ↦ [] | Some tx ↦ tx.pending ]) ≡ (elim u as (λ _. Transaction) [ None ↦ no_tx | Some tx ↦ tx ]).pending
    by None = refl
    by (Some tx) = refl

pub tx_is : (p : Producer) (tx : Transaction) → p.undecided ≡ Some tx → tx_of p ≡ tx
tx_is p tx is = ap (λ (u : Option Transaction). elim u as (λ _. Transaction) [ None ↦ no_tx | Some tx ↦ tx ]) is

pub none_waiting : (p : Producer) → ((tx : Transaction) → p.undecided ≡ Some tx → p.waiting ≡ []) → markers_waiting p ≡ None → p.waiting ≡ []
none_waiting p kept is = by p.undecided p.waiting refl refl is
  where
    by : (u : Option Transaction) (ms : List Marker) → p.undecided ≡ u → p.waiting ≡ ms
        → (elim u as (λ _. Option Refused) [ Some tx ↦ None | None ↦ elim ms as (λ _. Option Refused) [ [] ↦ None | m ∷ ms ↦ Some (MarkersWaiting (length (m ∷ ms))) ] ]) ≡ None → p.waiting ≡ []
    by (Some tx) ms a b h = kept tx a
    by None [] a b h = b
    by None (m ∷ ms) a b h = absurd cc

pub grow_goes : (p new : Producer) (tx : Transaction) → p.waiting ≡ [] → new.undecided ≡ Some tx → new.waiting ≡ p.waiting → new.epoch ≡ p.epoch
    → ((t : TaskId) → has_task t (tx_of p).tasks ≡ true → has_task t tx.tasks ≡ true) → ((q : PartId) → has_part q (tx_of p).parts ≡ true → has_part q tx.parts ≡ true)
    → Distinct tx.pending → Goes p new
grow_goes p new tx empty is waiting epoch tasks parts distinct = record {
  commits = λ q d. ap (λ l. is_commit (marker_among q d l)) waiting;
  markers = λ tx h. waiting ∙ empty;
  owned = λ q d t own. ⊎_elim
      (λ (ne : marker_among q d p.waiting ≢ None). absurd (ne (ap (marker_among q d) empty)))
      (λ (o : IsOfTx p q d t). inr (record {
        tx = tx;
        undecided = is;
        epoch = o.epoch ∙ sym epoch;
        task = tasks t (ap (λ (x : Transaction). has_task t x.tasks) (tx_is p o.tx o.undecided) ∙ o.task);
        part = parts q (ap (λ (x : Transaction). has_part q x.parts) (tx_is p o.tx o.undecided) ∙ o.part);
      }))
      own;
  distinct = subst Distinct (sym (ap (λ (u : Option Transaction). elim u as (λ _. List Pending) [ None ↦ [] | Some tx ↦ tx.pending ]) is)) distinct;
}

-- ---- slots that decide nothing
pub slots_quiet : (setup : Setup) (s : State) (p : PartId) (more : List Slot) → Sound setup s → ((v d : ℕ) → next_mark v d more ≡ None) → ((n : ℕ) → decided_from (waiting_at (markers_of s) p) n more ≡ [])
    → Open (Owned s.producer p) more → Quiet s (record s { partition = grown s.partition p more })
slots_quiet setup s p more sound none lost own = record {
  decided_same = λ q. by q (same_part q p) refl;
  committed_same = λ t topic. refl;
  late_same = refl;
  stable_grows = λ q. rises q (same_part q p);
  markers = sound.markers;
  owned = λ q. owned q (same_part q p) refl;
  distinct = sound.distinct;
}
  where
    by : (q : PartId) (b : Bool) → same_part q p ≡ b → decided_from (waiting_at (markers_of s) q) 0 (cond b (s.partition q ++ more) (s.partition q)) ≡ decided s q
    by q true is =
        decided-append (waiting_at (markers_of s) q) 0 (length (s.partition q)) (s.partition q) more (omega arith)
        ∙ ap₂ (λ a b. a ++ b)
        (ap (λ (m : ℕ → ℕ → Option Bool). decided_from m 0 (s.partition q)) (λ i v d. decision (none v d i) (waiting_at (markers_of s) q v d)))
        (ap (λ k. decided_from (waiting_at (markers_of s) k) (length (s.partition q)) more) (same_part-is q p is) ∙ lost (length (s.partition q)))
        ∙ append-nil (decided s q)
    by q false is = refl

    rises : (q : PartId) (b : Bool) → stable (s.partition q) ≤ stable (cond b (s.partition q ++ more) (s.partition q))
    rises q true = stable-append (s.partition q) more
    rises q false = omega arith

    owned : (q : PartId) (b : Bool) → same_part q p ≡ b → Open (Owned s.producer q) (cond b (s.partition q ++ more) (s.partition q))
    owned q true is = Open-append (Owned s.producer q) (s.partition q) more
        (Open-map (Owned s.producer q) (λ v d t. next_mark v d more ≡ None → Owned s.producer q v d t) (s.partition q) (λ v d t h g. h) (sound.owned q))
        (subst (λ k. Open (Owned s.producer k) more) (sym (same_part-is q p is)) own)
    owned q false is = sound.owned q

-- ---- a marker that is written
pub mark_quiet : (setup : Setup) (s : State) (w : ℕ) (m : Marker) (ms : List Marker) → Sound setup s → (s.producer w).waiting ≡ m ∷ ms →
    Quiet s (record s { partition = grown s.partition m.part (Mark w m.epoch m.commit ∷ []); producer = with_number s.producer w (record (s.producer w) { waiting = ms }) })
mark_quiet setup s w m ms sound is = record {
  decided_same = λ q. by q (same_part q m.part) refl;
  committed_same = λ t topic. refl;
  late_same = refl;
  stable_grows = λ q. rises q (same_part q m.part);
  markers = each_number (λ k (x : Producer). (tx : Transaction) → x.undecided ≡ Some tx → x.waiting ≡ []) s.producer w (record (s.producer w) { waiting = ms }) (λ tx h. absurd (filled tx h)) sound.markers;
  owned = λ q. owned q (same_part q m.part) refl;
  distinct = each_number (λ k (x : Producer). Distinct (pending_at x)) s.producer w (record (s.producer w) { waiting = ms }) (sound.distinct w) sound.distinct;
}
  where
    filled : (tx : Transaction) → (s.producer w).undecided ≡ Some tx → ⊥
    filled tx h = let e : m ∷ ms ≡ [] = sym is ∙ sound.markers w tx h in absurd cc

    -- elsewhere nothing changes
    among : (q : PartId) (d : ℕ) → same_part q m.part ≡ false → marker_among q d ms ≡ marker_among q d (s.producer w).waiting
    among q d h = ap (λ b. cond (b && (d == m.epoch)) (Some m.commit) (marker_among q d ms)) (sym h) ∙ ap (marker_among q d) (sym is)

    here : (q : PartId) (d : ℕ) → same_part q m.part ≡ true → marker_among q d (s.producer w).waiting ≡ cond (d == m.epoch) (Some m.commit) (marker_among q d ms)
    here q d h = ap (marker_among q d) is ∙ ap (λ b. cond (b && (d == m.epoch)) (Some m.commit) (marker_among q d ms)) h

    moved : (q : PartId) (v d : ℕ) → same_part q m.part ≡ true → decision (cond ((v == w) && (d == m.epoch)) (Some m.commit) None) (marker_among q d (with_number s.producer w (record (s.producer w) { waiting = ms }) v).waiting) ≡ marker_among q d (s.producer v).waiting
    moved q v d h = step (v == w) refl
      where
        pick : (c : Bool) (o : Option Bool) → decision (cond c (Some m.commit) None) o ≡ cond c (Some m.commit) o
        pick true o = refl
        pick false o = refl

        step : (b : Bool) → (v == w) ≡ b → decision (cond (b && (d == m.epoch)) (Some m.commit) None) (marker_among q d (cond b (record (s.producer w) { waiting = ms }) (s.producer v)).waiting) ≡ marker_among q d (s.producer v).waiting
        step true e = pick (d == m.epoch) (marker_among q d ms) ∙ sym (here q d h) ∙ ap (λ k. marker_among q d (s.producer k).waiting) (sym (eqb-true v w e))
        step false e = refl

    by : (q : PartId) (b : Bool) → same_part q m.part ≡ b →
        decided_from (waiting_at (λ v. (with_number s.producer w (record (s.producer w) { waiting = ms }) v).waiting) q) 0 (cond b (s.partition q ++ Mark w m.epoch m.commit ∷ []) (s.partition q)) ≡ decided s q
    by q true h =
        decided-append (waiting_at (λ v. (with_number s.producer w (record (s.producer w) { waiting = ms }) v).waiting) q) 0 (length (s.partition q)) (s.partition q) (Mark w m.epoch m.commit ∷ []) (omega arith)
        ∙ append-nil _
        ∙ ap (λ (x : ℕ → ℕ → Option Bool). decided_from x 0 (s.partition q)) (λ i v d. moved q v d h i)
    by q false h = ap (λ (x : ℕ → ℕ → Option Bool). decided_from x 0 (s.partition q))
        (λ i v d. at_number (λ (x : Producer). marker_among q d x.waiting) s.producer w (record (s.producer w) { waiting = ms }) (among q d h) v i)

    rises : (q : PartId) (b : Bool) → stable (s.partition q) ≤ stable (cond b (s.partition q ++ Mark w m.epoch m.commit ∷ []) (s.partition q))
    rises q true = stable-append (s.partition q) _
    rises q false = omega arith

    same_tx_waits : (q : PartId) (d : ℕ) (t : TaskId) → IsOfTx (s.producer w) q d t → ⊥
    same_tx_waits q d t o = filled o.tx o.undecided

    owned : (q : PartId) (b : Bool) → same_part q m.part ≡ b → Open (Owned (with_number s.producer w (record (s.producer w) { waiting = ms })) q) (cond b (s.partition q ++ Mark w m.epoch m.commit ∷ []) (s.partition q))
    owned q true h = Open-append (Owned (with_number s.producer w (record (s.producer w) { waiting = ms })) q) (s.partition q) (Mark w m.epoch m.commit ∷ [])
        (Open-map (Owned s.producer q) (λ v d t. next_mark v d (Mark w m.epoch m.commit ∷ []) ≡ None → Owned (with_number s.producer w (record (s.producer w) { waiting = ms })) q v d t) (s.partition q) (λ v d t own none. step v d t (v == w) refl own none) (sound.owned q))
        tt
      where
        step : (v d : ℕ) (t : TaskId) (b : Bool) → (v == w) ≡ b → Owned s.producer q v d t → cond (b && (d == m.epoch)) (Some m.commit) None ≡ None
            → (marker_among q d (cond b (record (s.producer w) { waiting = ms }) (s.producer v)).waiting ≢ None) ⊎ IsOfTx (cond b (record (s.producer w) { waiting = ms }) (s.producer v)) q d t
        step v d t true e own none =
            let own_w : Owned s.producer q w d t = subst (λ k. Owned s.producer q k d t) (eqb-true v w e) own in
            ⊎_elim (λ (ne : marker_among q d (s.producer w).waiting ≢ None). inl (λ (g : marker_among q d ms ≡ None). ne (here q d h ∙ other (d == m.epoch) none g)))
            (λ (o : IsOfTx (s.producer w) q d t). absurd (same_tx_waits q d t o)) own_w
          where
            other : (c : Bool) → cond c (Some m.commit) None ≡ None → marker_among q d ms ≡ None → cond c (Some m.commit) (marker_among q d ms) ≡ None
            other true a g = absurd cc
            other false a g = g
        step v d t false e own none = own
    owned q false h = Open-map (Owned s.producer q) (Owned (with_number s.producer w (record (s.producer w) { waiting = ms })) q) (s.partition q)
        (λ v d t. each_number (λ k (x : Producer). ((marker_among q d (s.producer k).waiting ≢ None) ⊎ IsOfTx (s.producer k) q d t) → ((marker_among q d x.waiting ≢ None) ⊎ IsOfTx x q d t)) s.producer w (record (s.producer w) { waiting = ms })
        (⊎_elim (λ (ne : marker_among q d (s.producer w).waiting ≢ None). inl (λ (g : marker_among q d ms ≡ None). ne (sym (among q d h) ∙ g)))
        (λ (o : IsOfTx (s.producer w) q d t). absurd (same_tx_waits q d t o)))
        (λ k own. own) v)
        (sound.owned q)

-- ---- the empty cluster
pub start_sound : (setup : Setup) → Sound setup start
start_sound setup = record {
  markers = λ w tx h. refl;
  owned = λ q. tt;
  committed = λ t topic. omega arith;
  distinct = λ w. tt;
  alone = λ t topic r h ne. refl;
}

-- ---- a record of an input
module _ (setup : Setup) (net : IsNetwork setup.plan) (s : State) (p : PartId) (rec : Rec) (source : p.topic < setup.plan.sources) (sound : Sound setup s) where
  abbrev produced_state : State
  produced_state = record s { partition = grown s.partition p (Plain rec ∷ []) }

  added : (q : PartId) → same_part q p ≡ true → decided (record s { partition = grown s.partition p (Plain rec ∷ []) }) q ≡ decided s q ++ record { offset = length (s.partition q); sender = None; rec = rec } ∷ []
  added q is =
      ap (λ b. decided_from (waiting_at (markers_of s) q) 0 (cond b (s.partition q ++ Plain rec ∷ []) (s.partition q))) is
      ∙ decided-append (waiting_at (markers_of s) q) 0 (length (s.partition q)) (s.partition q) (Plain rec ∷ []) (omega arith)

  same_else : (q : PartId) → same_part q p ≡ false → decided (record s { partition = grown s.partition p (Plain rec ∷ []) }) q ≡ decided s q
  same_else q is = ap (λ b. decided_from (waiting_at (markers_of s) q) 0 (cond b (s.partition q ++ Plain rec ∷ []) (s.partition q))) is

  no_changelog : (t : TaskId) (topic : ℕ) → has_topic topic (setup.plan.changelogs t.sub) ≡ true → same_part (part_of topic t) p ≡ false
  no_changelog t topic h =
      let least : setup.plan.sources ≤ topic = net.apart.no_source t.sub topic h in
      ap (λ b. b && (t.part == p.part)) (ne_eqb topic p.topic (λ (e : topic ≡ p.topic). omega (arith, e, least, source)))

  one_list : (r : Option TaskId) (x : Logged) → x.sender ≡ None → of_input (network setup.plan) r (x.rec ∷ []) ≡ recs (by_sender r (x ∷ []))
  one_list None x is = sym (ap (λ o. recs (cond (same_sender same_task None o) (x ∷ []) [])) is)
  one_list (Some u) x is = sym (ap (λ o. recs (cond (same_sender same_task (Some u) o) (x ∷ []) [])) is)

  nothing_more : (r : Option TaskId) (xs : List Rec) → xs ++ of_input (network setup.plan) r [] ≡ xs
  nothing_more None xs = append-nil xs
  nothing_more (Some u) xs = append-nil xs

  pub produce_shows : (st : RunState TaskId PartId Stores Rec) → Shows setup s st → Shows setup (record s { partition = grown s.partition p (Plain rec ∷ []) }) (fed (network setup.plan) st (λ q. cond (same_part q p) (rec ∷ []) []))
  produce_shows st shows = record {
    lists = λ r q. by r q (same_part q p) refl;
    stores = λ t. shows.stores t ∙ (λ i topic. stays t topic (has_topic topic (setup.plan.changelogs t.sub)) refl i);
    late = shows.late;
    given = λ r q. given r q (same_part q p) refl;
  }
    where
      by : (r : Option TaskId) (q : PartId) (b : Bool) → same_part q p ≡ b → st.waiting r q ++ of_input (network setup.plan) r (cond b (rec ∷ []) [])
          ≡ recs (by_sender r (past_from (s.committed (reader_of setup.plan q) q.topic) (decided (record s { partition = grown s.partition p (Plain rec ∷ []) }) q)))
      by r q true is =
          let low = s.committed (reader_of setup.plan q) q.topic in
          let x : Logged = record { offset = length (s.partition q); sender = None; rec = rec } in
          let within : low ≤ length (s.partition q) = omega (arith, sound.committed (reader_of setup.plan q) q.topic, stable-le (s.partition q)) in
          ap₂ (λ a b. a ++ b) (shows.lists r q) (one_list r x refl)
          ∙ sym (recs-append (by_sender r (past_from low (decided s q))) (by_sender r (x ∷ [])))
          ∙ ap recs (sym (by_sender-append r (past_from low (decided s q)) (x ∷ []))
          ∙ ap (by_sender r) (ap (λ l. past_from low (decided s q) ++ l) (sym (past_all low (length (s.partition q)) (x ∷ []) within (omega arith, tt)))
          ∙ sym (past_from-append low (decided s q) (x ∷ []))
          ∙ ap (past_from low) (sym (added q is))))
      by r q false is = nothing_more r (st.waiting r q) ∙ shows.lists r q ∙ ap (λ (d : List Logged). recs (by_sender r (past_from (s.committed (reader_of setup.plan q) q.topic) d))) (sym (same_else q is))

      given : (r : Option TaskId) (q : PartId) (b : Bool) → same_part q p ≡ b → st.given r q ++ of_input (network setup.plan) r (cond b (rec ∷ []) [])
          ≡ recs (by_sender r (decided (record s { partition = grown s.partition p (Plain rec ∷ []) }) q))
      given r q true is =
          let x : Logged = record { offset = length (s.partition q); sender = None; rec = rec } in
          ap₂ (λ a b. a ++ b) (shows.given r q) (one_list r x refl)
          ∙ sym (recs-append (by_sender r (decided s q)) (by_sender r (x ∷ [])))
          ∙ ap recs (sym (by_sender-append r (decided s q) (x ∷ [])) ∙ ap (by_sender r) (sym (added q is)))
      given r q false is = nothing_more r (st.given r q) ∙ shows.given r q ∙ ap (λ (d : List Logged). recs (by_sender r d)) (sym (same_else q is))

      stays : (t : TaskId) (topic : ℕ) (b : Bool) → has_topic topic (setup.plan.changelogs t.sub) ≡ b →
          cond b (latest (recs (decided s (part_of topic t)))) empty_store ≡ cond b (latest (recs (decided (record s { partition = grown s.partition p (Plain rec ∷ []) }) (part_of topic t)))) empty_store
      stays t topic true h = ap (λ (d : List Logged). latest (recs d)) (sym (same_else (part_of topic t) (no_changelog t topic h)))
      stays t topic false h = refl

  pub produce_sound : Sound setup (record s { partition = grown s.partition p (Plain rec ∷ []) })
  produce_sound = record {
    markers = sound.markers;
    owned = λ q. owned q (same_part q p);
    committed = λ t topic. omega (arith, sound.committed t topic, rises (part_of topic t) (same_part (part_of topic t) p));
    distinct = sound.distinct;
    alone = λ t topic r h ne. ap (by_sender r) (same_else (part_of topic t) (no_changelog t topic h)) ∙ sound.alone t topic r h ne;
  }
    where
      owned : (q : PartId) (b : Bool) → Open (Owned s.producer q) (cond b (s.partition q ++ Plain rec ∷ []) (s.partition q))
      owned q true = Open-append (Owned s.producer q) (s.partition q) (Plain rec ∷ [])
          (Open-map (Owned s.producer q) (λ v d t. next_mark v d (Plain rec ∷ []) ≡ None → Owned s.producer q v d t) (s.partition q) (λ v d t h g. h) (sound.owned q)) tt
      owned q false = sound.owned q

      rises : (q : PartId) (b : Bool) → stable (s.partition q) ≤ stable (cond b (s.partition q ++ Plain rec ∷ []) (s.partition q))
      rises q true = stable-append (s.partition q) _
      rises q false = omega arith
