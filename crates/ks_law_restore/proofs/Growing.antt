-- What a state keeps of an earlier one, entry by entry.
use Rattle.std.proofs.Common.{◌≡◌, ℕ, ◌+◌, ◌≤◌, Bool, true, false, cond, inl, inr, List, [], ◌∷◌, ◌++◌, length, Option, Some, None, refl, sym, ap, ◌∙◌, arith, append_assoc, append-nil}
use Rattle.ks_record.specs.Records.{Record as Rec}
use Rattle.ks_record.specs.declared.record.PartId.{PartId}
use Rattle.ks_record.specs.declared.record.TaskId.{TaskId}
use Rattle.ks_record.specs.declared.assignment.Refused.{Refused}
use Rattle.ks_record.specs.declared.assignment.Assignment.{Assignment}
use Rattle.ks_record.specs.declared.assignment.Marker.{Marker}
use Rattle.ks_record.specs.Parts.{same_part}
use Rattle.ks_history.specs.declared.partition.Slot.TheVariants.{Plain, Mark}
use Rattle.ks_history.specs.declared.journal.Request.{Request}
use Rattle.ks_history.specs.declared.journal.Request.TheVariants.{Produce, Init, Add, Append, SendOffsets, Decide, MarkNext, Join, Expire, Hold, Probe, Assign, Park, Unpark}
use Rattle.ks_history.specs.declared.journal.Entry.{Entry}
use Rattle.ks_history.specs.declared.transaction.Pending.{Pending}
use Rattle.ks_history.specs.declared.transaction.Transaction.{Transaction}
use Rattle.ks_history.specs.declared.transaction.Producer.{Producer}
use Rattle.ks_history.specs.Partition.{Logged, stable, by_sender, below, decided_from, open_from}
use Rattle.ks_history.specs.Machine.{IsNetwork}
use Rattle.ks_history.specs.State.{State, Setup, with_number, grown, has_part, has_task, without_number, pending_of, offset_in}
use Rattle.ks_history.specs.Step.{refusal, effect, state_by, pending_at, fenced, or_else, without_part, markers_waiting, old_generation, not_assigned, unstable_beside, renewed, can_expire, closed}
use Rattle.ks_history.specs.Faithful.{decided, marker_among, waiting_at, markers_of, IsFaithful}
use Rattle.ks_history.specs.History.{state_after, Each, IsFaithfulEntry, CommitsFaithfully}
use Rattle.ks_history.proofs.Histories.{stable-le}
use Rattle.ks_history.proofs.Names.{same_task-is}
use Rattle.ks_law_exactly_once.proofs.Commits.{grows, pending_is}
use Rattle.ks_law_exactly_once.proofs.Quiet.{Quiet, producer_quiet, mark_quiet, abort_goes}
use Rattle.ks_law_exactly_once.proofs.Refusals.{some_undecided, both_none, not_fenced, with_part, closed_undecided, closed_waiting}
use Rattle.ks_law_exactly_once.proofs.Slots.{decided-append, stable-append, open_none, by_sender-append, readable_decided, below_none}
use Rattle.ks_law_exactly_once.proofs.Sound.{Owned, Sound}
use Rattle.ks_law_restore.specs.Commits.{commit_by, commits_by, commits_for}
use Rattle.ks_law_restore.proofs.Offsets.{below-append}
use Rattle.ks_law_exactly_once.proofs.Undecided.{renewed_quiet, add_quiet, offsets_quiet, named, named_quiet, appended}

-- the list with more at its end
abbrev pub Longer : List Logged → List Logged → Type 0
Longer xs ys = (rest : List Logged) × (ys ≡ xs ++ rest)

pub record Grown (s new : State) : Type 0 where
  pub rises : (q : PartId) → stable (s.partition q) ≤ stable (new.partition q)
  -- what was decided below the stable offset is what is decided there
  pub fixed : (q : PartId) (high : ℕ) → high ≤ stable (s.partition q) → below high (decided new q) ≡ below high (decided s q)
  -- the decided records of each task grow at their end
  pub adds : (u : TaskId) (q : PartId) → Longer (by_sender (Some u) (decided s q)) (by_sender (Some u) (decided new q))

-- nothing was committed for a task
pub record Rests (t : TaskId) (s new : State) : Type 0 where
  pub committed : (topic : ℕ) → new.committed t topic ≡ s.committed t topic
  pub own : (q : PartId) → by_sender (Some t) (decided new q) ≡ by_sender (Some t) (decided s q)

pub grown_twice : (a b c : State) → Grown a b → Grown b c → Grown a c
grown_twice a b c f g = record {
  rises = λ q. omega (arith, f.rises q, g.rises q);
  fixed = λ q high h. g.fixed q high (omega (arith, h, f.rises q)) ∙ f.fixed q high h;
  adds = λ u q.
      let x = f.adds u q in
      let y = g.adds u q in
      (x.0 ++ y.0, y.1 ∙ ap (λ l. l ++ y.0) x.1 ∙ append_assoc (by_sender (Some u) (decided a q)) x.0 y.0);
}

pub rests_twice : (t : TaskId) (a b c : State) → Rests t a b → Rests t b c → Rests t a c
rests_twice t a b c f g = record { committed = λ topic. g.committed topic ∙ f.committed topic; own = λ q. g.own q ∙ f.own q }

-- as much is decided
decided_grown : (s new : State) → ((q : PartId) → decided new q ≡ decided s q) → ((q : PartId) → stable (s.partition q) ≤ stable (new.partition q)) → Grown s new
decided_grown s new same rises = record {
  rises = rises;
  fixed = λ q high h. ap (below high) (same q);
  adds = λ u q. ([], ap (by_sender (Some u)) (same q) ∙ sym (append-nil (by_sender (Some u) (decided s q))));
}

pub grown_same : (s : State) → Grown s s
grown_same s = decided_grown s s (λ q. refl) (λ q. omega arith)

pub rests_same : (t : TaskId) (s : State) → Rests t s s
rests_same t s = record { committed = λ topic. refl; own = λ q. refl }

module _ (setup : Setup) (net : IsNetwork setup.plan) where
  -- one entry
  pub record Moved (s : State) (request : Request) (r : Option Refused) (new : State) : Type 0 where
    pub grown : Grown s new
    pub rests : (t : TaskId) → commits_by s request r t ≡ [] → Rests t s new

  quiet_moved : (s new : State) (request : Request) (r : Option Refused) → Quiet s new → Moved s request r new
  quiet_moved s new request r quiet = record {
    grown = decided_grown s new quiet.decided_same quiet.stable_grows;
    rests = λ t none. record { committed = quiet.committed_same t; own = λ q. ap (by_sender (Some t)) (quiet.decided_same q) };
  }

  same_moved : (s : State) (request : Request) (r : Option Refused) → Moved s request r s
  same_moved s request r = record { grown = grown_same s; rests = λ t none. rests_same t s }

  beside_moved : (s : State) (request : Request) (r : Option Refused) (generation : ℕ) (members : List ℕ) (assignment : Option Assignment) (held : ℕ → List (TaskId × ℕ)) (parked : ℕ → TaskId → Bool) →
      Moved s request r (record s { generation = generation; members = members; assignment = assignment; held = held; parked = parked })
  beside_moved s request r generation members assignment held parked = record {
    grown = decided_grown s _ (λ q. refl) (λ q. omega arith);
    rests = λ t none. record { committed = λ topic. refl; own = λ q. refl };
  }

  -- ---- a record of an input
  produce_moved : (s : State) (p : PartId) (rec : Rec) → Moved s (Produce p rec) None (effect s (Produce p rec))
  produce_moved s p rec = record {
    grown = record { rises = λ q. rises q (same_part q p); fixed = λ q high h. fixed q high (same_part q p) h; adds = λ u q. ([], own u q (same_part q p) ∙ sym (append-nil (by_sender (Some u) (decided s q)))) };
    rests = λ t none. record { committed = λ topic. refl; own = λ q. own t q (same_part q p) };
  }
    where
      rises : (q : PartId) (b : Bool) → stable (s.partition q) ≤ stable (cond b (s.partition q ++ Plain rec ∷ []) (s.partition q))
      rises q true = stable-append (s.partition q) (Plain rec ∷ [])
      rises q false = omega arith

      added : (q : PartId) → decided_from (waiting_at (markers_of s) q) 0 (s.partition q ++ Plain rec ∷ []) ≡ decided s q ++ record { offset = length (s.partition q); sender = None; rec = rec } ∷ []
      added q = decided-append (waiting_at (markers_of s) q) 0 (length (s.partition q)) (s.partition q) (Plain rec ∷ []) (omega arith)

      fixed : (q : PartId) (high : ℕ) (b : Bool) → high ≤ stable (s.partition q) → below high (decided_from (waiting_at (markers_of s) q) 0 (cond b (s.partition q ++ Plain rec ∷ []) (s.partition q))) ≡ below high (decided s q)
      fixed q high true h =
          let x : Logged = record { offset = length (s.partition q); sender = None; rec = rec } in
          ap (below high) (added q)
          ∙ below-append high (decided s q) (x ∷ [])
          ∙ ap (λ l. below high (decided s q) ++ l) (below_none high (length (s.partition q)) (x ∷ []) (omega (arith, h, stable-le (s.partition q))) (omega arith, tt))
          ∙ append-nil (below high (decided s q))
      fixed q high false h = refl

      own : (u : TaskId) (q : PartId) (b : Bool) → by_sender (Some u) (decided_from (waiting_at (markers_of s) q) 0 (cond b (s.partition q ++ Plain rec ∷ []) (s.partition q))) ≡ by_sender (Some u) (decided s q)
      own u q true = ap (by_sender (Some u)) (added q) ∙ by_sender-append (Some u) (decided s q) _ ∙ append-nil (by_sender (Some u) (decided s q))
      own u q false = refl

  -- ---- a commit
  none_by : (w : ℕ) (o : Option Pending) → commit_by w o ≡ [] → o ≡ None
  none_by w None e = refl
  none_by w (Some p) e = absurd cc

  module _ (s : State) (w e : ℕ) (tx : Transaction) (is : (s.producer w).undecided ≡ Some tx) (sound : Sound setup s) (f : IsFaithful setup s w tx) where
    same_tx : (p : Producer) (other : Transaction) → p.undecided ≡ Some tx → p.undecided ≡ Some other → other ≡ tx
    same_tx p other a b = cc

    -- nothing undecided is of a task without pending offsets
    not_of_task : (q : PartId) (u : TaskId) → pending_of u (pending_at (s.producer w)) ≡ None → Owned s.producer q w (s.producer w).epoch u → ⊥
    not_of_task q u h (inl ne) = ne (ap (marker_among q (s.producer w).epoch) (sound.markers w tx is))
    not_of_task q u h (inr o) =
        let named = f.named u (ap (λ (t : Transaction). has_task u t.tasks) (sym (same_tx (s.producer w) o.tx is o.undecided)) ∙ o.task) in
        let there : pending_of u tx.pending ≡ Some named.0 = named.1 in
        let none : pending_of u tx.pending ≡ None = ap (pending_of u) (sym (pending_is (s.producer w) tx is)) ∙ h in
        absurd cc

    commit_moved : Moved s (Decide w e true) None (effect s (Decide w e true))
    commit_moved = record {
      grown = record {
        rises = λ q. omega arith;
        fixed = λ q high h.
            sym (readable_decided (waiting_at (markers_of (effect s (Decide w e true))) q) high 0 (s.partition q) (omega (arith, h)))
            ∙ readable_decided (waiting_at (markers_of s) q) high 0 (s.partition q) (omega (arith, h));
        adds = λ u q. (open_from w (s.producer w).epoch u 0 (s.partition q), grows setup net s w e tx is sound f q u);
      };
      rests = λ t none.
          let free : pending_of t (pending_at (s.producer w)) ≡ None = none_by w (pending_of t (pending_at (s.producer w))) none in
          record {
            committed = λ topic. ap (λ (o : Option Pending). elim o as (λ _. ℕ) [ None ↦ s.committed t topic | Some p ↦ offset_in (s.committed t topic) topic p.offsets ]) free;
            own = λ q.
                grows setup net s w e tx is sound f q t
                ∙ ap (λ l. by_sender (Some t) (decided s q) ++ l) (open_none (Owned s.producer q) w (s.producer w).epoch t (λ task g. same_task-is t task g) (not_of_task q t free) 0 (s.partition q) (sound.owned q))
                ∙ append-nil (by_sender (Some t) (decided s q));
          };
    }

  -- ---- the others decide nothing
  append_moved : (s : State) (w e number : ℕ) (t : TaskId) (p : PartId) (rs : List Rec) (tx : Transaction) → (s.producer w).undecided ≡ Some tx → has_part p tx.parts ≡ true → e ≡ (s.producer w).epoch → Sound setup s
      → Moved s (Append w e number t p rs) None (effect s (Append w e number t p rs))
  append_moved s w e number t p rs tx is there now_epoch sound =
      let first : Quiet s (named setup s w e number t p rs tx is there now_epoch sound) = named_quiet setup s w e number t p rs tx is there now_epoch sound in
      let second = appended setup s w e number t p rs tx is there now_epoch sound in
      record {
        grown = grown_twice s (named setup s w e number t p rs tx is there now_epoch sound) _ (decided_grown s _ first.decided_same first.stable_grows) (decided_grown _ _ second.decided_same second.stable_grows);
        rests = λ u none. record { committed = λ topic. refl; own = λ q. ap (by_sender (Some u)) (second.decided_same q ∙ first.decided_same q) };
      }

  -- ---- any entry
  pub moved : (s : State) (request : Request) (r : Option Refused) → refusal setup s request ≡ r → CommitsFaithfully setup s request → Sound setup s → Moved s request r (state_by s request r)
  moved s (Produce p rec) None is f sound = produce_moved s p rec
  moved s (Init w) None is f sound = quiet_moved s _ (Init w) None (renewed_quiet setup s w sound)
  moved s (Add w e p) None is f sound = quiet_moved s _ (Add w e p) None (add_quiet setup s w e p (both_none _ _ is).1 sound)
  moved s (Append w e number t p rs) None is f sound =
      let a = both_none (fenced (s.producer w) e) _ is in
      let b = both_none (without_part (s.producer w) p) _ a.1 in
      let c = with_part (s.producer w) p b.0 in
      append_moved s w e number t p rs c.0 c.1 c.2 (not_fenced (s.producer w) e a.0) sound
  moved s (SendOffsets w e g t offsets order late) None is f sound =
      let last : Option Refused = unstable_beside s w t in
      let a = both_none (fenced (s.producer w) e) (or_else (old_generation s g) (or_else (not_assigned s w t) (or_else (markers_waiting (s.producer w)) last))) is in
      let b = both_none (old_generation s g) (or_else (not_assigned s w t) (or_else (markers_waiting (s.producer w)) last)) a.1 in
      let c = both_none (not_assigned s w t) (or_else (markers_waiting (s.producer w)) last) b.1 in
      quiet_moved s _ (SendOffsets w e g t offsets order late) None (offsets_quiet setup s w e g t offsets order late (both_none (markers_waiting (s.producer w)) last c.1).0 sound)
  moved s (Decide w e true) None is f sound =
      let u = some_undecided (s.producer w) e is in
      commit_moved s w e u.0 u.1 sound (f is u.0 u.1)
  moved s (Decide w e false) None is f sound =
      quiet_moved s _ (Decide w e false) None (producer_quiet setup s w _ sound (abort_goes (s.producer w) (closed (s.producer w) false) (s.producer w).undecided refl (closed_undecided (s.producer w) false) (closed_waiting (s.producer w))))
  moved s (MarkNext w) None is f sound = by (s.producer w).waiting refl
    where
      by : (ms : List Marker) → (s.producer w).waiting ≡ ms → Moved s (MarkNext w) None
          (elim ms as (λ _. State) [
            | [] ↦ s
            | m ∷ ms ↦ record s {
              partition = grown s.partition m.part (Mark w m.epoch m.commit ∷ []);
              producer = with_number s.producer w (record (s.producer w) { waiting = ms });
            }
          ])
      by [] h = same_moved s (MarkNext w) None
      by (m ∷ ms) h = quiet_moved s _ (MarkNext w) None (mark_quiet setup s w m ms sound h)
  moved s (Join w) None is f sound = beside_moved s (Join w) None _ _ _ _ _
  moved s (Expire w) None is f sound = by (can_expire s w)
    where
      by : (b : Bool) → Moved s (Expire w) None
          (cond b (record s {
            producer = with_number s.producer w (renewed (s.producer w));
            members = without_number w s.members;
            held = with_number s.held w [];
            generation = s.generation + 1;
            assignment = None;
          }) s)
      by true =
          let quiet = renewed_quiet setup s w sound in
          record {
            grown = decided_grown s _ quiet.decided_same quiet.stable_grows;
            rests = λ t none. record { committed = λ topic. refl; own = λ q. ap (by_sender (Some t)) (quiet.decided_same q) };
          }
      by false = same_moved s (Expire w) None
  moved s (Hold w held) None is f sound = beside_moved s (Hold w held) None _ _ _ _ _
  moved s (Probe w g) None is f sound = beside_moved s (Probe w g) None _ _ _ _ _
  moved s (Assign w g a) None is f sound = by s.assignment
    where
      by : (o : Option Assignment) → Moved s (Assign w g a) None (elim o as (λ _. State) [ None ↦ record s { assignment = Some a } | Some b ↦ s ])
      by None = beside_moved s (Assign w g a) None _ _ _ _ _
      by (Some b) = same_moved s (Assign w g a) None
  moved s (Park instance t) None is f sound = beside_moved s (Park instance t) None _ _ _ _ _
  moved s (Unpark instance t) None is f sound = beside_moved s (Unpark instance t) None _ _ _ _ _
  moved s request (Some refused) is f sound = same_moved s request (Some refused)

  -- ---- many entries, where each state is sound
  pub grown_after : (entries : List Entry) (s : State) → Each IsFaithfulEntry setup s entries → Each (λ setup s entry. Sound setup s) setup s entries → Grown s (state_after setup s entries)
  grown_after [] s faithful sounds = grown_same s
  grown_after (entry ∷ entries) s faithful sounds =
      let r : Option Refused = refusal setup s entry.request in
      grown_twice s (state_by s entry.request r) (state_after setup (state_by s entry.request r) entries)
      (moved s entry.request r refl faithful.0 sounds.0).grown (grown_after entries (state_by s entry.request r) faithful.1 sounds.1)

  first_nothing : {A : Type 0} (xs ys : List A) → xs ++ ys ≡ [] → (xs ≡ []) × (ys ≡ [])
  first_nothing [] ys e = (refl, e)
  first_nothing (x ∷ xs) ys e = absurd cc

  pub rests_after : (t : TaskId) (entries : List Entry) (s : State) → Each IsFaithfulEntry setup s entries → Each (λ setup s entry. Sound setup s) setup s entries → commits_for setup s entries t ≡ [] → Rests t s (state_after setup s entries)
  rests_after t [] s faithful sounds none = rests_same t s
  rests_after t (entry ∷ entries) s faithful sounds none =
      let r : Option Refused = refusal setup s entry.request in
      let parts = first_nothing (commits_by s entry.request r t) (commits_for setup (state_by s entry.request r) entries t) none in
      rests_twice t s (state_by s entry.request r) (state_after setup (state_by s entry.request r) entries)
      ((moved s entry.request r refl faithful.0 sounds.0).rests t parts.0) (rests_after t entries (state_by s entry.request r) faithful.1 sounds.1 parts.1)
