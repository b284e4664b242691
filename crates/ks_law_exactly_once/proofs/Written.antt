-- The history of one commit, and that of a zombie.
use Rattle.std.proofs.Common.{◌≡◌, ℕ, ◌≤◌, Bool, true, false, Option, Some, None, List, [], ◌∷◌, refl, sym, ap, ◌∙◌, subst, arith, lit<, lit≤, cond, ◌++◌, true≢false, ⊎_elim, ◌≢◌, ◌+◌}
use Rattle.std.proofs.lemmas.List.Sorted.{IsPermutation-refl}
use Rattle.std.proofs.lemmas.Bool.{eqb-true, eq-eqb, or_parts}
use Rattle.std.proofs.lemmas.Bool.Decides.{eqb_tells}
use Rattle.std.specs.Prelude.{◌==◌, ◌&&◌, ◌||◌, eqb, length}
use Rattle.ks_record.specs.Parts.{same_part, same_task}
use Rattle.ks_record.specs.declared.record.PartId.{PartId}
use Rattle.ks_history.specs.declared.partition.Slot.{Slot}
use Rattle.ks_history.specs.declared.partition.Slot.TheVariants.{Plain, Sent}
use Rattle.ks_def_runs.specs.Run.{sent_to}
use Rattle.ks_history.specs.Faithful.{pending_offsets, taken, count_in, waiting_at, markers_of, IsFaithful, IsFaithfulTask}
use Rattle.ks_history.specs.History.{at, Each, IsStep, IsFaithfulEntry, IsHistory}
use Rattle.ks_history.specs.Machine.{Stores, part_of, network, IsNetwork, applied, latest_from, has_topic}
use Rattle.ks_history.specs.Partition.{Logged, stable, open_from, is_behind, recs}
use Rattle.ks_history.specs.State.{State, start, offset_in, IsPart}
use Rattle.ks_history.proofs.Names.{same_part-refl}
use Rattle.ks_law_exactly_once.specs.Example.{input, changelog, the_task, setup, begun, one_commit, zombie}
use Rattle.ks_record.specs.Records.{Record as Rec}
use Rattle.ks_record.specs.declared.record.TaskId.{TaskId}
use Rattle.ks_record.specs.declared.assignment.Refused.TheVariants.{Fenced}
use Rattle.ks_def_runs.specs.Bytes.{Store}
use Rattle.ks_history.specs.declared.transaction.Pending.{Pending}
use Rattle.ks_history.specs.declared.transaction.Transaction.{Transaction}

is_input : IsPart setup input
is_input = record { topic = lit< tt; part = lit< tt }

is_changelog : IsPart setup changelog
is_changelog = record { topic = lit< tt; part = lit< tt }

legal : (rec : Rec) → Each IsStep setup start (one_commit rec)
legal rec = (
  record { meets = (lit< tt, is_input); reply = refl },
  (
    record { meets = lit≤ tt; reply = refl },
    (
      record { meets = lit≤ tt; reply = refl },
      (
        record { meets = (lit≤ tt, refl, refl, refl); reply = refl },
        (
          record { meets = (lit≤ tt, is_changelog); reply = refl },
          (
            record { meets = (lit≤ tt, is_changelog, refl); reply = refl },
            (
              record { meets = (lit≤ tt, refl, refl); reply = refl },
              (
                record { meets = lit≤ tt; reply = refl },
                (
                  record { meets = lit≤ tt; reply = refl },
                  tt,
                ),
              ),
            ),
          ),
        ),
      ),
    ),
  ),
)

-- the state before the commit
abbrev before : Rec → State
before rec = at setup (begun rec [])

abbrev the_pending : Pending
the_pending = record { task = the_task; offsets = (0, 1) ∷ []; order = (0, 1) ∷ []; late = 0 }

abbrev the_tx : Transaction
the_tx = record { parts = changelog ∷ []; tasks = the_task ∷ []; pending = the_pending ∷ [] }

-- the slots of a part that is the changelog or not, the input or not
abbrev slots_by : Rec → Bool → Bool → List Slot
slots_by rec b c = cond b (cond c ([] ++ Plain rec ∷ []) [] ++ Sent 0 1 0 the_task rec ∷ []) (cond c ([] ++ Plain rec ∷ []) [])

makes : (rec : Rec) (b c : Bool) → cond b (rec ∷ []) [] ≡ recs (open_from 0 1 the_task 0 (slots_by rec b c))
makes rec true true = refl
makes rec true false = refl
makes rec false true = refl
makes rec false false = refl

stands : (waiting : ℕ → ℕ → Option Bool) (rec : Rec) (b c : Bool) → is_behind waiting 0 1 the_task (slots_by rec b c) ≡ true
stands waiting rec true true = refl
stands waiting rec true false = refl
stands waiting rec false true = refl
stands waiting rec false false = refl

from_or : (b : Bool) → (b || false) ≡ true → b ≡ true
from_or true h = refl
from_or false h = h

reaches : (rec : Rec) (topic : ℕ) → has_topic topic (0 ∷ []) ≡ true → offset_in 0 topic ((0, 1) ∷ []) ≤ stable ((before rec).partition (part_of topic the_task))
reaches rec topic h =
    let is : topic ≡ 0 = eqb-true topic 0 (from_or (topic == 0) h) in
    subst (λ n. offset_in 0 n ((0, 1) ∷ []) ≤ stable ((before rec).partition (part_of n the_task))) (sym is) (lit≤ tt)

counts_none : (b : Bool) (xs : List Logged) → b ≡ false → cond b (1 + 0) 0 ≡ length (cond (b || false) xs [])
counts_none true xs h = absurd (true≢false h)
counts_none false xs h = refl

counts : (rec : Rec) (topic : ℕ) → count_in topic ((0, 1) ∷ []) ≡ length (taken setup (before rec) the_task (pending_offsets (before rec) the_pending) topic)
counts rec topic =
    ⊎_elim
    (λ (t : (eqb topic 0 ≡ true) × (topic ≡ 0)). subst (λ n. count_in n ((0, 1) ∷ []) ≡ length (taken setup (before rec) the_task (pending_offsets (before rec) the_pending) n)) (sym t.1) refl)
    (λ (t : (eqb topic 0 ≡ false) × (topic ≢ 0)). counts_none (topic == 0) _ t.0)
    (eqb_tells topic 0)

fits : (rec : Rec) → IsFaithfulTask setup (before rec) 0 the_pending
fits rec = record {
  inputs = IsPermutation-refl (0 ∷ []);
  committed = λ topic. omega arith;
  stable = reaches rec;
  order = counts rec;
  made = λ q. makes rec (same_part q changelog) (same_part q input);
  late = refl;
  behind = λ q. stands (waiting_at (markers_of (before rec)) q) rec (same_part q changelog) (same_part q input);
}

abbrev Named : Bool → Type 0
Named b = (p : Pending) × (cond b (Some the_pending) None ≡ Some p)

named_by : (b : Bool) → (b || false) ≡ true → Named b
named_by true h = (the_pending, refl)
named_by false h = absurd (true≢false (sym h))

each_by : (rec : Rec) (p : Pending) (b : Bool) → cond b (Some the_pending) None ≡ Some p → IsFaithfulTask setup (before rec) 0 p
each_by rec p true is =
    let e : the_pending ≡ p = cc in
    subst (λ q. IsFaithfulTask setup (before rec) 0 q) e (fits rec)
each_by rec p false is = absurd (cc)

commits : (rec : Rec) → IsFaithful setup (before rec) 0 the_tx
commits rec = record {
  named = λ t h. named_by (same_task t the_task) h;
  each = λ t p is. each_by rec p (same_task t the_task) is;
}

tx_is : (tx : Transaction) → Some the_tx ≡ Some tx → the_tx ≡ tx
tx_is tx is = cc

faithful : (rec : Rec) → Each IsFaithfulEntry setup start (one_commit rec)
faithful rec = (tt, (tt, (tt, (tt, (tt, (tt, (tt, (λ none tx is. subst (IsFaithful setup (before rec) 0) (tx_is tx is) (commits rec), (tt, tt)))))))))

pub commit_history : (rec : Rec) → IsHistory setup (one_commit rec)
commit_history rec = record { legal = legal rec; faithful = faithful rec }

zombie_legal : (rec : Rec) → Each IsStep setup start (zombie rec)
zombie_legal rec = (
  record { meets = (lit< tt, is_input); reply = refl },
  (
    record { meets = lit≤ tt; reply = refl },
    (
      record { meets = lit≤ tt; reply = refl },
      (
        record { meets = (lit≤ tt, refl, refl, refl); reply = refl },
        (
          record { meets = (lit≤ tt, is_changelog); reply = refl },
          (
            record { meets = (lit≤ tt, is_changelog, refl); reply = refl },
            (
              record { meets = (lit≤ tt, refl, refl); reply = refl },
              (
                record { meets = lit≤ tt; reply = refl },
                (
                  record { meets = lit≤ tt; reply = refl },
                  (
                    record { meets = (lit≤ tt, refl, refl, refl); reply = refl },
                    (
                      record { meets = lit≤ tt; reply = refl },
                      (
                        record { meets = lit≤ tt; reply = refl },
                        (
                          record { meets = lit≤ tt; reply = refl },
                          (
                            record { meets = (lit≤ tt, refl, refl, refl); reply = refl },
                            (
                              record { meets = lit≤ tt; reply = refl },
                              (
                                record { meets = (lit≤ tt, refl); reply = refl },
                                (
                                  record { meets = lit≤ tt; reply = refl },
                                  (
                                    record { meets = lit≤ tt; reply = refl },
                                    tt,
                                  ),
                                ),
                              ),
                            ),
                          ),
                        ),
                      ),
                    ),
                  ),
                ),
              ),
            ),
          ),
        ),
      ),
    ),
  ),
)

no_commit : {P : Type 0} → Some (Fenced 2) ≡ None → P
no_commit e = absurd cc

zombie_faithful : (rec : Rec) → Each IsFaithfulEntry setup start (zombie rec)
zombie_faithful rec = (tt, (tt, (tt, (tt, (tt, (tt, (tt, (tt, (tt, (tt, (tt, (λ none tx is. no_commit none, (tt, (tt, (tt, (tt, (tt, (tt, tt))))))))))))))))))

pub zombie_history : (rec : Rec) → IsHistory setup (zombie rec)
zombie_history rec = record { legal = zombie_legal rec; faithful = zombie_faithful rec }

-- ---- the network keeps what a network must
log_only : (b : Bool) (topic : ℕ) → has_topic topic (cond b (1 ∷ []) []) ≡ true → (b ≡ true) × (topic ≡ 1)
log_only true topic h = (refl, eqb-true topic 1 (from_or (topic == 1) h))
log_only false topic h = absurd (true≢false (sym h))

reads_one : (sub topic : ℕ) (b : Bool) → (sub == 0) ≡ b → has_topic topic (cond b (0 ∷ []) []) ≡ true → 0 ≡ sub
reads_one sub topic true is h = sym (eqb-true sub 0 is)
reads_one sub topic false is h = absurd (true≢false (sym h))

apart_parts : (a b p rec : Bool) → a ≡ true → (a && p) ≡ false → p ≡ false
apart_parts true b p rec h g = g
apart_parts false b p rec h g = absurd (true≢false (sym h))

nothing_there : (b c : Bool) (rec : Rec) → (b ≡ true → c ≡ false) → sent_to (network setup.plan) (part_of 1 the_task) [] ≡ [] → cond {A = List Rec} b (cond c (rec ∷ []) []) [] ≡ []
nothing_there true c rec f g = ap (λ d. cond d (rec ∷ []) []) (f refl)
nothing_there false c rec f g = refl

made_at : (b : Bool) (q : PartId) (t : TaskId) (rec : Rec) → sent_to (network setup.plan) q (cond b ((part_of 1 t, rec) ∷ []) []) ≡ cond b (cond (same_part q (part_of 1 t)) (rec ∷ []) []) []
made_at true q t rec = refl
made_at false q t rec = refl

own_part : (t u : TaskId) → same_task u t ≡ false → (u.sub == 0) ≡ true → (t.sub == 0) ≡ true → same_part (part_of 1 u) (part_of 1 t) ≡ false
own_part t u ne a b =
    let same : (u.sub == t.sub) ≡ true = eq-eqb u.sub t.sub (eqb-true u.sub 0 a ∙ sym (eqb-true t.sub 0 b)) in
    apart_parts (u.sub == t.sub) true (u.part == t.part) true same ne

told_one : (t : TaskId) (stores : Stores) (rec : Rec) (b : Bool) → b ≡ true →
    cond (b && true) (applied (stores 1) rec.key rec.value) (stores 1) ≡ latest_from (stores 1) (sent_to (network setup.plan) (part_of 1 t) (cond b ((part_of 1 t, rec) ∷ []) []))
told_one t stores rec true h = ap (λ c. latest_from (stores 1) (cond c (rec ∷ []) [])) (sym (same_part-refl (part_of 1 t)))
told_one t stores rec false h = absurd (true≢false (sym h))

kept : (b c : Bool) (x y : Store) → (b ≡ true → c ≡ false) → cond (b && c) x y ≡ y
kept true c x y f = ap (λ d. cond d x y) (f refl)
kept false c x y f = refl

no_input : (b : Bool) → has_topic 1 (cond b (0 ∷ []) []) ≡ false
no_input true = refl
no_input false = refl

pub is_network : IsNetwork setup.plan
is_network = record {
  apart = record {
    no_source = λ sub topic h. omega (arith, (log_only (sub == 0) topic h).1);
    one_keeper = λ sub other topic h g. eqb-true sub 0 (log_only (sub == 0) topic h).0 ∙ sym (eqb-true other 0 (log_only (other == 0) topic g).0);
    own = λ t u stores p rec topic ne h.
        ap (λ n. sent_to (network setup.plan) (part_of n u) (cond (t.sub == 0) ((part_of 1 t, rec) ∷ []) [])) (log_only (u.sub == 0) topic h).1
        ∙ made_at (t.sub == 0) (part_of 1 u) t rec
        ∙ nothing_there (t.sub == 0) (same_part (part_of 1 u) (part_of 1 t)) rec (λ b. own_part t u ne (log_only (u.sub == 0) topic h).0 b) refl;
  };
  no_reader = λ sub other topic h. subst (λ n. has_topic n (cond (other == 0) (0 ∷ []) []) ≡ false) (sym (log_only (sub == 0) topic h).1) (no_input (other == 0));
  one_reader = λ sub topic h. reads_one sub topic (sub == 0) refl h;
  told = λ t stores p rec topic h.
      subst (λ n. cond ((t.sub == 0) && (n == 1)) (applied (stores n) rec.key rec.value) (stores n) ≡ latest_from (stores n) (sent_to (network setup.plan) (part_of n t) (cond (t.sub == 0) ((part_of 1 t, rec) ∷ []) [])))
      (sym (log_only (t.sub == 0) topic h).1) (told_one t stores rec (t.sub == 0) (log_only (t.sub == 0) topic h).0);
  no_other = λ t stores p rec topic h.
      kept (t.sub == 0) (topic == 1) _ (stores topic) (λ e. (or_parts (topic == 1) false (subst (λ b. has_topic topic (cond b (1 ∷ []) []) ≡ false) e h)).0);
}
