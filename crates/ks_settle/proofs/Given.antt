-- Replicas that are given: they are taken out of a list one by one, and follow a longer journal.
use Rattle.std.proofs.Common.{◌≡◌, ◌<◌, ◌≤◌, ℕ, zero, suc, ◌+◌, ◌||◌, ◌==◌, Bool, true, false, cond, List, [], ◌∷◌, ◌++◌, length, get_or, take, drop, add-one, Option, Some, None, refl, sym, ap, subst, ◌∙◌, arith}
use Rattle.std.specs.Prelude.{IfSome}
use Rattle.std.specs.List.{All, remove}
use Rattle.std.proofs.lemmas.Bool.{true≢false}
use Rattle.std.proofs.Math.Seq.{take-suc}
use Rattle.std.proofs.lemmas.List.{map-append}
use Rattle.std.proofs.lemmas.List.Elements.{All-append, All-take, All-drop, All-cons, All-nil, All-weaker}
use Rattle.ks_record.specs.declared.record.TaskId.{TaskId}
use Rattle.ks_record.specs.Parts.{same_task}
use Rattle.ks_history.specs.declared.journal.Entry.{Entry}
use Rattle.ks_history.specs.Machine.{TaskPlan, IsNetwork, part_of, has_topic}
use Rattle.ks_history.specs.State.{Setup, has_task}
use Rattle.ks_history.specs.Reads.{end_of}
use Rattle.ks_history.specs.History.{at, IsHistory}
use Rattle.ks_history.proofs.Names.{same_task-is}
use Rattle.ks_law_restore.proofs.Lasting.{replica_stands}
use Rattle.ks_law_commit.proofs.Bounds.{replica_is_within}
use Rattle.ks_cache.specs.declared.changelogs.Changelog.{Changelog}
use Rattle.ks_cluster.specs.View.{ClusterView, setup_of}
use Rattle.ks_standby.specs.declared.replica.Replica.{Replica}
use Rattle.ks_standby.specs.Replicas.{replica_view, positions_in, numbers_of}
use Rattle.ks_settle.specs.declared.restoring.Restoration.{Restoration}
use Rattle.ks_settle.specs.Drained.{DrainsOn}
use Rattle.ks_settle.specs.Restoring.{IsReplicaOf, IsReplicaAt, HasReachedFirst}
use Rattle.ks_settle.specs.Restored.{IsGiven, AreGiven, MayBegin, names_in}
use Rattle.ks_settle.specs.Picking.{StandsAt, TakesOf}
use Rattle.ks_settle.proofs.Publishing.{same_setup}

-- ---- where a replica stands
-- a changelog that isn't its own has the position 0
no_position : (ls : List Changelog) (topic : ℕ) → has_topic topic (numbers_of ls) ≡ false → positions_in ls topic ≡ 0
no_position [] topic h = refl
no_position (l ∷ ls) topic h = by (topic == l.topic) h (λ none. no_position ls topic none)
  where
    by : (b : Bool) → (b || has_topic topic (numbers_of ls)) ≡ false → (has_topic topic (numbers_of ls) ≡ false → positions_in ls topic ≡ 0) → cond b l.position (positions_in ls topic) ≡ 0
    by true h rest = absurd (true≢false h)
    by false h rest = rest h

stands_within : (setup : Setup) (journal : List Entry) (r : Replica) → IsReplicaAt setup journal r → (topic : ℕ) → (replica_view r).position topic ≤ end_of (at setup journal) (part_of topic r.id)
stands_within setup journal r h topic = by (has_topic topic (numbers_of r.changelogs.items)) refl
  where
    by : (b : Bool) → has_topic topic (numbers_of r.changelogs.items) ≡ b → (replica_view r).position topic ≤ end_of (at setup journal) (part_of topic r.id)
    by true own = replica_is_within setup journal (replica_view r) topic (sym (ap (has_topic topic) h.changelogs) ∙ own) h.follows
    by false none = omega (arith, no_position r.changelogs.items topic none)

replica_of : (setup : Setup) (journal : List Entry) (t : TaskId) (r : Replica) → r.id ≡ t → IsReplicaAt setup journal r → IsReplicaOf setup journal t r
replica_of setup journal t r named h = subst (λ (u : TaskId). IsReplicaOf setup journal u r) named (record {
  task = refl;
  known = h.known;
  changelogs = h.changelogs;
  follows = h.follows;
  within = stands_within setup journal r h;
})

-- ---- one is taken
any_default : {A : Type 0} (xs : List A) (i : ℕ) (d e : A) → i < length xs → get_or xs i d ≡ get_or xs i e
any_default [] i d e lt = absurd (omega (arith, lt))
any_default (x ∷ xs) zero d e lt = refl
any_default (x ∷ xs) (suc i) d e lt = any_default xs i d e (omega (arith, lt))

pub stands_at : (rs : List Replica) (t : TaskId) (i : ℕ) (r : Replica) (u : TaskId) → i < length rs → r ≡ get_or rs i r → u ≡ r.id → same_task t u ≡ true → StandsAt rs t i
stands_at rs t i r u lt is named same = record {
  within = lt;
  named = λ d. ap (λ (x : Replica). x.id) (any_default rs i d r lt ∙ sym is) ∙ sym named ∙ sym (same_task-is t u same);
}

pub at_place : (slice rs : List Replica) (t : TaskId) (found : Option ℕ) (i : ℕ) → IfSome found (StandsAt slice t) → found ≡ Some i → slice ≡ rs → StandsAt rs t i
at_place slice rs t found i h is same = subst (λ l. StandsAt l t i) same (subst (λ o. IfSome o (StandsAt slice t)) is h)

pub takes_one : (old new : List Replica) (t : TaskId) (i : ℕ) (r : Replica) → StandsAt old t i → r ≡ get_or old i r → new ≡ remove old i → TakesOf t old (Some r) new
takes_one old new t i r at is left = record { place = i; at = at; is = is; left = left }

pub takes_none : (old new : List Replica) (t : TaskId) → new ≡ old → TakesOf t old None new
takes_none old new t same = same

-- of replicas that follow a journal: so do those that are left, and what was taken is one of the task's
given_one : (setup : Setup) (journal : List Entry) (old new : List Replica) (t : TaskId) (taken : Option Replica) → TakesOf t old taken new → All (IsReplicaAt setup journal) old →
    All (IsReplicaAt setup journal) new × IfSome taken (IsReplicaOf setup journal t)
given_one setup journal old new t None same all = (subst (All (IsReplicaAt setup journal)) (sym same) all, tt)
given_one setup journal old new t (Some r) out all =
    let i = out.place in (
      subst (All (IsReplicaAt setup journal)) (sym out.left)
          (All-append (IsReplicaAt setup journal) (take i old) (drop (suc i) old) (All-take (IsReplicaAt setup journal) i old all) (All-drop (IsReplicaAt setup journal) (suc i) old all)),
      replica_of setup journal t r (ap (λ (x : Replica). x.id) out.is ∙ out.at.named r) (subst (IsReplicaAt setup journal) (sym out.is) (all i r out.at.within)),
    )

-- ---- one more task has what was taken
pub one_named : (names : List TaskId) (i : ℕ) (t : TaskId) (all grown : List Restoration) (x : Restoration) → i < length names → x.name ≡ get_or names i t → grown ≡ all ++ x ∷ [] →
    names_in all ≡ take i names → names_in grown ≡ take (i + 1) names
one_named names i t all grown x lt name is was =
    ap names_in is ∙ map-append (λ (y : Restoration). y.name) all (x ∷ []) ∙ ap (λ l. l ++ x.name ∷ []) was ∙ ap (λ (u : TaskId). take i names ++ u ∷ []) name
    ∙ sym (take-suc names i t lt) ∙ ap (λ n. take n names) (sym (add-one i))

pub one_given : (setup : Setup) (journal : List Entry) (left rest : List Replica) (t : TaskId) (taken : Option Replica) (all grown : List Restoration) (x : Restoration) →
    TakesOf t left taken rest → x.name ≡ t → x.replica ≡ taken → grown ≡ all ++ x ∷ [] →
    All (IsReplicaAt setup journal) left × AreGiven setup journal all → All (IsReplicaAt setup journal) rest × AreGiven setup journal grown
one_given setup journal left rest t taken all grown x takes name replica is was =
    let got = given_one setup journal left rest t taken takes was.0 in
    let own : IsGiven setup journal x.name x.replica = subst (λ (u : TaskId). IsGiven setup journal u x.replica) (sym name) (subst (IsGiven setup journal t) (sym replica) got.1) in
    let P : Restoration → Type 0 = λ y. IsGiven setup journal y.name y.replica in
    (got.0, subst (All P) (sym is) (All-append P all (x ∷ []) was.1 (All-cons P x [] own (All-nil P))))

pub may_begin : {W : Type 0} (plan : W → TaskPlan) (c : ClusterView W) (all now : List Restoration) → All (λ (x : Restoration). has_task x.name c.tasks ≡ true) now → now ≡ all → AreGiven (setup_of plan c) c.journal all → All (MayBegin plan c) now
may_begin plan c all now there same given = λ k d lt. (there k d lt, subst (AreGiven (setup_of plan c) c.journal) (sym same) given k d lt)

-- ---- a task is restored from what it was given
pub given_first : (setup : Setup) (journal : List Entry) (t : TaskId) (changelogs : List ℕ) (given : Option Replica) (r : Replica) → IsGiven setup journal t given → given ≡ Some r → HasReachedFirst setup journal t changelogs 0 r
given_first setup journal t changelogs given r h is = record {
  of = subst (λ o. IfSome o (IsReplicaOf setup journal t)) is h;
  ends = λ k lt. absurd (omega (arith, lt));
}

-- ---- whatever the drain writes first
module _ {W : Type 0} (plan : W → TaskPlan) (n : ℕ) (old new : ClusterView W) (on : DrainsOn n old new) (net : IsNetwork (setup_of plan old).plan) (history : IsHistory (setup_of plan new) new.journal) where
  longer : new.journal ≡ old.journal ++ on.more
  longer = ap (λ (c : ClusterView W). c.journal) on.is

  history_is : IsHistory (setup_of plan old) (old.journal ++ on.more)
  history_is = subst (IsHistory (setup_of plan old)) longer (subst (λ s. IsHistory s new.journal) (same_setup plan n old new on) history)

  one_later : (r : Replica) → IsReplicaAt (setup_of plan old) old.journal r → IsReplicaAt (setup_of plan new) new.journal r
  one_later r h = subst (λ s. IsReplicaAt s new.journal r) (sym (same_setup plan n old new on)) (subst (λ j. IsReplicaAt (setup_of plan old) j r) (sym longer) (record {
    known = h.known;
    changelogs = h.changelogs;
    follows = replica_stands (setup_of plan old) old.journal on.more (replica_view r) net history_is h.follows;
  }))

  pub still_replicas : (rs : List Replica) → All (IsReplicaAt (setup_of plan old) old.journal) rs → All (IsReplicaAt (setup_of plan new) new.journal) rs
  still_replicas rs all = All-weaker (IsReplicaAt (setup_of plan old) old.journal) (IsReplicaAt (setup_of plan new) new.journal) one_later rs all
