-- One record is taken, and its work committed.
use Rattle.std.proofs.Common.{◌≡◌, ℕ, Bool, true, false, cond, ◌||◌, inl, [], ◌∷◌, ◌++◌, refl, sym, ap, subst, ◌∙◌, arith}
use Rattle.std.specs.Prelude.{◌==◌}
use Rattle.std.proofs.lemmas.Bool.{eqb-true, true≢false}
use Rattle.ks_record.specs.Records.{Record as Rec}
use Rattle.ks_record.specs.Parts.{same_part}
use Rattle.ks_history.specs.Machine.{has_topic, part_of}
use Rattle.ks_history.specs.State.{offset_in}
use Rattle.ks_history.specs.Faithful.{decided}
use Rattle.ks_history.specs.History.{at}
use Rattle.ks_law_exactly_once.specs.Example.{setup, the_task, changelog, one_commit}
use Rattle.ks_law_exactly_once.proofs.Written.{commit_history, is_network}
use Rattle.ks_law_restore.specs.Views.{Stands, IsNext, IsFrozen, IsWork, IsPast, AreEnds, fresh_view, committed_view, pending_work, recs_at}
use Rattle.ks_law_restore.specs.Commits.{OneCommit}
use Rattle.ks_law_restore.specs.Example.{produced, rest, taker, work, ends}
use Rattle.ks_law_restore.proofs.Freezing.{fresh_stands, frozen_is_work}
use Rattle.ks_law_restore.proofs.Taking.{taking_stands}
use Rattle.ks_law_restore.proofs.Committing.{committed_stands}

-- topic 1 is the only changelog
only_one : (topic : ℕ) → has_topic topic (1 ∷ []) ≡ true → topic ≡ 1
only_one topic h = by (topic == 1) refl h
  where
    by : (b : Bool) → (topic == 1) ≡ b → (b || false) ≡ true → topic ≡ 1
    by true is e = eqb-true topic 1 is
    by false is e = absurd (true≢false (sym e))

pub fresh : (rec : Rec) → Stands setup (produced rec) (fresh_view the_task)
fresh rec = fresh_stands setup (produced rec) the_task (λ topic h. refl) (λ topic h. ap (λ n. decided (at setup (produced rec)) (part_of n the_task)) (only_one topic h))

pub next : (rec : Rec) → IsNext setup (at setup (produced rec)) (fresh_view the_task) 0 0 rec
next rec = record { input = refl; rest = []; first = refl }

pub taken : (rec : Rec) → Stands setup (produced rec) (taker rec)
taken rec = taking_stands setup (produced rec) (fresh_view the_task) 0 0 rec is_network (next rec) (fresh rec)

pub frozen : (rec : Rec) → IsFrozen setup.plan (taker rec) (work rec)
frozen rec = record { task = refl; offsets = refl; order = refl; late = omega arith; outputs = λ q. by (same_part q changelog); once = refl }
  where
    by : (b : Bool) → cond b ((rec ∷ []) ++ []) [] ≡ [] ++ cond b (rec ∷ []) []
    by true = refl
    by false = refl

pub is_work : (rec : Rec) → IsWork setup (at setup (produced rec)) (work rec)
is_work rec = frozen_is_work setup (produced rec) (taker rec) (work rec) is_network (taken rec) (frozen rec) refl refl

pub one : (rec : Rec) → OneCommit setup (at setup (produced rec)) (rest rec) (pending_work (work rec))
one rec = (0, refl)

pub are_ends : (rec : Rec) → AreEnds setup (at setup (one_commit rec)) (work rec) ends
are_ends rec = record {
  named = λ topic old h some. subst (λ n. IsPast (at setup (one_commit rec)) (part_of n the_task) (offset_in old n ends)) (sym (only_one topic h)) (record { past = refl; reached = inl (omega arith) });
  others = λ topic old h none. absurd (filled topic (only_one topic h) none);
}
  where
    filled : (topic : ℕ) → topic ≡ 1 → recs_at (part_of topic the_task) (work rec).outputs ≡ [] → ⊥
    filled topic is none =
        let e : rec ∷ [] ≡ [] = ap (λ n. recs_at (part_of n the_task) (work rec).outputs) (sym is) ∙ none in
        absurd cc

pub committed : (rec : Rec) → Stands setup (one_commit rec) (committed_view (taker rec) ends)
committed rec = committed_stands setup (produced rec) (rest rec) (taker rec) (work rec) ends is_network (commit_history rec) (taken rec) (frozen rec) (one rec) (are_ends rec)
