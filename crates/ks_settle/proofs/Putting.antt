-- Tasks that were restored side by side, put into their order.
use Rattle.std.proofs.Common.{◌≡◌, ℕ, zero, suc, true, List, [], ◌∷◌, ◌++◌, length, get_or, refl, sym, ap, subst, ◌∙◌, arith, append-nil, append_assoc, Result, Ok, Err, IfOk}
use Rattle.std.specs.declared.alloc.AllocError.{AllocError}
use Rattle.std.specs.List.{All}
use Rattle.std.proofs.lemmas.List.{length-map, map-append}
use Rattle.std.proofs.lemmas.List.Elements.{All-append}
use Rattle.ks_record.specs.declared.record.TaskId.{TaskId}
use Rattle.ks_plan.specs.Drafts.{DraftView}
use Rattle.ks_history.specs.declared.journal.Entry.{Entry}
use Rattle.ks_history.specs.State.{Setup, has_task}
use Rattle.ks_task.specs.declared.task.Task.{Task}
use Rattle.ks_task.specs.Tasks.{task_view}
use Rattle.ks_settle.specs.declared.restoring.Restoration.{Restoration}
use Rattle.ks_settle.specs.Drained.{ids, Rests, HaveCache, AreRestored}
use Rattle.ks_settle.specs.Restored.{names_in, AreTried, ArePutBack}
use Rattle.ks_settle.proofs.Works.{there_in}

get_name : (xs : List Restoration) (k : ℕ) (d : Restoration) → get_or (names_in xs) k d.name ≡ (get_or xs k d).name
get_name [] k d = refl
get_name (x ∷ xs) zero d = refl
get_name (x ∷ xs) (suc k) d = get_name xs k d

-- three facts of what came of restoring it, as one
pub restored_as : (d : DraftView) (setup : Setup) (journal : List Entry) (most : ℕ) (name : TaskId) (r : Result Task AllocError) →
    IfOk r (λ t. Rests d setup journal 0 t) → IfOk r (λ t. (task_view t).task ≡ name) → IfOk r (λ t. t.cache ≡ most) →
    IfOk r (λ t. Rests d setup journal 0 t × ((task_view t).task ≡ name) × (t.cache ≡ most))
restored_as d setup journal most name (Ok t) rests named cached = (rests, named, cached)
restored_as d setup journal most name (Err e) rests named cached = rests

-- each of a cluster's names is that of one of its tasks
pub all_there : (xs now : List Restoration) (all : List TaskId) → names_in xs ≡ all → now ≡ xs → All (λ (x : Restoration). has_task x.name all ≡ true) now
all_there xs now all is same k d lt =
    let named : names_in now ≡ all = ap names_in same ∙ is in
    subst (λ t. has_task t all ≡ true) (get_name now k d) (there_in (names_in now) all k d.name (omega (arith, lt, length-map now (λ (x : Restoration). x.name))) named)

-- none is in its place yet
pub none_put : (d : DraftView) (setup : Setup) (journal : List Entry) (all : List TaskId) (most : ℕ) (old new now : List Restoration) → names_in old ≡ all → AreTried d setup journal most old new → now ≡ new → ArePutBack d setup journal all most [] now
none_put d setup journal all most old new now is tried same = record {
  old = old;
  names = is;
  rest = λ k t lt. absurd (omega (arith, lt));
  caches = λ k t lt. absurd (omega (arith, lt));
  tried = subst (AreTried d setup journal most old) (sym same) tried;
}

only_one : (P : Task → Type 0) (t : Task) → P t → All P (t ∷ [])
only_one P t h zero e lt = h
only_one P t h (suc k) e lt = absurd (omega (arith, lt))

-- one more is
pub one_put : (d : DraftView) (setup : Setup) (journal : List Entry) (all : List TaskId) (most : ℕ) (ts new : List Task) (left rest : List Restoration) (x : Restoration) (t : Task) →
    ArePutBack d setup journal all most ts left → left ≡ x ∷ rest → x.task ≡ Ok t → new ≡ ts ++ t ∷ [] → ArePutBack d setup journal all most new rest
one_put d setup journal all most ts new left rest x t p next got pushed = by p.old p.names (subst (AreTried d setup journal most p.old) next p.tried)
  where
    by : (old : List Restoration) → ids ts ++ names_in old ≡ all → AreTried d setup journal most old (x ∷ rest) → ArePutBack d setup journal all most new rest
    by [] names tried = absurd (omega (arith, tried.count))
    by (o ∷ old) names tried =
        let was : Rests d setup journal 0 t × ((task_view t).task ≡ o.name) × (t.cache ≡ most) =
        subst (λ y. IfOk y (λ u. Rests d setup journal 0 u × ((task_view u).task ≡ o.name) × (u.cache ≡ most))) got (tried.each 0 x (omega arith)) in
        record {
          old = old;
          names = ap (λ (l : List Task). ids l ++ names_in old) pushed ∙ ap (λ l. l ++ names_in old) (map-append (λ (y : Task). (task_view y).task) ts (t ∷ []))
              ∙ append_assoc (ids ts) ((task_view t).task ∷ []) (names_in old) ∙ ap (λ n. ids ts ++ n ∷ names_in old) was.1 ∙ names;
          rest = subst (All (Rests d setup journal 0)) (sym pushed) (All-append (Rests d setup journal 0) ts (t ∷ []) p.rest (only_one (Rests d setup journal 0) t was.0));
          caches = subst (HaveCache most) (sym pushed) (All-append (λ (u : Task). u.cache ≡ most) ts (t ∷ []) p.caches (only_one (λ (u : Task). u.cache ≡ most) t was.2));
          tried = record { count = omega (arith, tried.count); each = λ k y lt. tried.each (suc k) y (omega (arith, lt)) };
        }

-- all of them are
pub all_put : (d : DraftView) (setup : Setup) (journal : List Entry) (all : List TaskId) (most : ℕ) (ts : List Task) (left : List Restoration) → ArePutBack d setup journal all most ts left → length left ≡ 0 → AreRestored d setup journal all most ts
all_put d setup journal all most ts left p none = by p.old p.names p.tried
  where
    by : (old : List Restoration) → ids ts ++ names_in old ≡ all → AreTried d setup journal most old left → AreRestored d setup journal all most ts
    by [] names tried = record { names = sym (append-nil (ids ts)) ∙ names; rest = p.rest; caches = p.caches }
    by (o ∷ old) names tried = absurd (omega (arith, tried.count, none))
