-- Tasks that read a topic side by side, and are put back in their order.
use Rattle.std.proofs.Common.{◌≡◌, ℕ, zero, suc, ◌+◌, true, List, [], ◌∷◌, ◌++◌, length, get_or, refl, sym, ap, subst, ◌∙◌, arith, append-nil, append_assoc, Option, Ok, IfOk}
use Rattle.std.specs.Prelude.{option_map}
use Rattle.std.proofs.Math.ListN.{set}
use Rattle.std.proofs.Math.Seq.{get_or-append_seam, set-append_seam}
use Rattle.std.specs.List.{All}
use Rattle.std.proofs.lemmas.List.{length-append, length-map, map-append}
use Rattle.ks_plan.specs.Drafts.{DraftView}
use Rattle.ks_history.specs.declared.journal.Entry.{Entry}
use Rattle.ks_history.specs.State.{Setup, are_once}
use Rattle.ks_law_restore.specs.Views.{WorkView}
use Rattle.ks_commit.specs.declared.work.Frozen.{Frozen}
use Rattle.ks_commit.specs.Work.{work_view}
use Rattle.ks_task.specs.declared.task.Task.{Task}
use Rattle.ks_settle.specs.declared.draining.Attempt.{Attempt}
use Rattle.ks_settle.specs.Drained.{with_work, IsRead, Rests, tasks_in, caches_in, AreTried, ArePutBack, AreReading}
use Rattle.ks_settle.proofs.Works.{one_task_more}

get_task : (xs : List Attempt) (k : ℕ) (d : Attempt) → get_or (tasks_in xs) k d.task ≡ (get_or xs k d).task
get_task [] k d = refl
get_task (x ∷ xs) zero d = refl
get_task (x ∷ xs) (suc k) d = get_task xs k d

-- before any task has read, all of them rest
pub all_rest : (draft : DraftView) (setup : Setup) (journal : List Entry) (topic : ℕ) (xs now : List Attempt) (ts : List Task) → AreReading draft setup journal topic 0 ts [] → tasks_in xs ≡ ts → now ≡ xs → All (λ (x : Attempt). Rests draft setup journal topic x.task) now
all_rest draft setup journal topic xs now ts r is same k d lt =
    let at : get_or ts k d.task ≡ (get_or now k d).task = ap (λ (l : List Task). get_or l k d.task) (sym is ∙ ap tasks_in (sym same)) ∙ get_task now k d in
    let many : length ts ≡ length now = sym (ap length is) ∙ length-map xs (λ (x : Attempt). x.task) ∙ sym (ap length same) in
    subst (Rests draft setup journal topic) at (r.rest k d.task (omega arith) (omega (arith, lt, many))).0

pub none_put : (draft : DraftView) (setup : Setup) (journal : List Entry) (topic : ℕ) (old new now : List Attempt) (ts : List Task) → AreReading draft setup journal topic 0 ts [] → tasks_in old ≡ ts → AreTried draft setup journal topic old new → now ≡ new → ArePutBack draft setup journal topic (caches_in ts) [] now []
none_put draft setup journal topic old new now ts r is tried same = record {
  old = old;
  reading = subst (λ (l : List Task). AreReading draft setup journal topic 0 l []) (sym is) r;
  caches = ap caches_in is;
  tried = subst (AreTried draft setup journal topic old) (sym same) tried;
}

-- a task in another's place has its cache
one_cached : (ts new rest : List Task) (o t : Task) (cs : List ℕ) → new ≡ ts ++ t ∷ [] → t.cache ≡ o.cache → caches_in (ts ++ o ∷ rest) ≡ cs → caches_in (new ++ rest) ≡ cs
one_cached ts new rest o t cs pushed same is =
    ap (λ (l : List Task). caches_in (l ++ rest)) pushed ∙ ap caches_in (append_assoc ts (t ∷ []) rest) ∙ map-append (λ (x : Task). x.cache) ts (t ∷ rest) ∙ ap (λ n. caches_in ts ++ n ∷ caches_in rest) same
    ∙ sym (map-append (λ (x : Task). x.cache) ts (o ∷ rest)) ∙ is

-- one task more is put back
pub one_put : (draft : DraftView) (setup : Setup) (journal : List Entry) (topic : ℕ) (cs : List ℕ) (ts new : List Task) (left rest : List Attempt) (x : Attempt) (f : Option Frozen) (fs gs : List WorkView) → are_once setup.tasks ≡ true →
    ArePutBack draft setup journal topic cs ts left fs → left ≡ x ∷ rest → x.work ≡ Ok f → new ≡ ts ++ x.task ∷ [] → gs ≡ with_work fs (option_map work_view f) → ArePutBack draft setup journal topic cs new rest gs
one_put draft setup journal topic cs ts new left rest x f fs gs once p next got pushed kept = by p.old p.reading p.caches (subst (AreTried draft setup journal topic p.old) next p.tried)
  where
    by : (old : List Attempt) → AreReading draft setup journal topic (length ts) (ts ++ tasks_in old) fs → caches_in (ts ++ tasks_in old) ≡ cs → AreTried draft setup journal topic old (x ∷ rest) → ArePutBack draft setup journal topic cs new rest gs
    by [] r caches tried = absurd (omega (arith, tried.count))
    by (o ∷ old) r caches tried =
        let read : IsRead draft setup journal topic o.task x.task (option_map work_view f) = subst (λ y. IfOk y (λ u. IsRead draft setup journal topic o.task x.task (option_map work_view u))) got (tried.each 0 x (omega arith)) in
        let more : AreReading draft setup journal topic (length ts + 1) (set (ts ++ o.task ∷ tasks_in old) (length ts) x.task) (with_work fs (option_map work_view f)) =
        one_task_more draft setup journal topic (length ts) (ts ++ o.task ∷ tasks_in old) fs o.task x.task (option_map work_view f) once r (omega (arith, length-append ts (o.task ∷ tasks_in old))) (sym (get_or-append_seam ts o.task (tasks_in old) o.task)) read in
        let place : length ts + 1 ≡ length new = sym (ap length pushed ∙ length-append ts (x.task ∷ [])) in
        let all : set (ts ++ o.task ∷ tasks_in old) (length ts) x.task ≡ new ++ tasks_in old =
        set-append_seam ts o.task (tasks_in old) x.task ∙ sym (ap (λ (l : List Task). l ++ tasks_in old) pushed ∙ append_assoc ts (x.task ∷ []) (tasks_in old)) in
        record {
          old = old;
          reading = subst (λ (l : List WorkView). AreReading draft setup journal topic (length new) (new ++ tasks_in old) l) (sym kept)
              (subst (λ (l : List Task). AreReading draft setup journal topic (length new) l (with_work fs (option_map work_view f))) all
              (subst (λ (n : ℕ). AreReading draft setup journal topic n (set (ts ++ o.task ∷ tasks_in old) (length ts) x.task) (with_work fs (option_map work_view f))) place more));
          caches = one_cached ts new (tasks_in old) o.task x.task cs pushed read.cache caches;
          tried = record { count = omega (arith, tried.count); each = λ k y lt. tried.each (suc k) y (omega (arith, lt)) };
        }

-- all of them were
pub all_put : (draft : DraftView) (setup : Setup) (journal : List Entry) (topic : ℕ) (cs : List ℕ) (ts : List Task) (left : List Attempt) (fs : List WorkView) → ArePutBack draft setup journal topic cs ts left fs → length left ≡ 0 → AreReading draft setup journal topic (length ts) ts fs
all_put draft setup journal topic cs ts left fs p none = by p.old p.reading p.tried
  where
    by : (old : List Attempt) → AreReading draft setup journal topic (length ts) (ts ++ tasks_in old) fs → AreTried draft setup journal topic old left → AreReading draft setup journal topic (length ts) ts fs
    by [] r tried = subst (λ (l : List Task). AreReading draft setup journal topic (length ts) l fs) (append-nil ts) r
    by (o ∷ old) r tried = absurd (omega (arith, tried.count, none))

pub all_cached : (draft : DraftView) (setup : Setup) (journal : List Entry) (topic : ℕ) (cs : List ℕ) (ts : List Task) (left : List Attempt) (fs : List WorkView) → ArePutBack draft setup journal topic cs ts left fs → length left ≡ 0 → caches_in ts ≡ cs
all_cached draft setup journal topic cs ts left fs p none = by p.old p.caches p.tried
  where
    by : (old : List Attempt) → caches_in (ts ++ tasks_in old) ≡ cs → AreTried draft setup journal topic old left → caches_in ts ≡ cs
    by [] is tried = subst (λ (l : List Task). caches_in l ≡ cs) (append-nil ts) is
    by (o ∷ old) is tried = absurd (omega (arith, tried.count, none))
