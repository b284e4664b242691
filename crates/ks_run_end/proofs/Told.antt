-- What stands behind a run's tables is what is wanted of it.
use Rattle.std.proofs.Common.{◌≡◌, ℕ, ◌≤◌, ◌==◌, Bool, true, false, cond, List, [], ◌∷◌, ◌++◌, None, refl, sym, ap, subst, ◌∙◌, append_assoc, arith}
use Rattle.std.proofs.lemmas.Bool.{leb-true, leb-false}
use Rattle.std.proofs.lemmas.List.Concat.{flat_map-append}
use Rattle.std.specs.Prelude.{nat_le, Result, Ok, Err, OnOk}
use Rattle.std.specs.List.{All, flat_map}
use Rattle.std.proofs.lemmas.List.Elements.{All-nil, All-cons, All-append, All-weaker, All-head, All-tail}
use Rattle.ks_plan.specs.Drafts.{DraftView}
use Rattle.ks_plan.specs.Plan.{plan_of}
use Rattle.ks_plan.specs.Faults.{fault_of}
use Rattle.ks_def_tasks.specs.Messages.{Rules}
use Rattle.ks_def_tasks.specs.Rules.{rules_of}
use Rattle.ks_history.specs.declared.journal.Entry.{Entry}
use Rattle.ks_history.specs.declared.transaction.Producer.{Producer}
use Rattle.ks_history.specs.Machine.{TaskPlan, IsNetwork}
use Rattle.ks_history.specs.State.{State, Setup}
use Rattle.ks_history.specs.Reads.{end_of}
use Rattle.ks_history.specs.History.{at, IsHistory}
use Rattle.ks_history.specs.Settled.{IsSettled}
use Rattle.ks_cluster.specs.View.{ClusterView, setup_of, state_of}
use Rattle.ks_law_topology.specs.Work.{setup_of as topology_setup}
use Rattle.ks_law_settled.specs.Settled.{end_of as state_left}
use Rattle.ks_commit.proofs.Epochs.{has_seventeen}
use Rattle.ks_settle.specs.Drained.{MayDrain, Extends}
use Rattle.ks_settle.specs.Restoring.{IsQuiet}
use Rattle.ks_settle.proofs.Ordering.{may_drain}
use Rattle.ks_iq.specs.declared.ask.Ask.{Ask}
use Rattle.ks_iq.specs.declared.answer.Answer.{Answer}
use Rattle.ks_iq.specs.Asks.{part_of_ask}
use Rattle.ks_iq.specs.Reads.{IsRead, ReadsTopology}
use Rattle.ks_iq.specs.Answered.{last_position, PositionsRise, AreAnswers}
use Rattle.ks_iq.proofs.Lasting.{reads_last, read_within}
use Rattle.ks_run_ask.specs.Texts.{answer_line}
use Rattle.ks_run_end.specs.declared.tail.Tail.{Tail}
use Rattle.ks_run_end.specs.declared.tail.Tail.TheVariants.{Nothing, Lines, Answers, Refusal}
use Rattle.ks_run_end.specs.Tails.{wanted_of, MayTell, nothing_for, without_answers, IsTailOf, IsToldBy}
use Rattle.ks_run_end.proofs.Drained.{drained_setup}
use Rattle.ks_run_verdict.specs.Told as told
use Rattle.ks_run_verdict.specs.Told.{wanted_at, IsTail, IsText}

pub on_ok : {A E P Q : Type 0} (r : Result A E) → (P → Q) → OnOk r P → OnOk r Q
on_ok (Ok x) f h = f h
on_ok (Err e) f h = h

-- ---- what stands there at a status
pub same_shown : (status : ℕ) (wanted : Tail) → nothing_for wanted ≡ wanted → without_answers status wanted ≡ wanted
same_shown status wanted e = by (status == 5)
  where
    by : (b : Bool) → cond b (nothing_for wanted) wanted ≡ wanted
    by true = e
    by false = refl

pub answers_hidden : (status : ℕ) (wanted : Tail) → (status == 5) ≡ true → without_answers status wanted ≡ nothing_for wanted
answers_hidden status wanted e = ap (λ b. cond b (nothing_for wanted) wanted) e

pub answers_shown : (status : ℕ) (wanted : Tail) → (status == 5) ≡ false → without_answers status wanted ≡ wanted
answers_shown status wanted e = ap (λ b. cond b (nothing_for wanted) wanted) e

-- ---- the lines of some answers, and then of one more
pub lines_both : (front : List ℕ) (given : List Answer) (last : Answer) → (front ++ flat_map answer_line given) ++ flat_map answer_line (last ∷ []) ≡ front ++ flat_map answer_line (given ++ last ∷ [])
lines_both front given last =
    append_assoc front (flat_map answer_line given) (flat_map answer_line (last ∷ [])) ∙ ap (λ l. front ++ l) (sym (flat_map-append answer_line given (last ∷ [])))

-- ---- no position is past the end
least : (n : ℕ) → 0 ≤ n
least n = omega arith

module _ (d : DraftView) (setup : Setup) (journal : List Entry) (a : Ask) (top : ReadsTopology d setup) where
  all_within : (xs : List Answer) → All (IsRead d (at setup journal) a) xs → last_position xs ≤ end_of (at setup journal) (part_of_ask d a)
  all_within [] h = least (end_of (at setup journal) (part_of_ask d a))
  all_within (x ∷ []) h = read_within d setup journal a x top (All-head (IsRead d (at setup journal) a) x [] h)
  all_within (x ∷ y ∷ ys) h = all_within (y ∷ ys) (All-tail (IsRead d (at setup journal) a) x (y ∷ ys) h)

  pub last_within : (xs : List Answer) → AreAnswers d (at setup journal) a 0 xs → last_position xs ≤ end_of (at setup journal) (part_of_ask d a)
  last_within xs h = all_within xs h.reads

-- ---- what may be told before a drain may be told after it
pub may_tell_on : {W : Type 0} (plan : W → TaskPlan) (d : DraftView) (old new : ClusterView W) (wanted : Tail) → ReadsTopology d (setup_of plan new) → IsNetwork (setup_of plan new).plan → IsHistory (setup_of plan new) new.journal → Extends old new →
    MayTell d (state_of plan old) wanted → MayTell d (state_of plan new) wanted
may_tell_on plan d old new Nothing top net history more h = tt
may_tell_on plan d old new Lines top net history more h = tt
may_tell_on plan d old new (Refusal fault) top net history more h = tt
may_tell_on plan d old new (Answers ask given) top net history more h =
    let same : setup_of plan old ≡ setup_of plan new = sym (drained_setup plan old new more) in
    let here : AreAnswers d (at (setup_of plan new) old.journal) ask 0 given.items = subst (λ (s : Setup). AreAnswers d (at s old.journal) ask 0 given.items) same h.2 in
    let here_on : IsHistory (setup_of plan new) (old.journal ++ more.prefix.0) = subst (IsHistory (setup_of plan new)) more.prefix.1 history in (
      h.0,
      h.1,
      record {
        reads = All-weaker (IsRead d (at (setup_of plan new) old.journal) ask) (IsRead d (state_of plan new) ask)
            (λ x read. subst (λ j. IsRead d (at (setup_of plan new) j) ask x) (sym more.prefix.1) (reads_last d (setup_of plan new) old.journal more.prefix.0 ask x top net here_on read)) given.items here.reads;
        rise = here.rise;
      },
    )

-- ---- a settled cluster is at rest
pub is_quiet : {W : Type 0} (plan : W → TaskPlan) (hash : List ℕ → ℕ) (d : DraftView) (c : ClusterView W) → setup_of plan c ≡ topology_setup (rules_of hash) (plan_of d) → fault_of d ≡ None → IsHistory (setup_of plan c) c.journal →
    IsSettled (setup_of plan c) (state_of plan c) → IsQuiet plan c
is_quiet plan hash d c setup fine history settled = record {
  may = subst MayDrain (sym setup) (may_drain hash d fine);
  idle = λ w. by w (nat_le w 16) refl;
}
  where
    by : (w : ℕ) (b : Bool) → nat_le w 16 ≡ b → ((state_of plan c).producer w).undecided ≡ None × (((state_of plan c).producer w).waiting ≡ [])
    by w true e = (settled.undecided w (leb-true w 16 e), settled.waiting w (leb-true w 16 e))
    by w false e =
        let new = has_seventeen (setup_of plan c) c.journal (subst MayDrain (sym setup) (may_drain hash d fine)).network history w (leb-false w 16 e) in
        (ap (λ (p : Producer). p.undecided) new, ap (λ (p : Producer). p.waiting) new)

pub reads_the : (hash : List ℕ → ℕ) (d : DraftView) (setup : Setup) → setup ≡ topology_setup (rules_of hash) (plan_of d) → ReadsTopology d setup
reads_the hash d setup is = record {
  changelogs = λ sub. ap (λ (s : Setup). s.plan.changelogs sub) is;
  tasks = ap (λ (s : Setup). s.tasks) is;
}

-- ---- the text
-- none falls by one more that stands no lower than the last
rise_by : (from : ℕ) (y : Answer) (ys : List Answer) (x : Answer) → PositionsRise from (y ∷ ys) → last_position (y ∷ ys) ≤ x.position → PositionsRise from (y ∷ ys ++ x ∷ [])
rise_by from y [] x h bound = (h.0, (bound, tt))
rise_by from y (z ∷ ys) x h bound = (h.0, rise_by y.position z ys x h.1 bound)

rise_last : (xs : List Answer) (x : Answer) → PositionsRise 0 xs → last_position xs ≤ x.position → PositionsRise 0 (xs ++ x ∷ [])
rise_last [] x h bound = (bound, tt)
rise_last (y ∷ ys) x h bound = rise_by 0 y ys x h bound

module _ (rules : Rules) (d : DraftView) (journal : List Entry) (s : State) (same : s ≡ state_left rules d journal) (within : (a : Ask) (xs : List Answer) → AreAnswers d s a 0 xs → last_position xs ≤ end_of s (part_of_ask d a)) where
  tail_is : (wanted : Tail) (tail : List ℕ) → MayTell d s wanted → IsTailOf d s wanted journal tail → IsTail rules d (wanted_of wanted) journal tail
  tail_is Nothing tail may h = h
  tail_is Lines tail may h = h
  tail_is (Refusal fault) tail may h = h
  tail_is (Answers ask given) tail may h =
      let first = given.items in
      let all : AreAnswers d s ask 0 (first ++ h.last ∷ []) = record {
        reads = All-append (IsRead d s ask) first (h.last ∷ []) may.2.reads (All-cons (IsRead d s ask) h.last [] h.read (All-nil (IsRead d s ask)));
        rise = rise_last first h.last may.2.rise (subst (λ n. last_position first ≤ n) (sym h.ends) (within ask first may.2));
      } in
      record {
        first = first;
        last = h.last;
        sixteen = may.1;
        reads = subst (λ (k : State). AreAnswers d k ask 0 (first ++ h.last ∷ [])) same all;
        ends = h.ends ∙ ap (λ (k : State). end_of k (part_of_ask d ask)) same;
        lines = h.lines_are;
      }

  nothing_is : (wanted : Tail) (tail : List ℕ) → IsTailOf d s (nothing_for wanted) journal tail → IsTail rules d (told.without_answers (wanted_of wanted)) journal tail
  nothing_is Nothing tail h = h
  nothing_is Lines tail h = h
  nothing_is (Refusal fault) tail h = h
  nothing_is (Answers ask given) tail h = h

  by_status : (b : Bool) (wanted : Tail) (tail : List ℕ) → MayTell d s wanted → IsTailOf d s (cond b (nothing_for wanted) wanted) journal tail → IsTail rules d (cond b (told.without_answers (wanted_of wanted)) (wanted_of wanted)) journal tail
  by_status true wanted tail may h = nothing_is wanted tail h
  by_status false wanted tail may h = tail_is wanted tail may h

  pub text_is : (wanted : Tail) (t : ℕ × List ℕ) (text : List ℕ) → MayTell d s wanted → IsToldBy d s wanted journal t text → IsText rules d (wanted_at t.0 (wanted_of wanted)) journal t.1 text
  text_is wanted t text may h = record { tail = h.tail; is_tail = by_status (t.0 == 5) wanted h.tail may h.is_tail; printed = h.printed }
