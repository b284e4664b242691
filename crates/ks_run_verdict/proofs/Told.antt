-- What is told of a settled cluster is what its text says.
use Rattle.std.proofs.Common.{◌≡◌, ◌⊎◌, inl, inr, ℕ, List, refl, sym, subst, ◌∙◌, Bool, true, false, cond}
use Rattle.std.specs.Prelude.{◌==◌, Option, Some, None}
use Rattle.std.proofs.lemmas.Bool.{eqb-true, eq-eqb, true≢false}
use Rattle.ks_plan.specs.Drafts.{DraftView}
use Rattle.ks_plan.specs.Plan.{plan_of}
use Rattle.ks_query.specs.Streams.{Input}
use Rattle.ks_query.specs.Printed.{job_tables}
use Rattle.ks_def_tasks.specs.Messages.{Rules}
use Rattle.ks_def_tasks.specs.Collision.{NoCollision}
use Rattle.ks_history.specs.declared.journal.Entry.{Entry}
use Rattle.ks_law_settled.specs.Collision.{NodePair, first_pair}
use Rattle.ks_law_settled.specs.Folded.{folded_tables}
use Rattle.ks_law_settled.specs.Replayed.{decoded_run}
use Rattle.ks_law_settled.specs.Settled.{IsRunOf, end_of}
use Rattle.ks_law_settled.proofs.Tables.{tables_same, plain_same, counts_at_most, total_lack, in_time_none}
use Rattle.ks_law_settled.proofs.Collisions.{none_in_run, none_found}
use Rattle.ks_run_output.specs.Texts.{settled_text, late_text}
use Rattle.ks_run_verdict.specs.Journals.{IsJournal}
use Rattle.ks_run_verdict.specs.Told.{Wanted, told_by, told, refusal_of, wanted_at, IsText, TellsQuery, TellsLate, TellsCollision, pair_text}
use Rattle.ks_settle_report.specs.Joins.{named}

abbrev pub Tells : Rules → Wanted → DraftView → List Input → ℕ → List ℕ → List Entry → Type 0
Tells rules wanted d records status text journal =
    ((status ≡ 0) × TellsQuery rules wanted d records text journal)
    ⊎ (((status ≡ 3) × TellsLate rules wanted d records text journal)
    ⊎ ((status ≡ 5) × TellsCollision rules wanted d text journal))

run_of : (rules : Rules) (d : DraftView) (records : List Input) (journal : List Entry) → IsJournal rules d records journal → IsRunOf rules d records journal
run_of rules d records journal h = record { job = h.job; done = record { history = h.history; produced = h.produced; settled = h.settled; few = h.few } }

not_zero : (n : ℕ) → (n == 0) ≡ false → n ≡ 0 → ⊥
not_zero n e is = true≢false (sym (eq-eqb n 0 is) ∙ e)

module _ (rules : Rules) (wanted : Wanted) (d : DraftView) (records : List Input) (journal : List Entry) (h : IsJournal rules d records journal) (none : first_pair rules.hash (plan_of d) (end_of rules d journal) ≡ None) where
  run : IsRunOf rules d records journal
  run = run_of rules d records journal h

  apart : NoCollision rules (plan_of d) (decoded_run rules (plan_of d) records journal)
  apart = none_in_run rules d records journal run (none_found rules d records journal run none)

  tells_query : (end_of rules d journal).late ≡ 0 → (text : List ℕ) → IsText rules d wanted journal (settled_text (folded_tables d (end_of rules d journal))) text → TellsQuery rules wanted d records text journal
  tells_query late text t =
      let folds : folded_tables d (end_of rules d journal) ≡ job_tables d records = tables_same rules d records journal run apart late in
      record { alone = none; in_time = late; folds = folds; printed = subst (λ ts. IsText rules d wanted journal (settled_text ts) text) folds t }

  tells_late : ((end_of rules d journal).late ≡ 0 → ⊥) → (text : List ℕ) → IsText rules d wanted journal (late_text (end_of rules d journal).late (folded_tables d (end_of rules d journal))) text → TellsLate rules wanted d records text journal
  tells_late some text t = record {
    alone = none;
    some = some;
    over = λ grace. some (in_time_none rules d records journal run grace);
    others = plain_same rules d records journal run apart;
    counts = record { at_most = counts_at_most rules d records journal run; total = total_lack rules d records journal run };
    printed = t;
  }

  alone : (status : ℕ) (text : List ℕ) (b : Bool) → ((end_of rules d journal).late == 0) ≡ b →
      status ≡ (cond {A = ℕ × List ℕ} b (0, settled_text (folded_tables d (end_of rules d journal))) (3, late_text (end_of rules d journal).late (folded_tables d (end_of rules d journal)))).0 →
      IsText rules d (wanted_at status wanted) journal (cond {A = ℕ × List ℕ} b (0, settled_text (folded_tables d (end_of rules d journal))) (3, late_text (end_of rules d journal).late (folded_tables d (end_of rules d journal)))).1 text →
      Tells rules wanted d records status text journal
  alone status text true is s t = inl (s, tells_query (eqb-true (end_of rules d journal).late 0 is) text (subst (λ n. IsText rules d (wanted_at n wanted) journal (settled_text (folded_tables d (end_of rules d journal))) text) s t))
  alone status text false is s t =
      inr (inl (s, tells_late (not_zero (end_of rules d journal).late is) text (subst (λ n. IsText rules d (wanted_at n wanted) journal (late_text (end_of rules d journal).late (folded_tables d (end_of rules d journal))) text) s t)))

pub tells : (rules : Rules) (wanted : Wanted) (d : DraftView) (records : List Input) (status : ℕ) (text : List ℕ) (journal : List Entry) → refusal_of d wanted ≡ None → IsJournal rules d records journal →
    status ≡ (told rules d (end_of rules d journal)).0 → IsText rules d (wanted_at status wanted) journal (told rules d (end_of rules d journal)).1 text → Tells rules wanted d records status text journal
tells rules wanted d records status text journal good h s t = by (first_pair rules.hash (plan_of d) (end_of rules d journal)) refl s t
  where
    by : (o : Option NodePair) → first_pair rules.hash (plan_of d) (end_of rules d journal) ≡ o → status ≡ (told_by d (end_of rules d journal) o).0 → IsText rules d (wanted_at status wanted) journal (told_by d (end_of rules d journal) o).1 text → Tells rules wanted d records status text journal
    by (Some c) is s t = inr (inr (s, record { pair = c; first = is; good_ask = good; printed = subst (λ n. IsText rules d (wanted_at n wanted) journal (pair_text (named d c)) text) s t }))
    by None is s t = alone rules wanted d records journal h is status text ((end_of rules d journal).late == 0) refl s t
