-- The load job is valid, and its records are within grace.
use Rattle.std.proofs.Common.{◌≡◌, ℕ, ◌≤◌, Some, None, option_map, refl, sym, ap, subst, ◌∙◌}
use Rattle.std.specs.Option.{option_or, unwrap_or}
use Rattle.ks_plan.specs.Drafts.{DraftView}
use Rattle.ks_plan.specs.Plan.{plan_of}
use Rattle.ks_query.specs.Grace.{IsWithinGrace}
use Rattle.ks_words.specs.Load.{load_text}
use Rattle.ks_job.specs.Reader.{Reader, Reading, Faulty, whole}
use Rattle.ks_job.specs.Phases.{IsReading}
use Rattle.ks_law_inputs.specs.Records.{records_of}
use Rattle.ks_law_load_job.specs.Items.{load_draft, load_items}
use Rattle.ks_law_load_job.proofs.Valid.{in_time, well_formed}
use Rattle.ks_law_load_job.proofs.WholeJob.{load_read}
use Rattle.ks_job_source.specs.declared.stop.JobStop.TheVariants.{BadTopology}
use Rattle.ks_job_source.specs.Stops.{topology_stop, line_stop}
use Rattle.ks_run_verdict.specs.Journals.{draft_in, IsInTime}

no_line_stop : (r : Reader) → IsReading r → line_stop r ≡ None
no_line_stop (Reading s begun) h = refl
no_line_stop (Faulty n k) h = absurd h

no_topology_stop : (orders : ℕ) → topology_stop (load_items orders) ≡ None
no_topology_stop orders = ap (option_map (BadTopology 1)) well_formed

some_draft : (a b : DraftView) → Some a ≡ Some b → a ≡ b
some_draft a b e = ap (λ o. unwrap_or o a) e

pub load_in_time : (orders : ℕ) → orders ≤ 150000 → IsInTime (Some (load_text orders))
load_in_time orders few =
    let read = load_read orders few in
    let items = (whole (load_text orders)).items in
    record {
      bytes = load_text orders;
      known = refl;
      unstopped = ap (λ o. option_or o (line_stop (whole (load_text orders)).reader)) (ap topology_stop read.given ∙ no_topology_stop orders) ∙ no_line_stop (whole (load_text orders)).reader read.reading;
      in_time = λ d e. subst (λ (x : DraftView). IsWithinGrace (plan_of x) (records_of items)) (some_draft load_draft d (sym (ap draft_in read.given) ∙ e)) (in_time (records_of items));
    }
