-- A line that says a record is judged as that record.
use Rattle.std.proofs.Common.{◌≡◌, ℕ, List, Some, refl, sym, ap, ◌∙◌}
use Rattle.ks_job_record.specs.declared.fault.JobKind.TheVariants.{NotJson}
use Rattle.ks_job_record.specs.declared.record.Input.{Input}
use Rattle.ks_job_record.specs.Gives.{◌>>=◌, some_or}
use Rattle.ks_job_record.specs.Says.{Says}
use Rattle.ks_job.specs.Lines.{Spot, record_line, value_line, data_line}
use Rattle.ks_job.specs.Plain.{input_at, input_line, SaysAt}
use Rattle.ks_job.proofs.Cuts.{parsed_is}

said : (s : Spot) (size : ℕ) (topics : List (List ℕ)) (line : List ℕ) (input : Input) (h : Says topics line input) → record_line s size topics h.value ≡ input_at (Some topics) s size input
unfolding record_line
said s size topics line input h = ap (λ r. r >>= λ i. input_at (Some topics) s size i) h.record_is

pub plain_line : (s : Spot) (size : ℕ) (line : List ℕ) (input : Input) → SaysAt s line input → data_line s size line ≡ input_line s size input
unfolding data_line
plain_line s size line input h =
    ap (λ o. some_or NotJson o >>= λ d. value_line s.topics s size d) (sym (parsed_is line line h.says.value h.says.utf8 refl h.says.reads))
    ∙ ap (λ t. value_line t s size h.says.value) h.known
    ∙ said s size h.topics line input h.says
    ∙ ap (λ t. input_at t s size input) (sym h.known)
