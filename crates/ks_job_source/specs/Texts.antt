-- How a job that is refused is told.
use Rattle.std.specs.Prelude.{ℕ, List, [], ◌∷◌, ◌++◌, codes, decimal}
use Rattle.ks_plan.specs.declared.fault.TopoFault.{TopoFault}
use Rattle.ks_plan.specs.declared.fault.TopoFault.TheVariants.{UnknownInput, WrongKind, DuplicateName, NotCopartitioned, TooMany, BadWindow, SinkOnly}
use Rattle.ks_job_record.specs.Texts.{name_text, limit_text, fault_text}
use Rattle.ks_job_source.specs.declared.stop.JobStop.{JobStop}
use Rattle.ks_job_source.specs.declared.stop.JobStop.TheVariants.{BadLine, BadTopology}

abbrev pub topology_text : TopoFault → List ℕ
topology_text (UnknownInput name) = codes "10 UnknownInput " ++ name_text name
topology_text (WrongKind name) = codes "11 WrongKind " ++ name_text name
topology_text (DuplicateName name) = codes "12 DuplicateName " ++ name_text name
topology_text (NotCopartitioned left right) = (codes "13 NotCopartitioned " ++ name_text left) ++ codes " " ++ name_text right
topology_text (TooMany what limit) = limit_text what limit
topology_text (BadWindow name) = codes "15 BadWindow " ++ name_text name
topology_text (SinkOnly name) = codes "16 SinkOnly " ++ name_text name

abbrev pub stop_line : JobStop → ℕ
stop_line (BadLine line kind) = line
stop_line (BadTopology line fault) = line

abbrev pub stop_fault : JobStop → List ℕ
stop_fault (BadLine line kind) = fault_text kind
stop_fault (BadTopology line fault) = topology_text fault

unfoldable pub bad_job_text : JobStop → List ℕ
bad_job_text s = codes "bad job line " ++ decimal (stop_line s) ++ codes ": " ++ stop_fault s ++ 10 ∷ []
