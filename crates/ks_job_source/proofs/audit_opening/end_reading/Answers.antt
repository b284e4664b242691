use Rattle.std.proofs.Common.{◌≡◌, ℕ, List, [], subst, sym, arith, rules}
use Rattle.std.specs.Prelude.{IfSome, Option, Some, Result, Ok, Err, ⊤}
use Rattle.ks_job.specs.declared.judge.JobItem.{JobItem}
use Rattle.ks_job.specs.Items.{item_views}
use Rattle.ks_job.specs.Phases.{TellsFault}
use Rattle.ks_job.specs.Reader.{Reader, end_of}
use Rattle.ks_job.specs.declared.reader.JobFault.{JobFault}
use Rattle.ks_job_source.proofs.Machines.{few_bytes}
use Rattle.ks_job_source.specs.AuditOpening.{EndFinds, Found, FoundIn, IsBefore, or_fault}
use Rattle.ks_job_source.proofs.AuditOpens.{end_finds, end_ready, end_lacks, end_stops}
use Rattle.ks_job_source.proofs.audit_opening.end_reading.Goals as goal

pub returns-in-Some-Ok-clause-ready : goal.returns-in-Some-Ok-clause-ready
returns-in-Some-Ok-clause-ready c =
    let got = c.requires.0 in
    let none : c.new-items.result.items ≡ [] = search rules in
    let ended = subst (λ (l : List JobItem). IfSome c.args.reader (λ b. TellsFault c.in_ok-answer.answer (end_of b (item_views l)).reader × (item_views c.finish.new.items.items ≡ (end_of b (item_views l)).items))) none c.in_ok-answer.ensures.ended in
    let finds = subst (λ o. EndFinds got o) (sym c.or_fault.ensures) (end_finds got c.args.reader c.finish.new.items.items c.in_ok-answer.answer c.requires.1 ended c.in-Ok.found c.in-Ok.ensures) in
    let is : c.in-Some-Ok.field-0 ≡ Ok (c.in-Some-Ok.line, c.in-Some-Ok.topology) = search rules in
    let here = rw c.in-Some-Ok.is at finds in
    end_ready got (c.in-Some-Ok.line, c.in-Some-Ok.topology) (subst (λ r. EndFinds got (Some r)) is here)

pub returns-in-Some-Ok-clause-within : goal.returns-in-Some-Ok-clause-within
returns-in-Some-Ok-clause-within c = omega (arith, c.requires.2, few_bytes c.requires.0 c.requires.1.unstopped)

finds_at : (got : List ℕ) (reader : Option Reader) (fresh items : List JobItem) (answer : Result ⊤ JobFault) (found told : Found) → IsBefore got reader → fresh ≡ [] →
    IfSome reader (λ b. TellsFault answer (end_of b (item_views fresh)).reader × (item_views items ≡ (end_of b (item_views fresh)).items)) → FoundIn (item_views items) found → told ≡ or_fault found answer → EndFinds got told
finds_at got reader fresh items answer found told before none ended is e =
    let here = subst (λ (l : List JobItem). IfSome reader (λ b. TellsFault answer (end_of b (item_views l)).reader × (item_views items ≡ (end_of b (item_views l)).items))) none ended in
    subst (λ o. EndFinds got o) (sym e) (end_finds got reader items answer before here found is)

pub returns-in-Some-Ok-clause-lacks : goal.returns-in-Some-Ok-clause-lacks
returns-in-Some-Ok-clause-lacks c = λ got before.
    let none : c.new-items.result.items ≡ [] = search rules in
    let finds = finds_at got c.args.reader c.new-items.result.items c.finish.new.items.items c.in_ok-answer.answer c.in-Ok.found c.or_fault.result before none c.in_ok-answer.ensures.ended c.in-Ok.ensures c.or_fault.ensures in
    let is : c.in-Some-Ok.field-0 ≡ Ok (c.in-Some-Ok.line, c.in-Some-Ok.topology) = search rules in
    let here = rw c.in-Some-Ok.is at finds in
    end_lacks got c.args.reader (c.in-Some-Ok.line, c.in-Some-Ok.topology) before (subst (λ r. EndFinds got (Some r)) is here)

pub returns-in-Some-Err-clause-stops : goal.returns-in-Some-Err-clause-stops
returns-in-Some-Err-clause-stops c = λ got before.
    let none : c.new-items.result.items ≡ [] = search rules in
    let finds = finds_at got c.args.reader c.new-items.result.items c.finish.new.items.items c.in_ok-answer.answer c.in-Ok.found c.or_fault.result before none c.in_ok-answer.ensures.ended c.in-Ok.ensures c.or_fault.ensures in
    let is : c.in-Some-Err.field-0 ≡ Err c.in-Some-Err.stop = search rules in
    let here = rw c.in-Some-Err.is at finds in
    end_stops got c.args.reader c.in-Some-Err.stop before (subst (λ r. EndFinds got (Some r)) is here)

pub unreachable-requires : goal.unreachable-requires
unreachable-requires c =
    let got = c.requires.0 in
    let none : c.new-items.result.items ≡ [] = search rules in
    let ended = subst (λ (l : List JobItem). IfSome c.args.reader (λ b. TellsFault c.in_ok-answer.answer (end_of b (item_views l)).reader × (item_views c.finish.new.items.items ≡ (end_of b (item_views l)).items))) none c.in_ok-answer.ensures.ended in
    let finds = subst (λ o. EndFinds got o) (sym c.or_fault.ensures) (end_finds got c.args.reader c.finish.new.items.items c.in_ok-answer.answer c.requires.1 ended c.in-Ok.found c.in-Ok.ensures) in
    absurd (rw c.in-None.is at finds)
