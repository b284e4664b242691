use Rattle.std.proofs.Common.{◌≡◌, List, ap, subst, ◌∙◌}
use Rattle.std.specs.Prelude.{IfOk}
use Rattle.ks_topo.specs.Topologies.{draft_of}
use Rattle.ks_query.specs.declared.table.Table.{Table}
use Rattle.ks_query.specs.Streams.{some_of}
use Rattle.ks_oracle.specs.Found.{answers_of}
use Rattle.ks_oracle.specs.Printing.{table_named}
use Rattle.ks_oracle.proofs.Plans.{whole}
use Rattle.ks_oracle.proofs.whole.evaluate.Goals as goal

pub returns : goal.returns
returns c =
    let a = answers_of c.deref.result.now in
    let asked = ap answers_of c.deref.ensures.value ∙ c.in_ok-found.ensures in
    let e = whole (draft_of c.args.topology.now) c.nodes-nodes.result.now c.args.records.now a c.nodes-nodes.ensures.places c.nodes-nodes.ensures.drafts c.nodes-nodes.ensures.well_formed asked in
    subst (λ (ts : List Table). IfOk c.tables_named.result (λ v. v.items ≡ ts)) (ap (some_of (table_named c.nodes-nodes.result.now a)) c.print.ensures ∙ e) c.tables_named.ensures
