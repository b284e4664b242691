use Rattle.std.proofs.Common.{◌≡◌, ◌+◌, [], ◌++◌, refl, sym, ap, subst, ◌∙◌, arith}
use Rattle.ks_topo.specs.Topologies.{draft_of}
use Rattle.ks_job_source.specs.Opened.{IsReady}
use Rattle.ks_run_audit.specs.Feeding.{Feeding, RefusesBytes, draft_in}
use Rattle.ks_job_source.proofs.Cuts.{cut_is, cut_no_end}
use Rattle.ks_run_audit.proofs.Feeds.{feeds_begin, feeds_line, feeds_end, refuses_line, refuses_long}
use Rattle.ks_run_audit.proofs.Results.{on_each, each_err}
use Rattle.ks_run_audit.proofs.feeding.LineFeed.feed_within.Goals as goal

pub loop-end-init : goal.loop-end-init
loop-end-init g c = (feeds_begin g.H.Hash128.hash_of (draft_in c.args.output.now) c.args.bytes.now c.args.self.now.line.items c.args.self.now.lines c.args.output.now c.requires.sound c.requires.plain, refl, omega arith)

pub end_line-requires-clause-ready : goal.end_line-requires-clause-ready
end_line-requires-clause-ready g c = subst (λ t. IsReady (draft_of t.now)) (sym c.loop-end.invariant.0.topology) c.requires.ready

pub end_line-requires-clause-sound : goal.end_line-requires-clause-sound
end_line-requires-clause-sound g c = c.loop-end.invariant.0.sound

pub loop-end-preserved : goal.loop-end-preserved
loop-end-preserved g c =
    let was = c.loop-end.invariant in
    let cut = cut_is _ _ _ (sym c.in-Some.ensures.cut) in
    let parts = c.in-Some.ensures.shorter in
    let number : c.saturating_add-self.result ≡ c.loop-end.self.lines + 1 = omega (arith, c.saturating_add-self.ensures, c.end_line.ensures.lines, was.2, c.requires.few) in (
      feeds_line g.H.Hash128.hash_of (draft_in c.args.output.now) c.args.bytes.now c.loop-end.rest.now c.in-Some.end.now c.in-Some.more.now c.args.self.now.line.items c.loop-end.self.line.items c.end_line.new.self.line.items c.args.self.now.lines c.loop-end.self.lines c.saturating_add-self.result c.args.output.now c.loop-end.output c.end_line.new.output
          was.0 cut.both cut.plain (rw c.in_default-2.is at c.in_ok-fault.ensures.short) (rw c.in_default-2.is at c.in_ok-fault.ensures.taken) (ap (λ t. draft_of t.now) was.0.topology) (rw c.in_default-2.is at c.in_ok-fault.ensures.empty) number,
      c.end_line.ensures.taken_before ∙ was.1,
      omega (arith, number, parts, was.2),
    )

pub returns-in-Err-clause-refused : goal.returns-in-Err-clause-refused
returns-in-Err-clause-refused g c = λ at within.
    let was = c.loop-end.invariant in
    let hash = g.H.Hash128.hash_of in
    let d = draft_in c.args.output.now in
    let cut = cut_is _ _ _ (sym c.in-Some.ensures.cut) in
    subst (λ n. RefusesBytes hash d at c.args.bytes.now c.args.self.now.line.items c.args.self.now.lines n c.args.output.now c.in-Err.fault) (sym c.end_line.ensures.lines)
    (refuses_line hash d c.in-Err.fault at c.args.bytes.now c.loop-end.rest.now c.in-Some.end.now c.in-Some.more.now c.args.self.now.line.items c.loop-end.self.line.items c.args.self.now.lines c.loop-end.self.lines c.args.output.now c.loop-end.output
    was.0 cut.both cut.plain (rw c.in-Err.is at c.in_ok-fault.ensures.refused) (ap (λ t. draft_of t.now) was.0.topology) within)

pub returns-clause-fed : goal.returns-clause-fed
returns-clause-fed g c =
    let was = c.loop-end.invariant in
    let hash = g.H.Hash128.hash_of in
    let d = draft_in c.args.output.now in
    on_each c.begin_line.result _ _ c.begin_line.ensures.kept (λ k.
    subst (λ n. Feeding hash d c.args.bytes.now [] c.args.self.now.line.items c.begin_line.new.self.line.items c.args.self.now.lines n c.args.output.now c.loop-end.output) (sym c.begin_line.ensures.lines)
    (feeds_end hash d c.args.bytes.now c.loop-end.rest.now c.args.self.now.line.items c.loop-end.self.line.items c.begin_line.new.self.line.items c.args.self.now.lines c.loop-end.self.lines c.args.output.now c.loop-end.output was.0 k.0 (cut_no_end c.loop-end.rest.now (sym c.in_default.ensures.cut)) k.1))

pub returns-clause-refused : goal.returns-clause-refused
returns-clause-refused g c =
    let was = c.loop-end.invariant in
    let hash = g.H.Hash128.hash_of in
    let d = draft_in c.args.output.now in
    each_err c.begin_line.result _ _ c.begin_line.ensures.long (λ fault k at within.
    subst (λ n. RefusesBytes hash d at c.args.bytes.now c.args.self.now.line.items c.args.self.now.lines n c.args.output.now fault) (sym c.begin_line.ensures.lines)
    (refuses_long hash d fault at c.args.bytes.now c.loop-end.rest.now c.args.self.now.line.items c.loop-end.self.line.items (c.loop-end.self.line.items ++ c.loop-end.rest.now) c.args.self.now.lines c.loop-end.self.lines c.args.output.now c.loop-end.output k.0 was.0 refl (cut_no_end c.loop-end.rest.now (sym c.in_default.ensures.cut)) k.1))
