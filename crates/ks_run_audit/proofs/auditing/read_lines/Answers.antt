use Rattle.std.proofs.Common.{◌≡◌, refl, sym, ap, subst, ◌∙◌, arith, rules}
use Rattle.ks_topo.specs.Topologies.{draft_of}
use Rattle.ks_job_source.specs.Opened.{IsReady}
use Rattle.ks_run_audit.specs.Feeding.{HasLost, Loses, LosesFault, draft_in}
use Rattle.ks_run_audit.proofs.Sources.{ends_early, lost_none, lost_more, lost_fault}
use Rattle.ks_run_audit.proofs.auditing.read_lines.Goals as goal

pub loop-count-init : goal.loop-count-init
loop-count-init g c = (
  c.requires.sound,
  refl,
  c.requires.feed,
  c.requires.some,
  refl,
  lost_none g.H.Hash128.hash_of (draft_in c.args.output.now) c.args.feed.now.taken (g.S.Source.left c.args.input.now) c.args.feed.now.line.items c.args.feed.now.lines c.args.output.now c.requires.sound c.requires.feed.plain,
)

pub feed_next-requires-clause-ready : goal.feed_next-requires-clause-ready
feed_next-requires-clause-ready g c = subst (λ t. IsReady (draft_of t.now)) (sym c.loop-count.invariant.1) c.requires.ready

pub returns-then-count-eq0-clause-reads : goal.returns-then-count-eq0-clause-reads
returns-then-count-eq0-clause-reads g c =
    let was = c.loop-count.invariant in
    let hash = g.H.Hash128.hash_of in
    let left = g.S.Source.left in
    let d = ap (λ t. draft_of t.now) was.1 in
    let loses = subst (λ x. Loses hash x c.in-Ok.count (left c.loop-count.input) (left c.feed_next.new.input) c.loop-count.feed.line.items c.feed_next.new.feed.line.items c.loop-count.feed.lines c.feed_next.new.feed.lines c.loop-count.output c.feed_next.new.output) d (rw c.in-Ok.is at c.in_ok-count.ensures.loses) in
    record {
      has_lost = lost_more hash (draft_in c.args.output.now) c.args.feed.now.taken (left c.args.input.now) (left c.loop-count.input) (left c.feed_next.new.input) c.loop-count.feed.taken c.feed_next.new.feed.taken c.in-Ok.count
          c.args.feed.now.line.items c.loop-count.feed.line.items c.feed_next.new.feed.line.items c.args.feed.now.lines c.loop-count.feed.lines c.feed_next.new.feed.lines c.args.output.now c.loop-count.output c.feed_next.new.output was.5 loses (rw c.in-Ok.is at c.in_ok-count.ensures.taken);
      end = loses.end (omega (arith, c.if-count-eq0.true));
    }

pub returns-in-Err-clause-refused : goal.returns-in-Err-clause-refused
returns-in-Err-clause-refused g c =
    let was = c.loop-count.invariant in
    let hash = g.H.Hash128.hash_of in
    let left = g.S.Source.left in
    let d = ap (λ t. draft_of t.now) was.1 in
    let fault = subst (λ x. LosesFault hash x c.loop-count.feed.taken (left c.loop-count.input) (left c.feed_next.new.input) c.loop-count.feed.line.items c.loop-count.feed.lines c.feed_next.new.feed.lines c.loop-count.output c.in-Err.fault) d (rw c.in-Err.is at c.in_ok-count.ensures.refused) in
    lost_fault hash (draft_in c.args.output.now) c.args.feed.now.taken (left c.args.input.now) (left c.loop-count.input) (left c.feed_next.new.input) c.loop-count.feed.taken
    c.args.feed.now.line.items c.loop-count.feed.line.items c.args.feed.now.lines c.loop-count.feed.lines c.feed_next.new.feed.lines c.args.output.now c.loop-count.output c.in-Err.fault was.5 fault

pub loop-count-preserved : goal.loop-count-preserved
loop-count-preserved g c =
    let was = c.loop-count.invariant in
    let hash = g.H.Hash128.hash_of in
    let left = g.S.Source.left in
    let d = ap (λ t. draft_of t.now) was.1 in
    let loses = subst (λ x. Loses hash x c.in-Ok.count (left c.loop-count.input) (left c.feed_next.new.input) c.loop-count.feed.line.items c.feed_next.new.feed.line.items c.loop-count.feed.lines c.feed_next.new.feed.lines c.loop-count.output c.feed_next.new.output) d (rw c.in-Ok.is at c.in_ok-count.ensures.loses) in (
      loses.feeds.sound,
      loses.feeds.topology ∙ was.1,
      rw c.in-Ok.is at c.in_ok-count.ensures.feed,
      omega (arith, c.in_ok-count.ensures.buf, was.3),
      c.in_ok-count.ensures.kept ∙ was.4,
      lost_more hash (draft_in c.args.output.now) c.args.feed.now.taken (left c.args.input.now) (left c.loop-count.input) (left c.feed_next.new.input) c.loop-count.feed.taken c.feed_next.new.feed.taken c.in-Ok.count
          c.args.feed.now.line.items c.loop-count.feed.line.items c.feed_next.new.feed.line.items c.args.feed.now.lines c.loop-count.feed.lines c.feed_next.new.feed.lines c.args.output.now c.loop-count.output c.feed_next.new.output was.5 loses (rw c.in-Ok.is at c.in_ok-count.ensures.taken),
    )

pub returns-in_err-count-clause-early : goal.returns-in_err-count-clause-early
returns-in_err-count-clause-early g c = λ e.
    let was = c.loop-count.invariant in
    let left = g.S.Source.left in
    ends_early g.H.Hash128.hash_of (draft_in c.args.output.now) c.args.feed.now.taken (left c.args.input.now) (left c.loop-count.input) (left c.feed_next.new.input) c.loop-count.feed.taken
    c.args.feed.now.line.items c.loop-count.feed.line.items c.args.feed.now.lines c.loop-count.feed.lines c.args.output.now c.loop-count.output was.5 was.2.within (c.in_err-count.ensures.lost (search rules))
