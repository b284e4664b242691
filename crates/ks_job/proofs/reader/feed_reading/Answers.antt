use Rattle.std.proofs.Common.{[], ◌∷◌, ◌++◌, refl, sym, append-nil}
use Rattle.std.proofs.lemmas.Result.{IfOk-weaker}
use Rattle.ks_job.specs.Items.{item_views}
use Rattle.ks_job.specs.Lines.{spot}
use Rattle.ks_job.specs.Reader.{Reading}
use Rattle.ks_job.specs.Phases.{reader_of}
use Rattle.ks_job.proofs.Cuts.{fed_item, fed_blank, fed_fault, fed_rest}
use Rattle.ks_job.proofs.Fronts.{fed_front, same_front, pushed_more}
use Rattle.ks_job.proofs.reader.feed_reading.Goals as goal

pub loop-front-init : goal.loop-front-init
loop-front-init c = record { leads = refl; pushed = []; kept = sym (append-nil c.args.items.now.items) }

pub loop-front-preserved : goal.loop-front-preserved
loop-front-preserved c =
    let was = c.loop-front.invariant in
    record {
      leads = fed_blank (spot c.loop-front.place) c.loop-front.begun.items _ (item_views c.loop-front.items.items) c.loop-front.rest.now _ _ _ _ _ c.in-Some.ensures.cut c.in-Ok.ensures.line c.in-Ok.ensures.empty c.in-None.is was.leads;
      pushed = was.pushed;
      kept = was.kept;
    }

pub loop-front-preserved-in_ok-push-in-Some-item : goal.loop-front-preserved-in_ok-push-in-Some-item
loop-front-preserved-in_ok-push-in-Some-item c =
    let was = c.loop-front.invariant in
    let new = c.in_ok-push-in-Some-item.ensures.items in
    record {
      leads = fed_item (spot c.loop-front.place) c.loop-front.begun.items _ c.loop-front.items.items _ c.loop-front.rest.now _ _ _ _ _ _ c.in-Some.ensures.cut c.in-Ok.ensures.line c.in-Ok.ensures.empty c.in-Some-item.is new was.leads;
      pushed = was.pushed ++ c.in-Some-item.item ∷ [];
      kept = pushed_more _ _ _ was.pushed _ was.kept new;
    }

pub returns-in_err-push-in-Some-item-clause-front : goal.returns-in_err-push-in-Some-item-clause-front
returns-in_err-push-in-Some-item-clause-front c =
    let was = c.loop-front.invariant in
    same_front _ c.loop-front.items.items _ _ c.in_err-push-in-Some-item.ensures.items
    (fed_front (Reading (spot c.loop-front.place) c.loop-front.begun.items) _ c.loop-front.items.items was.pushed c.loop-front.rest.now _ was.kept was.leads)

pub returns-in-Fault-clause-fed : goal.returns-in-Fault-clause-fed
returns-in-Fault-clause-fed c = let j = rw c.in-Fault.is at c.in-Err.ensures.line in
    fed_fault (spot c.loop-front.place) c.loop-front.begun.items (item_views c.loop-front.items.items) c.loop-front.rest.now c.in-Some.front.now c.in-Some.next.now _ c.in-Fault.kind c.in-Some.ensures.cut j c.loop-front.invariant.leads

pub returns-in-Fault-clause-front : goal.returns-in-Fault-clause-front
returns-in-Fault-clause-front c =
    let was = c.loop-front.invariant in
    fed_front (Reading (spot c.loop-front.place) c.loop-front.begun.items) _ c.loop-front.items.items was.pushed c.loop-front.rest.now _ was.kept was.leads

pub returns-in-Memory-clause-front : goal.returns-in-Memory-clause-front
returns-in-Memory-clause-front c =
    let was = c.loop-front.invariant in
    fed_front (Reading (spot c.loop-front.place) c.loop-front.begun.items) _ c.loop-front.items.items was.pushed c.loop-front.rest.now _ was.kept was.leads

pub returns-clause-fed : goal.returns-clause-fed
returns-clause-fed c =
    IfOk-weaker c.keep_rest.result _ _ (λ p h. fed_rest (spot c.loop-front.place) c.loop-front.begun.items (item_views c.loop-front.items.items) c.loop-front.rest.now _ (reader_of p) c.in_default.ensures.cut h c.loop-front.invariant.leads) c.keep_rest.ensures

pub returns-clause-front : goal.returns-clause-front
returns-clause-front c =
    let was = c.loop-front.invariant in
    fed_front (Reading (spot c.loop-front.place) c.loop-front.begun.items) _ c.loop-front.items.items was.pushed c.loop-front.rest.now _ was.kept was.leads
