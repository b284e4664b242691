use Rattle.std.proofs.Common.{◌%◌, ◌++◌, length, take, drop, refl, sym, ap, subst, ◌∙◌, false}
use Rattle.std.specs.List.{All}
use Rattle.ks_plan.specs.Infos.{input_numbers}
use Rattle.ks_topo.specs.Topologies.{draft_of, plan_in}
use Rattle.ks_shared.specs.Calls.{setup_in}
use Rattle.ks_worker_client.proofs.Halting.{was_ok_with, was_memory, same_counts}
use Rattle.ks_worker_state.proofs.States.{same_state}
use Rattle.ks_worker_acts.specs.Inputs.{places_from, IsInputAt, HasLooked}
use Rattle.ks_worker_acts.proofs.InputPlaces.{inputs_are}
use Rattle.ks_worker_acts.proofs.Looks.{reads_same, read_names, looked_none}
use Rattle.ks_worker_acts.proofs.StatesOn.{knows_same, none_there}
use Rattle.ks_worker_acts.proofs.WorkerOn.{read_all, read_round_all, picked}
use Rattle.std.proofs.lemmas.Result.{IfOk-from_err}
use Rattle.ks_worker_state.proofs.Exits.{counts_out, counts_none, counts_memory}
use Rattle.ks_worker_acts.proofs.reading.work.Goals as goal

pub returns-in_err-places-clause-later : goal.returns-in_err-places-clause-later
returns-in_err-places-clause-later g c = same_state g.W.Work.plan c.args.shared.now.growing.id c.args.state.now c.requires.may.call

pub returns-then-is_empty-clause-later : goal.returns-then-is_empty-clause-later
returns-then-is_empty-clause-later g c = same_state g.W.Work.plan c.args.shared.now.growing.id c.args.state.now c.requires.may.call

pub returns-then-is_empty-clause-read : goal.returns-then-is_empty-clause-read
returns-then-is_empty-clause-read g c = reads_same c.args.state.now.tasks.items

pub returns-then-is_empty-clause-dry : goal.returns-then-is_empty-clause-dry
returns-then-is_empty-clause-dry g c = λ e.
    let pass = c.args.state.now.session.client.pass in
    let setup = setup_in g.W.Work.plan pass.frame in
    let ts = c.args.state.now.tasks.items in
    read_all g.H.Hash128.hash_of (draft_of c.args.topology.now) setup pass.seen ts ts c.requires.may.topology
    (subst (λ l. HasLooked setup pass.seen false l ts ts)
    (none_there c.as_slice-places.result.now (sym c.is_empty.ensures ∙ c.if-is_empty.true) ∙ c.as_slice-places.ensures.value
    ∙ was_ok_with c.places_of.result _ c.in_ok-places.places (sym c.or_halt.ensures ∙ c.in_ok-places.was) c.places_of.ensures ∙ ap (places_from (input_numbers (plan_in c.args.topology.now)) 0) c.as_slice.ensures.value)
    (looked_none setup pass.seen ts))

pub read_round-requires-clause-places : goal.read_round-requires-clause-places
read_round-requires-clause-places g c =
    let inputs = input_numbers (plan_in c.args.topology.now) in
    let ts = c.args.state.now.tasks.items in
    subst (All (IsInputAt inputs ts))
    (sym (c.as_slice-places.ensures.value ∙ was_ok_with c.places_of.result _ c.in_ok-places.places (sym c.or_halt.ensures ∙ c.in_ok-places.was) c.places_of.ensures ∙ ap (places_from inputs 0) c.as_slice.ensures.value))
    (inputs_are inputs ts)

pub returns-clause-names : goal.returns-clause-names
returns-clause-names g c = read_names c.args.state.now.tasks.items c.read_round.new.state.tasks.items c.in_ok-moved.ensures.looked.read

pub returns-clause-dry : goal.returns-clause-dry
returns-clause-dry g c = λ e.
    let pass = c.args.state.now.session.client.pass in
    let setup = setup_in g.W.Work.plan pass.frame in
    let ts = c.args.state.now.tasks.items in
    let now = c.read_round.new.state.tasks.items in
    let places = c.as_slice-places.result.now in
    read_round_all g.H.Hash128.hash_of (draft_of c.args.topology.now) setup pass.seen ts now places (c.args.pick % length places) c.requires.may.topology
    (c.as_slice-places.ensures.value ∙ was_ok_with c.places_of.result _ c.in_ok-places.places (sym c.or_halt.ensures ∙ c.in_ok-places.was) c.places_of.ensures ∙ ap (places_from (input_numbers (plan_in c.args.topology.now)) 0) c.as_slice.ensures.value)
    (subst (λ b. HasLooked setup pass.seen b (drop (c.args.pick % length places) places ++ take (c.args.pick % length places) places) ts now) e c.in_ok-moved.ensures.looked)

pub returns-clause-first : goal.returns-clause-first
returns-clause-first g c = λ e.
    let pass = c.args.state.now.session.client.pass in
    let setup = setup_in g.W.Work.plan pass.frame in
    let ts = c.args.state.now.tasks.items in
    let now = c.read_round.new.state.tasks.items in
    let places = c.as_slice-places.result.now in
    picked g.H.Hash128.hash_of (draft_of c.args.topology.now) setup pass.seen ts now places c.args.pick (c.args.pick % length places) c.requires.may.topology
    (c.as_slice-places.ensures.value ∙ was_ok_with c.places_of.result _ c.in_ok-places.places (sym c.or_halt.ensures ∙ c.in_ok-places.was) c.places_of.ensures ∙ ap (places_from (input_numbers (plan_in c.args.topology.now)) 0) c.as_slice.ensures.value)
    refl (c.in_ok-moved.ensures.looked.first e)

pub returns-in_err-places-clause-gate : goal.returns-in_err-places-clause-gate
returns-in_err-places-clause-gate g c = counts_memory _ _ c.from_residual.result c.in_err-places.field-0.0 refl (was_memory c.places_of.result _ (sym c.or_halt.ensures ∙ c.in_err-places.was)) c.from_residual.ensures.1

pub returns-in_err-places-clause-same : goal.returns-in_err-places-clause-same
returns-in_err-places-clause-same g c = knows_same c.args.state.now

pub returns-in_err-places-clause-worker : goal.returns-in_err-places-clause-worker
returns-in_err-places-clause-worker g c = IfOk-from_err c.from_residual.result _ c.from_residual.ensures.0

pub returns-in_err-places-clause-names : goal.returns-in_err-places-clause-names
returns-in_err-places-clause-names g c = IfOk-from_err c.from_residual.result _ c.from_residual.ensures.0

pub returns-in_err-places-clause-read : goal.returns-in_err-places-clause-read
returns-in_err-places-clause-read g c = IfOk-from_err c.from_residual.result _ c.from_residual.ensures.0

pub returns-in_err-places-clause-moved : goal.returns-in_err-places-clause-moved
returns-in_err-places-clause-moved g c = IfOk-from_err c.from_residual.result _ c.from_residual.ensures.0

pub returns-in_err-places-clause-first : goal.returns-in_err-places-clause-first
returns-in_err-places-clause-first g c = IfOk-from_err c.from_residual.result _ c.from_residual.ensures.0

pub returns-in_err-places-clause-stays : goal.returns-in_err-places-clause-stays
returns-in_err-places-clause-stays g c = IfOk-from_err c.from_residual.result _ c.from_residual.ensures.0

pub returns-in_err-places-clause-dry : goal.returns-in_err-places-clause-dry
returns-in_err-places-clause-dry g c = IfOk-from_err c.from_residual.result _ c.from_residual.ensures.0

pub returns-then-is_empty-clause-gate : goal.returns-then-is_empty-clause-gate
returns-then-is_empty-clause-gate g c = counts_none _ _ refl

pub returns-then-is_empty-clause-same : goal.returns-then-is_empty-clause-same
returns-then-is_empty-clause-same g c = knows_same c.args.state.now

pub returns-in_err-moved-clause-gate : goal.returns-in_err-moved-clause-gate
returns-in_err-moved-clause-gate g c = counts_out _ _ _ c.read_round.result c.from_residual-in_err-moved.result c.in_err-moved.field-0.0 refl c.in_err-moved.was c.read_round.ensures.gate c.from_residual-in_err-moved.ensures.1

pub returns-in_err-moved-clause-worker : goal.returns-in_err-moved-clause-worker
returns-in_err-moved-clause-worker g c = IfOk-from_err c.from_residual-in_err-moved.result _ c.from_residual-in_err-moved.ensures.0

pub returns-in_err-moved-clause-names : goal.returns-in_err-moved-clause-names
returns-in_err-moved-clause-names g c = IfOk-from_err c.from_residual-in_err-moved.result _ c.from_residual-in_err-moved.ensures.0

pub returns-in_err-moved-clause-read : goal.returns-in_err-moved-clause-read
returns-in_err-moved-clause-read g c = IfOk-from_err c.from_residual-in_err-moved.result _ c.from_residual-in_err-moved.ensures.0

pub returns-in_err-moved-clause-moved : goal.returns-in_err-moved-clause-moved
returns-in_err-moved-clause-moved g c = IfOk-from_err c.from_residual-in_err-moved.result _ c.from_residual-in_err-moved.ensures.0

pub returns-in_err-moved-clause-first : goal.returns-in_err-moved-clause-first
returns-in_err-moved-clause-first g c = IfOk-from_err c.from_residual-in_err-moved.result _ c.from_residual-in_err-moved.ensures.0

pub returns-in_err-moved-clause-stays : goal.returns-in_err-moved-clause-stays
returns-in_err-moved-clause-stays g c = IfOk-from_err c.from_residual-in_err-moved.result _ c.from_residual-in_err-moved.ensures.0

pub returns-in_err-moved-clause-dry : goal.returns-in_err-moved-clause-dry
returns-in_err-moved-clause-dry g c = IfOk-from_err c.from_residual-in_err-moved.result _ c.from_residual-in_err-moved.ensures.0

pub returns-clause-gate : goal.returns-clause-gate
returns-clause-gate g c = counts_none _ _ (same_counts _ _ c.read_round.result _ c.in_ok-moved.was c.read_round.ensures.gate)

pub returns-clause-read : goal.returns-clause-read
returns-clause-read g c = c.in_ok-moved.ensures.looked.read

pub returns-clause-moved : goal.returns-clause-moved
returns-clause-moved g c = c.in_ok-moved.ensures.looked.moves

pub returns-clause-stays : goal.returns-clause-stays
returns-clause-stays g c = c.in_ok-moved.ensures.looked.stays
