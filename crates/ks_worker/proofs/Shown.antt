-- The acts on the group show in what the pass has gained.
use Rattle.std.proofs.Common.{◌≡◌, ◌⊎◌, ◌≤◌, ◌+◌, ℕ, zero, suc, Bool, true, false, cond, nat_le, ◌==◌, List, [], ◌∷◌, ◌++◌, inl, inr, refl, sym, ap, subst, ◌∙◌, arith}
use Rattle.std.proofs.lemmas.Bool.{eq-eqb}
use Rattle.std.proofs.lemmas.Bool.Decides.{leb_tells}
use Rattle.ks_record.specs.declared.record.TaskId.{TaskId}
use Rattle.ks_edge.specs.declared.gate.Act.{Act}
use Rattle.ks_edge.specs.declared.gate.Act.TheVariants.{Work, Commit, Abort, Crash, Leave, Pump, Probe, Evict, Stop}
use Rattle.ks_edge.specs.Counts.{calls_of}
use Rattle.ks_plan.specs.Drafts.{DraftView}
use Rattle.ks_history.specs.declared.journal.Entry.{Entry}
use Rattle.ks_history.specs.declared.journal.Request.{Request}
use Rattle.ks_history.specs.declared.journal.Request.TheVariants.{Expire}
use Rattle.ks_history.specs.Machine.{TaskPlan}
use Rattle.ks_growing.specs.Passes.{PassView}
use Rattle.ks_shared.specs.declared.state.Frame.{Frame}
use Rattle.ks_worker_client.specs.Turns.{GateCounts}
use Rattle.ks_worker_client.specs.Calls.{Later}
use Rattle.ks_worker_state.specs.declared.state.WorkerState.{WorkerState}
use Rattle.ks_worker_state.specs.Gained.{StandAmong, HasGained}
use Rattle.std.specs.List.{filter}
use Rattle.ks_worker_state.specs.State.{task_names, replica_names}
use Rattle.ks_worker_acts.specs.Telling.{is_clean_task, parks}
use Rattle.ks_worker.specs.Acts.{Does}
use Rattle.ks_worker.specs.Running.{is_group_request, group_requests, ShowsCalls, IsCutOnce}

-- how many of some requests are acts on the group
abbrev group_in : ℕ → List Request → ℕ
group_in w [] = 0
group_in w (r ∷ rs) = cond (is_group_request w r) (suc (group_in w rs)) (group_in w rs)

least : (n : ℕ) → 0 ≤ n
least n = omega arith

once : 1 ≤ 1
once = omega arith

one_more : (b : Bool) (m n : ℕ) → m ≤ n → cond b (suc m) m ≤ cond b (suc n) n
one_more true m n h = omega (arith, h)
one_more false m n h = h

no_less : (b : Bool) (m n : ℕ) → m ≤ n → m ≤ cond b (suc n) n
no_less true m n h = omega (arith, h)
no_less false m n h = h

among_counts : (w : ℕ) (rs : List Request) (es : List Entry) → StandAmong rs es → group_in w rs ≤ group_requests w es
among_counts w [] es h = least (group_requests w es)
among_counts w (r ∷ rs) [] h = absurd h
among_counts w (r ∷ rs) (e ∷ es) (inl h) =
    subst (λ q. cond (is_group_request w q) (suc (group_in w rs)) (group_in w rs) ≤ group_requests w (e ∷ es)) h.0
    (one_more (is_group_request w e.request) (group_in w rs) (group_requests w es) (among_counts w rs es h.1))
among_counts w (r ∷ rs) (e ∷ es) (inr h) = no_less (is_group_request w e.request) (group_in w (r ∷ rs)) (group_requests w es) (among_counts w (r ∷ rs) es h)

-- an `expire` at the end
last_counts : (w v instance : ℕ) (ts : List TaskId) → 1 ≤ group_in w (parks instance ts ++ Expire v ∷ [])
last_counts w v instance [] = once
last_counts w v instance (t ∷ ts) = last_counts w v instance ts

calls_few : (act : Act) → calls_of act ≤ 1
calls_few (Work pick) = omega arith
calls_few Commit = omega arith
calls_few Abort = omega arith
calls_few Crash = omega arith
calls_few Leave = omega arith
calls_few Pump = omega arith
calls_few Probe = omega arith
calls_few (Evict w) = by (nat_le w 15)
  where
    by : (b : Bool) → cond b 1 0 ≤ 1
    by true = omega arith
    by false = omega arith
calls_few Stop = omega arith

-- so many acts on the group show behind what the pass had seen
pub record Shows {W : Type 0} (w : ℕ) (old new : PassView Entry (Frame W)) (calls : ℕ) : Type 0 where
  pub more : List Entry
  pub seen : new.seen ≡ old.seen ++ more
  pub shown : calls ≤ group_requests w more

module _ {W : Type 0} (plan : W → TaskPlan) where
  shows_none : (w : ℕ) (old new : PassView Entry (Frame W)) → Later plan old new → Shows w old new 0
  shows_none w old new l = record { more = l.more; seen = l.seen; shown = omega arith }

  shows_gained : (w : ℕ) (old new : PassView Entry (Frame W)) (rs : List Request) → HasGained old new rs → 1 ≤ group_in w rs → Shows w old new 1
  shows_gained w old new rs g one = let h = among_counts w rs g.more g.among in record { more = g.more; seen = g.seen; shown = omega (arith, h, one) }

  shows_evicted : (w v : ℕ) (old new : PassView Entry (Frame W)) → Later plan old new → (v ≤ 15 → HasGained old new (Expire v ∷ [])) → Shows w old new (calls_of (Evict v))
  shows_evicted w v old new l gained =
      elim (leb_tells v 15) [
        | inl t ↦ subst (λ b. Shows w old new (cond b 1 0)) (sym t.0) (shows_gained w old new (Expire v ∷ []) (gained t.1) once)
        | inr t ↦ subst (λ b. Shows w old new (cond b 1 0)) (sym t.0) (shows_none w old new l)
      ]

module _ {W G : Type 0} (plan : W → TaskPlan) where
  shows_act : (d : DraftView) (waiting : ℕ) (act : Act) (old new : WorkerState W G) → Later plan old.session.client.pass new.session.client.pass → Does plan d waiting act old new → Shows old.member.number old.session.client.pass new.session.client.pass (calls_of act)
  shows_act d waiting (Work pick) old new l does = shows_none plan old.member.number _ _ l
  shows_act d waiting Commit old new l does = shows_none plan old.member.number _ _ l
  shows_act d waiting Abort old new l does = shows_none plan old.member.number _ _ l
  shows_act d waiting Crash old new l does = shows_none plan old.member.number _ _ l
  shows_act d waiting Leave old new l does = shows_gained plan old.member.number _ _ _ does.made.gained (last_counts old.member.number old.member.number old.member.instance (replica_names old.replicas.items ++ task_names (filter is_clean_task old.tasks.items)))
  shows_act d waiting Pump old new l does = shows_none plan old.member.number _ _ l
  shows_act d waiting Probe old new l does = shows_gained plan old.member.number _ _ _ does.made.gained (by (old.member.number == old.member.number) (eq-eqb old.member.number old.member.number refl))
    where
      by : (b : Bool) → b ≡ true → 1 ≤ cond b 1 0
      by true e = omega arith
      by false e = absurd cc
  shows_act d waiting (Evict v) old new l does = shows_evicted plan old.member.number v _ _ l (λ few. (does.made few).gained)
  shows_act d waiting Stop old new l does = shows_none plan old.member.number _ _ l

  -- the gate gave an act, and the worker performed it or was cut off
  pub shows_calls : (d : DraftView) (waiting : ℕ) (act : Act) (g : GateCounts) (old new : WorkerState W G) → Later plan old.session.client.pass new.session.client.pass →
      old.session.client.gate.calls ≡ g.calls + calls_of act → old.session.client.gate.cuts ≡ g.cuts → IsCutOnce old.session.client.gate new.session.client.gate →
      (new.session.client.gate ≡ old.session.client.gate → Does plan d waiting act old new) → ShowsCalls old.member.number old.session.client.pass new.session.client.pass g new.session.client.gate
  shows_calls d waiting act g old new l calls cuts (inl same) does =
      let s = shows_act d waiting act old new l (does same) in
      let a : new.session.client.gate.calls ≡ g.calls + calls_of act = ap (λ (k : GateCounts). k.calls) same ∙ calls in
      let b : new.session.client.gate.cuts ≡ g.cuts = ap (λ (k : GateCounts). k.cuts) same ∙ cuts in
      let n : calls_of act ≤ group_requests old.member.number s.more = s.shown in
      record { more = s.more; seen = s.seen; shown = omega (arith, a, b, n) }
  shows_calls d waiting act g old new l calls cuts (inr cut) does =
      let a : new.session.client.gate.calls ≡ g.calls + calls_of act = ap (λ (k : GateCounts). k.calls) cut ∙ calls in
      let b : new.session.client.gate.cuts ≡ old.session.client.gate.cuts + 1 = ap (λ (k : GateCounts). k.cuts) cut in
      let few : calls_of act ≤ 1 = calls_few act in
      record { more = l.more; seen = l.seen; shown = omega (arith, a, b, cuts, few) }
