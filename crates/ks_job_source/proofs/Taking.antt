-- A job taken from a source, piece by piece.
use Rattle.std.proofs.Common.{◌≡◌, ℕ, ◌<◌, ◌≤◌, List, [], ◌∷◌, ◌++◌, length, refl, sym, ap, ◌∙◌, Bool, true, false, cond, rules, append_assoc}
use Rattle.std.proofs.lemmas.List.{append-nil}
use Rattle.std.specs.Prelude.{Option, Some, None, Result, Ok, Err, ⊤, IfSome, OnOk, option_map, ◌==◌}
use Rattle.std.specs.Option.{option_or}
use Rattle.std.specs.Io.KnownBytes.{Consumes, IsAtEnd, Keeps as StayKnown}
use Rattle.std.specs.declared.vec.Vec.{Vec}
use Rattle.std.specs.declared.alloc.Global.{Global}
use Rattle.std.proofs.lemmas.Bool.Decides.{Decides-eqb}
use Rattle.ks_job.specs.Items.{ItemView, item_views}
use Rattle.ks_job.specs.declared.judge.JobItem.{JobItem}
use Rattle.ks_job.specs.declared.reader.JobFault.{JobFault}
use Rattle.ks_job.specs.Phases.{Fed, TellsFault}
use Rattle.ks_job.specs.Reader.{Reader, Machine, after, end_of, so_far, whole}
use Rattle.ks_job.proofs.Cuts.{after_both}
use Rattle.ks_job_source.specs.declared.stop.JobStop.{JobStop}
use Rattle.ks_job_source.specs.Reading.{machine_of, answer_stop, Ends, Read, TookNoFault}
use Rattle.ks_job_source.specs.Stops.{topology_stop, line_stop, stop_of}
use Rattle.ks_job_source.proofs.Machines.{Keeps, keeps_after, keeps_end, stays_after, stays_at_end, unrefused, answered}

pub always_ok : {T E : Type 0} (P : Type 0) (r : Result T E) → P → OnOk r P
always_ok P (Ok x) p = p
always_ok P (Err e) p = tt

-- ---- the topology is judged where it is first seen
known : (first : Bool) (old : List JobItem) (new : List ItemView) → Keeps (item_views old) new → first ≡ (length old == 0) → topology_stop (item_views old) ≡ None →
    cond first (topology_stop new) None ≡ topology_stop new
known true old new k e t = refl
known false [] new k e t = absurd (cc ((Decides-eqb 0 0).1 refl))
known false (i ∷ is) new k e t = sym (k.stop (λ h. absurd (cc)) ∙ t)

judged_stop : (first : Bool) (a : Result ⊤ JobFault) (r : Reader) (old new : List JobItem) (n : Machine) (o : Option JobStop) → first ≡ (length old == 0) → topology_stop (item_views old) ≡ None →
    Keeps (item_views old) n.items → item_views new ≡ n.items → r ≡ n.reader → TellsFault a r →
    o ≡ option_or (cond first (topology_stop (item_views new)) None) (answer_stop a) → o ≡ stop_of n
judged_stop first a r old new n o e t keeps items reader h is =
    is ∙ ap (λ v. option_or (cond first (topology_stop v) None) (answer_stop a)) items
    ∙ ap (λ p. option_or p (answer_stop a)) (known first old n.items keeps e t)
    ∙ ap (λ p. option_or (topology_stop n.items) p) (answered a r (answer_stop a) h refl ∙ ap line_stop reader)

pub fed_stop : (old new : Option Reader) (old_items new_items : List JobItem) (xs : List ℕ) (first : Bool) (a : Result ⊤ JobFault) (o : Option JobStop) → first ≡ (length old_items == 0) →
    Fed old new old_items new_items xs → IfSome new (λ s. TellsFault a s) → o ≡ option_or (cond first (topology_stop (item_views new_items)) None) (answer_stop a) →
    IfSome (machine_of old old_items) (λ m. topology_stop m.items ≡ None → o ≡ stop_of (after m xs))
fed_stop None new old_items new_items xs first a o e fed h is = absurd fed
fed_stop (Some r) None old_items new_items xs first a o e fed h is = absurd fed
fed_stop (Some r) (Some s) old_items new_items xs first a o e fed h is = λ t.
    let m : Machine = record { reader = r; items = item_views old_items } in
    judged_stop first a s old_items new_items (after m xs) o e t (keeps_after m xs) (ap (λ n. n.items) fed) (ap (λ n. n.reader) fed) h is

pub fed_machine : (old new : Option Reader) (old_items new_items : List JobItem) (xs : List ℕ) → Fed old new old_items new_items xs →
    machine_of new new_items ≡ option_map (λ m. after m xs) (machine_of old old_items)
fed_machine None new old_items new_items xs fed = absurd fed
fed_machine (Some r) None old_items new_items xs fed = absurd fed
fed_machine (Some r) (Some s) old_items new_items xs fed = ap Some fed

-- what `finish` answers and leaves
abbrev pub Finished : Option Reader → List JobItem → List JobItem → Result ⊤ JobFault → Type 0
Finished old old_items new_items a = IfSome old (λ b. TellsFault a (end_of b (item_views old_items)).reader × (item_views new_items ≡ (end_of b (item_views old_items)).items))

pub ended_stop : (old : Option Reader) (old_items new_items : List JobItem) (first : Bool) (a : Result ⊤ JobFault) (o : Option JobStop) → first ≡ (length old_items == 0) →
    Finished old old_items new_items a → o ≡ option_or (cond first (topology_stop (item_views new_items)) None) (answer_stop a) →
    IfSome (machine_of old old_items) (λ m. topology_stop m.items ≡ None → o ≡ stop_of (end_of m.reader m.items))
ended_stop None old_items new_items first a o e h is = tt
ended_stop (Some r) old_items new_items first a o e h is = λ t.
    judged_stop first a _ old_items new_items (end_of r (item_views old_items)) o e t (keeps_end r (item_views old_items)) h.1 refl h.0 is

pub ended_items : (old : Option Reader) (old_items new_items : List JobItem) (a : Result ⊤ JobFault) → Finished old old_items new_items a →
    IfSome old (λ b. item_views new_items ≡ (end_of b (item_views old_items)).items)
ended_items None old_items new_items a h = tt
ended_items (Some r) old_items new_items a h = h.1

-- what a job comes to at its end
pub ends_stopped : (old : Option Reader) (old_items : List JobItem) (o : Option JobStop) (stop : JobStop) → IfSome (machine_of old old_items) (λ m. topology_stop m.items ≡ None → o ≡ stop_of (end_of m.reader m.items)) → o ≡ Some stop →
    IfSome (machine_of old old_items) (λ m. topology_stop m.items ≡ None → stop_of (end_of m.reader m.items) ≡ Some stop)
ends_stopped None old_items o stop h is = tt
ends_stopped (Some r) old_items o stop h is = λ t. sym (h t) ∙ is

pub ends_whole : (old : Option Reader) (old_items new_items : List JobItem) (o : Option JobStop) → IfSome (machine_of old old_items) (λ m. topology_stop m.items ≡ None → o ≡ stop_of (end_of m.reader m.items)) → o ≡ None →
    IfSome old (λ b. item_views new_items ≡ (end_of b (item_views old_items)).items) →
    IfSome (machine_of old old_items) (λ m. topology_stop m.items ≡ None → (stop_of (end_of m.reader m.items) ≡ None) × (item_views new_items ≡ (end_of m.reader m.items).items))
ends_whole None old_items new_items o h is items = tt
ends_whole (Some r) old_items new_items o h is items = λ t. (sym (h t) ∙ is, items)

-- ---- along the pieces
-- so far the source has lost what was taken, and has not failed; the reader has read that, and there is no reason to stop
pub record Taking (left_old left_now : Option (List ℕ)) (faults_old faults_now : ℕ) (machine : Option Machine) (taken : ℕ) (buf : List ℕ) : Type 0 where
  pub got : List ℕ
  pub front : Consumes left_old left_now got
  pub kept : faults_now ≡ faults_old
  pub stands : machine ≡ Some (so_far got)
  pub unstopped : stop_of (so_far got) ≡ None
  pub counted : taken ≡ length got
  pub some : 0 < length buf
  pub room : length buf ≤ 4194304

pub took_more : (a b c : Option (List ℕ)) (got piece : List ℕ) → Consumes a b got → Consumes b c piece → Consumes a c (got ++ piece)
took_more None b c got piece p q = search rules
took_more (Some xs) None c got piece p q = absurd p
took_more (Some xs) (Some ys) None got piece p q = absurd q
took_more (Some xs) (Some ys) (Some zs) got piece p q = cc (append_assoc got piece zs)

pub lost_as_much : (a b c : Option (List ℕ)) (got : List ℕ) → Consumes a b got → StayKnown b c → Consumes a c got
lost_as_much None b c got p q = search rules
lost_as_much (Some xs) None c got p q = absurd p
lost_as_much (Some xs) (Some ys) None got p q = absurd q
lost_as_much (Some xs) (Some ys) (Some zs) got p q = cc

pub took_no_fault : (a b c : Option (List ℕ)) (got : List ℕ) → Consumes a b got → StayKnown b c → stop_of (so_far got) ≡ None → TookNoFault a c
took_no_fault a b c got p q h = record { taken = got; lost = lost_as_much a b c got p q; unstopped = h }

pub so_far_more : (m n : Option Machine) (got piece : List ℕ) → m ≡ Some (so_far got) → n ≡ option_map (λ x. after x piece) m → n ≡ Some (so_far (got ++ piece))
so_far_more m n got piece e f = f ∙ ap (option_map (λ x. after x piece)) e ∙ ap Some (sym (after_both _ got piece))

pub at_machine : (P : Machine → Type 0) (m : Option Machine) (x : Machine) → m ≡ Some x → IfSome m P → P x
at_machine P m x e h = rw e at h

pub unstopped_more : (m : Option Machine) (got piece : List ℕ) (o : Option JobStop) → m ≡ Some (so_far got) → stop_of (so_far got) ≡ None →
    IfSome m (λ x. topology_stop x.items ≡ None → o ≡ stop_of (after x piece)) → o ≡ stop_of (so_far (got ++ piece))
unstopped_more m got piece o e u h = at_machine (λ x. topology_stop x.items ≡ None → o ≡ stop_of (after x piece)) m (so_far got) e h (unrefused (so_far got) u) ∙ ap stop_of (sym (after_both _ got piece))

pub known_end : (a b c : Option (List ℕ)) (got piece : List ℕ) → Consumes a b got → piece ≡ [] → Consumes b c piece → IsAtEnd c → IfSome a (λ bytes. bytes ≡ got)
known_end None b c got piece p z q end = search rules
known_end (Some xs) None c got piece p z q end = absurd p
known_end (Some xs) (Some ys) None got piece p z q end = absurd q
known_end (Some xs) (Some ys) (Some zs) got piece p z q end = p ∙ ap (λ l. got ++ l) (q ∙ rw (z, end) refl) ∙ append-nil got

pub read_to_end : (a b c : Option (List ℕ)) (m : Option Machine) (got piece : List ℕ) (r : Result (Vec JobItem Global) JobStop) → Consumes a b got → piece ≡ [] → Consumes b c piece → IsAtEnd c →
    m ≡ Some (so_far got) → stop_of (so_far got) ≡ None → IfSome m (λ x. topology_stop x.items ≡ None → Ends (end_of x.reader x.items) r) → Read a r
read_to_end a b c m got piece r p z q end e u h = record {
  bytes = got;
  known = known_end a b c got piece p z q end;
  ends = at_machine (λ x. topology_stop x.items ≡ None → Ends (end_of x.reader x.items) r) m (so_far got) e h (unrefused (so_far got) u);
}

pub stopped_on : (xs got piece rest : List ℕ) (stop : JobStop) → xs ≡ (got ++ piece) ++ rest → stop_of (so_far (got ++ piece)) ≡ Some stop → stop_of (whole xs) ≡ Some stop
stopped_on xs got piece rest stop all here =
    let on : stop_of (so_far xs) ≡ Some stop = ap (λ l. stop_of (so_far l)) all ∙ (ap stop_of (after_both _ (got ++ piece) rest) ∙ stays_after (so_far (got ++ piece)) rest stop here) in
    stays_at_end (so_far xs) stop on

pub stopped_early : (a b c : Option (List ℕ)) (m : Option Machine) (got piece : List ℕ) (stop : JobStop) → Consumes a b got → Consumes b c piece → m ≡ Some (so_far got) → stop_of (so_far got) ≡ None →
    IfSome m (λ x. topology_stop x.items ≡ None → Some stop ≡ stop_of (after x piece)) → Read a (Err stop)
stopped_early None b c m got piece stop p q e u h =
    let here : stop_of (so_far (got ++ piece)) ≡ Some stop = sym (unstopped_more m got piece (Some stop) e u h) in
    record { bytes = got ++ piece; known = tt; ends = stopped_on (got ++ piece) got piece [] stop (sym (append-nil (got ++ piece))) here }
stopped_early (Some xs) None c m got piece stop p q e u h = absurd p
stopped_early (Some xs) (Some ys) None m got piece stop p q e u h = absurd q
stopped_early (Some xs) (Some ys) (Some zs) m got piece stop p q e u h =
    let all : xs ≡ (got ++ piece) ++ zs = cc (append_assoc got piece zs) in
    let here : stop_of (so_far (got ++ piece)) ≡ Some stop = sym (unstopped_more m got piece (Some stop) e u h) in
    record { bytes = xs; known = refl; ends = stopped_on xs got piece zs stop all here }
