-- What a replica that has reached the ends of its changelogs answers.
use Rattle.std.proofs.Common.{◌≡◌, ℕ, suc, ◌<◌, ◌≤◌, Bool, true, false, cond, List, [], ◌∷◌, length, None, sym, ap, subst, ◌∙◌, arith, le-ltb, ⊎_elim}
use Rattle.std.specs.Prelude.{◌==◌, Result, Ok, Err, slice_index}
use Rattle.std.proofs.lemmas.Bool.{true≢false, eqb-true, or_cases}
use Rattle.ks_record.specs.Parts.{same_task}
use Rattle.ks_plan.specs.Drafts.{DraftView}
use Rattle.ks_history.specs.declared.journal.Entry.{Entry}
use Rattle.ks_history.specs.Machine.{has_topic, part_of}
use Rattle.ks_history.specs.State.{Setup}
use Rattle.ks_history.specs.Reads.{end_of}
use Rattle.ks_history.specs.History.{at}
use Rattle.ks_history.proofs.Names.{same_task-refl}
use Rattle.ks_settle.specs.Restoring.{HasReachedFirst}
use Rattle.ks_standby.specs.declared.replica.Replica.{Replica}
use Rattle.ks_standby.specs.Replicas.{replica_view}
use Rattle.ks_iq.specs.declared.ask.Ask.{Ask}
use Rattle.ks_iq.specs.declared.answer.Answer.{Answer}
use Rattle.ks_iq.specs.declared.fault.IqFault.{IqFault}
use Rattle.ks_iq.specs.declared.fault.IqFault.TheVariants.{Behind, WrongTask}
use Rattle.ks_iq.specs.Asks.{ask_fault, task_of, log_of, part_of_ask, value_in, if_fine, if_own, if_there, lent_answer}
use Rattle.ks_iq.specs.Reads.{ReadsTopology}
use Rattle.ks_iq.proofs.Answering.{own_log}

-- a topic of a list has a place in it
record HasPlace (topic : ℕ) (topics : List ℕ) : Type 0 where
  place : ℕ
  within : place < length topics
  is : slice_index topics place ≡ topic

place_of : (topic : ℕ) (topics : List ℕ) → has_topic topic topics ≡ true → HasPlace topic topics
place_of topic [] h = absurd (true≢false (sym h))
place_of topic (t ∷ ts) h = ⊎_elim
    (λ (e : (topic == t) ≡ true). record { place = 0; within = omega arith; is = sym (eqb-true topic t e) })
    (λ (g : has_topic topic ts ≡ true). let more = place_of topic ts g in record { place = suc more.place; within = omega (arith, more.within); is = more.is })
    (or_cases (topic == t) (has_topic topic ts) h)

abbrev is_refused : Result Answer IqFault → Bool
is_refused (Ok answer) = false
is_refused (Err fault) = true

module _ (d : DraftView) (setup : Setup) (journal : List Entry) (a : Ask) (top : ReadsTopology d setup) (fine : ask_fault d a ≡ None) (changelogs : List ℕ) (same : changelogs ≡ setup.plan.changelogs (task_of d a).sub) (r : Replica)
    (ends : HasReachedFirst setup journal (task_of d a) changelogs (length changelogs) r) where
  abbrev there : ℕ
  there = end_of (at setup journal) (part_of_ask d a)

  at_end : (replica_view r).position (log_of d a) ≡ there
  at_end =
      let p = place_of (log_of d a) changelogs (ap (has_topic (log_of d a)) same ∙ own_log d setup a top fine) in
      let reached : there ≤ (replica_view r).position (log_of d a) = subst (λ u. end_of (at setup journal) (part_of u (task_of d a)) ≤ (replica_view r).position u) p.is (ends.ends p.place p.within) in
      let within : (replica_view r).position (log_of d a) ≤ there = ends.of.within (log_of d a) in
      omega (arith, reached, within)

  answer_is : (at_least : ℕ) → at_least ≤ there → lent_answer d (replica_view r) a at_least ≡ Ok (record { value = value_in d a ((replica_view r).stores (log_of d a)); position = there })
  answer_is at_least bound =
      let rest : Result Answer IqFault = if_there at_least ((replica_view r).position (log_of d a)) (value_in d a ((replica_view r).stores (log_of d a))) in
      let own : same_task r.id (task_of d a) ≡ true = subst (λ t. same_task r.id t ≡ true) ends.of.task (same_task-refl r.id) in
      ap (λ o. if_fine o (if_own r.id (task_of d a) rest)) fine
      ∙ (ap (λ b. cond b rest (Err (WrongTask (task_of d a)))) own
      ∙ (ap (λ n. if_there at_least n (value_in d a ((replica_view r).stores (log_of d a)))) at_end
      ∙ ap (λ b. cond b (Err (Behind there)) (Ok (record { value = value_in d a ((replica_view r).stores (log_of d a)); position = there }))) (le-ltb there at_least bound)))

  pub never_refused : (at_least : ℕ) (f : IqFault) → at_least ≤ there → Err f ≡ lent_answer d (replica_view r) a at_least → ⊥
  never_refused at_least f bound e = true≢false (ap is_refused (e ∙ answer_is at_least bound))

  pub stands_at_end : (at_least : ℕ) (x : Answer) → at_least ≤ there → Ok x ≡ lent_answer d (replica_view r) a at_least → x.position ≡ end_of (at setup journal) (part_of_ask d a)
  stands_at_end at_least x bound e =
      let is : Ok x ≡ Ok (record { value = value_in d a ((replica_view r).stores (log_of d a)); position = there }) = e ∙ answer_is at_least bound in
      let same_answer : x ≡ record { value = value_in d a ((replica_view r).stores (log_of d a)); position = there } = cc in
      ap (λ (y : Answer). y.position) same_answer
