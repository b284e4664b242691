-- The tasks of a topology make a network.
use Rattle.std.proofs.Common.{◌≡◌, ℕ, true, cond, ◌||◌, List, [], ◌∷◌, Option, Some, None, refl, sym, ap, ◌∙◌}
use Rattle.std.specs.Prelude.{◌==◌}
use Rattle.ks_def_runs.specs.Bytes.{Store}
use Rattle.ks_record.specs.Records.{Record as Rec}
use Rattle.ks_record.specs.declared.record.PartId.{PartId}
use Rattle.ks_record.specs.Parts.{same_part}
use Rattle.ks_def_runs.specs.Run.{sent_to}
use Rattle.ks_plan.specs.Plan.{Plan}
use Rattle.ks_plan.specs.Infos.{input_numbers, changelog_numbers}
use Rattle.ks_def_tasks.specs.Messages.{Rules}
use Rattle.ks_def_tasks.specs.Bytes.{records_at, keep_bytes, keep_all, has_number, byte_step}
use Rattle.ks_def_tasks.proofs.Told.{tells}
use Rattle.ks_def_tasks.proofs.Numbers.{apart}
use Rattle.ks_def_tasks.proofs.Alone.{alone}
use Rattle.ks_history.specs.Machine.{has_topic, network, part_of, applied, latest_from}
use Rattle.ks_law_topology.specs.Work.{work_of, WorksAreNetworks}

-- ---- the same words
number_is : (n : ℕ) (ns : List ℕ) → has_number n ns ≡ has_topic n ns
number_is n [] = refl
number_is n (m ∷ ms) = ap (λ b. (n == m) || b) (number_is n ms)

keep_one : (s : Store) (key value : Option (List ℕ)) → keep_bytes s key value ≡ applied s key value
keep_one s None value = refl
keep_one s (Some key) value = refl

keep_is : (s : Store) (rs : List Rec) → keep_all s rs ≡ latest_from s rs
keep_is s [] = refl
keep_is s (r ∷ rs) = ap (λ m. keep_all m rs) (keep_one s r.key r.value) ∙ keep_is (applied s r.key r.value) rs

records_is : (rules : Rules) (p : Plan) (q : PartId) (xs : List (PartId × Rec)) → records_at q xs ≡ sent_to (network (work_of rules p)) q xs
records_is rules p q [] = refl
records_is rules p q (x ∷ xs) = ap (λ l. cond (same_part q x.0) (x.1 ∷ l) l) (records_is rules p q xs)

pub works_are_networks : WorksAreNetworks
works_are_networks rules p =
    let numbers = apart p in
    let own : (sub n : ℕ) → has_topic n (changelog_numbers p sub) ≡ true → has_number n (changelog_numbers p sub) ≡ true = λ sub n h. number_is n (changelog_numbers p sub) ∙ h in
    record {
      apart = record {
        no_source = λ sub topic h. numbers.no_source sub topic (own sub topic h);
        one_keeper = λ sub other topic h g. numbers.one_keeper sub other topic (own sub topic h) (own other topic g);
        own = λ t u stores q r topic ne h. sym (records_is rules p (part_of topic u) (byte_step rules p t stores q r).made) ∙ alone p t u topic ne (own u.sub topic h) rules stores q r;
      };
      no_reader = λ sub other topic h. sym (number_is topic (input_numbers p other)) ∙ numbers.no_reader sub other topic (own sub topic h);
      one_reader = λ sub topic h. numbers.one_reader sub topic (number_is topic _ ∙ h);
      told = λ t stores q r topic h.
          (tells rules p t stores q r topic).own (own t.sub topic h)
          ∙ keep_is (stores topic) (records_at (part_of topic t) (byte_step rules p t stores q r).made)
          ∙ ap (latest_from (stores topic)) (records_is rules p (part_of topic t) (byte_step rules p t stores q r).made);
      no_other = λ t stores q r topic h. (tells rules p t stores q r topic).other (number_is topic (changelog_numbers p t.sub) ∙ h);
    }
