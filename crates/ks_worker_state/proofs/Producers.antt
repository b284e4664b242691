-- What a producer knows of itself stays while others write.
use Rattle.std.proofs.Common.{◌≡◌, ◌≤◌, ℕ, true, None, List, [], ◌++◌, refl, sym, subst, ◌∙◌, arith}
use Rattle.ks_record.specs.declared.record.PartId.{PartId}
use Rattle.ks_history.specs.declared.journal.Entry.{Entry}
use Rattle.ks_history.specs.Partition.{count_sent}
use Rattle.ks_history.specs.State.{Setup}
use Rattle.ks_history.specs.History.{at, IsHistory}
use Rattle.ks_history.specs.Touched.{touched, untouched}
use Rattle.ks_commit.specs.Alone.{number_in, IsNumbered}
use Rattle.ks_law_sharing.proofs.Rising.{epoch_rises}
use Rattle.ks_law_sharing.proofs.Touching.{same_touched, touched_grows}
use Rattle.ks_law_sharing.proofs.Leaving.{count_stays, idle_stays}
use Rattle.ks_worker_client.specs.declared.member.Member.{Member}
use Rattle.ks_worker_client.specs.Members.{MemberHasSeen, IsProducer}

module _ (setup : Setup) (journal more : List Entry) (m : Member) (last : ℕ) (past : MemberHasSeen setup journal m last) where
  was_touched : touched m.number (journal ++ more) ≡ last → touched m.number journal ≡ last
  was_touched h = omega (arith, h, past.place, touched_grows m.number journal more)

  is_untouched : touched m.number (journal ++ more) ≡ last → untouched m.number more ≡ true
  is_untouched h = same_touched m.number journal more (h ∙ sym (was_touched h))

  pub producer_stays : (numbers : List (PartId × ℕ)) → IsHistory setup (journal ++ more) → IsProducer setup journal m last numbers → IsProducer setup (journal ++ more) m last numbers
  producer_stays numbers history p = record {
    past = omega (arith, p.past, epoch_rises setup journal more m.number);
    idle = λ h. idle_stays setup journal more m.number history (is_untouched h) (p.idle (was_touched h));
    numbered = λ h q. p.numbered (was_touched h) q ∙ sym (count_stays setup journal more m.number m.epoch q history (is_untouched h));
  }

-- who never did anything, or lost all that it knew
pub nothing_known : (setup : Setup) (journal : List Entry) (m : Member) → m.epoch ≡ 0 → IsHistory setup journal → IsProducer setup journal m 0 []
nothing_known setup journal m none history = record {
  past = omega (arith, none);
  idle = λ h. idle_stays setup [] journal m.number history (same_touched m.number [] journal h) refl;
  numbered = λ h q. sym (count_stays setup [] journal m.number m.epoch q history (same_touched m.number [] journal h));
}
