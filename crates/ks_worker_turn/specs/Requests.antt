-- The requests that a worker makes before its act.
use Rattle.std.specs.Prelude.{◌≡◌, ℕ, ◌==◌, Bool, true, false, List, [], ◌∷◌, ◌++◌, replicate}
use Rattle.ks_history.specs.declared.journal.Request.{Request}
use Rattle.ks_history.specs.declared.journal.Request.TheVariants.{Init, MarkNext, Join, Assign, Park, Unpark}
use Rattle.ks_history.specs.declared.journal.Entry.{Entry}
use Rattle.ks_history.specs.declared.journal.Reply.TheVariants.{Number}
use Rattle.ks_history.specs.Machine.{TaskPlan}
use Rattle.ks_history.specs.Touched.{touched}
use Rattle.ks_growing.specs.Passes.{PassView}
use Rattle.ks_shared.specs.declared.state.Frame.{Frame}
use Rattle.ks_worker_client.specs.Calls.{Later, Wrote}
use Rattle.ks_worker_state.specs.Gained.{HasMade, HasMadeOnly}
use Rattle.ks_worker_state.specs.declared.state.WorkerState.{WorkerState}

-- an `init`, `mark_next`, `join` or `assign` of worker `w`, or a `park` or `unpark` at its instance
abbrev pub is_of_turn : ℕ → ℕ → Request → Bool
is_of_turn w instance (Init v) = v == w
is_of_turn w instance (MarkNext v) = v == w
is_of_turn w instance (Join v) = v == w
is_of_turn w instance (Assign v generation a) = v == w
is_of_turn w instance (Park i t) = i == instance
is_of_turn w instance (Unpark i t) = i == instance
is_of_turn w instance _ = false

-- its pass made no others
abbrev pub MakesTurn : {W G : Type 0} → WorkerState W G → WorkerState W G → Type 0
MakesTurn old new = HasMadeOnly (is_of_turn old.member.number old.member.instance) old.session.client.pass new.session.client.pass

-- those by which worker `w` joins its group: its producer begins an epoch, so many of its markers are asked for, and it is a member
abbrev pub joining : ℕ → ℕ → List Request
joining w marks = Init w ∷ replicate marks (MarkNext w) ++ Join w ∷ []

-- its producer began an epoch at a moment, and the worker remembers that epoch, that moment's last use of its number, and that nothing
-- was sent in it
pub record HasBegunEpoch {W G : Type 0} (plan : W → TaskPlan) (old new : WorkerState W G) : Type 0 where
  pub moment : PassView Entry (Frame W)
  pub wrote : Wrote plan old.session.client.pass moment (Init old.member.number) (Number new.member.epoch)
  pub before : Later plan moment new.session.client.pass
  pub last : new.session.last ≡ touched old.member.number moment.seen
  pub sent : new.session.numbers.items ≡ []

-- it joined where it was no member, by these requests alone; who was one made none
pub record HasJoined {W G : Type 0} (plan : W → TaskPlan) (old new : WorkerState W G) : Type 0 where
  pub member : old.member.is_member ≡ true → new.session.client.pass.made ≡ old.session.client.pass.made
  pub joined : old.member.is_member ≡ false →
      (marks : ℕ) × HasMade old.session.client.pass new.session.client.pass (joining old.member.number marks)
  pub epoch : old.member.is_member ≡ false → HasBegunEpoch plan old new
