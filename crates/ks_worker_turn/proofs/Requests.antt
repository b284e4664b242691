-- The requests that a worker makes before its act, from part to part.
use Rattle.std.proofs.Common.{◌≡◌, ℕ, zero, suc, ◌+◌, ◌&&◌, Bool, true, false, [], ◌∷◌, ◌++◌, replicate, Option, refl, sym, ap, subst, ◌∙◌, append-nil}
use Rattle.std.specs.Prelude.{◌==◌}
use Rattle.std.proofs.lemmas.Bool.{eq-eqb}
use Rattle.std.proofs.lemmas.List.{replicate_more}
use Rattle.ks_record.specs.declared.record.PartId.{PartId}
use Rattle.ks_history.specs.declared.journal.Entry.{Entry}
use Rattle.ks_history.specs.declared.journal.Request.TheVariants.{Init, Join, MarkNext}
use Rattle.ks_history.specs.declared.journal.Reply.TheVariants.{Number, Mark as Marked}
use Rattle.ks_history.specs.Machine.{TaskPlan}
use Rattle.ks_history.specs.Touched.{touched}
use Rattle.ks_growing.specs.Passes.{PassView}
use Rattle.ks_shared.specs.declared.state.Frame.{Frame}
use Rattle.ks_worker_client.specs.Calls.{Later, Wrote}
use Rattle.ks_worker_client.specs.declared.client.ClusterClient.{ClusterClient}
use Rattle.ks_worker_client.proofs.Moments.{later_twice}
use Rattle.ks_worker_state.specs.Gained.{HasMade, HasMadeOnly, are_all}
use Rattle.ks_worker_state.proofs.Gains.{made_none, made_one, made_then, only_none, only_then}
use Rattle.ks_worker_state.specs.declared.state.WorkerState.{WorkerState}
use Rattle.ks_worker_state.specs.State.{LaterState}
use Rattle.ks_worker_turn.proofs.Keeping.{later_still}
use Rattle.ks_worker_turn.specs.Requests.{is_of_turn, MakesTurn, joining, HasBegunEpoch, HasJoined}

-- all that it makes is of a turn
joining_only : (w instance marks : ℕ) → are_all (is_of_turn w instance) (joining w marks) ≡ true
joining_only w instance marks = and_both (w == w) (are_all (is_of_turn w instance) (replicate marks (MarkNext w) ++ Join w ∷ [])) own (behind marks)
  where
    own : (w == w) ≡ true
    own = eq-eqb w w refl

    and_both : (a b : Bool) → a ≡ true → b ≡ true → (a && b) ≡ true
    and_both a b f g = ap (λ c. c && b) f ∙ g

    behind : (n : ℕ) → are_all (is_of_turn w instance) (replicate n (MarkNext w) ++ Join w ∷ []) ≡ true
    behind zero = and_both (w == w) true own refl
    behind (suc n) = and_both (w == w) (are_all (is_of_turn w instance) (replicate n (MarkNext w) ++ Join w ∷ [])) own (behind n)

module _ {W G : Type 0} (plan : W → TaskPlan) where
  -- a part that only read
  pub turn_none : (old new : WorkerState W G) → Later plan old.session.client.pass new.session.client.pass → new.session.client.pass.made ≡ old.session.client.pass.made → MakesTurn old new
  turn_none old new l same = only_none plan (is_of_turn old.member.number old.member.instance) old.session.client.pass new.session.client.pass l same

  -- one part after another
  pub turn_then : (old mid new : WorkerState W G) → LaterState plan old mid → MakesTurn old mid → MakesTurn mid new → MakesTurn old new
  turn_then old mid new l f g =
      only_then (is_of_turn old.member.number old.member.instance) old.session.client.pass mid.session.client.pass new.session.client.pass f
      (subst (λ (w : ℕ). HasMadeOnly (is_of_turn w old.member.instance) mid.session.client.pass new.session.client.pass) l.number
      (subst (λ (i : ℕ). HasMadeOnly (is_of_turn mid.member.number i) mid.session.client.pass new.session.client.pass) l.instance g))

  -- ---- of a worker that joins
  -- an epoch, and then what its client made
  pub joined_on : (old mid : WorkerState W G) (new : PassView Entry (Frame W)) → LaterState plan old mid → HasMade old.session.client.pass mid.session.client.pass (Init old.member.number ∷ []) →
      (marks : ℕ) × HasMade mid.session.client.pass new (replicate marks (MarkNext mid.member.number) ++ Join mid.member.number ∷ []) → (marks : ℕ) × HasMade old.session.client.pass new (joining old.member.number marks)
  joined_on old mid new l f g = (
    g.0,
    made_then old.session.client.pass mid.session.client.pass new (Init old.member.number ∷ []) (replicate g.0 (MarkNext old.member.number) ++ Join old.member.number ∷ []) f
        (subst (λ (w : ℕ). HasMade mid.session.client.pass new (replicate g.0 (MarkNext w) ++ Join w ∷ [])) l.number g.1),
  )

  pub joined_only : (old : WorkerState W G) (new : PassView Entry (Frame W)) → (marks : ℕ) × HasMade old.session.client.pass new (joining old.member.number marks) → HasMadeOnly (is_of_turn old.member.number old.member.instance) old.session.client.pass new
  joined_only old new h = record { own = joining old.member.number h.0; made = h.1; only = joining_only old.member.number old.member.instance h.0 }

  -- an epoch that began just now, and one that began before what the client did then
  pub epoch_now : (old new : WorkerState W G) → Later plan old.session.client.pass new.session.client.pass → Wrote plan old.session.client.pass new.session.client.pass (Init old.member.number) (Number new.member.epoch) →
      new.session.last ≡ touched old.member.number new.session.client.pass.seen → new.session.numbers.items ≡ [] → HasBegunEpoch plan old new
  epoch_now old new l wrote last sent = record { moment = new.session.client.pass; wrote = wrote; before = later_still plan old.session.client.pass new.session.client.pass l; last = last; sent = sent }

  pub epoch_then : (old mid : WorkerState W G) (client : ClusterClient W G) (inside : Bool) → Later plan mid.session.client.pass client.pass → HasBegunEpoch plan old mid →
      HasBegunEpoch plan old (record mid { session = record mid.session { client = client }; member = record mid.member { is_member = inside } })
  epoch_then old mid client inside l h = record { moment = h.moment; wrote = h.wrote; before = later_twice plan h.moment mid.session.client.pass client.pass h.before l; last = h.last; sent = h.sent }

  -- it joined, and then only read
  pub has_joined : (old one two : WorkerState W G) → Later plan one.session.client.pass two.session.client.pass → (old.member.is_member ≡ true → one ≡ old) →
      (old.member.is_member ≡ false → (marks : ℕ) × HasMade old.session.client.pass one.session.client.pass (joining old.member.number marks)) → two.session.client.pass.made ≡ one.session.client.pass.made →
      (old.member.is_member ≡ false → HasBegunEpoch plan old one) → two.member.epoch ≡ one.member.epoch → two.session.last ≡ one.session.last → two.session.numbers.items ≡ one.session.numbers.items → HasJoined plan old two
  has_joined old one two l nothing joined same begun epoch last numbers = record {
    member = λ inside. same ∙ ap (λ (s : WorkerState W G). s.session.client.pass.made) (nothing inside);
    joined = λ outside. let h = joined outside in (
      h.0,
      subst (HasMade old.session.client.pass two.session.client.pass) (append-nil (joining old.member.number h.0))
          (made_then old.session.client.pass one.session.client.pass two.session.client.pass (joining old.member.number h.0) [] h.1 (made_none plan one.session.client.pass two.session.client.pass l same)),
    );
    epoch = λ outside. let h = begun outside in record {
      moment = h.moment;
      wrote = subst (λ (e : ℕ). Wrote plan old.session.client.pass h.moment (Init old.member.number) (Number e)) (sym epoch) h.wrote;
      before = later_twice plan h.moment one.session.client.pass two.session.client.pass h.before l;
      last = last ∙ h.last;
      sent = numbers ∙ h.sent;
    };
  }

module _ {W : Type 0} (plan : W → TaskPlan) (w : ℕ) (old mid new : PassView Entry (Frame W)) where
  -- one more marker
  pub marked_more : (marks : ℕ) (n : Option (PartId × Bool)) → HasMade old mid (replicate marks (MarkNext w)) → Wrote plan mid new (MarkNext w) (Marked n) → HasMade old new (replicate (marks + 1) (MarkNext w))
  marked_more marks n f wrote = subst (HasMade old new) (replicate_more marks (MarkNext w)) (made_then old mid new (replicate marks (MarkNext w)) (MarkNext w ∷ []) f (made_one plan mid new (MarkNext w) (Marked n) wrote))

  -- the markers, and the worker joins
  pub joined_then : (marks n : ℕ) → HasMade old mid (replicate marks (MarkNext w)) → Wrote plan mid new (Join w) (Number n) → HasMade old new (replicate marks (MarkNext w) ++ Join w ∷ [])
  joined_then marks n f wrote = made_then old mid new (replicate marks (MarkNext w)) (Join w ∷ []) f (made_one plan mid new (Join w) (Number n) wrote)
