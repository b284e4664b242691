-- What a call adds to the cluster's journal.
use Rattle.std.proofs.Common.{◌≡◌, ◌≢◌, ℕ, Bool, true, false, cond, [], ◌∷◌, refl, sym, ap, ◌∙◌, append-nil, Result, Ok, Err, IfOk, OnErr}
use Rattle.std.specs.Prelude.{◌==◌}
use Rattle.std.proofs.lemmas.Bool.{eqb-true}
use Rattle.ks_history.specs.declared.journal.Request.{Request}
use Rattle.ks_history.specs.declared.journal.Request.TheVariants.{Init, Join}
use Rattle.ks_history.specs.declared.journal.Reply.{Reply}
use Rattle.ks_history.specs.Machine.{TaskPlan}
use Rattle.ks_cluster.specs.View.{ClusterView, AddsEntry}
use Rattle.ks_shared.specs.declared.barred.Barred.{Barred}
use Rattle.ks_shared.specs.declared.barred.Barred.TheVariants.{Refused as Refusal, Touched}
use Rattle.ks_shared.specs.Calls.{Grew, Grows}
use Rattle.ks_shared.specs.Own.{IsOwn}
use Rattle.ks_shared.specs.Reserved.{asks_as_caller}

module _ {W : Type 0} (plan : W → TaskPlan) where
  same_grows : (old new : ClusterView W) → new ≡ old → Grows old new
  same_grows old new e = record { own = []; is = e ∙ (λ i. record old { journal = sym (append-nil old.journal) i }); plain = refl }

  adds_grows : (old new : ClusterView W) (request : Request) (reply : Reply) → asks_as_caller request ≡ false → AddsEntry plan old new request reply → Grows old new
  adds_grows old new request reply plain a = record {
    own = record { request = request; reply = reply } ∷ [];
    is = a.journal;
    plain = ap (λ b. cond b (record { request = request; reply = reply } ∷ []) []) plain;
  }

  -- a call that adds its entry, or gets no memory
  pub grows_by : {A Z : Type 0} (old new : ClusterView W) (request : Request) (reply : A → Reply) (r : Result A Z) → asks_as_caller request ≡ false → IfOk r (λ n. AddsEntry plan old new request (reply n)) → OnErr r (new ≡ old) → Grows old new
  grows_by old new request reply (Ok n) plain a e = adds_grows old new request (reply n) plain a
  grows_by old new request reply (Err x) plain a e = same_grows old new e

  pub grew_by : {A Z : Type 0} (old new : ClusterView W) (request : Request) (reply : A → Reply) (r : Result A Z) → IfOk r (λ n. AddsEntry plan old new request (reply n)) → OnErr r (new ≡ old) → Grew old new
  grew_by old new request reply (Ok n) a e = record { own = record { request = request; reply = reply n } ∷ []; is = a.journal }
  grew_by old new request reply (Err x) a e = record { own = []; is = e ∙ (λ i. record old { journal = sym (append-nil old.journal) i }) }

  own_grows : {A : Type 0} (old new : ClusterView W) (w last last' : ℕ) (request : Request) (reply : A → Reply) (x : Result A Barred) → asks_as_caller request ≡ false → IsOwn plan old new w last last' request reply x → Grows old new
  own_grows old new w last last' request reply (Ok u) plain a = adds_grows old new request _ plain a.adds
  own_grows old new w last last' request reply (Err (Refusal refused)) plain a = adds_grows old new request _ plain a.adds
  own_grows old new w last last' request reply (Err (Touched at)) plain a = same_grows old new a.same

  -- a worker's own request, or no memory
  pub grows_own : {A Z : Type 0} (old new : ClusterView W) (w last last' : ℕ) (request : Request) (reply : A → Reply) (r : Result (Result A Barred) Z) → asks_as_caller request ≡ false → IfOk r (λ x. IsOwn plan old new w last last' request reply x) → OnErr r (new ≡ old) → Grows old new
  grows_own old new w last last' request reply (Ok x) plain a e = own_grows old new w last last' request reply x plain a
  grows_own old new w last last' request reply (Err x) plain a e = same_grows old new e

  -- a worker's own `init` or `join`, which isn't the caller's
  not_16 : (w : ℕ) → w ≢ 16 → (w == 16) ≡ false
  not_16 w other = by (w == 16) refl
    where
      by : (b : Bool) → (w == 16) ≡ b → b ≡ false
      by true is = absurd (other (eqb-true w 16 is))
      by false is = refl

  pub init_grows : {A Z : Type 0} (old new : ClusterView W) (w : ℕ) (reply : A → Reply) (r : Result A Z) → IfOk r (λ n. AddsEntry plan old new (Init w) (reply n)) → OnErr r (new ≡ old) → w ≢ 16 → Grows old new
  init_grows old new w reply r a e other = grows_by old new (Init w) reply r (not_16 w other) a e

  pub join_grows : {A Z : Type 0} (old new : ClusterView W) (w : ℕ) (reply : A → Reply) (r : Result A Z) → IfOk r (λ n. AddsEntry plan old new (Join w) (reply n)) → OnErr r (new ≡ old) → w ≢ 16 → Grows old new
  join_grows old new w reply r a e other = grows_by old new (Join w) reply r (not_16 w other) a e
