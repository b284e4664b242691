-- What is told of one task is all that bears on who may run it
use Rattle.std.proofs.Common.{◌≡◌, ℕ, ◌==◌, ◌&&◌, ◌||◌, not, cond, nat_le, List, [], ◌∷◌, refl, sym, ap, ◌∙◌, inl, inr}
use Rattle.ks_record.specs.Parts.{same_task}
use Rattle.ks_record.specs.declared.record.TaskId.{TaskId}
use Rattle.ks_assign.specs.Lag.{warm, some_warm}
use Rattle.ks_assign.specs.Placement.{may_run}
use Rattle.ks_assign.specs.Steps.{held_of}
use Rattle.ks_assign.specs.declared.clients.Client.{Client}
use Rattle.ks_assign.specs.declared.clients.Held.{Held}
use Rattle.ks_assign.proofs.Others.{is_or_not, and_false}

warm_of : (t : TaskId) (held : List Held) (most i : ℕ) → warm (held_of t held) most i t ≡ warm held most i t
warm_of t [] most i = refl
warm_of t (h ∷ held) most i =
    elim (is_or_not (same_task h.task t)) [
      | inl s ↦ ap (λ b. warm (cond b (h ∷ held_of t held) (held_of t held)) most i t) s
          ∙ ap (λ b. ((h.instance == i) && (same_task h.task t && nat_le h.lag most)) || b) (warm_of t held most i)
      | inr s ↦ ap (λ b. warm (cond b (h ∷ held_of t held) (held_of t held)) most i t) s
          ∙ warm_of t held most i
          ∙ sym (ap (λ b. ((h.instance == i) && (b && nat_le h.lag most)) || warm held most i t) s ∙ ap (λ b. b || warm held most i t) (and_false (h.instance == i)))
    ]

some_warm_of : (clients : List Client) (t : TaskId) (held : List Held) (most : ℕ) → some_warm clients (held_of t held) most t ≡ some_warm clients held most t
some_warm_of [] t held most = refl
some_warm_of (c ∷ clients) t held most =
    ap (λ b. b || some_warm clients (held_of t held) most t) (warm_of t held most c.instance)
    ∙ ap (λ b. warm held most c.instance t || b) (some_warm_of clients t held most)

pub may_run_of : (clients : List Client) (t : TaskId) (held : List Held) (most i : ℕ) → may_run clients (held_of t held) most i t ≡ may_run clients held most i t
may_run_of clients t held most i =
    ap (λ b. b || not (some_warm clients (held_of t held) most t)) (warm_of t held most i)
    ∙ ap (λ b. warm held most i t || not b) (some_warm_of clients t held most)
