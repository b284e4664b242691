-- A worked run: what an order sees of its customer, step by step.
use Rattle.std.proofs.Common.{◌≡◌, ℕ, List, [], ◌∷◌, Option, Some, None, refl}
use Rattle.std.specs.Prelude.{pos, codes, take}
use Rattle.ks_row.specs.declared.row.Field.TheVariants.{Int, Text}
use Rattle.ks_record.specs.declared.record.TaskId.{TaskId}
use Rattle.ks_expr.specs.declared.terms.Fk.TheVariants as fk
use Rattle.ks_expr.specs.declared.terms.JoinKind.TheVariants.{Inner}
use Rattle.ks_expr.specs.Terms.{Set}
use Rattle.ks_expr.specs.Terms.Term.{LeftOf, RightOf}
use Rattle.ks_expr.specs.Eval.{Row}
use Rattle.ks_plan.specs.declared.node.Topic.TheVariants.{Input as InputTopic, Subscriptions, Responses}
use Rattle.ks_plan.specs.Drafts.{DraftView, TableOf, FkJoinOf}
use Rattle.ks_plan.specs.Faults.{fault_of}
use Rattle.ks_plan.specs.Plan.{plan_of}
use Rattle.ks_def_runs.specs.FinMap as fin
use Rattle.ks_def_tasks.specs.Messages.{Place}
use Rattle.ks_def_tasks.proofs.Examples.{one_part, put_row}
use Rattle.ks_law_quiescence.specs.States.{state_of}
use Rattle.ks_law_quiescence.specs.ForeignJoin.{Subscription, Response}
use Rattle.ks_law_quiescence.specs.ForeignJoin.Subscription.{Ask}
use Rattle.ks_law_fk_quiescence.specs.KeyJoins.{JoinAt, join_at, KeyJoin}
use Rattle.ks_law_fk_quiescence.specs.Joins.{key_join_in}

abbrev fields : Set
fields = (codes "amt", LeftOf (codes "amt")) ∷ (codes "region", RightOf (codes "region")) ∷ []

-- customers are topic 0, orders topic 1; nodes o 0, c 1, e 2
abbrev orders : DraftView
orders = record {
  app = codes "s";
  topics = (codes "customers", record { parts = pos 1; before = None }) ∷ (codes "orders", record { parts = pos 1; before = None }) ∷ [];
  nodes = record { name = codes "o"; op = TableOf (codes "orders") } ∷ record { name = codes "c"; op = TableOf (codes "customers") }
      ∷ record { name = codes "e"; op = FkJoinOf (codes "o") (codes "c") (fk.Field (codes "cust")) Inner fields } ∷ [];
  print = codes "e" ∷ [];
}

no_fault : fault_of orders ≡ None
no_fault = refl

abbrev order : Row
order = (codes "amt", Int (pos 5)) ∷ (codes "cust", Text (codes "c1")) ∷ []

abbrev customer : Row
customer = (codes "region", Text (codes "eu")) ∷ []

abbrev enriched : Row
enriched = (codes "amt", Int (pos 5)) ∷ (codes "region", Text (codes "eu")) ∷ []

-- the order is taken, its subscription, the customer, and the two responses
abbrev choices : List (Option TaskId × Place)
choices = (None, record { topic = InputTopic 1; part = 0 }) ∷ (Some (record { sub = 0; part = 0 }), record { topic = Subscriptions 2; part = 0 }) ∷ (None, record { topic = InputTopic 0; part = 0 })
    ∷ (Some (record { sub = 1; part = 0 }), record { topic = Responses 2; part = 0 }) ∷ (Some (record { sub = 1; part = 0 }), record { topic = Responses 2; part = 0 }) ∷ []

abbrev joined_orders : JoinAt
joined_orders = join_at one_part (plan_of orders) 2 0 1 (fk.Field (codes "cust")) Inner fields

abbrev after : ℕ → KeyJoin
after n = key_join_in joined_orders (codes "o1") (state_of one_part (plan_of orders) (put_row 1 (codes "o1") order ∷ put_row 0 (codes "c1") customer ∷ []) (take n choices))

abbrev IsSeen : ℕ → Option Row → Option Row → List Row → Option Row → Option ℕ → List Subscription → List (Response Row) → Type 0
IsSeen n row result had right stored asked answered = record {
  row : (after n).row ≡ row;
  result : (after n).result ≡ result;
  had : (after n).had ≡ had;
  right : (after n).right (codes "c1") ≡ right;
  stored : (after n).stored (codes "c1") ≡ stored;
  asked : (after n).subscriptions (codes "c1") ≡ asked;
  answered : (after n).responses 0 ≡ answered;
}

abbrev hash : ℕ
hash = one_part.hash order

abbrev answer : Option Row → Response Row
answer y = record { hash = Some hash; row = y }

at_first : IsSeen 0 None None [] None None [] []
unfolding fin.entries fin.empty fin.get fin.insert fin.retain_keys fin.remove fin.checked
at_first = record { row = refl; result = refl; had = refl; right = refl; stored = refl; asked = refl; answered = refl }

order_taken : IsSeen 1 (Some order) None (order ∷ []) None None (Ask hash ∷ []) []
unfolding fin.entries fin.empty fin.get fin.insert fin.retain_keys fin.remove fin.checked
order_taken = record { row = refl; result = refl; had = refl; right = refl; stored = refl; asked = refl; answered = refl }

asking_taken : IsSeen 2 (Some order) None (order ∷ []) None (Some hash) [] (answer None ∷ [])
unfolding fin.entries fin.empty fin.get fin.insert fin.retain_keys fin.remove fin.checked
asking_taken = record { row = refl; result = refl; had = refl; right = refl; stored = refl; asked = refl; answered = refl }

customer_taken : IsSeen 3 (Some order) None (order ∷ []) (Some customer) (Some hash) [] (answer None ∷ answer (Some customer) ∷ [])
unfolding fin.entries fin.empty fin.get fin.insert fin.retain_keys fin.remove fin.checked
customer_taken = record { row = refl; result = refl; had = refl; right = refl; stored = refl; asked = refl; answered = refl }

all_taken : IsSeen 5 (Some order) (Some enriched) (order ∷ []) (Some customer) (Some hash) [] []
unfolding fin.entries fin.empty fin.get fin.insert fin.retain_keys fin.remove fin.checked
all_taken = record { row = refl; result = refl; had = refl; right = refl; stored = refl; asked = refl; answered = refl }
