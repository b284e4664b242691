-- What the load job says: its topology, and its records as the items of a job.
use Rattle.std.specs.Prelude.{◌≡◌, ℕ, pos, List, [], ◌∷◌, ◌++◌, map, Option, Some, None, codes, decimal}
use Rattle.ks_row.specs.Rows.{Member}
use Rattle.ks_row.specs.Spelling.{spelling}
use Rattle.ks_record.specs.Records.{Record as Rec}
use Rattle.ks_row.specs.declared.row.Field.TheVariants.{Int, Text}
use Rattle.ks_expr.specs.declared.terms.JoinKind.TheVariants.{Inner}
use Rattle.ks_expr.specs.declared.terms.Fk.TheVariants.{Field}
use Rattle.ks_expr.specs.Terms.Term.{LeftOf, RightOf}
use Rattle.ks_plan.specs.declared.draft.TopicDraft.{TopicDraft}
use Rattle.ks_plan.specs.Drafts.{Topics, OpView, NodeView, DraftView, TableOf, CountOf, SumOf, FkJoinOf}
use Rattle.ks_words.specs.declared.load.LoadRecord.{LoadRecord}
use Rattle.ks_words.specs.declared.load.LoadRecord.TheVariants.{Order, Deletion, Customer}
use Rattle.ks_words.specs.Load.{load_records}
use Rattle.ks_job.specs.Items.{ItemView, TopologyAt, RecordTo}
use Rattle.ks_job.specs.Reader.{Machine}
use Rattle.ks_job.specs.Phases.{IsReading}

-- ---- the topology: orders and their customers, joined on the foreign key, and the orders' amounts and number by region
abbrev pub plain : ℕ → TopicDraft
plain n = record { parts = pos n; before = None }

abbrev pub load_topics : Topics
load_topics = (codes "customers", plain 4) ∷ (codes "orders", plain 8) ∷ []

abbrev pub node : List ℕ → OpView → NodeView
node name op = record { name = name; op = op }

abbrev pub joined : OpView
joined = FkJoinOf (codes "o") (codes "c") (Field (codes "cust")) Inner ((codes "amt", LeftOf (codes "amt")) ∷ (codes "region", RightOf (codes "region")) ∷ [])

abbrev pub load_nodes : List NodeView
load_nodes =
    node (codes "o") (TableOf (codes "orders"))
    ∷ node (codes "c") (TableOf (codes "customers"))
    ∷ node (codes "e") joined
    ∷ node (codes "totals") (SumOf (codes "e") (Some (codes "region")) (codes "amt"))
    ∷ node (codes "orders_per_region") (CountOf (codes "e") (Some (codes "region")))
    ∷ []

abbrev pub load_draft : DraftView
load_draft = record { app = codes "load"; topics = load_topics; nodes = load_nodes; print = codes "totals" ∷ codes "orders_per_region" ∷ [] }

-- ---- the records
abbrev pub order_key : ℕ → List ℕ
order_key order = codes "o" ++ decimal order

abbrev pub customer_key : ℕ → List ℕ
customer_key customer = codes "c" ++ decimal customer

abbrev pub order_row : ℕ → ℕ → List Member
order_row customer amount = (codes "amt", Int (pos amount)) ∷ (codes "cust", Text (customer_key customer)) ∷ []

abbrev pub customer_row : ℕ → List Member
customer_row region = (codes "region", Text (codes "r" ++ decimal region)) ∷ []

-- at the timestamp 0
abbrev pub at_zero : List ℕ → Option (List ℕ) → Rec
at_zero key value = record { key = Some key; value = value; ts = 0 }

-- topic 0 has the customers, topic 1 the orders
abbrev pub record_item : LoadRecord → ItemView
record_item (Order order customer amount) = RecordTo 1 (at_zero (order_key order) (Some (spelling (order_row customer amount))))
record_item (Deletion order) = RecordTo 1 (at_zero (order_key order) None)
record_item (Customer customer region) = RecordTo 0 (at_zero (customer_key customer) (Some (spelling (customer_row region))))

abbrev pub load_items : ℕ → List ItemView
load_items orders = TopologyAt 1 load_draft ∷ map record_item (load_records orders)

-- ---- a reader has given exactly these items, and has met no fault
pub record HasRead (items : List ItemView) (m : Machine) : Type 0 where
  pub reading : IsReading m.reader
  pub given : m.items ≡ items
