-- The load job of so many orders, of this project's own: its records and its text.
use Rattle.std.specs.Prelude.{ℕ, zero, suc, ◌+◌, ◌*◌, ◌/◌, ◌%◌, ◌==◌, List, [], ◌∷◌, ◌++◌, Option, Some, None, if◌then◌else◌, codes, decimal}
use Rattle.std.specs.List.{flat_map}
use Rattle.ks_words.specs.declared.load.LoadRecord.{LoadRecord}
use Rattle.ks_words.specs.declared.load.LoadRecord.TheVariants.{Order, Deletion, Customer}
use Rattle.ks_words.specs.declared.load.Section.{Section}
use Rattle.ks_words.specs.declared.load.Section.TheVariants.{Orders, Customers, Raises, Deletions, Moves}

-- ---- records

-- the customer of an order, among so many
abbrev pub customer_of : ℕ → ℕ → ℕ
customer_of customers order = (31 * order + 7) % customers

-- the record of the number i: each order, each customer, then every fifth order with a greater amount, every seventh without a value,
-- and every third customer in its next region
abbrev pub in_section : Section → ℕ → ℕ → Option LoadRecord
in_section Orders customers i = Some (Order i (customer_of customers i) (i % 100))
in_section Customers customers i = Some (Customer i (i % 4))
in_section Raises customers i = if i % 5 == 0 then Some (Order i (customer_of customers i) (i % 100 + 1)) else None
in_section Deletions customers i = if i % 7 == 0 then Some (Deletion i) else None
in_section Moves customers i = if i % 3 == 0 then Some (Customer i ((i + 1) % 4)) else None

abbrev pub records_of : Option LoadRecord → List LoadRecord
records_of None = []
records_of (Some load) = load ∷ []

-- those of so many numbers from i on
abbrev pub section_records : Section → ℕ → ℕ → ℕ → List LoadRecord
section_records section customers i zero = []
section_records section customers i (suc left) = records_of (in_section section customers i) ++ section_records section customers (suc i) left

abbrev pub records_with : ℕ → ℕ → List LoadRecord
records_with customers orders =
    (((section_records Orders customers 0 orders
    ++ section_records Customers customers 0 customers)
    ++ section_records Raises customers 0 orders)
    ++ section_records Deletions customers 0 orders)
    ++ section_records Moves customers 0 customers

abbrev pub load_records : ℕ → List LoadRecord
load_records orders = records_with (orders / 10 + 1) orders

-- ---- lines

unfoldable pub topology_text : List ℕ
topology_text = codes "{\"app\":\"load\",\"topics\":{\"customers\":4,\"orders\":8},\"nodes\":[{\"name\":\"o\",\"op\":\"table\",\"topic\":\"orders\"},{\"name\":\"c\",\"op\":\"table\",\"topic\":\"customers\"},{\"name\":\"e\",\"op\":\"fk_join\",\"left\":\"o\",\"right\":\"c\",\"fk\":\"cust\",\"kind\":\"inner\",\"set\":{\"amt\":{\"left\":\"amt\"},\"region\":{\"right\":\"region\"}}},{\"name\":\"totals\",\"op\":\"sum\",\"from\":\"e\",\"by\":\"region\",\"field\":\"amt\"},{\"name\":\"orders_per_region\",\"op\":\"count\",\"from\":\"e\",\"by\":\"region\"}],\"print\":[\"totals\",\"orders_per_region\"]}" ++ 10 ∷ []

-- the front of an order's line
unfoldable pub order_front : ℕ → List ℕ
order_front order = codes "{\"topic\":\"orders\",\"key\":\"o" ++ decimal order ++ codes "\",\"value\":"

unfoldable pub order_value : ℕ → ℕ → List ℕ
order_value customer amount = codes "{\"cust\":\"c" ++ decimal customer ++ codes "\",\"amt\":" ++ decimal amount ++ codes "}}" ++ 10 ∷ []

abbrev pub order_line : ℕ → ℕ → ℕ → List ℕ
order_line order customer amount = order_front order ++ order_value customer amount

abbrev pub deletion_line : ℕ → List ℕ
deletion_line order = order_front order ++ codes "null}" ++ 10 ∷ []

unfoldable pub customer_line : ℕ → ℕ → List ℕ
customer_line customer region = codes "{\"topic\":\"customers\",\"key\":\"c" ++ decimal customer ++ codes "\",\"value\":{\"region\":\"r" ++ decimal region ++ codes "\"}}" ++ 10 ∷ []

abbrev pub record_line : LoadRecord → List ℕ
record_line (Order order customer amount) = order_line order customer amount
record_line (Deletion order) = deletion_line order
record_line (Customer customer region) = customer_line customer region

-- the job's bytes
unfoldable pub load_text : ℕ → List ℕ
load_text orders = topology_text ++ flat_map record_line (load_records orders)
