-- Worked examples, computed: what the query gives, and what the machine leaves in three orders of choices, with nothing waiting.
use Rattle.std.proofs.Common.{◌≡◌, ℕ, ◌++◌, ◌+◌, ◌*◌, ◌%◌, List, [], ◌∷◌, Option, Some, None, refl, fold, map}
use Rattle.std.specs.Prelude.{ℤ, pos, negsuc, codes, unsigned_abs}
use Rattle.ks_row.specs.declared.row.Field.{Field}
use Rattle.ks_row.specs.declared.row.Field.TheVariants.{Int, Text}
use Rattle.ks_record.specs.declared.record.TaskId.{TaskId}
use Rattle.ks_expr.specs.declared.terms.JoinKind.{JoinKind}
use Rattle.ks_expr.specs.declared.terms.JoinKind.TheVariants.{Inner, Left as LeftJoin, Outer}
use Rattle.ks_expr.specs.Terms.Term.{LeftOf, RightOf, FieldOf, Number}
use Rattle.ks_expr.specs.Terms.Test.{IsLess}
use Rattle.ks_expr.specs.Eval.{Row}
use Rattle.ks_expr.specs.Keys.{spread_part}
use Rattle.ks_expr.specs.declared.terms.Fk.TheVariants as fk
use Rattle.ks_wire.specs.declared.values.Subscriber.{Subscriber}
use Rattle.ks_plan.specs.declared.draft.TopicDraft.{TopicDraft}
use Rattle.ks_plan.specs.Drafts.{DraftView, NodeView, StreamOf, TableOf, FilterOf, KeyOf, CountOf, SumOf, WindowedOf, JoinOf, FkJoinOf}
use Rattle.ks_plan.specs.Plan.{plan_of}
use Rattle.ks_plan.specs.Layout.{sub_count}
use Rattle.ks_def_runs.specs.FinMap as fin
use Rattle.ks_def_runs.specs.Run.{RunState}
use Rattle.ks_query.specs.Streams.{Key, Input}
use Rattle.ks_query.specs.Windows.{WindowKey}
use Rattle.ks_query.specs.Query.{query}
use Rattle.ks_def_tasks.specs.Messages.{Place, shown, Item, Store, Rules}
use Rattle.ks_def_tasks.proofs.Drain.{by_lists, by_rounds, by_rounds_back, run_by, waiting_in, rows_of, window_rows_of}

-- ---- small rules for small runs: all keys in one partition, and rows' hashes by a polynomial
abbrev pub number_in : Field → ℕ
number_in (Int z) = unsigned_abs z
number_in (Text s) = fold (λ h b. h * 257 + b) 3 s

abbrev pub one_part : Rules
one_part = record { part = λ k n. 0; hash = λ row. fold (λ h m. fold (λ h b. h * 257 + b) (h * 65537 + number_in m.1) m.0) 7 row }

abbrev pub put_row : ℕ → Key → Row → Input
put_row t k row = record { topic = t; key = Some k; value = Some row; time = 0 }

abbrev pub delete : ℕ → Key → Input
delete t k = record { topic = t; key = Some k; value = None; time = 0 }

-- the states after three orders
abbrev pub ends_by : Rules → DraftView → List Input → ℕ → List (RunState TaskId Place Store Item)
ends_by rules d records n =
    let p = plan_of d in
    run_by rules p records (by_lists p n) ∷ run_by rules p records (by_rounds p n) ∷ run_by rules p records (by_rounds_back p n) ∷ []

abbrev pub ends : DraftView → List Input → ℕ → List (RunState TaskId Place Store Item)
ends d records n = ends_by one_part d records n

abbrev pub three : {A : Type 0} → A → List A
three x = x ∷ x ∷ x ∷ []

-- a table after each, and what waits
abbrev pub ran : DraftView → List Input → ℕ → ℕ → List (List (Key × Row) × List Item)
ran d records n node = map (λ st. (rows_of (plan_of d) st node, waiting_in (plan_of d) st)) (ends d records n)

abbrev pub asked : DraftView → List Input → ℕ → List (Key × Row)
asked d records node = fin.entries ((query (plan_of d) records).tables node)

-- the query and the three runs give these rows, and nothing waits
abbrev pub Gives : DraftView → List Input → ℕ → ℕ → List (Key × Row) → Type 0
Gives d records n node rows = (asked d records node ≡ rows) × (ran d records n node ≡ three (rows, []))

-- ---- one table: deletions, and the last row of a key
abbrev n_is : ℕ → Row
n_is n = (codes "n", Int (pos n)) ∷ []

abbrev plain : ℤ → TopicDraft
plain n = record { parts = n; before = None }

abbrev one_topic : List NodeView → DraftView
one_topic nodes = record { app = codes "a"; topics = (codes "t", plain (pos 1)) ∷ []; nodes = nodes; print = [] }

abbrev one_table : DraftView
one_table = one_topic (record { name = codes "x"; op = TableOf (codes "t") } ∷ [])

table_rows : Gives one_table (put_row 0 (codes "b") (n_is 1) ∷ put_row 0 (codes "a") (n_is 2) ∷ put_row 0 (codes "b") (n_is 3) ∷ delete 0 (codes "a") ∷ []) 5 0
    ((codes "b", n_is 3) ∷ [])
unfolding fin.entries fin.empty fin.get fin.insert fin.retain_keys fin.remove fin.checked
table_rows = (refl, refl)

-- ---- orders joined with their customers: customers is topic 0, orders topic 1; nodes o 0, c 1, e 2
abbrev orders : JoinKind → DraftView
orders kind = record {
  app = codes "s";
  topics = (codes "customers", plain (pos 1)) ∷ (codes "orders", plain (pos 1)) ∷ [];
  nodes = record { name = codes "o"; op = TableOf (codes "orders") } ∷ record { name = codes "c"; op = TableOf (codes "customers") }
      ∷ record { name = codes "e"; op = FkJoinOf (codes "o") (codes "c") (fk.Field (codes "cust")) kind ((codes "amt", LeftOf (codes "amt")) ∷ (codes "region", RightOf (codes "region")) ∷ []) } ∷ [];
  print = codes "e" ∷ [];
}

abbrev pub order_row : ℕ → Key → Row
order_row a c = (codes "amt", Int (pos a)) ∷ (codes "cust", Text c) ∷ []

abbrev pub order : Key → Key → ℕ → Input
order k c a = put_row 1 k (order_row a c)

abbrev pub customer : Key → Key → Input
customer k r = put_row 0 k ((codes "region", Text r) ∷ [])

abbrev pub result : ℕ → Key → Row
result a r = (codes "amt", Int (pos a)) ∷ (codes "region", Text r) ∷ []

-- the customer comes after the order
late_customer : Gives (orders Inner) (order (codes "o1") (codes "c1") 5 ∷ customer (codes "c1") (codes "eu") ∷ []) 6 2 ((codes "o1", result 5 (codes "eu")) ∷ [])
unfolding fin.entries fin.empty fin.get fin.insert fin.retain_keys fin.remove fin.checked
late_customer = (refl, refl)

-- an order moves to another customer
abbrev moving : List Input
moving = customer (codes "c1") (codes "eu") ∷ customer (codes "c2") (codes "us") ∷ order (codes "o1") (codes "c1") 5 ∷ order (codes "o1") (codes "c2") 5 ∷ []

moved_order : Gives (orders Inner) moving 8 2 ((codes "o1", result 5 (codes "us")) ∷ [])
unfolding fin.entries fin.empty fin.get fin.insert fin.retain_keys fin.remove fin.checked
moved_order = (refl, refl)

-- and of the subscription store, the order under its new customer alone is left
abbrev hashes_at : RunState TaskId Place Store Item → Key → List (Key × Subscriber)
hashes_at st b = fin.entries ((st.stores (record { sub = 1; part = 0 })).hashes 2 b)

abbrev subscriber : Row → Option ℕ → Subscriber
subscriber row part = record { hash = one_part.hash row; part = part }

moved_hashes : map {B = List (Key × Subscriber) × List (Key × Subscriber)} (λ st. (hashes_at st (codes "c1"), hashes_at st (codes "c2"))) (ends (orders Inner) moving 8)
    ≡ three ([], (codes "o1", subscriber (order_row 5 (codes "c2")) None) ∷ [])
unfolding fin.entries fin.empty fin.get fin.insert fin.retain_keys fin.remove fin.checked
moved_hashes = refl

-- orders that are spread by what stands before "/" in their keys: a subscription names the partition of its order's task, the store keeps it, and the
-- answer goes there, though the whole key of the first order has the other partition
abbrev by_sum : Rules
by_sum = record { part = λ k s. fold (λ h b. h + b) 0 (spread_part s.before k) % s.parts; hash = one_part.hash }

abbrev by_front : DraftView
by_front = record (orders Inner) { topics = (codes "customers", plain (pos 1)) ∷ (codes "orders", record { parts = pos 2; before = Some (codes "/") }) ∷ [] }

abbrev two_orders : List Input
two_orders = order (codes "a/b") (codes "c1") 5 ∷ customer (codes "c1") (codes "eu") ∷ order (codes "d") (codes "c1") 6 ∷ []

abbrev results_in : RunState TaskId Place Store Item → ℕ → List (Key × Row)
results_in st part = map (λ e. (e.0, shown e.1)) (fin.entries ((st.stores (record { sub = 0; part = part })).tables 2))

named_parts : map {B = List (Key × Row) × List (Key × Row) × List (Key × Subscriber)} (λ st. (results_in st 0, results_in st 1, hashes_at st (codes "c1"))) (ends_by by_sum by_front two_orders 6)
    ≡ three ((codes "d", result 6 (codes "eu")) ∷ [], (codes "a/b", result 5 (codes "eu")) ∷ [], (codes "a/b", subscriber (order_row 5 (codes "c1")) (Some 1)) ∷ (codes "d", subscriber (order_row 6 (codes "c1")) (Some 0)) ∷ [])
unfolding fin.entries fin.empty fin.get fin.insert fin.retain_keys fin.remove fin.checked
named_parts = refl

-- the customer goes: of an inner join the result too, of a left one its left part stays
abbrev going : List Input
going = customer (codes "c1") (codes "eu") ∷ order (codes "o1") (codes "c1") 5 ∷ delete 0 (codes "c1") ∷ []

gone_inner : Gives (orders Inner) going 6 2 []
unfolding fin.entries fin.empty fin.get fin.insert fin.retain_keys fin.remove fin.checked
gone_inner = (refl, refl)

gone_left : Gives (orders LeftJoin) going 6 2 ((codes "o1", (codes "amt", Int (pos 5)) ∷ []) ∷ [])
unfolding fin.entries fin.empty fin.get fin.insert fin.retain_keys fin.remove fin.checked
gone_left = (refl, refl)

-- an order goes, and comes back with an unknown customer
returned : Gives (orders Inner) (customer (codes "c1") (codes "eu") ∷ order (codes "o1") (codes "c1") 5 ∷ delete 1 (codes "o1") ∷ order (codes "o1") (codes "c2") 5 ∷ []) 8 2 []
unfolding fin.entries fin.empty fin.get fin.insert fin.retain_keys fin.remove fin.checked
returned = (refl, refl)

-- an order goes to an unknown customer and back, while its first customer changes
moved_back : Gives (orders Inner)
    (customer (codes "c1") (codes "eu") ∷ order (codes "o1") (codes "c1") 5 ∷ order (codes "o1") (codes "c2") 5 ∷ customer (codes "c1") (codes "us") ∷ order (codes "o1") (codes "c1") 5 ∷ []) 9 2
    ((codes "o1", result 5 (codes "us")) ∷ [])
unfolding fin.entries fin.empty fin.get fin.insert fin.retain_keys fin.remove fin.checked
moved_back = (refl, refl)

-- ---- a count of a table: x 0, g 1
abbrev counted : DraftView
counted = one_topic (record { name = codes "x"; op = TableOf (codes "t") } ∷ record { name = codes "g"; op = CountOf (codes "x") (Some (codes "r")) } ∷ [])

abbrev r_is : Key → Row
r_is r = (codes "r", Text r) ∷ []

abbrev count_is : ℤ → Row
count_is n = (codes "count", Int n) ∷ []

left_group : Gives counted (put_row 0 (codes "k1") (r_is (codes "p")) ∷ put_row 0 (codes "k2") (r_is (codes "q")) ∷ delete 0 (codes "k1") ∷ []) 8 1
    ((codes "q", count_is (pos 1)) ∷ [])
unfolding fin.entries fin.empty fin.get fin.insert fin.retain_keys fin.remove fin.checked
left_group = (refl, refl)

two_subs : sub_count (plan_of counted) ≡ 2
two_subs = refl

-- ---- a sum of a stream, which wraps: s 0, z 1
abbrev summed : DraftView
summed = one_topic (record { name = codes "s"; op = StreamOf (codes "t") } ∷ record { name = codes "z"; op = SumOf (codes "s") None (codes "n") } ∷ [])

wrapped : Gives summed (put_row 0 (codes "k") (n_is 9223372036854775807) ∷ put_row 0 (codes "k") (n_is 1) ∷ []) 4 1
    ((codes "k", (codes "sum", Int (negsuc 9223372036854775807)) ∷ []) ∷ [])
unfolding fin.entries fin.empty fin.get fin.insert fin.retain_keys fin.remove fin.checked
wrapped = (refl, refl)

-- ---- windowed counts: s 0, w 1
abbrev windowed : ℤ → Option ℤ → Option ℤ → DraftView
windowed size advance grace = one_topic (record { name = codes "s"; op = StreamOf (codes "t") } ∷ record { name = codes "w"; op = WindowedOf (codes "s") None size advance grace } ∷ [])

abbrev at_time : ℕ → Input
at_time t = record { topic = 0; key = Some (codes "k"); value = Some (n_is 1); time = t }

abbrev asked_windows : DraftView → List Input → List (WindowKey × Row)
asked_windows d records = fin.entries ((query (plan_of d) records).windows 1)

-- the table after each order, what waits, and how many were late
abbrev pub ran_windows : DraftView → List Input → List (List (WindowKey × Row) × List Item × ℕ)
ran_windows d records = map (λ st. (window_rows_of (plan_of d) st 1, waiting_in (plan_of d) st, st.late)) (ends d records 4)

abbrev hops : List (WindowKey × Row)
hops = ((codes "k", 0), count_is (pos 1)) ∷ ((codes "k", 5), count_is (pos 1)) ∷ ((codes "k", 10), count_is (pos 1)) ∷ []

hopping : record {
  asked : asked_windows (windowed (pos 10) (Some (pos 5)) None) (at_time 3 ∷ at_time 12 ∷ []) ≡ hops;
  ran : ran_windows (windowed (pos 10) (Some (pos 5)) None) (at_time 3 ∷ at_time 12 ∷ []) ≡ three (hops, [], 0);
}
unfolding fin.entries fin.empty fin.get fin.insert fin.retain_keys fin.remove fin.checked
hopping = record { asked = refl; ran = refl }

-- without grace the second record is late
late_window : record {
  asked : asked_windows (windowed (pos 10) None (Some (pos 0))) (at_time 100 ∷ at_time 5 ∷ []) ≡ ((codes "k", 0), count_is (pos 1)) ∷ ((codes "k", 100), count_is (pos 1)) ∷ [];
  ran : ran_windows (windowed (pos 10) None (Some (pos 0))) (at_time 100 ∷ at_time 5 ∷ []) ≡ three (((codes "k", 100), count_is (pos 1)) ∷ [], [], 1);
}
unfolding fin.entries fin.empty fin.get fin.insert fin.retain_keys fin.remove fin.checked
late_window = record { asked = refl; ran = refl }

-- ---- a table joined with itself: s 0, m 1
abbrev bosses : DraftView
bosses = one_topic (record { name = codes "s"; op = TableOf (codes "t") }
    ∷ record { name = codes "m"; op = FkJoinOf (codes "s") (codes "s") (fk.Field (codes "boss")) LeftJoin ((codes "boss", RightOf (codes "name")) ∷ (codes "name", LeftOf (codes "name")) ∷ []) } ∷ [])

abbrev staff : Key → Key → Row
staff boss name = (codes "boss", Text boss) ∷ (codes "name", Text name) ∷ []

own_boss : Gives bosses (put_row 0 (codes "a") (staff (codes "a") (codes "Ann")) ∷ put_row 0 (codes "b") (staff (codes "a") (codes "Bob")) ∷ put_row 0 (codes "c") ((codes "name", Text (codes "Cy")) ∷ []) ∷ []) 8 1
    ((codes "a", staff (codes "Ann") (codes "Ann")) ∷ (codes "b", staff (codes "Ann") (codes "Bob")) ∷ (codes "c", (codes "name", Text (codes "Cy")) ∷ []) ∷ [])
unfolding fin.entries fin.empty fin.get fin.insert fin.retain_keys fin.remove fin.checked
own_boss = (refl, refl)

one_sub : sub_count (plan_of bosses) ≡ 1
one_sub = refl

-- ---- a join by key and a filter: x 0, y 1, j 2, f 3
abbrev joined_tables : DraftView
joined_tables = record {
  app = codes "a";
  topics = (codes "x", plain (pos 1)) ∷ (codes "y", plain (pos 1)) ∷ [];
  nodes = record { name = codes "x"; op = TableOf (codes "x") } ∷ record { name = codes "y"; op = TableOf (codes "y") }
      ∷ record { name = codes "j"; op = JoinOf (codes "x") (codes "y") Outer ((codes "a", LeftOf (codes "a")) ∷ (codes "b", RightOf (codes "b")) ∷ []) }
      ∷ record { name = codes "f"; op = FilterOf (codes "x") (IsLess (FieldOf (codes "a")) (Number (pos 3))) } ∷ [];
  print = codes "j" ∷ codes "f" ∷ [];
}

abbrev one_int : List ℕ → ℕ → Row
one_int name n = (name, Int (pos n)) ∷ []

abbrev both_sides : List Input
both_sides = put_row 0 (codes "k1") (one_int (codes "a") 1) ∷ put_row 1 (codes "k2") (one_int (codes "b") 2) ∷ put_row 0 (codes "k3") (one_int (codes "a") 3) ∷ put_row 1 (codes "k3") (one_int (codes "b") 4) ∷ []

outer_join : Gives joined_tables both_sides 6 2 ((codes "k1", one_int (codes "a") 1) ∷ (codes "k2", one_int (codes "b") 2) ∷ (codes "k3", one_int (codes "a") 3 ++ one_int (codes "b") 4) ∷ [])
unfolding fin.entries fin.empty fin.get fin.insert fin.retain_keys fin.remove fin.checked
outer_join = (refl, refl)

filtered : Gives joined_tables both_sides 6 3 ((codes "k1", one_int (codes "a") 1) ∷ [])
unfolding fin.entries fin.empty fin.get fin.insert fin.retain_keys fin.remove fin.checked
filtered = (refl, refl)

-- ---- a stream without keys, regrouped: s 0, k 1, c 2
abbrev rekeyed : DraftView
rekeyed = one_topic (record { name = codes "s"; op = StreamOf (codes "t") } ∷ record { name = codes "k"; op = KeyOf (codes "s") (codes "u") } ∷ record { name = codes "c"; op = CountOf (codes "k") None } ∷ [])

abbrev u_is : Key → Input
u_is u = record { topic = 0; key = None; value = Some ((codes "u", Text u) ∷ []); time = 0 }

regrouped : Gives rekeyed (u_is (codes "p") ∷ u_is (codes "q") ∷ u_is (codes "p") ∷ record { topic = 0; key = None; value = None; time = 0 } ∷ []) 6 2
    ((codes "p", count_is (pos 2)) ∷ (codes "q", count_is (pos 1)) ∷ [])
unfolding fin.entries fin.empty fin.get fin.insert fin.retain_keys fin.remove fin.checked
regrouped = (refl, refl)

-- ---- a group counted and joined back to its source: x 0, g 1, j 2; one subtopology
abbrev back : DraftView
back = one_topic (record { name = codes "x"; op = TableOf (codes "t") } ∷ record { name = codes "g"; op = CountOf (codes "x") (Some (codes "r")) }
    ∷ record { name = codes "j"; op = JoinOf (codes "x") (codes "g") Outer ((codes "n", RightOf (codes "count")) ∷ (codes "r", LeftOf (codes "r")) ∷ []) } ∷ [])

joined_back : Gives back (put_row 0 (codes "a") (r_is (codes "a")) ∷ put_row 0 (codes "b") (r_is (codes "a")) ∷ put_row 0 (codes "c") (r_is (codes "b")) ∷ delete 0 (codes "c") ∷ []) 9 2
    ((codes "a", (codes "n", Int (pos 2)) ∷ (codes "r", Text (codes "a")) ∷ []) ∷ (codes "b", (codes "r", Text (codes "a")) ∷ []) ∷ [])
unfolding fin.entries fin.empty fin.get fin.insert fin.retain_keys fin.remove fin.checked
joined_back = (refl, refl)

back_sub : sub_count (plan_of back) ≡ 1
back_sub = refl

-- ---- orders and customers over several partitions, and a sum over the join: o 0, c 1, e 2, totals 3; the query alone
abbrev totals : DraftView
totals = record {
  app = codes "s";
  topics = (codes "customers", plain (pos 2)) ∷ (codes "orders", plain (pos 4)) ∷ [];
  nodes = (orders Inner).nodes ++ record { name = codes "totals"; op = SumOf (codes "e") (Some (codes "region")) (codes "amt") } ∷ [];
  print = codes "e" ∷ codes "totals" ∷ [];
}

abbrev twelve : List Input
twelve = customer (codes "c1") (codes "eu") ∷ customer (codes "c2") (codes "us") ∷ customer (codes "c3") (codes "eu")
    ∷ order (codes "o1") (codes "c1") 10 ∷ order (codes "o2") (codes "c2") 20 ∷ order (codes "o3") (codes "c3") 30 ∷ order (codes "o4") (codes "c9") 40
    ∷ order (codes "o5") (codes "c1") 50 ∷ order (codes "o6") (codes "c2") 60 ∷ customer (codes "c3") (codes "us") ∷ delete 1 (codes "o5") ∷ order (codes "o2") (codes "c1") 25 ∷ []

abbrev sum_is : ℕ → Row
sum_is n = (codes "sum", Int (pos n)) ∷ []

summed_regions : record {
  orders : asked totals twelve 2 ≡ (codes "o1", result 10 (codes "eu")) ∷ (codes "o2", result 25 (codes "eu")) ∷ (codes "o3", result 30 (codes "us")) ∷ (codes "o6", result 60 (codes "us")) ∷ [];
  sums : asked totals twelve 3 ≡ (codes "eu", sum_is 35) ∷ (codes "us", sum_is 90) ∷ [];
}
unfolding fin.entries fin.empty fin.get fin.insert fin.retain_keys fin.remove fin.checked
summed_regions = record { orders = refl; sums = refl }
