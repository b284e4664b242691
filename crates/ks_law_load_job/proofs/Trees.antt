-- The lines of the load job as values of JSON: each line is what is printed for such a value.
use Rattle.std.proofs.Common.{◌≡◌, ℕ, ◌^◌, ◌<◌, ◌≤◌, List, [], ◌∷◌, ◌++◌, Some, option_map, option_and_then, decimal, codes, refl, ap, ap₂, ◌∙◌, sym, arith, append_assoc, append-nil}
use Rattle.json.specs.Lex.{tokens}
use Rattle.json.specs.Json as json
use Rattle.json.specs.Tree as tree
use Rattle.json.specs.Print.{print, print_from, escape, escape_byte}
use Rattle.json.proofs.Printed.Decimals.{IsNumber-decimal}
use Rattle.json.proofs.Printed.Tokens.{tokens-print}
use Rattle.json.proofs.Printed.Trees.{ArePrintable-json_tokens, value-json_tokens}
use Rattle.serde_json.specs.Data.{unsigned, Data, null, number, string, object, no_members, member, put}
use Rattle.serde_json.specs.Read.{read, of_json, max_depth}
use Rattle.serde_json.proofs.Numbers.{number_of-decimal}
use Rattle.ks_law_load_job.proofs.Clean.{escape-decimal}

-- what is printed for a value is read as what it says
pub read_printed : (j : json.Json) (d : Data) → tree.HasNumbers j → tree.depth j ≤ max_depth → of_json j ≡ Some d → read (print (tree.json_tokens j)) ≡ Some d
read_printed j d numbers shallow e =
    let ts = tree.json_tokens j in
    let lexed : json.value max_depth (tokens (print ts)) ≡ Some (j, []) =
    ap (json.value max_depth) (tokens-print ts (ArePrintable-json_tokens j numbers) ∙ sym (append-nil ts)) ∙ value-json_tokens j max_depth [] shallow in
    ap (λ o. option_and_then of_json (option_and_then (λ p. json.if_last p.0 p.1) o)) lexed ∙ e

-- ---- the values of the records
abbrev pub line_tree : List ℕ → List ℕ → json.Json → json.Json
line_tree topic key value =
    json.object (json.member (codes "topic") (json.string topic) (json.member (codes "key") (json.string key) (json.member (codes "value") value json.no_members)))

abbrev pub order_tree : List ℕ → List ℕ → json.Json
order_tree customer amount = json.object (json.member (codes "cust") (json.string customer) (json.member (codes "amt") (json.number amount) json.no_members))

abbrev pub customer_tree : List ℕ → json.Json
customer_tree region = json.object (json.member (codes "region") (json.string region) json.no_members)

-- and what they are read as: members in order of bytes
abbrev pub line_data : List ℕ → List ℕ → Data → Data
line_data topic key value = object (member (codes "key") (string key) (member (codes "topic") (string topic) (member (codes "value") value no_members)))

abbrev pub order_data : List ℕ → ℕ → Data
order_data customer amount = object (member (codes "amt") (number (unsigned amount)) (member (codes "cust") (string customer) no_members))

abbrev pub customer_data : List ℕ → Data
customer_data region = object (member (codes "region") (string region) no_members)

pub line_of_tree : (topic key : List ℕ) (value : json.Json) (d : Data) → of_json value ≡ Some d → of_json (line_tree topic key value) ≡ Some (line_data topic key d)
line_of_tree topic key value d e =
    ap (λ o. option_map object (option_and_then (λ (x : Data). Some (put (codes "value") x (put (codes "key") (string key) (put (codes "topic") (string topic) no_members)))) o)) e

pub order_of_tree : (customer : List ℕ) (amount : ℕ) → amount < 2 ^ 64 → of_json (order_tree customer (decimal amount)) ≡ Some (order_data customer amount)
order_of_tree customer amount h =
    ap (λ o. option_map object (option_and_then (λ (x : Data). Some (put (codes "amt") x (put (codes "cust") (string customer) no_members))) (option_map number o))) (number_of-decimal amount h)

-- ---- their texts: pieces that are written out, and between them digits
abbrev pub to_order : List ℕ
to_order = codes "{\"topic\":\"orders\",\"key\":\"o"

abbrev pub to_value : List ℕ
to_value = codes "\",\"value\":"

abbrev pub to_customer : List ℕ
to_customer = codes "{\"cust\":\"c"

abbrev pub to_amount : List ℕ
to_amount = codes "\",\"amt\":"

abbrev pub to_customer_key : List ℕ
to_customer_key = codes "{\"topic\":\"customers\",\"key\":\"c"

abbrev pub to_region : List ℕ
to_region = codes "\",\"value\":{\"region\":\"r"

abbrev pub value_text : List ℕ → List ℕ → List ℕ
value_text customer amount = to_customer ++ customer ++ to_amount ++ amount ++ codes "}}"

abbrev pub front_text : List ℕ → List ℕ
front_text order = to_order ++ order ++ to_value

abbrev pub order_text : List ℕ → List ℕ → List ℕ → List ℕ
order_text order customer amount = front_text order ++ value_text customer amount

abbrev pub deletion_text : List ℕ → List ℕ
deletion_text order = front_text order ++ codes "null}"

abbrev pub customer_text : List ℕ → List ℕ → List ℕ
customer_text customer region = to_customer_key ++ customer ++ to_region ++ region ++ codes "\"}}"

-- with the texts of names as they are written
abbrev order_pieces : List ℕ → List ℕ → List ℕ → List ℕ
order_pieces order customer amount =
    to_order ++ ((order ++ 34 ∷ []) ++ (codes ",\"value\":{\"cust\":\"c" ++ ((customer ++ 34 ∷ []) ++ (codes ",\"amt\":" ++ (amount ++ codes "}}")))))

abbrev deletion_pieces : List ℕ → List ℕ
deletion_pieces order = to_order ++ ((order ++ 34 ∷ []) ++ codes ",\"value\":null}")

abbrev customer_pieces : List ℕ → List ℕ → List ℕ
customer_pieces customer region = to_customer_key ++ ((customer ++ 34 ∷ []) ++ (codes ",\"value\":{\"region\":\"r" ++ ((region ++ 34 ∷ []) ++ codes "}}")))

-- pieces put together otherwise
regroup : (q v b c x : List ℕ) → q ++ v ≡ b ++ c → q ++ (v ++ x) ≡ b ++ (c ++ x)
regroup q v b c x h = sym (append_assoc q v x) ∙ ap (λ l. l ++ x) h ∙ append_assoc b c x

regroup_one : (q v d x : List ℕ) → q ++ v ≡ d → q ++ (v ++ x) ≡ d ++ x
regroup_one q v d x h = sym (append_assoc q v x) ∙ ap (λ l. l ++ x) h

three : (p q v w e b c d order customer amount : List ℕ) → q ++ v ≡ b ++ c → q ++ w ≡ d →
    p ++ ((order ++ q) ++ (v ++ ((customer ++ q) ++ (w ++ (amount ++ e))))) ≡ (p ++ order ++ b) ++ (c ++ customer ++ d ++ amount ++ e)
three p q v w e b c d order customer amount h k =
    let left : p ++ ((order ++ q) ++ (v ++ ((customer ++ q) ++ (w ++ (amount ++ e))))) ≡ p ++ (order ++ (q ++ (v ++ (customer ++ (q ++ (w ++ (amount ++ e))))))) = simp append_assoc in
    let right : (p ++ order ++ b) ++ (c ++ customer ++ d ++ amount ++ e) ≡ p ++ (order ++ (b ++ (c ++ (customer ++ (d ++ (amount ++ e)))))) = simp append_assoc in
    left ∙ ap (λ l. p ++ (order ++ l)) (regroup q v b c _ h ∙ ap (λ l. b ++ (c ++ (customer ++ l))) (regroup_one q w d (amount ++ e) k)) ∙ sym right

one : (p q v b e order : List ℕ) → q ++ v ≡ b ++ e → p ++ ((order ++ q) ++ v) ≡ (p ++ order ++ b) ++ e
one p q v b e order h =
    let left : p ++ ((order ++ q) ++ v) ≡ p ++ (order ++ (q ++ v)) = simp append_assoc in
    let right : (p ++ order ++ b) ++ e ≡ p ++ (order ++ (b ++ e)) = simp append_assoc in
    left ∙ ap (λ l. p ++ (order ++ l)) h ∙ sym right

two : (p q v e d f customer region : List ℕ) → q ++ v ≡ d → q ++ e ≡ f → p ++ ((customer ++ q) ++ (v ++ ((region ++ q) ++ e))) ≡ p ++ customer ++ d ++ region ++ f
two p q v e d f customer region h k =
    let left : p ++ ((customer ++ q) ++ (v ++ ((region ++ q) ++ e))) ≡ p ++ (customer ++ (q ++ (v ++ (region ++ (q ++ e))))) = simp append_assoc in
    let right : p ++ customer ++ d ++ region ++ f ≡ p ++ (customer ++ (d ++ (region ++ f))) = simp append_assoc in
    left ∙ ap (λ l. p ++ (customer ++ l)) (regroup_one q v d _ h ∙ ap (λ l. d ++ (region ++ l)) k) ∙ sym right

order_pieced : (order customer amount : List ℕ) → order_pieces order customer amount ≡ order_text order customer amount
order_pieced order customer amount =
    three to_order (34 ∷ []) (codes ",\"value\":{\"cust\":\"c") (codes ",\"amt\":") (codes "}}") to_value to_customer to_amount order customer amount refl refl

deletion_pieced : (order : List ℕ) → deletion_pieces order ≡ deletion_text order
deletion_pieced order = one to_order (34 ∷ []) (codes ",\"value\":null}") to_value (codes "null}") order refl

customer_pieced : (customer region : List ℕ) → customer_pieces customer region ≡ customer_text customer region
customer_pieced customer region = two to_customer_key (34 ∷ []) (codes ",\"value\":{\"region\":\"r") (codes "}}") to_region (codes "\"}}") customer region refl refl

abbrev pub orders_name : List ℕ
orders_name = codes "orders"

order_written : (order customer amount : List ℕ) → print (tree.json_tokens (line_tree orders_name (codes "o" ++ order) (order_tree (codes "c" ++ customer) amount))) ≡ order_pieces (escape order) (escape customer) amount
unfolding print_from escape_byte
order_written order customer amount = refl

deletion_written : (order : List ℕ) → print (tree.json_tokens (line_tree orders_name (codes "o" ++ order) json.null)) ≡ deletion_pieces (escape order)
unfolding print_from escape_byte
deletion_written order = refl

customer_written : (customer region : List ℕ) → print (tree.json_tokens (line_tree (codes "customers") (codes "c" ++ customer) (customer_tree (codes "r" ++ region)))) ≡ customer_pieces (escape customer) (escape region)
unfolding print_from escape_byte
customer_written customer region = refl

-- ---- they are read
pub order_read : (order customer amount : ℕ) → order < 2 ^ 64 → customer < 2 ^ 64 → amount < 2 ^ 64 →
    read (order_text (decimal order) (decimal customer) (decimal amount)) ≡ Some (line_data orders_name (codes "o" ++ decimal order) (order_data (codes "c" ++ decimal customer) amount))
order_read order customer amount ho hc ha =
    let j = line_tree orders_name (codes "o" ++ decimal order) (order_tree (codes "c" ++ decimal customer) (decimal amount)) in
    ap read (sym (order_written (decimal order) (decimal customer) (decimal amount) ∙ ap₂ (λ a b. order_pieces a b (decimal amount)) (escape-decimal order ho) (escape-decimal customer hc) ∙ order_pieced (decimal order) (decimal customer) (decimal amount)))
    ∙ read_printed j _ (tt, (tt, ((tt, (IsNumber-decimal amount ha, tt)), tt))) (omega arith) (line_of_tree orders_name (codes "o" ++ decimal order) (order_tree (codes "c" ++ decimal customer) (decimal amount)) (order_data (codes "c" ++ decimal customer) amount) (order_of_tree (codes "c" ++ decimal customer) amount ha))

pub deletion_read : (order : ℕ) → order < 2 ^ 64 → read (deletion_text (decimal order)) ≡ Some (line_data orders_name (codes "o" ++ decimal order) null)
deletion_read order ho =
    let j = line_tree orders_name (codes "o" ++ decimal order) json.null in
    ap read (sym (deletion_written (decimal order) ∙ ap deletion_pieces (escape-decimal order ho) ∙ deletion_pieced (decimal order)))
    ∙ read_printed j _ (tt, (tt, (tt, tt))) (omega arith) (line_of_tree orders_name (codes "o" ++ decimal order) json.null null refl)

pub customer_read : (customer region : ℕ) → customer < 2 ^ 64 → region < 2 ^ 64 →
    read (customer_text (decimal customer) (decimal region)) ≡ Some (line_data (codes "customers") (codes "c" ++ decimal customer) (customer_data (codes "r" ++ decimal region)))
customer_read customer region hc hr =
    let j = line_tree (codes "customers") (codes "c" ++ decimal customer) (customer_tree (codes "r" ++ decimal region)) in
    ap read (sym (customer_written (decimal customer) (decimal region) ∙ ap₂ customer_pieces (escape-decimal customer hc) (escape-decimal region hr) ∙ customer_pieced (decimal customer) (decimal region)))
    ∙ read_printed j _ (tt, (tt, ((tt, tt), tt))) (omega arith) (line_of_tree (codes "customers") (codes "c" ++ decimal customer) (customer_tree (codes "r" ++ decimal region)) (customer_data (codes "r" ++ decimal region)) refl)
