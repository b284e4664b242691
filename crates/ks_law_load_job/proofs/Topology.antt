-- The topology line of the load job.
use Rattle.std.proofs.Common.{◌≡◌, ℕ, List, length, true, Some, Ok, decimal, codes, refl, ap, ◌∙◌, sym, arith}
use Rattle.std.specs.Fmt.{digits}
use Rattle.json.specs.Json as json
use Rattle.json.specs.Tree as tree
use Rattle.json.specs.Print.{print, print_from, escape_byte}
use Rattle.json.proofs.Printed.Decimals.{IsNumber-decimal}
use Rattle.serde_json.specs.Data.{unsigned, Data, number, string, array, object, no_items, item, no_members, member}
use Rattle.serde_json.specs.Read.{read, of_json}
use Rattle.serde_json.proofs.Numbers.{number_of-decimal}
use Rattle.ks_job_record.specs.Members.{object_of, is_member, text_of, member_of, integer_from}
use Rattle.ks_job_topology.specs.Exprs.{limited, leaf_from}
use Rattle.ks_job_topology.specs.Nodes.{nodes_of, node_from, op_from, kind_of, node_name_from, blob_from, name_from, count_from, sum_from, by_from, fk_join_from, join_kind_from, set_of, entry_from, body_from}
use Rattle.ks_job_topology.specs.Topology.{topology_from, app_from, label_from, topics_of, topic_from, print_of}
use Rattle.ks_job_topology.specs.Stated.{parts_from, plain_from, spread_from}
use Rattle.ks_job_topology.specs.Foreign.{fk_in, fk_from}
use Rattle.ks_law_load_job.specs.Items.{load_draft}
use Rattle.ks_law_load_job.proofs.Clean.{clean}
use Rattle.ks_law_load_job.proofs.Trees.{read_printed}

-- ---- as a value of JSON

abbrev one : List ℕ → json.Json → json.Json
one k v = json.object (json.member k v json.no_members)

abbrev table_tree : List ℕ → List ℕ → json.Json
table_tree name topic = json.object (json.member (codes "name") (json.string name) (json.member (codes "op") (json.string (codes "table")) (json.member (codes "topic") (json.string topic) json.no_members)))

abbrev join_tree : json.Json
join_tree =
    json.object (json.member (codes "name") (json.string (codes "e")) (json.member (codes "op") (json.string (codes "fk_join")) (json.member (codes "left") (json.string (codes "o")) (json.member (codes "right") (json.string (codes "c"))
    (json.member (codes "fk") (json.string (codes "cust")) (json.member (codes "kind") (json.string (codes "inner"))
    (json.member (codes "set") (json.object (json.member (codes "amt") (one (codes "left") (json.string (codes "amt"))) (json.member (codes "region") (one (codes "right") (json.string (codes "region"))) json.no_members))) json.no_members)))))))

abbrev sum_tree : json.Json
sum_tree =
    json.object (json.member (codes "name") (json.string (codes "totals")) (json.member (codes "op") (json.string (codes "sum")) (json.member (codes "from") (json.string (codes "e"))
    (json.member (codes "by") (json.string (codes "region")) (json.member (codes "field") (json.string (codes "amt")) json.no_members)))))

abbrev count_tree : json.Json
count_tree =
    json.object (json.member (codes "name") (json.string (codes "orders_per_region")) (json.member (codes "op") (json.string (codes "count")) (json.member (codes "from") (json.string (codes "e"))
    (json.member (codes "by") (json.string (codes "region")) json.no_members))))

abbrev nodes_tree : json.Json
nodes_tree = json.array (json.item (table_tree (codes "o") (codes "orders")) (json.item (table_tree (codes "c") (codes "customers")) (json.item join_tree (json.item sum_tree (json.item count_tree json.no_items)))))

abbrev topics_tree : json.Json
topics_tree = json.object (json.member (codes "customers") (json.number (decimal 4)) (json.member (codes "orders") (json.number (decimal 8)) json.no_members))

abbrev print_tree : json.Json
print_tree = json.array (json.item (json.string (codes "totals")) (json.item (json.string (codes "orders_per_region")) json.no_items))

abbrev topology_tree : json.Json
topology_tree =
    json.object (json.member (codes "app") (json.string (codes "load")) (json.member (codes "topics") topics_tree (json.member (codes "nodes") nodes_tree (json.member (codes "print") print_tree json.no_members))))

-- ---- and what it is read as: members in order of bytes
abbrev one_data : List ℕ → List ℕ → Data
one_data k s = object (member k (string s) no_members)

abbrev table_data : List ℕ → List ℕ → Data
table_data name topic = object (member (codes "name") (string name) (member (codes "op") (string (codes "table")) (member (codes "topic") (string topic) no_members)))

abbrev join_data : Data
join_data =
    object (member (codes "fk") (string (codes "cust")) (member (codes "kind") (string (codes "inner")) (member (codes "left") (string (codes "o")) (member (codes "name") (string (codes "e")) (member (codes "op") (string (codes "fk_join"))
    (member (codes "right") (string (codes "c"))
    (member (codes "set") (object (member (codes "amt") (one_data (codes "left") (codes "amt")) (member (codes "region") (one_data (codes "right") (codes "region")) no_members))) no_members)))))))

abbrev sum_data : Data
sum_data =
    object (member (codes "by") (string (codes "region")) (member (codes "field") (string (codes "amt")) (member (codes "from") (string (codes "e")) (member (codes "name") (string (codes "totals")) (member (codes "op") (string (codes "sum")) no_members)))))

abbrev count_data : Data
count_data =
    object (member (codes "by") (string (codes "region")) (member (codes "from") (string (codes "e")) (member (codes "name") (string (codes "orders_per_region")) (member (codes "op") (string (codes "count")) no_members))))

abbrev nodes_data : Data
nodes_data = array (item (table_data (codes "o") (codes "orders")) (item (table_data (codes "c") (codes "customers")) (item join_data (item sum_data (item count_data no_items)))))

abbrev topics_data : Data
topics_data = object (member (codes "customers") (number (unsigned 4)) (member (codes "orders") (number (unsigned 8)) no_members))

abbrev print_data : Data
print_data = array (item (string (codes "totals")) (item (string (codes "orders_per_region")) no_items))

abbrev pub topology_data : Data
topology_data = object (member (codes "app") (string (codes "load")) (member (codes "nodes") nodes_data (member (codes "print") print_data (member (codes "topics") topics_data no_members))))

-- ---- its text
abbrev pub topology_line : List ℕ
topology_line = codes "{\"app\":\"load\",\"topics\":{\"customers\":4,\"orders\":8},\"nodes\":[{\"name\":\"o\",\"op\":\"table\",\"topic\":\"orders\"},{\"name\":\"c\",\"op\":\"table\",\"topic\":\"customers\"},{\"name\":\"e\",\"op\":\"fk_join\",\"left\":\"o\",\"right\":\"c\",\"fk\":\"cust\",\"kind\":\"inner\",\"set\":{\"amt\":{\"left\":\"amt\"},\"region\":{\"right\":\"region\"}}},{\"name\":\"totals\",\"op\":\"sum\",\"from\":\"e\",\"by\":\"region\",\"field\":\"amt\"},{\"name\":\"orders_per_region\",\"op\":\"count\",\"from\":\"e\",\"by\":\"region\"}],\"print\":[\"totals\",\"orders_per_region\"]}"

written : print (tree.json_tokens topology_tree) ≡ topology_line
unfolding print_from escape_byte digits
written = refl

numbers : tree.HasNumbers topology_tree
numbers = (tt, ((IsNumber-decimal 4 (omega arith), (IsNumber-decimal 8 (omega arith), tt)), (((tt, (tt, (tt, tt))), ((tt, (tt, (tt, tt))), ((tt, (tt, (tt, (tt, (tt, (tt, (((tt, tt), ((tt, tt), tt)), tt))))))), ((tt, (tt, (tt, (tt, (tt, tt))))), ((tt, (tt, (tt, (tt, tt)))), tt))))), ((tt, (tt, tt)), tt))))

said : of_json topology_tree ≡ Some topology_data
said = rw (number_of-decimal 4 (omega arith), number_of-decimal 8 (omega arith)) refl

pub topology_read : read topology_line ≡ Some topology_data
topology_read = ap read (sym written) ∙ read_printed topology_tree topology_data numbers (omega arith) said

-- ---- what it says
pub topology_said : topology_from topology_data ≡ Ok load_draft
unfolding topology_from object_of is_member app_from text_of member_of label_from topics_of topic_from spread_from plain_from parts_from integer_from nodes_of node_from op_from kind_of node_name_from blob_from name_from count_from sum_from by_from fk_join_from fk_from fk_in join_kind_from set_of entry_from limited leaf_from print_of body_from
topology_said = refl

pub topology_clean : clean topology_line ≡ true
topology_clean = refl

pub topology_length : length topology_line ≡ 458
topology_length = refl
