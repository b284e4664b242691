-- The names of a topology line's nodes are letters, digits and underscores.
use Rattle.std.proofs.Common.{◌≡◌, ℕ, List, [], ◌∷◌, ◌++◌, Bool, true, false, cond, refl, ap, subst}
use Rattle.std.specs.Prelude.{Some, None, Result, Ok, Err, codes}
use Rattle.std.specs.List.{list_all}
use Rattle.serde_json.specs.Data.{Data, Items, no_items, item}
use Rattle.serde_json.specs.Find.{as_array, as_object}
use Rattle.ks_record.specs.Texts.{name_of}
use Rattle.ks_plan.specs.Drafts.{Name, OpView, NodeView, Topics, DraftView}
use Rattle.ks_job_record.specs.declared.fault.JobKind.{JobKind}
use Rattle.ks_job_record.specs.declared.fault.JobKind.TheVariants.{BadShape}
use Rattle.ks_job_record.specs.declared.members.Form.TheVariants as form
use Rattle.ks_job_record.specs.declared.members.Kind.{Kind}
use Rattle.ks_job_record.specs.Gives.{◌>>=◌, some_or}
use Rattle.ks_job_record.specs.Members.{object_of, member_of, text_of}
use Rattle.ks_job_topology.specs.Labels.{is_word_byte}
use Rattle.ks_job_topology.specs.Nodes.{node_from, node_name_from, op_from, body_from, nodes_from, nodes_of}
use Rattle.ks_job_topology.specs.Topology.{app_from, topics_of, print_of, topology_from}

abbrev pub IsWordy : Name → Type 0
IsWordy name = list_all is_word_byte name ≡ true

abbrev pub AreWordy : List NodeView → Type 0
AreWordy [] = Unit {0}
AreWordy (n ∷ ns) = IsWordy n.name × AreWordy ns

wordy_both : (ns ms : List NodeView) → AreWordy ns → AreWordy ms → AreWordy (ns ++ ms)
wordy_both [] ms h g = g
wordy_both (n ∷ ns) ms h g = (h.0, wordy_both ns ms h.1 g)

-- ---- readings
abbrev read_as : {A : Type 0} → A → Result A JobKind
read_as x = Ok x

abbrev value_or : {A : Type 0} → A → Result A JobKind → A
value_or d (Ok x) = x
value_or d (Err e) = d

the_same : {A : Type 0} (x y : A) → read_as x ≡ read_as y → x ≡ y
the_same x y e = ap (value_or x) e

passed_by : {A B : Type 0} (r : Result A JobKind) (rest : Result B JobKind) (y : B) → (r >>= λ x. rest) ≡ Ok y → rest ≡ Ok y
passed_by (Ok x) rest y h = h
passed_by (Err e) rest y h = absurd (cc)

-- ---- a name
named_by : (b c : Bool) (text name : List ℕ) (f : JobKind) → some_or f (cond b None (cond c (Some text) None)) ≡ Ok name → text ≡ name
named_by true c text name f h = absurd (cc)
named_by false true text name f h = the_same text name h
named_by false false text name f h = absurd (cc)

name_is : (text name : List ℕ) (f : JobKind) → some_or f (name_of text) ≡ Ok name → text ≡ name
name_is text name f h = named_by _ _ text name f h

wordy_by : (b : Bool) (text name : List ℕ) (f g : JobKind) → list_all is_word_byte text ≡ b → cond b (some_or f (name_of text)) (Err g) ≡ Ok name → IsWordy name
wordy_by true text name f g is h = subst IsWordy (name_is text name f h) is
wordy_by false text name f g is h = absurd (cc)

text_wordy : (r : Result (List ℕ) JobKind) (name : List ℕ) (f g : JobKind) → (r >>= λ text. cond (list_all is_word_byte text) (some_or f (name_of text)) (Err g)) ≡ Ok name → IsWordy name
text_wordy (Ok text) name f g h = wordy_by (list_all is_word_byte text) text name f g refl h
text_wordy (Err e) name f g h = absurd (cc)

name_wordy : (d : Data) (name : List ℕ) → node_name_from d ≡ Ok name → IsWordy name
unfolding node_name_from
name_wordy d name h = text_wordy (text_of (codes "name") d) name (BadShape (codes "name")) (BadShape (codes "name")) h

-- ---- a node
with_op : (name : List ℕ) (r : Result OpView JobKind) (n : NodeView) → (r >>= λ op. Ok (record { name = name; op = op })) ≡ Ok n → IsWordy name → IsWordy n.name
with_op name (Ok op) n h w = subst (λ (m : NodeView). IsWordy m.name) (the_same _ n h) w
with_op name (Err e) n h w = absurd (cc)

with_name : (r : Result (List ℕ) JobKind) (body : Result OpView JobKind) (n : NodeView) → ((name : List ℕ) → r ≡ Ok name → IsWordy name) → (r >>= λ name. body >>= λ op. Ok (record { name = name; op = op })) ≡ Ok n → IsWordy n.name
with_name (Ok name) body n w h = with_op name body n h (w name refl)
with_name (Err e) body n w h = absurd (cc)

with_kind : (d : Data) (r : Result Kind JobKind) (n : NodeView) →
    (r >>= λ kind. object_of (codes "nodes") (form.Node kind) d >>= λ known. node_name_from d >>= λ name. body_from kind d >>= λ op. Ok (record { name = name; op = op })) ≡ Ok n → IsWordy n.name
with_kind d (Ok kind) n h =
    with_name (node_name_from d) (body_from kind d) n (name_wordy d) (passed_by (object_of (codes "nodes") (form.Node kind) d) (node_name_from d >>= λ name. body_from kind d >>= λ op. Ok (record { name = name; op = op })) n h)
with_kind d (Err e) n h = absurd (cc)

node_wordy : (d : Data) (n : NodeView) → node_from d ≡ Ok n → IsWordy n.name
unfolding node_from
node_wordy d n h =
    with_kind d (op_from d) n (passed_by (some_or (BadShape (codes "nodes")) (as_object d))
    (op_from d >>= λ kind. object_of (codes "nodes") (form.Node kind) d >>= λ known. node_name_from d >>= λ name. body_from kind d >>= λ op. Ok (record { name = name; op = op })) n h)

-- ---- all nodes
more_wordy : (found : List NodeView) (ds : Items) (ns : List NodeView) → AreWordy found → nodes_from found ds ≡ Ok ns → AreWordy ns
more_wordy found no_items ns w h = subst AreWordy (the_same found ns h) w
more_wordy found (item d ds) ns w h = by (node_from d) refl h (λ n. more_wordy (found ++ n ∷ []) ds ns)
  where
    by : (r : Result NodeView JobKind) → node_from d ≡ r → (r >>= λ n. nodes_from (found ++ n ∷ []) ds) ≡ Ok ns → ((n : NodeView) → AreWordy (found ++ n ∷ []) → nodes_from (found ++ n ∷ []) ds ≡ Ok ns → AreWordy ns) → AreWordy ns
    by (Ok n) e g again = again n (wordy_both found (n ∷ []) w (node_wordy d n e, tt)) g
    by (Err f) e g again = absurd (cc)

array_wordy : (r : Result Items JobKind) (ns : List NodeView) → (r >>= λ ds. nodes_from [] ds) ≡ Ok ns → AreWordy ns
array_wordy (Ok ds) ns h = more_wordy [] ds ns tt h
array_wordy (Err e) ns h = absurd (cc)

member_wordy : (r : Result Data JobKind) (ns : List NodeView) → (r >>= λ inner. some_or (BadShape (codes "nodes")) (as_array inner) >>= λ ds. nodes_from [] ds) ≡ Ok ns → AreWordy ns
member_wordy (Ok inner) ns h = array_wordy (some_or (BadShape (codes "nodes")) (as_array inner)) ns h
member_wordy (Err e) ns h = absurd (cc)

nodes_wordy : (d : Data) (ns : List NodeView) → nodes_of d ≡ Ok ns → AreWordy ns
unfolding nodes_of
nodes_wordy d ns h = member_wordy (member_of (codes "nodes") d) ns h

-- ---- a topology
with_print : (app : List ℕ) (topics : Topics) (nodes : List NodeView) (r : Result (List (List ℕ)) JobKind) (d : DraftView) → AreWordy nodes → (r >>= λ print. Ok (record { app = app; topics = topics; nodes = nodes; print = print })) ≡ Ok d → AreWordy d.nodes
with_print app topics nodes (Ok print) d w h = subst (λ (x : DraftView). AreWordy x.nodes) (the_same _ d h) w
with_print app topics nodes (Err e) d w h = absurd (cc)

with_nodes : (app : List ℕ) (topics : Topics) (r : Result (List NodeView) JobKind) (more : Result (List (List ℕ)) JobKind) (d : DraftView) → ((ns : List NodeView) → r ≡ Ok ns → AreWordy ns) →
    (r >>= λ nodes. more >>= λ print. Ok (record { app = app; topics = topics; nodes = nodes; print = print })) ≡ Ok d → AreWordy d.nodes
with_nodes app topics (Ok ns) more d w h = with_print app topics ns more d (w ns refl) h
with_nodes app topics (Err e) more d w h = absurd (cc)

with_topics : (app : List ℕ) (x : Data) (r : Result Topics JobKind) (d : DraftView) → (r >>= λ topics. nodes_of x >>= λ nodes. print_of x >>= λ print. Ok (record { app = app; topics = topics; nodes = nodes; print = print })) ≡ Ok d → AreWordy d.nodes
with_topics app x (Ok topics) d h = with_nodes app topics (nodes_of x) (print_of x) d (nodes_wordy x) h
with_topics app x (Err e) d h = absurd (cc)

with_app : (x : Data) (r : Result (List ℕ) JobKind) (d : DraftView) → (r >>= λ app. topics_of x >>= λ topics. nodes_of x >>= λ nodes. print_of x >>= λ print. Ok (record { app = app; topics = topics; nodes = nodes; print = print })) ≡ Ok d → AreWordy d.nodes
with_app x (Ok app) d h = with_topics app x (topics_of x) d h
with_app x (Err e) d h = absurd (cc)

pub topology_wordy : (x : Data) (d : DraftView) → topology_from x ≡ Ok d → AreWordy d.nodes
unfolding topology_from
topology_wordy x d h =
    with_app x (app_from x) d (passed_by (object_of (codes "line") form.Topology x)
    (app_from x >>= λ app. topics_of x >>= λ topics. nodes_of x >>= λ nodes. print_of x >>= λ print. Ok (record { app = app; topics = topics; nodes = nodes; print = print })) d h)
