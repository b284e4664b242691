-- The topology line.
use Rattle.std.specs.Prelude.{ℕ, ◌==◌, ◌&&◌, ◌||◌, List, [], ◌∷◌, ◌++◌, length, map, Bool, true, false, Option, Some, None, Result, Ok, Err, codes, nat_le, if◌then◌else◌}
use Rattle.std.specs.List.{list_all}
use Rattle.serde_json.specs.Data.{Data, Members, no_members, member, Items, no_items, item}
use Rattle.serde_json.specs.Find.{as_str, as_array, as_object}
use Rattle.ks_record.specs.Texts.{name_of}
use Rattle.ks_job_record.specs.declared.fault.JobKind.{JobKind}
use Rattle.ks_job_record.specs.declared.fault.JobKind.TheVariants.{BadShape}
use Rattle.ks_job_record.specs.declared.members.Form.TheVariants as form
use Rattle.ks_plan.specs.declared.draft.TopicDraft.{TopicDraft}
use Rattle.ks_plan.specs.Drafts.{Topics, DraftView}
use Rattle.ks_job_topology.specs.Stated.{spread_from}
use Rattle.ks_job_record.specs.Gives.{◌>>=◌, some_or}
use Rattle.ks_job_topology.specs.Labels.{is_label_byte}
use Rattle.ks_job_topology.specs.Nodes.{nodes_of}
use Rattle.ks_job_record.specs.Members.{object_of, member_of, text_of}

-- 1 to 64 letters, digits, underscores, dots and dashes
unfoldable pub label_from : List ℕ → List ℕ → Result (List ℕ) JobKind
label_from name text = if list_all is_label_byte text then some_or (BadShape name) (name_of text) else Err (BadShape name)

unfoldable pub app_from : Data → Result (List ℕ) JobKind
app_from d = do
  text ← text_of (codes "app") d
  label_from (codes "app") text

-- a topic's name is judged before its value
unfoldable pub topic_from : List ℕ → Data → Result (List ℕ × TopicDraft) JobKind
topic_from name d = do
  label ← label_from name name
  spread ← spread_from name d
  Ok (label, spread)

abbrev pub topics_from : Topics → Members → Result Topics JobKind
topics_from found no_members = Ok found
topics_from found (member k d ms) = topic_from k d >>= λ t. topics_from (found ++ t ∷ []) ms

unfoldable pub topics_of : Data → Result Topics JobKind
topics_of d = do
  inner ← member_of (codes "topics") d
  ms ← some_or (BadShape (codes "topics")) (as_object inner)
  topics_from [] ms

abbrev pub print_from : List (List ℕ) → Items → Result (List (List ℕ)) JobKind
print_from found no_items = Ok found
print_from found (item d ds) = some_or (BadShape (codes "print")) (as_str d) >>= λ s. print_from (found ++ s ∷ []) ds

unfoldable pub print_of : Data → Result (List (List ℕ)) JobKind
print_of d = do
  inner ← member_of (codes "print") d
  ds ← some_or (BadShape (codes "print")) (as_array inner)
  print_from [] ds

unfoldable pub topology_from : Data → Result DraftView JobKind
topology_from d = do
  known ← object_of (codes "line") form.Topology d
  app ← app_from d
  topics ← topics_of d
  nodes ← nodes_of d
  print ← print_of d
  Ok record { app = app; topics = topics; nodes = nodes; print = print }

abbrev pub names_of : Topics → List (List ℕ)
names_of ts = map (λ t. t.0) ts
