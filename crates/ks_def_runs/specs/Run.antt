-- Runs of tasks that send one another records, whatever the order of their steps: the uncrashed run.
use Rattle.std.specs.Prelude.{◌≡◌, ◌≢◌, ℕ, ◌+◌, Bool, true, false, List, [], ◌∷◌, ◌++◌, Option, Some, None, fold, cond, ◌&&◌, Decides}

-- what a task makes of records: its store, the records for each place in order, and how many were late
pub record Outcome (Place Store Item : Type 0) : Type 0 where
  pub store : Store
  pub made : List (Place × Item)
  pub late : ℕ

-- a place is a partition of a topic; each is read by one task
pub record Machine (Task Place Store Item : Type 0) : Type 0 where
  pub same_task : Task → Task → Bool
  pub same_place : Place → Place → Bool
  pub reader : Place → Task
  pub start : Task → Store
  -- one whole step: what the task makes of one record
  pub step : Task → Store → Place → Item → Outcome Place Store Item

-- the tests of names are equality
pub record HasNames {Task Place Store Item : Type 0} (m : Machine Task Place Store Item) : Type 0 where
  pub tasks : (a b : Task) → Decides (m.same_task a b) (a ≡ b)
  pub places : (a b : Place) → Decides (m.same_place a b) (a ≡ b)

-- a record that was taken, with its sender (none at an input) and its place
pub record Taken (Task Place Item : Type 0) : Type 0 where
  pub sender : Option Task
  pub place : Place
  pub item : Item

pub record RunState (Task Place Store Item : Type 0) : Type 0 where
  pub stores : Task → Store
  -- first in, first out, for each sender and place
  pub waiting : Option Task → Place → List Item
  -- all that was ever sent, or was there at the start, by sender and place: of a changelog's partition, by its task, its past
  pub given : Option Task → Place → List Item
  -- all records that were taken, in order
  pub taken : List (Taken Task Place Item)
  -- how many pairs of record and window were late
  pub late : ℕ

-- senders compared: none is an input
abbrev pub is_from : {Task : Type 0} → (Task → Task → Bool) → Option Task → Task → Bool
is_from same None u = false
is_from same (Some t) u = same t u

abbrev pub is_input : {A : Type 0} → Option A → Bool
is_input None = true
is_input (Some t) = false

abbrev pub same_sender : {Task : Type 0} → (Task → Task → Bool) → Option Task → Option Task → Bool
same_sender same s None = is_input s
same_sender same s (Some u) = is_from same s u

module _ {Task Place Store Item : Type 0} (m : Machine Task Place Store Item) where
  -- the records of a list that go to a place
  abbrev pub sent_to : Place → List (Place × Item) → List Item
  sent_to p [] = []
  sent_to p (e ∷ es) = cond (m.same_place p e.0) (e.1 ∷ sent_to p es) (sent_to p es)

  abbrev pub same_channel : Option Task → Place → Option Task → Place → Bool
  same_channel s p t q = same_sender m.same_task s t && m.same_place p q

  -- the step at the first waiting record of a sender and a place; no step where none waits
  abbrev pub take_first : RunState Task Place Store Item → Option Task → Place → List Item → RunState Task Place Store Item
  take_first st s p [] = st
  take_first st s p (x ∷ rest) =
      let t = m.reader p in
      let out = m.step t (st.stores t) p x in
      record {
        stores = λ u. cond (m.same_task u t) out.store (st.stores u);
        waiting = λ r q. cond (same_channel r q s p) rest (st.waiting r q) ++ cond (is_from m.same_task r t) (sent_to q out.made) [];
        given = λ r q. st.given r q ++ cond (is_from m.same_task r t) (sent_to q out.made) [];
        taken = st.taken ++ record { sender = s; place = p; item = x } ∷ [];
        late = st.late + out.late;
      }

  abbrev pub advance : RunState Task Place Store Item → (Option Task × Place) → RunState Task Place Store Item
  advance st c = take_first st c.0 c.1 (st.waiting c.0 c.1)

  abbrev pub of_input : Option Task → List Item → List Item
  of_input None xs = xs
  of_input (Some t) xs = []

  -- empty stores, and the inputs waiting
  abbrev pub initial : (Place → List Item) → RunState Task Place Store Item
  initial inputs = record { stores = m.start; waiting = λ r q. of_input r (inputs q); given = λ r q. of_input r (inputs q); taken = []; late = 0 }

  -- a whole run, by a schedule that names a list for each step
  abbrev pub run : (Place → List Item) → List (Option Task × Place) → RunState Task Place Store Item
  run inputs schedule = fold advance (initial inputs) schedule

  -- the lists from which a schedule takes aren't empty
  abbrev pub TakesEach : RunState Task Place Store Item → List (Option Task × Place) → Type 0
  TakesEach st [] = Unit {0}
  TakesEach st (c ∷ cs) = (st.waiting c.0 c.1 ≢ []) × TakesEach (advance st c) cs

  -- with more records of the inputs
  abbrev pub fed : RunState Task Place Store Item → (Place → List Item) → RunState Task Place Store Item
  fed st inputs = record st { waiting = λ r q. st.waiting r q ++ of_input r (inputs q); given = λ r q. st.given r q ++ of_input r (inputs q) }

  abbrev pub channel : Taken Task Place Item → Option Task × Place
  channel t = (t.sender, t.place)

  -- the records that were taken of a sender and a place
  abbrev pub received : Option Task → Place → List (Taken Task Place Item) → List Item
  received s p [] = []
  received s p (t ∷ ts) = cond (same_channel s p t.sender t.place) (t.item ∷ received s p ts) (received s p ts)

  -- ---- one task by itself
  -- what a task makes of the records that it reads among these
  abbrev pub local : Task → Store → List (Taken Task Place Item) → Outcome Place Store Item
  local u store [] = record { store = store; made = []; late = 0 }
  local u store (t ∷ ts) =
      cond (m.same_task u (m.reader t.place))
      (let o = m.step u store t.place t.item in
      let more = local u o.store ts in
      record { store = more.store; made = o.made ++ more.made; late = o.late + more.late })
      (local u store ts)

  -- how many were late, over all tasks
  abbrev pub late_all : (Task → Store) → List (Taken Task Place Item) → ℕ
  late_all stores [] = 0
  late_all stores (t ∷ ts) =
      (m.step (m.reader t.place) (stores (m.reader t.place)) t.place t.item).late
      + late_all (λ u. cond (m.same_task u (m.reader t.place)) (m.step (m.reader t.place) (stores (m.reader t.place)) t.place t.item).store (stores u)) ts

  abbrev pub sent_by : (Task → Store) → List (Taken Task Place Item) → Option Task → Place → List Item
  sent_by stores ts None q = []
  sent_by stores ts (Some u) q = sent_to q (local u (stores u) ts).made

  -- all that a sender ever sent to a place: an input's records at the start, a task's as it goes
  abbrev pub sent : (Place → List Item) → List (Taken Task Place Item) → Option Task → Place → List Item
  sent inputs taken None p = inputs p
  sent inputs taken (Some u) p = sent_to p (local u (m.start u) taken).made

  -- in each state: a task's store is what its own steps made, and what was sent is what was received and then what waits
  pub record Follows (inputs : Place → List Item) (st : RunState Task Place Store Item) : Type 0 where
    pub stores : (u : Task) → st.stores u ≡ (local u (m.start u) st.taken).store
    pub given : (s : Option Task) (p : Place) → st.given s p ≡ sent inputs st.taken s p
    pub flow : (s : Option Task) (p : Place) → sent inputs st.taken s p ≡ received s p st.taken ++ st.waiting s p
    pub late : st.late ≡ late_all m.start st.taken
