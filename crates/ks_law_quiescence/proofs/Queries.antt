-- What the query answers of a node, from its inputs' answers.
use Rattle.std.proofs.Common.{◌≡◌, ◌≢◌, ℕ, suc, ◌<◌, cond, List, [], ◌∷◌, refl, sym, ap, subst, ◌∙◌, arith, ne_eqb, ⊎_elim}
use Rattle.std.proofs.lemmas.Bool.Decides.{Decides-eqb}
use Rattle.ks_plan.specs.Plan.{Plan, Kind}
use Rattle.ks_plan.specs.Plan.Kind.{StreamSource, TableSource, StreamFilter, TableFilter, StreamMap, TableMap, KeySelected, StreamAggregate, TableAggregate, Windowed, KeyJoin, ForeignKeyJoin}
use Rattle.ks_query.specs.Streams.{Input, StreamItem}
use Rattle.ks_query.specs.Query.{Table, WindowTable, Answers, with_number, give_items, give_table, give_windows, answer_node, answer_nodes, no_answers, query}
use Rattle.ks_law_topology.proofs.Mixed.{Stands_at}

-- ---- each node answers from its inputs' answers
module _ (records : List Input) where
  number_here : {A : Type 0} (f : ℕ → A) (n : ℕ) (x : A) → with_number f n x n ≡ x
  number_here f n x = ap (λ b. cond b x (f n)) ((Decides-eqb n n).1 refl)

  number_other : {A : Type 0} (f : ℕ → A) (n : ℕ) (x : A) (c : ℕ) → c ≢ n → with_number f n x c ≡ f c
  number_other f n x c ne = ap (λ b. cond b x (f c)) (ne_eqb c n ne)

  -- two answers agree at the nodes before one
  pub record Agree (n : ℕ) (a b : Answers) : Type 0 where
    pub tables : (c : ℕ) → c < n → a.tables c ≡ b.tables c
    pub items : (c : ℕ) → c < n → a.items c ≡ b.items c
    pub windows : (c : ℕ) → c < n → a.windows c ≡ b.windows c

  items_agree : (a : Answers) (n : ℕ) (xs : List StreamItem) → Agree n (give_items a n xs) a
  items_agree a n xs = record { tables = λ c lt. refl; items = λ c lt. number_other a.items n xs c (λ e. omega arith); windows = λ c lt. refl }

  table_agree : (a : Answers) (n : ℕ) (t : Table) → Agree n (give_table a n t) a
  table_agree a n t = record { tables = λ c lt. number_other a.tables n t c (λ e. omega arith); items = λ c lt. refl; windows = λ c lt. refl }

  windows_agree : (a : Answers) (n : ℕ) (t : WindowTable) → Agree n (give_windows a n t) a
  windows_agree a n t = record { tables = λ c lt. refl; items = λ c lt. refl; windows = λ c lt. number_other a.windows n t c (λ e. omega arith) }

  node_agree : (a : Answers) (n : ℕ) (k : Kind) → Agree n (answer_node records a n k) a
  node_agree a n (StreamSource t) = items_agree a n _
  node_agree a n (TableSource t) = table_agree a n _
  node_agree a n (StreamFilter f p) = items_agree a n _
  node_agree a n (TableFilter f p) = table_agree a n _
  node_agree a n (StreamMap f s) = items_agree a n _
  node_agree a n (TableMap f s) = table_agree a n _
  node_agree a n (KeySelected f k) = items_agree a n _
  node_agree a n (StreamAggregate f by field through) = table_agree a n _
  node_agree a n (TableAggregate f by field) = table_agree a n _
  node_agree a n (Windowed f by w through) = windows_agree a n _
  node_agree a n (KeyJoin l r kind s) = table_agree a n _
  node_agree a n (ForeignKeyJoin l r fk kind s) = table_agree a n _

  agree_trans : (n : ℕ) (a b c : Answers) → Agree (suc n) a b → Agree n b c → Agree n a c
  agree_trans n a b c h k = record {
    tables = λ m lt. let le : m < suc n = omega arith in h.tables m le ∙ k.tables m lt;
    items = λ m lt. let le : m < suc n = omega arith in h.items m le ∙ k.items m lt;
    windows = λ m lt. let le : m < suc n = omega arith in h.windows m le ∙ k.windows m lt;
  }

  nodes_agree : (a : Answers) (n : ℕ) (ks : List Kind) → Agree n (answer_nodes records a n ks) a
  nodes_agree a n [] = record { tables = λ c lt. refl; items = λ c lt. refl; windows = λ c lt. refl }
  nodes_agree a n (k ∷ ks) = agree_trans n _ _ _ (nodes_agree (answer_node records a n k) (suc n) ks) (node_agree a n k)

  -- a node's answer at the end: from answers that agree with the last ones before it
  pub record AnswersAt (all : Answers) (c : ℕ) (k : Kind) : Type 0 where
    pub then : Answers
    pub before : Agree c then all
    pub table : all.tables c ≡ (answer_node records then c k).tables c
    pub items : all.items c ≡ (answer_node records then c k).items c
    pub windows : all.windows c ≡ (answer_node records then c k).windows c

  answers_at : (a : Answers) (n : ℕ) (ks : List Kind) (c : ℕ) (k : Kind) → Stands_at c k n ks → AnswersAt (answer_nodes records a n ks) c k
  answers_at a n [] c k s = absurd s
  answers_at a n (y ∷ ys) c k s = ⊎_elim
      (λ (e : (n ≡ c) × (y ≡ k)). subst (λ m. AnswersAt (answer_nodes records a n (y ∷ ys)) m k) e.0 (subst (λ z. AnswersAt (answer_nodes records a n (y ∷ ys)) n z) e.1
      (let all = nodes_agree (answer_node records a n y) (suc n) ys in
      let back = nodes_agree a n (y ∷ ys) in
      let here : n < suc n = omega arith in
      record {
        then = a;
        before = record { tables = λ m lt. sym (back.tables m lt); items = λ m lt. sym (back.items m lt); windows = λ m lt. sym (back.windows m lt) };
        table = all.tables n here;
        items = all.items n here;
        windows = all.windows n here;
      })))
      (λ (e : (n < c) × Stands_at c k (suc n) ys). answers_at (answer_node records a n y) (suc n) ys c k e.1) s

  pub query_at : (p : Plan) (c : ℕ) (k : Kind) → Stands_at c k 0 p.kinds → AnswersAt (query p records) c k
  query_at p c k s = answers_at no_answers 0 p.kinds c k s

  pub given_here : {A : Type 0} (f : ℕ → A) (n : ℕ) (x : A) → with_number f n x n ≡ x
  given_here f n x = number_here f n x
