-- Going through the nodes that are reached alone is going through all of them.
use Rattle.std.proofs.Common.{◌≡◌, ℕ, suc, ◌+◌, ◌≤◌, Bool, true, false, if◌then◌else◌, ◌==◌, List, [], ◌∷◌, ◌++◌, Option, Some, refl, sym, ap, subst, ◌∙◌, arith, append_assoc, append-nil}
use Rattle.std.specs.Prelude.{slice_get}
use Rattle.std.specs.List.{flat_map}
use Rattle.std.proofs.Math.Path.{fun_ext}
use Rattle.ks_plan.specs.declared.node.Topic.{Topic}
use Rattle.ks_query.specs.Streams.{StreamItem}
use Rattle.ks_query.specs.Query.{with_number}
use Rattle.ks_def_tasks.specs.Messages.{Stored, Rules}
use Rattle.ks_def_tasks.specs.Step.{Arrival, Values, value_at, values_from}
use Rattle.ks_task_nodes.specs.Nodes.{TaskNode, kinds_in}
use Rattle.ks_task_nodes.specs.Reach.{is_among, is_reached, with_reached, live_in, are_numbered, of_node, at_numbers, valued_by, values_at_numbers, NoItems, SameValues}
use Rattle.ks_task_nodes.proofs.Still.{Closed, live_closed, IsOut, is_out, out_value, none_behind, number_is, number_here, with_same, and_second}

-- of nodes that are numbered from n on, the numbers that are among these
abbrev pub chosen : List ℕ → ℕ → List TaskNode → List ℕ
chosen live n [] = []
chosen live n (node ∷ nodes) = (if is_among n live then n ∷ [] else []) ++ chosen live (suc n) nodes

-- the numbers that are reached are those of the nodes that are, in order
pub chosen_is : (t : Topic) (n : ℕ) (live : List ℕ) (nodes : List TaskNode) → are_numbered n nodes ≡ true → ((m : ℕ) → n ≤ m → is_among m live ≡ false) →
    live_in t live nodes ≡ live ++ chosen (live_in t live nodes) n nodes
chosen_is t n live [] h none = sym (append-nil live)
chosen_is t n live (node ∷ nodes) h none =
    let m = node.topics.number in
    let r = is_reached t m node.kind live in
    let is : n ≡ m = number_is n m (are_numbered (suc n) nodes) h in
    let rest = and_second (n == m) (are_numbered (suc n) nodes) h in
    let one = with_reached r live m in
    let all = live_in t one nodes in
    let more = chosen all (suc n) nodes in
    chosen_is t (suc n) one nodes rest (λ i le. none_behind i m live r (omega (arith, le, is)) (none i (omega (arith, le))))
    ∙ (subst (λ (x : ℕ). with_reached r live x ++ more ≡ live ++ ((if r then n ∷ [] else []) ++ more)) is (by r more)
    ∙ ap (λ (b : Bool). live ++ ((if b then n ∷ [] else []) ++ more)) (sym (number_here t n live node nodes h none)))
  where
    by : (r : Bool) (more : List ℕ) → with_reached r live n ++ more ≡ live ++ ((if r then n ∷ [] else []) ++ more)
    by true more = append_assoc live (n ∷ []) more
    by false more = refl

-- these nodes stand among all, the first of them at n
abbrev pub StandAt : List TaskNode → ℕ → List TaskNode → Type 0
StandAt all n [] = Unit {0}
StandAt all n (node ∷ nodes) = (slice_get all n ≡ Some node) × StandAt all (suc n) nodes

stand_more : (x : TaskNode) (all : List TaskNode) (n : ℕ) (nodes : List TaskNode) → StandAt all n nodes → StandAt (x ∷ all) (suc n) nodes
stand_more x all n [] h = tt
stand_more x all n (node ∷ nodes) h = (h.0, stand_more x all (suc n) nodes h.1)

pub all_stand : (nodes : List TaskNode) → StandAt nodes 0 nodes
all_stand [] = tt
all_stand (node ∷ nodes) = (refl, stand_more node nodes 0 nodes (all_stand nodes))

-- ---- lists: of the others there is nothing
abbrev pub Silent : {A : Type 0} → (TaskNode → List A) → List ℕ → ℕ → List TaskNode → Type 0
Silent f live n [] = Unit {0}
Silent f live n (node ∷ nodes) = (is_among n live ≡ false → f node ≡ []) × Silent f live (suc n) nodes

pub went : {A : Type 0} (f : TaskNode → List A) (all : List TaskNode) (live : List ℕ) (n : ℕ) (nodes : List TaskNode) → StandAt all n nodes → Silent f live n nodes →
    at_numbers f all (chosen live n nodes) ≡ flat_map f nodes
went f all live n [] h s = refl
went {A} f all live n (node ∷ nodes) h s =
    by (is_among n live) refl (chosen live (suc n) nodes) ∙ ap (λ (l : List A). f node ++ l) (went f all live (suc n) nodes h.1 s.1)
  where
    by : (b : Bool) → is_among n live ≡ b → (more : List ℕ) → at_numbers f all ((if b then n ∷ [] else []) ++ more) ≡ f node ++ at_numbers f all more
    by true e more = ap (λ (o : Option TaskNode). of_node f o ++ at_numbers f all more) h.0
    by false e more = ap (λ (l : List A). l ++ at_numbers f all more) (sym (s.0 e))

-- what has nothing of a node that isn't reached
pub silent : {A : Type 0} (f : TaskNode → List A) (a : Arrival) (items : ℕ → Option StreamItem) (olds news : Values) (live : List ℕ) (n : ℕ) (nodes : List TaskNode) →
    NoItems live items → SameValues live olds news → are_numbered n nodes ≡ true → Closed a.topic live n nodes →
    ((node : TaskNode) → IsOut a items olds news live node.topics.number node.kind → is_among node.topics.number live ≡ false → f node ≡ []) → Silent f live n nodes
silent f a items olds news live n [] none same h c nothing = tt
silent f a items olds news live n (node ∷ nodes) none same h c nothing =
    let is : n ≡ node.topics.number = number_is n node.topics.number (are_numbered (suc n) nodes) h in (
      (λ apart. nothing node
          (subst (λ (x : ℕ). IsOut a items olds news live x node.kind) is (is_out a items olds news live n node.kind none same c.0 apart))
          (subst (λ (x : ℕ). is_among x live ≡ false) is apart)),
      silent f a items olds news live (suc n) nodes none same (and_second (n == node.topics.number) (are_numbered (suc n) nodes) h) c.1 nothing,
    )

pub live_chosen : (t : Topic) (nodes : List TaskNode) → are_numbered 0 nodes ≡ true → live_in t [] nodes ≡ chosen (live_in t [] nodes) 0 nodes
live_chosen t nodes h = chosen_is t 0 [] nodes h (λ m le. refl)

-- over the nodes that are reached, or over all
pub goes : {A : Type 0} (f : TaskNode → List A) (a : Arrival) (items : ℕ → Option StreamItem) (olds news : Values) (live : List ℕ) (nodes : List TaskNode) →
    are_numbered 0 nodes ≡ true → live ≡ live_in a.topic [] nodes → NoItems live items → SameValues live olds news →
    ((node : TaskNode) → IsOut a items olds news live node.topics.number node.kind → is_among node.topics.number live ≡ false → f node ≡ []) →
    at_numbers f nodes live ≡ flat_map f nodes
goes f a items olds news live nodes h is none same nothing =
    let c : Closed a.topic live 0 nodes = subst (λ (l : List ℕ). Closed a.topic l 0 nodes) (sym is) (live_closed a.topic nodes h) in
    let all : live ≡ chosen live 0 nodes = subst (λ (l : List ℕ). l ≡ chosen l 0 nodes) (sym is) (live_chosen a.topic nodes h) in
    ap (λ (l : List ℕ). at_numbers f nodes l) all ∙ went f nodes live 0 nodes (all_stand nodes) (silent f a items olds news live 0 nodes none same h c nothing)

-- ---- values: of the others they stay
module _ (rules : Rules) (a : Arrival) (items : ℕ → Option StreamItem) (olds : Values) (all : List TaskNode) (live : List ℕ) (none : NoItems live items) where
  pub values_went : (n : ℕ) (nodes : List TaskNode) (news : Values) → are_numbered n nodes ≡ true → Closed a.topic live n nodes → StandAt all n nodes → SameValues live olds news →
      values_from rules a items olds news n (kinds_in nodes) ≡ values_at_numbers rules a items olds all news (chosen live n nodes)
  values_went n [] news h c there same = refl
  values_went n (node ∷ nodes) news h c there same =
      values_went (suc n) nodes (with_number news n v) (and_second (n == m) (are_numbered (suc n) nodes) h) c.1 there.1 same_then
      ∙ by (is_among n live) refl (chosen live (suc n) nodes)
    where
      m : ℕ
      m = node.topics.number

      is : n ≡ m
      is = number_is n m (are_numbered (suc n) nodes) h

      v : Option Stored
      v = value_at rules a items olds news n node.kind

      stays : is_among n live ≡ false → v ≡ olds n
      stays apart = out_value a items olds news live n rules node.kind (is_out a items olds news live n node.kind none same c.0 apart)

      same_then : SameValues live olds (with_number news n v)
      same_then f apart = with_same news n v (olds f) f (λ (e : f ≡ n). stays (subst (λ (x : ℕ). is_among x live ≡ false) e apart) ∙ ap olds (sym e)) (same f apart)

      by : (b : Bool) → is_among n live ≡ b → (more : List ℕ) →
          values_at_numbers rules a items olds all (with_number news n v) more ≡ values_at_numbers rules a items olds all news ((if b then n ∷ [] else []) ++ more)
      by true e more =
          ap (λ (f : Values). values_at_numbers rules a items olds all f more)
          (ap (λ (x : ℕ). with_number news x (value_at rules a items olds news x node.kind)) is ∙ ap (valued_by rules a items olds news) (sym there.0))
      by false e more =
          ap (λ (f : Values). values_at_numbers rules a items olds all f more)
          (fun_ext (λ f. with_same news n v (news f) f (λ (i : f ≡ n). stays e ∙ (sym (same n e) ∙ ap news (sym i))) refl))

pub values_go : (rules : Rules) (a : Arrival) (items : ℕ → Option StreamItem) (olds : Values) (live : List ℕ) (nodes : List TaskNode) →
    are_numbered 0 nodes ≡ true → live ≡ live_in a.topic [] nodes → NoItems live items →
    values_from rules a items olds olds 0 (kinds_in nodes) ≡ values_at_numbers rules a items olds nodes olds live
values_go rules a items olds live nodes h is none =
    let c : Closed a.topic live 0 nodes = subst (λ (l : List ℕ). Closed a.topic l 0 nodes) (sym is) (live_closed a.topic nodes h) in
    let all : live ≡ chosen live 0 nodes = subst (λ (l : List ℕ). l ≡ chosen l 0 nodes) (sym is) (live_chosen a.topic nodes h) in
    values_went rules a items olds nodes live none 0 nodes olds h c (all_stand nodes) (λ f apart. refl)
    ∙ ap (λ (l : List ℕ). values_at_numbers rules a items olds nodes olds l) (sym all)
