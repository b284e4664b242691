-- A join on a foreign key as one left key sees it (KIP-213): its row and result, and for each foreign key the right row, the stored
-- hash and the messages under way. Nothing of tasks and partitions is here but that answers come in one list from each right task.
use Rattle.ks_expr.specs.Eval.{Row, same_bytes}
use Rattle.ks_query.specs.Streams.{Key}
use Rattle.std.specs.Prelude.{◌≡◌, ℕ, Bool, true, false, List, [], ◌∷◌, ◌++◌, Option, Some, None, fold, cond, nat_eq}
use Rattle.ks_def_tasks.specs.Collision.{In}

-- what a join is made of: foreign keys K, left rows X, right rows Y, rows of the result Z
pub record Protocol (K X Y Z : Type 0) : Type 0 where
  -- whether two foreign keys are the same
  pub alike : K → K → Bool
  -- the foreign key of a left row, where it has one
  pub foreign_key : X → Option K
  -- the hash of a left row: a subscription that asks for answers carries it, and so does each response to that one
  pub hash : X → ℕ
  -- the number of the right task that keeps a foreign key
  pub part : K → ℕ
  -- the result of a left row and the right row of its foreign key, where there is one
  pub joined : X → Option Y → Option Z

pub data Subscription : Type 0 where
  Forget : Subscription
  ForgetAndAnswer : Subscription
  Ask : ℕ → Subscription

pub record Response (Y : Type 0) : Type 0 where
  pub hash : Option ℕ
  pub row : Option Y

pub data Event (K X Y : Type 0) : Type 0 where
  LeftChanges : Option X → Event K X Y
  RightChanges : K → Option Y → Event K X Y
  -- the first waiting subscription of a foreign key, the first waiting response of a right task
  SubscriptionComes : K → Event K X Y
  ResponseComes : ℕ → Event K X Y

-- the state of a join, of one left key: its row and result, the rows that it has had, and of each foreign key or right task the rest
pub record Join (K X Y Z : Type 0) : Type 0 where
  pub row : Option X
  pub result : Option Z
  pub had : List X
  pub right : K → Option Y
  pub stored : K → Option ℕ
  pub subscriptions : K → List Subscription
  pub responses : ℕ → List (Response Y)

-- a function with another value at one number
abbrev pub with_at : {I A : Type 0} → (I → I → Bool) → (I → A) → I → A → I → A
with_at same f b x c = cond (same c b) x (f c)

abbrev pub same_key : {I : Type 0} → (I → I → Bool) → Option I → Option I → Bool
same_key same None None = true
same_key same None (Some b) = false
same_key same (Some a) None = false
same_key same (Some a) (Some b) = same a b

-- the stored hash after a subscription
abbrev pub apply : Option ℕ → Subscription → Option ℕ
apply stored Forget = None
apply stored ForgetAndAnswer = None
apply stored (Ask h) = Some h

-- the rows that the key has had, with the new one
abbrev pub now_had : {X : Type 0} → Option X → List X → List X
now_had None had = had
now_had (Some v) had = v ∷ had

-- what a right task answers: where its row changes, to the stored hash; and to a subscription
abbrev pub answer : {Y : Type 0} → Option ℕ → Option Y → List (Response Y)
answer None y = []
answer (Some h) y = record { hash = Some h; row = y } ∷ []

abbrev pub answer_to : {Y : Type 0} → Subscription → Option Y → List (Response Y)
answer_to Forget y = []
answer_to ForgetAndAnswer y = record { hash = None; row = None } ∷ []
answer_to (Ask h) y = record { hash = Some h; row = y } ∷ []

abbrev pub nothing_yet : {K X Y Z : Type 0} → Join K X Y Z
nothing_yet = record {
  row = None;
  result = None;
  had = [];
  right = λ b. None;
  stored = λ b. None;
  subscriptions = λ b. [];
  responses = λ j. [];
}

abbrev pub right_of : {K Y : Type 0} → (K → Option Y) → Option K → Option Y
right_of right None = None
right_of right (Some a) = right a

module _ {K X Y Z : Type 0} (join : Protocol K X Y Z) where
  abbrev pub key_of : Option X → Option K
  key_of None = None
  key_of (Some v) = join.foreign_key v

  abbrev pub hash_of : Option X → Option ℕ
  hash_of None = None
  hash_of (Some v) = Some (join.hash v)

  -- what the foreign key b is sent where the row changes
  abbrev pub sent_to_key : Option X → Option X → K → List Subscription
  sent_to_key old None b = cond (same_key join.alike (key_of old) (Some b)) (ForgetAndAnswer ∷ []) []
  sent_to_key old (Some v) b = cond (same_key join.alike (join.foreign_key v) (Some b)) (Ask (join.hash v) ∷ [])
      (cond (same_key join.alike (key_of old) (Some b)) (Forget ∷ []) [])

  -- the result at once, where no answer will come
  abbrev pub direct : Option X → Option X → Option Z → Option Z
  direct old None result = cond (same_key join.alike (key_of old) None) None result
  direct old (Some v) result = cond (same_key join.alike (join.foreign_key v) None) (join.joined v None) result

  abbrev pub join_row : Option X → Option Y → Option Z
  join_row None y = None
  join_row (Some v) y = join.joined v y

  abbrev pub accept : Option X → Option Z → Response Y → Option Z
  accept row result r = cond (same_key nat_eq (hash_of row) r.hash) (join_row row r.row) result

  abbrev pub subscription_comes : Join K X Y Z → K → List Subscription → Join K X Y Z
  subscription_comes st b [] = st
  subscription_comes st b (s ∷ rest) = record st {
    stored = with_at join.alike st.stored b (apply (st.stored b) s);
    subscriptions = with_at join.alike st.subscriptions b rest;
    responses = with_at nat_eq st.responses (join.part b) (st.responses (join.part b) ++ answer_to s (st.right b));
  }

  abbrev pub response_comes : Join K X Y Z → ℕ → List (Response Y) → Join K X Y Z
  response_comes st j [] = st
  response_comes st j (r ∷ rest) = record st { result = accept st.row st.result r; responses = with_at nat_eq st.responses j rest }

  abbrev pub happens : Join K X Y Z → Event K X Y → Join K X Y Z
  happens st (LeftChanges w) = record st {
    row = w;
    result = direct st.row w st.result;
    had = now_had w st.had;
    subscriptions = λ b. st.subscriptions b ++ sent_to_key st.row w b;
  }
  happens st (RightChanges b y) = record st {
    right = with_at join.alike st.right b y;
    responses = with_at nat_eq st.responses (join.part b) (st.responses (join.part b) ++ answer (st.stored b) y);
  }
  happens st (SubscriptionComes b) = subscription_comes st b (st.subscriptions b)
  happens st (ResponseComes j) = response_comes st j (st.responses j)

  abbrev pub run_of : List (Event K X Y) → Join K X Y Z
  run_of events = fold happens nothing_yet events

  -- the query's answer for the left key
  abbrev pub query : Option X → (K → Option Y) → Option Z
  query row right = join_row row (right_of right (key_of row))

  -- the hash that is to be stored at a foreign key
  abbrev pub wanted : Option X → K → Option ℕ
  wanted row b = cond (same_key join.alike (key_of row) (Some b)) (hash_of row) None

-- no two rows that the key has had differ and have one hash
abbrev pub NoCollision : {X : Type 0} → (X → ℕ) → List X → Type 0
NoCollision {X} hash had = (v w : X) → In v had → In w had → hash v ≡ hash w → v ≡ w

-- ---- at rest: after any events, once no message is under way, and no two rows that the key has had collide
abbrev pub OneKeyRests : Type 0
OneKeyRests = (foreign_key : Row → Option Key) (hash : Row → ℕ) (part : Key → ℕ) (joined : Row → Option Row → Option Row)
    (events : List (Event Key Row Row)) →
    let join : Protocol Key Row Row Row = record { alike = same_bytes; foreign_key = foreign_key; hash = hash; part = part; joined = joined } in
    let st = run_of join events in
    NoCollision hash st.had → ((b : Key) → st.subscriptions b ≡ []) → ((j : ℕ) → st.responses j ≡ []) →
    record {
      stored : (b : Key) → st.stored b ≡ wanted join st.row b;
      result : st.result ≡ query join st.row st.right;
    }
