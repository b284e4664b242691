-- The first calls of a list, and one more.
use Rattle.std.proofs.Common.{◌≡◌, ℕ, ◌+◌, ◌<◌, List, [], ◌∷◌, ◌++◌, length, get_or, take, refl, sym, ap, ap₂, ◌∙◌}
use Rattle.std.specs.Prelude.{Result, Ok, Err, OnErr}
use Rattle.std.proofs.lemmas.List.{take_more}
use Rattle.ks_def_runs.specs.Bytes.{Store}
use Rattle.ks_store.specs.declared.calls.StoreCall.{StoreCall}
use Rattle.ks_store.specs.declared.calls.StoreReply.{StoreReply}
use Rattle.ks_store.specs.Calls.{store_after, reply_to, after_calls, replies_to}

after_calls-append : (m : Store) (cs ds : List StoreCall) → after_calls m (cs ++ ds) ≡ after_calls (after_calls m cs) ds
after_calls-append m [] ds = refl
after_calls-append m (c ∷ cs) ds = after_calls-append (store_after m c) cs ds

replies_to-append : (m : Store) (cs ds : List StoreCall) → replies_to m (cs ++ ds) ≡ replies_to m cs ++ replies_to (after_calls m cs) ds
replies_to-append m [] ds = refl
replies_to-append m (c ∷ cs) ds = ap (λ (rs : List StoreReply). reply_to m c ∷ rs) (replies_to-append (store_after m c) cs ds)

one_longer : (cs : List StoreCall) (i : ℕ) (c : StoreCall) → i < length cs → c ≡ get_or cs i c → take (i + 1) cs ≡ take i cs ++ c ∷ []
one_longer cs i c lt is = take_more cs i c lt ∙ ap (λ (x : StoreCall). take i cs ++ x ∷ []) (sym is)

module _ (m n : Store) (cs : List StoreCall) (i : ℕ) (c : StoreCall) (lt : i < length cs) (is : c ≡ get_or cs i c) (so_far : n ≡ after_calls m (take i cs)) where
  pub one_more_call : (new : Store) → new ≡ store_after n c → new ≡ after_calls m (take (i + 1) cs)
  one_more_call new e =
      e ∙ (ap (λ (s : Store). store_after s c) so_far ∙ (sym (after_calls-append m (take i cs) (c ∷ [])) ∙ ap (after_calls m) (sym (one_longer cs i c lt is))))

  pub one_more_reply : (rs more : List StoreReply) (r : StoreReply) → rs ≡ replies_to m (take i cs) → r ≡ reply_to n c → more ≡ rs ++ r ∷ [] → more ≡ replies_to m (take (i + 1) cs)
  one_more_reply rs more r told is_reply longer =
      longer ∙ (ap (λ (x : StoreReply). rs ++ x ∷ []) is_reply
      ∙ (ap₂ (λ (xs : List StoreReply) (s : Store). xs ++ reply_to s c ∷ []) told so_far
      ∙ (sym (replies_to-append m (take i cs) (c ∷ [])) ∙ ap (replies_to m) (sym (one_longer cs i c lt is)))))

pub on_err : {A E P : Type 0} (r : Result A E) → P → OnErr r P
on_err (Ok x) p = tt
on_err (Err e) p = p
