-- Requests that a pass gained or made, one after another.
use Rattle.std.proofs.Common.{◌≡◌, ◌+◌, ◌&&◌, Bool, true, false, inl, inr, List, [], ◌∷◌, ◌++◌, length, refl, ap, ◌∙◌, append_assoc, length-append, arith}
use Rattle.ks_history.specs.declared.journal.Entry.{Entry}
use Rattle.ks_history.specs.declared.journal.Request.{Request}
use Rattle.ks_history.specs.declared.journal.Reply.{Reply}
use Rattle.ks_history.specs.Machine.{TaskPlan}
use Rattle.ks_growing.specs.Passes.{PassView}
use Rattle.ks_shared.specs.declared.state.Frame.{Frame}
use Rattle.ks_worker_client.specs.Calls.{Later, Wrote}
use Rattle.ks_worker_state.specs.Gained.{StandAmong, HasGained, HasMade, HasMadeOnly, are_all}

among_behind : (rs : List Request) (xs ys : List Entry) → StandAmong rs ys → StandAmong rs (xs ++ ys)
among_behind rs [] ys h = h
among_behind [] (x ∷ xs) ys h = tt
among_behind (r ∷ rs) (x ∷ xs) ys h = inr (among_behind (r ∷ rs) xs ys h)

among_both : (qs rs : List Request) (xs ys : List Entry) → StandAmong qs xs → StandAmong rs ys → StandAmong (qs ++ rs) (xs ++ ys)
among_both [] rs xs ys h k = among_behind rs xs ys k
among_both (q ∷ qs) rs [] ys h k = absurd h
among_both (q ∷ qs) rs (x ∷ xs) ys (inl h) k = inl (h.0, among_both qs rs xs ys h.1 k)
among_both (q ∷ qs) rs (x ∷ xs) ys (inr h) k = inr (among_both (q ∷ qs) rs xs ys h k)

-- ---- of one kind
all_both : (is : Request → Bool) (qs rs : List Request) → are_all is qs ≡ true → are_all is rs ≡ true → are_all is (qs ++ rs) ≡ true
all_both is [] rs h k = k
all_both is (q ∷ qs) rs h k = by (is q) h (λ more. all_both is qs rs more k)
  where
    by : (b : Bool) → (b && are_all is qs) ≡ true → (are_all is qs ≡ true → are_all is (qs ++ rs) ≡ true) → (b && are_all is (qs ++ rs)) ≡ true
    by true e more = more e
    by false e more = absurd cc

module _ {W : Type 0} where
  pub gained_none : (plan : W → TaskPlan) (old new : PassView Entry (Frame W)) → Later plan old new → HasGained old new []
  gained_none plan old new l = record { more = l.more; seen = l.seen; among = tt }

  pub gained_one : (plan : W → TaskPlan) (old new : PassView Entry (Frame W)) (request : Request) (reply : Reply) → Wrote plan old new request reply → HasGained old new (request ∷ [])
  gained_one plan old new request reply w = record {
    more = w.others ++ record { request = request; reply = reply } ∷ [];
    seen = w.seen ∙ append_assoc old.seen w.others (record { request = request; reply = reply } ∷ []);
    among = among_behind (request ∷ []) w.others (record { request = request; reply = reply } ∷ []) (inl (refl, tt));
  }

  pub gained_then : (old mid new : PassView Entry (Frame W)) (qs rs : List Request) → HasGained old mid qs → HasGained mid new rs → HasGained old new (qs ++ rs)
  gained_then old mid new qs rs f g = record {
    more = f.more ++ g.more;
    seen = g.seen ∙ ap (λ l. l ++ g.more) f.seen ∙ append_assoc old.seen f.more g.more;
    among = among_both qs rs f.more g.more f.among g.among;
  }

  -- ---- what the pass made itself
  pub made_none : (plan : W → TaskPlan) (old new : PassView Entry (Frame W)) → Later plan old new → new.made ≡ old.made → HasMade old new []
  made_none plan old new l same = record { gained = gained_none plan old new l; made = omega (arith, same) }

  pub made_one : (plan : W → TaskPlan) (old new : PassView Entry (Frame W)) (request : Request) (reply : Reply) → Wrote plan old new request reply → HasMade old new (request ∷ [])
  made_one plan old new request reply w = record { gained = gained_one plan old new request reply w; made = w.made }

  pub made_then : (old mid new : PassView Entry (Frame W)) (qs rs : List Request) → HasMade old mid qs → HasMade mid new rs → HasMade old new (qs ++ rs)
  made_then old mid new qs rs f g = record {
    gained = gained_then old mid new qs rs f.gained g.gained;
    made = omega (arith, f.made, g.made, length-append qs rs);
  }

  -- ---- requests of one kind
  pub only_none : (plan : W → TaskPlan) (is : Request → Bool) (old new : PassView Entry (Frame W)) → Later plan old new → new.made ≡ old.made → HasMadeOnly is old new
  only_none plan is old new l same = record { own = []; made = made_none plan old new l same; only = refl }

  pub only_one : (plan : W → TaskPlan) (is : Request → Bool) (old new : PassView Entry (Frame W)) (request : Request) (reply : Reply) → is request ≡ true → Wrote plan old new request reply → HasMadeOnly is old new
  only_one plan is old new request reply fits w = record { own = request ∷ []; made = made_one plan old new request reply w; only = ap (λ b. b && true) fits }

  pub only_then : (is : Request → Bool) (old mid new : PassView Entry (Frame W)) → HasMadeOnly is old mid → HasMadeOnly is mid new → HasMadeOnly is old new
  only_then is old mid new f g = record {
    own = f.own ++ g.own;
    made = made_then old mid new f.own g.own f.made g.made;
    only = all_both is f.own g.own f.only g.only;
  }
