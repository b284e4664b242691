-- Lists that a loop gathers.
use Rattle.std.proofs.Common.{◌≡◌, List, [], ◌∷◌, ◌++◌, append-nil, append_assoc, Option, Some, None, ap, ◌∙◌}
use Rattle.ks_query.specs.Streams.{StreamItem, with_some}
use Rattle.std.specs.Prelude.{fold}
use Rattle.ks_def_runs.specs.Bytes.{by_bytes}
use Rattle.ks_def_runs.specs.FinMap.{FinMap}
use Rattle.ks_def_runs.specs.Table.{Change, write}
use Rattle.ks_expr.specs.Eval.{Row}
use Rattle.ks_query.specs.Streams.{Key}

pub some_pushed : (found new : List StreamItem) (o : Option StreamItem) (rest all : List StreamItem) → new ≡ found ++ with_some o [] → found ++ with_some o rest ≡ all → new ++ rest ≡ all
some_pushed found new None rest all e h = ap (λ (l : List StreamItem). l ++ rest) (e ∙ append-nil found) ∙ h
some_pushed found new (Some x) rest all e h = ap (λ (l : List StreamItem). l ++ rest) e ∙ (append_assoc found (x ∷ []) rest ∙ h)

-- one record more, or none, in a table
pub change_made : (m new : FinMap by_bytes Row) (o : Option (Change Key Row)) (rest : List (Change Key Row)) (all : FinMap by_bytes Row) →
    new ≡ fold (λ m r. write by_bytes m r.0 r.1) m (with_some o []) → fold (λ m r. write by_bytes m r.0 r.1) m (with_some o rest) ≡ all → fold (λ m r. write by_bytes m r.0 r.1) new rest ≡ all
change_made m new None rest all e h = ap (λ (t : FinMap by_bytes Row). fold (λ m r. write by_bytes m r.0 r.1) t rest) e ∙ h
change_made m new (Some x) rest all e h = ap (λ (t : FinMap by_bytes Row). fold (λ m r. write by_bytes m r.0 r.1) t rest) e ∙ h
