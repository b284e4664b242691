-- Two verdicts as one.
use Rattle.std.proofs.Common.{◌≡◌, ℕ, List, refl, ap, ◌∙◌}
use Rattle.std.specs.Prelude.{Result, Ok}
use Rattle.ks_job_record.specs.declared.fault.JobKind.{JobKind}
use Rattle.ks_job_record.specs.declared.fault.LineError.{LineError}
use Rattle.ks_job_record.specs.declared.fault.LineError.TheVariants as errors
use Rattle.ks_job_record.specs.Gives.{◌>>=◌, Fails}
use Rattle.ks_job_topology.specs.declared.expr.Judged.{Judged}
use Rattle.ks_job_topology.specs.declared.expr.Judged.TheVariants.{Wrong, NoInteger, Read}
use Rattle.ks_job_topology.specs.Exprs.{seen_by, both_of, read_or}

pub both_seen : {A B C D E : Type 0} (f : A → C) (g : B → D) (h : C → D → E) (x : Judged A) (y : Judged B) →
    both_of h (seen_by f x) (seen_by g y) ≡ seen_by (λ (p : A × B). h (f p.0) (g p.1)) (both_of (λ a b. (a, b)) x y)
both_seen f g h Wrong y = refl
both_seen f g h NoInteger Wrong = refl
both_seen f g h NoInteger NoInteger = refl
both_seen f g h NoInteger (Read b) = refl
both_seen f g h (Read a) Wrong = refl
both_seen f g h (Read a) NoInteger = refl
both_seen f g h (Read a) (Read b) = refl

-- ---- a verdict that is seen, and judged
module _ {A B C : Type 0} (name : List ℕ) (f : A → B) (next : B → Result C JobKind) where
  pub seen_first : (j : Judged A) → (read_or name (seen_by f j) >>= next) ≡ (read_or name j >>= (λ a. next (f a)))
  seen_first Wrong = refl
  seen_first NoInteger = refl
  seen_first (Read x) = refl

  pub fails_first : (j : Judged A) (e : LineError) → Fails e (read_or name j) → Fails e (read_or name (seen_by f j) >>= next)
  fails_first j errors.Memory h = tt
  fails_first j (errors.Fault x) h = seen_first j ∙ ap (λ r. r >>= (λ a. next (f a))) h

  pub goes_on : (j : Judged A) (x : A) → read_or name j ≡ Ok x → (read_or name (seen_by f j) >>= next) ≡ next (f x)
  goes_on j x h = seen_first j ∙ ap (λ r. r >>= (λ a. next (f a))) h
