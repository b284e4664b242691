-- Reading member by member: a value, or the first fault.
use Rattle.std.specs.Prelude.{◌≡◌, Option, Some, None, Result, Ok, Err}
use Rattle.ks_job_record.specs.declared.fault.JobKind.{JobKind}
use Rattle.ks_job_record.specs.declared.fault.LineError.{LineError}
use Rattle.ks_job_record.specs.declared.fault.LineError.TheVariants as errors

infixl 10 ◌>>=◌
abbrev pub ◌>>=◌ : {A B : Type 0} → Result A JobKind → (A → Result B JobKind) → Result B JobKind
(Ok x) >>= f = f x
(Err e) >>= f = Err e

-- a failure is the fault that reading gives, unless memory ran out
abbrev pub Fails : {Y : Type 0} → LineError → Result Y JobKind → Type 0
Fails errors.Memory read = Unit {0}
Fails (errors.Fault f) read = read ≡ Err f

-- what a call answers, seen by view, is what reading gives, unless memory ran out
abbrev pub Gives : {X Y : Type 0} → (X → Y) → Result X LineError → Result Y JobKind → Type 0
Gives view (Ok x) read = read ≡ Ok (view x)
Gives view (Err e) read = Fails e read

abbrev pub some_or : {A : Type 0} → JobKind → Option A → Result A JobKind
some_or f None = Err f
some_or f (Some x) = Ok x
