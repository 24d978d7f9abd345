-- What the exit of a `?` answers, where a gate stopped.
use Rattle.std.proofs.Common.{◌≡◌, false, true, Result, Ok, Err}
use Rattle.std.specs.Result.{IsErr}
use Rattle.dxc_outside.specs.Stops.{the_stop}
use Rattle.dxc_outside.specs.declared.stopped.Stopped.{Stopped}

pub by_stop : {T : Type 0} (P : Result T Stopped → Type 0) (x : Result T Stopped) → IsErr x → ((e : Stopped) → P (Err e)) → P x
by_stop P (Ok v) is holds = absurd (let e : false ≡ true = is in cc)
by_stop P (Err e) is holds = holds e

pub went_on : {T : Type 0} (x : T) → ◌≡◌ {A = Result T Stopped} (Ok x) (Err the_stop) → ⊥
went_on x is = cc

-- what went on is what it went on with
pub ok_is : {T : Type 0} (x y : T) → ◌≡◌ {A = Result T Stopped} (Ok x) (Ok y) → x ≡ y
ok_is x y is = cc
