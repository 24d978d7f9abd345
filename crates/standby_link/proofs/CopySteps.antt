-- What the name of a copy stands for.
use Rattle.std.proofs.Common.{◌≡◌, ℕ, zero, suc, ◌<◌, Some, None, Bool, IfSome, if◌then◌else◌, nat_eq, refl, sym, subst, arith}
use Rattle.std.proofs.Math.Dec.{eqb-suc-zero}
use Rattle.standby_link.specs.Laws.{CopiesAreWhole, IsWhole, KeepsUp, named}
use Rattle.standby_link.specs.Mirrors.{Pair, joined, run}
use Rattle.standby_link.proofs.PairSteps.{keeps_up}

whole_by : (s : Pair) (synced : ℕ) → s.standby.synced ≡ synced → (0 < s.standby.synced → KeepsUp s) → IfSome (if nat_eq synced 0 then None else Some s.standby.file) (IsWhole s)
whole_by s zero is keeps = tt
whole_by s (suc n) is keeps =
    let whole : IsWhole s s.standby.file = (refl, keeps (omega (arith, is))) in
    subst (λ (b : Bool). IfSome (if b then None else Some s.standby.file) (IsWhole s)) (sym (eqb-suc-zero n)) whole

-- a name that stands for a file stands for one that keeps up
pub whole_named : (s : Pair) → (0 < s.standby.synced → KeepsUp s) → IfSome (named s.standby) (IsWhole s)
whole_named s keeps = whole_by s s.standby.synced refl keeps

pub copies_are_whole : CopiesAreWhole
copies_are_whole file events short = whole_named (run (joined file) events) (keeps_up file events short)
