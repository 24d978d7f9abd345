use Rattle.std.proofs.Common.{ℤ, subst, w64}
use Rattle.std.proofs.lemmas.Int.{to_z-of_z}
use Rattle.dxc_host.specs.Utc.{ShowsUtc}
use Rattle.dxc_host.proofs.shown.Shown.show.Goals as goal

pub returns-clause-shown : goal.returns-clause-shown
returns-clause-shown c = subst (λ (s : ℤ). ShowsUtc s c.moment_of-moment.result) (to_z-of_z w64 c.args.second c.ranges.second) c.moment_of-moment.ensures.shown
