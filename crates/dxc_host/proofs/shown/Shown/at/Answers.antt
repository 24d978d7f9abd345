use Rattle.std.proofs.Common.{rules, ◌≡◌, ℤ, subst, w64}
use Rattle.std.proofs.lemmas.Int.{to_z-of_z}
use Rattle.dxc_host.specs.Utc.{ShowsUtc}
use Rattle.dxc_host.proofs.shown.Shown.at.Goals as goal

pub returns-then-self-second-clause-shown : goal.returns-then-self-second-clause-shown
returns-then-self-second-clause-shown c =
    let same : c.self.inside.second ≡ c.args.second = search rules in
    subst (λ (s : ℤ). ShowsUtc s c.self.inside.moment) same c.self.invariant.0

pub returns-clause-shown : goal.returns-clause-shown
returns-clause-shown c = subst (λ (s : ℤ). ShowsUtc s c.show.result) (to_z-of_z w64 c.args.second c.ranges.second) c.show.ensures.shown
