use Rattle.std.proofs.Common.{inl, ◌≡◌, ◌∙◌, ◌*ℤ◌, pos, rules}
use Rattle.std.proofs.Math.IntN.{+ℤ_idr}
use Rattle.jiff.proofs.ZoneFacts.{offset_at-UTC}
use Rattle.dxc_host.proofs.utc.moment_of.Goals as goal

-- at UTC the offset is 0, so a clock shows the second itself
pub returns-in-Ok-clause-shown : goal.returns-in-Ok-clause-shown
returns-in-Ok-clause-shown c =
    let shown = simp offset_at-UTC at c.to_datetime.ensures in
    let told : c.in-Ok.instant.nanosecond ≡ c.args.second *ℤ pos 1_000_000_000 = search rules in
    inl (c.to_datetime.result, shown ∙ +ℤ_idr _ ∙ told, c.short_of.ensures.shown)
