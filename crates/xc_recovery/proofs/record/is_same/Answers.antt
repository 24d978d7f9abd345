use Rattle.std.proofs.Common.{◌≡◌, rules}
use Rattle.std.specs.Bool.{Decides}
use Rattle.std.proofs.lemmas.Slice.Eq.{bytes_eq-Decides}
use Rattle.xc_recovery.proofs.record.is_same.Goals as goal

pub returns : goal.returns
returns c = let d : Decides c.eq.result (c.args.a.now ≡ c.args.b.now) = search (rules, bytes_eq-Decides) in d
