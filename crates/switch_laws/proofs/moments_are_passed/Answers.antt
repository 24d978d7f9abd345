use Rattle.std.specs.Prelude.{IsTrue}
use Rattle.xc_core.specs.States.{LimitBehind}
use Rattle.switch_laws.proofs.HeardThen.{users_then}
use Rattle.switch_laws.proofs.Passing.{moment_of}
use Rattle.switch_laws.proofs.moments_are_passed.Goals as goal

pub returns : goal.returns
returns c = record {
  table = λ l excused o start end ts changes more played is. moment_of l (LimitBehind o.first) (λ q. IsTrue (excused q)) start ts end changes more played is;
  users = λ l excused o h more places sessions legal fails pos numbers listens beyond. users_then l (IsTrue excused) o h more places sessions listens legal fails pos numbers;
}
