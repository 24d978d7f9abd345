use Rattle.std.specs.Prelude.{IsTrue}
use Rattle.xc_core.specs.States.{rules_of}
use Rattle.switch_laws.proofs.Along.{in_one_order}
use Rattle.switch_laws.proofs.orders_are_played.Goals as goal

pub returns : goal.returns
returns c = λ l excused failing o p past h g places used order sessions legal all users_legal fails pos within users_within acts beyond is. in_one_order l (rules_of o) (λ q. IsTrue (excused q)) past p (IsTrue failing) places h g used order sessions pos (legal, all, within) (users_legal, fails, users_within) acts beyond is
