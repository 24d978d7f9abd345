-- What was read of a unit.
use Rattle.std.proofs.Common.{◌≡◌, List, ℕ, Result, sym}
use Rattle.dxc_num.specs.Dimensions.{Dimensions}
use Rattle.dxc_model.specs.declared.cause.Cause.{Cause}
use Rattle.dxc_model.specs.declared.user.SessionUser.{SessionUser}
use Rattle.tl1_users.specs.declared.op.UserOp.{UserOp}
use Rattle.craft_session.specs.declared.ask.Ask.{Ask}
use Rattle.craft_session.specs.declared.ask.Meaning.TheVariants.{Session}
use Rattle.craft_session.specs.Asks.{IsAptAsk}
use Rattle.craft_session.specs.Hearing.{Heard, Wanted, nothing}
use Rattle.craft_session.specs.Readings.{IsReadAs, read_as}

-- it wants nothing of the users, and asks the same whatever they know
pub read_session : (d : Dimensions) (user : SessionUser) (w : Wanted) (by : Heard → Ask) (text : List ℕ) (a : Ask) (op : Result UserOp Cause) → w ≡ nothing → ((x : Heard) → by x ≡ a) → IsAptAsk d a → IsReadAs d user w by (read_as text Session a op)
read_session d user w by text a op none is fit = record { wanted = sym none; asked = λ x. sym (is x); apt = fit }
