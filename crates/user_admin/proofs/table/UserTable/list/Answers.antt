use Rattle.std.proofs.Common.{◌≤◌, ◌∙◌, ap, sym, List, subst, length}
use Rattle.user_admin.specs.declared.op.User.{User}
use Rattle.user_admin.specs.Places.{IsInOrder, users_of}
use Rattle.user_admin.proofs.table.UserTable.list.Goals as goal

pub returns-clause-order : goal.returns-clause-order
returns-clause-order c = subst IsInOrder (sym (c.as_slice.ensures ∙ c.values.ensures.rest)) c.self.invariant.order

pub returns-clause-few : goal.returns-clause-few
returns-clause-few c = subst (λ (us : List User). length us ≤ 64) (sym (c.as_slice.ensures ∙ c.values.ensures.rest)) c.self.invariant.few

pub returns-clause-users : goal.returns-clause-users
returns-clause-users c = ap users_of (c.as_slice.ensures ∙ c.values.ensures.rest) ∙ c.self.view_is
