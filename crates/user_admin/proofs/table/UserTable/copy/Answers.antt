use Rattle.std.proofs.Common.{◌≡◌, ◌<◌, ◌-◌, ℕ, Some, Bor, option_map, List, suc, slice_get, sym, ◌∙◌, ap, subst, arith}
use Rattle.std.specs.FinMap.{entries, insert, len, len-entries}
use Rattle.user_admin.specs.declared.op.User.{User}
use Rattle.user_admin.specs.Users.{Users}
use Rattle.user_admin.proofs.Copying.{all_copied, copied_more, from_place, nobody_there, none_copied, room_from}
use Rattle.user_admin.proofs.table.UserTable.copy.Goals as goal

pub loop-left-init : goal.loop-left-init
loop-left-init c =
    let count = c.len-left.ensures.count in
    let all = len-entries c.args.self.now in
    record { few = omega (arith, count, all); put = c.in_ok-table.ensures ∙ sym (none_copied c.args.self.now c.len-left.result count) }

pub unreachable-requires : goal.unreachable-requires
unreachable-requires c =
    let some = c.loop-left-test.true in
    let few = c.loop-left.invariant.few in
    nobody_there c.args.self.now (c.loop-left.left - 1) (omega (arith, some, few)) (sym (ap (option_map {T = Bor User} {U = List ℕ × User} (λ u. (u.now.uid, u.now))) c.in_default.is) ∙ c.at.ensures)

pub put-requires : goal.put-requires
put-requires c = λ absent.
    let m = c.args.self.now in
    let some = c.loop-left-test.true in
    let few = c.loop-left.invariant.few in
    let count = c.len-left.ensures.count in
    let most = c.len-left.ensures.few in
    let left : c.loop-left.left ≡ suc (c.loop-left.left - 1) = omega (arith, some) in
    subst (λ (k : Users). len k < 64) (sym (c.loop-left.invariant.put ∙ ap (λ (n : ℕ). from_place m n) left)) (room_from m (c.loop-left.left - 1) (omega (arith, some, few)) (omega (arith, count, most)))

pub loop-left-preserved : goal.loop-left-preserved
loop-left-preserved c =
    let m = c.args.self.now in
    let u = c.copy_as.result in
    let some = c.loop-left-test.true in
    let few = c.loop-left.invariant.few in
    let left : c.loop-left.left ≡ suc (c.loop-left.left - 1) = omega (arith, some) in
    let there : Some (u.uid, u) ≡ slice_get (entries m) (c.loop-left.left - 1) = ap (λ (v : User). Some (v.uid, v)) c.copy_as.ensures ∙ c.in-Some.ensures in
    record {
      few = omega (arith, few);
      put = c.put.ensures ∙ (ap (λ (k : Users). insert k u.uid u) (c.loop-left.invariant.put ∙ ap (λ (n : ℕ). from_place m n) left) ∙ sym (copied_more m (c.loop-left.left - 1) u there));
    }

pub returns : goal.returns
returns c = let none = c.loop-left-test.false in c.loop-left.invariant.put ∙ all_copied c.args.self.now c.loop-left.left (omega (arith, none))
