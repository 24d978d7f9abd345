use Rattle.std.proofs.Common.{◌∙◌, ◌++◌, ◌<◌, List, [], ◌∷◌, ap, sym, take, get_or, length, arith}
use Rattle.std.proofs.lemmas.List.{take_all, take_more}
use Rattle.std.specs.Map.{lookup}
use Rattle.arrayvec.specs.ArrayVec.{ArrayVec}
use Rattle.user_admin.specs.declared.op.User.{User}
use Rattle.user_admin.specs.Places.{keyed, named_by, others_of, same_key}
use Rattle.user_admin.proofs.Keyed.{absent_next, few_so_far, others_more}
use Rattle.user_admin.proofs.table.copy_others.Goals as goal

pub copy_other-requires-clause-absent : goal.copy_other-requires-clause-absent
copy_other-requires-clause-absent c =
    let us = c.args.users.now in
    let u = c.index-users-at.result in
    (λ k. lookup (same_key (named_by (c.index-users-at.is k).uid)) (c.loop-at.invariant.entries k))
    ∙ absent_next c.args.name.now us c.loop-at.at u (omega (arith, c.loop-at-test.true)) c.requires.order

pub copy_other-requires-clause-room : goal.copy_other-requires-clause-room
copy_other-requires-clause-room c =
    let us = c.args.users.now in
    let i = c.loop-at.invariant in
    let size = ap (λ (es : List (ArrayVec _ × User)). length es) i.entries in
    let few = few_so_far c.args.name.now us c.loop-at.at in
    omega (arith, size, few, i.room, c.requires.few, c.loop-at-test.true)

pub loop-at-preserved : goal.loop-at-preserved
loop-at-preserved c =
    let us = c.args.users.now in
    let name = c.args.name.now in
    let i = c.loop-at.invariant in
    let u = c.index-users-at.result in
    let lt : c.loop-at.at < length us = omega (arith, c.loop-at-test.true) in
    record {
      entries = c.copy_other.ensures.entries ∙ ((λ k. i.entries k ++ keyed (others_of name (c.index-users-at.is k ∷ [])))
          ∙ (sym (others_more name (take c.loop-at.at us) (get_or us c.loop-at.at u)) ∙ sym (ap (λ (vs : List User). keyed (others_of name vs)) (take_more us c.loop-at.at u lt))));
      room = omega (arith, i.room, c.copy_other.ensures.room);
    }

pub returns-clause-entries : goal.returns-clause-entries
returns-clause-entries c = c.loop-at.invariant.entries ∙ ap (λ (vs : List User). keyed (others_of c.args.name.now vs)) (take_all c.loop-at.at c.args.users.now (omega (arith, c.loop-at-test.false)))
