use Rattle.std.proofs.Common.{◌∙◌, List, [], ◌∷◌, ◌++◌, ap, sym, length, length-append, map, arith}
use Rattle.std.proofs.lemmas.List.{map_more, take_all}
use Rattle.user_admin.specs.declared.op.User.{User}
use Rattle.user_admin.specs.Verdicts.{row}
use Rattle.user_admin.proofs.table.rows_of.Goals as goal

pub loop-at-preserved : goal.loop-at-preserved
loop-at-preserved c =
    let i = c.loop-at.invariant in
    let low = c.loop-at-test.true in
    let longer = length-append c.loop-at.rows.items (c.row_of.result ∷ []) in
    let items = ap (λ (xs : List _). length xs) c.push.ensures.items in
    record {
      few = omega (arith, i.few, items, longer);
      whole = c.push.ensures.items ∙ (λ k. i.whole k ++ (c.row_of.ensures ∙ ap row c.index-users-at.is) k ∷ []) ∙ sym (map_more row c.args.users.now c.loop-at.at c.index-users-at.result (omega (arith, low)));
    }

pub returns : goal.returns
returns c =
    let high = c.loop-at-test.false in
    c.loop-at.invariant.whole ∙ ap (λ (us : List User). map row us) (take_all c.loop-at.at c.args.users.now (omega (arith, high)))
