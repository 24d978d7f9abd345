use Rattle.std.proofs.Common.{arith, List, length, sym, ap, ◌∙◌, subst}
use Rattle.dxc_num.specs.declared.port.Leg.{Leg}
use Rattle.paull_matrix.specs.declared.side.Side.TheVariants.{Row, Column}
use Rattle.paull_chain.proofs.Bound.{short}
use Rattle.paull_chain.proofs.Going.{further, goes_chain, goes_walk}
use Rattle.paull_chain.proofs.walk.shorter.Goals as goal
use Rattle.paull_chain.specs.Chains.{Chain}
use Rattle.paull_matrix.specs.Colourings.{Colouring}

pub returns-in-None : goal.returns-in-None
returns-in-None c =
    let i = c.loop-pairs.invariant in let d : Colouring = c.args.matrix.now in let a = c.args.a.0 in let b = c.args.b.0 in
    let w = c.in-None.ensures.whole in (
      subst (Chain d a b Row c.args.row) (sym w.1) (goes_chain d a b Row Row c.args.row c.loop-pairs.row_at c.loop-pairs.rows.items i.rows w.0),
      (c.loop-pairs.columns.items, goes_walk d a b Column Column c.args.column c.loop-pairs.column_at c.loop-pairs.columns.items i.columns, i.sizes.1 ∙ (sym i.sizes.0 ∙ ap (λ (ls : List Leg). length ls) (sym w.1))),
    )

pub returns-in-None-extend : goal.returns-in-None-extend
returns-in-None-extend c =
    let i = c.loop-pairs.invariant in let d : Colouring = c.args.matrix.now in let a = c.args.a.0 in let b = c.args.b.0 in
    let w = c.in-None-extend.ensures.whole in
    let f = further d a b c.args.row c.loop-pairs.row_at c.in-Some.next Row Row c.loop-pairs.rows.items c.extend.new.legs.items i.rows c.in-Some.ensures.more in (
      subst (Chain d a b Column c.args.column) (sym w.1) (goes_chain d a b Column Column c.args.column c.loop-pairs.column_at c.loop-pairs.columns.items i.columns w.0),
      (c.extend.new.legs.items, goes_walk d a b Row Column c.args.row c.in-Some.next c.extend.new.legs.items f.0, (let x = f.1 in let y = i.sizes.0 in let u = i.sizes.1 in let z = ap (λ (ls : List Leg). length ls) w.1 in omega arith)),
    )

pub returns-in-None-extend-2 : goal.returns-in-None-extend-2
returns-in-None-extend-2 c =
    let i = c.loop-pairs.invariant in let d : Colouring = c.args.matrix.now in let a = c.args.a.0 in let b = c.args.b.0 in
    let w = c.in-None-extend-2.ensures.whole in
    let f = further d a b c.args.row c.loop-pairs.row_at c.in-Some.next Row Row c.loop-pairs.rows.items c.extend.new.legs.items i.rows c.in-Some.ensures.more in
    let g = further d a b c.args.column c.loop-pairs.column_at c.in-Some-extend.next Column Column c.loop-pairs.columns.items c.extend-in-loop-pairs.new.legs.items i.columns c.in-Some-extend.ensures.more in (
      subst (Chain d a b Row c.args.row) (sym w.1) (goes_chain d a b Row Column c.args.row c.in-Some.next c.extend.new.legs.items f.0 w.0),
      (c.extend-in-loop-pairs.new.legs.items, goes_walk d a b Column Row c.args.column c.in-Some-extend.next c.extend-in-loop-pairs.new.legs.items g.0, (let x = f.1 in let v = g.1 in let y = i.sizes.0 in let u = i.sizes.1 in let z = ap (λ (ls : List Leg). length ls) w.1 in omega arith)),
    )

pub returns-in-None-extend-3 : goal.returns-in-None-extend-3
returns-in-None-extend-3 c =
    let i = c.loop-pairs.invariant in let d : Colouring = c.args.matrix.now in let a = c.args.a.0 in let b = c.args.b.0 in
    let w = c.in-None-extend-3.ensures.whole in
    let f = further d a b c.args.row c.loop-pairs.row_at c.in-Some.next Row Row c.loop-pairs.rows.items c.extend.new.legs.items i.rows c.in-Some.ensures.more in
    let g = further d a b c.args.column c.loop-pairs.column_at c.in-Some-extend.next Column Column c.loop-pairs.columns.items c.extend-in-loop-pairs.new.legs.items i.columns c.in-Some-extend.ensures.more in
    let h = further d a b c.args.row c.in-Some.next c.in-Some-extend-2.next Row Column c.extend.new.legs.items c.extend-in-loop-pairs-2.new.legs.items f.0 c.in-Some-extend-2.ensures.more in (
      subst (Chain d a b Column c.args.column) (sym w.1) (goes_chain d a b Column Row c.args.column c.in-Some-extend.next c.extend-in-loop-pairs.new.legs.items g.0 w.0),
      (c.extend-in-loop-pairs-2.new.legs.items, goes_walk d a b Row Row c.args.row c.in-Some-extend-2.next c.extend-in-loop-pairs-2.new.legs.items h.0, (let x = f.1 in let v = g.1 in let t = h.1 in let y = i.sizes.0 in let u = i.sizes.1 in let z = ap (λ (ls : List Leg). length ls) w.1 in omega arith)),
    )

pub loop-pairs-preserved : goal.loop-pairs-preserved
loop-pairs-preserved c =
    let i = c.loop-pairs.invariant in let d : Colouring = c.args.matrix.now in let a = c.args.a.0 in let b = c.args.b.0 in
    let f = further d a b c.args.row c.loop-pairs.row_at c.in-Some.next Row Row c.loop-pairs.rows.items c.extend.new.legs.items i.rows c.in-Some.ensures.more in
    let g = further d a b c.args.column c.loop-pairs.column_at c.in-Some-extend.next Column Column c.loop-pairs.columns.items c.extend-in-loop-pairs.new.legs.items i.columns c.in-Some-extend.ensures.more in
    let h = further d a b c.args.row c.in-Some.next c.in-Some-extend-2.next Row Column c.extend.new.legs.items c.extend-in-loop-pairs-2.new.legs.items f.0 c.in-Some-extend-2.ensures.more in
    let k = further d a b c.args.column c.in-Some-extend.next c.in-Some-extend-3.next Column Row c.extend-in-loop-pairs.new.legs.items c.extend-in-loop-pairs-3.new.legs.items g.0 c.in-Some-extend-3.ensures.more in
    let s = f.1 in let t = g.1 in let u = h.1 in let v = k.1 in let y = i.sizes.0 in let z = i.sizes.1 in record {
      rows = h.0;
      columns = k.0;
      sizes = (omega arith, omega arith);
      low = (c.in-Some-extend-2.ensures.low, c.in-Some-extend-3.ensures.low);
    }

pub unreachable-requires : goal.unreachable-requires
unreachable-requires c =
    let i = c.loop-pairs.invariant in
    let d : Colouring = c.args.matrix.now in
    let r = c.requires in
    let fit = short d c.args.a.0 c.args.b.0 c.shape-shape.ensures.proper c.args.row c.args.column c.loop-pairs.rows.items c.loop-pairs.columns.items r.free.0 r.free.1 r.inside.0 r.inside.1
    (goes_walk d c.args.a.0 c.args.b.0 Row Row c.args.row c.loop-pairs.row_at c.loop-pairs.rows.items i.rows) (goes_walk d c.args.a.0 c.args.b.0 Column Column c.args.column c.loop-pairs.column_at c.loop-pairs.columns.items i.columns) in
    let a = i.sizes.0 in let b = i.sizes.1 in let e = c.loop-pairs-test.false in let most = c.shape-shape.ensures.limits.most_modules in omega arith
