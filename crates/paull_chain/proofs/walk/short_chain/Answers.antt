use Rattle.std.proofs.Common.{arith, ◌+◌, List, length, ℕ, sym, ap, ◌∙◌, subst}
use Rattle.dxc_num.specs.declared.port.Leg.{Leg}
use Rattle.paull_matrix.specs.declared.side.Side.{Side}
use Rattle.paull_chain.proofs.Going.{further, goes_chain, goes_walk, walk_within}
use Rattle.paull_chain.proofs.walk.short_chain.Goals as goal
use Rattle.paull_chain.specs.Chains.{Chain}
use Rattle.paull_chain.proofs.Going.{LeadsTo}
use Rattle.paull_matrix.specs.Colourings.{Colouring, module_on}

pub returns-in-None-clause-whole : goal.returns-in-None-clause-whole
returns-in-None-clause-whole c =
    let i = c.loop-done.invariant in
    let d : Colouring = c.args.matrix.now in
    let w = c.in-None.ensures.whole in (
      subst (Chain d c.args.a.0 c.args.b.0 c.args.side (module_on d.shape c.args.side c.args.leg)) (sym w.1) (goes_chain d c.args.a.0 c.args.b.0 c.args.side c.loop-done.turn (module_on d.shape c.args.side c.args.leg) c.loop-done.module c.loop-done.legs.items i.legs w.0),
      (let e = ap (λ (ls : List Leg). length ls) w.1 in let s = i.size in let t = c.loop-done-test.true in let y = c.modules-done-end.ensures.value in let z = ap (λ (s : _). s.modules) c.shape-shape.ensures.value in omega arith),
    )

pub loop-done-preserved : goal.loop-done-preserved
loop-done-preserved c =
    let i = c.loop-done.invariant in
    let d : Colouring = c.args.matrix.now in
    let f = further d c.args.a.0 c.args.b.0 (module_on d.shape c.args.side c.args.leg) c.loop-done.module c.in-Some.next c.args.side c.loop-done.turn c.loop-done.legs.items c.extend.new.legs.items i.legs c.in-Some.ensures.more in record {
      legs = subst (λ (t : Side). LeadsTo d c.args.a.0 c.args.b.0 c.args.side (module_on d.shape c.args.side c.args.leg) c.extend.new.legs.items t c.in-Some.next) (sym c.turned-turn.ensures) f.0;
      size = f.1 ∙ ap (λ (n : ℕ). n + 1) i.size;
      low = c.in-Some.ensures.low;
    }

pub returns-clause-longer : goal.returns-clause-longer
returns-clause-longer c = λ ls h.
    let i = c.loop-done.invariant in
    let d : Colouring = c.args.matrix.now in
    let le = walk_within d c.args.a.0 c.args.b.0 c.shape-shape.ensures.proper c.args.side (module_on d.shape c.args.side c.args.leg) c.loop-done.legs.items ls
    (goes_walk d c.args.a.0 c.args.b.0 c.args.side c.loop-done.turn (module_on d.shape c.args.side c.args.leg) c.loop-done.module c.loop-done.legs.items i.legs) h.0 in
    let few = h.1 in let s = i.size in let t = c.loop-done-test.false in let y = c.modules-done-end.ensures.value in let z = ap (λ (s : _). s.modules) c.shape-shape.ensures.value in omega arith
