use Rattle.std.proofs.Common.{arith, length, ap, ◌≡◌, List}
use Rattle.roll_plan.specs.declared.op.Move.{Move}
use Rattle.paull_chain.proofs.Seconds.{length_seconds}
use Rattle.paull_chain.proofs.exchange.push_exchange.Goals as goal

pub push_seconds-requires : goal.push_seconds-requires
push_seconds-requires c =
    let n = length_seconds c.args.legs.now in let b = n.1 in let r = c.requires.few in
    let e : length c.args.moves.now.items ≡ 0 = ap (λ (ms : List Move). length ms) c.requires.none in omega arith

pub push_seconds-requires-2 : goal.push_seconds-requires-2
push_seconds-requires-2 c =
    let n = length_seconds c.args.legs.now in let a = n.0 in let b = n.1 in let r = c.requires.few in
    let e : length c.args.moves.now.items ≡ 0 = ap (λ (ms : List Move). length ms) c.requires.none in
    let f = c.push_seconds.ensures.count in omega arith

pub push_seconds-requires-3 : goal.push_seconds-requires-3
push_seconds-requires-3 c =
    let n = length_seconds c.args.legs.now in let a = n.0 in let b = n.1 in let r = c.requires.few in
    let e : length c.args.moves.now.items ≡ 0 = ap (λ (ms : List Move). length ms) c.requires.none in
    let f = c.push_seconds.ensures.count in let g = c.push_seconds-2.ensures.count in omega arith
