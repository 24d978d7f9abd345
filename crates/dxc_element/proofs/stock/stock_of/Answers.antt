use Rattle.std.proofs.Common.{◌≡◌, ◌≤◌, ◌++◌, sym, ◌∙◌, ap, subst}
use Rattle.std.specs.Prelude.{vec_capacity}
use Rattle.dxc_num.specs.Dimensions.{Dimensions, ports}
use Rattle.xc_core.specs.declared.provisioner.Driver.{Driver}
use Rattle.xc_core.specs.declared.state.Home.{Home}
use Rattle.xc_core.specs.declared.state.Home.TheVariants.{In, Out}
use Rattle.xc_core.specs.declared.state.State.{State}
use Rattle.xc_core.specs.States.{began, opening_of}
use Rattle.xc_core.proofs.Turning.{state_shape}
use Rattle.dxc_element.proofs.Stocking.{found_stands, held_up_at, left_at}
use Rattle.dxc_element.specs.Stocks.{IsAway, IsStock}
use Rattle.dxc_element.proofs.stock.stock_of.Goals as goal

pub stock_in-requires : goal.stock_in-requires
stock_in-requires g c =
    let told = g.D.Disk.told in
    let state = g.D.Disk.state in
    let o = opening_of state c.args.turns.now.first in
    let f = c.enter-turn.ensures.found in
    let x = c.enter-turn.result.state in
    record {
      room = subst (λ (d : Dimensions). ports d ≤ vec_capacity c.args.rows.now)
          (sym (ap (λ (s : State g.row.D.Denot). s.table.shape) c.state.ensures ∙ state_shape told state o x (began o.due ++ (f.begun ++ f.later)) (found_stands told state o x (f.begun ++ f.later) f.opening_is f.stands_for))) c.requires.room;
    }

pub unreachable-requires : goal.unreachable-requires
unreachable-requires g c =
    let out = c.in_default-take_out.ensures.none in
    let home : c.enter-turn.result.state.home ≡ Out out.0 = sym (ap (λ (s : State g.row.D.Denot). s.home) c.state_mut.ensures.value) ∙ out.1 in
    let stock = subst (λ (s : State g.row.D.Denot). IsStock s c.in-Some.stock) c.state.ensures c.in-Some.ensures.stock in
    let no : In stock.driver ≡ Out out.0 = sym stock.is_home ∙ home in
    cc

pub returns-in_default : goal.returns-in_default
returns-in_default g c = record {
  left = λ h saw. tt;
  none = λ h saw.
      held_up_at g.D.Disk.told g.D.Disk.state (opening_of g.D.Disk.state c.args.turns.now.first) c.args.pass.now.number c.enter-turn.result.own c.args.turns.now.passes h c.args.pass.now.seen c.enter-turn.result.seen c.enter-turn.result.state c.enter-turn.ensures.turn.1 c.enter-turn.ensures.found saw
      (subst (λ (s : State g.row.D.Denot). IsAway s) c.state.ensures c.in_default.ensures.none);
}

pub returns : goal.returns
returns g c = record {
  left = λ h saw.
      let x = c.enter-turn.result.state in
      let home : x.home ≡ In c.in-Some-take_out.driver = sym (ap (λ (s : State g.row.D.Denot). s.home) c.state_mut.ensures.value) ∙ c.in-Some-take_out.ensures.found in
      left_at g.D.Disk.told g.D.Disk.state (opening_of g.D.Disk.state c.args.turns.now.first) c.args.pass.now.number c.enter-turn.result.own c.args.turns.now.passes h c.args.pass.now.seen c.enter-turn.result.seen x c.in-Some.stock c.in-Some-take_out.driver c.disk_in-disk.result c.enter-turn.ensures.turn.1 c.enter-turn.ensures.found saw
      (subst (λ (s : State g.row.D.Denot). IsStock s c.in-Some.stock) c.state.ensures c.in-Some.ensures.stock) home
      (c.disk_in-disk.ensures ∙ ap (λ (v : Driver g.row.D.Denot). v.p.journal.0) c.into_inner.ensures);
  none = λ h saw. tt;
}
