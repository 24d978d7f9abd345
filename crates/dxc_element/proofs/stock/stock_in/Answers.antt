use Rattle.std.proofs.Common.{◌≡◌, true, false, inr, List, ap, length, rules, ◌∙◌}
use Rattle.std.specs.Prelude.{vec_len}
use Rattle.dxc_model.specs.declared.conn.Conn.{Conn}
use Rattle.dxc_element.proofs.stock.stock_in.Goals as goal

pub returns-then-halted-clause-none : goal.returns-then-halted-clause-none
returns-then-halted-clause-none g c =
    let halted : c.in-In.provisioner.value.p.halted ≡ true = search rules in
    inr (record { driver = c.in-In.provisioner; is_home = c.in-In.is; halted = halted })

pub returns : goal.returns
returns g c =
    let whole : vec_len c.rows.new.into ≡ length c.rows.new.into.items = search rules in
    let switches : c.switches.result ≡ length c.in-In.provisioner.value.p.mover.mover.log = search rules in
    let ready : c.in-In.provisioner.value.p.halted ≡ false = search rules in
    record {
      stock = record {
        driver = c.in-In.provisioner;
        is_home = c.in-In.is;
        ready = ready;
        connections = c.len.ensures ∙ whole ∙ ap (λ (xs : List Conn). length xs) c.rows.ensures.rows;
        switches = switches;
      };
      none = tt;
    }
