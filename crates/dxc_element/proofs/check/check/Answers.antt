use Rattle.std.proofs.Common.{◌≡◌, ◌∙◌, List, ap, rules, subst, sym}
use Rattle.std.specs.List.{AllByRecursion}
use Rattle.dxc_model.specs.declared.conn.Conn.{Conn}
use Rattle.dxc_model.specs.declared.op.Selection.TheVariants.{All}
use Rattle.dxc_model.specs.Tables.{is_selected, rows}
use Rattle.dxc_num.specs.Dimensions.{Dimensions}
use Rattle.tl1_answer.specs.Texts.{IsOfShape}
use Rattle.xc_core.specs.declared.state.Home.{Home}
use Rattle.dxc_element.specs.Listings.{records_at}
use Rattle.dxc_element.proofs.Checking.{listed, listing_sent}
use Rattle.dxc_element.proofs.check.check.Goals as goal

pub write_rows-requires : goal.write_rows-requires
write_rows-requires g c =
    let of_shape = subst (λ (d : Dimensions). AllByRecursion (IsOfShape d) (rows c.args.state.now.table All)) (sym c.shape-shape.ensures.value) (listed _ (is_selected c.args.state.now.table.shape All) _ c.shape-shape.ensures.of_shape.ports) in
    subst (λ (l : List Conn). AllByRecursion (IsOfShape c.shape-shape.result) l) (sym (c.deref.ensures.value ∙ c.rows.ensures.rows)) of_shape

pub returns-clause-sent : goal.returns-clause-sent
returns-clause-sent g c = let records : c.records-records.result ≡ c.in-In.p.value.p.journal.1.count = search rules in listing_sent _ _ _ _ _ _ _ _ _ _ _ _ c.shape-shape.ensures.value (c.deref.ensures.value ∙ c.rows.ensures.rows) (records ∙ sym (ap (λ (h : Home g.row.D.Denot). records_at h) c.in-In.is)) c.in-Whole.is c.write_rows.ensures.sent c.write_count.ensures.sent
