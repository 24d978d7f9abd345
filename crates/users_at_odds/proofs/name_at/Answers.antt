use Rattle.std.proofs.Common.{arith, inr, subst}
use Rattle.dxc_num.specs.Dimensions.{Dimensions}
use Rattle.journal_core.specs.Opens.{made_head}
use Rattle.users_at_odds.specs.Odds.{IsRecordOf, IsUnnamed}
use Rattle.users_at_odds.proofs.Naming.{err_of, failed_since, fewer_by, named_by, record_of, refused_by, unnamed_on}
use Rattle.users_at_odds.proofs.name_at.Goals as goal

pub returns-clause-named : goal.returns-clause-named
returns-clause-named g c =
    let j = c.in-Ok.journal in
    let e = c.in-Ok.ensures in
    let a = g.D.Disk.state c.args.disk in
    let bytes = c.in-Ok-record.bytes in
    named_by g.D.Disk.told c.args.shelf.now.shape a c.args.number bytes c.name_in.result
    (λ t. subst (λ (d : Dimensions). IsRecordOf d a.reads_as c.args.number bytes) c.shape.ensures
    (record_of c.shape.result (g.D.Disk.state j.0) j.1 (g.met.D.Disk.is_disk j.0 t) e.whole.0 e.whole.2 e.whole.3 (made_head c.equipped.result) a c.args.number bytes (e.old t) (e.is_new t) (let low = c.if-number-count.false in omega (arith, low, c.count.ensures.count)) (c.in-Ok-record.ensures.record t)))
    c.name_in.ensures.named

pub returns-in_default-clause-unnamed : goal.returns-in_default-clause-unnamed
returns-in_default-clause-unnamed g c =
    let e = c.open.ensures in
    subst (λ (d : Dimensions). IsUnnamed g.D.Disk.told g.D.Disk.state d c.args.disk c.args.number) c.shape.ensures
    (refused_by g.D.Disk.told g.D.Disk.state c.shape.result c.args.disk c.args.number (made_head c.equipped.result) c.open.result c.in_default.not-Ok e.old e.is_new e.cause)

pub returns-then-number-count-clause-unnamed : goal.returns-then-number-count-clause-unnamed
returns-then-number-count-clause-unnamed g c =
    let j = c.in-Ok.journal in
    subst (λ (d : Dimensions). IsUnnamed g.D.Disk.told g.D.Disk.state d c.args.disk c.args.number) c.shape.ensures
    (fewer_by g.D.Disk.told g.D.Disk.state c.shape.result c.args.disk c.args.number j.0 j.1 c.in-Ok.ensures.old (let low = c.if-number-count.true in omega (arith, low, c.count.ensures.count)))

pub returns-in_default-record-clause-unnamed : goal.returns-in_default-record-clause-unnamed
returns-in_default-record-clause-unnamed g c =
    failed_since g.D.Disk.told g.D.Disk.state c.args.shelf.now.shape c.args.disk c.args.number c.in-Ok.journal.0 c.record.new.self.0 c.in-Ok.ensures.cause.later (c.record.ensures.cause.cause (err_of c.record.result c.in_default-record.not-Ok))

pub returns-clause-unnamed : goal.returns-clause-unnamed
returns-clause-unnamed g c =
    let j = c.in-Ok.journal in
    let e = c.in-Ok.ensures in
    let a = g.D.Disk.state c.args.disk in
    let bytes = c.in-Ok-record.bytes in
    unnamed_on c.name_in.result (λ longer. inr (inr (inr (record {
      bytes = bytes;
      record_is = λ t. subst (λ (d : Dimensions). IsRecordOf d a.reads_as c.args.number bytes) c.shape.ensures
          (record_of c.shape.result (g.D.Disk.state j.0) j.1 (g.met.D.Disk.is_disk j.0 t) e.whole.0 e.whole.2 e.whole.3 (made_head c.equipped.result) a c.args.number bytes (e.old t) (e.is_new t) (let low = c.if-number-count.false in omega (arith, low, c.count.ensures.count)) (c.in-Ok-record.ensures.record t));
      longer = longer;
    })))) c.name_in.ensures.unnamed
