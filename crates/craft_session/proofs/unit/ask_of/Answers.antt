use Rattle.std.proofs.Common.{◌≡◌, ◌≤◌, List, None, ℕ, length, refl, sym, ◌∙◌, ap, subst}
use Rattle.std.specs.Arc.{arc_value}
use Rattle.tl1_text.specs.declared.reader.UnitKind.{UnitKind}
use Rattle.tl1_text.specs.Units.{Input, whole}
use Rattle.shelf_file.specs.Contents.{Contents}
use Rattle.dxc_model.specs.declared.cause.Cause.TheVariants.{TooLong}
use Rattle.craft_session.specs.declared.ask.Ask.TheVariants.{Refused}
use Rattle.craft_session.specs.Desks.{input_of, put_down}
use Rattle.craft_session.specs.Hearing.{unasked}
use Rattle.craft_session.specs.Meanings.{asks, tag_of, wants}
use Rattle.craft_session.specs.Readings.{IsReadOf, Read, read_as}
use Rattle.craft_session.proofs.Asking.{input_long}
use Rattle.craft_session.proofs.Consulted.{asked_as_read, asked_nothing, consulted_by, noted_as_read}
use Rattle.craft_session.proofs.Ends.{still}
use Rattle.craft_session.proofs.Noted.{noted_nothing}
use Rattle.craft_session.proofs.Keeping.{user_seat_stays}
use Rattle.craft_session.proofs.unit.ask_of.Goals as goal

pub read-meaning-requires : goal.read-meaning-requires
read-meaning-requires g c = record { short = subst (λ (bs : List ℕ). length bs ≤ 2047) (sym c.unit-unit.ensures) (c.requires.short c.in-Whole.is) }

pub consult-requires-clause-apt : goal.consult-requires-clause-apt
consult-requires-clause-apt g c = (c.deref.result.now.shape, c.read-meaning.ensures.read.apt)

pub returns-in-Whole : goal.returns-in-Whole
returns-in-Whole g c =
    let desk = c.args.desk.now in
    let s = arc_value desk.shelf in
    let user = desk.attending.user in
    let u = input_of c.args.kind desk.reader in
    let r = c.consult.ensures in
    let gate = g.G.Gate.asked c.args.gate.now c.consult.new.gate in
    let whole_is : whole c.unit-unit.result.now ≡ u = ap whole c.unit-unit.ensures ∙ sym (ap (λ (k : UnitKind). input_of k desk.reader) c.in-Whole.is) in
    let read : Read = read_as c.unit-unit.result.now c.read-meaning.result c.read-meaning.new.ask c.read-meaning.new.asked.op in
    let is = subst (λ (w : Contents × Input). IsReadOf w.0 user w.1 read) (λ i. (c.deref.ensures i, whole_is i)) c.read-meaning.ensures.read in
    let how = c.consult.result in
    let ask = c.consult.new.ask in
    let tag = c.read-meaning.new.tag in
    record {
      shelf = refl;
      seat = refl;
      users = r.same;
      goes = r.goes;
      attending = refl;
      reader = refl;
      consulted = consulted_by s user u desk.users.seat c.consult.new.users.rows.items c.consult.new.users.seat.seen gate tag ask how (c.read-meaning.ensures.tag ∙ ap tag_of whole_is)
          (asked_as_read s.shape user (wants s user u) (λ x. asks s user x u) read is desk.users.seat c.consult.new.users.rows.items c.consult.new.users.seat.seen gate (put_down how ask) r.asked);
      noted = noted_as_read s.shape user (wants s user u) (λ x. asks s user x u) read is (g.N.Notes.noted c.args.notes.now c.consult.new.notes) tag (put_down how ask) r.noted;
      apt = r.apt s.shape is.apt;
      stopped = r.stopped;
    }

pub returns-in-TooLong : goal.returns-in-TooLong
returns-in-TooLong g c =
    let desk = c.args.desk.now in
    let s = arc_value desk.shelf in
    let long = input_long c.args.kind desk.reader c.in-TooLong.is in
    record {
      shelf = refl;
      seat = refl;
      users = (refl, refl, refl, refl);
      goes = user_seat_stays _;
      attending = refl;
      reader = refl;
      consulted = (sym (ap tag_of long), asked_nothing _ _ _ _ _ (g.G.Gate.asked c.args.gate.now c.args.gate.now) (g.G.Gate.unasked c.args.gate.now) (ap (wants s desk.attending.user) long) (sym (ap (asks s desk.attending.user unasked) long)) c.clear.ensures);
      noted = noted_nothing (g.N.Notes.noted c.args.notes.now c.args.notes.now) desk.attending.user None _ (Refused TooLong) (ap (wants s desk.attending.user) long) (g.N.Notes.unnoted c.args.notes.now);
      apt = tt;
      stopped = still _ _ refl;
    }
