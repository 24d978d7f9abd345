use Rattle.std.proofs.Common.{◌≡◌, ◌∙◌, ℕ, List, inl, inr, refl, sym, ap, subst}
use Rattle.std.specs.List.{AllByRecursion}
use Rattle.dxc_num.specs.Dimensions.{Dimensions}
use Rattle.dxc_model.specs.declared.op.Change.{Change}
use Rattle.dxc_outside.specs.Links.{IsSent}
use Rattle.dxc_outside.proofs.Asking.{asked_less}
use Rattle.shelf_file.specs.Contents.{Contents}
use Rattle.tl1_answer.specs.Texts.{IsChangeOf}
use Rattle.xc_core.specs.States.{opening_of}
use Rattle.dxc_element.specs.Openings.{files_asked, named, sources}
use Rattle.dxc_element.proofs.Audits.{of_shape}
use Rattle.dxc_element.proofs.Exporting.{script_first}
use Rattle.dxc_element.proofs.Starting.{begun, users_began}
use Rattle.dxc_element.proofs.Wording.{not_opened_ends}
use Rattle.dxc_element.proofs.export.run_export.Goals as goal

pub write_commands-requires : goal.write_commands-requires
write_commands-requires g c =
    let f = c.in-Ok.ensures.opened.0.0 in
    let x = c.in-Ok.element.controller in
    let st = c.in-Ok.ensures.opened.0.1 in
    let told = g.O.Journal.Disk.told in
    let state = g.O.Journal.Disk.state in
    let same : x.state.table.shape ≡ c.shape.result = of_shape told state f.shelf x.state st.begins st.shape ∙ (ap (λ (s : Contents). s.shape) (sym st.shelf) ∙ (ap (λ (s : Contents). s.shape) (sym c.deref-2.ensures) ∙ sym c.shape.ensures)) in
    subst (λ (cs : List Change). AllByRecursion (IsChangeOf c.shape.result) cs) (sym c.deref-3.ensures.value)
    (subst (λ (d : Dimensions). AllByRecursion (IsChangeOf d) c.in-Ok-changes_to.changes.items) same c.in-Ok-changes_to.ensures.inside)

pub returns-in-Err-clause-opens : goal.returns-in-Err-clause-opens
returns-in-Err-clause-opens g c = inl (c.in-Err.ensures.opened, refl)

pub returns-in_default-clause-opens : goal.returns-in_default-clause-opens
returns-in_default-clause-opens g c =
    let f = c.in-Ok.ensures.opened.0.0 in
    let x = c.in-Ok.element.controller in
    let st = c.in-Ok.ensures.opened.0.1 in
    let told = g.O.Journal.Disk.told in
    let state = g.O.Journal.Disk.state in
    inr (
      f,
      opening_of state x.state,
      begun told state f.disk f.shelf _ x st,
      users_began told state g.O.Opener.told _ _ f.shelf c.in-Ok.element.users c.in-Ok.ensures.opened.1,
      (
        c.in-Ok.ensures.unstopped,
        inr (refl, refl),
        record {
          element = c.in-Ok.element;
          let_go = c.let_go.ensures;
          started = st;
          opening_is = refl;
          users_started = c.in-Ok.ensures.opened.1.1;
        },
      ),
    )

pub returns-clause-opens : goal.returns-clause-opens
returns-clause-opens g c =
    let f = c.in-Ok.ensures.opened.0.0 in
    let x = c.in-Ok.element.controller in
    let st = c.in-Ok.ensures.opened.0.1 in
    let told = g.O.Journal.Disk.told in
    let state = g.O.Journal.Disk.state in
    inr (
      f,
      opening_of state x.state,
      begun told state f.disk f.shelf _ x st,
      users_began told state g.O.Opener.told _ _ f.shelf c.in-Ok.element.users c.in-Ok.ensures.opened.1,
      (
        c.in-Ok.ensures.unstopped,
        inl (record {
          sent = c.write_commands.result;
          wrote = subst (λ (l : List ℕ). IsSent g.K.Link.told (g.K.Link.state c.args.terminal.now) (g.K.Link.state c.write_commands.new.link) c.write_commands.result l)
              (script_first told state f.shelf x.state st.begins st.shape c.shape.result c.equipped.result c.deref-3.result.now (c.shape.ensures ∙ ap (λ (s : Contents). s.shape) (c.deref-2.ensures ∙ st.shelf)) (c.equipped.ensures.value ∙ ap (λ (s : Contents). s.equipped) (c.deref.ensures ∙ st.shelf)) (c.deref-3.ensures.value ∙ c.in-Ok-changes_to.ensures.changes))
              c.write_commands.ensures.sent;
          status_is = c.of_sent-status.ensures;
        }),
        record {
          element = c.in-Ok.element;
          let_go = c.let_go-2.ensures;
          started = st;
          opening_is = refl;
          users_started = c.in-Ok.ensures.opened.1.1;
        },
      ),
    )

pub returns-in-Err-clause-asked : goal.returns-in-Err-clause-asked
returns-in-Err-clause-asked g c =
    let names = named c.args.names.shelf.now c.args.names.journal.now in
    let before = sources (g.O.Opener.state c.args.opener.now) (g.O.Opener.journal_at c.args.opener.now) (g.G.Gate.stops c.args.gate.now) in
    let after = sources (g.O.Opener.state c.open.new.opener) (g.O.Opener.journal_at c.open.new.opener) (g.G.Gate.stops c.open.new.gate) in
    asked_less (g.O.Opener.asked c.args.opener.now c.open.new.opener) _ (files_asked names) (λ ends. absurd (not_opened_ends g.O.Opener.told g.O.Journal.Disk.told g.O.Journal.Disk.state g.O.LetGo.gone names before after c.in-Err.status c.in-Err.ensures.opened ends)) c.in-Err.ensures.asked

pub returns-in_default-clause-asked : goal.returns-in_default-clause-asked
returns-in_default-clause-asked g c = asked_less (g.O.Opener.asked c.args.opener.now c.open.new.opener) _ (files_asked (named c.args.names.shelf.now c.args.names.journal.now)) (λ ends. refl) c.in-Ok.ensures.asked

pub returns-clause-asked : goal.returns-clause-asked
returns-clause-asked g c = asked_less (g.O.Opener.asked c.args.opener.now c.open.new.opener) _ (files_asked (named c.args.names.shelf.now c.args.names.journal.now)) (λ ends. refl) c.in-Ok.ensures.asked
