use Rattle.std.proofs.Common.{[], ◌∷◌, Ok, Err, ◌∙◌, inl, inr, true≢false, sym, refl}
use Rattle.std.proofs.lemmas.Result.{err_from_is_err_and}
use Rattle.dxc_element.specs.Openings.{named, sources, users_name}
use Rattle.dxc_element.specs.Lenders.{lender}
use Rattle.dxc_element.specs.Peers.{users_peer}
use Rattle.dxc_element.proofs.Mirroring.{with_mirrored_users}
use Rattle.dxc_element.proofs.Starting.{users_kept}
use Rattle.dxc_outside.specs.Asked.{journal_named, peer_named, shelf_named}
use Rattle.dxc_outside.proofs.Asking.{all_made, asked_behind, asked_within}
use Rattle.dxc_element.proofs.peer.open_mirrored.Goals as goal

pub returns-in-Ok-clause-opened : goal.returns-in-Ok-clause-opened
returns-in-Ok-clause-opened g c =
    let h = c.in_ok-controller.ensures.opened in
    let names = named c.args.names.shelf.now c.args.names.journal.now in
    let before = sources (g.O.Opener.state c.args.opener.now) (g.O.Opener.journal_at c.args.opener.now) (g.G.Gate.stops c.args.gate.now) in
    let mid = sources (g.O.Opener.state c.mirrored_controller.new.opener) (g.O.Opener.journal_at c.mirrored_controller.new.opener) (g.G.Gate.stops c.mirrored_controller.new.gate) in
    let after = sources (g.O.Opener.state c.mirrored_users.new.opener) (g.O.Opener.journal_at c.mirrored_users.new.opener) (g.G.Gate.stops c.mirrored_controller.new.gate) in
    (h, with_mirrored_users (lender g.O.Opener g.O.Journal.Disk g.O.Peer.Link g.O.LetGo.gone) names before mid after c.mirrored_controller.ensures.others h.0.shelf c.deref.result.now (c.deref.ensures ∙ h.1.shelf) (Ok c.in-Ok.users) c.mirrored_controller.ensures.later c.in-Ok.ensures.users)

pub returns-in-Err-clause-opened : goal.returns-in-Err-clause-opened
returns-in-Err-clause-opened g c =
    let h = c.in_ok-controller.ensures.opened in
    let names = named c.args.names.shelf.now c.args.names.journal.now in
    let before = sources (g.O.Opener.state c.args.opener.now) (g.O.Opener.journal_at c.args.opener.now) (g.G.Gate.stops c.args.gate.now) in
    let mid = sources (g.O.Opener.state c.mirrored_controller.new.opener) (g.O.Opener.journal_at c.mirrored_controller.new.opener) (g.G.Gate.stops c.mirrored_controller.new.gate) in
    let after = sources (g.O.Opener.state c.mirrored_users.new.opener) (g.O.Opener.journal_at c.mirrored_users.new.opener) (g.G.Gate.stops c.mirrored_controller.new.gate) in
    inr (
      h.0,
      record { workers = c.args.workers; controller = c.in_ok-controller.controller; started = h.1; let_go = c.let_go.ensures },
      c.in_ok-controller.ensures.unstopped,
      with_mirrored_users (lender g.O.Opener g.O.Journal.Disk g.O.Peer.Link g.O.LetGo.gone) names before mid after c.mirrored_controller.ensures.others h.0.shelf c.deref.result.now (c.deref.ensures ∙ h.1.shelf) (Err c.in-Err.status) c.mirrored_controller.ensures.later c.in-Err.ensures.users,
    )

pub returns-in_err-controller-clause-opened : goal.returns-in_err-controller-clause-opened
returns-in_err-controller-clause-opened g c = let p = err_from_is_err_and c.from_residual.result c.from_residual.ensures.1 in rw (p.1, p.2) (inl (c.in_err-controller.ensures.opened, users_kept g.O.Opener.told c.args.names.journal.now (g.O.Opener.journal_at c.args.opener.now) (g.O.Opener.journal_at c.mirrored_controller.new.opener) c.in_err-controller.ensures.others))

pub returns-in-Ok-clause-asked : goal.returns-in-Ok-clause-asked
returns-in-Ok-clause-asked g c =
    asked_behind g.O.Opener.asked g.O.Opener.asked_on c.args.opener.now c.mirrored_controller.new.opener c.mirrored_users.new.opener (shelf_named c.args.names.shelf.now ∷ journal_named c.args.names.journal.now ∷ peer_named c.args.peer.now ∷ []) (journal_named (users_name c.args.names.journal.now) ∷ peer_named (users_peer c.args.peer.now) ∷ [])
    (all_made g.O.Opener.asked g.O.Opener.asked_on c.args.opener.now c.mirrored_controller.new.opener c.mirrored_controller.new.opener (shelf_named c.args.names.shelf.now ∷ journal_named c.args.names.journal.now ∷ peer_named c.args.peer.now ∷ []) c.in_ok-controller.ensures.asked refl) c.in-Ok.ensures.asked

pub returns-in-Err-clause-asked : goal.returns-in-Err-clause-asked
returns-in-Err-clause-asked g c =
    asked_behind g.O.Opener.asked g.O.Opener.asked_on c.args.opener.now c.mirrored_controller.new.opener c.mirrored_users.new.opener (shelf_named c.args.names.shelf.now ∷ journal_named c.args.names.journal.now ∷ peer_named c.args.peer.now ∷ []) (journal_named (users_name c.args.names.journal.now) ∷ peer_named (users_peer c.args.peer.now) ∷ [])
    (all_made g.O.Opener.asked g.O.Opener.asked_on c.args.opener.now c.mirrored_controller.new.opener c.mirrored_controller.new.opener (shelf_named c.args.names.shelf.now ∷ journal_named c.args.names.journal.now ∷ peer_named c.args.peer.now ∷ []) c.in_ok-controller.ensures.asked refl) c.in-Err.ensures.asked

pub returns-in_err-controller-clause-asked : goal.returns-in_err-controller-clause-asked
returns-in_err-controller-clause-asked g c =
    let p = err_from_is_err_and c.from_residual.result c.from_residual.ensures.1 in
    rw p.1 (asked_within (g.O.Opener.asked c.args.opener.now c.mirrored_controller.new.opener) _ (shelf_named c.args.names.shelf.now ∷ journal_named c.args.names.journal.now ∷ peer_named c.args.peer.now ∷ []) (journal_named (users_name c.args.names.journal.now) ∷ peer_named (users_peer c.args.peer.now) ∷ []) c.in_err-controller.ensures.asked (λ ok. true≢false (sym ok)))
