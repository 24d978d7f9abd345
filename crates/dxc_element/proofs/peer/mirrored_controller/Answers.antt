use Rattle.dxc_element.specs.Openings.{named, sources}
use Rattle.dxc_element.proofs.Mirroring.{mirror_behind, mirrored, unused_behind}
use Rattle.dxc_element.proofs.Starting.{unopened_behind}
use Rattle.std.proofs.Common.{[], ◌∷◌, inl, inr, refl, true≢false, sym}
use Rattle.std.proofs.lemmas.Result.{err_from_is_err_and}
use Rattle.dxc_outside.specs.Asked.{journal_named, peer_named, shelf_named}
use Rattle.dxc_outside.proofs.Asking.{asked_behind, asked_less, asked_part}
use Rattle.dxc_element.proofs.peer.mirrored_controller.Goals as goal

pub returns-clause-opened : goal.returns-clause-opened
returns-clause-opened g c =
    let told = g.O.Journal.Disk.told in
    let state = g.O.Journal.Disk.state in
    mirrored told g.O.Peer.Link.told state g.O.Peer.Link.state g.O.Opener.told g.O.LetGo.gone (named c.args.names.shelf.now c.args.names.journal.now) c.args.workers
    (sources (g.O.Opener.state c.args.opener.now) (g.O.Opener.journal_at c.args.opener.now) (g.G.Gate.stops c.args.gate.now))
    (sources (g.O.Opener.state c.mirror_of.new.opener) (g.O.Opener.journal_at c.mirror_of.new.opener) (g.G.Gate.stops c.start.new.gate)) (record {
      shelf = c.in_ok-shelf.shelf;
      described = c.in_ok-shelf.ensures.shelf;
      mirror = c.in_ok-mirror.mirror;
      mirrors = mirror_behind told g.O.Peer.Link.told state g.O.Peer.Link.state g.O.Opener.told _ _ _ _ c.in_ok-shelf.ensures.journals c.in_ok-mirror.ensures.mirror;
    }) c.start.result c.start.ensures.started

pub returns-in_err-shelf-clause-opened : goal.returns-in_err-shelf-clause-opened
returns-in_err-shelf-clause-opened g c =
    let p = err_from_is_err_and c.from_residual.result c.from_residual.ensures.1 in
    rw (p.1, p.2) (inl (refl, c.in_err-shelf.ensures.shelf, λ t. c.in_err-shelf.ensures.journals t c.args.names.journal.now))

pub returns-in_err-mirror-clause-opened : goal.returns-in_err-mirror-clause-opened
returns-in_err-mirror-clause-opened g c =
    let p = err_from_is_err_and c.from_residual-in_err-mirror.result c.from_residual-in_err-mirror.ensures.1 in
    let e = c.in_err-mirror.ensures.mirror in
    let at = g.O.Opener.journal_at in
    rw (p.1, p.2) (inr (inl (
      c.in_ok-shelf.shelf,
      c.in_ok-shelf.ensures.shelf,
      refl,
      (
        unopened_behind _ _ _ _ c.in_ok-shelf.ensures.later e.0,
        unused_behind g.O.Opener.told g.O.LetGo.gone c.args.names.journal.now (at c.args.opener.now) (at c.shelf_of_file.new.opener) (at c.mirror_of.new.opener) c.in_ok-shelf.ensures.journals e.1,
      ),
    )))

pub returns-clause-asked : goal.returns-clause-asked
returns-clause-asked g c =
    let first = shelf_named c.args.names.shelf.now ∷ [] in
    let behind = journal_named c.args.names.journal.now ∷ peer_named c.args.peer.now ∷ [] in
    asked_less (g.O.Opener.asked c.args.opener.now c.mirror_of.new.opener) _ (shelf_named c.args.names.shelf.now ∷ behind) (λ ok. refl)
    (asked_behind g.O.Opener.asked g.O.Opener.asked_on c.args.opener.now c.shelf_of_file.new.opener c.mirror_of.new.opener first behind c.in_ok-shelf.ensures.asked c.in_ok-mirror.ensures.asked)

pub returns-in_err-shelf-clause-asked : goal.returns-in_err-shelf-clause-asked
returns-in_err-shelf-clause-asked g c =
    let p = err_from_is_err_and c.from_residual.result c.from_residual.ensures.1 in
    let behind = journal_named c.args.names.journal.now ∷ peer_named c.args.peer.now ∷ [] in
    rw p.1 (asked_part (g.O.Opener.asked c.args.opener.now c.shelf_of_file.new.opener) _ (shelf_named c.args.names.shelf.now ∷ []) behind c.in_err-shelf.ensures.asked (λ ok. true≢false (sym ok)))

pub returns-in_err-mirror-clause-asked : goal.returns-in_err-mirror-clause-asked
returns-in_err-mirror-clause-asked g c =
    let p = err_from_is_err_and c.from_residual-in_err-mirror.result c.from_residual-in_err-mirror.ensures.1 in
    let first = shelf_named c.args.names.shelf.now ∷ [] in
    let behind = journal_named c.args.names.journal.now ∷ peer_named c.args.peer.now ∷ [] in
    rw p.1 (asked_behind g.O.Opener.asked g.O.Opener.asked_on c.args.opener.now c.shelf_of_file.new.opener c.mirror_of.new.opener first behind c.in_ok-shelf.ensures.asked c.in_err-mirror.ensures.asked)
