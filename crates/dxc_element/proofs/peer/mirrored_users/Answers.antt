use Rattle.std.proofs.Common.{◌≡◌, ◌∙◌, [], ◌∷◌, Bool, List, false, inl, refl, true, true≢false, subst, sym}
use Rattle.std.specs.Prelude.{IsOk}
use Rattle.std.proofs.lemmas.Result.{err_from_is_err_and}
use Rattle.dxc_outside.specs.Asked.{Asking, AskedFor, journal_named, peer_named}
use Rattle.dxc_outside.proofs.Asking.{asked_less, asked_part}
use Rattle.dxc_element.specs.Openings.{users_name}
use Rattle.dxc_element.specs.Lenders.{lender}
use Rattle.dxc_element.specs.Peers.{users_peer}
use Rattle.dxc_element.proofs.Mirroring.{none_taken, took_from}
use Rattle.dxc_element.proofs.peer.mirrored_users.Goals as goal

pub returns-in_default-clause-users : goal.returns-in_default-clause-users
returns-in_default-clause-users g c = inl (inl refl, inl (λ t. refl))

pub returns-in_default-users_name-clause-users : goal.returns-in_default-users_name-clause-users
returns-in_default-users_name-clause-users g c = inl (inl refl, inl (λ t. refl))

pub returns-in_err-mirror-clause-users : goal.returns-in_err-mirror-clause-users
returns-in_err-mirror-clause-users g c =
    let p = err_from_is_err_and c.from_residual.result c.from_residual.ensures.1 in
    rw (p.1, p.2) (inl (none_taken (lender g.O.Opener g.O.Journal.Disk g.O.Peer.Link g.O.LetGo.gone) c.args.opener.now c.mirror_of.new.opener c.args.journal.now c.text.result.now (c.text.ensures ∙ c.in-Ok.ensures) c.in_err-mirror.ensures.mirror))

pub returns-clause-users : goal.returns-clause-users
returns-clause-users g c = took_from (lender g.O.Opener g.O.Journal.Disk g.O.Peer.Link g.O.LetGo.gone) c.args.opener.now c.mirror_of.new.opener c.args.journal.now c.text.result.now (c.text.ensures ∙ c.in-Ok.ensures) c.in_ok-mirror.mirror c.in_ok-mirror.ensures.mirror c.args.shelf.now c.start_users.result c.start_users.ensures

pub returns-in_default-clause-asked : goal.returns-in_default-clause-asked
returns-in_default-clause-asked g c = asked_part (g.O.Opener.asked c.args.opener.now c.args.opener.now) _ [] (journal_named (users_name c.args.journal.now) ∷ peer_named (users_peer c.args.peer.now) ∷ []) (g.O.Opener.unasked c.args.opener.now) (λ ok. true≢false (sym ok))

pub returns-in_default-users_name-clause-asked : goal.returns-in_default-users_name-clause-asked
returns-in_default-users_name-clause-asked g c = asked_part (g.O.Opener.asked c.args.opener.now c.args.opener.now) _ [] (journal_named (users_name c.args.journal.now) ∷ peer_named (users_peer c.args.peer.now) ∷ []) (g.O.Opener.unasked c.args.opener.now) (λ ok. true≢false (sym ok))

pub returns-in_err-mirror-clause-asked : goal.returns-in_err-mirror-clause-asked
returns-in_err-mirror-clause-asked g c =
    let p = err_from_is_err_and c.from_residual.result c.from_residual.ensures.1 in
    let asked = g.O.Opener.asked c.args.opener.now c.mirror_of.new.opener in
    let all = journal_named c.text.result.now ∷ peer_named c.text-2.result.now ∷ [] in
    let list : all ≡ journal_named (users_name c.args.journal.now) ∷ peer_named (users_peer c.args.peer.now) ∷ [] = λ i. journal_named ((c.text.ensures ∙ c.in-Ok.ensures) i) ∷ peer_named ((c.text-2.ensures ∙ c.in-Ok-users_name.ensures) i) ∷ [] in
    rw p.1 (subst (λ (l : List Asking). AskedFor asked l (◌≡◌ {A = Bool} false true)) list c.in_err-mirror.ensures.asked)

pub returns-clause-asked : goal.returns-clause-asked
returns-clause-asked g c =
    let asked = g.O.Opener.asked c.args.opener.now c.mirror_of.new.opener in
    let all = journal_named c.text.result.now ∷ peer_named c.text-2.result.now ∷ [] in
    let list : all ≡ journal_named (users_name c.args.journal.now) ∷ peer_named (users_peer c.args.peer.now) ∷ [] = λ i. journal_named ((c.text.ensures ∙ c.in-Ok.ensures) i) ∷ peer_named ((c.text-2.ensures ∙ c.in-Ok-users_name.ensures) i) ∷ [] in
    subst (λ (l : List Asking). AskedFor asked l (IsOk c.start_users.result)) list (asked_less asked _ all (λ ok. refl) c.in_ok-mirror.ensures.asked)
