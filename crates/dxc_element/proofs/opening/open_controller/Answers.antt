use Rattle.dxc_jobs.proofs.Handing.{handed}
use Rattle.dxc_element.specs.Openings.{named, sources}
use Rattle.dxc_element.proofs.Starting.{kept_by, opened}
use Rattle.dxc_jobs.proofs.Counting.{rose_behind}
use Rattle.dxc_outside.specs.declared.opened.Opened.TheVariants.{Failed, NoMemory}
use Rattle.std.proofs.Common.{[], ◌∷◌, inl, inr, refl, true≢false, sym}
use Rattle.std.proofs.lemmas.Result.{err_from_is_err_and}
use Rattle.dxc_outside.specs.Asked.{journal_named, shelf_named}
use Rattle.dxc_outside.proofs.Asking.{asked_all, asked_part}
use Rattle.dxc_element.proofs.opening.open_controller.Goals as goal

pub returns-in-Open-clause-opened : goal.returns-in-Open-clause-opened
returns-in-Open-clause-opened g c =
    opened g.O.Journal.Disk.told g.O.Journal.Disk.state g.O.Opener.told g.O.LetGo.gone (named c.args.names.shelf.now c.args.names.journal.now) c.args.workers
    (sources (g.O.Opener.state c.args.opener.now) (g.O.Opener.journal_at c.args.opener.now) (g.G.Gate.stops c.args.gate.now))
    (sources (g.O.Opener.state c.journal.new.self) (g.O.Opener.journal_at c.journal.new.self) (g.G.Gate.stops c.start.new.gate)) (record {
      shelf = c.in_ok-shelf.shelf;
      described = c.in_ok-shelf.ensures.shelf;
      disk = c.in-Open.disk;
      handed = handed g.O.Opener.told (g.O.Opener.journal_at c.args.opener.now) (g.O.Opener.journal_at c.shelf_of_file.new.opener) (g.O.Opener.journal_at c.journal.new.self) c.journal.result c.in-Open.disk c.args.names.journal.now c.in_ok-shelf.ensures.journals c.in-Open.is c.journal.ensures.opening.hands;
    }) c.start.result c.start.ensures.started

pub returns-in-Failed-clause-opened : goal.returns-in-Failed-clause-opened
returns-in-Failed-clause-opened g c =
    let named = c.in_ok-shelf.ensures in
    inr (inl (
      c.in_ok-shelf.shelf,
      named.shelf,
      refl,
      (
        inr (refl, rose_behind _ _ _ named.later (c.journal.ensures.opening.cause.cause c.in-Failed.is)),
        kept_by g.O.Opener.told c.args.names.journal.now (g.O.Opener.journal_at c.args.opener.now) (g.O.Opener.journal_at c.shelf_of_file.new.opener) (g.O.Opener.journal_at c.journal.new.self) c.journal.result Failed c.in-Failed.is tt named.journals c.journal.ensures.opening.hands,
      ),
    ))

pub returns-in-NoMemory-clause-opened : goal.returns-in-NoMemory-clause-opened
returns-in-NoMemory-clause-opened g c =
    let named = c.in_ok-shelf.ensures in
    inr (inl (
      c.in_ok-shelf.shelf,
      named.shelf,
      refl,
      (
        inl refl,
        kept_by g.O.Opener.told c.args.names.journal.now (g.O.Opener.journal_at c.args.opener.now) (g.O.Opener.journal_at c.shelf_of_file.new.opener) (g.O.Opener.journal_at c.journal.new.self) c.journal.result NoMemory c.in-NoMemory.is tt named.journals c.journal.ensures.opening.hands,
      ),
    ))

pub returns-in_err-shelf-clause-opened : goal.returns-in_err-shelf-clause-opened
returns-in_err-shelf-clause-opened g c =
    let p = err_from_is_err_and c.from_residual.result c.from_residual.ensures.1 in
    rw (p.1, p.2) (inl (refl, c.in_err-shelf.ensures.shelf, λ t. c.in_err-shelf.ensures.journals t c.args.names.journal.now))

pub returns-in-Open-clause-asked : goal.returns-in-Open-clause-asked
returns-in-Open-clause-asked g c =
    asked_all (g.O.Opener.asked c.args.opener.now c.journal.new.self) _ (shelf_named c.args.names.shelf.now ∷ journal_named c.args.names.journal.now ∷ [])
    (g.O.Opener.asked_on c.args.opener.now c.shelf_of_file.new.opener c.journal.new.self (shelf_named c.args.names.shelf.now ∷ []) (journal_named c.args.names.journal.now ∷ []) c.in_ok-shelf.ensures.asked c.journal.ensures.asked)

pub returns-in-Failed-clause-asked : goal.returns-in-Failed-clause-asked
returns-in-Failed-clause-asked g c =
    asked_all (g.O.Opener.asked c.args.opener.now c.journal.new.self) _ (shelf_named c.args.names.shelf.now ∷ journal_named c.args.names.journal.now ∷ [])
    (g.O.Opener.asked_on c.args.opener.now c.shelf_of_file.new.opener c.journal.new.self (shelf_named c.args.names.shelf.now ∷ []) (journal_named c.args.names.journal.now ∷ []) c.in_ok-shelf.ensures.asked c.journal.ensures.asked)

pub returns-in-NoMemory-clause-asked : goal.returns-in-NoMemory-clause-asked
returns-in-NoMemory-clause-asked g c =
    asked_all (g.O.Opener.asked c.args.opener.now c.journal.new.self) _ (shelf_named c.args.names.shelf.now ∷ journal_named c.args.names.journal.now ∷ [])
    (g.O.Opener.asked_on c.args.opener.now c.shelf_of_file.new.opener c.journal.new.self (shelf_named c.args.names.shelf.now ∷ []) (journal_named c.args.names.journal.now ∷ []) c.in_ok-shelf.ensures.asked c.journal.ensures.asked)

pub returns-in_err-shelf-clause-asked : goal.returns-in_err-shelf-clause-asked
returns-in_err-shelf-clause-asked g c =
    let p = err_from_is_err_and c.from_residual.result c.from_residual.ensures.1 in
    rw p.1 (asked_part (g.O.Opener.asked c.args.opener.now c.shelf_of_file.new.opener) _ (shelf_named c.args.names.shelf.now ∷ []) (journal_named c.args.names.journal.now ∷ []) c.in_err-shelf.ensures.asked (λ ok. true≢false (sym ok)))
