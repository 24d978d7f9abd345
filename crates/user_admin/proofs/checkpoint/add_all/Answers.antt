use Rattle.std.proofs.Common.{◌≡◌, ◌≤◌, List, ◌++◌, length, map, ◌∙◌, ap, subst, arith}
use Rattle.std.specs.Prelude.{OnOk}
use Rattle.journal_core.specs.declared.book.Book.{Book}
use Rattle.journal_core.specs.declared.spare.SpareArea.TheVariants.{Drafted, Open}
use Rattle.journal_core.specs.Books.{draft_of, is_drafted, rows}
use Rattle.user_admin.specs.declared.op.UserChange.{UserChange}
use Rattle.user_admin.specs.Records.{spelling}
use Rattle.user_admin.proofs.Keeping.{left_on}
use Rattle.user_admin.proofs.Checkpointing.{added_all, few_rows, given_up, on_ok, rows_all}
use Rattle.user_admin.proofs.checkpoint.add_all.Goals as goal

pub add_rows-requires-clause-room : goal.add_rows-requires-clause-room
add_rows-requires-clause-room g c = omega (arith, c.requires.none)

pub add_rows-requires-2-clause-drafted : goal.add_rows-requires-2-clause-drafted
add_rows-requires-2-clause-drafted g c = ap (λ (x : Book). is_drafted x.spare) c.in-Ok.ensures.ok

pub add_rows-requires-2-clause-room : goal.add_rows-requires-2-clause-room
add_rows-requires-2-clause-room g c =
    let number = ap (λ (x : Book). (draft_of x.spare).rows) c.in-Ok.ensures.ok in
    let few = c.as_slice.ensures.fits in
    omega (arith, number, few, c.requires.none)

pub add_rows-requires-3-clause-drafted : goal.add_rows-requires-3-clause-drafted
add_rows-requires-3-clause-drafted g c = ap (λ (x : Book). is_drafted x.spare) c.in-Ok-add_rows.ensures.ok

pub add_rows-requires-3-clause-room : goal.add_rows-requires-3-clause-room
add_rows-requires-3-clause-room g c =
    let first = ap (λ (x : Book). (draft_of x.spare).rows) c.in-Ok.ensures.ok in
    let number = ap (λ (x : Book). (draft_of x.spare).rows) c.in-Ok-add_rows.ensures.ok in
    let few = c.as_slice.ensures.fits in
    let more = c.as_slice-2.ensures.fits in
    omega (arith, first, number, few, more, c.requires.none)

pub returns-in-Err-add_rows-clause-err : goal.returns-in-Err-add_rows-clause-err
returns-in-Err-add_rows-clause-err g c = c.in-Err-add_rows.ensures.err ∙ ap (λ (x : Book). record x { spare = Open }) c.in-Ok.ensures.ok

pub returns-in-Err-add_rows-clause-home : goal.returns-in-Err-add_rows-clause-home
returns-in-Err-add_rows-clause-home g c = λ shelf users doubt home. c.add_rows-2.ensures.home shelf users doubt (c.add_rows.ensures.home shelf users doubt home)

pub returns-in-Err-add_rows-clause-any_moment : goal.returns-in-Err-add_rows-clause-any_moment
returns-in-Err-add_rows-clause-any_moment g c = λ told shelf users doubt home.
    let one = c.add_rows.new.journal in
    left_on (g.D.Disk.state c.args.journal.now.0) (g.D.Disk.state one.0) (g.D.Disk.state c.add_rows-2.new.journal.0) c.args.journal.now.1.shape one.1.shape shelf users doubt (ap (λ (x : Book). x.shape) c.in-Ok.ensures.ok)
    (c.add_rows.ensures.any_moment told shelf users doubt home) (c.add_rows-2.ensures.any_moment told shelf users doubt (c.add_rows.ensures.home shelf users doubt home))

pub returns-clause-ok : goal.returns-clause-ok
returns-clause-ok g c =
    let a = c.args.journal.now.1 in
    let three = c.add_rows-3.new.journal.1 in
    let ds = c.as_slice.ensures.value ∙ c.deletions.ensures in
    let bs = c.as_slice-2.ensures.value ∙ c.edits.ensures in
    let cs = c.as_slice-3.ensures.value ∙ c.entrances.ensures in
    subst (λ (all : List UserChange). OnOk c.add_rows-3.result (three ≡ record a { spare = Drafted (record { equipped = (draft_of a.spare).equipped; rows = length all }) })) (λ i. ds i ++ (bs i ++ cs i))
    (added_all a c.add_rows.new.journal.1 c.add_rows-2.new.journal.1 three c.as_slice.result.now c.as_slice-2.result.now c.as_slice-3.result.now c.in-Ok.ensures.ok c.in-Ok-add_rows.ensures.ok c.add_rows-3.result c.requires.none c.add_rows-3.ensures.ok)

pub returns-clause-err : goal.returns-clause-err
returns-clause-err g c =
    given_up c.args.journal.now.1 c.add_rows.new.journal.1 c.add_rows-2.new.journal.1 c.add_rows-3.new.journal.1 c.as_slice.result.now c.as_slice-2.result.now c.as_slice-3.result.now c.in-Ok.ensures.ok c.in-Ok-add_rows.ensures.ok c.add_rows-3.result c.add_rows-3.ensures.err

pub returns-clause-few : goal.returns-clause-few
returns-clause-few g c =
    let ds = c.as_slice.ensures.value ∙ c.deletions.ensures in
    let bs = c.as_slice-2.ensures.value ∙ c.edits.ensures in
    let cs = c.as_slice-3.ensures.value ∙ c.entrances.ensures in
    on_ok c.add_rows-3.result (subst (λ (all : List UserChange). length all ≤ 192) (λ i. ds i ++ (bs i ++ cs i)) (few_rows c.as_slice.result.now c.as_slice-2.result.now c.as_slice-3.result.now c.as_slice.ensures.fits c.as_slice-2.ensures.fits c.as_slice-3.ensures.fits))

pub returns-clause-rows : goal.returns-clause-rows
returns-clause-rows g c told =
    let a = c.args.journal.now in
    let one = c.add_rows.new.journal in
    let two = c.add_rows-2.new.journal in
    let three = c.add_rows-3.new.journal in
    let ds = c.as_slice.ensures.value ∙ c.deletions.ensures in
    let bs = c.as_slice-2.ensures.value ∙ c.edits.ensures in
    let cs = c.as_slice-3.ensures.value ∙ c.entrances.ensures in
    let lines = rows three.1 (g.D.Disk.state three.0).reads_as in
    subst (λ (all : List UserChange). OnOk c.add_rows-3.result (lines ≡ map spelling all)) (λ i. ds i ++ (bs i ++ cs i))
    (rows_all c.add_rows-3.result (rows a.1 (g.D.Disk.state a.0).reads_as) (rows one.1 (g.D.Disk.state one.0).reads_as) (rows two.1 (g.D.Disk.state two.0).reads_as) lines c.as_slice.result.now c.as_slice-2.result.now c.as_slice-3.result.now
    (c.requires.empty told) (c.in-Ok.ensures.rows told) (c.in-Ok-add_rows.ensures.rows told) (c.add_rows-3.ensures.rows told))

pub returns-clause-home : goal.returns-clause-home
returns-clause-home g c = λ shelf users doubt home. c.add_rows-3.ensures.home shelf users doubt (c.add_rows-2.ensures.home shelf users doubt (c.add_rows.ensures.home shelf users doubt home))

pub returns-clause-any_moment : goal.returns-clause-any_moment
returns-clause-any_moment g c = λ told shelf users doubt home.
    let a = c.args.journal.now in
    let one = c.add_rows.new.journal in
    let two = c.add_rows-2.new.journal in
    let first = ap (λ (x : Book). x.shape) c.in-Ok.ensures.ok in
    let second = ap (λ (x : Book). x.shape) c.in-Ok-add_rows.ensures.ok ∙ first in
    let at_one = c.add_rows.ensures.home shelf users doubt home in
    left_on (g.D.Disk.state a.0) (g.D.Disk.state two.0) (g.D.Disk.state c.add_rows-3.new.journal.0) a.1.shape two.1.shape shelf users doubt second
    (left_on (g.D.Disk.state a.0) (g.D.Disk.state one.0) (g.D.Disk.state two.0) a.1.shape one.1.shape shelf users doubt first (c.add_rows.ensures.any_moment told shelf users doubt home) (c.add_rows-2.ensures.any_moment told shelf users doubt at_one))
    (c.add_rows-3.ensures.any_moment told shelf users doubt (c.add_rows-2.ensures.home shelf users doubt at_one))
