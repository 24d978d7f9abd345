use Rattle.std.proofs.Common.{◌≡◌, ℕ, ◌+◌, List, [], ◌∷◌, ◌++◌, append-nil, length, map, slice_index, sym, ◌∙◌, ap, subst, arith}
use Rattle.std.proofs.lemmas.List.{take_all}
use Rattle.dxc_num.specs.Dimensions.{Dimensions}
use Rattle.dxc_disk.specs.Disks.{LeavesOnly}
use Rattle.dxc_disk.proofs.DiskSteps.{spends_more, spends_none, spends_on}
use Rattle.journal_core.specs.declared.book.Book.{Book}
use Rattle.journal_core.specs.declared.spare.SpareArea.TheVariants.{Drafted, Open}
use Rattle.journal_core.specs.Books.{draft_of, is_drafted, rows}
use Rattle.journal_core.proofs.KeepSteps.{only_on}
use Rattle.user_admin.specs.declared.op.UserChange.{UserChange}
use Rattle.user_admin.specs.Files.{IsOldOrDoubted}
use Rattle.user_admin.specs.Records.{spelling}
use Rattle.user_admin.proofs.Keeping.{none_called}
use Rattle.user_admin.proofs.Checkpointing.{draft_begun, draft_home, draft_left, row_sealed, rows_more, undrafted_home}
use Rattle.user_admin.proofs.checkpoint.add_rows.Goals as goal

pub loop-at-init : goal.loop-at-init
loop-at-init g c =
    let a = c.args.journal.now in
    record {
      low = omega arith;
      book = draft_begun a.1 c.requires.drafted;
      whole = c.count-count.ensures.whole;
      rows = λ told. sym (append-nil (rows a.1 (g.D.Disk.state a.0).reads_as));
      home = λ shelf users doubt home. home;
      moments = λ told shelf users doubt home. none_called g.D.Disk.told (g.D.Disk.state a.0) a.1 shelf users doubt home told c.count-count.ensures.whole (g.met.D.Disk.is_disk a.0 told);
      later = omega arith;
      room = spends_none _ (g.D.Disk.state a.0);
    }

pub add_row-requires-clause-drafted : goal.add_row-requires-clause-drafted
add_row-requires-clause-drafted g c = ap (λ (x : Book). is_drafted x.spare) c.loop-at.invariant.book

pub add_row-requires-clause-below : goal.add_row-requires-clause-below
add_row-requires-clause-below g c =
    let number : (draft_of c.loop-at.journal.1.spare).rows ≡ (draft_of c.args.journal.now.1.spare).rows + c.loop-at.at = ap (λ (x : Book). (draft_of x.spare).rows) c.loop-at.invariant.book in
    let low = c.loop-at-test.true in
    omega (arith, number, low, c.requires.few, c.requires.room)

pub add_row-requires-clause-sealed : goal.add_row-requires-clause-sealed
add_row-requires-clause-sealed g c = ap (λ (bs : List ℕ). slice_index bs 0) c.record_of.ensures ∙ row_sealed _

pub loop-at-preserved : goal.loop-at-preserved
loop-at-preserved g c =
    let a = c.args.journal.now in
    let m = c.loop-at.journal in
    let n = c.add_row.new.self in
    let inv = c.loop-at.invariant in
    let low = c.loop-at-test.true in
    let book = c.in-Ok.ensures.ok in
    let at = c.loop-at.at in
    let lines = rows m.1 (g.D.Disk.state m.0).reads_as in
    record {
      low = omega (arith, low);
      book = book ∙ (λ k. record (inv.book k) { spare = Drafted (record { equipped = (draft_of (inv.book k).spare).equipped; rows = (draft_of (inv.book k).spare).rows + 1 }) }) ∙ (let e : (draft_of a.1.spare).rows + at + 1 ≡ (draft_of a.1.spare).rows + (at + 1) = omega arith in ap (λ (k : ℕ). record (a.1) { spare = Drafted (record { equipped = (draft_of a.1.spare).equipped; rows = k }) }) e);
      whole = c.add_row.ensures.whole;
      rows = λ told. (c.in-Ok.ensures.drafts told).ok
          ∙ (ap (λ (bs : List ℕ). lines ++ bs ∷ []) (c.record_of.ensures ∙ ap spelling c.index-changes-at.is)
          ∙ rows_more lines (rows a.1 (g.D.Disk.state a.0).reads_as) c.args.changes.now at c.index-changes-at.result (omega (arith, low)) (inv.rows told));
      home = λ shelf users doubt home. draft_home g.D.Disk.told (g.D.Disk.state m.0) (g.D.Disk.state n.0) m.1 n.1 shelf users doubt (inv.home shelf users doubt home) (ap (λ (x : Book). x.to_mend) book) _ _ c.in-Ok.ensures.drafts (ap (λ (x : Book). is_drafted x.spare) book);
      moments = λ told shelf users doubt home. only_on (g.D.Disk.state a.0) (g.D.Disk.state m.0) (g.D.Disk.state n.0) (IsOldOrDoubted a.1.shape shelf users doubt) (inv.moments told shelf users doubt home)
          (subst (λ (d : Dimensions). LeavesOnly (g.D.Disk.state m.0) (g.D.Disk.state n.0) (IsOldOrDoubted d shelf users doubt)) (ap (λ (x : Book). x.shape) inv.book)
          (draft_left g.D.Disk.told (g.D.Disk.state m.0) (g.D.Disk.state n.0) m.1 n.1 shelf users doubt (inv.home shelf users doubt home) told _ _ (c.in-Ok.ensures.drafts told)));
      later = omega (arith, inv.later, c.in-Ok.ensures.cause.later);
      room = spends_more _ _ (g.D.Disk.state a.0) (g.D.Disk.state n.0) (omega arith) (spends_on _ _ (g.D.Disk.state a.0) (g.D.Disk.state m.0) (g.D.Disk.state n.0) inv.room c.in-Ok.ensures.room);
    }

pub returns-in-Err-clause-err : goal.returns-in-Err-clause-err
returns-in-Err-clause-err g c = c.in-Err.ensures.err ∙ (λ k. record (c.loop-at.invariant.book k) { spare = Open })

pub returns-in-Err-clause-home : goal.returns-in-Err-clause-home
returns-in-Err-clause-home g c = λ shelf users doubt home.
    let m = c.loop-at.journal in
    let n = c.add_row.new.self in
    undrafted_home g.D.Disk.told (g.D.Disk.state m.0) (g.D.Disk.state n.0) m.1 n.1 shelf users doubt (c.loop-at.invariant.home shelf users doubt home) (ap (λ (x : Book). x.to_mend) c.in-Err.ensures.err) _ _ c.in-Err.ensures.drafts

pub returns-in-Err-clause-any_moment : goal.returns-in-Err-clause-any_moment
returns-in-Err-clause-any_moment g c = λ told shelf users doubt home.
    let a = c.args.journal.now in
    let m = c.loop-at.journal in
    let n = c.add_row.new.self in
    let inv = c.loop-at.invariant in
    only_on (g.D.Disk.state a.0) (g.D.Disk.state m.0) (g.D.Disk.state n.0) (IsOldOrDoubted a.1.shape shelf users doubt) (inv.moments told shelf users doubt home)
    (subst (λ (d : Dimensions). LeavesOnly (g.D.Disk.state m.0) (g.D.Disk.state n.0) (IsOldOrDoubted d shelf users doubt)) (ap (λ (x : Book). x.shape) inv.book)
    (draft_left g.D.Disk.told (g.D.Disk.state m.0) (g.D.Disk.state n.0) m.1 n.1 shelf users doubt (inv.home shelf users doubt home) told _ _ (c.in-Err.ensures.drafts told)))

pub returns-in-Err-clause-room : goal.returns-in-Err-clause-room
returns-in-Err-clause-room g c =
    let a = g.D.Disk.state c.args.journal.now.0 in
    let m = g.D.Disk.state c.loop-at.journal.0 in
    let n = g.D.Disk.state c.add_row.new.self.0 in
    let low = c.loop-at-test.true in
    spends_more _ _ a n (omega (arith, low, c.requires.few)) (spends_on _ _ a m n c.loop-at.invariant.room c.in-Err.ensures.room)

pub returns-clause-ok : goal.returns-clause-ok
returns-clause-ok g c =
    let a = c.args.journal.now in
    let high = c.loop-at-test.false in
    let all : c.loop-at.at ≡ length c.args.changes.now = omega (arith, high, c.loop-at.invariant.low) in
    c.loop-at.invariant.book ∙ ap (λ (n : ℕ). record (a.1) { spare = Drafted (record { equipped = (draft_of a.1.spare).equipped; rows = (draft_of a.1.spare).rows + n }) }) all

pub returns-clause-rows : goal.returns-clause-rows
returns-clause-rows g c told =
    let a = c.args.journal.now in
    let high = c.loop-at-test.false in
    c.loop-at.invariant.rows told ∙ ap (λ (cs : List UserChange). rows a.1 (g.D.Disk.state a.0).reads_as ++ map spelling cs) (take_all c.loop-at.at c.args.changes.now (omega (arith, high)))

pub returns-clause-room : goal.returns-clause-room
returns-clause-room g c =
    let low = c.loop-at.invariant.low in
    spends_more _ _ (g.D.Disk.state c.args.journal.now.0) (g.D.Disk.state c.loop-at.journal.0) (omega (arith, low, c.requires.few)) c.loop-at.invariant.room
