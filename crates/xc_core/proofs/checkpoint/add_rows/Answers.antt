use Rattle.std.proofs.Common.{◌≡◌, ℕ, ◌+◌, List, [], ◌∷◌, ◌++◌, refl, sym, ◌∙◌, ap, arith}
use Rattle.std.proofs.lemmas.Option.{slice_get_within}
use Rattle.dxc_disk.proofs.DiskSteps.{spends_more, spends_none, spends_on}
use Rattle.dxc_model.specs.Tables.{Board}
use Rattle.journal_core.specs.declared.book.Book.{Book}
use Rattle.journal_core.specs.declared.spare.SpareArea.TheVariants.{Drafted, Open}
use Rattle.journal_core.specs.Books.{draft_of, is_drafted, is_tried, listed, rows}
use Rattle.journal_core.proofs.AcknowledgeSteps.{Kept}
use Rattle.journal_core.proofs.KeepSteps.{only_on}
use Rattle.xc_recovery.specs.Rows.{checkpoint}
use Rattle.xc_recovery.proofs.Rowing.{row_first}
use Rattle.xc_core.specs.Journals.{IsOldOrDoubted}
use Rattle.xc_core.proofs.Journalling.{none_called}
use Rattle.xc_core.proofs.Checkpointing.{all_rows, draft_begun, draft_home, draft_left, row_more, row_sealed, undrafted_home}
use Rattle.xc_core.proofs.Counting.{kept_from, kept_now}
use Rattle.xc_core.proofs.checkpoint.add_rows.Goals as goal

pub loop-row-init : goal.loop-row-init
loop-row-init g c =
    let a = c.args.journal.now in
    record {
      at = row_first c.args.table.now;
      low = omega arith;
      book = draft_begun a.1 c.requires.drafted c.requires.none;
      whole = c.count-count.ensures.whole;
      rows = λ told. c.requires.empty told;
      home = λ b doubt home. home;
      moments = λ told b doubt home same. none_called g.D.Disk.told (g.D.Disk.state a.0) a.1 b doubt (sym c.requires.shape ∙ ap (λ (x : Board). x.shape) same.0) home told c.count-count.ensures.whole (g.met.D.Disk.is_disk a.0 told);
      same = λ told. refl;
      keeps = λ told b doubt home. kept_now (g.D.Disk.state a.0) a.1 c.count-count.ensures.whole (home.keeps.kept told) (g.met.D.Disk.is_disk a.0 told);
      later = omega arith;
      room = spends_none _ (g.D.Disk.state a.0);
    }

pub add_row-requires-clause-drafted : goal.add_row-requires-clause-drafted
add_row-requires-clause-drafted g c = ap (λ (x : Book). is_drafted x.spare) c.loop-row.invariant.book

pub add_row-requires-clause-below : goal.add_row-requires-clause-below
add_row-requires-clause-below g c =
    let number : (draft_of c.loop-row.journal.1.spare).rows ≡ c.loop-row.i = ap (λ (x : Book). (draft_of x.spare).rows) c.loop-row.invariant.book in
    let low = slice_get_within (checkpoint c.args.table.now c.args.matrix.now) c.loop-row.i c.in-Some.row (sym c.in-Some.ensures.row) in
    omega (arith, number, low, c.requires.few)

pub add_row-requires-clause-sealed : goal.add_row-requires-clause-sealed
add_row-requires-clause-sealed g c = row_sealed c.args.table.now c.args.matrix.now c.loop-row.i c.in-Some.row c.in-Some.ensures.row

pub loop-row-preserved : goal.loop-row-preserved
loop-row-preserved g c =
    let a = c.args.journal.now in
    let m = c.loop-row.journal in
    let n = c.add_row.new.self in
    let inv = c.loop-row.invariant in
    let rs : List (List ℕ) = checkpoint c.args.table.now c.args.matrix.now in
    let low = slice_get_within rs c.loop-row.i c.in-Some.row (sym c.in-Some.ensures.row) in
    let book = c.in-Ok.ensures.ok in
    record {
      at = c.in-Some.ensures.port;
      low = omega (arith, low);
      book = book ∙ (λ k. record (inv.book k) { spare = Drafted (record { equipped = (draft_of (inv.book k).spare).equipped; rows = (draft_of (inv.book k).spare).rows + 1 }) });
      whole = c.add_row.ensures.whole;
      rows = λ told. (c.in-Ok.ensures.drafts told).ok ∙ ap (λ (xs : List (List ℕ)). xs ++ c.in-Some.row ∷ []) (inv.rows told) ∙ row_more rs c.loop-row.i c.in-Some.row c.in-Some.ensures.row;
      home = λ b doubt home. draft_home g.D.Disk.told (g.D.Disk.state m.0) (g.D.Disk.state n.0) m.1 n.1 b doubt (inv.home b doubt home) (ap (λ (x : Book). x.head) book) (ap (λ (x : Book). x.to_mend) book) _ _ c.in-Ok.ensures.drafts (ap (λ (x : Book). is_drafted x.spare) book);
      moments = λ told b doubt home same. only_on (g.D.Disk.state a.0) (g.D.Disk.state m.0) (g.D.Disk.state n.0) (IsOldOrDoubted b doubt) (inv.moments told b doubt home same)
          (draft_left g.D.Disk.told (g.D.Disk.state m.0) (g.D.Disk.state n.0) m.1 n.1 b doubt (ap (λ (x : Book). x.shape) inv.book ∙ sym c.requires.shape ∙ ap (λ (x : Board). x.shape) same.0) (inv.home b doubt home) told _ _ (c.in-Ok.ensures.drafts told));
      same = λ told. (c.in-Ok.ensures.drafts told).same ∙ inv.same told;
      keeps = λ told b doubt home. only_on (g.D.Disk.state a.0) (g.D.Disk.state m.0) (g.D.Disk.state n.0) (Kept a.1 (listed a.1 (g.D.Disk.state a.0).reads_as) (rows a.1 (g.D.Disk.state a.0).reads_as)) (inv.keeps told b doubt home)
          (kept_from (g.D.Disk.state a.0) (g.D.Disk.state m.0) (g.D.Disk.state n.0) a.1 m.1 (ap (λ (x : Book). x.shape) inv.book) (ap (λ (x : Book). x.head) inv.book) (inv.same told) (ap (λ (x : Book). is_tried x.spare) inv.book) (c.in-Ok.ensures.drafts told).acknowledged);
      later = omega (arith, inv.later, c.in-Ok.ensures.cause.later);
      room = spends_more _ _ (g.D.Disk.state a.0) (g.D.Disk.state n.0) (omega arith) (spends_on _ _ (g.D.Disk.state a.0) (g.D.Disk.state m.0) (g.D.Disk.state n.0) inv.room c.in-Ok.ensures.room);
    }

pub returns-in-Err-clause-err : goal.returns-in-Err-clause-err
returns-in-Err-clause-err g c = c.in-Err.ensures.err ∙ (λ k. record (c.loop-row.invariant.book k) { spare = Open })

pub returns-in-Err-clause-home : goal.returns-in-Err-clause-home
returns-in-Err-clause-home g c = λ b doubt home.
    let m = c.loop-row.journal in
    let n = c.add_row.new.self in
    let book = c.in-Err.ensures.err in
    undrafted_home g.D.Disk.told (g.D.Disk.state m.0) (g.D.Disk.state n.0) m.1 n.1 b doubt (c.loop-row.invariant.home b doubt home) (ap (λ (x : Book). x.head) book) (ap (λ (x : Book). x.to_mend) book) _ _ c.in-Err.ensures.drafts

pub returns-in-Err-clause-any_moment : goal.returns-in-Err-clause-any_moment
returns-in-Err-clause-any_moment g c = λ told b doubt home same.
    let a = c.args.journal.now in
    let m = c.loop-row.journal in
    let n = c.add_row.new.self in
    let inv = c.loop-row.invariant in
    only_on (g.D.Disk.state a.0) (g.D.Disk.state m.0) (g.D.Disk.state n.0) (IsOldOrDoubted b doubt) (inv.moments told b doubt home same)
    (draft_left g.D.Disk.told (g.D.Disk.state m.0) (g.D.Disk.state n.0) m.1 n.1 b doubt (ap (λ (x : Book). x.shape) inv.book ∙ sym c.requires.shape ∙ ap (λ (x : Board). x.shape) same.0) (inv.home b doubt home) told _ _ (c.in-Err.ensures.drafts told))

pub returns-in-Err-clause-room : goal.returns-in-Err-clause-room
returns-in-Err-clause-room g c =
    let a = g.D.Disk.state c.args.journal.now.0 in
    let m = g.D.Disk.state c.loop-row.journal.0 in
    let n = g.D.Disk.state c.add_row.new.self.0 in
    let low = slice_get_within (checkpoint c.args.table.now c.args.matrix.now) c.loop-row.i c.in-Some.row (sym c.in-Some.ensures.row) in
    spends_more _ _ a n (omega (arith, low, c.requires.few)) (spends_on _ _ a m n c.loop-row.invariant.room c.in-Err.ensures.room)

pub returns-clause-ok : goal.returns-clause-ok
returns-clause-ok g c =
    let a = c.args.journal.now in
    let all = all_rows (checkpoint c.args.table.now c.args.matrix.now) c.loop-row.i (sym c.in_default.ensures.row) c.loop-row.invariant.low in
    c.loop-row.invariant.book ∙ ap (λ (n : ℕ). record (a.1) { spare = Drafted (record { equipped = (draft_of a.1.spare).equipped; rows = n }) }) all.0

pub returns-clause-rows : goal.returns-clause-rows
returns-clause-rows g c told = c.loop-row.invariant.rows told ∙ (all_rows (checkpoint c.args.table.now c.args.matrix.now) c.loop-row.i (sym c.in_default.ensures.row) c.loop-row.invariant.low).1

pub returns-in-Err-clause-same : goal.returns-in-Err-clause-same
returns-in-Err-clause-same g c told = (c.in-Err.ensures.drafts told).same ∙ c.loop-row.invariant.same told

pub returns-in-Err-clause-acknowledged : goal.returns-in-Err-clause-acknowledged
returns-in-Err-clause-acknowledged g c = λ told b doubt home.
    let a = c.args.journal.now in
    let m = c.loop-row.journal in
    let n = c.add_row.new.self in
    let inv = c.loop-row.invariant in
    only_on (g.D.Disk.state a.0) (g.D.Disk.state m.0) (g.D.Disk.state n.0) (Kept a.1 (listed a.1 (g.D.Disk.state a.0).reads_as) (rows a.1 (g.D.Disk.state a.0).reads_as)) (inv.keeps told b doubt home)
    (kept_from (g.D.Disk.state a.0) (g.D.Disk.state m.0) (g.D.Disk.state n.0) a.1 m.1 (ap (λ (x : Book). x.shape) inv.book) (ap (λ (x : Book). x.head) inv.book) (inv.same told) (ap (λ (x : Book). is_tried x.spare) inv.book) (c.in-Err.ensures.drafts told).acknowledged)

pub returns-clause-same : goal.returns-clause-same
returns-clause-same g c = c.loop-row.invariant.same

pub returns-clause-acknowledged : goal.returns-clause-acknowledged
returns-clause-acknowledged g c = c.loop-row.invariant.keeps
