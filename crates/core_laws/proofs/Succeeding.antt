-- Another controller on registers and journal of one that stopped.
use Rattle.std.proofs.Common.{◌≡◌, ◌⊎◌, ◌≤◌, ◌^◌, arith, inl, ⊎_elim, ℕ, zero, suc, true, List, [], ◌∷◌, ◌++◌, Option, Some, None, refl, sym, ◌∙◌, ap, subst, length, inr}
use Rattle.std.specs.List.{slice_get}
use Rattle.dxc_disk.specs.Disks.{DiskState, IsDisk}
use Rattle.dxc_num.specs.Dimensions.{Dimensions}
use Rattle.dxc_model.specs.declared.op.Change.{Change}
use Rattle.dxc_model.specs.Tables.{Board}
use Rattle.journal_core.specs.declared.book.Book.{Book}
use Rattle.journal_core.specs.declared.head.Head.{Head}
use Rattle.journal_core.specs.Headers.{IsNew, Stands}
use Rattle.journal_core.specs.Books.{doubted, is_tried, listed, next_head, rows}
use Rattle.journal_core.specs.Turns.{MayStand}
use Rattle.journal_core.proofs.HeaderSteps.{never}
use Rattle.journal_core.proofs.OpenSteps.{new_none}
use Rattle.journal_core.proofs.StandSteps.{head_once, stands_once}
use Rattle.paull_matrix.specs.Colourings.{Colouring}
use Rattle.roll_plan.specs.declared.op.LegOp.{LegOp}
use Rattle.roll_engine.specs.Rollings.{RollingAt, rest_of}
use Rattle.roll_engine.specs.UnderWay.{unmade}
use Rattle.shelf_file.specs.Contents.{Contents}
use Rattle.xc_recovery.specs.Replays.{ComesTo}
use Rattle.xc_recovery.specs.Stages.{IsLastWork}
use Rattle.xc_recovery.proofs.LastWorks.{comes_shape, last_made}
use Rattle.xc_core.specs.declared.provisioner.Provisioner.{Provisioner}
use Rattle.standby_link.specs.Laws.{KeepsUp}
use Rattle.standby_link.specs.Mirrors.{Pair, Primary}
use Rattle.journal_core.proofs.BookMends.{kept_stands}
use Rattle.core_laws.specs.Laws.{IsMirrored}
use Rattle.xc_core.specs.Adoptions.{IsStrange}
use Rattle.xc_core.proofs.Rereading.{halted_file, halted_kept}
use Rattle.xc_core.specs.Journals.{IsOldOrDoubted, IsOneMore, IsSoFar}
use Rattle.xc_core.specs.Provisioners.{IsHome, with_halt}
use Rattle.xc_core.specs.Reckonings.{Past, changed}
use Rattle.xc_core.specs.Restarts.{IsHalted, IsOnWay, IsOwnWay, LastIs, Lists, TakesUp}
use Rattle.xc_core.specs.States.{Opening}
use Rattle.xc_core.proofs.Halting.{taken_few, taken_more}
use Rattle.xc_core.proofs.Journalling.{one_more, untried}
use Rattle.xc_core.proofs.Staging.{IsAtStage, at_end, at_stage, comes_once, way_begins, way_fits}
use Rattle.xc_core.proofs.Standing.{marked_home}

module _ {D : Type 0} (told : Type 0) (state : D → DiskState) (t : told) (b : Past) (p : Provisioner D) (h : IsHalted told state b p) (file : List ℕ) (shelf : Contents) (same : shelf.shape ≡ p.journal.1.shape) (x : IsStrange (Unit {0}) file shelf p.mover) where
  abbrev s : DiskState
  s = state p.journal.0

  abbrev book : Book
  book = p.journal.1

  abbrev o : Opening
  o = x.opening

  abbrev d : Colouring
  d = o.first.fold.colours

  abbrev ops : List LegOp
  ops = o.first.fold.work

  -- what the file stands for comes to what was opened
  comes_as : (head : Head) (records : List (List ℕ)) → Stands book.shape head records file → ComesTo book.shape head records o.first.fold.table d ops
  comes_as head records stands =
      let here : Stands shelf.shape head records file = subst (λ (y : Dimensions). Stands y head records file) (sym same) stands in
      let not_new : IsNew file → ⊥ = λ n. new_none shelf.shape file n head records here in
      let folded = x.opens.folded in
      let there : Stands shelf.shape folded.head o.records file = x.opens.found tt not_new in
      let head_is : folded.head ≡ head = sym (head_once shelf.shape folded.head head o.records records file x.opens.limits.most_modules there here) in
      let list_is : folded.read ≡ records = folded.same tt ∙ sym (stands_once shelf.shape folded.head head o.records records file there here) in
      subst (λ (w : Dimensions × (Head × List (List ℕ))). ComesTo w.0 w.1.0 w.1.1 o.first.fold.table d ops) (λ i. (same i, (head_is i, list_is i))) folded.comes

  last : (c : Colouring) × IsLastWork c ops d
  last = last_made shelf.shape x.opens.folded.head x.opens.folded.read o.first.fold.table d ops x.opens.folded.comes

  fits : d.shape ≡ p.mover.fabric.size.shape
  fits = (comes_shape shelf.shape x.opens.folded.head x.opens.folded.read o.first.fold.table d ops x.opens.folded.comes).1 ∙ (same ∙ (sym h.past.shape ∙ way_fits b p h.past h.way))

  -- at a stage of the last work they aren't strange
  never_off : (l : Option Change) (g : Past) → IsAtStage s book b p l g ops last.0 → g.fold.switches ≤ 2 ^ 48 → ⊥
  never_off l g at few =
      let past = x.is_off last.0 at.step last.1 at.low at.midway in
      let number = at.switches in
      omega (arith, past, number, few)

  at_book : (head : Head) (records : List (List ℕ)) (table : Board) (c : Colouring) (os : List LegOp) → ComesTo b.fold.table.shape head records table c os → ComesTo book.shape head records table c os
  at_book head records table c os comes = subst (λ (y : Dimensions). ComesTo y head records table c os) h.past.shape comes

  -- the file stands for the journal's list
  module _ (stands : Stands book.shape book.head (listed book s.reads_as) file) where
    last_read : (r : RollingAt) → LastIs s book b r.work.ops.items → r.work.ops.items ≡ ops
    last_read r is = (comes_once book.shape book.head (listed book s.reads_as) b.fold.table o.first.fold.table b.fold.colours d r.work.ops.items ops (at_book book.head (listed book s.reads_as) b.fold.table b.fold.colours r.work.ops.items is.comes) (comes_as book.head (listed book s.reads_as) stands)).2

    by_list : (l : Option Change) (g : Past) (before : Colouring) (r : RollingAt) → TakesUp b p.doubt l g → IsOnWay p before g r → IsOwnWay s book b l before g r → Lists told state b p l → ⊥
    by_list None g before r taken way own home =
        let so_far : IsSoFar b book.head (listed book s.reads_as) = home.keeps.lists t in
        let one = comes_once book.shape book.head (listed book s.reads_as) o.first.fold.table b.fold.table d b.fold.colours ops so_far.0 (comes_as book.head (listed book s.reads_as) stands) (at_book book.head (listed book s.reads_as) b.fold.table b.fold.colours so_far.0 so_far.1) in
        let led : d ≡ g.fold.colours = one.1 ∙ sym (ap (λ (y : Past). y.fold.colours) taken) in
        never_off None g (at_stage state b p h.past d ops fits None g before r taken way own led tt (last_read r) last.0 last.1) (taken_few b p.doubt None g h.past.few taken)
    by_list (Some c) g before r taken way own lists =
        let theirs = taken_more b p.doubt c g taken book.head (listed book s.reads_as) (lists.0.lists t) in
        let one = comes_once book.shape book.head (listed book s.reads_as) o.first.fold.table g.fold.table d g.fold.colours ops g.fold.work (comes_as book.head (listed book s.reads_as) stands) (at_book book.head (listed book s.reads_as) g.fold.table g.fold.colours g.fold.work theirs) in
        never_off (Some c) g (at_stage state b p h.past d ops fits (Some c) g before r taken way own one.1 one.2 (last_read r) last.0 last.1) (taken_few b p.doubt (Some c) g h.past.few taken)

  -- it stands for the record in doubt besides
  module _ (marked : book.to_mend ≡ true) (stands : Stands book.shape book.head (listed book s.reads_as ++ doubted book s.reads_as ∷ []) file) where
    abbrev all : List (List ℕ)
    all = listed book s.reads_as ++ doubted book s.reads_as ∷ []

    begun : (g : Past) (before : Colouring) (r : RollingAt) → g ≡ b → IsOnWay p before g r → rest_of r ≡ [] → Lists told state b p None → ⊥
    begun g before r taken way done home =
        let q = home.doubts marked in
        let c = q.is.change in
        let met = q.is.within in
        let f : Past = changed b c met.ops in
        let takes : TakesUp b p.doubt (Some c) f = (q.op, q.asked, q.is.granted, met, refl) in
        let more : IsOneMore b q.op book.head all = one_more b q.op book.head (listed book s.reads_as) all q.bytes (ap (λ (bytes : List ℕ). listed book s.reads_as ++ bytes ∷ []) (q.reads t)) q.version (home.keeps.lists t) q.is in
        let theirs = taken_more b p.doubt c f takes book.head all (q.op, q.asked, more) in
        let one = comes_once book.shape book.head all o.first.fold.table f.fold.table d f.fold.colours ops f.fold.work (comes_as book.head all stands) (at_book book.head all f.fold.table f.fold.colours f.fold.work theirs) in
        let way_on = way_begins b p h.past g before r taken way done q.op q.bytes q.is in
        let rolling : RollingAt = unmade (record { ops = record { items = met.ops } }) in
        never_off (Some c) f (at_stage state b p h.past d ops fits (Some c) f b.fold.colours rolling takes way_on (refl, refl) one.1 one.2 (λ is. absurd (never is.whole marked)) last.0 last.1) (taken_few b p.doubt (Some c) f h.past.few takes)

    by_doubt : (l : Option Change) (g : Past) (before : Colouring) (r : RollingAt) → TakesUp b p.doubt l g → IsOnWay p before g r → IsOwnWay s book b l before g r → Lists told state b p l → ⊥
    by_doubt None g before r taken way own home = ⊎_elim (λ done. begun g before r taken way done home) (λ is. absurd (never is.whole marked)) own
    by_doubt (Some c) g before r taken way own lists = absurd (never lists.1 marked)

  -- it stands for the rows of a turn that was tried
  module _ (tried : is_tried book.spare ≡ true) (stands : Stands book.shape (next_head book) (rows book s.reads_as) file) where
    ended : (g : Past) (before : Colouring) (r : RollingAt) → g ≡ b → IsOnWay p before g r → rest_of r ≡ [] → Lists told state b p None → ⊥
    ended g before r taken way done home =
        let so_far : IsSoFar b (next_head book) (rows book s.reads_as) = home.tried t tried in
        let one = comes_once book.shape (next_head book) (rows book s.reads_as) o.first.fold.table b.fold.table d b.fold.colours ops so_far.0 (comes_as (next_head book) (rows book s.reads_as) stands) (at_book (next_head book) (rows book s.reads_as) b.fold.table b.fold.colours so_far.0 so_far.1) in
        let led : d ≡ g.fold.colours = one.1 ∙ sym (ap (λ (y : Past). y.fold.colours) taken) in
        never_off None g (at_end state b p h.past d ops fits g before r way done led last.0 last.1) (taken_few b p.doubt None g h.past.few taken)

    by_rows : (l : Option Change) (g : Past) (before : Colouring) (r : RollingAt) → TakesUp b p.doubt l g → IsOnWay p before g r → IsOwnWay s book b l before g r → Lists told state b p l → ⊥
    by_rows None g before r taken way own home = ⊎_elim (λ done. ended g before r taken way done home) (λ is. absurd (never (untried book h.past.book is.still) tried)) own
    by_rows (Some c) g before r taken way own lists = absurd (never (untried book h.past.book lists.2) tried)

  pub halted_adopted : MayStand book (listed book s.reads_as) (doubted book s.reads_as) (rows book s.reads_as) file → ⊥
  halted_adopted may =
      let k = h.known t in
      let w = k.way in
      ⊎_elim
      (λ old. by_list old w.lacking w.past w.before w.rolling w.taken w.on_way k.own k.journal)
      (λ other. ⊎_elim
      (λ more. by_doubt more.0 more.1 w.lacking w.past w.before w.rolling w.taken w.on_way k.own k.journal)
      (λ turn. by_rows turn.0 turn.1 w.lacking w.past w.before w.rolling w.taken w.on_way k.own k.journal)
      other)
      may

-- home or halted
pub stopped_adopted : {D : Type 0} (told : Type 0) (state : D → DiskState) → told → (b : Past) (p : Provisioner D) → IsHome told state b p ⊎ IsHalted told state b p → (file : List ℕ) → MayStand p.journal.1 (listed p.journal.1 (state p.journal.0).reads_as) (doubted p.journal.1 (state p.journal.0).reads_as) (rows p.journal.1 (state p.journal.0).reads_as) file
    → (shelf : Contents) → shelf.shape ≡ p.journal.1.shape → IsStrange (Unit {0}) file shelf p.mover → ⊥
stopped_adopted told state t b p is file may shelf same x = ⊎_elim
    (λ home. halted_adopted told state t b (with_halt true p) (marked_home told state b p home) file shelf same x may)
    (λ halted. halted_adopted told state t b p halted file shelf same x may)
    is

-- of the moments from the last one on there is one
last_moment : (before : List (List ℕ)) (file f : List ℕ) (n : ℕ) → length before ≤ n → slice_get (before ++ file ∷ []) n ≡ Some f → f ≡ file
last_moment [] file f zero le is = let e : Some file ≡ Some f = is in cc
last_moment [] file f (suc n) le is = absurd (let e : None ≡ Some f = is in cc)
last_moment (x ∷ xs) file f zero le is = absurd (omega (arith, le))
last_moment (x ∷ xs) file f (suc n) le is = last_moment xs file f n (omega (arith, le)) is

module _ {D : Type 0} (told : Type 0) (state : D → DiskState) (t : told) (b : Past) (p : Provisioner D) where
  -- home and marked it is halted, with the same journal
  stopped : IsHome told state b p ⊎ IsHalted told state b p → IsHalted told state b p ⊎ IsHalted told state b (with_halt true p)
  stopped is = ⊎_elim (λ home. inr (marked_home told state b p home)) (λ halted. inl halted) is

  pub synced_mirrored : IsDisk (state p.journal.0) → IsHome told state b p ⊎ IsHalted told state b p → (primary : Primary) → primary.answered ≡ length primary.before → primary.file ≡ (state p.journal.0).reads_as → IsMirrored (state p.journal.0) p.journal.1 primary
  synced_mirrored disk is primary answered reads moment file le at =
      let s = state p.journal.0 in
      let book = p.journal.1 in
      let here : file ≡ s.reads_as = last_moment primary.before primary.file file moment (omega (arith, le, answered)) at ∙ reads in
      let may = ⊎_elim
      (λ halted. kept_stands s book halted.past.book (halted_kept told state b p halted t) s.reads_as disk.reads_now)
      (λ marked. kept_stands s book marked.past.book (halted_kept told state b (with_halt true p) marked t) s.reads_as disk.reads_now)
      (stopped is) in
      subst (λ (f : List ℕ). MayStand book (listed book s.reads_as) (doubted book s.reads_as) (rows book s.reads_as) f) (sym here) may

  pub standby_adopted : IsHome told state b p ⊎ IsHalted told state b p → (pair : Pair) → KeepsUp pair → IsMirrored (state p.journal.0) p.journal.1 pair.primary
      → IsOldOrDoubted b p.doubt pair.standby.file × ((shelf : Contents) → shelf.shape ≡ p.journal.1.shape → IsStrange (Unit {0}) pair.standby.file shelf p.mover → ⊥)
  standby_adopted is pair keeps mirrored =
      let may = mirrored keeps.moment pair.standby.file keeps.not_before keeps.read in (
        ⊎_elim (λ halted. halted_file told state b p halted t pair.standby.file may) (λ marked. halted_file told state b (with_halt true p) marked t pair.standby.file may) (stopped is),
        λ shelf same x. stopped_adopted told state t b p is pair.standby.file may shelf same x,
      )
