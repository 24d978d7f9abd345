-- A journal while a checkpoint is written, and turned to.
use Rattle.std.proofs.Common.{◌≡◌, ℕ, zero, suc, ◌+◌, ◌<◌, ◌≤◌, true, false, List, [], ◌∷◌, ◌++◌, length, length-append, map, take, Option, Some, None, refl, sym, ◌∙◌, ap, subst, arith}
use Rattle.std.specs.Prelude.{slice_get, slice_index}
use Rattle.std.proofs.lemmas.List.{length-map}
use Rattle.std.proofs.lemmas.Option.{slice_get_within}
use Rattle.std.specs.Prelude.{Result, Ok, Err, OnOk, OnErr}
use Rattle.std.specs.List.{AllByRecursion}
use Rattle.dxc_num.specs.declared.port.Middle.{Middle}
use Rattle.dxc_num.specs.Dimensions.{IsInLimits}
use Rattle.dxc_disk.specs.Disks.{DiskState, LeavesOnly}
use Rattle.dxc_model.specs.declared.conn.Conn.{Conn}
use Rattle.dxc_model.proofs.Keeping.{room_of}
use Rattle.dxc_model.specs.declared.op.Op.{Op}
use Rattle.dxc_model.specs.Equipment.{modules_in}
use Rattle.dxc_model.specs.Tables.{Board, IsOfShape}
use Rattle.journal_core.specs.declared.book.Book.{Book}
use Rattle.journal_core.specs.declared.head.Head.{Head}
use Rattle.journal_core.specs.declared.spare.Draft.{Draft}
use Rattle.journal_core.specs.declared.spare.SpareArea.{SpareArea}
use Rattle.journal_core.specs.declared.spare.SpareArea.TheVariants.{Older, Open, Drafted, Tried}
use Rattle.journal_core.specs.declared.version.Version.TheVariants.{Two}
use Rattle.journal_core.specs.Areas.{other_half}
use Rattle.journal_core.specs.Headers.{next_generation}
use Rattle.journal_core.specs.Books.{IsReady, draft_of, is_drafted, is_tried, next_head, rows, turned}
use Rattle.journal_core.specs.Turns.{Drafts, Turns}
use Rattle.journal_core.proofs.AreaSteps.{most_two}
use Rattle.journal_core.proofs.HeaderSteps.{never}
use Rattle.journal_core.proofs.KeepSteps.{only_weaker}
use Rattle.paull_matrix.specs.Colourings.{Colouring}
use Rattle.xc_journal.specs.Entries.{FitsConn}
use Rattle.xc_recovery.specs.Placings.{IsPlaced}
use Rattle.xc_recovery.specs.Rows.{checkpoint, out_rows, row_of}
use Rattle.xc_recovery.proofs.Rowing.{checkpoints_stand}
use Rattle.xc_core.specs.Reckonings.{IsTable, Past}
use Rattle.xc_core.specs.Journals.{IsAtHome, IsOldOrDoubted, IsSoFar}
use Rattle.xc_core.proofs.Granting.{few_ports}
use Rattle.xc_core.proofs.Journalling.{doubts_on, home_on, may_called, may_stand}

-- the header of a checkpoint, by what it is of
next_same : (before after : Book) → after.head ≡ before.head → draft_of after.spare ≡ draft_of before.spare → next_head after ≡ next_head before
next_same before after head draft = λ i. record { version = Two; generation = next_generation (head i).generation; equipped = (draft i).equipped }

drafted_untried : (spare : SpareArea) → is_drafted spare ≡ true → is_tried spare ≡ false
drafted_untried Older e = refl
drafted_untried Open e = refl
drafted_untried (Drafted d) e = refl
drafted_untried (Tried d) e = absurd (never refl e)

module _ (told : Type 0) (old new : DiskState) (before after : Book) (b : Past) (doubt : Option Op) (home : IsAtHome told old before b doubt) (head : after.head ≡ before.head) (mend : after.to_mend ≡ before.to_mend) where
  -- a step of a checkpoint succeeded
  pub draft_home : {T E : Type 0} (v : T) (lines : List (List ℕ)) → (told → Drafts {T = T} {E = E} old new before after (Ok v) lines) → is_drafted after.spare ≡ true → IsAtHome told new after b doubt
  draft_home v lines drafts drafted = home_on told old new before after b doubt home (λ t. (drafts t).kept) head (λ t. (drafts t).same) doubt
      (doubts_on told old new before after b doubt home (λ t. (drafts t).kept) head (λ t. (drafts t).same) (λ marked. sym mend ∙ marked) (λ t. (drafts t).doubt))
      (λ t tried. absurd (never (drafted_untried after.spare drafted) tried))

  -- or it failed: a turn that was tried before may be current still
  pub undrafted_home : {T E : Type 0} (e : E) (lines : List (List ℕ)) → (told → Drafts {T = T} {E = E} old new before after (Err e) lines) → IsAtHome told new after b doubt
  undrafted_home e lines drafts = home_on told old new before after b doubt home (λ t. (drafts t).kept) head (λ t. (drafts t).same) doubt
      (doubts_on told old new before after b doubt home (λ t. (drafts t).kept) head (λ t. (drafts t).same) (λ marked. sym mend ∙ marked) (λ t. (drafts t).doubt))
      (λ t tried.
      let l = (drafts t).lines tried in
      let next = next_same before after head (ap draft_of l.0) in
      subst (λ (w : Head × List (List ℕ)). IsSoFar b w.0 w.1) (λ i. (sym next i, sym l.1 i)) (home.tried t (sym (ap is_tried l.0) ∙ tried)))

-- at any moment of a step
pub draft_left : (told : Type 0) (old new : DiskState) (before after : Book) (b : Past) (doubt : Option Op) → before.shape ≡ b.fold.table.shape → IsAtHome told old before b doubt → told → {T E : Type 0} (result : Result T E) (lines : List (List ℕ)) → Drafts old new before after result lines
    → LeavesOnly old new (IsOldOrDoubted b doubt)
draft_left told old new before after b doubt shape home t result lines drafts = may_called told old before b doubt shape home t new drafts.any_moment

-- the rows of a table and its legs, after a header of its equipment, stand for it
pub rows_so_far : (b : Past) (t : Board) (c : Colouring) (book : Book) (lines : List (List ℕ)) → IsTable b t c → IsPlaced t c → IsOfShape t → AllByRecursion FitsConn t.conns → modules_in t.shape (draft_of book.spare).equipped ≡ t.equipped → lines ≡ checkpoint t c → IsSoFar b (next_head book) lines
rows_so_far b t c book lines is placed of_shape fits equipment lines_are =
    let stand = checkpoints_stand t c (draft_of book.spare).equipped placed of_shape fits equipment in
    let reached : IsSoFar (record b { fold = record b.fold { table = t; colours = c } }) (next_head book) (checkpoint t c) = (stand.0, (stand.1, stand.2)) in
    subst (λ (w : List (List ℕ)). IsSoFar b (next_head book) w) (sym lines_are)
    (subst (λ (w : Board × Colouring). IsSoFar (record b { fold = record b.fold { table = w.0; colours = w.1 } }) (next_head book) (checkpoint t c)) (λ i. (is.0 i, is.1 i)) reached)

module _ (told : Type 0) (old new : DiskState) (before after : Book) (b : Past) (doubt : Option Op) (home : IsAtHome told old before b doubt) (lines : told → IsSoFar b (next_head before) (rows before old.reads_as)) where
  -- it was turned to
  pub turned_home : {T E : Type 0} (v : T) → (told → Turns {T = T} {E = E} old new before after (Ok v)) → after ≡ turned before (draft_of before.spare) → IsAtHome told new after b doubt
  turned_home v turns book = record {
    keeps = record {
      kept = λ t. (turns t).kept;
      lists = λ t. subst (λ (w : Head × List (List ℕ)). IsSoFar b w.0 w.1) (λ i. (sym (ap (λ (x : Book). x.head) book) i, sym (turns t).ok.1 i)) (lines t);
    };
    doubts = λ marked. absurd (never (ap (λ (x : Book). x.to_mend) book) marked);
    tried = λ t tried. absurd (never (ap (λ (x : Book). is_tried x.spare) book) tried);
  }

  -- or wasn't, or may have been
  pub unturned_home : {T E : Type 0} (e : E) → (told → Turns {T = T} {E = E} old new before after (Err e)) → after ≡ record before { spare = after.spare } → IsAtHome told new after b doubt
  unturned_home e turns book = home_on told old new before after b doubt home (λ t. (turns t).kept) (ap (λ (x : Book). x.head) book) (λ t. (turns t).err) doubt
      (doubts_on told old new before after b doubt home (λ t. (turns t).kept) (ap (λ (x : Book). x.head) book) (λ t. (turns t).err) (λ marked. sym (ap (λ (x : Book). x.to_mend) book) ∙ marked) (λ t. (turns t).doubt))
      (λ t tried.
      let l = (turns t).lines tried in
      let next = next_same before after (ap (λ (x : Book). x.head) book) (ap draft_of l.0) in
      subst (λ (w : Head × List (List ℕ)). IsSoFar b w.0 w.1) (λ i. (sym next i, sym l.1 i)) (lines t))

  pub turn_home : {T E : Type 0} (result : Result T E) → (told → Turns old new before after result) → OnOk result (after ≡ turned before (draft_of before.spare)) → OnErr result (after ≡ record before { spare = after.spare }) → IsAtHome told new after b doubt
  turn_home (Ok v) turns ok err = turned_home v turns ok
  turn_home (Err e) turns ok err = unturned_home e turns err

  -- at any moment of the turn
  pub turn_left : before.shape ≡ b.fold.table.shape → told → {T E : Type 0} (result : Result T E) → Turns old new before after result → LeavesOnly old new (IsOldOrDoubted b doubt)
  turn_left shape t result turns =
      let come : Book = record before { spare = Tried (draft_of before.spare) } in
      only_weaker old new _ (IsOldOrDoubted b doubt)
      (may_stand told old come b doubt shape t (home.keeps.lists t)
      (λ marked. let d = home.doubts marked in record { op = d.op; asked = d.asked; bytes = d.bytes; is = d.is; version = d.version; reads = d.reads })
      (λ _. lines t))
      turns.any_moment

-- at most one row takes a middle out, and one enters each connection
out_few : (o : Option Middle) → length (out_rows o) ≤ 1
out_few None = omega arith
out_few (Some m) = omega arith

pub rows_few : (t : Board) (c : Colouring) → IsInLimits t.shape → IsPlaced t c → IsOfShape t → length (checkpoint t c) ≤ 6145
rows_few t c limits placed of_shape =
    let room = room_of t placed.table of_shape in
    let ports_few = few_ports t.shape limits in
    let conns = length-map t.conns (row_of c) in
    let whole = length-append (out_rows t.out) (map (row_of c) t.conns) in
    let one = out_few t.out in
    omega (arith, room, ports_few, conns, whole, one)

-- each row is sealed
abbrev IsSealed : List ℕ → Type 0
IsSealed bytes = slice_index bytes 0 ≡ 165

conns_sealed : (c : Colouring) (ks : List Conn) → AllByRecursion IsSealed (map (row_of c) ks)
conns_sealed c [] = tt
conns_sealed c (k ∷ ks) = (refl, conns_sealed c ks)

all_sealed : (c : Colouring) (o : Option Middle) (ks : List Conn) → AllByRecursion IsSealed (out_rows o ++ map (row_of c) ks)
all_sealed c None ks = conns_sealed c ks
all_sealed c (Some m) ks = (refl, conns_sealed c ks)

sealed_at : (rs : List (List ℕ)) (i : ℕ) (row : List ℕ) → AllByRecursion IsSealed rs → slice_get rs i ≡ Some row → IsSealed row
sealed_at [] i row all at = let low = slice_get_within [] i row at in absurd (let z : ⊥ = omega arith in z)
sealed_at (r ∷ rs) zero row all at = let same : r ≡ row = (let e : Some r ≡ Some row = at in cc) in subst IsSealed same all.0
sealed_at (r ∷ rs) (suc i) row all at = sealed_at rs i row all.1 at

pub row_sealed : (t : Board) (c : Colouring) (i : ℕ) (row : List ℕ) → Some row ≡ slice_get (checkpoint t c) i → slice_index row 0 ≡ 165
row_sealed t c i row at = sealed_at (checkpoint t c) i row (all_sealed c t.out t.conns) (sym at)

-- so many rows, and the next one
pub row_more : (rs : List (List ℕ)) (i : ℕ) (row : List ℕ) → Some row ≡ slice_get rs i → take i rs ++ row ∷ [] ≡ take (i + 1) rs
row_more [] i row at = let low = slice_get_within [] i row (sym at) in absurd (let z : ⊥ = omega arith in z)
row_more (r ∷ rs) zero row at = let e : row ≡ r = (let f : Some row ≡ Some r = at in cc) in ap (λ (x : List ℕ). x ∷ []) e
row_more (r ∷ rs) (suc i) row at = let next : suc (i + 1) ≡ suc i + 1 = omega arith in ap (λ (xs : List (List ℕ)). r ∷ xs) (row_more rs i row at) ∙ ap (λ (n : ℕ). take n (r ∷ rs)) next

-- a draft of no row
drafted_as : (spare : SpareArea) → is_drafted spare ≡ true → (draft_of spare).rows ≡ 0 → spare ≡ Drafted (record { equipped = (draft_of spare).equipped; rows = 0 })
drafted_as Older e none = absurd (never refl e)
drafted_as Open e none = absurd (never refl e)
drafted_as (Drafted d) e none = λ i. Drafted (record { equipped = d.equipped; rows = none i })
drafted_as (Tried d) e none = absurd (never refl e)

pub draft_begun : (book : Book) → is_drafted book.spare ≡ true → (draft_of book.spare).rows ≡ 0 → book ≡ record book { spare = Drafted (record { equipped = (draft_of book.spare).equipped; rows = 0 }) }
draft_begun book drafted none = λ i. record book { spare = drafted_as book.spare drafted none i }

-- after the last row there is none
pub all_rows : (rs : List (List ℕ)) (i : ℕ) → slice_get rs i ≡ None → i ≤ length rs → (i ≡ length rs) × (take i rs ≡ rs)
all_rows [] zero none low = (refl, refl)
all_rows [] (suc i) none low = absurd (let z : ⊥ = omega arith in z)
all_rows (r ∷ rs) zero none low = absurd (let e : Some r ≡ None = none in cc)
all_rows (r ∷ rs) (suc i) none low = let rest = all_rows rs i none (omega (arith, low)) in (ap suc rest.0, ap (λ (xs : List (List ℕ)). r ∷ xs) rest.1)

-- a checkpoint that was turned to leaves room for a record
ready_turned : (before : Book) (draft : Draft) → draft.rows < 32767 → IsReady (turned before draft)
ready_turned before draft few = record { below = let most = most_two (other_half before.half) in omega (arith, few, most); still = refl; version = refl }

pub turn_ready : {T E : Type 0} (result : Result T E) (before after : Book) → (draft_of before.spare).rows < 32767 → OnOk result (after ≡ turned before (draft_of before.spare)) → OnOk result (IsReady after)
turn_ready (Ok v) before after few book = subst IsReady (sym book) (ready_turned before (draft_of before.spare) few)
turn_ready (Err e) before after few book = tt
