-- The users' journal while a checkpoint is written, and turned to.
use Rattle.std.proofs.Common.{◌≡◌, ℕ, ◌+◌, ◌≤◌, ◌<◌, true, false, take, append_assoc, List, [], ◌∷◌, ◌++◌, length, map, Option, refl, sym, ◌∙◌, ap, subst, arith}
use Rattle.std.proofs.lemmas.List.{length-append, map-append, map_more}
use Rattle.std.specs.Prelude.{get_or, slice_index, Result, Ok, Err, OnOk, OnErr}
use Rattle.std.specs.FinMap.{len}
use Rattle.dxc_disk.specs.Disks.{DiskState, LeavesOnly}
use Rattle.journal_core.specs.declared.book.Book.{Book}
use Rattle.journal_core.specs.declared.spare.SpareArea.{SpareArea}
use Rattle.journal_core.specs.declared.spare.SpareArea.TheVariants.{Older, Open, Drafted, Tried}
use Rattle.journal_core.specs.declared.spare.Draft.{Draft}
use Rattle.journal_core.specs.Areas.{other_half}
use Rattle.journal_core.specs.Books.{IsReady, draft_of, is_drafted, is_tried, rows, turned}
use Rattle.journal_core.specs.Turns.{Drafts, Turns}
use Rattle.journal_core.proofs.AreaSteps.{most_two}
use Rattle.journal_core.proofs.HeaderSteps.{never}
use Rattle.journal_core.proofs.KeepSteps.{only_weaker}
use Rattle.user_admin.specs.declared.op.UserChange.{UserChange}
use Rattle.user_admin.specs.declared.op.UserChange.TheVariants.{Enter, Edit, Delete}
use Rattle.user_admin.specs.Users.{Users}
use Rattle.user_admin.specs.Changes.{most_users}
use Rattle.user_admin.specs.Checkpoints.{rows as rows_of}
use Rattle.user_admin.specs.Files.{AreMeant, FoldsTo, IsOldOrDoubted}
use Rattle.user_admin.specs.Journals.{IsAtHome}
use Rattle.user_admin.specs.Laws.{AreNamed}
use Rattle.user_admin.specs.Records.{spelling}
use Rattle.user_admin.specs.Spellable.{AllSpellable, AreDescribed, AreSpellable}
use Rattle.user_admin.proofs.Keeping.{doubts_on, home_on, may_called, may_stand}
use Rattle.user_admin.proofs.Leading.{rows_lead}
use Rattle.user_admin.proofs.Readback.{spelling_read}
use Rattle.user_admin.proofs.Spelling.{rows_spellable}

drafted_untried : (spare : SpareArea) → is_drafted spare ≡ true → is_tried spare ≡ false
drafted_untried Older e = refl
drafted_untried Open e = refl
drafted_untried (Drafted d) e = refl
drafted_untried (Tried d) e = absurd (never refl e)

module _ (told : Type 0) (old new : DiskState) (before after : Book) (shelf users : Users) (doubt : Option UserChange) (home : IsAtHome told old before shelf users doubt) (mend : after.to_mend ≡ before.to_mend) where
  -- a step of a checkpoint succeeded
  pub draft_home : {T E : Type 0} (v : T) (lines : List (List ℕ)) → (told → Drafts {T = T} {E = E} old new before after (Ok v) lines) → is_drafted after.spare ≡ true → IsAtHome told new after shelf users doubt
  draft_home v lines drafts drafted = home_on told old new before after shelf users doubt home (λ t. (drafts t).kept) (λ t. (drafts t).same) doubt
      (doubts_on told old new before after shelf users doubt home (λ t. (drafts t).kept) (λ t. (drafts t).same) (λ marked. sym mend ∙ marked) (λ t. (drafts t).doubt))
      (λ t tried. absurd (never (drafted_untried after.spare drafted) tried))

  -- or it failed: a turn that was tried before may be current still
  pub undrafted_home : {T E : Type 0} (e : E) (lines : List (List ℕ)) → (told → Drafts {T = T} {E = E} old new before after (Err e) lines) → IsAtHome told new after shelf users doubt
  undrafted_home e lines drafts = home_on told old new before after shelf users doubt home (λ t. (drafts t).kept) (λ t. (drafts t).same) doubt
      (doubts_on told old new before after shelf users doubt home (λ t. (drafts t).kept) (λ t. (drafts t).same) (λ marked. sym mend ∙ marked) (λ t. (drafts t).doubt))
      (λ t tried. let l = (drafts t).lines tried in subst (λ (w : List (List ℕ)). FoldsTo shelf w users) (sym l.1) (home.tried t (sym (ap is_tried l.0) ∙ tried)))

-- at any moment of a step
pub draft_left : (told : Type 0) (old new : DiskState) (before after : Book) (shelf users : Users) (doubt : Option UserChange) → IsAtHome told old before shelf users doubt → told → {T E : Type 0} (result : Result T E) (lines : List (List ℕ)) → Drafts old new before after result lines
    → LeavesOnly old new (IsOldOrDoubted before.shape shelf users doubt)
draft_left told old new before after shelf users doubt home t result lines drafts = may_called told old before shelf users doubt home t new drafts.any_moment

-- each row means its change
all_meant : (shelf : Users) (cs : List UserChange) → AllSpellable shelf cs → AreMeant shelf (map spelling cs) cs
all_meant shelf [] s = tt
all_meant shelf (c ∷ cs) s = ((spelling_read shelf c c s.0).0, all_meant shelf cs s.1)

-- the rows lead from the shelf's users to these
pub rows_fold : (shelf users : Users) → AreDescribed shelf → AreSpellable shelf users → AreNamed shelf → AreNamed users → len users ≤ most_users → FoldsTo shelf (map spelling (rows_of shelf users)) users
rows_fold shelf users described spellable named users_named few =
    let lead = rows_lead shelf users named users_named few in
    (rows_of shelf users, all_meant shelf (rows_of shelf users) (rows_spellable shelf users described spellable), lead.0, lead.1)

module _ (told : Type 0) (old new : DiskState) (before after : Book) (shelf users : Users) (doubt : Option UserChange) (home : IsAtHome told old before shelf users doubt) (lines : told → FoldsTo shelf (rows before old.reads_as) users) where
  -- it was turned to
  turned_home : {T E : Type 0} (v : T) → (told → Turns {T = T} {E = E} old new before after (Ok v)) → after ≡ turned before (draft_of before.spare) → IsAtHome told new after shelf users doubt
  turned_home v turns book = record {
    kept = λ t. (turns t).kept;
    lists = λ t. subst (λ (w : List (List ℕ)). FoldsTo shelf w users) (sym (turns t).ok.1) (lines t);
    doubts = λ marked. absurd (never (ap (λ (x : Book). x.to_mend) book) marked);
    tried = λ t tried. absurd (never (ap (λ (x : Book). is_tried x.spare) book) tried);
  }

  -- or wasn't, or may have been
  unturned_home : {T E : Type 0} (e : E) → (told → Turns {T = T} {E = E} old new before after (Err e)) → after ≡ record before { spare = after.spare } → IsAtHome told new after shelf users doubt
  unturned_home e turns book = home_on told old new before after shelf users doubt home (λ t. (turns t).kept) (λ t. (turns t).err) doubt
      (doubts_on told old new before after shelf users doubt home (λ t. (turns t).kept) (λ t. (turns t).err) (λ marked. sym (ap (λ (x : Book). x.to_mend) book) ∙ marked) (λ t. (turns t).doubt))
      (λ t tried. let l = (turns t).lines tried in subst (λ (w : List (List ℕ)). FoldsTo shelf w users) (sym l.1) (lines t))

  pub turn_home : {T E : Type 0} (result : Result T E) → (told → Turns old new before after result) → OnOk result (after ≡ turned before (draft_of before.spare)) → OnErr result (after ≡ record before { spare = after.spare }) → IsAtHome told new after shelf users doubt
  turn_home (Ok v) turns ok err = turned_home v turns ok
  turn_home (Err e) turns ok err = unturned_home e turns err

  -- at any moment of the turn
  pub turn_left : told → {T E : Type 0} (result : Result T E) → Turns old new before after result → LeavesOnly old new (IsOldOrDoubted before.shape shelf users doubt)
  turn_left t result turns =
      let come : Book = record before { spare = Tried (draft_of before.spare) } in
      only_weaker old new _ (IsOldOrDoubted before.shape shelf users doubt)
      (may_stand told old come shelf users doubt t (home.lists t)
      (λ marked. let d = home.doubts marked in record { change = d.change; asked = d.asked; fits = d.fits; reads = d.reads })
      (λ _. lines t))
      turns.any_moment

-- each record is sealed
pub row_sealed : (c : UserChange) → slice_index (spelling c) 0 ≡ 165
row_sealed (Enter u) = refl
row_sealed (Edit u) = refl
row_sealed (Delete name) = refl

-- a draft, by its rows
drafted_as : (spare : SpareArea) → is_drafted spare ≡ true → spare ≡ Drafted (draft_of spare)
drafted_as Older e = absurd (never refl e)
drafted_as Open e = absurd (never refl e)
drafted_as (Drafted d) e = refl
drafted_as (Tried d) e = absurd (never refl e)

pub draft_begun : (book : Book) → is_drafted book.spare ≡ true → book ≡ record book { spare = Drafted (record { equipped = (draft_of book.spare).equipped; rows = (draft_of book.spare).rows + 0 }) }
draft_begun book drafted =
    let d = draft_of book.spare in
    let e : d.rows ≡ d.rows + 0 = omega arith in
    (λ i. record book { spare = drafted_as book.spare drafted i }) ∙ ap (λ (n : ℕ). record book { spare = Drafted (record { equipped = d.equipped; rows = n }) }) e

-- so many rows, and the next one
pub rows_more : (lines start : List (List ℕ)) (cs : List UserChange) (i : ℕ) (d : UserChange) → i < length cs → lines ≡ start ++ map spelling (take i cs) → lines ++ spelling (get_or cs i d) ∷ [] ≡ start ++ map spelling (take (i + 1) cs)
rows_more lines start cs i d low is =
    ap (λ (xs : List (List ℕ)). xs ++ spelling (get_or cs i d) ∷ []) is
    ∙ append_assoc start (map spelling (take i cs)) (spelling (get_or cs i d) ∷ [])
    ∙ ap (λ (xs : List (List ℕ)). start ++ xs) (sym (map_more spelling cs i d low))

-- a checkpoint that was turned to leaves room for a record
ready_turned : (before : Book) (draft : Draft) → draft.rows < 32767 → IsReady (turned before draft)
ready_turned before draft few = record { below = let most = most_two (other_half before.half) in omega (arith, few, most); still = refl; version = refl }

pub turn_ready : {T E : Type 0} (result : Result T E) (before after : Book) → (draft_of before.spare).rows < 32767 → OnOk result (after ≡ turned before (draft_of before.spare)) → OnOk result (IsReady after)
turn_ready (Ok v) before after few book = subst IsReady (sym book) (ready_turned before (draft_of before.spare) few)
turn_ready (Err e) before after few book = tt

-- a turn to a draft that names the modules of the header before, or one that failed
pub turn_equipped : {T E : Type 0} (result : Result T E) (before after : Book) (equipped : ℕ) → before.head.equipped ≡ equipped → (draft_of before.spare).equipped ≡ equipped → OnOk result (after ≡ turned before (draft_of before.spare))
    → OnErr result (after ≡ record before { spare = after.spare }) → after.head.equipped ≡ equipped
turn_equipped (Ok v) before after equipped old drafted ok err = ap (λ (x : Book). x.head.equipped) ok ∙ drafted
turn_equipped (Err e) before after equipped old drafted ok err = ap (λ (x : Book). x.head.equipped) err ∙ old

-- both hold where it is Ok
pub both_ok : {T E : Type 0} (P Q : Type 0) (result : Result T E) → OnOk result P → Q → OnOk result (P × Q)
both_ok P Q (Ok v) p q = (p, q)
both_ok P Q (Err e) p q = tt

pub on_ok : {T E P : Type 0} (result : Result T E) → P → OnOk result P
on_ok (Ok v) p = p
on_ok (Err e) p = tt

-- a draft with so many rows more
abbrev pub added : Book → ℕ → Book
added book n = record book { spare = Drafted (record { equipped = (draft_of book.spare).equipped; rows = (draft_of book.spare).rows + n }) }

-- Three groups of rows were added to a draft of none, the last of them if it went well.
module _ (old one two three : Book) (ds bs cs : List UserChange) (first : one ≡ added old (length ds)) (second : two ≡ added one (length bs)) where
  pub added_all : {T E : Type 0} (result : Result T E) → (draft_of old.spare).rows ≡ 0 → OnOk result (three ≡ added two (length cs))
      → OnOk result (three ≡ record old { spare = Drafted (record { equipped = (draft_of old.spare).equipped; rows = length (ds ++ (bs ++ cs)) }) })
  added_all (Ok v) none third =
      let d = draft_of old.spare in
      let outer = length-append ds (bs ++ cs) in
      let inner = length-append bs cs in
      let all : d.rows + length ds + length bs + length cs ≡ length (ds ++ (bs ++ cs)) = omega (arith, none, outer, inner) in
      third ∙ ap (λ (x : Book). added x (length cs)) (second ∙ ap (λ (x : Book). added x (length bs)) first) ∙ ap (λ (n : ℕ). record old { spare = Drafted (record { equipped = d.equipped; rows = n }) }) all
  added_all (Err e) none third = tt

  pub given_up : {T E : Type 0} (result : Result T E) → OnErr result (three ≡ record two { spare = Open }) → OnErr result (three ≡ record old { spare = Open })
  given_up (Ok v) third = tt
  given_up (Err e) third = third ∙ ap (λ (x : Book). record x { spare = Open }) (second ∙ ap (λ (x : Book). added x (length bs)) first)

-- and these are the rows
pub rows_all : {T E : Type 0} (result : Result T E) (l one two three : List (List ℕ)) (ds bs cs : List UserChange) → l ≡ [] → one ≡ l ++ map spelling ds → two ≡ one ++ map spelling bs → OnOk result (three ≡ two ++ map spelling cs) → OnOk result (three ≡ map spelling (ds ++ (bs ++ cs)))
rows_all (Ok v) l one two three ds bs cs none first second third =
    third ∙ (ap (λ (xs : List (List ℕ)). xs ++ map spelling cs) (second ∙ ap (λ (xs : List (List ℕ)). xs ++ map spelling bs) (first ∙ ap (λ (xs : List (List ℕ)). xs ++ map spelling ds) none))
    ∙ (append_assoc (map spelling ds) (map spelling bs) (map spelling cs)
    ∙ sym (map-append spelling ds (bs ++ cs) ∙ ap (λ (xs : List (List ℕ)). map spelling ds ++ xs) (map-append spelling bs cs))))
rows_all (Err e) l one two three ds bs cs none first second third = tt

pub few_rows : (ds bs cs : List UserChange) → length ds ≤ 64 → length bs ≤ 64 → length cs ≤ 64 → length (ds ++ (bs ++ cs)) ≤ 192
few_rows ds bs cs a b c = let outer = length-append ds (bs ++ cs) in let inner = length-append bs cs in omega (arith, a, b, c, outer, inner)
