-- What legal histories keep.
use Rattle.std.proofs.Common.{ℕ, ◌≤◌, List, [], ◌∷◌, ◌++◌, map, sym, ap, ◌∙◌, subst}
use Rattle.std.specs.FinMap.{from_entries, get-empty, len}
use Rattle.shelf_file.specs.Contents.{UserEntry as ShelfEntry}
use Rattle.tl1_users.specs.declared.op.UserOp.{UserOp}
use Rattle.user_admin.specs.declared.op.UserChange.{UserChange}
use Rattle.user_admin.specs.declared.op.UserOutcome.{UserOutcome}
use Rattle.user_admin.specs.declared.op.UserOutcome.TheVariants.{Done, Denied, Failed, Answered}
use Rattle.user_admin.specs.declared.op.UserEntry.{UserEntry}
use Rattle.user_admin.specs.Users.{Users, by_name, shelf_user, shelf_users}
use Rattle.user_admin.specs.Changes.{AllFit, Fits, after, effect, most_users}
use Rattle.user_admin.specs.Histories.{IsLegal, IsLegalFrom, MayCome, Opening, change_in, changes_of, users_after}
use Rattle.user_admin.specs.Checkpoints.{rows}
use Rattle.user_admin.specs.Records.{Means}
use Rattle.user_admin.specs.Files.{AreMeant}
use Rattle.user_admin.specs.Laws.{AreNamed, AreShelfUsersNamed, DoRowsStand, DoesRecordStand, HasClassS, IsClassSKeptAlways, IsLimitKeptAlways}
use Rattle.user_admin.proofs.Leading.{after-append, fit_append, rows_lead}
use Rattle.user_admin.proofs.Granted.{class_s_kept, granted_fits, inserted_named, limit_kept, names_kept, none_some}

entries_named : (es : List ShelfEntry) → AreNamed (from_entries (map (λ e. (e.name, shelf_user e)) es))
entries_named [] = λ q u e. absurd (none_some u (sym (get-empty by_name q) ∙ e))
entries_named (e ∷ es) = inserted_named (from_entries (map (λ e. (e.name, shelf_user e)) es)) (shelf_user e) (entries_named es)

pub shelf_users_named : AreShelfUsersNamed
shelf_users_named shelf = entries_named shelf.users

after_named : (cs : List UserChange) (m : Users) → AreNamed m → AreNamed (after cs m)
after_named [] m n = n
after_named (c ∷ cs) m n = after_named cs (effect c m) (names_kept c m n)

after_few : (cs : List UserChange) (m : Users) → AllFit cs m → len m ≤ most_users → len (after cs m) ≤ most_users
after_few [] m f few = few
after_few (c ∷ cs) m f few = after_few cs (effect c m) f.1 (limit_kept c m f.0 few)

-- what one entry keeps
one_named : (o : UserOutcome) (m : Users) → AreNamed m → AreNamed (after (change_in o) m)
one_named o m n = after_named (change_in o) m n

one_s : (sid : List ℕ) (p : UserOp) (o : UserOutcome) (m : Users) → AreNamed m → MayCome sid p m o → HasClassS m → HasClassS (after (change_in o) m)
one_s sid p (Done c) m n g has = class_s_kept sid p m c n g has
one_s sid p (Denied q) m n g has = has
one_s sid p (Failed q) m n g has = has
one_s sid p Answered m n g has = has

one_few : (sid : List ℕ) (p : UserOp) (o : UserOutcome) (m : Users) → AreNamed m → MayCome sid p m o → len m ≤ most_users → len (after (change_in o) m) ≤ most_users
one_few sid p (Done c) m n g few = limit_kept c m (granted_fits sid p m c n g) few
one_few sid p (Denied q) m n g few = few
one_few sid p (Failed q) m n g few = few
one_few sid p Answered m n g few = few

from_s : (sid : List ℕ) (h : List UserEntry) (m : Users) → AreNamed m → IsLegalFrom sid m h → HasClassS m → HasClassS (after (changes_of h) m)
from_s sid [] m n l has = has
from_s sid (e ∷ h) m n l has = subst HasClassS (sym (after-append (change_in e.outcome) (changes_of h) m)) (from_s sid h (after (change_in e.outcome) m) (one_named e.outcome m n) l.1 (one_s sid e.op e.outcome m n l.0 has))

from_few : (sid : List ℕ) (h : List UserEntry) (m : Users) → AreNamed m → IsLegalFrom sid m h → len m ≤ most_users → len (after (changes_of h) m) ≤ most_users
from_few sid [] m n l few = few
from_few sid (e ∷ h) m n l few = subst (λ (k : Users). len k ≤ most_users) (sym (after-append (change_in e.outcome) (changes_of h) m)) (from_few sid h (after (change_in e.outcome) m) (one_named e.outcome m n) l.1 (one_few sid e.op e.outcome m n l.0 few))

opening_named : (o : Opening) (h : List UserEntry) → IsLegal o h → AreNamed o.users
opening_named o h l = subst AreNamed l.opened.2 (after_named l.opened.0 (shelf_users o.shelf) (shelf_users_named o.shelf))

pub users_named : (o : Opening) (h : List UserEntry) → IsLegal o h → AreNamed (users_after o h)
users_named o h l = after_named (changes_of h) o.users (opening_named o h l)

pub class_s_kept_always : IsClassSKeptAlways
class_s_kept_always o h l has = from_s o.shelf.sid h o.users (opening_named o h l) l.entries has

pub limit_kept_always : IsLimitKeptAlways
limit_kept_always o h l few = from_few o.shelf.sid h o.users (opening_named o h l) l.entries (subst (λ (m : Users). len m ≤ most_users) l.opened.2 (after_few l.opened.0 (shelf_users o.shelf) l.opened.1 few))

-- files of records
meant_append : (shelf : Users) (rs : List (List ℕ)) (cs : List UserChange) (bytes : List ℕ) (c : UserChange) → AreMeant shelf rs cs → Means shelf bytes c → AreMeant shelf (rs ++ bytes ∷ []) (cs ++ c ∷ [])
meant_append shelf [] [] bytes c a m = (m, tt)
meant_append shelf [] (d ∷ cs) bytes c a m = absurd a
meant_append shelf (r ∷ rs) [] bytes c a m = absurd a
meant_append shelf (r ∷ rs) (d ∷ cs) bytes c a m = (a.0, meant_append shelf rs cs bytes c a.1 m)

pub record_stands : DoesRecordStand
record_stands shelf users records bytes c f m fits = (
  f.0 ++ c ∷ [],
  meant_append shelf records f.0 bytes c f.1 m,
  fit_append f.0 (c ∷ []) shelf f.2 (subst (Fits c) (sym f.3) fits, tt),
  after-append f.0 (c ∷ []) shelf ∙ ap (effect c) f.3,
)

pub rows_stand : DoRowsStand
rows_stand o h head records file l few stands meant =
    let shelf = shelf_users o.shelf in
    let r = rows_lead shelf (users_after o h) (shelf_users_named o.shelf) (users_named o h l) (limit_kept_always o h l few) in
    record {
      head = head;
      records = records;
      stands = stands;
      folds = (rows shelf (users_after o h), meant, r.0, r.1);
    }
