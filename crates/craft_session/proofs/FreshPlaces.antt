-- Passes of a new turnstile, and places that have seen nothing.
use Rattle.std.proofs.Common.{◌≡◌, ◌<◌, ◌+◌, ℕ, Bool, suc, arith, true, List, [], ◌∷◌, ◌++◌, length, take, drop, slice_index_or, Some, refl, sym, ◌∙◌, ap, subst}
use Rattle.std.specs.List.{slice_get}
use Rattle.dxc_disk.specs.Disks.{DiskState}
use Rattle.fabric_words.specs.Seats.{FabricId}
use Rattle.shelf_file.specs.Contents.{Contents}
use Rattle.turnstile.specs.Passing.{ArePasses, TurnstileView, Ident, Token}
use Rattle.xc_core.specs.declared.state.State.{State}
use Rattle.xc_core.specs.States.{Opening, began, opening_of}
use Rattle.xc_core.proofs.Began.{began_rests, saw_nothing}
use Rattle.xc_core.specs.Turns.{AreNumbered, SawNoneAstray}
use Rattle.user_admin.proofs.Resting.{nothing_rests}
use Rattle.user_admin.specs.declared.shared.SharedUsers.{SharedUsers}
use Rattle.user_admin.specs.Histories.{Opening as UsersOpening}
use Rattle.user_admin.specs.Shared.{SharedStands as UsersStand, opening_at as users_opening}
use Rattle.user_admin.specs.Turns.{AreNumbered as AreUsersNumbered, Saw as SawUsers}
use Rattle.craft_session.specs.Seats.{IsSeated, IsUserSeated, PlaceAt}
use Rattle.xc_recovery.proofs.LastWorks.{comes_shape}
use Rattle.xc_core.specs.Openings.{Opens as OpensFile}
use Rattle.craft_session.specs.Places.{AreFresh, ArePlaces, HasPlaces, IsAtOpening, IsLonePlace, Turnstiles, fresh_pass, place_at}

-- what a file opens is on the fabric that it was made on, and of the shelf's shape
pub at_opening : (told : Type 0) {due : Bool} {number : ℕ} (file : List ℕ) (s : Contents) (i : FabricId) (o : Opening) → OpensFile told file s i due number o → IsAtOpening o s i
at_opening told file s i o is = record { fabric = is.fabric_is; shape = (comes_shape s.shape is.folded.head is.folded.read o.first.fold.table o.first.fold.colours o.first.fold.work is.folded.comes).0 }

abbrev fresh : Ident → ℕ → Token
fresh id n = record { number = n; free = true; id = id; seen = []; stamps = []; heard = 0 }

fresh_from : (id : Ident) (n : ℕ) (ps : List Token) → ((k : ℕ) (p : Token) → slice_get ps k ≡ Some p → p ≡ fresh id (n + k)) → AreFresh id n ps
fresh_from id n [] f = tt
fresh_from id n (x ∷ xs) f =
    let first : n + 0 ≡ n = omega arith in
    (f 0 x refl ∙ ap (fresh id) first, fresh_from id (n + 1) xs (λ k p e. f (suc k) p e ∙ ap (fresh id) (omega arith)))

-- the passes of a turnstile are fresh, from number 0 on
pub all_fresh : (id : Ident) (passes : ℕ) (ps : List Token) → ArePasses id passes ps → AreFresh id 0 ps
all_fresh id passes ps are = fresh_from id 0 ps (λ k p e. let same : k ≡ 0 + k = omega arith in are.1 k p e ∙ ap (fresh id) same)

-- the first of them, and those after it
pub next_fresh : (id : Ident) (n : ℕ) (ps rest : List Token) (p d : Token) → AreFresh id n ps → 0 < length ps → p ≡ slice_index_or ps 0 d → rest ≡ take 0 ps ++ drop 1 ps → (p ≡ fresh_pass id n) × AreFresh id (n + 1) rest
next_fresh id n [] rest p d all some is more = absurd (omega arith)
next_fresh id n (q ∷ ps) rest p d all some is more = (is ∙ all.0, subst (λ (l : List Token). AreFresh id (n + 1) l) (sym more) all.1)

-- one place more after them
pub places_more : (s : Contents) (o : Opening) (u : UsersOpening) (t : Turnstiles) (n : ℕ) (ps : List PlaceAt) (p : PlaceAt) → ArePlaces s o u t n ps → p ≡ place_at s o u t (n + length ps) → ArePlaces s o u t n (ps ++ p ∷ [])
places_more s o u t n [] p all is = let same : n + 0 ≡ n = omega arith in (is ∙ ap (place_at s o u t) same, tt)
places_more s o u t n (x ∷ xs) p all is = let same : n + suc (length xs) ≡ n + 1 + length xs = omega arith in (all.0, places_more s o u t (n + 1) xs p all.1 (is ∙ ap (place_at s o u t) same))

-- the first of the places
pub first_place : (s : Contents) (o : Opening) (u : UsersOpening) (t : Turnstiles) (ps : List PlaceAt) (d : PlaceAt) → ArePlaces s o u t 0 ps → 0 < length ps → slice_index_or ps 0 d ≡ place_at s o u t 0
first_place s o u t [] d all some = absurd (omega arith)
first_place s o u t (p ∷ ps) d all some = all.0

-- the one place that there is
pub lone : (s : Contents) (o : Opening) (u : UsersOpening) (ps : List PlaceAt) (d : PlaceAt) → HasPlaces s o u 1 ps → 0 < length ps → IsLonePlace s o u (slice_index_or ps 0 d)
lone s o u ps d has some = record { turnstiles = has.turnstiles; count = has.count; place = first_place s o u has.turnstiles ps d has.each some }

-- who has seen nothing has seen no number
none_numbered : (passes : ℕ) → AreNumbered passes []
none_numbered passes [] is = tt
none_numbered passes (e ∷ h) is = cc

-- nor an operation that failed
none_astray : (told : Type 0) → SawNoneAstray told []
none_astray told t [] is = tt
none_astray told t (e ∷ h) is = cc

module _ {D : Type 0} (told : Type 0) (state : D → DiskState) where
  -- a fresh pass is seated at such a state
  pub seated : (p : Token) (t : TurnstileView (State D)) (i : FabricId) (n : ℕ) → p ≡ fresh t.id n → n < t.passes → (opening_of state t.first).site.fabric ≡ i → IsSeated told state p t i
  seated p t i n is within fabric =
      let o = opening_of state t.first in
      subst (λ (q : Token). IsSeated told state q t i) (sym is) ((refl, refl, within, none_numbered t.passes, refl), fabric, (began o.due ++ [], saw_nothing o, began_rests o.due n), none_astray told)

-- and so is one at such a state of the users
users_numbered : (passes : ℕ) → AreUsersNumbered passes []
users_numbered passes [] is = tt
users_numbered passes (e ∷ h) is = cc

pub users_seated : {U : Type 0} (told : Type 0) (state : U → DiskState) (p : Token) (t : TurnstileView (SharedUsers U)) (n : ℕ) → p ≡ fresh t.id n → n < t.passes → UsersStand told state t.first [] → IsUserSeated state p t
users_seated {U} told state p t n is within b =
    let saw : SawUsers (users_opening state t.first) [] [] = record { marks = []; codes_are = refl; entries_are = refl; history = record { legal = b.legal; paid = b.paid } } in
    subst (λ (q : Token). IsUserSeated state q t) (sym is) ((refl, refl, within, users_numbered t.passes, refl), ([], saw), nothing_rests n)
