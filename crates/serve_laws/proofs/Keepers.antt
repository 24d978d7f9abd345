-- A place that rests at the users does so after each of its sessions, and after all of them nobody has the keeper.
use Rattle.std.proofs.Common.{◌≡◌, ◌<◌, ⊎_elim, ℕ, List, [], ◌∷◌, Option, Some, None, Box, refl, sym, ◌∙◌, subst}
use Rattle.std.specs.declared.alloc.Global.{Global}
use Rattle.turnstile.specs.Laws.{HasSeen}
use Rattle.turnstile.specs.Turning.{Each}
use Rattle.std.proofs.lemmas.Option.{IfSome_then}
use Rattle.dxc_disk.specs.Disks.{DiskState, IsSynced}
use Rattle.user_admin.specs.declared.op.UserMark.{UserMark}
use Rattle.user_admin.specs.declared.op.UserMark.TheVariants.{Entered, Took}
use Rattle.user_admin.specs.declared.op.UserOutcome.{UserOutcome}
use Rattle.user_admin.specs.declared.op.UserOutcome.TheVariants.{Done, Denied, Failed, Answered}
use Rattle.user_admin.specs.declared.shared.SharedUsers.{SharedUsers}
use Rattle.user_admin.specs.declared.state.UserState.{UserState}
use Rattle.user_admin.specs.Coding.{mark_coded}
use Rattle.user_admin.specs.Histories.{Opening}
use Rattle.user_admin.specs.Marks.{entries_of, holder, holder_by, place_of}
use Rattle.user_admin.specs.Operations.{IsFileOf}
use Rattle.user_admin.specs.Resting.{Rests, SawRest}
use Rattle.user_admin.specs.Shared.{KeeperIs, SharedFor}
use Rattle.user_admin.proofs.Resting.{rests_behind}
use Rattle.craft_session.specs.Seats.{UserSeatAt}
use Rattle.craft_server.specs.Callers.{InTurn, none_yet, one_more}
use Rattle.standby_link.specs.Laws.{named}
use Rattle.serve_laws.specs.Keepers.{IsKeeperHome}
use Rattle.serve_laws.proofs.Standbys.{StandbyLaws}

-- so it is of the place at the users
abbrev pub RestsThere : UserSeatAt → Type 0
RestsThere s = SawRest s.place s.seen

-- after several sessions, each of which leaves it so
pub rested_users : {S K : Type 0} (Step : S → S → K → Type 0) (seat : S → UserSeatAt) → ((t u : S) (k : K) → Step t u k → RestsThere (seat u)) → (s u : S) (ks : List K) → InTurn Step s ks u → RestsThere (seat s) → RestsThere (seat u)
rested_users Step seat leaves _ _ _ (none_yet s) r = r
rested_users Step seat leaves _ _ _ (one_more s t u ks k turns x) r = leaves t u k x

pub same_place : {S K : Type 0} (Step : S → S → K → Type 0) (seat : S → UserSeatAt) → ((t u : S) (k : K) → Step t u k → (seat u).place ≡ (seat t).place) → (s u : S) (ks : List K) → InTurn Step s ks u → (seat u).place ≡ (seat s).place
same_place Step seat same _ _ _ (none_yet s) = refl
same_place Step seat same _ _ _ (one_more s t u ks k turns x) = same t u k x ∙ same_place Step seat same s t ks turns

-- what follows is by others, so it rests by all that turns left
pub users_rest_along : (own : ℕ) (s : UserSeatAt) → s.place ≡ own → RestsThere s → (left : List UserMark) → HasSeen mark_coded.code place_of left own s.seen → Rests own left
users_rest_along own s at rests left seen =
    let begun : Rests own seen.begun = subst (λ (n : ℕ). Rests n seen.begun) at (rests seen.begun seen.codes) in
    subst (λ (ms : List UserMark). Rests own ms) seen.whole (rests_behind own seen.begun seen.later begun seen.others)

module _ (P : ℕ → Type 0) where
  by_each : (who : Option ℕ) (out : UserOutcome) → ((n : ℕ) → who ≡ Some n → P n) → (n : ℕ) → holder_by who out ≡ Some n → P n
  by_each who (Done c) first n is = absurd (let none : None ≡ Some n = is in cc)
  by_each who (Denied q) first n is = first n is
  by_each who (Failed q) first n is = absurd (let none : None ≡ Some n = is in cc)
  by_each who Answered first n is = first n is

  -- who has the keeper is of one of the places
  keeper_each : (who : Option ℕ) (ms : List UserMark) → ((n : ℕ) → who ≡ Some n → P n) → Each (λ m. P (place_of m)) ms → (n : ℕ) → holder who ms ≡ Some n → P n
  keeper_each who [] first all n is = first n is
  keeper_each who (Took k ∷ ms) first all n is = keeper_each (Some k) ms (λ j e. let same : k ≡ j = cc in subst P same all.0) all.1 n is
  keeper_each who (Entered k op out ∷ ms) first all n is = keeper_each (holder_by who out) ms (by_each who out first) all.1 n is

-- where each place rests nobody has it
pub nobody_keeps : (n : ℕ) (ms : List UserMark) → Each (λ m. place_of m < n) ms → ((k : ℕ) → k < n → Rests k ms) → holder None ms ≡ None
nobody_keeps n ms few rests = held (holder None ms) refl
  where
    held : (who : Option ℕ) → holder None ms ≡ who → who ≡ None
    held None is = refl
    held (Some k) is = absurd (rests k (keeper_each (λ j. j < n) None ms (λ j none. absurd (let no : None ≡ Some j = none in cc)) few k is) is)

module _ {D : Type 0} (told : Type 0) (state : D → DiskState) (laws : StandbyLaws told state) (o : Opening) (ms : List UserMark) (nobody : holder None ms ≡ None) where
  keeper_by : (k : Option (Box (UserState D) Global)) → KeeperIs told state o ms k → IsKeeperHome told state o ms k
  keeper_by (Some k) x = record {
    users = k;
    is = refl;
    stands = x.1;
    crashes = λ t n file few left_since. laws.users_crashes t o (entries_of ms) k.value x.1 n file few left_since;
    standby = λ t pair by within keeps along. laws.users t o (entries_of ms) k.value x.1 pair by within keeps along;
    joined = λ t certain pair line by keeps mirrors none.
        let d = k.value.journal.0 in
        let h = entries_of ms in
        let synced : IsSynced (state d) = ⊎_elim (λ s. s) (λ doubt. absurd (certain doubt.0 doubt.1)) (x.1.read t).synced in
        let reads : IsFileOf o h (state d).reads_as = ⊎_elim (λ r. r) (λ doubt. absurd (certain doubt.0.0 doubt.0.1)) (x.1.reads t) in
        IfSome_then (named pair.standby) {P = λ (file : List ℕ). file ≡ (state d).reads_as} {Q = IsFileOf o h}
        (laws.current d pair keeps (laws.joined t d line pair.primary by mirrors none synced))
        (λ file is. subst (IsFileOf o h) (sym is) reads);
  }
  keeper_by None x = absurd (let no : None ≡ Some x.0 = sym nobody ∙ x.1 in cc)

  pub keeper_home : (s : SharedUsers D) → SharedFor told state o s ms → IsKeeperHome told state o ms s.keeper
  keeper_home s x = keeper_by s.keeper x.keeper
