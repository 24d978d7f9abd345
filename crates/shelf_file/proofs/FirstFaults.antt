-- The first fault of a file.
use Rattle.std.proofs.Common.{◌≡◌, ℕ, ◌<◌, ◌≤◌, ◌^◌, List, [], ◌∷◌, Option, Some, None, Ok, Err, inl, inr, refl, sym, ap, subst, ◌∙◌}
use Rattle.std.specs.Prelude.{◌⊎◌, length, IsUtf8, option_map, codes, Result, MatchResult}
use Rattle.toml.specs.Data.{Data, Members, get_member}
use Rattle.toml.specs.Parse.{parse_document}
use Rattle.dxc_num.specs.Dimensions.{Dimensions}
use Rattle.shelf_file.specs.declared.fault.ShelfKey.TheVariants as keys
use Rattle.shelf_file.specs.declared.fault.ShelfFault.{ShelfFault}
use Rattle.shelf_file.specs.declared.fault.ShelfFault.TheVariants.{NotToml, NoMemory}
use Rattle.shelf_file.specs.declared.idle.IdleLimits.{IdleLimits}
use Rattle.shelf_file.specs.Keys.{sid_of, modules_of, slots_of, equipped_of, idle_of, idle_named, users_of, value_at}
use Rattle.shelf_file.specs.Checks.{fault_of, fault_at, fault_if_there, modules_or_none, module_count, users_or_none, users_at, users_checks, checks, first_some, first_fault, IsDocument, IsFirstFault, most_bytes}
use Rattle.shelf_file.specs.Checks.IsFirstFault.{no_memory, not_toml, found}
use Rattle.shelf_file.specs.Contents.{UserEntry, Contents, AreUsers, AreMarked, named_in, Describes, IsShelf}
use Rattle.shelf_file.specs.Users.{IsFaultOf}
use Rattle.shelf_file.proofs.Faults.{first_stays, first_skips, first_takes, no_fault}

-- what the reader refuses, but for memory, is no document
pub read_fault : (bytes : List ℕ) (f : ShelfFault) (M : Type 0) → length bytes ≤ most_bytes → (f ≡ NoMemory) ⊎ ((f ≡ NotToml) × ¬ M) → (¬ M → IsUtf8 bytes → parse_document bytes ≡ None) → IsFirstFault bytes f
read_fault bytes f M l (inl e) r = subst (IsFirstFault bytes) (sym e) no_memory
read_fault bytes f M l (inr e) r = subst (IsFirstFault bytes) (sym e.0) (not_toml l (λ t d. (let n = sym (r e.1 d.0) ∙ d.1 in cc)))

-- the top keys so far are read rightly
pub record TopRead (t : Members) (sid : List ℕ) (d : Dimensions) : Type 0 where
  pub sid_is : value_at (codes "sid") sid_of t ≡ Some sid
  pub modules_is : value_at (codes "modules") modules_of t ≡ Some d.modules
  pub slots_is : value_at (codes "slots") slots_of t ≡ Some d.slots

count_is : (t : Members) (sid : List ℕ) (d : Dimensions) → TopRead t sid d → module_count t ≡ d.modules
count_is t sid d r = ap modules_or_none r.modules_is

pub sid_fault : (t : Members) (f : ShelfFault) → fault_at keys.Sid 0 (codes "sid") sid_of t ≡ Some f → IsFaultOf (checks t) f
sid_fault t f e = inr (first_takes (fault_at keys.Sid 0 (codes "sid") sid_of t) _ f e)

pub shape_fault : (t : Members) (sid : List ℕ) (f : ShelfFault) → value_at (codes "sid") sid_of t ≡ Some sid → first_some (fault_at keys.Modules 0 (codes "modules") modules_of t ∷ (fault_at keys.Slots 0 (codes "slots") slots_of t ∷ [])) ≡ Some f → IsFaultOf (checks t) f
shape_fault t sid f s e = inr (first_skips (fault_at keys.Sid 0 (codes "sid") sid_of t) _ (Some f) (no_fault keys.Sid 0 (get_member (codes "sid") t) sid_of sid s)
    (first_stays (fault_at keys.Modules 0 (codes "modules") modules_of t ∷ (fault_at keys.Slots 0 (codes "slots") slots_of t ∷ [])) _ f e))

-- what comes after the first three checks
pub behind_shape : (t : Members) (sid : List ℕ) (d : Dimensions) (o : Option ShelfFault) → TopRead t sid d
    → first_some (fault_if_there keys.Equipped 0 (option_map (equipped_of (module_count t)) (get_member (codes "equipped") t)) ∷ (fault_if_there keys.Idle 0 (option_map idle_of (get_member (codes "idle") t)) ∷ (fault_at keys.User 0 (codes "user") users_of t ∷ users_checks (users_at t)))) ≡ o → first_fault t ≡ o
behind_shape t sid d o r e =
    first_skips (fault_at keys.Sid 0 (codes "sid") sid_of t) _ o (no_fault keys.Sid 0 (get_member (codes "sid") t) sid_of sid r.sid_is)
    (first_skips (fault_at keys.Modules 0 (codes "modules") modules_of t) _ o (no_fault keys.Modules 0 (get_member (codes "modules") t) modules_of d.modules r.modules_is)
    (first_skips (fault_at keys.Slots 0 (codes "slots") slots_of t) _ o (no_fault keys.Slots 0 (get_member (codes "slots") t) slots_of d.slots r.slots_is) e))

pub equipped_fault : (t : Members) (sid : List ℕ) (d : Dimensions) (f : ShelfFault) → TopRead t sid d → fault_if_there keys.Equipped 0 (option_map (equipped_of d.modules) (get_member (codes "equipped") t)) ≡ Some f → IsFaultOf (checks t) f
equipped_fault t sid d f r e = inr (behind_shape t sid d (Some f) r (first_takes _ _ f (ap (λ m. fault_if_there keys.Equipped 0 (option_map (equipped_of m) (get_member (codes "equipped") t))) (count_is t sid d r) ∙ e)))

no_fault_if_there : (m : ℕ) (o : Option Data) (ns : List ℕ) → named_in m o ≡ Some ns → fault_if_there keys.Equipped 0 (option_map (equipped_of m) o) ≡ None
no_fault_if_there m None ns e = refl
no_fault_if_there m (Some d) ns e = ap (λ (r : Option (List ℕ)). fault_of keys.Equipped 0 (Some r)) e

pub behind_equipped : (t : Members) (sid : List ℕ) (d : Dimensions) (bits : ℕ) (o : Option ShelfFault) → TopRead t sid d → AreMarked d.modules bits (named_in d.modules (get_member (codes "equipped") t))
    → first_some (fault_if_there keys.Idle 0 (option_map idle_of (get_member (codes "idle") t)) ∷ (fault_at keys.User 0 (codes "user") users_of t ∷ users_checks (users_at t))) ≡ o → first_fault t ≡ o
behind_equipped t sid d bits o r a e = behind_shape t sid d o r (first_skips _ _ o
    (ap (λ m. fault_if_there keys.Equipped 0 (option_map (equipped_of m) (get_member (codes "equipped") t))) (count_is t sid d r) ∙ no_fault_if_there d.modules (get_member (codes "equipped") t) a.0 a.1) e)

pub idle_fault : (t : Members) (sid : List ℕ) (d : Dimensions) (bits : ℕ) (f : ShelfFault) → TopRead t sid d → AreMarked d.modules bits (named_in d.modules (get_member (codes "equipped") t))
    → fault_if_there keys.Idle 0 (option_map idle_of (get_member (codes "idle") t)) ≡ Some f → IsFaultOf (checks t) f
idle_fault t sid d bits f r a e = inr (behind_equipped t sid d bits (Some f) r a (first_takes _ _ f e))

no_idle_fault : (o : Option Data) (i : IdleLimits) → idle_named o ≡ Some i → fault_if_there keys.Idle 0 (option_map idle_of o) ≡ None
no_idle_fault None i e = refl
no_idle_fault (Some d) i e = ap (λ (r : Option IdleLimits). fault_of keys.Idle 0 (Some r)) e

pub behind_idle : (t : Members) (sid : List ℕ) (d : Dimensions) (bits : ℕ) (i : IdleLimits) (o : Option ShelfFault) → TopRead t sid d → AreMarked d.modules bits (named_in d.modules (get_member (codes "equipped") t)) → idle_named (get_member (codes "idle") t) ≡ Some i
    → first_some (fault_at keys.User 0 (codes "user") users_of t ∷ users_checks (users_at t)) ≡ o → first_fault t ≡ o
behind_idle t sid d bits i o r a n e = behind_equipped t sid d bits o r a (first_skips _ _ o (no_idle_fault (get_member (codes "idle") t) i n) e)

pub list_fault : (t : Members) (sid : List ℕ) (d : Dimensions) (bits : ℕ) (i : IdleLimits) (f : ShelfFault) → TopRead t sid d → AreMarked d.modules bits (named_in d.modules (get_member (codes "equipped") t)) → idle_named (get_member (codes "idle") t) ≡ Some i
    → fault_at keys.User 0 (codes "user") users_of t ≡ Some f → IsFaultOf (checks t) f
list_fault t sid d bits i f r a n e = inr (behind_idle t sid d bits i (Some f) r a n (first_takes _ _ f e))

pub behind_list : (t : Members) (sid : List ℕ) (d : Dimensions) (bits : ℕ) (i : IdleLimits) (us : List Members) (o : Option ShelfFault) → TopRead t sid d → AreMarked d.modules bits (named_in d.modules (get_member (codes "equipped") t)) → idle_named (get_member (codes "idle") t) ≡ Some i
    → value_at (codes "user") users_of t ≡ Some us → first_some (users_checks us) ≡ o → first_fault t ≡ o
behind_list t sid d bits i us o r a n u e = behind_idle t sid d bits i o r a n (first_skips _ _ o (no_fault keys.User 0 (get_member (codes "user") t) users_of us u) (ap (λ (m : Option (List Members)). first_some (users_checks (users_or_none m))) u ∙ e))

pub users_fault : (t : Members) (sid : List ℕ) (d : Dimensions) (bits : ℕ) (i : IdleLimits) (us : List Members) (f : ShelfFault) → TopRead t sid d → AreMarked d.modules bits (named_in d.modules (get_member (codes "equipped") t)) → idle_named (get_member (codes "idle") t) ≡ Some i
    → value_at (codes "user") users_of t ≡ Some us → IsFaultOf (users_checks us) f → IsFaultOf (checks t) f
users_fault t sid d bits i us f r a n u (inl e) = inl e
users_fault t sid d bits i us f r a n u (inr e) = inr (behind_list t sid d bits i us (Some f) r a n u e)

pub described : (t : Members) (sid : List ℕ) (d : Dimensions) (bits : ℕ) (i : IdleLimits) (us : List Members) (es : List UserEntry) → TopRead t sid d → bits < 2 ^ d.modules → AreMarked d.modules bits (named_in d.modules (get_member (codes "equipped") t)) → idle_named (get_member (codes "idle") t) ≡ Some i
    → value_at (codes "user") users_of t ≡ Some us → AreUsers us es → first_some (users_checks us) ≡ None → Describes t (record { sid = sid; shape = d; equipped = bits; idle = i; users = es })
described t sid d bits i us es r l a n u w m = record {
  sid = r.sid_is;
  modules = r.modules_is;
  slots = r.slots_is;
  equipment = l;
  equipped = a;
  idle = n;
  users = (us, u, w);
  faultless = behind_list t sid d bits i us None r a n u m;
}

-- a fault of the checks is the file's first
pub check_fault : (bytes : List ℕ) (t : Members) (f : ShelfFault) → length bytes ≤ most_bytes → IsDocument bytes t → IsFaultOf (checks t) f → IsFirstFault bytes f
check_fault bytes t f l d (inl e) = subst (IsFirstFault bytes) (sym e) no_memory
check_fault bytes t f l d (inr e) = found t f l d e

pub checked : (bytes : List ℕ) (t : Members) (r : Result Contents ShelfFault) → length bytes ≤ most_bytes → IsDocument bytes t → MatchResult r (Describes t) (IsFaultOf (checks t)) → MatchResult r (IsShelf bytes) (IsFirstFault bytes)
checked bytes t (Ok c) l d m = (l, (t, d, m))
checked bytes t (Err f) l d m = check_fault bytes t f l d m
