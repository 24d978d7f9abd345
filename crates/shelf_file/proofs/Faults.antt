-- The first fault of some checks.
use Rattle.std.proofs.Common.{◌≡◌, ℕ, Bool, true, false, ◌||◌, List, [], ◌∷◌, ◌++◌, Option, Some, None, inr, refl, ap, ◌∙◌, cond}
use Rattle.std.specs.Prelude.{option_map, option_and_then, codes}
use Rattle.std.specs.List.{list_any}
use Rattle.std.specs.Str.{bytes_eq}
use Rattle.toml.specs.Data.{Data, Members, get_member}
use Rattle.shelf_file.specs.declared.fault.ShelfKey.{ShelfKey}
use Rattle.shelf_file.specs.declared.fault.ShelfKey.TheVariants as keys
use Rattle.shelf_file.specs.declared.fault.ShelfFault.{ShelfFault}
use Rattle.shelf_file.specs.declared.fault.ShelfFault.TheVariants.{TwoUsers}
use Rattle.shelf_file.specs.Keys.{uid_of, class_of, salt_of, digest_of, value_at}
use Rattle.shelf_file.specs.Checks.{fault_of, key_checks, is_taken, name_check, checks_of, first_some}
use Rattle.shelf_file.specs.Contents.{UserEntry, IsUser}
use Rattle.shelf_file.specs.Users.{IsFaultOf}

pub first_after : {X : Type 0} (xs ys : List (Option X)) → first_some xs ≡ None → first_some (xs ++ ys) ≡ first_some ys
first_after [] ys e = refl
first_after (None ∷ xs) ys e = first_after xs ys e
first_after (Some x ∷ xs) ys e = cc

pub first_stays : {X : Type 0} (xs ys : List (Option X)) (f : X) → first_some xs ≡ Some f → first_some (xs ++ ys) ≡ Some f
first_stays [] ys f e = cc
first_stays (None ∷ xs) ys f e = first_stays xs ys f e
first_stays (Some x ∷ xs) ys f e = e

pub first_skips : {X : Type 0} (a : Option X) (xs : List (Option X)) (o : Option X) → a ≡ None → first_some xs ≡ o → first_some (a ∷ xs) ≡ o
first_skips None xs o e f = f
first_skips (Some x) xs o e f = cc

pub first_takes : {X : Type 0} (a : Option X) (xs : List (Option X)) (f : X) → a ≡ Some f → first_some (a ∷ xs) ≡ Some f
first_takes None xs f e = cc
first_takes (Some x) xs f e = e

-- a value that is read rightly is no fault
pub no_fault : {X : Type 0} (key : ShelfKey) (user : ℕ) (o : Option Data) (read : Data → Option X) (x : X) → option_and_then read o ≡ Some x → fault_of key user (option_map read o) ≡ None
no_fault key user None read x e = cc
no_fault {X} key user (Some d) read x e = ap (λ (r : Option X). fault_of key user (Some r)) e

-- where a table describes a user its keys have no fault
pub keys_pass : (n : ℕ) (u : Members) (e : UserEntry) → IsUser u e → first_some (key_checks n u) ≡ None
keys_pass n u e i =
    first_skips _ _ None (no_fault keys.Uid n (get_member (codes "uid") u) uid_of e.name i.name)
    (first_skips _ _ None (no_fault keys.Class n (get_member (codes "class") u) class_of e.class i.class)
    (first_skips _ _ None (no_fault keys.Salt n (get_member (codes "salt") u) salt_of e.salt i.salt)
    (first_skips _ _ None (no_fault keys.Digest n (get_member (codes "digest") u) digest_of e.digest i.digest) refl)))

-- a fault of the keys comes before that of the name
pub key_fault : (names : List (List ℕ)) (n : ℕ) (u : Members) (f : ShelfFault) → first_some (key_checks n u) ≡ Some f → IsFaultOf (checks_of names n u) f
key_fault names n u f e = inr (first_stays (key_checks n u) (name_check names n u ∷ []) f e)

or_nothing : (b : Bool) → (b || false) ≡ b
or_nothing true = refl
or_nothing false = refl

taken : (names : List (List ℕ)) (o : Option (List ℕ)) (name : List ℕ) (b : Bool) → o ≡ Some name → list_any (bytes_eq name) names ≡ b → is_taken names o ≡ b
taken names o name b e f = ap (is_taken names) e ∙ (or_nothing (list_any (bytes_eq name) names) ∙ f)

pub name_fault : (names : List (List ℕ)) (n : ℕ) (u : Members) (e : UserEntry) → IsUser u e → list_any (bytes_eq e.name) names ≡ true → IsFaultOf (checks_of names n u) (TwoUsers n)
name_fault names n u e i t = inr (first_after (key_checks n u) (name_check names n u ∷ []) (keys_pass n u e i)
    ∙ first_takes (name_check names n u) [] (TwoUsers n) (ap (λ b. cond b (Some (TwoUsers n)) None) (taken names (value_at (codes "uid") uid_of u) e.name true i.name t)))

pub no_name_fault : (names : List (List ℕ)) (n : ℕ) (u : Members) (e : UserEntry) → IsUser u e → list_any (bytes_eq e.name) names ≡ false → first_some (checks_of names n u) ≡ None
no_name_fault names n u e i t = first_after (key_checks n u) (name_check names n u ∷ []) (keys_pass n u e i)
    ∙ first_skips (name_check names n u) [] None (ap (λ b. cond b (Some (TwoUsers n)) None) (taken names (value_at (codes "uid") uid_of u) e.name false i.name t)) refl
