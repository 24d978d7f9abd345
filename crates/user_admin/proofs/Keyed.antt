-- Users by their names, in a map.
use Rattle.std.proofs.Common.{◌≡◌, ◌≢◌, ℕ, zero, suc, ◌+◌, ◌-◌, ◌<◌, ◌≤◌, Bool, true, false, true≢false, not, ◌&&◌, T, cond, Option, Some, None, List, [], ◌∷◌, ◌++◌, length, option_map, slice_get, take, get_or, nat_lt, if◌then◌else◌, sym, refl, ap, ◌∙◌, subst, arith}
use Rattle.std.proofs.lemmas.Bool.Decides.{nat_tests}
use Rattle.std.proofs.lemmas.List.{length-map}
use Rattle.std.proofs.lemmas.Map.Text.{is_eq-slice_cmp}
use Rattle.std.proofs.lemmas.Option.{slice_get-map}
use Rattle.std.specs.Prelude.{Result, Ok, Err, IsOk, IfOk, OnOk}
use Rattle.std.specs.Str.{bytes_eq}
use Rattle.std.specs.List.{insert as insert_at, position_or_len}
use Rattle.std.specs.Map.{keys_of, lookup, values_of}
use Rattle.std.specs.Ordering.{eq_by_cmp, is_eq, is_lt}
use Rattle.std.specs.declared.cmp.Ordering.{Ordering}
use Rattle.std.specs.declared.cmp.Ordering.TheVariants.{Less, Equal, Greater}
use Rattle.std.specs.FinMap.Entries.{below_all, find}
use Rattle.arrayvec.specs.ArrayVec.{ArrayVec}
use Rattle.indexmap.specs.IndexMap.{IndexMap, index_before, index_map_len, insert_entry, insert_index, move_index, set_value_at, spare, values}
use Rattle.indexmap.proofs.MapLemmas.{absent_from_lookup, insert_entry-absent, or_len-absent}
use Rattle.indexmap.proofs.MoveLemmas.{push_moved}
use Rattle.user_admin.specs.declared.op.User.{User}
use Rattle.user_admin.specs.Users.{by_name}
use Rattle.user_admin.specs.Places.{IsAt, IsInOrder, IsTable, entries_of, keyed, named_by, others_of, same_key}
use Rattle.user_admin.proofs.Names.{not_first, one_name, other_name, same_name}
use Rattle.user_admin.proofs.Placed.{set_at}

pub values_keyed : (us : List User) → values_of (keyed us) ≡ us
values_keyed [] = refl
values_keyed (u ∷ us) = ap (λ (vs : List User). u ∷ vs) (values_keyed us)

pub length_keyed : (us : List User) → length (keyed us) ≡ length us
length_keyed us = length-map us (λ u. (named_by u.uid, u))

-- a map of such entries is a table
pub is_table : {S : Type 0} (users cleared : IndexMap (ArrayVec ℕ) User S) (us : List User) → users.entries ≡ keyed us → IsInOrder us → length us ≤ 64 → 64 ≤ index_map_len users + spare users → cleared.entries ≡ [] → 64 ≤ spare cleared → IsTable users cleared
is_table users cleared us e order few room none as_much =
    let vs : values users ≡ us = ap values_of e ∙ values_keyed us in
    record {
      order = subst IsInOrder (sym vs) order;
      by_name = e ∙ ap keyed (sym vs);
      few = subst (λ (ws : List User). length ws ≤ 64) (sym vs) few;
      room = room;
      none = none;
      as_much = as_much;
    }

-- what a look-up finds
pub find_keyed : (name : List ℕ) (us : List User) → lookup (same_key (named_by name)) (keyed us) ≡ find by_name name (entries_of us)
find_keyed name [] = refl
find_keyed name (u ∷ us) =
    ap (λ (b : Bool). cond b (Some u) (lookup (same_key (named_by name)) (keyed us))) (sym (is_eq-slice_cmp name u.uid))
    ∙ ap (λ (o : _). cond (eq_by_cmp by_name name u.uid) (Some u) o) (find_keyed name us)

-- a user in the place of one of its name
pub set_keyed : (v : User) (us : List User) (i : ℕ) → IsAt v.uid us i → set_value_at (keyed us) i v ≡ keyed (set_at us i v)
set_keyed v [] i a = absurd a
set_keyed v (u ∷ us) zero a = ap (λ (k : List ℕ). (named_by k, v) ∷ keyed us) (sym (one_name v.uid u.uid a))
set_keyed v (u ∷ us) (suc i) a = ap (λ (es : List (ArrayVec ℕ × User)). (named_by u.uid, u) ∷ es) (set_keyed v us i a.1)

pub length_set : (v : User) (us : List User) (i : ℕ) → length (set_at us i v) ≡ length us
length_set v [] i = refl
length_set v (u ∷ us) zero = refl
length_set v (u ∷ us) (suc i) = ap suc (length_set v us i)

insert_keyed : (v : User) (us : List User) (i : ℕ) → insert_at (keyed us) i (named_by v.uid, v) ≡ keyed (insert_at us i v)
insert_keyed v [] zero = refl
insert_keyed v [] (suc i) = refl
insert_keyed v (u ∷ us) zero = refl
insert_keyed v (u ∷ us) (suc i) = ap (λ (es : List (ArrayVec ℕ × User)). (named_by u.uid, u) ∷ es) (insert_keyed v us i)

pub length_inserted : (v : User) (us : List User) (i : ℕ) → length (insert_at us i v) ≡ suc (length us)
length_inserted v [] zero = refl
length_inserted v [] (suc i) = refl
length_inserted v (u ∷ us) zero = refl
length_inserted v (u ∷ us) (suc i) = ap suc (length_inserted v us i)

not_below : (n i : ℕ) → i ≤ n → nat_lt n i ≡ false
not_below n i le = grind (arith, nat_tests)

-- a user put in before the one at a place, whose name isn't there
pub inserted : (es : List (ArrayVec ℕ × User)) (v : User) (us : List User) (i r : ℕ) → es ≡ keyed us → i ≤ length us → find by_name v.uid (entries_of us) ≡ None → r ≡ index_before (position_or_len (same_key (named_by v.uid)) (keys_of es)) i
    → move_index (insert_entry same_key es (named_by v.uid) v) (position_or_len (same_key (named_by v.uid)) (keys_of es)) r ≡ keyed (insert_at us i v)
inserted es v us i r e le none is =
    let k = named_by v.uid in
    let absent = absent_from_lookup (same_key k) (keyed us) (find_keyed v.uid us ∙ none) in
    let last : position_or_len (same_key k) (keys_of es) ≡ length (keyed us) = ap (λ (fs : List (ArrayVec ℕ × User)). position_or_len (same_key k) (keys_of fs)) e ∙ or_len-absent (same_key k) (keyed us) absent in
    let place : r ≡ i = is ∙ (ap (λ (n : ℕ). index_before n i) last ∙ ap (λ (b : Bool). if b then i - 1 else i) (not_below (length (keyed us)) i (subst (λ (n : ℕ). i ≤ n) (sym (length_keyed us)) le))) in
    let entries = ap (λ (fs : List (ArrayVec ℕ × User)). insert_entry same_key fs k v) e ∙ insert_entry-absent same_key k v (keyed us) absent in
    (λ j. move_index (entries j) (last j) (place j))
    ∙ (push_moved (keyed us) (k, v) i (subst (λ (n : ℕ). i ≤ n) (sym (length_keyed us)) le) ∙ insert_keyed v us i)

front : (a b : Bool) → T (a && b) → T a
front true b h = tt
front false b h = h

back : (a b : Bool) → T (a && b) → T b
back true b h = h
back false b h = absurd h

is_less : (o : Ordering) → T (is_lt o) → o ≡ Less
is_less Less h = refl
is_less Equal h = absurd h
is_less Greater h = absurd h

below_at : (k : List ℕ) (us : List User) (i : ℕ) (d : User) → i < length us → T (below_all by_name k (entries_of us)) → by_name k (get_or us i d).uid ≡ Less
below_at k [] i d lt h = let z : ⊥ = omega arith in absurd z
below_at k (u ∷ us) zero d lt h = is_less _ (front (is_lt (by_name k u.uid)) _ h)
below_at k (u ∷ us) (suc i) d lt h = below_at k us i d (omega arith) (back (is_lt (by_name k u.uid)) _ h)

less_other : (k q : List ℕ) → by_name k q ≡ Less → q ≢ k
less_other k q less e =
    let tie : is_eq (by_name k q) ≡ true = (same_name k q).1 (sym e) in
    let bad : false ≡ true = sym (ap is_eq less) ∙ tie in
    cc

-- no user before a place has the name of the one there
none_before : (us : List User) (i : ℕ) (d : User) → i < length us → IsInOrder us → find by_name (get_or us i d).uid (entries_of (take i us)) ≡ None
none_before [] i d lt s = let z : ⊥ = omega arith in absurd z
none_before (u ∷ us) zero d lt s = refl
none_before (u ∷ us) (suc i) d lt s =
    let q = (get_or us i d).uid in
    let other = less_other u.uid q (below_at u.uid us i d (omega arith) (front (below_all by_name u.uid (entries_of us)) _ s)) in
    ap (λ (b : Bool). cond b (Some u) (find by_name q (entries_of (take i us)))) (other_name q u.uid other)
    ∙ none_before us i d (omega arith) (back (below_all by_name u.uid (entries_of us)) _ s)

none_of_others : (name q : List ℕ) (us : List User) → find by_name q (entries_of us) ≡ None → find by_name q (entries_of (others_of name us)) ≡ None
none_of_others name q [] h = refl
none_of_others name q (u ∷ us) h =
    let first = not_first q (u.uid, u) (entries_of us) h in
    by (not (bytes_eq name u.uid)) first.0 (none_of_others name q us first.1)
  where
    by : (b : Bool) → q ≢ u.uid → find by_name q (entries_of (others_of name us)) ≡ None → find by_name q (entries_of (cond b (u ∷ others_of name us) (others_of name us))) ≡ None
    by true other none = ap (λ (t : Bool). cond t (Some u) (find by_name q (entries_of (others_of name us)))) (other_name q u.uid other) ∙ none
    by false other none = none

-- the next user's name isn't among the others so far
pub absent_next : (name : List ℕ) (us : List User) (i : ℕ) (d : User) → i < length us → IsInOrder us → lookup (same_key (named_by (get_or us i d).uid)) (keyed (others_of name (take i us))) ≡ None
absent_next name us i d lt s = find_keyed (get_or us i d).uid (others_of name (take i us)) ∙ none_of_others name (get_or us i d).uid (take i us) (none_before us i d lt s)

pub few_others : (name : List ℕ) (us : List User) → length (others_of name us) ≤ length us
few_others name [] = omega arith
few_others name (u ∷ us) = by (not (bytes_eq name u.uid)) (few_others name us)
  where
    by : (b : Bool) → length (others_of name us) ≤ length us → length (cond b (u ∷ others_of name us) (others_of name us)) ≤ suc (length us)
    by true le = omega arith
    by false le = omega arith

-- the others of one user more
pub others_more : (name : List ℕ) (us : List User) (v : User) → keyed (others_of name (us ++ v ∷ [])) ≡ keyed (others_of name us) ++ keyed (others_of name (v ∷ []))
others_more name [] v = refl
others_more name (u ∷ us) v = by (not (bytes_eq name u.uid)) (others_more name us v)
  where
    by : (b : Bool) → keyed (others_of name (us ++ v ∷ [])) ≡ keyed (others_of name us) ++ keyed (others_of name (v ∷ []))
        → keyed (cond b (u ∷ others_of name (us ++ v ∷ [])) (others_of name (us ++ v ∷ []))) ≡ keyed (cond b (u ∷ others_of name us) (others_of name us)) ++ keyed (others_of name (v ∷ []))
    by true e = ap (λ (es : List (ArrayVec ℕ × User)). (named_by u.uid, u) ∷ es) e
    by false e = e

take_few : (us : List User) (i : ℕ) → length (take i us) ≤ i
take_few [] zero = omega arith
take_few [] (suc i) = omega arith
take_few (u ∷ us) zero = omega arith
take_few (u ∷ us) (suc i) = let rest = take_few us i in omega arith

pub few_so_far : (name : List ℕ) (us : List User) (i : ℕ) → length (keyed (others_of name (take i us))) ≤ i
few_so_far name us i =
    let count = length_keyed (others_of name (take i us)) in let others = few_others name (take i us) in let few = take_few us i in
    omega arith

-- a user at a place, by its name
listed : (o : Option (ArrayVec ℕ × User)) → option_map {U = List ℕ × User} (λ (e : ArrayVec ℕ × User). (e.1.uid, e.1)) o ≡ option_map {U = List ℕ × User} (λ (u : User). (u.uid, u)) (option_map (λ (e : ArrayVec ℕ × User). e.1) o)
listed None = refl
listed (Some e) = refl

pub place_in : (es : List (ArrayVec ℕ × User)) (i : ℕ) → option_map {U = List ℕ × User} (λ (e : ArrayVec ℕ × User). (e.1.uid, e.1)) (slice_get es i) ≡ option_map {U = List ℕ × User} (λ (u : User). (u.uid, u)) (slice_get (values_of es) i)
place_in es i = listed (slice_get es i) ∙ ap (option_map {U = List ℕ × User} (λ (u : User). (u.uid, u))) (sym (slice_get-map (λ (e : ArrayVec ℕ × User). e.1) es i))

-- what a call says of an answer that is Ok
pub on_is_ok : {X E P : Type 0} (result : Result X E) → IsOk result → OnOk result P → P
on_is_ok (Ok v) ok p = p
on_is_ok (Err e) ok p = absurd (true≢false (sym ok))

pub new_entries : {S E : Type 0} (old new : IndexMap (ArrayVec ℕ) User S) (key : ArrayVec ℕ) (v : User) (i : ℕ) (result : Result (ℕ × Option User) E) → IsOk result
    → IfOk result (λ r. new.entries ≡ move_index (insert_entry same_key old.entries key v) (insert_index same_key old key) r.0) → IfOk result (λ r. r.0 ≡ index_before (insert_index same_key old key) i)
    → (us : List User) → key ≡ named_by v.uid → old.entries ≡ keyed us → i ≤ length us → find by_name v.uid (entries_of us) ≡ None → new.entries ≡ keyed (insert_at us i v)
new_entries old new key v i (Ok r) ok entries index us k e le none =
    entries ∙ (ap (λ (l : ArrayVec ℕ). move_index (insert_entry same_key old.entries l v) (position_or_len (same_key l) (keys_of old.entries)) r.0) k
    ∙ inserted old.entries v us i r.0 e le none (index ∙ ap (λ (l : ArrayVec ℕ). index_before (position_or_len (same_key l) (keys_of old.entries)) i) k))
new_entries old new key v i (Err x) ok entries index us k e le none = absurd (true≢false (sym ok))
