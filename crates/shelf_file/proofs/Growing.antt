-- Users that are read one after another.
use Rattle.std.proofs.Common.{◌≡◌, ℕ, ◌+◌, ◌-◌, ◌<◌, zero, suc, arith, List, [], ◌∷◌, ◌++◌, Option, None, length, take, get_or, inl, inr, refl, sym, ap, ap₂, ◌∙◌, subst}
use Rattle.std.specs.Prelude.{flat_map, option_to_list}
use Rattle.std.specs.List.{range_with_len}
use Rattle.std.proofs.lemmas.List.{take_more, take_all}
use Rattle.std.proofs.lemmas.Grind.{flat_map-append}
use Rattle.toml.specs.Data.{Members, no_members}
use Rattle.shelf_file.specs.declared.fault.ShelfFault.{ShelfFault}
use Rattle.shelf_file.specs.Checks.{names_of, checks_of, user_checks, users_checks, first_some}
use Rattle.shelf_file.specs.Contents.{UserEntry, IsUser, AreUsers}
use Rattle.shelf_file.specs.Users.{names_in, IsFaultOf, Adds}
use Rattle.shelf_file.proofs.Faults.{first_after, first_stays}

pub users_more : (us : List Members) (es : List UserEntry) (u : Members) (e : UserEntry) → AreUsers us es → IsUser u e → AreUsers (us ++ u ∷ []) (es ++ e ∷ [])
users_more [] [] u e a i = (i, tt)
users_more [] (f ∷ fs) u e a i = absurd a
users_more (v ∷ vs) [] u e a i = absurd a
users_more (v ∷ vs) (f ∷ fs) u e a i = (a.0, users_more vs fs u e a.1 i)

-- the names of the tables are those of the users
pub names_same : (us : List Members) (es : List UserEntry) → AreUsers us es → names_of us ≡ names_in es
names_same [] [] a = refl
names_same [] (e ∷ es) a = absurd a
names_same (u ∷ us) [] a = absurd a
names_same (u ∷ us) (e ∷ es) a = ap₂ (λ (o : Option (List ℕ)) (ns : List (List ℕ)). option_to_list o ++ ns) a.0.name (names_same us es a.1)

pub users_length : (us : List Members) (es : List UserEntry) → AreUsers us es → length es ≡ length us
users_length [] [] a = refl
users_length [] (e ∷ es) a = absurd a
users_length (u ∷ us) [] a = absurd a
users_length (u ∷ us) (e ∷ es) a = ap suc (users_length us es a.1)

range_split : (a i n : ℕ) → range_with_len a (i + n) ≡ range_with_len a i ++ range_with_len (a + i) n
range_split a zero n = let e : zero + n ≡ n = omega arith in let f : a ≡ a + zero = omega arith in ap (range_with_len a) e ∙ ap (λ b. range_with_len b n) f
range_split a (suc i) n = let e : suc i + n ≡ suc (i + n) = omega arith in let f : a + 1 + i ≡ a + suc i = omega arith in
    ap (range_with_len a) e ∙ ap (λ (ks : List ℕ). a ∷ ks) (range_split (a + 1) i n ∙ ap (λ b. range_with_len (a + 1) i ++ range_with_len b n) f)

-- the checks of the first users
abbrev pub checks_up_to : List Members → ℕ → List (Option ShelfFault)
checks_up_to us i = flat_map (user_checks us) (range_with_len 0 i)

checks_split : (us : List Members) (i n : ℕ) → checks_up_to us (i + suc n) ≡ checks_up_to us i ++ (user_checks us i ++ flat_map (user_checks us) (range_with_len (i + 1) n))
checks_split us i n = let e : 0 + i ≡ i = omega arith in
    ap (flat_map (user_checks us)) (range_split 0 i (suc n)) ∙ (flat_map-append (user_checks us) (range_with_len 0 i) (range_with_len (0 + i) (suc n))
    ∙ ap (λ k. checks_up_to us i ++ flat_map (user_checks us) (range_with_len k (suc n))) e)

checks_same : (us : List Members) (es : List UserEntry) (i : ℕ) → AreUsers (take i us) es → user_checks us i ≡ checks_of (names_in es) (i + 1) (get_or us i no_members)
checks_same us es i a = ap (λ (ns : List (List ℕ)). checks_of ns (i + 1) (get_or us i no_members)) (names_same (take i us) es a)

-- the first fault of a user after faultless ones is the first of all
pub fault_among : (us : List Members) (es : List UserEntry) (i : ℕ) (f : ShelfFault) → i < length us → AreUsers (take i us) es → first_some (checks_up_to us i) ≡ None → IsFaultOf (checks_of (names_in es) (i + 1) (get_or us i no_members)) f → IsFaultOf (users_checks us) f
fault_among us es i f l a n (inl e) = inl e
fault_among us es i f l a n (inr e) = let m : length us ≡ i + suc (length us - suc i) = omega arith in
    inr (ap (λ k. first_some (checks_up_to us k)) m ∙ (ap first_some (checks_split us i (length us - suc i)) ∙ (first_after (checks_up_to us i) _ n
    ∙ first_stays (user_checks us i) _ f (ap first_some (checks_same us es i a) ∙ e))))

-- one more user that has no fault
pub faultless_more : (us : List Members) (es : List UserEntry) (i : ℕ) → AreUsers (take i us) es → first_some (checks_up_to us i) ≡ None → first_some (checks_of (names_in es) (i + 1) (get_or us i no_members)) ≡ None → first_some (checks_up_to us (i + 1)) ≡ None
faultless_more us es i a n e = ap first_some (checks_split us i 0) ∙ (first_after (checks_up_to us i) (user_checks us i ++ []) n ∙ (first_after (user_checks us i) [] (ap first_some (checks_same us es i a) ∙ e)))

pub users_so_far : (us : List Members) (es fs : List UserEntry) (i : ℕ) (e : UserEntry) → i < length us → AreUsers (take i us) es → IsUser (get_or us i no_members) e → fs ≡ es ++ e ∷ [] → AreUsers (take (i + 1) us) fs
users_so_far us es fs i e l a u w = subst (λ (gs : List UserEntry). AreUsers (take (i + 1) us) gs) (sym w) (subst (λ (vs : List Members). AreUsers vs (es ++ e ∷ [])) (sym (take_more us i no_members l)) (users_more (take i us) es (get_or us i no_members) e a u))

-- a turn that adds a user
pub added : (us : List Members) (es fs : List UserEntry) (i : ℕ) (u : Members) → i < length us → AreUsers (take i us) es → first_some (checks_up_to us i) ≡ None → u ≡ get_or us i no_members → Adds u (i + 1) es fs → AreUsers (take (i + 1) us) fs × (first_some (checks_up_to us (i + 1)) ≡ None)
added us es fs i u l a n same s = (
  users_so_far us es fs i s.entry l a (subst (λ (v : Members). IsUser v s.entry) same s.is) s.whole,
  faultless_more us es i a n (subst (λ (v : Members). first_some (checks_of (names_in es) (i + 1) v) ≡ None) same s.faultless),
)

-- the last turn
pub read_whole : (us : List Members) (es : List UserEntry) (i : ℕ) → i ≡ length us → AreUsers (take i us) es → first_some (checks_up_to us i) ≡ None → AreUsers us es × (first_some (users_checks us) ≡ None)
read_whole us es i e a n = (subst (λ (vs : List Members). AreUsers vs es) (take_all i us (omega arith)) a, subst (λ k. first_some (checks_up_to us k) ≡ None) e n)

-- a turn that finds a fault
pub faulted : (us : List Members) (es : List UserEntry) (i : ℕ) (u : Members) (f : ShelfFault) → i < length us → AreUsers (take i us) es → first_some (checks_up_to us i) ≡ None → u ≡ get_or us i no_members → IsFaultOf (checks_of (names_in es) (i + 1) u) f → IsFaultOf (users_checks us) f
faulted us es i u f l a n same e = fault_among us es i f l a n (subst (λ (v : Members). IsFaultOf (checks_of (names_in es) (i + 1) v) f) same e)
