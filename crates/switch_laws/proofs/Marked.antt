-- What turns left with either turnstile, and the entries among it.
use Rattle.std.proofs.Common.{◌≡◌, ◌≢◌, ℕ, ◌<◌, Bool, true, false, cond, filter, map, List, [], ◌∷◌, ◌++◌, refl, sym, ◌∙◌, ap, ap₂, subst, append_assoc, inl, inr}
use Rattle.std.proofs.lemmas.List.Elements.{filter-append}
use Rattle.turnstile.specs.Orders.{IsOrder, at_one, at_other}
use Rattle.turnstile.specs.Turning.{Each}
use Rattle.dxc_model.specs.declared.entry.Entry.{Entry}
use Rattle.user_admin.specs.declared.op.UserEntry.{UserEntry}
use Rattle.user_admin.specs.declared.op.UserMark.{UserMark}
use Rattle.user_admin.specs.declared.op.UserMark.TheVariants.{Entered, Took}
use Rattle.user_admin.specs.Histories.{Opening as UsersOpening}
use Rattle.user_admin.specs.Marks.{entries_of, entry_in, place_of}
use Rattle.user_admin.specs.States.{entry as user_entry}
use Rattle.craft_session.specs.Doing.{AnyEntry, at_table, at_users, is_used, of_table, of_users, used_of}
use Rattle.craft_session.specs.Hearing.{Heard, Hears, Wanted, nothing, to_do, to_look}
use Rattle.craft_session.specs.Walks.{IsUnused}
use Rattle.switch_laws.specs.Orders.{AnyMark, IsOrderOf, any_entries, is_used_mark}
use Rattle.switch_laws.proofs.Along.{not_used, of_table_append, own_used}

of_users_append : (es fs : List UserEntry) → of_users (es ++ fs) ≡ of_users es ++ of_users fs
of_users_append [] fs = refl
of_users_append (e ∷ es) fs = ap (λ (l : List AnyEntry). let x : AnyEntry = inr e in x ∷ l) (of_users_append es fs)

pub any_append : (m n : List AnyMark) → any_entries (m ++ n) ≡ any_entries m ++ any_entries n
any_append [] n = refl
any_append (inl e ∷ m) n = ap (λ (l : List AnyEntry). let x : AnyEntry = inl e in x ∷ l) (any_append m n)
any_append (inr x ∷ m) n = ap (λ (l : List AnyEntry). of_users (entry_in x) ++ l) (any_append m n) ∙ sym (append_assoc (of_users (entry_in x)) (any_entries m) (any_entries n))

any_table : (es : List Entry) → any_entries (map inl es) ≡ of_table es
any_table [] = refl
any_table (e ∷ es) = ap (λ (l : List AnyEntry). let x : AnyEntry = inl e in x ∷ l) (any_table es)

any_users : (ms : List UserMark) → any_entries (map inr ms) ≡ of_users (entries_of ms)
any_users [] = refl
any_users (m ∷ ms) = ap (λ (l : List AnyEntry). of_users (entry_in m) ++ l) (any_users ms) ∙ sym (of_users_append (entry_in m) (entries_of ms))

one_kept : (b : Bool) (x : AnyMark) (y : AnyEntry) (m : List AnyMark) (w : List AnyEntry) → ((n : List AnyMark) → any_entries (x ∷ n) ≡ y ∷ any_entries n) → any_entries m ≡ w → any_entries (cond b (x ∷ m) m) ≡ cond b (y ∷ w) w
one_kept true x y m w on is = on m ∙ ap (λ (l : List AnyEntry). y ∷ l) is
one_kept false x y m w on is = is

-- what is used of it is what is used of its entries
pub any_used : (p : ℕ) (m : List AnyMark) → any_entries (filter (is_used_mark p) m) ≡ filter (is_used p) (any_entries m)
any_used p [] = refl
any_used p (inl e ∷ m) = one_kept (is_used p (inl e)) (inl e) (inl e) (filter (is_used_mark p) m) (filter (is_used p) (any_entries m)) (λ n. refl) (any_used p m)
any_used p (inr (Entered n op out) ∷ m) = one_kept (is_used p (inr (user_entry n op.value out))) (inr (Entered n op out)) (inr (user_entry n op.value out)) (filter (is_used_mark p) m) (filter (is_used p) (any_entries m)) (λ k. refl) (any_used p m)
any_used p (inr (Took n) ∷ m) = any_used p m

pub table_used : (p : ℕ) (es : List Entry) → any_entries (filter (is_used_mark p) (map inl es)) ≡ used_of p es
table_used p es = any_used p (map inl es) ∙ ap (filter (is_used p)) (any_table es)

pub users_used : (p : ℕ) (ms : List UserMark) → any_entries (filter (is_used_mark p) (map inr ms)) ≡ filter (is_used p) (of_users (entries_of ms))
users_used p ms = any_used p (map inr ms) ∙ ap (filter (is_used p)) (any_users ms)

pub used_append : (p : ℕ) (es fs : List Entry) → used_of p (es ++ fs) ≡ used_of p es ++ used_of p fs
used_append p es fs = ap (filter (is_used p)) (of_table_append es fs) ∙ filter-append (is_used p) (of_table es) (of_table fs)

pub none_of_table : (p : ℕ) (es : List Entry) → Each (IsUnused p) es → used_of p es ≡ []
none_of_table p [] all = refl
none_of_table p (e ∷ es) all = ap (λ (b : Bool). cond b (inl e ∷ used_of p es) (used_of p es)) (not_used p (inl e) all.0) ∙ none_of_table p es all.1

pub none_of_users : (p : ℕ) (es : List UserEntry) → Each (λ e. e.place ≢ p) es → filter (is_used p) (of_users es) ≡ []
none_of_users p [] all = refl
none_of_users p (e ∷ es) all = ap (λ (b : Bool). let f = filter (is_used p) (of_users es) in cond b (inr e ∷ f) f) (not_used p (inr e) (inl all.0)) ∙ none_of_users p es all.1

own_of_users : (p : ℕ) (es : List UserEntry) → Each (λ e. e.place ≡ p) es → filter (is_used p) (of_users es) ≡ of_users es
own_of_users p [] all = refl
own_of_users p (e ∷ es) all = ap (λ (b : Bool). let f = filter (is_used p) (of_users es) in cond b (inr e ∷ f) f) (own_used p (inr e) all.0 (λ none. none)) ∙ ap (λ (l : List AnyEntry). let x : AnyEntry = inr e in x ∷ l) (own_of_users p es all.1)

-- what is heard of the users takes the place's own entries
hears_own : (o : UsersOpening) (p : ℕ) (h : List UserEntry) (w : Wanted) (es : List UserEntry) (x : Heard) → Hears o p h w es x → Each (λ e. e.place ≡ p) es
hears_own o p h nothing es x got = subst (λ (l : List UserEntry). Each (λ e. e.place ≡ p) l) (sym got.0) tt
hears_own o p h (to_look vacant uid pid) es x got = subst (λ (l : List UserEntry). Each (λ e. e.place ≡ p) l) (sym got.0) (refl, tt)
hears_own o p h (to_do what) es x got = subst (λ (l : List UserEntry). Each (λ e. e.place ≡ p) l) (sym got.1) (refl, tt)

-- of others' entries, and then what was heard, that is used
pub heard_used : (o : UsersOpening) (p : ℕ) (h : List UserEntry) (w : Wanted) (x : Heard) (passed es : List UserEntry) (ms : List UserMark) → Each (λ e. e.place ≢ p) passed → Hears o p h w es x → entries_of ms ≡ passed ++ es → filter (is_used p) (of_users (entries_of ms)) ≡ of_users es
heard_used o p h w x passed es ms others got are =
    ap (λ (l : List UserEntry). filter (is_used p) (of_users l)) are ∙ ap (filter (is_used p)) (of_users_append passed es) ∙ filter-append (is_used p) (of_users passed) (of_users es)
    ∙ ap₂ (λ (a b : List AnyEntry). a ++ b) (none_of_users p passed others) (own_of_users p es (hears_own o p h w es x got))

-- a place uses nothing of what others left
pub others_table : (p : ℕ) (e : Entry) → e.place ≢ p → is_used_mark p (inl e) ≡ false
others_table p e other = not_used p (inl e) (inl other)

pub others_users : (p : ℕ) (m : UserMark) → place_of m ≢ p → is_used_mark p (inr m) ≡ false
others_users p (Entered n op out) other = not_used p (inr (user_entry n op.value out)) (inl other)
others_users p (Took n) other = refl

table_of_marks : (m : List AnyMark) → at_table (any_entries m) ≡ at_one m
table_of_marks [] = refl
table_of_marks (inl e ∷ m) = ap (λ (l : List Entry). e ∷ l) (table_of_marks m)
table_of_marks (inr (Entered n op out) ∷ m) = table_of_marks m
table_of_marks (inr (Took n) ∷ m) = table_of_marks m

users_of_marks : (m : List AnyMark) → at_users (any_entries m) ≡ entries_of (at_other m)
users_of_marks [] = refl
users_of_marks (inl e ∷ m) = users_of_marks m
users_of_marks (inr (Entered n op out) ∷ m) = ap (λ (l : List UserEntry). user_entry n op.value out ∷ l) (users_of_marks m)
users_of_marks (inr (Took n) ∷ m) = users_of_marks m

-- of an order of what turns left with both turnstiles, one of its entries
pub order_of_marks : (h : List Entry) (ms : List UserMark) (places : ℕ) (took : ℕ → List AnyMark) (used : ℕ → List AnyEntry) (order : List AnyMark) → IsOrder h ms order
    → ((k : ℕ) → k < places → filter (is_used_mark k) order ≡ took k) → ((k : ℕ) → k < places → any_entries (took k) ≡ used k) → IsOrderOf h (entries_of ms) places used (any_entries order)
order_of_marks h ms places took used order is own used_are = record {
  table = table_of_marks order ∙ is.one;
  users = users_of_marks order ∙ ap entries_of is.other;
  own = λ k lt. sym (used_are k lt) ∙ (ap any_entries (sym (own k lt)) ∙ any_used k order);
}
