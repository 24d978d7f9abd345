-- Names of at most ten bytes.
use Rattle.std.proofs.Common.{◌≡◌, ℕ, ◌≤◌, arith, Bool, true, false, cond, not, List, [], ◌∷◌, Option, Some, None, length, inl, inr, refl, sym, ap, ◌∙◌, subst}
use Rattle.std.specs.Prelude.{nat_lt, option_map, option_and_then, codes}
use Rattle.std.specs.List.{AllByRecursion}
use Rattle.std.specs.Char.{to_ascii_uppercase}
use Rattle.std.proofs.lemmas.List.{length-map}
use Rattle.std.proofs.lemmas.Bool.Decides.{leb_tells}
use Rattle.toml.specs.Data.{Data, Members, as_str, get_member}
use Rattle.tl1_text.specs.Tags.{is_short}
use Rattle.shelf_file.specs.Keys.{checked, is_uid, upper, uid_of}
use Rattle.shelf_file.specs.Contents.{UserEntry, AreUsers}
use Rattle.dxc_model.proofs.Bools.{true_false, and_true, of_lt}

not_longer : (n : ℕ) → not (nat_lt 10 n) ≡ true → n ≤ 10
not_longer n e = elim (leb_tells n 10) [ inl h ↦ h.1 | inr h ↦ (let l = h.1 in absurd (true_false (sym e ∙ ap not (of_lt 10 n (omega arith))))) ]

short_uid : (s : List ℕ) → is_uid s ≡ true → length (upper s) ≤ 10
short_uid [] e = absurd (true_false (sym e))
short_uid (b ∷ bs) e = let f = and_true (is_short 10 (b ∷ bs)) _ e in let n = length-map (b ∷ bs) to_ascii_uppercase in let l = not_longer (length (b ∷ bs)) f.0 in omega arith

short_checked : (s : List ℕ) (b : Bool) (n : List ℕ) → is_uid s ≡ b → option_map upper (cond b (Some s) None) ≡ Some n → length n ≤ 10
short_checked s true n u e = let same : upper s ≡ n = cc in subst (λ m. length m ≤ 10) same (short_uid s u)
short_checked s false n u e = cc

short_text : (o : Option (List ℕ)) (n : List ℕ) → option_map upper (option_and_then (checked is_uid) o) ≡ Some n → length n ≤ 10
short_text None n e = cc
short_text (Some s) n e = short_checked s (is_uid s) n refl e

short_value : (o : Option Data) (n : List ℕ) → option_and_then uid_of o ≡ Some n → length n ≤ 10
short_value None n e = cc
short_value (Some d) n e = short_text (as_str d) n e

-- the names of users that tables describe
pub short_names : (us : List Members) (es : List UserEntry) → AreUsers us es → AllByRecursion (λ e. length e.name ≤ 10) es
short_names [] [] a = tt
short_names [] (e ∷ es) a = absurd a
short_names (u ∷ us) [] a = absurd a
short_names (u ∷ us) (e ∷ es) a = (short_value (get_member (codes "uid") u) e.name a.0.name, short_names us es a.1)
