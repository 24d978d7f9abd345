-- Users as tables describe them.
use Rattle.std.proofs.Common.{◌≡◌, ℕ, Bool, true, false, if◌then◌else◌, Option, Some, None, List, [], ◌∷◌, length, sym, refl, ap, ◌∙◌, arith, Result, Ok, Err}
use Rattle.std.specs.Prelude.{option_and_then, option_map, codes}
use Rattle.std.specs.Result.{result_ok}
use Rattle.hex.specs.Hex.{decode_sized}
use Rattle.hex.proofs.HexLemmas.{decode_of-ok, decode_sized-ok, decode_sized-twice}
use Rattle.toml.specs.Data.{Data, Members, as_str, get_member}
use Rattle.shelf_file.specs.Contents.{AreUsers, UserEntry}
use Rattle.shelf_file.specs.Keys.{checked, digest_of, is_uid, uid_of, upper}
use Rattle.shelf_file.specs.Shelves.{AreDescribed}

-- the text of a uid in upper case
abbrev IsUpper : List ℕ → Type 0
IsUpper name = (text : List ℕ) × (is_uid text ≡ true) × (upper text ≡ name)

by_test : (text name : List ℕ) (b : Bool) → is_uid text ≡ b → option_map upper (if b then Some text else None) ≡ Some name → IsUpper name
by_test text name true is e = (text, is, cc)
by_test text name false is e = cc

by_text : (s : Option (List ℕ)) (name : List ℕ) → option_map upper (option_and_then (checked is_uid) s) ≡ Some name → IsUpper name
by_text None name e = cc
by_text (Some text) name e = by_test text name (is_uid text) refl e

by_uid : (o : Option Data) (name : List ℕ) → option_and_then uid_of o ≡ Some name → IsUpper name
by_uid None name e = cc
by_uid (Some d) name e = by_text (as_str d) name e

decoded : {E : Type 0} (r : Result (List ℕ) E) (bytes : List ℕ) → result_ok r ≡ Some bytes → r ≡ Ok bytes
decoded (Ok x) bytes e = let same : x ≡ bytes = cc in ap Ok same
decoded (Err x) bytes e = cc

sized : (text bytes : List ℕ) → decode_sized text 32 ≡ Ok bytes → length bytes ≡ 32
sized text bytes e =
    let twice = decode_sized-ok text 32 bytes e in
    let ok = decode_of-ok text bytes (sym (decode_sized-twice text 32 twice) ∙ e) in
    let two = ok.2 in omega arith

by_digits : (s : Option (List ℕ)) (digest : List ℕ) → option_and_then (λ text. result_ok (decode_sized text 32)) s ≡ Some digest → length digest ≡ 32
by_digits None digest e = cc
by_digits (Some text) digest e = sized text digest (decoded (decode_sized text 32) digest e)

by_digest : (o : Option Data) (digest : List ℕ) → option_and_then digest_of o ≡ Some digest → length digest ≡ 32
by_digest None digest e = cc
by_digest (Some d) digest e = by_digits (as_str d) digest e

pub all_described : (us : List Members) (es : List UserEntry) → AreUsers us es → AreDescribed es
unfolding AreDescribed
all_described us [] a = tt
all_described [] (e ∷ es) a = absurd a
all_described (u ∷ us) (e ∷ es) a = (record { name = by_uid (get_member (codes "uid") u) e.name a.0.name; digest = by_digest (get_member (codes "digest") u) e.digest a.0.digest }, all_described us es a.1)
