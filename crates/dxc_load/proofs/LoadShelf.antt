-- The shelf file of the load is one, and what it describes.
use Rattle.std.proofs.Common.{◌≡◌, ◌<◌, ◌+◌, ◌==◌, arith, ℕ, zero, suc, pos, true, List, [], ◌∷◌, codes, Some, None, refl, sym, ap, ◌∙◌, subst}
use Rattle.std.specs.List.{list_any, range_with_len}
use Rattle.std.specs.Str.{IsUtf8}
use Rattle.hex.specs.Hex.{decode_pairs}
use Rattle.std.specs.Float.Numeral.{scan_numeral}
use Rattle.toml.specs.Data.{Members, no_items, item, no_members, member, string, integer, array, table}
use Rattle.toml.specs.Parse.{parse_document, lines, line, expression, key_equals, val, atom, skip_bom, header_key, items, members, after_element}
use Rattle.toml.specs.Tables.{along_header, along_dots, at_key, define}
use Rattle.toml_parser.specs.Lexical.{skip_ws, skip_from}
use Rattle.toml_parser.specs.Numbers.{underscore_fits, prefixed_integer, decimal_number, plain_number, number, word_value, word_len, unquoted}
use Rattle.toml_parser.specs.Strings.{special, body, one_line, quoted, simple_key, key_after, escape}
use Rattle.toml_datetime.specs.Parse.{parse_datetime, full_date, partial_time, two_digits}
use Rattle.dxc_num.specs.Dimensions.{Dimensions}
use Rattle.dxc_model.specs.declared.user.Class.{Class}
use Rattle.dxc_model.specs.declared.user.Class.TheVariants.{P}
use Rattle.dxc_model.specs.Equipment.{has_bit}
use Rattle.shelf_file.specs.declared.fault.ShelfFault.{ShelfFault}
use Rattle.shelf_file.specs.declared.fault.ShelfFault.TheVariants.{NoMemory}
use Rattle.shelf_file.specs.Keys.{salt_of, digest_of, value_at}
use Rattle.shelf_file.specs.Checks.{IsDocument, IsFirstFault, first_fault, no_memory, too_large, not_toml, found}
use Rattle.shelf_file.specs.Contents.{AreUsers, Contents, Describes, IsShelf, IsUser, Marks, UserEntry}
use Rattle.dxc_load.specs.LoadShelf.{IsLoadShelf, load_digest, load_file}

abbrev user : Members
user = member (codes "class") (string (codes "P")) (member (codes "digest") (string (codes "ba7816bf8f01cfea414140de5dae2223b00361a396177a9cb410ff61f20015ad")) (member (codes "salt") (string (codes "61")) (member (codes "uid") (string (codes "LOAD")) no_members)))

abbrev document : Members
document = member (codes "modules") (integer (pos 8)) (member (codes "sid") (string (codes "LOAD")) (member (codes "slots") (integer (pos 24)) (member (codes "user") (array (item (table user) no_items)) no_members)))

parsed : parse_document load_file ≡ Some document
unfolding parse_document lines line expression key_equals val atom skip_bom header_key items members after_element along_header along_dots at_key define skip_ws skip_from underscore_fits prefixed_integer decimal_number plain_number number word_value word_len unquoted special body one_line quoted simple_key key_after escape parse_datetime full_date partial_time two_digits scan_numeral
parsed = refl

file_utf8 : IsUtf8 load_file
unfolding lib.Utf8.encode
file_utf8 = (load_file, (refl, refl))

is_document : IsDocument load_file document
is_document = (file_utf8, parsed)

some_is : {X : Type 0} (x y : X) → Some x ≡ Some y → x ≡ y
some_is x y is = cc

the_document : (t : Members) → IsDocument load_file t → t ≡ document
the_document t d = some_is t document (sym d.1 ∙ parsed)

no_fault : first_fault document ≡ None
unfolding decode_pairs
no_fault = refl

-- nothing is wrong with it
pub only_memory : (f : ShelfFault) → IsFirstFault load_file f → f ≡ NoMemory
only_memory f (no_memory) = refl
only_memory f (too_large long) = absurd (omega (arith, long))
only_memory f (not_toml short not) = absurd (not document is_document)
only_memory f (found t g short d is) = let none : None ≡ Some g = sym no_fault ∙ ap first_fault (sym (the_document t d)) ∙ is in cc

abbrev the_user : UserEntry
the_user = record { name = codes "LOAD"; class = P; salt = 97 ∷ []; digest = load_digest }

-- an entry by its parts
entry_of : (e : UserEntry) (name : List ℕ) (class : Class) (salt digest : List ℕ) → name ≡ e.name → class ≡ e.class → salt ≡ e.salt → digest ≡ e.digest → e ≡ record { name = name; class = class; salt = salt; digest = digest }
entry_of e name class salt digest n c s d = rw (n, c, s, d) refl

salt_is : value_at (codes "salt") salt_of user ≡ Some (97 ∷ [])
unfolding decode_pairs
salt_is = refl

digest_is : value_at (codes "digest") digest_of user ≡ Some load_digest
unfolding decode_pairs
digest_is = refl

entry_is : (e : UserEntry) → IsUser user e → e ≡ the_user
entry_is e is = entry_of e (codes "LOAD") P (97 ∷ []) load_digest (some_is (codes "LOAD") e.name is.name) (some_is P e.class is.class) (some_is (97 ∷ []) e.salt (sym salt_is ∙ is.salt)) (some_is load_digest e.digest (sym digest_is ∙ is.digest))

users_are : (us : List Members) (es : List UserEntry) → us ≡ user ∷ [] → AreUsers us es → es ≡ the_user ∷ []
users_are us es is are = only es (subst (λ (xs : List Members). AreUsers xs es) is are)
  where
    only : (es : List UserEntry) → AreUsers (user ∷ []) es → es ≡ the_user ∷ []
    only [] are = absurd are
    only (e ∷ []) are = ap (λ (x : UserEntry). x ∷ []) (entry_is e are.0)
    only (e ∷ f ∷ es) are = absurd are.1

all_named : (m : ℕ) → m < 8 → list_any (λ n. n == m + 1) (range_with_len 1 8) ≡ true
all_named zero low = refl
all_named (suc zero) low = refl
all_named (suc (suc zero)) low = refl
all_named (suc (suc (suc zero))) low = refl
all_named (suc (suc (suc (suc zero)))) low = refl
all_named (suc (suc (suc (suc (suc zero))))) low = refl
all_named (suc (suc (suc (suc (suc (suc zero)))))) low = refl
all_named (suc (suc (suc (suc (suc (suc (suc zero))))))) low = refl
all_named (suc (suc (suc (suc (suc (suc (suc (suc m)))))))) low = absurd (omega (arith, low))

shape_of : (d : Dimensions) → 8 ≡ d.modules → 24 ≡ d.slots → d ≡ record { modules = 8; slots = 24 }
shape_of d m s = rw (m, s) refl

marked : (modules bits : ℕ) (ns : List ℕ) → 8 ≡ modules → Some (range_with_len 1 modules) ≡ Some ns → Marks modules bits ns → (m : ℕ) → m < 8 → has_bit bits m ≡ true
marked modules bits ns eight named marks m low =
    let all : list_any (λ n. n == m + 1) ns ≡ true = ap (λ (l : List ℕ). list_any (λ n. n == m + 1) l) (sym (some_is (range_with_len 1 modules) ns named) ∙ ap (range_with_len 1) (sym eight)) ∙ all_named m low in
    marks m (subst (λ (n : ℕ). m < n) eight low) ∙ all

described : (s : Contents) → Describes document s → IsLoadShelf s
described s d =
    let modules : 8 ≡ s.shape.modules = some_is 8 s.shape.modules d.modules in
    let slots : 24 ≡ s.shape.slots = some_is 24 s.shape.slots d.slots in
    record {
      sid = sym (some_is (codes "LOAD") s.sid d.sid);
      shape = shape_of s.shape modules slots;
      equipped = marked s.shape.modules s.equipped d.equipped.0 modules d.equipped.1 d.equipped.2;
      users = users_are d.users.0 s.users (sym (some_is (user ∷ []) d.users.0 d.users.1)) d.users.2;
    }

-- it is this one
pub load_shelf : (s : Contents) → IsShelf load_file s → IsLoadShelf s
load_shelf s shelf = described s (subst (λ (t : Members). Describes t s) (the_document shelf.1.0 shelf.1.1) shelf.1.2)
