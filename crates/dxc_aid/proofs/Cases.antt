-- Texts that are the same but for case.
use Rattle.std.proofs.Common.{◌≡◌, ℕ, Bool, true, false, List, [], ◌∷◌, ◌++◌, length, take, drop, map, nat_lt, ◌&&◌, if◌then◌else◌, Some, None, refl, sym, ◌∙◌, ap, ap₂, arith, take-append-drop}
use Rattle.std.specs.Char.{to_ascii_lowercase}
use Rattle.std.proofs.lemmas.Bool.Decides.{nat_tests}
use Rattle.std.proofs.lemmas.List.{take-map, drop-map, map-append}
use Rattle.std.proofs.Math.Seq.{take-append_seam, drop-append_seam}
use Rattle.std.proofs.lemmas.Slice.Eq.{bytes_eq-Decides}
use Rattle.dxc_aid.specs.Names.{IsSameText, is_same_text, behind}
use Rattle.dxc_aid.proofs.Numbers.{no_letters}

same_byte : (x y : ℕ) → nat_lt y 65 ≡ true → to_ascii_lowercase x ≡ to_ascii_lowercase y → x ≡ y
same_byte x y low is = grind (arith, nat_tests, low, is)

both : (a b : Bool) → (a && b) ≡ true → (a ≡ true) × (b ≡ true)
both true b is = (refl, is)
both false b is = cc

-- a text that is the same as one without letters is that text
pub same_without_letters : (t s : List ℕ) → no_letters s ≡ true → IsSameText t s → t ≡ s
same_without_letters [] [] low is = refl
same_without_letters [] (y ∷ s) low is = cc
same_without_letters (x ∷ t) [] low is = cc
same_without_letters (x ∷ t) (y ∷ s) low is =
    let parts = both (nat_lt y 65) (no_letters s) low in
    let head : to_ascii_lowercase x ≡ to_ascii_lowercase y = cc in
    let tail : IsSameText t s = cc in
    ap₂ (λ (b : ℕ) (l : List ℕ). b ∷ l) (same_byte x y parts.0 head) (same_without_letters t s parts.1 tail)

pub is_same : (a b : List ℕ) → is_same_text a b ≡ true → IsSameText a b
is_same a b is = (bytes_eq-Decides (map to_ascii_lowercase a) (map to_ascii_lowercase b)).0 is

pub same_is : (a b : List ℕ) → IsSameText a b → is_same_text a b ≡ true
same_is a b is = (bytes_eq-Decides (map to_ascii_lowercase a) (map to_ascii_lowercase b)).1 is

split_some : (c : Bool) (front text rest : List ℕ) → is_same_text (take 4 text) front ≡ c → (if c then Some (drop 4 text) else None) ≡ Some rest → IsSameText text (front ++ rest)
split_some true front text rest c_is is =
    let same : drop 4 text ≡ rest = cc in
    ap (λ (l : List ℕ). map to_ascii_lowercase l) (sym (take-append-drop 4 text))
    ∙ map-append to_ascii_lowercase (take 4 text) (drop 4 text)
    ∙ ap₂ (λ (a b : List ℕ). a ++ b) (is_same (take 4 text) front c_is) (ap (λ (l : List ℕ). map to_ascii_lowercase l) same)
    ∙ sym (map-append to_ascii_lowercase front rest)
split_some false front text rest c_is is = cc

-- what stands after four bytes
pub behind_is : (front text rest : List ℕ) → behind front text ≡ Some rest → IsSameText text (front ++ rest)
behind_is front text rest is = split_some (is_same_text (take 4 text) front) front text rest refl is

take_front : (front rest : List ℕ) → length front ≡ 4 → take 4 (front ++ rest) ≡ front
take_front front rest four = ap (λ (n : ℕ). take n (front ++ rest)) (sym four) ∙ take-append_seam front rest

drop_front : (front rest : List ℕ) → length front ≡ 4 → drop 4 (front ++ rest) ≡ rest
drop_front front rest four = ap (λ (n : ℕ). drop n (front ++ rest)) (sym four) ∙ drop-append_seam front rest

pub behind_of : (front text rest : List ℕ) → length front ≡ 4 → no_letters rest ≡ true → IsSameText text (front ++ rest) → behind front text ≡ Some rest
behind_of front text rest four low same =
    let first : IsSameText (take 4 text) front =
    sym (take-map to_ascii_lowercase 4 text) ∙ ap (λ (l : List ℕ). take 4 l) same ∙ take-map to_ascii_lowercase 4 (front ++ rest) ∙ ap (λ (l : List ℕ). map to_ascii_lowercase l) (take_front front rest four) in
    let second : IsSameText (drop 4 text) rest =
    sym (drop-map to_ascii_lowercase 4 text) ∙ ap (λ (l : List ℕ). drop 4 l) same ∙ drop-map to_ascii_lowercase 4 (front ++ rest) ∙ ap (λ (l : List ℕ). map to_ascii_lowercase l) (drop_front front rest four) in
    rw (same_is (take 4 text) front first) (ap Some (same_without_letters (drop 4 text) rest low second))
