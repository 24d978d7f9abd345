-- The commands' texts, part by part.
use Rattle.std.proofs.Common.{◌≡◌, ◌≢◌, ◌<◌, ◌≤◌, ◌+◌, ◌-◌, ◌/◌, ◌%◌, ◌==◌, Bool, true, false, if◌then◌else◌, ℕ, List, [], ◌∷◌, ◌++◌, arith, refl, sym, ap, ap₂, ◌∙◌, subst, append_assoc, decimal, codes}
use Rattle.std.proofs.lemmas.Bool.Decides.{nat_tests}
use Rattle.std.proofs.lemmas.Fmt.{decimal_digit, decimal_step}
use Rattle.dxc_aid.specs.Names.{port_name}
use Rattle.dxc_load.specs.declared.draw.Entry.{Entry}
use Rattle.dxc_load.specs.Entries.{IsEntered, IsNamed, ports_text}
use Rattle.dxc_load.specs.Script.{is_two_way, load_shape, load_text, two_ports}

-- a number of four digits
pub four_digits : (n : ℕ) → 1000 ≤ n → n < 10000 → decimal n ≡ (48 + n / 1000) ∷ (48 + n / 100 % 10) ∷ (48 + n / 10 % 10) ∷ (48 + n % 10) ∷ []
four_digits n ge lt =
    let hundreds : n / 10 / 10 ≡ n / 100 = omega arith in
    let thousands : n / 100 / 10 ≡ n / 1000 = omega arith in
    decimal_step n (omega (arith, ge)) (omega (arith, lt))
    ∙ ap (λ (l : List ℕ). l ++ (48 + n % 10) ∷ [])
    (decimal_step (n / 10) (omega (arith, ge)) (omega (arith, lt))
    ∙ ap (λ (l : List ℕ). l ++ (48 + n / 10 % 10) ∷ [])
    (ap decimal hundreds
    ∙ decimal_step (n / 100) (omega (arith, ge)) (omega (arith, lt))
    ∙ ap (λ (l : List ℕ). l ++ (48 + n / 100 % 10) ∷ []) (ap decimal thousands ∙ decimal_digit (n / 1000) (omega (arith, lt)))))

ports_are : (first i : ℕ) (e : Entry) → IsEntered first i e → ports_text e ≡ two_ports first i
ports_are first i e is = ap₂ (λ (x y : ℕ). port_name load_shape (record { 0 = x }) ++ codes "," ++ port_name load_shape (record { 0 = y })) is.0 is.1

-- the way after a tag, in one part or in three
way_is : (two : Bool) → (if two then codes "::2WAY;" else codes "::1WAY;") ≡ codes "::" ++ (if two then codes "2WAY" else codes "1WAY") ++ codes ";"
way_is true = refl
way_is false = refl

way_behind : (text : List ℕ) (two : Bool) → text ++ (if two then codes "::2WAY;" else codes "::1WAY;") ≡ text ++ codes "::" ++ (if two then codes "2WAY" else codes "1WAY") ++ codes ";"
way_behind text two =
    let way : List ℕ = if two then codes "2WAY" else codes "1WAY" in
    ap (λ (l : List ℕ). text ++ l) (way_is two) ∙ sym (append_assoc (text ++ codes "::") way (codes ";") ∙ append_assoc text (codes "::") (way ++ codes ";"))

module _ (first i : ℕ) (e : Entry) (named : IsNamed first i e) where
  pub deletes : i % 4 ≡ 0 → codes "DLT-CRS-T0::" ++ ports_text e ++ codes ":" ++ decimal i ++ codes ";" ≡ load_text first i
  deletes fourth =
      let test : (i % 4 == 0) ≡ true = grind (arith, nat_tests, fourth) in
      let entered : IsEntered first (i - 3) e = subst (λ (n : ℕ). IsEntered first n e) (ap (λ (t : Bool). if t then i - 3 else i) test) named in
      let enters : List ℕ = codes "ENT-CRS-T0::" ++ two_ports first i ++ codes ":" ++ decimal i ++ codes "::" ++ (if is_two_way first i then codes "2WAY" else codes "1WAY") ++ codes ";" in
      ap (λ (l : List ℕ). codes "DLT-CRS-T0::" ++ l ++ codes ":" ++ decimal i ++ codes ";") (ports_are first (i - 3) e entered)
      ∙ sym (ap (λ (t : Bool). if t then codes "DLT-CRS-T0::" ++ two_ports first (i - 3) ++ codes ":" ++ decimal i ++ codes ";" else enters) test)

  pub enters : i % 4 ≢ 0 → codes "ENT-CRS-T0::" ++ ports_text e ++ codes ":" ++ decimal i ++ (if e.two_way then codes "::2WAY;" else codes "::1WAY;") ≡ load_text first i
  enters other =
      let test : (i % 4 == 0) ≡ false = grind (arith, nat_tests, other) in
      let entered : IsEntered first i e = subst (λ (n : ℕ). IsEntered first n e) (ap (λ (t : Bool). if t then i - 3 else i) test) named in
      let deletes : List ℕ = codes "DLT-CRS-T0::" ++ two_ports first (i - 3) ++ codes ":" ++ decimal i ++ codes ";" in
      let front = λ (l : List ℕ). codes "ENT-CRS-T0::" ++ l ++ codes ":" ++ decimal i in
      way_behind (front (ports_text e)) e.two_way
      ∙ ap (λ (two : Bool). front (ports_text e) ++ codes "::" ++ (if two then codes "2WAY" else codes "1WAY") ++ codes ";") entered.2
      ∙ ap (λ (l : List ℕ). front l ++ codes "::" ++ (if is_two_way first i then codes "2WAY" else codes "1WAY") ++ codes ";") (ports_are first i e entered)
      ∙ sym (ap (λ (t : Bool). if t then deletes else codes "ENT-CRS-T0::" ++ two_ports first i ++ codes ":" ++ decimal i ++ codes "::" ++ (if is_two_way first i then codes "2WAY" else codes "1WAY") ++ codes ";") test)
