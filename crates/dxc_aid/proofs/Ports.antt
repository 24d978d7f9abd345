-- Modules, middles and ports, as they are read and as they are named.
use Rattle.std.proofs.Common.{◌≡◌, ℕ, suc, ◌+◌, ◌-◌, ◌*◌, ◌<◌, ◌≤◌, true, List, [], ◌∷◌, ◌++◌, length, take, drop, get_or, map, ◌==◌, Option, Some, None, position, codes, decimal, refl, sym, ◌∙◌, ap, ap₂, subst, arith, append_assoc, append-nil, take-append-drop, drop-cons}
use Rattle.std.specs.Char.{to_ascii_lowercase}
use Rattle.std.specs.Option.{option_map, option_and_then}
use Rattle.std.proofs.lemmas.Bool.Decides.{nat_tests}
use Rattle.std.proofs.lemmas.Nat.{div-mul-add, mod-mul-add, div-add-mod', div_below, mod_below}
use Rattle.std.proofs.lemmas.List.Quantifiers.{position-Some}
use Rattle.std.proofs.Math.Seq.{take-append_seam, drop-append-add}
use Rattle.dxc_num.specs.declared.port.Port.{Port}
use Rattle.dxc_num.specs.declared.port.Middle.{Middle}
use Rattle.dxc_num.specs.Dimensions.{Dimensions, IsInLimits, module_of, slot_of, IsModule, IsPort, IsWorking}
use Rattle.dxc_aid.specs.Names.{IsSameText, module_name, middle_name, port_name, NamesModule, NamesMiddle, NamesPort, number_of, up_to, behind, numbered, module_named, middle_at, middle_named, port_at, port_of_numbers, port_named}
use Rattle.dxc_aid.proofs.Numbers.{digits_of, number_read, number_written, up_to_is, up_to_has, no_letters, digits_no_letters, dash_behind}
use Rattle.dxc_aid.proofs.Cases.{behind_is, behind_of}

pub map_some : {A B : Type 0} (f : A → B) (o : Option A) (y : B) → option_map f o ≡ Some y → (x : A) × ((o ≡ Some x) × (f x ≡ y))
map_some f None y is = cc
map_some f (Some x) y is = (x, (refl, cc))

pub then_some : {A B : Type 0} (f : A → Option B) (o : Option A) (y : B) → option_and_then f o ≡ Some y → (x : A) × ((o ≡ Some x) × (f x ≡ Some y))
then_some f None y is = cc
then_some f (Some x) y is = (x, (refl, is))

plain_number : (n : ℕ) → n ≤ 99 → no_letters (decimal n) ≡ true
plain_number n le = ap no_letters (sym (append-nil (decimal n))) ∙ digits_no_letters n (decimal n) [] (digits_of n le) refl

-- what a text numbers after four bytes is what it writes there, and what it writes there is what it numbers
pub numbered_is : (front : List ℕ) (most : ℕ) (text : List ℕ) (k : ℕ) → numbered front most text ≡ Some k → (k < most) × IsSameText text (front ++ decimal (k + 1))
numbered_is front most text k is =
    let found = map_some (λ n. n - 1) (option_and_then (up_to most) (option_and_then number_of (behind front text))) k is in
    let bound = up_to_is most found.0 (option_and_then number_of (behind front text)) found.1.0 in
    let rest = then_some number_of (behind front text) found.0 bound.0 in
    let written = number_written rest.0 found.0 rest.1.1 in
    let same : k + 1 ≡ found.0 = omega (arith, found.1.1, written.least) in
    (omega (arith, same, bound.1), behind_is front text rest.0 rest.1.0 ∙ ap (λ (l : List ℕ). map to_ascii_lowercase (front ++ l)) (written.text ∙ ap decimal (sym same)))

pub numbered_read : (front : List ℕ) (most : ℕ) (text : List ℕ) (k : ℕ) → length front ≡ 4 → most ≤ 99 → k < most → IsSameText text (front ++ decimal (k + 1)) → numbered front most text ≡ Some k
numbered_read front most text k four few inside name =
    let least : k + 1 ≤ 99 = omega (arith, inside, few) in
    let here = behind_of front text (decimal (k + 1)) four (plain_number (k + 1) least) name in
    let number = number_read (k + 1) (omega arith) least in
    let bound = up_to_has most (k + 1) (omega (arith, inside)) in
    let same : (k + 1) - 1 ≡ k = omega arith in
    rw (here, number, bound, same) (refl)

module _ (d : Dimensions) (limits : IsInLimits d) where
  -- modules and middles
  pub module_is : (text : List ℕ) (m : ℕ) → module_named d text ≡ Some m → NamesModule d text m
  unfolding module_named
  module_is text m is = let found = numbered_is (codes "MOD-") d.modules text m is in record { inside = found.0; name = found.1 }

  pub module_read : (text : List ℕ) (m : ℕ) → NamesModule d text m → module_named d text ≡ Some m
  unfolding module_named
  module_read text m names = numbered_read (codes "MOD-") d.modules text m refl (omega (arith, limits.most_modules)) names.inside names.name

  pub middle_is : (text : List ℕ) (m : Middle) → middle_named d text ≡ Some m → NamesMiddle d text m
  unfolding middle_named
  middle_is text m is =
      let number = map_some middle_at (numbered (codes "MID-") d.slots text) m is in
      let found = numbered_is (codes "MID-") d.slots text number.0 number.1.0 in
      subst (NamesMiddle d text) number.1.1 (record { inside = found.0; name = found.1 })

  pub middle_read : (text : List ℕ) (m : Middle) → NamesMiddle d text m → middle_named d text ≡ Some m
  unfolding middle_named
  middle_read text m names = ap (option_map middle_at) (numbered_read (codes "MID-") d.slots text m.0 refl (omega (arith, limits.most_slots)) names.inside names.name)

  -- ports
  record IsNumbered (text : List ℕ) (p : Port) : Type 0 where
    pub number : ℕ
    pub slot : ℕ
    pub text_is : text ≡ decimal number ++ 45 ∷ decimal slot
    pub least_number : 1 ≤ number
    pub most_number : number ≤ d.modules
    pub least_slot : 1 ≤ slot
    pub most_slot : slot ≤ d.slots
    pub port : port_at d number slot ≡ p

  at_dash : (text : List ℕ) (at : ℕ) → position (λ b. b == 45) text ≡ Some at → text ≡ take at text ++ 45 ∷ drop (at + 1) text
  at_dash text at is =
      let found = position-Some (λ b. b == 45) text at 0 is in
      let dash : get_or text at 0 ≡ 45 = (let test : (get_or text at 0 == 45) ≡ true = found.1 in grind (arith, nat_tests, test)) in
      let rest : drop at text ≡ 45 ∷ drop (at + 1) text = drop-cons text at 0 found.0 ∙ ap₂ (λ (b : ℕ) (n : ℕ). b ∷ drop n text) dash (let same : suc at ≡ at + 1 = omega arith in same) in
      sym (take-append-drop at text) ∙ ap (λ (l : List ℕ). take at text ++ l) rest

  parts_at : (text a b : List ℕ) (at : ℕ) → position (λ b. b == 45) text ≡ Some at → take at text ≡ a → drop (at + 1) text ≡ b → text ≡ a ++ 45 ∷ b
  parts_at text a b at is one two = at_dash text at is ∙ ap₂ (λ (x y : List ℕ). x ++ 45 ∷ y) one two

  parted : (text : List ℕ) (p : Port) → port_of_numbers d text ≡ Some p → IsNumbered text p
  parted text p is =
      let at = then_some (λ (at : ℕ). option_and_then (λ (number : ℕ). option_map (λ (slot : ℕ). port_at d number slot) (option_and_then (up_to d.slots) (number_of (drop (at + 1) text)))) (option_and_then (up_to d.modules) (number_of (take at text)))) (position (λ b. b == 45) text) p is in
      let number = then_some (λ (number : ℕ). option_map (λ (slot : ℕ). port_at d number slot) (option_and_then (up_to d.slots) (number_of (drop (at.0 + 1) text)))) (option_and_then (up_to d.modules) (number_of (take at.0 text))) p at.1.1 in
      let slot = map_some (λ (slot : ℕ). port_at d number.0 slot) (option_and_then (up_to d.slots) (number_of (drop (at.0 + 1) text))) p number.1.1 in
      let first = up_to_is d.modules number.0 (number_of (take at.0 text)) number.1.0 in
      let second = up_to_is d.slots slot.0 (number_of (drop (at.0 + 1) text)) slot.1.0 in
      let one = number_written (take at.0 text) number.0 first.0 in
      let two = number_written (drop (at.0 + 1) text) slot.0 second.0 in
      record {
        number = number.0;
        slot = slot.0;
        text_is = parts_at text (decimal number.0) (decimal slot.0) at.0 at.1.0 one.text two.text;
        least_number = one.least;
        most_number = first.1;
        least_slot = two.least;
        most_slot = second.1;
        port = slot.1.1;
      }

  -- two numbers joined by - are read as the port that they make
  numbers_read : (number slot : ℕ) → 1 ≤ number → number ≤ d.modules → 1 ≤ slot → slot ≤ d.slots → port_of_numbers d (decimal number ++ 45 ∷ decimal slot) ≡ Some (port_at d number slot)
  numbers_read number slot ln mn ls ms =
      let most_number : number ≤ 99 = omega (arith, mn, limits.most_modules) in
      let most_slot : slot ≤ 99 = omega (arith, ms, limits.most_slots) in
      let dash = dash_behind number (decimal number) (decimal slot) (digits_of number most_number) in
      let front : take (length (decimal number)) (decimal number ++ 45 ∷ decimal slot) ≡ decimal number = take-append_seam (decimal number) (45 ∷ decimal slot) in
      let back : drop (length (decimal number) + 1) (decimal number ++ 45 ∷ decimal slot) ≡ decimal slot = drop-append-add (decimal number) (45 ∷ decimal slot) 1 in
      rw (dash, front, back, number_read number ln most_number, up_to_has d.modules number mn, number_read slot ls most_slot, up_to_has d.slots slot ms) (refl)

  -- the numbers of a port, and the port of its numbers
  module_at : (number slot : ℕ) → 1 ≤ number → 1 ≤ slot → slot ≤ d.slots → module_of d (port_at d number slot) + 1 ≡ number
  module_at number slot ln ls ms = omega (arith, div-mul-add (number - 1) d.slots (slot - 1) (omega (arith, ls, ms)), ln)

  slot_at : (number slot : ℕ) → 1 ≤ slot → slot ≤ d.slots → slot_of d (port_at d number slot) + 1 ≡ slot
  slot_at number slot ls ms = omega (arith, mod-mul-add (number - 1) d.slots (slot - 1) (omega (arith, ls, ms)), ls)

  port_inside : (number slot : ℕ) → 1 ≤ number → number ≤ d.modules → 1 ≤ slot → slot ≤ d.slots → IsPort d (port_at d number slot)
  port_inside number slot ln mn ls ms =
      let rows : (number - 1) * d.slots + d.slots ≤ d.modules * d.slots = (
      let more : (number - 1) * d.slots + d.slots ≡ ((number - 1) + 1) * d.slots = omega arith in
      let less : ((number - 1) + 1) * d.slots ≤ d.modules * d.slots = grind (arith, ln, mn) in
      omega (arith, more, less)) in
      omega (arith, rows, ls, ms)

  joined : (number slot : ℕ) → ((codes "DS0-" ++ decimal number) ++ codes "-") ++ decimal slot ≡ codes "DS0-" ++ (decimal number ++ 45 ∷ decimal slot)
  joined number slot = append_assoc (codes "DS0-" ++ decimal number) (codes "-") (decimal slot) ∙ append_assoc (codes "DS0-") (decimal number) (45 ∷ decimal slot)

  pub port_is : (text : List ℕ) (p : Port) → port_named d text ≡ Some p → NamesPort d text p
  unfolding port_named
  port_is text p is =
      let rest = then_some (port_of_numbers d) (behind (codes "DS0-") text) p is in
      let found = parted rest.0 p rest.1.1 in
      let one : module_of d p + 1 ≡ found.number = ap (λ (q : Port). module_of d q + 1) (sym found.port) ∙ module_at found.number found.slot found.least_number found.least_slot found.most_slot in
      let two : slot_of d p + 1 ≡ found.slot = ap (λ (q : Port). slot_of d q + 1) (sym found.port) ∙ slot_at found.number found.slot found.least_slot found.most_slot in
      let name : codes "DS0-" ++ rest.0 ≡ port_name d p = ap (λ (l : List ℕ). codes "DS0-" ++ l) found.text_is ∙ sym (joined found.number found.slot) ∙ ap₂ (λ (a b : ℕ). ((codes "DS0-" ++ decimal a) ++ codes "-") ++ decimal b) (sym one) (sym two) in
      record {
        inside = subst (IsPort d) found.port (port_inside found.number found.slot found.least_number found.most_number found.least_slot found.most_slot);
        name = behind_is (codes "DS0-") text rest.0 rest.1.0 ∙ ap (λ (l : List ℕ). map to_ascii_lowercase l) name;
      }

  pub port_read : (text : List ℕ) (p : Port) → NamesPort d text p → port_named d text ≡ Some p
  unfolding port_named
  port_read text p names =
      let some : 0 < d.slots = omega (arith, limits.least_slots) in
      let mn : module_of d p + 1 ≤ d.modules = omega (arith, div_below p.0 d.slots d.modules some names.inside) in
      let ms : slot_of d p + 1 ≤ d.slots = omega (arith, mod_below p.0 d.slots some) in
      let low : no_letters (decimal (module_of d p + 1) ++ 45 ∷ decimal (slot_of d p + 1)) ≡ true =
      digits_no_letters (module_of d p + 1) (decimal (module_of d p + 1)) (45 ∷ decimal (slot_of d p + 1)) (digits_of (module_of d p + 1) (omega (arith, mn, limits.most_modules))) (plain_number (slot_of d p + 1) (omega (arith, ms, limits.most_slots))) in
      let name : IsSameText text (codes "DS0-" ++ (decimal (module_of d p + 1) ++ 45 ∷ decimal (slot_of d p + 1))) = names.name ∙ ap (λ (l : List ℕ). map to_ascii_lowercase l) (joined (module_of d p + 1) (slot_of d p + 1)) in
      let here = behind_of (codes "DS0-") text (decimal (module_of d p + 1) ++ 45 ∷ decimal (slot_of d p + 1)) refl low name in
      let read = numbers_read (module_of d p + 1) (slot_of d p + 1) (omega arith) mn (omega arith) ms in
      let back : ((module_of d p + 1) - 1) * d.slots + ((slot_of d p + 1) - 1) ≡ p.0 = (
      let one : (module_of d p + 1) - 1 ≡ module_of d p = omega arith in
      let two : (slot_of d p + 1) - 1 ≡ slot_of d p = omega arith in
      ap₂ (λ (a b : ℕ). a * d.slots + b) one two ∙ div-add-mod' p.0 d.slots) in
      ap (λ (o : Option (List ℕ)). option_and_then (port_of_numbers d) o) here ∙ read ∙ ap (λ (n : ℕ). Some (record { 0 = n })) back

pub module_again : (d : Dimensions) → IsInLimits d → (m : ℕ) → IsModule d m → module_named d (module_name m) ≡ Some m
module_again d limits m inside = module_read d limits (module_name m) m (record { inside = inside; name = refl })

pub middle_again : (d : Dimensions) → IsInLimits d → (m : Middle) → IsWorking d m.0 → middle_named d (middle_name m) ≡ Some m
middle_again d limits m inside = middle_read d limits (middle_name m) m (record { inside = inside; name = refl })

pub port_again : (d : Dimensions) → IsInLimits d → (p : Port) → IsPort d p → port_named d (port_name d p) ≡ Some p
port_again d limits p inside = port_read d limits (port_name d p) p (record { inside = inside; name = refl })
