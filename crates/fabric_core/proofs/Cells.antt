-- Where the registers lie, what an OUT word gives back, and the source of an established leg.
use Rattle.std.proofs.Common.{◌≡◌, ◌≢◌, ℕ, ◌+◌, ◌-◌, ◌*◌, ◌<◌, ◌==◌, if◌then◌else◌, sym, ap, ◌∙◌, arith, Some, None, ne_eqb}
use Rattle.std.proofs.Math.Nat.{div-lt_iff_lt-mul}
use Rattle.std.proofs.lemmas.Nat.{same_from_place, mul-add-lt, div-add-mod'}
use native.Mathlib.Decide.{ℕ_discrete}
use Rattle.dxc_num.specs.Dimensions.{Dimensions, IsInLimits, IsPort, module_of, slot_of}
use Rattle.dxc_num.specs.declared.port.Port.{Port}
use Rattle.dxc_num.specs.declared.port.Middle.{Middle}
use Rattle.dxc_num.specs.declared.port.Route.{Route}
use Rattle.fabric_core.specs.declared.mover.Mover.{Mover}
use Rattle.fabric_core.specs.Registers.{in_cell, mid_cell, in_count, mid_count, in_word, mid_word, out_word, middle_in, number_in, out_of, port_at, src}
use Rattle.fabric_core.specs.Moving.{IsMiddle}
use Rattle.fabric_core.specs.Laid.{IsLaid}

pub port_of_number : (y u : Port) → y.0 ≡ u.0 → y ≡ u
port_of_number y u e = λ i. record { 0 = e i }

pub port_discrete : (y u : Port) → Dec (y ≡ u)
port_discrete y u = elim (ℕ_discrete y.0 u.0) [ yes e ↦ yes (port_of_number y u e) | no e ↦ no (λ h. e (ap (λ (p : Port). p.0) h)) ]

pub middle_of_number : (k q : Middle) → k.0 ≡ q.0 → k ≡ q
middle_of_number k q e = λ i. record { 0 = e i }

pub module_lt : (d : Dimensions) (y : Port) → IsInLimits d → IsPort d y → module_of d y < d.modules
module_lt d y s h = (div-lt_iff_lt-mul s.least_slots).1 h

pub in_cell_lt : (d : Dimensions) (i : ℕ) (k : Middle) → i < d.modules → IsMiddle d k → in_cell d i k < in_count d
in_cell_lt d i k h le = let b : (k.0 + 1) * d.modules + i < d.modules * (d.slots + 2) = mul-add-lt (k.0 + 1) d.modules i (d.slots + 2) (omega arith) h in omega arith

pub mid_cell_lt : (d : Dimensions) (k : Middle) (j : ℕ) → IsMiddle d k → j < d.modules → mid_cell d k j < mid_count d
mid_cell_lt d k j le h = let b : (k.0 + 1) * d.modules + j < d.modules * (d.slots + 2) = mul-add-lt (k.0 + 1) d.modules j (d.slots + 2) (omega arith) h in omega arith

pub same_mid_cell : (d : Dimensions) (k : Middle) (i : ℕ) (q : Middle) (j : ℕ) → i < d.modules → j < d.modules → mid_cell d k i ≡ mid_cell d q j → (k ≡ q) × (i ≡ j)
same_mid_cell d k i q j a b e = let t = same_from_place (k.0 + 1) i (q.0 + 1) j d.modules a b e in let same : k.0 + 1 ≡ q.0 + 1 = t.0 in (middle_of_number k q (omega arith), t.1)

pub same_in_cell : (d : Dimensions) (i : ℕ) (k : Middle) (j : ℕ) (q : Middle) → i < d.modules → j < d.modules → in_cell d i k ≡ in_cell d j q → (i ≡ j) × (k ≡ q)
same_in_cell d i k j q a b e = let h : (k.0 + 1) * d.modules + i ≡ (q.0 + 1) * d.modules + j = omega arith in let t = same_mid_cell d k i q j a b h in (t.1, t.0)

pub port_is : (d : Dimensions) (x : Port) → port_at d (module_of d x) (slot_of d x) ≡ x
port_is d x = port_of_number (port_at d (module_of d x) (slot_of d x)) x (div-add-mod' x.0 d.slots)

-- a port is known by its module and its slot
pub same_port_at : (d : Dimensions) (x y : Port) → module_of d x ≡ module_of d y → slot_of d x ≡ slot_of d y → x ≡ y
same_port_at d x y e f = sym (port_is d x) ∙ ((λ j. port_at d (e j) (f j)) ∙ port_is d y)

pub middle_is : (n : ℕ) (k : Middle) → k.0 < 255 → middle_in (out_of n k) ≡ k
middle_is n k h = middle_of_number (middle_in (out_of n k)) k (omega arith)

pub number_is : (n : ℕ) (k : Middle) → k.0 < 255 → number_in (out_of n k) ≡ n
number_is n k h = omega arith

pick_port : (d : Dimensions) (o i q : ℕ) → o ≢ 0 → i ≢ 0 → q ≢ 0 → (if o == 0 then None else (if i == 0 then None else (if q == 0 then None else Some (port_at d (i - 1) (q - 1))))) ≡ Some (port_at d (i - 1) (q - 1))
pick_port d o i q a b c = rw (ne_eqb o 0 a, ne_eqb i 0 b, ne_eqb q 0 c)

pub src_is : (d : Dimensions) (m : Mover) (y : Port) (n : ℕ) (w : Route) → IsInLimits d → out_word m.registers y ≡ out_of n w.middle → IsLaid d m y w → src d m.registers y ≡ Some w.input
src_is d m y n w s is ok =
    let x : Port = w.input in
    let o : ℕ = out_word m.registers y in
    let low = ok.middle in
    let slots = s.most_slots in
    let e : middle_in o ≡ w.middle = ap middle_in is ∙ middle_is n w.middle (omega arith) in
    let i : ℕ = mid_word d m.registers (middle_in o) (module_of d y) in
    let i_is : i ≡ module_of d x + 1 = ap (λ (k : Middle). mid_word d m.registers k (module_of d y)) e ∙ ok.mid_is in
    let i_less : i - 1 ≡ module_of d x = omega arith in
    let q : ℕ = in_word d m.registers (i - 1) (middle_in o) in
    let q_is : q ≡ slot_of d x + 1 = (λ j. in_word d m.registers (i_less j) (e j)) ∙ ok.in_is in
    let q_less : q - 1 ≡ slot_of d x = omega arith in
    pick_port d o i q (λ h. omega arith) (λ h. omega arith) (λ h. omega arith) ∙ ap Some ((λ j. port_at d (i_less j) (q_less j)) ∙ port_is d x)
