-- What each step of the mover does to its part, and when it may be taken.
use Rattle.std.specs.Prelude.{◌≡◌, ◌≢◌, ◌⊎◌, ℕ, ◌+◌, ◌^◌, ◌<◌, ◌≤◌, List, [], ◌∷◌, ◌++◌, map, length, slice_set, Option, Some, None}
use Rattle.dxc_num.specs.Dimensions.{Dimensions, IsInside, module_of, slot_of}
use Rattle.dxc_num.specs.declared.port.Port.{Port}
use Rattle.dxc_num.specs.declared.port.Leg.{Leg}
use Rattle.dxc_num.specs.declared.port.Middle.{Middle}
use Rattle.dxc_num.specs.declared.port.Route.{Route}
use Rattle.dxc_num.specs.declared.register.RegWrite.{RegWrite}
use Rattle.dxc_num.specs.declared.register.WriteKind.{WriteKind}
use Rattle.dxc_num.specs.declared.register.WriteKind.TheVariants as kind
use Rattle.fabric_core.specs.declared.size.Size.{Size}
use Rattle.fabric_core.specs.declared.registers.Registers.{Registers}
use Rattle.fabric_core.specs.declared.phase.Phase.{Phase}
use Rattle.fabric_core.specs.declared.phase.Phase.TheVariants.{Rest, InSet, MidSet, Old, Freed}
use Rattle.fabric_core.specs.declared.mover.Mover.{Mover}
use Rattle.fabric_core.specs.Registers.{in_cell, mid_cell, in_word, mid_word, out_word, out_of}
use Rattle.fabric_core.specs.Passing.{Passed}
use Rattle.fabric_core.specs.State.{leg_at, looks_of}

-- a middle of the shape; the last is the spare
abbrev pub IsMiddle : Dimensions → Middle → Type 0
IsMiddle d k = k.0 ≤ d.slots

abbrev pub over : Leg → Middle → Route
over l k = record { input = l.input; middle = k }

-- one register word changed
abbrev pub with_in : Dimensions → Leg → Middle → ℕ → Registers → Registers
with_in d l k q r = record { ins = slice_set r.ins (in_cell d (module_of d l.input) k) q; mids = r.mids; outs = r.outs }

abbrev pub with_mid : Dimensions → Leg → Middle → ℕ → Registers → Registers
with_mid d l k q r = record { ins = r.ins; mids = slice_set r.mids (mid_cell d k (module_of d l.output)) q; outs = r.outs }

abbrev pub with_out : Port → ℕ → Registers → Registers
with_out y o r = record { ins = r.ins; mids = r.mids; outs = slice_set r.outs y.0 o }

-- one write more, on the path of the leg over the middle
abbrev pub written_on : WriteKind → Leg → Middle → Mover → List RegWrite
written_on t l k m = m.written ++ record { kind = t; leg = l; middle = k } ∷ []

-- the leg is established, as this route of its output
pub record IsEstablished (m : Mover) (l : Leg) (w : Route) : Type 0 where
  pub here : leg_at m l.output ≡ Some w
  pub same : w.input ≡ l.input

-- no established leg uses the input side of x
abbrev pub IsUnused : Mover → Port → Type 0
IsUnused m x = (y : Port) (w : Route) → leg_at m y ≡ Some w → w.input ≢ x

-- the leg's output is none, and its sides are unused
abbrev pub IsNew : Mover → Leg → Type 0
IsNew m l = (leg_at m l.output ≡ None) × (out_word m.registers l.output ≡ 0) × IsUnused m l.input

pub record CanSetIn (d : Dimensions) (m : Mover) (l : Leg) (k : Middle) : Type 0 where
  pub rests : m.phase ≡ Rest
  pub inside : IsInside d l
  pub middle : IsMiddle d k
  pub in_none : in_word d m.registers (module_of d l.input) k ≡ 0
  pub mid_none : mid_word d m.registers k (module_of d l.output) ≡ 0
  pub may_go : ((w : Route) × IsEstablished m l w) ⊎ IsNew m l

abbrev pub in_set : Dimensions → Leg → Middle → Mover → Mover
in_set d l k m = record { registers = with_in d l k (slot_of d l.input + 1) m.registers; legs = m.legs; phase = InSet l k; written = written_on kind.SetIn l k m; log = m.log; looks = m.looks }

abbrev pub mid_set : Dimensions → Leg → Middle → Mover → Mover
mid_set d l k m = record { registers = with_mid d l k (module_of d l.input + 1) m.registers; legs = m.legs; phase = MidSet l k; written = written_on kind.SetMid l k m; log = m.log; looks = m.looks }

-- there are switch numbers left
abbrev pub HasSwitch : Mover → Type 0
HasSwitch m = length m.log < 2 ^ 48

abbrev pub after_switch : Leg → Option Route → Phase
after_switch l None = Rest
after_switch l (Some w) = Old l w.middle

abbrev pub no_looks : List (List ℕ) → List (List ℕ)
no_looks ls = map (λ _. []) ls

abbrev pub looks_after : Option Route → List (List ℕ) → List (List ℕ)
looks_after None ls = ls
looks_after (Some w) ls = no_looks ls

abbrev pub switched : Leg → Middle → Mover → Mover
switched l k m = record {
  registers = with_out l.output (out_of (length m.log + 1) k) m.registers;
  legs = slice_set m.legs l.output.0 (Some (over l k));
  phase = after_switch l (leg_at m l.output);
  written = written_on kind.SwitchOut l k m;
  log = m.log ++ l ∷ [];
  looks = looks_after (leg_at m l.output) m.looks;
}

abbrev pub CanClearOut : Mover → Leg → Route → Type 0
CanClearOut m l w = (m.phase ≡ Rest) × IsEstablished m l w

abbrev pub out_cleared : Leg → Middle → Mover → Mover
out_cleared l k m = record { registers = with_out l.output 0 m.registers; legs = slice_set m.legs l.output.0 None; phase = Old l k; written = written_on kind.ClearOut l k m; log = m.log; looks = no_looks m.looks }

abbrev pub looked : ℕ → ℕ → Mover → Mover
looked w f m = record { registers = m.registers; legs = m.legs; phase = m.phase; written = m.written; log = m.log; looks = slice_set m.looks w (looks_of m w ++ f ∷ []) }

abbrev pub AllPassed : Size → Mover → Type 0
AllPassed z m = (w : ℕ) → w < z.workers → Passed (looks_of m w)

-- the path is half built, or was left and all workers have passed
abbrev pub CanClearMid : Size → Mover → Leg → Middle → Type 0
CanClearMid z m l k = (m.phase ≡ MidSet l k) ⊎ ((m.phase ≡ Old l k) × AllPassed z m)

abbrev pub mid_cleared : Dimensions → Leg → Middle → Mover → Mover
mid_cleared d l k m = record { registers = with_mid d l k 0 m.registers; legs = m.legs; phase = Freed l k; written = written_on kind.ClearMid l k m; log = m.log; looks = m.looks }

abbrev pub CanClearIn : Mover → Leg → Middle → Type 0
CanClearIn m l k = (m.phase ≡ InSet l k) ⊎ (m.phase ≡ Freed l k)

abbrev pub in_cleared : Dimensions → Leg → Middle → Mover → Mover
in_cleared d l k m = record { registers = with_in d l k 0 m.registers; legs = m.legs; phase = Rest; written = written_on kind.ClearIn l k m; log = m.log; looks = m.looks }
