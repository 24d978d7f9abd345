-- Each output byte is the input byte of its own connection.
use Rattle.std.proofs.Common.{◌≡◌, ◌⊎◌, ℕ, zero, suc, ◌+◌, ◌<◌, List, [], ◌∷◌, ◌++◌, length, get_or, sym, refl, ap, ◌∙◌, inl, inr, subst, ⊎_elim, arith}
use mathlib.Core.Option.{some, some-ne-none}
use lib.ListN.{get_elem?}
use Rattle.dxc_num.specs.declared.port.Port.{Port}
use Rattle.fabric_core.specs.declared.size.Size.{Size}
use Rattle.fabric_core.specs.declared.worker.Note.{Note}
use Rattle.fabric_core.specs.declared.worker.Note.TheVariants.{OutWord, MidWord, InWord, Carried as WasCarried}
use Rattle.fabric_core.specs.Hitless.{IsHitless}
use Rattle.fabric_core.specs.Registers.{number_in}
use Rattle.fabric_core.specs.State.{Core}
use Rattle.frame_worker.specs.Frames.{CarriesFrom, CarriesOne, IsCarried, IsIdle, IsOthers}
use Rattle.frame_worker.specs.Laws.{AreOwnBytes, Carried, IsAmong, IsElsewhere, IsOfConnection, IsUnconnected}

among_right : (n : Note) (ms ns : List Note) → IsAmong n ns → IsAmong n (ms ++ ns)
among_right n [] ns h = h
among_right n (m ∷ ms) ns h = let r = among_right n ms ns h in (suc r.0, r.1)

among_left : (n : Note) (ms ns : List Note) → IsAmong n ms → IsAmong n (ms ++ ns)
among_left n [] ns (t, at) = absurd (some-ne-none n (sym at))
among_left n (m ∷ ms) ns (zero, at) = (zero, at)
among_left n (m ∷ ms) ns (suc t, at) = let r = among_left n ms ns (t, at) in (suc r.0, r.1)

-- what was noted of one output stands among the notes of the frame
record IsOutput (z : Size) (w : ℕ) (input : List ℕ) (y : ℕ) (b : ℕ) (ns : List Note) : Type 0 where
  one : List Note
  carries : CarriesOne z w input (record { 0 = y }) one b
  within : (n : Note) → IsAmong n one → IsAmong n ns

output_at : (z : Size) (w : ℕ) (input : List ℕ) (first : ℕ) (bytes : List ℕ) (ns : List Note) (i : ℕ) → i < length bytes → CarriesFrom z w input first bytes ns → IsOutput z w input (first + i) (get_or bytes i 0) ns
output_at z w input first [] ns i low h = absurd (omega arith)
output_at z w input first (b ∷ bytes) ns zero low (one, rest, split, here, later) = let e : first + 0 ≡ first = omega arith in record {
  one = one;
  carries = subst (λ (k : ℕ). CarriesOne z w input (record { 0 = k }) one b) (sym e) here;
  within = λ n h. subst (IsAmong n) (sym split) (among_left n one rest h);
}
output_at z w input first (b ∷ bytes) ns (suc i) low (one, rest, split, here, later) =
    let e : (first + 1) + i ≡ first + suc i = omega arith in
    let found = output_at z w input (first + 1) bytes rest i (omega arith) later in record {
      one = found.one;
      carries = subst (λ (k : ℕ). CarriesOne z w input (record { 0 = k }) found.one (get_or bytes i 0)) e found.carries;
      within = λ n h. subst (IsAmong n) (sym split) (among_right n one rest (found.within n h));
    }

module _ (c : Core) (f : Carried c) (hitless : IsHitless c) where
  -- what was noted in the frame was noted by the worker
  noted : (n : Note) → IsAmong n f.notes → IsAmong n f.worker.notes
  noted n h = subst (IsAmong n) (sym f.noted.1) (among_right n f.earlier (f.notes ++ f.noted.0) (among_left n f.notes f.noted.0 h))

  abbrev Owns : Port → ℕ → Type 0
  Owns y b = IsElsewhere c.size f.worker.number y b ⊎ IsUnconnected y f.notes b ⊎ IsOfConnection c.mover.log f.input y f.notes b

  connected : (y : Port) (b : ℕ) (one : List Note) → ((n : Note) → IsAmong n one → IsAmong n f.notes) → IsCarried c.size f.worker.number f.input y one b → IsOfConnection c.mover.log f.input y f.notes b
  connected y b one within h = let last = noted (WasCarried y (number_in h.out_word) h.x) (within (WasCarried y (number_in h.out_word) h.x) (subst (IsAmong (WasCarried y (number_in h.out_word) h.x)) (sym h.noted) (3, refl))) in record {
    out_word = h.out_word;
    loaded = within (OutWord y h.out_word) (subst (IsAmong (OutWord y h.out_word)) (sym h.noted) (0, refl));
    x = h.x;
    switched = hitless.logged f.worker.number f.worker f.here last.0 (number_in h.out_word) y h.x last.1;
    byte = h.byte;
  }

  owns : (y : Port) (b : ℕ) (one : List Note) → ((n : Note) → IsAmong n one → IsAmong n f.notes) → CarriesOne c.size f.worker.number f.input y one b → Owns y b
  owns y b one within h = ⊎_elim (λ (o : IsOthers c.size f.worker.number y one b). inl (o.0, o.2))
      (λ (k : IsIdle c.size f.worker.number y one b ⊎ IsCarried c.size f.worker.number f.input y one b). ⊎_elim
      (λ (o : IsIdle c.size f.worker.number y one b). inr (inl (within (OutWord y 0) (subst (IsAmong (OutWord y 0)) (sym o.1) (0, refl)), o.2)))
      (λ (o : IsCarried c.size f.worker.number f.input y one b). inr (inr (connected y b one within o))) k) h

  own_byte : (y : Port) → y.0 < length f.bytes → Owns y (get_or f.bytes y.0 0)
  own_byte y low = let found = output_at c.size f.worker.number f.input 0 f.bytes f.notes y.0 low f.frame.outputs in
      let e : 0 + y.0 ≡ y.0 = omega arith in
      owns y (get_or f.bytes y.0 0) found.one found.within (subst (λ (k : ℕ). CarriesOne c.size f.worker.number f.input (record { 0 = k }) found.one (get_or f.bytes y.0 0)) e found.carries)

pub own_bytes : AreOwnBytes
own_bytes c f y hitless low = own_byte c f hitless y low
