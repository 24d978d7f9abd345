-- What a disk's file is known to begin with, after a write.
use Rattle.std.proofs.Common.{◌≡◌, ⊎_elim, ◌⊎◌, ℕ, ◌+◌, ◌-◌, ◌≤◌, min, List, [], ◌++◌, length, take, drop, sym, ◌∙◌, ap, subst, arith, length-take, append_assoc}
use Rattle.std.proofs.Math.Seq.{take-append_seam}
use Rattle.std.proofs.lemmas.Bool.{cases_lt}
use Rattle.std.proofs.lemmas.List.{append-nil, drop_all, take-append-drop, take_all}
use Rattle.dxc_disk.specs.Replay.{overwritten}

-- a part is written over, and the rest appended, or not
pub over_then : (at over : ℕ) (from f new : List ℕ) → at ≤ length f → over ≡ min (length from) (length f - at)
    → (new ≡ overwritten at (take over from) f) ⊎ (new ≡ overwritten at (take over from) f ++ drop over from)
    → take (length new) (overwritten at from f) ≡ new
over_then at over from f new within size came =
    let part = overwritten at (take over from) f in
    let taken : length (take over from) ≡ over = let l = length-take over from in omega (arith, l, size) in
    let whole : overwritten at from f ≡ part ++ drop over from =
    ⊎_elim
    (λ past.
    let none : drop (at + length from) f ≡ [] = drop_all (at + length from) f (omega (arith, past)) in
    let none_of_part : drop (at + length (take over from)) f ≡ [] = drop_all (at + length (take over from)) f (omega (arith, past, taken, size)) in
    ap (λ (l : List ℕ). take at f ++ from ++ l) none ∙ append-nil (take at f ++ from) ∙ ap (λ (l : List ℕ). take at f ++ l) (sym (take-append-drop over from))
    ∙ sym (append_assoc (take at f) (take over from) (drop over from))
    ∙ ap (λ (l : List ℕ). l ++ drop over from) (sym (append-nil (take at f ++ take over from)) ∙ ap (λ (l : List ℕ). take at f ++ take over from ++ l) (sym none_of_part)))
    (λ before.
    let all : take over from ≡ from = take_all over from (omega (arith, before, size)) in
    let none : drop over from ≡ [] = drop_all over from (omega (arith, before, size)) in
    ap (λ (l : List ℕ). overwritten at l f) (sym all) ∙ sym (append-nil part) ∙ ap (λ (l : List ℕ). part ++ l) (sym none))
    (cases_lt (length f) (at + length from)) in
    ⊎_elim
    (λ short. subst (λ (l : List ℕ). take (length l) (overwritten at from f) ≡ l) (sym short) (ap (take (length part)) whole ∙ take-append_seam part (drop over from)))
    (λ long. subst (λ (l : List ℕ). take (length l) (overwritten at from f) ≡ l) (sym (long ∙ sym whole)) (take_all (length (overwritten at from f)) (overwritten at from f) (omega arith)))
    came
