-- The askings of a call, one after the other.
use Rattle.std.proofs.Common.{◌≡◌, ℕ, ◌+◌, ◌-◌, List, [], ◌∷◌, ◌++◌, length, replicate, Ok, Err, ap, ◌∙◌, arith, length-append}
use Rattle.std.proofs.lemmas.List.{replicate_more, replicate-append-replicate}
use Rattle.dxc_num.specs.declared.register.RegWrite.{RegWrite}
use Rattle.dxc_outside.specs.declared.gate.GatePlace.{GatePlace}
use Rattle.dxc_outside.specs.declared.gate.GatePlace.TheVariants.{Register}
use Rattle.roll_engine.specs.declared.halt.Halt.TheVariants.{InFrame, Stopped}
use Rattle.roll_engine.specs.Answers.{Answer, askings, asked_at}

abbrev pub times : ℕ → List GatePlace
times n = replicate n Register

shorter : (before writes left : List RegWrite) → before ≡ writes ++ left → length before ≡ length writes + length left
shorter before writes left e = ap length e ∙ length-append writes left

-- nothing was written, and nothing asked
pub asked_nothing : (ws : List RegWrite) → asked_at ws ws (Ok tt) ≡ []
asked_nothing ws = ap times (let e : length ws - length ws ≡ 0 = omega arith in e)

-- one write more
pub asked_more : (before writes : List RegWrite) (w : RegWrite) (left : List RegWrite) → before ≡ writes ++ w ∷ left → asked_at before (w ∷ left) (Ok tt) ++ Register ∷ [] ≡ asked_at before left (Ok tt)
asked_more before writes w left e =
    let n = shorter before writes (w ∷ left) e in
    let more : (length before - length (w ∷ left)) + 1 ≡ length before - length left = omega arith in
    replicate_more (length before - length (w ∷ left)) Register ∙ ap times more

-- an asking that stopped
pub asked_stopped : (before left : List RegWrite) → asked_at before left (Ok tt) ++ Register ∷ [] ≡ asked_at before left (Err Stopped)
asked_stopped before left = replicate_more (length before - length left) Register

sum_asked : (n m : ℕ) (a : Answer) → n + askings m a ≡ askings (n + m) a
sum_asked n m (Ok x) = omega arith
sum_asked n m (Err (InFrame f)) = omega arith
sum_asked n m (Err Stopped) = omega arith

-- the askings of a call after those of earlier ones
pub asked_behind : (first mid last : List RegWrite) (writes more : List RegWrite) (a : Answer) → first ≡ writes ++ mid → mid ≡ more ++ last → asked_at first mid (Ok tt) ++ asked_at mid last a ≡ asked_at first last a
asked_behind first mid last writes more a e h =
    let n = shorter first writes mid e in
    let m = shorter mid more last h in
    let whole : (length first - length mid) + (length mid - length last) ≡ length first - length last = omega arith in
    replicate-append-replicate (length first - length mid) (askings (length mid - length last) a) Register ∙ ap times (sum_asked (length first - length mid) (length mid - length last) a ∙ ap (λ (k : ℕ). askings k a) whole)

-- what comes after the writes in hand changes nothing
pub asked_in_front : (before left behind : List RegWrite) (a : Answer) → asked_at before left a ≡ asked_at (before ++ behind) (left ++ behind) a
asked_in_front before left behind a =
    let n = length-append before behind in
    let m = length-append left behind in
    let same : length before - length left ≡ length (before ++ behind) - length (left ++ behind) = omega arith in
    ap (λ (k : ℕ). times (askings k a)) same
