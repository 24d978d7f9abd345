-- Where commands asked the gate.
use Rattle.std.specs.Prelude.{replicate}
use Rattle.std.proofs.Common.{◌≡◌, ◌⊎◌, ◌≤◌, ◌<◌, ℕ, ◌+◌, ◌-◌, arith, length, length-append, List, [], ◌∷◌, ◌++◌, append-nil, Result, Ok, Err, refl, sym, ◌∙◌, ap, subst, inl, inr}
use Rattle.std.proofs.lemmas.List.{replicate-append-replicate}
use Rattle.dxc_outside.specs.declared.gate.GatePlace.{GatePlace}
use Rattle.dxc_outside.specs.declared.gate.GatePlace.TheVariants.{Journal, Register, Finish}
use Rattle.dxc_outside.specs.declared.stopped.Stopped.{Stopped}
use Rattle.dxc_outside.specs.Stops.{the_stop}
use Rattle.dxc_model.specs.declared.cause.Cause.{Cause}
use Rattle.dxc_model.specs.declared.cause.Cause.TheVariants.{DiskFault}
use Rattle.roll_engine.specs.declared.halt.Halt.TheVariants as halt
use Rattle.roll_engine.specs.Answers.{Answer, asked_at}
use Rattle.dxc_num.specs.declared.register.RegWrite.{RegWrite}
use Rattle.xc_core.specs.declared.resuming.Reread.TheVariants as reread
use Rattle.xc_core.specs.Askings.{RereadAsked}
use Rattle.craft_session.specs.declared.change.Changed.{Changed}
use Rattle.craft_session.specs.declared.change.Changed.TheVariants.{Done, Denied}
use Rattle.craft_session.specs.declared.mend.Mended.{Mended}
use Rattle.craft_session.specs.declared.mend.Mended.TheVariants as mended
use Rattle.craft_session.specs.Askings.{AreMendings, AskedBehind, AskedToStop, ChangeAsked, MendAsked, RollAsked, asked_for, one_mending}

-- a gate between two moments, and on from there
module _ {X : Type 0} (asked : X → X → List GatePlace → Type 0) (on : (a b c : X) (xs ys : List GatePlace) → asked a b xs → asked b c ys → asked a c (xs ++ ys)) (a b c : X) where
  same_as : (x y : X) (ps qs : List GatePlace) → ps ≡ qs → asked x y ps → asked x y qs
  same_as x y ps qs is x_asked = subst (λ (l : List GatePlace). asked x y l) is x_asked

  module _ (all before left : List RegWrite) (writes : List RegWrite) (split : before ≡ writes ++ left) (within : length before ≤ length all) (so_far : asked a b (replicate (length all - length before) Register)) where
    longer : length before ≡ length writes + length left
    longer = ap length split ∙ length-append writes left

    pub left_within : length left ≤ length all
    left_within = let n = longer in omega (arith, n, within)

    -- the writes of one call more, after which a frame stood in the way or none is left
    made_on : asked b c (replicate (length before - length left) Register) → asked a c (replicate (length all - length left) Register)
    made_on more =
        let n = longer in
        let sum : (length all - length before) + (length before - length left) ≡ length all - length left = omega (arith, n, within) in
        same_as a c _ _ (replicate-append-replicate (length all - length before) (length before - length left) Register ∙ ap (λ (k : ℕ). replicate k Register) sum) (on a b c _ _ so_far more)

    pub frame_on : (how : Answer) (f : ℕ) → how ≡ Err (halt.InFrame f) → asked b c (asked_at before left how) → asked a c (replicate (length all - length left) Register)
    frame_on how f is more = made_on (subst (λ (x : Answer). asked b c (asked_at before left x)) is more)

    -- all were made, and the gate was asked at the end
    pub done_on : (d : X) (how : Answer) → how ≡ Ok tt → left ≡ [] → asked b c (asked_at before left how) → asked c d (Finish ∷ []) → asked a d (asked_for (length all))
    done_on d how is none more end =
        let made = made_on (subst (λ (x : Answer). asked b c (asked_at before left x)) is more) in
        let zero : length left ≡ 0 = ap length none in
        let whole : length all - length left ≡ length all = omega (arith, zero) in
        on a c d _ _ (same_as a c _ _ (ap (λ (k : ℕ). replicate k Register) whole) made) end

    -- the gate stopped before a write
    pub stopped_on : (how : Answer) → how ≡ Err halt.Stopped → (left ≡ [] → ⊥) → asked b c (asked_at before left how) → AskedToStop (asked a c) (length all)
    stopped_on how is some more =
        let n = longer in
        let here : asked b c (replicate ((length before - length left) + 1) Register) = subst (λ (x : Answer). asked b c (asked_at before left x)) is more in
        let less : 0 < length left = not_none left some in
        let sum : (length all - length before) + ((length before - length left) + 1) ≡ (length all - length left) + 1 = omega (arith, n, within) in
        inl (
          length all - length left,
          omega (arith, n, within, less),
          same_as a c _ _ (replicate-append-replicate (length all - length before) ((length before - length left) + 1) Register ∙ ap (λ (k : ℕ). replicate k Register) sum) (on a b c _ _ so_far here),
        )
      where
        not_none : (l : List RegWrite) → (l ≡ [] → ⊥) → 0 < length l
        not_none [] some = absurd (some refl)
        not_none (x ∷ xs) some = omega arith

  -- a part after what was asked before
  stop_behind : (front : List GatePlace) (writes : ℕ) → asked a b front → AskedToStop (asked b c) writes → AskedToStop (λ places. asked a c (front ++ places)) writes
  stop_behind front writes first next = elim next [ inl x ↦ inl (x.0, x.1, on a b c front _ first x.2) | inr x ↦ inr (on a b c front (asked_for writes) first x) ]

  -- a restart whose work was driven
  pub mended_by : (writes : ℕ) (how : Result Mended Stopped) → asked a b (Journal ∷ []) → ((how ≡ Ok mended.Ready) × RollAsked (asked b c) writes (Ok tt)) ⊎ ((how ≡ Err the_stop) × RollAsked (asked b c) writes (Err the_stop)) → MendAsked (asked a c) how
  mended_by writes how first next = elim next [
    | inl x ↦ subst (λ (y : Result Mended Stopped). MendAsked (asked a c) y) (sym x.0) (writes, on a b c (Journal ∷ []) (asked_for writes) first x.1)
    | inr x ↦ subst (λ (y : Result Mended Stopped). MendAsked (asked a c) y) (sym x.0) (inr (writes, stop_behind (Journal ∷ []) writes first x.1))
  ]

  -- after turns in which nothing was asked
  pub mend_on : (how : Result Mended Stopped) → asked a b [] → MendAsked (asked b c) how → MendAsked (asked a c) how
  mend_on (Ok mended.Ready) first x = (x.0, on a b c [] _ first x.1)
  mend_on (Ok (mended.Denied q)) first x = elim x [ inl none ↦ inl (on a b c [] [] first none) | inr one ↦ inr (on a b c [] _ first one) ]
  mend_on (Err e) first x = elim x [ inl one ↦ inl (on a b c [] _ first one) | inr y ↦ inr (y.0, elim y.1 [ inl z ↦ inl (z.0, z.1, on a b c [] _ first z.2) | inr z ↦ inr (on a b c [] _ first z) ]) ]
  mend_on (Ok mended.Waits) first x = on a b c [] [] first x

  pub nothing_more : (front : List GatePlace) → asked a b front → asked b c [] → asked a c front
  nothing_more front first none = same_as a c _ _ (append-nil front) (on a b c front [] first none)

  module _ (front : List GatePlace) (mends : AreMendings front) (first : asked a b front) where
    -- one restart more
    pub mending_more : (how : Result Mended Stopped) → how ≡ Ok mended.Ready → MendAsked (asked b c) how → (more : List GatePlace) × AreMendings more × asked a c more
    mending_more how is next =
        let x = subst (λ (y : Result Mended Stopped). MendAsked (asked b c) y) is next in
        (front ++ (Journal ∷ asked_for x.0), one_mending front x.0 mends, on a b c front (Journal ∷ asked_for x.0) first x.1)

    pub mending_none : (how : Result Mended Stopped) → how ≡ Ok mended.Waits → MendAsked (asked b c) how → (more : List GatePlace) × AreMendings more × asked a c more
    mending_none how is next = (front, mends, nothing_more front first (subst (λ (y : Result Mended Stopped). MendAsked (asked b c) y) is next))

    pub mending_denied : (how : Result Mended Stopped) (q : Cause) → how ≡ Ok (mended.Denied q) → MendAsked (asked b c) how → ChangeAsked (asked a c) (Ok (Denied q))
    mending_denied how q is next =
        (front, mends, elim (subst (λ (y : Result Mended Stopped). MendAsked (asked b c) y) is next) [ inl none ↦ inl (nothing_more front first none) | inr one ↦ inr (on a b c front (Journal ∷ []) first one) ])

    pub mending_stopped : (how : Result Mended Stopped) → how ≡ Err the_stop → MendAsked (asked b c) how → ChangeAsked (asked a c) (Err the_stop)
    mending_stopped how is next =
        (front, mends, elim (subst (λ (y : Result Mended Stopped). MendAsked (asked b c) y) is next) [ inl one ↦ inl (on a b c front (Journal ∷ []) first one) | inr x ↦ inr (x.0, elim x.1 [ inl y ↦ inl (y.0, y.1, on a b c front _ first y.2) | inr y ↦ inr (on a b c front _ first y) ]) ])

    -- the change's own turn
    pub denied_asked : (q : Cause) → asked b c [] → ChangeAsked (asked a c) (Ok (Denied q))
    denied_asked q next = (front, mends, inl (nothing_more front first next))

    -- and what came of its journal and its work
    pub carried_asked : (how : Result Changed Stopped) → AskedBehind (asked b c) [] how → ChangeAsked (asked a c) how
    carried_asked (Ok Done) x = (front, mends, (x.0, on a b c front (Journal ∷ asked_for x.0) first x.1))
    carried_asked (Ok (Denied q)) x = (front, mends, elim x [ inl none ↦ inl (nothing_more front first none) | inr one ↦ inr (on a b c front (Journal ∷ []) first one) ])
    carried_asked (Err e) x = (front, mends, elim x [ inl one ↦ inl (on a b c front (Journal ∷ []) first one) | inr y ↦ inr (y.0, elim y.1 [ inl z ↦ inl (z.0, z.1, on a b c front _ first z.2) | inr z ↦ inr (on a b c front _ first z) ]) ])

  -- its work was driven after the journal
  pub driven_asked : (writes : ℕ) (how : Result Changed Stopped) → asked a b (Journal ∷ []) → ((how ≡ Ok Done) × RollAsked (asked b c) writes (Ok tt)) ⊎ ((how ≡ Err the_stop) × RollAsked (asked b c) writes (Err the_stop)) → AskedBehind (asked a c) [] how
  driven_asked writes how first next = elim next [
    | inl x ↦ subst (λ (y : Result Changed Stopped). AskedBehind (asked a c) [] y) (sym x.0) (writes, on a b c (Journal ∷ []) (asked_for writes) first x.1)
    | inr x ↦ subst (λ (y : Result Changed Stopped). AskedBehind (asked a c) [] y) (sym x.0) (inr (writes, stop_behind (Journal ∷ []) writes first x.1))
  ]

-- nothing was asked yet
pub none_asked : {X : Type 0} (asked : X → X → List GatePlace → Type 0) → ((x : X) → asked x x []) → (a : X) (n : ℕ) → asked a a (replicate (n - n) Register)
none_asked asked unasked a n = let zero : n - n ≡ 0 = omega arith in subst (λ (k : ℕ). asked a a (replicate k Register)) (sym zero) (unasked a)

-- whatever the gate answered at the end
pub roll_done : (asked : List GatePlace → Type 0) (writes : ℕ) (how : Result (Unit {0}) Stopped) → asked (asked_for writes) → RollAsked asked writes how
roll_done asked writes (Ok y) x = x
roll_done asked writes (Err e) x = inr x

-- a restart that failed: before the gate was asked only by the disk
pub failed_first : (asked : List GatePlace → Type 0) (q : Cause) → RereadAsked asked (Ok (reread.Failed q)) → ((q ≡ DiskFault) × asked []) ⊎ asked (Journal ∷ [])
failed_first asked DiskFault x = elim x [ inl none ↦ inl (refl, none) | inr one ↦ inr one ]
failed_first asked _ x = inr x

-- a restart that failed, or at which the gate stopped
pub failed_asked : (asked : List GatePlace → Type 0) (q : Cause) → RereadAsked asked (Ok (reread.Failed q)) → asked [] ⊎ asked (Journal ∷ [])
failed_asked asked DiskFault x = x
failed_asked asked _ x = inr x
