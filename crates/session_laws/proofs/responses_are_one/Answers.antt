use Rattle.std.proofs.Common.{refl, inl, inr, ◌<◌, ℕ}
use Rattle.dxc_model.specs.declared.cause.Cause.{Cause}
use Rattle.xc_core.specs.States.{LimitBehind}
use Rattle.xc_core.proofs.Reckoning.{limits_once}
use Rattle.craft_session.specs.Scripts.{excused_by, room_of}
use Rattle.session_laws.proofs.Once.{played_once, plays_within}
use Rattle.session_laws.proofs.responses_are_one.Goals as goal

-- on a sound disk there is none
never : (room commands : ℕ) → room_of commands < room → (q : Cause) → excused_by (Unit {0}) 0 room commands q → ⊥
never room commands enough q x = elim x [ inl y ↦ y.1 refl enough | inr y ↦ y.1 tt ]

pub returns : goal.returns
returns c = λ l o n room other_room a b d hs x y enough also p q is.
    played_once l (LimitBehind o.first) (λ cs k m k2. limits_once o.first cs k m k2) a b d hs x y
    (plays_within l (LimitBehind o.first) (excused_by (Unit {0}) 0 room n) (λ q2. ⊥) (never room n enough) a b hs x p)
    (plays_within l (LimitBehind o.first) (excused_by (Unit {0}) 0 other_room n) (λ q2. ⊥) (never other_room n also) a d hs y q) is
