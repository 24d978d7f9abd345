use Rattle.std.proofs.Common.{refl}
use Rattle.xc_core.specs.States.{rules_of}
use Rattle.craft_session.specs.Plain.{Excuse, alone}
use Rattle.craft_session.specs.Scripts.{IsOwn, excused_by}
use Rattle.craft_session.proofs.Meanwhiles.{alone_keeps, alone_onward, alone_passed, own_doubts, own_excuse}
use Rattle.craft_session.proofs.Playing.{all_played, played}
use Rattle.session_laws.proofs.runs_alone_are_played.Goals as goal

pub returns : goal.returns
returns c = λ l place margin room commands o past w run legal own none.
    let excused : Excuse = excused_by ⊥ margin room commands in
    all_played l (rules_of o) place excused alone (IsOwn place excused) (λ a. refl) alone_onward alone_keeps (alone_passed place excused o.first.fold.table) (own_excuse place excused) (own_doubts place excused o.first.fold.table) past w
    (played l (rules_of o) place excused alone (IsOwn place excused) (λ a. refl) alone_onward alone_keeps (alone_passed place excused o.first.fold.table) (own_excuse place excused) (own_doubts place excused o.first.fold.table) past w run legal own) none
