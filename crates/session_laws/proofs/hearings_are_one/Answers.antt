use Rattle.std.proofs.Common.{refl}
use Rattle.craft_session.specs.PlainUsers.{IsUsersUnsoundBy}
use Rattle.session_laws.proofs.HearingsOnce.{hearings_once}
use Rattle.session_laws.proofs.hearings_are_one.Goals as goal

pub returns : goal.returns
returns c = λ first s sid n room other_room users then_users also_users t then_t also_t hs gs enough also p q same told.
    hearings_once (IsUsersUnsoundBy 0 room n) (IsUsersUnsoundBy 0 other_room n) (λ x. x refl enough) (λ x. x refl also) sid first s users then_users also_users t then_t also_t hs gs p q same told
