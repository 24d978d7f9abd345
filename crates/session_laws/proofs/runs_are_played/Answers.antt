use Rattle.std.specs.List.{AllByRecursion}
use Rattle.dxc_model.specs.declared.entry.Entry.{Entry}
use Rattle.dxc_model.specs.Steps.{IsFault}
use Rattle.std.proofs.Common.{List, [], ◌∷◌, inl, refl}
use Rattle.xc_core.specs.States.{rules_of}
use Rattle.session_laws.specs.Laws.{among}
use Rattle.session_laws.proofs.Among.{among_keeps, among_onward, among_passed, among_stays}
use Rattle.craft_session.proofs.Playing.{all_played, played}
use Rattle.session_laws.proofs.runs_are_played.Goals as goal

each_any : (h : List Entry) → AllByRecursion (λ e. Unit {0}) h
each_any [] = tt
each_any (e ∷ es) = (tt, each_any es)

pub returns : goal.returns
returns c = λ l place o past w run legal none.
    all_played l (rules_of o) place IsFault (among place) (λ e. Unit {0}) (among_stays place) (among_onward place) (among_keeps place) (λ h e s _ unused. among_passed place o.first.fold.table h e s unused) (λ e q _ is f. f) (λ h c _ x. inl refl) past w
    (played l (rules_of o) place IsFault (among place) (λ e. Unit {0}) (among_stays place) (among_onward place) (among_keeps place) (λ h e s _ unused. among_passed place o.first.fold.table h e s unused) (λ e q _ is f. f) (λ h c _ x. inl refl) past w run legal (each_any w.history)) none
