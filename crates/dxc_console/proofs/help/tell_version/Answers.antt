use Rattle.std.proofs.Common.{[], ◌∷◌, ◌++◌, ℕ, List, refl, rules, subst, sym}
use Rattle.std.specs.Prelude.{IsErr, codes}
use Rattle.dxc_console.specs.declared.help.TheConstants.{VERSION}
use Rattle.dxc_console.specs.declared.sources.TheConstants.{SOURCES}
use Rattle.dxc_console.proofs.help.tell_version.Goals as goal

-- the texts so far
abbrev one : List (List ℕ)
one = codes "dxc " ∷ []

abbrev two : List (List ℕ)
two = codes "dxc " ∷ VERSION.now ∷ []

abbrev three : List (List ℕ)
three = codes "dxc " ∷ VERSION.now ∷ codes "\nsources " ∷ []

abbrev four : List (List ℕ)
four = codes "dxc " ∷ VERSION.now ∷ codes "\nsources " ∷ SOURCES.now ∷ []

pub returns-in_err-tell-2-clause-told : goal.returns-in_err-tell-2-clause-told
returns-in_err-tell-2-clause-told g c =
    let on = g.T.Telling.told_on in
    let by2 = on c.args.to.now c.tell.new.self c.tell-2.new.self one (VERSION.now ∷ []) c.tell.ensures.told c.tell-2.ensures.told in
    record { made = two; rest = codes "\nsources " ∷ SOURCES.now ∷ codes "\n" ∷ []; split = refl; told_made = by2; whole = search rules }

pub returns-in_err-tell-2-clause-failed : goal.returns-in_err-tell-2-clause-failed
returns-in_err-tell-2-clause-failed g c =
    let on = g.T.Telling.told_on in
    λ _. g.T.Telling.failed_on c.args.to.now c.tell.new.self c.tell-2.new.self one c.tell.ensures.told (c.tell-2.ensures.failed (subst IsErr (sym c.in_err-tell-2.was) refl))

pub returns-in_err-tell-3-clause-told : goal.returns-in_err-tell-3-clause-told
returns-in_err-tell-3-clause-told g c =
    let on = g.T.Telling.told_on in
    let by2 = on c.args.to.now c.tell.new.self c.tell-2.new.self one (VERSION.now ∷ []) c.tell.ensures.told c.tell-2.ensures.told in
    let by3 = on c.args.to.now c.tell-2.new.self c.tell-3.new.self two (codes "\nsources " ∷ []) by2 c.tell-3.ensures.told in
    record { made = three; rest = SOURCES.now ∷ codes "\n" ∷ []; split = refl; told_made = by3; whole = search rules }

pub returns-in_err-tell-3-clause-failed : goal.returns-in_err-tell-3-clause-failed
returns-in_err-tell-3-clause-failed g c =
    let on = g.T.Telling.told_on in
    let by2 = on c.args.to.now c.tell.new.self c.tell-2.new.self one (VERSION.now ∷ []) c.tell.ensures.told c.tell-2.ensures.told in
    λ _. g.T.Telling.failed_on c.args.to.now c.tell-2.new.self c.tell-3.new.self two by2 (c.tell-3.ensures.failed (subst IsErr (sym c.in_err-tell-3.was) refl))

pub returns-in_err-tell-4-clause-told : goal.returns-in_err-tell-4-clause-told
returns-in_err-tell-4-clause-told g c =
    let on = g.T.Telling.told_on in
    let by2 = on c.args.to.now c.tell.new.self c.tell-2.new.self one (VERSION.now ∷ []) c.tell.ensures.told c.tell-2.ensures.told in
    let by3 = on c.args.to.now c.tell-2.new.self c.tell-3.new.self two (codes "\nsources " ∷ []) by2 c.tell-3.ensures.told in
    let by4 = on c.args.to.now c.tell-3.new.self c.tell-4.new.self three (SOURCES.now ∷ []) by3 c.tell-4.ensures.told in
    record { made = four; rest = codes "\n" ∷ []; split = refl; told_made = by4; whole = search rules }

pub returns-in_err-tell-4-clause-failed : goal.returns-in_err-tell-4-clause-failed
returns-in_err-tell-4-clause-failed g c =
    let on = g.T.Telling.told_on in
    let by2 = on c.args.to.now c.tell.new.self c.tell-2.new.self one (VERSION.now ∷ []) c.tell.ensures.told c.tell-2.ensures.told in
    let by3 = on c.args.to.now c.tell-2.new.self c.tell-3.new.self two (codes "\nsources " ∷ []) by2 c.tell-3.ensures.told in
    λ _. g.T.Telling.failed_on c.args.to.now c.tell-3.new.self c.tell-4.new.self three by3 (c.tell-4.ensures.failed (subst IsErr (sym c.in_err-tell-4.was) refl))

pub returns-clause-told : goal.returns-clause-told
returns-clause-told g c =
    let on = g.T.Telling.told_on in
    let by2 = on c.args.to.now c.tell.new.self c.tell-2.new.self one (VERSION.now ∷ []) c.tell.ensures.told c.tell-2.ensures.told in
    let by3 = on c.args.to.now c.tell-2.new.self c.tell-3.new.self two (codes "\nsources " ∷ []) by2 c.tell-3.ensures.told in
    let by4 = on c.args.to.now c.tell-3.new.self c.tell-4.new.self three (SOURCES.now ∷ []) by3 c.tell-4.ensures.told in
    let by5 = on c.args.to.now c.tell-4.new.self c.tell-5.new.self four (codes "\n" ∷ []) by4 c.tell-5.ensures.told in
    record { made = four ++ codes "\n" ∷ []; rest = []; split = refl; told_made = by5; whole = λ _. refl }

pub returns-clause-failed : goal.returns-clause-failed
returns-clause-failed g c =
    let on = g.T.Telling.told_on in
    let by2 = on c.args.to.now c.tell.new.self c.tell-2.new.self one (VERSION.now ∷ []) c.tell.ensures.told c.tell-2.ensures.told in
    let by3 = on c.args.to.now c.tell-2.new.self c.tell-3.new.self two (codes "\nsources " ∷ []) by2 c.tell-3.ensures.told in
    let by4 = on c.args.to.now c.tell-3.new.self c.tell-4.new.self three (SOURCES.now ∷ []) by3 c.tell-4.ensures.told in
    λ is. g.T.Telling.failed_on c.args.to.now c.tell-4.new.self c.tell-5.new.self four by4 (c.tell-5.ensures.failed is)
