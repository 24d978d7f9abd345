use Rattle.std.proofs.Common.{ℕ, ◌++◌, sym, ◌∙◌, ap, subst}
use Rattle.turnstile.proofs.Places.{back_pass, found_more}
use Rattle.xc_core.specs.declared.state.State.{State}
use Rattle.xc_core.specs.Seeing.{Rests, codes, place_of}
use Rattle.xc_core.specs.States.{StandsFor, opening_of}
use Rattle.xc_core.proofs.Turning.{astray_back, back_stands, found_at, numbered_back, rests_behind, turned_back}
use Rattle.worked_restarts.proofs.audit.words_in_turn.Goals as goal

pub words_of-words-requires : goal.words_of-words-requires
words_of-words-requires g c =
    let w = c.requires.2 in
    let o = opening_of g.D.Disk.state c.args.turns.now.first in
    let f = found_at g.D.Disk.told g.D.Disk.state o c.args.pass.now.number c.enter-turn.result.own c.args.turns.now.passes w.0 c.args.pass.now.seen c.enter-turn.result.seen c.enter-turn.result.state c.enter-turn.ensures.turn.1 c.enter-turn.ensures.found w.1.codes_are in
    (o, w.0 ++ f.later, subst (λ (s : State g.row.D.Denot). StandsFor g.D.Disk.told g.D.Disk.state o s (w.0 ++ f.later)) (sym c.state_mut.ensures.value) f.stands, c.requires.1)

pub back-requires-clause-stands : goal.back-requires-clause-stands
back-requires-clause-stands g c =
    let w = c.requires.2 in
    let o = opening_of g.D.Disk.state c.args.turns.now.first in
    let f = found_at g.D.Disk.told g.D.Disk.state o c.args.pass.now.number c.enter-turn.result.own c.args.turns.now.passes w.0 c.args.pass.now.seen c.enter-turn.result.seen c.enter-turn.result.state c.enter-turn.ensures.turn.1 c.enter-turn.ensures.found w.1.codes_are in
    let same = c.words_of-words.ensures ∙ c.state_mut.ensures.value in
    back_stands g.D.Disk.told g.D.Disk.state o c.args.pass.now.number w.0 c.enter-turn.result.state c.enter-turn.result.seen f c.words_of-words.new.state (ap (λ (s : State g.row.D.Denot). s.origin) same)
    (subst (λ (s : State g.row.D.Denot). StandsFor g.D.Disk.told g.D.Disk.state o s (w.0 ++ f.later)) (sym same) f.stands)

pub returns : goal.returns
returns g c =
    let w = c.requires.2 in
    let o = opening_of g.D.Disk.state c.args.turns.now.first in
    let f = found_at g.D.Disk.told g.D.Disk.state o c.args.pass.now.number c.enter-turn.result.own c.args.turns.now.passes w.0 c.args.pass.now.seen c.enter-turn.result.seen c.enter-turn.result.state c.enter-turn.ensures.turn.1 c.enter-turn.ensures.found w.1.codes_are in
    let same = c.words_of-words.ensures ∙ c.state_mut.ensures.value in
    let st = subst (λ (s : State g.row.D.Denot). StandsFor g.D.Disk.told g.D.Disk.state o s (w.0 ++ f.later)) (sym same) f.stands in
    let pass = back_pass codes place_of c.args.turns.now c.args.pass.now c.enter-turn.new.pass c.back.new.pass c.enter-turn.result c.requires.0 c.enter-turn.ensures.turn.1 (found_more c.enter-turn.ensures.found) c.enter-turn.ensures.dated c.enter-turn.ensures.out c.back.ensures.pass c.back.ensures.heard c.back.ensures.dated c.back.ensures.seen
    (numbered_back g.D.Disk.told g.D.Disk.state o c.enter-turn.result.own c.args.turns.now.passes c.args.pass.now.seen c.enter-turn.result.seen c.enter-turn.result.state c.enter-turn.ensures.found c.back.new.pass.seen c.back.ensures.seen) in
    let behind = turned_back g.D.Disk.told g.D.Disk.state o c.args.pass.now.number w.0 c.enter-turn.result.state c.enter-turn.result.seen f c.words_of-words.new.state c.back.new.pass.seen st c.back.ensures.seen in
    let rests = subst (λ (n : ℕ). Rests n (w.0 ++ f.later)) (sym pass.goes.same.0) (rests_behind c.args.pass.now.number w.0 f.later f.others w.2) in (
      pass.has,
      c.requires.1,
      (w.0 ++ f.later, behind.saw, rests),
      astray_back g.D.Disk.told g.D.Disk.state o c.args.pass.now.number w.0 c.enter-turn.result.state c.enter-turn.result.seen f c.words_of-words.new.state c.back.new.pass.seen st c.back.ensures.seen,
    )
