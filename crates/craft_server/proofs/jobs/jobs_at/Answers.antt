use Rattle.std.proofs.Common.{◌≡◌, ◌<◌, ◌∙◌, [], ◌∷◌, ◌++◌, All, ap, append_assoc, append-nil, arith, length, length-append, map, rules, subst, sym}
use Rattle.std.specs.Vec.Iter.{into_iter_items}
use Rattle.std.proofs.lemmas.List.{map-append, nil_from_length}
use Rattle.std.proofs.lemmas.List.Elements.{All-drop, All-push}
use Rattle.craft_server.proofs.jobs.jobs_at.Goals as goal

pub loop-place-init : goal.loop-place-init
loop-place-init g c = record {
  each = search rules;
  room = c.requires.room;
  doors = search rules;
  left = search rules;
  all = search rules;
  count = search rules;
  places = search rules;
  shut = λ name all. all;
  listeners = λ name all. subst (All (λ job. g.O.Opener.listener_for job.listener name)) (sym c.requires.none_yet) (λ k d low. absurd (omega (arith, low)));
}

pub loop-place-preserved : goal.loop-place-preserved
loop-place-preserved g c =
    let i = c.loop-place.invariant in
    let count = length-append c.loop-place.yielded (c.in-Some.place ∷ []) in
    let one = c.in-Some.ensures.steps.1 in
    let left = i.left in
    let some : 0 < length c.loop-place.doors.items = search rules in
    let put = c.push_reserved.ensures.items in
    record {
      each = let e = i.each in let more = c.push_reserved.ensures.len in omega (arith, e, more, count);
      room = let r = i.room in let more = c.push_reserved.ensures.capacity in omega (arith, r, more);
      doors = let d = i.doors in let less = c.remove-listener.ensures.len in omega (arith, d, less, count);
      left = omega (arith, one, left, count);
      all = append_assoc c.loop-place.yielded (c.in-Some.place ∷ []) _ ∙ ap (λ l. c.loop-place.yielded ++ l) (sym c.in-Some.ensures.steps.0) ∙ i.all;
      count = let was = i.count in let short = ap length c.in-Some.ensures.steps.0 in omega (arith, was, one, short);
      places = ap (map (λ job. job.place)) put ∙ map-append (λ job. job.place) c.loop-place.jobs.items _ ∙ ap (λ l. l ++ c.in-Some.place ∷ []) i.places;
      shut = λ name all. subst (All (λ door. g.O.Opener.listener_for door.listener name)) (sym c.remove-listener.ensures.by_index.2) (All-drop (λ door. g.O.Opener.listener_for door.listener name) 1 c.loop-place.doors.items (i.shut name all));
      listeners = λ name all. subst (All (λ job. g.O.Opener.listener_for job.listener name)) (sym put)
          (All-push (λ job. g.O.Opener.listener_for job.listener name) c.loop-place.jobs.items _ (i.listeners name all) (subst (λ door. g.O.Opener.listener_for door.listener name) (sym c.remove-listener.ensures.value) (i.shut name all 0 c.remove-listener.result some)));
    }

pub returns-clause-places : goal.returns-clause-places
returns-clause-places g c =
    let i = c.loop-place.invariant in
    let empty : into_iter_items c.loop-place.place-iterator ≡ [] = nil_from_length _ (sym i.count ∙ c.in-None.ensures.steps.0) in
    i.places ∙ sym (append-nil c.loop-place.yielded) ∙ ap (λ l. c.loop-place.yielded ++ l) (sym empty) ∙ i.all

pub returns-clause-listeners : goal.returns-clause-listeners
returns-clause-listeners g c = c.loop-place.invariant.listeners
