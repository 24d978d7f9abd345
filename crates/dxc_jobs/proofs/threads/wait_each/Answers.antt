use Rattle.std.proofs.Common.{◌≡◌, ◌+◌, ◌∙◌, List, [], ◌∷◌, ◌++◌, ap, append_assoc, append-nil, arith, length, refl, rules, sym, subst}
use Rattle.std.specs.Vec.Iter.{into_iter_items}
use Rattle.std.proofs.lemmas.List.{nil_from_length}
use Rattle.dxc_jobs.specs.Leaves.{left_by}
use Rattle.dxc_jobs.specs.Begun.{AreBegun, AreRan}
use Rattle.dxc_jobs.proofs.Beginning.{begun_split, ran_more, ran_none}
use Rattle.dxc_jobs.proofs.threads.wait_each.Goals as goal

length_more : {J : Type 0} (js : List J) (j : J) → length (js ++ j ∷ []) ≡ length js + 1
length_more [] j = refl
length_more (x ∷ js) j = let e = length_more js j in omega arith

pub loop-one-init : goal.loop-one-init
loop-one-init g c = record {
  ran = λ jobs are. ran_none g.row.T.Denot (left_by g.J.Task.ran) jobs c.args.lefts.items c.requires.none_yet are;
  each = search rules;
  room = c.requires.room;
  left = search rules;
  all = search rules;
  count = search rules;
}

pub loop-one-preserved : goal.loop-one-preserved
loop-one-preserved g c =
    let i = c.loop-one.invariant in
    let counted = length_more c.loop-one.yielded c.in-Some.one in
    record {
      ran = λ jobs are.
          let l = begun_split (left_by g.J.Task.ran) jobs c.loop-one.yielded c.in-Some.one are in
          subst (λ (js : List g.row.J.Denot). AreRan (left_by g.J.Task.ran) js c.push.new.self.items) (sym l.split)
          (subst (λ ls. AreRan (left_by g.J.Task.ran) (l.front ++ l.job ∷ []) ls) (sym c.in-Ok.ensures.items)
          (ran_more (left_by g.J.Task.ran) l.front l.job c.loop-one.lefts.items c.wait.result (i.ran l.front l.are) (c.wait.ensures l.job l.one)));
      each = let e = i.each in let more = c.in-Ok.ensures.len in omega (arith, e, more, counted);
      room = let r = i.room in let more = c.in-Ok.ensures.capacity in omega (arith, r, more);
      left = let one = c.in-Some.ensures.steps.1 in let left = i.left in omega (arith, one, left, counted);
      all = append_assoc c.loop-one.yielded (c.in-Some.one ∷ []) _ ∙ ap (λ l. c.loop-one.yielded ++ l) (sym c.in-Some.ensures.steps.0) ∙ i.all;
      count = let was = i.count in let gone = c.in-Some.ensures.steps.1 in let short = ap length c.in-Some.ensures.steps.0 in omega (arith, was, gone, short);
    }

pub returns : goal.returns
returns g c = λ jobs are.
    let i = c.loop-one.invariant in
    let empty : into_iter_items c.loop-one.one-iterator ≡ [] = nil_from_length _ (sym i.count ∙ c.in-None.ensures.steps.0) in
    i.ran jobs (subst (λ bs. AreBegun (left_by g.J.Task.ran) jobs bs) (sym (sym (append-nil c.loop-one.yielded) ∙ ap (λ l. c.loop-one.yielded ++ l) (sym empty) ∙ i.all)) are)
