use Rattle.std.proofs.Common.{◌∙◌, arith, inr, refl, rules, subst, sym}
use Rattle.std.proofs.lemmas.List.{nil_from_length}
use Rattle.std.specs.Prelude.{IsErr}
use Rattle.dxc_jobs.proofs.standby.serve_caller.Goals as goal

pub returns-in-Err : goal.returns-in-Err
returns-in-Err g c = record {
  serves = record {
    served = c.stand_by-end.new.disk;
    ran = c.stand_by-end.ensures.ran;
    prompt = c.stand_by-end.ensures.prompt;
    unhung = c.stand_by-end.ensures.hung_up;
    measured = inr (c.length.result, c.length.ensures);
  };
  last = λ t goes empty. c.length.ensures.cause.cause (subst IsErr (sym c.in-Err.is) refl);
}

-- nothing is there
pub returns-then-length-eq0 : goal.returns-then-length-eq0
returns-then-length-eq0 g c = (
  c.stand_by-end.result,
  record {
    serves = record {
      served = c.stand_by-end.new.disk;
      ran = c.stand_by-end.ensures.ran;
      prompt = c.stand_by-end.ensures.prompt;
      unhung = c.stand_by-end.ensures.hung_up;
      measured = inr (c.length.result, c.length.ensures);
    };
    goes_on = search rules;
    empty = λ t. let same = (c.length.ensures.looks t).same in same ∙ nil_from_length _ (omega (arith, c.in-Ok.ensures.value t, c.if-length-eq0.true));
  },
)
