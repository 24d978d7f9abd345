use Rattle.std.proofs.Common.{◌≡◌, ℕ, List, [], ◌++◌, refl, length, take, drop, sym, ◌∙◌, ap, subst, arith, take-append-drop}
use Rattle.std.proofs.lemmas.List.{append_assoc, drop_all, take_rest}
use Rattle.dxc_outside.specs.declared.link.Put.TheVariants.{Took, Failed}
use Rattle.dxc_outside.specs.declared.send.Sent.{Sent}
use Rattle.dxc_outside.specs.declared.send.Sent.TheVariants.{Whole, Cut}
use Rattle.dxc_outside.specs.Links.{LinkState, IsWrite, IsSent}
use Rattle.dxc_outside.proofs.LinkSteps.{wrote_more}
use Rattle.dxc_outside.proofs.send.write_some.Goals as goal

module _ (told : Type 0) (a b : LinkState) (bytes : List ℕ) where
  -- the first write took all
  took_all : (count : ℕ) → count ≡ length bytes → IsWrite told a b (Took count) bytes → IsSent told a b Whole bytes
  took_all count is write = record {
    part = take count bytes;
    rest = drop count bytes;
    split = sym (take-append-drop count bytes);
    wrote = write.wrote;
    whole = λ _. drop_all count bytes (omega (arith, is));
    no_fault = λ _. write.no_fault (λ is_failed. cc);
    cause = record { later = write.wrote.later; cause = λ is_cut. cc };
  }

  -- it took some, and the rest was sent after it, or a part of that
  took_some : (c : LinkState) (count : ℕ) (sent : Sent) → IsWrite told a b (Took count) bytes → IsSent told b c sent (drop count bytes) → IsSent told a c sent bytes
  took_some c count sent write then = record {
    part = take count bytes ++ then.part;
    rest = then.rest;
    split = sym (take-append-drop count bytes) ∙ ap (λ (l : List ℕ). take count bytes ++ l) then.split ∙ sym (append_assoc (take count bytes) then.part then.rest);
    wrote = wrote_more told a b c (take count bytes) then.part write.wrote then.wrote;
    whole = then.whole;
    no_fault = λ is_whole. then.no_fault is_whole ∙ write.no_fault (λ is_failed. cc);
    cause = record { later = omega (arith, write.wrote.later, then.cause.later); cause = λ is. let rose = then.cause.cause is in omega (arith, write.wrote.later, rose) };
  }

  failed : IsWrite told a b Failed bytes → IsSent told a b Cut bytes
  failed write = record { part = []; rest = bytes; split = refl; wrote = write.wrote; whole = λ is_whole. cc; no_fault = λ is_whole. cc; cause = record { later = write.cause.later; cause = λ _. write.cause.cause refl } }

pub returns-then-count-bytes-clause-sent : goal.returns-then-count-bytes-clause-sent
returns-then-count-bytes-clause-sent g c = took_all _ _ _ _ _ c.if-count-bytes.true c.in-Took.ensures.write

pub returns-else-count-bytes-clause-sent : goal.returns-else-count-bytes-clause-sent
returns-else-count-bytes-clause-sent g c = took_some _ _ _ _ _ _ _ c.in-Took.ensures.write (subst (λ (l : List ℕ). IsSent g.K.Link.told (g.K.Link.state c.write.new.self) (g.K.Link.state c.write_rest.new.link) c.write_rest.result l) (take_rest c.args.bytes.now c.in-Took.count) c.write_rest.ensures.sent)

pub returns-in-Failed-clause-sent : goal.returns-in-Failed-clause-sent
returns-in-Failed-clause-sent g c = failed _ _ _ _ c.in-Failed.ensures.write
