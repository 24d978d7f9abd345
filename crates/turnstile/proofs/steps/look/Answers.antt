use Rattle.std.proofs.Common.{◌≡◌, [], ◌∷◌, Some, sym, ap, ◌∙◌, refl}
use Rattle.atomic_table.specs.Table.{rest}
use Rattle.turnstile.specs.Turning.{opening_in, stands_in}
use Rattle.turnstile.proofs.Keeps.{looks, found_some}
use Rattle.turnstile.proofs.steps.look.Goals as goal

pub load-serving-requires : goal.load-serving-requires
load-serving-requires g c = (
  c.requires.table.0,
  c.requires.table.1,
  looks g.S.Sequential.opening_code.code g.S.Sequential.entry_code.code (opening_in g.S.Sequential.opening) g.S.Sequential.number (stands_in g.S.Sequential.stands) c.args.board.now.key g.S.Sequential.opening_code.inj _ _ _
      c.requires.drawn.0 c.requires.drawn.1,
)

pub exchange-requires : goal.exchange-requires
exchange-requires g c = let got = c.load-serving.ensures.2.1 (c.if-serving-ticket.false ∙ c.requires.drawn.2) in let e : c.load-serving.new.seat.me.1 ≡ (0, Some got.0) ∷ [] = ap (λ m. m.1) got.3 in
    (c.load-serving.ensures.0 ∙ c.requires.table.0, (Some got.0, e ∙ (λ i. (0, Some got.0) ∷ rest (sym e i))))

pub unwrap-state-requires : goal.unwrap-state-requires
unwrap-state-requires g c = found_some g.S.Sequential.opening_code.code g.S.Sequential.entry_code.code (opening_in g.S.Sequential.opening) g.S.Sequential.number (stands_in g.S.Sequential.stands) _ _ _ _ _ c.load-serving.ensures.2 refl (c.if-serving-ticket.false ∙ c.requires.drawn.2) c.exchange.ensures.2
