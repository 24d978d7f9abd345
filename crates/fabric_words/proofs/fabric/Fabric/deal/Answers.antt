use Rattle.std.proofs.Common.{◌≡◌, ◌<◌, ◌∙◌, ap, sym, subst}
use Rattle.atomic_table.specs.Table.{Me}
use Rattle.fabric_words.specs.declared.table.Aim.{Aim}
use Rattle.fabric_words.specs.declared.table.View.{View}
use Rattle.fabric_core.specs.State.{new_mover}
use Rattle.fabric_words.specs.declared.table.View.TheVariants.{AsMover}
use Rattle.fabric_words.specs.Seats.{FabricId}
use Rattle.fabric_words.proofs.Deals.{deals_at, some_words}
use Rattle.fabric_words.proofs.fabric.Fabric.deal.Goals as goal

pub split_seat-seat-requires : goal.split_seat-seat-requires
split_seat-seat-requires c = let f = c.self.inside in let i = c.self.invariant in let size = ap (λ (v : FabricId). v.size) c.self.view_is in (
  c.requires.own ∙ ap (λ (v : FabricId). v.table) (sym c.self.view_is),
  some_words f.size _ i.2 i.1,
  deals_at _ f.size _ _ _ _ i.0 (subst (λ (v : FabricId). c.args.token.now.me.0 ≡ AsMover v.size c.args.number (new_mover v.size)) (sym c.self.view_is) (ap (λ (m : Me Aim View). m.0) c.requires.mover))
      (subst (λ (v : FabricId). c.args.number < v.size.workers) (sym c.self.view_is) c.requires.low),
)
