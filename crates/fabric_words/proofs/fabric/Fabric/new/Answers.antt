use Rattle.std.proofs.Common.{rules, arith, ◌≡◌, ◌+◌, ℕ, List, [], ◌∷◌, ◌++◌, length, length-append, sym, ap, ◌∙◌, subst}
use Rattle.fabric_core.specs.State.{new_mover, new_worker}
use Rattle.fabric_words.specs.declared.table.View.TheVariants.{AsMover}
use Rattle.fabric_words.specs.declared.worker.WorkerSeat.{WorkerSeat}
use Rattle.fabric_words.specs.Seats.{FabricId}
use Rattle.fabric_words.specs.New.{AreNew}
use Rattle.fabric_words.proofs.Deals.{new_more}
use Rattle.fabric_words.proofs.fabric.Fabric.new.Goals as goal

pub loop-number-preserved : goal.loop-number-preserved
loop-number-preserved c =
    let l = c.loop-number in let i = l.invariant in let f = c.fabric.inside in let kept = c.deal-seat.ensures.kept in
    let pushed : c.push.new.self.items ≡ l.seats.items ++ c.deal-seat.result ∷ [] = search rules in
    let id : FabricId = record { table = f.board.shared.table_id; size = f.size } in
    let same : id ≡ c.in_ok-fabric.fabric = c.fabric.view_is in record {
      table = kept.0 ∙ i.table;
      mover = subst (λ (v : FabricId). c.deal-seat.new.token.me ≡ (AsMover v.size (l.number + 1) (new_mover v.size), [])) (sym same) kept.1;
      count = ap (λ (xs : List WorkerSeat). length xs) pushed ∙ (length-append l.seats.items (c.deal-seat.result ∷ []) ∙ ap (λ (n : ℕ). n + 1) i.count);
      seats = subst (AreNew id 0) (sym pushed) (new_more id 0 l.number l.seats.items c.deal-seat.result i.seats (let e = i.count in omega arith)
          (c.deal-seat.ensures.dealt ∙ ap (λ (v : FabricId). record { fabric = v; worker = new_worker l.number }) (sym same)));
    }
