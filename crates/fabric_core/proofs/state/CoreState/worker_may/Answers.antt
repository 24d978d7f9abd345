use Rattle.std.proofs.Common.{◌≡◌, ◌↔◌, ◌<◌, ◌≤◌, IsTrue, List, length, ap, ◌∙◌, subst, false, get_or}
use Rattle.std.proofs.lemmas.Bool.{false≢true}
use mathlib.Core.Option.{some}
use lib.ListN.{get_elem?}
use Rattle.fabric_core.specs.declared.worker.Worker.{Worker}
use Rattle.fabric_core.specs.State.{Core}
use Rattle.fabric_core.specs.Allowed.{MayWork}
use Rattle.fabric_core.proofs.Acting.{test_at, none_at}
use Rattle.fabric_core.proofs.state.CoreState.worker_may.Goals as goal

pub returns-in-Some : goal.returns-in-Some
returns-in-Some c =
    let h = c.in-Some.ensures.lookup in
    let items : c.deref.result.now ≡ c.self.inside.workers.items = c.deref.ensures.value in
    let low : c.args.worker < length c.self.inside.workers.items = subst (λ (l : List Worker). c.args.worker < length l) items h.3.0 in
    let at : c.in-Some.part.now ≡ get_or c.self.inside.workers.items c.args.worker c.in-Some.part.now = h.1 ∙ ap (λ (l : List Worker). get_or l c.args.worker c.in-Some.part.now) items in
    subst (λ (k : Core). IsTrue c.may.result ↔ ((v : Worker) × (get_elem? k.workers c.args.worker ≡ some v) × MayWork k.size v c.args.event)) c.self.view_is
    (test_at (λ (v : Worker). MayWork c.self.inside.size v c.args.event) c.self.inside.workers.items c.args.worker c.in-Some.part.now c.may.result low at c.may.ensures)

pub returns-in-None : goal.returns-in-None
returns-in-None c =
    let h = c.in-None.ensures.lookup in
    let items : c.deref.result.now ≡ c.self.inside.workers.items = c.deref.ensures.value in
    let past : length c.self.inside.workers.items ≤ c.args.worker = subst (λ (l : List Worker). length l ≤ c.args.worker) items h.3 in
    subst (λ (k : Core). IsTrue false ↔ ((v : Worker) × (get_elem? k.workers c.args.worker ≡ some v) × MayWork k.size v c.args.event)) c.self.view_is
    ((λ e. absurd (false≢true e)), (λ f. absurd (none_at c.self.inside.workers.items c.args.worker f.0 past f.1)))
