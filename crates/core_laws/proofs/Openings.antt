-- What a file stands for on a shelf is one thing.
use Rattle.std.proofs.Common.{◌≡◌, ⊎_elim, ℕ, List, sym, ◌∙◌, ap, subst}
use Rattle.fabric_words.specs.Seats.{FabricId}
use Rattle.journal_core.specs.declared.head.Head.{Head}
use Rattle.journal_core.specs.Headers.{IsNew}
use Rattle.journal_core.proofs.OpenSteps.{new_or_not}
use Rattle.journal_core.proofs.StandSteps.{head_once, stands_once}
use Rattle.paull_matrix.specs.Colourings.{Colouring}
use Rattle.roll_plan.specs.Works.{switches_in}
use Rattle.roll_engine.specs.Cold.{joins_of}
use Rattle.shelf_file.specs.Contents.{Contents}
use Rattle.xc_recovery.specs.Replays.{ComesTo}
use Rattle.xc_core.specs.States.{Opening}
use Rattle.xc_core.specs.Openings.{IsOpening}
use Rattle.xc_core.proofs.Staging.{comes_once}

-- a file, a shelf and a fabric have one opening
pub openings_once : (told : Type 0) → told → (file : List ℕ) (shelf : Contents) (fabric other : FabricId) (o p : Opening) → IsOpening told file shelf fabric o → IsOpening told file shelf other p → (o.records ≡ p.records) × (o.first ≡ p.first)
openings_once told x file shelf fabric other o p a b =
    let same = ⊎_elim (λ n. one_made n) (λ not. one_found not) (new_or_not file) in
    let mine = comes_at o a in
    let others = subst (λ (w : Head × List (List ℕ)). ComesTo shelf.shape w.0 w.1 p.first.fold.table p.first.fold.colours p.first.fold.work) (λ k. (sym same.0 k, sym same.1 k)) (comes_at p b) in
    let one = comes_once shelf.shape a.folded.head o.records o.first.fold.table p.first.fold.table o.first.fold.colours p.first.fold.colours o.first.fold.work p.first.fold.work mine others in
    let switches = a.switches ∙ ap (λ (c : Colouring). switches_in (joins_of c)) one.1 ∙ sym b.switches in
    let changes = a.changes ∙ sym b.changes in (
      same.1,
      λ k. record { fold = record { table = one.0 k; colours = one.1 k; work = one.2 k; switches = switches k }; changes = changes k },
    )
  where
    comes_at : {i : FabricId} (q : Opening) → (is : IsOpening told file shelf i q) → ComesTo shelf.shape is.folded.head q.records q.first.fold.table q.first.fold.colours q.first.fold.work
    comes_at q is = subst (λ (rs : List (List ℕ)). ComesTo shelf.shape is.folded.head rs q.first.fold.table q.first.fold.colours q.first.fold.work) (is.folded.same x) is.folded.comes

    one_made : IsNew file → (a.folded.head ≡ b.folded.head) × (o.records ≡ p.records)
    one_made n = ((a.made x n).0 ∙ sym (b.made x n).0, (a.made x n).1 ∙ sym (b.made x n).1)

    one_found : (IsNew file → ⊥) → (a.folded.head ≡ b.folded.head) × (o.records ≡ p.records)
    one_found not =
        let here = a.found x not in
        let there = b.found x not in
        (sym (head_once shelf.shape a.folded.head b.folded.head o.records p.records file a.limits.most_modules here there), sym (stands_once shelf.shape a.folded.head b.folded.head o.records p.records file here there))
