use Rattle.std.proofs.Common.{◌≡◌, inl, inr, ⊎_elim, ℕ, ◌-◌, List, ◌++◌, length, take, drop, ◌∙◌, ap, arith, length-drop, rules}
use Rattle.std.proofs.lemmas.List.{take_all}
use Rattle.standby_link.proofs.KnownSteps.{over_then}
use Rattle.standby_link.proofs.known_disk.write_over.Goals as goal

pub returns-clause-begins : goal.returns-clause-begins
returns-clause-begins c =
    let over = c.min-over.result in
    let from = c.args.from.now in
    let rest : take (length from - over) (drop over from) ≡ drop over from = let l = length-drop over from in take_all (length from - over) (drop over from) (omega (arith, l)) in
    over_then c.args.at over from c.args.front.now.items c.append.new.front.items c.requires (search rules)
    (⊎_elim (λ short. inl (short ∙ c.write_within.ensures)) (λ long. inr (long ∙ ap (λ (l : List ℕ). c.write_within.new.front.items ++ l) rest ∙ ap (λ (l : List ℕ). l ++ drop over from) c.write_within.ensures)) c.append.ensures)
