use Rattle.std.proofs.Common.{◌≡◌, ◌≤◌, ◌+◌, ◌-◌, ◌++◌, List, ℕ, length, take, drop, ◌∙◌, ap, arith}
use Rattle.std.proofs.lemmas.List.{length-take}
use Rattle.std.proofs.Math.Seq.{take-add}
use Rattle.dxc_outside.specs.Openings.{most_shelf_bytes}
use Rattle.dxc_host.proofs.host_opener.append_file.Goals as goal

-- what begins with the old bytes and was cut is those bytes and a part that is no longer than the cut
cut : (old new : List ℕ) (most end : ℕ) → take (length old) new ≡ old → length old ≤ end → end ≤ length old + most
    → (part : List ℕ) × (take end new ≡ old ++ part) × (length part ≤ most)
cut old new most end begins from to =
    let more = end - length old in
    let at : end ≡ length old + more = omega arith in
    let part = take more (drop (length old) new) in (
      part,
      ap (λ (n : ℕ). take n new) at ∙ take-add (length old) more new ∙ ap (λ (l : List ℕ). l ++ part) begins,
      omega (arith, length-take more (drop (length old) new)),
    )

pub returns-clause-ok : goal.returns-clause-ok
returns-clause-ok g c =
    let (part, is, most) = cut c.args.into.now.items c.read_to_end.new.buf.items most_shelf_bytes c.saturating_add.result
    c.read_to_end.ensures.appends (omega arith) (omega arith) in
    (part, c.truncate-2.ensures.items ∙ is, most)
