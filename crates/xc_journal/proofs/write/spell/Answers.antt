use Rattle.std.proofs.Common.{◌≡◌, ◌∙◌, ◌++◌, [], ◌∷◌, List, ℕ, ap, append_assoc, drop, length, refl, rules, sym}
use Rattle.std.proofs.lemmas.List.{drop-replicate}
use Rattle.xc_journal.specs.Spelling.{front, label_bytes, label_of, label_zeros, zeros}
use Rattle.xc_journal.proofs.Bytes.{filled, part_size}
use Rattle.xc_journal.proofs.write.spell.Goals as goal

pub returns-in-Enter-clause-spelled : goal.returns-in-Enter-clause-spelled
returns-in-Enter-clause-spelled c =
    let change = c.args.change.now in
    let choices = c.args.choices.now.items in
    let l : List ℕ = c.in-Enter.conn.label in
    let same : label_of change ≡ l = search rules in
    let f : c.copy_from_slice-in-Enter.new.self ≡ front change choices ++ length l ∷ [] =
    c.copy_from_slice-in-Enter.ensures.after ∙ c.front_of-in-Enter.ensures ∙ (λ i. front change (c.as_slice-in-Enter.ensures.value i) ++ length (c.bytes.ensures.bytes i) ∷ []) in
    let t : c.copy_from_slice-in-Enter-2.new.self ≡ l ++ drop (length l) label_zeros = c.copy_from_slice-in-Enter-2.ensures.after ∙ (c.padded.ensures ∙ ap (λ (zs : List ℕ). l ++ zs) (sym (drop-replicate (length l) 24 0))) in
    let size = c.copy_from_slice-in-Enter-2.ensures.len ∙ part_size c.copy_from_slice-in-Enter.new.self label_zeros zeros c.copy_from_slice-in-Enter.ensures.len refl in
    filled c.copy_from_slice-in-Enter.new.self c.copy_from_slice-in-Enter-2.new.self label_zeros zeros c.copy_from_slice-in-Enter.ensures.len size refl
    ∙ (λ i. (f i ++ t i) ++ zeros)
    ∙ ap (λ (x : List ℕ). x ++ zeros) (append_assoc (front change choices) (length l ∷ []) (l ++ drop (length l) label_zeros))
    ∙ ap (λ (x : List ℕ). (front change choices ++ label_bytes x) ++ zeros) (sym same)
