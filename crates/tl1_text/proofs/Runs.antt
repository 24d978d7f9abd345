-- Many bytes more in the unit in hand, among which are neither ; nor quotes.
use Rattle.std.proofs.Common.{◌≡◌, ℕ, zero, suc, ◌≤◌, ◌+◌, false, List, [], ◌∷◌, ◌++◌, length, take, drop, ◌==◌, refl, sym, ◌∙◌, ap, subst, arith, append_assoc, length-append}
use Rattle.std.proofs.lemmas.List.{append-nil}
use Rattle.std.proofs.lemmas.Bool.Decides.{nat_tests}
use Rattle.tl1_text.specs.Units.{is_quoted, Begins}
use Rattle.tl1_text.specs.Reading.{Holds, IsRun}
use Rattle.tl1_text.proofs.Steps.{holds_kept, holds_past, quoted_more}

not_nothing : (kept : List ℕ) (b : ℕ) → kept ++ b ∷ [] ≡ [] → ⊥
not_nothing [] b is = cc
not_nothing (k ∷ kept) b is = cc

-- a run that there is room for
pub holds_run : (text bs kept : List ℕ) → Holds bs kept → length kept + length text ≤ 2048 → IsRun text → (kept ≡ [] → Begins text) → Holds (bs ++ text) (kept ++ text)
holds_run [] bs kept h fits run begins = subst (λ (l : List ℕ). Holds l (kept ++ [])) (sym (append-nil bs)) (subst (λ (l : List ℕ). Holds bs l) (sym (append-nil kept)) h)
holds_run (b ∷ text) bs kept h fits run begins =
    let one = holds_kept bs kept h b (omega arith) begins (λ is. absurd (run.0 is)) in
    let all = holds_run text (bs ++ b ∷ []) (kept ++ b ∷ []) one (omega (arith, length-append kept (b ∷ []))) run.2 (λ none. absurd (not_nothing kept b none)) in
    subst (λ (l : List ℕ). Holds l (kept ++ b ∷ text)) (append_assoc bs (b ∷ []) text) (subst (λ (l : List ℕ). Holds ((bs ++ b ∷ []) ++ text) l) (append_assoc kept (b ∷ []) text) all)

-- a run past the limit
pub holds_run_past : (text bs kept : List ℕ) → Holds bs kept → 2048 ≤ length kept → IsRun text → Holds (bs ++ text) kept
holds_run_past [] bs kept h le run = subst (λ (l : List ℕ). Holds l kept) (sym (append-nil bs)) h
holds_run_past (b ∷ text) bs kept h le run =
    let one = holds_past bs kept h b le (λ is. absurd (run.0 is)) in
    subst (λ (l : List ℕ). Holds l kept) (append_assoc bs (b ∷ []) text) (holds_run_past text (bs ++ b ∷ []) kept one le run.2)

-- quotes after a run
pub quoted_run : (text kept : List ℕ) → IsRun text → is_quoted (kept ++ text) ≡ is_quoted kept
quoted_run [] kept run = ap is_quoted (append-nil kept)
quoted_run (b ∷ text) kept run =
    let other : (b == 34) ≡ false = grind (arith, nat_tests, run.1) in
    let one : is_quoted (kept ++ b ∷ []) ≡ is_quoted kept = quoted_more kept b ∙ (rw other (refl)) in
    ap is_quoted (sym (append_assoc kept (b ∷ []) text)) ∙ quoted_run text (kept ++ b ∷ []) run.2 ∙ one

-- a part of a run is one
pub run_front : (n : ℕ) (text : List ℕ) → IsRun text → IsRun (take n text)
run_front zero text run = tt
run_front (suc n) [] run = tt
run_front (suc n) (b ∷ text) run = (run.0, run.1, run_front n text run.2)

pub run_back : (n : ℕ) (text : List ℕ) → IsRun text → IsRun (drop n text)
run_back zero text run = run
run_back (suc n) [] run = tt
run_back (suc n) (b ∷ text) run = run_back n text run.2

pub begins_front : (n : ℕ) (text : List ℕ) → Begins text → Begins (take n text)
begins_front zero text begins = tt
begins_front (suc n) [] begins = tt
begins_front (suc n) (b ∷ text) begins = begins
