use Rattle.std.proofs.Common.{◌≡◌, ◌<◌, ◌+◌, ◌-◌, ℕ, List, [], ◌++◌, length, take, drop, sym, ◌∙◌, ap, subst, arith, append_assoc, length-append}
use Rattle.std.proofs.lemmas.List.{take-append-drop}
use Rattle.std.proofs.lemmas.Grind.{common_steps}
use Rattle.tl1_text.specs.Units.{is_quoted, Begins}
use Rattle.tl1_text.specs.Reading.{Holds, IsRun}
use Rattle.tl1_text.proofs.Runs.{holds_run, holds_run_past, quoted_run, run_front, run_back, begins_front}
use Rattle.tl1_text.proofs.reader.keep_run.Goals as goal

-- a run of which only the front has room
cut_run : (room : ℕ) (text bs kept : List ℕ) → Holds bs kept → length kept + room ≡ 2048 → room < length text → IsRun text → (kept ≡ [] → Begins text) → Holds (bs ++ text) (kept ++ take room text)
cut_run room text bs kept h fits lt run begins =
    let front : length (take room text) ≡ room = grind (arith, common_steps, lt) in
    let held = holds_run (take room text) bs kept h (omega (arith, fits, front)) (run_front room text run) (λ none. begins_front room text (begins none)) in
    let past = holds_run_past (drop room text) (bs ++ take room text) (kept ++ take room text) held (omega (arith, fits, front, length-append kept (take room text))) (run_back room text run) in
    subst (λ (l : List ℕ). Holds l (kept ++ take room text)) (append_assoc bs (take room text) (drop room text) ∙ ap (λ (l : List ℕ). bs ++ l) (take-append-drop room text)) past

pub returns-then-text-room-clause-held : goal.returns-then-text-room-clause-held
returns-then-text-room-clause-held c = λ bs holds.
    let held = holds_run c.args.text.now bs c.args.kept.now holds (omega (arith, c.if-text-room.true, c.len-room.ensures.value)) c.requires.run c.requires.begins in
    subst (λ (l : List ℕ). Holds (bs ++ c.args.text.now) l) (sym c.extend.ensures.items) held

pub returns-then-text-room-clause-quoted : goal.returns-then-text-room-clause-quoted
returns-then-text-room-clause-quoted c =
    ap is_quoted c.extend.ensures.items ∙ quoted_run c.args.text.now c.args.kept.now c.requires.run

pub returns-else-text-room-clause-held : goal.returns-else-text-room-clause-held
returns-else-text-room-clause-held c = λ bs holds.
    let held = cut_run (2048 - c.len-room.result) c.args.text.now bs c.args.kept.now holds (omega (arith, c.len-room.ensures.value)) c.if-text-room.false c.requires.run c.requires.begins in
    subst (λ (l : List ℕ). Holds (bs ++ c.args.text.now) l) (sym c.extend-else-text-room.ensures.items) held

pub returns-else-text-room-clause-quoted : goal.returns-else-text-room-clause-quoted
returns-else-text-room-clause-quoted c =
    ap is_quoted c.extend-else-text-room.ensures.items ∙ quoted_run (take (2048 - c.len-room.result) c.args.text.now) c.args.kept.now (run_front (2048 - c.len-room.result) c.args.text.now c.requires.run)
