use Rattle.std.proofs.Common.{sym, ap, ◌∙◌, subst, ◌≡◌, ◌+◌, ℕ, List, [], ◌∷◌, ◌++◌, length, take, drop, take_all, get_or, ◌<◌, ◌-◌, arith, append_assoc}
use Rattle.std.proofs.lemmas.Grind.{common_steps}
use Rattle.std.proofs.lemmas.List.{take_more}
use Rattle.tl1_text.specs.declared.reader.UnitKind.{UnitKind}
use Rattle.tl1_text.specs.declared.reader.UnitKind.TheVariants.{More}
use Rattle.tl1_text.specs.Reading.{Holds, Reader, hand, Made, IsFed}
use Rattle.tl1_text.proofs.Slices.{two_parts}
use Rattle.tl1_text.proofs.reader.UnitReader.feed.Goals as goal

all_behind : (piece : List ℕ) (i : ℕ) → take (length piece - i) (drop i piece) ≡ drop i piece
all_behind piece i = take_all (length piece - i) (drop i piece) (grind (arith, common_steps))

behind_run : (bs piece kept : List ℕ) (i n : ℕ) → Holds ((bs ++ take i piece) ++ take n (take (length piece - i) (drop i piece))) kept → Holds (bs ++ take (i + n) piece) kept
behind_run bs piece kept i n = subst (λ (l : List ℕ). Holds l kept) (ap (λ (l : List ℕ). (bs ++ take i piece) ++ take n l) (all_behind piece i) ∙ append_assoc bs (take i piece) (take n (drop i piece)) ∙ ap (λ (l : List ℕ). bs ++ l) (two_parts piece i n))

joined : (bs piece : List ℕ) (i : ℕ) → i < length piece → (bs ++ take i piece) ++ get_or piece i 0 ∷ [] ≡ bs ++ take (i + 1) piece
joined bs piece i lt = append_assoc bs (take i piece) (get_or piece i 0 ∷ []) ∙ ap (λ (l : List ℕ). bs ++ l) (sym (take_more piece i 0 lt))

fed : (bs piece : List ℕ) (i : ℕ) (kind : UnitKind) (r : Reader) → i < length piece → (kind ≡ More → ⊥) → Made ((bs ++ take i piece) ++ get_or piece i 0 ∷ []) kind r → IsFed bs piece (record { taken = i + 1; unit = kind }) r
fed bs piece i kind r lt not made = record { within = omega arith; all = λ is. absurd (not is); made = subst (λ (l : List ℕ). Made l kind r) (joined bs piece i lt) made }

on : (bs piece : List ℕ) (i : ℕ) (kind : UnitKind) (r : Reader) → i < length piece → kind ≡ More → Made ((bs ++ take i piece) ++ get_or piece i 0 ∷ []) kind r → Holds (bs ++ take (i + 1) piece) (hand r)
on bs piece i kind r lt is made =
    let now = subst (λ (l : List ℕ). Made l More r) (joined bs piece i lt) (subst (λ k. Made ((bs ++ take i piece) ++ get_or piece i 0 ∷ []) k r) is made) in
    now

pub loop-at-preserved-in-More : goal.loop-at-preserved-in-More
loop-at-preserved-in-More c = record {
  held = λ bs holds.
      let run = behind_run bs c.args.piece.now _ c.loop-at.at c.take_run-at.result (c.take_run-at.ensures.held (bs ++ take c.loop-at.at c.args.piece.now) (c.loop-at.invariant.held bs holds)) in
      let made = c.take.ensures.made (bs ++ take (c.loop-at.at + c.take_run-at.result) c.args.piece.now) run in
      on bs c.args.piece.now (c.loop-at.at + c.take_run-at.result) _ _ c.if-at-piece.true c.in-More.is made;
  within = omega (arith, c.if-at-piece.true);
}

pub returns-in_default : goal.returns-in_default
returns-in_default c = record {
  fed = λ bs holds.
      let run = behind_run bs c.args.piece.now _ c.loop-at.at c.take_run-at.result (c.take_run-at.ensures.held (bs ++ take c.loop-at.at c.args.piece.now) (c.loop-at.invariant.held bs holds)) in
      let made = c.take.ensures.made (bs ++ take (c.loop-at.at + c.take_run-at.result) c.args.piece.now) run in
      fed bs c.args.piece.now (c.loop-at.at + c.take_run-at.result) _ _ c.if-at-piece.true c.in_default.not-More made;
  within = omega (arith, c.if-at-piece.true);
  some = λ _. omega arith;
  short = c.take.ensures.short;
}
