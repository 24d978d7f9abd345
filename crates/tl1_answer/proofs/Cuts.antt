-- The blocks of lines are determined.
use Rattle.std.proofs.Common.{◌≡◌, ℕ, ◌+◌, ◌<◌, ◌≤◌, Bool, true, false, List, [], ◌∷◌, ◌++◌, length, nat_lt, if◌then◌else◌, codes, refl, sym, ◌∙◌, ap, subst, arith, append_assoc, append-nil, length-append}
use Rattle.std.specs.List.{AllByRecursion}
use Rattle.std.proofs.lemmas.Bool.Decides.{nat_tests}
use Rattle.tl1_answer.specs.Messages.{with_line}
use Rattle.tl1_answer.specs.Blocks.{fits}
use Rattle.tl1_answer.specs.Responses.{with_lines, AreBlocks, last_block, cut_block, blocks_from, blocks_of, AreCut}

pub length-with_line : (front text : List ℕ) → length (with_line front text) ≡ length front + length text + 5
length-with_line front text = omega (arith, length-append ((front ++ codes "   ") ++ text) (codes "\r\n"), length-append (front ++ codes "   ") text, length-append front (codes "   "))

with_lines_more : (front : List ℕ) (ls : List (List ℕ)) (l : List ℕ) → with_lines front (ls ++ l ∷ []) ≡ with_line (with_lines front ls) l
with_lines_more front [] l = refl
with_lines_more front (k ∷ ls) l = with_lines_more (with_line front k) ls l

longer : (front : List ℕ) (ls : List (List ℕ)) → length front ≤ length (with_lines front ls)
longer front [] = omega arith
longer front (l ∷ ls) = omega (arith, longer (with_line front l) ls, length-with_line front l)

fits_is : (bytes : List ℕ) → fits bytes ≡ true → length bytes + 1 ≤ 4096
fits_is bytes is = let test : nat_lt (length bytes) 4096 ≡ true = is in grind (arith, nat_tests, test)

fits_not : (bytes : List ℕ) → fits bytes ≡ false → 4096 < length bytes + 1
fits_not bytes is = let test : nat_lt (length bytes) 4096 ≡ false = is in grind (arith, nat_tests, test)

is_fits : (bytes : List ℕ) → length bytes + 1 ≤ 4096 → fits bytes ≡ true
is_fits bytes le = grind (arith, nat_tests, le)

not_fits : (bytes : List ℕ) → 4096 < length bytes + 1 → fits bytes ≡ false
not_fits bytes lt = grind (arith, nat_tests, lt)

module _ (front : List ℕ) (short : length front ≤ 64) where
  -- a line after the head alone fits
  first_fits : (l : List ℕ) → length l ≤ 128 → length (with_line front l) + 1 ≤ 4096
  first_fits l le = omega (arith, length-with_line front l, short, le)

  -- the next line, by whether it fits
  step : (done ls : List (List ℕ)) (l : List ℕ) (c : Bool) → fits (with_line (with_lines front done) l) ≡ c → length (with_lines front done) + 1 ≤ 4096
      → (length (with_lines front (done ++ l ∷ [])) + 1 ≤ 4096 → AreBlocks front ((done ++ l ∷ []) ++ ls) (blocks_from front (with_lines front (done ++ l ∷ [])) ls))
      → AreBlocks front (l ∷ ls) (blocks_from front (with_line front l) ls)
      → AreBlocks front (done ++ l ∷ ls) (if c then blocks_from front (with_line (with_lines front done) l) ls else (with_lines front done ++ codes ">") ∷ blocks_from front (with_line front l) ls)
  step done ls l true c_is le kept again =
      let same = with_lines_more front done l in
      let room : length (with_lines front (done ++ l ∷ [])) + 1 ≤ 4096 = omega (arith, ap length same, fits_is (with_line (with_lines front done) l) c_is) in
      let there = kept room in
      rw (append_assoc, same) at there
  step done ls l false c_is le kept again = cut_block done ls (blocks_from front (with_line front l) ls) l le (fits_not (with_line (with_lines front done) l) c_is) again

  cut : (ls done : List (List ℕ)) → AllByRecursion (λ l. length l ≤ 128) ls → length (with_lines front done) + 1 ≤ 4096 → AreBlocks front (done ++ ls) (blocks_from front (with_lines front done) ls)
  cut [] done are le = rw (append-nil done) (last_block done le)
  cut (l ∷ ls) done are le =
      step done ls l (fits (with_line (with_lines front done) l)) refl le
      (λ room. cut ls (done ++ l ∷ []) are.1 room)
      (cut ls (l ∷ []) are.1 (first_fits l are.0))

  -- lines that all fit go into the block in hand
  taken : (lines : List (List ℕ)) (bytes : List ℕ) (more : List (List ℕ)) → length (with_lines bytes lines) + 1 ≤ 4096 → blocks_from front bytes (lines ++ more) ≡ blocks_from front (with_lines bytes lines) more
  taken [] bytes more le = refl
  taken (l ∷ lines) bytes more le =
      let room = is_fits (with_line bytes l) (omega (arith, longer (with_line bytes l) lines, le)) in
      rw room (taken lines (with_line bytes l) more le)

  all_of : (lines : List (List ℕ)) (next : List ℕ) (rest : List (List ℕ)) → AllByRecursion (λ l. length l ≤ 128) (lines ++ next ∷ rest) → AllByRecursion (λ l. length l ≤ 128) (next ∷ rest)
  all_of [] next rest are = are
  all_of (l ∷ lines) next rest are = all_of lines next rest are.1

  alone : (lines blocks : List (List ℕ)) → AllByRecursion (λ l. length l ≤ 128) lines → AreBlocks front lines blocks → blocks ≡ blocks_of front lines
  alone _ _ are (last_block lines le) = sym (ap (λ (l : List (List ℕ)). blocks_from front front l) (sym (append-nil lines)) ∙ taken lines front [] le)
  alone _ _ are (cut_block lines rest blocks next le lt later) =
      let rests = all_of lines next rest are in
      let there = alone (next ∷ rest) blocks rests later in
      let fit = is_fits (with_line front next) (first_fits next rests.0) in
      let full = not_fits (with_line (with_lines front lines) next) lt in
      let begins : blocks ≡ blocks_from front (with_line front next) rest = rw fit at there in
      sym (taken lines front (next ∷ rest) le ∙ (rw full (ap (λ (l : List (List ℕ)). (with_lines front lines ++ codes ">") ∷ l) (sym begins))))

pub are_cut : AreCut
are_cut front lines blocks short = (alone front short.front_is lines blocks short.lines_are, λ is. subst (λ (l : List (List ℕ)). AreBlocks front lines l) (sym is) (cut front short.front_is lines [] short.lines_are (omega (arith, short.front_is))))
