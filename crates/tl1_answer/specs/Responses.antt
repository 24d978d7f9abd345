-- Whole responses, cut into blocks.
use Rattle.std.specs.Prelude.{◌≡◌, ◌↔◌, ℕ, ◌+◌, ◌<◌, ◌≤◌, List, [], ◌∷◌, ◌++◌, length, if◌then◌else◌, Option, codes}
use Rattle.std.specs.List.{AllByRecursion}
use Rattle.dxc_outside.specs.declared.clock.Moment.{Moment}
use Rattle.dxc_model.specs.declared.cause.Cause.{Cause}
use Rattle.dxc_model.specs.Causes.{row_of}
use Rattle.tl1_answer.specs.declared.answer.Code.{Code}
use Rattle.tl1_answer.specs.Messages.{head, with_line}
use Rattle.tl1_answer.specs.Blocks.{fits}

-- bytes with lines after them
abbrev pub with_lines : List ℕ → List (List ℕ) → List ℕ
with_lines front [] = front
with_lines front (l ∷ ls) = with_lines (with_line front l) ls

-- the blocks of these lines: each is the head, as many whole lines as fit with its ending byte in 4,096 bytes, and > or, in the last, ;
pub data AreBlocks (front : List ℕ) : List (List ℕ) → List (List ℕ) → Type 0 where
  last_block : (lines : List (List ℕ)) → length (with_lines front lines) + 1 ≤ 4096 → AreBlocks front lines ((with_lines front lines ++ codes ";") ∷ [])
  cut_block : (lines rest blocks : List (List ℕ)) (next : List ℕ) → length (with_lines front lines) + 1 ≤ 4096 → 4096 < length (with_line (with_lines front lines) next) + 1
      → AreBlocks front (next ∷ rest) blocks → AreBlocks front (lines ++ next ∷ rest) ((with_lines front lines ++ codes ">") ∷ blocks)

-- the blocks that are still to come, where the one in hand holds these bytes and these lines follow
abbrev pub blocks_from : List ℕ → List ℕ → List (List ℕ) → List (List ℕ)
blocks_from front bytes [] = (bytes ++ codes ";") ∷ []
blocks_from front bytes (l ∷ ls) = if fits (with_line bytes l) then blocks_from front (with_line bytes l) ls else (bytes ++ codes ">") ∷ blocks_from front (with_line front l) ls

-- the blocks of these lines, each with this head
abbrev pub blocks_of : List ℕ → List (List ℕ) → List (List ℕ)
blocks_of front lines = blocks_from front front lines

-- blocks one after another
abbrev pub joined : List (List ℕ) → List ℕ
joined [] = []
joined (b ∷ bs) = b ++ joined bs

-- the bytes of a response
abbrev pub response : List ℕ → Moment → Option (List ℕ) → Code → List (List ℕ) → List ℕ
response sid m tag code lines = joined (blocks_of (head sid m tag code) lines)

-- the text lines of a denial: the code, and the comment line
abbrev pub denial : Cause → List (List ℕ)
denial q = (row_of q).code ∷ (codes "/* " ++ (row_of q).text ++ codes " */") ∷ []

-- a head and lines such as responses have
pub record AreShort (front : List ℕ) (lines : List (List ℕ)) : Type 0 where
  pub front_is : length front ≤ 64
  pub lines_are : AllByRecursion (λ l. length l ≤ 128) lines

-- the blocks of lines are those, and no others
abbrev pub AreCut : Type 0
AreCut = (front : List ℕ) (lines blocks : List (List ℕ)) → AreShort front lines → AreBlocks front lines blocks ↔ (blocks ≡ blocks_of front lines)
