-- The completion codes among the responses that the load was written.
use Rattle.std.specs.Prelude.{◌≡◌, ℕ, zero, suc, ◌+◌, ◌<◌, ◌==◌, false, List, [], ◌∷◌, ◌++◌, length, if◌then◌else◌}

-- the first letters of COMPLD and DENY
abbrev pub compld : ℕ
compld = 67

abbrev pub deny : ℕ
deny = 68

-- where a reader of responses is: in the response to the log-in; with so many bytes and one more before the tag; in the tag; at the first
-- letter of the completion code; after it, up to the response's end
pub data Spot : Type 0 where
  Login : Spot
  Front : ℕ → Spot
  Tag : Spot
  Code : Spot
  Rest : Spot

-- where a reader is behind a byte: a response has 33 bytes before its tag, a blank after it, and ends with a semicolon
abbrev pub next_spot : Spot → ℕ → Spot
next_spot Login b = if b == 59 then Front 32 else Login
next_spot (Front zero) b = Tag
next_spot (Front (suc n)) b = Front n
next_spot Tag b = if b == 32 then Code else Tag
next_spot Code b = Rest
next_spot Rest b = if b == 59 then Front 32 else Rest

-- 1 where this is the letter
abbrev pub code_of : ℕ → ℕ → ℕ
code_of letter b = if b == letter then 1 else 0

-- 1 where this letter stands at the place of a code
abbrev pub codes_at : ℕ → Spot → ℕ → ℕ
codes_at letter Login b = 0
codes_at letter (Front n) b = 0
codes_at letter Tag b = 0
codes_at letter Code b = code_of letter b
codes_at letter Rest b = 0

-- how many of the codes in these bytes begin with this letter
abbrev pub coded_from : ℕ → Spot → List ℕ → ℕ
coded_from letter s [] = 0
coded_from letter s (b ∷ bs) = codes_at letter s b + coded_from letter (next_spot s b) bs

-- and how many of the codes after the first response, which is the log-in's
abbrev pub coded_in : ℕ → List ℕ → ℕ
coded_in letter bs = coded_from letter Login bs

-- no byte has this value
abbrev pub HasNone : ℕ → List ℕ → Type 0
HasNone byte [] = Unit {0}
HasNone byte (b ∷ bs) = ((b == byte) ≡ false) × HasNone byte bs

-- what stands after the first byte of this value
abbrev pub IsBehind : ℕ → List ℕ → List ℕ → Type 0
IsBehind byte text rest = (front : List ℕ) × HasNone byte front × (text ≡ front ++ byte ∷ rest)

-- in a text that begins in a response, no code stands after it
abbrev pub HasNoCode : List ℕ → Type 0
HasNoCode text = (letter : ℕ) → coded_from letter Rest text ≡ 0

-- or the first one begins with this letter, and the rest stands after it
abbrev pub IsNextCode : List ℕ → ℕ → List ℕ → Type 0
IsNextCode text b rest = ((letter : ℕ) → coded_from letter Rest text ≡ code_of letter b + coded_from letter Rest rest) × (length rest < length text)
