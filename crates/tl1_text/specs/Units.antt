-- Units of a stream of bytes.
use Rattle.std.specs.Prelude.{◌≡◌, ℕ, Bool, true, false, List, [], ◌∷◌, ◌++◌, length, nat_lt, not, ◌==◌, if◌then◌else◌}

-- the text of a unit, or that it was too long
pub data Input : Type 0 where
  whole : List ℕ → Input
  too_long : Input

-- a blank, CR or LF, which fall away before a unit
abbrev pub is_gap : ℕ → Bool
is_gap b = if b == 32 then true else (if b == 13 then true else b == 10)

abbrev pub AreGaps : List ℕ → Type 0
AreGaps [] = Unit {0}
AreGaps (b ∷ bs) = (is_gap b ≡ true) × AreGaps bs

-- a unit begins with another byte
abbrev pub Begins : List ℕ → Type 0
Begins [] = Unit {0}
Begins (b ∷ bs) = is_gap b ≡ false

-- a quote stands open after these bytes
abbrev pub is_quoted : List ℕ → Bool
is_quoted [] = false
is_quoted (b ∷ bs) = if b == 34 then not (is_quoted bs) else is_quoted bs

-- a ; after these bytes of a unit ends it: outside quotes, or past the limit
abbrev pub ends_behind : List ℕ → Bool
ends_behind before = if nat_lt (length before) 2048 then not (is_quoted before) else true

-- no ; among these bytes ends the unit
abbrev pub IsOpen : List ℕ → Type 0
IsOpen text = (before after : List ℕ) → text ≡ before ++ 59 ∷ after → ends_behind before ≡ false

-- a unit has at most 2,048 bytes, its ; among them
abbrev pub unit_of : List ℕ → Input
unit_of text = if nat_lt (length text) 2048 then whole text else too_long

-- these bytes are one unit: bytes that fall away, its text, and the ; that ends it
pub record IsUnit (bs : List ℕ) (u : Input) : Type 0 where
  pub gaps : List ℕ
  pub text : List ℕ
  pub split : bs ≡ gaps ++ text ++ 59 ∷ []
  pub are_gaps : AreGaps gaps
  pub begins : Begins text
  pub unended : IsOpen text
  pub ends : ends_behind text ≡ true
  pub is : u ≡ unit_of text

-- these bytes begin with no unit: bytes that fall away, and an open text
pub record IsRest (bs : List ℕ) : Type 0 where
  pub gaps : List ℕ
  pub text : List ℕ
  pub split : bs ≡ gaps ++ text
  pub are_gaps : AreGaps gaps
  pub begins : Begins text
  pub unended : IsOpen text

-- these bytes are these units
pub data Units : List ℕ → List Input → Type 0 where
  none : Units [] []
  more : (bs chunk : List ℕ) (us : List Input) (u : Input) → Units bs us → IsUnit chunk u → Units (bs ++ chunk) (us ++ u ∷ [])

-- these bytes are these units, and then a rest that begins with no unit
pub record IsStream (bs : List ℕ) (us : List Input) (rest : List ℕ) : Type 0 where
  pub front : List ℕ
  pub split : bs ≡ front ++ rest
  pub units : Units front us
  pub no_unit : IsRest rest

-- these bytes have units and a rest
pub record HasUnits (bs : List ℕ) : Type 0 where
  pub units : List Input
  pub rest : List ℕ
  pub stream : IsStream bs units rest
