-- Dates of entries: numbers that rise along a history, and along what a place does to two of them.
use Rattle.std.specs.Prelude.{◌≡◌, ◌≢◌, ℕ, ◌<◌, max, List, [], ◌∷◌, ◌++◌, refl}
use Rattle.std.specs.Coded.{Coded, code_by, coded×, coded_ℕ, coded_list}

-- The date of an entry, and the number of the pass that made it
pub record Stamp : Type 0 where
  pub date : ℕ
  pub number : ℕ

abbrev pub stamp : ℕ → ℕ → Stamp
stamp d n = record { date = d; number = n }

abbrev pub stamp_code : Coded Stamp
stamp_code = code_by (ℕ × ℕ) (coded× coded_ℕ coded_ℕ) (λ s. (s.date, s.number)) (λ p. stamp p.0 p.1) (λ _. refl)

abbrev pub stamps_code : Coded (List Stamp)
stamps_code = coded_list stamp_code

-- each stamp of the list is so
abbrev pub AreAll : (Stamp → Type 0) → List Stamp → Type 0
AreAll P [] = Unit {0}
AreAll P (s ∷ ss) = P s × AreAll P ss

-- the highest date; 0 where there is none
abbrev pub newest : List Stamp → ℕ
newest [] = 0
newest (s ∷ ss) = max s.date (newest ss)

-- each date is higher than those before it
abbrev pub AreRising : List Stamp → Type 0
AreRising [] = Unit {0}
AreRising (s ∷ ss) = AreAll (λ t. s.date < t.date) ss × AreRising ss

-- of the pass itself, each of these has a higher date than all of those
abbrev pub IsOwnAbove : ℕ → List Stamp → List Stamp → Type 0
IsOwnAbove own seen more = AreAll (λ s. s.number ≡ own → AreAll (λ t. t.number ≡ own → t.date < s.date) seen) more

-- behind those that were seen stand others' alone
pub record AreOthers (own : ℕ) (old new : List Stamp) : Type 0 where
  pub more : List Stamp
  pub whole : new ≡ old ++ more
  pub others : AreAll (λ s. s.number ≢ own) more

-- Behind them stand more, and those of the pass itself have higher dates than what it had heard
pub record GoOn (own heard : ℕ) (old new : List Stamp) : Type 0 where
  pub more : List Stamp
  pub whole : new ≡ old ++ more
  pub higher : AreAll (λ s. s.number ≡ own → heard < s.date) more
