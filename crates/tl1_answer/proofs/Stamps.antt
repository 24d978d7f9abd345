-- Moments by the bytes of their fields.
use Rattle.std.proofs.Common.{◌≡◌, ◌<◌, ℕ, zero, suc, List, [], ◌∷◌, get_or}
use Rattle.dxc_outside.specs.declared.clock.Moment.{Moment}

pub same_moment : (a b : Moment) → (a.year ∷ a.month ∷ a.day ∷ a.hour ∷ []) ≡ (b.year ∷ b.month ∷ b.day ∷ b.hour ∷ []) → (a.minute ∷ a.second ∷ []) ≡ (b.minute ∷ b.second ∷ []) → a ≡ b
same_moment a b date time = λ i. record {
  year = get_or (date i) 0 0;
  month = get_or (date i) 1 0;
  day = get_or (date i) 2 0;
  hour = get_or (date i) 3 0;
  minute = get_or (time i) 0 0;
  second = get_or (time i) 1 0;
}
