-- Where a reader stands in a parameter.

-- before its first byte, after a byte without quotes, inside its quotes, after its quotes
pub data Place : Type 0 where
  Start : Place
  Plain : Place
  Quoted : Place
  Closed : Place
