-- Values of any type, for what is let go.
-- a value, with its type
pub record AnyValue : Type 1 where
  pub kind : Type 0
  pub value : kind

abbrev pub any_value : {T : Type 0} → T → AnyValue
any_value {T} value = record { kind = T; value = value }
