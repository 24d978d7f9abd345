-- A session's run over the users' history, beside its run over the table's: both walk the same happenings.
use Rattle.std.specs.Prelude.{◌≡◌, ◌≢◌, ℕ, true, List, [], ◌∷◌, ◌++◌}
use Rattle.dxc_model.specs.declared.user.SessionUser.{SessionUser}
use Rattle.user_admin.specs.declared.op.UserEntry.{UserEntry}
use Rattle.user_admin.specs.Histories.{Opening}
use Rattle.craft_session.specs.Asks.{Language, user_after}
use Rattle.craft_session.specs.Happenings.{Happening, unit, quiet}
use Rattle.craft_session.specs.Hearing.{Hears}

-- What happened in the session of a place that had seen the users' history h, the history as it has seen it then, and who is logged in: others'
-- entries pass, and a unit that wants something of the users takes the place's next entry, and hears what comes of it. Of the program each unit is told
-- just what it asks.
pub data Consults {U M : Type 0} (l : Language U M) (place : ℕ) (o : Opening) (h : List UserEntry) : List (Happening U) → List UserEntry → SessionUser → Type 0 where
  consults_none : Consults l place o h [] h l.first
  others_pass : (hs : List (Happening U)) (g : List UserEntry) (s : SessionUser) (e : UserEntry) → e.place ≢ place → Consults l place o h hs g s → Consults l place o h hs (g ++ e ∷ []) s
  unit_hears : (hs : List (Happening U)) (g : List UserEntry) (s : SessionUser) (u : U) (es : List UserEntry) → Hears o place g (l.wants s u) es (l.heard u) → l.is_told s u ≡ true → Consults l place o h hs g s
      → Consults l place o h (hs ++ unit u ∷ []) (g ++ es) (user_after s (l.asks s u))
  quiet_passes : (hs : List (Happening U)) (g : List UserEntry) (s : SessionUser) → Consults l place o h hs g s → Consults l place o h (hs ++ quiet ∷ []) g s
