-- What the links that came to a place were written, beside what the plain element writes its sessions.
use Rattle.std.specs.Prelude.{◌≡◌, ◌⊎◌, ℕ, List, [], ◌∷◌, ◌++◌}
use Rattle.dxc_causes.specs.Causes.{Rose}
use Rattle.dxc_outside.specs.declared.clock.Moment.{Moment}
use Rattle.dxc_outside.specs.declared.gate.Gate.{Ghosts as GateOf}
use Rattle.dxc_outside.specs.declared.link.Link.{Ghosts as LinkOf}
use Rattle.dxc_outside.specs.Items.{Item, bytes}
use Rattle.dxc_outside.specs.Links.{LinkState, Exchanged}
use Rattle.craft_session.specs.declared.timestamps.Timestamps.{Ghosts as ClockOf}
use Rattle.craft_session.specs.Happenings.{Happens, Request, unit}
use Rattle.switch_laws.specs.Element.{Session}
use Rattle.switch_laws.specs.Users.{Hearing}
use Rattle.craft_server.specs.Callers.{InTurn, ServedCaller, Standing, none_yet, one_more}

-- What came over one link happened in the session, but for what was read ahead and a rest; and what the link was written is what the element writes
-- the session: all of it, or a first part where its count of faults of writes rose.
pub record IsWritten (told : Type 0) (k j : LinkState) (s : Session Request Moment) : Type 0 where
  pub items : List Item
  pub ahead : List ℕ
  pub rest : List ℕ
  pub out : List ℕ
  pub missing : List ℕ
  pub exchanged : Exchanged told k j (items ++ bytes ahead) out
  pub happened : Happens items s.happenings rest
  pub written : s.said.bytes ≡ out ++ missing
  pub cut : (missing ≡ []) ⊎ Rose k.write_faults j.write_faults

-- so it is for each of these links, as it came and as it was left
abbrev pub AreWritten : (told : Type 0) {K : Type 0} → (K → LinkState) → List (K × K) → List (Session Request Moment) → Type 0
AreWritten told link [] [] = Unit {0}
AreWritten told link [] (s ∷ ss) = ⊥
AreWritten told link (k ∷ ks) [] = ⊥
AreWritten told link (k ∷ ks) (s ∷ ss) = IsWritten told (link k.0) (link k.1) s × AreWritten told link ks ss

module _ (disk_told : Type 0) {C K G : Type 0} (clock : ClockOf C) (link : LinkOf K) (gate : GateOf G) where
  -- the links of the callers that were served, as they came and as they were left, the newest first
  abbrev pub links_in : (old : Standing G) (came : List K) (new : Standing G) → InTurn (ServedCaller disk_told clock link gate) old came new → List (K × K)
  links_in _ _ _ (none_yet s) = []
  links_in _ _ _ (one_more s t u ks k past step) = (k, step.left) ∷ links_in s ks t past

-- what happened in a session is what it heard of the users, but for a last unit that a stop cut before they were changed
abbrev pub IsHeardIn : Session Request Moment → Hearing Request → Type 0
IsHeardIn s h = (s.happenings ≡ h.happenings) ⊎ ((u : Request) × (s.happenings ≡ h.happenings ++ unit u ∷ []))

abbrev pub AreHeardIn : List (Session Request Moment) → List (Hearing Request) → Type 0
AreHeardIn [] [] = Unit {0}
AreHeardIn [] (h ∷ hs) = ⊥
AreHeardIn (s ∷ ss) [] = ⊥
AreHeardIn (s ∷ ss) (h ∷ hs) = IsHeardIn s h × AreHeardIn ss hs
