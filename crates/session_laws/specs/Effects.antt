-- How often a session's gate was asked after a work's writes, and for which entries.
use Rattle.std.specs.Prelude.{◌≤◌, ◌==◌, ◌+◌, if◌then◌else◌, ℕ, List, [], ◌∷◌}
use Rattle.dxc_outside.specs.declared.gate.GatePlace.{GatePlace}
use Rattle.dxc_outside.specs.declared.gate.GatePlace.TheVariants.{Finish}
use Rattle.dxc_model.specs.declared.entry.Entry.{Entry}
use Rattle.dxc_model.specs.declared.entry.Outcome.{Outcome}
use Rattle.dxc_model.specs.declared.entry.Outcome.TheVariants.{Done, Restarted, Cut}
use Rattle.user_admin.specs.declared.op.UserEntry.{UserEntry}
use Rattle.xc_core.specs.States.{Opening}
use Rattle.craft_session.specs.Gated.{AreGated}

-- which entries took effect, and which a stop cut
abbrev pub effect_in : Outcome → ℕ
effect_in (Done c) = 1
effect_in (Restarted c) = 1
effect_in _ = 0

abbrev pub cut_in : Outcome → ℕ
cut_in Cut = 1
cut_in _ = 0

-- how many of the place's own
unfoldable pub count_own : (Outcome → ℕ) → ℕ → List Entry → ℕ
count_own f place [] = 0
count_own f place (e ∷ es) = (if e.place == place then f e.outcome else 0) + count_own f place es

-- how often the gate was asked after the writes of a work
unfoldable pub ends_in : List GatePlace → ℕ
ends_in [] = 0
ends_in (Finish ∷ ps) = 1 + ends_in ps
ends_in (_ ∷ ps) = ends_in ps

-- once for each entry of the place's own that took effect, and for no other but those that a stop cut
abbrev pub AsksForEffects : ℕ → List Entry → List GatePlace → Type 0
AsksForEffects place es ps = (count_own effect_in place es ≤ ends_in ps) × (ends_in ps ≤ count_own effect_in place es + count_own cut_in place es)

abbrev pub EffectsAreAsked : Type 0
EffectsAreAsked = (o : Opening) (place users_place : ℕ) (h es : List Entry) (us : List UserEntry) (ps : List GatePlace) → AreGated o place users_place h es us ps → AsksForEffects place es ps
