-- Who logged in at which place, and whose sessions were ended since, by the users' history.
use Rattle.std.specs.Prelude.{ℕ, Bool, true, false, ◌&&◌, if◌then◌else◌, nat_lt, is_some, Option, Some, None, List, [], ◌∷◌, map, replicate, slice_get, slice_set}
use Rattle.std.specs.Str.{bytes_eq}
use Rattle.dxc_model.specs.declared.user.Class.{Class}
use Rattle.shelf_file.specs.Keys.{upper}
use Rattle.user_admin.specs.declared.occupants.Occupant.{Occupant}
use Rattle.user_admin.specs.declared.occupants.Occupant.TheVariants.{Nobody, User, Cancelled}
use Rattle.user_admin.specs.declared.op.UserEntry.{UserEntry}
use Rattle.tl1_users.specs.declared.op.UserOp.{UserOp}
use Rattle.tl1_users.specs.declared.op.UserOp.TheVariants as op
use Rattle.user_admin.specs.declared.op.UserOutcome.{UserOutcome}
use Rattle.user_admin.specs.declared.op.UserOutcome.TheVariants.{Done, Denied, Failed, Answered}

-- so many places are kept
abbrev pub most_places : ℕ
most_places = 64

-- nobody has logged in
abbrev pub nobody_yet : List Occupant
nobody_yet = replicate most_places Nobody

-- one of this name in upper case is cancelled
abbrev pub cancelled_if : Bool → List ℕ → Occupant
cancelled_if true uid = Cancelled
cancelled_if false uid = User uid

abbrev pub without : List ℕ → Occupant → Occupant
without name Nobody = Nobody
without name (User uid) = cancelled_if (bytes_eq uid name) uid
without name Cancelled = Cancelled

-- a user of this name in upper case has logged in at the place
abbrev pub logged_in : ℕ → List ℕ → List Occupant → List Occupant
logged_in place name os = if nat_lt place most_places then slice_set os place (User name) else os

-- what an operation of the place that was answered makes of them
abbrev pub answered : ℕ → UserOp → List Occupant → List Occupant
answered place (op.Enter uid pid class) os = os
answered place (op.Edit uid pid class) os = os
answered place (op.Delete uid) os = os
answered place (op.EditPid uid old new) os = os
answered place (op.Rows which) os = os
answered place (op.Look uid) os = os
answered place (op.LogIn uid) os = logged_in place (upper uid) os
answered place (op.Cancel uid) os = map (without (upper uid)) os

abbrev pub occupied_by : ℕ → UserOp → UserOutcome → List Occupant → List Occupant
occupied_by place o (Done c) os = os
occupied_by place o (Denied q) os = os
occupied_by place o (Failed q) os = os
occupied_by place o Answered os = answered place o os

abbrev pub occupied_from : List Occupant → List UserEntry → List Occupant
occupied_from os [] = os
occupied_from os (e ∷ h) = occupied_from (occupied_by e.place e.op e.outcome os) h

-- after the history
abbrev pub occupants_after : List UserEntry → List Occupant
occupants_after h = occupied_from nobody_yet h

abbrev pub is_out : Option Occupant → Bool
is_out None = false
is_out (Some Nobody) = false
is_out (Some (User uid)) = false
is_out (Some Cancelled) = true

-- the sessions of who logged in at the place last were ended since, by the history
abbrev pub is_cancelled : ℕ → List UserEntry → Bool
is_cancelled place h = is_out (slice_get (occupants_after h) place)

-- how a look for a log-in is entered, which found this class: one that lets its user in is told from others
abbrev pub login_op : Bool → List ℕ → Option Class → UserOp
login_op vacant uid found = if vacant && is_some found then op.LogIn uid else op.Look uid
