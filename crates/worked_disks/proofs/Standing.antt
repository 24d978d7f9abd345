-- A state stands for some history after each change.
use Rattle.std.proofs.Common.{ℕ, Result, Ok, Err, List, [], ◌∷◌, ◌++◌}
use Rattle.dxc_disk.specs.Disks.{DiskState}
use Rattle.dxc_outside.specs.declared.stopped.Stopped.{Stopped}
use Rattle.user_admin.specs.declared.op.UserDone.{UserDone}
use Rattle.user_admin.specs.declared.op.UserDone.TheVariants.{Done, Denied}
use Rattle.user_admin.specs.declared.op.UserEntry.{UserEntry}
use Rattle.tl1_users.specs.declared.op.UserOp.{UserOp}
use Rattle.user_admin.specs.declared.op.UserOutcome.TheVariants as outcome
use Rattle.user_admin.specs.declared.state.UserState.{UserState}
use Rattle.user_admin.specs.Histories.{Opening}
use Rattle.user_admin.specs.States.{ChangedIs, StandsFor, entry, refused}

pub still_stands : {D : Type 0} (told : Type 0) (state : D → DiskState) (o : Opening) (h : List UserEntry) (n : ℕ) (op : UserOp) (s : UserState D) (result : Result UserDone Stopped) → ChangedIs told state o h n op s result → (p : Opening) × (k : List UserEntry) × StandsFor told state p s k
still_stands told state o h n op s (Ok (Done c)) st = (o, h ++ entry n op (outcome.Done c) ∷ [], st)
still_stands told state o h n op s (Ok (Denied q)) st = (o, h ++ entry n op (refused q) ∷ [], st)
still_stands told state o h n op s (Err e) st = (o, h, st)
