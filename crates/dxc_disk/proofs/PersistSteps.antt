-- A write and a sync, or as far as they came.
use Rattle.std.proofs.Common.{◌≡◌, ℕ, ◌≤◌, List, length, Result, Ok, sym, ◌∙◌, subst}
use Rattle.std.specs.Prelude.{OnOk}
use Rattle.std.proofs.lemmas.Result.{on_ok_weaker}
use Rattle.dxc_disk.specs.Disks.{DiskState, Holds, IsSettled, IsSynced, Looks, Persists, Reads, Torn, TornFrom, Writes}
use Rattle.dxc_disk.specs.ReplayLaws.{torn_whole}
use Rattle.dxc_disk.proofs.DiskSteps.{passes_elapsed, passes_on}
use Rattle.dxc_disk.proofs.ReadingSteps.{only_one, only_then}

-- the write was made, and the sync was, or as far as it came
module _ {T E V F : Type 0} (a b c : DiskState) (written : Result V F) (result : Result T E) (at : ℕ) (from : List ℕ) (v : V) (within : at ≤ length a.reads_as) (w : Writes a b written at from) (was : written ≡ Ok v) (looks : Looks b c) where
  written_whole : Holds at from a.reads_as b.reads_as
  written_whole = subst (λ (r : Result V F). OnOk r (Holds at from a.reads_as b.reads_as)) was w.ok

  holds : Holds at from a.reads_as c.reads_as
  holds = looks.same ∙ written_whole

  pub persisted_torn : Torn at (length from) a.reads_as c.reads_as
  persisted_torn = subst (Torn at (length from) a.reads_as) (sym holds) (torn_whole at from a.reads_as within)

  crash : (x : List ℕ) → c.may_leave x → TornFrom at (length from) a x
  crash x left = w.crash x (looks.crash x left)

  pub persisted : OnOk result (IsSettled c) → OnOk result (IsSynced c) → Reads b c result → Persists a c result at from
  persisted settled synced reads =
      let P = TornFrom at (length from) a in
      let Q = Torn at (length from) a.reads_as in
      record {
        ok = on_ok_weaker result (λ is. (holds, is)) settled;
        synced = synced;
        read = only_then Q a b c (only_one Q a b written (subst Q looks.same persisted_torn) w.reads) (only_one Q b c result persisted_torn reads);
        crash = crash;
        time = passes_on a b c P P P (passes_elapsed a b P w.time w.crash) (passes_elapsed b c P looks.time crash) (λ x p. p) (λ x p. p);
      }
