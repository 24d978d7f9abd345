-- What the end of a recovery comes to.
use Rattle.std.specs.Prelude.{◌≡◌, ℕ, Option, Some, None}
use Rattle.dbchg_reports.specs.Recent.{Recent, with_one}
use Rattle.dxc_disk.specs.Disks.{DiskState, IsSettled}
use Rattle.dxc_model.specs.declared.op.Change.{Change}
use Rattle.dxc_model.specs.Tables.{Board}
use Rattle.roll_engine.specs.Rollings.{RollingAt}
use Rattle.xc_core.specs.declared.provisioner.Provisioner.{Provisioner}
use Rattle.xc_core.specs.declared.recovery.Recovered.{Recovered}
use Rattle.xc_core.specs.declared.recovery.Recovered.TheVariants as recovered
use Rattle.xc_core.specs.Reckonings.{Past}
use Rattle.xc_core.specs.Provisioners.{IsHome}

-- reports with a change more, if there is one
abbrev pub reports_with : Option Change → Recent → Recent
reports_with None r = r
reports_with (Some c) r = with_one c r

abbrev pub IfWarm : Recovered → (RollingAt → Type 0) → Type 0
IfWarm (recovered.Warm r) P = P r
IfWarm (recovered.Cold r) P = Unit {0}
IfWarm (recovered.Astray i) P = Unit {0}
IfWarm recovered.Fault P = Unit {0}

abbrev pub IfCold : Recovered → (RollingAt → Type 0) → Type 0
IfCold (recovered.Warm r) P = Unit {0}
IfCold (recovered.Cold r) P = P r
IfCold (recovered.Astray i) P = Unit {0}
IfCold recovered.Fault P = Unit {0}

-- the same, with so many switches made
abbrev pub with_switches : ℕ → Past → Past
with_switches n g = record g { fold = record g.fold { switches = n } }

-- the table has the change that was lacking, if one was, and the Provisioner is home and ready; no crash takes anything back
pub record Ends {D : Type 0} (told : Type 0) (state : D → DiskState) (b : Past) (lacking : Option Change) (g : Past) (table : Board) (p : Provisioner D) (answer : Option Change) : Type 0 where
  pub change : answer ≡ lacking
  pub table_is : table ≡ g.fold.table
  pub home : IsHome told state g p
  pub settled : told → IsSettled (state p.journal.0)
  pub doubt : p.doubt ≡ None
