-- The laws of standbys and of crashes, of the journals of a type of disks.
use Rattle.dxc_disk.specs.Disks.{DiskState}
use Rattle.core_laws.specs.Laws.{StandbysAreAdopted, SyncedAreMirrored}
use Rattle.core_laws.specs.Mirrorings.{CrashesStand, ReadingsStand}
use Rattle.standby_link.specs.Mirrored.{CopiesAreReadings, CurrentCopiesAreWhole, JoinedAreCurrent}
use Rattle.user_laws.specs.Crashes.{CrashesStand as UsersCrashesStand}
use Rattle.user_laws.specs.Mirrorings.{CopiesStand}

pub record StandbyLaws {D : Type 0} (told : Type 0) (state : D → DiskState) : Type 0 where
  pub synced : SyncedAreMirrored told state
  pub adopted : StandbysAreAdopted told state
  pub readings : ReadingsStand told state
  pub crashes : CrashesStand told state
  pub users : CopiesStand told state
  pub users_crashes : UsersCrashesStand told state
  pub copies : CopiesAreReadings state
  pub joined : JoinedAreCurrent told state
  pub current : CurrentCopiesAreWhole state
