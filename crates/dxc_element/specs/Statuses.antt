-- How the program ends where something didn't start.
use Rattle.journal_core.specs.declared.fault.JournalWhy.{JournalWhy}
use Rattle.journal_core.specs.declared.fault.JournalWhy.TheVariants as why
use Rattle.xc_core.specs.declared.fault.OpenFault.{OpenFault}
use Rattle.xc_core.specs.declared.fault.OpenFault.TheVariants as fault
use Rattle.user_admin.specs.declared.fault.UserOpenFault.{UserOpenFault}
use Rattle.user_admin.specs.declared.fault.UserOpenFault.TheVariants as users
use Rattle.dxc_args.specs.declared.status.JournalBad.TheVariants.{Header, Record, UsersHeader, UsersRecord}
use Rattle.dxc_args.specs.declared.status.Status.{Status}
use Rattle.dxc_args.specs.declared.status.Status.TheVariants.{BadJournal, Disk, NoMemory, Stopped}

abbrev pub status_of_why : JournalWhy → Status
status_of_why (why.BadHeader bytes) = BadJournal (Header bytes)
status_of_why why.Disk = Disk

-- the status of a controller that didn't start
abbrev pub status_of_fault : {D : Type 0} → OpenFault D → Status
status_of_fault (fault.Journal f) = status_of_why f.why
status_of_fault (fault.BadRecord i d) = BadJournal (Record i)
status_of_fault (fault.Disk d) = Disk
status_of_fault (fault.NoMemory d) = NoMemory
status_of_fault (fault.Stopped d) = Stopped

abbrev pub status_of_users_why : JournalWhy → Status
status_of_users_why (why.BadHeader bytes) = BadJournal (UsersHeader bytes)
status_of_users_why why.Disk = Disk

-- the status of users that weren't taken up
abbrev pub status_of_users_fault : {D : Type 0} → UserOpenFault D → Status
status_of_users_fault (users.Journal f) = status_of_users_why f.why
status_of_users_fault (users.BadRecord i d) = BadJournal (UsersRecord i)
status_of_users_fault (users.Disk d) = Disk
status_of_users_fault (users.NoMemory d) = NoMemory
