-- A standby doesn't end with the status of words that are no line.
use Rattle.std.proofs.Common.{◌≡◌, ℕ, List, Option, inl, inr, sym, ◌∙◌}
use Rattle.dxc_disk.specs.Disks.{DiskState}
use Rattle.dxc_outside.specs.Asked.{Asking}
use Rattle.dxc_outside.specs.Callers.{ListenerState}
use Rattle.dxc_outside.specs.Links.{LinkState}
use Rattle.dxc_outside.specs.declared.link.Lost.{Lost}
use Rattle.dxc_leaving.specs.Values.{AnyValue}
use Rattle.standby_link.specs.declared.end.StandbyEnd.{StandbyEnd}
use Rattle.standby_link.specs.declared.end.StandbyEnd.TheVariants as standby
use Rattle.dxc_args.specs.declared.status.Status.{Status}
use Rattle.dxc_args.specs.declared.status.Status.TheVariants.{BadWords}
use Rattle.dxc_jobs.specs.Standbys.{IsUnopened, Stands, StandsBy, status_of_standby, status_of_stood}
use Rattle.dxc_jobs.specs.declared.stood.Stood.{Stood}
use Rattle.dxc_jobs.specs.declared.stood.Stood.TheVariants.{NoJournal, NoListener, Unmet, Unheard, Served}

standby_words : (end : StandbyEnd) → status_of_standby end ≡ BadWords → ⊥
standby_words standby.End is = cc
standby_words standby.ReadFault is = cc
standby_words standby.WriteFault is = cc
standby_words standby.DiskFault is = cc
standby_words standby.BadMessage is = cc
standby_words standby.NotEmpty is = cc
standby_words standby.Spent is = cc

unopened_words : (faults later : ℕ) (status : Status) → IsUnopened faults later status → status ≡ BadWords → ⊥
unopened_words faults later status closed is = elim closed [
  | inl memory ↦ (let no = sym memory ∙ is in cc)
  | inr cannot ↦ (let no = sym cannot.0 ∙ is in cc)
]

module _ (opener_told told listener_told link_told : Type 0) {D L K : Type 0} (state : D → DiskState) (listener : L → ListenerState K) (link : K → LinkState) (begun : LinkState → Type 0) (hung_up : K → Option Lost) (journal_at : List ℕ → Option D) (listener_at : List ℕ → Option L) (faults later : ℕ) (journal address : List ℕ) where
  stood_words : (stood : Stood D L K) → Stands opener_told told listener_told link_told state listener link begun hung_up journal_at listener_at faults later journal address stood → status_of_stood stood ≡ BadWords → ⊥
  stood_words (NoJournal status) stands is = unopened_words faults later status stands is
  stood_words (NoListener copy status) stands is = unopened_words faults later status stands.1 is
  stood_words (Unmet copy door) stands is = cc
  stood_words (Unheard copy door) stands is = cc
  stood_words (Served copy door caller end) stands is = standby_words end is

  pub stands_words : (gone : AnyValue → Type 0) (asked : List Asking → Type 0) (status : Status) → StandsBy opener_told told listener_told link_told state listener link begun hung_up journal_at listener_at faults later journal address gone asked status → status ≡ BadWords → ⊥
  stands_words gone asked status stands is = stood_words stands.stood stands.stands (sym stands.status_is ∙ is)
