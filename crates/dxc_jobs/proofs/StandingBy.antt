-- What a standby came to, by what it was lent.
use Rattle.std.proofs.Common.{◌≡◌, ◌+◌, ◌≤◌, ◌<◌, ◌∙◌, [], ◌∷◌, ℕ, arith, List, Option, None, inl, inr, refl, subst}
use Rattle.std.specs.Prelude.{IsTrue, length}
use Rattle.dxc_causes.specs.Causes.{Rose, last}
use Rattle.dxc_disk.specs.Disks.{CountsOn, DiskState, IsSound}
use Rattle.dxc_outside.specs.Asked.{Asking, AskedFor, copy_named, listener_named}
use Rattle.dxc_outside.proofs.Asking.{asked_all, asked_part}
use Rattle.dxc_outside.specs.Callers.{IsAccept, ListenerState}
use Rattle.dxc_outside.specs.Links.{LinkState}
use Rattle.dxc_outside.specs.declared.link.Lost.{Lost}
use Rattle.dxc_outside.specs.declared.listener.Came.{Came}
use Rattle.dxc_outside.specs.declared.listener.Came.TheVariants.{Link, End, Failed}
use Rattle.standby_link.specs.declared.end.StandbyEnd.{StandbyEnd}
use Rattle.standby_link.specs.Serves.{bytes_in}
use Rattle.dxc_jobs.specs.Counts.{RoseBy}
use Rattle.dxc_args.specs.declared.status.Status.{Status}
use Rattle.dxc_jobs.specs.Missing.{IsOfNoOpening}
use Rattle.dxc_jobs.specs.Standbys.{Ends, IsFirst, IsUnopened, Meets, Passed, ServesOrPasses, Stays, Stands, one_more, read_in, status_of_stood, stood_asked}
use Rattle.dxc_jobs.specs.declared.standby.Met.{Met}
use Rattle.dxc_jobs.specs.declared.standby.Met.TheVariants.{Nobody, NoneHeard, Served as ServedMet}
use Rattle.dxc_jobs.specs.declared.stood.Stood.{Stood}
use Rattle.dxc_jobs.specs.declared.stood.Stood.TheVariants.{NoJournal, NoListener, Unmet, Unheard, Served}
use Rattle.dxc_jobs.proofs.Counting.{rose_more}

-- a count of faults doesn't rise on a disk that is sound for what is taken
never_rises : (room margin faults now spare taken : ℕ) → (0 < room → faults < last) → margin ≡ 0 → 1 ≤ taken → taken ≤ room → now + spare ≤ faults + margin → Rose faults now → ⊥
never_rises room margin faults now spare taken counts none some enough spent rose = let below = counts (omega (arith, some, enough)) in absurd (omega (arith, below, none, spent, rose))

-- so no run of a standby ends by its disk that is sound for one more than the bytes that were read
pub no_disk_fault : (disk_told link_told : Type 0) (k k' : LinkState) (d d' : DiskState) (end : StandbyEnd) (ends : Ends disk_told link_told k k' d d' end) → CountsOn d → IsSound (1 + read_in disk_told link_told k k' d d' end ends) d → Rose d.faults d'.faults → ⊥
no_disk_fault disk_told link_told k k' d d' end (inl unbegun) counts sound rose = never_rises d.room d.margin d.faults d'.faults d'.margin 1 counts sound.margin (omega arith) sound.enough (unbegun.spent sound.enough).margin rose
no_disk_fault disk_told link_told k k' d d' end (inr served) counts sound rose = never_rises d.room d.margin d.faults d'.faults d'.margin (1 + length (bytes_in served.came)) counts sound.margin (omega arith) sound.enough (served.spent sound.enough).1 rose

module _ (disk_told listener_told link_told : Type 0) {D L K : Type 0} (disk : D → DiskState) (listener : L → ListenerState K) (link : K → LinkState) (begun : LinkState → Type 0) (hung_up : K → Option Lost) (d : D) (l : L) (copy : D) (door new_door : L) (passed : Passed disk_told listener_told link_told disk listener link begun hung_up d l copy door) where
  -- after those who were passed over, one was served
  pub served_one : (first : Came K) (caller served : K) (new_copy : D) (end : StandbyEnd) → first ≡ Link caller → IsFirst listener_told link (listener door) (listener new_door) first → Stays disk_told link_told disk link begun hung_up caller served copy new_copy end
      → Meets disk_told listener_told link_told disk listener link begun hung_up d l new_copy new_door (ServedMet served end)
  served_one first caller served new_copy end is came stays =
      let one = subst (λ (f : Came K). IsFirst listener_told link (listener door) (listener new_door) f) is came in
      (copy, door, passed, record { caller = caller; first = one.coming; is_sound = one.sound; stays = stays })

  -- one more was passed over
  pub passed_one : (first : Came K) (caller left : K) (new_copy : D) → first ≡ Link caller → IsFirst listener_told link (listener door) (listener new_door) first → ServesOrPasses disk_told link_told disk link begun hung_up caller left copy new_copy None
      → Passed disk_told listener_told link_told disk listener link begun hung_up d l new_copy new_door
  passed_one first caller left new_copy is came passes =
      one_more copy new_copy door new_door caller left passes.0 passed (subst (λ (f : Came K). IsFirst listener_told link (listener door) (listener new_door) f) is came) passes.1

  -- the listener said End
  pub nobody_came : (first : Came K) → first ≡ End → IsFirst listener_told link (listener door) (listener new_door) first → Meets disk_told listener_told link_told disk listener link begun hung_up d l copy new_door Nobody
  nobody_came first is came =
      let one = subst (λ (f : Came K). IsFirst listener_told link (listener door) (listener new_door) f) is came in
      (door, passed, record { ended = one.ended refl; nobody = λ t. one.coming t ∙ one.end t refl })

  -- 16 accepts failed
  pub none_accepted : (first : Came K) → first ≡ Failed → IsFirst listener_told link (listener door) (listener new_door) first → Meets disk_told listener_told link_told disk listener link begun hung_up d l copy new_door NoneHeard
  none_accepted first is came =
      let one = subst (λ (f : Came K). IsFirst listener_told link (listener door) (listener new_door) f) is came in
      (door, passed, record { risen = one.risen refl; unsound = one.sound; nobody = one.coming })

-- what came of the callers, by what it is
pub met_by : (disk_told listener_told link_told : Type 0) {D L K : Type 0} (disk : D → DiskState) (listener : L → ListenerState K) (link : K → LinkState) (begun : LinkState → Type 0) (hung_up : K → Option Lost) (d : D) (l : L) (copy : D) (door : L) (met is : Met K) → met ≡ is → Meets disk_told listener_told link_told disk listener link begun hung_up d l copy door met
    → Meets disk_told listener_told link_told disk listener link begun hung_up d l copy door is
met_by disk_told listener_told link_told disk listener link begun hung_up d l copy door met is same meets = subst (Meets disk_told listener_told link_told disk listener link begun hung_up d l copy door) same meets

-- no listener was asked for only where the status is one of an opening
unopened_ends : (faults later : ℕ) (status : Status) → IsUnopened faults later status → IsOfNoOpening status → ⊥
unopened_ends faults later status closed ends = elim closed [
  | inl memory ↦ subst IsOfNoOpening memory ends
  | inr cannot ↦ subst IsOfNoOpening cannot.0 ends
]

module _ (opener_told disk_told listener_told link_told : Type 0) {D L K : Type 0} (disk : D → DiskState) (listener : L → ListenerState K) (link : K → LinkState) (begun : LinkState → Type 0) (hung_up : K → Option Lost) (journal_at : List ℕ → Option D) (listener_at : List ℕ → Option L) (faults later : ℕ) (journal address : List ℕ) (asked : List Asking → Type 0) (status : Status) where
  -- what was asked for, by what is left
  pub asked_by : (stood : Stood D L K) → status ≡ status_of_stood stood → Stands opener_told disk_told listener_told link_told disk listener link begun hung_up journal_at listener_at faults later journal address stood → asked (stood_asked journal address stood)
      → AskedFor asked (copy_named journal ∷ listener_named address ∷ []) (IsOfNoOpening status)
  asked_by (NoJournal s) is stands made = asked_part asked _ (copy_named journal ∷ []) (listener_named address ∷ []) made (λ ends. unopened_ends faults later s stands (subst IsOfNoOpening is ends))
  asked_by (NoListener copy s) is stands made = asked_all asked _ (copy_named journal ∷ listener_named address ∷ []) made
  asked_by (Unmet copy door) is stands made = asked_all asked _ (copy_named journal ∷ listener_named address ∷ []) made
  asked_by (Unheard copy door) is stands made = asked_all asked _ (copy_named journal ∷ listener_named address ∷ []) made
  asked_by (Served copy door caller end) is stands made = asked_all asked _ (copy_named journal ∷ listener_named address ∷ []) made

module _ {K : Type 0} (told : Type 0) (state : K → LinkState) (old mid new : ListenerState K) (failures : ℕ) (coming : told → old.coming ≡ mid.coming) (risen : RoseBy failures old.faults mid.faults) (sound : IsTrue old.sound → (failures ≡ 0) × IsTrue mid.sound) (answer : Came K) (accepted : IsAccept told state mid new answer) where
  -- one more accept that failed
  pub failed_more : answer ≡ Failed → (told → old.coming ≡ new.coming) × (RoseBy (failures + 1) old.faults new.faults × (IsTrue old.sound → (failures + 1 ≡ 0) × IsTrue new.sound))
  failed_more is =
      let one = subst (λ (a : Came K). IsAccept told state mid new a) is accepted in
      ((λ t. coming t ∙ one.link t), (rose_more failures old.faults mid.faults new.faults risen (one.cause.cause refl), λ s. absurd (one.sound (sound s).1).1))

  -- an accept that didn't
  pub first_answer : (answer ≡ Failed → ⊥) → IsFirst told state old new answer
  first_answer not = record {
    coming = λ t. coming t ∙ accepted.link t;
    end = λ t is. accepted.end t is;
    ended = accepted.ended;
    risen = λ is. absurd (not is);
    sound = λ s. (accepted.sound (sound s).1).1;
  }

-- so many failed
pub all_failed : {K : Type 0} (told : Type 0) (state : K → LinkState) (old new : ListenerState K) → (told → old.coming ≡ new.coming) → RoseBy 16 old.faults new.faults → (IsTrue old.sound → (◌≡◌ {A = ℕ} 16 0) × IsTrue new.sound) → IsFirst told state old new Failed
all_failed told state old new coming risen sound = record {
  coming = coming;
  end = λ t is. cc;
  ended = λ is. cc;
  risen = λ is. risen;
  sound = λ s. let no = (sound s).0 in absurd (omega (arith, no));
}
