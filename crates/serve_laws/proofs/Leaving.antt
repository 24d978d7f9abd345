-- What stands for a history where the Provisioner is home.
use Rattle.std.proofs.Common.{◌≡◌, ◌⊎◌, ◌∙◌, arith, List, Some, None, inl, inr, refl, sym}
use Rattle.std.proofs.lemmas.Option.{IfSome_then}
use Rattle.dxc_disk.specs.Disks.{DiskState, Leaves}
use Rattle.dxc_model.specs.declared.entry.Entry.{Entry}
use Rattle.dxc_model.specs.Histories.{changes_of, holder}
use Rattle.core_laws.specs.Mirrorings.{EndedByReading, IsBetween, StandsForFirst}
use Rattle.standby_link.specs.Laws.{named}
use Rattle.standby_link.specs.Mirrored.{IsReadFrom}
use Rattle.xc_core.specs.declared.provisioner.Provisioner.{Provisioner}
use Rattle.xc_core.specs.declared.state.Home.{Home}
use Rattle.xc_core.specs.declared.state.Home.TheVariants.{In, Out}
use Rattle.xc_core.specs.declared.state.State.{State}
use Rattle.xc_core.specs.Journals.{IsOldOrDoubted}
use Rattle.xc_core.specs.Provisioners.{IsHome}
use Rattle.xc_core.specs.Reckonings.{Past, ReckonsTo}
use Rattle.xc_core.specs.Restarts.{IsHalted}
use Rattle.xc_core.specs.States.{HomeIs, IsReadyOrHalted, Opening, StandsFor, outset_of}
use Rattle.xc_core.proofs.Journalling.{home_images}
use Rattle.xc_core.proofs.Rereading.{halted_images}
use Rattle.serve_laws.specs.Copies.{IsBroughtHome, LeavesChanges}
use Rattle.serve_laws.proofs.Standbys.{StandbyLaws}

module _ {D : Type 0} (told : Type 0) (state : D → DiskState) (laws : StandbyLaws told state) where
  images_by : (b : Past) (h : List Entry) (p : Provisioner D) → IsReadyOrHalted told state b h p → told → Leaves (state p.journal.0) (IsOldOrDoubted b p.doubt)
  images_by b h p stage t = elim stage [
    | inl ready ↦ home_images told (state p.journal.0) p.journal.1 b p.doubt (sym ready.0.past.shape) ready.0.journal t ready.0.past.book
    | inr halted ↦ halted_images told state b p halted.0 t
  ]

  stage_is : (b : Past) (h : List Entry) (p : Provisioner D) → IsReadyOrHalted told state b h p → IsHome told state b p ⊎ IsHalted told state b p
  stage_is b h p stage = elim stage [ inl ready ↦ inl ready.0 | inr halted ↦ inr halted.0 ]

  between_is : (b : Past) (h : List Entry) (p : Provisioner D) → IsReadyOrHalted told state b h p → IsBetween told state b p
  between_is b h p stage = elim stage [ inl ready ↦ inl ready.0 | inr halted ↦ inr (inl halted.0) ]

  leaves_by : (o : Opening) (b : Past) (h : List Entry) → ReckonsTo o.first (changes_of h) b → (x : Home D) → HomeIs told state o b h x → LeavesChanges told state o h x
  leaves_by o b h reckoned (In d) home =
      let p = d.value.p in
      let stage = home.1.stage in
      record {
        past = b;
        reckoned = reckoned;
        crash = images_by b h p stage;
        read = home.1.read;
        synced = home.1.synced;
        crashes = λ t at file ends left. laws.crashes t (outset_of o) (changes_of h) b p (between_is b h p stage) (home.1.read t) at file ends left;
        standby = λ t pair by within keeps along. IfSome_then (named pair.standby) {P = IsReadFrom by (state p.journal.0).readings} {Q = StandsForFirst o.first (home.1.read t).operations p.doubt (EndedByReading (outset_of o) (home.1.read t).operations by)} (laws.copies p.journal.0 by pair keeps along)
            (λ file r. laws.readings t (outset_of o) (changes_of h) b p (between_is b h p stage) (home.1.read t) by r.place file r.is r.late (omega (arith, within, r.late)));
        joined = λ t certain line primary by mirrors none. laws.joined t p.journal.0 line primary by mirrors none (home.1.synced t certain);
        copy = λ t pair keeps current. (laws.adopted t b p (stage_is b h p stage) pair keeps (laws.synced t b p (stage_is b h p stage) pair.primary current.answered current.file)).0;
        adopted = λ t pair keeps current. (laws.adopted t b p (stage_is b h p stage) pair keeps (laws.synced t b p (stage_is b h p stage) pair.primary current.answered current.file)).1;
      }
  leaves_by o b h reckoned (Out e) home = tt

  pub leaves_changes : (o : Opening) (s : State D) (h : List Entry) → StandsFor told state o s h → LeavesChanges told state o h s.home
  leaves_changes o s h x = leaves_by o x.now h x.reckoned s.home x.home

  -- where nobody has it, it is home
  brought_by : (o : Opening) (b : Past) (h : List Entry) (x : Home D) → HomeIs told state o b h x → holder None h ≡ None → LeavesChanges told state o h x → IsBroughtHome told state o h x
  brought_by o b h (In d) home nobody leaves = record { driver = d; is = refl; stands = leaves }
  brought_by o b h (Out e) home nobody leaves = absurd (let no : None ≡ Some home.0.0 = sym nobody ∙ home.0.1 in cc)

  pub brought_home : (o : Opening) (s : State D) (h : List Entry) → StandsFor told state o s h → holder None h ≡ None → IsBroughtHome told state o h s.home
  brought_home o s h x nobody = brought_by o x.now h s.home x.home nobody (leaves_changes o s h x)
