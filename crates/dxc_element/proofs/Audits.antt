-- What a controller that was opened lists is what its journal came to.
use Rattle.std.proofs.Common.{◌≡◌, ◌≢◌, ℕ, List, length, Some, None, ◌∙◌, ap, sym, subst}
use Rattle.dxc_disk.specs.Disks.{DiskState}
use Rattle.dxc_outside.specs.declared.send.Sent.{Sent}
use Rattle.dxc_outside.specs.Links.{LinkState, IsSent}
use Rattle.dxc_model.specs.declared.op.Change.{Change}
use Rattle.dxc_model.specs.declared.op.Selection.TheVariants.{All}
use Rattle.dxc_model.specs.Tables.{Board, rows}
use Rattle.dxc_num.specs.Dimensions.{Dimensions}
use Rattle.shelf_file.specs.Contents.{Contents}
use Rattle.xc_core.specs.declared.state.Errand.{Errand}
use Rattle.xc_core.specs.declared.state.Home.{Home}
use Rattle.xc_core.specs.declared.state.Home.TheVariants.{In, Out}
use Rattle.xc_core.specs.declared.state.State.{State}
use Rattle.xc_core.specs.Openings.{Begins, count_home, disk_home}
use Rattle.xc_core.specs.Reckonings.{Past, ReckonsTo}
use Rattle.xc_core.specs.States.{Opening, opening_of}
use Rattle.xc_core.proofs.Began.{began_changes}
use Rattle.dxc_element.specs.Listings.{listing, records_at}

module _ {D : Type 0} (told : Type 0) (state : D → DiskState) where
  records_home : (n : ℕ) (x : Home D) → count_home x ≡ Some n → records_at x ≡ n
  records_home n (In d) is = cc
  records_home n (Out e) is = cc

  -- the Provisioner of a state that begins is at home
  pub at_home : (x : State D) → Begins told state x → (e : Errand) → x.home ≢ Out e
  at_home x b e is = let no : None ≡ Some b.disk = ap disk_home (sym is) ∙ b.is_home in cc

  module _ (s : Contents) (x : State D) (b : Begins told state x) (shape : (opening_of state x).first.fold.table.shape ≡ s.shape) where
    abbrev o : Opening
    o = opening_of state x

    pub table_first : x.table ≡ o.first.fold.table
    table_first = b.stands.table ∙ ap (λ (p : Past). p.fold.table) (subst (λ (cs : List Change). ReckonsTo o.first cs b.stands.now) (began_changes o.due) b.stands.reckoned)

    -- its table is of the shelf's shape
    pub of_shape : x.table.shape ≡ s.shape
    of_shape = ap (λ (t : Board). t.shape) table_first ∙ shape

    records_first : records_at x.home ≡ length o.records
    records_first = records_home (length o.records) x.home b.counts

    listing_first : listing x.table.shape (rows x.table All) (records_at x.home) ≡ listing s.shape (rows o.first.fold.table All) (length o.records)
    listing_first =
        ap (λ (d : Dimensions). listing d (rows x.table All) (records_at x.home)) of_shape
        ∙ ap (λ (t : Board). listing s.shape (rows t All) (records_at x.home)) table_first
        ∙ ap (λ (n : ℕ). listing s.shape (rows o.first.fold.table All) n) records_first

    -- what was written of it is what the journal came to
    pub listed_first : (link_told : Type 0) (k l : LinkState) (sent : Sent) → IsSent link_told k l sent (listing x.table.shape (rows x.table All) (records_at x.home)) → IsSent link_told k l sent (listing s.shape (rows o.first.fold.table All) (length o.records))
    listed_first link_told k l sent is = subst (λ (bs : List ℕ). IsSent link_told k l sent bs) listing_first is
