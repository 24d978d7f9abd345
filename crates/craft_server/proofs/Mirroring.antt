-- A line of the mode serve, its journal mirrored or alone.
use Rattle.std.proofs.Common.{◌≡◌, List, ℕ, Option, Some, None, refl, subst}
use Rattle.std.specs.Prelude.{IsSome}
use Rattle.dxc_disk.specs.Disks.{DiskState}
use Rattle.dxc_outside.specs.Callers.{ListenerState}
use Rattle.dxc_outside.specs.Links.{LinkState}
use Rattle.dxc_outside.specs.Threads.{SpawnerState}
use Rattle.dxc_outside.specs.declared.link.Lost.{Lost}
use Rattle.dxc_leaving.specs.Values.{AnyValue}
use Rattle.shelf_file.specs.Contents.{Contents}
use Rattle.standby_link.specs.declared.mirror_disk.MirrorDisk.{MirrorDisk}
use Rattle.user_admin.specs.Histories.{Opening as UsersOpening}
use Rattle.xc_core.specs.States.{Opening}
use Rattle.dxc_args.specs.declared.line.ServeLine.{ServeLine}
use Rattle.dxc_args.specs.declared.status.Status.{Status}
use Rattle.dxc_element.specs.Openings.{Named, Opens, Sources}
use Rattle.dxc_element.specs.Peers.{Mirrors}
use Rattle.dxc_element.proofs.Mirroring.{mirrors_for}
use Rattle.dxc_element.proofs.Starting.{opens_for}
use Rattle.craft_server.specs.Runs.{Lent, MirrorsFor, OpensFor, RanServe, ServesFor, Told}
use Rattle.craft_server.specs.Serving.{JobsTold, ServedSite, SiteAt, names_in, site_in}

-- without a peer and with one
pub serves_for : (told : Told) {N L C G : Type 0} (jobs : JobsTold N L C G) {D K J : Type 0} (state : D → DiskState) (peer_state : K → LinkState) (listener : L → ListenerState J) (link : J → LinkState) (hung_up : J → Option Lost) (listener_at : List ℕ → Option L) (line : ServeLine) (before after : Lent D) (status : Status) (peer : Option (List ℕ))
    → (peer ≡ None → OpensFor told state (names_in line) before after (λ f o u. RanServe D jobs (site_in line) before after f.shelf o u.opening status) status)
    → (IsSome peer → MirrorsFor told jobs state peer_state listener link hung_up listener_at (names_in line) (site_in line) before after status)
    → ServesFor told jobs state peer_state listener link hung_up listener_at peer line before after status
serves_for told jobs state peer_state listener link hung_up listener_at line before after status None alone with_peer = alone refl
serves_for told jobs state peer_state listener link hung_up listener_at line before after status (Some name) alone with_peer = with_peer refl

-- what was served by some names at a site was by those of a line, at its site
module _ (told opener_told : Type 0) (gone : AnyValue → Type 0) {N L C G : Type 0} (jobs : JobsTold N L C G) {D : Type 0} (state : D → DiskState) (names other : Named) (same : names ≡ other) (site there : SiteAt) (here : site ≡ there) (before after : Sources D) (p q : SpawnerState) (status : Status) where
  pub alone_by : Opens opener_told told state gone names before after (q ≡ p) (λ f o u. ServedSite D D jobs site before after p q f.shelf o u.opening status) status → Opens opener_told told state gone other before after (q ≡ p) (λ f o u. ServedSite D D jobs there before after p q f.shelf o u.opening status) status
  alone_by =
      let S : SiteAt → Contents → D → Opening → D → UsersOpening → Type 0 = λ t s d o e u. ServedSite D D jobs t before after p q s o u status in
      opens_for told state opener_told gone names other same before after (q ≡ p) (q ≡ p) (S site) (S there) status (λ u. u) (λ s d o e u ran. subst (λ (t : SiteAt). S t s d o e u) here ran)

  pub mirrored_by : {K : Type 0} (link_told : Type 0) (link : K → LinkState) → Mirrors told link_told state link opener_told gone names before after (q ≡ p) (λ f o u. ServedSite (MirrorDisk D K) (MirrorDisk D K) jobs site before after p q f.shelf o u.opening status) status → Mirrors told link_told state link opener_told gone other before after (q ≡ p) (λ f o u. ServedSite (MirrorDisk D K) (MirrorDisk D K) jobs there before after p q f.shelf o u.opening status) status
  mirrored_by {K} link_told link =
      let S : SiteAt → Contents → Opening → UsersOpening → Type 0 = λ t s o u. ServedSite (MirrorDisk D K) (MirrorDisk D K) jobs t before after p q s o u status in
      mirrors_for told link_told state link opener_told gone names other same before after (q ≡ p) (q ≡ p) (S site) (S there) status (λ u. u) (λ s o u ran. subst (λ (t : SiteAt). S t s o u) here ran)
