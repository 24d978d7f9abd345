-- How much a link had been written at an earlier moment.
use Rattle.std.specs.Prelude.{◌≡◌, ◌⊎◌, ◌≤◌, ◌<◌, ℕ, List, [], ◌∷◌, ◌++◌, length}
use base.Stored.{Gv}
use Rattle.dxc_outside.specs.declared.clock.Moment.{Moment}
use Rattle.dxc_outside.specs.Links.{LinkState}
use Rattle.craft_session.specs.Happenings.{Request}
use Rattle.craft_session.specs.Stamps.{Stamp}
use Rattle.switch_laws.specs.Element.{Session}

-- A moment at a place: what it is to take a moment of a message, the number of the place, what its pass had seen, and what the plain element had of its
-- sessions then, the newest first.
pub record MomentAt : Type 1 where
  pub stamped : Stamp → Type 0
  pub place : ℕ
  pub seen : List Gv
  pub sessions : List (Session Request Moment)

module _ (m : MomentAt) where
  -- the plain element had said this then to the session that came after these older ones
  pub record WasSaid (older : List (Session Request Moment)) (out : List ℕ) : Type 0 where
    pub newer : List (Session Request Moment)
    pub session : Session Request Moment
    pub there : m.sessions ≡ newer ++ session ∷ older
    pub unsaid : List ℕ
    pub said : session.said.bytes ≡ out ++ unsaid

  -- A link came and was left so. Its byte of this number wasn't written before a time was taken over it, between the two, at which the place had seen more than
  -- its pass at this moment.
  pub record WasWrittenSince (k j : LinkState) (number : ℕ) : Type 0 where
    pub stamp : Stamp
    pub stamped : m.stamped stamp
    pub place : stamp.seat.place ≡ m.place
    pub same_link : stamp.link.lasting ≡ k.lasting
    pub since_it_came : (out : List ℕ) × (stamp.link.written ≡ k.written ++ out)
    pub before_it_was_left : (rest : List ℕ) × (j.written ≡ stamp.link.written ++ rest)
    pub follows : length stamp.link.written ≤ number
    pub next : Gv
    pub more : List Gv
    pub sees_on : stamp.seat.seen ≡ m.seen ++ next ∷ more

  -- Of all that the link of a session was written, which came after these older ones, no more than a first part was written by the moment: what the plain element
  -- had said. Each byte of the rest was written after a turn of the place that came later.
  pub record WasWrittenThen (older : List (Session Request Moment)) (k j : LinkState) : Type 0 where
    pub by_then : List ℕ
    pub since : List ℕ
    pub all : j.written ≡ k.written ++ (by_then ++ since)
    pub said : (by_then ≡ []) ⊎ WasSaid older by_then
    pub after : (number : ℕ) → length (k.written ++ by_then) ≤ number → number < length j.written → WasWrittenSince k j number

  -- so it is of each of these links, as it came and as it was left, the newest first, with the sessions over them
  abbrev pub WereWrittenThen : {K : Type 0} → (K → LinkState) → List (K × K) → List (Session Request Moment) → Type 0
  WereWrittenThen link [] ss = Unit {0}
  WereWrittenThen link (k ∷ ks) [] = ⊥
  WereWrittenThen link (k ∷ ks) (s ∷ ss) = WasWrittenThen ss (link k.0) (link k.1) × WereWrittenThen link ks ss
