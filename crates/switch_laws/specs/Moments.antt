-- What the plain element was at the moments of an order of turns, and what the list of users.
use Rattle.std.specs.Prelude.{◌≡◌, ◌≤◌, ◌<◌, ℕ, Bool, List, [], ◌∷◌, ◌++◌, IsTrue}
use Rattle.std.specs.List.{AllByRecursion}
use Rattle.dxc_outside.specs.declared.clock.Moment.{Moment}
use Rattle.dxc_model.specs.declared.cause.Cause.{Cause}
use Rattle.dxc_model.specs.declared.op.Change.{Change}
use Rattle.dxc_model.specs.Tables.{Board}
use Rattle.dxc_model.specs.Verdicts.{effect}
use Rattle.user_admin.specs.declared.op.UserEntry.{UserEntry}
use Rattle.user_admin.specs.Histories.{IsLegal, Opening as UsersOpening, failures, users_after}
use Rattle.xc_core.specs.States.{LimitBehind, Opening}
use Rattle.craft_session.specs.Asks.{Language}
use Rattle.craft_session.specs.Happenings.{Happening, Request}
use Rattle.craft_session.specs.Plain.{Excuse, Limit}
use Rattle.switch_laws.specs.Element.{Element, IsPlayed, Session, Turn}
use Rattle.switch_laws.specs.Users.{AreHeard, Hearing, Listens}

-- what a session had done is a beginning of what it did
pub record IsBegun {U M : Type 0} (s t : Session U M) : Type 0 where
  pub happenings : List (Happening U)
  pub happened : t.happenings ≡ s.happenings ++ happenings
  pub moments : List M
  pub took : t.said.moments ≡ s.said.moments ++ moments
  pub bytes : List ℕ
  pub written : t.said.bytes ≡ s.said.bytes ++ bytes

-- Of what a place had, the newest first: what came before the newest stayed as it was, the newest went on like this, and others came after it.
abbrev pub AreBegun : {S : Type 0} → (S → S → Type 0) → List S → List S → Type 0
AreBegun goes_on [] ts = Unit {0}
AreBegun {S} goes_on (s ∷ older) ts = (newer : List S) × (t : S) × (ts ≡ newer ++ t ∷ older) × goes_on s t

-- a table with these changes made
abbrev pub changed : Board → List Change → Board
changed t [] = t
changed t (c ∷ cs) = changed (effect t c) cs

module _ {U M : Type 0} (l : Language U M) (limit : Limit) (excused : Excuse) (start : Element U M) where
  -- of what followed the first turn made this change
  pub record IsMadeNext (later earlier : List (Turn U M)) (before : Element U M) (c : Change) : Type 0 where
    pub turn : Turn U M
    pub others : List (Turn U M)
    pub first : later ≡ others ++ turn ∷ []
    pub made : Element U M
    pub played : IsPlayed l limit excused start (turn ∷ earlier) made
    pub one_more : made.changes ≡ before.changes ++ c ∷ []

  -- Of these turns, the newest first, by which the element came to this: the last moment at which just these changes had been made. The
  -- table had them, each session had done a beginning of what it did, and the turn after that moment made the next change.
  pub record IsMoment (ts : List (Turn U M)) (end : Element U M) (changes more : List Change) : Type 0 where
    pub later : List (Turn U M)
    pub earlier : List (Turn U M)
    pub order : ts ≡ later ++ earlier
    pub element : Element U M
    pub played : IsPlayed l limit excused start earlier element
    pub changes_are : element.changes ≡ start.changes ++ changes
    pub table_is : element.table ≡ changed start.table changes
    pub begun : (p : ℕ) → AreBegun IsBegun (element.sessions p) (end.sessions p)
    pub next : (c : Change) (rest : List Change) → more ≡ c ∷ rest → IsMadeNext later earlier element c

-- what a session had heard of the users is a beginning of what it heard
pub record IsHeardBegun {U : Type 0} (s t : Hearing U) : Type 0 where
  pub happenings : List (Happening U)
  pub happened : t.happenings ≡ s.happenings ++ happenings

-- The list of users was so by its turns, where each session had heard this.
pub record AreUsersThen {U M : Type 0} (l : Language U M) (o : UsersOpening) (excused : Type 0) (h : List UserEntry) (end : ℕ → List (Hearing U)) : Type 0 where
  pub hearings : ℕ → List (Hearing U)
  pub heard : AreHeard l o.shelf.sid excused (record { users = o.users; sessions = λ p. [] }) (record { users = users_after o h; sessions = hearings })
  pub begun : (p : ℕ) → AreBegun IsHeardBegun (hearings p) (end p)

-- What the sessions of so many places heard along one legal history of the users: so it was told at each beginning of that history.
abbrev pub UsersArePassed : Type 0
UsersArePassed = (l : Language Request Moment) (excused : Bool) (o : UsersOpening) (h more : List UserEntry)
    (places : ℕ) (sessions : ℕ → List (Hearing Request))
    → IsLegal o (h ++ more) → (1 ≤ failures (h ++ more) → IsTrue excused)
    → 0 < places → AllByRecursion (λ e. e.place < places) (h ++ more)
    → ((p : ℕ) → p < places → Listens l p o (h ++ more) (sessions p))
    → ((p : ℕ) → places ≤ p → sessions p ≡ [])
    → AreUsersThen l o (IsTrue excused) h sessions

-- An order of turns has such a moment for each beginning of the changes that are made by it.
abbrev pub MomentsArePassed : Type 0
MomentsArePassed = (l : Language Request Moment) (excused : Cause → Bool) (o : Opening) (start end : Element Request Moment)
    (ts : List (Turn Request Moment)) (changes more : List Change)
    → IsPlayed l (LimitBehind o.first) (λ q. IsTrue (excused q)) start ts end
    → end.changes ≡ start.changes ++ (changes ++ more)
    → IsMoment l (LimitBehind o.first) (λ q. IsTrue (excused q)) start ts end changes more
