-- What the plain element comes to by a beginning of a history, in the order of turns by which it comes to the whole.
use Rattle.std.specs.Prelude.{◌≡◌, ◌≤◌, ◌<◌, ℕ, Bool, List, [], ◌∷◌, ◌++◌, length, IsTrue}
use Rattle.std.specs.List.{AllByRecursion}
use Rattle.dxc_outside.specs.declared.clock.Moment.{Moment}
use Rattle.dxc_model.specs.declared.cause.Cause.{Cause}
use Rattle.dxc_model.specs.declared.entry.Entry.{Entry}
use Rattle.dxc_model.specs.Histories.{IsLegal}
use Rattle.dxc_model.specs.Tables.{Board}
use Rattle.xc_core.specs.States.{LimitBehind, Opening, rules_of}
use Rattle.craft_session.specs.Asks.{Language}
use Rattle.craft_session.specs.Happenings.{Request}
use Rattle.craft_session.specs.Plain.{Excuse, Limit}
use Rattle.switch_laws.specs.Element.{Element, IsPlayed, Session, Turn}
use Rattle.switch_laws.specs.Laws.{IsExcused, Lives, Spoken, element}
use Rattle.switch_laws.specs.Moments.{AreBegun, IsBegun}

-- of these the session that came after the same had said all that had been written once the message was whole
pub record HasSaid {U M : Type 0} (m : Spoken U M) (ss : List (Session U M)) : Type 0 where
  pub newer : List (Session U M)
  pub session : Session U M
  pub there : ss ≡ newer ++ session ∷ m.older
  pub unsaid : List ℕ
  pub said : session.said.bytes ≡ m.message.written ++ unsaid

-- of these messages each that stands behind no more than this history
abbrev pub HaveSaid : {U M : Type 0} → List (Spoken U M) → List Entry → List (Session U M) → Type 0
HaveSaid ms h ss = AllByRecursion (λ m. length m.message.behind ≤ length h → HasSaid m ss) ms

-- sessions of so many places, and their messages as they came
pub record AllSessions (U M : Type 0) : Type 0 where
  pub places : ℕ
  pub spoken : ℕ → List (Spoken U M)
  pub sessions : ℕ → List (Session U M)

module _ {U M : Type 0} (l : Language U M) (limit : Limit) (excused : Excuse) (start : Element U M) where
  -- Of these turns, the newest first, by which the sessions came to these: the moment at which the element had made just this history, of this table. Each
  -- session had done a beginning of what it did, and had said each message that stands behind no more than that.
  pub record IsPassed (ts : List (Turn U M)) (all : AllSessions U M) (t : Board) (h : List Entry) : Type 0 where
    pub later : List (Turn U M)
    pub earlier : List (Turn U M)
    pub order : ts ≡ later ++ earlier
    pub sessions : ℕ → List (Session U M)
    pub played : IsPlayed l limit excused start earlier (element t h sessions)
    pub begun : (p : ℕ) → AreBegun IsBegun (sessions p) (all.sessions p)
    pub said : (p : ℕ) → p < all.places → HaveSaid (all.spoken p) h (sessions p)

  -- An order of turns by which the element comes to this history, and which passes each beginning of it that holds this past.
  pub record ArePassed (all : AllSessions U M) (t : Board) (past h : List Entry) : Type 0 where
    pub turns : List (Turn U M)
    pub played : IsPlayed l limit excused start turns (element t h all.sessions)
    pub passes : (front back : List Entry) → h ≡ front ++ back → length past ≤ length front → IsPassed turns all t front

-- What the sessions of so many places did over one legal history is what the plain element comes to by an order of their turns that passes each beginning of
-- that history: a turn stands in it behind no more than its place had seen.
abbrev pub BeginningsArePlayed : Type 0
BeginningsArePlayed = (l : Language Request Moment) (excused : Cause → Bool) (o : Opening) (past h : List Entry) (all : AllSessions Request Moment)
    → IsLegal (rules_of o) h → AllByRecursion (IsExcused (λ q. IsTrue (excused q))) h
    → 0 < all.places → AllByRecursion (λ e. e.place < all.places) h
    → ((p : ℕ) → p < all.places → Lives l p o.first.fold.table past h (all.spoken p) (all.sessions p))
    → ((p : ℕ) → all.places ≤ p → all.sessions p ≡ [])
    → ArePassed l (LimitBehind o.first) (λ q. IsTrue (excused q)) (element o.first.fold.table past (λ p. [])) all o.first.fold.table past h
