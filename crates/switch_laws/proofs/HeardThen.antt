-- What each place had heard at a beginning of the users' history.
use Rattle.std.specs.List.{AllByRecursion}
use Rattle.std.proofs.Common.{◌≡◌, ◌≢◌, ◌⊎◌, ◌≤◌, ◌<◌, ◌+◌, ℕ, suc, true, arith, length, length-append, List, [], ◌∷◌, ◌++◌, append-nil, append_assoc, refl, sym, ◌∙◌, ap, subst, inl, inr}
use Rattle.std.proofs.lemmas.Bool.Decides.{leb_tells}
use Rattle.dxc_model.specs.declared.user.SessionUser.{SessionUser}
use Rattle.user_admin.specs.declared.op.UserEntry.{UserEntry}
use Rattle.user_admin.specs.Histories.{IsLegal, Opening, failures}
use Rattle.turnstile.proofs.OneHistory.{beginnings, first_longer, first_shorter}
use Rattle.craft_session.specs.Asks.{Language, user_after}
use Rattle.craft_session.specs.Consulting.{Consults, consults_none, others_pass, unit_hears, quiet_passes}
use Rattle.craft_session.specs.Happenings.{Happening, quiet, unit}
use Rattle.craft_session.specs.Hearing.{Heard, Hears, Wanted, nothing, to_look, to_do}
use Rattle.craft_session.proofs.Playing.{each_front}
use Rattle.switch_laws.specs.Moments.{AreBegun, AreUsersThen, IsHeardBegun}
use Rattle.switch_laws.specs.Users.{Hearing, Listens, consulted_on, nobody_asked, others_asked}
use Rattle.switch_laws.proofs.Listening.{failures_front, heard_together, legal_front}
use Rattle.switch_laws.proofs.Passing.{all_stay}

one_only : 1 ≤ 1
one_only = omega arith

none_in : {A : Type 0} (xs : List A) → length xs ≡ 0 → xs ≡ []
none_in [] is = refl
none_in (x ∷ xs) is = absurd (let long : suc (length xs) ≡ 0 = is in omega (arith, long))

-- of one entry at most a beginning with something in it leaves nothing
nothing_left : {A : Type 0} (es m b : List A) (y : A) → length es ≤ 1 → es ≡ y ∷ (m ++ b) → b ≡ []
nothing_left es m b y few is =
    let long : length es ≡ suc (length (m ++ b)) = ap length is in
    let joined : length (m ++ b) ≡ length m + length b = length-append m b in
    none_in b (omega (arith, few, long, joined))

whole_is : {A : Type 0} (g es a b : List A) → g ++ es ≡ a ++ b → b ≡ [] → g ++ es ≡ a
whole_is {A} g es a b is none = is ∙ ap (λ (c : List A). a ++ c) none ∙ append-nil a

hears_few : (o : Opening) (place : ℕ) (h : List UserEntry) (w : Wanted) (es : List UserEntry) (x : Heard) → Hears o place h w es x → length es ≤ 1
hears_few o place h nothing es x hears = let long : length es ≡ 0 = ap length hears.0 in omega (arith, long)
hears_few o place h (to_look vacant uid pid) es x hears = let long : length es ≡ 1 = ap length hears.0 in omega (arith, long)
hears_few o place h (to_do what) es x hears = let long : length es ≡ 1 = ap length hears.1 in omega (arith, long)

module _ {U : Type 0} where
  heard_stays : (s : Hearing U) → IsHeardBegun s s
  heard_stays s = record { happenings = []; happened = sym (append-nil s.happenings) }

  heard_further : (s t u : Hearing U) → IsHeardBegun s t → IsHeardBegun t u → IsHeardBegun s u
  heard_further s t u x y = record { happenings = x.happenings ++ y.happenings; happened = y.happened ∙ ap (λ (hs : List (Happening U)). hs ++ y.happenings) x.happened ∙ append_assoc s.happenings x.happenings y.happenings }

  begun_later : (rs ss : List (Hearing U)) (s : Hearing U) → AreBegun IsHeardBegun rs ss → AreBegun IsHeardBegun rs (s ∷ ss)
  begun_later [] ss s x = tt
  begun_later (r ∷ older) ss s (newer, t, is, x) = (s ∷ newer, t, ap (λ (ts : List (Hearing U)). s ∷ ts) is, x)

-- the session of a place begins after this beginning of the history, or had come so far along it
pub data Came {U M : Type 0} (l : Language U M) (place : ℕ) (o : Opening) (h a : List UserEntry) (hs : List (Happening U)) : Type 0 where
  later : (m : List UserEntry) → h ≡ a ++ m → Came l place o h a hs
  so_far : (front more : List (Happening U)) (r : SessionUser) → hs ≡ front ++ more → Consults l place o h front a r → Came l place o h a hs

module _ {U M : Type 0} (l : Language U M) (place : ℕ) (o : Opening) where
  -- all of it
  came_all : (h a g : List UserEntry) (hs : List (Happening U)) (s : SessionUser) → g ≡ a → Consults l place o h hs g s → Came l place o h a hs
  came_all h a g hs s is c = so_far hs [] s (sym (append-nil hs)) (subst (λ (k : List UserEntry). Consults l place o h hs k s) is c)

  -- and then this happened
  came_on : (h a : List UserEntry) (hs : List (Happening U)) (z : Happening U) → Came l place o h a hs → Came l place o h a (hs ++ z ∷ [])
  came_on h a hs z (later m is) = later m is
  came_on h a hs z (so_far front more r is c) = so_far front (more ++ z ∷ []) r (ap (λ (k : List (Happening U)). k ++ z ∷ []) is ∙ append_assoc front more (z ∷ [])) c

  -- others' entry was the last
  ended_others : (h : List UserEntry) (hs : List (Happening U)) (g : List UserEntry) (s : SessionUser) (e : UserEntry) → e.place ≢ place → Consults l place o h hs g s → (a b m : List UserEntry) → g ++ e ∷ [] ≡ a ++ b → a ≡ g ++ m → e ∷ [] ≡ m ++ b → Came l place o h a hs
  ended_others h hs g s e other c a b [] is p q = came_all h a g hs s (sym (p ∙ append-nil g)) c
  ended_others h hs g s e other c a b (y ∷ m) is p q = came_all h a (g ++ e ∷ []) hs s (whole_is g (e ∷ []) a b is (nothing_left (e ∷ []) m b y one_only q)) (others_pass hs g s e other c)

  -- a unit was the last that happened
  ended_unit : (h : List UserEntry) (hs : List (Happening U)) (g : List UserEntry) (s : SessionUser) (u : U) (es : List UserEntry) → Hears o place g (l.wants s u) es (l.heard u) → l.is_told s u ≡ true → Consults l place o h hs g s → (a b m : List UserEntry) → g ++ es ≡ a ++ b → a ≡ g ++ m → es ≡ m ++ b → Came l place o h a (hs ++ unit u ∷ [])
  ended_unit h hs g s u es hears told c a b [] is p q = came_on h a hs (unit u) (came_all h a g hs s (sym (p ∙ append-nil g)) c)
  ended_unit h hs g s u es hears told c a b (y ∷ m) is p q =
      let none = nothing_left es m b y (hears_few o place g (l.wants s u) es (l.heard u) hears) q in
      came_all h a (g ++ es) (hs ++ unit u ∷ []) (user_after s (l.asks s u)) (whole_is g es a b is none) (unit_hears hs g s u es hears told c)

  came : (h : List UserEntry) (hs : List (Happening U)) (g : List UserEntry) (s : SessionUser) → Consults l place o h hs g s → (a b : List UserEntry) → g ≡ a ++ b → Came l place o h a hs
  came h _ _ _ consults_none a b is = later b is
  came h _ _ _ (others_pass hs g s e other c) a b is = elim (beginnings g (e ∷ []) a b is) [
    | first_shorter m p q ↦ ended_others h hs g s e other c a b m is p q
    | first_longer m p q ↦ came h hs g s c a m p
  ]
  came h _ _ _ (unit_hears hs g s u es hears told c) a b is = elim (beginnings g es a b is) [
    | first_shorter m p q ↦ ended_unit h hs g s u es hears told c a b m is p q
    | first_longer m p q ↦ came_on h a hs (unit u) (came h hs g s c a m p)
  ]
  came h _ _ _ (quiet_passes hs g s c) a b is = came_on h a hs quiet (came h hs g s c a b is)

  -- what the sessions of the place had heard at this beginning
  record Cut (a : List UserEntry) (hs : List (Hearing U)) : Type 0 where
    pub heard : List (Hearing U)
    pub listens : Listens l place o a heard
    pub begun : AreBegun IsHeardBegun heard hs

  cut_all : (a g : List UserEntry) (hs : List (Hearing U)) → g ≡ a → Listens l place o g hs → Cut a hs
  cut_all a g hs is x = record { heard = hs; listens = subst (λ (k : List UserEntry). Listens l place o k hs) is x; begun = all_stay IsHeardBegun heard_stays heard_further hs }

  cut_none : (a b : List UserEntry) → [] ≡ a ++ b → Cut a []
  cut_none [] b is = record { heard = []; listens = nobody_asked; begun = tt }
  cut_none (y ∷ a) b is = absurd (let long : 0 ≡ suc (length (a ++ b)) = ap length is in omega (arith, long))

  cut_others : (g : List UserEntry) (ss : List (Hearing U)) (e : UserEntry) → e.place ≢ place → Listens l place o g ss → (a b m : List UserEntry) → g ++ e ∷ [] ≡ a ++ b → a ≡ g ++ m → e ∷ [] ≡ m ++ b → Cut a ss
  cut_others g ss e other x a b [] is p q = cut_all a g ss (sym (p ∙ append-nil g)) x
  cut_others g ss e other x a b (y ∷ m) is p q = cut_all a (g ++ e ∷ []) ss (whole_is g (e ∷ []) a b is (nothing_left (e ∷ []) m b y one_only q)) (others_asked g ss e other x)

  -- one session more began after it
  cut_later : (a : List UserEntry) (s : Hearing U) (ss : List (Hearing U)) → Cut a ss → Cut a (s ∷ ss)
  cut_later a s ss x = record { heard = x.heard; listens = x.listens; begun = begun_later x.heard ss s x.begun }

  cut : (g : List UserEntry) (hs : List (Hearing U)) → Listens l place o g hs → (a b : List UserEntry) → g ≡ a ++ b → Cut a hs
  cut _ _ nobody_asked a b is = cut_none a b is
  cut _ _ (others_asked g ss e other x) a b is = elim (beginnings g (e ∷ []) a b is) [
    | first_shorter m p q ↦ cut_others g ss e other x a b m is p q
    | first_longer m p q ↦ cut g ss x a m p
  ]
  cut _ _ (consulted_on g h ss hs s c x) a b is = elim (came g hs h s c a b is) [
    | later m p ↦ cut_later a (record { happenings = hs; user = s }) ss (cut g ss x a m p)
    | so_far front more r p d ↦ record {
      heard = record { happenings = front; user = r } ∷ ss;
      listens = consulted_on g a ss front r d x;
      begun = ([], record { happenings = hs; user = s }, refl, record { happenings = more; happened = p });
    }
  ]

pub compared : (p n : ℕ) → (p < n) ⊎ (n ≤ p)
compared p n = elim (leb_tells n p) [ inl t ↦ inr t.1 | inr t ↦ inl t.1 ]

-- all places
module _ {U M : Type 0} (l : Language U M) (excused : Type 0) (o : Opening) (h more : List UserEntry) (n : ℕ) (sessions : ℕ → List (Hearing U)) (listens : (p : ℕ) → p < n → Listens l p o (h ++ more) (sessions p)) where
  at_place : (p : ℕ) → p < n → Cut l p o h (sessions p)
  at_place p lt = cut l p o (h ++ more) (sessions p) (listens p lt) h more refl

  abbrev heard_by : (p : ℕ) → (p < n) ⊎ (n ≤ p) → List (Hearing U)
  heard_by p (inl lt) = (at_place p lt).heard
  heard_by p (inr ge) = []

  heard_at : ℕ → List (Hearing U)
  heard_at p = heard_by p (compared p n)

  listens_at : (p : ℕ) → p < n → Listens l p o h (heard_at p)
  unfolding heard_at
  listens_at p lt = elim (compared p n) as (λ d. Listens l p o h (heard_by p d)) [ inl below ↦ (at_place p below).listens | inr ge ↦ absurd (omega (arith, lt, ge)) ]

  none_beyond : (p : ℕ) → n ≤ p → heard_at p ≡ []
  unfolding heard_at
  none_beyond p ge = elim (compared p n) as (λ d. heard_by p d ≡ []) [ inl below ↦ absurd (omega (arith, ge, below)) | inr also ↦ refl ]

  begun_at_all : (p : ℕ) → AreBegun IsHeardBegun (heard_at p) (sessions p)
  unfolding heard_at
  begun_at_all p = elim (compared p n) as (λ d. AreBegun IsHeardBegun (heard_by p d) (sessions p)) [ inl below ↦ (at_place p below).begun | inr ge ↦ tt ]

  pub users_then : IsLegal o (h ++ more) → (1 ≤ failures (h ++ more) → excused) → 0 < n → AllByRecursion (λ (e : UserEntry). e.place < n) (h ++ more) → AreUsersThen l o excused h sessions
  users_then legal fails pos numbers =
      let all = failures_front h more in
      let good : IsLegal o h × (1 ≤ failures h → excused) × AllByRecursion (λ (e : UserEntry). e.place < n) h = (record { opened = legal.opened; entries = legal_front o.shelf.sid o.users h more legal.entries }, (λ (some : 1 ≤ failures h). fails (omega (arith, some, all))), each_front (λ (e : UserEntry). e.place < n) h more numbers) in
      record { hearings = heard_at; heard = heard_together l o excused n h heard_at pos good listens_at none_beyond; begun = begun_at_all }
