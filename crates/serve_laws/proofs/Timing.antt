-- How much a link had been written at an earlier moment.
use Rattle.std.proofs.Common.{◌≡◌, ◌⊎◌, ◌<◌, ◌≤◌, ◌+◌, ℕ, zero, suc, List, [], ◌∷◌, ◌++◌, length, length-append, append-nil, append_assoc, refl, sym, ◌∙◌, ap, subst, inl, inr, arith}
use Rattle.std.specs.List.{AllByRecursion}
use Rattle.std.proofs.lemmas.Bool.Decides.{eqb_tells}
use Rattle.std.proofs.lemmas.List.{map-append}
use base.Stored.{Gv}
use Rattle.turnstile.proofs.OneHistory.{Either, beginnings, first_longer, first_shorter}
use Rattle.dxc_outside.specs.declared.clock.Moment.{Moment}
use Rattle.dxc_outside.specs.Links.{LinkState}
use Rattle.dxc_model.specs.declared.entry.Entry.{Entry}
use Rattle.dxc_model.specs.declared.entry.Outcome.TheVariants.{Answered}
use Rattle.dxc_model.specs.declared.op.Op.TheVariants.{Look}
use Rattle.dxc_model.specs.Tables.{Board}
use Rattle.xc_core.specs.Seeing.{Saw, codes, entry, entry_coded}
use Rattle.xc_core.specs.States.{Opening, began}
use Rattle.craft_session.specs.Asks.{Language}
use Rattle.craft_session.specs.Happenings.{Request}
use Rattle.craft_session.specs.Sessions.{Beginning}
use Rattle.craft_session.specs.Stamps.{Stamp}
use Rattle.craft_session.specs.Timely.{IsTimely, IsWrittenBehind, reached, starting, telling}
use Rattle.craft_session.specs.Runs.{Message, RunsOn, Walk, begins, looks, message_here, passes, responds, waits}
use Rattle.switch_laws.specs.Beginnings.{HasSaid, HaveSaid}
use Rattle.switch_laws.specs.Element.{Session}
use Rattle.switch_laws.specs.Laws.{Spoken, spoken_in}
use Rattle.serve_laws.specs.Timing.{MomentAt, WasSaid, WasWrittenSince, WasWrittenThen}

abbrev hd : {A : Type 0} → A → List A → A
hd d [] = d
hd d (x ∷ xs) = x

abbrev tl : {A : Type 0} → List A → List A
tl [] = []
tl (x ∷ xs) = xs

pub same_rest : {A : Type 0} (xs ys zs : List A) → xs ++ ys ≡ xs ++ zs → ys ≡ zs
same_rest [] ys zs e = e
same_rest (x ∷ xs) ys zs e = same_rest xs ys zs (ap tl e)

-- codes that begin with those of some entries are of entries that begin with these
coded_front : (xs ys : List Entry) (more : List Gv) → codes xs ++ more ≡ codes ys → (m : List Entry) × (xs ++ m ≡ ys)
coded_front [] ys more is = (ys, refl)
coded_front (x ∷ xs) [] more is = absurd (let long : suc (length (codes xs ++ more)) ≡ 0 = ap length is in omega (arith, long))
coded_front (x ∷ xs) (y ∷ ys) more is =
    let t = coded_front xs ys more (ap tl is) in
    let one : x ≡ y = entry_coded.inj x y (ap (hd (entry_coded.code x)) is) in
    (t.0, (λ i. one i ∷ t.1 i))

-- what has seen a longer history has seen its codes since
pub saw_on : (o : Opening) (seen then_seen : List Gv) (h es : List Entry) → Saw o seen h → Saw o then_seen (h ++ es) → then_seen ≡ seen ++ codes es
saw_on o seen then_seen h es first then =
    let past = codes (began o.due) in
    same_rest past then_seen (seen ++ codes es)
    (then.codes_are ∙ map-append entry_coded.code h es ∙ ap (λ (g : List Gv). g ++ codes es) (sym first.codes_are) ∙ append_assoc past seen (codes es))

-- What there is of a place at a moment by this history: where link and clock tell what they hold, its pass had seen the codes of a beginning of the history.
pub record Allows (told : Type 0) (stamped : Stamp → Type 0) (o : Opening) (own : ℕ) (history : List Entry) (m : MomentAt) : Type 0 where
  pub tells : told
  pub stamps : (s : Stamp) → stamped s → m.stamped s
  pub place : m.place ≡ own
  pub begun : List Entry
  pub later : List Entry
  pub whole : (began o.due ++ begun) ++ later ≡ history
  pub codes_are : m.seen ≡ codes begun

-- what has run on has more messages
messages_on : (l : Language Request Moment) (p : ℕ) (t : Board) (v w : Walk Request Moment) → RunsOn l p t v w → (more : List Message) × (w.messages ≡ v.messages ++ more)
messages_on l p t v _ begins = ([], sym (append-nil v.messages))
messages_on l p t v _ (passes w e unused run) = messages_on l p t v w run
messages_on l p t v _ (responds w u m es reply none serves run) =
    let x = messages_on l p t v w run in
    let one : List Message = record { behind = w.history ++ es; written = (w.earlier ++ w.latest) ++ l.response m u reply } ∷ [] in
    (x.0 ++ one, ap (λ (ms : List Message). ms ++ one) x.1 ∙ append_assoc v.messages x.0 one)
messages_on l p t v _ (waits w none run) = messages_on l p t v w run
messages_on l p t v _ (looks w cursor ms bytes due watch said run) =
    let x = messages_on l p t v w run in
    let one : List Message = record { behind = w.history ++ entry p (Look cursor) Answered ∷ []; written = w.earlier ++ (w.latest ++ bytes) } ∷ [] in
    (x.0 ++ one, ap (λ (ns : List Message). ns ++ one) x.1 ∙ append_assoc v.messages x.0 one)

-- what holds of two lists holds of each
pub all_parts : {A : Type 0} (P : A → Type 0) (xs ys : List A) → AllByRecursion P (xs ++ ys) → AllByRecursion P xs × AllByRecursion P ys
all_parts P [] ys a = (tt, a)
all_parts P (x ∷ xs) ys a = let r = all_parts P xs ys a.1 in ((a.0, r.0), r.1)

-- of what holds of a session's messages, that of one of them
of_message : (P : Spoken Request Moment → Type 0) (older : List (Session Request Moment)) (before : List Message) (m : Message) (more : List Message) → AllByRecursion P (spoken_in older ((before ++ m ∷ []) ++ more)) → P (record { older = older; message = m })
of_message P older [] m more all = all.0
of_message P older (x ∷ before) m more all = of_message P older before m more all.1

-- each number is of the one kind, or the last that isn't is of the other
data Parted (P Q : ℕ → Type 0) (from count : ℕ) : Type 0 where
  all_since : ((n : ℕ) → from ≤ n → n < from + count → P n) → Parted P Q from count
  last_before : (n : ℕ) → Q n → ((k : ℕ) → n < k → k < from + count → P k) → Parted P Q from count

module _ (P Q : ℕ → Type 0) (from : ℕ) where
  one_more : (count n : ℕ) → n < from + suc count → P (from + count) → (n < from + count → P n) → P n
  one_more count n below here before = elim (eqb_tells n (from + count)) [
    | inl t ↦ subst P (sym t.1) here
    | inr t ↦ before (let other = t.1 in omega (arith, below, other))
  ]

  parted : (count : ℕ) → ((n : ℕ) → from ≤ n → n < from + count → P n ⊎ Q n) → Parted P Q from count
  parted zero each = all_since (λ n le lt. absurd (omega (arith, le, lt)))
  parted (suc count) each =
      let so_far = parted count (λ n le lt. each n le (omega (arith, lt))) in
      elim (each (from + count) (omega arith) (omega arith)) [
        | inr q ↦ last_before (from + count) q (λ k more lt. absurd (omega (arith, more, lt)))
        | inl p ↦ elim so_far [
          | all_since all ↦ all_since (λ n le lt. one_more count n lt p (λ below. all n le below))
          | last_before n q all ↦ last_before n q (λ k more lt. one_more count k lt p (λ below. all k more below))
        ]
      ]

module _ (told clock_told : Type 0) (stamped : Stamp → Type 0) (l : Language Request Moment) (k j : LinkState) (c : List Moment) (seen users : List Gv) (b : Beginning) (end : Walk Request Moment) (ss : List (Session Request Moment))
    (m : MomentAt) (history : List Entry) (a : Allows told stamped b.opening b.place history m) (says : HaveSaid (spoken_in ss end.messages) history m.sessions) (rest more : List Gv) (ends : seen ++ rest ≡ m.seen ++ more) where
  abbrev Behind : Stamp → ℕ → Type 0
  Behind s n = IsWrittenBehind l (telling told clock_told stamped) (starting k c b) s (reached j.written seen users) end n

  -- what the element had said holds the byte of this number
  record HadSaid (n : ℕ) : Type 0 where
    pub by_then : List ℕ
    pub since : List ℕ
    pub all : j.written ≡ k.written ++ (by_then ++ since)
    pub said : WasSaid m ss by_then
    pub within : n < length (k.written ++ by_then)

  module _ (n : ℕ) (s : Stamp) (x : Behind s n) where
    -- the place had seen no more than its pass at the moment
    had_said : (d : List Gv) → m.seen ≡ s.seat.seen ++ d → HadSaid n
    had_said d is =
        let past = codes (began b.opening.due) in
        let h = x.walk.history in
        let front = coded_front h (began b.opening.due ++ a.begun) d (ap (λ (g : List Gv). g ++ d) (sym x.saw.codes_are) ∙ append_assoc past s.seat.seen d ∙ ap (λ (g : List Gv). past ++ g) (sym is ∙ a.codes_are) ∙ sym (map-append entry_coded.code (began b.opening.due) a.begun)) in
        let whole : h ++ (front.0 ++ a.later) ≡ history = sym (append_assoc h front.0 a.later) ∙ ap (λ (g : List Entry). g ++ a.later) front.1 ∙ a.whole in
        let short : length h ≤ length history = let q = ap length whole in let f = length-append h (front.0 ++ a.later) in omega (arith, q, f) in
        let later = messages_on l b.place b.opening.first.fold.table x.walk end x.ran_on in
        let are : end.messages ≡ (x.newest.0 ++ message_here x.walk ∷ []) ++ later.0 = later.1 ∙ ap (λ (ms : List Message). ms ++ later.0) x.newest.1 in
        let said = of_message (λ y. length y.message.behind ≤ length history → HasSaid y m.sessions) ss x.newest.0 (message_here x.walk) later.0 (subst (λ (ms : List Message). HaveSaid (spoken_in ss ms) history m.sessions) are says) short in
        let went = x.goes_on.written a.tells in
        let before : s.link.written ≡ k.written ++ x.out = x.exchanged.written a.tells in
        let joined : (s.link.written ++ x.sent) ≡ k.written ++ (x.out ++ x.sent) = ap (λ (bs : List ℕ). bs ++ x.sent) before ∙ append_assoc k.written x.out x.sent in
        record {
          by_then = x.out ++ x.sent;
          since = went.0;
          all = went.1 ∙ ap (λ (bs : List ℕ). bs ++ went.0) joined ∙ append_assoc k.written (x.out ++ x.sent) went.0;
          said = record {
            newer = said.newer;
            session = said.session;
            there = said.there;
            unsaid = x.unsent ++ said.unsaid;
            said = said.said ∙ ap (λ (bs : List ℕ). bs ++ said.unsaid) (x.written ∙ ap (λ (bs : List ℕ). x.out ++ bs) x.split ∙ sym (append_assoc x.out x.sent x.unsent)) ∙ append_assoc (x.out ++ x.sent) x.unsent said.unsaid;
          };
          within = (let e = ap length (sym joined) in let f = length-append s.link.written x.sent in let w = x.within in omega (arith, e, f, w));
        }

    -- or it had seen more
    was_since : stamped s → (g : Gv) (d : List Gv) → s.seat.seen ≡ m.seen ++ g ∷ d → WasWrittenSince m k j n
    was_since there g d is =
        let went = x.goes_on.written a.tells in
        record {
          stamp = s;
          stamped = a.stamps s there;
          place = x.at.1 ∙ sym a.place;
          same_link = x.exchanged.lasting;
          since_it_came = (x.out, x.exchanged.written a.tells);
          before_it_was_left = (x.sent ++ went.0, went.1 ∙ append_assoc s.link.written x.sent went.0);
          follows = x.follows;
          next = g;
          more = d;
          sees_on = is;
        }

    by_seen : stamped s → (since : List Gv) → Either s.seat.seen since m.seen more → WasWrittenSince m k j n ⊎ HadSaid n
    by_seen there since (first_shorter d p q) = inr (had_said d p)
    by_seen there since (first_longer [] p q) = inr (had_said [] (sym (p ∙ append-nil m.seen) ∙ sym (append-nil s.seat.seen)))
    by_seen there since (first_longer (g ∷ d) p q) = inl (was_since there g d p)

    of_byte : stamped s → WasWrittenSince m k j n ⊎ HadSaid n
    of_byte there =
        let x2 = x.goes_on.sees_on x.walk.history x.consulted.history x.saw x.consulted.saw in
        let on : seen ≡ s.seat.seen ++ codes x2.entries = saw_on b.opening s.seat.seen seen x.walk.history x2.entries x.saw x2.saw in
        let since = codes x2.entries ++ rest in
        by_seen there since (beginnings s.seat.seen since m.seen more (sym (append_assoc s.seat.seen (codes x2.entries) rest) ∙ ap (λ (g : List Gv). g ++ rest) (sym on) ∙ ends))

  module _ (timely : IsTimely l (telling told clock_told stamped) (starting k c b) k (reached j.written seen users) end) (out : List ℕ) (all : j.written ≡ k.written ++ out) where
    count : length j.written ≡ length k.written + length out
    count = ap length all ∙ length-append k.written out

    each : (n : ℕ) → length k.written ≤ n → n < length k.written + length out → WasWrittenSince m k j n ⊎ HadSaid n
    each n from below = let y = timely a.tells n from (let e = count in omega (arith, e, below)) in of_byte n y.0 y.2 y.1

    by_parts : Parted (WasWrittenSince m k j) HadSaid (length k.written) (length out) → WasWrittenThen m ss k j
    by_parts (all_since since) = record {
      by_then = [];
      since = out;
      all = all;
      said = inl refl;
      after = λ n from below. since n (let e = ap length (append-nil k.written) in omega (arith, e, from)) (let e = count in omega (arith, e, below));
    }
    by_parts (last_before n x since) = record {
      by_then = x.by_then;
      since = x.since;
      all = x.all;
      said = inr x.said;
      after = λ i from below. since i (let w = x.within in omega (arith, w, from)) (let e = count in omega (arith, e, below));
    }

    pub was_written_then : WasWrittenThen m ss k j
    was_written_then = by_parts (parted (WasWrittenSince m k j) HadSaid (length k.written) (length out) each)
