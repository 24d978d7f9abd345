-- What a primary sends, act by act.
use Rattle.std.proofs.Common.{◌≡◌, ◌≢◌, inr, ⊎_elim, ℕ, ◌+◌, ◌-◌, ◌≤◌, ◌<◌, List, [], ◌∷◌, ◌++◌, length, take, drop, Option, Some, None, IsSome, is_some, false, IsTrue, ◌↔◌, IfNone, IfSome, refl, sym, ◌∙◌, ap, subst, arith, zero, suc, min, length-drop, length-append, append_assoc}
use Rattle.std.proofs.lemmas.List.{append-nil, take_all, drop-drop}
use Rattle.std.proofs.lemmas.Bool.{cases_lt}
use Rattle.std.proofs.Math.ListN.{drop_of_length-le}
use Rattle.dxc_outside.specs.Links.{LinkState, Wrote, IsSent}
use Rattle.dxc_outside.specs.declared.send.Sent.TheVariants.{Cut}
use Rattle.dxc_outside.proofs.LinkSteps.{wrote_none, wrote_more}
use Rattle.dxc_outside.specs.declared.link.Lost.{Lost}
use Rattle.dxc_outside.specs.declared.link.Lost.TheVariants.{Link, End}
use Rattle.standby_link.specs.Acts.{Act, write, sync, most, most_is, pieces, pieces_in}
use Rattle.standby_link.specs.Messages.{Item, spelled, spelled_all, numbered}
use Rattle.standby_link.specs.Lines.{LineState, SentActs, SendsOne, Syncs}
use Rattle.standby_link.specs.Listens.{WaitsFor, WaitsInVain, patience}

-- a line by its parts
abbrev pub line : LinkState → ℕ → List ℕ → Option Lost → LineState
line link number held lost = record { link = link; number = number; held = held; lost = lost }

pub none_some : {A : Type 0} (o : Option A) → o ≡ None → IsSome o → ⊥
none_some None is some = cc
none_some (Some x) is some = cc

-- nothing was sent yet
pub sends_none : (told : Type 0) (k : LinkState) (n : ℕ) → SentActs told k k n n None []
sends_none told k n = record {
  part = [];
  rest = [];
  split = refl;
  wrote = wrote_none told k;
  whole = λ is. (refl, omega arith);
  cause = λ some. absurd (none_some {A = Lost} None refl some);
  no_fault = λ _. refl;
}

-- one item
pub sends_one : (told : Type 0) (old new : LinkState) (n m : ℕ) (lost : Option Lost) (a : Act) (message : List ℕ) → message ≡ spelled (n + 1) a → m ≡ n + 1 → SendsOne told old new lost message
    → SentActs told old new n m lost (a ∷ [])
sends_one told old new n m lost a message is number sends = ⊎_elim
    (λ whole. record {
      part = spelled (n + 1) a;
      rest = [];
      split = refl;
      wrote = subst (λ (l : List ℕ). Wrote told old new l) is whole.1;
      whole = λ _. (refl, omega (arith, number));
      cause = λ some. absurd (none_some lost whole.0 some);
      no_fault = λ _. whole.2;
    })
    (λ cut. record {
      part = cut.1.part;
      rest = cut.1.rest;
      split = append-nil (spelled (n + 1) a) ∙ sym is ∙ cut.1.split;
      wrote = cut.1.wrote;
      whole = λ none. cc;
      cause = λ _. (cut.0, cut.1.cause.cause refl);
      no_fault = λ none. absurd (let no : None ≡ Some Link = sym none ∙ cut.0 in cc);
    })
    sends

numbered-append : (acts more : List Act) (n : ℕ) → numbered n (acts ++ more) ≡ numbered n acts ++ numbered (n + length acts) more
numbered-append [] more n = ap (λ (m : ℕ). numbered m more) (let e : n ≡ n + 0 = omega arith in e)
numbered-append (a ∷ acts) more n =
    ap (λ l. record { number = n + 1; act = a } ∷ l) (numbered-append acts more (n + 1) ∙ ap (λ (m : ℕ). numbered (n + 1) acts ++ numbered m more) (let e : n + 1 + length acts ≡ n + length (a ∷ acts) = omega arith in e))

at_none : {A : Type 0} (P : Type 0) (o : Option A) → o ≡ None → IfNone o P → P
at_none P None is holds = holds
at_none P (Some x) is holds = cc

at_some : {A : Type 0} (P : A → Type 0) (o : Option A) (x : A) → o ≡ Some x → IfSome o P → P x
at_some P None x is holds = cc
at_some P (Some y) x is holds = let same : y ≡ x = cc in subst P same holds

lost_here : (o : Option Lost) → is_some o ≡ false → o ≡ Some Link → ⊥
lost_here None none some = cc
lost_here (Some x) none some = cc

-- a Sync that was sent whole, and the wait for its Have
pub syncs_whole : (told : Type 0) (old mid new : LinkState) (n m : ℕ) (kept part rest message : List ℕ) (before sent lost : Option Lost) → kept ≡ part → m ≡ n + 1 → message ≡ spelled (n + 1) sync → is_some sent ≡ false → SendsOne told old mid sent message
    → IfNone lost (WaitsFor told mid new kept rest m) → IfSome lost (λ why. WaitsInVain told mid new kept m why) → ((lost ≡ Some End) ↔ IsTrue new.ended) → new.reads ≤ mid.reads + patience → (lost ≢ Some Link → new.read_faults ≡ mid.read_faults) → new.write_faults ≡ mid.write_faults → Syncs told (line old n part before) (line new m rest lost)
syncs_whole told old mid new n m kept part rest message before sent lost same number is here sends came vain end few no_fault writes = ⊎_elim
    (λ whole. inr (
      mid,
      record {
        number = number;
        wrote = subst (λ (l : List ℕ). Wrote told old mid l) is whole.1;
        came = λ none. subst (λ (l : List ℕ). WaitsFor told mid new l rest (n + 1)) same (subst (λ (k : ℕ). WaitsFor told mid new kept rest k) number (at_none (WaitsFor told mid new kept rest m) lost none came));
        vain = λ why some. subst (λ (l : List ℕ). WaitsInVain told mid new l (n + 1) why) same (subst (λ (k : ℕ). WaitsInVain told mid new kept k why) number (at_some (λ (w : Lost). WaitsInVain told mid new kept m w) lost why some vain));
        end = end;
        few = few;
        no_fault = no_fault;
        no_write_fault = writes ∙ whole.2;
      },
    ))
    (λ cut. absurd (lost_here sent here cut.0))
    sends

none_of : {A : Type 0} (P : Type 0) (o : Option A) (x : A) → o ≡ Some x → IfNone o P
none_of P None x is = cc
none_of P (Some y) x is = tt

-- where no Have came the line is lost; its link stands after the hanging up as before
pub syncs_vain : (told : Type 0) (old mid heard new : LinkState) (n m k : ℕ) (kept part rest message : List ℕ) (before sent found lost : Option Lost) (why : Lost) → kept ≡ part → m ≡ n + 1 → message ≡ spelled (n + 1) sync → is_some sent ≡ false → SendsOne told old mid sent message
    → found ≡ Some why → IfSome found (λ why. WaitsInVain told mid heard kept m why) → ((found ≡ Some End) ↔ IsTrue heard.ended) → heard.reads ≤ mid.reads + patience → (found ≢ Some Link → heard.read_faults ≡ mid.read_faults) → heard.write_faults ≡ mid.write_faults
    → new ≡ heard → k ≡ m → lost ≡ Some why → Syncs told (line old n part before) (line new k rest lost)
syncs_vain told old mid heard new n m k kept part rest message before sent found lost why same number is here sends vained vain end few no_fault writes as_heard as_sent as_found =
    subst (λ (l : LinkState). Syncs told (line old n part before) (line l k rest lost)) (sym as_heard)
    (subst (λ (j : ℕ). Syncs told (line old n part before) (line heard j rest lost)) (sym as_sent)
    (subst (λ (o : Option Lost). Syncs told (line old n part before) (line heard m rest o)) (vained ∙ sym as_found)
    (syncs_whole told old mid heard n m kept part rest message before sent found same number is here sends (none_of (WaitsFor told mid heard kept rest m) found why vained) vain end few no_fault writes)))

-- a message that was cut short loses the line, whose link stands after the hanging up as before
pub cut_short : (told : Type 0) (old mid new : LinkState) (lost : Option Lost) (message : List ℕ) → IsSent told old mid Cut message → new ≡ mid → lost ≡ Some Link → SendsOne told old new lost message
cut_short told old mid new lost message sent same is = inr (is, subst (λ (k : LinkState). IsSent told old k Cut message) (sym same) sent)

spelled_all-append : (xs ys : List Item) → spelled_all (xs ++ ys) ≡ spelled_all xs ++ spelled_all ys
spelled_all-append [] ys = refl
spelled_all-append (i ∷ xs) ys = ap (λ (l : List ℕ). spelled i.number i.act ++ l) (spelled_all-append xs ys) ∙ sym (append_assoc (spelled i.number i.act) (spelled_all xs) (spelled_all ys))

pub spelled_more : (acts more : List Act) (n : ℕ) → spelled_all (numbered n (acts ++ more)) ≡ spelled_all (numbered n acts) ++ spelled_all (numbered (n + length acts) more)
spelled_more acts more n = ap spelled_all (numbered-append acts more n) ∙ spelled_all-append (numbered n acts) (numbered (n + length acts) more)

-- acts, and more after them
pub sends_more : (told : Type 0) (a b c : LinkState) (n m k : ℕ) (lost : Option Lost) (acts more : List Act) → SentActs told a b n m None acts → SentActs told b c m k lost more → SentActs told a c n k lost (acts ++ more)
sends_more told a b c n m k lost acts more first next =
    let whole = first.whole refl in
    let all : first.part ≡ spelled_all (numbered n acts) = sym (first.split ∙ ap (λ (l : List ℕ). first.part ++ l) whole.0 ∙ append-nil first.part) in
    record {
      part = first.part ++ next.part;
      rest = next.rest;
      split =
          spelled_more acts more n
          ∙ ap (λ (l : List ℕ). l ++ spelled_all (numbered (n + length acts) more)) (sym all)
          ∙ ap (λ (i : ℕ). first.part ++ spelled_all (numbered i more)) (sym whole.1)
          ∙ ap (λ (l : List ℕ). first.part ++ l) next.split
          ∙ sym (append_assoc first.part next.part next.rest);
      wrote = wrote_more told a b c first.part next.part first.wrote next.wrote;
      whole = λ none. ((next.whole none).0, omega (arith, whole.1, (next.whole none).1, length-append acts more));
      cause = λ some. ((next.cause some).0, omega (arith, (next.cause some).1, first.wrote.later));
      no_fault = λ none. next.no_fault none ∙ first.no_fault refl;
    }

-- more that wasn't sent any more
pub sends_less : (told : Type 0) (a b : LinkState) (n m : ℕ) (lost : Option Lost) (acts more : List Act) → IsSome lost → SentActs told a b n m lost acts → SentActs told a b n m lost (acts ++ more)
sends_less told a b n m lost acts more some sends = record {
  part = sends.part;
  rest = sends.rest ++ spelled_all (numbered (n + length acts) more);
  split = spelled_more acts more n ∙ ap (λ (l : List ℕ). l ++ spelled_all (numbered (n + length acts) more)) sends.split ∙ append_assoc sends.part sends.rest (spelled_all (numbered (n + length acts) more));
  wrote = sends.wrote;
  whole = λ none. absurd (none_some lost none some);
  cause = sends.cause;
  no_fault = sends.no_fault;
}

no_pieces : (n at : ℕ) → pieces_in n at [] ≡ []
no_pieces zero at = refl
no_pieces (suc n) at = refl

-- the steps don't matter where they suffice
pieces_fuel : (n m at : ℕ) (bs : List ℕ) → length bs ≤ n → length bs ≤ m → pieces_in n at bs ≡ pieces_in m at bs
pieces_fuel n m at [] some many = no_pieces n at ∙ sym (no_pieces m at)
pieces_fuel zero m at (b ∷ bs) some many = absurd (omega (arith, some))
pieces_fuel (suc n) zero at (b ∷ bs) some many = absurd (omega (arith, many))
pieces_fuel (suc n) (suc m) at (b ∷ bs) some many =
    ap (λ (l : List Act). write at (take most (b ∷ bs)) ∷ l)
    (pieces_fuel n m (at + most) (drop most (b ∷ bs)) (omega (arith, some, most_is, length-drop most (b ∷ bs))) (omega (arith, many, most_is, length-drop most (b ∷ bs))))

pub pieces_step : (at : ℕ) (bs : List ℕ) → 0 < length bs → pieces at bs ≡ write at (take most bs) ∷ pieces (at + most) (drop most bs)
pieces_step at [] some = absurd (omega (arith, some))
pieces_step at (b ∷ bs) some =
    ap (λ (l : List Act). write at (take most (b ∷ bs)) ∷ l)
    (pieces_fuel (length bs) (length (drop most (b ∷ bs))) (at + most) (drop most (b ∷ bs)) (omega (arith, most_is, length-drop most (b ∷ bs))) (omega arith))

-- a write that was sent up to here
pub record Sending (told : Type 0) (k0 k : LinkState) (n m place sent : ℕ) (from : List ℕ) : Type 0 where
  pub done : List Act
  pub sends : SentActs told k0 k n m None done
  pub all : done ++ pieces (place + sent) (drop sent from) ≡ pieces place from
  pub within : sent ≤ length from

pub sending_none : (told : Type 0) (k : LinkState) (n place : ℕ) (from : List ℕ) → Sending told k k n n place 0 from
sending_none told k n place from = record {
  done = [];
  sends = sends_none told k n;
  all = ap (λ (p : ℕ). pieces p from) (let e : place + 0 ≡ place = omega arith in e);
  within = omega arith;
}

module _ (told : Type 0) (k0 k k' : LinkState) (n m m' place sent end : ℕ) (from : List ℕ) (sending : Sending told k0 k n m place sent from) (less : sent < length from) (end_is : end ≡ min (length from) (sent + 4096)) where
  some_left : 0 < length (drop sent from)
  some_left = simp length-drop (omega (arith, less))

  piece_is : take (end - sent) (drop sent from) ≡ take most (drop sent from)
  piece_is = ⊎_elim
      (λ (long : length from < sent + 4096).
      take_all (end - sent) (drop sent from) (omega (arith, end_is, long, length-drop sent from))
      ∙ sym (take_all most (drop sent from) (omega (arith, long, most_is, length-drop sent from))))
      (λ (short : sent + 4096 ≤ length from). let e : end - sent ≡ most = omega (arith, end_is, short, most_is) in ap (λ (c : ℕ). take c (drop sent from)) e)
      (cases_lt (length from) (sent + 4096))

  rest_is : pieces (place + sent + most) (drop most (drop sent from)) ≡ pieces (place + end) (drop end from)
  rest_is = ⊎_elim
      (λ (long : length from < sent + 4096).
      let one : drop most (drop sent from) ≡ [] = drop_of_length-le (drop sent from) (omega (arith, long, most_is, length-drop sent from)) in
      let two : drop end from ≡ [] = drop_of_length-le from (omega (arith, long, end_is)) in
      ap (pieces (place + sent + most)) one ∙ ap (pieces (place + end)) (sym two))
      (λ (short : sent + 4096 ≤ length from).
      let e : sent + most ≡ end = omega (arith, end_is, short, most_is) in
      let p : place + sent + most ≡ place + end = omega (arith, e) in
      ap (λ (l : List ℕ). pieces (place + sent + most) l) (drop-drop most sent from ∙ ap (λ (c : ℕ). drop c from) e) ∙ ap (λ (q : ℕ). pieces q (drop end from)) p)
      (cases_lt (length from) (sent + 4096))

  -- the next piece and what is left behind it
  all_next : (sending.done ++ write (place + sent) (take (end - sent) (drop sent from)) ∷ []) ++ pieces (place + end) (drop end from) ≡ pieces place from
  all_next =
      append_assoc sending.done (write (place + sent) (take (end - sent) (drop sent from)) ∷ []) (pieces (place + end) (drop end from))
      ∙ ap (λ (l : List ℕ). sending.done ++ (write (place + sent) l ∷ pieces (place + end) (drop end from))) piece_is
      ∙ ap (λ (l : List Act). sending.done ++ (write (place + sent) (take most (drop sent from)) ∷ l)) (sym rest_is)
      ∙ ap (λ (l : List Act). sending.done ++ l) (sym (pieces_step (place + sent) (drop sent from) some_left))
      ∙ sending.all

  pub fewer : m + 1 ≤ n + length (pieces place from)
  fewer =
      let count = ap length sending.all in
      let next = ap length (pieces_step (place + sent) (drop sent from) some_left) in
      omega (arith, (sending.sends.whole refl).1, count, next, length-append sending.done (pieces (place + sent) (drop sent from)))

  pub sending_more : SentActs told k k' m m' None (write (place + sent) (take (end - sent) (drop sent from)) ∷ []) → Sending told k0 k' n m' place end from
  sending_more more = record {
    done = sending.done ++ write (place + sent) (take (end - sent) (drop sent from)) ∷ [];
    sends = sends_more told k0 k k' n m m' None sending.done _ sending.sends more;
    all = all_next;
    within = omega (arith, end_is);
  }

  pub sending_cut : (lost : Option Lost) → IsSome lost → SentActs told k k' m m' lost (write (place + sent) (take (end - sent) (drop sent from)) ∷ []) → SentActs told k0 k' n m' lost (pieces place from)
  sending_cut lost some more = subst (λ (l : List Act). SentActs told k0 k' n m' lost l) all_next
      (sends_less told k0 k' n m' lost _ (pieces (place + end) (drop end from)) some (sends_more told k0 k k' n m m' lost sending.done _ sending.sends more))

pub sending_all : (told : Type 0) (k0 k : LinkState) (n m place sent : ℕ) (from : List ℕ) → Sending told k0 k n m place sent from → length from ≤ sent → SentActs told k0 k n m None (pieces place from)
sending_all told k0 k n m place sent from sending all =
    let none : drop sent from ≡ [] = drop_of_length-le from all in
    subst (λ (l : List Act). SentActs told k0 k n m None l) (sym (append-nil sending.done) ∙ ap (λ (l : List ℕ). sending.done ++ pieces (place + sent) l) (sym none) ∙ sending.all) sending.sends

pub is_none_of : (o : Option Lost) → is_some o ≡ false → o ≡ None
is_none_of None is = refl
is_none_of (Some x) is = cc
