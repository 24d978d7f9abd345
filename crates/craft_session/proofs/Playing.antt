-- A run over a legal history is the plain session's.
use Rattle.std.specs.Prelude.{is_some, option_to_list}
use Rattle.std.specs.List.{AllByRecursion}
use Rattle.std.proofs.Common.{◌≡◌, ◌⊎◌, ℕ, Bool, false, length, List, [], ◌∷◌, ◌++◌, Option, Some, None, Result, Ok, Err, refl, sym, ◌∙◌, ap, subst, append_assoc, append-nil, inl, inr}
use Rattle.dxc_model.specs.declared.cause.Cause.{Cause}
use Rattle.dxc_model.specs.declared.cause.Cause.TheVariants.{DiskFault}
use Rattle.dxc_model.specs.declared.op.Op.{Op}
use Rattle.dxc_model.specs.declared.op.Op.TheVariants.{Look, Restart, Rows}
use Rattle.dxc_model.specs.declared.op.Change.{Change}
use Rattle.dxc_model.specs.declared.entry.Outcome.{Outcome}
use Rattle.dxc_model.specs.declared.entry.Outcome.TheVariants.{Done, Denied, Failed, Answered, Restarted, Cut, Taken}
use Rattle.dxc_model.specs.declared.entry.Entry.{Entry}
use Rattle.dxc_model.specs.Tables.{Board}
use Rattle.dxc_model.specs.Verdicts.{Grants, verdict}
use Rattle.dxc_model.specs.Steps.{IsFault, IsLimit, StepsTo, made, with_change}
use Rattle.dxc_model.specs.Histories.{Fits, GoesOn, IsInDoubt, IsLegal, KeepsDoubt, Rules, changes_of, table_after}
use Rattle.dxc_model.proofs.Growth.{changes_append, legal_so_far, table_more}
use Rattle.xc_core.specs.Seeing.{entry}
use Rattle.craft_session.specs.declared.ask.Ask.{Ask}
use Rattle.craft_session.specs.declared.ask.Ask.TheVariants.{Refused, LogsIn, LogsOut, Completes, Allows, Inhibits, Lists, Shows, Restarts, Changes}
use Rattle.craft_session.specs.declared.attending.Attending.{Attending}
use Rattle.craft_session.specs.Asks.{Language, Reply, denied}
use Rattle.craft_session.specs.Happenings.{Happening, unit, quiet}
use Rattle.craft_session.specs.Runs.{Run, Walk, begins, passes, responds, waits, looks, with_entry}
use Rattle.craft_session.specs.Walks.{ChangeReply, IsUnused, Mends, RestartReply, Serves, attending_after, begun_by}
use Rattle.craft_session.specs.Plain.{Answers, At, Attends, Decides, Ends, Excuse, IsReport, Judges, Limit, Meanwhile, Plays, PlaysTo, Prepares, PreparesFor, Replies, Reports, Said, TakesUp, after_ask, joined, ready, silence, standing, took_up, waited, with_one}

-- the last entry of a legal history fits those before it
legal_last : (r : Rules) (past h : List Entry) (e : Entry) → GoesOn r past (h ++ e ∷ []) → Fits r (past ++ h) e
legal_last r past [] e goes = subst (λ (p : List Entry). Fits r p e) (sym (append-nil past)) goes.0
legal_last r past (x ∷ xs) e goes = subst (λ (p : List Entry). Fits r p e) (append_assoc past (x ∷ []) xs) (legal_last r (past ++ x ∷ []) xs e goes.1)

pub fits_last : (r : Rules) (h : List Entry) (e : Entry) → IsLegal r (h ++ e ∷ []) → Fits r h e
fits_last r h e legal = legal_last r [] h e legal

pub each_front : {X : Type 0} (P : X → Type 0) (xs ys : List X) → AllByRecursion P (xs ++ ys) → AllByRecursion P xs
each_front P [] ys a = tt
each_front P (x ∷ xs) ys a = (a.0, each_front P xs ys a.1)

pub each_last : {X : Type 0} (P : X → Type 0) (xs : List X) (y : X) → AllByRecursion P (xs ++ y ∷ []) → P y
each_last P [] y a = a.0
each_last P (x ∷ xs) y a = each_last P xs y a.1

-- what was written

pub joined_nothing : {M : Type 0} (x : Said M) → joined x silence ≡ x
joined_nothing x = λ i. record { moments = append-nil x.moments i; bytes = append-nil x.bytes i }

joined_assoc : {M : Type 0} (x y z : Said M) → joined (joined x y) z ≡ joined x (joined y z)
joined_assoc x y z = λ i. record { moments = append_assoc x.moments y.moments z.moments i; bytes = append_assoc x.bytes y.bytes z.bytes i }

-- where the session stands after one entry more, and after none
stood_on : (t : Board) (h : List Entry) (e : Entry) (z : Attending) → standing t (h ++ e ∷ []) z ≡ record { table = with_change (table_after t h) (made e.outcome); changes = changes_of h ++ option_to_list (made e.outcome); attending = z }
stood_on t h e z =
    let changes : changes_of (h ++ e ∷ []) ≡ changes_of h ++ option_to_list (made e.outcome) = changes_append h (e ∷ []) ∙ ap (λ (cs : List Change). changes_of h ++ cs) (append-nil (option_to_list (made e.outcome))) in
    λ i. record { table = table_more t h e i; changes = changes i; attending = z }

pub stood_still : (t : Board) (h : List Entry) (e : Entry) (z : Attending) → made e.outcome ≡ None → standing t (h ++ e ∷ []) z ≡ standing t h z
stood_still t h e z none =
    stood_on t h e z ∙ ap (λ (o : Option Change). record { table = with_change (table_after t h) o; changes = changes_of h ++ option_to_list o; attending = z }) none ∙ (λ i. record { table = table_after t h; changes = append-nil (changes_of h) i; attending = z })

stood_there : (t : Board) (h : List Entry) (z : Attending) → standing t (h ++ []) z ≡ record { table = table_after t h; changes = changes_of h ++ []; attending = z }
stood_there t h z = ap (λ (l : List Entry). standing t l z) (append-nil h) ∙ (λ i. record { table = table_after t h; changes = sym (append-nil (changes_of h)) i; attending = z })

pub apart : (q : Cause) → IsLimit q → IsFault q → ⊥
apart q l f = elim l [ inl a ↦ elim f [ inl b ↦ (let e = sym a ∙ b in cc) | inr b ↦ (let e = sym a ∙ b in cc) ] | inr a ↦ elim f [ inl b ↦ (let e = sym a ∙ b in cc) | inr b ↦ (let e = sym a ∙ b in cc) ] ]

-- What an ask takes of a legal history is what the plain session does. Entries that no unit uses are what may happen meanwhile, and a change in
-- doubt is one that a fault left.
module _ (r : Rules) (own : ℕ) (excused : Excuse) (meanwhile : Meanwhile) (P : Entry → Type 0) (passed : (h : List Entry) (e : Entry) (s : Attending) → P e → IsUnused own e → meanwhile (standing r.table h s) (standing r.table (h ++ e ∷ []) s)) (excuse : (e : Entry) (q : Cause) → P e → e.outcome ≡ Failed q → IsFault q → excused q)
    (doubts : (h : List Entry) (c : Change) → AllByRecursion P h → IsInDoubt (table_after r.table h) h c → excused DiskFault) where
  pub record IsServing (h es : List Entry) (s : Attending) (k : Ask) (reply : Reply) : Type 0 where
    pub before : At
    pub prepares : PreparesFor excused meanwhile k (standing r.table h s) before
    pub did : Option Change
    pub replies : Replies r.limit excused before k reply did
    pub after : standing r.table (h ++ es) (attending_after s (length (changes_of h)) k) ≡ after_ask before k did

  -- the change that a restart takes up
  takes_up : (h : List Entry) (e : Entry) (o : Option Change) → AllByRecursion P h → Fits r h e → e.outcome ≡ Restarted o → TakesUp excused (table_after r.table h) o
  takes_up h e None all fits is = tt
  takes_up h e (Some c) all fits is = (
    (subst (λ (x : Outcome). StepsTo (table_after r.table h) e.op x (table_after r.table (h ++ e ∷ []))) is fits.step).1,
    doubts h c all (subst (λ (x : Outcome). KeepsDoubt (table_after r.table h) h x) is fits.doubt),
  )

  module _ (s : Attending) where
    taken_up : (h : List Entry) (e : Entry) (o : Option Change) (z : At) → AllByRecursion P h → Fits r h e → e.outcome ≡ Restarted o → Prepares excused meanwhile (standing r.table (h ++ e ∷ []) s) z → Prepares excused meanwhile (standing r.table h s) z
    taken_up h e None z all fits is more = subst (λ (a : At). Prepares excused meanwhile a z) (stood_still r.table h e s (ap made is)) more
    taken_up h e (Some c) z all fits is more =
        let there : standing r.table (h ++ e ∷ []) s ≡ with_one (standing r.table h s) c = stood_on r.table h e s ∙ ap (λ (o : Option Change). record { table = with_change (table_after r.table h) o; changes = changes_of h ++ option_to_list o; attending = s }) (ap made is) in
        took_up (standing r.table h s) z c (takes_up h e (Some c) all fits is) (subst (λ (a : At). Prepares excused meanwhile a z) there more)

    prepared : (h front : List Entry) → Mends own h front → IsLegal r (h ++ front) → AllByRecursion P (h ++ front) → Prepares excused meanwhile (standing r.table h s) (standing r.table (h ++ front) s)
    prepared h [] mends legal all = subst (λ (l : List Entry). Prepares excused meanwhile (standing r.table h s) (standing r.table l s)) (sym (append-nil h)) (ready (standing r.table h s))
    prepared h (e ∷ es) mends legal all =
        let joined_is = append_assoc h (e ∷ []) es in
        let legal_now : IsLegal r ((h ++ e ∷ []) ++ es) = subst (λ (l : List Entry). IsLegal r l) (sym joined_is) legal in
        let all_now : AllByRecursion P ((h ++ e ∷ []) ++ es) = subst (λ (l : List Entry). AllByRecursion P l) (sym joined_is) all in
        let fits = fits_last r h e (legal_so_far r (h ++ e ∷ []) es legal_now) in
        let here = each_front P (h ++ e ∷ []) es all_now in
        let end = standing r.table (h ++ e ∷ es) s in
        let more : Prepares excused meanwhile (standing r.table (h ++ e ∷ []) s) end = subst (λ (l : List Entry). Prepares excused meanwhile (standing r.table (h ++ e ∷ []) s) (standing r.table l s)) joined_is (prepared (h ++ e ∷ []) es mends.1 legal_now all_now) in
        elim mends.0 [
          | inl unused ↦ waited (standing r.table h s) (standing r.table (h ++ e ∷ []) s) end (passed h e s (each_last P h e here) unused) more
          | inr mend ↦ taken_up h e mend.made.0 end (each_front P h (e ∷ []) here) fits mend.made.1 more
        ]

  module _ (h : List Entry) where
    abbrev t : Board
    t = table_after r.table h

    module _ (op : Op) (reply : Reply) where
      by_verdict : (v : Option (Result Change Cause)) (did : Option Change) → verdict t op ≡ v → Decides r.limit (changes_of h) v reply did → Judges r.limit excused (changes_of h) (verdict t op) reply did
      by_verdict v did is d = inl (subst (λ (x : Option (Result Change Cause)). Decides r.limit (changes_of h) x reply did) (sym is) d)

      limited : (q : Cause) → reply ≡ denied q → IsLimit q → ((c : Change) × Grants t op c) → Fits r h (entry own op (Failed q)) → Judges r.limit excused (changes_of h) (verdict t op) reply None
      limited q is limit g fits =
          let met = fits.limit g.0 g.1 in
          by_verdict (Some (Ok g.0)) None g.1.says (Some q, subst (λ (y : Option Cause). r.limit (changes_of h) g.0 y) (elim met.2 [ inl f ↦ absurd (apart q limit f) | inr m ↦ m ]) met.1, (is, refl))

      judged : (o : Outcome) → ChangeReply o reply → P (entry own op o) → Fits r h (entry own op o) → Judges r.limit excused (changes_of h) (verdict t op) reply (made o)
      judged (Done c) is p fits =
          let met = fits.limit c fits.step.0 in
          by_verdict (Some (Ok c)) (Some c) fits.step.0.says (None, subst (λ (x : Option Cause). r.limit (changes_of h) c x) met.2 met.1, (is, refl))
      judged (Denied q) is p fits = by_verdict (Some (Err q)) None fits.step.0.says (is, refl)
      judged (Failed q) is p fits = elim fits.step.0 [ inl x ↦ limited q is x.0 x.1 fits | inr x ↦ inr (q, excuse (entry own op (Failed q)) q p refl x.0, is, refl) ]
      judged Answered is p fits = absurd is
      judged (Restarted c) is p fits = absurd is
      judged Cut is p fits = absurd is
      judged Taken is p fits = absurd is

    restarts : (o : Outcome) (s : Attending) (reply : Reply) → RestartReply o reply → AllByRecursion P h → P (entry own Restart o) → Fits r h (entry own Restart o) → Replies r.limit excused (standing r.table h s) Restarts reply (made o)
    restarts (Done c) s reply is all p fits = absurd is
    restarts (Denied q) s reply is all p fits = absurd is
    restarts (Failed q) s reply is all p fits = elim fits.step.0 [
      | inl x ↦ absurd (let g = x.1.1.says in cc)
      | inr x ↦ inr (q, excuse (entry own Restart (Failed q)) q p refl x.0, is, refl)
    ]
    restarts Answered s reply is all p fits = absurd is
    restarts (Restarted c) s reply is all p fits = inl (is, takes_up h (entry own Restart (Restarted c)) c all fits refl)
    restarts Cut s reply is all p fits = absurd is
    restarts Taken s reply is all p fits = absurd is

    no_entries : (es : List Entry) (s : Attending) (k : Ask) (reply : Reply) → es ≡ [] → PreparesFor excused meanwhile k (standing r.table h s) (standing r.table h s) → Replies r.limit excused (standing r.table h s) k reply None → IsServing h es s k reply
    no_entries es s k reply none prepares replies = record {
      before = standing r.table h s;
      prepares = prepares;
      did = None;
      replies = replies;
      after = ap (λ (x : List Entry). standing r.table (h ++ x) (attending_after s (length (changes_of h)) k)) none ∙ stood_there r.table h (attending_after s (length (changes_of h)) k);
    }

    one_entry : (es : List Entry) (s : Attending) (k : Ask) (reply : Reply) (op : Op) (o : Outcome) → es ≡ entry own op o ∷ [] → PreparesFor excused meanwhile k (standing r.table h s) (standing r.table h s) → Replies r.limit excused (standing r.table h s) k reply (made o) → IsServing h es s k reply
    one_entry es s k reply op o one prepares replies = record {
      before = standing r.table h s;
      prepares = prepares;
      did = made o;
      replies = replies;
      after = ap (λ (x : List Entry). standing r.table (h ++ x) (attending_after s (length (changes_of h)) k)) one ∙ stood_on r.table h (entry own op o) (attending_after s (length (changes_of h)) k);
    }

  served : (h es : List Entry) (s : Attending) (k : Ask) (reply : Reply) → Serves own r.table h k es reply → IsLegal r (h ++ es) → AllByRecursion P (h ++ es) → IsServing h es s k reply
  served h es s (Refused q) reply x legal all = no_entries h es s (Refused q) reply x.0 refl (x.1, refl)
  served h es s (LogsIn u) reply x legal all = no_entries h es s (LogsIn u) reply x.0 refl (x.1, refl)
  served h es s LogsOut reply x legal all = no_entries h es s LogsOut reply x.0 refl (x.1, refl)
  served h es s Completes reply x legal all = no_entries h es s Completes reply x.0 refl (x.1, refl)
  served h es s Allows reply x legal all = one_entry h es s Allows reply (Look (length (changes_of h))) Answered x.0 refl (x.1, refl)
  served h es s Inhibits reply x legal all = no_entries h es s Inhibits reply x.0 refl (x.1, refl)
  served h es s (Lists which) reply x legal all = one_entry h es s (Lists which) reply (Rows which) Answered x.0 refl (x.1, refl)
  served h es s (Shows what) reply x legal all = one_entry h es s (Shows what) reply (Look (length (changes_of h))) Answered x.0 refl (x.1, refl)
  served h es s Restarts reply x legal all =
      let e = entry own Restart x.0 in
      let all_now = subst (λ (y : List Entry). AllByRecursion P (h ++ y)) x.1 all in
      one_entry h es s Restarts reply Restart x.0 x.1 refl (restarts h x.0 s reply x.2 (each_front P h (e ∷ []) all_now) (each_last P h e all_now) (fits_last r h e (subst (λ (y : List Entry). IsLegal r (h ++ y)) x.1 legal)))
  served h es s (Changes op) reply x legal all =
      let e = entry own op x.outcome in
      let g = h ++ x.front in
      let z = attending_after s (length (changes_of h)) (Changes op) in
      let whole : h ++ es ≡ g ++ e ∷ [] = ap (λ (y : List Entry). h ++ y) x.all ∙ sym (append_assoc h x.front (e ∷ [])) in
      let legal_now : IsLegal r (g ++ e ∷ []) = subst (λ (y : List Entry). IsLegal r y) whole legal in
      let all_now : AllByRecursion P (g ++ e ∷ []) = subst (λ (y : List Entry). AllByRecursion P y) whole all in
      record {
        before = standing r.table g s;
        prepares = prepared s h x.front x.mends (legal_so_far r g (e ∷ []) legal_now) (each_front P g (e ∷ []) all_now);
        did = made x.outcome;
        replies = judged g op reply x.outcome x.reply (each_last P g e all_now) (fits_last r g e legal_now);
        after = ap (λ (y : List Entry). standing r.table y z) whole ∙ stood_on r.table g e z;
      }

-- happenings in order
module _ {U M : Type 0} (l : Language U M) (limit : Limit) (excused : Excuse) (meanwhile : Meanwhile) (onward : (a b c : At) → meanwhile a b → meanwhile b c → meanwhile a c) where
  attends_later : (a b c : At) (h : Happening U) (x : Said M) → meanwhile a b → Attends l limit excused meanwhile b h x c → Attends l limit excused meanwhile a h x c
  attends_later a b c h x wait s = record { before = s.before; waited = onward a b s.before wait s.waited; response = s.response; reports = s.reports; between = s.between; answers = s.answers; reported = s.reported; says = s.says }

  plays_wait : (a b c : At) (hs : List (Happening U)) (x : Said M) → Plays l limit excused meanwhile a hs x b → meanwhile b c → Plays l limit excused meanwhile a hs x c
  plays_wait a b c [] x p wait = (p.0, onward a b c p.1 wait)
  plays_wait a b c (h ∷ hs) x (first, rest, next, here, more, says) wait = (first, rest, next, here, plays_wait next b c hs rest more wait, says)

  plays_more : (stays : (a : At) → meanwhile a a) (a b c : At) (hs : List (Happening U)) (h : Happening U) (x y : Said M) → Plays l limit excused meanwhile a hs x b → Attends l limit excused meanwhile b h y c → Plays l limit excused meanwhile a (hs ++ h ∷ []) (joined x y) c
  plays_more stays a b c [] h x y p s = (y, silence, c, attends_later a b c h y p.1 s, (refl, stays c), ap (λ (z : Said M). joined z y) p.0 ∙ sym (joined_nothing y))
  plays_more stays a b c (g ∷ hs) h x y (first, rest, next, here, more, says) s = (first, joined rest y, next, here, plays_more stays next b c hs h rest y more s, ap (λ (z : Said M). joined z y) says ∙ joined_assoc first rest y)

  -- where no report is due after it, it got all
  ends_now : (stays : (a : At) → meanwhile a a) (a b : At) (h : Happening U) (x : Said M) (w : Option ℕ) → b.attending.watch ≡ w → Answers l limit excused meanwhile a h x b → Ends l limit excused meanwhile (is_some w) a h x b
  ends_now stays a b h x None is s = record { before = a; waited = stays a; response = x; reports = silence; between = b; answers = s; reported = subst (λ (w : Option ℕ). Reports l limit excused meanwhile b w silence b) (sym is) (refl, refl); says = sym (joined_nothing x) }
  ends_now stays a b h x (Some n) is s = s

-- A session as it stands: nothing happened yet, or its happenings before the last were served, and the last so far
pub record Nothing {U M : Type 0} (meanwhile : Meanwhile) (a b : At) (w : Walk U M) : Type 0 where
  pub happenings : w.happenings ≡ []
  pub moments : w.moments ≡ []
  pub earlier : w.earlier ≡ []
  pub latest : w.latest ≡ []
  pub looked : w.due ≡ false
  pub waited : meanwhile a b

pub record Something {U M : Type 0} (l : Language U M) (limit : Limit) (excused : Excuse) (meanwhile : Meanwhile) (a b : At) (w : Walk U M) : Type 0 where
  pub front : List (Happening U)
  pub last : Happening U
  pub earlier : Said M
  pub latest : Said M
  pub happenings : w.happenings ≡ front ++ last ∷ []
  pub moments : w.moments ≡ earlier.moments ++ latest.moments
  pub earlier_is : w.earlier ≡ earlier.bytes
  pub latest_is : w.latest ≡ latest.bytes
  pub plays : PlaysTo l limit excused meanwhile w.due a front last earlier latest b

module _ {U M : Type 0} (l : Language U M) (r : Rules) (own : ℕ) (excused : Excuse) (meanwhile : Meanwhile) (P : Entry → Type 0) (stays : (a : At) → meanwhile a a) (onward : (a b c : At) → meanwhile a b → meanwhile b c → meanwhile a c) (keeps : (a b : At) → meanwhile a b → b.attending ≡ a.attending)
    (passed : (h : List Entry) (e : Entry) (s : Attending) → P e → IsUnused own e → meanwhile (standing r.table h s) (standing r.table (h ++ e ∷ []) s)) (excuse : (e : Entry) (q : Cause) → P e → e.outcome ≡ Failed q → IsFault q → excused q)
    (doubts : (h : List Entry) (c : Change) → AllByRecursion P h → IsInDoubt (table_after r.table h) h c → excused DiskFault) (past : List Entry) where
  abbrev pub start : At
  start = standing r.table past (begun_by l.first)

  abbrev pub here : Walk U M → At
  here w = standing r.table w.history w.attending

  abbrev pub so_far : Walk U M → Said M
  so_far w = record { moments = w.moments; bytes = w.earlier ++ w.latest }

  abbrev pub Played : Walk U M → Type 0
  Played w = Nothing meanwhile start (here w) w ⊎ Something l r.limit excused meanwhile start (here w) w

  -- all that happened, where no report is due
  pub all_played : (w : Walk U M) → Played w → w.due ≡ false → Plays l r.limit excused meanwhile start w.happenings (so_far w) (here w)
  all_played w (inl x) none =
      subst (λ (hs : List (Happening U)). Plays l r.limit excused meanwhile start hs (so_far w) (here w)) (sym x.happenings) ((λ i. record { moments = x.moments i; bytes = x.earlier i ++ x.latest i }), x.waited)
  all_played w (inr x) none =
      let p = x.plays in
      let s : Attends l r.limit excused meanwhile p.before x.last x.latest p.after = subst (λ (d : Bool). Ends l r.limit excused meanwhile d p.before x.last x.latest p.after) none p.ends in
      let all = plays_wait l r.limit excused meanwhile onward start p.after (here w) (x.front ++ x.last ∷ []) (joined x.earlier x.latest) (plays_more l r.limit excused meanwhile onward stays start p.before p.after x.front x.last x.earlier x.latest p.plays s) p.waited in
      let says : joined x.earlier x.latest ≡ so_far w = sym (λ i. record { moments = x.moments i; bytes = x.earlier_is i ++ x.latest_is i }) in
      subst (λ (hs : List (Happening U)). Plays l r.limit excused meanwhile start hs (so_far w) (here w)) (sym x.happenings) (subst (λ (said : Said M). Plays l r.limit excused meanwhile start (x.front ++ x.last ∷ []) said (here w)) says all)

  pub played : (w : Walk U M) → Run l own r.table past w → IsLegal r w.history → AllByRecursion P w.history → Played w
  played _ begins legal all = inl (record { happenings = refl; moments = refl; earlier = refl; latest = refl; looked = refl; waited = stays start })
  played _ (passes w e unused run) legal all =
      let on = passed w.history e w.attending (each_last P w.history e all) unused in
      elim (played w run (legal_so_far r w.history (e ∷ []) legal) (each_front P w.history (e ∷ []) all)) [
        | inl x ↦ inl (record { happenings = x.happenings; moments = x.moments; earlier = x.earlier; latest = x.latest; looked = x.looked; waited = onward start (here w) (here (with_entry e w)) x.waited on })
        | inr x ↦ inr (record {
          front = x.front;
          last = x.last;
          earlier = x.earlier;
          latest = x.latest;
          happenings = x.happenings;
          moments = x.moments;
          earlier_is = x.earlier_is;
          latest_is = x.latest_is;
          plays = record { before = x.plays.before; plays = x.plays.plays; after = x.plays.after; ends = x.plays.ends; waited = onward x.plays.after (here w) (here (with_entry e w)) x.plays.waited on };
        })
      ]
  played _ (responds w u m es reply none serves run) legal all =
      let k = l.asks w.attending.user u in
      let z = attending_after w.attending (length (changes_of w.history)) k in
      let before = all_played w (played w run (legal_so_far r w.history es legal) (each_front P w.history es all)) none in
      let s = served r own excused meanwhile P passed excuse doubts w.history es w.attending k reply serves legal all in
      let said : Said M = record { moments = m ∷ []; bytes = l.response m u reply } in
      inr (record {
        front = w.happenings;
        last = unit u;
        earlier = so_far w;
        latest = said;
        happenings = refl;
        moments = refl;
        earlier_is = refl;
        latest_is = refl;
        plays = record {
          before = here w;
          plays = before;
          after = standing r.table (w.history ++ es) z;
          ends = ends_now l r.limit excused meanwhile onward stays (here w) (standing r.table (w.history ++ es) z) (unit u) said z.watch refl (record { before = s.before; prepares = s.prepares; reply = reply; did = s.did; replies = s.replies; moment = m; says = refl; after = s.after });
          waited = stays (standing r.table (w.history ++ es) z);
        };
      })
  played _ (waits w none run) legal all =
      let before = all_played w (played w run legal all) none in
      inr (record {
        front = w.happenings;
        last = quiet;
        earlier = so_far w;
        latest = silence;
        happenings = refl;
        moments = sym (append-nil w.moments);
        earlier_is = refl;
        latest_is = refl;
        plays = record { before = here w; plays = before; after = here w; ends = ends_now l r.limit excused meanwhile onward stays (here w) (here w) quiet silence w.attending.watch refl (refl, refl); waited = stays (here w) };
      })
  played _ (looks w cursor ms bytes due watch reported run) legal all =
      let e = entry own (Look cursor) Answered in
      let z : Attending = record { user = w.attending.user; watch = Some (length (changes_of w.history)) } in
      let then = standing r.table (w.history ++ e ∷ []) z in
      elim (played w run (legal_so_far r w.history (e ∷ []) legal) (each_front P w.history (e ∷ []) all)) [
        | inl x ↦ absurd (let no = sym x.looked ∙ due in cc)
        | inr x ↦ (
            let p = x.plays in
            let answers : Answers l r.limit excused meanwhile p.before x.last x.latest p.after = subst (λ (d : Bool). Ends l r.limit excused meanwhile d p.before x.last x.latest p.after) due p.ends in
            let said : Said M = record { moments = ms; bytes = bytes } in
            let watched : p.after.attending.watch ≡ Some cursor = ap (λ (s : Attending). s.watch) (sym (keeps p.after (here w) p.waited)) ∙ watch in
            let report : IsReport l r.limit excused meanwhile p.after cursor said then = record { before = here w; waited = p.waited; reported = reported; after = stood_still r.table w.history e z refl } in
            inr (record {
              front = x.front;
              last = x.last;
              earlier = x.earlier;
              latest = joined x.latest said;
              happenings = x.happenings;
              moments = ap (λ (l2 : List M). l2 ++ ms) x.moments ∙ append_assoc x.earlier.moments x.latest.moments ms;
              earlier_is = x.earlier_is;
              latest_is = ap (λ (l2 : List ℕ). l2 ++ bytes) x.latest_is;
              plays = record {
                before = p.before;
                plays = p.plays;
                after = then;
                ends = record {
                  before = p.before;
                  waited = stays p.before;
                  response = x.latest;
                  reports = said;
                  between = p.after;
                  answers = answers;
                  reported = subst (λ (v : Option ℕ). Reports l r.limit excused meanwhile p.after v said then) (sym watched) report;
                  says = refl;
                };
                waited = stays then;
              };
            })
            )
      ]
