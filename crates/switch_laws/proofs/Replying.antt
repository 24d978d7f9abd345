-- What an ask takes of a legal history, and what the plain element replies to it there.
use Rattle.std.specs.List.{AllByRecursion}
use Rattle.std.proofs.Common.{◌≡◌, ◌⊎◌, ℕ, length, List, [], ◌∷◌, ◌++◌, Option, Some, None, Result, Ok, Err, refl, sym, ap, subst, append-nil, inl, inr}
use Rattle.dxc_model.specs.declared.cause.Cause.{Cause}
use Rattle.dxc_model.specs.declared.cause.Cause.TheVariants.{DiskFault}
use Rattle.dxc_model.specs.declared.op.Op.{Op}
use Rattle.dxc_model.specs.declared.op.Op.TheVariants.{Look, Restart, Rows}
use Rattle.dxc_model.specs.declared.op.Change.{Change}
use Rattle.dxc_model.specs.declared.entry.Outcome.{Outcome}
use Rattle.dxc_model.specs.declared.entry.Outcome.TheVariants.{Done, Denied, Failed, Answered, Restarted, Cut, Taken}
use Rattle.dxc_model.specs.declared.entry.Entry.{Entry}
use Rattle.dxc_model.specs.Tables.{Board}
use Rattle.dxc_model.specs.Verdicts.{Grants, verdict}
use Rattle.dxc_model.specs.Steps.{IsLimit, StepsTo, made}
use Rattle.dxc_model.specs.Histories.{Fits, IsInDoubt, IsLegal, KeepsDoubt, Rules, changes_of, table_after}
use Rattle.dxc_model.proofs.Lists.{each_at}
use Rattle.xc_core.specs.Seeing.{entry}
use Rattle.craft_session.specs.declared.ask.Ask.{Ask}
use Rattle.craft_session.specs.declared.ask.Ask.TheVariants.{Refused, LogsIn, LogsOut, Completes, Allows, Inhibits, Lists, Shows, Restarts, Changes}
use Rattle.craft_session.specs.declared.attending.Attending.{Attending}
use Rattle.craft_session.specs.Asks.{Reply, denied}
use Rattle.craft_session.specs.Plain.{Decides, Excuse, Judges, Replies, TakesUp, standing}
use Rattle.craft_session.specs.Walks.{ChangeReply, IsChangeAt, Mends, RestartReply, Serves, attending_after}
use Rattle.craft_session.proofs.Playing.{apart, each_front, each_last, fits_last}
use Rattle.switch_laws.specs.Element.{MayReply, Recalls, RecallsFor, Standing, doubted_after, ready, standing_after}
use Rattle.switch_laws.specs.Laws.{IsExcused, doubted_by_entry, doubted_in, standing_by_entry, standing_in}
use Rattle.switch_laws.proofs.Doubting.{in_doubt}
use Rattle.switch_laws.proofs.Standings.{is_stopped}

module _ (r : Rules) (own : ℕ) (excused : Excuse) where
  abbrev Ex : Entry → Type 0
  Ex = IsExcused excused

  abbrev tab : List Entry → Board
  tab h = table_after r.table h

  -- after an entry that left a change in doubt, the disk's fault has an excuse
  doubts : (h : List Entry) (c : Change) → AllByRecursion Ex h → IsInDoubt (tab h) h c → excused DiskFault
  doubts h c all x =
      let one : Ex x.entry = each_at Ex x.before x.entry x.behind (subst (λ (l : List Entry). AllByRecursion Ex l) x.whole all) in
      elim x.has.0 [ inl cut ↦ one.cut cut | inr failed ↦ one.fault DiskFault failed (inl refl) ]

  -- what a restart takes up
  pub recalled : (h : List Entry) (e : Entry) (o : Option Change) → Fits r h e → e.outcome ≡ Restarted o → Recalls (doubted_in [] h) (tab h) o
  recalled h e None fits is = tt
  recalled h e (Some c) fits is = (
    (subst (λ (x : Outcome). StepsTo (tab h) e.op x (table_after r.table (h ++ e ∷ []))) is fits.step).1,
    in_doubt (tab h) c h (subst (λ (x : Outcome). KeepsDoubt (tab h) h x) is fits.doubt),
  )

  takes_up : (h : List Entry) (e : Entry) (o : Option Change) → AllByRecursion Ex h → Fits r h e → e.outcome ≡ Restarted o → TakesUp excused (tab h) o
  takes_up h e None all fits is = tt
  takes_up h e (Some c) all fits is = (
    (subst (λ (x : Outcome). StepsTo (tab h) e.op x (table_after r.table (h ++ e ∷ []))) is fits.step).1,
    doubts h c all (subst (λ (x : Outcome). KeepsDoubt (tab h) h x) is fits.doubt),
  )

  module _ (h : List Entry) where
    abbrev t : Board
    t = tab h

    module _ (op : Op) (reply : Reply) where
      by_verdict : (v : Option (Result Change Cause)) (did : Option Change) → verdict t op ≡ v → Decides r.limit (changes_of h) v reply did → Judges r.limit excused (changes_of h) (verdict t op) reply did
      by_verdict v did is d = inl (subst (λ (x : Option (Result Change Cause)). Decides r.limit (changes_of h) x reply did) (sym is) d)

      limited : (q : Cause) → reply ≡ denied q → IsLimit q → ((c : Change) × Grants t op c) → Fits r h (entry own op (Failed q)) → Judges r.limit excused (changes_of h) (verdict t op) reply None
      limited q is limit g fits =
          let met = fits.limit g.0 g.1 in
          by_verdict (Some (Ok g.0)) None g.1.says (Some q, subst (λ (y : Option Cause). r.limit (changes_of h) g.0 y) (elim met.2 [ inl f ↦ absurd (apart q limit f) | inr m ↦ m ]) met.1, (is, refl))

      judged : (o : Outcome) → ChangeReply o reply → Ex (entry own op o) → Fits r h (entry own op o) → Judges r.limit excused (changes_of h) (verdict t op) reply (made o)
      judged (Done c) is p fits =
          let met = fits.limit c fits.step.0 in
          by_verdict (Some (Ok c)) (Some c) fits.step.0.says (None, subst (λ (x : Option Cause). r.limit (changes_of h) c x) met.2 met.1, (is, refl))
      judged (Denied q) is p fits = by_verdict (Some (Err q)) None fits.step.0.says (is, refl)
      judged (Failed q) is p fits = elim fits.step.0 [ inl x ↦ limited q is x.0 x.1 fits | inr x ↦ inr (q, p.fault q refl x.0, is, refl) ]
      judged Answered is p fits = absurd is
      judged (Restarted c) is p fits = absurd is
      judged Cut is p fits = absurd is
      judged Taken is p fits = absurd is

    restarts : (o : Outcome) (s : Attending) (reply : Reply) → RestartReply o reply → AllByRecursion Ex h → Ex (entry own Restart o) → Fits r h (entry own Restart o) → Replies r.limit excused (standing r.table h s) Restarts reply (made o)
    restarts (Done c) s reply is all p fits = absurd is
    restarts (Denied q) s reply is all p fits = absurd is
    restarts (Failed q) s reply is all p fits = elim fits.step.0 [
      | inl x ↦ absurd (let g = x.1.1.says in cc)
      | inr x ↦ inr (q, p.fault q refl x.0, is, refl)
    ]
    restarts Answered s reply is all p fits = absurd is
    restarts (Restarted c) s reply is all p fits = inl (is, takes_up h (entry own Restart (Restarted c)) c all fits refl)
    restarts Cut s reply is all p fits = absurd is
    restarts Taken s reply is all p fits = absurd is

    recalls : (o : Outcome) (reply : Reply) → RestartReply o reply → Fits r h (entry own Restart o) → Recalls (doubted_in [] h) t (made o)
    recalls (Done c) reply is fits = absurd is
    recalls (Denied q) reply is fits = tt
    recalls (Failed q) reply is fits = tt
    recalls Answered reply is fits = tt
    recalls (Restarted c) reply is fits = recalled h (entry own Restart (Restarted c)) c fits refl
    recalls Cut reply is fits = tt
    recalls Taken reply is fits = tt

  -- What is in doubt then.
  doubted_restart : (o : Outcome) (reply : Reply) (ops : List Op) → RestartReply o reply → doubted_after ops Restarts reply ≡ doubted_by_entry ops Restart o
  doubted_restart (Done c) reply ops is = absurd is
  doubted_restart (Denied q) reply ops is = absurd is
  doubted_restart (Failed q) reply ops is = ap (doubted_after ops Restarts) is
  doubted_restart Answered reply ops is = absurd is
  doubted_restart (Restarted c) reply ops is = ap (doubted_after ops Restarts) is
  doubted_restart Cut reply ops is = absurd is
  doubted_restart Taken reply ops is = absurd is

  doubted_change : (op : Op) (o : Outcome) (reply : Reply) (ops : List Op) → ChangeReply o reply → doubted_after ops (Changes op) reply ≡ doubted_by_entry ops op o
  doubted_change op (Done c) reply ops is = ap (doubted_after ops (Changes op)) is
  doubted_change op (Denied q) reply ops is = ap (doubted_after ops (Changes op)) is
  doubted_change op (Failed q) reply ops is = ap (doubted_after ops (Changes op)) is
  doubted_change op Answered reply ops is = absurd is
  doubted_change op (Restarted c) reply ops is = absurd is
  doubted_change op Cut reply ops is = absurd is
  doubted_change op Taken reply ops is = absurd is

  -- What a stop has left then.
  standing_restart : (o : Outcome) (reply : Reply) (s : Standing) → RestartReply o reply → standing_after s Restarts reply ≡ standing_by_entry s Restart o
  standing_restart (Done c) reply s is = absurd is
  standing_restart (Denied q) reply s is = absurd is
  standing_restart (Failed q) reply s is = ap (standing_after s Restarts) is
  standing_restart Answered reply s is = absurd is
  standing_restart (Restarted c) reply s is = ap (standing_after s Restarts) is
  standing_restart Cut reply s is = absurd is
  standing_restart Taken reply s is = absurd is

  standing_change : (op : Op) (o : Outcome) (reply : Reply) (s : Standing) → ChangeReply o reply → standing_after s (Changes op) reply ≡ standing_by_entry s op o
  standing_change op (Done c) reply s is = ap (standing_after s (Changes op)) is
  standing_change op (Denied q) reply s is = ap (standing_after s (Changes op)) is
  standing_change op (Failed q) reply s is = ap (standing_after s (Changes op)) is
  standing_change op Answered reply s is = absurd is
  standing_change op (Restarted c) reply s is = absurd is
  standing_change op Cut reply s is = absurd is
  standing_change op Taken reply s is = absurd is

  -- A change that was asked while a stop stands failed.
  fails : (h : List Entry) (op : Op) (o : Outcome) (reply : Reply) → IsChangeAt h o → ChangeReply o reply → MayReply (standing_in ready h) (Changes op) reply
  fails h op o reply at is = λ on. (let f = at.stopped (is_stopped h on) in (f.0, f.1, subst (λ (x : Outcome). ChangeReply x reply) f.2 is))

  -- What is asked takes no entry
  pub record Free (h es : List Entry) (s : Attending) (k : Ask) (reply : Reply) : Type 0 where
    pub no_entry : es ≡ []
    pub replies : Replies r.limit excused (standing r.table h s) k reply None
    pub recalls_none : RecallsFor k (doubted_in [] h) (tab h) None
    pub doubted : doubted_after (doubted_in [] h) k reply ≡ doubted_in [] h
    pub stands : standing_after (standing_in ready h) k reply ≡ standing_in ready h
    pub may : MayReply (standing_in ready h) k reply

  -- or one of its own, after those that need no reply
  pub record Takes (h es : List Entry) (s : Attending) (k : Ask) (reply : Reply) : Type 0 where
    pub front : List Entry
    pub last : Entry
    pub whole : es ≡ front ++ last ∷ []
    pub stands : Mends own h front
    pub mine : last.place ≡ own
    pub does : last.outcome ≡ Taken → ⊥
    pub replies : IsLegal r ((h ++ front) ++ last ∷ []) → AllByRecursion Ex ((h ++ front) ++ last ∷ []) → Replies r.limit excused (standing r.table (h ++ front) s) k reply (made last.outcome)
    pub recalls_it : IsLegal r ((h ++ front) ++ last ∷ []) → RecallsFor k (doubted_in [] (h ++ front)) (tab (h ++ front)) (made last.outcome)
    pub doubted : (ops : List Op) → doubted_after ops k reply ≡ doubted_by_entry ops last.op last.outcome
    pub leaves : (x : Standing) → standing_after x k reply ≡ standing_by_entry x last.op last.outcome
    pub may : MayReply (standing_in ready (h ++ front)) k reply
    pub attends : attending_after s (length (changes_of (h ++ front))) k ≡ attending_after s (length (changes_of h)) k

  no_taken_restart : (o : Outcome) (reply : Reply) → RestartReply o reply → o ≡ Taken → ⊥
  no_taken_restart o reply x is = subst (λ (y : Outcome). RestartReply y reply) is x

  no_taken_change : (o : Outcome) (reply : Reply) → ChangeReply o reply → o ≡ Taken → ⊥
  no_taken_change o reply x is = subst (λ (y : Outcome). ChangeReply y reply) is x

  -- one entry alone, of what is told at the history itself
  alone_of : (h es : List Entry) (s : Attending) (k : Ask) (reply : Reply) (op : Op) (o : Outcome) → es ≡ entry own op o ∷ [] → (o ≡ Taken → ⊥)
      → (IsLegal r (h ++ entry own op o ∷ []) → AllByRecursion Ex (h ++ entry own op o ∷ []) → Replies r.limit excused (standing r.table h s) k reply (made o))
      → (IsLegal r (h ++ entry own op o ∷ []) → RecallsFor k (doubted_in [] h) (tab h) (made o))
      → ((ops : List Op) → doubted_after ops k reply ≡ doubted_by_entry ops op o)
      → ((x : Standing) → standing_after x k reply ≡ standing_by_entry x op o) → MayReply (standing_in ready h) k reply → Takes h es s k reply
  alone_of h es s k reply op o is does replies recalls doubted leaves may =
      let there : h ≡ h ++ [] = sym (append-nil h) in
      record {
        front = [];
        last = entry own op o;
        whole = is;
        stands = tt;
        mine = refl;
        does = does;
        replies = subst (λ (g : List Entry). IsLegal r (g ++ entry own op o ∷ []) → AllByRecursion Ex (g ++ entry own op o ∷ []) → Replies r.limit excused (standing r.table g s) k reply (made o)) there replies;
        recalls_it = subst (λ (g : List Entry). IsLegal r (g ++ entry own op o ∷ []) → RecallsFor k (doubted_in [] g) (tab g) (made o)) there recalls;
        doubted = doubted;
        leaves = leaves;
        may = subst (λ (g : List Entry). MayReply (standing_in ready g) k reply) there may;
        attends = ap (λ (g : List Entry). attending_after s (length (changes_of g)) k) (append-nil h);
      }

  pub uses : (h es : List Entry) (s : Attending) (k : Ask) (reply : Reply) → Serves own r.table h k es reply → Free h es s k reply ⊎ Takes h es s k reply
  uses h es s (Refused q) reply x = inl (record { no_entry = x.0; replies = (x.1, refl); recalls_none = tt; doubted = refl; stands = refl; may = tt })
  uses h es s (LogsIn u) reply x = inl (record { no_entry = x.0; replies = (x.1, refl); recalls_none = tt; doubted = refl; stands = refl; may = tt })
  uses h es s LogsOut reply x = inl (record { no_entry = x.0; replies = (x.1, refl); recalls_none = tt; doubted = refl; stands = refl; may = tt })
  uses h es s Completes reply x = inl (record { no_entry = x.0; replies = (x.1, refl); recalls_none = tt; doubted = refl; stands = refl; may = tt })
  uses h es s Allows reply x = inr (alone_of h es s Allows reply (Look (length (changes_of h))) Answered x.0 (λ is. let e : Answered ≡ Taken = is in cc) (λ _ _. (x.1, refl)) (λ _. tt) (λ ops. refl) (λ st. refl) tt)
  uses h es s Inhibits reply x = inl (record { no_entry = x.0; replies = (x.1, refl); recalls_none = tt; doubted = refl; stands = refl; may = tt })
  uses h es s (Lists which) reply x = inr (alone_of h es s (Lists which) reply (Rows which) Answered x.0 (λ is. let e : Answered ≡ Taken = is in cc) (λ _ _. (x.1, refl)) (λ _. tt) (λ ops. refl) (λ st. refl) tt)
  uses h es s (Shows what) reply x = inr (alone_of h es s (Shows what) reply (Look (length (changes_of h))) Answered x.0 (λ is. let e : Answered ≡ Taken = is in cc) (λ _ _. (x.1, refl)) (λ _. tt) (λ ops. refl) (λ st. refl) tt)
  uses h es s Restarts reply x = inr (alone_of h es s Restarts reply Restart x.0 x.1 (no_taken_restart x.0 reply x.2)
      (λ legal all. restarts h x.0 s reply x.2 (each_front Ex h (entry own Restart x.0 ∷ []) all) (each_last Ex h (entry own Restart x.0) all) (fits_last r h (entry own Restart x.0) legal))
      (λ legal. recalls h x.0 reply x.2 (fits_last r h (entry own Restart x.0) legal)) (λ ops. doubted_restart x.0 reply ops x.2) (λ st. standing_restart x.0 reply st x.2) tt)
  uses h es s (Changes op) reply x = inr (record {
    front = x.front;
    last = entry own op x.outcome;
    whole = x.all;
    stands = x.mends;
    mine = refl;
    does = no_taken_change x.outcome reply x.reply;
    replies = λ legal all. judged (h ++ x.front) op reply x.outcome x.reply (each_last Ex (h ++ x.front) (entry own op x.outcome) all) (fits_last r (h ++ x.front) (entry own op x.outcome) legal);
    recalls_it = λ legal. tt;
    doubted = λ ops. doubted_change op x.outcome reply ops x.reply;
    leaves = λ st. standing_change op x.outcome reply st x.reply;
    may = fails (h ++ x.front) op x.outcome reply x.fits x.reply;
    attends = refl;
  })
