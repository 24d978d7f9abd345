-- What a session did goes on with what its place did along both histories.
use Rattle.std.specs.Prelude.{is_some}
use Rattle.std.proofs.Common.{◌≡◌, ◌≢◌, ◌⊎◌, ℕ, Bool, true, false, cond, length, List, [], ◌∷◌, ◌++◌, map, filter, Some, refl, sym, ◌∙◌, ap, ap₂, subst, append_assoc, append-nil, inl, inr}
use Rattle.turnstile.specs.Dating.{Stamp}
use Rattle.turnstile.specs.Orders.{turns_of_one, turns_of_other}
use Rattle.turnstile.specs.Turning.{Each}
use Rattle.dxc_model.specs.declared.entry.Entry.{Entry}
use Rattle.dxc_model.specs.declared.entry.Outcome.TheVariants.{Answered, Cut, Taken}
use Rattle.dxc_model.specs.declared.op.Op.{Op}
use Rattle.dxc_model.specs.declared.op.Op.TheVariants.{Look}
use Rattle.dxc_model.specs.Tables.{Board}
use Rattle.dxc_model.specs.Histories.{changes_of}
use Rattle.user_admin.specs.declared.op.UserEntry.{UserEntry}
use Rattle.user_admin.specs.declared.op.UserMark.{UserMark}
use Rattle.tl1_users.specs.declared.op.UserOp.{UserOp}
use Rattle.user_admin.specs.Histories.{Opening as UsersOpening}
use Rattle.user_admin.specs.Marks.{entries_of}
use Rattle.user_admin.specs.Verdicts.{IsChanging}
use Rattle.user_admin.proofs.Marking.{entries_append}
use Rattle.xc_core.specs.Seeing.{entry}
use Rattle.craft_session.specs.declared.ask.Ask.{Ask}
use Rattle.craft_session.specs.declared.ask.Ask.TheVariants.{Refused, LogsIn, LogsOut, Completes, Allows, Inhibits, Lists, Shows, Restarts, Changes}
use Rattle.craft_session.specs.Asks.{Language, Reply}
use Rattle.craft_session.specs.Doing.{AnyEntry, AreDated, CutsOn, Does, Doing, HearsOn, begins_doing, cut_on, does_look, does_nothing, does_unit, done_on, heard_on, is_used, of_users, table_on, table_passes, used_of, users_pass, using}
use Rattle.craft_session.specs.Hearing.{Heard, Hears, Wanted, nothing, to_do, unasked}
use Rattle.craft_session.specs.Happenings.{quiet}
use Rattle.craft_session.specs.Runs.{Walk, with_entries, with_look, with_quiet}
use Rattle.craft_session.specs.Walks.{CutsAt, IsUnused, Serves, attending_after}
use Rattle.switch_laws.specs.Element.{Session, answered, reported, rested, unanswered}
use Rattle.switch_laws.specs.Laws.{session_in}
use Rattle.switch_laws.specs.Orders.{ActsAlong, AnyMark, GoneAlong, TookAlong, acts_at_table, acts_at_users, after, any_entries, caller_acts, is_used_mark, looks_on, nothing_came, stopped_before_users, stopped_short, table_goes_on, users_go_on}
use Rattle.switch_laws.proofs.Along.{own_used}
use Rattle.switch_laws.proofs.Marked.{any_append, heard_used, none_of_table, none_of_users, table_used, used_append, users_used}
use Rattle.switch_laws.proofs.Parting.{Parts, TakesNone}

-- what turns left at the table goes on, and what they left with the users
module _ (p : ℕ) (past : List Entry) where
  abbrev Took : List Entry → Doing → Type 0
  Took h x = TookAlong p past h x

  more_used : (used_then : List AnyEntry) (x : Doing) (took more : List AnyMark) (us : List AnyEntry) → any_entries took ≡ x.used → any_entries more ≡ us → x.used ++ us ≡ used_then → any_entries (took ++ more) ≡ used_then
  more_used used_then x took more us are more_are is = any_append took more ∙ (ap₂ (λ (a b : List AnyEntry). a ++ b) are more_are ∙ is)

  table_took : (h : List Entry) (x : Doing) (es : List Entry) (ss : List Stamp) (us used_then : List AnyEntry) → AreDated p x.users_stamps es ss → used_of p es ≡ us → x.used ++ us ≡ used_then → Took h x
      → Took (h ++ es) (record { stamps = x.stamps ++ ss; marks = x.marks; users_stamps = x.users_stamps; used = used_then })
  table_took h x es ss us used_then dated are is y = record {
    left = y.left ++ es;
    whole = ap (λ (l : List Entry). l ++ es) y.whole ∙ append_assoc past y.left es;
    took = y.took ++ filter (is_used_mark p) (map inl es);
    takes = turns_of_one x.stamps ss y.left es x.users_stamps x.marks y.took dated.as_many dated.above y.takes;
    used_are = more_used used_then x y.took (filter (is_used_mark p) (map inl es)) us y.used_are (table_used p es ∙ are) is;
  }

  users_took : (h : List Entry) (x : Doing) (ms : List UserMark) (ts : List Stamp) (us used_then : List AnyEntry) → AreDated p x.stamps ms ts → filter (is_used p) (of_users (entries_of ms)) ≡ us → x.used ++ us ≡ used_then → Took h x
      → Took h (record { stamps = x.stamps; marks = x.marks ++ ms; users_stamps = x.users_stamps ++ ts; used = used_then })
  users_took h x ms ts us used_then dated are is y = record {
    left = y.left;
    whole = y.whole;
    took = y.took ++ filter (is_used_mark p) (map inr ms);
    takes = turns_of_other x.stamps y.left x.users_stamps ts x.marks ms y.took dated.as_many dated.above y.takes;
    used_are = more_used used_then x y.took (filter (is_used_mark p) (map inr ms)) us y.used_are (users_used p ms ∙ are) is;
  }

  -- an entry of the place's own behind others, which it uses
  then_used : (es : List Entry) (e : Entry) (us : List AnyEntry) → is_used p (inl e) ≡ true → used_of p es ≡ us → used_of p (es ++ e ∷ []) ≡ us ++ inl e ∷ []
  then_used es e us is are = used_append p es (e ∷ []) ∙ ap₂ (λ (a b : List AnyEntry). a ++ b) are (ap (λ (b : Bool). let x : AnyEntry = inl e in cond b (x ∷ []) []) is)

module _ {U M : Type 0} (l : Language U M) (p : ℕ) (t : Board) (o : UsersOpening) (past : List Entry) where
  abbrev Along : List Entry → List UserEntry → List AnyEntry → List (Session U M) → Type 0
  Along h g w ss = ActsAlong l p t o past h g w ss

  pub users_on_all : (h : List Entry) (g more : List UserEntry) (w : List AnyEntry) (ss : List (Session U M)) → Each (λ e. e.place ≢ p) more → Along h g w ss → Along h (g ++ more) w ss
  users_on_all h g [] w ss others x = subst (λ (k : List UserEntry). Along h k w ss) (sym (append-nil g)) x
  users_on_all h g (e ∷ es) w ss others x = subst (λ (k : List UserEntry). Along h k w ss) (append_assoc g (e ∷ []) es) (users_on_all h (g ++ e ∷ []) es w ss others.1 (users_go_on h g w ss e others.0 x))

  pub table_on_all : (h more : List Entry) (g : List UserEntry) (w : List AnyEntry) (ss : List (Session U M)) → Each (IsUnused p) more → Along h g w ss → Along (h ++ more) g w ss
  table_on_all h [] g w ss unused x = subst (λ (k : List Entry). Along k g w ss) (sym (append-nil h)) x
  table_on_all h (e ∷ es) g w ss unused x = subst (λ (k : List Entry). Along k g w ss) (append_assoc h (e ∷ []) es) (table_on_all (h ++ e ∷ []) es g w ss unused.1 (table_goes_on h g w ss e unused.0 x))

  no_entry : (h : List Entry) (k : Ask) (es : List Entry) (reply : Reply) → TakesNone k → Serves p t h k es reply → es ≡ []
  no_entry h (Refused q) es reply none x = x.0
  no_entry h (LogsIn u) es reply none x = x.0
  no_entry h LogsOut es reply none x = x.0
  no_entry h Completes es reply none x = x.0
  no_entry h Allows es reply none x = absurd none
  no_entry h Inhibits es reply none x = x.0
  no_entry h (Lists which) es reply none x = absurd none
  no_entry h (Shows what) es reply none x = absurd none
  no_entry h Restarts es reply none x = absurd none
  no_entry h (Changes op) es reply none x = absurd none

  no_cut : (h : List Entry) (k : Ask) (op : Op) → TakesNone k → CutsAt h k op → ⊥
  no_cut h (Refused q) op none x = x
  no_cut h (LogsIn u) op none x = x
  no_cut h LogsOut op none x = x
  no_cut h Completes op none x = x
  no_cut h Allows op none x = none
  no_cut h Inhibits op none x = x
  no_cut h (Lists which) op none x = none
  no_cut h (Shows what) op none x = none
  no_cut h Restarts op none x = none
  no_cut h (Changes op) what none x = none

  nothing_got : (g es : List UserEntry) (w : Wanted) (x : Heard) → w ≡ nothing → Hears o p g w es x → (es ≡ []) × (x ≡ unasked)
  nothing_got g es w x is got = subst (λ (y : Wanted). Hears o p g y es x) is got

  -- what a unit takes of both, where the one part of it takes none
  module _ (ss : List (Session U M)) (apart : Parts l) (w : Walk U M) (none : w.due ≡ false) (used : List AnyEntry) (k : List UserEntry) (x : Along w.history k used (session_in w ∷ ss)) (u : U) (m : M) (reply : Reply) (es : List Entry) (us : List UserEntry) (serves : Serves p t w.history (l.asks w.attending.user u) es reply) (got : Hears o p k (l.wants w.attending.user u) us (l.heard u)) where
    abbrev replied : Session U M
    replied = answered u (record { moments = m ∷ []; bytes = l.response m u reply }) (attending_after w.attending (length (changes_of w.history)) (l.asks w.attending.user u)) (session_in w)

    by_parts : (l.wants w.attending.user u ≡ nothing) ⊎ TakesNone (l.asks w.attending.user u) → Along (w.history ++ es) (k ++ us) ((used ++ of_users us) ++ used_of p es) (replied ∷ ss)
    by_parts (inl is) =
        let y = nothing_got k us (l.wants w.attending.user u) (l.heard u) is got in
        let users : k ≡ k ++ us = sym (ap (λ (z : List UserEntry). k ++ z) y.0 ∙ append-nil k) in
        let more : used ≡ used ++ of_users us = sym (ap (λ (z : List UserEntry). used ++ of_users z) y.0 ∙ append-nil used) in
        subst (λ (z : List UserEntry × List AnyEntry). Along (w.history ++ es) z.0 (z.1 ++ used_of p es) (replied ∷ ss)) (λ i. (users i, more i))
        (acts_at_table w.history k used ss (session_in w) u m es reply refl none is y.1 serves x)
    by_parts (inr free) =
        let is = no_entry w.history (l.asks w.attending.user u) es reply free serves in
        let table : w.history ≡ w.history ++ es = sym (ap (λ (z : List Entry). w.history ++ z) is ∙ append-nil w.history) in
        let more : used ++ of_users us ≡ (used ++ of_users us) ++ used_of p es = sym (ap (λ (z : List Entry). (used ++ of_users us) ++ used_of p z) is ∙ append-nil (used ++ of_users us)) in
        subst (λ (z : List Entry × List AnyEntry). Along z.0 (k ++ us) z.1 (replied ∷ ss)) (λ i. (table i, more i))
        (acts_at_users w.history k used ss (session_in w) u m us reply refl none got (subst (λ (z : List Entry). Serves p t w.history (l.asks w.attending.user u) z reply) is serves) x)

  abbrev Gone : List Entry → Doing → List (Session U M) → Type 0
  Gone h x ss = GoneAlong l p t o past h x ss

  users_are : (x : Doing) (ms : List UserMark) (passed es : List UserEntry) → entries_of ms ≡ passed ++ es → (entries_of x.marks ++ passed) ++ es ≡ entries_of (x.marks ++ ms)
  users_are x ms passed es are = append_assoc (entries_of x.marks) passed es ∙ (ap (λ (z : List UserEntry). entries_of x.marks ++ z) (sym are) ∙ sym (entries_append x.marks ms))

  module _ (earlier : List AnyEntry) where
    -- after what was heard of the users, by what the place used
    heard_took : (h : List Entry) (x : Doing) (w : Wanted) (y : Heard) (a : HearsOn o p x w y) → TookAlong p past h (after earlier x) → TookAlong p past h (after earlier (heard_on x a))
    heard_took h x w y a turns = users_took p past h (after earlier x) a.marks a.stamps (of_users a.entries) (earlier ++ (x.used ++ of_users a.entries)) a.dated
        (heard_used o p (entries_of x.marks ++ a.passed) w y a.passed a.entries a.marks a.others a.hears a.are) (append_assoc earlier x.used (of_users a.entries)) turns

    module _ (apart : Parts l) (h : List Entry) (first : Doing) (ss : List (Session U M)) (begun : Gone h (after earlier first) ss) where
      pub gone_on : (w : Walk U M) (x : Doing) → Does l p t o h first w x → Gone w.history (after earlier x) (session_in w ∷ ss)
      gone_on _ _ begins_doing = record { acts = caller_acts h (entries_of first.marks) (earlier ++ first.used) ss begun.acts; turns = begun.turns }
      gone_on _ _ (users_pass w x ms ts others dated d) =
          let y = gone_on w x d in
          let used = earlier ++ x.used in record {
            acts = subst (λ (k : List UserEntry). Along w.history k used (session_in w ∷ ss)) (sym (entries_append x.marks ms)) (users_on_all w.history (entries_of x.marks) (entries_of ms) used (session_in w ∷ ss) others y.acts);
            turns = users_took p past w.history (after earlier x) ms ts [] used dated (none_of_users p (entries_of ms) others) (append-nil used) y.turns;
          }
      gone_on _ _ (table_passes w x es stamps unused dated d) =
          let y = gone_on w x d in
          let used = earlier ++ x.used in record {
            acts = table_on_all w.history es (entries_of x.marks) used (session_in w ∷ ss) unused y.acts;
            turns = table_took p past w.history (after earlier x) es stamps [] used dated (none_of_table p es unused) (append-nil used) y.turns;
          }
      gone_on _ _ (does_unit w x u m r none a b d) =
          let y = gone_on w x d in
          let d2 = session_in w ∷ ss in
          let k = entries_of x.marks ++ a.passed in
          let used = earlier ++ x.used in
          let heard = of_users a.entries in
          let served = used_of p b.entries in
          let one = users_on_all w.history (entries_of x.marks) a.passed used d2 a.others y.acts in
          let two = table_on_all w.history b.passed k used d2 b.unused one in
          let w2 = with_entries b.passed w in
          let now = by_parts ss apart w2 none used k two u m r b.entries a.entries b.serves a.hears (apart w.attending.user u) in
          let users = users_are x a.marks a.passed a.entries a.are in
          let all : (used ++ heard) ++ served ≡ earlier ++ ((x.used ++ heard) ++ served) = ap (λ (z : List AnyEntry). z ++ served) (append_assoc earlier x.used heard) ∙ append_assoc earlier (x.used ++ heard) served in
          let turns = table_took p past w.history (after earlier (heard_on x a)) (b.passed ++ b.entries) b.stamps served (earlier ++ ((x.used ++ heard) ++ served)) b.dated
          (used_append p b.passed b.entries ∙ ap (λ (z : List AnyEntry). z ++ served) (none_of_table p b.passed b.unused)) (append_assoc earlier (x.used ++ heard) served) (heard_took w.history x (l.wants w.attending.user u) (l.heard u) a y.turns) in
          record {
            acts = subst (λ (z : List UserEntry × List AnyEntry). Along ((w.history ++ b.passed) ++ b.entries) z.0 z.1 (replied ss apart w2 none used k two u m r b.entries a.entries b.serves a.hears ∷ ss)) (λ i. (users i, all i)) now;
            turns = subst (λ (z : List Entry). TookAlong p past z (after earlier (done_on x a b))) (sym (append_assoc w.history b.passed b.entries)) turns;
          }
      gone_on _ _ (does_nothing w x none d) =
          let y = gone_on w x d in
          let near : List (Session U M) = rested (session_in w) ∷ ss in
          let far : List (Session U M) = session_in (with_quiet w) ∷ ss in
          let near_is : near ≡ far = ap (λ (bs : List ℕ). let v : Session U M = record { happenings = w.happenings ++ quiet ∷ []; attending = w.attending; due = is_some w.attending.watch; said = record { moments = w.moments; bytes = bs }; ended = false } in let d2 : List (Session U M) = v ∷ ss in d2) (sym (append-nil (w.earlier ++ w.latest))) in
          record { acts = subst (λ (z : List (Session U M)). Along w.history (entries_of x.marks) (earlier ++ x.used) z) near_is (nothing_came w.history (entries_of x.marks) (earlier ++ x.used) ss (session_in w) refl none y.acts); turns = y.turns }
      gone_on _ _ (does_look w x cursor ms bytes due watch b told d) =
          let y = gone_on w x d in
          let e = entry p (Look cursor) Answered in
          let h2 = w.history ++ b.passed in
          let used = earlier ++ x.used in
          let own : List AnyEntry = inl e ∷ [] in
          let two = table_on_all w.history b.passed (entries_of x.marks) used (session_in w ∷ ss) b.unused y.acts in
          let near : List (Session U M) = reported (length (changes_of h2)) (record { moments = ms; bytes = bytes }) (session_in w) ∷ ss in
          let far : List (Session U M) = session_in (with_look p cursor ms bytes (with_entries b.passed w)) ∷ ss in
          let near_is : near ≡ far = ap (λ (bs : List ℕ). let v : Session U M = record { happenings = w.happenings; attending = record { user = w.attending.user; watch = Some (length (changes_of h2)) }; due = false; said = record { moments = w.moments ++ ms; bytes = bs }; ended = false } in let d2 : List (Session U M) = v ∷ ss in d2) (append_assoc w.earlier w.latest bytes) in
          let all : used ++ own ≡ earlier ++ (x.used ++ own) = append_assoc earlier x.used own in
          let turns = table_took p past w.history (after earlier x) (b.passed ++ e ∷ []) b.stamps own (earlier ++ (x.used ++ own)) b.dated
          (then_used p past b.passed e [] (own_used p (inl e) refl (λ is. let wrong : Answered ≡ Taken = is in cc)) (none_of_table p b.passed b.unused)) all y.turns in
          record {
            acts = subst (λ (z : List AnyEntry × List (Session U M)). Along (h2 ++ e ∷ []) (entries_of x.marks) z.0 z.1) (λ i. (all i, near_is i)) (looks_on h2 (entries_of x.marks) used ss (session_in w) cursor ms bytes refl due watch told two);
            turns = subst (λ (z : List Entry). TookAlong p past z (after earlier (using (table_on x b.stamps) own))) (sym (append_assoc w.history b.passed (e ∷ []))) turns;
          }

      -- so it is where a stop cut the last unit at the table
      pub cut_after : (w : Walk U M) (x : Doing) → Does l p t o h first w x → w.due ≡ false → (u : U) (a : HearsOn o p x (l.wants w.attending.user u) (l.heard u)) (b : CutsOn p w.history ((heard_on x a).users_stamps) (l.asks w.attending.user u))
          → Gone ((w.history ++ b.front) ++ entry p b.op Cut ∷ []) (after earlier (cut_on x a b)) (unanswered u (session_in w) ∷ ss)
      cut_after w x d none u a b =
          let y = gone_on w x d in
          let e = entry p b.op Cut in
          let k = entries_of x.marks ++ a.passed in
          let d2 : List (Session U M) = unanswered u (session_in w) ∷ ss in
          let table = (w.history ++ b.front) ++ e ∷ [] in
          let heard = of_users a.entries in
          let front = used_of p b.front in
          let own : List AnyEntry = inl e ∷ [] in
          let used = earlier ++ (((x.used ++ heard) ++ front) ++ own) in
          let turns = table_took p past w.history (after earlier (heard_on x a)) (b.front ++ e ∷ []) b.stamps (front ++ own) used b.dated
          (then_used p past b.front e front (own_used p (inl e) refl (λ is. let wrong : Cut ≡ Taken = is in cc)) refl)
          (append_assoc earlier (x.used ++ heard) (front ++ own) ∙ ap (λ (z : List AnyEntry). earlier ++ z) (sym (append_assoc (x.used ++ heard) front own))) (heard_took w.history x (l.wants w.attending.user u) (l.heard u) a y.turns) in
          let acts : Along table (k ++ a.entries) used d2 = elim (apart w.attending.user u) [
            | inl apart_is ↦ (
                let got = nothing_got k a.entries (l.wants w.attending.user u) (l.heard u) apart_is a.hears in
                let users : k ≡ k ++ a.entries = sym (ap (λ (z : List UserEntry). k ++ z) got.0 ∙ append-nil k) in
                let more : x.used ≡ x.used ++ heard = sym (ap (λ (z : List UserEntry). x.used ++ of_users z) got.0 ∙ append-nil x.used) in
                let one = users_on_all w.history (entries_of x.marks) a.passed (earlier ++ x.used) (session_in w ∷ ss) a.others y.acts in
                let all : ((earlier ++ x.used) ++ front) ++ own ≡ earlier ++ ((x.used ++ front) ++ own) = ap (λ (z : List AnyEntry). z ++ own) (append_assoc earlier x.used front) ∙ append_assoc earlier (x.used ++ front) own in
                let then_ : ((earlier ++ x.used) ++ front) ++ own ≡ used = all ∙ ap (λ (z : List AnyEntry). earlier ++ ((z ++ front) ++ own)) more in
                subst (λ (z : List UserEntry × List AnyEntry). Along table z.0 z.1 d2) (λ i. (users i, then_ i)) (stopped_short w.history k (earlier ++ x.used) ss (session_in w) u b.front b.op refl none apart_is got.1 b.stands b.cuts one)
                )
            | inr free ↦ absurd (no_cut (w.history ++ b.front) (l.asks w.attending.user u) b.op free b.cuts)
          ] in
          record {
            acts = subst (λ (z : List UserEntry). Along table z used d2) (users_are x a.marks a.passed a.entries a.are) acts;
            turns = subst (λ (z : List Entry). TookAlong p past z (after earlier (cut_on x a b))) (sym (append_assoc w.history b.front (e ∷ []))) turns;
          }

      -- and where one came before the users were changed
      pub cut_before : (w : Walk U M) (x : Doing) → Does l p t o h first w x → w.due ≡ false → (u : U) (what : UserOp) → l.wants w.attending.user u ≡ to_do what → IsChanging what → Gone w.history (after earlier x) (unanswered u (session_in w) ∷ ss)
      cut_before w x d none u what wants changing =
          let y = gone_on w x d in
          record { acts = stopped_before_users w.history (entries_of x.marks) (earlier ++ x.used) ss (session_in w) u what refl none wants changing y.acts; turns = y.turns }
