-- The plain session is one, where it is alone and no fault has an excuse.
use Rattle.std.proofs.Common.{◌≡◌, ℕ, length, length-append, List, [], ◌∷◌, ◌++◌, Option, Some, None, Result, Ok, Err, refl, sym, ◌∙◌, ap, ap₂, subst, arith, inl, inr}
use Rattle.dxc_model.specs.declared.cause.Cause.{Cause}
use Rattle.dxc_model.specs.declared.cause.Cause.TheVariants.{DiskFault}
use Rattle.dxc_model.specs.declared.op.Change.{Change}
use Rattle.dxc_model.specs.Tables.{Board}
use Rattle.dxc_model.specs.Verdicts.{verdict}
use Rattle.craft_session.specs.declared.ask.Ask.{Ask}
use Rattle.craft_session.specs.declared.ask.Ask.TheVariants.{Refused, LogsIn, LogsOut, Completes, Allows, Inhibits, Lists, Shows, Restarts, Changes}
use Rattle.craft_session.specs.Asks.{Language, Reply}
use Rattle.craft_session.specs.Happenings.{Happening, unit, quiet}
use Rattle.craft_session.specs.Notices.{AreReported, Notice, notices}
use Rattle.craft_session.specs.Plain.{Answers, At, Attends, Decides, Excuse, Judges, Limit, Makes, Plays, Prepares, PreparesFor, Replies, Reports, Said, TakesUp, after_ask, alone, joined, ready, took_up, waited, with_one}

-- an excuse that holds where another does licenses what that one does
module _ {U M : Type 0} (l : Language U M) (limit : Limit) (F G : Excuse) (weaker : (q : Cause) → F q → G q) where
  judges_within : (cs : List Change) (v : Option (Result Change Cause)) (r : Reply) (did : Option Change) → Judges limit F cs v r did → Judges limit G cs v r did
  judges_within cs v r did j = elim j [ inl d ↦ inl d | inr x ↦ inr (x.0, weaker x.0 x.1, x.2, x.3) ]

  takes_within : (t : Board) (did : Option Change) → TakesUp F t did → TakesUp G t did
  takes_within t None x = tt
  takes_within t (Some c) x = (x.0, weaker DiskFault x.1)

  prepares_within : (a b : At) → Prepares F alone a b → Prepares G alone a b
  prepares_within _ _ (ready a) = ready a
  prepares_within _ _ (waited a b c wait more) = waited a b c wait (prepares_within b c more)
  prepares_within _ _ (took_up a b c takes more) = took_up a b c (takes_within a.table (Some c) takes) (prepares_within (with_one a c) b more)

  prepared_within : (k : Ask) (a b : At) → PreparesFor F alone k a b → PreparesFor G alone k a b
  prepared_within (Refused q) a b x = x
  prepared_within (LogsIn u) a b x = x
  prepared_within LogsOut a b x = x
  prepared_within Completes a b x = x
  prepared_within Allows a b x = x
  prepared_within Inhibits a b x = x
  prepared_within (Lists which) a b x = x
  prepared_within (Shows what) a b x = x
  prepared_within Restarts a b x = x
  prepared_within (Changes op) a b x = prepares_within a b x

  replies_within : (a : At) (k : Ask) (r : Reply) (did : Option Change) → Replies limit F a k r did → Replies limit G a k r did
  replies_within a (Refused q) r did x = x
  replies_within a (LogsIn u) r did x = x
  replies_within a LogsOut r did x = x
  replies_within a Completes r did x = x
  replies_within a Allows r did x = x
  replies_within a Inhibits r did x = x
  replies_within a (Lists which) r did x = x
  replies_within a (Shows what) r did x = x
  replies_within a Restarts r did x = elim x [ inl y ↦ inl (y.0, takes_within a.table did y.1) | inr y ↦ inr (y.0, weaker y.0 y.1, y.2, y.3) ]
  replies_within a (Changes op) r did x = judges_within a.changes (verdict a.table op) r did x

  answers_within : (a b : At) (h : Happening U) (x : Said M) → Answers l limit F alone a h x b → Answers l limit G alone a h x b
  answers_within a b (unit u) x s = record { before = s.before; prepares = prepared_within (l.asks a.attending.user u) a s.before s.prepares; reply = s.reply; did = s.did; replies = replies_within s.before (l.asks a.attending.user u) s.reply s.did s.replies; moment = s.moment; says = s.says; after = s.after }
  answers_within a b quiet x s = s

  reports_within : (a b : At) (w : Option ℕ) (x : Said M) → Reports l limit F alone a w x b → Reports l limit G alone a w x b
  reports_within a b None x s = s
  reports_within a b (Some n) x s = record { before = s.before; waited = s.waited; reported = s.reported; after = s.after }

  attends_within : (a b : At) (h : Happening U) (x : Said M) → Attends l limit F alone a h x b → Attends l limit G alone a h x b
  attends_within a b h x s = record { before = s.before; waited = s.waited; response = s.response; reports = s.reports; between = s.between; answers = answers_within s.before s.between h s.response s.answers; reported = reports_within s.between b s.between.attending.watch s.reports s.reported; says = s.says }

  pub plays_within : (a b : At) (hs : List (Happening U)) (x : Said M) → Plays l limit F alone a hs x b → Plays l limit G alone a hs x b
  plays_within a b [] x p = p
  plays_within a b (h ∷ hs) x (first, rest, next, here, more, says) = (first, rest, next, attends_within a next h first here, plays_within next b hs rest more, says)

-- two lists of one length that are joined alike begin alike
split_same : {A : Type 0} (xs ys us vs : List A) → length xs ≡ length us → xs ++ ys ≡ us ++ vs → (xs ≡ us) × (ys ≡ vs)
split_same [] ys [] vs len is = (refl, is)
split_same [] ys (u ∷ us) vs len is = absurd (omega (arith, len))
split_same (x ∷ xs) ys [] vs len is = absurd (omega (arith, len))
split_same {A} (x ∷ xs) ys (u ∷ us) vs len is =
    let head : x ≡ u = cc in
    let tail : xs ++ ys ≡ us ++ vs = cc in
    let more = split_same xs ys us vs (omega (arith, len)) tail in
    (ap₂ (λ (a : A) (l : List A). a ∷ l) head more.0, more.1)

-- the reports of the same changes take as many moments, and are the same with the same ones
reported_length : {M : Type 0} (report : M → Notice → List ℕ) (ns : List Notice) (ms : List M) (out : List ℕ) → AreReported report ns ms out → length ms ≡ length ns
reported_length report [] [] out x = refl
reported_length report [] (m ∷ ms) out x = absurd x
reported_length report (n ∷ ns) [] out x = absurd x
reported_length report (n ∷ ns) (m ∷ ms) out (rest, is, more) = let k = reported_length report ns ms rest more in omega (arith, k)

reported_once : {M : Type 0} (report : M → Notice → List ℕ) (ns : List Notice) (ms : List M) (out other : List ℕ) → AreReported report ns ms out → AreReported report ns ms other → out ≡ other
reported_once report [] [] out other x y = x ∙ sym y
reported_once report [] (m ∷ ms) out other x y = absurd x
reported_once report (n ∷ ns) [] out other x y = absurd x
reported_once report (n ∷ ns) (m ∷ ms) out other (rest, is, more) (last, says, also) = is ∙ ap (λ (o : List ℕ). report m n ++ o) (reported_once report ns ms rest last more also) ∙ sym says

-- what was written twice took as many moments, is the same with the same ones, and leads to the same
record AreOne {M : Type 0} (x y : Said M) (b c : At) : Type 0 where
  pub long : length x.moments ≡ length y.moments
  pub same : x.moments ≡ y.moments → x.bytes ≡ y.bytes
  pub after : b ≡ c

joined_once : {M : Type 0} (x y u v : Said M) (b c d e : At) → AreOne x u b c → AreOne y v d e → AreOne (joined x y) (joined u v) d e
joined_once x y u v b c d e first next = record {
  long = let p = length-append x.moments y.moments in let q = length-append u.moments v.moments in omega (arith, p, q, first.long, next.long);
  same = λ is. let parts = split_same x.moments y.moments u.moments v.moments first.long is in ap₂ (λ (p : List ℕ) (q : List ℕ). p ++ q) (first.same parts.0) (next.same parts.1);
  after = next.after;
}

module _ {U M : Type 0} (l : Language U M) (limit : Limit) (once : (cs : List Change) (x : Change) (m n : Option Cause) → limit cs x m → limit cs x n → m ≡ n) where
  abbrev Never : Excuse
  Never q = ⊥

  abbrev Same : (r q : Reply) (b c : Option Change) → Type 0
  Same r q b c = (r ≡ q) × (b ≡ c)

  made_once : (b d : Option Change) (c : Change) (m : Option Cause) (r q : Reply) → Makes c m r b → Makes c m q d → Same r q b d
  made_once b d c None r q x y = (x.0 ∙ sym y.0, x.1 ∙ sym y.1)
  made_once b d c (Some p) r q x y = (x.0 ∙ sym y.0, x.1 ∙ sym y.1)

  decided_once : (cs : List Change) (b d : Option Change) (v : Option (Result Change Cause)) (r q : Reply) → Decides limit cs v r b → Decides limit cs v q d → Same r q b d
  decided_once cs b d (Some (Ok c)) r q (m, met, x) (n, other, y) = made_once b d c m r q x (subst (λ (k : Option Cause). Makes c k q d) (once cs c n m other met) y)
  decided_once cs b d (Some (Err p)) r q x y = (x.0 ∙ sym y.0, x.1 ∙ sym y.1)
  decided_once cs b d None r q x y = absurd x

  judged_once : (cs : List Change) (b d : Option Change) (v : Option (Result Change Cause)) (r q : Reply) → Judges limit Never cs v r b → Judges limit Never cs v q d → Same r q b d
  judged_once cs b d v r q x y = elim x [ inl i ↦ elim y [ inl j ↦ decided_once cs b d v r q i j | inr j ↦ absurd j.1 ] | inr i ↦ absurd i.1 ]

  none_taken : (t : Board) (o : Option Change) → TakesUp Never t o → o ≡ None
  none_taken t None x = refl
  none_taken t (Some c) x = absurd x.1

  stays_ready : (a b : At) → Prepares Never alone a b → b ≡ a
  stays_ready _ _ (ready a) = refl
  stays_ready _ _ (waited a b c wait more) = stays_ready b c more ∙ wait
  stays_ready _ _ (took_up a b c takes more) = absurd takes.1

  prepared_once : (k : Ask) (a b : At) → PreparesFor Never alone k a b → b ≡ a
  prepared_once (Refused q) a b x = x
  prepared_once (LogsIn u) a b x = x
  prepared_once LogsOut a b x = x
  prepared_once Completes a b x = x
  prepared_once Allows a b x = x
  prepared_once Inhibits a b x = x
  prepared_once (Lists which) a b x = x
  prepared_once (Shows what) a b x = x
  prepared_once Restarts a b x = x
  prepared_once (Changes op) a b x = stays_ready a b x

  replied_once : (a : At) (b d : Option Change) (k : Ask) (r q : Reply) → Replies limit Never a k r b → Replies limit Never a k q d → Same r q b d
  replied_once a b d (Refused p) r q x y = (x.0 ∙ sym y.0, x.1 ∙ sym y.1)
  replied_once a b d (LogsIn u) r q x y = (x.0 ∙ sym y.0, x.1 ∙ sym y.1)
  replied_once a b d LogsOut r q x y = (x.0 ∙ sym y.0, x.1 ∙ sym y.1)
  replied_once a b d Completes r q x y = (x.0 ∙ sym y.0, x.1 ∙ sym y.1)
  replied_once a b d Allows r q x y = (x.0 ∙ sym y.0, x.1 ∙ sym y.1)
  replied_once a b d Inhibits r q x y = (x.0 ∙ sym y.0, x.1 ∙ sym y.1)
  replied_once a b d (Lists which) r q x y = (x.0 ∙ sym y.0, x.1 ∙ sym y.1)
  replied_once a b d (Shows what) r q x y = (x.0 ∙ sym y.0, x.1 ∙ sym y.1)
  replied_once a b d Restarts r q x y = elim x [ inl i ↦ elim y [ inl j ↦ (i.0 ∙ sym j.0, none_taken a.table b i.1 ∙ sym (none_taken a.table d j.1)) | inr j ↦ absurd j.1 ] | inr i ↦ absurd i.1 ]
  replied_once a b d (Changes op) r q x y = judged_once a.changes b d (verdict a.table op) r q x y

  answered_once : (a b c : At) (h : Happening U) (x y : Said M) → Answers l limit Never alone a h x b → Answers l limit Never alone a h y c → AreOne x y b c
  answered_once a b c (unit u) x y s t =
      let k = l.asks a.attending.user u in
      let here : t.before ≡ s.before = prepared_once k a t.before t.prepares ∙ sym (prepared_once k a s.before s.prepares) in
      let one = replied_once s.before s.did t.did k s.reply t.reply s.replies (subst (λ (z : At). Replies limit Never z k t.reply t.did) here t.replies) in
      record {
        long = ap (λ (z : Said M). length z.moments) s.says ∙ sym (ap (λ (z : Said M). length z.moments) t.says);
        same = λ is.
            let moments : s.moment ∷ [] ≡ t.moment ∷ [] = sym (ap (λ (z : Said M). z.moments) s.says) ∙ is ∙ ap (λ (z : Said M). z.moments) t.says in
            let moment : s.moment ≡ t.moment = cc in
            ap (λ (z : Said M). z.bytes) s.says ∙ ap₂ (λ (m : M) (r : Reply). l.response m u r) moment one.0 ∙ sym (ap (λ (z : Said M). z.bytes) t.says);
        after = s.after ∙ ap₂ (λ (z : At) (o : Option Change). after_ask z k o) (sym here) one.1 ∙ sym t.after;
      }
  answered_once a b c quiet x y s t = record {
    long = ap (λ (z : Said M). length z.moments) (s.0 ∙ sym t.0);
    same = λ _. ap (λ (z : Said M). z.bytes) (s.0 ∙ sym t.0);
    after = s.1 ∙ sym t.1;
  }

  reports_once : (a b c : At) (w : Option ℕ) (x y : Said M) → Reports l limit Never alone a w x b → Reports l limit Never alone a w y c → AreOne x y b c
  reports_once a b c None x y s t = record {
    long = ap (λ (z : Said M). length z.moments) (s.0 ∙ sym t.0);
    same = λ _. ap (λ (z : Said M). z.bytes) (s.0 ∙ sym t.0);
    after = s.1 ∙ sym t.1;
  }
  reports_once a b c (Some n) x y s t =
      let one : s.before ≡ t.before = s.waited ∙ sym t.waited in
      let also = subst (λ (z : At). AreReported l.report (notices z.changes n) y.moments y.bytes) (sym one) t.reported in
      record {
        long = reported_length l.report (notices s.before.changes n) x.moments x.bytes s.reported ∙ sym (reported_length l.report (notices s.before.changes n) y.moments y.bytes also);
        same = λ is. reported_once l.report (notices s.before.changes n) x.moments x.bytes y.bytes s.reported (subst (λ (ms : List M). AreReported l.report (notices s.before.changes n) ms y.bytes) (sym is) also);
        after = s.after ∙ ap (λ (z : At). record z { attending = record { user = z.attending.user; watch = Some (length z.changes) } }) one ∙ sym t.after;
      }

  said_one : (x y u v : Said M) (b c : At) → x ≡ u → y ≡ v → AreOne u v b c → AreOne x y b c
  said_one x y u v b c is also one = subst (λ (w : Said M × Said M). AreOne w.0 w.1 b c) (λ i. (sym is i, sym also i)) one

  attends_once : (a b c : At) (h : Happening U) (x y : Said M) → Attends l limit Never alone a h x b → Attends l limit Never alone a h y c → AreOne x y b c
  attends_once a b c h x y s t =
      let one : t.before ≡ s.before = t.waited ∙ sym s.waited in
      let first = answered_once s.before s.between t.between h s.response t.response s.answers (subst (λ (z : At). Answers l limit Never alone z h t.response t.between) one t.answers) in
      let next = reports_once s.between b c s.between.attending.watch s.reports t.reports s.reported (subst (λ (z : At). Reports l limit Never alone z z.attending.watch t.reports c) (sym first.after) t.reported) in
      said_one x y (joined s.response s.reports) (joined t.response t.reports) b c s.says t.says (joined_once s.response s.reports t.response t.reports s.between t.between b c first next)

  plays_once : (a b c : At) (hs : List (Happening U)) (x y : Said M) → Plays l limit Never alone a hs x b → Plays l limit Never alone a hs y c → AreOne x y b c
  plays_once a b c [] x y s t = record {
    long = ap (λ (z : Said M). length z.moments) (s.0 ∙ sym t.0);
    same = λ _. ap (λ (z : Said M). z.bytes) (s.0 ∙ sym t.0);
    after = s.1 ∙ sym t.1;
  }
  plays_once a b c (h ∷ hs) x y (first, rest, next, here, more, says) (front, tail, then, there, also, speaks) =
      let one = attends_once a next then h first front here there in
      let two = plays_once next b c hs rest tail more (subst (λ (z : At). Plays l limit Never alone z hs tail c) (sym one.after) also) in
      said_one x y (joined first rest) (joined front tail) b c says speaks (joined_once first rest front tail next then b c one two)

  -- with the same moments it wrote the same
  pub played_once : (a b c : At) (hs : List (Happening U)) (x y : Said M) → Plays l limit Never alone a hs x b → Plays l limit Never alone a hs y c → x.moments ≡ y.moments → (x ≡ y) × (b ≡ c)
  played_once a b c hs x y s t is =
      let one = plays_once a b c hs x y s t in
      let bytes = one.same is in
      ((λ i. record { moments = is i; bytes = bytes i }), one.after)
