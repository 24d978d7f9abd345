-- What the sessions of a place had said by each of their messages.
use Rattle.std.specs.List.{AllByRecursion}
use Rattle.std.proofs.Common.{◌≡◌, ℕ, ◌+◌, ◌<◌, ◌≤◌, arith, length, List, [], ◌∷◌, ◌++◌, refl, sym, ◌∙◌, ap, subst, append_assoc, append-nil}
use Rattle.dxc_model.specs.Tables.{Board}
use Rattle.dxc_model.specs.declared.entry.Entry.{Entry}
use Rattle.craft_session.specs.Asks.{Language}
use Rattle.craft_session.specs.Runs.{Message, Run, Walk, begins, looks, passes, responds, waits}
use Rattle.switch_laws.specs.Beginnings.{HasSaid, HaveSaid}
use Rattle.switch_laws.specs.Element.{Session, unanswered}
use Rattle.switch_laws.specs.Laws.{Lives, Spoken, nobody_came, passed_on, served, session_in, spoken_in, stopped, stopped_at_users}

pub all_both : {A : Type 0} (P : A → Type 0) (xs ys : List A) → AllByRecursion P xs → AllByRecursion P ys → AllByRecursion P (xs ++ ys)
all_both P [] ys a b = b
all_both P (x ∷ xs) ys a b = (a.0, all_both P xs ys a.1 b)

pub all_then : {A : Type 0} (P Q : A → Type 0) → ((x : A) → P x → Q x) → (xs : List A) → AllByRecursion P xs → AllByRecursion Q xs
all_then P Q on [] a = tt
all_then P Q on (x ∷ xs) a = (on x a.0, all_then P Q on xs a.1)

-- a session that had written this had written this first
record Wrote (bytes : List ℕ) (m : Message) : Type 0 where
  pub rest : List ℕ
  pub all : bytes ≡ m.written ++ rest

wrote_more : (old new more : List ℕ) → new ≡ old ++ more → (ms : List Message) → AllByRecursion (Wrote old) ms → AllByRecursion (Wrote new) ms
wrote_more old new more is ms a = all_then (Wrote old) (Wrote new) (λ m x. record { rest = x.rest ++ more; all = is ∙ ap (λ (bs : List ℕ). bs ++ more) x.all ∙ append_assoc m.written x.rest more }) ms a

wrote_one : (bytes : List ℕ) (h : List Entry) → AllByRecursion (Wrote bytes) (record { behind = h; written = bytes } ∷ [])
wrote_one bytes h = (record { rest = []; all = sym (append-nil bytes) }, tt)

module _ {U M : Type 0} (l : Language U M) (p : ℕ) (t : Board) where
  -- so it is of each message of a run
  wrote : (h : List Entry) (w : Walk U M) → Run l p t h w → AllByRecursion (Wrote (w.earlier ++ w.latest)) w.messages
  wrote h _ begins = tt
  wrote h _ (passes w e unused run) = wrote h w run
  wrote h _ (responds w u m es reply none serves run) =
      let new = (w.earlier ++ w.latest) ++ l.response m u reply in
      all_both (Wrote new) w.messages _ (wrote_more (w.earlier ++ w.latest) new (l.response m u reply) refl w.messages (wrote h w run)) (wrote_one new (w.history ++ es))
  wrote h _ (waits w none run) = wrote_more (w.earlier ++ w.latest) ((w.earlier ++ w.latest) ++ []) [] refl w.messages (wrote h w run)
  wrote h _ (looks w cursor ms bytes due watch told run) =
      let new = w.earlier ++ (w.latest ++ bytes) in
      all_both (Wrote new) w.messages _ (wrote_more (w.earlier ++ w.latest) new bytes (sym (append_assoc w.earlier w.latest bytes)) w.messages (wrote h w run)) (wrote_one new _)

  abbrev pub AllSaid : List (Spoken U M) → List (Session U M) → Type 0
  AllSaid said ss = AllByRecursion (λ m. HasSaid m ss) said

  newest_said : (s : Session U M) (older : List (Session U M)) (ms : List Message) → AllByRecursion (Wrote s.said.bytes) ms → AllSaid (spoken_in older ms) (s ∷ older)
  newest_said s older [] a = tt
  newest_said s older (m ∷ ms) a = (record { newer = []; session = s; there = refl; unsaid = a.0.rest; said = a.0.all }, newest_said s older ms a.1)

  one_newer : (s : Session U M) (ss : List (Session U M)) (m : Spoken U M) → HasSaid m ss → HasSaid m (s ∷ ss)
  one_newer s ss m x = record { newer = s ∷ x.newer; session = x.session; there = ap (λ (d : List (Session U M)). s ∷ d) x.there; unsaid = x.unsaid; said = x.said }

  -- with the newest session, which has run so
  pub run_said : (h : List Entry) (said : List (Spoken U M)) (ss : List (Session U M)) (w : Walk U M) (s : Session U M) → s.said.bytes ≡ w.earlier ++ w.latest → Run l p t h w → AllSaid said ss → AllSaid (said ++ spoken_in ss w.messages) (s ∷ ss)
  run_said h said ss w s is run before =
      all_both (λ m. HasSaid m (s ∷ ss)) said (spoken_in ss w.messages) (all_then (λ m. HasSaid m ss) (λ m. HasSaid m (s ∷ ss)) (one_newer s ss) said before)
      (newest_said s ss w.messages (subst (λ (bs : List ℕ). AllByRecursion (Wrote bs) w.messages) (sym is) (wrote h w run)))

  pub all_said : (past h : List Entry) (said : List (Spoken U M)) (ss : List (Session U M)) → Lives l p t past h said ss → AllSaid said ss
  all_said past _ _ _ nobody_came = tt
  all_said past _ _ _ (passed_on h said ss e unused x) = all_said past h said ss x
  all_said past _ _ _ (served h said ss w run x) = run_said h said ss w (session_in w) refl run (all_said past h said ss x)
  all_said past _ _ _ (stopped h said ss w u front op run none fronts cuts x) = run_said h said ss w (unanswered u (session_in w)) refl run (all_said past h said ss x)
  all_said past _ _ _ (stopped_at_users h said ss w u op run none wants changing x) = run_said h said ss w (unanswered u (session_in w)) refl run (all_said past h said ss x)

  pub spoken_more : (older : List (Session U M)) (ms : List Message) (m : Message) → spoken_in older (ms ++ m ∷ []) ≡ spoken_in older ms ++ record { older = older; message = m } ∷ []
  spoken_more older [] m = refl
  spoken_more older (n ∷ ms) m = ap (λ (said : List (Spoken U M)). record { older = older; message = n } ∷ said) (spoken_more older ms m)

  -- of all these messages those came first, and the rest stand behind so much
  pub record Behind (all : List (Spoken U M)) (said : List (Spoken U M)) (n : ℕ) : Type 0 where
    pub later : List (Spoken U M)
    pub whole : all ≡ said ++ later
    pub behind : AllByRecursion (λ m. n ≤ length m.message.behind) later

  pub none_later : (all : List (Spoken U M)) (n : ℕ) → Behind all all n
  none_later all n = record { later = []; whole = sym (append-nil all); behind = tt }

  pub behind_less : (all said : List (Spoken U M)) (n m : ℕ) → m ≤ n → Behind all said n → Behind all said m
  behind_less all said n m le x = record { later = x.later; whole = x.whole; behind = all_then (λ y. n ≤ length y.message.behind) (λ y. m ≤ length y.message.behind) (λ y a. omega (arith, a, le)) x.later x.behind }

  -- without the last
  pub behind_last : (all said : List (Spoken U M)) (older : List (Session U M)) (ms : List Message) (m : Message) → Behind all (said ++ spoken_in older (ms ++ m ∷ [])) (length m.behind) → Behind all (said ++ spoken_in older ms) (length m.behind)
  behind_last all said older ms m x =
      let one : Spoken U M = record { older = older; message = m } in
      record {
        later = one ∷ x.later;
        whole = x.whole ∙ ap (λ (y : List (Spoken U M)). y ++ x.later) (ap (λ (y : List (Spoken U M)). said ++ y) (spoken_more older ms m) ∙ sym (append_assoc said (spoken_in older ms) (one ∷ []))) ∙ append_assoc (said ++ spoken_in older ms) (one ∷ []) x.later;
        behind = (omega arith, x.behind);
      }

  -- who has said all that stands behind less has said what stands behind no more than this
  pub have_said : (all said : List (Spoken U M)) (n : ℕ) (h : List Entry) (ss : List (Session U M)) → AllSaid said ss → Behind all said n → length h < n → HaveSaid all h ss
  have_said all said n h ss a x lt =
      subst (λ (ms : List (Spoken U M)). HaveSaid ms h ss) (sym x.whole)
      (all_both (λ m. length m.message.behind ≤ length h → HasSaid m ss) said x.later (all_then (λ m. HasSaid m ss) (λ m. length m.message.behind ≤ length h → HasSaid m ss) (λ m y short. y) said a)
      (all_then (λ m. n ≤ length m.message.behind) (λ m. length m.message.behind ≤ length h → HasSaid m ss) (λ m far short. absurd (omega (arith, far, short, lt))) x.later x.behind))
