-- What a place did along two histories, laid along any order of both in which its own entries come as it took them.
use Rattle.std.proofs.Common.{◌≡◌, ◌≢◌, ℕ, zero, suc, ◌<◌, ◌≤◌, ◌+◌, ◌⊎◌, inl, inr, Bool, true, false, cond, List, [], ◌∷◌, ◌++◌, length, length-append, filter, append_assoc, append-nil, refl, sym, ◌∙◌, ap, subst, arith}
use Rattle.std.proofs.lemmas.List.Elements.{filter-append}
use Rattle.craft_session.specs.Doing.{at_table, at_users}
use Rattle.switch_laws.specs.Placed.{placed}
use Rattle.switch_laws.proofs.Merging.{Track, goes_by, goes_free, goes_on, starts, snoc_once}

-- a list has a last element, or none
pub ended : {A : Type 0} (xs : List A) → (xs ≡ []) ⊎ ((front : List A) × (a : A) × (xs ≡ front ++ a ∷ []))
ended [] = inl refl
ended {A} (x ∷ xs) = elim (ended xs) [
  | inl none ↦ inr ([], x, ap (λ (ys : List A). x ∷ ys) none)
  | inr t ↦ inr (x ∷ t.0, t.1, ap (λ (ys : List A). x ∷ ys) t.2)
]

longer : {A : Type 0} (xs ys : List A) (a : A) → xs ≡ ys ++ a ∷ [] → length xs ≡ length ys + 1
longer xs ys a is = ap length is ∙ length-append ys (a ∷ [])

pub table_append : {A B : Type 0} (m n : List (A ⊎ B)) → at_table (m ++ n) ≡ at_table m ++ at_table n
table_append [] n = refl
table_append {A} (inl e ∷ m) n = ap (λ (l : List A). e ∷ l) (table_append m n)
table_append (inr e ∷ m) n = table_append m n

pub users_append : {A B : Type 0} (m n : List (A ⊎ B)) → at_users (m ++ n) ≡ at_users m ++ at_users n
users_append [] n = refl
users_append (inl e ∷ m) n = users_append m n
users_append {A} {B} (inr e ∷ m) n = ap (λ (l : List B). e ∷ l) (users_append m n)

not_both : (b c : Bool) → b ≡ c → b ≡ true → c ≡ false → ⊥
not_both b c same on off = let both : true ≡ false = sym on ∙ same ∙ off in cc

module _ {A B W : Type 0} (place : A ⊎ B → ℕ) (Idle : A ⊎ B → Type 0) (tell : (e : A ⊎ B) → Idle e ⊎ (Idle e → ⊥)) (used : ℕ → A ⊎ B → Bool)
    (tells : (p : ℕ) (e : A ⊎ B) → ((used p e ≡ true) × (Idle e → ⊥) × (place e ≡ p)) ⊎ ((used p e ≡ false) × ((place e ≢ p) ⊎ Idle e)))
    (past : List A) (none : W) (Good : List (A ⊎ B) → Type 0) (Pl : List (A ⊎ B) → (ℕ → W) → Type 0) where
  abbrev E : Type 0
  E = A ⊎ B

  abbrev pub Laid : ℕ → List E → W → Type 0
  Laid p m w = Track place Idle tell [] none Good Pl Pl (λ q h v. Unit {0}) p m w

  -- a step that takes no entry may come anywhere
  abbrev pub Anywhere : ℕ → W → W → Type 0
  Anywhere p v w = (m : List E) (f : ℕ → W) → Good m → Pl m (placed p v f) → Pl m (placed p w f)

  -- one that takes an entry of the table after this history of it, and one that takes an entry of the users
  abbrev pub TakesAt : ℕ → List A → A → W → W → Type 0
  TakesAt p h e v w = (m : List E) (f : ℕ → W) → past ++ at_table m ≡ h → Good (m ++ inl e ∷ []) → Pl m (placed p v f) → Pl (m ++ inl e ∷ []) (placed p w f)

  abbrev pub HearsAt : ℕ → List B → B → W → W → Type 0
  HearsAt p g e v w = (m : List E) (f : ℕ → W) → at_users m ≡ g → Good (m ++ inr e ∷ []) → Pl m (placed p v f) → Pl (m ++ inr e ∷ []) (placed p w f)

  -- What one place did along a history of the table and one of the users, with its own entries as it took them: steps that take none, entries that it
  -- doesn't use, and its own.
  pub data Script (p : ℕ) : List A → List B → List E → W → Type 0 where
    nothing_done : (h : List A) (w : W) → h ≡ past → w ≡ none → Script p h [] [] w
    does_free : (h : List A) (g : List B) (o : List E) (v w : W) → Anywhere p v w → Script p h g o v → Script p h g o w
    table_passes : (h : List A) (g : List B) (o : List E) (e : A) (w : W) → used p (inl e) ≡ false → Script p h g o w → Script p (h ++ e ∷ []) g o w
    users_pass : (h : List A) (g : List B) (o : List E) (e : B) (w : W) → used p (inr e) ≡ false → Script p h g o w → Script p h (g ++ e ∷ []) o w
    takes : (h : List A) (g : List B) (o : List E) (e : A) (v w : W) → used p (inl e) ≡ true → TakesAt p h e v w → Script p h g o v → Script p (h ++ e ∷ []) g (o ++ inl e ∷ []) w
    hears : (h : List A) (g : List B) (o : List E) (e : B) (v w : W) → used p (inr e) ≡ true → HearsAt p g e v w → Script p h g o v → Script p h (g ++ e ∷ []) (o ++ inr e ∷ []) w

  module _ (p : ℕ) where
    long : (h : List A) (g : List B) (o : List E) (w : W) → Script p h g o w → length past ≤ length h
    long _ _ _ _ (nothing_done h w is at) = let k = ap length is in omega (arith, k)
    long _ _ _ _ (does_free h g o v w on s) = long h g o v s
    long _ _ _ _ (table_passes h g o e w un s) = let k = long h g o w s in let m = length-append h (e ∷ []) in omega (arith, k, m)
    long _ _ _ _ (users_pass h g o e w un s) = long h g o w s
    long _ _ _ _ (takes h g o e v w us on s) = let k = long h g o v s in let m = length-append h (e ∷ []) in omega (arith, k, m)
    long _ _ _ _ (hears h g o e v w us on s) = long h g o v s

    differ : (d e : E) → d ≡ e → used p d ≡ true → used p e ≡ false → ⊥
    differ d e same on off = not_both (used p d) (used p e) (ap (used p) same) on off

    -- the last entry of the table, which it doesn't use, is left out
    drop_table : (e : A) (h : List A) (k : List A) (g : List B) (o : List E) (w : W) → Script p k g o w → k ≡ h ++ e ∷ [] → used p (inl e) ≡ false → length past ≤ length h → Script p h g o w
    drop_table e h _ _ _ _ (nothing_done k w is at) eq un le = absurd (let a = longer k h e eq in let b = ap length is in omega (arith, a, b, le))
    drop_table e h _ _ _ _ (does_free k g o v w on s) eq un le = does_free h g o v w on (drop_table e h k g o v s eq un le)
    drop_table e h _ _ _ _ (table_passes k g o d w off s) eq un le = subst (λ (x : List A). Script p x g o w) (snoc_once k h d e eq).0 s
    drop_table e h _ _ _ _ (users_pass k g o d w off s) eq un le = users_pass h g o d w off (drop_table e h k g o w s eq un le)
    drop_table e h _ _ _ _ (takes k g o d v w us on s) eq un le = absurd (differ (inl d) (inl e) (ap (λ (x : A). let y : E = inl x in y) (snoc_once k h d e eq).1) us un)
    drop_table e h _ _ _ _ (hears k g o d v w us on s) eq un le = hears h g o d v w us on (drop_table e h k g o v s eq un le)

    -- so is that of the users
    drop_users : (e : B) (g : List B) (h : List A) (k : List B) (o : List E) (w : W) → Script p h k o w → k ≡ g ++ e ∷ [] → used p (inr e) ≡ false → Script p h g o w
    drop_users e g _ _ _ _ (nothing_done h w is at) eq un = absurd (let a = longer [] g e eq in omega (arith, a))
    drop_users e g _ _ _ _ (does_free h k o v w on s) eq un = does_free h g o v w on (drop_users e g h k o v s eq un)
    drop_users e g _ _ _ _ (table_passes h k o d w off s) eq un = table_passes h g o d w off (drop_users e g h k o w s eq un)
    drop_users e g _ _ _ _ (users_pass h k o d w off s) eq un = subst (λ (x : List B). Script p h x o w) (snoc_once k g d e eq).0 s
    drop_users e g _ _ _ _ (takes h k o d v w us on s) eq un = takes h g o d v w us on (drop_users e g h k o v s eq un)
    drop_users e g _ _ _ _ (hears h k o d v w us on s) eq un = absurd (differ (inr d) (inr e) (ap (λ (x : B). let y : E = inr x in y) (snoc_once k g d e eq).1) us un)

    -- its last own entry is this one of the table, after which it took none
    record Took (h : List A) (g : List B) (o : List E) (e : A) (w : W) : Type 0 where
      pub before : W
      pub behind : W
      pub script : Script p h g o before
      pub on : TakesAt p h e before behind
      pub back : (m : List E) → Laid p m behind → Laid p m w

    record Heard (h : List A) (g : List B) (o : List E) (e : B) (w : W) : Type 0 where
      pub before : W
      pub behind : W
      pub script : Script p h g o before
      pub on : HearsAt p g e before behind
      pub back : (m : List E) → Laid p m behind → Laid p m w

    take_table : (e : A) (h : List A) (q : List E) (k : List A) (g : List B) (o : List E) (w : W) → Script p k g o w → k ≡ h ++ e ∷ [] → o ≡ q ++ inl e ∷ [] → used p (inl e) ≡ true → length past ≤ length h → Took h g q e w
    take_table e h q _ _ _ _ (nothing_done k w is at) eq last us le = absurd (let a = longer k h e eq in let b = ap length is in omega (arith, a, b, le))
    take_table e h q _ _ _ _ (does_free k g o v w on s) eq last us le =
        let r = take_table e h q k g o v s eq last us le in
        record { before = r.before; behind = r.behind; script = r.script; on = r.on; back = λ m t. goes_free m v w (λ f good x. on m f good x) (r.back m t) }
    take_table e h q _ _ _ _ (table_passes k g o d w off s) eq last us le = absurd (differ (inl e) (inl d) (ap (λ (x : A). let y : E = inl x in y) (sym (snoc_once k h d e eq).1)) us off)
    take_table e h q _ _ _ _ (users_pass k g o d w off s) eq last us le =
        let r = take_table e h q k g o w s eq last us le in
        record { before = r.before; behind = r.behind; script = users_pass h g q d r.before off r.script; on = r.on; back = r.back }
    take_table e h q _ _ _ _ (takes k g o d v w own on s) eq last us le =
        let x = snoc_once k h d e eq in
        let y = snoc_once o q (inl d) (inl e) last in
        record {
          before = v;
          behind = w;
          script = subst (λ (z : List A × List E). Script p z.0 g z.1 v) (λ i. (x.0 i, y.0 i)) s;
          on = subst (λ (z : List A × A). TakesAt p z.0 z.1 v w) (λ i. (x.0 i, x.1 i)) on;
          back = λ m t. t;
        }
    take_table e h q _ _ _ _ (hears k g o d v w own on s) eq last us le =
        let y : inr d ≡ inl e = (snoc_once o q (inr d) (inl e) last).1 in absurd cc

    take_users : (e : B) (g : List B) (q : List E) (h : List A) (k : List B) (o : List E) (w : W) → Script p h k o w → k ≡ g ++ e ∷ [] → o ≡ q ++ inr e ∷ [] → used p (inr e) ≡ true → Heard h g q e w
    take_users e g q _ _ _ _ (nothing_done h w is at) eq last us = absurd (let a = longer [] g e eq in omega (arith, a))
    take_users e g q _ _ _ _ (does_free h k o v w on s) eq last us =
        let r = take_users e g q h k o v s eq last us in
        record { before = r.before; behind = r.behind; script = r.script; on = r.on; back = λ m t. goes_free m v w (λ f good x. on m f good x) (r.back m t) }
    take_users e g q _ _ _ _ (table_passes h k o d w off s) eq last us =
        let r = take_users e g q h k o w s eq last us in
        record { before = r.before; behind = r.behind; script = table_passes h g q d r.before off r.script; on = r.on; back = r.back }
    take_users e g q _ _ _ _ (users_pass h k o d w off s) eq last us = absurd (differ (inr e) (inr d) (ap (λ (x : B). let y : E = inr x in y) (sym (snoc_once k g d e eq).1)) us off)
    take_users e g q _ _ _ _ (takes h k o d v w own on s) eq last us =
        let y : inl d ≡ inr e = (snoc_once o q (inl d) (inr e) last).1 in absurd cc
    take_users e g q _ _ _ _ (hears h k o d v w own on s) eq last us =
        let x = snoc_once k g d e eq in
        let y = snoc_once o q (inr d) (inr e) last in
        record {
          before = v;
          behind = w;
          script = subst (λ (z : List B × List E). Script p h z.0 z.1 v) (λ i. (x.0 i, y.0 i)) s;
          on = subst (λ (z : List B × B). HearsAt p z.0 z.1 v w) (λ i. (x.0 i, x.1 i)) on;
          back = λ m t. t;
        }

    -- where both histories are at their beginning only steps are left that take no entry
    none_left : (h : List A) (g : List B) (o : List E) (w : W) → Script p h g o w → h ≡ past → g ≡ [] → Laid p [] w
    none_left _ _ _ _ (nothing_done h w is at) begun empty = starts [] w refl at
    none_left _ _ _ _ (does_free h g o v w on s) begun empty = goes_free [] v w (λ f good x. on [] f good x) (none_left h g o v s begun empty)
    none_left _ _ _ _ (table_passes h g o e w un s) begun empty = absurd (let k = long h g o w s in let a = longer past h e (sym begun) in omega (arith, k, a))
    none_left _ _ _ _ (users_pass h g o e w un s) begun empty = absurd (let a = longer [] g e (sym empty) in omega (arith, a))
    none_left _ _ _ _ (takes h g o e v w us on s) begun empty = absurd (let k = long h g o v s in let a = longer past h e (sym begun) in omega (arith, k, a))
    none_left _ _ _ _ (hears h g o e v w us on s) begun empty = absurd (let a = longer [] g e (sym empty) in omega (arith, a))

    kept : (m : List E) (x : E) → used p x ≡ true → filter (used p) (m ++ x ∷ []) ≡ filter (used p) m ++ x ∷ []
    kept m x is = filter-append (used p) m (x ∷ []) ∙ ap (λ (b : Bool). filter (used p) m ++ cond b (x ∷ []) []) is

    left_out : (m : List E) (x : E) → used p x ≡ false → filter (used p) (m ++ x ∷ []) ≡ filter (used p) m
    left_out m x is = filter-append (used p) m (x ∷ []) ∙ ap (λ (b : Bool). filter (used p) m ++ cond b (x ∷ []) []) is ∙ append-nil (filter (used p) m)

    abbrev Lays : ℕ → Type 0
    Lays k = (m : List E) → length m < k → (h : List A) (g : List B) (o : List E) (w : W) → Script p h g o w → h ≡ past ++ at_table m → g ≡ at_users m → o ≡ filter (used p) m → Laid p m w

    module _ (k : ℕ) (lays : Lays k) (m : List E) (lt : length m < k) (h : List A) (g : List B) (o : List E) (w : W) (s : Script p h g o w) where
      by_table : (e : A) → h ≡ past ++ at_table (m ++ inl e ∷ []) → g ≡ at_users (m ++ inl e ∷ []) → o ≡ filter (used p) (m ++ inl e ∷ []) → Laid p (m ++ inl e ∷ []) w
      by_table e h_is g_is o_is =
          let front = past ++ at_table m in
          let le : length past ≤ length front = let a = length-append past (at_table m) in omega (arith, a) in
          let last : h ≡ front ++ e ∷ [] = h_is ∙ ap (λ (l : List A). past ++ l) (table_append m (inl e ∷ [])) ∙ sym (append_assoc past (at_table m) (e ∷ [])) in
          let users : g ≡ at_users m = g_is ∙ users_append m (inl e ∷ []) ∙ append-nil (at_users m) in
          elim (tells p (inl e)) [
            | inl own ↦ (
                let r = take_table e front (filter (used p) m) h g o w s last (o_is ∙ kept m (inl e) own.0) own.0 le in
                let before = lays m lt front g (filter (used p) m) r.before r.script refl users refl in
                r.back (m ++ inl e ∷ []) (goes_on m (inl e) r.before r.behind own.1 own.2 (λ f good x. r.on m f refl good x) tt before)
                )
            | inr other ↦ (goes_by m (inl e) w other.1 tt (lays m lt front g o w (drop_table e front h g o w s last other.0 le) refl users (o_is ∙ left_out m (inl e) other.0)))
          ]

      by_users : (e : B) → h ≡ past ++ at_table (m ++ inr e ∷ []) → g ≡ at_users (m ++ inr e ∷ []) → o ≡ filter (used p) (m ++ inr e ∷ []) → Laid p (m ++ inr e ∷ []) w
      by_users e h_is g_is o_is =
          let front = at_users m in
          let table : h ≡ past ++ at_table m = h_is ∙ ap (λ (l : List A). past ++ l) (table_append m (inr e ∷ []) ∙ append-nil (at_table m)) in
          let last : g ≡ front ++ e ∷ [] = g_is ∙ users_append m (inr e ∷ []) in
          elim (tells p (inr e)) [
            | inl own ↦ (
                let r = take_users e front (filter (used p) m) h g o w s last (o_is ∙ kept m (inr e) own.0) own.0 in
                let before = lays m lt h front (filter (used p) m) r.before r.script table refl refl in
                r.back (m ++ inr e ∷ []) (goes_on m (inr e) r.before r.behind own.1 own.2 (λ f good x. r.on m f refl good x) tt before)
                )
            | inr other ↦ (goes_by m (inr e) w other.1 tt (lays m lt h front o w (drop_users e front h g o w s last other.0) table refl (o_is ∙ left_out m (inr e) other.0)))
          ]

      by_last : (x : E) → h ≡ past ++ at_table (m ++ x ∷ []) → g ≡ at_users (m ++ x ∷ []) → o ≡ filter (used p) (m ++ x ∷ []) → Laid p (m ++ x ∷ []) w
      by_last (inl e) h_is g_is o_is = by_table e h_is g_is o_is
      by_last (inr e) h_is g_is o_is = by_users e h_is g_is o_is

    pub laid : (k : ℕ) → Lays k
    laid zero m lt h g o w s h_is g_is o_is = absurd (omega arith)
    laid (suc k) m lt h g o w s h_is g_is o_is = elim (ended m) [
      | inl none ↦ subst (λ (n : List E). Laid p n w) (sym none) (none_left h g o w s (h_is ∙ ap (λ (n : List E). past ++ at_table n) none ∙ append-nil past) (g_is ∙ ap at_users none))
      | inr t ↦ (
          let shorter : length t.0 < k = let a = longer m t.0 t.1 t.2 in omega (arith, lt, a) in
          subst (λ (n : List E). Laid p n w) (sym t.2) (by_last k (laid k) t.0 shorter h g o w s t.1
          (h_is ∙ ap (λ (n : List E). past ++ at_table n) t.2) (g_is ∙ ap at_users t.2) (o_is ∙ ap (filter (used p)) t.2))
          )
    ]
