-- Entries of two histories have one order, by their dates.
use Rattle.std.proofs.Common.{◌≡◌, ℕ, ◌<◌, ◌≤◌, ltb, cond, Bool, true, false, List, [], ◌∷◌, ◌++◌, filter, ◌⊎◌, inl, inr, sym, refl, ap, ap₂, ◌∙◌, subst, arith, append-nil}
use Rattle.std.proofs.lemmas.Bool.{ltb-true, ltb-false, lt-ltb, le-ltb}
use Rattle.std.proofs.lemmas.List.Elements.{filter-append}
use Rattle.turnstile.specs.Turning.{Each}
use Rattle.turnstile.specs.Orders.{at_one, at_other}
use Rattle.turnstile.proofs.Dated.{AreHigher, Dated, Takes, bare, dated, of_one, of_other, takes_none, takes_of_one, takes_of_other, used_of}
use Rattle.turnstile.proofs.Lists.{each_append, each_weak}

each_filter : {E : Type 0} (P : E → Type 0) (test : E → Bool) (xs : List E) → Each P xs → Each P (filter test xs)
each_filter P test [] a = tt
each_filter {E} P test (x ∷ xs) a = each_cond (test x) x (filter test xs) a.0 (each_filter P test xs a.1) where
  each_cond : (b : Bool) (x : E) (xs : List E) → P x → Each P xs → Each P (cond b (x ∷ xs) xs)
  each_cond true x xs p a = (p, a)
  each_cond false x xs p a = a

yes : {X : Type 0} (b : Bool) (x y : X) → b ≡ true → cond b x y ≡ x
yes b x y e = ap (λ c. cond c x y) e

no_ : {X : Type 0} (b : Bool) (x y : X) → b ≡ false → cond b x y ≡ y
no_ b x y e = ap (λ c. cond c x y) e

module _ {A B : Type 0} where
  -- those of the one with their dates, and those of the other
  abbrev one_in : ℕ → A ⊎ B → List (Dated A) → List (Dated A)
  one_in d (inl a) l = dated d a ∷ l
  one_in d (inr b) l = l

  abbrev pub ones : List (Dated (A ⊎ B)) → List (Dated A)
  ones [] = []
  ones (z ∷ zs) = one_in z.date z.entry (ones zs)

  abbrev other_in : ℕ → A ⊎ B → List (Dated B) → List (Dated B)
  other_in d (inl a) l = l
  other_in d (inr b) l = dated d b ∷ l

  abbrev pub others : List (Dated (A ⊎ B)) → List (Dated B)
  others [] = []
  others (z ∷ zs) = other_in z.date z.entry (others zs)

  pub bare_one : (zs : List (Dated (A ⊎ B))) → at_one (bare zs) ≡ bare (ones zs)
  bare_one [] = refl
  bare_one (z ∷ zs) = by_case z.date z.entry (bare zs) (ones zs) (bare_one zs) where
    by_case : (d : ℕ) (s : A ⊎ B) (m : List (A ⊎ B)) (l : List (Dated A)) → at_one m ≡ bare l → at_one (s ∷ m) ≡ bare (one_in d s l)
    by_case d (inl a) m l e = ap (λ k. a ∷ k) e
    by_case d (inr b) m l e = e

  pub bare_other : (zs : List (Dated (A ⊎ B))) → at_other (bare zs) ≡ bare (others zs)
  bare_other [] = refl
  bare_other (z ∷ zs) = by_case z.date z.entry (bare zs) (others zs) (bare_other zs) where
    by_case : (d : ℕ) (s : A ⊎ B) (m : List (A ⊎ B)) (l : List (Dated B)) → at_other m ≡ bare l → at_other (s ∷ m) ≡ bare (other_in d s l)
    by_case d (inl a) m l e = e
    by_case d (inr b) m l e = ap (λ k. b ∷ k) e

  pub bare_used : (used : A ⊎ B → Bool) (zs : List (Dated (A ⊎ B))) → filter used (bare zs) ≡ bare (used_of used zs)
  bare_used used [] = refl
  bare_used used (z ∷ zs) = by_case (used z.entry) (filter used (bare zs)) (used_of used zs) (bare_used used zs) where
    by_case : (b : Bool) (m : List (A ⊎ B)) (l : List (Dated (A ⊎ B))) → m ≡ bare l → cond b (z.entry ∷ m) m ≡ bare (cond b (z ∷ l) l)
    by_case true m l e = ap (λ k. z.entry ∷ k) e
    by_case false m l e = e

  -- behind all of lower dates
  abbrev pub insert : Dated (A ⊎ B) → List (Dated (A ⊎ B)) → List (Dated (A ⊎ B))
  insert z [] = z ∷ []
  insert z (w ∷ ws) = cond (ltb w.date z.date) (w ∷ insert z ws) (z ∷ w ∷ ws)

  abbrev pub merged : List (Dated A) → List (Dated B) → List (Dated (A ⊎ B))
  merged [] ys = of_other ys
  merged (x ∷ xs) ys = insert (dated x.date (inl x.entry)) (merged xs ys)

  abbrev AreInOrder : List (Dated (A ⊎ B)) → Type 0
  AreInOrder [] = Unit {0}
  AreInOrder (z ∷ zs) = Each (λ w. z.date ≤ w.date) zs × AreInOrder zs

  others_insert : (d : ℕ) (a : A) (ws : List (Dated (A ⊎ B))) → others (insert (dated d (inl a)) ws) ≡ others ws
  others_insert d a [] = refl
  others_insert d a (w ∷ ws) = by_case (ltb w.date d) (insert (dated d (inl a)) ws) (others_insert d a ws) where
    by_case : (b : Bool) (us : List (Dated (A ⊎ B))) → others us ≡ others ws → others (cond b (w ∷ us) (dated d (inl a) ∷ w ∷ ws)) ≡ others (w ∷ ws)
    by_case true us e = ap (other_in w.date w.entry) e
    by_case false us e = refl

  ones_insert : (d : ℕ) (a : A) (ws : List (Dated (A ⊎ B))) → Each (λ x. d < x.date) (ones ws) → ones (insert (dated d (inl a)) ws) ≡ dated d a ∷ ones ws
  ones_insert d a [] above = refl
  ones_insert d a (w ∷ ws) above = by_case (ltb w.date d) (ones_insert d a ws) refl where
    within : (s : A ⊎ B) (e : ℕ) → e < d → Each (λ x. d < x.date) (one_in e s (ones ws)) → (ones (insert (dated d (inl a)) ws) ≡ dated d a ∷ ones ws) → one_in e s (ones (insert (dated d (inl a)) ws)) ≡ dated d a ∷ one_in e s (ones ws)
    within (inl b) e l ab ih = let h = ab.0 in absurd (omega arith)
    within (inr b) e l ab ih = ih

    rest_above : (s : A ⊎ B) (e : ℕ) → Each (λ x. d < x.date) (one_in e s (ones ws)) → Each (λ x. d < x.date) (ones ws)
    rest_above (inl b) e ab = ab.1
    rest_above (inr b) e ab = ab

    by_case : (b : Bool) → (Each (λ x. d < x.date) (ones ws) → ones (insert (dated d (inl a)) ws) ≡ dated d a ∷ ones ws) → ltb w.date d ≡ b → ones (cond b (w ∷ insert (dated d (inl a)) ws) (dated d (inl a) ∷ w ∷ ws)) ≡ dated d a ∷ ones (w ∷ ws)
    by_case true ih e = within w.entry w.date (ltb-true w.date d e) above (ih (rest_above w.entry w.date above))
    by_case false ih e = refl

  each_insert : (P : Dated (A ⊎ B) → Type 0) (z : Dated (A ⊎ B)) (ws : List (Dated (A ⊎ B))) → P z → Each P ws → Each P (insert z ws)
  each_insert P z [] p a = (p, tt)
  each_insert P z (w ∷ ws) p a = by_case (ltb w.date z.date) (each_insert P z ws p a.1) where
    by_case : (b : Bool) → Each P (insert z ws) → Each P (cond b (w ∷ insert z ws) (z ∷ w ∷ ws))
    by_case true ih = (a.0, ih)
    by_case false ih = (p, a)

  in_order_insert : (z : Dated (A ⊎ B)) (ws : List (Dated (A ⊎ B))) → AreInOrder ws → AreInOrder (insert z ws)
  in_order_insert z [] o = (tt, tt)
  in_order_insert z (w ∷ ws) o = by_case (ltb w.date z.date) (in_order_insert z ws o.1) refl where
    by_case : (b : Bool) → AreInOrder (insert z ws) → ltb w.date z.date ≡ b → AreInOrder (cond b (w ∷ insert z ws) (z ∷ w ∷ ws))
    by_case true ih e = let l = ltb-true w.date z.date e in (each_insert (λ v. w.date ≤ v.date) z ws (omega (arith, l)) o.0, ih)
    by_case false ih e = let l = ltb-false w.date z.date e in ((l, each_weak (λ v. w.date ≤ v.date) (λ v. z.date ≤ v.date) (λ v h. omega (arith, l, h)) ws o.0), o)

  insert_low : (z : Dated (A ⊎ B)) (ws : List (Dated (A ⊎ B))) → Each (λ v. z.date ≤ v.date) ws → insert z ws ≡ z ∷ ws
  insert_low z [] low = refl
  insert_low z (w ∷ ws) low = no_ (ltb w.date z.date) (w ∷ insert z ws) (z ∷ w ∷ ws) (le-ltb w.date z.date low.0)

  used_insert : (used : A ⊎ B → Bool) (z : Dated (A ⊎ B)) (ws : List (Dated (A ⊎ B))) → used z.entry ≡ true → AreInOrder ws → used_of used (insert z ws) ≡ insert z (used_of used ws)
  used_insert used z [] is o = yes (used z.entry) (z ∷ []) [] is
  used_insert used z (w ∷ ws) is o = by_case (ltb w.date z.date) (used_insert used z ws is o.1) refl where
    low : z.date ≤ w.date → Each (λ v. z.date ≤ v.date) (w ∷ ws)
    low l = (l, each_weak (λ v. w.date ≤ v.date) (λ v. z.date ≤ v.date) (λ v h. omega (arith, l, h)) ws o.0)

    lower : (c : Bool) → used_of used (insert z ws) ≡ insert z (used_of used ws) → ltb w.date z.date ≡ true → cond c (w ∷ used_of used (insert z ws)) (used_of used (insert z ws)) ≡ insert z (cond c (w ∷ used_of used ws) (used_of used ws))
    lower true ih e = ap (λ (l : List (Dated (A ⊎ B))). w ∷ l) ih ∙ sym (yes (ltb w.date z.date) (w ∷ insert z (used_of used ws)) (z ∷ w ∷ used_of used ws) e)
    lower false ih e = ih

    by_case : (b : Bool) → used_of used (insert z ws) ≡ insert z (used_of used ws) → ltb w.date z.date ≡ b → used_of used (cond b (w ∷ insert z ws) (z ∷ w ∷ ws)) ≡ insert z (used_of used (w ∷ ws))
    by_case true ih e = lower (used w.entry) ih e
    by_case false ih e = yes (used z.entry) (z ∷ used_of used (w ∷ ws)) (used_of used (w ∷ ws)) is
        ∙ sym (insert_low z (used_of used (w ∷ ws)) (each_filter (λ v. z.date ≤ v.date) (λ v. used v.entry) (w ∷ ws) (low (ltb-false w.date z.date e))))

  unused_insert : (used : A ⊎ B → Bool) (z : Dated (A ⊎ B)) (ws : List (Dated (A ⊎ B))) → used z.entry ≡ false → used_of used (insert z ws) ≡ used_of used ws
  unused_insert used z [] is = no_ (used z.entry) (z ∷ []) [] is
  unused_insert used z (w ∷ ws) is = by_case (ltb w.date z.date) (unused_insert used z ws is) where
    by_case : (b : Bool) → used_of used (insert z ws) ≡ used_of used ws → used_of used (cond b (w ∷ insert z ws) (z ∷ w ∷ ws)) ≡ used_of used (w ∷ ws)
    by_case true ih = ap (λ (l : List (Dated (A ⊎ B))). cond (used w.entry) (w ∷ l) l) ih
    by_case false ih = no_ (used z.entry) (z ∷ used_of used (w ∷ ws)) (used_of used (w ∷ ws)) is

  low_of_other : (xs : List (Dated A)) (d : ℕ) (ws : List (Dated B)) → Each (λ x. d < x.date) ws → Each (λ (w : Dated (A ⊎ B)). d ≤ w.date) (of_other ws)
  low_of_other xs d [] a = tt
  low_of_other xs d (w ∷ ws) a = let l = a.0 in (omega (arith, l), low_of_other xs d ws a.1)

  of_other_in_order : (xs : List (Dated A)) (ys : List (Dated B)) → AreHigher ys → AreInOrder (of_other ys)
  of_other_in_order xs [] h = tt
  of_other_in_order xs (y ∷ ys) h = (low_of_other xs y.date ys h.0, of_other_in_order xs ys h.1)

  merged_in_order : (xs : List (Dated A)) (ys : List (Dated B)) → AreHigher ys → AreInOrder (merged xs ys)
  merged_in_order [] ys h = of_other_in_order [] ys h
  merged_in_order (x ∷ xs) ys h = in_order_insert (dated x.date (inl x.entry)) (merged xs ys) (merged_in_order xs ys h)

  pub others_merged : (xs : List (Dated A)) (ys : List (Dated B)) → others (merged xs ys) ≡ ys
  others_merged [] [] = refl
  others_merged [] (y ∷ ys) = ap (λ (l : List (Dated B)). y ∷ l) (others_merged [] ys)
  others_merged (x ∷ xs) ys = others_insert x.date x.entry (merged xs ys) ∙ others_merged xs ys

  ones_none : (ys : List (Dated B)) → ones (of_other ys) ≡ []
  ones_none [] = refl
  ones_none (y ∷ ys) = ones_none ys

  others_none : (xs : List (Dated A)) → others (of_one xs) ≡ []
  others_none [] = refl
  others_none (x ∷ xs) = others_none xs

  pub ones_merged : (xs : List (Dated A)) (ys : List (Dated B)) → AreHigher xs → ones (merged xs ys) ≡ xs
  ones_merged [] ys h = ones_none ys
  ones_merged (x ∷ xs) ys h = ones_insert x.date x.entry (merged xs ys) (subst (Each (λ y. x.date < y.date)) (sym (ones_merged xs ys h.1)) h.0)
      ∙ ap (λ (l : List (Dated A)). x ∷ l) (ones_merged xs ys h.1)

  -- a list of higher and higher dates is what its parts are merged to
  insert_first : (z : Dated (A ⊎ B)) (ws : List (Dated (A ⊎ B))) → Each (λ w. z.date < w.date) ws → insert z ws ≡ z ∷ ws
  insert_first z ws a = insert_low z ws (each_weak (λ w. z.date < w.date) (λ w. z.date ≤ w.date) (λ w l. omega (arith, l)) ws a)

  ones_each : (d : ℕ) (zs : List (Dated (A ⊎ B))) → Each (λ z. d < z.date) zs → Each (λ x. d < x.date) (ones zs)
  ones_each d [] a = tt
  ones_each d (z ∷ zs) a = by_case z.entry (ones_each d zs a.1) a.0 where
    by_case : (s : A ⊎ B) → Each (λ x. d < x.date) (ones zs) → d < z.date → Each (λ x. d < x.date) (one_in z.date s (ones zs))
    by_case (inl x) ih l = (l, ih)
    by_case (inr y) ih l = ih

  merged_first : (y : Dated B) (xs : List (Dated A)) (ys : List (Dated B)) → Each (λ x. y.date < x.date) xs → merged xs (y ∷ ys) ≡ dated y.date (inr y.entry) ∷ merged xs ys
  merged_first y [] ys a = refl
  merged_first y (x ∷ xs) ys a = ap (insert (dated x.date (inl x.entry))) (merged_first y xs ys a.1)
      ∙ yes (ltb y.date x.date) (dated y.date (inr y.entry) ∷ merged (x ∷ xs) ys) (dated x.date (inl x.entry) ∷ dated y.date (inr y.entry) ∷ merged xs ys) (lt-ltb y.date x.date a.0)

  merged_parts : (us : List (Dated (A ⊎ B))) → AreHigher us → merged (ones us) (others us) ≡ us
  merged_parts [] h = refl
  merged_parts (u ∷ us) h = by_case u.date u.entry (merged_parts us h.1) h.0 where
    by_case : (d : ℕ) (s : A ⊎ B) → merged (ones us) (others us) ≡ us → Each (λ w. d < w.date) us → merged (one_in d s (ones us)) (other_in d s (others us)) ≡ dated d s ∷ us
    by_case d (inl a) ih above = ap (insert (dated d (inl a))) ih ∙ insert_first (dated d (inl a)) us above
    by_case d (inr b) ih above = merged_first (dated d b) (ones us) (others us) (ones_each d us above) ∙ ap (λ (l : List (Dated (A ⊎ B))). dated d (inr b) ∷ l) ih

  module _ (used : A ⊎ B → Bool) where
    abbrev one_used : List (Dated A) → List (Dated A)
    one_used = filter (λ x. used (inl x.entry))

    abbrev other_used : List (Dated B) → List (Dated B)
    other_used = filter (λ y. used (inr y.entry))

    used_of_other : (ys : List (Dated B)) → used_of used (of_other ys) ≡ of_other (other_used ys)
    used_of_other [] = refl
    used_of_other (y ∷ ys) = by_case (used (inr y.entry)) (used_of_other ys) where
      by_case : (b : Bool) → used_of used (of_other ys) ≡ of_other (other_used ys) → cond b (dated y.date (inr y.entry) ∷ used_of used (of_other ys)) (used_of used (of_other ys)) ≡ of_other (cond b (y ∷ other_used ys) (other_used ys))
      by_case true ih = ap (λ (l : List (Dated (A ⊎ B))). dated y.date (inr y.entry) ∷ l) ih
      by_case false ih = ih

    used_of_one : (xs : List (Dated A)) → used_of used (of_one xs) ≡ of_one (one_used xs)
    used_of_one [] = refl
    used_of_one (x ∷ xs) = by_case (used (inl x.entry)) (used_of_one xs) where
      by_case : (b : Bool) → used_of used (of_one xs) ≡ of_one (one_used xs) → cond b (dated x.date (inl x.entry) ∷ used_of used (of_one xs)) (used_of used (of_one xs)) ≡ of_one (cond b (x ∷ one_used xs) (one_used xs))
      by_case true ih = ap (λ (l : List (Dated (A ⊎ B))). dated x.date (inl x.entry) ∷ l) ih
      by_case false ih = ih

    used_merged : (xs : List (Dated A)) (ys : List (Dated B)) → AreHigher ys → used_of used (merged xs ys) ≡ merged (one_used xs) (other_used ys)
    used_merged [] ys h = used_of_other ys
    used_merged (x ∷ xs) ys h = by_case (used (inl x.entry)) (used_merged xs ys h) refl where
      z : Dated (A ⊎ B)
      z = dated x.date (inl x.entry)

      by_case : (b : Bool) → used_of used (merged xs ys) ≡ merged (one_used xs) (other_used ys) → used (inl x.entry) ≡ b → used_of used (insert z (merged xs ys)) ≡ merged (cond b (x ∷ one_used xs) (one_used xs)) (other_used ys)
      by_case true ih e = used_insert used z (merged xs ys) e (merged_in_order xs ys h) ∙ ap (insert z) ih
      by_case false ih e = unused_insert used z (merged xs ys) e ∙ ih

    -- what rises and has these parts is what is used of both
    pub used_is : (xs : List (Dated A)) (ys : List (Dated B)) (us : List (Dated (A ⊎ B))) → AreHigher ys → AreHigher us → ones us ≡ one_used xs → others us ≡ other_used ys → used_of used (merged xs ys) ≡ us
    used_is xs ys us h rise one other = used_merged xs ys h ∙ (ap₂ merged (sym one) (sym other) ∙ merged_parts us rise)

    ones_append : (us vs : List (Dated (A ⊎ B))) → ones (us ++ vs) ≡ ones us ++ ones vs
    ones_append [] vs = refl
    ones_append (u ∷ us) vs = by_case u.date u.entry (ones_append us vs) where
      by_case : (d : ℕ) (s : A ⊎ B) → ones (us ++ vs) ≡ ones us ++ ones vs → one_in d s (ones (us ++ vs)) ≡ one_in d s (ones us) ++ ones vs
      by_case d (inl a) e = ap (λ (l : List (Dated A)). dated d a ∷ l) e
      by_case d (inr b) e = e

    others_append : (us vs : List (Dated (A ⊎ B))) → others (us ++ vs) ≡ others us ++ others vs
    others_append [] vs = refl
    others_append (u ∷ us) vs = by_case u.date u.entry (others_append us vs) where
      by_case : (d : ℕ) (s : A ⊎ B) → others (us ++ vs) ≡ others us ++ others vs → other_in d s (others (us ++ vs)) ≡ other_in d s (others us) ++ others vs
      by_case d (inl a) e = e
      by_case d (inr b) e = ap (λ (l : List (Dated B)). dated d b ∷ l) e

    ones_all : (xs : List (Dated A)) → ones (of_one xs) ≡ xs
    ones_all [] = refl
    ones_all (x ∷ xs) = ap (λ (l : List (Dated A)). x ∷ l) (ones_all xs)

    others_all : (ys : List (Dated B)) → others (of_other ys) ≡ ys
    others_all [] = refl
    others_all (y ∷ ys) = ap (λ (l : List (Dated B)). y ∷ l) (others_all ys)

    pub takes_ones : (xs : List (Dated A)) (ys : List (Dated B)) (us : List (Dated (A ⊎ B))) → Takes used xs ys us → ones us ≡ one_used xs
    takes_ones _ _ _ takes_none = refl
    takes_ones _ _ _ (takes_of_one xs more ys us above t) = ones_append us (used_of used (of_one more))
        ∙ (ap₂ (λ (l m : List (Dated A)). l ++ m) (takes_ones xs ys us t) (ap ones (used_of_one more) ∙ ones_all (one_used more)) ∙ sym (filter-append (λ x. used (inl x.entry)) xs more))
    takes_ones _ _ _ (takes_of_other xs ys more us above t) = ones_append us (used_of used (of_other more))
        ∙ (ap (λ (l : List (Dated A)). ones us ++ l) (ap ones (used_of_other more) ∙ ones_none (other_used more)) ∙ (append-nil (ones us) ∙ takes_ones xs ys us t))

    pub takes_others : (xs : List (Dated A)) (ys : List (Dated B)) (us : List (Dated (A ⊎ B))) → Takes used xs ys us → others us ≡ other_used ys
    takes_others _ _ _ takes_none = refl
    takes_others _ _ _ (takes_of_one xs more ys us above t) = others_append us (used_of used (of_one more))
        ∙ (ap (λ (l : List (Dated B)). others us ++ l) (ap others (used_of_one more) ∙ others_none (one_used more)) ∙ (append-nil (others us) ∙ takes_others xs ys us t))
    takes_others _ _ _ (takes_of_other xs ys more us above t) = others_append us (used_of used (of_other more))
        ∙ (ap₂ (λ (l m : List (Dated B)). l ++ m) (takes_others xs ys us t) (ap others (used_of_other more) ∙ others_all (other_used more)) ∙ sym (filter-append (λ y. used (inr y.entry)) ys more))

    each_front : {C : Type 0} (P : C → Type 0) (xs ys : List C) → Each P (xs ++ ys) → Each P xs
    each_front P [] ys a = tt
    each_front P (x ∷ xs) ys a = (a.0, each_front P xs ys a.1)

    higher_append : {C : Type 0} (us vs : List (Dated C)) → AreHigher us → AreHigher vs → Each (λ v. Each (λ u. u.date < v.date) us) vs → AreHigher (us ++ vs)
    higher_append [] vs h i a = i
    higher_append (u ∷ us) vs h i a = (
      each_append (λ v. u.date < v.date) us vs h.0 (each_weak (λ v. Each (λ w. w.date < v.date) (u ∷ us)) (λ v. u.date < v.date) (λ v b. b.0) vs a),
      higher_append us vs h.1 i (each_weak (λ v. Each (λ w. w.date < v.date) (u ∷ us)) (λ v. Each (λ w. w.date < v.date) us) (λ v b. b.1) vs a),
    )

    higher_front : {C : Type 0} (us vs : List (Dated C)) → AreHigher (us ++ vs) → AreHigher us
    higher_front [] vs h = tt
    higher_front (u ∷ us) vs h = (each_front (λ v. u.date < v.date) us vs h.0, higher_front us vs h.1)

    higher_back : {C : Type 0} (us vs : List (Dated C)) → AreHigher (us ++ vs) → AreHigher vs
    higher_back [] vs h = h
    higher_back (u ∷ us) vs h = higher_back us vs h.1

    higher_filter : {C : Type 0} (test : Dated C → Bool) (us : List (Dated C)) → AreHigher us → AreHigher (filter test us)
    higher_filter test [] h = tt
    higher_filter {C} test (u ∷ us) h = by_case (test u) (higher_filter test us h.1) where
      by_case : (b : Bool) → AreHigher (filter test us) → AreHigher (cond b (u ∷ filter test us) (filter test us))
      by_case true ih = (each_filter (λ v. u.date < v.date) test us h.0, ih)
      by_case false ih = ih

    above_of_one : (d : ℕ) (ws : List (Dated A)) → Each (λ w. d < w.date) ws → Each (λ (w : Dated (A ⊎ B)). d < w.date) (of_one ws)
    above_of_one d [] a = tt
    above_of_one d (w ∷ ws) a = (a.0, above_of_one d ws a.1)

    higher_of_one : (xs : List (Dated A)) → AreHigher xs → AreHigher (of_one {B = B} xs)
    higher_of_one [] h = tt
    higher_of_one (x ∷ xs) h = (above_of_one x.date xs h.0, higher_of_one xs h.1)

    above_of_other : (d : ℕ) (ws : List (Dated B)) → Each (λ w. d < w.date) ws → Each (λ (w : Dated (A ⊎ B)). d < w.date) (of_other ws)
    above_of_other d [] a = tt
    above_of_other d (w ∷ ws) a = (a.0, above_of_other d ws a.1)

    higher_of_other : (ys : List (Dated B)) → AreHigher ys → AreHigher (of_other {A = A} ys)
    higher_of_other [] h = tt
    higher_of_other (y ∷ ys) h = (above_of_other y.date ys h.0, higher_of_other ys h.1)

    -- so the entries that a place used, as it took them, are of higher and higher dates
    pub takes_rise : (xs : List (Dated A)) (ys : List (Dated B)) (us : List (Dated (A ⊎ B))) → Takes used xs ys us → AreHigher xs → AreHigher ys → AreHigher us
    takes_rise _ _ _ takes_none h i = tt
    takes_rise _ _ _ (takes_of_one xs more ys us above t) h i = higher_append us (used_of used (of_one more)) (takes_rise xs ys us t (higher_front xs more h) i)
        (higher_filter (λ u. used u.entry) (of_one more) (higher_of_one more (higher_back xs more h))) above
    takes_rise _ _ _ (takes_of_other xs ys more us above t) h i = higher_append us (used_of used (of_other more)) (takes_rise xs ys us t h (higher_front ys more i))
        (higher_filter (λ u. used u.entry) (of_other more) (higher_of_other more (higher_back ys more i))) above
