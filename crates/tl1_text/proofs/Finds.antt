-- What the walk reads, the grammar allows.
use Rattle.std.proofs.Common.{◌≡◌, ℕ, Bool, true, false, List, [], ◌∷◌, ◌++◌, ◌⊎◌, inl, inr, ◌&&◌, ◌==◌, if◌then◌else◌, Option, Some, None, refl, sym, ap, subst, append_assoc, append-nil, arith}
use Rattle.std.specs.Option.{option_map, option_and_then}
use Rattle.std.specs.List.{list_all}
use Rattle.std.proofs.lemmas.Bool.Decides.{nat_tests}
use Rattle.tl1_text.specs.Places.{Place, Start, Plain, Quoted, Closed}
use Rattle.tl1_text.specs.Grammar.{is_plain, is_inner, IsParam, plain, quoted, last_param, more_params, Block, AreBlocks, last_block, more_blocks}
use Rattle.tl1_text.specs.Walk.{is_outside, after, Rest, nothing, all_blocks, with_colon, with_comma, with_byte, walk}
use Rattle.tl1_text.specs.Values.{Leads, at_start, in_plain, in_quotes, behind_quotes}
use Rattle.tl1_text.proofs.Walks.{both, plain_not}

pub leads_param : (place : Place) (p v : List ℕ) → Leads place p v → is_outside place ≡ true → IsParam p v
leads_param _ _ _ at_start out = plain [] refl
leads_param _ _ _ (in_plain v is) out = plain v is
leads_param _ _ _ (in_quotes v is) out = cc
leads_param _ _ _ (behind_quotes v is) out = quoted v is

pub all_more : (test : ℕ → Bool) (v : List ℕ) (b : ℕ) → list_all test v ≡ true → test b ≡ true → list_all test (v ++ b ∷ []) ≡ true
all_more test [] b all is = rw is (refl)
all_more test (x ∷ v) b all is =
    let parts = both (test x) (list_all test v) all in
    rw (parts.0, all_more test v b parts.1 is) (refl)

-- the value with one byte more, which a quote doesn't add to
abbrev pub valued : List ℕ → ℕ → List ℕ
valued v b = v ++ (if b == 34 then [] else b ∷ [])

start_on : (q a : Bool) (b : ℕ) (next : Place) → (b == 34) ≡ q → is_plain b ≡ a → (if q then Some Quoted else if a then Some Plain else None) ≡ Some next → Leads next (b ∷ []) (if q then [] else b ∷ [])
start_on true a b next q_is a_is is =
    let here : Quoted ≡ next = cc in
    let same : b ≡ 34 = grind (arith, nat_tests, q_is) in
    subst (λ n. Leads n (b ∷ []) []) here (subst (λ (n : ℕ). Leads Quoted (n ∷ []) []) (sym same) (in_quotes [] refl))
start_on false true b next q_is a_is is = let here : Plain ≡ next = cc in subst (λ n. Leads n (b ∷ []) (b ∷ [])) here (in_plain (b ∷ []) (rw a_is (refl)))
start_on false false b next q_is a_is is = cc

plain_on : (a : Bool) (v : List ℕ) (b : ℕ) (next : Place) → list_all is_plain v ≡ true → is_plain b ≡ a → (if a then Some Plain else None) ≡ Some next → Leads next (v ++ b ∷ []) (v ++ b ∷ [])
plain_on true v b next all a_is is = let here : Plain ≡ next = cc in subst (λ n. Leads n (v ++ b ∷ []) (v ++ b ∷ [])) here (in_plain (v ++ b ∷ []) (all_more is_plain v b all a_is))
plain_on false v b next all a_is is = cc

quoted_on : (q a : Bool) (v : List ℕ) (b : ℕ) (next : Place) → list_all is_inner v ≡ true → (b == 34) ≡ q → is_inner b ≡ a → (if q then Some Closed else if a then Some Quoted else None) ≡ Some next
    → Leads next (34 ∷ v ++ b ∷ []) (v ++ (if q then [] else b ∷ []))
quoted_on true a v b next all q_is a_is is =
    let here : Closed ≡ next = cc in
    let same : b ≡ 34 = grind (arith, nat_tests, q_is) in
    subst (λ (l : List ℕ). Leads next (34 ∷ v ++ b ∷ []) l) (sym (append-nil v)) (subst (λ n. Leads n (34 ∷ v ++ b ∷ []) v) here (subst (λ (n : ℕ). Leads Closed (34 ∷ v ++ n ∷ []) v) (sym same) (behind_quotes v all)))
quoted_on false true v b next all q_is a_is is = let here : Quoted ≡ next = cc in subst (λ n. Leads n (34 ∷ v ++ b ∷ []) (v ++ b ∷ [])) here (in_quotes (v ++ b ∷ []) (all_more is_inner v b all a_is))
quoted_on false false v b next all q_is a_is is = cc

plain_was : (a : Bool) (next : Place) → (if a then Some Plain else None) ≡ Some next → a ≡ true
plain_was true next is = refl
plain_was false next is = cc

plain_value : (b : ℕ) (v : List ℕ) → is_plain b ≡ true → valued v b ≡ v ++ b ∷ []
plain_value b v is = let other = (plain_not b is).0 in rw other (refl)

pub leads_on : (place next : Place) (p v : List ℕ) (b : ℕ) → Leads place p v → after place b ≡ Some next → Leads next (p ++ b ∷ []) (valued v b)
leads_on _ next _ _ b at_start is = start_on (b == 34) (is_plain b) b next refl refl is
leads_on _ next _ _ b (in_plain v all) is = subst (λ (l : List ℕ). Leads next (v ++ b ∷ []) l) (sym (plain_value b v (plain_was (is_plain b) next is))) (plain_on (is_plain b) v b next all refl is)
leads_on _ next _ _ b (in_quotes v all) is = quoted_on (b == 34) (is_inner b) v b next all refl refl is
leads_on _ next _ _ b (behind_quotes v all) is = cc

-- a rest with what stands before it in the block in hand
abbrev pub joined : List ℕ → List ℕ → Rest → List Block
joined p v r = record { text = p ++ r.text; values = (v ++ r.value) ∷ r.values } ∷ r.others

pub cases : (c d : Bool) (o1 o2 o3 : Option Rest) (r : Rest) → (if c then o1 else if d then o2 else o3) ≡ Some r → ((c ≡ true) × (o1 ≡ Some r)) ⊎ (((d ≡ true) × (o2 ≡ Some r)) ⊎ (o3 ≡ Some r))
cases true d o1 o2 o3 r is = inl (refl, is)
cases false true o1 o2 o3 r is = inr (inl (refl, is))
cases false false o1 o2 o3 r is = inr (inr is)

pub map_some : {A B : Type 0} (f : A → B) (o : Option A) (y : B) → option_map f o ≡ Some y → (x : A) × ((o ≡ Some x) × (f x ≡ y))
map_some f None y is = cc
map_some f (Some x) y is = (x, (refl, cc))

pub then_some : {A B : Type 0} (f : A → Option B) (o : Option A) (y : B) → option_and_then f o ≡ Some y → (x : A) × ((o ≡ Some x) × (f x ≡ Some y))
then_some f None y is = cc
then_some f (Some x) y is = (x, (refl, is))

mark_is : (out : Bool) (b m : ℕ) → (out && (b == m)) ≡ true → (out ≡ true) × (b ≡ m)
mark_is out b m is = let parts = both out (b == m) is in let same : (b == m) ≡ true = parts.1 in (parts.0, grind (arith, nat_tests, same))

was : (c : Bool) (r : Rest) → (if c then Some nothing else None) ≡ Some r → c ≡ true
was true r is = refl
was false r is = cc

has : (c : Bool) (r : Rest) → (if c then Some nothing else None) ≡ Some r → nothing ≡ r
has true r is = cc
has false r is = cc

ended : (place : Place) (p v : List ℕ) (r : Rest) → Leads place p v → (if is_outside place then Some nothing else None) ≡ Some r → AreBlocks (p ++ []) (joined p v r)
ended place p v r leads is =
    let out : is_outside place ≡ true = was (is_outside place) r is in
    let none : nothing ≡ r = has (is_outside place) r is in
    subst (λ x. AreBlocks (p ++ []) (joined p v x)) none (rw (append-nil p, append-nil v) (last_block p (v ∷ []) (last_param p v (leads_param place p v leads out))))

add_param : (t : List ℕ) (b : Block) (bs : List Block) (p v : List ℕ) → AreBlocks t (b ∷ bs) → IsParam p v → AreBlocks (p ++ 44 ∷ t) (record { text = p ++ 44 ∷ b.text; values = v ∷ b.values } ∷ bs)
add_param _ _ _ p v (last_block text vs are) is = last_block (p ++ 44 ∷ text) (v ∷ vs) (more_params p v text vs is are)
add_param _ _ _ p v (more_blocks text rest vs bs are later) is =
    subst (λ (l : List ℕ). AreBlocks l (record { text = p ++ 44 ∷ text; values = v ∷ vs } ∷ bs)) (append_assoc p (44 ∷ text) (58 ∷ rest))
    (more_blocks (p ++ 44 ∷ text) rest (v ∷ vs) bs (more_params p v text vs is are) later)

pub grow : (q : Bool) (v w : List ℕ) (b : ℕ) → (v ++ (if q then [] else b ∷ [])) ++ w ≡ v ++ (if q then w else b ∷ w)
grow true v w b = ap (λ (l : List ℕ). l ++ w) (append-nil v)
grow false v w b = append_assoc v (b ∷ []) w

pub found : (t : List ℕ) (place : Place) (p v : List ℕ) (r : Rest) → Leads place p v → walk place t ≡ Some r → AreBlocks (p ++ t) (joined p v r)
found [] place p v r leads is = ended place p v r leads is
found (b ∷ t) place p v r leads is =
    elim (cases (is_outside place && (b == 58)) (is_outside place && (b == 44)) (option_map with_colon (walk Start t)) (option_map with_comma (walk Start t)) (option_and_then (λ n. option_map (λ x. with_byte b x) (walk n t)) (after place b)) r is) [
      | inl colon ↦
          let mark = mark_is (is_outside place) b 58 colon.0 in
          let rest = map_some with_colon (walk Start t) r colon.1 in
          subst (λ x. AreBlocks (p ++ b ∷ t) (joined p v x)) rest.1.1
          (subst (λ (n : ℕ). AreBlocks (p ++ n ∷ t) (joined p v (with_colon rest.0))) (sym mark.1)
          (rw (append-nil p, append-nil v) (more_blocks p t (v ∷ []) (all_blocks rest.0) (last_param p v (leads_param place p v leads mark.0)) (found t Start [] [] rest.0 at_start rest.1.0))))
      | inr other ↦ elim other [
        | inl comma ↦
            let mark = mark_is (is_outside place) b 44 comma.0 in
            let rest = map_some with_comma (walk Start t) r comma.1 in
            subst (λ x. AreBlocks (p ++ b ∷ t) (joined p v x)) rest.1.1
            (subst (λ (n : ℕ). AreBlocks (p ++ n ∷ t) (joined p v (with_comma rest.0))) (sym mark.1)
            (rw (append-nil v) (add_param t (record { text = rest.0.text; values = rest.0.value ∷ rest.0.values }) rest.0.others p v (found t Start [] [] rest.0 at_start rest.1.0) (leads_param place p v leads mark.0))))
        | inr byte ↦
            let next = then_some (λ n. option_map (λ x. with_byte b x) (walk n t)) (after place b) r byte in
            let rest = map_some (λ x. with_byte b x) (walk next.0 t) r next.1.1 in
            let later = found t next.0 (p ++ b ∷ []) (valued v b) rest.0 (leads_on place next.0 p v b leads next.1.0) rest.1.0 in
            subst (λ x. AreBlocks (p ++ b ∷ t) (joined p v x)) rest.1.1
            (rw (← append_assoc p (b ∷ []) rest.0.text, ← append_assoc p (b ∷ []) t, ← grow (b == 34) v rest.0.value b) later)
      ]
    ]
