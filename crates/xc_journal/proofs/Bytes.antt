-- The parts of a record have their lengths.
use Rattle.std.proofs.Common.{◌≡◌, ◌≤◌, ℕ, Bool, true, false, nat_lt, not, ◌&&◌, List, [], ◌∷◌, ◌++◌, length, take, drop, get_or, append_assoc, length-append, length-drop, refl, sym, ◌∙◌, ap, arith}
use borrow.Rule.Slice.PartMut.{put_mid}
use Rattle.std.proofs.lemmas.List.{drop_at, take_at}
use Rattle.dxc_model.specs.declared.op.Change.{Change}
use Rattle.dxc_model.specs.declared.op.Change.TheVariants.{Enter, Delete, Edit, EnterModule, DeleteModule, TakeOut, PutBack}
use Rattle.dxc_model.specs.Labels.{are_label_bytes, is_label}
use Rattle.roll_plan.specs.declared.op.Chain.TheVariants.{Direct, Row, Column}
use Rattle.roll_plan.specs.declared.op.Chain.{Chain}
use Rattle.roll_plan.specs.declared.op.Choice.{Choice}
use Rattle.xc_journal.specs.Spelling.{spelling, front, change_bytes, choice_bytes, chain_bytes, label_bytes, label_of, label_zeros, zeros}

abbrev pub six : List ℕ → List ℕ
six l = get_or l 0 0 ∷ get_or l 1 0 ∷ get_or l 2 0 ∷ get_or l 3 0 ∷ get_or l 4 0 ∷ get_or l 5 0 ∷ []

abbrev pub three : List ℕ → List ℕ
three l = get_or l 0 0 ∷ get_or l 1 0 ∷ get_or l 2 0 ∷ []

change_six : (change : Change) → six (change_bytes change) ≡ change_bytes change
change_six (Enter c) = refl
change_six (Delete c) = refl
change_six (Edit c) = refl
change_six (EnterModule m) = refl
change_six (DeleteModule m) = refl
change_six (TakeOut m) = refl
change_six (PutBack m) = refl

chain_three : (m : ℕ) (chain : Chain) → three (m ∷ chain_bytes chain) ≡ m ∷ chain_bytes chain
chain_three m Direct = refl
chain_three m (Row o) = refl
chain_three m (Column o) = refl

choice_three : (l : List Choice) → three (choice_bytes l) ≡ choice_bytes l
choice_three [] = refl
choice_three (c ∷ l) = chain_three c.middle.0 c.chain

abbrev pub join : List ℕ → ℕ → List ℕ → List ℕ → List ℕ
join c n a b = 165 ∷ c ++ n ∷ [] ++ a ++ b

pub joins : (change : Change) (l : List Choice) → join (six (change_bytes change)) (length l) (three (choice_bytes l)) (three (choice_bytes (drop 1 l))) ≡ front change l
joins change l =
    ap (λ (c : List ℕ). join c (length l) (three (choice_bytes l)) (three (choice_bytes (drop 1 l)))) (change_six change)
    ∙ ap (λ (a : List ℕ). join (change_bytes change) (length l) a (three (choice_bytes (drop 1 l)))) (choice_three l)
    ∙ ap (λ (b : List ℕ). join (change_bytes change) (length l) (choice_bytes l) b) (choice_three (drop 1 l))

sized : (c : List ℕ) (n : ℕ) (a b : List ℕ) → length (join (six c) n (three a) (three b)) ≡ 14
sized c n a b = refl

pub front_size : (change : Change) (l : List Choice) → length (front change l) ≡ 14
front_size change l = ap length (sym (joins change l)) ∙ sized (change_bytes change) (length l) (choice_bytes l) (choice_bytes (drop 1 l))

few_by : (x b : Bool) (n : ℕ) → nat_lt 24 n ≡ x → not x && b ≡ true → n ≤ 24
few_by true b n test is = absurd cc
few_by false b n test is = grind (arith, test)

-- a label has at most 24 bytes
pub label_few : (t : List ℕ) → is_label t ≡ true → length t ≤ 24
label_few t is = few_by (nat_lt 24 (length t)) (are_label_bytes t) (length t) refl is

pub label_size : (t : List ℕ) → length t ≤ 24 → length (label_bytes t) ≡ 25
label_size t le = let a = length-append t (drop (length t) label_zeros) in let b = length-drop (length t) label_zeros in omega arith

pub spelling_size : (change : Change) (l : List Choice) → is_label (label_of change) ≡ true → length (spelling change l) ≡ 64
spelling_size change l is =
    let a = length-append (front change l ++ label_bytes (label_of change)) zeros in
    let b = length-append (front change l) (label_bytes (label_of change)) in
    let c = front_size change l in
    let d = label_size (label_of change) (label_few (label_of change) is) in
    omega arith

-- the label's bytes, put after what is in front of them
pub filled : (f l ys zs : List ℕ) → length f ≡ 15 → length l ≡ 24 → length ys ≡ 24 → put_mid 15 24 (f ++ (ys ++ zs)) l ≡ (f ++ l) ++ zs
filled f l ys zs a b d = rw (take_at f (ys ++ zs) 15 a, drop_at f (ys ++ zs) 15 a, drop_at ys zs 24 d, append_assoc f l zs) refl

pub part_size : (f ys zs : List ℕ) → length f ≡ 15 → length ys ≡ 24 → length (take 24 (drop 15 (f ++ (ys ++ zs)))) ≡ 24
part_size f ys zs a d = rw (drop_at f (ys ++ zs) 15 a, take_at ys zs 24 d) d
