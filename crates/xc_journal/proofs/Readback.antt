-- What is spelled is read back.
use Rattle.std.proofs.Common.{◌≡◌, ℕ, ◌≤◌, Bool, true, false, List, [], ◌∷◌, ◌++◌, length, take, drop, get_or, Some, None, option_map, slice_index, if◌then◌else◌, append_assoc, refl, sym, ◌∙◌, ap, arith}
use Rattle.std.proofs.lemmas.List.{take_at}
use Rattle.byteorder.specs.Endian.{big_number}
use Rattle.byteorder.specs.Numbers.{big_number-reads_back}
use Rattle.dxc_num.specs.declared.port.Port.{Port}
use Rattle.dxc_model.specs.declared.conn.Cct.{Cct}
use Rattle.dxc_model.specs.declared.conn.Cct.TheVariants.{OneWay, TwoWay}
use Rattle.dxc_model.specs.declared.conn.Conn.{Conn}
use Rattle.dxc_model.specs.declared.op.Change.{Change}
use Rattle.dxc_model.specs.declared.op.Change.TheVariants.{Enter, Delete, Edit, EnterModule, DeleteModule, TakeOut, PutBack}
use Rattle.dxc_model.specs.Labels.{as_label, is_label}
use Rattle.dxc_model.specs.Tables.{legs_between}
use Rattle.roll_plan.specs.declared.op.Chain.{Chain}
use Rattle.roll_plan.specs.declared.op.Chain.TheVariants.{Direct, Row, Column}
use Rattle.roll_plan.specs.declared.op.Choice.{Choice}
use Rattle.xc_journal.specs.Spelling.{spelling, change_bytes, cct_byte, chain_bytes, choice_bytes, label_bytes, label_of, label_zeros, zeros}
use Rattle.xc_journal.specs.Entries.{FitsChange, MayChoose, IsEntry}
use Rattle.xc_journal.specs.Reading.{read_cct, read_label, read_conn, read_change, read_chain, read_choice, read_choices}
use Rattle.xc_journal.proofs.Bytes.{join, joins, six, three}

cct_back : (c : Cct) → read_cct (cct_byte c) ≡ c
cct_back OneWay = refl
cct_back TwoWay = refl

labelled : (b : Bool) (t : List ℕ) → b ≡ true → (if b then Some t else None) ≡ Some t
labelled b t is = rw is refl

taken : (t d z : List ℕ) → take (length t) ((t ++ d) ++ z) ≡ t
taken t d z = ap (take (length t)) (append_assoc t d z) ∙ take_at t (d ++ z) (length t) refl

label_back : (change : Change) (l : List Choice) → is_label (label_of change) ≡ true → read_label (spelling change l) ≡ Some (label_of change)
label_back change l is = let t = label_of change in
    ap (λ (f : List ℕ). read_label ((f ++ label_bytes t) ++ zeros)) (sym (joins change l))
    ∙ ap as_label (taken t (drop (length t) label_zeros) zeros)
    ∙ labelled (is_label t) t is

conn_from : (s : List ℕ) (c : Conn) → read_label s ≡ Some c.label → big_number 2 (drop 2 s) ≡ c.from.0 → big_number 2 (drop 4 s) ≡ c.to.0 → read_cct (slice_index s 6) ≡ c.cct → read_conn s ≡ Some c
conn_from s c label from to cct = rw (label, from, to, cct) refl

pub change_back : (change : Change) (l : List Choice) → FitsChange change → read_change (spelling change l) ≡ Some change
change_back (Enter c) l fits = let s = spelling (Enter c) l in ap (option_map Enter) (conn_from s c (label_back (Enter c) l fits.2) (big_number-reads_back 2 c.from.0 (drop 4 s) fits.0) (big_number-reads_back 2 c.to.0 (drop 6 s) fits.1) (cct_back c.cct))
change_back (Delete c) l fits = let s = spelling (Delete c) l in ap (option_map Delete) (conn_from s c (label_back (Delete c) l fits.2) (big_number-reads_back 2 c.from.0 (drop 4 s) fits.0) (big_number-reads_back 2 c.to.0 (drop 6 s) fits.1) (cct_back c.cct))
change_back (Edit c) l fits = let s = spelling (Edit c) l in ap (option_map Edit) (conn_from s c (label_back (Edit c) l fits.2) (big_number-reads_back 2 c.from.0 (drop 4 s) fits.0) (big_number-reads_back 2 c.to.0 (drop 6 s) fits.1) (cct_back c.cct))
change_back (EnterModule m) l fits = ap (λ (n : ℕ). Some (EnterModule n)) (big_number-reads_back 2 m (drop 4 (spelling (EnterModule m) l)) fits)
change_back (DeleteModule m) l fits = ap (λ (n : ℕ). Some (DeleteModule n)) (big_number-reads_back 2 m (drop 4 (spelling (DeleteModule m) l)) fits)
change_back (TakeOut m) l fits = refl
change_back (PutBack m) l fits = refl

chain_back : (chain : Chain) → read_chain (get_or (chain_bytes chain) 0 0) (get_or (chain_bytes chain) 1 0) ≡ chain
chain_back Direct = refl
chain_back (Row m) = refl
chain_back (Column m) = refl

choice_back : (c : Choice) (cs : List Choice) → read_choice (get_or (choice_bytes (c ∷ cs)) 0 0) (get_or (choice_bytes (c ∷ cs)) 1 0) (get_or (choice_bytes (c ∷ cs)) 2 0) ≡ c
choice_back c cs = rw (chain_back c.chain) refl

joined : (change : Change) (l : List Choice) → spelling change l ≡ (join (six (change_bytes change)) (length l) (three (choice_bytes l)) (three (choice_bytes (drop 1 l))) ++ label_bytes (label_of change)) ++ zeros
joined change l = ap (λ (f : List ℕ). (f ++ label_bytes (label_of change)) ++ zeros) (sym (joins change l))

pub choices_back : (change : Change) (l : List Choice) → length l ≤ 2 → read_choices (spelling change l) ≡ l
choices_back change [] le = ap read_choices (joined change [])
choices_back change (c ∷ []) le = ap read_choices (joined change (c ∷ [])) ∙ ap (λ (x : Choice). x ∷ []) (choice_back c [])
choices_back change (c ∷ d ∷ []) le = ap read_choices (joined change (c ∷ d ∷ [])) ∙ ap (λ (x : Choice). x ∷ read_choice (get_or (choice_bytes (d ∷ [])) 0 0) (get_or (choice_bytes (d ∷ [])) 1 0) (get_or (choice_bytes (d ∷ [])) 2 0) ∷ []) (choice_back c (d ∷ [])) ∙ ap (λ (x : Choice). c ∷ x ∷ []) (choice_back d [])
choices_back change (c ∷ d ∷ e ∷ l) le = absurd (omega (arith, le))

few : (x y : Port) (c : Cct) → length (legs_between x y c) ≤ 2
few x y OneWay = omega arith
few x y TwoWay = omega arith

pub few_choices : (change : Change) (n : ℕ) → MayChoose change n → n ≤ 2
few_choices (Enter c) n may = let le = few c.from c.to c.cct in omega arith
few_choices (Delete c) n may = let le = few c.from c.to c.cct in omega arith
few_choices (Edit c) n may = omega arith
few_choices (EnterModule m) n may = omega arith
few_choices (DeleteModule m) n may = omega arith
few_choices (TakeOut m) n may = omega arith
few_choices (PutBack m) n may = omega arith

pub some_same : (c d : Change) → Some c ≡ Some d → c ≡ d
some_same c d e = cc

pub changes_same : (c d : Change) (l m : List Choice) → FitsChange c → FitsChange d → spelling c l ≡ spelling d m → c ≡ d
changes_same c d l m one other same = some_same c d (sym (change_back c l one) ∙ ap read_change same ∙ change_back d m other)

pub choices_same : (c d : Change) (l m : List Choice) → MayChoose c (length l) → MayChoose d (length m) → spelling c l ≡ spelling d m → l ≡ m
choices_same c d l m one other same = sym (choices_back c l (few_choices c (length l) one)) ∙ ap read_choices same ∙ choices_back d m (few_choices d (length m) other)

-- the change of an entry has a label, which is the empty one where it isn't of a connection
pub labels_fit : (change : Change) → FitsChange change → is_label (label_of change) ≡ true
labels_fit (Enter c) fits = fits.2
labels_fit (Delete c) fits = fits.2
labels_fit (Edit c) fits = fits.2
labels_fit (EnterModule m) fits = refl
labels_fit (DeleteModule m) fits = refl
labels_fit (TakeOut m) fits = refl
labels_fit (PutBack m) fits = refl

-- bytes that spell an entry are read as it
pub entry_read : (v : ℕ) (bytes : List ℕ) (change : Change) (l : List Choice) → IsEntry v change l → bytes ≡ spelling change l → (read_change bytes ≡ Some change) × (read_choices bytes ≡ l)
entry_read v bytes change l e is = (ap read_change is ∙ change_back change l e.fits, ap read_choices is ∙ choices_back change l (few_choices change (length l) e.number))

pub never : {b : Bool} → b ≡ false → b ≡ true → ⊥
never off on = absurd cc

pub no_change : {c : Change} → None ≡ Some c → ⊥
no_change e = cc
