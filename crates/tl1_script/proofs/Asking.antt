-- What is written for a change is read again as its operation.
use Rattle.std.proofs.Common.{zero, suc, ◌≡◌, ◌≢◌, ℕ, ◌+◌, ◌-◌, ◌*◌, ◌^◌, ◌/◌, ◌%◌, ◌<◌, ◌≤◌, Bool, true, false, cond, not, ◌||◌, ◌&&◌, ◌==◌, if◌then◌else◌, Option, Some, None, Result, Ok, Err, List, [], ◌∷◌, ◌++◌, codes, decimal, length, get_or, sym, refl, ap, ap₂, ◌∙◌, subst, arith, append_assoc, append-nil}
use Rattle.std.specs.Prelude.{nat_le, nat_lt}
use Rattle.std.proofs.lemmas.Bool.{eqb-true}
use Rattle.std.proofs.lemmas.Bool.Decides.{nat_tests}
use Rattle.std.proofs.lemmas.Nat.{div_below, mod_below}
use Rattle.std.specs.List.{list_all, AllByRecursion}
use Rattle.std.specs.Char.{is_ascii_alphanumeric}
use Rattle.std.proofs.lemmas.Fmt.{decimal_by_steps, first_decimal, length-decimal-le, decimal_nonempty}
use Rattle.dxc_num.specs.declared.port.Port.{Port}
use Rattle.dxc_num.specs.declared.port.Middle.{Middle}
use Rattle.dxc_num.specs.Dimensions.{Dimensions, IsInLimits, IsModule, IsPort, IsWorking, module_of, slot_of, same_port}
use Rattle.dxc_model.specs.declared.cause.Cause.{Cause}
use Rattle.dxc_model.specs.declared.cause.Cause.TheVariants.{BadAid, BadCtag, BadValue, SamePort}
use Rattle.dxc_model.specs.declared.conn.Cct.{Cct}
use Rattle.dxc_model.specs.declared.conn.Cct.TheVariants.{OneWay, TwoWay}
use Rattle.dxc_model.specs.declared.conn.Conn.{Conn}
use Rattle.dxc_model.specs.declared.op.Op.{Op}
use Rattle.dxc_model.specs.declared.op.Op.TheVariants as op
use Rattle.dxc_model.specs.declared.op.Change.{Change}
use Rattle.dxc_model.specs.declared.op.Change.TheVariants.{Enter, Delete, Edit, EnterModule, DeleteModule, TakeOut, PutBack}
use Rattle.dxc_model.specs.declared.user.Class.TheVariants.{S}
use Rattle.dxc_model.specs.declared.user.SessionUser.TheVariants.{User}
use Rattle.dxc_model.specs.Labels.{are_label_bytes, as_label, is_label}
use Rattle.dxc_model.specs.Operations.{ArePorts, IsApt, op_of}
use Rattle.dxc_model.proofs.Bools.{and_true, lt_of}
use Rattle.dxc_model.proofs.Lists.{each_more}
use Rattle.dxc_model.proofs.Places.{false_of}
use Rattle.dxc_aid.specs.Names.{middle_name, middle_named, module_name, module_named, port_name, port_named}
use Rattle.dxc_aid.proofs.Ports.{middle_again, module_again, port_again}
use Rattle.tl1_answer.specs.Texts.{cct_text}
use Rattle.tl1_text.specs.Grammar.{AreBlocks, AreParams, AreWords, Block, IsCommandText, IsParam, IsWord, are_few, is_plain}
use Rattle.tl1_text.specs.Grammar.IsParam.{plain, quoted}
use Rattle.tl1_text.specs.Grammar.AreParams.{last_param, more_params}
use Rattle.tl1_text.specs.Grammar.AreBlocks.{last_block, more_blocks}
use Rattle.tl1_text.specs.Grammar.AreWords.{last_word, more_words}
use Rattle.tl1_text.specs.Tags.{is_alphanumeric, is_ctag, is_zeros}
use Rattle.tl1_command.specs.Codes.{code_named}
use Rattle.tl1_command.specs.Meanings.{Asked, Ends, asks_table, deletes, edits, enters, meaning, or_cause, unless, ◌>>=◌}
use Rattle.tl1_script.specs.Commands.{text_of}
use Rattle.tl1_script.specs.Laws.{Asks, CommandsAskForChanges, IsLabelled}

-- a digit
abbrev IsDigit : ℕ → Type 0
IsDigit b = (48 ≤ b) × (b ≤ 57)

digits : (n : ℕ) → n < 2 ^ 64 → AllByRecursion IsDigit (decimal n)
digits n low = decimal_by_steps (λ m ds. AllByRecursion IsDigit ds)
    (λ m small. ((omega arith, omega arith), tt))
    (λ m ds large more. each_more IsDigit ds (48 + m % 10) more (omega arith, omega arith))
    n low

plain_digit : (b : ℕ) → 48 ≤ b → b ≤ 57 → is_plain b ≡ true
plain_digit b least most = grind (arith, nat_tests)

letter_digit : (b : ℕ) → 48 ≤ b → b ≤ 57 → is_ascii_alphanumeric b ≡ true
letter_digit b least most = grind (arith, nat_tests)

all_of : (P : ℕ → Type 0) (p : ℕ → Bool) → ((b : ℕ) → P b → p b ≡ true) → (bs : List ℕ) → AllByRecursion P bs → list_all p bs ≡ true
all_of P p f [] a = refl
all_of P p f (b ∷ bs) a = ap₂ (λ (x y : Bool). x && y) (f b a.0) (all_of P p f bs a.1)

plain_joined : (xs ys : List ℕ) → list_all is_plain xs ≡ true → list_all is_plain ys ≡ true → list_all is_plain (xs ++ ys) ≡ true
plain_joined [] ys a b = b
plain_joined (x ∷ xs) ys a b = let both = and_true (is_plain x) (list_all is_plain xs) a in ap₂ (λ (y z : Bool). y && z) both.0 (plain_joined xs ys both.1 b)

plain_number : (n : ℕ) → n < 2 ^ 64 → list_all is_plain (decimal n) ≡ true
plain_number n low = all_of IsDigit is_plain (λ b h. plain_digit b h.0 h.1) (decimal n) (digits n low)

not_long : (a b : ℕ) → b ≤ a → nat_lt a b ≡ false
not_long a b h = false_of (nat_lt a b) (λ e. let low = lt_of a b e in omega arith)

not_zero : (b : ℕ) → 48 < b → (b == 48) ≡ false
not_zero b h = grind (arith, nat_tests)

tag_digits : (t : List ℕ) → 0 < length t → length t ≤ 6 → 48 < get_or t 0 0 → AllByRecursion IsDigit t → is_ctag t ≡ true
tag_digits [] some short first all = absurd (omega arith)
tag_digits (b ∷ bs) some short first all =
    ap₂ (λ (x y : Bool). x && y) (ap not (not_long 6 (length (b ∷ bs)) short))
    (ap₂ (λ (x y : Bool). x && not y) (all_of IsDigit is_ascii_alphanumeric (λ c h. letter_digit c h.0 h.1) (b ∷ bs) all) (ap (λ (x : Bool). x && is_zeros bs) (not_zero b first)))

-- a number of one to six digits is a CTAG
number_tag : (n : ℕ) → 1 ≤ n → n < 1000000 → is_ctag (decimal n) ≡ true
number_tag n least most =
    let wide : n < 2 ^ 64 = omega arith in
    tag_digits (decimal n) (decimal_nonempty n wide) (length-decimal-le 6 n (omega arith) most wide) (first_decimal n (omega arith) wide) (digits n wide)

plain_module : (d : Dimensions) (m : ℕ) → IsInLimits d → IsModule d m → list_all is_plain (module_name m) ≡ true
plain_module d m l h = plain_joined (codes "MOD-") (decimal (m + 1)) refl (plain_number (m + 1) (let most = l.most_modules in omega arith))

plain_middle : (d : Dimensions) (m : Middle) → IsInLimits d → IsWorking d m.0 → list_all is_plain (middle_name m) ≡ true
plain_middle d m l h = plain_joined (codes "MID-") (decimal (m.0 + 1)) refl (plain_number (m.0 + 1) (let most = l.most_slots in omega arith))

low_module : (d : Dimensions) (p : Port) → IsInLimits d → IsPort d p → module_of d p < 64
low_module d p l h = let some : 0 < d.slots = omega (arith, l.least_slots) in omega (arith, div_below p.0 d.slots d.modules some h, l.most_modules)

low_slot : (d : Dimensions) (p : Port) → IsInLimits d → slot_of d p < 96
low_slot d p l = let some : 0 < d.slots = omega (arith, l.least_slots) in omega (arith, mod_below p.0 d.slots some, l.most_slots)

plain_port : (d : Dimensions) (p : Port) → IsInLimits d → IsPort d p → list_all is_plain (port_name d p) ≡ true
plain_port d p l h =
    plain_joined (codes "DS0-" ++ decimal (module_of d p + 1) ++ codes "-") (decimal (slot_of d p + 1))
    (plain_joined (codes "DS0-" ++ decimal (module_of d p + 1)) (codes "-") (plain_joined (codes "DS0-") (decimal (module_of d p + 1)) refl (plain_number (module_of d p + 1) (let low = low_module d p l h in omega arith))) refl)
    (plain_number (slot_of d p + 1) (let low = low_slot d p l in omega arith))

abbrev one : List ℕ → Block
one t = record { text = t; values = t ∷ [] }

one_param : (t : List ℕ) → list_all is_plain t ≡ true → AreParams t (t ∷ [])
one_param t p = last_param t t (plain t p)

-- a code of words that are plain
pub record IsCode (code : List ℕ) : Type 0 where
  pub text : list_all is_plain code ≡ true
  pub number : ℕ
  pub words : AreWords code number
  pub few : number ≤ 3

two_words : (a b : List ℕ) → IsWord a → IsWord b → list_all is_plain (a ++ 45 ∷ b) ≡ true → IsCode (a ++ 45 ∷ b)
two_words a b x y p = record { text = p; number = 2; words = more_words a b 1 x (last_word b y); few = omega arith }

three_words : (a b c : List ℕ) → IsWord a → IsWord b → IsWord c → list_all is_plain (a ++ 45 ∷ (b ++ 45 ∷ c)) ≡ true → IsCode (a ++ 45 ∷ (b ++ 45 ∷ c))
three_words a b c x y z p = record { text = p; number = 3; words = more_words a (b ++ 45 ∷ c) 2 x (more_words b c 1 y (last_word c z)); few = omega arith }

abbrev thing_blocks : (code name tag : List ℕ) → List Block
thing_blocks code name tag = one code ∷ one [] ∷ one name ∷ one tag ∷ []

-- a command on one thing
thing_grammar : (code name tag : List ℕ) → IsCode code → list_all is_plain name ≡ true → list_all is_plain tag ≡ true → IsCommandText (code ++ 58 ∷ ([] ++ 58 ∷ (name ++ 58 ∷ tag))) (thing_blocks code name tag)
thing_grammar code name tag c n t = record {
  blocks = more_blocks code ([] ++ 58 ∷ (name ++ 58 ∷ tag)) (code ∷ []) (one [] ∷ one name ∷ one tag ∷ []) (one_param code c.text)
      (more_blocks [] (name ++ 58 ∷ tag) ([] ∷ []) (one name ∷ one tag ∷ []) (one_param [] refl)
      (more_blocks name tag (name ∷ []) (one tag ∷ []) (one_param name n)
      (last_block tag (tag ∷ []) (one_param tag t))));
  least = omega arith;
  most = omega arith;
  few = refl;
  words = c.number;
  code = c.words;
  most_words = c.few;
}

thing_text : (front name tag : List ℕ) → front ++ name ++ codes ":" ++ tag ≡ front ++ (name ++ 58 ∷ tag)
thing_text front name tag = append_assoc (front ++ name) (codes ":") tag ∙ append_assoc front name (58 ∷ tag)

abbrev ends_block : (f t : List ℕ) → Block
ends_block f t = record { text = f ++ 44 ∷ t; values = f ∷ t ∷ [] }

abbrev ends_blocks : (code from_name to_name tag : List ℕ) → Block → List Block
ends_blocks code f t tag pay = one code ∷ one [] ∷ ends_block f t ∷ one tag ∷ one [] ∷ pay ∷ []

-- a command on two ports
ends_grammar : (code f t tag : List ℕ) (pay : Block) → IsCode code → list_all is_plain f ≡ true → list_all is_plain t ≡ true → list_all is_plain tag ≡ true → AreParams pay.text pay.values → are_few pay ≡ true
    → IsCommandText (code ++ 58 ∷ ([] ++ 58 ∷ ((f ++ 44 ∷ t) ++ 58 ∷ (tag ++ 58 ∷ ([] ++ 58 ∷ pay.text))))) (ends_blocks code f t tag pay)
ends_grammar code f t tag pay c x y z p short = record {
  blocks = more_blocks code ([] ++ 58 ∷ ((f ++ 44 ∷ t) ++ 58 ∷ (tag ++ 58 ∷ ([] ++ 58 ∷ pay.text)))) (code ∷ []) (one [] ∷ ends_block f t ∷ one tag ∷ one [] ∷ pay ∷ []) (one_param code c.text)
      (more_blocks [] ((f ++ 44 ∷ t) ++ 58 ∷ (tag ++ 58 ∷ ([] ++ 58 ∷ pay.text))) ([] ∷ []) (ends_block f t ∷ one tag ∷ one [] ∷ pay ∷ []) (one_param [] refl)
      (more_blocks (f ++ 44 ∷ t) (tag ++ 58 ∷ ([] ++ 58 ∷ pay.text)) (f ∷ t ∷ []) (one tag ∷ one [] ∷ pay ∷ []) (more_params f f t (t ∷ []) (plain f x) (one_param t y))
      (more_blocks tag ([] ++ 58 ∷ pay.text) (tag ∷ []) (one [] ∷ pay ∷ []) (one_param tag z)
      (more_blocks [] pay.text ([] ∷ []) (pay ∷ []) (one_param [] refl)
      (last_block pay.text pay.values p)))));
  least = omega arith;
  most = omega arith;
  few = ap (λ (b : Bool). b && true) short;
  words = c.number;
  code = c.words;
  most_words = c.few;
}

-- texts one after the other, from the left and from the right
abbrev leftward : List ℕ → List (List ℕ) → List ℕ
leftward front [] = front
leftward front (t ∷ ts) = leftward (front ++ t) ts

abbrev rightward : List (List ℕ) → List ℕ
rightward [] = []
rightward (t ∷ ts) = t ++ rightward ts

both_ways : (front : List ℕ) (ts : List (List ℕ)) → leftward front ts ≡ front ++ rightward ts
both_ways front [] = sym (append-nil front)
both_ways front (t ∷ ts) = both_ways (front ++ t) ts ∙ append_assoc front t (rightward ts)

bare_text : (front f t tag cct : List ℕ) → front ++ f ++ codes "," ++ t ++ codes ":" ++ tag ++ codes "::" ++ cct ≡ front ++ ((f ++ 44 ∷ t) ++ 58 ∷ (tag ++ 58 ∷ 58 ∷ cct))
bare_text front f t tag cct =
    both_ways front (f ∷ codes "," ∷ t ∷ codes ":" ∷ tag ∷ codes "::" ∷ cct ∷ [])
    ∙ ap (λ (l : List ℕ). front ++ l) (ap (λ (l : List ℕ). f ++ 44 ∷ (t ++ 58 ∷ (tag ++ 58 ∷ 58 ∷ l))) (append-nil cct) ∙ sym (append_assoc f (44 ∷ t) (58 ∷ (tag ++ 58 ∷ 58 ∷ cct))))

abbrev quoted_behind : (cct label : List ℕ) → List ℕ
quoted_behind cct label = cct ++ 44 ∷ 34 ∷ (label ++ 34 ∷ [])

labelled_text : (front f t tag cct label : List ℕ) → front ++ f ++ codes "," ++ t ++ codes ":" ++ tag ++ codes "::" ++ cct ++ codes ",\"" ++ label ++ codes "\"" ≡ front ++ ((f ++ 44 ∷ t) ++ 58 ∷ (tag ++ 58 ∷ 58 ∷ quoted_behind cct label))
labelled_text front f t tag cct label =
    both_ways front (f ∷ codes "," ∷ t ∷ codes ":" ∷ tag ∷ codes "::" ∷ cct ∷ codes ",\"" ∷ label ∷ codes "\"" ∷ [])
    ∙ ap (λ (l : List ℕ). front ++ l) (sym (append_assoc f (44 ∷ t) (58 ∷ (tag ++ 58 ∷ 58 ∷ quoted_behind cct label))))

plain_cct : (w : Cct) → list_all is_plain (cct_text w) ≡ true
plain_cct OneWay = refl
plain_cct TwoWay = refl

abbrev bare_pay : Cct → Block
bare_pay w = one (cct_text w)

abbrev labelled_pay : Cct → List ℕ → Block
labelled_pay w l = record { text = quoted_behind (cct_text w) l; values = cct_text w ∷ l ∷ [] }

labelled_params : (w : Cct) (l : List ℕ) → is_label l ≡ true → AreParams (quoted_behind (cct_text w) l) (cct_text w ∷ l ∷ [])
labelled_params w l h = more_params (cct_text w) (cct_text w) (34 ∷ (l ++ 34 ∷ [])) (l ∷ []) (plain (cct_text w) (plain_cct w)) (last_param (34 ∷ (l ++ 34 ∷ [])) l (quoted l (and_true (not (nat_lt 24 (length l))) (are_label_bytes l) h).1))

label_read : (l : List ℕ) → is_label l ≡ true → as_label l ≡ Some l
label_read l h = ap (λ (b : Bool). if b then Some l else None) h

-- what is asked of a module or of a middle, by what its parts come to
abbrev asked_thing : {X : Type 0} (makes : X → Op) (tag : Bool) (name : Option X) → Result Asked Cause
asked_thing makes tag name = unless (if not tag then Some BadCtag else None) (or_cause name BadAid >>= (λ m. Ok (asks_table (makes m))))

-- and of two ports
abbrev asked_ends : (makes : Ends → Option Cct → List ℕ → Op) (w : Cct) (tag : Bool) (label : Option (List ℕ)) (f t : Option Port) → Result Asked Cause
asked_ends makes w tag label f t = unless (if not tag then Some BadCtag else None)
    (or_cause label BadValue >>= (λ l. (or_cause f BadAid >>= (λ x. or_cause t BadAid >>= (λ y. if same_port x y then Err SamePort else Ok (record { from = x; to = y })))) >>= (λ e. Ok (asks_table (makes e (Some w) l)))))

-- two different ports with their CTAG, as they are written
module _ (d : Dimensions) (n : ℕ) (limits : IsInLimits d) (least : 1 ≤ n) (most : n < 1000000) where
  plain_tag : list_all is_plain (decimal n) ≡ true
  plain_tag = plain_number n (omega arith)

  module _ (x y : Port) (are : ArePorts d x y) where
    apart : same_port x y ≡ false
    apart = false_of (x.0 == y.0) (λ e. are.unequal (eqb-true x.0 y.0 e))

    ends_asked : (makes : Ends → Option Cct → List ℕ → Op) (w : Cct) (l : List ℕ) → is_label l ≡ true → asked_ends makes w (is_ctag (decimal n)) (as_label l) (port_named d (port_name d x)) (port_named d (port_name d y)) ≡ Ok (asks_table (makes (record { from = x; to = y }) (Some w) l))
    ends_asked makes w l h =
        ap₂ (λ (b : Bool) (o : Option (List ℕ)). asked_ends makes w b o (port_named d (port_name d x)) (port_named d (port_name d y))) (number_tag n least most) (label_read l h)
        ∙ (ap₂ (λ (o u : Option Port). asked_ends makes w true (Some l) o u) (port_again d limits x are.from) (port_again d limits y are.to)
        ∙ ap (λ (b : Bool). (if b then Err SamePort else Ok (record { from = x; to = y })) >>= (λ (e : Ends). Ok (asks_table (makes e (Some w) l)))) apart)

    bare_grammar : (code front : List ℕ) (w : Cct) → IsCode code → (rest : List ℕ) → rest ≡ front ++ ((port_name d x ++ 44 ∷ port_name d y) ++ 58 ∷ (decimal n ++ 58 ∷ 58 ∷ cct_text w))
        → front ++ ((port_name d x ++ 44 ∷ port_name d y) ++ 58 ∷ (decimal n ++ 58 ∷ 58 ∷ cct_text w)) ≡ code ++ 58 ∷ ([] ++ 58 ∷ ((port_name d x ++ 44 ∷ port_name d y) ++ 58 ∷ (decimal n ++ 58 ∷ ([] ++ 58 ∷ cct_text w))))
        → IsCommandText rest (ends_blocks code (port_name d x) (port_name d y) (decimal n) (bare_pay w))
    bare_grammar code front w c rest e same = subst (λ (l : List ℕ). IsCommandText l (ends_blocks code (port_name d x) (port_name d y) (decimal n) (bare_pay w))) (sym (e ∙ same))
        (ends_grammar code (port_name d x) (port_name d y) (decimal n) (bare_pay w) c (plain_port d x limits are.from) (plain_port d y limits are.to) plain_tag (one_param (cct_text w) (plain_cct w)) refl)

    labelled_grammar : (code front : List ℕ) (w : Cct) (l : List ℕ) → is_label l ≡ true → IsCode code → (rest : List ℕ) → rest ≡ front ++ ((port_name d x ++ 44 ∷ port_name d y) ++ 58 ∷ (decimal n ++ 58 ∷ 58 ∷ quoted_behind (cct_text w) l))
        → front ++ ((port_name d x ++ 44 ∷ port_name d y) ++ 58 ∷ (decimal n ++ 58 ∷ 58 ∷ quoted_behind (cct_text w) l)) ≡ code ++ 58 ∷ ([] ++ 58 ∷ ((port_name d x ++ 44 ∷ port_name d y) ++ 58 ∷ (decimal n ++ 58 ∷ ([] ++ 58 ∷ quoted_behind (cct_text w) l))))
        → IsCommandText rest (ends_blocks code (port_name d x) (port_name d y) (decimal n) (labelled_pay w l))
    labelled_grammar code front w l h c rest e same = subst (λ (k : List ℕ). IsCommandText k (ends_blocks code (port_name d x) (port_name d y) (decimal n) (labelled_pay w l))) (sym (e ∙ same))
        (ends_grammar code (port_name d x) (port_name d y) (decimal n) (labelled_pay w l) c (plain_port d x limits are.from) (plain_port d y limits are.to) plain_tag (labelled_params w l h) refl)

    enter_code : IsCode (codes "ENT-CRS-T0")
    enter_code = three_words (codes "ENT") (codes "CRS") (codes "T0") (record { some = omega arith; alphanumeric = refl }) (record { some = omega arith; alphanumeric = refl }) (record { some = omega arith; alphanumeric = refl }) refl

    edit_code : IsCode (codes "ED-CRS-T0")
    edit_code = three_words (codes "ED") (codes "CRS") (codes "T0") (record { some = omega arith; alphanumeric = refl }) (record { some = omega arith; alphanumeric = refl }) (record { some = omega arith; alphanumeric = refl }) refl

    delete_code : IsCode (codes "DLT-CRS-T0")
    delete_code = three_words (codes "DLT") (codes "CRS") (codes "T0") (record { some = omega arith; alphanumeric = refl }) (record { some = omega arith; alphanumeric = refl }) (record { some = omega arith; alphanumeric = refl }) refl

    abbrev joined : Cct → List ℕ → Conn
    joined w l = record { from = x; to = y; cct = w; label = l }

    enter_means : (w : Cct) (l : List ℕ) (h : is_label l ≡ true) (sid uid : List ℕ) → meaning d sid (User uid S) (ends_blocks (codes "ENT-CRS-T0") (port_name d x) (port_name d y) (decimal n) (labelled_pay w l)) ≡ Ok (asks_table (op.Enter (joined w l)))
    unfolding meaning code_named
    enter_means OneWay l h sid uid = ends_asked enters OneWay l h
    enter_means TwoWay l h sid uid = ends_asked enters TwoWay l h

    enter_bare : (w : Cct) (sid uid : List ℕ) → meaning d sid (User uid S) (ends_blocks (codes "ENT-CRS-T0") (port_name d x) (port_name d y) (decimal n) (bare_pay w)) ≡ Ok (asks_table (op.Enter (joined w [])))
    unfolding meaning code_named
    enter_bare OneWay sid uid = ends_asked enters OneWay [] refl
    enter_bare TwoWay sid uid = ends_asked enters TwoWay [] refl

    edit_means : (w : Cct) (l : List ℕ) (h : is_label l ≡ true) (sid uid : List ℕ) → meaning d sid (User uid S) (ends_blocks (codes "ED-CRS-T0") (port_name d x) (port_name d y) (decimal n) (labelled_pay w l)) ≡ Ok (asks_table (op.Edit (joined w l)))
    unfolding meaning code_named
    edit_means OneWay l h sid uid = ends_asked edits OneWay l h
    edit_means TwoWay l h sid uid = ends_asked edits TwoWay l h

    edit_bare : (w : Cct) (sid uid : List ℕ) → meaning d sid (User uid S) (ends_blocks (codes "ED-CRS-T0") (port_name d x) (port_name d y) (decimal n) (bare_pay w)) ≡ Ok (asks_table (op.Edit (joined w [])))
    unfolding meaning code_named
    edit_bare OneWay sid uid = ends_asked edits OneWay [] refl
    edit_bare TwoWay sid uid = ends_asked edits TwoWay [] refl

    delete_means : (w : Cct) (sid uid : List ℕ) → meaning d sid (User uid S) (ends_blocks (codes "DLT-CRS-T0") (port_name d x) (port_name d y) (decimal n) (bare_pay w)) ≡ Ok (asks_table (op.Delete x y (Some w)))
    unfolding meaning code_named
    delete_means OneWay sid uid = ends_asked deletes OneWay [] refl
    delete_means TwoWay sid uid = ends_asked deletes TwoWay [] refl

    enter_asks : (w : Cct) (l : List ℕ) → is_label l ≡ true → Asks d (text_of d n (Enter (joined w l))) (op.Enter (joined w l))
    enter_asks w [] h = record {
      blocks = ends_blocks (codes "ENT-CRS-T0") (port_name d x) (port_name d y) (decimal n) (bare_pay w);
      grammar = bare_grammar (codes "ENT-CRS-T0") (codes "ENT-CRS-T0::") w enter_code _ (bare_text (codes "ENT-CRS-T0::") (port_name d x) (port_name d y) (decimal n) (cct_text w)) refl;
      means = enter_bare w;
    }
    enter_asks w (b ∷ bs) h = record {
      blocks = ends_blocks (codes "ENT-CRS-T0") (port_name d x) (port_name d y) (decimal n) (labelled_pay w (b ∷ bs));
      grammar = labelled_grammar (codes "ENT-CRS-T0") (codes "ENT-CRS-T0::") w (b ∷ bs) h enter_code _ (labelled_text (codes "ENT-CRS-T0::") (port_name d x) (port_name d y) (decimal n) (cct_text w) (b ∷ bs)) refl;
      means = enter_means w (b ∷ bs) h;
    }

    edit_asks : (w : Cct) (l : List ℕ) → is_label l ≡ true → Asks d (text_of d n (Edit (joined w l))) (op.Edit (joined w l))
    edit_asks w [] h = record {
      blocks = ends_blocks (codes "ED-CRS-T0") (port_name d x) (port_name d y) (decimal n) (bare_pay w);
      grammar = bare_grammar (codes "ED-CRS-T0") (codes "ED-CRS-T0::") w edit_code _ (bare_text (codes "ED-CRS-T0::") (port_name d x) (port_name d y) (decimal n) (cct_text w)) refl;
      means = edit_bare w;
    }
    edit_asks w (b ∷ bs) h = record {
      blocks = ends_blocks (codes "ED-CRS-T0") (port_name d x) (port_name d y) (decimal n) (labelled_pay w (b ∷ bs));
      grammar = labelled_grammar (codes "ED-CRS-T0") (codes "ED-CRS-T0::") w (b ∷ bs) h edit_code _ (labelled_text (codes "ED-CRS-T0::") (port_name d x) (port_name d y) (decimal n) (cct_text w) (b ∷ bs)) refl;
      means = edit_means w (b ∷ bs) h;
    }

    delete_asks : (w : Cct) (l : List ℕ) → Asks d (text_of d n (Delete (joined w l))) (op.Delete x y (Some w))
    delete_asks w l = record {
      blocks = ends_blocks (codes "DLT-CRS-T0") (port_name d x) (port_name d y) (decimal n) (bare_pay w);
      grammar = bare_grammar (codes "DLT-CRS-T0") (codes "DLT-CRS-T0::") w delete_code _ (bare_text (codes "DLT-CRS-T0::") (port_name d x) (port_name d y) (decimal n) (cct_text w)) refl;
      means = delete_means w;
    }

  module_asked : (makes : ℕ → Op) (m : ℕ) → IsModule d m → asked_thing makes (is_ctag (decimal n)) (module_named d (module_name m)) ≡ Ok (asks_table (makes m))
  module_asked makes m h = ap₂ (λ (b : Bool) (o : Option ℕ). asked_thing makes b o) (number_tag n least most) (module_again d limits m h)

  middle_asked : (makes : Middle → Op) (m : Middle) → IsWorking d m.0 → asked_thing makes (is_ctag (decimal n)) (middle_named d (middle_name m)) ≡ Ok (asks_table (makes m))
  middle_asked makes m h = ap₂ (λ (b : Bool) (o : Option Middle). asked_thing makes b o) (number_tag n least most) (middle_again d limits m h)

  equip_means : (m : ℕ) (h : IsModule d m) (sid uid : List ℕ) → meaning d sid (User uid S) (thing_blocks (codes "ENT-EQPT") (module_name m) (decimal n)) ≡ Ok (asks_table (op.EnterModule m))
  unfolding meaning code_named
  equip_means m h sid uid = module_asked op.EnterModule m h

  unequip_means : (m : ℕ) (h : IsModule d m) (sid uid : List ℕ) → meaning d sid (User uid S) (thing_blocks (codes "DLT-EQPT") (module_name m) (decimal n)) ≡ Ok (asks_table (op.DeleteModule m))
  unfolding meaning code_named
  unequip_means m h sid uid = module_asked op.DeleteModule m h

  take_means : (m : Middle) (h : IsWorking d m.0) (sid uid : List ℕ) → meaning d sid (User uid S) (thing_blocks (codes "RMV-MID") (middle_name m) (decimal n)) ≡ Ok (asks_table (op.TakeOut m))
  unfolding meaning code_named
  take_means m h sid uid = middle_asked op.TakeOut m h

  put_means : (m : Middle) (h : IsWorking d m.0) (sid uid : List ℕ) → meaning d sid (User uid S) (thing_blocks (codes "RST-MID") (middle_name m) (decimal n)) ≡ Ok (asks_table (op.PutBack m))
  unfolding meaning code_named
  put_means m h sid uid = middle_asked op.PutBack m h

  word : (a : List ℕ) → 1 ≤ length a → list_all is_ascii_alphanumeric a ≡ true → IsWord a
  word a some all = record { some = some; alphanumeric = all }

  asks : (c : Change) → IsApt d (op_of c) → IsLabelled c → Asks d (text_of d n c) (op_of c)
  asks (Enter c) are h = enter_asks c.from c.to are c.cct c.label h
  asks (Edit c) are h = edit_asks c.from c.to are c.cct c.label h
  asks (Delete c) are h = delete_asks c.from c.to are c.cct c.label
  asks (EnterModule m) low h = record {
    blocks = thing_blocks (codes "ENT-EQPT") (module_name m) (decimal n);
    grammar = subst (λ (l : List ℕ). IsCommandText l (thing_blocks (codes "ENT-EQPT") (module_name m) (decimal n))) (sym (thing_text (codes "ENT-EQPT::") (module_name m) (decimal n)))
        (thing_grammar (codes "ENT-EQPT") (module_name m) (decimal n) (two_words (codes "ENT") (codes "EQPT") (word _ (omega arith) refl) (word _ (omega arith) refl) refl) (plain_module d m limits low) plain_tag);
    means = equip_means m low;
  }
  asks (DeleteModule m) low h = record {
    blocks = thing_blocks (codes "DLT-EQPT") (module_name m) (decimal n);
    grammar = subst (λ (l : List ℕ). IsCommandText l (thing_blocks (codes "DLT-EQPT") (module_name m) (decimal n))) (sym (thing_text (codes "DLT-EQPT::") (module_name m) (decimal n)))
        (thing_grammar (codes "DLT-EQPT") (module_name m) (decimal n) (two_words (codes "DLT") (codes "EQPT") (word _ (omega arith) refl) (word _ (omega arith) refl) refl) (plain_module d m limits low) plain_tag);
    means = unequip_means m low;
  }
  asks (TakeOut m) low h = record {
    blocks = thing_blocks (codes "RMV-MID") (middle_name m) (decimal n);
    grammar = subst (λ (l : List ℕ). IsCommandText l (thing_blocks (codes "RMV-MID") (middle_name m) (decimal n))) (sym (thing_text (codes "RMV-MID::") (middle_name m) (decimal n)))
        (thing_grammar (codes "RMV-MID") (middle_name m) (decimal n) (two_words (codes "RMV") (codes "MID") (word _ (omega arith) refl) (word _ (omega arith) refl) refl) (plain_middle d m limits low) plain_tag);
    means = take_means m low;
  }
  asks (PutBack m) low h = record {
    blocks = thing_blocks (codes "RST-MID") (middle_name m) (decimal n);
    grammar = subst (λ (l : List ℕ). IsCommandText l (thing_blocks (codes "RST-MID") (middle_name m) (decimal n))) (sym (thing_text (codes "RST-MID::") (middle_name m) (decimal n)))
        (thing_grammar (codes "RST-MID") (middle_name m) (decimal n) (two_words (codes "RST") (codes "MID") (word _ (omega arith) refl) (word _ (omega arith) refl) refl) (plain_middle d m limits low) plain_tag);
    means = put_means m low;
  }

pub commands_ask : CommandsAskForChanges
commands_ask d n c limits apt labelled least most = asks d n limits least most c apt labelled
