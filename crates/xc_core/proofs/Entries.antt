-- A history that is one entry longer.
use Rattle.std.specs.Prelude.{nat_lt, nat_le, min, if◌then◌else◌, option_to_list}
use Rattle.std.proofs.Common.{◌≡◌, ◌≢◌, ℕ, ◌+◌, ◌≤◌, ◌<◌, ◌^◌, arith, Bool, true, false, cond, List, [], ◌∷◌, ◌++◌, append-nil, append_assoc, Option, Some, None, refl, sym, ◌∙◌, ap, subst, inl, inr}
use Rattle.std.proofs.lemmas.Bool.Decides.{eqb_tells}
use Rattle.dxc_causes.specs.Causes.{Rose, last}
use Rattle.dxc_disk.specs.Disks.{CountsOn, DiskState, IsSpent, Spends}
use Rattle.dxc_model.specs.declared.op.Op.{Op}
use Rattle.dxc_model.specs.declared.op.Change.{Change}
use Rattle.dxc_model.specs.declared.cause.Cause.{Cause}
use Rattle.dxc_model.specs.declared.cause.Cause.TheVariants.{JournalAstray, NoMiddle, SwitchLimit}
use Rattle.dxc_model.specs.declared.entry.Outcome.{Outcome}
use Rattle.dxc_model.specs.declared.entry.Outcome.TheVariants.{Done, Denied, Failed, Answered, Restarted, Cut, Taken}
use Rattle.dxc_model.specs.declared.entry.Entry.{Entry}
use Rattle.dxc_model.specs.Steps.{IsLimit, made}
use Rattle.dxc_model.specs.Histories.{Lasts, KeepsTurns, OnlyReads, WaitsFor, IsCut, IsDoubtful, IsRestarted, IsSettling, changes_of, holder, holder_after, taker}
use Rattle.dxc_model.proofs.Growth.{changes_append}
use Rattle.dxc_model.proofs.Lists.{each_more}
use Rattle.dxc_model.proofs.Lasting.{lasts_before, lasts_more, lasts_now}
use Rattle.roll_plan.specs.Works.{ops_writes, switches_in}
use Rattle.turnstile.specs.Turning.{Each}
use Rattle.xc_core.specs.Reckonings.{Past, limit_by}
use Rattle.xc_core.specs.Begins.{IsOverLimit}
use Rattle.xc_core.specs.declared.provisioner.Provisioner.{Provisioner}
use Rattle.xc_core.specs.Provisioners.{StillDoubts}
use Rattle.xc_core.specs.States.{DoubtsUnsettled, Opening, IsNeverAstray, IsPaid, SpendsOf, IsUnsettled, cost, fault_in, faults_in, room_in}
use Rattle.xc_core.specs.Seeing.{entry}

-- nothing but a change makes the list of changes longer
pub changes_same : (h : List Entry) (e : Entry) → made e.outcome ≡ None → changes_of (h ++ e ∷ []) ≡ changes_of h
changes_same h e none = changes_append h (e ∷ []) ∙ ap (λ (o : Option Change). changes_of h ++ (option_to_list o ++ [])) none ∙ append-nil (changes_of h)

pub changes_one : (h : List Entry) (e : Entry) (c : Change) → made e.outcome ≡ Some c → changes_of (h ++ e ∷ []) ≡ changes_of h ++ c ∷ []
changes_one h e c one = changes_append h (e ∷ []) ∙ ap (λ (o : Option Change). changes_of h ++ (option_to_list o ++ [])) one

-- a limit is that of the switch numbers, or of the middles
limit_pick : (q : Cause) (b d : Bool) → Some q ≡ (if b then Some SwitchLimit else if d then Some SwitchLimit else None) → IsLimit q
limit_pick q true d is = inr cc
limit_pick q false true is = inr cc
limit_pick q false false is = absurd cc

limit_is : (q : Cause) (s n : ℕ) → Some q ≡ limit_by s n → IsLimit q
limit_is q s n is = limit_pick q (nat_lt (2 ^ 48) s) (nat_le (2 ^ 48) n) is

pub over_limit : (b : Past) (op : Op) (q : Cause) → IsOverLimit b op q → IsLimit q
over_limit b op q over = elim over.2 [ inl has ↦ limit_is q (b.fold.switches + switches_in (ops_writes has.ops)) b.changes has.limit | inr none ↦ inl (let e : Some q ≡ Some NoMiddle = none.1 in cc) ]

-- one entry more
pub faults_more : (h : List Entry) (e : Entry) → faults_in (h ++ e ∷ []) ≡ faults_in h + fault_in e.outcome
faults_more [] e = omega arith
faults_more (x ∷ xs) e = let more = faults_more xs e in omega (arith, more)

-- the disk counted no fault of an operation, or one
pub same_faults : (first before now : ℕ) (h : List Entry) (e : Entry) → fault_in e.outcome ≡ 0 → min (first + faults_in h) last ≤ before → before ≤ now → min (first + faults_in (h ++ e ∷ [])) last ≤ now
same_faults first before now h e none was later = let more = faults_more h e in omega (arith, more, none, was, later)

pub one_fault : (first before now : ℕ) (h : List Entry) (e : Entry) → fault_in e.outcome ≡ 1 → min (first + faults_in h) last ≤ before → Rose before now → min (first + faults_in (h ++ e ∷ [])) last ≤ now
one_fault first before now h e one was rose = let more = faults_more h e in omega (arith, more, one, was, rose)

pub limit_no_fault : (q : Cause) → IsLimit q → fault_in (Failed q) ≡ 0
limit_no_fault q l = elim l [ inl is ↦ ap (λ (x : Cause). fault_in (Failed x)) is | inr is ↦ ap (λ (x : Cause). fault_in (Failed x)) is ]

-- what was asked for is unsettled still after an entry that doesn't settle it
pub unsettled_more : (h : List Entry) (e : Entry) (op : Op) → (IsSettling e → ⊥) → IsUnsettled h op → IsUnsettled (h ++ e ∷ []) op
unsettled_more h e op not was = lasts_more (λ x. IsDoubtful x × (x.op ≡ op)) IsSettling h e was not

-- so is what a Provisioner has in doubt, halted or not
pub doubts_more : {D : Type 0} (h : List Entry) (e : Entry) (p : Provisioner D) → (IsSettling e → ⊥) → DoubtsUnsettled h p → DoubtsUnsettled (h ++ e ∷ []) p
doubts_more h e p not was = λ op here.
    let w = was op here in
    (unsettled_more h e op not w.0, λ halted. lasts_more IsCut IsRestarted h e (w.1 halted) (λ r. not (inr r)))

-- where it is ready
pub doubts_ready : {D : Type 0} (h : List Entry) (p : Provisioner D) → p.halted ≡ false → ((op : Op) → p.doubt ≡ Some op → IsUnsettled h op) → DoubtsUnsettled h p
doubts_ready h p ready was = λ op here. (was op here, λ halted. absurd (let e : false ≡ true = sym ready ∙ halted in cc))

-- and after a stop
pub doubts_cut : {D : Type 0} (h : List Entry) (e : Entry) (p : Provisioner D) → IsCut e → ((op : Op) → p.doubt ≡ Some op → IsUnsettled (h ++ e ∷ []) op) → DoubtsUnsettled (h ++ e ∷ []) p
doubts_cut h e p cut was = λ op here. (was op here, λ halted. lasts_now IsCut IsRestarted h e cut)

-- what calls left in doubt was so before, and wasn't halted since
pub doubts_left : {D : Type 0} (h : List Entry) (q p : Provisioner D) → StillDoubts q p → DoubtsUnsettled h q → DoubtsUnsettled h p
doubts_left h q p still was = λ op here.
    let s = still op here in
    let w = was op s.0 in
    (w.0, λ halted. w.1 (s.1 halted))

pub denied_settles_not : (own : ℕ) (op : Op) (q : Cause) → IsSettling (entry own op (Denied q)) → ⊥
denied_settles_not own op q s = elim s [ inl x ↦ (let y : Denied q ≡ Done x.0 = x.1 in cc) | inr x ↦ (let y = x.1 in cc) ]

pub failed_settles_not : (own : ℕ) (op : Op) (q : Cause) → IsSettling (entry own op (Failed q)) → ⊥
failed_settles_not own op q s = elim s [ inl x ↦ (let y : Failed q ≡ Done x.0 = x.1 in cc) | inr x ↦ (let y = x.1 in cc) ]

pub cut_settles_not : (own : ℕ) (op : Op) → IsSettling (entry own op Cut) → ⊥
cut_settles_not own op s = elim s [ inl x ↦ (let y : Cut ≡ Done x.0 = x.1 in cc) | inr x ↦ (let y = x.1 in cc) ]

pub taken_settles_not : (own : ℕ) (op : Op) → IsSettling (entry own op Taken) → ⊥
taken_settles_not own op s = elim s [ inl x ↦ (let y : Taken ≡ Done x.0 = x.1 in cc) | inr x ↦ (let y = x.1 in cc) ]

pub room_more : (h : List Entry) (e : Entry) → room_in (h ++ e ∷ []) ≡ room_in h + cost e.outcome
room_more [] e = omega arith
room_more (x ∷ xs) e = let more = room_more xs e in omega (arith, more)

-- an entry that calls nothing
pub paid_same : (o : Opening) (h : List Entry) (e : Entry) → fault_in e.outcome ≡ 0 → IsPaid o h → IsPaid o (h ++ e ∷ [])
paid_same o h e none was enough =
    let room = room_more h e in
    let faults = faults_more h e in
    let few = was (omega (arith, enough, room)) in
    omega (arith, few, faults, none)

-- what the disk at home has counted
pub paid_counted : (o : Opening) (h : List Entry) (s : DiskState) → CountsOn s → min (o.faults + faults_in h) last ≤ s.faults → SpendsOf o (room_in h) s → IsPaid o h
paid_counted o h s on counted spends enough =
    let left = spends (omega (arith, enough)) in
    let some : 0 < s.room = omega (arith, enough, left.room) in
    let below = on some in
    let margin = left.margin in
    omega (arith, counted, below, margin)

pub spends_one : (o : Opening) (n m : ℕ) (s t : DiskState) → SpendsOf o n s → Spends m s t → SpendsOf o (n + m) t
spends_one o n m s t was spent enough =
    let first = was (omega (arith, enough)) in
    let next : IsSpent m s t = spent (omega (arith, enough, first.room)) in
    record { room = omega (arith, first.room, next.room); margin = omega (arith, first.margin, next.margin) }

pub spends_at : (o : Opening) (n m : ℕ) (s : DiskState) → n ≡ m → SpendsOf o n s → SpendsOf o m s
spends_at o n m s same was = subst (λ (k : ℕ). SpendsOf o k s) same was

-- what is enough is so where more was taken
pub spends_within : (o : Opening) (n m : ℕ) (s : DiskState) → n ≤ m → SpendsOf o n s → SpendsOf o m s
spends_within o n m s more was enough =
    let left = was (omega (arith, enough, more)) in
    record { room = omega (arith, left.room, more); margin = left.margin }

-- what only reads makes no change, meets no fault, and takes nothing out
pub reading_makes : (out : Outcome) → OnlyReads out → made out ≡ None
reading_makes out reads = elim reads [ inl is ↦ ap made is | inr denied ↦ ap made denied.1 ]

pub reading_meets : (out : Outcome) → OnlyReads out → fault_in out ≡ 0
reading_meets out reads = elim reads [ inl is ↦ ap fault_in is | inr denied ↦ ap fault_in denied.1 ]

reading_takes : (out : Outcome) (e : Entry) → OnlyReads out → taker out e ≡ None
reading_takes out e reads = elim reads [ inl is ↦ ap (λ (x : Outcome). taker x e) is | inr denied ↦ ap (λ (x : Outcome). taker x e) denied.1 ]

-- a place that hasn't the Provisioner may read
pub waits_reading : (own : ℕ) (op : Op) (out : Outcome) (o : Option Entry) → OnlyReads out → ((t : Entry) → o ≡ Some t → t.place ≢ own) → WaitsFor o (entry own op out)
waits_reading own op out None reads rests = tt
waits_reading own op out (Some t) reads rests = inl ((λ same. rests t refl (sym same)), reads)

-- and who has it has it still
pub held_still : (own : ℕ) (op : Op) (out : Outcome) (o : Option Entry) → OnlyReads out → ((t : Entry) → o ≡ Some t → t.place ≢ own) → holder_after o (entry own op out) ≡ o
held_still own op out None reads rests = reading_takes out (entry own op out) reads
held_still own op out (Some t) reads rests = elim (eqb_tells own t.place) [ inl same ↦ absurd (rests t refl (sym same.1)) | inr other ↦ ap (λ b. cond b None (Some t)) other.0 ]

-- its place brings it home
pub brought : (own : ℕ) (op : Op) (e : Entry) → e.place ≡ own → holder_after (Some (entry own op Taken)) e ≡ None
brought own op e is = elim (eqb_tells e.place own) [ inl same ↦ ap (λ b. cond b None (Some (entry own op Taken))) same.0 | inr other ↦ absurd (other.1 is) ]

pub not_brought : (own : ℕ) (op : Op) (e : Entry) → e.place ≢ own → holder_after (Some (entry own op Taken)) e ≡ Some (entry own op Taken)
not_brought own op e not = elim (eqb_tells e.place own) [ inl same ↦ absurd (not same.1) | inr other ↦ ap (λ b. cond b None (Some (entry own op Taken))) other.0 ]

-- turns after a history
pub turns_behind : (o : Option Entry) (h g : List Entry) → KeepsTurns o (h ++ g) → KeepsTurns (holder o h) g
turns_behind o [] g k = k
turns_behind o (e ∷ es) g k = turns_behind (holder_after o e) es g k.1

-- histories joined
pub holder_append : (o : Option Entry) (h g : List Entry) → holder o (h ++ g) ≡ holder (holder o h) g
holder_append o [] g = refl
holder_append o (e ∷ es) g = holder_append (holder_after o e) es g

faults_append : (h g : List Entry) → faults_in (h ++ g) ≡ faults_in h + faults_in g
faults_append [] g = omega arith
faults_append (e ∷ es) g = let more = faults_append es g in omega (arith, more)

room_append : (h g : List Entry) → room_in (h ++ g) ≡ room_in h + room_in g
room_append [] g = omega arith
room_append (e ∷ es) g = let more = room_append es g in omega (arith, more)

-- entries that only read
abbrev pub AreReads : List Entry → Type 0
AreReads later = Each (λ e. OnlyReads e.outcome) later

reads_none : (later : List Entry) → AreReads later → (changes_of later ≡ []) × (faults_in later ≡ 0)
reads_none [] reads = (refl, refl)
reads_none (e ∷ es) reads =
    let rest = reads_none es reads.1 in
    let fault = reading_meets e.outcome reads.0 in
    let faults = rest.1 in
    (ap (λ (o : Option Change). option_to_list o ++ changes_of es) (reading_makes e.outcome reads.0) ∙ rest.0, omega (arith, fault, faults))

pub reads_changes : (h later : List Entry) → AreReads later → changes_of (h ++ later) ≡ changes_of h
reads_changes h later reads = changes_append h later ∙ ap (λ (cs : List Change). changes_of h ++ cs) (reads_none later reads).0 ∙ append-nil (changes_of h)

pub reads_faults : (h later : List Entry) → AreReads later → faults_in (h ++ later) ≡ faults_in h
reads_faults h later reads = let whole = faults_append h later in let none = (reads_none later reads).1 in omega (arith, whole, none)

pub reads_room : (h later : List Entry) → room_in h ≤ room_in (h ++ later)
reads_room h later = let whole = room_append h later in omega (arith, whole)

-- what lasts, lasts on while others read, and nothing begins to last
pub lasts_reading : (P Q : Entry → Type 0) → ((e : Entry) → OnlyReads e.outcome → ¬ Q e) → (h later : List Entry) → AreReads later → Lasts P Q h → Lasts P Q (h ++ later)
lasts_reading P Q not h [] reads l = subst (λ (g : List Entry). Lasts P Q g) (sym (append-nil h)) l
lasts_reading P Q not h (e ∷ es) reads l = subst (λ (g : List Entry). Lasts P Q g) (append_assoc h (e ∷ []) es) (lasts_reading P Q not (h ++ e ∷ []) es reads.1 (lasts_more P Q h e l (not e reads.0)))

pub lasted_reading : (P Q : Entry → Type 0) → ((e : Entry) → OnlyReads e.outcome → ¬ P e) → (h later : List Entry) → AreReads later → Lasts P Q (h ++ later) → Lasts P Q h
lasted_reading P Q not h [] reads l = subst (λ (g : List Entry). Lasts P Q g) (append-nil h) l
lasted_reading P Q not h (e ∷ es) reads l = lasts_before P Q h e (lasted_reading P Q not (h ++ e ∷ []) es reads.1 (subst (λ (g : List Entry). Lasts P Q g) (sym (append_assoc h (e ∷ []) es)) l)) (not e reads.0)

pub reading_not_cut : (e : Entry) → OnlyReads e.outcome → ¬ IsCut e
reading_not_cut e reads cut = elim reads [ inl is ↦ (let y : Answered ≡ Cut = sym is ∙ cut in cc) | inr denied ↦ (let y : Denied denied.0 ≡ Cut = sym denied.1 ∙ cut in cc) ]

pub reading_not_restarted : (e : Entry) → OnlyReads e.outcome → ¬ IsRestarted e
reading_not_restarted e reads x = elim reads [ inl is ↦ (let y : Answered ≡ Restarted x.0 = sym is ∙ x.1 in cc) | inr denied ↦ (let y : Denied denied.0 ≡ Restarted x.0 = sym denied.1 ∙ x.1 in cc) ]

reading_not_done : (e : Entry) (c : Change) → OnlyReads e.outcome → e.outcome ≡ Done c → ⊥
reading_not_done e c reads done = elim reads [ inl is ↦ (let y : Answered ≡ Done c = sym is ∙ done in cc) | inr denied ↦ (let y : Denied denied.0 ≡ Done c = sym denied.1 ∙ done in cc) ]

pub reading_not_settling : (e : Entry) → OnlyReads e.outcome → ¬ IsSettling e
reading_not_settling e reads s = elim s [ inl x ↦ reading_not_done e x.0 reads x.1 | inr x ↦ reading_not_restarted e reads x ]

pub reading_not_astray : (e : Entry) → OnlyReads e.outcome → e.outcome ≢ Failed JournalAstray
reading_not_astray e reads x = elim reads [ inl is ↦ (let y : Answered ≡ Failed JournalAstray = sym is ∙ x in cc) | inr denied ↦ (let y : Denied denied.0 ≡ Failed JournalAstray = sym denied.1 ∙ x in cc) ]

-- while a place has the Provisioner others only read
pub others_read : (own : ℕ) (op : Op) (later : List Entry) → Each (λ e. e.place ≢ own) later → KeepsTurns (Some (entry own op Taken)) later → AreReads later × (holder (Some (entry own op Taken)) later ≡ Some (entry own op Taken))
others_read own op [] others turns = (tt, refl)
others_read own op (e ∷ es) others turns =
    let reads : OnlyReads e.outcome = elim turns.0 [ inl x ↦ x.1 | inr x ↦ absurd (others.0 x.0) ] in
    let still = not_brought own op e others.0 in
    let rest = others_read own op es others.1 (subst (λ (x : Option Entry). KeepsTurns x es) still turns.1) in
    ((reads, rest.0), ap (λ (x : Option Entry). holder x es) still ∙ rest.1)

-- none is astray
pub limit_not_astray : (q : Cause) → IsLimit q → Failed q ≢ Failed JournalAstray
limit_not_astray q l x = elim l [ inl is ↦ (let y : Failed NoMiddle ≡ Failed JournalAstray = ap Failed (sym is) ∙ x in cc) | inr is ↦ (let y : Failed SwitchLimit ≡ Failed JournalAstray = ap Failed (sym is) ∙ x in cc) ]

pub astray_more : (told : Type 0) (h : List Entry) (e : Entry) → (told → IsNeverAstray h) → (told → e.outcome ≢ Failed JournalAstray) → told → IsNeverAstray (h ++ e ∷ [])
astray_more told h e never not t = each_more (λ x. x.outcome ≢ Failed JournalAstray) h e (never t) (not t)
