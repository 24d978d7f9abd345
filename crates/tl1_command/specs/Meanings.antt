-- What a unit asks for, or the first cause that holds: the causes stand in their order.
use Rattle.std.specs.Prelude.{◌≡◌, ◌⊎◌, ℕ, Bool, true, false, not, ◌&&◌, ◌||◌, ◌==◌, ◌+◌, if◌then◌else◌, List, drop, Option, Some, None, Result, Ok, Err, codes}
use Rattle.std.specs.List.{list_any}
use Rattle.dxc_num.specs.Dimensions.{Dimensions, same_port}
use Rattle.dxc_num.specs.declared.port.Port.{Port}
use Rattle.dxc_num.specs.declared.port.Middle.{Middle}
use Rattle.dxc_model.specs.declared.cause.Cause.{Cause}
use Rattle.dxc_model.specs.declared.cause.Cause.TheVariants.{UnknownCommand, BadCtag, OtherTarget, NotLoggedIn, NotEntitled, Missing, TooMany, GeneralBlock, BadValue, BadAid, SamePort}
use Rattle.dxc_model.specs.declared.conn.Cct.{Cct}
use Rattle.dxc_model.specs.declared.conn.Cct.TheVariants.{OneWay, TwoWay}
use Rattle.dxc_model.specs.declared.op.Op.{Op}
use Rattle.dxc_model.specs.declared.op.Op.TheVariants as op
use Rattle.dxc_model.specs.declared.op.Selection.{Selection}
use Rattle.dxc_model.specs.declared.op.Selection.TheVariants.{All}
use Rattle.dxc_model.specs.declared.user.SessionUser.{SessionUser}
use Rattle.dxc_model.specs.declared.user.SessionUser.TheVariants.{Nobody, User}
use Rattle.dxc_model.specs.declared.user.CommandCode.{CommandCode}
use Rattle.dxc_model.specs.declared.user.CommandCode.TheVariants.{ActUser, CancUser, RtrvHdr, AlwMsgAll, InhMsgAll, RtrvCrsT0, EntCrsT0, EdCrsT0, DltCrsT0, EntEqpt, DltEqpt, RmvMid, RstMid, RtrvMid, InitSys, RtrvSys}
use Rattle.dxc_model.specs.Entitled.{entitled}
use Rattle.dxc_model.specs.Labels.{as_label}
use Rattle.dxc_aid.specs.Names.{port_named, module_named, middle_named, selection_named}
use Rattle.tl1_text.specs.Grammar.{Block}
use Rattle.tl1_text.specs.Tags.{is_ctag}
use Rattle.tl1_command.specs.declared.command.Subject.{Subject}
use Rattle.tl1_command.specs.declared.command.Subject.TheVariants as subject
use Rattle.tl1_command.specs.declared.form.Need.{Need}
use Rattle.tl1_command.specs.declared.form.Need.TheVariants.{Never, Optional, Required}
use Rattle.tl1_command.specs.declared.form.Form.{Form}
use Rattle.tl1_command.specs.Codes.{is_same_text, code_named, form_of}
use Rattle.tl1_command.specs.Blocks.{block, code_text, target_text, tag_text, aid, first_value, second_value, is_empty, is_there, has_value_from}

-- what is asked for, with its texts
pub data Asked : Type 0 where
  acts : (uid pid : List ℕ) → Asked
  cancels : (uid : List ℕ) → Asked
  header : Asked
  allows : Asked
  inhibits : Asked
  shows : Subject → Asked
  asks_table : Op → Asked

infixl 10 ◌>>=◌
abbrev pub ◌>>=◌ : {A B : Type 0} → Result A Cause → (A → Result B Cause) → Result B Cause
(Ok x) >>= f = f x
(Err e) >>= f = Err e

abbrev pub or_cause : {A : Type 0} → Option A → Cause → Result A Cause
or_cause (Some x) q = Ok x
or_cause None q = Err q

-- the TID is neither empty nor the SID
abbrev pub is_other_target : List ℕ → List ℕ → Bool
is_other_target sid tid = is_there tid && not (is_same_text tid sid)

-- ACT-USER alone needs no log-in
abbrev pub needs_user : CommandCode → Bool
needs_user ActUser = false
needs_user CancUser = true
needs_user RtrvHdr = true
needs_user AlwMsgAll = true
needs_user InhMsgAll = true
needs_user RtrvCrsT0 = true
needs_user EntCrsT0 = true
needs_user EdCrsT0 = true
needs_user DltCrsT0 = true
needs_user EntEqpt = true
needs_user DltEqpt = true
needs_user RmvMid = true
needs_user RstMid = true
needs_user RtrvMid = true
needs_user InitSys = true
needs_user RtrvSys = true

-- nobody is logged in, and the command needs it
abbrev pub is_not_logged_in : SessionUser → CommandCode → Bool
is_not_logged_in Nobody c = needs_user c
is_not_logged_in (User uid class) c = false

-- somebody is logged in whose class isn't in the command's column
abbrev pub is_not_entitled : SessionUser → CommandCode → Bool
is_not_entitled Nobody c = false
is_not_entitled (User uid class) c = not (entitled class c)

abbrev pub is_required : Need → Bool
is_required Never = false
is_required Optional = false
is_required Required = true

-- the parameters that a command may name: two AIDs, and of the first payload block a value and a label
pub record Named : Type 0 where
  pub first : List ℕ
  pub second : List ℕ
  pub value : List ℕ
  pub label : List ℕ

abbrev pub named_in : List Block → Named
named_in bs = record { first = aid 0 bs; second = aid 1 bs; value = first_value bs; label = second_value bs }

-- a parameter that isn't optional is empty
abbrev pub is_missing : Form → Named → Bool
is_missing f n = (is_required f.aid && (is_empty n.first || ((f.aids == 2) && is_empty n.second))) || (is_required f.value && is_empty n.value)

-- how many parameters that are
abbrev pub params_named : Need → ℕ
params_named Never = 0
params_named Optional = 1
params_named Required = 1

-- how many parameters of the first payload block are named
abbrev pub values_named : Form → ℕ
values_named f = params_named f.value + params_named f.label

-- a parameter of the AID block or of a payload block that isn't named isn't empty
abbrev pub has_too_many : Form → List Block → Bool
has_too_many f bs = has_value_from f.aids (block 2 bs) || (has_value_from (values_named f) (block 5 bs) || list_any (has_value_from 0) (drop 6 bs))

-- a parameter of the general block isn't empty
abbrev pub has_general : List Block → Bool
has_general bs = has_value_from 0 (block 4 bs)

-- the CCT that a value names, none where it is empty
abbrev pub cct_named : List ℕ → Result (Option Cct) Cause
cct_named v =
    if is_empty v then Ok None
    else if is_same_text v (codes "1WAY") then Ok (Some OneWay)
    else if is_same_text v (codes "2WAY") then Ok (Some TwoWay)
    else Err BadValue

-- one way where none is named
abbrev pub or_one_way : Option Cct → Cct
or_one_way None = OneWay
or_one_way (Some c) = c

-- the label that a value is
abbrev pub label_named : List ℕ → Result (List ℕ) Cause
label_named v = or_cause (as_label v) BadValue

-- two ports
pub record Ends : Type 0 where
  pub from : Port
  pub to : Port

-- both texts name ports, and two different ones
abbrev pub ends_named : Dimensions → List ℕ → List ℕ → Result Ends Cause
ends_named d from_text to_text = do
  from ← or_cause (port_named d from_text) BadAid
  to ← or_cause (port_named d to_text) BadAid
  if same_port from to then Err SamePort else Ok (record { from = from; to = to })

-- ALL, or nothing
abbrev pub names_all : List ℕ → Bool
names_all v = is_empty v || is_same_text v (codes "ALL")

-- an AID of all reports
abbrev pub all_named : List ℕ → Asked → Result Asked Cause
all_named v a = if names_all v then Ok a else Err BadAid

-- a selection, all where it is empty
abbrev pub selection_or_all : Dimensions → List ℕ → Result Selection Cause
selection_or_all d v = if is_empty v then Ok All else or_cause (selection_named d v) BadAid

-- an entry, a deletion, an edit of a connection
abbrev pub enters : Ends → Option Cct → List ℕ → Op
enters e cct label = op.Enter (record { from = e.from; to = e.to; cct = or_one_way cct; label = label })

abbrev pub deletes : Ends → Option Cct → List ℕ → Op
deletes e cct label = op.Delete e.from e.to cct

abbrev pub edits : Ends → Option Cct → List ℕ → Op
edits e cct label = op.Edit (record { from = e.from; to = e.to; cct = or_one_way cct; label = label })

-- a CCT and a label, where they are such, and two ports
abbrev pub asked_of_ends : Dimensions → Named → (Ends → Option Cct → List ℕ → Op) → Result Asked Cause
asked_of_ends d n makes = do
  cct ← cct_named n.value
  label ← label_named n.label
  ends ← ends_named d n.first n.second
  Ok (asks_table (makes ends cct label))

-- a module
abbrev pub asked_of_module : Dimensions → List ℕ → (ℕ → Op) → Result Asked Cause
asked_of_module d text makes = do
  m ← or_cause (module_named d text) BadAid
  Ok (asks_table (makes m))

-- a middle
abbrev pub asked_of_middle : Dimensions → List ℕ → (Middle → Op) → Result Asked Cause
asked_of_middle d text makes = do
  m ← or_cause (middle_named d text) BadAid
  Ok (asks_table (makes m))

abbrev pub asked_of_rows : Dimensions → List ℕ → Result Asked Cause
asked_of_rows d text = do
  which ← selection_or_all d text
  Ok (asks_table (op.Rows which))

-- what a command with its parameters asks for
abbrev pub asked : Dimensions → CommandCode → Named → Result Asked Cause
asked d ActUser n = Ok (acts n.first n.value)
asked d CancUser n = Ok (cancels n.first)
asked d RtrvHdr n = Ok header
asked d AlwMsgAll n = all_named n.first allows
asked d InhMsgAll n = all_named n.first inhibits
asked d RtrvCrsT0 n = asked_of_rows d n.first
asked d EntCrsT0 n = asked_of_ends d n enters
asked d EdCrsT0 n = asked_of_ends d n edits
asked d DltCrsT0 n = asked_of_ends d n deletes
asked d EntEqpt n = asked_of_module d n.first op.EnterModule
asked d DltEqpt n = asked_of_module d n.first op.DeleteModule
asked d RmvMid n = asked_of_middle d n.first op.TakeOut
asked d RstMid n = asked_of_middle d n.first op.PutBack
asked d RtrvMid n = Ok (shows subject.Middle)
asked d InitSys n = Ok (asks_table op.Restart)
asked d RtrvSys n = Ok (shows subject.System)

-- the command is one on a connection
abbrev pub IsOfConnection : CommandCode → Type 0
IsOfConnection c = (c ≡ EntCrsT0) ⊎ ((c ≡ EdCrsT0) ⊎ (c ≡ DltCrsT0))

-- a cause that code, user and the parts of the unit show, before the parameters are read
abbrev pub first_refusal : List ℕ → SessionUser → CommandCode → List Block → Option Cause
first_refusal sid user code bs =
    if not (is_ctag (tag_text bs)) then Some BadCtag
    else if is_other_target sid (target_text bs) then Some OtherTarget
    else if is_not_logged_in user code then Some NotLoggedIn
    else if is_not_entitled user code then Some NotEntitled
    else if is_missing (form_of code) (named_in bs) then Some Missing
    else if has_too_many (form_of code) bs then Some TooMany
    else if has_general bs then Some GeneralBlock
    else None

abbrev pub unless : {A : Type 0} → Option Cause → Result A Cause → Result A Cause
unless (Some q) r = Err q
unless None r = r

-- what a unit of these blocks asks for, or the first cause that holds
unfoldable pub meaning : Dimensions → List ℕ → SessionUser → List Block → Result Asked Cause
meaning d sid user bs = do
  code ← or_cause (code_named (code_text bs)) UnknownCommand
  unless (first_refusal sid user code bs) (asked d code (named_in bs))
