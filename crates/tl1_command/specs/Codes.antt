-- Command codes and the forms of the commands.
use Rattle.std.specs.Prelude.{ℕ, Bool, List, if◌then◌else◌, Option, Some, None, map, codes}
use Rattle.std.specs.Char.{to_ascii_lowercase}
use Rattle.std.specs.Str.{bytes_eq}
use Rattle.dxc_model.specs.declared.user.CommandCode.{CommandCode}
use Rattle.dxc_model.specs.declared.user.CommandCode.TheVariants.{ActUser, CancUser, RtrvHdr, AlwMsgAll, InhMsgAll, RtrvCrsT0, EntCrsT0, EdCrsT0, DltCrsT0, EntEqpt, DltEqpt, RmvMid, RstMid, RtrvMid, InitSys, RtrvSys}
use Rattle.tl1_command.specs.declared.form.Need.{Need}
use Rattle.tl1_command.specs.declared.form.Need.TheVariants.{Never, Optional, Required}
use Rattle.tl1_command.specs.declared.form.Form.{Form}

-- two texts are the same but for ASCII case
abbrev pub is_same_text : List ℕ → List ℕ → Bool
is_same_text a b = bytes_eq (map to_ascii_lowercase a) (map to_ascii_lowercase b)

-- the code that a text names, case aside
unfoldable pub code_named : List ℕ → Option CommandCode
code_named text =
    if is_same_text text (codes "ACT-USER") then Some ActUser
    else if is_same_text text (codes "CANC-USER") then Some CancUser
    else if is_same_text text (codes "RTRV-HDR") then Some RtrvHdr
    else if is_same_text text (codes "ALW-MSG-ALL") then Some AlwMsgAll
    else if is_same_text text (codes "INH-MSG-ALL") then Some InhMsgAll
    else if is_same_text text (codes "RTRV-CRS-T0") then Some RtrvCrsT0
    else if is_same_text text (codes "ENT-CRS-T0") then Some EntCrsT0
    else if is_same_text text (codes "ED-CRS-T0") then Some EdCrsT0
    else if is_same_text text (codes "DLT-CRS-T0") then Some DltCrsT0
    else if is_same_text text (codes "ENT-EQPT") then Some EntEqpt
    else if is_same_text text (codes "DLT-EQPT") then Some DltEqpt
    else if is_same_text text (codes "RMV-MID") then Some RmvMid
    else if is_same_text text (codes "RST-MID") then Some RstMid
    else if is_same_text text (codes "RTRV-MID") then Some RtrvMid
    else if is_same_text text (codes "INIT-SYS") then Some InitSys
    else if is_same_text text (codes "RTRV-SYS") then Some RtrvSys
    else None

abbrev pub form : ℕ → Need → Need → Need → Form
form aids aid value label = record { aids = aids; aid = aid; value = value; label = label }

-- how many AIDs a command names, whether these and the first parameter of the first payload block have to be there, and
-- whether the second one is a label
abbrev pub form_of : CommandCode → Form
form_of ActUser = form 1 Required Required Never
form_of CancUser = form 1 Optional Never Never
form_of RtrvHdr = form 0 Never Never Never
form_of AlwMsgAll = form 1 Optional Never Never
form_of InhMsgAll = form 1 Optional Never Never
form_of RtrvCrsT0 = form 1 Optional Never Never
form_of EntCrsT0 = form 2 Required Optional Optional
form_of EdCrsT0 = form 2 Required Required Optional
form_of DltCrsT0 = form 2 Required Optional Never
form_of EntEqpt = form 1 Required Never Never
form_of DltEqpt = form 1 Required Never Never
form_of RmvMid = form 1 Required Never Never
form_of RstMid = form 1 Required Never Never
form_of RtrvMid = form 0 Never Never Never
form_of InitSys = form 0 Never Never Never
form_of RtrvSys = form 0 Never Never Never
