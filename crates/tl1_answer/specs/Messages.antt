-- The bytes of messages.
use Rattle.std.specs.Prelude.{ℕ, ◌/◌, ◌+◌, ◌%◌, List, [], ◌∷◌, ◌++◌, Option, Some, None, codes, decimal}
use Rattle.dxc_outside.specs.declared.clock.Moment.{Moment}
use Rattle.tl1_answer.specs.declared.answer.Code.{Code}
use Rattle.tl1_answer.specs.declared.answer.Code.TheVariants.{Compld, Deny}

-- a number below 100 in two digits
abbrev pub two : ℕ → List ℕ
two n = (48 + n / 10) ∷ (48 + n % 10) ∷ []

-- CR LF LF, three blanks, the SID, date and time, CR LF
abbrev pub header : List ℕ → Moment → List ℕ
header sid m = codes "\r\n\n   " ++ sid ++ codes " "
    ++ two m.year ++ codes "-" ++ two m.month ++ codes "-" ++ two m.day ++ codes " "
    ++ two m.hour ++ codes ":" ++ two m.minute ++ codes ":" ++ two m.second ++ codes "\r\n"

-- a blank, date and time, CR LF: what a header has after the SID
abbrev pub stamp_text : Moment → List ℕ
stamp_text m = codes " "
    ++ two m.year ++ codes "-" ++ two m.month ++ codes "-" ++ two m.day ++ codes " "
    ++ two m.hour ++ codes ":" ++ two m.minute ++ codes ":" ++ two m.second ++ codes "\r\n"

abbrev pub code_text : Code → List ℕ
code_text Compld = codes "COMPLD"
code_text Deny = codes "DENY"

-- the CTAG that is printed, 0 where there is none
abbrev pub or_zero : Option (List ℕ) → List ℕ
or_zero (Some tag) = tag
or_zero None = codes "0"

-- header and M line of a response
abbrev pub head : List ℕ → Moment → Option (List ℕ) → Code → List ℕ
head sid m tag code = header sid m ++ codes "M  " ++ or_zero tag ++ codes " " ++ code_text code ++ codes "\r\n"

-- header and A line of a report
abbrev pub report_head : List ℕ → Moment → ℕ → List ℕ
report_head sid m atag = header sid m ++ codes "A  " ++ decimal atag ++ codes " REPT DBCHG\r\n"

-- and then a text line
abbrev pub with_line : List ℕ → List ℕ → List ℕ
with_line front text = front ++ codes "   " ++ text ++ codes "\r\n"

-- a report
abbrev pub report : List ℕ → Moment → ℕ → List ℕ → List ℕ
report sid m atag text = with_line (report_head sid m atag) text ++ codes ";"
