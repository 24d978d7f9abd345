-- Rows and denials after what a block holds already.
use Rattle.std.proofs.Common.{◌≡◌, ℕ, List, [], ◌∷◌, ◌++◌, codes, refl, sym, ◌∙◌, ap, append_assoc, append-nil}
use Rattle.dxc_num.specs.Dimensions.{Dimensions}
use Rattle.dxc_model.specs.declared.conn.Conn.{Conn}
use Rattle.dxc_model.specs.declared.cause.Cause.{Cause}
use Rattle.dxc_model.specs.Causes.{row_of}
use Rattle.dxc_aid.specs.Names.{port_name}
use Rattle.tl1_answer.specs.Messages.{with_line}
use Rattle.tl1_answer.specs.Responses.{denial, with_lines}
use Rattle.tl1_answer.specs.Texts.{cct_text, with_label, with_conn, row_text}
use Rattle.tl1_answer.proofs.Headers.{behind, behind_front}

label_behind : (front text label : List ℕ) → with_label (front ++ text) label ≡ front ++ with_label text label
label_behind front text [] = refl
label_behind front text (b ∷ bs) = ap (λ (l : List ℕ). l ++ b ∷ bs) (append_assoc front text (codes ":")) ∙ append_assoc front (text ++ codes ":") (b ∷ bs)

texts_behind : (front text : List ℕ) (ts : List (List ℕ)) → behind (front ++ text) ts ≡ front ++ behind text ts
texts_behind front text ts = behind_front (front ++ text) ts ∙ append_assoc front text (behind [] ts) ∙ ap (λ (l : List ℕ). front ++ l) (sym (behind_front text ts))

conn_behind : (front text : List ℕ) (d : Dimensions) (c : Conn) → with_conn (front ++ text) d c ≡ front ++ with_conn text d c
conn_behind front text d c =
    let names = port_name d c.from ∷ codes "," ∷ port_name d c.to ∷ codes ":" ∷ cct_text c.cct ∷ [] in
    ap (λ (l : List ℕ). with_label l c.label) (texts_behind front text names) ∙ label_behind front (behind text names) c.label

pub conn_alone : (front : List ℕ) (d : Dimensions) (c : Conn) → front ++ with_conn [] d c ≡ with_conn front d c
conn_alone front d c = sym (conn_behind front [] d c) ∙ ap (λ (l : List ℕ). with_conn l d c) (append-nil front)

pub row_line : (front : List ℕ) (d : Dimensions) (c : Conn) → with_conn (front ++ codes "   \"") d c ++ codes "\"\r\n" ≡ with_line front (row_text d c)
row_line front d c =
    let blanks : List ℕ = front ++ codes "   " in
    let row = with_conn (codes "\"") d c in
    ap (λ (l : List ℕ). with_conn l d c ++ codes "\"\r\n") (sym (append_assoc front (codes "   ") (codes "\"")))
    ∙ ap (λ (l : List ℕ). l ++ codes "\"\r\n") (conn_behind blanks (codes "\"") d c)
    ∙ sym (append_assoc (blanks ++ row) (codes "\"") (codes "\r\n"))
    ∙ ap (λ (l : List ℕ). l ++ codes "\r\n") (append_assoc blanks row (codes "\""))

pub denial_lines : (front : List ℕ) (q : Cause) → front ++ with_lines [] (denial q) ≡ with_lines front (denial q)
denial_lines front q =
    let comment = codes "/* " ++ (row_of q).text ++ codes " */" in
    sym (behind_front front (codes "   " ∷ (row_of q).code ∷ codes "\r\n" ∷ codes "   " ∷ comment ∷ codes "\r\n" ∷ []))
