-- A header is its front, the SID, and the moment's text.
use Rattle.std.proofs.Common.{◌≡◌, ℕ, List, [], ◌∷◌, ◌++◌, codes, sym, ◌∙◌, ap, append_assoc, append-nil}
use Rattle.dxc_outside.specs.declared.clock.Moment.{Moment}
use Rattle.tl1_answer.specs.declared.answer.Code.{Code}
use Rattle.tl1_answer.specs.Messages.{two, header, stamp_text, code_text}

-- texts appended one by one
abbrev pub behind : List ℕ → List (List ℕ) → List ℕ
behind front [] = front
behind front (t ∷ ts) = behind (front ++ t) ts

pub behind_front : (front : List ℕ) (ts : List (List ℕ)) → behind front ts ≡ front ++ behind [] ts
behind_front front [] = sym (append-nil front)
behind_front front (t ∷ ts) = behind_front (front ++ t) ts ∙ append_assoc front t (behind [] ts) ∙ ap (λ (l : List ℕ). front ++ l) (sym (behind_front t ts))

pub header_is : (sid : List ℕ) (m : Moment) → (codes "\r\n\n   " ++ sid) ++ stamp_text m ≡ header sid m
header_is sid m = sym (behind_front (codes "\r\n\n   " ++ sid) (codes " " ∷ two m.year ∷ codes "-" ∷ two m.month ∷ codes "-" ∷ two m.day ∷ codes " " ∷ two m.hour ∷ codes ":" ∷ two m.minute ∷ codes ":" ∷ two m.second ∷ codes "\r\n" ∷ []))

pub completion_is : (front : List ℕ) (code : Code) → front ++ (codes " " ++ code_text code ++ codes "\r\n") ≡ front ++ codes " " ++ code_text code ++ codes "\r\n"
completion_is front code = sym (behind_front front (codes " " ∷ code_text code ∷ codes "\r\n" ∷ []))
