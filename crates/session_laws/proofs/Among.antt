-- What others do between two steps of a session.
use Rattle.std.proofs.Common.{◌≡◌, ℕ, List, [], ◌∷◌, ◌++◌, sym, ◌∙◌, ap, append_assoc, append-nil}
use Rattle.dxc_model.specs.declared.op.Change.{Change}
use Rattle.dxc_model.specs.declared.entry.Entry.{Entry}
use Rattle.dxc_model.specs.Tables.{Board}
use Rattle.dxc_model.specs.Histories.{changes_of, table_after}
use Rattle.dxc_model.proofs.Growth.{changes_append, table_append}
use Rattle.craft_session.specs.declared.attending.Attending.{Attending}
use Rattle.craft_session.specs.Plain.{At, standing}
use Rattle.session_laws.specs.Laws.{among}
use Rattle.craft_session.specs.Walks.{IsUnused}
use Rattle.craft_session.proofs.Changing.{each_append}

module _ (place : ℕ) where
  pub among_stays : (a : At) → among place a a
  among_stays a = ([], tt, λ i. record { table = a.table; changes = sym (append-nil a.changes) i; attending = a.attending })

  pub among_onward : (a b c : At) → among place a b → among place b c → among place a c
  among_onward a b c (es, first, is) (fs, next, also) =
      let table : c.table ≡ table_after a.table (es ++ fs) = ap (λ (x : At). x.table) also ∙ ap (λ (x : At). table_after x.table fs) is ∙ sym (table_append a.table es fs) in
      let changes : c.changes ≡ a.changes ++ changes_of (es ++ fs) = ap (λ (x : At). x.changes) also ∙ ap (λ (x : At). x.changes ++ changes_of fs) is ∙ append_assoc a.changes (changes_of es) (changes_of fs) ∙ ap (λ (cs : List Change). a.changes ++ cs) (sym (changes_append es fs)) in
      let attending : c.attending ≡ a.attending = ap (λ (x : At). x.attending) also ∙ ap (λ (x : At). x.attending) is in
      (es ++ fs, each_append (IsUnused place) es fs first next, λ i. record { table = table i; changes = changes i; attending = attending i })

  pub among_keeps : (a b : At) → among place a b → b.attending ≡ a.attending
  among_keeps a b (es, unused, is) = ap (λ (x : At). x.attending) is

  pub among_passed : (t : Board) (h : List Entry) (e : Entry) (s : Attending) → IsUnused place e → among place (standing t h s) (standing t (h ++ e ∷ []) s)
  among_passed t h e s unused = (e ∷ [], (unused, tt), λ i. record { table = table_append t h (e ∷ []) i; changes = changes_append h (e ∷ []) i; attending = s })
