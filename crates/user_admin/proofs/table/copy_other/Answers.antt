use Rattle.std.proofs.Common.{◌≡◌, ◌∙◌, ◌++◌, ℕ, Bool, not, cond, List, [], ◌∷◌, length, ap, sym, arith}
use Rattle.std.proofs.lemmas.List.{length-append}
use Rattle.arrayvec.specs.ArrayVec.{ArrayVec}
use Rattle.indexmap.specs.IndexMap.{insert_entry}
use Rattle.indexmap.proofs.CallerLemmas.{insert_entry-new}
use Rattle.user_admin.specs.declared.op.User.{User}
use Rattle.user_admin.specs.Places.{keyed, named_by, same_key}
use Rattle.user_admin.proofs.Keyed.{on_is_ok}
use Rattle.user_admin.proofs.table.copy_other.Goals as goal
use Rattle.user_admin.proofs.table.copy_other.Goals.{After-unwrap}

added : (c : After-unwrap) → c.insert.new.self.entries ≡ c.args.map.now.entries ++ (named_by c.args.user.now.uid, c.args.user.now) ∷ []
added c =
    let es = c.args.map.now.entries in
    let e : c.insert.new.self.entries ≡ insert_entry same_key es c.key_of.result c.copy_as.result = on_is_ok c.insert.result (c.insert.ensures.succeeds c.requires.room) c.insert.ensures.entries in
    e ∙ (ap (λ (k : ArrayVec ℕ). insert_entry same_key es k c.copy_as.result) c.key_of.ensures
    ∙ (ap (λ (u : User). insert_entry same_key es (named_by c.args.user.now.uid) u) c.copy_as.ensures
    ∙ insert_entry-new same_key c.args.map.now (named_by c.args.user.now.uid) c.args.user.now c.requires.absent))

pub returns-clause-entries : goal.returns-clause-entries
returns-clause-entries c = added c ∙ ap (λ (b : Bool). c.args.map.now.entries ++ keyed (cond (not b) (c.args.user.now ∷ []) [])) (sym (sym c.is_named.ensures ∙ c.if-is_named.false))

pub returns-clause-room : goal.returns-clause-room
returns-clause-room c =
    let size = ap (λ (es : List (ArrayVec ℕ × User)). length es) (added c) in
    let joined = length-append c.args.map.now.entries ((named_by c.args.user.now.uid, c.args.user.now) ∷ []) in
    let spare = c.insert.ensures.spare in
    omega arith
