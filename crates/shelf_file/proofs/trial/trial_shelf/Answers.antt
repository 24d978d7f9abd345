use Rattle.std.proofs.Common.{◌<◌, ◌^◌, ℕ, List, [], ◌∷◌, ◌++◌, ap, ◌∙◌, subst}
use Rattle.shelf_file.specs.declared.user.User.{User}
use Rattle.shelf_file.specs.Contents.{UserEntry}
use Rattle.shelf_file.specs.Users.{entries_of}
use Rattle.shelf_file.proofs.TrialShelves.{trial_kept}
use Rattle.shelf_file.proofs.trial.trial_shelf.Goals as goal

pub invariant_of-result : goal.invariant_of-result
invariant_of-result c =
    let user = c.trial_user.result in
    let kept = c.in_ok-push.ensures.items ∙ ap (λ (us : List User). us ++ user ∷ []) c.new-users.ensures.items in
    trial_kept _ _ _ _ _ (ap entries_of kept ∙ ap (λ (e : UserEntry). e ∷ []) c.trial_user.ensures) (subst (λ (n : ℕ). c.all_marks.result < 2 ^ n) c.modules.ensures.value c.all_marks.ensures.below)
