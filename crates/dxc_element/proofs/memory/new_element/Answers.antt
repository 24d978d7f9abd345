use Rattle.std.proofs.Common.{◌∙◌, subst, inl, refl}
use Rattle.dxc_disk.specs.MemView.{mem_state}
use Rattle.shelf_file.specs.Contents.{Contents}
use Rattle.dxc_element.specs.Openings.{AreUsersStarted}
use Rattle.dxc_element.proofs.Loading.{users_not_loaded}
use Rattle.dxc_element.proofs.memory.new_element.Goals as goal

pub returns-in_default-clause-started : goal.returns-in_default-clause-started
returns-in_default-clause-started g c = inl refl

pub returns-in-Ok-start_users_on-clause-started : goal.returns-in-Ok-start_users_on-clause-started
returns-in-Ok-start_users_on-clause-started g c =
    let st = c.in_ok-controller.ensures.started in
    record {
      disk = st.0;
      fresh = st.1;
      started = st.2;
      users_disk = c.in-Ok.users_disk;
      users_fresh = c.in-Ok.ensures;
      users_started = subst (λ (s : Contents). AreUsersStarted (Unit {0}) mem_state c.in-Ok.users_disk s c.in-Ok-start_users_on.users) (c.deref.ensures ∙ st.2.shelf) c.in-Ok-start_users_on.ensures;
    }

pub returns-in-Err-clause-started : goal.returns-in-Err-clause-started
returns-in-Err-clause-started g c = inl (c.users_not_started.ensures ∙ users_not_loaded c.in-Ok.users_disk c.deref.result.now c.in-Ok.ensures c.in-Err.fault c.in-Err.ensures)
