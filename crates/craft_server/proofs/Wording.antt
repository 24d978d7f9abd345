-- No mode ends with the status of words that are no line.
use Rattle.std.proofs.Common.{◌≡◌, ℕ, List, Option, Some, None, refl, sym, ◌∙◌}
use Rattle.std.specs.Prelude.{IsSome}
use Rattle.dxc_outside.specs.Threads.{SpawnerState}
use Rattle.craft_session.specs.declared.end.SessionEnd.{SessionEnd}
use Rattle.craft_session.specs.declared.end.SessionEnd.TheVariants as session
use Rattle.dxc_args.specs.declared.status.Status.{Status}
use Rattle.dxc_args.specs.declared.status.Status.TheVariants.{BadWords}
use Rattle.craft_server.specs.Serving.{IsServing}
use Rattle.craft_server.specs.Statuses.{status_of}

-- none of serving or of a session
pub serving_words : (jobs faults later : ℕ) (old new : SpawnerState) (status : Status) → IsServing jobs faults later old new status → status ≡ BadWords → ⊥
serving_words jobs faults later old new status is bad =
    let e = is.only (λ done. let no = sym done ∙ bad in cc) (λ none. let no = sym none ∙ bad in cc) (λ closed. let no = sym closed ∙ bad in cc) in
    let no = sym e ∙ bad in cc

pub end_words : (end : SessionEnd) → status_of end ≡ BadWords → ⊥
end_words session.End is = cc
end_words session.ReadFault is = cc
end_words session.WriteFault is = cc
end_words session.Stopped is = cc
end_words session.Spent is = cc
end_words session.Unattended is = cc
end_words session.Idle is = cc
end_words session.Cancelled is = cc

-- serving, without a peer and with one
pub serve_words : {P : Type 0} (peer : Option (List ℕ)) → (peer ≡ None → P) → (IsSome peer → P) → P
serve_words None alone with_peer = alone refl
serve_words (Some name) alone with_peer = with_peer refl
