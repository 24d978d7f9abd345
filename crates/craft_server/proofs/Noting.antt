-- One accept more, and what is noted of it.
use Rattle.std.proofs.Common.{◌≡◌, ◌∙◌, List, [], ◌∷◌, ◌++◌, ap, append_assoc, refl, sym}
use Rattle.dxc_notes.specs.declared.note.Note.TheVariants as note
use Rattle.craft_session.specs.Seats.{PlaceAt}
use Rattle.craft_server.specs.declared.links.LinksEnd.TheVariants as links
use Rattle.craft_server.specs.Callers.{one_more, none_yet}
use Rattle.craft_server.specs.Notings.{LentTo, Means, NotedAll, NotedCaller, NotedSoFar, ending_of, lent_to, standing_in}

module _ {L K C G N : Type 0} (m : Means L K C G N) where
  abbrev pub coming : L → List K
  coming listener = (m.hall.listener.state listener).coming

  -- nobody came yet
  pub nothing_noted : (s : LentTo L C G N) → NotedSoFar m s s
  nothing_noted s = record {
    all = record { callers = []; came = λ t. refl; served = none_yet (standing_in m s) };
    noted = m.notes.unnoted s.notes;
  }

  -- nobody came of an accept
  pub nothing_more : (s : LentTo L C G N) (place : PlaceAt) (listener later : L) (clock : C) (gate : G) (notes : N) → NotedSoFar m s (lent_to place listener clock gate notes) → (m.hall.listener.told → coming listener ≡ coming later) → NotedSoFar m s (lent_to place later clock gate notes)
  nothing_more s place listener later clock gate notes past same = record {
    all = record {
      callers = past.all.callers;
      came = λ t. past.all.came t ∙ ap (λ (l : List K). past.all.callers ++ l) (same t);
      served = past.all.served;
    };
    noted = past.noted;
  }

  -- a caller came, and was served
  pub gone_more : (s t u : LentTo L C G N) (between : N) (caller : K) → NotedSoFar m s t → (m.hall.listener.told → coming t.listener ≡ caller ∷ coming u.listener) → (one : NotedCaller m (standing_in m t) (standing_in m u) caller)
      → m.notes.noted t.notes between one.notes → m.notes.noted between u.notes (note.Gone (ending_of one.served.end) ∷ []) → NotedSoFar m s u
  gone_more s t u between caller past first one noted gone = record {
    all = record {
      callers = past.all.callers ++ caller ∷ [];
      came = λ t. past.all.came t ∙ ap (λ (l : List K). past.all.callers ++ l) (first t) ∙ sym (append_assoc past.all.callers (caller ∷ []) (coming u.listener));
      served = one_more (standing_in m s) (standing_in m t) (standing_in m u) past.all.callers caller past.all.served one;
    };
    noted = m.notes.noted_on s.notes between u.notes _ _ (m.notes.noted_on s.notes t.notes between _ _ past.noted noted) gone;
  }

  -- the listener said End
  pub ended : (s t : LentTo L C G N) → NotedSoFar m s t → NotedAll m s t links.End
  ended s t past = record { all = past.all; noted = past.noted }

  -- too many accepts in a row failed, which was noted
  pub closed : (s : LentTo L C G N) (place : PlaceAt) (listener : L) (clock : C) (gate : G) (notes later : N) → NotedSoFar m s (lent_to place listener clock gate notes) → m.notes.noted notes later (note.Closed ∷ []) → NotedAll m s (lent_to place listener clock gate later) links.Failed
  closed s place listener clock gate notes later past noted = record {
    all = record { callers = past.all.callers; came = past.all.came; served = past.all.served };
    noted = m.notes.noted_on s.notes notes later _ _ past.noted noted;
  }
