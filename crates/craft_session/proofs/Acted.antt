-- What was asked was done: the entries of it.
use Rattle.std.proofs.Common.{◌≡◌, ℕ, length, List, [], ◌∷◌, ◌++◌, append-nil, append_assoc, Some, Result, Ok, Err, inl, inr, refl, sym, ◌∙◌, ap, ap₂, subst}
use base.Stored.{Gv}
use Rattle.dxc_outside.specs.declared.stopped.Stopped.{Stopped}
use Rattle.dxc_outside.specs.Stops.{the_stop}
use Rattle.dxc_model.specs.declared.cause.Cause.{Cause}
use Rattle.dxc_model.specs.declared.cause.Cause.TheVariants.{DiskFault, NoMiddle, SwitchLimit, JournalAstray}
use Rattle.dxc_model.specs.declared.conn.Conn.{Conn}
use Rattle.dxc_model.specs.declared.op.Op.{Op}
use Rattle.dxc_model.specs.declared.op.Op.TheVariants.{Look, Restart, Rows}
use Rattle.dxc_model.specs.declared.op.Selection.{Selection}
use Rattle.dxc_model.specs.declared.entry.Outcome.{Outcome}
use Rattle.dxc_model.specs.declared.entry.Outcome.TheVariants.{Done, Failed, Restarted, Answered}
use Rattle.dxc_model.specs.declared.entry.Entry.{Entry}
use Rattle.dxc_model.specs.Histories.{changes_of}
use Rattle.tl1_command.specs.declared.command.Subject.{Subject}
use Rattle.xc_core.specs.declared.turns.Inventory.{Inventory}
use Rattle.xc_core.specs.States.{Opening}
use Rattle.xc_core.specs.Seeing.{Saw, entry, refused}
use Rattle.xc_core.specs.Turns.{InventoryIs, MarkIs, RowsAre, equipped_in}
use Rattle.craft_session.specs.declared.ask.Ask.{Ask}
use Rattle.craft_session.specs.declared.ask.Ask.TheVariants.{Allows, Lists, Shows, Restarts, Changes}
use Rattle.craft_session.specs.declared.attending.Attending.{Attending}
use Rattle.craft_session.specs.declared.change.Changed.{Changed}
use Rattle.craft_session.specs.declared.change.Changed.TheVariants as changed
use Rattle.craft_session.specs.Acting.{Acts, Stops}
use Rattle.craft_session.specs.Asks.{Reply, completed, completed_rows, cursor_from, denied, restarted, shown}
use Rattle.craft_session.specs.Changing.{ChangedIs, MendedTo, Passed, WarmRestartIs}
use Rattle.craft_session.specs.Walks.{ChangeReply, IsChangeAt, Mends, RestartReply, Serves, attending_after}
use Rattle.craft_session.proofs.Changing.{others_unused}

-- the reply to a denied operation, however it is entered
refused_reply : (q : Cause) → ChangeReply (refused q) (denied q)
refused_reply NoMiddle = refl
refused_reply SwitchLimit = refl
refused_reply DiskFault = refl
refused_reply JournalAstray = refl
refused_reply _ = refl

module _ (o : Opening) (place : ℕ) (h : List Entry) (s : Attending) where
  -- nothing was entered
  pub acts_nothing : (a : Ask) (r : Reply) (z : Attending) (seen : List Gv) → Saw o seen h → Serves place o.first.fold.table (h ++ []) a [] r → z ≡ attending_after s (length (changes_of (h ++ []))) a → Acts o place h s a r z seen
  acts_nothing a r z seen saw serves attending = record {
    passed = [];
    unused = tt;
    entries = [];
    serves = serves;
    attending = attending;
    saw = subst (λ (l : List Entry). Saw o seen l) (sym (append-nil h) ∙ sym (append-nil (h ++ []))) saw;
  }

  pub acts_listed : (which : Selection) (seen : List Gv) (given : List Conn) → RowsAre o place h which seen given → Acts o place h s (Lists which) (completed_rows given) s seen
  acts_listed which seen given x = record {
    passed = x.0.later;
    unused = others_unused place x.0.later x.0.others;
    entries = entry place (Rows which) Answered ∷ [];
    serves = (refl, ap completed_rows x.1);
    attending = refl;
    saw = x.0.saw;
  }

  pub acts_marked : (n : ℕ) (seen : List Gv) → MarkIs o place h seen n → Acts o place h s Allows completed (record { user = s.user; watch = Some (cursor_from s.watch n) }) seen
  acts_marked n seen x = record {
    passed = x.0.later;
    unused = others_unused place x.0.later x.0.others;
    entries = entry place (Look n) Answered ∷ [];
    serves = (ap (λ (k : ℕ). entry place (Look k) Answered ∷ []) x.1, refl);
    attending = ap (λ (k : ℕ). record { user = s.user; watch = Some (cursor_from s.watch k) }) x.1;
    saw = x.0.saw;
  }

  pub acts_shown : (what : Subject) (given : Inventory) (seen : List Gv) → InventoryIs o place h seen given → Acts o place h s (Shows what) (shown what (equipped_in given) given.out) s seen
  acts_shown what given seen (newest, marked, tells) = record {
    passed = marked.0.later;
    unused = others_unused place marked.0.later marked.0.others;
    entries = entry place (Look newest) Answered ∷ [];
    serves = (ap (λ (k : ℕ). entry place (Look k) Answered ∷ []) marked.1, ap₂ (shown what) tells.0 tells.1);
    attending = refl;
    saw = marked.0.saw;
  }

  module _ (op : Op) (seen : List Gv) (how : Result Changed Stopped) (x : ChangedIs o place h op seen how) where
    -- the operation stands after what was mended
    changes_by : (out : Outcome) (r : Reply) (m : MendedTo o place h (entry place op out) seen) → IsChangeAt (h ++ m.front) out → ChangeReply out r → Acts o place h s (Changes op) r s seen
    changes_by out r m fits reply =
        let all : h ++ [] ≡ h = append-nil h in
        record {
          passed = [];
          unused = tt;
          entries = m.front ++ entry place op out ∷ [];
          serves = record {
            front = m.front;
            mends = subst (λ (l : List Entry). Mends place l m.front) (sym all) m.mends;
            outcome = out;
            all = refl;
            fits = subst (λ (l : List Entry). IsChangeAt (l ++ m.front) out) (sym all) fits;
            reply = reply;
          };
          attending = refl;
          saw = subst (λ (l : List Entry). Saw o seen l) (append_assoc h m.front (entry place op out ∷ []) ∙ ap (λ (l : List Entry). l ++ (m.front ++ entry place op out ∷ [])) (sym all)) m.saw;
        }

    pub acts_done : how ≡ Ok changed.Done → Acts o place h s (Changes op) completed s seen
    acts_done is = let y = subst (λ (z : Result Changed Stopped). ChangedIs o place h op seen z) is x in changes_by (Done y.0) completed y.1 y.2 refl

    pub acts_refused : (q : Cause) → how ≡ Ok (changed.Denied q) → Acts o place h s (Changes op) (denied q) s seen
    acts_refused q is = let y = subst (λ (z : Result Changed Stopped). ChangedIs o place h op seen z) is x in changes_by (refused q) (denied q) y.0 y.1 (refused_reply q)

    pub acts_stopped : how ≡ Err the_stop → Stops o place h s (Changes op) s seen
    acts_stopped is = elim (subst (λ (z : Result Changed Stopped). ChangedIs o place h op seen z) is x) [
      | inl cut ↦ record { front = cut.0.front; stands = cut.0.mends; op = op; cuts = inl (refl, cut.1); attending = refl; saw = cut.0.saw }
      | inr restart ↦ record { front = restart.0.front; stands = restart.0.mends; op = Restart; cuts = inr (refl, restart.1); attending = refl; saw = restart.0.saw }
    ]

  module _ (seen : List Gv) (how : Result Changed Stopped) (x : WarmRestartIs o place h seen how) where
    restarts_by : (out : Outcome) (r : Reply) → Passed o place h (entry place Restart out) seen → RestartReply out r → Acts o place h s Restarts r s seen
    restarts_by out r p reply = record { passed = p.passed; unused = p.unused; entries = entry place Restart out ∷ []; serves = (out, refl, reply); attending = refl; saw = p.saw }

    pub acts_restarted : how ≡ Ok changed.Done → Acts o place h s Restarts restarted s seen
    acts_restarted is = let y = subst (λ (z : Result Changed Stopped). WarmRestartIs o place h seen z) is x in restarts_by (Restarted y.0) restarted y.1 refl

    pub acts_unrestarted : (q : Cause) → how ≡ Ok (changed.Denied q) → Acts o place h s Restarts (denied q) s seen
    acts_unrestarted q is = let y = subst (λ (z : Result Changed Stopped). WarmRestartIs o place h seen z) is x in restarts_by (Failed q) (denied q) y refl

    pub acts_cut : how ≡ Err the_stop → Stops o place h s Restarts s seen
    acts_cut is = let y = subst (λ (z : Result Changed Stopped). WarmRestartIs o place h seen z) is x in record { front = y.passed; stands = y.unused; op = Restart; cuts = refl; attending = refl; saw = y.saw }
