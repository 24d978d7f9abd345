-- What a state of an opening comes to.
use Rattle.std.proofs.Common.{◌≡◌, ◌≢◌, ◌<◌, ◌++◌, ℕ, true, false, List, length, inl, inr, sym, ◌∙◌, ap, subst, append_assoc}
use Rattle.std.proofs.lemmas.List.{map-append}
use base.Stored.{Gv}
use Rattle.turnstile.specs.Turning.{Each, Found}
use Rattle.turnstile.proofs.Lists.{each_after, map_once}
use Rattle.dxc_disk.specs.Disks.{DiskState}
use Rattle.dxc_model.specs.declared.entry.Entry.{Entry}
use Rattle.dxc_model.specs.declared.op.Selection.TheVariants.{All}
use Rattle.dxc_model.specs.Tables.{Board, rows}
use Rattle.xc_core.specs.declared.state.Home.{Home}
use Rattle.xc_core.specs.declared.state.Home.TheVariants.{In}
use Rattle.xc_core.specs.declared.state.State.{State}
use Rattle.xc_core.specs.Provisioners.{Boxed}
use Rattle.xc_core.specs.Seeing.{Saw, codes, entry_coded, place_of}
use Rattle.xc_core.specs.States.{HomeIs, Opening, Stands, StandsFor, began, opening_of}
use Rattle.xc_core.proofs.Standing.{table_is}
use Rattle.dxc_element.specs.declared.stock.Stock.{Stock}
use Rattle.dxc_element.specs.Stocks.{IsAway, IsCounted, IsHeldUp, IsLeft, IsStock, IsStockAfter, among}

module _ {D : Type 0} (told : Type 0) (state : D → DiskState) where
  -- a state that was found stands for a history after the opening
  pub found_stands : (o : Opening) (x : State D) (h : List Entry) → opening_of state x ≡ o → Stands told state x h → StandsFor told state o x (began o.due ++ h)
  found_stands o x h is st = subst (λ (p : Opening). StandsFor told state p x (began p.due ++ h)) is st

  -- what a state comes to that stands for a history
  stock_after : (o : Opening) (x : State D) (h : List Entry) (s : Stock) → StandsFor told state o x h → IsStock x s → IsStockAfter o h s
  stock_after o x h s st is = record {
    legal = st.legal;
    connections = is.connections ∙ ap (λ (t : Board). length (rows t All)) (table_is told state o x h st);
    now = st.now;
    reckoned = st.reckoned;
    switches = elim (subst (λ (y : Home D). HomeIs told state o st.now h y) is.is_home st.home).1.stage [ inl home ↦ is.switches ∙ home.0.switches | inr halted ↦ (let no : true ≡ false = sym halted.0.halted ∙ is.ready in cc) ];
  }

  -- what its journal's disk counted
  counted_after : (o : Opening) (x : State D) (h : List Entry) (driver : Boxed D) (disk : D) → StandsFor told state o x h → x.home ≡ In driver → disk ≡ driver.value.p.journal.0 → IsCounted o h (state disk)
  counted_after o x h driver disk st home is =
      let found = subst (λ (y : Home D). HomeIs told state o st.now h y) home st.home in
      subst (λ (d : D). IsCounted o h (state d)) (sym is) found.1.faults

  -- what a turn of a place finds that has seen a history, and the disk that it takes out
  pub left_at : (o : Opening) (own by places : ℕ) (h : List Entry) (seen in_turn : List Gv) (x : State D) (s : Stock) (driver : Boxed D) (disk : D) → by ≡ own → Found entry_coded.code (opening_of state) place_of (Stands told state) by places o seen x in_turn → Saw o seen h → IsStock x s → x.home ≡ In driver → disk ≡ driver.value.p.journal.0
      → IsLeft state own places o h (s, disk)
  left_at o own by places h seen in_turn x s driver disk is f saw stock home taken =
      let d = began o.due in
      let same : d ++ f.begun ≡ h = map_once entry_coded.code entry_coded.inj (d ++ f.begun) h (map-append entry_coded.code d f.begun ∙ ap (λ (l : List Gv). codes d ++ l) (sym f.before) ∙ saw.codes_are) in
      let whole : d ++ (f.begun ++ f.later) ≡ h ++ f.later = sym (append_assoc d f.begun f.later) ∙ ap (λ (l : List Entry). l ++ f.later) same in
      record {
        later = f.later;
        others = subst (λ (n : ℕ). Each (λ e. e.place ≢ n) f.later) is f.others;
        numbers = each_after (λ (e : Entry). e.place < places) f.begun f.later f.numbers;
        after = subst (λ (l : List Entry). IsStockAfter o l s) whole (stock_after o x (d ++ (f.begun ++ f.later)) s (found_stands o x (f.begun ++ f.later) f.opening_is f.stands_for) stock);
        counted = subst (λ (l : List Entry). IsCounted o l (state disk)) whole (counted_after o x (d ++ (f.begun ++ f.later)) driver disk (found_stands o x (f.begun ++ f.later) f.opening_is f.stands_for) home taken);
      }

  -- the same where its Provisioner is away
  pub held_up_at : (o : Opening) (own by places : ℕ) (h : List Entry) (seen in_turn : List Gv) (x : State D) → by ≡ own → Found entry_coded.code (opening_of state) place_of (Stands told state) by places o seen x in_turn → Saw o seen h → IsAway x → IsHeldUp told state (among own places) o h
  held_up_at o own by places h seen in_turn x is f saw away =
      let d = began o.due in
      let same : d ++ f.begun ≡ h = map_once entry_coded.code entry_coded.inj (d ++ f.begun) h (map-append entry_coded.code d f.begun ∙ ap (λ (l : List Gv). codes d ++ l) (sym f.before) ∙ saw.codes_are) in
      let whole : d ++ (f.begun ++ f.later) ≡ h ++ f.later = sym (append_assoc d f.begun f.later) ∙ ap (λ (l : List Entry). l ++ f.later) same in
      record {
        later = f.later;
        others = subst (λ (n : ℕ). Each (λ e. e.place ≢ n) f.later) is f.others;
        numbers = each_after (λ (e : Entry). e.place < places) f.begun f.later f.numbers;
        found = x;
        stands_for = subst (λ (l : List Entry). StandsFor told state o x l) whole (found_stands o x (f.begun ++ f.later) f.opening_is f.stands_for);
        away = away;
      }
